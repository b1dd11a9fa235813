-- The hits: what a put hit, and one that is hidden, leave of the others.
use mathlib.Core.Path.{◌≡◌, refl, ap, ◌∙◌}
use mathlib.Core.Bool.{Bool, true, false, ◌||◌}
use mathlib.Core.List.{List}
use mathlib.Core.Logic.{◌≢◌}
use Prim.Native.Nat.{ℕ, ◌<◌}
use native.Mathlib.Omega.{arith}
use lib.ListN.{length, set, length-set}
use lib.Seq.{get_or-set_same, get_or-set_other}
use Rattle.objects.specs.Table.{bit}
use Rattle.objects.proofs.ListLaws.{cases, or-false, or-true}
use Rattle.multiples.specs.Records.{Record}
use Rattle.first_hits.specs.declared.FirstHit.{FirstHit}
use Rattle.first_hits.specs.Hits.{empty, hidden, hit_at, hit_row, hit_place, hit_hidden, Room, beside, above, hidden_if, marked_if, covered_if}

module _ (hits : List FirstHit) (k : ℕ) (h : FirstHit) where
  pub put-here : k < length hits → hit_at (set hits k h) k ≡ h
  put-here l = get_or-set_same hits k h empty l

  pub put-else : (j : ℕ) → j ≢ k → hit_at (set hits k h) j ≡ hit_at hits j
  put-else j n = get_or-set_other hits k j h empty n

  pub put-room : (j : ℕ) → Room hits j → Room (set hits k h) j
  put-room j r = record { inside = let l = length-set hits k h in let i = r.inside in omega arith }

-- ---- a name that is hidden, if it is to be

module _ (hide : Bool) (k : ℕ) (hits : List FirstHit) where
  abbrev mark : FirstHit
  mark = hidden (hit_at hits k)

  hidden-yes : hide ≡ true → hidden_if hide k hits ≡ set hits k mark
  unfolding hidden_if
  hidden-yes e = rw e

  hidden-no : hide ≡ false → hidden_if hide k hits ≡ hits
  unfolding hidden_if
  hidden-no e = rw e

  pub hidden-else : (j : ℕ) → j ≢ k → hit_at (hidden_if hide k hits) j ≡ hit_at hits j
  hidden-else j n = cases hide (λ e. rw (hidden-yes e) (put-else hits k mark j n)) (λ e. rw (hidden-no e))

  module _ (r : Room hits k) where
    hidden-here : hide ≡ true → hit_at (hidden_if hide k hits) k ≡ mark
    hidden-here e = rw (hidden-yes e) (put-here hits k mark r.inside)

    pub hidden-room : (j : ℕ) → Room hits j → Room (hidden_if hide k hits) j
    hidden-room j s =
        cases hide (λ e. rw (hidden-yes e) (put-room hits k mark j s)) (λ e. rw (hidden-no e) s)

    -- the row and the place that the hit says stay
    pub hidden-row : hit_row (hidden_if hide k hits) k ≡ hit_row hits k
    hidden-row = cases hide (λ e. ap (λ (h : FirstHit). h.row) (hidden-here e)) (λ e. rw (hidden-no e))

    pub hidden-place : hit_place (hidden_if hide k hits) k ≡ hit_place hits k
    hidden-place = cases hide (λ e. ap (λ (h : FirstHit). h.place) (hidden-here e)) (λ e. rw (hidden-no e))

    -- it is hidden now if it was, or if it is to be
    pub hidden-mark : (b : Bool) → hit_hidden hits k ≡ bit b → hit_hidden (hidden_if hide k hits) k ≡ bit (b || hide)
    hidden-mark b a =
        cases hide
        (λ e. let yes : 1 ≡ bit (b || hide) = rw (e, or-true b) in ap (λ (h : FirstHit). h.hidden) (hidden-here e) ∙ yes)
        (λ e. let same : bit b ≡ bit (b || hide) = rw (e, or-false b) in rw (hidden-no e) (a ∙ same))

-- ---- by a method, by a field

module _ (walk : List Record) (row k : ℕ) (hits : List FirstHit) where
  pub marked-is : marked_if walk row k hits ≡ hidden_if (beside walk (hit_row hits k) row) k hits
  unfolding marked_if
  marked-is = refl

  pub marked-yes : beside walk (hit_row hits k) row ≡ true → marked_if walk row k hits ≡ set hits k (hidden (hit_at hits k))
  marked-yes e = marked-is ∙ hidden-yes _ k hits e

  pub marked-no : beside walk (hit_row hits k) row ≡ false → marked_if walk row k hits ≡ hits
  marked-no e = marked-is ∙ hidden-no _ k hits e

  pub covered-is : covered_if walk row k hits ≡ hidden_if (above walk row (hit_row hits k)) k hits
  unfolding covered_if
  covered-is = refl

  pub covered-yes : above walk row (hit_row hits k) ≡ true → covered_if walk row k hits ≡ set hits k (hidden (hit_at hits k))
  covered-yes e = covered-is ∙ hidden-yes _ k hits e

  pub covered-no : above walk row (hit_row hits k) ≡ false → covered_if walk row k hits ≡ hits
  covered-no e = covered-is ∙ hidden-no _ k hits e
