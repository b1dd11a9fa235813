-- Laws of the slack of labels (specs/Labels.antt), by which rounds end, and of labels that are renewed one by one.
use mathlib.Core.Path.{◌≡◌, sym, ap, ◌∙◌}
use mathlib.Core.Bool.{Bool, true, false, not}
use mathlib.Core.List.{◌++◌}
use mathlib.Core.Logic.{◌⊎◌, inl, inr}
use Prim.Native.Nat.{ℕ, zero, suc, ◌<◌, ◌≤◌}
use native.Mathlib.Omega.{arith}
use native.Mathlib.Decide.{dec_lt}
use lib.Dec.{eqb}
use lib.ListN.{length, get_or, take, drop, get_or-append}
use lib.Seq.{length-take-le, ext_get_or}
use borrow.Author.Tests.{eqb-true, eqb-false, not-true, not-false}
use Rattle.std.specs.Str.{bytes_eq}
use Rattle.std.specs.Cmp.Lexicographic.{same_text, other_text}
use Rattle.std.proofs.lemmas.List.{get_or-take}
use Rattle.objects.specs.Rows.{Words}
use Rattle.objects.proofs.ListLaws.{cases, either}
use Rattle.twins.specs.Labels.{slack, Renewed}

-- larger labels leave no more
pub slack-most : (a b : Words) (n : ℕ) → ((t : ℕ) → t < n → get_or a t 0 ≤ get_or b t 0) → slack b n ≤ slack a n
unfolding slack
slack-most a b zero h = omega arith
slack-most a b (suc n) h = omega (arith, h n (omega arith), slack-most a b n (λ t lt. h t (omega arith)))

-- and leave less, unless they are the same
slack-less : (a b : Words) (n : ℕ) → ((t : ℕ) → t < n → get_or a t 0 ≤ get_or b t 0) → ((t : ℕ) → t < n → get_or b t 0 ≤ t) → (slack b n < slack a n) ⊎ ((t : ℕ) → t < n → get_or a t 0 ≡ get_or b t 0)
unfolding slack
slack-less a b zero h low = inr (λ t lt. absurd (omega arith))
slack-less a b (suc n) h low =
    either (slack-less a b n (λ t lt. h t (omega arith)) (λ t lt. low t (omega arith)))
    (λ less. inl (omega (arith, h n (omega arith))))
    (λ same.
    cases (eqb (get_or a n 0) (get_or b n 0))
    (λ e. inr (λ t lt. elim (dec_lt t n) [ yes l ↦ same t l | no l ↦ let is : t ≡ n = omega arith in rw is (eqb-true _ _ e) ]))
    (λ e.
    let most = slack-most a b n (λ t lt. h t (omega arith)) in
    inl (omega (arith, h n (omega arith), low n (omega arith), eqb-false _ _ e))))

-- ---- labels that are renewed

-- the first n labels become the fresh ones, and whether they were others is told
pub renewed : (before fresh : Words) (n : ℕ) → n ≤ length before → n ≤ length fresh → {now : Words} → now ≡ take n fresh → {changed : Bool} → changed ≡ not (bytes_eq (take n before) (take n fresh))
    → Renewed before fresh (now ++ drop n before) n changed
renewed before fresh n hb hf e r = rw (e, r) (record { taken = taken; stays = stays; moves = moves })
  where
    long : length (take n fresh) ≡ n
    long = length-take-le n fresh hf

    taken : (t : ℕ) → t < n → get_or (take n fresh ++ drop n before) t 0 ≡ get_or fresh t 0
    taken t h = get_or-append (take n fresh) (drop n before) 0 t (omega (arith, long)) ∙ get_or-take n fresh t 0 h

    stays : not (bytes_eq (take n before) (take n fresh)) ≡ false → (t : ℕ) → t < n → get_or fresh t 0 ≡ get_or before t 0
    stays f t h =
        let same : take n before ≡ take n fresh = same_text _ _ (sym (not-false _ f)) in
        sym (get_or-take n fresh t 0 h) ∙ ap (λ (l : Words). get_or l t 0) (sym same) ∙ get_or-take n before t 0 h

    moves : not (bytes_eq (take n before) (take n fresh)) ≡ true → ((t : ℕ) → t < n → get_or before t 0 ≤ get_or fresh t 0) → ((t : ℕ) → t < n → get_or fresh t 0 ≤ t)
        → slack (take n fresh ++ drop n before) n < slack before n
    moves f grows low =
        let after : Words = take n fresh ++ drop n before in
        either (slack-less before after n (λ t h. omega (arith, grows t h, taken t h)) (λ t h. omega (arith, low t h, taken t h)))
        (λ less. less)
        (λ same. absurd (other_text _ _ (sym (not-true _ f))
        (ext_get_or 0 (take n before) (take n fresh) (length-take-le n before hb ∙ sym long)
        (λ t h. let k : t < n = omega (arith, length-take-le n before hb) in get_or-take n before t 0 k ∙ same t k ∙ taken t k ∙ sym (get_or-take n fresh t 0 k)))))
