-- One more field is met, once all methods are: the key of its name, if there is one, is hidden or not, and all others stay.
use mathlib.Core.Path.{◌≡◌, refl, sym, ap, ◌∙◌, subst}
use mathlib.Core.Bool.{Bool, false, ◌||◌}
use mathlib.Core.List.{List, [], ◌∷◌, ◌++◌, append-nil, append_assoc}
use mathlib.Core.Logic.{◌≢◌}
use Prim.Native.Nat.{ℕ}
use Rattle.objects.specs.Lists.{Bytes, any, keep, In}
use Rattle.objects.specs.Table.{bit}
use Rattle.objects.specs.Rows.{Words}
use Rattle.objects.proofs.ListLaws.{cases, clash, or_assoc, or-false}
use Rattle.rules.proofs.MemberLaws.{same_id-true, same_id-eq}
use Rattle.multiples.specs.Records.{Record}
use Rattle.levels.specs.declared.Found.{Found}
use Rattle.first_hits.specs.Names.{identity_at, Listed}
use Rattle.first_hits.specs.declared.FirstHit.{FirstHit}
use Rattle.first_hits.specs.Hits.{hit_at, hit_row, hit_place, hit_hidden, Room, beside, above, hidden_if, named, Settles, Hides, Covered}
use Rattle.first_hits.proofs.HitLaws.{hidden-else, hidden-row, hidden-place, hidden-mark}
use Rattle.first_hits.proofs.SettleLaws.{any-more, keep-more, keep-past, key_one}

module _ (text : Bytes) (rows : Words) (walk : List Record) where
  -- no fields yet
  pub covered_none : {F : List Found} → F ≡ [] → (M : List Found) (l : List ℕ) (hits : List FirstHit) → Settles text rows walk M l hits → Covered text rows walk M F l hits
  covered_none e M l hits s = rw e record {
    all = s.all;
    hides = λ k i. let d = s.decides k i in record {
      others = d.others;
      first = d.first;
      hidden = d.again ∙ ap bit (sym (or-false (any (λ v. beside walk (hit_row hits k) v.row) d.others)));
    };
  }

  -- no names: there is nothing to hide
  pub covered-empty : {l : List ℕ} → l ≡ [] → (M F : List Found) (hits : List FirstHit) → Settles text rows walk M l hits → Covered text rows walk M F l hits
  covered-empty e M F hits s = record { all = s.all; hides = λ k i. absurd (subst (In k) e i) }

  -- ---- one field more

  module _ (M F : List Found) (w : Found) (l : List ℕ) (hits : List FirstHit) (s : Covered text rows walk M F l hits) where
    abbrev new : ℕ
    new = w.member.0

    abbrev Now : ℕ → List FirstHit → Type 0
    Now k after = Hides text rows walk (keep (named text rows k) M) (keep (named text rows k) (F ++ (w ∷ []))) k after

    -- a name that the field has not
    hides-kept : {after : List FirstHit} (k : ℕ) → In k l → named text rows k w ≡ false → hit_at after k ≡ hit_at hits k → Now k after
    hides-kept {after} k i e same =
        let row : hit_row after k ≡ hit_row hits k = ap (λ (h : FirstHit). h.row) same in
        let place : hit_place after k ≡ hit_place hits k = ap (λ (h : FirstHit). h.place) same in
        let mark : hit_hidden after k ≡ hit_hidden hits k = ap (λ (h : FirstHit). h.hidden) same in
        let d = s.hides k i in
        rw (keep-past (named text rows k) F w e) record {
          others = d.others;
          first = rw (row, place) d.first;
          hidden = rw (mark, row) d.hidden;
        }

    -- its name has a key
    module _ (listed : Listed text rows l) (k : ℕ) (here : In k l) (same : identity_at text rows k ≡ identity_at text rows new) (room : Room hits k) where
      abbrev hide : Bool
      hide = above walk w.row (hit_row hits k)

      hides-more : Now k (hidden_if hide k hits)
      hides-more =
          let d = s.hides k here in
          let row = hidden-row hide k hits room in
          let place = hidden-place hide k hits room in
          let fields = keep (named text rows k) F in
          let level : Bool = any (λ v. beside walk (hit_row hits k) v.row) d.others in
          let over : Found → Bool = λ v. above walk v.row (hit_row hits k) in
          rw (keep-more (named text rows k) F w (same_id-eq _ _ (sym same))) record {
            others = d.others;
            first = rw (row, place) d.first;
            hidden = rw row (hidden-mark hide k hits room (level || any over fields) d.hidden
                ∙ ap bit (or_assoc level (any over fields) hide ∙ ap (λ b. level || b) (sym (any-more over fields w))));
          }

      pub covered_more : Covered text rows walk M (F ++ (w ∷ [])) l (hidden_if hide k hits)
      covered_more = record {
        all = s.all;
        hides = λ j i. cases (named text rows j w)
            (λ e. rw (key_one text rows l listed j k i here (sym (same_id-true _ _ e) ∙ sym same)) hides-more)
            (λ e. hides-kept j i e (hidden-else hide k hits j (λ q. clash (same_id-eq _ _ (sym same ∙ ap (identity_at text rows) (sym q))) e)));
      }

    -- it has none
    pub covered-past : ((k : ℕ) → In k l → identity_at text rows k ≢ identity_at text rows new) → Covered text rows walk M (F ++ (w ∷ [])) l hits
    covered-past none = record {
      all = s.all;
      hides = λ k i. hides-kept k i (cases (named text rows k w) (λ e. absurd (none k i (sym (same_id-true _ _ e)))) (λ e. e)) refl;
    }

  -- ---- one after the other

  -- Whatever was met before: with the fields X met too, the hits go from the one to the other.
  abbrev pub Covers : List Found → List ℕ → List FirstHit → List FirstHit → Type 0
  Covers X l hits kept = (M F : List Found) → Covered text rows walk M F l hits → Covered text rows walk M (F ++ X) l kept

  pub covers-none : {X : List Found} → X ≡ [] → (l : List ℕ) (hits : List FirstHit) → Covers X l hits hits
  covers-none e l hits M F s = rw e (subst (λ fields. Covered text rows walk M fields l hits) (sym (append-nil F)) s)

  pub covers-then : {X Y Z : List Found} → Z ≡ X ++ Y → (l : List ℕ) (hits held kept : List FirstHit) → Covers X l hits held → Covers Y l held kept → Covers Z l hits kept
  covers-then {X} {Y} e l hits held kept a b M F s =
      rw e (subst (λ fields. Covered text rows walk M fields l kept) (append_assoc F X Y) (b M (F ++ X) (a M F s)))
