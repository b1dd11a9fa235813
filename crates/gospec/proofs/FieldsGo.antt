-- Two structs are told apart whatever their parts are (`mismatch`) exactly if their fields differ in the count, the embedded marks, the names or the tags
-- (`FieldsDiffer`).
use mathlib.Core.Path.{◌≡◌, refl}
use mathlib.Core.Bool.{true, false, ◌&&◌, beq}
use mathlib.Core.List.{List, [], ◌∷◌}
use mathlib.Core.Logic.{◌↔◌}
use Prim.Native.Nat.{ℕ, zero, suc}
use native.Mathlib.Omega.{arith}
use lib.Dec.{eqb}
use lib.ListN.{length}
use borrow.Author.Tests.{eqb-true, eqb-false}
use Rattle.objects.specs.declared.TypeKey.{TypeKey}
use Rattle.objects.specs.Table.{Table, is_embedded, tag_of, Member, Struct, kind_at}
use Rattle.objects.proofs.ListLaws.{cases, clash, either}
use Rattle.objects.proofs.BoolLaws.{and_no, beq-self, false_of}
use Rattle.objects.proofs.PairLaws.{AllPairs, pairs-long}
use Rattle.text.specs.Bytes.{same_bytes}
use Rattle.text.proofs.ByteLaws.{same_refl}
use Rattle.rules.specs.Members.{same_member}
use Rattle.rules.specs.Identity.{own_number, alike_member, alike, mismatch}
use Rattle.rules.proofs.MemberLaws.{Alike, alike-split}
use Rattle.rules.proofs.StepLaws.{Matched, match-common, common-match}
use Rattle.gospec.specs.Go.{At, at_first, at-later}
use Rattle.gospec.specs.Fields.{FieldsDiffer, counts, embedded-marks, names, tags}
use Rattle.gospec.proofs.Names.{names-differ, same_names}
use Rattle.gospec.proofs.Places.{pairs-at}

module _ (T : Table) where
  -- equally many of which not all are alike: two at one place that are not
  unlike : (fs gs : List Member) → length fs ≡ length gs → alike T fs gs ≡ false → (i : ℕ) × (f : Member) × (g : Member) × At fs i f × At gs i g × (alike_member T f g ≡ false)
  unlike [] [] e h = clash refl h
  unlike [] (g ∷ gs) e h = absurd (omega arith)
  unlike (f ∷ fs) [] e h = absurd (omega arith)
  unlike (f ∷ fs) (g ∷ gs) e h =
      either (and_no (alike_member T f g) (alike T fs gs) h)
      (λ k. (zero, f, g, at_first, at_first, k))
      (λ k. let r = unlike fs gs (omega arith) k in (suc r.0, r.1, r.2, at-later r.3, at-later r.4, r.5))

  -- fields that are not called alike differ
  pub fields-differ : (fs gs : List Member) → length fs ≡ length gs → alike T fs gs ≡ false → FieldsDiffer T fs gs
  fields-differ fs gs e h =
      let r = unlike fs gs e h in
      let f = r.1 in
      let g = r.2 in
      let same_name = same_member T f g in
      let same-mark = beq (is_embedded f.entity) (is_embedded g.entity) in
      either (and_no (same_name && same-mark) (same_bytes (tag_of f.entity) (tag_of g.entity)) r.5)
      (λ z. either (and_no same_name same-mark z)
      (λ w. names f g r.3 r.4 (names-differ T f g w))
      (λ w. embedded-marks f g r.3 r.4 (λ b. clash (rw b (beq-self (is_embedded g.entity))) w)))
      (λ z. tags f g r.3 r.4 (λ b. clash (rw b (same_refl (tag_of g.entity))) z))

  -- fields that differ do not stand side by side alike
  not_alike : (fs gs : List Member) → FieldsDiffer T fs gs → AllPairs (Alike T) fs gs → ⊥
  not_alike fs gs (counts h) a = h (pairs-long (Alike T) fs gs a)
  not_alike fs gs (embedded-marks f g i j h) a = h (pairs-at (Alike T) fs gs _ f g a i j).1
  not_alike fs gs (names f g i j h) a = (same_names T f g).0 (pairs-at (Alike T) fs gs _ f g a i j).0 h
  not_alike fs gs (tags f g i j h) a = h (pairs-at (Alike T) fs gs _ f g a i j).2

  pub structs-told-apart : (x y : TypeKey) (fs gs : List Member) → kind_at T x ≡ Struct fs → kind_at T y ≡ Struct gs → FieldsDiffer T fs gs ↔ (mismatch T (record { left = x; right = y }) ≡ true)
  unfolding own_number
  structs-told-apart x y fs gs p q = (told, differ)
    where
      common : Matched T x (kind_at T x) y (kind_at T y) → AllPairs (Alike T) fs gs
      common m = let a = m.2 in rw (p, q) at a

      told : FieldsDiffer T fs gs → mismatch T (record { left = x; right = y }) ≡ true
      told d = cases (mismatch T (record { left = x; right = y })) (λ e. e) (λ e. absurd (not_alike fs gs d (common (match-common T x y e))))

      match : length fs ≡ length gs → alike T fs gs ≡ true → mismatch T (record { left = x; right = y }) ≡ false
      match e a = common-match T x y (rw (p, q) (refl, e, alike-split T fs gs a))

      differ : mismatch T (record { left = x; right = y }) ≡ true → FieldsDiffer T fs gs
      differ h =
          cases (eqb (length fs) (length gs))
          (λ e. fields-differ fs gs (eqb-true (length fs) (length gs) e) (false_of (alike T fs gs) (λ a. clash h (match (eqb-true (length fs) (length gs) e) a))))
          (λ e. counts (eqb-false (length fs) (length gs) e))
