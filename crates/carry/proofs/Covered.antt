-- WHAT COMES FROM SOUND TABLES BY MAPS IS SOUND, if its counts, numbers and packages are in order.
use mathlib.Core.Path.{◌≡◌, refl, sym, ap, ◌∙◌, subst}
use mathlib.Core.Bool.{true, false}
use mathlib.Core.List.{[], map}
use mathlib.Core.Logic.{◌⊎◌}
use Prim.Native.Nat.{ℕ, ◌≤◌, ◌<◌}
use native.Mathlib.Omega.{arith}
use lib.Dec.{eqb}
use lib.ListN.{length}
use borrow.Author.Tests.{eqb-true}
use Rattle.objects.specs.Bounds.{max_types, max_packages, max_members, max_per_type, max_basic, max_array}
use Rattle.objects.specs.Lists.{Bytes, In, Sorted, flat, up_to}
use Rattle.objects.proofs.ListLaws.{cases}
use Rattle.objects.specs.declared.TypeKey.{TypeKey}
use Rattle.objects.specs.declared.PackageKey.{PackageKey}
use Rattle.objects.specs.Table.{Table, size, member_count, same_type, Member, tag_of, Kind, Basic, Array, Slice, Pointer, Map, Chan, Tuple, Func, Struct}
use Rattle.objects.specs.Table.{Iface, Named, kind_number, refs, members_of, fields_of, declared_of, all_methods_of, by_value, has_package, kind_at, under}
use Rattle.text.specs.Bytes.{is_path, is_name, is_blank, is_tag}
use Rattle.rules.specs.Members.{same_member}
use Rattle.rules.specs.Identity.{real_type, own_number}
use Rattle.rules.specs.Load.{stands}
use Rattle.rules.specs.Chains.{Chain}
use Rattle.rules.specs.Checks.{type_allowed, member_allowed, contents}
use Rattle.rules.specs.Sound.{Sound, Ordered, MemberOf, Apart, Lower}
use Rattle.rules.proofs.Lacks.{at-type, has-member}
use Rattle.carry.specs.Maps.{Maps}
use Rattle.carry.proofs.Covering.{Comes, Line, line_kept, allowed-kept, apart-kept, ascend-kept, both-kept, refers-kept, few-kept}
use Rattle.carry.proofs.Rounds.{no-round}

-- ---- numbers on a T line

basic-is : (k : Kind) → kind_number k ≡ 0 → (n : ℕ) × (k ≡ Basic n)
basic-is (Basic k) h = (k, refl)
basic-is (Array n e) h = absurd (omega arith)
basic-is (Slice e) h = absurd (omega arith)
basic-is (Pointer e) h = absurd (omega arith)
basic-is (Map k e) h = absurd (omega arith)
basic-is (Chan d e) h = absurd (omega arith)
basic-is (Tuple es) h = absurd (omega arith)
basic-is (Func v p r) h = absurd (omega arith)
basic-is (Struct ms) h = absurd (omega arith)
basic-is (Iface ms) h = absurd (omega arith)
basic-is (Named u ms) h = absurd (omega arith)

array-is : (k : Kind) → kind_number k ≡ 1 → (n : ℕ) × (e : TypeKey) × (k ≡ Array n e)
array-is (Basic k) h = absurd (omega arith)
array-is (Array n e) h = (n, e, refl)
array-is (Slice e) h = absurd (omega arith)
array-is (Pointer e) h = absurd (omega arith)
array-is (Map k e) h = absurd (omega arith)
array-is (Chan d e) h = absurd (omega arith)
array-is (Tuple es) h = absurd (omega arith)
array-is (Func v p r) h = absurd (omega arith)
array-is (Struct ms) h = absurd (omega arith)
array-is (Iface ms) h = absurd (omega arith)
array-is (Named u ms) h = absurd (omega arith)

-- "Byte is Uint8, Rune is Int32": both numbers are basics
real-low : (k : ℕ) → (real_type k ≤ max_basic → k ≤ max_basic) × (k ≤ max_basic → real_type k ≤ max_basic)
unfolding real_type
real-low k =
    cases (eqb k 26)
    (λ e. let z = eqb-true k 26 e in rw e (λ h. omega arith, λ h. omega arith))
    (λ e. cases (eqb k 27) (λ d. let z = eqb-true k 27 d in rw (e, d) (λ h. omega arith, λ h. omega arith)) (λ d. rw (e, d) (λ h. h, λ h. h)))

module _ (f : TypeKey → TypeKey) (p : PackageKey → PackageKey) (T U : Table) (sound : Sound T) (g : Maps f p T U) (t : TypeKey) (h : t.0 < size T) where
  basic-kept : (k : ℕ) → kind_at U (f t) ≡ Basic k → k ≤ max_basic
  unfolding own_number
  basic-kept k e =
      let c = g.line t h in
      let r = basic-is (kind_at T t) (sym c.kind ∙ ap kind_number e) in
      let same : real_type k ≡ real_type r.0 = sym (ap (own_number t) e) ∙ c.number ∙ ap (own_number t) r.1 in
      (real-low k).0 (rw same ((real-low r.0).1 (sound.basics t r.0 r.1)))

  array-kept : (n : ℕ) (a : TypeKey) → kind_at U (f t) ≡ Array n a → n ≤ max_array
  unfolding own_number
  array-kept n a e =
      let c = g.line t h in
      let r = array-is (kind_at T t) (sym c.kind ∙ ap kind_number e) in
      let same : n ≡ r.0 = sym (ap (own_number t) e) ∙ c.number ∙ ap (own_number t) r.2 in
      rw same (sound.arrays t r.0 r.1 r.2)

-- ---- the table

-- what no map of tables says: counts, numbers, packages
pub record InOrder (U : Table) : Type 0 where
  pub paths : (path : Bytes) → In path U.packages → is_path path ≡ true
  pub few_packages : length U.packages ≤ max_packages
  pub few_types : size U ≤ max_types
  pub few_members : member_count U ≤ max_members
  pub numbered : map (λ (m : Member). m.key.0) (flat members_of U.types) ≡ up_to (member_count U)
  pub lined : length U.type_lines ≡ size U
  pub ordered : Ordered U
  pub packaged : (u : TypeKey) (m : Member) → MemberOf U u m → has_package U m.pkg ≡ true

module _ (U : Table) (comes : (u : TypeKey) → u.0 < size U → Comes U u) (fine : InOrder U) where
  module _ (u : TypeKey) (c : Comes U u) where
    earlier : (e : TypeKey) → e.0 < c.at.0 → (c.types e).0 < (c.types c.at).0
    earlier e h = rw c.is (c.order e h)

    of-type : (P : TypeKey → Type 0) → P (c.types c.at) → P u
    of-type P = subst P c.is

  member : (u : TypeKey) (n : Member) (P : TypeKey → Type 0) → MemberOf U u n
      → ((c : Comes U u) → Line c.types c.packages c.old U c.sound c.maps c.at c.inside (earlier u c) n → P (c.types c.at)) → P u
  member u n P i h =
      let c = comes u (has-member U u n i) in
      of-type u c P (h c (line_kept c.types c.packages c.old U c.sound c.maps c.at c.inside (earlier u c) n (subst (λ z. MemberOf U z n) (sym c.is) i)))

  -- THE TABLE IS SOUND
  pub covered-sound : Sound U
  covered-sound = record {
    paths = fine.paths;
    names = λ u n i. member u n (λ z. is_name n.name ≡ true) i (λ c l. l.name);
    method_named = λ u n i e. member u n (λ z. is_blank n.name ≡ false) i (λ c l. l.method_named e);
    tags = λ u n i. member u n (λ z. (tag_of n.entity ≡ []) ⊎ (is_tag (tag_of n.entity) ≡ true)) i (λ c l. l.tag);
    basics = λ u k. at-type U (λ z. z ≡ Basic k → k ≤ max_basic) u (λ e. let z : 0 ≡ k = cc in omega arith)
        (λ h. let c = comes u h in of-type u c (λ z. kind_at U z ≡ Basic k → k ≤ max_basic) (basic-kept c.types c.packages c.old U c.sound c.maps c.at c.inside k));
    arrays = λ u n a. at-type U (λ z. z ≡ Array n a → n ≤ max_array) u (λ e. let z : ◌≡◌ {A = ℕ} 0 1 = ap kind_number e in absurd (omega arith))
        (λ h. let c = comes u h in of-type u c (λ z. kind_at U z ≡ Array n a → n ≤ max_array) (array-kept c.types c.packages c.old U c.sound c.maps c.at c.inside n a));
    standing = λ u n i. member u n (λ z. stands n.entity (kind_at U z) ≡ true) i (λ c l. l.stand);
    few_packages = fine.few_packages;
    few_types = fine.few_types;
    few_members = fine.few_members;
    few_per_type = λ u. at-type U (λ z. length (members_of z) ≤ max_per_type) u (omega arith)
        (λ h. let c = comes u h in
        of-type u c (λ z. length (members_of (kind_at U z)) ≤ max_per_type) (few-kept c.types c.packages c.old U c.sound c.maps c.at c.inside (earlier u c)));
    numbered = fine.numbered;
    lined = fine.lined;
    ordered = fine.ordered;
    refers = λ u e. at-type U (λ z. In e (refs z) → e.0 < size U) u (λ i. absurd i)
        (λ h. let c = comes u h in
        of-type u c (λ z. In e (refs (kind_at U z)) → e.0 < size U) (refers-kept c.types c.packages c.old U c.sound c.maps c.at c.inside (earlier u c) e));
    typed = λ u n i. member u n (λ z. n.type.0 < size U) i (λ c l. l.typed);
    packaged = fine.packaged;
    allowed = λ u. at-type U (λ z. type_allowed U u z ≡ true) u refl
        (λ h. let c = comes u h in of-type u c (λ z. type_allowed U z (kind_at U z) ≡ true) (allowed-kept c.types c.packages c.old U c.sound c.maps c.at c.inside (earlier u c)));
    allowed_member = λ u n i. member u n (λ z. member_allowed U z (kind_at U z) n.type n.entity ≡ true) i (λ c l. l.allowed);
    apart = λ u. at-type U (λ z. Apart U (members_of z)) u tt
        (λ h. let c = comes u h in of-type u c (λ z. Apart U (members_of (kind_at U z))) (apart-kept c.types c.packages c.old U c.sound c.maps c.at c.inside (earlier u c)));
    ascend = λ u. at-type U (λ z. Sorted (Lower U) (all_methods_of z)) u tt
        (λ h. let c = comes u h in
        of-type u c (λ z. Sorted (Lower U) (all_methods_of (kind_at U z))) (ascend-kept c.types c.packages c.old U c.sound c.maps c.at c.inside (earlier u c)));
    both = λ u m r. at-type U (λ z. In m (declared_of z) → In r (fields_of (kind_at U (under U u))) → same_member U m r ≡ false) u (λ i j. absurd i)
        (λ h. let c = comes u h in
        of-type u c (λ z. In m (declared_of (kind_at U z)) → In r (fields_of (kind_at U (under U z))) → same_member U m r ≡ false)
        (both-kept c.types c.packages c.old U c.sound c.maps c.at c.inside (earlier u c) m r));
    well_founded = λ u e. at-type U (λ z. In e (by_value z) → Chain (contents U) (same_type u) e → ⊥) u (λ i d. absurd i)
        (λ h. let c = comes u h in
        of-type u c (λ z. In e (contents U z) → Chain (contents U) (same_type z) e → ⊥) (no-round c.types c.packages c.old U c.sound c.maps c.at e c.inside));
  }
