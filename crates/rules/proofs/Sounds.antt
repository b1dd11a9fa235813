-- Every table that loads is sound (specs/Sound.antt): the refusals turned round.
use mathlib.Core.Path.{◌≡◌, refl}
use mathlib.Core.Bool.{Bool, true, false, not, ◌&&◌, ◌||◌}
use mathlib.Core.List.{List, ◌∷◌, ◌++◌}
use mathlib.Core.Logic.{◌⊎◌, inl, inr}
use Prim.Native.Nat.{ℕ}
use native.Mathlib.Omega.{arith}
use lib.ListN.{get_or}
use borrow.Author.Tests.{not-false}
use Rattle.objects.specs.Bounds.{refusal_unit, bounds}
use Rattle.objects.specs.Lists.{Bytes, any, every, last_of, head_or, In, Sorted}
use Rattle.objects.specs.declared.TypeKey.{TypeKey}
use Rattle.objects.specs.Table.{Table, size, same_type, Member, Kind, Basic, is_iface, is_named, refs, members_of, fields_of, declared_of, all_methods_of, by_value, has_type, has_package, kind_at, under}
use Rattle.objects.specs.Rows.{Words, table_of}
use Rattle.objects.proofs.ListLaws.{cases, clash, and_r, or_l, or_r, none-In}
use Rattle.objects.proofs.KindLaws.{named-ref, if-In}
use Rattle.objects.proofs.PartLaws.{parted, sorted-from, ascending, get_or-In}
use Rattle.text.specs.Bytes.{below_bytes, is_blank}
use Rattle.text.proofs.ByteLaws.{below-trans}
use Rattle.rules.specs.Members.{identity_of, same_member, id_bytes}
use Rattle.rules.specs.Chains.{Chain}
use Rattle.rules.specs.Checks.{type_item, member_item, forbidden, clashing, containing, type_allowed, member_allowed, ascends, equals_field, contents}
use Rattle.rules.specs.Load.{loaded, load}
use Rattle.rules.specs.Sound.{MemberOf, Apart, Lower, Sound}
use Rattle.rules.specs.Library.{Library}
use Rattle.rules.proofs.ChainLaws.{leads-iff, types-few}
use Rattle.rules.proofs.PathLaws.{ordered_of}
use Rattle.rules.proofs.LoadLaws.{WellFormed, fresh, Built}
use Rattle.rules.proofs.CheckLaws.{Passed, Right, type-item, load-right}
use Rattle.rules.proofs.Lacks.{at-type, item-at, item_of, refers-in, has_both, typed-in, content-in}

-- 9 of a member and those before it: it is another, it rises, and no field of the struct has its identity
record Clear (T : Table) (k : Kind) (before : List Member) (m : Member) : Type 0 where
  other : not (is_blank m.name) && any (same_member T m) before ≡ false
  rises : is_iface k && not (ascends T before m) ≡ false
  free : equals_field T k m ≡ false

clear : (T : Table) (k : Kind) (before : List Member) (m : Member)
    → (not (is_blank m.name) && any (same_member T m) before) || (is_iface k && not (ascends T before m)) || equals_field T k m ≡ false → Clear T k before m
clear T k before m h = record {
  other = or_l again falls (or_l (again || falls) (equals_field T k m) h);
  rises = or_r again falls (or_l (again || falls) (equals_field T k m) h);
  free = or_r (again || falls) (equals_field T k m) h;
}
  where
    again : Bool
    again = not (is_blank m.name) && any (same_member T m) before

    falls : Bool
    falls = is_iface k && not (ascends T before m)

module _ (T : Table) (line : ℕ) (b : Built bounds line T) (p : Passed T) where
  well-formed : (t : TypeKey) → WellFormed (kind_at T t)
  unfolding kind_at
  well-formed t = at-type T WellFormed t (fresh (Basic 0) (omega arith, refl)) (λ h. b.kinds (get_or T.types t.0 (Basic 0)) (get_or-In T.types t.0 (Basic 0) h))

  -- ---- a type and its references

  allowed_at : (t : TypeKey) → type_allowed T t (kind_at T t) ≡ true
  unfolding forbidden
  allowed_at t = at-type T (λ k. type_allowed T t k ≡ true) t refl (λ h. not-false (type_allowed T t (kind_at T t)) (p.forbids (type_item t (kind_at T t)) (type-item T t h)))

  -- ---- a type and its members

  allowed-member : (t : TypeKey) (m : Member) → MemberOf T t m → member_allowed T t (kind_at T t) m.type m.entity ≡ true
  unfolding forbidden
  allowed-member t m i = let r = item_of T t m i in not-false (member_allowed T t (kind_at T t) m.type m.entity) (p.forbids (member_item t (kind_at T t) r.0 m) r.1)

  -- ---- 9

  clear_at : (t : TypeKey) (before : List Member) (m : Member) (after : List Member) → members_of (kind_at T t) ≡ before ++ (m ∷ after) → Clear T (kind_at T t) before m
  unfolding clashing
  clear_at t before m after e =
      clear T (kind_at T t) before m (p.clashes (member_item t (kind_at T t) before m) (item-at T t before m after e))

  apart-at : (t : TypeKey) → Apart T (members_of (kind_at T t))
  apart-at t = sorted-from (λ m n. (is_blank n.name ≡ true) ⊎ (same_member T n m ≡ false)) (members_of (kind_at T t))
      (λ before x after e y i. cases (is_blank x.name) (λ f. inl f) (λ f. inr (none-In (same_member T x) before y (rw f at (clear_at t before x after e).other) i)))

  ascend-at : (t : TypeKey) → Sorted (Lower T) (all_methods_of (kind_at T t))
  ascend-at t = cases (is_iface (kind_at T t)) (λ f. rw f (ascending below (λ x y z. below-trans (id x) (id y) (id z)) (members_of (kind_at T t)) (rises f))) (λ f. rw f tt)
    where
      id : Member → Bytes
      id m = id_bytes (identity_of T m)

      below : Member → Member → Bool
      below x y = below_bytes (id_bytes (identity_of T x)) (id_bytes (identity_of T y))

      rises : is_iface (kind_at T t) ≡ true → (before : List Member) (x : Member) (after : List Member) → members_of (kind_at T t) ≡ before ++ (x ∷ after)
          → every (λ y. below_bytes (id_bytes (identity_of T y)) (id_bytes (identity_of T x))) (last_of before) ≡ true
      rises f before x after e = not-false (ascends T before x) (rw f at (clear_at t before x after e).rises)

  both_at : (t : TypeKey) (m f : Member) → In m (declared_of (kind_at T t)) → In f (fields_of (kind_at T (under T t))) → same_member T m f ≡ false
  unfolding under
  both_at t m f i j =
      let r = if-In (is_named (kind_at T t)) (members_of (kind_at T t)) m i in
      let c = parted (members_of (kind_at T t)) m r.1 in
      named t m f r.0 (clear_at t c.0 m c.1 c.2).free (rw r.0 at j)
    where
      named : (t : TypeKey) (m f : Member) → is_named (kind_at T t) ≡ true → equals_field T (kind_at T t) m ≡ false → In f (fields_of (kind_at T (head_or t (refs (kind_at T t))))) → same_member T m f ≡ false
      named t m f n e j =
          let u = head_or t (refs (kind_at T t)) in
          none-In (same_member T m) (fields_of (kind_at T u)) f (none-In (λ v. any (same_member T m) (fields_of (kind_at T v))) (refs (kind_at T t)) u (rw n at e) (named-ref t (kind_at T t) n)) j

  -- ---- 10

  no-cycle : (t e : TypeKey) → In e (contents T t) → Chain (contents T) (same_type t) e → ⊥
  unfolding containing
  no-cycle t = at-type T (λ k. (e : TypeKey) → In e (by_value k) → Chain (contents T) (same_type t) e → ⊥) t (λ e i c. absurd i)
      (λ h e i c. clash ((leads-iff (types-few (size T) (contents T) (content-in T p.lacks)) (same_type t) (contents T t) (content-in T p.lacks t)).1 (e, i, c)) (p.contains (type_item t (kind_at T t)) (type-item T t h)))

  pub sound-of : Sound T
  sound-of = record {
    paths = b.paths;
    names = λ t m i. ((well-formed t).said m i).named;
    method_named = λ t m i. ((well-formed t).said m i).not_blank;
    tags = λ t m i. ((well-formed t).said m i).tagged;
    basics = λ t k e. rw e at (well-formed t).in_range;
    arrays = λ t n x e. rw e at (well-formed t).in_range;
    standing = λ t m i. (well-formed t).standing m i;
    few_packages = b.few_packages;
    few_types = b.few_types;
    few_members = b.few_members;
    few_per_type = λ t. (well-formed t).few;
    numbered = b.numbered;
    lined = b.lined;
    ordered = ordered_of T.packages p.orders;
    refers = refers-in T p.lacks;
    typed = typed-in T p.lacks;
    packaged = λ t m i. and_r (has_type T m.type) (has_package T m.pkg) (has_both T p.lacks t m i);
    allowed = allowed_at;
    allowed_member = allowed-member;
    apart = apart-at;
    ascend = ascend-at;
    both = both_at;
    well_founded = no-cycle;
  }

-- EVERY TABLE THAT LOADS IS SOUND
pub loads-sound : (text : Bytes) (T : Table) → load text ≡ loaded T → Sound T
loads-sound text T e = let r : Right bounds refusal_unit (loaded T) = rw e at (load-right text) in sound-of T refusal_unit r.0 r.1

-- and so is the table that rows of a library hold
pub library-sound : {text : Bytes} {rows : Words} → Library text rows → Sound (table_of text rows)
library-sound {text} {rows} lib = loads-sound text (table_of text rows) lib.loads
