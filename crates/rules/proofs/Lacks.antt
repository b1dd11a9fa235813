-- Where 7 passes, what the lines of a table refer to is in the table.
use mathlib.Core.Path.{◌≡◌, refl}
use mathlib.Core.Bool.{true, false, ◌&&◌, ◌||◌}
use mathlib.Core.List.{List, ◌∷◌, ◌++◌}
use mathlib.Core.Logic.{inl}
use Prim.Native.Nat.{◌<◌}
use lib.Dec.{ltb}
use lib.ListN.{get_or-eq_default}
use borrow.Author.Tests.{ltb-true, ltb-false, not-false}
use Rattle.objects.specs.Lists.{every, In}
use Rattle.objects.specs.declared.TypeKey.{TypeKey}
use Rattle.objects.specs.Table.{Table, size, Member, Kind, Basic, is_array, is_struct, is_named, refs, members_of, fields_of, has_type, has_package, kind_at}
use Rattle.objects.proofs.ListLaws.{cases, and_l, In-map, In-append-r}
use Rattle.objects.proofs.KindLaws.{if-In}
use Rattle.objects.proofs.PartLaws.{every-In, parted}
use Rattle.rules.specs.Checks.{Item, type_item, member_item, items, lacking, contents}
use Rattle.rules.specs.Sound.{MemberOf}
use Rattle.rules.proofs.CheckLaws.{type-item, member-item}

module _ (T : Table) where
  -- a number that the table lacks counts as `T basic 0`
  pub at-type : (P : Kind → Type 0) (t : TypeKey) → P (Basic 0) → (t.0 < size T → P (kind_at T t)) → P (kind_at T t)
  unfolding kind_at
  at-type P t out inside =
      cases (ltb t.0 (size T))
      (λ e. inside (ltb-true t.0 (size T) e))
      (λ e. rw (get_or-eq_default T.types (Basic 0) (ltb-false t.0 (size T) e)) out)

  -- a type with a member is one of the table
  pub has-member : (t : TypeKey) (m : Member) → MemberOf T t m → t.0 < size T
  has-member t m = at-type (λ k. In m (members_of k) → t.0 < size T) t (λ i. absurd i) (λ h i. h)

  pub item-at : (t : TypeKey) (before : List Member) (m : Member) (after : List Member) → members_of (kind_at T t) ≡ before ++ (m ∷ after) → In (member_item t (kind_at T t) before m) (items T)
  item-at t before m after e = member-item T t before m after (has-member t m (rw e (In-append-r before (m ∷ after) m (inl refl)))) e

  pub item_of : (t : TypeKey) (m : Member) → MemberOf T t m → (before : List Member) × In (member_item t (kind_at T t) before m) (items T)
  item_of t m i = let r = parted (members_of (kind_at T t)) m i in (r.0, item-at t r.0 m r.1 r.2)

module _ (T : Table) (lacks : (i : Item) → In i (items T) → lacking T i ≡ false) where
  pub refers-in : (t e : TypeKey) → In e (refs (kind_at T t)) → e.0 < size T
  unfolding lacking
  refers-in t = at-type T (λ k. (e : TypeKey) → In e (refs k) → e.0 < size T) t (λ e i. absurd i)
      (λ h e i. ltb-true e.0 (size T) (every-In (has_type T) (refs (kind_at T t)) e (not-false (every (has_type T) (refs (kind_at T t))) (lacks (type_item t (kind_at T t)) (type-item T t h))) i))

  pub has_both : (t : TypeKey) (m : Member) → MemberOf T t m → has_type T m.type && has_package T m.pkg ≡ true
  unfolding lacking
  has_both t m i = let r = item_of T t m i in not-false (has_type T m.type && has_package T m.pkg) (lacks (member_item t (kind_at T t) r.0 m) r.1)

  pub typed-in : (t : TypeKey) (m : Member) → MemberOf T t m → m.type.0 < size T
  typed-in t m i = ltb-true m.type.0 (size T) (and_l (has_type T m.type) (has_package T m.pkg) (has_both t m i))

  pub content-in : (t e : TypeKey) → In e (contents T t) → e.0 < size T
  content-in t e i =
      cases (is_array (kind_at T t) || is_named (kind_at T t))
      (λ f. refers-in t e (rw f at i))
      (λ f. let r = In-map (λ m. m.type) (fields_of (kind_at T t)) e (rw f at i) in
      rw r.2 (typed-in t r.0 (if-In (is_struct (kind_at T t)) (members_of (kind_at T t)) r.0 r.1).1))
