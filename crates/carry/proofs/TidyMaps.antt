-- A table maps to the tidied one: each type to its remaining twin.
use mathlib.Core.Path.{◌≡◌, refl, sym, ap, ap₂, ◌∙◌, subst}
use mathlib.Core.Bool.{Bool, true, false, not, ◌&&◌, ◌||◌}
use mathlib.Core.List.{List, ◌++◌, map}
use mathlib.Core.Option.{Option, none, some}
use Prim.Native.Nat.{ℕ, ◌<◌}
use native.Mathlib.Omega.{arith}
use lib.Dec.{eqb}
use lib.ListN.{length, length-map}
use borrow.Author.Tests.{eqb-true}
use Rattle.objects.specs.Lists.{mapped}
use Rattle.objects.proofs.Numbers.{map_at}
use Rattle.objects.proofs.ListLaws.{cases, and_r}
use Rattle.objects.proofs.KeyLaws.{same_key}
use Rattle.objects.proofs.PairLaws.{AllPairs, pairs-map, pairs-long, pairs-turn, pairs-trans}
use Rattle.objects.specs.declared.TypeKey.{TypeKey}
use Rattle.objects.specs.declared.PackageKey.{PackageKey}
use Rattle.objects.specs.Table.{Table, size, Entity, Field, Method, Member, is_embedded, tag_of, Kind, Basic, kind_number, is_iface, is_named, is_func, refs, members_of, kind_at, path_of}
use Rattle.rules.specs.Members.{identity_of}
use Rattle.rules.specs.Identity.{identical, parts}
use Rattle.rules.specs.Load.{stands}
use Rattle.rules.specs.Checks.{member_allowed, may_have}
use Rattle.rules.specs.Sound.{Sound, MemberOf}
use Rattle.rules.proofs.MemberLaws.{Alike}
use Rattle.rules.proofs.StepLaws.{Agree}
use Rattle.rules.proofs.IdentityLaws.{identical-parts, identical-turn}
use Rattle.ways.proofs.TableLaws.{own}
use Rattle.carry.specs.Maps.{CarriedMember, CarriedKind, Maps}
use Rattle.edits.specs.Carried.{carry_kind}
use Rattle.edits.specs.Assembled.{number_kind, assembled}
use Rattle.edits.specs.Tidy.{least, remaining, tidy_type, tidied}
use Rattle.carry.proofs.Pairing.{pairs-split, pairs-both, pairs-of}
use Rattle.carry.proofs.Lines.{own-other, all-members}
use Rattle.carry.proofs.AssembledLaws.{carried-kind, line-carried, assembled-size, assembled-at}
use Rattle.carry.proofs.Twins.{least-is, tidy-at, tidy-same, same-tidy}

-- ---- identical types that are not named have equal lines, but for references to identical types

-- two members alike, of one sort: the same entity
entity-same : (T : Table) → Sound T → (t u : TypeKey) (m o : Member) → MemberOf T t m → MemberOf T u o → kind_number (kind_at T t) ≡ kind_number (kind_at T u)
    → is_named (kind_at T t) ≡ false → Alike T m o → m.entity ≡ o.entity
entity-same T sound t u m o i j k e a =
    go m.entity o.entity (sound.standing t m i) (sound.standing u o j) (sound.allowed_member t m i) (sound.allowed_member u o j) a.1 a.2
  where
    plain : (l : Kind) → is_named l ≡ false → is_named l || is_iface l ≡ true → is_iface l ≡ true
    plain l z h = rw z at h

    value : (x l : Kind) (y : TypeKey) (ptr : Bool) → is_iface l ≡ true → is_func x && may_have T l ptr ≡ true → ptr ≡ false
    value x l y ptr f h = unptr ptr (rw f at (and_r (is_func x) (may_have T l ptr) h))
      where
        unptr : (b : Bool) → not b ≡ true → b ≡ false
        unptr true z = sym z
        unptr false z = refl

    unnamed : is_named (kind_at T u) ≡ false
    unnamed = ap (λ z. eqb z 10) (sym k) ∙ e

    apart : {a b : ℕ} → a ≡ 8 → b ≡ a → b ≡ 9 → ⊥
    apart x y z = omega arith

    go : (x y : Entity) → stands x (kind_at T t) ≡ true → stands y (kind_at T u) ≡ true → member_allowed T t (kind_at T t) m.type x ≡ true
        → member_allowed T u (kind_at T u) o.type y ≡ true → is_embedded x ≡ is_embedded y → tag_of x ≡ tag_of y → x ≡ y
    go (Field b s) (Field c r) p q v w f g = ap₂ Field f g
    go (Field b s) (Method c) p q v w f g = absurd (apart (eqb-true (kind_number (kind_at T t)) 8 p) (sym k ∙ refl) (eqb-true (kind_number (kind_at T u)) 9 (plain (kind_at T u) unnamed q)))
    go (Method b) (Field c r) p q v w f g = absurd (apart (eqb-true (kind_number (kind_at T u)) 8 q) k (eqb-true (kind_number (kind_at T t)) 9 (plain (kind_at T t) e p)))
    go (Method b) (Method c) p q v w f g =
        ap Method (value (kind_at T m.type) (kind_at T t) t b (plain (kind_at T t) e p) v ∙ sym (value (kind_at T o.type) (kind_at T u) u c (plain (kind_at T u) unnamed q) w))

-- members of identical types, at the same place
abbrev Matched : (TypeKey → TypeKey) → Table → Member → Member → Type 0
Matched f T m o = (identity_of T m ≡ identity_of T o) × (m.entity ≡ o.entity) × (f m.type ≡ f o.type)

module _ (f : TypeKey → TypeKey) (T : Table) (sound : Sound T) (same : (x y : TypeKey) → x.0 < size T → identical T x y ≡ true → f x ≡ f y)
    (r t : TypeKey) (e : is_named (kind_at T r) ≡ false) (a : Agree T (identical T) r t) where
  abbrev types : Kind → List TypeKey
  types k = map (λ (m : Member). m.type) (members_of k)

  unnamed : is_named (kind_at T t) ≡ false
  unnamed = ap (λ z. eqb z 10) (sym a.kinds) ∙ e

  parts-of : (k : Kind) → is_named k ≡ false → parts k ≡ refs k ++ types k
  unfolding parts
  parts-of k n = rw n

  related : AllPairs (λ x y. identical T x y ≡ true) (refs (kind_at T r)) (refs (kind_at T t)) × AllPairs (λ x y. identical T x y ≡ true) (types (kind_at T r)) (types (kind_at T t))
  related =
      pairs-split (λ x y. identical T x y ≡ true) (refs (kind_at T r)) (types (kind_at T r)) (refs (kind_at T t)) (types (kind_at T t))
      (length-map (members_of (kind_at T r)) (λ m. m.type) ∙ pairs-long (Alike T) (members_of (kind_at T r)) (members_of (kind_at T t)) a.members
      ∙ sym (length-map (members_of (kind_at T t)) (λ m. m.type)))
      (subst (λ l. AllPairs (λ x y. identical T x y ≡ true) (refs (kind_at T r) ++ types (kind_at T r)) l) (parts-of (kind_at T t) unnamed)
      (subst (λ l. AllPairs (λ x y. identical T x y ≡ true) l (parts (kind_at T t))) (parts-of (kind_at T r) e) a.related))

  refs-same : AllPairs (λ x y. f x ≡ f y) (refs (kind_at T r)) (refs (kind_at T t))
  refs-same = pairs-map (λ x y. identical T x y ≡ true) (λ x y. f x ≡ f y) (refs (kind_at T r)) (refs (kind_at T t)) (λ x y i j z. same x y (sound.refers r x i) z) related.0

  members-same : AllPairs (Matched f T) (members_of (kind_at T r)) (members_of (kind_at T t))
  members-same =
      pairs-map (λ m o. Alike T m o × (identical T m.type o.type ≡ true)) (Matched f T) (members_of (kind_at T r)) (members_of (kind_at T t))
      (λ m o i j z. (z.0.0, entity-same T sound r t m o i j a.kinds e z.0, same m.type o.type (sound.typed r m i) z.1))
      (pairs-both (Alike T) (λ m o. identical T m.type o.type ≡ true) (members_of (kind_at T r)) (members_of (kind_at T t)) a.members
      (pairs-of (λ x y. identical T x y ≡ true) (λ (m : Member). m.type) (members_of (kind_at T r)) (members_of (kind_at T t)) related.1))

  abbrev Exact : TypeKey → TypeKey → Type 0
  Exact a b = b ≡ f a

  -- LINES THAT CARRY r CARRY ITS TWIN t
  twin-carried : (U : Table) (l : Kind) → CarriedKind Exact T U r (kind_at T r) l → CarriedKind Exact T U t (kind_at T t) l
  twin-carried U l c =
      carried-kind Exact T U t (kind_at T t) l
      (c.kind ∙ a.kinds)
      (own-other t r l (ap (λ z. eqb z 10) c.kind ∙ e) ∙ c.number ∙ a.owns)
      (pairs-trans (λ y x. f x ≡ f y) Exact Exact (refs (kind_at T t)) (refs (kind_at T r)) (refs l) (λ y x b z d. d ∙ z)
      (pairs-turn (λ x y. f x ≡ f y) (λ y x. f x ≡ f y) (refs (kind_at T r)) (refs (kind_at T t)) (λ x y z. z) refs-same) c.refers)
      (pairs-trans (λ o m. Matched f T m o) (CarriedMember Exact T U) (CarriedMember Exact T U) (members_of (kind_at T t)) (members_of (kind_at T r)) (members_of l)
      (λ o m n z d. record { identity = d.identity ∙ z.0; entity = d.entity ∙ z.1; type = d.type ∙ z.2 })
      (pairs-turn (Matched f T) (λ o m. Matched f T m o) (members_of (kind_at T r)) (members_of (kind_at T t)) (λ m o z. z) members-same)
      (all-members Exact T U r (kind_at T r) l c))

-- ---- the map

module _ (T : Table) where
  -- the lines of a type as they are assembled
  abbrev pub tidied_lines : TypeKey → Kind
  tidied_lines t = carry_kind (tidy_type T) (λ k. k) (kind_at T t)

  pub tidied-size : size (tidied T) ≡ length (remaining T)
  unfolding tidied
  tidied-size = assembled-size T.packages (map tidied_lines (remaining T)) ∙ length-map (remaining T) tidied_lines

  tidied-path : (k : Option PackageKey) → path_of (tidied T) (mapped (λ (k : PackageKey). k) k) ≡ path_of T k
  unfolding tidied assembled path_of
  tidied-path none = refl
  tidied-path (some k) = refl

module _ (T : Table) (sound : Sound T) where
  pub tidied-at : (t : TypeKey) → t.0 < size T → (n : ℕ) × (kind_at (tidied T) (tidy_type T t) ≡ number_kind n (tidied_lines T (least T t)))
  unfolding tidied
  tidied-at t h =
      let r = tidy-at T sound t t h in
      let w = assembled-at T.packages (map (tidied_lines T) (remaining T)) (tidy_type T t) in
      (w.0, w.1 ∙ ap (number_kind w.0) (map_at (tidied_lines T) (remaining T) (tidy_type T t).0 (Basic 0) t r.0 ∙ ap (tidied_lines T) r.1))

  least-carried : (t : TypeKey) → t.0 < size T → CarriedKind (λ a b. b ≡ tidy_type T a) T (tidied T) (least T t) (kind_at T (least T t)) (kind_at (tidied T) (tidy_type T t))
  least-carried t h =
      let w = tidied-at t h in
      rw w.1 (line-carried (tidy_type T) (λ k. k) T (tidied T) w.0 (least T t) (kind_at T (least T t)) (λ m i. tidied-path T m.pkg))

  tidy-carried : (t : TypeKey) → t.0 < size T → CarriedKind (λ a b. b ≡ tidy_type T a) T (tidied T) t (kind_at T t) (kind_at (tidied T) (tidy_type T t))
  tidy-carried t h =
      let r = least-is T sound t h in
      cases (is_named (kind_at T t))
      (λ e. let z : least T t ≡ t = same_key (least T t) t (sym (own T sound (least T t) t e) ∙ r.1) in
      subst (λ u. CarriedKind (λ a b. b ≡ tidy_type T a) T (tidied T) u (kind_at T u) (kind_at (tidied T) (tidy_type T t))) z (least-carried t h))
      (λ e.
      let a = (identical-parts T sound (least T t) t).0 r.1 in
      twin-carried (tidy_type T) T sound (tidy-same T sound) (least T t) t (ap (λ z. eqb z 10) a.kinds ∙ e) a (tidied T) (kind_at (tidied T) (tidy_type T t)) (least-carried t h))

  -- TIDYING IS A MAP OF TABLES
  pub tidy-maps : Maps (tidy_type T) (λ k. k) T (tidied T)
  unfolding tidied assembled
  tidy-maps = record {
    type_in = λ t h. rw (tidied-size T) (tidy-at T sound t t h).0;
    line = tidy-carried;
    named_own = λ x y hx hy e z. sym (same_key y x (sym (own T sound y x e) ∙ identical-turn T sound x y (same-tidy T sound x y hx hy z)));
    package_in = λ k h. h;
    path = λ k h. tidied-path T (some k);
  }
