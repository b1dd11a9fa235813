-- What stays of a type that grew (specs/Grown.antt): its kind, what its line refers to, its members at their places; and of a name its identity.
use mathlib.Core.Path.{◌≡◌, refl, sym, ap, ap₂, ◌∙◌}
use mathlib.Core.Bool.{Bool, true, false, cond, not, ◌&&◌}
use mathlib.Core.List.{List, [], ◌∷◌, ◌++◌, map, append-nil}
use mathlib.Core.Option.{Option, none, some}
use Prim.Native.Nat.{ℕ, ◌<◌}
use lib.Dec.{eqb}
use lib.ListN.{length}
use borrow.Author.Tests.{ltb-true, eq-eqb}
use Rattle.objects.specs.Lists.{Bytes, head_or, In, up_to}
use Rattle.objects.proofs.ListLaws.{cases, any-In}
use Rattle.objects.proofs.KindLaws.{if-In}
use Rattle.objects.proofs.Numbers.{up_to-has}
use Rattle.objects.specs.declared.TypeKey.{TypeKey}
use Rattle.objects.specs.declared.ObjKey.{ObjKey}
use Rattle.objects.specs.declared.PackageKey.{PackageKey}
use Rattle.objects.specs.Table.{Table, obj_key, size, member_count, Member, Kind, kind_number, is_struct, is_iface, is_named, refs, members_of, fields_of, declared_of, all_methods_of, has_package, kind_at, path_of, under, bare, pointer_at, iface_under, named_pointer, all_methods}
use Rattle.text.specs.Bytes.{exported}
use Rattle.rules.specs.Members.{identity_from, identity_of}
use Rattle.rules.specs.Sound.{Sound, MemberOf}
use Rattle.rules.proofs.RangeLaws.{under-in}
use Rattle.growth.specs.Grown.{Numbers, carry_pkg, carry_member, is_added, Added, Grew, grew-basic, grew-array, grew-slice, grew-pointer, grew_map, grew-chan, grew-tuple, grew-func, grew-iface, grew-struct, grew-named, Grown}
use Rattle.growth.proofs.Packages.{package-path}

-- ---- lists

head-map : {A B : Type 0} (f : A → B) (d : A) (l : List A) → head_or (f d) (map f l) ≡ f (head_or d l)
head-map f d [] = refl
head-map f d (x ∷ l) = refl

cond-ap : {A B : Type 0} (f : A → B) (b : Bool) (x y : A) → cond b (f x) (f y) ≡ f (cond b x y)
cond-ap f true x y = refl
cond-ap f false x y = refl

-- ---- kinds

-- fields, declared methods and an interface's methods are members
pub fields-members : (k : Kind) (f : Member) → In f (fields_of k) → In f (members_of k)
fields-members k f i = (if-In (is_struct k) (members_of k) f i).1

pub declared-members : (k : Kind) (m : Member) → In m (declared_of k) → In m (members_of k)
declared-members k m i = (if-In (is_named k) (members_of k) m i).1

pub methods-members : (k : Kind) (m : Member) → In m (all_methods_of k) → In m (members_of k)
methods-members k m i = (if-In (is_iface k) (members_of k) m i).1

module _ (n : Numbers) (A : Table) where
  pub kind-grew : (t : TypeKey) (k l : Kind) → Grew n A t k l → kind_number l ≡ kind_number k
  kind-grew t k l grew-basic = refl
  kind-grew t k l grew-array = refl
  kind-grew t k l grew-slice = refl
  kind-grew t k l grew-pointer = refl
  kind-grew t k l grew_map = refl
  kind-grew t k l grew-chan = refl
  kind-grew t k l grew-tuple = refl
  kind-grew t k l grew-func = refl
  kind-grew t k l grew-iface = refl
  kind-grew t k l (grew-struct more w f) = refl
  kind-grew t k l (grew-named more w) = refl

  pub refs-grew : (t : TypeKey) (k l : Kind) → Grew n A t k l → refs l ≡ map n.ty (refs k)
  refs-grew t k l grew-basic = refl
  refs-grew t k l grew-array = refl
  refs-grew t k l grew-slice = refl
  refs-grew t k l grew-pointer = refl
  refs-grew t k l grew_map = refl
  refs-grew t k l grew-chan = refl
  refs-grew t k l grew-tuple = refl
  refs-grew t k l grew-func = refl
  refs-grew t k l grew-iface = refl
  refs-grew t k l (grew-struct more w f) = refl
  refs-grew t k l (grew-named more w) = refl

  -- the members of a kind of one number: the carried ones, then added ones
  abbrev pub Longer : List Member → List Member → Type 0
  Longer old new = (more : List Member) × Added n A more × (new ≡ map (carry_member n) old ++ more)

  members-grew : (t : TypeKey) (k l : Kind) → Grew n A t k l → Longer (members_of k) (members_of l)
  members-grew t k l grew-basic = ([], refl, refl)
  members-grew t k l grew-array = ([], refl, refl)
  members-grew t k l grew-slice = ([], refl, refl)
  members-grew t k l grew-pointer = ([], refl, refl)
  members-grew t k l grew_map = ([], refl, refl)
  members-grew t k l grew-chan = ([], refl, refl)
  members-grew t k l grew-tuple = ([], refl, refl)
  members-grew t k l grew-func = ([], refl, refl)
  members-grew t k l (grew-iface {ms = ms}) = ([], refl, sym (append-nil (map (carry_member n) ms)))
  members-grew t k l (grew-struct more w f) = (more, w, refl)
  members-grew t k l (grew-named more w) = (more, w, refl)

  -- of fields (8) and of declared methods (10) alike
  of-number : (number : ℕ) (t : TypeKey) (k l : Kind) → Grew n A t k l → Longer (cond (eqb (kind_number k) number) (members_of k) []) (cond (eqb (kind_number l) number) (members_of l) [])
  of-number number t k l g =
      cases (eqb (kind_number k) number)
      (λ e. let r = members-grew t k l g in (r.0, r.1, rw (kind-grew t k l g, e) r.2))
      (λ e. ([], refl, rw (kind-grew t k l g, e)))

  pub fields-grew : (t : TypeKey) (k l : Kind) → Grew n A t k l → Longer (fields_of k) (fields_of l)
  fields-grew = of-number 8

  pub declared-grew : (t : TypeKey) (k l : Kind) → Grew n A t k l → Longer (declared_of k) (declared_of l)
  declared-grew = of-number 10

  -- an interface has its methods and no more
  pub methods-grew : (t : TypeKey) (k l : Kind) → Grew n A t k l → all_methods_of l ≡ map (carry_member n) (all_methods_of k)
  methods-grew t k l grew-basic = refl
  methods-grew t k l grew-array = refl
  methods-grew t k l grew-slice = refl
  methods-grew t k l grew-pointer = refl
  methods-grew t k l grew_map = refl
  methods-grew t k l grew-chan = refl
  methods-grew t k l grew-tuple = refl
  methods-grew t k l grew-func = refl
  methods-grew t k l grew-iface = refl
  methods-grew t k l (grew-struct more w f) = refl
  methods-grew t k l (grew-named more w) = refl

  -- an old member's new number is none of an added one
  pub carried-old : (m : ObjKey) → m.0 < member_count A → is_added n A (n.mem m) ≡ false
  carried-old m h = ap not (any-In (λ i. eqb (n.mem (obj_key i)).0 (n.mem m).0) (up_to (member_count A)) m.0 (up_to-has (member_count A) m.0 h) (eq-eqb (n.mem m).0 (n.mem m).0 refl))

-- ---- what a table says

module _ (n : Numbers) (A B : Table) (sound : Sound A) (g : Grown n A B) where
  pub kind-kept : (t : TypeKey) → t.0 < size A → kind_number (kind_at B (n.ty t)) ≡ kind_number (kind_at A t)
  kind-kept t h = kind-grew n A t (kind_at A t) (kind_at B (n.ty t)) (g.grew t h)

  refs-kept : (t : TypeKey) → t.0 < size A → refs (kind_at B (n.ty t)) ≡ map n.ty (refs (kind_at A t))
  refs-kept t h = refs-grew n A t (kind_at A t) (kind_at B (n.ty t)) (g.grew t h)

  -- what `under` and `bare` do: the first reference of a kind of one number
  first-kept : (number : ℕ) (t : TypeKey) → t.0 < size A
      → cond (eqb (kind_number (kind_at B (n.ty t))) number) (head_or (n.ty t) (refs (kind_at B (n.ty t)))) (n.ty t) ≡ n.ty (cond (eqb (kind_number (kind_at A t)) number) (head_or t (refs (kind_at A t))) t)
  first-kept number t h =
      rw (kind-kept t h, refs-kept t h, head-map n.ty t (refs (kind_at A t))) (cond-ap n.ty (eqb (kind_number (kind_at A t)) number) (head_or t (refs (kind_at A t))) t)

  pub under-kept : (t : TypeKey) → t.0 < size A → under B (n.ty t) ≡ n.ty (under A t)
  unfolding under
  under-kept = first-kept 10

  pub bare-kept : (t : TypeKey) → t.0 < size A → bare B (n.ty t) ≡ n.ty (bare A t)
  unfolding bare
  bare-kept = first-kept 3

  pub pointer-kept : (t : TypeKey) → t.0 < size A → pointer_at B (n.ty t) ≡ pointer_at A t
  unfolding pointer_at
  pointer-kept t h = ap (λ k. eqb k 3) (kind-kept t h)

  -- the kind of the u
  under-kind : (t : TypeKey) → t.0 < size A → kind_number (kind_at B (under B (n.ty t))) ≡ kind_number (kind_at A (under A t))
  under-kind t h = ap (λ u. kind_number (kind_at B u)) (under-kept t h) ∙ kind-kept (under A t) (under-in A sound t h)

  pub iface-kept : (t : TypeKey) → t.0 < size A → iface_under B (n.ty t) ≡ iface_under A t
  unfolding iface_under
  iface-kept t h = ap (λ k. eqb k 9) (under-kind t h)

  pub named-kept : (t : TypeKey) → t.0 < size A → named_pointer B (n.ty t) ≡ named_pointer A t
  unfolding named_pointer
  named-kept t h = ap₂ (λ k u. eqb k 10 && eqb u 3) (kind-kept t h) (under-kind t h)

  pub methods-kept : (t : TypeKey) → t.0 < size A → all_methods B (n.ty t) ≡ map (carry_member n) (all_methods A t)
  unfolding all_methods
  methods-kept t h =
      ap (λ u. all_methods_of (kind_at B u)) (under-kept t h)
      ∙ methods-grew n A (under A t) (kind_at A (under A t)) (kind_at B (n.ty (under A t))) (g.grew (under A t) (under-in A sound t h))

  -- ---- identities

  path-kept : (p : Option PackageKey) → has_package A p ≡ true → path_of B (carry_pkg n p) ≡ path_of A p
  unfolding path_of
  path-kept none h = refl
  path-kept (some p) h = ap (λ z. some z) (package-path n A B g p (ltb-true p.0 (length A.packages) h))

  pub name-kept : (p : Option PackageKey) (name : Bytes) → has_package A p ≡ true → identity_from B (carry_pkg n p) name ≡ identity_from A p name
  unfolding identity_from
  name-kept p name h = ap (λ (z : Option Bytes). record { name = name; path = cond (exported name) none z }) (path-kept p h)

  pub identity-kept : (t : TypeKey) (m : Member) → MemberOf A t m → identity_of B (carry_member n m) ≡ identity_of A m
  unfolding identity_of
  identity-kept t m i = name-kept m.pkg m.name (sound.packaged t m i)
