-- What every table that loads satisfies: refusals 4 to 10 and 14, each turned round. That it does is `loads-sound` (proofs/Sounds.antt); every theorem about
-- tables and every contract over rows takes this record. A number that the table lacks has no members and refers to nothing, so no clause asks for `t` in range.
use Rattle.std.specs.Prelude.{◌≡◌, true, false, List, [], map, ◌⊎◌, ℕ, ◌≤◌, ◌<◌, length}
use Rattle.objects.specs.Bounds.{max_types, max_packages, max_members, max_per_type, max_basic, max_array}
use Rattle.objects.specs.Lists.{Bytes, In, Sorted, flat, up_to}
use Rattle.objects.specs.declared.TypeKey.{TypeKey}
use Rattle.objects.specs.Table.{Table, size, member_count, same_type, Member, is_method, tag_of, Basic, Array, refs, members_of, fields_of, declared_of, all_methods_of, has_package, kind_at, under}
use Rattle.text.specs.Bytes.{below_bytes, is_name, is_blank, is_path, is_tag}
use Rattle.rules.specs.Members.{identity_of, same_member, id_bytes}
use Rattle.rules.specs.Chains.{Chain}
use Rattle.rules.specs.Checks.{type_allowed, member_allowed, contents}
use Rattle.rules.specs.Load.{stands}

-- the bytes of p come before those of q
abbrev pub Below : Bytes → Bytes → Type 0
Below p q = below_bytes p q ≡ true

-- the paths of a table strictly ascend, so that none recurs
abbrev pub Ordered : Table → Type 0
Ordered T = Sorted Below T.packages

module _ (T : Table) where
  -- the members under the T line of t
  abbrev pub MemberOf : TypeKey → Member → Type 0
  MemberOf t m = In m (members_of (kind_at T t))

  -- no two members of one identity, but blank fields
  abbrev pub Apart : List Member → Type 0
  Apart ms = Sorted (λ (m n : Member). (is_blank n.name ≡ true) ⊎ (same_member T n m ≡ false)) ms

  -- m's id comes before n's
  abbrev pub Lower : Member → Member → Type 0
  Lower m n = Below (id_bytes (identity_of T m)) (id_bytes (identity_of T n))

pub record Sound (T : Table) : Type 0 where
  -- 4: what a line's fields may say
  pub paths : (path : Bytes) → In path T.packages → is_path path ≡ true
  pub names : (t : TypeKey) (m : Member) → MemberOf T t m → is_name m.name ≡ true
  pub method_named : (t : TypeKey) (m : Member) → MemberOf T t m → is_method m.entity ≡ true → is_blank m.name ≡ false
  pub tags : (t : TypeKey) (m : Member) → MemberOf T t m → (tag_of m.entity ≡ []) ⊎ (is_tag (tag_of m.entity) ≡ true)
  pub basics : (t : TypeKey) (k : ℕ) → kind_at T t ≡ Basic k → k ≤ max_basic
  pub arrays : (t : TypeKey) (n : ℕ) (e : TypeKey) → kind_at T t ≡ Array n e → n ≤ max_array
  -- 5: fields stand under structs, methods under named types and interfaces
  pub standing : (t : TypeKey) (m : Member) → MemberOf T t m → stands m.entity (kind_at T t) ≡ true
  -- 6
  pub few_packages : length T.packages ≤ max_packages
  pub few_types : size T ≤ max_types
  pub few_members : member_count T ≤ max_members
  pub few_per_type : (t : TypeKey) → length (members_of (kind_at T t)) ≤ max_per_type
  -- "Packages, types and members are numbered from 0 as they come"; each type has its line
  pub numbered : map (λ m. m.key.0) (flat members_of T.types) ≡ up_to (member_count T)
  pub lined : length T.type_lines ≡ size T
  -- 14
  pub ordered : Ordered T
  -- 7
  pub refers : (t e : TypeKey) → In e (refs (kind_at T t)) → e.0 < size T
  pub typed : (t : TypeKey) (m : Member) → MemberOf T t m → m.type.0 < size T
  pub packaged : (t : TypeKey) (m : Member) → MemberOf T t m → has_package T m.pkg ≡ true
  -- 8
  pub allowed : (t : TypeKey) → type_allowed T t (kind_at T t) ≡ true
  pub allowed_member : (t : TypeKey) (m : Member) → MemberOf T t m → member_allowed T t (kind_at T t) m.type m.entity ≡ true
  -- 9: one member for an identity in a type; interfaces ascend by id; a named type's method differs from the fields of its struct
  pub apart : (t : TypeKey) → Apart T (members_of (kind_at T t))
  pub ascend : (t : TypeKey) → Sorted (Lower T) (all_methods_of (kind_at T t))
  pub both : (t : TypeKey) (m f : Member) → In m (declared_of (kind_at T t)) → In f (fields_of (kind_at T (under T t))) → same_member T m f ≡ false
  -- 10: no chain of contents leads from a type back to it
  pub well_founded : (t e : TypeKey) → In e (contents T t) → Chain (contents T) (same_type t) e → ⊥
