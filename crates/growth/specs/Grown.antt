-- Document 01, Growth: when a new library B is an old one A with lines added; of packages document 02, point 5. Each clause stands under the sentence that it states.
use Rattle.std.specs.Prelude.{◌≡◌, Bool, true, false, cond, not, List, [], ◌∷◌, ◌++◌, map, ◌⊎◌, ℕ, suc, ◌<◌, eqb, length, get_or}
use Rattle.std.proofs.Math.Option.{Option}
use Rattle.objects.specs.Lists.{Bytes, any, mapped, In, up_to}
use Rattle.objects.specs.declared.TypeKey.{TypeKey}
use Rattle.objects.specs.declared.ObjKey.{ObjKey}
use Rattle.objects.specs.declared.PackageKey.{PackageKey}
use Rattle.objects.specs.declared.Dir.{Dir}
use Rattle.objects.specs.Table.{Table, obj_key, package_key, size, member_count, Member, Kind, Basic, Array, Slice, Pointer, Map, Chan, Tuple, Func, Struct, Iface, Named, is_named, refs, members_of, kind_at}
use Rattle.text.specs.Bytes.{same_bytes}
use Rattle.rules.specs.Load.{load, loaded}

-- ---- packages: "a library that grows inserts its new packages in order, and an old package is then known by its path"

-- the place of a path among others: the first that is the same, or behind them
abbrev pub place_among : List Bytes → Bytes → ℕ
place_among [] path = 0
place_among (p ∷ ps) path = cond (same_bytes p path) 0 (suc (place_among ps path))

-- the path of a package
abbrev pub path_at : Table → PackageKey → Bytes
path_at T p = get_or T.packages p.0 []

-- the number in B of the package p of A
abbrev pub known_as : Table → Table → PackageKey → PackageKey
known_as A B p = package_key (place_among B.packages (path_at A p))

-- ---- numbers

-- The new numbers of the old packages, types and members. What a map says of a number that the old table lacks is never asked.
pub record Numbers : Type 0 where
  pub pk : PackageKey → PackageKey
  pub ty : TypeKey → TypeKey
  pub mem : ObjKey → ObjKey

module _ (n : Numbers) where
  abbrev pub carry_pkg : Option PackageKey → Option PackageKey
  carry_pkg = mapped n.pk

  -- "old lines stay, only these numbers changed": an F or M line
  abbrev pub carry_member : Member → Member
  carry_member m = record { key = n.mem m.key; name = m.name; pkg = carry_pkg m.pkg; type = n.ty m.type; entity = m.entity }

  module _ (A : Table) where
    -- an added member: one of the new table that has no old member's new number
    abbrev pub is_added : ObjKey → Bool
    is_added k = not (any (λ m. eqb (n.mem (obj_key m)).0 k.0) (up_to (member_count A)))

    -- lines that are all added
    abbrev pub Added : List Member → Type 0
    Added ms = any (λ m. not (is_added m.key)) ms ≡ false

    -- "a struct that no old line refers to, except the T line of at most one named type"
    pub record Free (t : TypeKey) : Type 0 where
      pub unreferred : (x : TypeKey) → In t (refs (kind_at A x)) → is_named (kind_at A x) ≡ true
      pub one_name : (x y : TypeKey) → In t (refs (kind_at A x)) → In t (refs (kind_at A y)) → x ≡ y
      pub no_member : (x : TypeKey) (m : Member) → In m (members_of (kind_at A x)) → m.type ≡ t → ⊥

    -- what the T line of t and the lines under it may become: the same line with its numbers changed, and
    -- "a type's old members come first and in order"; "Added are .. at the end M lines of a named type and F lines of a struct .."
    pub data Grew (t : TypeKey) : Kind → Kind → Type 0 where
      grew-basic : {k : ℕ} → Grew t (Basic k) (Basic k)
      grew-array : {m : ℕ} {e : TypeKey} → Grew t (Array m e) (Array m (n.ty e))
      grew-slice : {e : TypeKey} → Grew t (Slice e) (Slice (n.ty e))
      grew-pointer : {e : TypeKey} → Grew t (Pointer e) (Pointer (n.ty e))
      grew_map : {k e : TypeKey} → Grew t (Map k e) (Map (n.ty k) (n.ty e))
      grew-chan : {d : Dir} {e : TypeKey} → Grew t (Chan d e) (Chan d (n.ty e))
      grew-tuple : {es : List TypeKey} → Grew t (Tuple es) (Tuple (map n.ty es))
      grew-func : {v : Bool} {p r : TypeKey} → Grew t (Func v p r) (Func v (n.ty p) (n.ty r))
      grew-iface : {ms : List Member} → Grew t (Iface ms) (Iface (map carry_member ms))
      grew-struct : {fs : List Member} (more : List Member) → Added more → (more ≡ []) ⊎ Free t → Grew t (Struct fs) (Struct (map carry_member fs ++ more))
      grew-named : {u : TypeKey} {ms : List Member} (more : List Member) → Added more → Grew t (Named u ms) (Named (n.ty u) (map carry_member ms ++ more))

-- B is A with "P lines, T lines with theirs", M lines and F lines added, "whatever mixture was added"
pub record Grown (n : Numbers) (A B : Table) : Type 0 where
  -- "Each old package, type and member has its own number in the new table"
  pub type_in : (t : TypeKey) → t.0 < size A → (n.ty t).0 < size B
  pub type_own : (t u : TypeKey) → t.0 < size A → u.0 < size A → n.ty t ≡ n.ty u → t ≡ u
  pub member_in : (m : ObjKey) → m.0 < member_count A → (n.mem m).0 < member_count B
  pub member_own : (m o : ObjKey) → m.0 < member_count A → o.0 < member_count A → n.mem m ≡ n.mem o → m ≡ o
  -- a package's is that of its path: no other number is left to choose
  pub package_known : (p : PackageKey) → p.0 < length A.packages → n.pk p ≡ known_as A B p
  -- "old lines stay, only these numbers changed": the P lines
  pub paths : (p : PackageKey) → p.0 < length A.packages → In (path_at A p) B.packages
  -- the T lines, with the F and M lines under them
  pub grew : (t : TypeKey) → t.0 < size A → Grew n A t (kind_at A t) (kind_at B (n.ty t))

-- "one claim about two libraries, that is tables on which V says `ok`": both texts load, and the new table is the old one grown
pub record GrownTexts (a b : Bytes) : Type 0 where
  pub old : Table
  pub new : Table
  pub old_loads : load a ≡ loaded old
  pub new_loads : load b ≡ loaded new
  pub numbers : Numbers
  pub grown : Grown numbers old new
