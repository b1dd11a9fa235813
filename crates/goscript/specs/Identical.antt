-- `identical`, `identical_impl` and `identical_impl_o` of typ.rs on values. The `HashSet` of pairs is the list of those that were inserted; it is handed on
-- by each comparison that gives `true`, and one that gives `false` ends all. Tags are compared (`cmp_tags` is true), and an interface has its full method
-- list (`all_methods` is not None).
use Rattle.std.specs.Prelude.{Bool, true, false, cond, List, [], ◌∷◌, ℕ, zero, suc, ◌+◌, ◌*◌, eqb, length}
use Rattle.std.specs.Bool.{beq}
use Rattle.std.proofs.Math.Option.{Option, none, some}
use Rattle.objects.specs.Lists.{any, head_or, last_or}
use Rattle.text.specs.Bytes.{same_bytes}
use Rattle.objects.specs.declared.TypeKey.{TypeKey}
use Rattle.objects.specs.Table.{Table, size, type_key, same_type, dir_number, bit, is_embedded, tag_of, Member, Kind, Basic, Array, Slice, Pointer, Map, Chan, Tuple, Func, Struct, Iface, Named, kind_number, refs, members_of, kind_at}
use Rattle.rules.specs.Members.{identity_of, id_bytes, same_member}
use Rattle.rules.specs.Identity.{real_type, own_number, Pair, same_pair}

-- What a comparison gives: `true` and the pairs in `dup` after it, `false`, or that it was given too little fuel.
pub data Verdict : Type 0 where
  same : (dup : List Pair) → Verdict
  differ out : Verdict

-- a comparison, from the pairs in `dup` before it
abbrev pub Run : Type 0
Run = List Pair → Verdict

-- a test that needs no `dup`
abbrev pub check : Bool → Run
check b dup = cond b (same dup) differ

abbrev pub onward : Run → Verdict → Verdict
onward b (same dup) = b dup
onward b differ = differ
onward b out = out

-- `a && b`
abbrev pub ◌and◌ : Run → Run → Run
◌and◌ a b dup = onward b (a dup)

infixr 35 ◌and◌
-- `!xs.iter().enumerate().any(|(i, x)| ..)`, asked of lists of one length only: c of each two at the same place, in order
abbrev pub all_same : {A : Type 0} → (A → A → Run) → List A → List A → Run
all_same c [] [] = check true
all_same c [] (b ∷ bs) = check false
all_same c (a ∷ as') [] = check false
all_same c (a ∷ as') (b ∷ bs) = c a b and all_same c as' bs

-- `if dup.get(&pair).is_some() { true } else { dup.insert(pair); .. }`
abbrev pub meet : Pair → Run → Run
meet p body dup = cond (any (same_pair p) dup) (same dup) (body (p ∷ dup))

-- the type that a T line refers to first, and last
abbrev pub first : Kind → TypeKey
first l = head_or (type_key 0) (refs l)

abbrev pub last : Kind → TypeKey
last l = last_or (type_key 0) (refs l)

-- R is `identical_impl`
module _ (T : Table) (R : TypeKey → TypeKey → Run) where
  -- `identical_impl_o`; a member of a table always has its type
  abbrev pub identical_impl_o : Option TypeKey → Option TypeKey → Run
  identical_impl_o none none = check true
  identical_impl_o none (some y) = check false
  identical_impl_o (some x) none = check false
  identical_impl_o (some x) (some y) = λ dup. cond (same_type x y) (same dup) (R x y dup)

  abbrev pub same_field : Member → Member → Run
  same_field f g =
      check (beq (is_embedded f.entity) (is_embedded g.entity))
      and check (same_bytes (tag_of f.entity) (tag_of g.entity))
      and check (same_member T f g)
      and identical_impl_o (some f.type) (some g.type)

  abbrev pub same_var : TypeKey → TypeKey → Run
  same_var v w = identical_impl_o (some v) (some w)

  -- `ox.id(objs) != oy.id(objs)` or other types
  abbrev pub same_method : Member → Member → Run
  same_method a b = check (same_bytes (id_bytes (identity_of T a)) (id_bytes (identity_of T b))) and identical_impl_o (some a.type) (some b.type)

  -- `match (tx, ty)` where both are of one kind: x's by its form, y's by what its T line says. `own_number` is there the array's length, the direction, the
  -- mark of a variadic function, the number of fields, of variables or of methods, a basic type's `real_type`, and a named type's key: `nx.obj()` is one for
  -- each named type.
  unfoldable pub arm : TypeKey → Kind → TypeKey → Kind → Run
  arm x (Basic k) y l = check (eqb (real_type k) (own_number y l))
  arm x (Array n e) y l = check (eqb n (own_number y l)) and R e (first l)
  arm x (Slice e) y l = R e (first l)
  arm x (Pointer e) y l = R e (first l)
  arm x (Map k e) y l = R k (first l) and R e (last l)
  arm x (Chan d e) y l = check (eqb (dir_number d) (own_number y l)) and R e (first l)
  arm x (Tuple es) y l = check (eqb (length es) (own_number y l)) and all_same same_var es (refs l)
  arm x (Func v p r) y l = check (eqb (bit v) (own_number y l)) and R p (first l) and R r (last l)
  arm x (Struct fs) y l = check (eqb (length fs) (own_number y l)) and all_same same_field fs (members_of l)
  arm x (Iface ms) y l = check (eqb (length ms) (own_number y l)) and meet (record { left = x; right = y }) (all_same same_method ms (members_of l))
  arm x (Named u ms) y l = check (eqb x.0 (own_number y l))

module _ (T : Table) where
  -- at most n calls inside each other
  unfoldable pub identical_impl : ℕ → TypeKey → TypeKey → Run
  identical_impl zero x y = λ dup. out
  identical_impl (suc n) x y = λ dup. cond (same_type x y) (same dup)
      ((check (eqb (kind_number (kind_at T x)) (kind_number (kind_at T y))) and arm T (identical_impl n) x (kind_at T x) y (kind_at T y)) dup)

  -- How many calls are inside each other at most: an interface pair is entered once, and between two of them type numbers fall.
  abbrev pub enough_calls : ℕ
  enough_calls = suc (size T * size T * suc (size T) + size T)

-- `identical` gives a bool, unless the fuel is out
abbrev pub answer : Verdict → Option Bool
answer (same dup) = some true
answer differ = some false
answer out = none

abbrev pub is_yes : Option Bool → Bool
is_yes none = false
is_yes (some b) = b

-- `identical`
abbrev pub identical_answer : Table → ℕ → TypeKey → TypeKey → Option Bool
identical_answer T n x y = answer (identical_impl T n x y [])

-- `identical` with so many calls that it never runs out (`identical-is-goscript`): what the functions of lookup.rs call
unfoldable pub identical_types : Table → TypeKey → TypeKey → Bool
identical_types T x y = is_yes (identical_answer T (enough_calls T) x y)
