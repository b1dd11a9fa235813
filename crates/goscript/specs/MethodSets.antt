-- `MethodSet::new` on values, its loops as folds, with `add_to_method_set` and `add_to_field_set`. An EmbeddedType is a walk (typ, indices, indirect) and
-- `multiples`; a Selection holds what the loop puts into it.
use Rattle.std.specs.Prelude.{Bool, true, cond, not, ◌&&◌, ◌||◌, ℕ, zero, suc}
use mathlib.Core.List.{List, [], ◌∷◌, ◌++◌, foldl}
use Rattle.std.proofs.Math.Option.{Option, none, some}
use Rattle.objects.specs.Lists.{any, flat}
use Rattle.objects.specs.declared.TypeKey.{TypeKey}
use Rattle.objects.specs.Table.{Table, same_type, has_ptr, is_embedded, Member, Kind, is_struct, is_iface, is_named, members_of, kind_at, under, bare, pointer_at}
use Rattle.rules.specs.Members.{identity_of}
use Rattle.rules.specs.Ways.{Place, places_from, start, along}
use Rattle.rules.specs.MethodSet.{ascending}
use Rattle.ways.specs.Levels.{EmbeddedType, at, raw}
use Rattle.goscript.specs.Maps.{Map, insert, get, contains, keys, insert_new}
use Rattle.goscript.specs.Consolidate.{consolidate_multiples}

pub record Selection : Type 0 where
  pub obj : Member
  pub indices : List ℕ
  pub indirect : Bool

pub data MethodCollision : Type 0 where
  method : Selection → MethodCollision
  collision : MethodCollision

pub data FieldCollision : Type 0 where
  var : Member → FieldCollision
  collided : FieldCollision

-- what goes through the types of one level
pub record Visit : Type 0 where
  pub seen : List TypeKey
  pub mset : Map MethodCollision
  pub fset : Map FieldCollision
  pub next : List EmbeddedType

-- of a key of mset, whether a field has it too: what goes into mset_base
abbrev pub method_in : Option MethodCollision → Bool → Option MethodCollision
method_in none field = none
method_in (some m) field = some (cond field collision m)

-- of a key of fset: "Multiple fields with matching names collide at this depth and shadow all entries further down"
abbrev pub field_in : Option FieldCollision → Option MethodCollision
field_in none = none
field_in (some (var f)) = none
field_in (some collided) = some collision

-- `filter_map`
abbrev pub selected : Option MethodCollision → List Selection
selected none = []
selected (some (method s)) = s ∷ []
selected (some collision) = []

module _ (T : Table) where
  -- one turn of `add_to_method_set`
  abbrev pub add_method : EmbeddedType → Bool → Map MethodCollision → Place → Map MethodCollision
  add_method et indirect set p =
      insert (identity_of T p.member)
      (cond (not et.multiples && (not (contains set (identity_of T p.member)) && (indirect || not (has_ptr p.member.entity))))
      (method (record { obj = p.member; indices = et.walk.places ++ (p.place ∷ []); indirect = indirect }))
      collision) set

  abbrev pub add_to_method_set : EmbeddedType → Bool → Map MethodCollision → List Member → Map MethodCollision
  add_to_method_set et indirect set ms = foldl (add_method et indirect) set (places_from 0 ms)

  abbrev pub add_to_field_set : EmbeddedType → Map FieldCollision → Place → Map FieldCollision
  add_to_field_set et set f =
      insert (identity_of T f.member)
      (cond (not et.multiples && not (contains set (identity_of T f.member))) (var f.member) collided) set

  -- ---- for et in current.iter()

  abbrev pub embed_in : EmbeddedType → Place → EmbeddedType
  embed_in et f = record { walk = along T et.walk f; multiples = et.multiples }

  abbrev pub visit_field : EmbeddedType → Visit → Place → Visit
  visit_field et st f =
      record {
        seen = st.seen;
        mset = st.mset;
        fset = add_to_field_set et st.fset f;
        next = st.next ++ cond (is_embedded f.member.entity) (embed_in et f ∷ []) [];
      }

  abbrev pub with_methods : EmbeddedType → Bool → List Member → Visit → Visit
  with_methods et indirect ms st = record { seen = st.seen; mset = add_to_method_set et indirect st.mset ms; fset = st.fset; next = st.next }

  -- `match tobj`
  abbrev pub visit_under : EmbeddedType → Kind → Visit → Visit
  visit_under et k st =
      cond (is_struct k) (foldl (visit_field et) st (places_from 0 (members_of k)))
      (cond (is_iface k) (with_methods et true (members_of k) st)
      st)

  abbrev pub saw : EmbeddedType → Visit → Visit
  saw et st = record { seen = at et ∷ st.seen; mset = st.mset; fset = st.fset; next = st.next }

  abbrev pub visit : Visit → EmbeddedType → Visit
  visit st et =
      cond (is_named (kind_at T (at et)))
      (cond (any (λ v. same_type v (at et)) st.seen) st
      (visit_under et (kind_at T (under T (at et))) (with_methods et et.walk.flag (members_of (kind_at T (at et))) (saw et st))))
      (visit_under et (kind_at T (under T (at et))) st)

  abbrev pub visit_all : List TypeKey → List EmbeddedType → Visit
  visit_all seen current = foldl visit (record { seen = seen; mset = []; fset = []; next = [] }) current

  -- ---- the end of a level

  -- "Add methods and collisions at this depth to base if no entries with matching names exist already."
  abbrev pub add_methods : Visit → Map MethodCollision → Map MethodCollision
  add_methods st base = foldl (λ b k. insert_new k (method_in (get st.mset k) (contains st.fset k)) b) base (keys st.mset)

  abbrev pub add_collisions : Visit → Map MethodCollision → Map MethodCollision
  add_collisions st base = foldl (λ b k. insert_new k (field_in (get st.fset k)) b) base (keys st.fset)

  -- `list.sort_by(|a, b| a.id().cmp(b.id()))`: the methods of a map by the ids of their keys
  abbrev pub sorted : Map MethodCollision → List Selection
  sorted set = flat (λ q. selected (get set q)) (ascending T (keys set))

-- `out` is what a loop would give that had not ended after k turns (see `enough_turns`).
module _ (T : Table) (out : Map MethodCollision) where
  -- while !current.is_empty()
  abbrev pub base : ℕ → List TypeKey → Map MethodCollision → List EmbeddedType → Map MethodCollision
  base zero seen set [] = set
  base zero seen set (et ∷ current) = out
  base (suc k) seen set [] = set
  base (suc k) seen set (et ∷ current) =
      base k (visit_all T seen (et ∷ current)).seen
      (add_collisions T (visit_all T seen (et ∷ current)) (add_methods T (visit_all T seen (et ∷ current)) set))
      (consolidate_multiples T (visit_all T seen (et ∷ current)).next)

  -- "*typ where typ is an interface has no methods."
  abbrev pub new_method_set : ℕ → TypeKey → List Selection
  new_method_set k t =
      cond (pointer_at T t && is_iface (kind_at T (bare T t))) []
      (sorted T (base k [] [] (raw (start T t) ∷ [])))
