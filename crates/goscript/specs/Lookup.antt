-- `lookup_field_or_method` and `lookup_field_or_method_impl` on values, each loop as a fold and each early return as a value. A name and the package it is
-- asked from are an identity, which `same-id` compares; an EmbeddedType is a walk (typ, indices, indirect) and `multiples`.
use Rattle.std.specs.Prelude.{Bool, true, false, cond, not, ◌&&◌, ◌||◌, ℕ, zero, suc, ◌+◌}
use mathlib.Core.List.{List, [], ◌∷◌, ◌++◌, foldl}
use Rattle.std.proofs.Math.Option.{Option, none, some}
use Rattle.objects.specs.Lists.{any}
use Rattle.text.specs.Bytes.{is_blank}
use Rattle.objects.specs.declared.TypeKey.{TypeKey}
use Rattle.objects.specs.Table.{Table, size, same_type, is_method, is_embedded, has_ptr, Member, Kind, is_struct, is_iface, is_named, members_of, kind_at, under, bare, pointer_at, iface_under, named_pointer}
use Rattle.rules.specs.Members.{Identity, identity_of, same_id}
use Rattle.rules.specs.Ways.{Place, places_from, Way, places_of, member_of, start, along}
use Rattle.ways.specs.Levels.{EmbeddedType, at, raw}
use Rattle.goscript.specs.Consolidate.{consolidate_multiples}

-- "the result of lookup_field_or_method"
pub data LookupResult : Type 0 where
  Entry : Member → (indices : List ℕ) (indirect : Bool) → LookupResult
  Ambiguous : (indices : List ℕ) → LookupResult
  BadMethodReceiver NotFound : LookupResult

-- What a turn of the while carries as it goes through `current`. `target`, `indices` and `indirect` are set together: the way that was found.
pub record Scan : Type 0 where
  pub seen : List TypeKey
  pub target : Option Way
  pub next : List EmbeddedType

-- `lookup_on_found!` may return from the function
pub data Turn : Type 0 where
  returned : (indices : List ℕ) → Turn
  going : Scan → Turn

abbrev pub is_none : Option Way → Bool
is_none none = true
is_none (some w) = false

abbrev pub way_of : EmbeddedType → Place → Way
way_of et p = record { walk = et.walk; last = p }

-- `lookup_on_found!`
abbrev pub on_found : EmbeddedType → Place → Scan → Turn
on_found et p st =
    cond (not (is_none st.target) || et.multiples)
    (returned (places_of (way_of et p)))
    (going (record { seen = st.seen; target = some (way_of et p); next = st.next }))

abbrev pub if_found : EmbeddedType → Scan → Option Place → Turn → Turn
if_found et st (some p) other = on_found et p st
if_found et st none other = other

-- the kinds that are pushed: "Named(_) | Struct(_) | Interface(_)"
abbrev pub searchable : Kind → Bool
searchable k = is_named k || is_struct k || is_iface k

module _ (T : Table) (asked : Identity) where
  -- `same-id`
  abbrev pub matches : Place → Bool
  matches p = same_id (identity_of T p.member) asked

  abbrev pub first_match : List Place → Option Place
  first_match [] = none
  first_match (p ∷ ps) = cond (matches p) (some p) (first_match ps)

  -- `lookup_method`
  abbrev pub lookup_method : List Member → Option Place
  lookup_method ms = cond (is_blank asked.name) none (first_match (places_from 0 ms))

  -- ---- for et in current.iter()

  -- "Collect embedded struct fields for searching the next lower depth, but only if we have not seen a match yet"
  abbrev pub pushes : Scan → Place → Bool
  pushes st f = is_none st.target && is_embedded f.member.entity && searchable (kind_at T (bare T f.member.type))

  abbrev pub embed : EmbeddedType → Place → EmbeddedType
  embed et f = record { walk = along T et.walk f; multiples = et.multiples }

  abbrev pub pushed : EmbeddedType → Scan → Place → Scan
  pushed et st f = record { seen = st.seen; target = st.target; next = st.next ++ cond (pushes st f) (embed et f ∷ []) [] }

  -- one turn of the loop over a struct's fields
  abbrev pub visit_field : EmbeddedType → Turn → Place → Turn
  visit_field et (returned indices) f = returned indices
  visit_field et (going st) f = cond (matches f) (on_found et f st) (going (pushed et st f))

  -- `match tobj`, where tobj is the type itself or, of a named type, its underlying type
  abbrev pub visit_under : EmbeddedType → Kind → Scan → Turn
  visit_under et k st =
      cond (is_struct k) (foldl (visit_field et) (going st) (places_from 0 (members_of k)))
      (cond (is_iface k) (if_found et st (lookup_method (members_of k)) (going st))
      (going st))

  -- `seen_mut.insert(et.typ)`
  abbrev pub saw : EmbeddedType → Scan → Scan
  saw et st = record { seen = at et ∷ st.seen; target = st.target; next = st.next }

  abbrev pub visit : Turn → EmbeddedType → Turn
  visit (returned indices) et = returned indices
  visit (going st) et =
      cond (is_named (kind_at T (at et)))
      (cond (any (λ v. same_type v (at et)) st.seen) (going st)
      (if_found et (saw et st) (lookup_method (members_of (kind_at T (at et)))) (visit_under et (kind_at T (under T (at et))) (saw et st))))
      (visit_under et (kind_at T (under T (at et))) st)

  -- ---- while !current.is_empty()

  abbrev pub scanned : List TypeKey → List EmbeddedType → Turn
  scanned seen current = foldl visit (going (record { seen = seen; target = none; next = [] })) current

-- "found a potential match"
abbrev pub potential_match : Bool → Way → LookupResult
potential_match addressable w =
    cond (is_method (member_of w).entity && has_ptr (member_of w).entity && not w.walk.flag && not addressable) BadMethodReceiver
    (Entry (member_of w) (places_of w) w.walk.flag)

-- `if let Some(okey) = target`
abbrev pub answered : Bool → Option Way → LookupResult → LookupResult
answered addressable (some w) other = potential_match addressable w
answered addressable none other = other

-- the end of a turn; `on` is what the turns after it give
abbrev pub ended : Bool → (Scan → LookupResult) → Turn → LookupResult
ended addressable on (returned indices) = Ambiguous indices
ended addressable on (going st) = answered addressable st.target (on st)

-- How many turns of its while each loop needs at most: a named type is entered once, and a type without a name leads to smaller numbers.
abbrev pub enough_turns : Table → ℕ
enough_turns T = suc (size T + suc (size T))

-- `if let LookupResult::Entry(okey, _, _) = &re`: "discard the result if it is a method"
abbrev pub discard_method : LookupResult → LookupResult
discard_method (Entry m indices indirect) = cond (is_method m.entity) NotFound (Entry m indices indirect)
discard_method (Ambiguous indices) = Ambiguous indices
discard_method BadMethodReceiver = BadMethodReceiver
discard_method NotFound = NotFound

-- `out` is what a loop would give that had not ended after k turns. From `enough_turns` on it is never given, whatever it is.
module _ (T : Table) (asked : Identity) (out : LookupResult) where
  abbrev pub turns : Bool → ℕ → List TypeKey → List EmbeddedType → LookupResult
  turns addressable zero seen [] = NotFound
  turns addressable zero seen (et ∷ current) = out
  turns addressable (suc k) seen [] = NotFound
  turns addressable (suc k) seen (et ∷ current) =
      ended addressable (λ st. turns addressable k st.seen (consolidate_multiples T st.next)) (scanned T asked seen (et ∷ current))

  -- ---- the two functions

  abbrev pub lookup_impl : ℕ → TypeKey → Bool → LookupResult
  lookup_impl k t addressable =
      cond (is_blank asked.name) NotFound
      (cond (pointer_at T t && iface_under T (bare T t)) NotFound
      (turns addressable k [] (raw (start T t) ∷ [])))

  -- "if we have a named pointer type, proceed with the underlying pointer type"
  abbrev pub lookup_field_or_method : ℕ → TypeKey → Bool → LookupResult
  lookup_field_or_method k t addressable =
      cond (named_pointer T t) (discard_method (lookup_impl k (under T t) false))
      (lookup_impl k t addressable)
