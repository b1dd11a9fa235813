-- S: selection by ways. All walks through embedded fields, the ways that they make with a last member, the shortest of these, and what they give.
use Rattle.std.specs.Prelude.{Bool, true, false, cond, not, ◌&&◌, ◌||◌, List, [], ◌∷◌, ◌++◌, map, ℕ, zero, suc}
use Rattle.objects.specs.Lists.{any, keep, flat}
use Rattle.text.specs.Bytes.{is_blank}
use Rattle.objects.specs.declared.TypeKey.{TypeKey}
use Rattle.objects.specs.declared.ObjKey.{ObjKey}
use Rattle.objects.specs.Table.{Table, same_type, size, is_method, is_embedded, has_ptr, Member, fields_of, declared_of, kind_at, under, bare, pointer_at, iface_under, named_pointer, all_methods}
use Rattle.rules.specs.Members.{Identity, identity_of, same_id}
use Rattle.rules.specs.Chains.{once}

-- a member at its place in the list that it stands in
pub record Place : Type 0 where
  pub place : ℕ
  pub member : Member

abbrev pub places_from : ℕ → List Member → List Place
places_from n [] = []
places_from n (m ∷ ms) = record { place = n; member = m } ∷ places_from (suc n) ms

-- Embedded fields taken from the start on: their places, the members used, the type that the walk stands at, and the flag, true if a pointer was removed.
pub record Walk : Type 0 where
  pub places : List ℕ
  pub used : List ObjKey
  pub at : TypeKey
  pub flag : Bool

-- A way: a walk, and a member of the type that stands at its end.
pub record Way : Type 0 where
  pub walk : Walk
  pub last : Place

abbrev pub places_of : Way → List ℕ
places_of w = w.walk.places ++ (w.last.place ∷ [])

abbrev pub member_of : Way → Member
member_of w = w.last.member

pub data Selected : Type 0 where
  notfound badreceiver : Selected
  entry : Member → (flag : Bool) (places : List ℕ) → Selected
  ambiguous : (first second : List ℕ) → Selected

-- the answer is `ambiguous`, whatever ways it shows
abbrev pub is_ambiguous : Selected → Bool
is_ambiguous notfound = false
is_ambiguous badreceiver = false
is_ambiguous (entry m flag places) = false
is_ambiguous (ambiguous first second) = true

-- the places of each way that the answer shows
abbrev pub given : Selected → List (List ℕ)
given notfound = []
given badreceiver = []
given (entry m flag places) = places ∷ []
given (ambiguous first second) = first ∷ second ∷ []

-- "`entry`, member, flag, places. But `badreceiver` if it is a method with pointer receiver, the flag is 0 and a is 0."
abbrev pub received : (a : Bool) → Member → (flag : Bool) (places : List ℕ) → Selected
received a m flag places = cond (has_ptr m.entity && not flag && not a) badreceiver (entry m flag places)

-- "One shortest way: .."
abbrev pub single : Bool → Way → Selected
single a w = received a (member_of w) w.walk.flag (places_of w)

-- What the shortest ways give, in the order of their places. Document 02, point 1: "An `ambiguous` answer now carries the first shortest way, and a second
-- line, `and`, carries the next one in the order of places." Which types are identical plays no part.
abbrev pub judged : Bool → List Way → Selected
judged a [] = notfound
judged a (w ∷ []) = single a w
judged a (w ∷ v ∷ rest) = ambiguous (places_of w) (places_of v)

-- "an `entry` that is a method becomes `notfound`"
abbrev pub no_method : Selected → Selected
no_method notfound = notfound
no_method badreceiver = badreceiver
no_method (entry m flag places) = cond (is_method m.entity) notfound (entry m flag places)
no_method (ambiguous first second) = ambiguous first second

module _ (T : Table) where
  -- the fields of the struct that t is or names: "A named type stands also for its u."
  abbrev pub field_places : TypeKey → List Place
  field_places t = places_from 0 (fields_of (kind_at T (under T t)))

  -- "in a named type's methods, a struct's fields or an interface's list"
  unfoldable pub owned : TypeKey → List Place
  owned t = places_from 0 (declared_of (kind_at T t)) ++ field_places t ++ places_from 0 (all_methods T t)

  -- "A way starts at t, one pointer removed"
  abbrev pub start : TypeKey → Walk
  start t = record { places = []; used = []; at = bare T t; flag = pointer_at T t }

  -- "each step takes an embedded field by its place in its struct and removes one pointer"
  abbrev pub along : Walk → Place → Walk
  along w p = record {
    places = w.places ++ (p.place ∷ []);
    used = p.member.key ∷ w.used;
    at = bare T p.member.type;
    flag = w.flag || pointer_at T p.member.type;
  }

  abbrev pub embedded : TypeKey → List Place
  embedded t = keep (λ p. is_embedded p.member.entity) (field_places t)

  unfoldable pub onward : Walk → List Walk
  onward w = map (along w) (embedded w.at)

  -- all walks of d steps from t, in the order of their places
  unfoldable pub walks : TypeKey → ℕ → List Walk
  walks t zero = start t ∷ []
  walks t (suc d) = flat onward (walks t d)

  -- "A t that is itself a named type whose u is a pointer is searched as that pointer"
  abbrev pub searched_as : TypeKey → TypeKey
  searched_as t = cond (named_pointer T t) (under T t) t

  -- the types that one step from a type leads to
  abbrev pub targets : TypeKey → List TypeKey
  targets t = map (λ p. bare T p.member.type) (embedded t)

  module _ (asked : Identity) where
    abbrev pub matching : TypeKey → List Place
    matching t = keep (λ p. same_id (identity_of T p.member) asked) (owned t)

    abbrev pub ends : Walk → List Way
    ends w = map (λ p. record { walk = w; last = p }) (matching w.at)

    -- all ways of d steps and a last place, in the order of their places
    unfoldable pub ways : TypeKey → ℕ → List Way
    ways t d = flat ends (walks t d)

    abbrev pub has_own : TypeKey → Bool
    has_own t = any (λ p. same_id (identity_of T p.member) asked) (owned t)

    -- the ways of the least length that has any, among k lengths from d on; `level` is the types that walks of d steps lead to, each once
    unfoldable pub shortest_from : TypeKey → ℕ → ℕ → List TypeKey → List Way
    shortest_from t zero d level = []
    shortest_from t (suc k) d level = elim (any has_own level) [
      | true ↦ ways t d
      | false ↦ shortest_from t k (suc d) (once same_type (flat targets level))
    ]

    -- "Ways may be of any length": a shortest way comes to no type twice, so it has fewer steps than there are types
    unfoldable pub shortest : TypeKey → List Way
    shortest t = shortest_from t (size T) 0 (bare T t ∷ [])

    -- t that is no named pointer type; "a pointer to any type with an interface under it: `notfound`"
    unfoldable pub searched : TypeKey → Bool → Selected
    searched t a = cond (pointer_at T t && iface_under T (bare T t)) notfound (judged a (shortest t))

    -- S: "`_` ..: `notfound`"; a named pointer type is searched as that pointer, and gives no method
    unfoldable pub select : TypeKey → Bool → Selected
    select t a =
        cond (is_blank asked.name) notfound
        (cond (named_pointer T t) (no_method (searched (under T t) a))
        (searched t a))
