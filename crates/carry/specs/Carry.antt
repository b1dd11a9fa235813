-- Answers carried along a map of tables (specs/Maps.antt): types by f, and a member to the same place in the type that stands for its own. Questions are carried by
-- `carry_question` of crate edits.
use Rattle.std.specs.Prelude.{◌≡◌, cond, List, [], ◌∷◌, map, ℕ, eqb, get_or}
use Rattle.objects.specs.declared.TypeKey.{TypeKey}
use Rattle.objects.specs.Table.{Table, type_key, Member, fields_of, kind_at, under, bare}
use Rattle.rules.specs.Ways.{Place, Walk, Way, owned, searched_as, Selected, notfound, badreceiver, entry, ambiguous}
use Rattle.rules.specs.Missing.{Lack}
use Rattle.rules.specs.Question.{Question, ask_s, ask_m, ask_n, ask_i, ask_c, ask_v}
use Rattle.rules.specs.Answer.{Answer, selected, set, satisfied, lacks, says, counts, Sel}

-- ---- members

-- the one that stands in the second list where m stands in the first
abbrev pub beside : Member → List Place → List Place → Member
beside m [] ns = m
beside m (o ∷ os) [] = m
beside m (o ∷ os) (n ∷ ns) = cond (eqb o.member.key.0 m.key.0) n.member (beside m os ns)

module _ (T : Table) where
  -- the type that a way ends in, from the type t on, by its places: all but the last are places of fields, each of the type that the field before leads to
  abbrev pub end_from : TypeKey → List ℕ → TypeKey
  end_from t [] = t
  end_from t (i ∷ []) = t
  end_from t (i ∷ j ∷ places) = end_from (bare T (get_or (map (λ m. m.type) (fields_of (kind_at T (under T t)))) i t)) (j ∷ places)

  -- .. that is found for the type t of a question: "A way starts at t, one pointer removed"
  abbrev pub end_of : TypeKey → List ℕ → TypeKey
  end_of t places = end_from (bare T (searched_as T t)) places

module _ (T U : Table) where
  -- m is a member that the type e of T owns (a named type's method, a field of its struct, a method of its interface): the one that stands at its place in the type d of U
  unfoldable pub counterpart : TypeKey → TypeKey → Member → Member
  counterpart e d m = beside m (owned T e) (owned U d)

  -- ---- walks and ways: the same places and flag, types that stand for the old ones, and the last member at the same place

  module _ (R : TypeKey → TypeKey → Type 0) where
    pub record CarriedWalk (w v : Walk) : Type 0 where
      pub places : v.places ≡ w.places
      pub at : R w.at v.at
      pub flag : v.flag ≡ w.flag

    pub record CarriedWay (w v : Way) : Type 0 where
      pub walk : CarriedWalk w.walk v.walk
      pub place : v.last.place ≡ w.last.place
      pub member : v.last.member ≡ counterpart w.walk.at v.walk.at w.last.member

  -- ---- answers for t of T, as U gives them for u: only members change, each to the one at the same place in the type that the carried way ends in

  abbrev pub carry_entry : TypeKey → TypeKey → List ℕ → Member → Member
  carry_entry t u places m = counterpart (end_of T t places) (end_of U u places) m

  abbrev pub carry_selected : TypeKey → TypeKey → Selected → Selected
  carry_selected t u notfound = notfound
  carry_selected t u badreceiver = badreceiver
  carry_selected t u (entry m flag places) = entry (carry_entry t u places m) flag places
  carry_selected t u (ambiguous first second) = ambiguous first second

  abbrev pub carry_sel : TypeKey → TypeKey → Sel → Sel
  carry_sel t u s = record { member = carry_entry t u s.places s.member; flag = s.flag; places = s.places }

  -- a method of the interface i, as j has it
  abbrev pub carry_lack : TypeKey → TypeKey → Lack → Lack
  carry_lack i j l = record { member = counterpart i j l.member; w = l.w }

  abbrev pub carry_found : TypeKey → TypeKey → Answer → Answer
  carry_found t u (selected s) = selected (carry_selected t u s)
  carry_found t u (set ss) = set (map (carry_sel t u) ss)
  carry_found t u satisfied = satisfied
  carry_found t u (lacks m w) = lacks (counterpart t u m) w
  carry_found t u (says b) = says b
  carry_found t u (counts packages types members) = counts packages types members

-- where an answer's members are found from: S and M look from t on, N names methods of i
abbrev pub asked_from : Question → TypeKey
asked_from (ask_s t a pkg name) = t
asked_from (ask_m t) = t
asked_from (ask_c t) = t
asked_from (ask_n t i s) = i
asked_from (ask_i x y) = x
asked_from ask_v = type_key 0

abbrev pub carry_answer : (f : TypeKey → TypeKey) (T U : Table) → Question → Answer → Answer
carry_answer f T U q a = carry_found T U (asked_from q) (f (asked_from q)) a
