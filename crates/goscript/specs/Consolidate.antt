-- `consolidate_multiples`: "collects multiple list entries with the same type into a single entry marked as containing multiples".
use Rattle.std.specs.Prelude.{true, cond}
use mathlib.Core.List.{List, [], ◌∷◌, foldl}
use Rattle.objects.specs.Table.{Table}
use Rattle.ways.specs.Levels.{EmbeddedType, at}
use Rattle.goscript.specs.Identical.{identical_types}

abbrev pub multiple : EmbeddedType → EmbeddedType
multiple et = record { walk = et.walk; multiples = true }

module _ (T : Table) where
  -- The map from types to places in the result has one type for each entry of the result, and no two are identical; so the entry that `lookup` finds
  -- is the first that is identical to et. It is marked, or else et is pushed.
  abbrev pub consolidated : List EmbeddedType → EmbeddedType → List EmbeddedType
  consolidated [] et = et ∷ []
  consolidated (r ∷ rs) et = cond (identical_types T (at r) (at et)) (multiple r ∷ rs) (r ∷ consolidated rs et)

  abbrev pub consolidate_multiples : List EmbeddedType → List EmbeddedType
  consolidate_multiples list = foldl consolidated [] list
