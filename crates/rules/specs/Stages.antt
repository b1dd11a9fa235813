-- A stage of loading by what it finds: the line of the first item that fails its test. Items are whatever the stage judges, each with its line of the text, so that
-- a stage more is a list of items and one line in `checked` (Load.antt). Code answers what a stage finds.
use Rattle.std.specs.Prelude.{Bool, true, false, List, [], ◌∷◌, ℕ}
use Rattle.std.proofs.Math.Option.{Option, none, some}
use Rattle.objects.specs.Lists.{Bytes}
use Rattle.objects.specs.declared.TypeKey.{TypeKey}
use Rattle.objects.specs.Table.{Table, Kind, members_of}
use Rattle.rules.specs.Checks.{unordered, path_items, Item, type_item, member_items, line_of_item}

-- a refusal "names its first line"
unfoldable pub first_line : {A : Type 0} → (A → ℕ) → (A → Bool) → List A → Option ℕ
first_line line bad [] = none
first_line line bad (i ∷ is) = elim (bad i) [
  | true ↦ some (line i)
  | false ↦ first_line line bad is
]

-- the first of two that is there
unfoldable pub or_else : Option ℕ → Option ℕ → Option ℕ
or_else none b = b
or_else (some a) b = some a

-- ---- P lines

-- "at the first line that fails to ascend"
abbrev pub first_unordered : List Bytes → Option ℕ
first_unordered paths = first_line (λ i. i.line) unordered (path_items paths)

-- ---- T, F and M lines

-- the first of them that fails a test
abbrev pub first_item : Table → (Item → Bool) → List Item → Option ℕ
first_item T bad is = first_line (line_of_item T) bad is

-- the F or M lines under the T line of t, which is of kind k
unfoldable pub lines_under : TypeKey → Kind → List Item
lines_under t k = member_items t k [] (members_of k)

-- its T line and those under it
unfoldable pub lines_of : TypeKey → Kind → List Item
lines_of t k = type_item t k ∷ lines_under t k
