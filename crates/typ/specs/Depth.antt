-- How deep the cycle of calls of `identical` nests. `level` counts the calls of `identical_impl` that a call stands below; each call must show it smaller
-- than `deepest`, so that no more levels are ever nested. What a call must show beside it is there to be handed on: that the types below have room too.
use Rattle.std.specs.Prelude.{◌≡◌, ◌⊎◌, ℕ, ◌+◌, ◌<◌}
use Rattle.objects.specs.declared.TypeKey.{TypeKey}
use Rattle.objects.specs.Bounds.{max_types}
use Rattle.objects.specs.Rows.{Words}
use Rattle.objects.specs.Types.{number_read}
use Rattle.type_parts.specs.Parts.{part_count, part_at}

-- a pair of interfaces is opened above this level, and put off from it on
abbrev pub open_levels : ℕ
open_levels = 250

-- From there on no interfaces are opened, and the numbers of all other types fall: a level for each type at most.
abbrev pub deepest : ℕ
deepest = open_levels + max_types

module _ (rows : Words) where
  -- x has room below it: as many levels as its number says, or it is an interface or a named type, whose pairs are put off or told at once
  unfoldable pub Fits : TypeKey → ℕ → Type 0
  Fits x level = (level + x.0 < deepest) ⊎ ((number_read rows x ≡ 10) ⊎ (number_read rows x ≡ 9))

  -- x and y have; their parts have
  abbrev pub Within : TypeKey → TypeKey → ℕ → Type 0
  Within x y level = Fits x level × Fits y level

  unfoldable pub PartsWithin : TypeKey → TypeKey → ℕ → Type 0
  PartsWithin x y level = (i : ℕ) → i < part_count rows x → Within (part_at rows x i) (part_at rows y i) level
