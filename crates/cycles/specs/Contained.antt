-- What refusal 10 finds in rows, and what it leaves behind.
use Rattle.std.specs.Prelude.{◌≡◌, ℕ, ◌<◌}
use Rattle.objects.specs.declared.TypeKey.{TypeKey}
use Rattle.std.specs.declared.option.Option as code
use Rattle.std.specs.Prelude.{None}
use Rattle.objects.specs.Lists.{Bytes}
use Rattle.objects.specs.Rows.{Words, type_count, table_of}
use Rattle.objects.specs.Types.{found}
use Rattle.objects.specs.Laid.{Holds}
use Rattle.rules.specs.Checks.{items, containing}
use Rattle.rules.specs.Stages.{first_item}
use Rattle.rules.specs.Library.{Ranked}
use Rattle.cycles.specs.Contents.{Back}

-- the stage finds the line of the least type that contains itself; where it passes, no type does
pub record Finds (rows : Words) (r : code.Option ℕ) : Type 0 where
  pub line : (text : Bytes) → found r ≡ first_item (table_of text rows) (containing (table_of text rows)) (items (table_of text rows))
  pub clear : r ≡ None → (t : TypeKey) → t.0 < type_count rows → Back rows t → ⊥

-- REFUSAL 10: the line is found, the table stays as it was, and where the stage passes ranks fall along contents.
pub record Contained (rows : Words) (r : code.Option ℕ) (after : Words) : Type 0 where
  pub line : (text : Bytes) → found r ≡ first_item (table_of text rows) (containing (table_of text rows)) (items (table_of text rows))
  pub holds : Holds after (λ text. table_of text rows)
  pub ranked : r ≡ None → (text : Bytes) → Ranked text after
