-- What the code of refusal 9 knows on its way: paths ascend, as the table passed 14, each member's package is one that the table has, as it passed 7, and the
-- methods above a line of an interface ascend, as their lines passed.
use Rattle.std.specs.Prelude.{◌≡◌, true, ℕ, ◌+◌, ◌<◌}
use Rattle.objects.specs.declared.TypeKey.{TypeKey}
use Rattle.objects.specs.Lists.{Bytes, Sorted}
use Rattle.objects.specs.Table.{obj_key, has_package}
use Rattle.objects.specs.Rows.{Words, type_count, member_at, members_from, table_of}
use Rattle.objects.specs.Types.{number_read, first_read}
use Rattle.rules.specs.Sound.{Ordered, Lower}
use Rattle.references.specs.Lines.{lines_read}

-- n members from a first one on
abbrev pub PackagedFrom : Bytes → Words → ℕ → ℕ → Type 0
PackagedFrom text rows first n = (i : ℕ) → i < n → has_package (table_of text rows) (member_at text rows (obj_key (first + i))).pkg ≡ true

pub record Packaged (text : Bytes) (rows : Words) : Type 0 where
  pub ordered : Ordered (table_of text rows)
  pub under : (t : TypeKey) → t.0 < type_count rows → PackagedFrom text rows (first_read rows t) (lines_read rows t)

-- the first i methods under t, if it is an interface (9)
abbrev pub Rising : Bytes → Words → TypeKey → ℕ → Type 0
Rising text rows t i = number_read rows t ≡ 9 → Sorted (Lower (table_of text rows)) (members_from text rows (first_read rows t) i)
