-- How the list of methods of an interface is read off the rows: from position to position. What is read in this way is `all_methods` (`List-read`,
-- proofs/ReadLaws.antt). Who reads a list uses that law and the steps of `Reads`, and not where positions lie.
use Rattle.std.specs.Prelude.{◌≡◌, List, [], ◌∷◌, map, ℕ, ◌+◌, ◌≤◌, ◌<◌}
use Rattle.objects.specs.Lists.{Bytes, In}
use Rattle.objects.specs.declared.TypeKey.{TypeKey}
use Rattle.objects.specs.declared.ObjKey.{ObjKey}
use Rattle.objects.specs.Table.{obj_key, all_methods}
use Rattle.objects.specs.Rows.{Words, member_count_of, member_at, table_of}
use Rattle.objects.specs.Types.{first_read, total_read}

module _ (rows : Words) (i : TypeKey) where
  unfoldable pub first_position : ℕ
  first_position = 0

  unfoldable pub positions_end : ℕ
  positions_end = total_read rows i

  unfoldable pub next_position : ℕ → ℕ
  next_position at = at + 1

  unfoldable pub method_at : ℕ → ObjKey
  method_at at = obj_key (first_read rows i + at)

  -- the methods that are read from a position on
  abbrev pub Reads : ℕ → List ObjKey → Type 0
  Reads at [] = positions_end ≤ at
  Reads at (m ∷ ms) = (at < positions_end) × (m ≡ method_at at) × Reads (next_position at) ms

-- All methods of the list of i, read from the first position on: they are members of the table, and the list of i.
pub record ListRead (text : Bytes) (rows : Words) (i : TypeKey) : Type 0 where
  pub methods : List ObjKey
  pub reads : Reads rows i (first_position rows i) methods
  pub are : map (member_at text rows) methods ≡ all_methods (table_of text rows) i
  pub known : (m : ObjKey) → In m methods → m.0 < member_count_of rows
