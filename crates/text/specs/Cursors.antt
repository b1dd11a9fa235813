-- What a cursor has left to read, and what its answers mean: each reader of the code is the reader by fields of the same name.
use Rattle.std.specs.Prelude.{cond, List, [], ◌∷◌, ℕ, zero, suc, ◌+◌, ◌-◌, eqb, take, drop}
use Rattle.std.proofs.Math.Option.{Option, none, some}
use Rattle.objects.specs.Lists.{Bytes, when}
use Rattle.text.specs.declared.Cursor.{Cursor}
use Rattle.text.specs.declared.Part.{Part}
use Rattle.std.specs.declared.option.Option as code
use Rattle.std.specs.Prelude.{Some, None}
use Rattle.text.specs.Bytes.{same_bytes}
use Rattle.text.specs.Lines.{fields}

-- the bytes of the text from one place up to another
unfoldable pub part : Bytes → ℕ → ℕ → Bytes
part s from to = take (to - from) (drop from s)

-- how many bytes stand before the next newline, or the end
unfoldable pub line_length : Bytes → ℕ
line_length [] = zero
line_length (b ∷ s) = cond (eqb b 10) zero (suc (line_length s))

-- where the line that begins at a place ends: at its newline, or at the end of the text
unfoldable pub line_end : Bytes → ℕ → ℕ
line_end s from = from + line_length (drop from s)

-- the fields that a cursor has not read yet
unfoldable pub fields_left : Bytes → Cursor → List Bytes
fields_left s c = cond c.more (fields (part s c.at c.end)) []

-- the fixed word w as the next field, and the fields behind it
unfoldable pub exactly : Bytes → List Bytes → Option (List Bytes)
exactly w [] = none
exactly w (b ∷ fs) = when (same_bytes b w) fs

-- ---- what an answer means

unfoldable pub part_read : Bytes → code.Option Part → Option (Bytes × List Bytes)
part_read s (Some p) = some (part s p.from p.to, fields_left s p.rest)
part_read s None = none

unfoldable pub num_read : Bytes → code.Option (ℕ × Cursor) → Option (ℕ × List Bytes)
num_read s (Some r) = some (r.0, fields_left s r.1)
num_read s None = none

unfoldable pub past_read : Bytes → code.Option Cursor → Option (List Bytes)
past_read s (Some c) = some (fields_left s c)
past_read s None = none
