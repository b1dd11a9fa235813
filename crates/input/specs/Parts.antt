-- What the parts of the input mean, and what is said of them.
use Rattle.std.specs.Prelude.{Some, None, ◌≡◌, List, [], ◌∷◌, ℕ, ◌≤◌, ◌<◌, length, take, drop}
use Rattle.std.specs.declared.option.Option.{Option}
use Rattle.objects.specs.Lists.{Bytes}
use Rattle.text.specs.Bytes.{ascii}
use Rattle.text.specs.Lines.{pieces}
use Rattle.text.specs.Cursors.{part}
use Rattle.rules.specs.AskedAll.{question_lines}
use Rattle.rules.specs.Typeask.{Input, input_of}

-- the questions of the input from a place on
unfoldable pub questions_at : Bytes → ℕ → List Bytes
questions_at input at = question_lines (drop at input)

-- "table, a line `Q`, questions (without `Q`, one V)"
unfoldable pub parts_meant : Bytes → Option (ℕ × ℕ) → Input
parts_meant input None = record { table = input; questions = ascii "V" ∷ [] }
parts_meant input (Some (end, next)) = record { table = take end input; questions = questions_at input next }

-- the places lie within the input
abbrev pub parts_within : Bytes → Option (ℕ × ℕ) → Type 0
parts_within input None = Unit {0}
parts_within input (Some (end, next)) = (end ≤ length input) × (next ≤ length input)

pub record Splits (input : Bytes) (r : Option (ℕ × ℕ)) : Type 0 where
  pub says : input_of (pieces input) ≡ parts_meant input r
  pub within : parts_within input r

-- no question, or one and those behind it
unfoldable pub next_meant : Bytes → ℕ → Option (ℕ × ℕ) → List Bytes
next_meant input at None = []
next_meant input at (Some (end, next)) = part input at end ∷ questions_at input next

abbrev pub next_within : Bytes → ℕ → Option (ℕ × ℕ) → Type 0
next_within input at None = Unit {0}
next_within input at (Some (end, next)) = (at ≤ end) × (end ≤ length input) × (at < next) × (next ≤ length input)

pub record Follows (input : Bytes) (at : ℕ) (r : Option (ℕ × ℕ)) : Type 0 where
  pub says : questions_at input at ≡ next_meant input at r
  pub within : next_within input at r
