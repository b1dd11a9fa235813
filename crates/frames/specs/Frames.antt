-- What is said of the next input.
use Rattle.std.specs.Prelude.{ℕ, ◌≤◌, Some, None}
use Rattle.std.specs.declared.option.Option as code

-- an input lies within a buffer of so many bytes
abbrev pub Fits : ℕ → code.Option ℕ → Type 0
Fits room (Some n) = n ≤ room
Fits room None = Unit {0}
