-- What is asked of a function that writes pieces, one for each number: f says what their texts are.
use Rattle.std.specs.Prelude.{◌≡◌, ℕ, ◌+◌, ◌<◌, ◌≤◌, length}
use Rattle.std.specs.Borrow.{MutBor}
use Rattle.objects.specs.Lists.{Bytes}
use Rattle.print.specs.Written.{Wrote}

module _ (f : ℕ → Bytes) (first count : ℕ) where
  -- it may be called for each of them, with a buffer of so many bytes that has room for the piece
  abbrev pub MayPut : (MutBor Bytes → ℕ → ℕ → Type 0) → ℕ → Type 0
  MayPut pre long = (o : MutBor Bytes) (i k : ℕ) → length o.now ≡ long → first ≤ k → k < first + count → i + length (f k) ≤ long → pre o i k

  -- and then the piece has been written
  abbrev pub Puts : (MutBor Bytes → ℕ → ℕ → ℕ → MutBor Bytes → Type 0) → Type 0
  Puts post = (o : MutBor Bytes) (i k r : ℕ) (o' : MutBor Bytes) → first ≤ k → k < first + count → post o i k r o' → Wrote o.now i (f k) o'.now r
