-- What one pass over a field finds: the run of bytes that pass a test, and what stands behind it. Each is a definition that a step of the code equals.
use Rattle.std.specs.Prelude.{◌≡◌, Bool, true, false, cond, not, ◌&&◌, List, [], ◌∷◌, ℕ, zero, suc, ◌+◌, ◌-◌, ◌*◌, ◌≤◌, ◌<◌, eqb, leb, length}
use Rattle.std.proofs.Math.Option.{Option}
use Rattle.objects.specs.Lists.{Bytes, every, head_or, when}
use Rattle.text.specs.declared.Cursor.{Cursor}
use Rattle.text.specs.declared.Part.{Part}
use Rattle.std.specs.declared.option.Option as code
use Rattle.std.specs.Prelude.{Some, None}
use Rattle.text.specs.Bytes.{between, sized, is_digit, value_from}
use Rattle.text.specs.Lines.{fields}
use Rattle.text.specs.Readers.{field}
use Rattle.text.specs.Cursors.{part}

-- any byte but the separator
unfoldable pub other : ℕ → ℕ → Bool
other sep b = not (eqb b sep)

-- how many bytes from the front pass the test
unfoldable pub run_length : (ℕ → Bool) → Bytes → ℕ
run_length p [] = zero
run_length p (b ∷ l) = cond (p b) (suc (run_length p l)) zero

-- where they end, from one place of the text up to another
unfoldable pub run_end : (ℕ → Bool) → Bytes → ℕ → ℕ → ℕ
run_end p s at end = at + run_length p (part s at end)

-- an end that lies within the text
unfoldable pub stop_at : Bytes → ℕ → ℕ
stop_at s end = cond (leb end (length s)) end (length s)

-- r says whether the separator is one of the n bytes from i on, as part of a run up to whatever end lies behind them: the run ends among them, or, where it
-- is none of them, it goes on behind them
pub record Met (s : Bytes) (i n sep : ℕ) (r : Bool) : Type 0 where
  pub yes : (end : ℕ) → i + n ≤ stop_at s end → r ≡ true → run_end (other sep) s i end < i + n
  pub no : (end : ℕ) → i + n ≤ stop_at s end → r ≡ false → run_end (other sep) s i end ≡ run_end (other sep) s (i + n) end

-- what a test answers, by what is known of its calls, is p of the byte
abbrev pub Tells : (ℕ → Bool → Type 0) → (ℕ → Bool) → Type 0
Tells post p = (b : ℕ) (r : Bool) → b < 256 → post b r → r ≡ p b

-- a byte ends the run before some end
abbrev pub Ended : (ℕ → Bool) → Bytes → ℕ → Type 0
Ended p s at = (end : ℕ) × (run_end p s at end < stop_at s end)

-- the run ends at r, whatever that end is
abbrev pub EndsAt : (ℕ → Bool) → Bytes → ℕ → ℕ → Type 0
EndsAt p s at r = (end : ℕ) → run_end p s at end < stop_at s end → r ≡ run_end p s at end

-- the byte at a place before an end, and 256 where none is left
unfoldable pub byte_in : Bytes → ℕ → ℕ → ℕ
byte_in s at end = head_or 256 (part s at end)

-- behind a field that ends at a place, where l is left of the line: past its tab, or past the line's last field; wrong where the field goes on
unfoldable pub past_of : ℕ → ℕ → Bytes → code.Option Cursor
past_of to end [] = Some (record { at = to; end = end; more = false })
past_of to end (b ∷ l) = cond (eqb b 9) (Some (record { at = to + 1; end = end; more = true })) None

unfoldable pub past_tab : Bytes → ℕ → ℕ → code.Option Cursor
past_tab s to end = past_of to end (part s to end)

-- a part and the cursor behind it
unfoldable pub with_past : ℕ → ℕ → code.Option Cursor → code.Option Part
with_past from to (Some c) = Some (record { from = from; to = to; rest = c })
with_past from to None = None

-- the cursor's next field, if there is one, if it ends at `to`, and if it has 1 to max bytes
unfoldable pub closed_at : Bytes → Cursor → ℕ → ℕ → code.Option Part
closed_at s c to max =
    cond c.more (cond (between 1 max (to - c.at)) (with_past c.at to (past_tab s to c.end)) None) None

-- the places of a part are those of its bytes: as many as lie between them
unfoldable pub Exact : Bytes → code.Option Part → Type 0
Exact s (Some p) = (p.from ≤ p.to) × (length (part s p.from p.to) ≡ p.to - p.from)
Exact s None = Unit {0}

-- a field of 1 to max bytes that all pass the test
unfoldable pub run_read : (ℕ → Bool) → ℕ → Bytes → Option Bytes
run_read p max b = when (sized max b && every p b) b

-- ---- numbers

-- v with one more digit, if the byte is one and the number stays at most max
unfoldable pub pushed : ℕ → ℕ → ℕ → code.Option ℕ
pushed v b max =
    cond (is_digit b) (cond (leb (v * 10 + (b - 48)) max) (Some (v * 10 + (b - 48))) None) None

-- the number of digits after those that stand for v, if it is at most max
unfoldable pub digits_read : ℕ → ℕ → Bytes → Option ℕ
digits_read max v b = when (every is_digit b && leb (value_from v b) max) (value_from v b)

-- the same of the next field of what is left of a line
unfoldable pub digits_left : ℕ → ℕ → Bytes → Option (ℕ × List Bytes)
digits_left max v l = field (digits_read max v) (fields l)
