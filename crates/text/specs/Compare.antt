-- The order of two texts: "ascend by the bytes of the id", and four bytes that are compared at once.
use Rattle.std.specs.Prelude.{◌≡◌, Bool, true, false, cond, ℕ, ◌+◌, ◌*◌, ◌≤◌, ◌<◌, get_or}
use Rattle.objects.specs.Lists.{Bytes}
use Rattle.std.specs.declared.cmp.Ordering.{Ordering}
use Rattle.std.specs.declared.cmp.Ordering.TheVariants.{Less, Equal, Greater}
use Rattle.text.specs.Bytes.{same_bytes, below_bytes}

unfoldable pub order_of : Bytes → Bytes → Ordering
order_of a b = cond (below_bytes a b) Less (cond (same_bytes a b) Equal Greater)

-- values of four bytes
abbrev pub fours : ℕ
fours = 4_294_967_296

-- four bytes as one number
unfoldable pub four_of : ℕ → ℕ → ℕ → ℕ → ℕ
four_of a b c d = a * 16_777_216 + b * 65_536 + c * 256 + d

-- r says whether a and b differ in the four bytes from i on
pub record DifferFour (a b : Bytes) (i : ℕ) (r : Bool) : Type 0 where
  pub yes : r ≡ true → same_bytes a b ≡ false
  pub no : r ≡ false → (k : ℕ) → i ≤ k → k < i + 4 → get_or a k 0 ≡ get_or b k 0
