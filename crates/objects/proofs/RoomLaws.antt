-- Where the members begin in rows of n words (`members_at`), and that rows with the room for a text (`room_for`) have it on both sides.
use Prim.Native.Nat.{ℕ, ◌+◌, ◌*◌, ◌≤◌}
use native.Mathlib.Omega.{arith}
use Rattle.objects.specs.Bounds.{max_types, row_words, types_at, members_at, shared_words, room_for}

module _ (n : ℕ) where
  pub types-behind : types_at ≤ n → types_at ≤ members_at n
  unfolding members_at
  types-behind h = omega arith

  pub members-within : types_at ≤ n → members_at n ≤ n
  unfolding members_at
  members-within h = omega arith

  -- k words of types, or k words of members and elements, of a text of so many bytes
  module _ (bytes k : ℕ) (room : room_for bytes ≤ n) (few : k ≤ bytes) where
    pub types-room : k ≤ row_words * max_types → types_at + k ≤ members_at n
    unfolding members_at
    types-room h = omega arith

    pub members-room : k ≤ shared_words → members_at n + k ≤ n
    unfolding members_at
    members-room h = omega arith
