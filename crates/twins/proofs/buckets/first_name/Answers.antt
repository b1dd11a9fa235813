-- `first_name` meets its contract.
use native.Mathlib.Omega.{arith}
use Rattle.twins.proofs.ReadingLaws.{name-low, name-none, name-first}
use Rattle.twins.proofs.buckets.first_name.Goals as goal
use Rattle.twins.proofs.buckets.first_name.Goals.{then-kind_number-lt-STRUCT-via-then-kind_number-lt-STRUCT, then-kind_number-lt-STRUCT-via-else-kind_number-lt-STRUCT+then-member_total-eq0}

pub returns-then-kind_number-lt-STRUCT : goal.returns-then-kind_number-lt-STRUCT
returns-then-kind_number-lt-STRUCT c = (
  elim c.then-kind_number-lt-STRUCT.branch [
    | then-kind_number-lt-STRUCT-via-then-kind_number-lt-STRUCT w ↦ name-low _ _ _ c.requires.1 c.kind_number.ensures w.if-kind_number-lt-STRUCT.true
    | then-kind_number-lt-STRUCT-via-else-kind_number-lt-STRUCT+then-member_total-eq0 w ↦ name-none _ _ _ c.requires.1 c.kind_number.ensures w.if-kind_number-lt-STRUCT.false w.member_total.ensures w.if-member_total-eq0.true
  ],
  omega arith,
)

pub returns : goal.returns
returns c = (
  name-first _ _ _ c.requires.1 c.kind_number.ensures c.if-kind_number-lt-STRUCT.false c.member_total.ensures
      c.if-member_total-eq0.false c.first_member.ensures c.name_hash.ensures.value,
  c.name_hash.ensures.upper_bound,
)
