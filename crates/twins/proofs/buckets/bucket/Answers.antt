-- `bucket` meets its contract.
use native.Mathlib.Omega.{arith}
use Rattle.twins.proofs.ReadingLaws.{bucket-read}
use Rattle.twins.proofs.buckets.bucket.Goals as goal

pub returns : goal.returns
returns c = (
  bucket-read _ _ _ c.requires.t_bound.0 _ c.first_name-name.ensures.0 c.kind_number.ensures c.mix-kind.ensures.0
      c.own_number.ensures c.mix-own.ensures.0 c.mix-label.ensures.0 c.mix_parts-h.ensures.0,
  omega arith,
)
