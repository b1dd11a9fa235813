-- `text::hash::name_hash` meets its contract.
use Rattle.text.proofs.HashLaws.{hash-read}
use Rattle.text.proofs.hash.name_hash.Goals as goal

pub returns : goal.returns
returns c =
    record {
      value = hash-read _ _ _ c.member_word.ensures c.member_word-2.ensures c.span.ensures c.hash.ensures.value;
      upper_bound = c.hash.ensures.upper_bound;
    }
