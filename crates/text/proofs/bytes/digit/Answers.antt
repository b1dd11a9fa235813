-- `text::bytes::digit` meets its contract. What `within` ensures.

use Rattle.text.proofs.bytes.digit.Goals as goal

pub returns : goal.returns
returns c = c.within.ensures
