-- `text::bytes::name_byte` meets its contract. What the value's place among the kinds of bytes leaves to test.
use mathlib.Core.Path.{sym}
use Rattle.text.proofs.ByteLaws.{name-small, name-low, name-middle, name-high}
use Rattle.text.proofs.bytes.name_byte.Goals as goal

pub returns-then-within : goal.returns-then-within
returns-then-within c = sym (name-small c.args.b c.within.ensures c.if-within.true)

pub returns-then-b-lt58 : goal.returns-then-b-lt58
returns-then-b-lt58 c = sym (name-low c.args.b c.if-b-lt58.true)

pub returns-then-b-lt91 : goal.returns-then-b-lt91
returns-then-b-lt91 c = sym (name-middle c.args.b c.if-b-lt58.false c.if-b-lt91.true)

pub returns : goal.returns
returns c = sym (name-high c.args.b c.if-b-lt91.false c.within.ensures c.if-within.false)
