-- `text::compare::differ_four` meets its contract.
use Rattle.text.proofs.CompareLaws.{differ-four}
use Rattle.text.proofs.compare.differ_four.Goals as goal

pub four-requires : goal.four-requires
four-requires c = c.requires.0

pub four-requires-2 : goal.four-requires-2
four-requires-2 c = c.requires.1

pub returns : goal.returns
returns c =
    differ-four c.args.a.now c.args.b.now c.args.i (λ k. (c.type_inv.a k).fits) (λ k. (c.type_inv.b k).fits) c.four.ensures.value c.four-2.ensures.value
