-- `clashes::marks::set_bit` meets its contract.
use mathlib.Core.Path.{refl}
use Rattle.objects.specs.Rows.{word_at}
use Rattle.clashes.proofs.MarkLaws.{set-adds}
use Rattle.clashes.proofs.marks.set_bit.Goals as goal

pub returns : goal.returns
unfolding word_at
returns c = set-adds c.args.marks.now c.args.i c.requires refl
