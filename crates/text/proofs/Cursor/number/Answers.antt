-- `text::Cursor::number` meets its contract. What `number_at` ensures, where fields are left.
use borrow.Author.Tests.{not-true, not-false}
use mathlib.Core.Path.{sym, ap, ◌∙◌}
use Rattle.text.specs.Bytes.{number}
use Rattle.text.specs.Readers.{field}
use Rattle.text.specs.Cursors.{num_read}
use Rattle.text.proofs.FieldLaws.{left-more, none_left}
use Rattle.text.proofs.Cursor.number.Goals as goal

pub returns : goal.returns
returns c =
    c.number_at.ensures ∙ sym (ap (field (number c.args.max)) (left-more c.args.s.now c.args.self (not-false _ c.if-not-self.false)))

pub returns-then-not-self : goal.returns-then-not-self
unfolding num_read
returns-then-not-self c = sym (none_left c.args.s.now c.args.self (number c.args.max) (not-true _ c.if-not-self.true))
