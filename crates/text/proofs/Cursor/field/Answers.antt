-- `text::Cursor::field` meets its contract. Up to the first tab a field always ends.
use borrow.Author.Tests.{not-true, not-false}
use mathlib.Core.Path.{sym}
use mathlib.Core.Option.{some}
use Rattle.text.specs.Cursors.{part_read}
use Rattle.text.proofs.FieldLaws.{field_is, field-never, field-exact, wrong-exact, none_left}
use Rattle.text.proofs.Cursor.field.Goals as goal

pub returns : goal.returns
returns c =
    record {
      result_value = field_is c.args.s.now c.args.self (not-false _ c.if-not-self.false) c.until-to.ensures c.behind.ensures c.in_ok-rest.was;
      exact = field-exact c.args.s.now c.args.self _ c.until-to.ensures;
    }

pub returns-in_err-rest : goal.returns-in_err-rest
returns-in_err-rest c =
    absurd (field-never c.args.s.now c.args.self (not-false _ c.if-not-self.false) c.until-to.ensures c.behind.ensures c.in_err-rest.was)

pub returns-then-not-self : goal.returns-then-not-self
unfolding part_read
returns-then-not-self c = record {
  result_value = sym (none_left c.args.s.now c.args.self some (not-true _ c.if-not-self.true));
  exact = wrong-exact c.args.s.now;
}
