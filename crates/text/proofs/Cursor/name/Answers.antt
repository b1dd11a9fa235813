-- `text::Cursor::name` meets its contract. The closed run of a name's bytes, if it does not begin with a digit.
use Rattle.text.proofs.FieldLaws.{wrong-exact}
use Rattle.text.proofs.NameLaws.{name-wrong, name-within, name-digit, name-is, name-exact}
use Rattle.text.proofs.Cursor.name.Goals as goal

pub returns-in_err-p : goal.returns-in_err-p
returns-in_err-p c =
    rw c.from_residual.ensures record {
      result_value = name-wrong c.args.s.now c.args.self c.name_end-stop.ensures c.closed.ensures c.in_err-p.was;
      exact = wrong-exact c.args.s.now;
    }

pub bounds-s-p : goal.bounds-s-p
bounds-s-p c = name-within c.args.s.now c.args.self c.name_end-stop.ensures c.closed.ensures c.in_ok-p.was

pub returns-then-digit : goal.returns-then-digit
returns-then-digit c =
    record {
      result_value = name-digit c.args.s.now c.args.self c.name_end-stop.ensures c.closed.ensures c.in_ok-p.was c.from.ensures c.digit.ensures c.if-digit.true;
      exact = wrong-exact c.args.s.now;
    }

pub returns-else-digit : goal.returns-else-digit
returns-else-digit c =
    record {
      result_value = name-is c.args.s.now c.args.self c.name_end-stop.ensures c.closed.ensures c.in_ok-p.was c.from.ensures c.digit.ensures c.if-digit.false;
      exact = name-exact c.args.s.now c.args.self c.name_end-stop.ensures c.closed.ensures c.in_ok-p.was c.from.ensures c.digit.ensures;
    }
