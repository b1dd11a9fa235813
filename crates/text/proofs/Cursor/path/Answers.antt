-- `text::Cursor::path` meets its contract. The closed run of visible bytes, if it is not `_` alone.
use Rattle.text.proofs.FieldLaws.{wrong-exact}
use Rattle.text.proofs.NameLaws.{path-wrong, path-blank, path-is, path-exact}
use Rattle.text.proofs.Cursor.path.Goals as goal

pub returns-in_err-p : goal.returns-in_err-p
returns-in_err-p c =
    rw c.from_residual.ensures record {
      result_value = path-wrong c.args.s.now c.args.self c.plain_end-stop.ensures c.closed.ensures c.in_err-p.was;
      exact = wrong-exact c.args.s.now;
    }

pub returns-then-blank : goal.returns-then-blank
returns-then-blank c =
    record {
      result_value = path-blank c.args.s.now c.args.self c.plain_end-stop.ensures c.closed.ensures c.in_ok-p.was c.blank.ensures c.if-blank.true;
      exact = wrong-exact c.args.s.now;
    }

pub returns-else-blank : goal.returns-else-blank
returns-else-blank c =
    record {
      result_value = path-is c.args.s.now c.args.self c.plain_end-stop.ensures c.closed.ensures c.in_ok-p.was c.blank.ensures c.if-blank.false;
      exact = path-exact c.args.s.now c.args.self c.plain_end-stop.ensures c.closed.ensures c.in_ok-p.was c.blank.ensures;
    }
