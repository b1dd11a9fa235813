-- `text::Cursor::closed` meets its contract. No field left, too short, too long, or as long as allowed, with or without its end at `to`.
use borrow.Author.Tests.{not-true, not-false}
use mathlib.Core.Path.{sym}
use Rattle.text.proofs.FieldLaws.{closed_none, closed-short, closed-long, closed_is, closed_on}
use Rattle.text.proofs.Cursor.closed.Goals as goal
use Rattle.text.proofs.Cursor.closed.Goals.{then-not-self-via-then-not-self, then-not-self-via-else-not-self+then-to-self, then-not-self-via-else-not-self+else-to-self+then-max-to}

pub returns-then-not-self : goal.returns-then-not-self
returns-then-not-self c =
    elim c.then-not-self.branch [
      | then-not-self-via-then-not-self w ↦ sym (closed_none _ c.args.self _ _ (not-true _ w.if-not-self.true))
      | then-not-self-via-else-not-self+then-to-self w ↦ sym (closed-short _ c.args.self _ _ (not-false _ w.if-not-self.false) w.if-to-self.true)
      | then-not-self-via-else-not-self+else-to-self+then-max-to w ↦ sym (closed-long _ c.args.self _ _ (not-false _ w.if-not-self.false) w.if-max-to.true)
    ]

pub returns-in_err-rest : goal.returns-in_err-rest
returns-in_err-rest c =
    rw c.from_residual.ensures
    (sym (closed_on _ c.args.self _ _ (not-false _ c.if-not-self.false) c.if-to-self.false c.if-max-to.false c.behind.ensures c.in_err-rest.was))

pub returns : goal.returns
returns c =
    sym (closed_is _ c.args.self _ _ (not-false _ c.if-not-self.false) c.if-to-self.false c.if-max-to.false c.behind.ensures c.in_ok-rest.was)
