-- `reply_length` meets its contract: whether it has room or not, its length is told.
use mathlib.Core.Path.{ap, ◌∙◌}
use Rattle.std.specs.Prelude.{Err}
use Rattle.replies.proofs.Replying.{said-is, long-is, never-refused}
use Rattle.replies.proofs.all.reply_length.Goals as goal

pub returns-in-Err-Refused : goal.returns-in-Err-Refused
returns-in-Err-Refused c = absurd (never-refused c.reply.ensures.does (c.in-Err-Refused.is ∙ ap Err c.in-Err-Refused.field-0-is))

pub returns-in-Ok : goal.returns-in-Ok
returns-in-Ok c = record {
  value = (said-is c.reply.ensures.does c.in-Ok.is).0;
  marks_unchanged = c.reply.ensures.marks_unchanged;
  lent = c.reply.ensures.lent;
}

pub returns-in-Err-Long : goal.returns-in-Err-Long
returns-in-Err-Long c = record {
  value = (long-is c.reply.ensures.does (c.in-Err-Long.is ∙ ap Err c.in-Err-Long.field-0-is)).0;
  marks_unchanged = c.reply.ensures.marks_unchanged;
  lent = c.reply.ensures.lent;
}
