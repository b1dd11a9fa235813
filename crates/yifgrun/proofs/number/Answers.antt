-- `number` meets its contract.
use mathlib.Core.Path.{ap, sym, subst, ◌∙◌}
use mir.Syntax.{w64}
use mir.ValLaws.{to_z_pos}
use Rattle.std.specs.Prelude.{Err}
use Rattle.reply.specs.Done.{number_read, Fits}
use Rattle.yifgrun.proofs.Signed.{back}
use Rattle.yifgrun.proofs.number.Goals as goal

pub overflow_cast-result : goal.overflow_cast-result
unfolding Fits
overflow_cast-result c = record { sfits = subst Fits c.in-Ok.is c.requires }

pub returns-in-Ok : goal.returns-in-Ok
unfolding number_read Fits
returns-in-Ok c = to_z_pos w64 c.in-Ok.n (subst Fits c.in-Ok.is c.requires) ∙ sym (ap number_read c.in-Ok.is)

pub returns-in-Refused : goal.returns-in-Refused
unfolding number_read
returns-in-Refused c = back _ c.refusal.type_inv ∙ c.refusal.ensures ∙ sym (ap number_read (c.in-Err.is ∙ ap Err c.in-Refused.is))

pub returns-in-Long : goal.returns-in-Long
unfolding number_read
returns-in-Long c = back _ c.refusal-in-Long.type_inv ∙ c.refusal-in-Long.ensures ∙ sym (ap number_read (c.in-Err.is ∙ ap Err c.in-Long.is))
