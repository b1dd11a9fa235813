-- `first_hits::gather::meet_again` meets its contract.
use mathlib.Core.Path.{sym, ◌∙◌}
use borrow.Author.Tests.{eq-eqb, ne_eqb}
use Rattle.first_hits.proofs.HitLaws.{marked-yes, marked-no}
use Rattle.first_hits.proofs.gather.meet_again.Goals as goal

pub returns-then-level_at : goal.returns-then-level_at
returns-then-level_at c =
    sym (marked-yes c.args.walk.now c.args.row c.args.k c.args.hits.now (eq-eqb _ _ (sym c.level_at.ensures ∙ c.if-level_at.true ∙ c.level_at-2.ensures)))

pub returns-else-level_at : goal.returns-else-level_at
returns-else-level_at c =
    sym (marked-no c.args.walk.now c.args.row c.args.k c.args.hits.now (ne_eqb _ _ (λ e. c.if-level_at.false (c.level_at.ensures ∙ e ∙ sym c.level_at-2.ensures))))
