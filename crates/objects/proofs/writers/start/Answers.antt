use borrow.Author.Tests.{eq-eqb, ne_eqb}
use Rattle.objects.specs.Laid.{end_of}
use Rattle.objects.proofs.writers.start.Goals as goal

pub returns-then-kind-eq-TUPLE : goal.returns-then-kind-eq-TUPLE
unfolding end_of
returns-then-kind-eq-TUPLE c = rw (eq-eqb c.args.kind 6 c.if-kind-eq-TUPLE.true) c.element_count.ensures

pub returns-else-kind-eq-TUPLE : goal.returns-else-kind-eq-TUPLE
unfolding end_of
returns-else-kind-eq-TUPLE c = rw (ne_eqb c.args.kind 6 c.if-kind-eq-TUPLE.false) c.member_count.ensures
