-- `run` meets its contract: the line of a refusal, the answer to one V, or the answers to the questions behind `Q`. Each way writes it and answers its length.
use Rattle.program.specs.Steps.{opening_meant}
use Rattle.program.proofs.OpenLaws.{due-parts}
use Rattle.program.proofs.run.Goals as goal

pub refuse-requires : goal.refuse-requires
unfolding opening_meant
refuse-requires g c = rw c.number.ensures c.in-Err.ensures.says

pub returns-in-Err-clause-place : goal.returns-in-Err-clause-place
unfolding opening_meant
returns-in-Err-clause-place g c = rw c.in-Err.ensures.says (rw c.number.ensures at c.refuse.ensures.place)

pub returns-in-Err-clause-bytes : goal.returns-in-Err-clause-bytes
unfolding opening_meant
returns-in-Err-clause-bytes g c = rw c.in-Err.ensures.says (rw c.number.ensures at c.refuse.ensures.bytes)

pub returns-in-None-clause-place : goal.returns-in-None-clause-place
unfolding opening_meant
returns-in-None-clause-place g c = rw (rw c.in-None.is at c.in-Ok.ensures.says) c.print_all.ensures.place

pub returns-in-None-clause-bytes : goal.returns-in-None-clause-bytes
unfolding opening_meant
returns-in-None-clause-bytes g c = rw (rw c.in-None.is at c.in-Ok.ensures.says) c.print_all.ensures.bytes

pub returns-in-Some-clause-place : goal.returns-in-Some-clause-place
unfolding opening_meant
returns-in-Some-clause-place g c =
    rw (rw c.in-Some.is at c.in-Ok.ensures.says, due-parts c.args.input.now c.in-Some.end c.open_input.new.rows c.in-Some.next) c.print_all-in-Some.ensures.place

pub returns-in-Some-clause-bytes : goal.returns-in-Some-clause-bytes
unfolding opening_meant
returns-in-Some-clause-bytes g c =
    rw (rw c.in-Some.is at c.in-Ok.ensures.says, due-parts c.args.input.now c.in-Some.end c.open_input.new.rows c.in-Some.next) c.print_all-in-Some.ensures.bytes
