-- `lines::adding::member_room` meets its contract.
use mathlib.Core.Path.{◌∙◌}
use borrow.Author.Tests.{le-ltb}
use Rattle.lines.proofs.AboveLaws.{room-under, room-none}
use Rattle.lines.proofs.adding.member_room.Goals as goal

pub returns-then-member_count-lt-MEMBERS : goal.returns-then-member_count-lt-MEMBERS
returns-then-member_count-lt-MEMBERS c =
    room-under _ c.member_count.ensures c.if-member_count-lt-MEMBERS.true c.last.ensures c.member_total.ensures

pub returns-else-member_count-lt-MEMBERS : goal.returns-else-member_count-lt-MEMBERS
returns-else-member_count-lt-MEMBERS c =
    le-ltb c.member_count.result 2_048 c.if-member_count-lt-MEMBERS.false ∙ room-none _ c.member_count.ensures c.if-member_count-lt-MEMBERS.false
