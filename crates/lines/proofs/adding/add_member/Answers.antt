-- `lines::adding::add_member` meets its contract.
use Rattle.lines.proofs.AddLaws.{member-misplaced, member-crowded, member-ready, member-added}
use Rattle.lines.proofs.adding.add_member.Goals as goal

pub put_member-requires : goal.put_member-requires
put_member-requires c =
    member-ready _ 0 0 0 _ 0 _ 0 0 c.requires.0 c.above.ensures c.stands.ensures c.if-not-stands.false c.member_room.ensures c.requires.1 c.requires.2 c.if-not-member_room.false

pub returns : goal.returns
returns c =
    member-added _ _ _ _ _ _ _ _ _ c.requires.0 c.above.ensures c.stands.ensures c.if-not-stands.false c.member_room.ensures c.if-not-member_room.false _ c.put_member.ensures.holds c.put_member.ensures.rows_unchanged

pub returns-then-not-member_room : goal.returns-then-not-member_room
returns-then-not-member_room c =
    member-crowded _ _ _ _ _ _ _ _ _ c.requires.0 c.above.ensures c.stands.ensures c.if-not-stands.false c.member_room.ensures c.if-not-member_room.true

pub returns-then-not-stands : goal.returns-then-not-stands
returns-then-not-stands c =
    member-misplaced _ _ _ _ _ _ _ _ _ c.requires.0 c.above.ensures c.stands.ensures c.if-not-stands.true
