-- `lines::adding::add_tuple` meets its contract.
use Rattle.lines.proofs.TupleLaws.{tuple-members, new-tuple, tuple-wrong, tuple-full, tuple-added}
use mathlib.Core.Path.{ap}
use native.Mathlib.Omega.{arith}
use Rattle.objects.specs.Bounds.{members_at}
use Rattle.lines.proofs.adding.add_tuple.Goals as goal

pub put_elements-requires : goal.put_elements-requires
put_elements-requires c = (
  c.put_type.ensures.holds.laid,
  new-tuple _ _ _ _ c.put_type.ensures.holds,
  omega (arith, c.put_type.ensures.rows_unchanged, c.requires.1),
  omega (arith, tuple-members c.args.s.now _ _ _ c.put_type.ensures.holds, c.put_type.ensures.rows_unchanged, c.put_type.auto.rows, ap members_at c.put_type.auto.rows, c.requires.2),
)

pub returns-then-put_elements : goal.returns-then-put_elements
returns-then-put_elements c =
    tuple-added _ _ _ c.requires.0 _ c.put_elements.ensures.value c.if-put_elements.true c.type_count.ensures _ c.put_type.ensures.holds c.if-type_count-ge-TYPES.false _ c.put_elements.ensures.laid c.put_elements.ensures.rows_after c.put_type.ensures.rows_unchanged c.put_elements.ensures.rows_after_2

pub returns-else-put_elements : goal.returns-else-put_elements
returns-else-put_elements c =
    tuple-wrong _ _ _ c.requires.0 _ c.put_elements.ensures.value c.put_elements.ensures.laid c.if-put_elements.false

pub returns-then-listed : goal.returns-then-listed
returns-then-listed c =
    tuple-full _ _ _ c.requires.0 _ c.listed.ensures c.if-listed.true c.type_count.ensures c.if-type_count-ge-TYPES.true

pub returns-else-listed : goal.returns-else-listed
returns-else-listed c = tuple-wrong _ _ _ c.requires.0 _ c.listed.ensures c.requires.0 c.if-listed.false
