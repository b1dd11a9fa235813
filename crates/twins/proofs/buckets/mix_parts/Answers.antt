-- `mix_parts` meets its contract. The invariant: `h` has the labels of the parts before `i`.
use mathlib.Core.Path.{ap}
use native.Mathlib.Omega.{arith}
use Rattle.objects.specs.declared.TypeKey.{TypeKey}
use Rattle.type_parts.proofs.ReadLaws.{place-small}
use Rattle.type_parts.proofs.Rank.{part-inside}
use Rattle.twins.proofs.ReadingLaws.{mixed-none, mixed-more, mixed-all}
use Rattle.twins.proofs.buckets.mix_parts.Goals as goal

pub loop-i-init : goal.loop-i-init
loop-i-init c =
    (c.requires.t_bound.2, mixed-none c.args.text.now _ _ c.requires.t_bound.0 _ _)

pub part_in-p-requires : goal.part_in-p-requires
part_in-p-requires c =
    let small = place-small c.args.rows.now c.args.t c.loop-i.i c.requires.library.laid c.requires.t_bound.0 (omega (arith, c.part_count-n.ensures, c.loop-i-test.true)) in
    record { k_value = (c.type_word-k.ensures, c.first_member-first.ensures); i_bound = small }

pub bounds-labels-p : goal.bounds-labels-p
bounds-labels-p c =
    let inside = part-inside _ c.args.rows.now c.requires.library c.args.t c.requires.t_bound.0 c.loop-i.i (omega (arith, c.part_count-n.ensures, c.loop-i-test.true)) in
    omega (arith, c.requires.t_bound.1, inside, ap (λ (p : TypeKey). p.0) c.part_in-p.ensures)

pub loop-i-preserved : goal.loop-i-preserved
loop-i-preserved c =
    (c.mix-h.ensures.1, mixed-more c.args.text.now _ _ c.requires.t_bound.0 _ _ _ c.loop-i.invariant.1 c.part_in-p.ensures c.mix-h.ensures.0)

pub returns : goal.returns
returns c =
    (mixed-all _ _ _ c.requires.t_bound.0 _ _ _ c.loop-i.i c.part_count-n.ensures (omega arith) c.loop-i.invariant.1, c.loop-i.invariant.0)
