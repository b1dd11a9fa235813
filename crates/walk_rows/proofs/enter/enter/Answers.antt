-- `enter`.
use mathlib.Core.Path.{refl, sym, ◌∙◌}
use native.Mathlib.Omega.{arith}
use Rattle.walk_rows.specs.Records.{first_of}
use Rattle.walk_rows.proofs.StateLaws.{rows-most}
use Rattle.walk_rows.proofs.EnterLaws.{type-inside, first-few, fits-first, enters-new, enters-out, enters-again, unmarked, on-level, first-suc, holds_as, holds-now}
use Rattle.walk_rows.proofs.enter.enter.Goals as goal

pub offset_bounds-walk-t : goal.offset_bounds-walk-t
offset_bounds-walk-t c =
    let inside = type-inside c.args.walk.now c.args.from c.args.n c.args.e c.requires.0 c.requires.1 in
    omega arith

pub bounds-walk-t : goal.bounds-walk-t
bounds-walk-t c =
    type-inside c.args.walk.now c.args.from c.args.n c.args.e c.requires.0 c.requires.1

pub overflow_cast-k : goal.overflow_cast-k
unfolding first_of
overflow_cast-k c =
    let few = first-few c.args.walk.now c.args.from c.args.n c.args.e c.requires.0 c.requires.1 in
    omega arith

pub put_first-requires : goal.put_first-requires
unfolding first_of
put_first-requires c =
    (c.requires.0, fits-first c.args.walk.now c.args.from c.args.n c.args.e c.requires.0 c.requires.1, c.if-k-eq0.true)

pub overflow_add-result : goal.overflow_add-result
overflow_add-result c =
    let most = rows-most c.put_first.ensures.state in
    omega arith

pub returns-then-k-eq0 : goal.returns-then-k-eq0
unfolding first_of
returns-then-k-eq0 c =
    holds_as (enters-new c.args.walk.now c.args.from c.args.n c.args.e c.requires.0 c.requires.1 c.if-k-eq0.true) c.put_first.ensures

pub returns-then-keeps_out : goal.returns-then-keeps_out
unfolding first_of
returns-then-keeps_out c =
    let there = first-suc _ _ refl c.if-k-eq0.false in
    holds_as (enters-out c.args.walk.now c.args.from c.args.n c.args.e c.requires.0 c.requires.1 _ there (sym c.keeps_out.ensures ∙ c.if-keeps_out.true)) (holds-now c.requires.0)

pub put_second-requires : goal.put_second-requires
unfolding first_of
put_second-requires c =
    let there = first-suc _ _ refl c.if-k-eq0.false in
    let kept = sym c.keeps_out.ensures ∙ c.if-keeps_out.false in
    record { rowed = (c.requires.0, c.requires.1); first_unmarked = (there, unmarked c.args.walk.now c.args.from c.args.n c.args.e c.requires.0 c.requires.1 _ there kept, on-level c.args.walk.now c.args.from c.args.n c.args.e c.requires.0 c.requires.1 _ there kept) }

pub overflow_add-result-2 : goal.overflow_add-result-2
overflow_add-result-2 c =
    let most = rows-most c.put_second.ensures.state in
    omega arith

pub returns : goal.returns
unfolding first_of
returns c =
    let there = first-suc _ _ refl c.if-k-eq0.false in
    let kept = sym c.keeps_out.ensures ∙ c.if-keeps_out.false in
    holds_as (enters-again c.args.walk.now c.args.from c.args.n c.args.e c.requires.0 c.requires.1 _ there kept) c.put_second.ensures
