-- `embed_fields`: the rows for the first j fields are entered.
use Rattle.std.proofs.Common.{rules}
use mathlib.Core.Path.{refl}
use Rattle.walk_rows.proofs.LowerLaws.{below_on, fields-start, fields-on, fields-end}
use Rattle.walk_rows.proofs.lower.embed_fields.Goals as goal

pub loop-j-init : goal.loop-j-init
loop-j-init c =
    (fields-start c.args.text.now c.args.rows.now c.args.up c.args.first c.requires.walked.0, refl)

pub embed_field-end-requires : goal.embed_field-end-requires
embed_field-end-requires c =
    record { library = c.requires.library; walked = (c.loop-j.invariant.0.state, below_on _ c.loop-j.invariant.0 c.args.up c.requires.walked.1, c.requires.walked.3 _ c.loop-j-test.true) }

pub loop-j-preserved : goal.loop-j-preserved
loop-j-preserved c =
    (fields-on c.args.text.now c.args.rows.now c.args.up c.args.first c.loop-j.j c.loop-j.invariant.0 c.embed_field-end.ensures, search rules)

pub returns : goal.returns
returns c =
    fields-end c.args.text.now c.args.rows.now c.args.up c.args.first c.loop-j.j c.args.total c.loop-j.invariant.0 c.loop-j.auto.j-end c.loop-j-test.false
