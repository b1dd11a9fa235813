use mathlib.Core.Path.{◌∙◌}
use lib.Dec.{ltb}
use Rattle.objects.specs.Rows.{table_of}
use Rattle.objects.specs.Table.{has_type}
use Rattle.references.proofs.Referring.{all-next, all-end, words-had}
use Rattle.references.proofs.elements.elements_within.Goals as goal

pub loop-e-preserved : goal.loop-e-preserved
loop-e-preserved c = all-next (λ w. ltb w c.type_count-n.result) c.element_words-words.result.now c.loop-e-test.true c.loop-e.all c.loop-e.invariant

pub returns : goal.returns
returns c text =
    all-end (λ w. ltb w c.type_count-n.result) c.element_words-words.result.now c.loop-e-test.false c.loop-e.invariant
    ∙ words-had text c.args.rows.now c.element_words-words.result.now c.type_count-n.ensures
    ∙ c.element_words-words.ensures text (has_type (table_of text c.args.rows.now))
