use mathlib.Core.Path.{sym, ◌∙◌}
use Rattle.objects.specs.Rows.{table_of}
use Rattle.objects.specs.Table.{type_key}
use Rattle.rules.specs.Checks.{may_refer}
use Rattle.references.proofs.Referring.{on-next, on-stop, on-end}
use Rattle.references.proofs.elements.elements_allowed.Goals as goal

pub loop-e-preserved : goal.loop-e-preserved
loop-e-preserved c text =
    c.loop-e.invariant text ∙ on-next (λ w. may_refer (table_of text c.args.rows.now) c.args.t (type_key w)) c.element_words-words.result.now c.loop-e-test.true (c.element_allowed.ensures text) c.if-not-element_allowed.false

pub returns : goal.returns
returns c text =
    sym (on-end (λ w. may_refer (table_of text c.args.rows.now) c.args.t (type_key w)) c.element_words-words.result.now c.loop-e-test.false) ∙ sym (c.loop-e.invariant text) ∙ c.element_words-words.ensures text (may_refer (table_of text c.args.rows.now) c.args.t)

pub returns-then-not-element_allowed : goal.returns-then-not-element_allowed
returns-then-not-element_allowed c text =
    sym (on-stop (λ w. may_refer (table_of text c.args.rows.now) c.args.t (type_key w)) c.element_words-words.result.now c.loop-e-test.true (c.element_allowed.ensures text) c.if-not-element_allowed.true) ∙ sym (c.loop-e.invariant text) ∙ c.element_words-words.ensures text (may_refer (table_of text c.args.rows.now) c.args.t)
