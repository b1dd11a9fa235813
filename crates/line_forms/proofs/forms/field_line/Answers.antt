-- `line_forms::forms::field_line` meets its contract.
use mathlib.Core.Path.{refl, sym, ◌∙◌}
use Rattle.objects.specs.Rows.{bytes_at}
use Rattle.line_forms.proofs.Chain.{piece-on, piece-out, typed-on, typed-out, form-ended, unread-ended, form-out, unread-out}
use Rattle.line_forms.proofs.FieldSteps.{tag-done, tag_read}
use Rattle.line_forms.specs.Steps.{field_rest, named, ended}
use Rattle.line_forms.specs.Forms.{form_read, form_meant, unread}
use Rattle.line_forms.proofs.forms.field_line.Goals as goal

pub placed-requires : goal.placed-requires
placed-requires c = (c.requires, c.name.ensures.exact)

pub returns-in_err-name : goal.returns-in_err-name
unfolding field_rest named
returns-in_err-name c =
    record { result_value = form-out _ c.from_residual.ensures (piece-out _ _ (c.placed.ensures ∙ c.name.ensures.result_value) c.in_err-name.was); result_value_2 = unread-out _ c.from_residual.ensures }

pub returns-in_err-field : goal.returns-in_err-field
unfolding field_rest named
returns-in_err-field c =
    record { result_value = form-out _ c.from_residual-in_err-field.ensures (piece-on _ _ (c.placed.ensures ∙ c.name.ensures.result_value) c.in_ok-name.was ∙ typed-out _ _ c.typed.ensures c.in_err-field.was); result_value_2 = unread-out _ c.from_residual-in_err-field.ensures }

pub returns-then-done : goal.returns-then-done
unfolding form_read form_meant field_rest named ended bytes_at unread
returns-then-done c =
    record { result_value = sym (piece-on _ _ (c.placed.ensures ∙ c.name.ensures.result_value) c.in_ok-name.was ∙ typed-on _ _ c.typed.ensures c.in_ok-field.was ∙ tag-done _ _ c.done.ensures _ c.if-done.true); result_value_2 = refl }

pub placed-requires-2 : goal.placed-requires-2
placed-requires-2 c = (c.requires, c.tag.ensures.exact)

pub returns-in_err-tag : goal.returns-in_err-tag
unfolding field_rest named
returns-in_err-tag c =
    record { result_value = form-out _ c.from_residual-in_err-tag.ensures (piece-on _ _ (c.placed.ensures ∙ c.name.ensures.result_value) c.in_ok-name.was ∙ typed-on _ _ c.typed.ensures c.in_ok-field.was ∙ piece-out _ _ (tag_read _ _ c.done.ensures c.if-done.false (c.placed-2.ensures ∙ c.tag.ensures.result_value)) c.in_err-tag.was); result_value_2 = unread-out _ c.from_residual-in_err-tag.ensures }

pub returns : goal.returns
unfolding form_meant unread field_rest named
returns c =
    record { result_value = form-ended _ _ _ refl c.done-2.ensures c.then_some.ensures ∙ sym (piece-on _ _ (c.placed.ensures ∙ c.name.ensures.result_value) c.in_ok-name.was ∙ typed-on _ _ c.typed.ensures c.in_ok-field.was ∙ piece-on _ _ (tag_read _ _ c.done.ensures c.if-done.false (c.placed-2.ensures ∙ c.tag.ensures.result_value)) c.in_ok-tag.was); result_value_2 = unread-ended _ _ refl _ c.then_some.ensures }
