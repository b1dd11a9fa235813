-- `line_forms::forms::package_line` meets its contract.
use mathlib.Core.Path.{refl, sym, ◌∙◌}
use Rattle.line_forms.proofs.Chain.{piece-on, piece-out, form-ended, unread-ended, form-out, unread-out}
use Rattle.line_forms.specs.Steps.{package_rest, pathed}
use Rattle.line_forms.specs.Forms.{form_meant, unread}
use Rattle.line_forms.proofs.forms.package_line.Goals as goal

pub placed-requires : goal.placed-requires
placed-requires c = (c.requires, c.path.ensures.exact)

pub returns-in_err-path : goal.returns-in_err-path
unfolding package_rest pathed
returns-in_err-path c =
    record { result_value = form-out _ c.from_residual.ensures (piece-out _ _ (c.placed.ensures ∙ c.path.ensures.result_value) c.in_err-path.was); result_value_2 = unread-out _ c.from_residual.ensures }

pub returns : goal.returns
unfolding form_meant unread package_rest pathed
returns c =
    record { result_value = form-ended _ _ _ refl c.done.ensures c.then_some.ensures ∙ sym (piece-on _ _ (c.placed.ensures ∙ c.path.ensures.result_value) c.in_ok-path.was); result_value_2 = unread-ended _ _ refl _ c.then_some.ensures }
