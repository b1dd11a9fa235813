-- `line_forms::forms::none` meets its contract.
use mathlib.Core.Path.{refl}
use Rattle.line_forms.proofs.Chain.{form-ended, unread-ended}
use Rattle.line_forms.specs.Steps.{none_rest}
use Rattle.line_forms.specs.Forms.{form_meant, unread}
use Rattle.line_forms.proofs.forms.none.Goals as goal

pub returns : goal.returns
unfolding form_meant unread none_rest
returns c =
    record { result_value = form-ended _ _ _ refl c.done.ensures c.then_some.ensures; result_value_2 = unread-ended _ _ refl _ c.then_some.ensures }
