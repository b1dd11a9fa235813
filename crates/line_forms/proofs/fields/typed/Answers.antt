-- `line_forms::fields::typed` meets its contract.
use mathlib.Core.Path.{sym, ◌∙◌}
use Rattle.line_forms.proofs.Chain.{package-on, package-out, small-on, small-out}
use Rattle.line_forms.specs.Steps.{typed_rest}
use Rattle.line_forms.specs.Forms.{typed_read}
use Rattle.line_forms.proofs.fields.typed.Goals as goal

pub returns-in_err-pkg : goal.returns-in_err-pkg
unfolding typed_rest typed_read
returns-in_err-pkg c = rw c.from_residual.ensures (sym (package-out _ _ c.package.ensures c.in_err-pkg.was))

pub returns-in_err-t : goal.returns-in_err-t
unfolding typed_rest typed_read
returns-in_err-t c =
    rw c.from_residual-in_err-t.ensures (sym (package-on _ _ c.package.ensures c.in_ok-pkg.was ∙ small-out _ _ c.small.ensures c.in_err-t.was))

pub returns-in_err-bit : goal.returns-in_err-bit
unfolding typed_rest typed_read
returns-in_err-bit c =
    rw c.from_residual-in_err-bit.ensures (sym (package-on _ _ c.package.ensures c.in_ok-pkg.was ∙ small-on _ _ c.small.ensures c.in_ok-t.was ∙ small-out _ _ c.small-2.ensures c.in_err-bit.was))

pub returns : goal.returns
unfolding typed_rest typed_read
returns c =
    sym (package-on _ _ c.package.ensures c.in_ok-pkg.was ∙ small-on _ _ c.small.ensures c.in_ok-t.was ∙ small-on _ _ c.small-2.ensures c.in_ok-bit.was)
