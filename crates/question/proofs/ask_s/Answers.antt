-- `question::ask_s` meets its contract: a type, whether it is addressable, a package and a name.
use mathlib.Core.Path.{◌∙◌}
use native.Mathlib.Omega.{arith}
use Rattle.text.proofs.AnswerLaws.{part-on, part_out}
use Rattle.question.proofs.Steps.{then-on, then-out, value_none, value-is}
use Rattle.question.proofs.RefLaws.{ref-on, ref-out, flag-on, flag-out, pkg-on, pkg-out}
use Rattle.question.proofs.FormLaws.{reads_at, wrong-reads, s_reads, s-form, name-order, name-end}
use Rattle.question.proofs.ask_s.Goals as goal

pub returns-in_err-t : goal.returns-in_err-t
returns-in_err-t c =
    rw c.from_residual.ensures (wrong-reads _ (s-form _ ∙ value_none (then-out _ _ _ (ref-out _ _ _ c.small.ensures c.in_err-t.was))))

pub returns-in_err-a : goal.returns-in_err-a
returns-in_err-a c =
    rw c.from_residual-in_err-a.ensures (wrong-reads _ (s-form _ ∙ value_none (then-on _ _ _ (ref-on _ _ _ c.small.ensures c.in_ok-t.was) ∙ then-out _ _ _ (flag-out _ _ _ c.small-2.ensures c.in_err-a.was))))

pub returns-in_err-pkg : goal.returns-in_err-pkg
returns-in_err-pkg c =
    rw c.from_residual-in_err-pkg.ensures (wrong-reads _ (s-form _ ∙ value_none (then-on _ _ _ (ref-on _ _ _ c.small.ensures c.in_ok-t.was) ∙ then-on _ _ _ (flag-on _ _ _ c.small-2.ensures c.in_ok-a.was) ∙ then-out _ _ _ (pkg-out _ _ _ c.package.ensures c.in_err-pkg.was))))

pub returns-in_err-name : goal.returns-in_err-name
returns-in_err-name c =
    rw c.from_residual-in_err-name.ensures (wrong-reads _ (s-form _ ∙ value_none (then-on _ _ _ (ref-on _ _ _ c.small.ensures c.in_ok-t.was) ∙ then-on _ _ _ (flag-on _ _ _ c.small-2.ensures c.in_ok-a.was) ∙ then-on _ _ _ (pkg-on _ _ _ c.package.ensures c.in_ok-pkg.was) ∙ then-out _ _ _ (part_out _ _ c.name.ensures.result_value c.in_err-name.was))))

pub overflow_sub-len : goal.overflow_sub-len
overflow_sub-len c = name-order _ _ _ c.name.ensures.result_value c.name.ensures.exact c.in_ok-name.was

pub overflow_cast-name : goal.overflow_cast-name
overflow_cast-name c =
    omega (arith, name-order _ _ _ c.name.ensures.result_value c.name.ensures.exact c.in_ok-name.was, name-end _ _ _ c.name.ensures.result_value c.name.ensures.exact c.in_ok-name.was, c.requires)

pub overflow_cast-len : goal.overflow_cast-len
overflow_cast-len c =
    omega (arith, name-order _ _ _ c.name.ensures.result_value c.name.ensures.exact c.in_ok-name.was, name-end _ _ _ c.name.ensures.result_value c.name.ensures.exact c.in_ok-name.was, c.requires)

pub returns : goal.returns
returns c =
    reads_at (s-form _ ∙ value-is (then-on _ _ _ (ref-on _ _ _ c.small.ensures c.in_ok-t.was) ∙ then-on _ _ _ (flag-on _ _ _ c.small-2.ensures c.in_ok-a.was) ∙ then-on _ _ _ (pkg-on _ _ _ c.package.ensures c.in_ok-pkg.was) ∙ then-on _ _ _ (part-on _ _ c.name.ensures.result_value c.in_ok-name.was))) (c.ended.ensures _ _ (s_reads _ _ _ c.name.ensures.result_value c.name.ensures.exact c.in_ok-name.was _ _ _))
