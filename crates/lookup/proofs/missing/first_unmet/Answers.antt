-- `lookup::missing::first_unmet` meets its contract. The invariant: what the whole list gives, the methods from i on give.
use Rattle.std.proofs.Common.{rules}
use mathlib.Core.Path.{refl, sym, ap, ◌∙◌}
use native.Mathlib.Omega.{arith}
use lib.ListN.{length}
use Rattle.lookup.proofs.MissingLaws.{zeros-still, long-still, scratch-still, unmet-start, unmet-here, unmet-next, unmet-end}
use Rattle.lookup.proofs.missing.first_unmet.Goals as goal

pub loop-i-init : goal.loop-i-init
loop-i-init c = (unmet-start _ _ _ _ _ _, refl, refl, refl)

pub overflow_add-first : goal.overflow_add-first
overflow_add-first c = omega (arith, c.requires.t_bound.2)

pub unmet-lack-requires : goal.unmet-lack-requires
unmet-lack-requires c =
    record { library = c.requires.library; t_bound = (c.requires.t_bound.0, c.requires.t_bound.1 _ c.loop-i-test.true); mark_words_in_bounds = (long-still c.loop-i.invariant.1 _ c.requires.mark_words_in_bounds.0, scratch-still c.requires.mark_words_in_bounds.1 c.loop-i.invariant.2 c.loop-i.invariant.3); marks_value = zeros-still c.loop-i.invariant.1 c.requires.marks_value }

pub loop-i-preserved : goal.loop-i-preserved
loop-i-preserved c =
    (c.loop-i.invariant.0 ∙ unmet-next _ _ _ _ _ _ _ c.loop-i-test.true _ c.unmet-lack.ensures.result_value (sym c.is_some.ensures ∙ c.if-is_some.false), c.unmet-lack.ensures.marks_unchanged ∙ c.loop-i.invariant.1, search rules, search rules)

pub shape_of-marks-then-is_some : goal.shape_of-marks-then-is_some
shape_of-marks-then-is_some c = ap length (c.unmet-lack.ensures.marks_unchanged ∙ c.loop-i.invariant.1)

pub returns-then-is_some : goal.returns-then-is_some
returns-then-is_some c =
    record { result_value = unmet-here _ _ _ _ _ _ _ c.loop-i-test.true _ c.unmet-lack.ensures.result_value (sym c.is_some.ensures ∙ c.if-is_some.true) ∙ sym c.loop-i.invariant.0; marks_unchanged = c.unmet-lack.ensures.marks_unchanged ∙ c.loop-i.invariant.1 }

pub returns : goal.returns
returns c =
    record { result_value = unmet-end _ _ _ _ _ _ _ c.loop-i.auto.i-end c.loop-i-test.false ∙ sym c.loop-i.invariant.0; marks_unchanged = c.loop-i.invariant.1 }
