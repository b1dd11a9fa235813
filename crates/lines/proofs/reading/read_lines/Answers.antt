-- `lines::reading::read_lines` meets its contract.
use Rattle.std.proofs.Common.{rules}
use mathlib.Core.Path.{refl, subst, ◌∙◌}
use native.Mathlib.Omega.{arith}
use Rattle.objects.specs.Rows.{table_of}
use Rattle.lines.specs.Adding.{Grown}
use Rattle.lines.specs.Reading.{read_meant}
use Rattle.lines.proofs.ReadLaws.{end-within, end-behind, text-ends, line-cut, line-room, line-brings, line_refused, line_read}
use mathlib.Core.Path.{◌≡◌}
use Rattle.std.specs.Prelude.{Result, Ok, Err}
use Rattle.objects.specs.declared.refusals.Reason.{Reason}
use Rattle.objects.specs.declared.refusals.Refusal.{Refusal}
use Rattle.lines.proofs.reading.read_lines.Goals as goal

pub returns-then-at-end : goal.returns-then-at-end
unfolding read_meant
returns-then-at-end c =
    record { text_value = c.loop-from.invariant.0 ∙ text-ends c.args.text.now c.loop-from.at c.loop-from.line (table_of c.args.text.now c.loop-from.rows) c.loop-from.invariant.3 c.line_end-end.ensures c.if-end-text.true c.if-at-end.true; laid = c.loop-from.invariant.1 }

pub returns-then-end-text : goal.returns-then-end-text
unfolding read_meant
returns-then-end-text c =
    record { text_value = c.loop-from.invariant.0 ∙ line-cut c.args.text.now c.loop-from.at c.loop-from.line (table_of c.args.text.now c.loop-from.rows) c.loop-from.invariant.3 c.line_end-end.ensures c.if-end-text.true c.if-at-end.false; laid = c.loop-from.invariant.1 }

pub add_line-requires : goal.add_line-requires
add_line-requires c =
    (c.requires.0, c.loop-from.invariant.1, line-room c.args.text.now c.loop-from.at c.loop-from.line (table_of c.args.text.now c.loop-from.rows) c.loop-from.invariant.3 c.line_end-end.ensures c.if-end-text.false c.line.ensures c.loop-from.rows c.loop-from.invariant.2, omega (arith, c.loop-from.invariant.5, c.requires.5))

pub returns-in_err-map_err : goal.returns-in_err-map_err
unfolding read_meant
returns-in_err-map_err c =
    let why : (reason : Reason) × ◌≡◌ {A = Result (Unit {0}) Reason} c.add_line.result (Err reason) × ◌≡◌ {A = Result (Unit {0}) Refusal} c.from_residual.result (Err (record { reason = reason; line = c.loop-from.line })) =
    search rules in
    record { text_value = rw why.2 (c.loop-from.invariant.0 ∙ line_refused c.args.text.now c.loop-from.at c.loop-from.line (table_of c.args.text.now c.loop-from.rows) c.loop-from.invariant.3 c.line_end-end.ensures c.if-end-text.false c.line.ensures c.loop-from.rows _ _ refl c.add_line.ensures.meant why.1); laid = c.add_line.ensures.laid }

pub overflow_add-at : goal.overflow_add-at
overflow_add-at c =
    omega (arith, end-within c.args.text.now c.loop-from.at c.loop-from.line (table_of c.args.text.now c.loop-from.rows) c.loop-from.invariant.3 c.line_end-end.ensures, c.requires.0)

pub loop-from-smaller : goal.loop-from-smaller
loop-from-smaller c =
    omega (arith, end-within c.args.text.now c.loop-from.at c.loop-from.line (table_of c.args.text.now c.loop-from.rows) c.loop-from.invariant.3 c.line_end-end.ensures, end-behind c.args.text.now c.loop-from.at c.loop-from.line (table_of c.args.text.now c.loop-from.rows) c.loop-from.invariant.3 c.line_end-end.ensures, c.if-end-text.false)

pub loop-from-preserved : goal.loop-from-preserved
loop-from-preserved c =
    let added : ◌≡◌ {A = Result (Unit {0}) Reason} c.add_line.result (Ok tt) = search rules in
    (c.loop-from.invariant.0 ∙ line_read c.args.text.now c.loop-from.at c.loop-from.line (table_of c.args.text.now c.loop-from.rows) c.loop-from.invariant.3 c.line_end-end.ensures c.if-end-text.false c.line.ensures c.loop-from.rows _ _ refl c.add_line.ensures.meant added, c.add_line.ensures.laid, line-brings c.args.text.now c.loop-from.at c.loop-from.line (table_of c.args.text.now c.loop-from.rows) c.loop-from.invariant.3 c.line_end-end.ensures c.if-end-text.false c.line.ensures c.loop-from.rows _ c.loop-from.invariant.2 (subst (Grown _ _ _ _ _) added c.add_line.ensures), omega (arith, end-within c.args.text.now c.loop-from.at c.loop-from.line (table_of c.args.text.now c.loop-from.rows) c.loop-from.invariant.3 c.line_end-end.ensures, c.if-end-text.false), omega (arith, end-behind c.args.text.now c.loop-from.at c.loop-from.line (table_of c.args.text.now c.loop-from.rows) c.loop-from.invariant.3 c.line_end-end.ensures, c.loop-from.invariant.4), search rules)
