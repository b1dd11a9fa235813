-- `input::next_question` meets its contract.
use native.Mathlib.Omega.{arith}
use Rattle.input.proofs.InputLaws.{end-within, end-behind, next-on, next_last, next-none}
use Rattle.input.proofs.next_question.Goals as goal

pub overflow_add-result : goal.overflow_add-result
overflow_add-result c = omega (arith, c.if-end-input.true)

pub returns-then-end-input : goal.returns-then-end-input
returns-then-end-input c =
    record {
      says = next-on c.args.input.now _ c.requires c.line_end-end.ensures c.if-end-input.true;
      within = (end-behind c.args.input.now _ c.requires c.line_end-end.ensures, end-within c.args.input.now _ c.requires c.line_end-end.ensures, omega (arith, end-behind c.args.input.now _ c.requires c.line_end-end.ensures), omega (arith, c.if-end-input.true));
    }

pub returns-then-at-end : goal.returns-then-at-end
returns-then-at-end c =
    record {
      says = next_last c.args.input.now _ c.requires c.line_end-end.ensures c.if-end-input.false c.if-at-end.true;
      within = (end-behind c.args.input.now _ c.requires c.line_end-end.ensures, end-within c.args.input.now _ c.requires c.line_end-end.ensures, c.if-at-end.true, end-within c.args.input.now _ c.requires c.line_end-end.ensures);
    }

pub returns : goal.returns
returns c =
    record { says = next-none c.args.input.now _ c.requires c.line_end-end.ensures c.if-end-input.false c.if-at-end.false; within = tt }
