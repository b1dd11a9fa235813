-- `decide_in` meets its contract.
use Rattle.std.proofs.Common.{rules}
use mathlib.Core.Path.{◌≡◌, refl, sym, subst}
use Prim.Native.Nat.{ℕ}
use native.Mathlib.Omega.{arith}
use Rattle.std.specs.Prelude.{Result, Err}
use Rattle.rules.specs.Asked.{on_table}
use Rattle.rules.specs.Load.{load}
use Rattle.reply.specs.declared.Unsaid.{Unsaid}
use Rattle.replies.specs.Replies.{said_of, Ends}
use Rattle.yifgrun.proofs.Asking.{table-refused, table-asked, ends_on}
use Rattle.yifgrun.proofs.decide_in.Goals as goal

pub sign_for_many-requires : goal.sign_for_many-requires
sign_for_many-requires c = c.load.ensures.holds c.in_ok-load.was

pub replied-requires : goal.replied-requires
replied-requires c =
    record { library = c.sign_for_many.ensures.library; mark_words_in_bounds = omega (arith, c.requires.0.0); marks_value = c.requires.0.1 }

pub returns-in_err-load : goal.returns-in_err-load
returns-in_err-load c =
    let handed_on : ◌≡◌ {A = Result ℕ Unsaid} c.from_residual.result (Err (Unsaid.Refused c.in_err-load.field-0.0)) = search rules in
    let due = on_table (said_of c.args.asking c.args.question.now) (load c.args.table.now) in
    record { ends = subst (λ r. Ends due r c.args.answer.now c.args.answer.now) (sym handed_on) (table-refused _ _ _ _ c.load.ensures c.in_err-load.was); work_unchanged = refl }

pub returns : goal.returns
returns c =
    record { ends = table-asked _ _ _ _ c.load.ensures c.in_ok-load.was (ends_on (said_of c.args.asking c.args.question.now) c.sign_for_many.ensures.rows_unchanged c.replied.ensures.ends); work_unchanged = c.replied.ensures.marks_unchanged }
