-- `tidy_in` meets its contract.
use Rattle.std.proofs.Common.{rules}
use mathlib.Core.Path.{◌≡◌, sym, subst}
use Prim.Native.Nat.{ℕ}
use Rattle.std.specs.Prelude.{Result, Err}
use Rattle.rules.specs.Asked.{on_table}
use Rattle.rules.specs.Load.{load}
use Rattle.edits.specs.Tidying.{says_tidied}
use Rattle.reply.specs.declared.Unsaid.{Unsaid}
use Rattle.replies.specs.Replies.{Ends}
use Rattle.replies.proofs.Lending.{ends-does}
use Rattle.yifgrun.proofs.Asking.{table-refused, table-asked}
use Rattle.yifgrun.proofs.tidying.tidy_in.Goals as goal

pub tidy-requires : goal.tidy-requires
tidy-requires c = c.load.ensures.holds c.in_ok-load.was

pub returns-in_err-load : goal.returns-in_err-load
returns-in_err-load c =
    let handed_on : ◌≡◌ {A = Result ℕ Unsaid} c.from_residual.result (Err (Unsaid.Refused c.in_err-load.field-0.0)) = search rules in
    subst (λ r. Ends (on_table says_tidied (load c.args.table.now)) r c.args.output.now c.args.output.now) (sym handed_on)
    (table-refused _ _ _ says_tidied c.load.ensures c.in_err-load.was)

pub returns : goal.returns
returns c = table-asked _ _ _ says_tidied c.load.ensures c.in_ok-load.was (ends-does c.tidy.ensures)
