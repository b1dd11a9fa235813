-- `table::load` meets its contract.
use Rattle.std.proofs.Common.{rules}
use mathlib.Core.Path.{◌≡◌, sym, subst}
use Rattle.std.specs.Prelude.{Result, Err}
use Rattle.objects.specs.declared.refusals.Refusal.{Refusal}
use Rattle.table.specs.Loading.{Loads}
use Rattle.table.proofs.Whole.{refused-early, loads-after}
use Rattle.table.proofs.load.Goals as goal

pub read-requires : goal.read-requires
read-requires c = c.requires

pub check-requires : goal.check-requires
check-requires c = c.read.ensures.laid

pub returns-in_err-read : goal.returns-in_err-read
returns-in_err-read c =
    let handed_on : ◌≡◌ {A = Result (Unit {0}) Refusal} c.from_residual.result (Err c.in_err-read.field-0.0) = search rules in
    subst (λ r. Loads c.args.text.now r c.read.new.rows) (sym handed_on) (refused-early _ _ c.read.ensures.text_value c.in_err-read.was)

pub returns : goal.returns
returns c = loads-after _ _ _ c.read.ensures.text_value c.in_ok-read.was c.check.ensures
