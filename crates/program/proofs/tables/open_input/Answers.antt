-- `open_input` meets its contract: refusal 2, a refusal of the table, or what its parts give.
use Rattle.std.proofs.Common.{rules}
use mathlib.Core.Path.{◌≡◌, sym, ap, subst, ◌∙◌}
use Prim.Native.Nat.{ℕ}
use Rattle.std.specs.Prelude.{Option, Result, Err}
use Rattle.objects.specs.declared.refusals.Refusal.{Refusal}
use Rattle.input.specs.Parts.{parts_meant, parts_within}
use Rattle.program.specs.Steps.{Opens}
use Rattle.program.proofs.OpenLaws.{opens-long, whole-refused, whole-loaded, until-refused, until-loaded}
use Rattle.program.proofs.tables.open_input.Goals as goal

pub returns-then-input-gt-MAX_TEXT : goal.returns-then-input-gt-MAX_TEXT
returns-then-input-gt-MAX_TEXT c = opens-long c.args.input.now _ c.if-input-gt-MAX_TEXT.true

pub returns-in_err-load : goal.returns-in_err-load
returns-in_err-load c =
    let says = c.split.ensures.says ∙ ap (parts_meant c.args.input.now) c.in_default.is in
    let handed_on : ◌≡◌ {A = Result (Option (ℕ × ℕ)) Refusal} c.from_residual.result (Err c.in_err-load.field-0.0) = search rules in
    subst (λ r. Opens c.args.input.now r c.load.new.rows) (sym handed_on) (whole-refused _ c.if-input-gt-MAX_TEXT.false says _ c.load.ensures c.in_err-load.was)

pub returns-in_default : goal.returns-in_default
returns-in_default c =
    let says = c.split.ensures.says ∙ ap (parts_meant c.args.input.now) c.in_default.is in
    whole-loaded _ c.if-input-gt-MAX_TEXT.false says _ c.load.ensures c.in_ok-load.was

pub returns-in_err-load-2 : goal.returns-in_err-load-2
returns-in_err-load-2 c =
    let within = subst (parts_within c.args.input.now) c.in-Some.is c.split.ensures.within in
    let says = c.split.ensures.says ∙ ap (parts_meant c.args.input.now) c.in-Some.is in
    let handed_on : ◌≡◌ {A = Result (Option (ℕ × ℕ)) Refusal} c.from_residual-in_err-load-2.result (Err c.in_err-load-2.field-0.0) = search rules in
    subst (λ r. Opens c.args.input.now r c.load-2.new.rows) (sym handed_on)
    (until-refused c.args.input.now c.if-input-gt-MAX_TEXT.false _ _ within.0 within.1 says _ c.load-2.ensures c.in_err-load-2.was)

pub returns : goal.returns
returns c =
    let within = subst (parts_within c.args.input.now) c.in-Some.is c.split.ensures.within in
    let says = c.split.ensures.says ∙ ap (parts_meant c.args.input.now) c.in-Some.is in
    until-loaded c.args.input.now c.if-input-gt-MAX_TEXT.false _ _ within.0 within.1 says _ c.load-2.ensures c.in_ok-load-2.was
