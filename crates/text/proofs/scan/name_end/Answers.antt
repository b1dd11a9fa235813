-- `text::scan::name_end` meets its contract: the run that a newline ends, or the run up to the end.
use mathlib.Core.Path.{refl}
use borrow.Author.Tests.{eq-eqb}
use Rattle.text.specs.Bytes.{is_name_byte}
use Rattle.text.proofs.NameLaws.{newline-ended, newline-end}
use Rattle.std.proofs.Common.{rules}
use Rattle.text.proofs.scan.name_end.Goals as goal

pub run_met-requires : goal.run_met-requires
run_met-requires c =
    record {
      callable = search rules;
      ended = (is_name_byte, search rules, newline-ended _ _ _ c.stop-stop.ensures c.if-at-stop.true c.byte.ensures refl (eq-eqb _ _ c.if-byte-eq10.true));
    }

pub returns-then-byte-eq10 : goal.returns-then-byte-eq10
returns-then-byte-eq10 c =
    newline-end _ _ _ c.stop-stop.ensures c.if-at-stop.true c.byte.ensures refl (eq-eqb _ _ c.if-byte-eq10.true) (c.run_met.ensures is_name_byte (search rules))

pub returns : goal.returns
returns c = c.run.ensures is_name_byte (search rules)
