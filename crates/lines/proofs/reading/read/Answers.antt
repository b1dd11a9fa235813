-- `lines::reading::read` meets its contract.
use mathlib.Core.Path.{sym, ap, ◌∙◌}
use native.Mathlib.Omega.{arith}
use lib.ListN.{drop}
use Rattle.objects.specs.Bounds.{bounds}
use Rattle.text.specs.Lines.{pieces}
use Rattle.rules.specs.Load.{lines_from, then_checked}
use Rattle.lines.specs.Reading.{read_meant}
use Rattle.lines.proofs.ReadLaws.{too-long, no_header, header-fits, header_read, none-held, none-taken}
use Rattle.lines.proofs.reading.read.Goals as goal

pub returns-then-text-gt-MAX_TEXT : goal.returns-then-text-gt-MAX_TEXT
unfolding read_meant
returns-then-text-gt-MAX_TEXT c =
    record { text_value = too-long c.args.text.now c.if-text-gt-MAX_TEXT.true; laid = (none-held c.args.text.now _ c.requires.0 (omega (arith, c.requires.1))).0 }

pub read_lines-requires : goal.read_lines-requires
read_lines-requires c =
    (c.if-text-gt-MAX_TEXT.false, header-fits c.args.text.now c.if-text-gt-MAX_TEXT.false c.starts.ensures c.if-starts.true, (none-held c.args.text.now _ c.requires.0 (omega (arith, c.requires.1))).0, omega (arith, none-taken c.args.rows.now c.requires.0 (omega (arith, c.requires.1))), omega arith, c.requires.1)

pub returns-then-starts : goal.returns-then-starts
returns-then-starts c =
    record { text_value = header_read c.args.text.now c.if-text-gt-MAX_TEXT.false c.starts.ensures c.if-starts.true ∙ ap then_checked (ap (λ T. lines_from bounds 2 T (pieces (drop 12 c.args.text.now))) (sym (none-held c.args.text.now _ c.requires.0 (omega (arith, c.requires.1))).1) ∙ c.read_lines.ensures.text_value); laid = c.read_lines.ensures.laid }

pub returns : goal.returns
unfolding read_meant
returns c =
    record { text_value = no_header c.args.text.now c.if-text-gt-MAX_TEXT.false c.starts.ensures c.if-starts.false; laid = (none-held c.args.text.now _ c.requires.0 (omega (arith, c.requires.1))).0 }
