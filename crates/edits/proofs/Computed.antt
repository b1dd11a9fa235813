-- The texts of specs/Examples.antt, computed.
use mathlib.Core.Path.{◌≡◌, refl}
use lib.ListN.{length}
use Prim.Native.Nat.{◌-◌}
use Rattle.objects.specs.Rows.{dir_at}
use Rattle.text.specs.Bytes.{digits_on, decimal}
use Rattle.rules.specs.Asked.{say, refuse, on_table}
use Rattle.rules.specs.Rows.{calling}
use Rattle.edits.specs.Assembled.{assembled}
use Rattle.edits.specs.TableText.{line_body, lines_of, text_of}
use Rattle.edits.specs.Tidy.{least, remaining, tidy_type, tidied}
use Rattle.edits.specs.Tidying.{tidy_outcome}
use Rattle.edits.specs.Examples.{every_line, untidy, untidy_tidied, ring, ring_tidied}

-- nothing to tidy: every kind of line is written as it was read
every-line : tidy_outcome every_line (length every_line) ≡ say every_line
unfolding calling dir_at tidy_outcome on_table tidied tidy_type remaining least assembled text_of lines_of line_body decimal digits_on
every-line = refl

untidy-tidied : tidy_outcome untidy 100 ≡ say untidy_tidied
unfolding calling dir_at tidy_outcome on_table tidied tidy_type remaining least assembled text_of lines_of line_body decimal digits_on
untidy-tidied = refl

ring-tidied : tidy_outcome ring 100 ≡ say ring_tidied
unfolding calling dir_at tidy_outcome on_table tidied tidy_type remaining least assembled text_of lines_of line_body decimal digits_on
ring-tidied = refl

-- a byte too few
too-long : tidy_outcome ring (length ring_tidied - 1) ≡ refuse 13 0
unfolding calling dir_at tidy_outcome on_table tidied tidy_type remaining least assembled text_of lines_of line_body decimal digits_on
too-long = refl
