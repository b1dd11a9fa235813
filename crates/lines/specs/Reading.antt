-- What reading the whole text leaves: the table that the rows hold, or the refusal (2 to 6) with its line.
use Rattle.std.specs.Prelude.{Result, Ok, Err}
use Rattle.objects.specs.Lists.{Bytes}
use Rattle.objects.specs.Rows.{Words, table_of}
use Rattle.text.specs.Bytes.{ascii}
use Rattle.rules.specs.Load.{Loaded, refused, loaded}
use Rattle.objects.specs.declared.refusals.Refusal.{Refusal}
use Rattle.objects.specs.Refusals.{reason_number}

-- 3: "exactly `typetable`, tab, `1`, newline"
abbrev pub header : Bytes
header = ascii "typetable\t1\n"

unfoldable pub read_meant : Bytes → Words → Result (Unit {0}) Refusal → Loaded
read_meant text rows (Ok u) = loaded (table_of text rows)
read_meant text rows (Err r) = refused (reason_number r.reason) r.line
