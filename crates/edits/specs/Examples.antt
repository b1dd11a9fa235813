-- A table with every kind of line and its text; tables and what tidying makes of them, as texts. The prover computes them (proofs/Computed.antt).
use Rattle.std.specs.Prelude.{[]}
use Rattle.objects.specs.Lists.{Bytes}
use Rattle.rules.specs.Rows.{◌⏎◌}

-- every kind of line
abbrev pub every_line : Bytes
every_line =
    "typetable 1" ⏎
    "P disk" ⏎
    "P office/cat" ⏎
    "T basic 2" ⏎
    "T array 1200 0" ⏎
    "T slice 0" ⏎
    "T pointer 10" ⏎
    "T map 0 2" ⏎
    "T chan 2 0" ⏎
    "T tuple 0 2" ⏎
    "T func 1 6 6" ⏎
    "T struct" ⏎ "F Len 0 0 0 json" ⏎ "F rest - 0 1" ⏎
    "T iface" ⏎ "M Close 1 7 0" ⏎
    "T named 8" ⏎ "M Open 1 7 1" ⏎ []

-- Byte beside Uint8; a struct that recurs, with an exported field in another package; two names of it, which stay two
abbrev pub untidy : Bytes
untidy =
    "typetable 1" ⏎ "P a" ⏎ "P b" ⏎
    "T basic 8" ⏎
    "T basic 26" ⏎
    "T struct" ⏎ "F X 0 1 0" ⏎
    "T struct" ⏎ "F X 1 0 0" ⏎
    "T named 3" ⏎
    "T named 2" ⏎ []

abbrev pub untidy_tidied : Bytes
untidy_tidied =
    "typetable 1" ⏎ "P a" ⏎ "P b" ⏎
    "T basic 8" ⏎
    "T struct" ⏎ "F X 0 0 0" ⏎
    "T named 1" ⏎
    "T named 1" ⏎ []

-- two interfaces, each made of the other's like: no two lines are the same, yet the two are identical
abbrev pub ring : Bytes
ring =
    "typetable 1" ⏎
    "T iface" ⏎ "M X - 4 0" ⏎
    "T iface" ⏎ "M X - 5 0" ⏎
    "T tuple 0" ⏎
    "T tuple 1" ⏎
    "T func 0 2 2" ⏎
    "T func 0 3 3" ⏎ []

abbrev pub ring_tidied : Bytes
ring_tidied =
    "typetable 1" ⏎
    "T iface" ⏎ "M X - 2 0" ⏎
    "T tuple 0" ⏎
    "T func 0 1 1" ⏎ []
