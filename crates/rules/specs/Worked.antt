-- The worked answers of document 01, as rows of one table; its two ambiguous ones with both ways, as document 02, point 1, has them.
use Rattle.std.specs.Prelude.{List, [], ◌∷◌}
use Rattle.objects.specs.Lists.{Bytes}
use Rattle.rules.specs.Rows.{Case, case, ◌⏎◌}

-- "A table and its print"
abbrev pub office : Bytes
office =
    "typetable 1" ⏎
    "P office/cat" ⏎
    "T basic 2" ⏎
    "T tuple" ⏎
    "T func 0 1 1" ⏎
    "T named 4" ⏎
    "M Close 0 2 1" ⏎
    "T struct" ⏎
    "F Len 0 0 0" ⏎
    "T pointer 3" ⏎
    "T struct" ⏎
    "F Block 0 5 1" ⏎
    "T named 6" ⏎ []

-- "D embeds A then B, both embed C with field X": C is 2, A 4, B 6, D 8
abbrev pub diamond : Bytes
diamond =
    "typetable 1" ⏎
    "T basic 2" ⏎
    "T struct" ⏎ "F X - 0 0" ⏎ "T named 1" ⏎
    "T struct" ⏎ "F C - 2 1" ⏎ "T named 3" ⏎
    "T struct" ⏎ "F C - 2 1" ⏎ "T named 5" ⏎
    "T struct" ⏎ "F A - 4 1" ⏎ "F B - 6 1" ⏎ "T named 7" ⏎ []

-- "A and B each own X instead": A is 2, B 4, D 6
abbrev pub each_owns : Bytes
each_owns =
    "typetable 1" ⏎
    "T basic 2" ⏎
    "T struct" ⏎ "F X - 0 0" ⏎ "T named 1" ⏎
    "T struct" ⏎ "F X - 0 0" ⏎ "T named 3" ⏎
    "T struct" ⏎ "F A - 2 1" ⏎ "F B - 4 1" ⏎ "T named 5" ⏎ []

-- "Basic 26 and 8"
abbrev pub basics : Bytes
basics = "typetable 1" ⏎ "T basic 26" ⏎ "T basic 8" ⏎ []

-- "These eleven answers are established of the rules themselves, as rows of one table"
abbrev pub worked : List Case
worked =
    case office "S 7 0 0 Close" ("entry 0 1 0 0" ⏎ [])
    ∷ case office "S 7 0 0 Len" ("entry 1 1 0 0" ⏎ [])
    ∷ case office "S 3 0 0 Close" ("badreceiver" ⏎ [])
    ∷ case office "S 7 0 0 Open" ("notfound" ⏎ [])
    ∷ case office "M 3" ("set 0" ⏎ [])
    ∷ case office "M 5" ("set 1" ⏎ "sel 0 1 0" ⏎ [])
    ∷ case office "M 7" ("set 1" ⏎ "sel 0 1 0 0" ⏎ [])
    ∷ case office "C 2" ("no" ⏎ [])
    ∷ case diamond "S 8 0 - X" ("ambiguous 0 0 0" ⏎ "and 1 0 0" ⏎ [])
    ∷ case each_owns "S 6 0 - X" ("ambiguous 0 0" ⏎ "and 1 0" ⏎ [])
    ∷ case basics "I 0 1" ("yes" ⏎ [])
    ∷ []
