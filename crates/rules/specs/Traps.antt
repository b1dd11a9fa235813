-- The traps that document 01 names, sentences of it that could be read in another way, and answers to N, I and C, as rows.
use Rattle.std.specs.Prelude.{List, [], ◌∷◌, ◌++◌, replicate}
use Rattle.objects.specs.Lists.{Bytes}
use Rattle.rules.specs.Rows.{Run, run, table, ◌⏎◌, spaced}
use Rattle.rules.specs.Worked.{office, diamond, each_owns}

-- G, 2, has the method Run; C, 4, embeds G; A, 6, and B, 8, embed C; D, 10, embeds A then B
abbrev methods : Bytes
methods =
    "typetable 1" ⏎
    "T tuple" ⏎
    "T struct" ⏎
    "T named 1" ⏎ "M Run - 11 0" ⏎
    "T struct" ⏎ "F G - 2 1" ⏎ "T named 3" ⏎
    "T struct" ⏎ "F C - 4 1" ⏎ "T named 5" ⏎
    "T struct" ⏎ "F C - 4 1" ⏎ "T named 7" ⏎
    "T struct" ⏎ "F A - 6 1" ⏎ "F B - 8 1" ⏎ "T named 9" ⏎
    "T func 0 0 0" ⏎ []

-- two packages; 1 is a struct with the field x of package 0 and the pointer field P; 3 a struct that embeds a pointer to it
abbrev hidden : Bytes
hidden =
    "typetable 1" ⏎ "P a" ⏎ "P b" ⏎
    "T basic 2" ⏎
    "T struct" ⏎ "F x 0 0 0" ⏎ "F P 0 3 0" ⏎
    "T named 1" ⏎
    "T iface" ⏎
    "T pointer 2" ⏎
    "T struct" ⏎ "F In 0 4 1" ⏎ []

-- "Traps: .."
abbrev pub traps : List Run
traps =
    -- "taking the first of two equal-length ways"
    run each_owns ("S 6 0 - X" ⏎ []) ("ambiguous 0 0" ⏎ "and 1 0" ⏎ [])
    -- "not passing "reached twice" down to embedded types": D reaches C twice, and G, which has Run, lies below C
    ∷ run methods ("S 10 0 - Run" ⏎ "M 10" ⏎ "S 6 0 - Run" ⏎ []) ("ambiguous 0 0 0 0" ⏎ "and 1 0 0 0" ⏎ "set 0" ⏎ "entry 0 0 0 0 0" ⏎ [])
    -- "marking a type as seen before all ways to it on its level are counted"
    ∷ run diamond ("S 8 0 - X" ⏎ []) ("ambiguous 0 0 0" ⏎ "and 1 0 0" ⏎ [])
    -- "counting the found field's own pointer in the flag": In is a pointer, found at once; x lies behind it
    ∷ run hidden ("S 5 0 0 In" ⏎ "S 5 0 0 x" ⏎ []) ("entry 2 0 0" ⏎ "entry 0 1 0 0" ⏎ [])
    -- "giving an unexported name of another package"
    ∷ run hidden ("S 1 0 0 x" ⏎ "S 1 0 1 x" ⏎ "S 1 0 - x" ⏎ "S 1 0 1 P" ⏎ []) ("entry 0 0 0" ⏎ "notfound" ⏎ "notfound" ⏎ "entry 1 0 1" ⏎ [])
    ∷ []

-- ---- readings

-- types 1 and 3 are identical structs, 2 a name of one; 4 embeds 1, 2 and 3
abbrev ends : Bytes
ends =
    "typetable 1" ⏎
    "T basic 2" ⏎
    "T struct" ⏎ "F X - 0 0" ⏎
    "T named 1" ⏎
    "T struct" ⏎ "F X - 0 0" ⏎
    "T struct" ⏎ "F A - 1 1" ⏎ "F B - 2 1" ⏎ "F C - 3 1" ⏎ []

-- K, 5, has the method X; s, 3, is a struct with a field X
abbrev levels : Bytes → Bytes
levels more =
    "typetable 1" ⏎
    "T basic 2" ⏎
    "T tuple" ⏎
    "T func 0 1 1" ⏎
    "T struct" ⏎ "F X - 0 0" ⏎
    "T struct" ⏎
    "T named 4" ⏎ "M X - 2 0" ⏎ more

-- rows in which another reading of document 01 would give another answer
abbrev pub readings : List Run
readings =
    -- "4 to 6 are tried in turn on each line": 5 on line 3 comes before 4 on line 4; on one line 4 comes before 5
    run ("typetable 1" ⏎ "T basic 2" ⏎ "F X - 0 0" ⏎ "T" ⏎ []) [] ("refused 5 3" ⏎ [])
    ∷ run ("typetable 1" ⏎ "T basic 2" ⏎ "F X - 0" ⏎ []) [] ("refused 4 3" ⏎ [])
    -- "7 to 10 each over the whole text before the next": 7 on line 4 comes before 8 on line 3
    ∷ run ("typetable 1" ⏎ "T tuple" ⏎ "T slice 0" ⏎ "T slice 9" ⏎ []) [] ("refused 7 4" ⏎ [])
    -- 9, "line of the later member": two clashes, the first line; "or of the method that equals a field", also where the field stands below it
    ∷ run ("typetable 1" ⏎ "T tuple" ⏎ "T func 0 0 0" ⏎ "T named 3" ⏎ "M X - 1 0" ⏎ "T struct" ⏎ "F X - 1 0" ⏎ "F X - 1 0" ⏎ []) [] ("refused 9 5" ⏎ [])
    -- .. and an unexported name of another package is no clash, nor is a blank field
    ∷ run ("typetable 1" ⏎ "P a" ⏎ "P b" ⏎ "T basic 2" ⏎ "T struct" ⏎ "F x 0 0 0" ⏎ "F x 1 0 0" ⏎ "F _ - 0 0" ⏎ "F _ - 0 0" ⏎ "F x - 0 0" ⏎ "F x 0 0 0" ⏎ []) [] ("refused 9 11" ⏎ [])
    -- 10, "T line of the least number on such a cycle": 0 and 1 lead to cycles and lie on none; of 4, 5 and 2, 3 the least is 2
    ∷ run ("typetable 1" ⏎ "T named 1" ⏎ "T struct" ⏎ "F X - 4 0" ⏎ "F Y - 2 0" ⏎ "T named 3" ⏎ "T struct" ⏎ "F Z - 2 0" ⏎ "T named 5" ⏎ "T struct" ⏎ "F W - 4 0" ⏎ []) [] ("refused 10 6" ⏎ [])
    -- .. "through array elements", of an array of none too
    ∷ run ("typetable 1" ⏎ "T named 1" ⏎ "T array 0 0" ⏎ []) [] ("refused 10 2" ⏎ [])
    -- 8, "if variadic the first ends in a slice": itself of kind slice, not a name of one; and it has an element
    ∷ run ("typetable 1" ⏎ "T basic 2" ⏎ "T slice 0" ⏎ "T tuple 1" ⏎ "T func 1 2 2" ⏎ []) ("V" ⏎ []) ("ok 0 4 0" ⏎ [])
    ∷ run ("typetable 1" ⏎ "T basic 2" ⏎ "T slice 0" ⏎ "T named 1" ⏎ "T tuple 2" ⏎ "T func 1 3 3" ⏎ []) [] ("refused 8 6" ⏎ [])
    ∷ run ("typetable 1" ⏎ "T tuple" ⏎ "T func 1 0 0" ⏎ []) [] ("refused 8 3" ⏎ [])
    -- 8, "nor a pointer to a pointer, an interface, or a name of either": an interface and a name of one may be embedded, a pointer to one may not
    ∷ run (table ("T iface" ⏎ "T named 0" ⏎ "T struct" ⏎ "T slice 2" ⏎ "T struct" ⏎ "F A - 0 1" ⏎ "F B - 1 1" ⏎ "F C - 2 1" ⏎ "F D - 3 1" ⏎ [])) ("V" ⏎ []) ("ok 0 5 4" ⏎ [])
    ∷ run (table ("T iface" ⏎ "T pointer 0" ⏎ "T struct" ⏎ "F A - 1 1" ⏎ [])) [] ("refused 8 5" ⏎ [])
    ∷ run (table ("T basic 2" ⏎ "T pointer 0" ⏎ "T pointer 1" ⏎ "T struct" ⏎ "F A - 2 1" ⏎ [])) [] ("refused 8 6" ⏎ [])
    ∷ run (table ("T basic 2" ⏎ "T pointer 0" ⏎ "T named 1" ⏎ "T pointer 2" ⏎ "T struct" ⏎ "F A - 3 1" ⏎ [])) [] ("refused 8 7" ⏎ [])
    -- the form of S: no package, or one of the table, also for an exported name; `_` has the form of a name; 64 bytes at most, no digit first, not empty
    ∷ run office ("S 7 0 - Close" ⏎ "S 7 0 1 Close" ⏎ "S 7 0 0 _" ⏎ "S 7 0 0 1x" ⏎ "S 7 0 0 " ⏎ []) ("entry 0 1 0 0" ⏎ "refused 11 0" ⏎ "notfound" ⏎ "refused 11 0" ⏎ "refused 11 0" ⏎ [])
    ∷ run office (spaced "S 7 0 0 " ++ replicate 64 120 ++ "" ⏎ spaced "S 7 0 0 " ++ replicate 65 120 ++ "" ⏎ []) ("notfound" ⏎ "refused 11 0" ⏎ [])
    -- both ways are shown, whether their ends are identical or not: two names of one struct are not
    ∷ run ("typetable 1" ⏎ "T basic 2" ⏎ "T struct" ⏎ "F X - 0 0" ⏎ "T named 1" ⏎ "T named 1" ⏎ "T struct" ⏎ "F A - 2 1" ⏎ "F B - 3 1" ⏎ []) ("S 4 0 - X" ⏎ "I 2 3" ⏎ []) ("ambiguous 0 0" ⏎ "and 1 0" ⏎ "no" ⏎ [])
    -- "the next one in the order of places": the second, and not the third, which ends in a type identical to the first's
    ∷ run ends ("S 4 0 - X" ⏎ "I 1 3" ⏎ "I 1 2" ⏎ []) ("ambiguous 0 0" ⏎ "and 1 0" ⏎ "yes" ⏎ "no" ⏎ [])
    -- M, document 02: "one field at a level hides its name for all deeper levels": 7 has the field X itself, and embeds K
    ∷ run (levels ("T struct" ⏎ "F X - 0 0" ⏎ "F K - 5 1" ⏎ "T named 6" ⏎ [])) ("M 7" ⏎ "S 7 0 - X" ⏎ []) ("set 0" ⏎ "entry 2 0 0" ⏎ [])
    -- .. its name is its identity: the field x of package 0 does not hide the method x of package 1
    ∷ run ("typetable 1" ⏎ "P a" ⏎ "P b" ⏎ "T tuple" ⏎ "T func 0 0 0" ⏎ "T struct" ⏎ "T named 2" ⏎ "M x 1 1 0" ⏎ "T struct" ⏎ "F x 0 1 0" ⏎ "F K - 3 1" ⏎ []) ("M 4" ⏎ []) ("set 1" ⏎ "sel 0 0 1 0" ⏎ [])
    -- .. two fields hide too: 8 has two ways to s, and one to K a level below
    ∷ run (levels ("T struct" ⏎ "F K - 5 1" ⏎ "T named 6" ⏎ "T struct" ⏎ "F A - 3 1" ⏎ "F B - 3 1" ⏎ "F C - 7 1" ⏎ [])) ("M 8" ⏎ "M 7" ⏎ []) ("set 0" ⏎ "set 1" ⏎ "sel 1 0 0 0" ⏎ [])
    -- M, document 02: "a pointer to any type with an interface under it has an empty set"; "An interface's method has flag 1."
    ∷ run ("typetable 1" ⏎ "T tuple" ⏎ "T func 0 0 0" ⏎ "T iface" ⏎ "M X - 1 0" ⏎ "T named 2" ⏎ "T pointer 3" ⏎ "T pointer 2" ⏎ []) ("M 2" ⏎ "M 3" ⏎ "M 4" ⏎ "M 5" ⏎ []) ("set 1" ⏎ "sel 0 1 0" ⏎ "set 1" ⏎ "sel 0 1 0" ⏎ "set 0" ⏎ "set 0" ⏎ [])
    -- M: "ascending by id", and "a pointer-receiver method with flag 0" is not in the set
    ∷ run ("typetable 1" ⏎ "T tuple" ⏎ "T func 0 0 0" ⏎ "T struct" ⏎ "T named 2" ⏎ "M B - 1 0" ⏎ "M A - 1 0" ⏎ "M C - 1 1" ⏎ "T pointer 3" ⏎ []) ("M 3" ⏎ "M 4" ⏎ []) ("set 2" ⏎ "sel 1 0 1" ⏎ "sel 0 0 0" ⏎ "set 3" ⏎ "sel 1 1 1" ⏎ "sel 0 1 0" ⏎ "sel 2 1 2" ⏎ [])
    -- M: a named struct embeds a pointer to itself, and K: X is reached once, by K, and not once more behind the pointer; the pointer's number is the smaller one (8)
    ∷ run (levels ("T struct" ⏎ "F A - 8 1" ⏎ "F B - 5 1" ⏎ "T named 6" ⏎ "T pointer 7" ⏎ [])) [] ("refused 8 11" ⏎ [])
    ∷ run (levels ("T named 8" ⏎ "T pointer 6" ⏎ "T struct" ⏎ "F A - 7 1" ⏎ "F B - 5 1" ⏎ [])) ("M 6" ⏎ []) ("set 1" ⏎ "sel 1 0 1 0" ⏎ [])
    ∷ []

-- ---- N, I, C

-- 5 asks for Get and Put, 6 for Get with another type, 11 for Put; 8 has Put by pointer and Get by value, 9 is a pointer to it, 10 a name of 6
abbrev stores : Bytes
stores =
    "typetable 1" ⏎
    "T tuple" ⏎
    "T basic 2" ⏎
    "T tuple 1" ⏎
    "T func 0 0 0" ⏎
    "T func 0 0 2" ⏎
    "T iface" ⏎ "M Get - 3 0" ⏎ "M Put - 3 0" ⏎
    "T iface" ⏎ "M Get - 4 0" ⏎
    "T struct" ⏎
    "T named 7" ⏎ "M Put - 3 1" ⏎ "M Get - 3 0" ⏎
    "T pointer 8" ⏎
    "T named 6" ⏎
    "T iface" ⏎ "M Put - 3 0" ⏎ []

-- interfaces whose methods take and give each other: 0 and 1 are identical, 8 is not
abbrev cycles : Bytes
cycles =
    "typetable 1" ⏎
    "T iface" ⏎ "M Next - 4 0" ⏎
    "T iface" ⏎ "M Next - 5 0" ⏎
    "T tuple 1" ⏎
    "T tuple 0" ⏎
    "T func 0 2 2" ⏎
    "T func 0 3 3" ⏎
    "T tuple" ⏎
    "T func 0 3 6" ⏎
    "T iface" ⏎ "M Next - 7 0" ⏎ []

-- 2 and 3 differ in a tag alone, 4 and 5 in the package of an exported name alone, 6 and 7 in that of another name
abbrev structs : Bytes
structs =
    "typetable 1" ⏎ "P a" ⏎ "P b" ⏎
    "T basic 25" ⏎
    "T basic 5" ⏎
    "T struct" ⏎ "F X 0 1 0" ⏎
    "T struct" ⏎ "F X 0 1 0 t" ⏎
    "T struct" ⏎ "F X 0 1 0" ⏎
    "T struct" ⏎ "F X 1 1 0" ⏎
    "T struct" ⏎ "F x 0 1 0" ⏎
    "T struct" ⏎ "F x 1 1 0" ⏎
    "T basic 27" ⏎
    "T array 3 0" ⏎
    "T named 9" ⏎
    "T array 2 7" ⏎
    "T slice 7" ⏎
    "T pointer 12" ⏎
    "T chan 1 12" ⏎
    "T chan 2 12" ⏎
    "T map 1 1" ⏎ []

-- N, I and C
abbrev pub others : List Run
others =
    -- "any answer but an `entry` that is a method counts as unmet with w 0"; "w is 1 where a method is there with another type"
    run stores ("N 8 5 0" ⏎ "N 9 5 0" ⏎ "N 9 6 0" ⏎ []) ("missing 1 0" ⏎ "satisfied" ⏎ "missing 2 1" ⏎ [])
    -- "t with an interface under it: only methods of other type count, and absent ones too if s is 1"
    ∷ run stores ("N 10 5 0" ⏎ "N 11 5 0" ⏎ "N 11 5 1" ⏎ "N 6 6 1" ⏎ []) ("missing 0 1" ⏎ "satisfied" ⏎ "missing 0 0" ⏎ "satisfied" ⏎ [])
    -- "an interface pair already met counts as identical"
    ∷ run cycles ("I 0 1" ⏎ "I 4 5" ⏎ "I 0 8" ⏎ []) ("yes" ⏎ "yes" ⏎ "no" ⏎ [])
    -- "tags count"; "Rune is Int32"
    ∷ run structs ("I 2 3" ⏎ "I 4 5" ⏎ "I 6 7" ⏎ "I 1 8" ⏎ "I 14 15" ⏎ []) ("no" ⏎ "yes" ⏎ "no" ⏎ "yes" ⏎ "no" ⏎ [])
    -- UntypedNil in an array under a name; an array of structs; a slice, and a pointer to it; chan; map
    ∷ run structs ("C 10" ⏎ "C 11" ⏎ "C 12" ⏎ "C 13" ⏎ "C 14" ⏎ "C 16" ⏎ []) ("no" ⏎ "yes" ⏎ "no" ⏎ "yes" ⏎ "yes" ⏎ "no" ⏎ [])
    ∷ []
