-- A row or more for each refusal from 2 to 12 and for 14 with its line, and for what the program reads.
use Rattle.std.specs.Prelude.{List, [], ◌∷◌, ◌++◌, ℕ, zero, suc, ◌+◌, replicate}
use Prim.Native.String.{String}
use Rattle.objects.specs.Bounds.{max_packages, max_types, max_per_type, max_text, Bounds}
use Rattle.objects.specs.Lists.{Bytes}
use Rattle.rules.specs.AskedAll.{refused_bytes}
use Rattle.rules.specs.Rows.{Run, run, whole, bad, table, ◌⏎◌, spaced}
use Rattle.rules.specs.Worked.{office}

-- the same line n times
abbrev times : ℕ → String → Bytes → Bytes
times zero l rest = rest
times (suc n) l rest = l ⏎ times n l rest

-- tables and questions that are refused
abbrev pub refusals : List Run
refusals =
    -- 3: another first line; nothing at all
    bad ("typetable 2" ⏎ "T basic 2" ⏎ []) ("refused 3 1" ⏎ [])
    ∷ bad [] ("refused 3 1" ⏎ [])
    -- 4: letter, field count, value outside its range
    ∷ bad (table ("X basic 2" ⏎ [])) ("refused 4 2" ⏎ [])
    ∷ bad (table ("T basic 2" ⏎ "T slice" ⏎ [])) ("refused 4 3" ⏎ [])
    ∷ bad (table ("T basic 28" ⏎ [])) ("refused 4 2" ⏎ [])
    ∷ bad (table ("T array 4294967296 0" ⏎ [])) ("refused 4 2" ⏎ [])
    ∷ bad (table ("T pointer 10000" ⏎ [])) ("refused 4 2" ⏎ [])
    ∷ bad (table ("T basic 02" ⏎ [])) ("refused 4 2" ⏎ [])
    ∷ bad (table ("P _" ⏎ [])) ("refused 4 2" ⏎ [])
    ∷ bad (table ("T basic 2 " ⏎ [])) ("refused 4 2" ⏎ [])
    ∷ bad (table ("T iface" ⏎ "M _ - 0 0" ⏎ [])) ("refused 4 3" ⏎ [])
    -- 5: P after T, F not under a struct, M not under a named type or interface
    ∷ bad (table ("T basic 2" ⏎ "P a" ⏎ [])) ("refused 5 3" ⏎ [])
    ∷ bad (table ("T iface" ⏎ "F X - 0 0" ⏎ [])) ("refused 5 3" ⏎ [])
    ∷ bad (table ("T struct" ⏎ "M X - 0 0" ⏎ [])) ("refused 5 3" ⏎ [])
    -- 6: a package, a type and a member of one type more than there may be, behind the header and the lines that there is room for
    ∷ bad (table (times (suc max_packages) "P a" [])) (refused_bytes 6 (1 + max_packages + 1))
    ∷ bad (table (times (suc max_types) "T struct" [])) (refused_bytes 6 (1 + max_types + 1))
    ∷ bad (table ("T struct" ⏎ times (suc max_per_type) "F _ - 0 0" [])) (refused_bytes 6 (1 + 1 + max_per_type + 1))
    -- 14: a path below the one before, a path again, the longer before its prefix, a small letter before a capital, by bytes and not as numbers
    ∷ bad (table ("P b" ⏎ "P a" ⏎ [])) ("refused 14 3" ⏎ [])
    ∷ bad (table ("P a" ⏎ "P b" ⏎ "P b" ⏎ "P a" ⏎ [])) ("refused 14 4" ⏎ [])
    ∷ bad (table ("P ab" ⏎ "P a" ⏎ [])) ("refused 14 3" ⏎ [])
    ∷ bad (table ("P a" ⏎ "P B" ⏎ [])) ("refused 14 3" ⏎ [])
    ∷ bad (table ("P p10" ⏎ "P p9" ⏎ "P p11" ⏎ [])) ("refused 14 4" ⏎ [])
    -- .. compared with the line just before it and not with the first; the first line that fails
    ∷ bad (table ("P a" ⏎ "P c" ⏎ "P b" ⏎ "P b" ⏎ [])) ("refused 14 4" ⏎ [])
    -- .. over the whole text, after 4 to 6 and before 7
    ∷ bad (table ("P b" ⏎ "P a" ⏎ "x" ⏎ [])) ("refused 4 4" ⏎ [])
    ∷ bad (table ("P b" ⏎ "P a" ⏎ "T struct" ⏎ "P c" ⏎ [])) ("refused 5 5" ⏎ [])
    ∷ bad (table ("P b" ⏎ "P a" ⏎ "T slice 9" ⏎ [])) ("refused 14 3" ⏎ [])
    -- .. and paths that ascend by their bytes
    ∷ run (table ("P !" ⏎ "P A" ⏎ "P Z" ⏎ "P _a" ⏎ "P a" ⏎ "P a.b" ⏎ "P a/b" ⏎ "P aa" ⏎ "P }}" ⏎ [])) ("V" ⏎ []) ("ok 9 0 0" ⏎ [])
    -- 7: a type and a package that the table lacks
    ∷ bad (table ("T basic 2" ⏎ "T slice 9999" ⏎ [])) ("refused 7 3" ⏎ [])
    ∷ bad (table ("P a" ⏎ "T basic 2" ⏎ "T struct" ⏎ "F X 1 0 0" ⏎ [])) ("refused 7 5" ⏎ [])
    -- 8: a tuple; a number not smaller; func of no tuple; variadic without a slice; named of named; sig no func; an interface's ptr
    ∷ bad (table ("T tuple" ⏎ "T pointer 0" ⏎ [])) ("refused 8 3" ⏎ [])
    ∷ bad (table ("T pointer 1" ⏎ "T basic 2" ⏎ [])) ("refused 8 2" ⏎ [])
    ∷ bad (table ("T basic 2" ⏎ "T func 0 0 0" ⏎ [])) ("refused 8 3" ⏎ [])
    ∷ bad (table ("T basic 2" ⏎ "T tuple 0" ⏎ "T func 1 1 1" ⏎ [])) ("refused 8 4" ⏎ [])
    ∷ bad (table ("T basic 2" ⏎ "T named 0" ⏎ "T named 1" ⏎ [])) ("refused 8 4" ⏎ [])
    ∷ bad (table ("T iface" ⏎ "M X - 0 0" ⏎ [])) ("refused 8 3" ⏎ [])
    ∷ bad (table ("T tuple" ⏎ "T func 0 0 0" ⏎ "T iface" ⏎ "M X - 1 1" ⏎ [])) ("refused 8 5" ⏎ [])
    -- 8: a method of a named pointer; an embedded named pointer, and a pointer to a named interface
    ∷ bad (table ("T basic 2" ⏎ "T pointer 0" ⏎ "T tuple" ⏎ "T func 0 2 2" ⏎ "T named 1" ⏎ "M X - 3 0" ⏎ [])) ("refused 8 7" ⏎ [])
    ∷ bad (table ("T basic 2" ⏎ "T pointer 0" ⏎ "T named 1" ⏎ "T struct" ⏎ "F X - 2 1" ⏎ [])) ("refused 8 6" ⏎ [])
    ∷ bad (table ("T iface" ⏎ "T named 0" ⏎ "T pointer 1" ⏎ "T struct" ⏎ "F X - 2 1" ⏎ [])) ("refused 8 6" ⏎ [])
    -- 9: two fields of one name; methods that do not ascend
    ∷ bad (table ("T basic 2" ⏎ "T struct" ⏎ "F X - 0 0" ⏎ "F X - 0 0" ⏎ [])) ("refused 9 5" ⏎ [])
    ∷ bad (table ("T tuple" ⏎ "T func 0 0 0" ⏎ "T iface" ⏎ "M Y - 1 0" ⏎ "M X - 1 0" ⏎ [])) ("refused 9 6" ⏎ [])
    -- 10: a struct that holds itself
    ∷ bad (table ("T basic 2" ⏎ "T named 2" ⏎ "T struct" ⏎ "F X - 1 0" ⏎ [])) ("refused 10 3" ⏎ [])
    -- 11: a letter, a number that the table lacks, a package that it lacks; 12: an N question whose second type is a name of an interface
    ∷ run office ("Z 0" ⏎ "M 8" ⏎ "S 7 0 1 Close" ⏎ "S 7 2 0 Close" ⏎ "V" ⏎ []) ("refused 11 0" ⏎ "refused 11 0" ⏎ "refused 11 0" ⏎ "refused 11 0" ⏎ "ok 1 8 3" ⏎ [])
    ∷ run (table ("T iface" ⏎ "T named 0" ⏎ [])) ("N 0 0 0" ⏎ "N 0 1 0" ⏎ "N 0 2 0" ⏎ []) ("satisfied" ⏎ "refused 12 0" ⏎ "refused 11 0" ⏎ [])
    ∷ []

-- 6: a member more than there may be in all, which fills a type that has room. Within a bound of 3, since as many as the bound in force would take as long to compute as all
-- other rows together; those are run (`load_run`, `typeask_run`).
abbrev pub three_members : Bounds
three_members = record { bytes = max_text; types = max_types; members = 3 }

abbrev pub pairs_of_fields : Bytes
pairs_of_fields = table ("T struct" ⏎ times 2 "F _ - 0 0" ("T struct" ⏎ times 2 "F _ - 0 0" []))

-- ---- the program

-- what the program reads, from its first byte to its last
abbrev pub programs : List Run
programs =
    -- "without `Q`, one V"; no newline (4) behind the last line
    whole office ("ok 1 8 3" ⏎ [])
    ∷ whole ("typetable 1" ⏎ []) ("ok 0 0 0" ⏎ [])
    ∷ whole ("typetable 1" ⏎ spaced "T basic 2") ("refused 4 2" ⏎ [])
    -- "The last question may lack its newline; a last `Q` without one is table text."
    ∷ whole (office ++ "Q" ⏎ spaced "C 0") ("yes" ⏎ [])
    ∷ whole ("typetable 1" ⏎ spaced "Q") ("refused 4 2" ⏎ [])
    -- `Q` and nothing behind it; an empty question; a table of no bytes
    ∷ whole (office ++ "Q" ⏎ []) []
    ∷ whole (office ++ "Q" ⏎ "" ⏎ "V" ⏎ []) ("refused 11 0" ⏎ "ok 1 8 3" ⏎ [])
    ∷ whole ("Q" ⏎ "V" ⏎ []) ("refused 3 1" ⏎ [])
    -- 2: a byte more than there may be "in all"
    ∷ whole (replicate (suc max_text) 120) ("refused 2 0" ⏎ [])
    ∷ []
