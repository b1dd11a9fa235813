-- Worked examples of growth: for each case of the promise an old text, a new one, a question and the question put again. The prover computes the answers
-- (proofs/Computed.antt). Among them the disk incident: a catalogue that embeds a block writer and a cartridge, each with `Close`.
use Rattle.std.specs.Prelude.{List, [], ◌∷◌}
use Prim.Native.String.{String}
use Rattle.objects.specs.Lists.{Bytes}
use Rattle.rules.specs.Rows.{Case, case, ◌⏎◌}

-- a catalogue (5) that embeds a block writer (3) alone, a pointer to it (6), and what can be closed (7)
abbrev pub alone : Bytes
alone =
    "typetable 1" ⏎
    "P disk" ⏎
    "T tuple" ⏎
    "T func 0 0 0" ⏎
    "T struct" ⏎
    "T named 2" ⏎ "M Close 0 1 1" ⏎
    "T struct" ⏎ "F BlockWriter 0 3 1" ⏎
    "T named 4" ⏎
    "T pointer 5" ⏎
    "T iface" ⏎ "M Close 0 1 0" ⏎ []

-- the catalogue (7) embeds a cartridge (5) too: a field is added to its struct
abbrev pub both : Bytes
both =
    "typetable 1" ⏎
    "P disk" ⏎
    "T tuple" ⏎
    "T func 0 0 0" ⏎
    "T struct" ⏎
    "T named 2" ⏎ "M Close 0 1 1" ⏎
    "T struct" ⏎
    "T named 4" ⏎ "M Close 0 1 1" ⏎
    "T struct" ⏎ "F BlockWriter 0 3 1" ⏎ "F Cartridge 0 5 1" ⏎
    "T named 6" ⏎
    "T pointer 7" ⏎
    "T iface" ⏎ "M Close 0 1 0" ⏎ []

-- and a tape (11) too
abbrev pub three : Bytes
three =
    "typetable 1" ⏎
    "P disk" ⏎
    "T tuple" ⏎
    "T func 0 0 0" ⏎
    "T struct" ⏎
    "T named 2" ⏎ "M Close 0 1 1" ⏎
    "T struct" ⏎
    "T named 4" ⏎ "M Close 0 1 1" ⏎
    "T struct" ⏎ "F BlockWriter 0 3 1" ⏎ "F Cartridge 0 5 1" ⏎ "F Tape 0 11 1" ⏎
    "T named 6" ⏎
    "T pointer 7" ⏎
    "T iface" ⏎ "M Close 0 1 0" ⏎
    "T struct" ⏎
    "T named 10" ⏎ "M Close 0 1 1" ⏎ []

-- a package and a type in front, and another method of the block writer: every number but a place changes
abbrev pub elsewhere : Bytes
elsewhere =
    "typetable 1" ⏎
    "P archive" ⏎
    "P disk" ⏎
    "T basic 2" ⏎
    "T tuple" ⏎
    "T func 0 1 1" ⏎
    "T struct" ⏎
    "T named 3" ⏎ "M Close 1 2 1" ⏎ "M Flush 1 2 1" ⏎
    "T struct" ⏎ "F BlockWriter 1 4 1" ⏎
    "T named 5" ⏎
    "T pointer 6" ⏎
    "T iface" ⏎ "M Close 1 2 0" ⏎ []

-- the catalogue gets a `Close` of its own
abbrev pub own : Bytes
own =
    "typetable 1" ⏎
    "P disk" ⏎
    "T tuple" ⏎
    "T func 0 0 0" ⏎
    "T struct" ⏎
    "T named 2" ⏎ "M Close 0 1 1" ⏎
    "T struct" ⏎ "F BlockWriter 0 3 1" ⏎
    "T named 4" ⏎ "M Close 0 1 1" ⏎
    "T pointer 5" ⏎
    "T iface" ⏎ "M Close 0 1 0" ⏎ []

-- a struct (1) with a field of the second of two packages
abbrev pub apart : Bytes
apart =
    "typetable 1" ⏎
    "P a" ⏎
    "P c" ⏎
    "T basic 2" ⏎
    "T struct" ⏎ "F x 1 0 0" ⏎ []

-- a package is put in between the two
abbrev pub between : Bytes
between =
    "typetable 1" ⏎
    "P a" ⏎
    "P b" ⏎
    "P c" ⏎
    "T basic 2" ⏎
    "T struct" ⏎ "F x 2 0 0" ⏎ []

-- an old library and its growth, a question and what is due, the question put again and what is due
pub record Again : Type 0 where
  pub before : Case
  pub after : Case

abbrev pub again : Bytes → String → Bytes → Bytes → String → Bytes → Again
again old question due new carried due_again = record { before = case old question due; after = case new carried due_again }

abbrev pub cases_of : Again → List Case
cases_of r = r.before ∷ r.after ∷ []

abbrev pub rows : List Again
rows =
    -- no new way: the same answer, with the carried member
    again alone "S 5 1 0 Close" ("entry 0 0 0 0" ⏎ []) elsewhere "S 6 1 1 Close" ("entry 0 0 0 0" ⏎ [])
    ∷ again alone "S 5 1 0 BlockWriter" ("entry 1 0 0" ⏎ []) elsewhere "S 6 1 1 BlockWriter" ("entry 2 0 0" ⏎ [])
    ∷ again alone "S 5 0 0 Close" ("badreceiver" ⏎ []) elsewhere "S 6 0 1 Close" ("badreceiver" ⏎ [])
    -- the disk incident: a new way just as long
    ∷ again alone "S 5 1 0 Close" ("entry 0 0 0 0" ⏎ []) both "S 7 1 0 Close" ("ambiguous 0 0" ⏎ "and 1 0" ⏎ [])
    ∷ again alone "S 5 0 0 Close" ("badreceiver" ⏎ []) both "S 7 0 0 Close" ("ambiguous 0 0" ⏎ "and 1 0" ⏎ [])
    -- a shorter new way: the old way is not given
    ∷ again alone "S 5 1 0 Close" ("entry 0 0 0 0" ⏎ []) own "S 5 1 0 Close" ("entry 2 0 0" ⏎ [])
    -- ambiguous stays
    ∷ again both "S 7 1 0 Close" ("ambiguous 0 0" ⏎ "and 1 0" ⏎ []) three "S 7 1 0 Close" ("ambiguous 0 0" ⏎ "and 1 0" ⏎ [])
    -- not found stays; a new way may find it
    ∷ again alone "S 5 1 0 Open" ("notfound" ⏎ []) elsewhere "S 6 1 1 Open" ("notfound" ⏎ [])
    ∷ again alone "S 5 1 0 Flush" ("notfound" ⏎ []) elsewhere "S 6 1 1 Flush" ("entry 1 0 0 1" ⏎ [])
    -- satisfied stays, but not beside a new way to `Close` that is as short
    ∷ again alone "N 6 7 1" ("satisfied" ⏎ []) elsewhere "N 7 8 1" ("satisfied" ⏎ [])
    ∷ again alone "N 6 7 1" ("satisfied" ⏎ []) own "N 6 7 1" ("satisfied" ⏎ [])
    ∷ again alone "N 6 7 1" ("satisfied" ⏎ []) both "N 8 9 1" ("missing 4 0" ⏎ [])
    -- "an old package is then known by its path", also behind one that was put in between
    ∷ again apart "S 1 1 1 x" ("entry 0 0 0" ⏎ []) between "S 1 1 2 x" ("entry 0 0 0" ⏎ [])
    ∷ []

-- ---- why no old line may refer to a struct that gets fields

-- `Put` of type 9 takes struct 1 and that of the interface struct 2, which are identical
abbrev pub twins : Bytes
twins =
    "typetable 1" ⏎
    "T basic 2" ⏎
    "T struct" ⏎ "F X - 0 0" ⏎
    "T struct" ⏎ "F X - 0 0" ⏎
    "T tuple 1" ⏎
    "T tuple 2" ⏎
    "T tuple" ⏎
    "T func 0 3 5" ⏎
    "T func 0 4 5" ⏎
    "T struct" ⏎
    "T named 8" ⏎ "M Put - 6 0" ⏎
    "T iface" ⏎ "M Put - 7 0" ⏎ []

-- struct 1, which a tuple line refers to, gets a field
abbrev pub parted : Bytes
parted =
    "typetable 1" ⏎
    "T basic 2" ⏎
    "T struct" ⏎ "F X - 0 0" ⏎ "F Y - 0 0" ⏎
    "T struct" ⏎ "F X - 0 0" ⏎
    "T tuple 1" ⏎
    "T tuple 2" ⏎
    "T tuple" ⏎
    "T func 0 3 5" ⏎
    "T func 0 4 5" ⏎
    "T struct" ⏎
    "T named 8" ⏎ "M Put - 6 0" ⏎
    "T iface" ⏎ "M Put - 7 0" ⏎ []

-- this is no growth: N changes, and no way to `Put` is new
abbrev pub no_growth : Again
no_growth = again twins "N 9 10 1" ("satisfied" ⏎ []) parted "N 9 10 1" ("missing 4 1" ⏎ [])
