-- Calls with many questions over document 01's worked table, as rows: its worked answers put one after the other.
use Rattle.std.specs.Prelude.{List, [], ◌∷◌, ℤ, pos, neg_ℤ}
use Rattle.objects.specs.Lists.{Bytes}
use Rattle.rules.specs.Rows.{Batch, batch, table, spaced, ◌⏎◌}
use Rattle.rules.specs.Worked.{office}

-- three questions, each with an answer of its own: 14, 18 and 3 bytes
abbrev three : Bytes
three = "S 7 0 0 Close" ⏎ "M 7" ⏎ "C 2" ⏎ []

abbrev three_answers : Bytes
three_answers = "entry 0 1 0 0" ⏎ "set 1" ⏎ "sel 0 1 0 0" ⏎ "no" ⏎ []

-- "minus (refusal × 65,536 + line)": 13 without a line, and 4 at line 2
abbrev refused13 : ℤ
refused13 = neg_ℤ (pos 851_968)

abbrev refused4at2 : ℤ
refused4at2 = neg_ℤ (pos 262_146)

abbrev pub batches : List Batch
batches =
    -- room for more than all, for just all, and for a byte less, which is room for each answer and for the first two
    batch office three 40 (pos 35) three_answers
    ∷ batch office three 35 (pos 35) three_answers
    ∷ batch office three 34 refused13 []
    -- the first of two answers fills the buffer
    ∷ batch office ("C 2" ⏎ "C 2" ⏎ []) 3 refused13 []
    -- 11 and 12 (an N whose second type is no interface) in the middle, and answers behind them
    ∷ batch office ("S 7 0 0 Len" ⏎ "Z" ⏎ "S 7 0 0 Open" ⏎ "N 7 2 0" ⏎ "S 3 0 0 Close" ⏎ []) 70 (pos 61) ("entry 1 1 0 0" ⏎ "refused 11 0" ⏎ "notfound" ⏎ "refused 12 0" ⏎ "badreceiver" ⏎ [])
    -- an empty line is a question; the last question without its newline
    ∷ batch office ("" ⏎ "M 3" ⏎ "" ⏎ spaced "M 5") 50 (pos 48) ("refused 11 0" ⏎ "set 0" ⏎ "refused 11 0" ⏎ "set 1" ⏎ "sel 0 1 0" ⏎ [])
    -- one question, with its newline and without
    ∷ batch office ("C 2" ⏎ []) 8 (pos 3) ("no" ⏎ [])
    ∷ batch office (spaced "C 2") 8 (pos 3) ("no" ⏎ [])
    -- no bytes are no question, and a newline alone is one
    ∷ batch office [] 8 (pos 0) []
    ∷ batch office [] 0 (pos 0) []
    ∷ batch office (10 ∷ []) 16 (pos 13) ("refused 11 0" ⏎ [])
    -- the refusal of a table, whatever is asked and however short the buffer
    ∷ batch (table ("T" ⏎ [])) three 40 refused4at2 []
    ∷ batch (table ("T" ⏎ [])) [] 0 refused4at2 []
    ∷ []
