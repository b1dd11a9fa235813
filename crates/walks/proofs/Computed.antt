-- Two tables computed: document 01's diamond, where both walks to the type in which the ways meet are kept, and the field `Flush` above a writer that
-- document 02's point 2 tells of.
use mathlib.Core.Path.{◌≡◌, refl}
use mathlib.Core.Bool.{false}
use mathlib.Core.List.{List, [], ◌∷◌, map}
use mathlib.Core.Option.{Option, none, some}
use Prim.Native.Nat.{ℕ}
use Rattle.objects.specs.Lists.{Bytes}
use Rattle.objects.specs.Table.{Table, type_key}
use Rattle.text.specs.Bytes.{ascii}
use Rattle.rules.specs.Members.{identity_from}
use Rattle.rules.specs.Load.{loaded, refused, load}
use Rattle.rules.specs.Rows.{◌⏎◌, calling}
use Rattle.rules.specs.Worked.{diamond}
use Rattle.rules.specs.Ways.{ambiguous, judged}
use Rattle.ways.specs.OfTable.{graph}
use Rattle.walks.specs.Rows.{Row, kept_rows}
use Rattle.walks.specs.Reads.{kept_ways, set_kept}

-- what f says of the table that a text loads as
abbrev of : {A : Type 0} → Bytes → (Table → A) → Option A
of text f = elim (load text) [ refused n line ↦ none | loaded T ↦ some (f T) ]

-- type and parent of each row
abbrev shape : List Row → List (List ℕ)
shape R = map (λ r. r.type.0 ∷ r.parent ∷ []) R

-- ---- the diamond: D is 8, A 4, B 6, C 2

diamond-rows : of diamond (λ T. shape (kept_rows (graph T) (type_key 8) false)) ≡ some ((8 ∷ 0 ∷ []) ∷ (4 ∷ 0 ∷ []) ∷ (6 ∷ 0 ∷ []) ∷ (2 ∷ 1 ∷ []) ∷ (2 ∷ 2 ∷ []) ∷ [])
unfolding calling
diamond-rows = refl

-- both ways are shown, though they end in one type
diamond-both : of diamond (λ T. judged false (kept_ways T (identity_from T none (ascii "X")) (type_key 8))) ≡ some (ambiguous (0 ∷ 0 ∷ 0 ∷ []) (1 ∷ 0 ∷ 0 ∷ []))
unfolding calling
diamond-both = refl

-- ---- a field `Flush` above an embedded writer with a method `Flush`: the writer is 4, the type 6

abbrev flush : Bytes
flush =
    "typetable 1" ⏎
    "T basic 2" ⏎
    "T tuple" ⏎
    "T func 0 1 1" ⏎
    "T struct" ⏎ "T named 3" ⏎ "M Flush - 2 0" ⏎
    "T struct" ⏎ "F Flush - 0 0" ⏎ "F Writer - 4 1" ⏎ "T named 5" ⏎ []

-- the field hides the method
flush-hidden : of flush (λ T. set_kept T (type_key 6)) ≡ some []
unfolding calling
flush-hidden = refl
