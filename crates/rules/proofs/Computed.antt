-- The rows of specs/Worked.antt, Batches.antt, Refusals.antt and Traps.antt, computed from the rules.
use mathlib.Core.Path.{◌≡◌, refl}
use mathlib.Core.Bool.{true}
use mathlib.Core.List.{[], ◌∷◌, map}
use lib.IntN.{pos, neg_ℤ}
use lib.ListN.{replicate}
use Prim.Native.Nat.{suc}
use Rattle.objects.specs.Bounds.{max_text, work_words}
use Rattle.objects.specs.Rows.{dir_at}
use Rattle.text.specs.Bytes.{ascii}
use Rattle.rules.specs.Load.{refused}
use Rattle.rules.specs.Rows.{called, owed, called_all, owed_all, all_print, spaced, ◌⏎◌, buffer, loading, calling}
use Rattle.rules.specs.Worked.{office, worked}
use Rattle.rules.specs.Batches.{batches}
use Rattle.rules.specs.Refusals.{refusals, three_members, pairs_of_fields, programs}
use Rattle.rules.specs.Traps.{traps, readings, others}

-- THE ELEVEN WORKED ANSWERS: number, buffer and work area of each call
pub worked-answers : map called worked ≡ map owed worked
unfolding called owed
worked-answers = refl

-- calls with many questions, refused ones among them: number, buffer and work area of each
pub worked-batches : map called_all batches ≡ map owed_all batches
unfolding called_all owed_all
worked-batches = refl

pub refusals-right : all_print refusals ≡ true
unfolding all_print
refusals-right = refl

pub members-refused : loading three_members pairs_of_fields ≡ refused 6 7
unfolding loading
members-refused = refl

pub programs-right : all_print programs ≡ true
unfolding all_print
programs-right = refl

pub traps-right : all_print traps ≡ true
unfolding all_print
traps-right = refl

pub readings-right : all_print readings ≡ true
unfolding all_print
readings-right = refl

pub others-right : all_print others ≡ true
unfolding all_print dir_at
others-right = refl

-- ---- the call's own refusals: 1 leaves the work area as it was; 2 comes before 3; 4 names its line; 13 comes last, and an answer of just that length fits

refused-1 : calling office (ascii "V") buffer (7 ∷ 7 ∷ []) ≡ record { number = neg_ℤ (pos 65_536); answer = buffer; work = 7 ∷ 7 ∷ [] }
unfolding calling
refused-1 = refl

refused-2 : calling (replicate (suc max_text) 120) (ascii "V") buffer (replicate work_words 7) ≡ record { number = neg_ℤ (pos 131_072); answer = buffer; work = replicate work_words 0 }
unfolding calling
refused-2 = refl

refused-4 : calling ("typetable 1" ⏎ "T" ⏎ []) (ascii "V") buffer (replicate work_words 7) ≡ record { number = neg_ℤ (pos 262_146); answer = buffer; work = replicate work_words 0 }
unfolding calling
refused-4 = refl

refused-13 : calling office (spaced "M 7") (replicate 17 46) (replicate work_words 7) ≡ record { number = neg_ℤ (pos 851_968); answer = replicate 17 46; work = replicate work_words 0 }
unfolding calling
refused-13 = refl

fits-18 : calling office (spaced "M 7") (replicate 18 46) (replicate work_words 7) ≡ record { number = pos 18; answer = "set 1" ⏎ "sel 0 1 0 0" ⏎ []; work = replicate work_words 0 }
unfolding calling
fits-18 = refl
