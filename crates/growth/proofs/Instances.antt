-- Each row of specs/Incident.antt is an instance of the promise: the new text is the old one grown, and the two calls are an old question and the same
-- question put again (`instances`). So the promise holds of it (`instances-promised`), beside the answers that are computed (`growth-answers`).
use mathlib.Core.Path.{◌≡◌, refl}
use mathlib.Core.Bool.{Bool, true, false}
use mathlib.Core.List.{List, [], ◌∷◌, map}
use mathlib.Core.Option.{some}
use Prim.Native.Nat.{ℕ}
use Prim.Native.String.{String}
use native.Mathlib.Omega.{arith}
use lib.Dec.{leb}
use lib.ListN.{length, get_or, replicate}
use borrow.Author.Tests.{leb-true}
use Rattle.objects.specs.Bounds.{work_words}
use Rattle.objects.specs.Table.{type_key, package_key}
use Rattle.text.specs.Bytes.{ascii}
use Rattle.rules.specs.Question.{Question, ask_s, ask_n, question_of}
use Rattle.rules.specs.Asked.{wrong_second}
use Rattle.rules.specs.Rows.{Case, buffer, called}
use Rattle.growth.specs.Grown.{GrownTexts}
use Rattle.growth.specs.Calls.{Lent, put_again, old_bytes, new_bytes, PutAgain, Said}
use Rattle.growth.specs.Incident.{Again, rows, no_growth}
use Rattle.growth.proofs.Promised.{grown-calls}
use Rattle.growth.proofs.Disk.{disk-grown}
use Rattle.growth.proofs.Growths.{elsewhere-grown, own-grown, three-grown, between-grown}

-- what the rows' calls are lent beside the table
abbrev lent : Case → Lent
lent c = record { line = c.question; buffer = buffer; work = replicate work_words 7 }

pub record Instance : Type 0 where
  pub row : Again
  pub texts : GrownTexts row.before.table row.after.table
  pub question : Question
  pub put : PutAgain texts question (lent row.before) (lent row.after)

pub instances-promised : (i : Instance) → Said i.texts i.question (lent i.row.before) (lent i.row.after)
instances-promised i = grown-calls i.row.before.table i.row.after.table i.texts i.question (lent i.row.before) (lent i.row.after) i.put

-- the question that a row puts, with room for both answers
put : (row : Again) (texts : GrownTexts row.before.table row.after.table) (q : Question)
    → question_of texts.old row.before.question ≡ some q → question_of texts.new row.after.question ≡ some (put_again texts q)
    → wrong_second texts.old q ≡ false
    → leb (length (old_bytes texts q)) (length buffer) ≡ true → leb (length (new_bytes texts q)) (length buffer) ≡ true → Instance
put row texts q asks again second fits fits_again = record {
  row = row;
  texts = texts;
  question = q;
  put = record {
    asks = asks;
    asks_again = again;
    second = second;
    fits = leb-true (length (old_bytes texts q)) (length buffer) fits;
    fits_again = leb-true (length (new_bytes texts q)) (length buffer) fits_again;
    words = omega arith;
    words_again = omega arith;
  };
}

abbrev row : ℕ → Again
row k = get_or rows k no_growth

-- what is asked of the catalogue, type t, in package 0, and whether the type t has what the interface i asks for
abbrev select : (t : ℕ) → Bool → String → Question
select t a name = ask_s (type_key t) a (some (package_key 0)) (ascii name)

abbrev closes : (t i : ℕ) → Question
closes t i = ask_n (type_key t) (type_key i) true

pub instances : List Instance
unfolding called elsewhere-grown disk-grown own-grown three-grown between-grown
instances =
    put (row 0) elsewhere-grown (select 5 true "Close") refl refl refl refl refl
    ∷ put (row 1) elsewhere-grown (select 5 true "BlockWriter") refl refl refl refl refl
    ∷ put (row 2) elsewhere-grown (select 5 false "Close") refl refl refl refl refl
    ∷ put (row 3) disk-grown (select 5 true "Close") refl refl refl refl refl
    ∷ put (row 4) disk-grown (select 5 false "Close") refl refl refl refl refl
    ∷ put (row 5) own-grown (select 5 true "Close") refl refl refl refl refl
    ∷ put (row 6) three-grown (select 7 true "Close") refl refl refl refl refl
    ∷ put (row 7) elsewhere-grown (select 5 true "Open") refl refl refl refl refl
    ∷ put (row 8) elsewhere-grown (select 5 true "Flush") refl refl refl refl refl
    ∷ put (row 9) elsewhere-grown (closes 6 7) refl refl refl refl refl
    ∷ put (row 10) own-grown (closes 6 7) refl refl refl refl refl
    ∷ put (row 11) disk-grown (closes 6 7) refl refl refl refl refl
    ∷ put (row 12) between-grown (ask_s (type_key 1) true (some (package_key 1)) (ascii "x")) refl refl refl refl refl
    ∷ []

-- EVERY ROW IS AN INSTANCE
pub rows-are-instances : map (λ (i : Instance). i.row) instances ≡ rows
unfolding instances put
rows-are-instances = refl
