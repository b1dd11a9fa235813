-- The words that the promises are said in: what a call gives, and when it answers a question.
use Rattle.std.specs.Prelude.{◌≡◌, Bool, true, false, cond, ◌&&◌, List, [], ◌∷◌, map, ◌⊎◌, ◌↔◌, ◌≢◌, ℕ, ◌+◌, ◌-◌, ◌*◌, ◌≤◌, ◌<◌, length, get_or, replicate}
use Rattle.std.proofs.Math.Option.{Option, some}
use Rattle.objects.specs.Bounds.{work_words, max_text, last_refusal, refusal_unit, Bounds, bounds}
use Rattle.objects.specs.Lists.{Bytes, In, Sorted, flat}
use Rattle.objects.specs.declared.TypeKey.{TypeKey}
use Rattle.objects.specs.declared.PackageKey.{PackageKey}
use Rattle.objects.specs.Table.{Table, size, Member, no_table, bare, pointer_at, iface_under}
use Rattle.text.specs.Bytes.{ascii, below_bytes}
use Rattle.text.specs.Lines.{pieces, fields}
use Rattle.rules.specs.Members.{Identity, identity_of, id_bytes}
use Rattle.rules.specs.Forms.{package_line, line_of}
use Rattle.rules.specs.Checks.{Item, items, lacking, forbidden, clashing, containing}
use Rattle.rules.specs.Stages.{first_item}
use Rattle.rules.specs.Load.{Loaded, refused, loaded, lines_from, staged, load_within, load}
use Rattle.rules.specs.Sound.{Below, Ordered}
use Rattle.rules.specs.Identity.{identical}
use Rattle.rules.specs.Question.{Question, ask_v, in_table, question_of}
use Rattle.rules.specs.Ways.{Selected, notfound, judged, searched}
use Rattle.rules.specs.Answer.{Answer, Sel, answer, answer_bytes}
use Rattle.rules.specs.Asked.{Outcome, outcome_within, refuse, say, refusal, wrong_second, Asked, asked_within}
use Rattle.rules.specs.AskedAll.{question_lines, refused_bytes, asked_all_within, asked_all}
use Rattle.rules.specs.Typeask.{input_of, typeask_within}
use Rattle.edits.specs.Carried.{carry_question}
use Rattle.edits.specs.Tidy.{tidy_type, tidied}
use Rattle.edits.specs.Tidying.{tidied_call}
use Rattle.carry.specs.Carry.{carry_answer}
use Rattle.ways.specs.OfTable.{graph}
use Rattle.walks.specs.Kept.{count}
use Rattle.walks.specs.Rows.{Row, kept_rows}
use Rattle.walks.specs.Reads.{kept_ways}
use Rattle.gospec.specs.GoSelectors.{OneStar}
use Rattle.gospec.specs.Says.{Says, Alike}
use Rattle.gospec.specs.GoMethodSets.{MethodSet}
use Rattle.goscript.specs.MethodSets.{Selection}
use Rattle.goscript.specs.Departures.{DenotesField, PointsToNamedInterface}
use Rattle.growth.specs.Grown.{path_at, GrownTexts}
use Rattle.growth.specs.Calls.{Lent, called, answers_with}

-- ---- demand 1

-- a call that refuses: "minus (refusal × 65,536 + line)"; "a refusal changes none of it"; "The work area is zero on every return except after refusal 1"
abbrev pub refuses_with : ℕ → ℕ → Lent → Asked
refuses_with n line c = record { number = refusal n line; answer = c.buffer; work = replicate (length c.work) 0 }

-- All that a call gives that was lent c, by what is due (o: a refusal from 2 on, or the bytes of the answer).
pub record CallGives (o : Outcome) (c : Lent) (gives : Asked) : Type 0 where
  -- 1: "The work area has fewer words than the number the team fixes"; it "leaves it unchanged"
  pub too_few_words : length c.work < work_words → gives ≡ record { number = refusal 1 0; answer = c.buffer; work = c.work }
  pub refuses : (n line : ℕ) → work_words ≤ length c.work → o ≡ refuse n line → (gives ≡ refuses_with n line c) × (2 ≤ n) × (n ≤ last_refusal) × (line < refusal_unit)
  -- "the answer's length"; "An answer fills the front of the answer buffer and the rest is unchanged"
  pub answers : (bytes : Bytes) → work_words ≤ length c.work → o ≡ say bytes → (gives ≡ answers_with bytes c) × (length bytes ≤ length c.buffer)

-- ---- many questions in one call

-- all that the call with many questions gives; what is lent as the line is the text of the questions, a line each
abbrev pub called_all : Bytes → Lent → Asked
called_all text c = asked_all text c.line c.buffer c.work

-- What stands for a question among others: the bytes with which a call with this line alone answers, if it has room for them, or the line of the refusal, 11 or 12,
-- that such a call gives whatever its room.
pub data StandsFor (text line : Bytes) : Bytes → Type 0 where
  by_answer : (bytes : Bytes) → ((c : Lent) → c.line ≡ line → work_words ≤ length c.work → length bytes ≤ length c.buffer → called text c ≡ answers_with bytes c)
      → StandsFor text line bytes
  by-refusal : (n : ℕ) → (n ≡ 11) ⊎ (n ≡ 12) → ((c : Lent) → c.line ≡ line → work_words ≤ length c.work → called text c ≡ refuses_with n 0 c)
      → StandsFor text line (refused_bytes n 0)

-- A call with many questions beside calls with each alone; `said` is what stands for a line.
pub record AllAsEach (text : Bytes) (said : Bytes → Bytes) : Type 0 where
  pub each : (line : Bytes) → StandsFor text line (said line)
  -- with room for all of it: one after the other, in the order of the questions
  pub all : (c : Lent) → work_words ≤ length c.work → length (flat said (question_lines c.line)) ≤ length c.buffer
      → called_all text c ≡ answers_with (flat said (question_lines c.line)) c
  -- with less: 13, for all of it, and the buffer is as it was
  pub too_long : (c : Lent) → work_words ≤ length c.work → length c.buffer < length (flat said (question_lines c.line)) → called_all text c ≡ refuses_with 13 0 c

-- ---- demand 2

-- A call that is answered: the table loads, the line asks q of it, neither 12 nor 13 is due, and there are words enough.
pub record Answered (text : Bytes) (c : Lent) (T : Table) (q : Question) : Type 0 where
  pub loads : load text ≡ loaded T
  pub asks : question_of T c.line ≡ some q
  pub second : wrong_second T q ≡ false
  pub fits : length (answer_bytes (answer T q)) ≤ length c.buffer
  pub words : work_words ≤ length c.work

-- the call says r
abbrev pub CallSays : Bytes → Lent → Answer → Type 0
CallSays text c r = called text c ≡ answers_with (answer_bytes r) c

-- What the Go spec says of the selector x.f and of the call x.f(), x of type t, a for addressable: this answer, and no other but for the ways that
-- `ambiguous` shows. `OneStar`: document 01's reading of (*x).f (docs/DIFFERENCES.md).
pub record GoSelects (T : Table) (t : TypeKey) (a : Bool) (pkg : Option PackageKey) (name : Bytes) (r : Selected) : Type 0 where
  pub gives : Says T (OneStar T) name pkg t a r
  pub alone : (s : Selected) → Says T (OneStar T) name pkg t a s → Alike s r

-- What M lists is the Go spec's method set of t: each of its methods at the places where it is found, and no other; ascending by id, so each identity once. The
-- flag is no part of Go.
pub record GoSet (T : Table) (t : TypeKey) (r : List Sel) : Type 0 where
  pub lists : (ps : List ℕ) (m : Member) → ((s : Sel) × In s r × (s.member ≡ m) × (s.places ≡ ps)) ↔ MethodSet T t ps m
  pub ascends : Sorted (λ (a b : Identity). below_bytes (id_bytes a) (id_bytes b) ≡ true) (map (λ s. identity_of T s.member) r)

-- ---- document 02, point 1

-- the rows of the kept walks from t on, one pointer removed, whatever name is asked for
abbrev pub rows_from : Table → TypeKey → List Row
rows_from T t = kept_rows (graph T) (bare T t) (pointer_at T t)

-- No type has three of them, so that they are at most twice as many as types, and S reads them alone (`searched`: what S asks of t, or of the pointer type that
-- t names).
pub record KeptWalks (T : Table) (t : TypeKey) : Type 0 where
  pub two_each : (u : TypeKey) → count u (map (λ r. r.type) (rows_from T t)) ≤ 2
  pub few : length (rows_from T t) ≤ 2 * size T
  pub read : (q : Identity) (a : Bool) → searched T q t a ≡ cond (pointer_at T t && iface_under T (bare T t)) notfound (judged a (kept_ways T q t))

-- ---- document 02, point 2

-- goscript's list l beside the Go spec's method set of t: it has all of that, and what it has besides are exactly the methods whose selector denotes a field, and
-- all of a pointer to a named interface.
pub record BesideGo (T : Table) (t : TypeKey) (l : List Selection) : Type 0 where
  pub all : (ps : List ℕ) (m : Member) → MethodSet T t ps m → (s : Selection) × In s l × (s.obj ≡ m) × (s.indices ≡ ps)
  pub besides : (s : Selection) → In s l → (MethodSet T t s.indices s.obj → ⊥) ↔ (DenotesField T t s.obj ⊎ PointsToNamedInterface T t)

-- ---- document 02, point 4

-- Within b' all is as within b for a text that loads within b: the table, what is due for a question, all that a call gives, with one question or many,
-- and, for an input of that size, all that the program prints. A text that is refused for anything else than its size (2, 6) is refused in the same way, at the
-- same line.
pub record SameWithin (b b' : Bounds) : Type 0 where
  pub loads : (text : Bytes) (T : Table) → load_within b text ≡ loaded T → load_within b' text ≡ loaded T
  pub refuses : (text : Bytes) (n line : ℕ) → load_within b text ≡ refused n line → n ≢ 2 → n ≢ 6 → load_within b' text ≡ refused n line
  pub due : (text : Bytes) (T : Table) → load_within b text ≡ loaded T → (question : Bytes) (room : ℕ) → outcome_within b' text question room ≡ outcome_within b text question room
  pub gives : (text : Bytes) (T : Table) → load_within b text ≡ loaded T → (c : Lent)
      → asked_within b' text c.line c.buffer c.work ≡ asked_within b text c.line c.buffer c.work
  pub gives_all : (text : Bytes) (T : Table) → load_within b text ≡ loaded T → (c : Lent)
      → asked_all_within b' text c.line c.buffer c.work ≡ asked_all_within b text c.line c.buffer c.work
  pub prints : (input : Bytes) (T : Table) → length input ≤ b.bytes → load_within b (input_of (pieces input)).table ≡ loaded T → typeask_within b' input ≡ typeask_within b input

-- ---- document 02, point 5

-- the lines of a text pass 2 to 6 and build T
pub record Reads (text : Bytes) (T : Table) : Type 0 where
  pub bytes : length text ≤ max_text
  pub next : Bytes
  pub rest : List Bytes
  pub header : pieces text ≡ ascii "typetable\t1" ∷ next ∷ rest
  pub lines : lines_from bounds 2 no_table (next ∷ rest) ≡ loaded T

-- 7 to 10, as document 01 has them
abbrev pub formerly : Table → Loaded
formerly T =
    let finds : (Item → Bool) → Option ℕ = λ bad. first_item T bad (items T) in
    staged 7 (finds (lacking T)) (staged 8 (finds (forbidden T)) (staged 9 (finds (clashing T)) (staged 10 (finds (containing T)) (loaded T))))

-- p is the first package whose path is not above that of the one just before
pub record Falls (T : Table) (p : ℕ) : Type 0 where
  pub behind : 0 < p
  pub there : p < length T.packages
  pub before : (q : ℕ) → 0 < q → q < p → Below (get_or T.packages (q - 1) []) (get_or T.packages q [])
  pub here : below_bytes (get_or T.packages (p - 1) []) (get_or T.packages p []) ≡ false

-- "P lines must come in strictly ascending order of the bytes of their paths"
pub record InOrder (text : Bytes) (T : Table) : Type 0 where
  -- where they do, all is as document 01 has it
  pub ascending : Ordered T → load text ≡ formerly T
  -- where they do not, one of them is the first that fails
  pub falling : Ordered T ⊎ ((p : ℕ) × Falls T p)
  -- "refused after refusal 6 and before 7, at the first line that fails to ascend"
  pub refuses : (p : ℕ) → Falls T p → load text ≡ refused 14 (p + 2)
  -- package p stands on line p + 2, which is the piece p + 1 of the text
  pub line : (p : ℕ) → p < length T.packages → line_of (fields (get_or (pieces text) (p + 1) [])) ≡ some (package_line (get_or T.packages p []))

-- Packages of a library that grew: "an old package is then known by its path".
pub record PackagesKnown {a b : Bytes} (g : GrownTexts a b) : Type 0 where
  -- each old package is one of the new ones, of the same path
  pub kept : (p : PackageKey) → p.0 < length g.old.packages → ((g.numbers.pk p).0 < length g.new.packages) × (path_at g.new (g.numbers.pk p) ≡ path_at g.old p)
  -- and the only one
  pub only : (p : PackageKey) → p.0 < length g.old.packages → (r : PackageKey) → r.0 < length g.new.packages → path_at g.new r ≡ path_at g.old p → r ≡ g.numbers.pk p
  -- "inserts its new packages in order": the old ones stay in theirs
  pub order : (p q : PackageKey) → p.0 < q.0 → q.0 < length g.old.packages → (g.numbers.pk p).0 < (g.numbers.pk q).0
  -- the two texts determine the number, however they are said to have grown
  pub determined : (h : GrownTexts a b) (p : PackageKey) → p.0 < length g.old.packages → h.numbers.pk p ≡ g.numbers.pk p

-- ---- document 02, point 6

-- all that the call that tidies gives; the output is lent as the buffer, and no line
abbrev pub tidy_called : Bytes → Lent → Asked
tidy_called text c = tidied_call text c.buffer c.work

-- Two texts that load to T and U, and a question of T that is put to U again with its type numbers carried by f and its package numbers by p: each by a call with
-- words enough. Which line says the question is the host's.
pub record PutCarried (f : TypeKey → TypeKey) (p : PackageKey → PackageKey) (T U : Table) (q : Question) (before after : Lent) : Type 0 where
  pub asks : question_of T before.line ≡ some q
  pub asks_carried : question_of U after.line ≡ some (carry_question f p q)
  pub words : work_words ≤ length before.work
  pub words_after : work_words ≤ length after.work

-- "two answers are compared with room in the buffer for both"
pub record RoomForBoth (f : TypeKey → TypeKey) (p : PackageKey → PackageKey) (T U : Table) (q : Question) (before after : Lent) : Type 0 where
  pub fits : length (answer_bytes (answer T q)) ≤ length before.buffer
  pub fits_after : length (answer_bytes (answer U (carry_question f p q))) ≤ length after.buffer

-- What is promised of every question but V, and of every two such calls.
pub record AnswersCarried (f : TypeKey → TypeKey) (p : PackageKey → PackageKey) (a b : Bytes) (T U : Table) : Type 0 where
  -- the carried question has no number that U lacks
  pub known : (q : Question) → in_table T q ≡ true → in_table U (carry_question f p q) ≡ true
  -- both calls answer, the second with the first's answer, whose members are carried
  pub same : (q : Question) → q ≢ ask_v → (before after : Lent) → PutCarried f p T U q before after → wrong_second T q ≡ false → RoomForBoth f p T U q before after
      → CallSays a before (answer T q) × CallSays b after (carry_answer f T U q (answer T q))
  -- or both refuse by 12
  pub refused : (q : Question) (before after : Lent) → PutCarried f p T U q before after → wrong_second T q ≡ true
      → (called a before ≡ refuses_with 12 0 before) × (called b after ≡ refuses_with 12 0 after)

-- A text and what tidying made of it.
pub record TidiedText (text tidy : Bytes) : Type 0 where
  pub old : Table
  pub loads : load text ≡ loaded old
  -- "The output loads", to the tidied table
  pub loads_tidied : load tidy ≡ loaded (tidied old)
  -- "only the least-numbered type of each set of identical types": no two that remain are identical
  pub apart : (x y : TypeKey) → x.0 < size (tidied old) → y.0 < size (tidied old) → identical (tidied old) x y ≡ true → x ≡ y
  -- whoever has room for the text has room for what tidying makes of it
  pub shorter : length tidy ≤ length text
  -- "Tidying it again gives the same bytes."
  pub again : (c : Lent) → work_words ≤ length c.work → length tidy ≤ length c.buffer → tidy_called tidy c ≡ answers_with tidy c
  -- "Each question but V, with its type numbers carried over, gives the same answer with members carried to the same place in the remaining twin"
  pub answers : AnswersCarried (tidy_type old) (λ k. k) text tidy old (tidied old)
