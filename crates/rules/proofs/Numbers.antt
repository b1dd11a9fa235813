-- The numbers and lines of refusals, and the answer buffer: what a call's number can be, and what a refusal leaves alone. The laws are about an outcome; the call
-- with a question and the one with many are instances.
use mathlib.Core.Path.{◌≡◌, refl, sym, ap, ◌∙◌}
use mathlib.Core.List.{List}
use mathlib.Core.Logic.{◌⊎◌, inl, inr}
use mathlib.Core.Option.{Option, none, some}
use Prim.Native.Nat.{ℕ, zero, suc, ◌+◌, ◌*◌, ◌^◌, ◌≤◌, ◌<◌}
use native.Mathlib.Omega.{arith}
use lib.Dec.{ltb}
use lib.IntN.{ℤ, pos, negsuc, neg_ℤ, neg_ℤ-neg_ℤ, pos-ne-negsuc}
use lib.ListN.{length, drop, length-append, length-drop}
use borrow.Author.Tests.{ltb-false}
use Rattle.objects.specs.Bounds.{work_words, last_refusal, refusal_unit, bounds}
use Rattle.objects.specs.Lists.{Bytes}
use Rattle.objects.specs.Table.{Table}
use Rattle.objects.proofs.ListLaws.{cases}
use Rattle.rules.specs.Load.{Loaded, refused, loaded, load}
use Rattle.rules.specs.Question.{Question, question_of}
use Rattle.rules.specs.Asked.{Outcome, refuse, say, fitted, wrong_second, replied_to, replied, on_table, outcome_within, outcome, refusal, number_of, written, given, asked_within, asked}
use Rattle.rules.specs.AskedAll.{replied_all, outcome_all_within, outcome_all, asked_all_within, asked_all}
use Rattle.rules.proofs.CheckLaws.{OfTable, Right, load-right}

-- ---- loading

load-bounds : (text : Bytes) (n line : ℕ) → load text ≡ refused n line → Right bounds refusal_unit (refused n line)
load-bounds text n line e = rw e at (load-right text)

-- every line that is named is below 65,536
pub line-bound : (text : Bytes) (n line : ℕ) → load text ≡ refused n line → line < refusal_unit
line-bound text n line e = (load-bounds text n line e).1

-- loading refuses by 2 to 10 and by 14
pub refusal-bound : (text : Bytes) (n line : ℕ) → load text ≡ refused n line → OfTable n
refusal-bound text n line e = (load-bounds text n line e).0

table-bound : (n : ℕ) → OfTable n → (2 ≤ n) × (n ≤ last_refusal)
table-bound n (inl h) = (h.0, let k = h.1 in omega arith)
table-bound n (inr e) = (omega arith, omega arith)

-- ---- outcomes

-- refusals from 2 to the last, with a line below 65,536
abbrev pub Numbered : ℕ → ℕ → Type 0
Numbered n line = (2 ≤ n) × (n ≤ last_refusal) × (line < refusal_unit)

-- what refuses so, or is said
abbrev pub Refuses : Outcome → Type 0
Refuses (refuse n line) = Numbered n line
Refuses (say bytes) = Unit {0}

-- such a refusal, or an answer for which there is room
abbrev pub Bounded : ℕ → Outcome → Type 0
Bounded room (refuse n line) = Numbered n line
Bounded room (say bytes) = length bytes ≤ room

pub bounded-number : (room : ℕ) (o : Outcome) → Bounded room o → (n line : ℕ) → o ≡ refuse n line → Numbered n line
bounded-number room o b n line e = rw e at b

pub bounded-fits : (room : ℕ) (o : Outcome) → Bounded room o → (bytes : Bytes) → o ≡ say bytes → length bytes ≤ room
bounded-fits room o b bytes e = rw e at b

-- a question is refused by 11 or 12, which name no line
abbrev pub OfQuestion : Outcome → Type 0
OfQuestion (refuse n line) = ((n ≡ 11) ⊎ (n ≡ 12)) × (line ≡ 0)
OfQuestion (say bytes) = Unit {0}

pub question-refused : (T : Table) (q : Option Question) → OfQuestion (replied_to T q)
question-refused T none = (inl refl, refl)
question-refused T (some q) = cases (wrong_second T q) (λ e. rw e (inr refl, refl)) (λ e. rw e tt)

question-bound : (o : Outcome) → OfQuestion o → Refuses o
question-bound (refuse n line) (inl e, z) = (omega arith, omega arith, omega arith)
question-bound (refuse n line) (inr e, z) = (omega arith, omega arith, omega arith)
question-bound (say bytes) h = tt

fitted-bounded : (room : ℕ) (o : Outcome) → Refuses o → Bounded room (fitted room o)
fitted-bounded room (refuse n line) h = h
fitted-bounded room (say bytes) h = cases (ltb room (length bytes)) (λ e. rw e (omega arith, omega arith, omega arith)) (λ e. rw e (ltb-false room (length bytes) e))

-- a table's refusal, or what is said of it if it fits
pub due-bounded : (said : Table → Outcome) → ((T : Table) → Refuses (said T)) → (table : Bytes) (room : ℕ) → Bounded room (fitted room (on_table said (load table)))
unfolding on_table
due-bounded said h table room = fitted-bounded room (on_table said (load table)) (go (load table) (load-right table))
  where
    go : (L : Loaded) → Right bounds refusal_unit L → Refuses (on_table said L)
    go (refused n line) r = let k = table-bound n r.0 in (k.0, k.1, r.1)
    go (loaded T) r = h T

pub outcome-bounded : (table question : Bytes) (room : ℕ) → Bounded room (outcome table question room)
unfolding outcome_within
outcome-bounded table question room = due-bounded (replied question) (λ T. question-bound (replied question T) (question-refused T (question_of T question))) table room

-- of many questions none is refused in place of the rest: only the table is, and 13 is due for all
pub outcome-all-bounded : (table questions : Bytes) (room : ℕ) → Bounded room (outcome_all table questions room)
unfolding outcome_all_within
outcome-all-bounded table questions room = due-bounded (replied_all questions) (λ T. tt) table room

-- a call that reads the table refuses by 2 or more, up to the last
pub outcome-bound : (table question : Bytes) (room n line : ℕ) → outcome table question room ≡ refuse n line → Numbered n line
outcome-bound table question room = bounded-number room (outcome table question room) (outcome-bounded table question room)

pub outcome-all-bound : (table questions : Bytes) (room n line : ℕ) → outcome_all table questions room ≡ refuse n line → Numbered n line
outcome-all-bound table questions room = bounded-number room (outcome_all table questions room) (outcome-all-bounded table questions room)

-- an answer is no longer than the room for it
pub answered-fits : (table question : Bytes) (room : ℕ) (bytes : Bytes) → outcome table question room ≡ say bytes → length bytes ≤ room
answered-fits table question room = bounded-fits room (outcome table question room) (outcome-bounded table question room)

-- all answers of a call are together no longer than the room for them
pub all-fits : (table questions : Bytes) (room : ℕ) (bytes : Bytes) → outcome_all table questions room ≡ say bytes → length bytes ≤ room
all-fits table questions room = bounded-fits room (outcome_all table questions room) (outcome-all-bounded table questions room)

-- ---- the number of a call

-- A length up to the room, or minus a refusal: both are in the range of an i64, the one never negative and the other always.
pub data CallNumber (room : ℕ) : ℤ → Type 0 where
  length-is : (n : ℕ) → n ≤ room → n < 2 ^ 63 → CallNumber room (pos n)
  refusal_is : (k : ℕ) → refusal_unit ≤ k → k < suc last_refusal * refusal_unit → CallNumber room (neg_ℤ (pos k))

refusal-number : (room n line : ℕ) → 1 ≤ n → n ≤ last_refusal → line < refusal_unit → CallNumber room (refusal n line)
unfolding refusal
refusal-number room n line low high h = refusal_is (n * refusal_unit + line) (omega arith) (omega arith)

number-of : (room : ℕ) (o : Outcome) → room < 2 ^ 63 → Bounded room o → CallNumber room (number_of o)
unfolding number_of
number-of room (refuse n line) fit b = let h = b.0 in refusal-number room n line (omega arith) b.1 b.2
number-of room (say bytes) fit b = length-is (length bytes) b (omega arith)

given-number : (o : Outcome) (buffer : Bytes) (work : List ℕ) → length buffer < 2 ^ 63 → Bounded (length buffer) o → CallNumber (length buffer) (given o buffer work).number
given-number o buffer work fit b =
    cases (ltb (length work) work_words)
    (λ e. rw e (refusal-number (length buffer) 1 0 (omega arith) (omega arith) (omega arith)))
    (λ e. rw e (number-of (length buffer) o fit b))

-- every call gives such a number, refusal 1 included
pub asked-number : (table question buffer : Bytes) (work : List ℕ) → length buffer < 2 ^ 63 → CallNumber (length buffer) (asked table question buffer work).number
unfolding asked_within
asked-number table question buffer work fit = given-number (outcome table question (length buffer)) buffer work fit (outcome-bounded table question (length buffer))

pub asked-all-number : (table questions buffer : Bytes) (work : List ℕ) → length buffer < 2 ^ 63 → CallNumber (length buffer) (asked_all table questions buffer work).number
unfolding asked_all_within
asked-all-number table questions buffer work fit = given-number (outcome_all table questions (length buffer)) buffer work fit (outcome-all-bounded table questions (length buffer))

-- a length is never a refusal
pub numbers_apart : (n k : ℕ) → refusal_unit ≤ k → pos n ≡ neg_ℤ (pos k) → ⊥
numbers_apart n zero h e = absurd (omega arith)
numbers_apart n (suc k) h e = pos-ne-negsuc n k e

-- a number tells the refusal and its line
pub refusal-tells : (n m line at : ℕ) → line < refusal_unit → at < refusal_unit → refusal n line ≡ refusal m at → (n ≡ m) × (line ≡ at)
unfolding refusal
refusal-tells n m line at h k e = let q = minus (n * refusal_unit + line) (m * refusal_unit + at) e in (omega arith, omega arith)
  where
    size : ℤ → ℕ
    size (pos a) = a
    size (negsuc a) = a

    minus : (a b : ℕ) → neg_ℤ (pos a) ≡ neg_ℤ (pos b) → a ≡ b
    minus a b q = ap size (sym (neg_ℤ-neg_ℤ (pos a)) ∙ ap neg_ℤ q ∙ neg_ℤ-neg_ℤ (pos b))

-- ---- the answer buffer

written-length : (o : Outcome) (buffer : Bytes) → Bounded (length buffer) o → length (written o buffer) ≡ length buffer
unfolding written
written-length (refuse n line) buffer b = refl
written-length (say bytes) buffer b = rw (length-append bytes (drop (length bytes) buffer), length-drop (length bytes) buffer) (omega arith)

given-length : (o : Outcome) (buffer : Bytes) (work : List ℕ) → Bounded (length buffer) o → length (given o buffer work).answer ≡ length buffer
given-length o buffer work b = cases (ltb (length work) work_words) (λ e. rw e) (λ e. rw e (written-length o buffer b))

-- the buffer keeps its length
pub buffer-length : (table question buffer : Bytes) (work : List ℕ) → length (asked table question buffer work).answer ≡ length buffer
unfolding asked_within
buffer-length table question buffer work = given-length (outcome table question (length buffer)) buffer work (outcome-bounded table question (length buffer))

pub all-buffer-length : (table questions buffer : Bytes) (work : List ℕ) → length (asked_all table questions buffer work).answer ≡ length buffer
unfolding asked_all_within
all-buffer-length table questions buffer work = given-length (outcome_all table questions (length buffer)) buffer work (outcome-all-bounded table questions (length buffer))

-- a refusal changes none of it
pub refused-keeps : (o : Outcome) (buffer : Bytes) (k : ℕ) → number_of o ≡ negsuc k → written o buffer ≡ buffer
unfolding written number_of
refused-keeps (refuse n line) buffer k e = refl
refused-keeps (say bytes) buffer k e = absurd (pos-ne-negsuc (length bytes) k e)

given-kept : (o : Outcome) (buffer : Bytes) (work : List ℕ) (k : ℕ) → (given o buffer work).number ≡ negsuc k → (given o buffer work).answer ≡ buffer
given-kept o buffer work k h = cases (ltb (length work) work_words) (λ e. rw e) (λ e. rw e (refused-keeps o buffer k (rw e at h)))

pub buffer-kept : (table question buffer : Bytes) (work : List ℕ) (k : ℕ) → (asked table question buffer work).number ≡ negsuc k → (asked table question buffer work).answer ≡ buffer
unfolding asked_within
buffer-kept table question buffer work = given-kept (outcome table question (length buffer)) buffer work

pub all-buffer-kept : (table questions buffer : Bytes) (work : List ℕ) (k : ℕ) → (asked_all table questions buffer work).number ≡ negsuc k → (asked_all table questions buffer work).answer ≡ buffer
unfolding asked_all_within
all-buffer-kept table questions buffer work = given-kept (outcome_all table questions (length buffer)) buffer work
