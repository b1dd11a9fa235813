-- Document 02, point 6, of calls: what the call that tidies gives, and what is asked before and after. The laws of tables are crate carry's, those of texts crate
-- tidy's.
use mathlib.Core.Path.{◌≡◌, subst, ◌∙◌}
use mathlib.Core.Bool.{true, false}
use mathlib.Core.Logic.{◌≢◌}
use mathlib.Core.Option.{some}
use Prim.Native.Nat.{ℕ, ◌≤◌, ◌<◌}
use lib.ListN.{length}
use Rattle.objects.specs.Bounds.{work_words}
use Rattle.objects.specs.Lists.{Bytes}
use Rattle.objects.specs.declared.TypeKey.{TypeKey}
use Rattle.objects.specs.declared.PackageKey.{PackageKey}
use Rattle.objects.specs.Table.{Table}
use Rattle.rules.specs.Load.{refused, loaded, load}
use Rattle.rules.specs.Sound.{Sound}
use Rattle.rules.specs.Question.{Question, ask_v, question_of}
use Rattle.rules.specs.Answer.{answer, answer_bytes}
use Rattle.rules.specs.Asked.{say, refuse, fitted, wrong_second, on_table, outcome_within, outcome}
use Rattle.rules.proofs.Numbers.{due-bounded}
use Rattle.rules.proofs.Sounds.{loads-sound}
use Rattle.edits.specs.Carried.{carry_question}
use Rattle.edits.specs.TableText.{text_of}
use Rattle.edits.specs.Tidy.{tidy_type, tidied}
use Rattle.edits.specs.Tidying.{says_tidied, tidy_outcome, tidied_call}
use Rattle.carry.specs.Maps.{Maps}
use Rattle.carry.specs.Carry.{carry_answer}
use Rattle.carry.proofs.Carried.{question-known, second-kept, carried}
use Rattle.carry.proofs.TidyMaps.{tidy-maps}
use Rattle.carry.proofs.TidyTwice.{one_each}
use Rattle.tidy.proofs.Texts.{tidies, said-shorter, said-loads, said-again}
use Rattle.growth.specs.Calls.{Lent, called, answers_with}
use Rattle.growth.proofs.Promised.{asked_in, outcome-says, call-says}
use Rattle.promises.specs.Demands.{refuses_with, CallGives, CallSays, tidy_called, PutCarried, RoomForBoth, AnswersCarried, TidiedText}
use Rattle.promises.proofs.Calls.{gives, call-gives, fitted-fits, fitted-long}

-- ---- the call

pub tidy-gives : (text : Bytes) (c : Lent) → CallGives (tidy_outcome text (length c.buffer)) c (tidy_called text c)
unfolding tidied_call tidy_outcome
tidy-gives text c = gives (tidy_outcome text (length c.buffer)) c (due-bounded says_tidied (λ T. tt) text (length c.buffer))

-- ---- questions along any map of tables

outcome-second : (text line : Bytes) (room : ℕ) (T : Table) (q : Question) → load text ≡ loaded T → question_of T line ≡ some q → wrong_second T q ≡ true → outcome text line room ≡ refuse 12 0
unfolding outcome_within on_table
outcome-second text line room T q l e s = rw (l, on_table, e, s)

refuses-second : (text : Bytes) (c : Lent) (T : Table) (q : Question) → load text ≡ loaded T → question_of T c.line ≡ some q → wrong_second T q ≡ true → work_words ≤ length c.work
    → called text c ≡ refuses_with 12 0 c
refuses-second text c T q l e s w = ((call-gives text c).refuses 12 0 w (outcome-second text c.line (length c.buffer) T q l e s)).0

module _ (f : TypeKey → TypeKey) (p : PackageKey → PackageKey) (a b : Bytes) (T U : Table) (la : load a ≡ loaded T) (lb : load b ≡ loaded U) (g : Maps f p T U) where
  sound_t : Sound T
  sound_t = loads-sound a T la

  kept : {before after : Lent} (q : Question) → PutCarried f p T U q before after → wrong_second U (carry_question f p q) ≡ wrong_second T q
  kept {before} q put = second-kept f p T U sound_t g q (asked_in T before.line q put.asks)

  same_answer : (q : Question) → q ≢ ask_v → (before after : Lent) → PutCarried f p T U q before after → wrong_second T q ≡ false → RoomForBoth f p T U q before after
      → CallSays a before (answer T q) × CallSays b after (carry_answer f T U q (answer T q))
  same_answer q other before after put second room =
      let old = outcome-says a before.line (length before.buffer) T q la put.asks second room.fits in
      let new = outcome-says b after.line (length after.buffer) U (carry_question f p q) lb put.asks_carried (kept q put ∙ second) room.fits_after in
      let is = carried f p T U sound_t (loads-sound b U lb) g q (asked_in T before.line q put.asks) other in (
        call-says a (answer_bytes (answer T q)) before old put.words,
        subst (CallSays b after) is (call-says b (answer_bytes (answer U (carry_question f p q))) after new put.words_after),
      )

  pub answers-carried : AnswersCarried f p a b T U
  answers-carried = record {
    known = question-known f p T U sound_t g;
    same = same_answer;
    refused = λ q before after put second. (
      refuses-second a before T q la put.asks second put.words,
      refuses-second b after U (carry_question f p q) lb put.asks_carried (kept q put ∙ second) put.words_after,
    );
  }

-- ---- a text that was tidied

pub tidied-text : (text : Bytes) (room : ℕ) (bytes : Bytes) → tidy_outcome text room ≡ say bytes → TidiedText text bytes
tidied-text text room bytes said =
    let t = tidies text room bytes said in
    let sound = loads-sound text t.table t.loads in
    let again = said-loads text room bytes said in
    record {
      old = t.table;
      loads = t.loads;
      loads_tidied = again;
      apart = one_each t.table sound;
      shorter = said-shorter text room bytes said;
      again = λ c w fits. ((tidy-gives bytes c).answers bytes w (said-again text room bytes said (length c.buffer) fits)).0;
      answers = answers-carried (tidy_type t.table) (λ k. k) text bytes t.table (tidied t.table) t.loads again (tidy-maps t.table sound);
    }

-- ---- the call on a table that loads, or does not

module _ (text : Bytes) (T : Table) (loads : load text ≡ loaded T) where
  tidy-is : (room : ℕ) → tidy_outcome text room ≡ fitted room (says_tidied T)
  unfolding tidy_outcome on_table
  tidy-is room = rw (loads, on_table)

  pub tidy-room : (c : Lent) → work_words ≤ length c.work → length (text_of (tidied T)) ≤ length c.buffer
      → (tidy_called text c ≡ answers_with (text_of (tidied T)) c) × TidiedText text (text_of (tidied T))
  tidy-room c w room =
      let says = tidy-is (length c.buffer) ∙ fitted-fits (length c.buffer) (text_of (tidied T)) room in
      (((tidy-gives text c).answers (text_of (tidied T)) w says).0, tidied-text text (length c.buffer) (text_of (tidied T)) says)

  pub tidy-long : (c : Lent) → work_words ≤ length c.work → length c.buffer < length (text_of (tidied T)) → tidy_called text c ≡ refuses_with 13 0 c
  tidy-long c w long = ((tidy-gives text c).refuses 13 0 w (tidy-is (length c.buffer) ∙ fitted-long (length c.buffer) (text_of (tidied T)) long)).0

pub tidy-refused : (text : Bytes) (n line : ℕ) → load text ≡ refused n line → (c : Lent) → work_words ≤ length c.work → tidy_called text c ≡ refuses_with n line c
unfolding tidy_outcome on_table
tidy-refused text n line e c w = ((tidy-gives text c).refuses n line w (rw (e, on_table))).0
