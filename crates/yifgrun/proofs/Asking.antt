-- The ways through the exported calls, and what each gives.
use mathlib.Core.Path.{◌≡◌, refl, sym, ap, subst, ◌∙◌}
use mathlib.Core.List.{◌++◌, append-nil}
use Prim.Native.Nat.{ℕ, ◌+◌, ◌-◌, ◌≤◌, ◌<◌}
use native.Mathlib.Omega.{arith}
use lib.ListN.{length, take, drop, replicate, drop_of_length-le, replicate-append-replicate}
use lib.Seq.{length-take-le, drop_at}
use lib.IntN.{ℤ}
use borrow.Author.Tests.{lt-ltb, le-ltb}
use borrow.Rule.Slice.PartMut.{mid_of, put_mid, Post-is, mid_len, take_put}
use Rattle.std.specs.Prelude.{Result, Ok, Err}
use Rattle.objects.specs.declared.refusals.Refusal.{Refusal}
use Rattle.objects.specs.Refusals.{reason_number}
use Rattle.objects.specs.Bounds.{work_words}
use Rattle.objects.specs.Lists.{Bytes}
use Rattle.objects.specs.Rows.{Words, table_of}
use Rattle.objects.specs.Table.{Table}
use Rattle.rules.specs.Load.{Loaded, refused, loaded, load}
use Rattle.rules.specs.Asked.{Outcome, refuse, refusal, fitted, replied, on_table, outcome_within, number_of, written, Asked, given, asked_within, asked}
use Rattle.rules.specs.AskedAll.{replied_all, outcome_all_within, asked_all_within, asked_all}
use Rattle.table.specs.Loading.{loading_meant, Loads}
use Rattle.reply.specs.declared.Unsaid.{Unsaid}
use Rattle.reply.specs.Done.{number_read, Fits}
use Rattle.replies.specs.declared.Asking.{Asking}
use Rattle.replies.specs.Replies.{said_of, Ends}
use Rattle.edits.specs.Tidying.{says_tidied, tidy_outcome, tidied_call}
use Rattle.yifgrun.specs.Gives.{Cleared, Gives, asked_by}

-- ---- refused by the loader, or asked

module _ (text before : Bytes) (rows : Words) (said : Table → Outcome) {l : Result (Unit {0}) Refusal} (h : Loads text l rows) where
  pub table-refused : {x : Refusal} → l ≡ Err x → Ends (on_table said (load text)) (Err (Unsaid.Refused x)) before before
  unfolding on_table loading_meant number_read number_of written Fits
  table-refused {x} e =
      let is : on_table said (load text) ≡ refuse (reason_number x.reason) x.line = ap (on_table said) (sym h.says ∙ ap (loading_meant text rows) e) in
      record { number = rw is; answer = rw is; holds = λ k. tt }

  pub table-asked : {after : Bytes} {r : Result ℕ Unsaid} → l ≡ Ok tt → Ends (said (table_of text rows)) r before after → Ends (on_table said (load text)) r before after
  unfolding on_table loading_meant
  table-asked {after} {r} e d = subst (λ o. Ends o r before after) (sym (ap (on_table said) (sym h.says ∙ ap (loading_meant text rows) e))) d

-- the same table in other rows
pub ends_on : (said : Table → Outcome) {T U : Table} {r : Result ℕ Unsaid} {before after : Bytes} → T ≡ U → Ends (said T) r before after → Ends (said U) r before after
ends_on said {r = r} {before = before} {after = after} e d = subst (λ T. Ends (said T) r before after) e d

-- ---- one question, or many

-- what is said of a table is the same whichever way it is written
on_same : (f g : Table → Outcome) → ((T : Table) → f T ≡ g T) → (L : Loaded) → on_table f L ≡ on_table g L
unfolding on_table
on_same f g e (refused n line) = refl
on_same f g e (loaded T) = e T

-- the number as it is read back
pub gives-number : {a : Asked} {r s : ℤ} {after : Bytes} {last : Words} → s ≡ r → Gives a r after last → Gives a s after last
gives-number e g = record { number = e ∙ g.number; answer = g.answer; work = g.work }

module _ (text question buffer : Bytes) (work : Words) {r : ℤ} {after : Bytes} {last : Words} where
  pub gives_one : Gives (asked_by Asking.One text question buffer work) r after last → Gives (asked text question buffer work) r after last
  unfolding asked_by asked_within outcome_within said_of
  gives_one g = subst (λ o. Gives (given (fitted (length buffer) o) buffer work) r after last) (on_same (said_of Asking.One question) (replied question) (λ T. refl) (load text)) g

  pub gives-all : Gives (asked_by Asking.All text question buffer work) r after last → Gives (asked_all text question buffer work) r after last
  unfolding asked_by asked_all_within outcome_all_within said_of
  gives-all g = subst (λ o. Gives (given (fitted (length buffer) o) buffer work) r after last) (on_same (said_of Asking.All question) (replied_all question) (λ T. refl) (load text)) g

-- ---- the whole call

-- whatever is said of a table
module _ (said : Table → Outcome) (text before : Bytes) (work : Words) (r : ℤ) where
  abbrev gives : ℤ → Bytes → Words → Type 0
  gives = Gives (given (fitted (length before) (on_table said (load text))) before work)

  -- 1
  few : length work < work_words → r ≡ refusal 1 0 → gives r before work
  few h e = rw (lt-ltb (length work) work_words h) (record { number = e; answer = refl; work = refl })

  -- the rest: what was decided, with the work area clear
  enough : work_words ≤ length work → {d : Result ℕ Unsaid} {after : Bytes} {clear last : Words} → Ends (on_table said (load text)) d before after → r ≡ number_read d
      → clear ≡ replicate (length work) 0 → last ≡ clear → gives r after last
  enough h p e z k = rw (le-ltb (length work) work_words h) (record { number = e ∙ p.number; answer = p.answer; work = k ∙ z })

module _ (all : Asking) (text question before : Bytes) (work : Words) (r : ℤ) where
  pub few_words : length work < work_words → r ≡ refusal 1 0 → Gives (asked_by all text question before work) r before work
  unfolding asked_by
  few_words = few (said_of all question) text before work r

  pub enough-words : work_words ≤ length work → {d : Result ℕ Unsaid} {after : Bytes} {clear last : Words} → Ends (on_table (said_of all question) (load text)) d before after → r ≡ number_read d
      → clear ≡ replicate (length work) 0 → last ≡ clear → Gives (asked_by all text question before work) r after last
  unfolding asked_by
  enough-words h p e z k = enough (said_of all question) text before work r h p e z k

module _ (text before : Bytes) (work : Words) (r : ℤ) where
  pub few-tidied : length work < work_words → r ≡ refusal 1 0 → Gives (tidied_call text before work) r before work
  unfolding tidied_call tidy_outcome
  few-tidied = few says_tidied text before work r

  pub enough-tidied : work_words ≤ length work → {d : Result ℕ Unsaid} {after : Bytes} {clear : Words} → Ends (on_table says_tidied (load text)) d before after → r ≡ number_read d
      → clear ≡ replicate (length work) 0 → Gives (tidied_call text before work) r after clear
  unfolding tidied_call tidy_outcome
  enough-tidied h p e z = enough says_tidied text before work r h p e z refl

-- the whole area is cleared
pub words-cleared : (work : Words) {clear : Words} → work_words ≤ length work → length clear ≡ length work → clear ≡ replicate (length work) 0 → Cleared clear
words-cleared work h l z = (omega arith, z ∙ ap (λ n. replicate n 0) (sym l))

-- ---- more words than a call needs: those behind are cleared, and the call is made on the first ones

-- an area with other words behind its first n
module _ (n : ℕ) (work : Words) (more : n < length work) (behind : Words) where
  abbrev cut : Words
  cut = put_mid n (length work - n) work behind

  first-long : length (take n cut) ≡ n
  first-long = ap length (take_put n (length work - n) work behind (omega arith)) ∙ length-take-le n work (omega arith)

  drop-first : drop n cut ≡ behind
  drop-first =
      drop_at (take n work) _ n (length-take-le n work (omega arith))
      ∙ ap (λ l. behind ++ l) (Post-is n (length work) work (omega arith) ∙ drop_of_length-le work {i = length work} (omega arith))
      ∙ append-nil behind

  -- all words are zero once those of both parts are
  all-zero : {first : Words} → first ≡ replicate (length (take n cut)) 0 → behind ≡ replicate (length (mid_of n (length work - n) work)) 0 → first ++ drop n cut ≡ replicate (length work) 0
  all-zero {first} e z =
      let whole : n + (length work - n) ≡ length work = omega arith in
      ap (λ l. first ++ l) drop-first
      ∙ ap (λ l. l ++ behind) (e ∙ ap (λ k. replicate k 0) first-long)
      ∙ ap (λ l. replicate n 0 ++ l) (z ∙ ap (λ k. replicate k 0) (mid_len n (length work) work (omega arith)))
      ∙ replicate-append-replicate n (length work - n) 0
      ∙ ap (λ k. replicate k 0) whole

-- what a call on the first words gives is what a call on all gives
module _ (all : Asking) (text question before : Bytes) (work : Words) (r : ℤ) (more : work_words < length work) {behind : Words} (z : behind ≡ replicate (length (mid_of work_words (length work - work_words) work)) 0) where
  pub first-words : {s : ℤ} {after : Bytes} {first : Words} → r ≡ s → Gives (asked_by all text question before (take work_words (cut work_words work more behind))) s after first
      → Gives (asked_by all text question before work) r after (first ++ drop work_words (cut work_words work more behind))
  unfolding asked_by
  first-words e g =
      let done = rw (le-ltb (length (take work_words (cut work_words work more behind))) work_words (omega (arith, first-long work_words work more behind))) at g in
      rw (le-ltb (length work) work_words (omega arith))
      (record { number = e ∙ done.number; answer = done.answer; work = all-zero work_words work more behind done.work z })
