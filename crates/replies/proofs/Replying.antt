-- One of many questions: scratch that may be lent again, and from what the code gave back for a question to what stands for it.
use mathlib.Core.Path.{◌≡◌, sym, ap, subst, ◌∙◌}
use mathlib.Core.List.{List, ◌++◌}
use Prim.Native.Nat.{ℕ, ◌≤◌, ◌<◌}
use native.Mathlib.Omega.{arith}
use lib.Dec.{ltb}
use lib.ListN.{length, drop}
use borrow.Author.Tests.{ltb-true, ltb-false}
use Rattle.std.specs.Prelude.{Result, Ok, Err}
use Rattle.objects.specs.declared.refusals.Refusal.{Refusal}
use Rattle.objects.specs.Refusals.{reason_number}
use Rattle.objects.specs.Lists.{Bytes}
use Rattle.objects.specs.Rows.{Words}
use Rattle.objects.specs.Table.{Table}
use Rattle.objects.proofs.ListLaws.{cases}
use Rattle.rules.specs.Asked.{Outcome, refuse, say, replied, written}
use Rattle.rules.specs.AskedAll.{refused_bytes, printed, reply_bytes}
use Rattle.multiples.specs.Records.{Record}
use Rattle.first_hits.specs.declared.FirstHit.{FirstHit}
use Rattle.reply.specs.declared.Unsaid.{Unsaid}
use Rattle.reply.specs.Done.{Done, done_meant, done_said, done_of, Does}
use Rattle.reply.proofs.Saying.{does-as}
use Rattle.answer.specs.declared.Need.{Need}
use Rattle.answer.specs.Lent.{Walks, Lent, Enough, Kept}

-- ---- scratch

-- what serves every question serves each
pub lent-enough : (rows : Words) (walk : List Record) (hits : List FirstHit) (words : Words) → Lent rows walk hits words → (n : Need) → Enough rows walk hits words n
unfolding Enough
lent-enough rows walk hits words h Need.Nothing = tt
lent-enough rows walk hits words h Need.Walk = h.searches
lent-enough rows walk hits words h Need.Set = h.lists

walks-kept : {rows : Words} {walk walk' : List Record} → Walks rows walk → length walk' ≡ length walk → Walks rows walk'
walks-kept h e = let room = h.room in let most = h.most in record { room = omega arith; most = omega arith }

-- it serves the next one too
pub lent-kept : {rows : Words} {walk walk' : List Record} {hits hits' : List FirstHit} {words words' : Words} → Lent rows walk hits words → Kept rows hits hits'
    → length walk' ≡ length walk → length words' ≡ length words → Lent rows walk' hits' words'
lent-kept h k e f =
    let s = h.searches in let l = h.lists in
    let walks = walks-kept s.walks e in
    let search = s.long in let names = l.long in
    record { searches = record { walks = walks; long = omega arith }; lists = record { walks = walks; long = omega arith; rooms = k.rooms l.rooms } }

-- ---- what was given back

abbrev tag : Done → ℕ
tag (Done.Refused n line) = 0
tag (Done.Said n) = 1
tag (Done.Long n) = 2

abbrev number : Done → ℕ
number (Done.Refused n line) = n
number (Done.Said n) = n
number (Done.Long n) = n

abbrev line_in : Done → ℕ
line_in (Done.Refused n line) = line
line_in (Done.Said n) = 0
line_in (Done.Long n) = 0

tag-said : (room n : ℕ) → tag (done_said room n) ≡ 0 → ⊥
tag-said room n e = cases (ltb room n) (λ z. let k = rw z at e in omega arith) (λ z. let k = rw z at e in omega arith)

module _ {before after : Bytes} {r : Result ℕ Unsaid} where
  done_refused : (o : Outcome) {x : Refusal} → Does o r before after → r ≡ Err (Unsaid.Refused x) → (o ≡ refuse (reason_number x.reason) x.line) × (after ≡ before)
  unfolding done_of done_meant written
  done_refused (refuse a b) {x} d e =
      let same : Done.Refused a b ≡ Done.Refused (reason_number x.reason) x.line = sym d.told ∙ ap done_meant e in
      let m : a ≡ reason_number x.reason = ap number same in let l : b ≡ x.line = ap line_in same in
      (rw (m, l), d.answer)
  done_refused (say bytes) d e = absurd (tag-said (length before) (length bytes) (ap tag (sym d.told ∙ ap done_meant e)))

  -- not refused: the bytes of the answer
  printed-as : (o : Outcome) → Does o r before after → (tag (done_meant r) ≡ 0 → ⊥) → Does (say (printed o)) r before after
  unfolding done_of
  printed-as (refuse a b) d not = absurd (not (ap tag d.told))
  printed-as (say bytes) d not = d

  module _ {bytes : Bytes} (d : Does (say bytes) r before after) where
    pub said-is : {n : ℕ} → r ≡ Ok n → (n ≡ length bytes) × (length bytes ≤ length before) × (after ≡ bytes ++ drop (length bytes) before)
    unfolding done_of done_meant written
    said-is e =
        cases (ltb (length before) (length bytes))
        (λ z. let k : 2 ≡ 1 = ap tag (sym (rw z at d.told) ∙ ap done_meant e) in absurd (omega arith))
        (λ z. (ap number (sym (ap done_meant e) ∙ (rw z at d.told)), ltb-false (length before) (length bytes) z, rw z at d.answer))

    pub long-is : {n : ℕ} → r ≡ Err (Unsaid.Long n) → (n ≡ length bytes) × (length before < length bytes) × (after ≡ before)
    unfolding done_of done_meant written
    long-is e =
        cases (ltb (length before) (length bytes))
        (λ z. (ap number (sym (ap done_meant e) ∙ (rw z at d.told)), ltb-true (length before) (length bytes) z, rw z at d.answer))
        (λ z. let k : 1 ≡ 2 = ap tag (sym (rw z at d.told) ∙ ap done_meant e) in absurd (omega arith))

    pub never-refused : {x : Refusal} → r ≡ Err (Unsaid.Refused x) → ⊥
    unfolding done_of done_meant
    never-refused e = tag-said (length before) (length bytes) (ap tag (sym d.told ∙ ap done_meant e))

    -- unsaid: there is no room
    pub unsaid-is : (u : Unsaid) → r ≡ Err u → (length before < length bytes) × (after ≡ before)
    unsaid-is (Unsaid.Refused x) e = absurd (never-refused e)
    unsaid-is (Unsaid.Long n) e = let z = long-is e in (z.1, z.2)

-- ---- what stands for the question

module _ (T : Table) (line : Bytes) {before mid : Bytes} {d : Result ℕ Unsaid} (h : Does (replied line T) d before mid) where
  pub reply-refused : {x : Refusal} {n : ℕ} → d ≡ Err (Unsaid.Refused x) → n ≡ reason_number x.reason → {r : Result ℕ Unsaid} {after : Bytes}
      → Does (say (refused_bytes n x.line)) r mid after → Does (say (reply_bytes T line)) r before after
  unfolding reply_bytes
  reply-refused {x} {n} e m {r} {after} s =
      let z = done_refused (replied line T) h e in
      let same : refuse n x.line ≡ replied line T = ap (λ k. refuse k x.line) m ∙ sym z.0 in
      subst (λ b. Does (say (reply_bytes T line)) r b after) z.1 (does-as (ap (λ o. say (printed o)) same) s)

  pub reply-said : {n : ℕ} → d ≡ Ok n → Does (say (reply_bytes T line)) d before mid
  unfolding reply_bytes done_meant
  reply-said e = printed-as (replied line T) h (λ z. let k : 1 ≡ 0 = ap (λ r. tag (done_meant r)) (sym e) ∙ z in omega arith)

  pub reply-long : {n : ℕ} → d ≡ Err (Unsaid.Long n) → Does (say (reply_bytes T line)) d before mid
  unfolding reply_bytes done_meant
  reply-long e = printed-as (replied line T) h (λ z. let k : 2 ≡ 0 = ap (λ r. tag (done_meant r)) (sym e) ∙ z in omega arith)
