-- Arrays of empty records and hits are lent: they are long enough. And from what a question alone was answered to what a call ends with.
use mathlib.Core.Path.{◌≡◌, refl, sym, ap, subst, ◌∙◌}
use mathlib.Core.List.{List}
use Prim.Native.Nat.{ℕ, ◌*◌, ◌^◌, ◌≤◌, ◌<◌}
use native.Mathlib.Omega.{arith}
use lib.Dec.{ltb}
use lib.IntN.{ℤ, pos}
use lib.ListN.{length, take, replicate, length-replicate, length-take}
use borrow.Author.Tests.{ltb-false}
use Rattle.std.specs.Prelude.{Result, Ok, Err}
use Rattle.objects.specs.Lists.{Bytes}
use Rattle.objects.specs.Rows.{Words, type_count, member_count_of}
use Rattle.objects.proofs.ListLaws.{cases}
use Rattle.rules.specs.Asked.{Outcome, refuse, say, fitted, refusal, number_of}
use Rattle.multiples.specs.Records.{Record, max_records}
use Rattle.multiples.specs.Records as records
use Rattle.first_hits.specs.declared.FirstHit.{FirstHit}
use Rattle.first_hits.specs.Hits.{Rooms}
use Rattle.first_hits.specs.Hits as hits_of
use Rattle.reply.specs.declared.Unsaid.{Unsaid}
use Rattle.reply.specs.Done.{Done, done_meant, done_of, Does, number_read, Fits}
use Rattle.answer.specs.declared.Need.{Need}
use Rattle.answer.specs.Lent.{search_words, Walks, Lent, Enough}
use Rattle.replies.specs.Replies.{Ends}

abbrev no_record : Record
no_record = records.empty

abbrev no_hit : FirstHit
no_hit = hits_of.empty

-- the first n of k records
pub lent-long : (k n : ℕ) → n ≤ k → n ≡ length (take n (replicate k no_record))
lent-long k n h = let all = length-replicate k no_record in simp length-take (omega arith)

-- two for each type
pub walks-new : (rows : Words) (k n : ℕ) → n ≡ 2 * type_count rows → n ≤ k → n ≤ max_records → Walks rows (take n (replicate k no_record))
walks-new rows k n e room most =
    let long = lent-long k n room in
    record {
      room = omega arith;
      most = omega arith;
    }

-- all of k records
pub walks-all : (rows : Words) (k : ℕ) → 2 * type_count rows ≤ k → k ≤ max_records → Walks rows (replicate k no_record)
walks-all rows k room most =
    let long = length-replicate k no_record in
    record { room = omega arith; most = omega arith }

-- a first hit for each member
pub rooms-new : (rows : Words) (k : ℕ) → member_count_of rows ≤ k → Rooms rows (replicate k no_hit)
rooms-new rows k h = λ j l. record { inside = let all = length-replicate k no_hit in omega arith }

-- ---- by need

module _ (rows : Words) (walk : List Record) (hits : List FirstHit) (words : Words) where
  pub need-nothing : {n : Need} → n ≡ Need.Nothing → Enough rows walk hits words n
  unfolding Enough
  need-nothing e = subst (Enough rows walk hits words) (sym e) tt

  pub need-walk : {n : Need} → n ≡ Need.Walk → Walks rows walk → search_words ≤ length words → Enough rows walk hits words n
  unfolding Enough
  need-walk e w l = subst (Enough rows walk hits words) (sym e) (record { walks = w; long = l })

-- every question is served
pub lent-new : {rows : Words} {walk : List Record} {hits : List FirstHit} (words : Words) → Walks rows walk → Rooms rows hits → search_words ≤ length words → member_count_of rows ≤ length words → Lent rows walk hits words
lent-new words w r l m = record { searches = record { walks = w; long = l }; lists = record { walks = w; long = m; rooms = r } }

-- ---- a question alone

abbrev told : Done → ℤ
told (Done.Refused n line) = refusal n line
told (Done.Said n) = pos n
told (Done.Long n) = refusal 13 0

abbrev Holds : Done → Type 0
Holds (Done.Refused n line) = Unit {0}
Holds (Done.Said n) = n < 2 ^ 63
Holds (Done.Long n) = Unit {0}

number-told : (r : Result ℕ Unsaid) → number_read r ≡ told (done_meant r)
unfolding number_read done_meant
number-told (Ok n) = refl
number-told (Err (Unsaid.Refused x)) = refl
number-told (Err (Unsaid.Long n)) = refl

fits-held : (r : Result ℕ Unsaid) → Holds (done_meant r) → Fits r
unfolding Fits done_meant
fits-held (Ok n) h = h
fits-held (Err (Unsaid.Refused x)) h = tt
fits-held (Err (Unsaid.Long n)) h = tt

number-done : (room : ℕ) (o : Outcome) → told (done_of room o) ≡ number_of (fitted room o)
unfolding done_of number_of
number-done room (refuse n line) = refl
number-done room (say bytes) = cases (ltb room (length bytes)) (λ z. rw z) (λ z. rw z)

done-holds : (room : ℕ) (o : Outcome) → room < 2 ^ 63 → Holds (done_of room o)
unfolding done_of
done-holds room (refuse n line) h = tt
done-holds room (say bytes) h = cases (ltb room (length bytes)) (λ z. rw z tt) (λ z. rw z (let k = ltb-false room (length bytes) z in omega arith))

pub ends-does : {o : Outcome} {r : Result ℕ Unsaid} {before after : Bytes} → Does o r before after → Ends o r before after
ends-does {o} {r} {before} d = record {
  number = number-told r ∙ ap told d.told ∙ number-done (length before) o;
  answer = d.answer;
  holds = λ h. fits-held r (subst Holds (sym d.told) (done-holds (length before) o h));
}
