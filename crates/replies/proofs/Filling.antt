-- Answers one after the other: those that are made, those that are left, and how long all of them are.
use mathlib.Core.Path.{◌≡◌, refl, sym, ap, subst, ◌∙◌}
use mathlib.Core.Bool.{true, false}
use mathlib.Core.List.{List, [], ◌∷◌, ◌++◌, append_assoc, append-nil}
use Prim.Native.Nat.{ℕ, ◌+◌, ◌-◌, ◌≤◌, ◌<◌}
use native.Mathlib.Omega.{arith}
use lib.Dec.{leb}
use lib.ListN.{length, take, drop, length-append, length-drop, drop_of_length-le}
use lib.Seq.{take_at, drop_at, take_all, drop-drop}
use borrow.Author.Tests.{leb-true, leb-false, lt-ltb, le-ltb}
use borrow.Rule.Slice.PartMut.{mid_of, put_mid, post_of, Post-is, put_same}
use Rattle.std.specs.declared.option.Option as code
use Rattle.std.specs.Prelude.{Some, None}
use Rattle.std.specs.Prelude.{Result, Ok, Err}
use Rattle.objects.specs.declared.refusals.Reason.{Reason}
use Rattle.objects.specs.Lists.{Bytes, flat}
use Rattle.objects.specs.Table.{Table}
use Rattle.objects.proofs.ListLaws.{flat_append}
use Rattle.text.specs.Cursors.{part}
use Rattle.rules.specs.Asked.{say, replied, number_of, written}
use Rattle.rules.specs.AskedAll.{question_lines, reply_bytes, replied_all}
use Rattle.input.specs.Parts.{questions_at, next_meant, next_within, Follows}
use Rattle.reply.specs.declared.Unsaid.{Unsaid}
use Rattle.reply.specs.Done.{number_read, Fits}
use Rattle.replies.specs.declared.Asking.{Asking}
use Rattle.replies.specs.declared.Filled.{Filled}
use Rattle.replies.specs.Replies.{Full, Filling, Fills, said_of, Ends}

-- the part of a text from a place on, as a slice
pub rest_lines : (s : Bytes) (at : ℕ) → question_lines (take (length s - at) (drop at s)) ≡ questions_at s at
unfolding questions_at
rest_lines s at = ap question_lines (take_all (length s - at) (drop at s) (omega (arith, length-drop at s)))

-- ---- what is put behind the front of a buffer

module _ (front before : Bytes) {n : ℕ} {out : Bytes} (count : n ≡ length front) (room : n ≤ length before) (is : out ≡ front ++ drop n before) where
  put-length : length out ≡ length before
  put-length = omega (arith, ap length is, length-append front (drop n before), count, length-drop n before)

  put-behind : mid_of n (length out - n) out ≡ drop n before
  put-behind =
      let e : drop n out ≡ drop n before = ap (drop n) is ∙ drop_at front (drop n before) n (sym count) in
      ap (take (length out - n)) e ∙ take_all (length out - n) (drop n before) (omega (arith, put-length, length-drop n before))

  put-behind-length : length (mid_of n (length out - n) out) ≡ length before - n
  put-behind-length = ap length put-behind ∙ length-drop n before

  put_next : (bytes : Bytes) {ys : Bytes} → ys ≡ bytes ++ drop (length bytes) (mid_of n (length out - n) out) → put_mid n (length out - n) out ys ≡ (front ++ bytes) ++ drop (n + length bytes) before
  put_next bytes {ys} w =
      let head : take n out ≡ front = ap (take n) is ∙ take_at front (drop n before) n (sym count) in
      let tail : ys ≡ bytes ++ drop (n + length bytes) before = w ∙ ap (λ z. bytes ++ drop (length bytes) z) put-behind ∙ ap (λ z. bytes ++ z) (drop-drop (length bytes) n before) in
      let post : post_of n (length out - n) out ≡ [] = Post-is n (length out) out (omega (arith, put-length)) ∙ drop_of_length-le out {i = length out} (omega arith) in
      ap (λ z. take n out ++ (ys ++ z)) post ∙ ap (λ z. take n out ++ z) (append-nil ys) ∙ ap (λ z. z ++ ys) head ∙ ap (λ z. front ++ z) tail ∙ sym (append_assoc front bytes (drop (n + length bytes) before))

-- ---- answers one after the other

module _ (T : Table) (questions before : Bytes) where
  pub none_filled : Filling T questions before 0 0 before
  unfolding questions_at
  none_filled = record { done = []; lines = refl; inside = omega arith; count = refl; room = omega arith; answers = refl }

  module _ {at n : ℕ} {out : Bytes} (h : Filling T questions before at n out) where
    abbrev made : Bytes
    made = flat (reply_bytes T) h.done

    pub out-length : length out ≡ length before
    out-length = put-length made before h.count h.room h.answers

    pub behind-length : length (mid_of n (length out - n) out) ≡ length before - n
    behind-length = put-behind-length made before h.count h.room h.answers

    pub full-end : {x : code.Option (ℕ × ℕ)} → Follows questions at x → x ≡ None → Full T (questions_at questions at) n (length before)
    unfolding Full next_meant
    full-end d e = subst (λ l. Full T l n (length before)) (sym (d.says ∙ ap (next_meant questions at) e)) tt

    -- an answer that has no room leaves the buffer as it was
    pub filling-kept : {ys : Bytes} → ys ≡ mid_of n (length out - n) out → Filling T questions before at n (put_mid n (length out - n) out ys)
    filling-kept {ys} e = subst (Filling T questions before at n) (sym (ap (put_mid n (length out - n) out) e ∙ put_same n (length out - n) out)) h

    module _ {x : code.Option (ℕ × ℕ)} (d : Follows questions at x) {end next : ℕ} (e : x ≡ Some (end, next)) where
      pub within : next_within questions at (Some (end, next))
      within = subst (next_within questions at) e d.within

      at-line : questions_at questions at ≡ part questions at end ∷ questions_at questions next
      unfolding next_meant
      at-line = d.says ∙ ap (next_meant questions at) e

      abbrev bytes : Bytes
      bytes = reply_bytes T (part questions at end)

      pub full-next : length (mid_of n (length out - n) out) < length bytes → Full T (questions_at questions at) n (length before)
      unfolding Full
      full-next l = let r = h.room in subst (λ q. Full T q n (length before)) (sym at-line) (omega (arith, behind-length, l))

      pub filled_next : {k : ℕ} {ys : Bytes} → k ≡ length bytes → length bytes ≤ length (mid_of n (length out - n) out) → ys ≡ bytes ++ drop (length bytes) (mid_of n (length out - n) out)
          → Filling T questions before next (n + k) (put_mid n (length out - n) out ys)
      filled_next {k} {ys} c l w = record {
        done = h.done ++ (part questions at end ∷ []);
        lines = h.lines ∙ ap (λ q. h.done ++ q) at-line ∙ sym (append_assoc h.done (part questions at end ∷ []) (questions_at questions next));
        inside = within.3;
        count = omega (arith, c, h.count, ap length all, length-append made bytes);
        room = let r = h.room in omega (arith, c, l, behind-length);
        answers = put_next made before h.count h.room h.answers bytes w ∙ ap (λ z. z ++ drop (n + length bytes) before) (sym all) ∙ ap (λ m. flat (reply_bytes T) (h.done ++ (part questions at end ∷ [])) ++ drop (n + m) before) (sym c);
      }
        where
          all : flat (reply_bytes T) (h.done ++ (part questions at end ∷ [])) ≡ made ++ bytes
          all = flat_append (reply_bytes T) h.done (part questions at end ∷ []) ∙ ap (λ z. made ++ z) (append-nil bytes)

-- ---- where all have room, all are made

module _ (T : Table) (questions before : Bytes) {r : Filled} {after : Bytes} (h : Fills T questions before r after) where
  abbrev whole : Bytes
  whole = flat (reply_bytes T) (question_lines questions)

  abbrev front : Bytes
  front = flat (reply_bytes T) h.filling.done

  -- what is made is the front of all
  pub whole_parts : whole ≡ front ++ flat (reply_bytes T) (questions_at questions r.at)
  whole_parts = ap (flat (reply_bytes T)) h.filling.lines ∙ flat_append (reply_bytes T) h.filling.done (questions_at questions r.at)

  pub whole_length : length whole ≡ r.n + length (flat (reply_bytes T) (questions_at questions r.at))
  whole_length = omega (arith, ap length whole_parts, length-append front (flat (reply_bytes T) (questions_at questions r.at)), h.filling.count)

  pub all-filled : length whole ≤ length before → (r.n ≡ length whole) × (after ≡ whole ++ drop (length whole) before)
  unfolding Full
  all-filled fits = go (questions_at questions r.at) refl
    where
      go : (l : List Bytes) → questions_at questions r.at ≡ l → (r.n ≡ length whole) × (after ≡ whole ++ drop (length whole) before)
      go [] e =
          let same : whole ≡ front = whole_parts ∙ ap (λ z. front ++ flat (reply_bytes T) z) e ∙ append-nil front in
          let n : r.n ≡ length whole = h.filling.count ∙ sym (ap length same) in
          (n, h.filling.answers ∙ ap (λ z. z ++ drop r.n before) (sym same) ∙ ap (λ m. whole ++ drop m before) n)
      go (q ∷ qs) e =
          let more : length before < r.n + length (reply_bytes T q) = subst (λ l. Full T l r.n (length before)) e h.full in
          absurd (omega (arith, fits, more, whole_length, ap (λ z. length (flat (reply_bytes T) z)) e, length-append (reply_bytes T q) (flat (reply_bytes T) qs)))

-- ---- the length of what is left

module _ (T : Table) (questions : Bytes) where
  abbrev due : ℕ → ℕ
  due at = length (flat (reply_bytes T) (questions_at questions at))

  pub due_all : due 0 ≡ length (flat (reply_bytes T) (question_lines questions))
  unfolding questions_at
  due_all = refl

  module _ {at : ℕ} {x : code.Option (ℕ × ℕ)} (d : Follows questions at x) where
    pub due-none : x ≡ None → due at ≡ 0
    unfolding next_meant
    due-none e = ap (λ l. length (flat (reply_bytes T) l)) (d.says ∙ ap (next_meant questions at) e)

    module _ {end next : ℕ} (e : x ≡ Some (end, next)) where
      pub inside : next_within questions at (Some (end, next))
      inside = subst (next_within questions at) e d.within

      pub due-next : due at ≡ length (reply_bytes T (part questions at end)) + due next
      unfolding next_meant
      due-next = ap (λ l. length (flat (reply_bytes T) l)) (d.says ∙ ap (next_meant questions at) e) ∙ length-append (reply_bytes T (part questions at end)) (flat (reply_bytes T) (questions_at questions next))

-- ---- all or none

module _ (before bytes : Bytes) where
  pub ends-long : length before < length bytes → Ends (say bytes) (Err (Unsaid.Refused (record { reason = Reason.AnswerShort; line = 0 }))) before before
  unfolding number_read number_of written Fits
  ends-long h = let z = lt-ltb (length before) (length bytes) h in record { number = rw z; answer = rw z; holds = λ k. tt }

  pub ends-said : length bytes ≤ length before → {n : ℕ} {after : Bytes} → n ≡ length bytes → after ≡ bytes ++ drop (length bytes) before → Ends (say bytes) (Ok n) before after
  unfolding number_read number_of written Fits
  ends-said h {n} e w = let z = le-ltb (length before) (length bytes) h in record { number = rw (z, e); answer = w ∙ (rw z); holds = λ k. omega (arith, e, h, k) }

-- a stage, the length of what is left, and what is left behind the stage
module _ (T : Table) (questions stage answers : Bytes) {r : Filled} {staged : Bytes} (h : Fills T questions stage r staged) where
  abbrev all : Bytes
  all = flat (reply_bytes T) (question_lines questions)

  abbrev staged_bytes : Bytes
  staged_bytes = flat (reply_bytes T) h.filling.done

  abbrev left : Bytes
  left = take (length questions - r.at) (drop r.at questions)

  abbrev left_bytes : Bytes
  left_bytes = flat (reply_bytes T) (question_lines left)

  all-parts : all ≡ staged_bytes ++ left_bytes
  all-parts = whole_parts T questions stage h ∙ ap (λ l. staged_bytes ++ flat (reply_bytes T) l) (sym (rest_lines questions r.at))

  all-length : length all ≡ r.n + length left_bytes
  all-length = omega (arith, ap length all-parts, length-append (staged_bytes) left_bytes, h.filling.count)

  -- 13
  pub stage-long : length answers < r.n → Ends (say all) (Err (Unsaid.Refused (record { reason = Reason.AnswerShort; line = 0 }))) answers answers
  stage-long l = ends-long answers all (omega (arith, l, all-length))

  pub left-long : r.n ≤ length answers → leb (length left_bytes) (length answers - r.n) ≡ false → Ends (say all) (Err (Unsaid.Refused (record { reason = Reason.AnswerShort; line = 0 }))) answers answers
  left-long room e = ends-long answers all (let k = leb-false (length left_bytes) (length answers - r.n) e in omega (arith, room, k, all-length))

  module _ (room : r.n ≤ length answers) {out : Bytes} (put : out ≡ take r.n staged ++ drop r.n answers) where
    in-front : out ≡ staged_bytes ++ drop r.n answers
    in-front = put ∙ ap (λ z. z ++ drop r.n answers) (ap (take r.n) h.filling.answers ∙ take_at staged_bytes (drop r.n stage) r.n (sym h.filling.count))

    module _ (e : leb (length left_bytes) (length answers - r.n) ≡ true) {s : Filled} {tail : Bytes} (b : Fills T left (mid_of r.n (length out - r.n) out) s tail) where
      last-filled : (s.n ≡ length left_bytes) × (tail ≡ left_bytes ++ drop (length left_bytes) (mid_of r.n (length out - r.n) out))
      last-filled =
          let k = leb-true (length left_bytes) (length answers - r.n) e in
          all-filled T left (mid_of r.n (length out - r.n) out) b (omega (arith, k, put-behind-length staged_bytes answers h.filling.count room in-front))

      pub all_room : r.n + s.n ≤ length answers
      all_room = let k = leb-true (length left_bytes) (length answers - r.n) e in omega (arith, room, k, last-filled.0)

      pub all_said : Ends (say all) (Ok (r.n + s.n)) answers (put_mid r.n (length out - r.n) out tail)
      all_said =
          let n : r.n + s.n ≡ length all = omega (arith, all-length, last-filled.0) in
          let m : r.n + length left_bytes ≡ length all = omega (arith, all-length) in
          ends-said answers all (omega (arith, all_room, n)) n
          (put_next staged_bytes answers h.filling.count room in-front left_bytes last-filled.1 ∙ ap (λ z. z ++ drop (r.n + length left_bytes) answers) (sym all-parts) ∙ ap (λ k. all ++ drop k answers) m)

-- ---- either call

module _ (q : Bytes) (T : Table) {r : Result ℕ Unsaid} {before after : Bytes} {all : Asking} where
  pub ends_as : {b : Asking} → all ≡ b → Ends (said_of b q T) r before after → Ends (said_of all q T) r before after
  ends_as e h = subst (λ a. Ends (said_of a q T) r before after) (sym e) h

  pub ends-all : all ≡ Asking.All → Ends (replied_all q T) r before after → Ends (said_of all q T) r before after
  unfolding said_of
  ends-all e h = ends_as {b = Asking.All} e h

  pub ends-one : all ≡ Asking.One → Ends (replied q T) r before after → Ends (said_of all q T) r before after
  unfolding said_of
  ends-one e h = ends_as {b = Asking.One} e h
