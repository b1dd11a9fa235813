-- From what the code of each letter says to the answer that is due.
use mathlib.Core.Path.{◌≡◌, refl, sym, ap, subst, ◌∙◌}
use mathlib.Core.Bool.{Bool, true, false}
use mathlib.Core.List.{List, [], ◌∷◌, ◌++◌, map, append-nil}
use mathlib.Core.Option.{Option, some}
use Prim.Native.Nat.{ℕ, suc, ◌-◌, ◌≤◌, ◌<◌}
use native.Mathlib.Omega.{arith}
use lib.ListN.{length, take, drop, drop_of_length-le, length-take, length-drop}
use Rattle.std.specs.declared.option.Option as code
use Rattle.std.specs.Prelude.{Some, None, Result, Err}
use Rattle.objects.specs.declared.refusals.Reason.{Reason}
use Rattle.objects.specs.Lists.{Bytes, flat}
use Rattle.objects.specs.declared.TypeKey.{TypeKey}
use Rattle.objects.specs.declared.PackageKey.{PackageKey}
use Rattle.objects.specs.Rows.{Words, type_count, package_count, member_count_of, package_meant, bytes_at, table_of}
use Rattle.objects.specs.Table.{size, member_count, has_package}
use Rattle.objects.proofs.ListLaws.{flat_map}
use Rattle.objects.proofs.RowLaws.{size-read, member-count-read, package-count-read}
use Rattle.text.specs.Bytes.{ascii}
use Rattle.rules.specs.Ways.{Selected, select}
use Rattle.rules.specs.MethodSet.{method_set}
use Rattle.rules.specs.Missing.{Lack, missing}
use Rattle.rules.specs.Identity.{identical}
use Rattle.rules.specs.Comparable.{comparable}
use Rattle.rules.specs.Question.{Question, ask_s, ask_m, ask_n, ask_i, ask_c, ask_v, question_of}
use Rattle.rules.specs.Answer.{Sel, sel_of, selected, set, says, counts, lack_answer, answer, answer_bytes, sel_bytes}
use Rattle.rules.specs.Asked.{say, wrong_second, replied_to, replied}
use Rattle.print.specs.Written.{number_line}
use Rattle.print.proofs.Lines.{set_line, sel-line}
use Rattle.question.specs.declared.Ask.{Ask}
use Rattle.question.specs.Asks.{asks_meant, Reads, Known}
use Rattle.question.proofs.KnownLaws.{package-has}
use Rattle.obj.specs.Ids.{asked_id}
use Rattle.selection.specs.declared.Name.{Name}
use Rattle.selection.specs.declared.Missing.{Missing}
use Rattle.selection.specs.declared.Selection.{Selection}
use Rattle.selection.specs.Results.{name_meant, result_meant, second_of, missing_meant, Selects}
use Rattle.multiples.specs.Records.{Record}
use Rattle.levels.specs.Hits.{Scratch}
use Rattle.first_hits.specs.declared.FirstHit.{FirstHit}
use Rattle.first_hits.specs.Hits.{Rooms, Held}
use Rattle.method_set.specs.Sets.{sel_at, sel_numbers, SetHeld}
use Rattle.reply.specs.declared.Unsaid.{Unsaid}
use Rattle.reply.specs.Done.{Does, due}
use Rattle.reply.specs.SetLines.{sel_line, sel_lines, set_lines}
use Rattle.reply.proofs.Saying.{does-refuse, does-as, said-as}
use Rattle.answer.specs.Lent.{Searches, Lists, need_of, Enough, Kept}

-- ---- a set that is held as words

lines-flat : (ss : List Sel) → flat sel_bytes ss ≡ flat (number_line (ascii "sel")) (map sel_numbers ss)
unfolding sel_numbers
lines-flat [] = refl
lines-flat (s ∷ ss) = ap (λ l. l ++ flat sel_bytes ss) (sel-line s) ∙ ap (λ l. number_line (ascii "sel") (sel_numbers s) ++ l) (lines-flat ss)

map-length : {A B : Type 0} (f : A → B) (l : List A) → length (map f l) ≡ length l
map-length f [] = refl
map-length f (x ∷ l) = ap suc (map-length f l)

module _ (rows : Words) (walk : List Record) (hits : List FirstHit) (ks : List ℕ) where
  words-flat : sel_lines rows walk hits ks ≡ flat (number_line (ascii "sel")) (map (sel_at rows walk hits) ks)
  unfolding sel_lines sel_line
  words-flat = sym (flat_map (number_line (ascii "sel")) (sel_at rows walk hits) ks)

  held-lines : (ss : List Sel) → map (sel_at rows walk hits) ks ≡ map sel_numbers ss → answer_bytes (set ss) ≡ set_lines rows walk hits ks
  unfolding set_lines
  held-lines ss e =
      let l : length ss ≡ length ks = sym (map-length sel_numbers ss) ∙ sym (ap length e) ∙ map-length (sel_at rows walk hits) ks in
      set_line ss
      ∙ ap (λ n. number_line (ascii "set") (n ∷ []) ++ flat sel_bytes ss) l
      ∙ ap (λ b. number_line (ascii "set") (length ks ∷ []) ++ b) (lines-flat ss ∙ sym (ap (flat (number_line (ascii "sel"))) e) ∙ sym words-flat)

-- ---- places behind two words

-- a part to the end of a row that was lent and is back
part-back : (xs ys : List ℕ) → 2 ≤ length xs → drop 2 (take 2 xs ++ (ys ++ drop (length xs - 2) (drop 2 xs))) ≡ ys
part-back [] ys h = absurd (omega arith)
part-back (a ∷ []) ys h = absurd (omega arith)
part-back (a ∷ b ∷ xs) ys h =
    let e : suc (suc (length xs)) - 2 ≡ length xs = omega arith in
    let z : drop (length xs) xs ≡ [] = drop_of_length-le xs {i = length xs} (omega arith) in
    rw (e, z) (append-nil ys)

pub selects-behind : {text : Bytes} {rows : Words} {s : Selection} {x : Selected} (xs : Words) {ys : Words} → 2 ≤ length xs → Selects text rows s ys x
    → Selects text rows s (drop 2 (take 2 xs ++ (ys ++ drop (length xs - 2) (drop 2 xs)))) x
selects-behind {text} {rows} {s} {x} xs {ys} h p = subst (λ z. Selects text rows s z x) (sym (part-back xs ys h)) p

-- ---- what a question is lent

module _ {rows : Words} {walk : List Record} {words : Words} (h : Searches rows walk words) where
  -- N
  pub scratch-all : Scratch rows walk words
  scratch-all = let w = h.walks in let l = h.long in record { room = w.room; most = w.most; long = omega arith }

  -- S, with the places behind two words that are left free
  pub scratch-behind : Scratch rows walk (drop 2 words)
  scratch-behind = let w = h.walks in let l = h.long in record { room = w.room; most = w.most; long = rw (length-drop 2 words) (omega arith) }

-- M: no name is listed yet
pub held-lent : (text : Bytes) {rows : Words} {walk : List Record} {hits : List FirstHit} {words : Words} → Lists rows walk hits words → Held text rows words 0 hits
held-lent text h = record { listed = record { sorted = tt; keys = λ j i. absurd i }; few = omega arith; long = h.long; room = h.rooms }

module _ (rows : Words) (walk : List Record) (hits : List FirstHit) (words : Words) {q : Option Question} (h : Enough rows walk hits words (need_of q)) where
  pub searches-s : {t : TypeKey} {a : Bool} {pkg : Option PackageKey} {name : Bytes} → q ≡ some (ask_s t a pkg name) → Searches rows walk words
  unfolding need_of Enough
  searches-s e = subst (λ z. Enough rows walk hits words (need_of z)) e h

  pub searches-n : {t i : TypeKey} {s : Bool} → q ≡ some (ask_n t i s) → Searches rows walk words
  unfolding need_of Enough
  searches-n e = subst (λ z. Enough rows walk hits words (need_of z)) e h

  pub lists-m : {t : TypeKey} → q ≡ some (ask_m t) → Lists rows walk hits words
  unfolding need_of Enough
  lists-m e = subst (λ z. Enough rows walk hits words (need_of z)) e h

-- the places behind two words that are left free
module _ (numbers : Words) {rows : Words} {walk : List Record} (h : Scratch rows walk (drop 2 numbers)) where
  pub scratch-long : 2 ≤ length numbers
  scratch-long = let long = h.long in let k = length-drop 2 numbers in omega arith

  pub scratch-part : Scratch rows walk (take (length numbers - 2) (drop 2 numbers))
  scratch-part = record { room = h.room; most = h.most; long = simp (length-take, length-drop) (let long = h.long in let k = length-drop 2 numbers in omega arith) }

-- ---- letter by letter

module _ (text : Bytes) (rows : Words) (before : Bytes) {after : Bytes} {r : Result ℕ Unsaid} where
  due-said : (q : Question) {bytes : Bytes} → answer_bytes (answer (table_of text rows) q) ≡ bytes → Does (say bytes) r before after → Does (due (table_of text rows) q) r before after
  unfolding due
  due-said q e d = said-as before e d

  pub s-due : (names : Bytes) (q : Name) (t : TypeKey) (a : Bool) {s : Selection} (numbers : Words)
      → Selects text rows s (drop 2 numbers) (select (table_of text rows) (name_meant text rows names q) t a)
      → Does (say (answer_bytes (selected (result_meant text rows s.result (take s.count (drop 2 numbers)) (take s.count (second_of (drop 2 numbers))))))) r before after
      → Does (due (table_of text rows) (ask_s t a (package_meant q.pkg) (bytes_at names q.at q.len))) r before after
  unfolding answer name_meant asked_id
  s-due names q t a numbers h d = due-said (ask_s t a (package_meant q.pkg) (bytes_at names q.at q.len)) (ap (λ x. answer_bytes (selected x)) (sym h.says)) d

  pub n-due : (t i : TypeKey) (s : Bool) (m : code.Option Missing) → missing_meant text rows m ≡ missing (table_of text rows) t i s
      → Does (say (answer_bytes (lack_answer (missing_meant text rows m)))) r before after → Does (due (table_of text rows) (ask_n t i s)) r before after
  unfolding answer
  n-due t i s m e d = due-said (ask_n t i s) (ap (λ (x : Option Lack). answer_bytes (lack_answer x)) (sym e)) d

  pub i-due : (x y : TypeKey) {b : Bool} → b ≡ identical (table_of text rows) x y → Does (say (answer_bytes (says b))) r before after → Does (due (table_of text rows) (ask_i x y)) r before after
  unfolding answer
  i-due x y e d = due-said (ask_i x y) (ap (λ b. answer_bytes (says b)) (sym e)) d

  pub c-due : (t : TypeKey) {b : Bool} → b ≡ comparable (table_of text rows) t → Does (say (answer_bytes (says b))) r before after → Does (due (table_of text rows) (ask_c t)) r before after
  unfolding answer
  c-due t e d = due-said (ask_c t) (ap (λ b. answer_bytes (says b)) (sym e)) d

  pub v-due : Does (say (answer_bytes (counts (package_count rows) (type_count rows) (member_count_of rows)))) r before after → Does (due (table_of text rows) ask_v) r before after
  unfolding answer
  v-due d =
      due-said ask_v
      (ap (λ n. answer_bytes (counts n (size (table_of text rows)) (member_count (table_of text rows)))) (package-count-read text rows)
      ∙ ap (λ n. answer_bytes (counts (package_count rows) n (member_count (table_of text rows)))) (size-read text rows)
      ∙ ap (λ n. answer_bytes (counts (package_count rows) (type_count rows) n)) (member-count-read text rows)) d

  -- ---- M

  pub m-due : (t : TypeKey) (walk : List Record) (names : Words) (hits : List FirstHit) (n : ℕ) → SetHeld text rows t walk names hits n
      → Does (say (set_lines rows walk hits (take n names))) r before after → Does (due (table_of text rows) (ask_m t)) r before after
  unfolding answer
  m-due t walk names hits n h d = due-said (ask_m t) (held-lines rows walk hits (take n names) (map (sel_of (table_of text rows)) (method_set (table_of text rows) t)) h.lines) d

-- ---- what the line asks

-- 11
pub wrong-form : (text : Bytes) (rows : Words) (line before : Bytes) {a : code.Option Ask} → Reads line a (question_of (table_of text rows) line) → a ≡ None
    → Does (replied line (table_of text rows)) (Err (Unsaid.Refused (record { reason = Reason.Question; line = 0 }))) before before
unfolding asks_meant
wrong-form text rows line before h e = does-refuse (record { reason = Reason.Question; line = 0 }) before (ap (replied_to (table_of text rows)) (sym h.meant ∙ ap (asks_meant line) e))

module _ (text : Bytes) (rows : Words) (line before : Bytes) {a : code.Option Ask} (h : Reads line a (question_of (table_of text rows) line)) where
  -- a question that 12 does not refuse
  due-answered : {q : Question} {after : Bytes} {r : Result ℕ Unsaid} → asks_meant line a ≡ some q → wrong_second (table_of text rows) q ≡ false
      → Does (due (table_of text rows) q) r before after → Does (replied line (table_of text rows)) r before after
  unfolding due
  due-answered {q} m w d = does-as (sym (ap (replied_to (table_of text rows)) (sym h.meant ∙ m) ∙ (rw w))) d

  module _ {after : Bytes} {r : Result ℕ Unsaid} where
    pub s-answered : {t : TypeKey} {b : Bool} {pkg : code.Option PackageKey} {at len : ℕ} → a ≡ Some (Ask.S t b pkg at len) → Does (due (table_of text rows) (ask_s t b (package_meant pkg) (bytes_at line at len))) r before after
        → Does (replied line (table_of text rows)) r before after
    unfolding asks_meant
    s-answered e d = due-answered (ap (asks_meant line) e) refl d

    pub m-answered : {t : TypeKey} → a ≡ Some (Ask.M t) → Does (due (table_of text rows) (ask_m t)) r before after
        → Does (replied line (table_of text rows)) r before after
    unfolding asks_meant
    m-answered e d = due-answered (ap (asks_meant line) e) refl d

    pub i-answered : {x y : TypeKey} → a ≡ Some (Ask.I x y) → Does (due (table_of text rows) (ask_i x y)) r before after
        → Does (replied line (table_of text rows)) r before after
    unfolding asks_meant
    i-answered e d = due-answered (ap (asks_meant line) e) refl d

    pub c-answered : {t : TypeKey} → a ≡ Some (Ask.C t) → Does (due (table_of text rows) (ask_c t)) r before after
        → Does (replied line (table_of text rows)) r before after
    unfolding asks_meant
    c-answered e d = due-answered (ap (asks_meant line) e) refl d

    pub v-answered : a ≡ Some Ask.V → Does (due (table_of text rows) ask_v) r before after
        → Does (replied line (table_of text rows)) r before after
    unfolding asks_meant
    v-answered e d = due-answered (ap (asks_meant line) e) refl d

  -- 12
  module _ {t i : TypeKey} {s w : Bool} {b : code.Option Ask} (e : a ≡ Some (Ask.N t i s)) (f : b ≡ Some (Ask.N t i s)) (p : (text line : Bytes) (q : Question) → asks_meant line b ≡ some q → w ≡ wrong_second (table_of text rows) q) where
    n-meant : asks_meant line a ≡ some (ask_n t i s)
    unfolding asks_meant
    n-meant = ap (asks_meant line) e

    n-second : wrong_second (table_of text rows) (ask_n t i s) ≡ w
    unfolding asks_meant
    n-second = sym (p text line (ask_n t i s) (ap (asks_meant line) f))

    pub n-refused : w ≡ true → Does (replied line (table_of text rows)) (Err (Unsaid.Refused (record { reason = Reason.SecondType; line = 0 }))) before before
    n-refused x =
        let z : wrong_second (table_of text rows) (ask_n t i s) ≡ true = n-second ∙ x in
        does-refuse (record { reason = Reason.SecondType; line = 0 }) before (ap (replied_to (table_of text rows)) (sym h.meant ∙ n-meant) ∙ (rw z))

    pub n-answered : w ≡ false → {after : Bytes} {r : Result ℕ Unsaid} → Does (due (table_of text rows) (ask_n t i s)) r before after
        → Does (replied line (table_of text rows)) r before after
    n-answered x d = due-answered n-meant (n-second ∙ x) d

-- ---- what the question is

module _ {line : Bytes} {a : code.Option Ask} {o : Option Question} (h : Reads line a o) where
  pub is-s : {t : TypeKey} {b : Bool} {pkg : code.Option PackageKey} {at len : ℕ} → a ≡ Some (Ask.S t b pkg at len) → o ≡ some (ask_s t b (package_meant pkg) (bytes_at line at len))
  unfolding asks_meant
  is-s e = sym h.meant ∙ ap (asks_meant line) e

  pub is_m : {t : TypeKey} → a ≡ Some (Ask.M t) → o ≡ some (ask_m t)
  unfolding asks_meant
  is_m e = sym h.meant ∙ ap (asks_meant line) e

  pub is-n : {t i : TypeKey} {s : Bool} → a ≡ Some (Ask.N t i s) → o ≡ some (ask_n t i s)
  unfolding asks_meant
  is-n e = sym h.meant ∙ ap (asks_meant line) e

-- ---- hits

module _ {rows : Words} {hits : List FirstHit} where
  pub kept : Kept rows hits hits
  kept = record { rooms = λ h. h }

  pub kept-rooms : {hits' : List FirstHit} → Rooms rows hits' → Kept rows hits hits'
  kept-rooms r = record { rooms = λ h. r }

-- ---- the numbers are the table's

module _ (rows : Words) {a : code.Option Ask} (k : Known rows a) where
  pub s-known : (text : Bytes) {t : TypeKey} {b : Bool} {pkg : code.Option PackageKey} {at len : ℕ} → a ≡ Some (Ask.S t b pkg at len)
      → (t.0 < type_count rows) × (has_package (table_of text rows) (package_meant pkg) ≡ true)
  unfolding Known
  s-known text {pkg = pkg} e = let s = subst (Known rows) e k in (s.0, package-has text rows pkg ∙ s.1)

  pub m-known : {t : TypeKey} → a ≡ Some (Ask.M t) → t.0 < type_count rows
  unfolding Known
  m-known e = subst (Known rows) e k

  pub n-known : {t i : TypeKey} {s : Bool} → a ≡ Some (Ask.N t i s) → (t.0 < type_count rows) × (i.0 < type_count rows)
  unfolding Known
  n-known e = subst (Known rows) e k

  pub i-known : {x y : TypeKey} → a ≡ Some (Ask.I x y) → (x.0 < type_count rows) × (y.0 < type_count rows)
  unfolding Known
  i-known e = subst (Known rows) e k

  pub c-known : {t : TypeKey} → a ≡ Some (Ask.C t) → t.0 < type_count rows
  unfolding Known
  c-known e = subst (Known rows) e k
