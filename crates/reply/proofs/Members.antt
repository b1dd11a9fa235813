-- What S and N say: the line or the two lines of a selection, and the line of a missing method.
use mathlib.Core.Path.{◌≡◌, refl, sym, ap, ap₂, ◌∙◌}
use mathlib.Core.Bool.{Bool, true, false}
use mathlib.Core.List.{List, [], ◌∷◌, ◌++◌}
use Prim.Native.Nat.{ℕ, suc, ◌+◌, ◌-◌, ◌≤◌, ◌<◌}
use native.Mathlib.Omega.{arith}
use lib.ListN.{length, take, drop, set, length-append, length-drop}
use lib.Seq.{take_all, drop-drop}
use Rattle.std.specs.Int.{from_bool}
use Rattle.std.specs.declared.option.Option as code
use Rattle.std.specs.Prelude.{Some, None, Result, Ok, Err}
use Rattle.objects.specs.Bounds.{max_places}
use Rattle.objects.specs.Lists.{Bytes}
use Rattle.objects.specs.declared.ObjKey.{ObjKey}
use Rattle.objects.specs.Rows.{Words, member_at}
use Rattle.objects.specs.Table.{bit}
use Rattle.objects.proofs.RowLaws.{member-key}
use Rattle.text.specs.Bytes.{ascii}
use Rattle.rules.specs.Ways.{Selected}
use Rattle.rules.specs.Answer.{selected, lack_answer, answer_bytes, selected_bytes}
use Rattle.rules.specs.Asked.{say}
use Rattle.print.specs.Written.{number_line, Wrote}
use Rattle.print.proofs.WrittenLaws.{then-wrote}
use Rattle.print.proofs.Lines.{selected-line, notfound-line, badreceiver-line, entry-line, ambiguous-lines, satisfied-line, missing-line}
use Rattle.selection.specs.Results.{key_of, result_meant, second_of, missing_meant}
use Rattle.selection.specs.declared.Entity.{Entity}
use Rattle.selection.specs.declared.LookupResult.{LookupResult}
use Rattle.selection.specs.declared.Missing.{Missing}
use Rattle.reply.specs.declared.Unsaid.{Unsaid}
use Rattle.reply.specs.Done.{Does}
use Rattle.reply.proofs.Saying.{said-as, too-long, fits_said}

-- ---- the numbers of a line in a row of words

-- the places of the first way and of the second, behind two words
abbrev pub first_in : List ℕ → ℕ → List ℕ
first_in numbers count = take count (drop 2 numbers)

abbrev pub second_in : List ℕ → ℕ → List ℕ
second_in numbers count = take count (second_of (drop 2 numbers))

-- two words written in front of the places
front-two : (ns : List ℕ) (count m f : ℕ) → 2 ≤ length ns → take (count + 2) (set (set ns 0 m) 1 f) ≡ m ∷ f ∷ take count (drop 2 ns)
front-two [] count m f h = absurd (omega arith)
front-two (a ∷ []) count m f h = absurd (omega arith)
front-two (a ∷ b ∷ ns) count m f h = let e : count + 2 ≡ suc (suc count) = omega arith in rw e

-- a part to the end is the rest
rest_part : (ns : List ℕ) (from count : ℕ) → take count (take (length ns - from) (drop from ns)) ≡ take count (drop from ns)
rest_part ns from count = ap (take count) (take_all (length ns - from) (drop from ns) (simp length-drop (omega arith)))

-- the second way's places, counted from the front of the row
second-part : (ns : List ℕ) (count : ℕ) → take count (second_of (drop 2 ns)) ≡ take count (drop (2 + max_places) ns)
second-part ns count = ap (take count) (drop-drop max_places 2 ns)

key-line : (text : Bytes) (rows : Words) (k : ObjKey) → (member_at text rows k).key.0 ≡ k.0
key-line text rows k = ap (λ (o : ObjKey). o.0) (member-key text rows k)

-- std's number of a flag
pub flag-bit : (b : Bool) → from_bool b ≡ bit b
flag-bit false = refl
flag-bit true = refl

-- ---- the ways through the code

module _ (before : Bytes) (text : Bytes) (rows : Words) {after : Bytes} {r : Result ℕ Unsaid} where
  selected-said : {y x : Selected} {line : Bytes} → y ≡ x → selected_bytes x ≡ line → Does (say line) r before after
      → Does (say (answer_bytes (selected y))) r before after
  selected-said {y} e l d = said-as before (selected-line y ∙ ap selected_bytes e ∙ l) d

  module _ {s : LookupResult} (first second : List ℕ) where
    pub notfound-said : s ≡ LookupResult.NotFound → Does (say (number_line (ascii "notfound") [])) r before after
        → Does (say (answer_bytes (selected (result_meant text rows s first second)))) r before after
    unfolding result_meant
    notfound-said e d = selected-said (ap (λ z. result_meant text rows z first second) e) notfound-line d

    pub badreceiver-said : s ≡ LookupResult.BadMethodReceiver → Does (say (number_line (ascii "badreceiver") [])) r before after
        → Does (say (answer_bytes (selected (result_meant text rows s first second)))) r before after
    unfolding result_meant
    badreceiver-said e d = selected-said (ap (λ z. result_meant text rows z first second) e) badreceiver-line d

  module _ {s : LookupResult} (numbers : List ℕ) (count : ℕ) where
    pub ambiguous-said : s ≡ LookupResult.Ambiguous
        → Does (say (number_line (ascii "ambiguous") (take count (take (length numbers - 2) (drop 2 numbers))) ++ number_line (ascii "and") (take count (take (length numbers - (2 + max_places)) (drop (2 + max_places) numbers))))) r before after
        → Does (say (answer_bytes (selected (result_meant text rows s (first_in numbers count) (second_in numbers count))))) r before after
    unfolding result_meant
    ambiguous-said e d =
        selected-said (ap (λ z. result_meant text rows z (first_in numbers count) (second_in numbers count)) e)
        (ambiguous-lines (first_in numbers count) (second_in numbers count)
        ∙ ap₂ (λ a b. number_line (ascii "ambiguous") a ++ number_line (ascii "and") b) (sym (rest_part numbers 2 count)) (second-part numbers count ∙ sym (rest_part numbers (2 + max_places) count))) d

    pub entry-said : {e : Entity} {flag : Bool} {m f : ℕ} → s ≡ LookupResult.Entry e flag → m ≡ (key_of e).0 → f ≡ bit flag → 2 ≤ length numbers
        → Does (say (number_line (ascii "entry") (take (count + 2) (set (set numbers 0 m) 1 f)))) r before after
        → Does (say (answer_bytes (selected (result_meant text rows s (first_in numbers count) (second_in numbers count))))) r before after
    unfolding result_meant
    entry-said {e} {flag} {m} {f} q em ef h d =
        let places = first_in numbers count in
        selected-said (ap (λ z. result_meant text rows z (first_in numbers count) (second_in numbers count)) q)
        (entry-line (member_at text rows (key_of e)) flag places
        ∙ ap (λ k. number_line (ascii "entry") (k ∷ bit flag ∷ places)) (key-line text rows (key_of e) ∙ sym em)
        ∙ ap (λ k. number_line (ascii "entry") (m ∷ k ∷ places)) (sym ef)
        ∙ ap (number_line (ascii "entry")) (sym (front-two numbers count m f h))) d

-- ---- two lines

module _ (before first second : Bytes) {a b : ℕ} (p : a ≡ length first) (q : b ≡ length second) where
  both-length : a + b ≡ length (first ++ second)
  both-length = omega (arith, p, q, length-append first second)

  pub both_long : length before < a + b → Does (say (first ++ second)) (Err (Unsaid.Long (a + b))) before before
  both_long t = too-long before (first ++ second) both-length t

  pub both-said : a + b ≤ length before → {mid after : Bytes} {at r : ℕ} → Wrote before 0 first mid at → Wrote mid at second after r → Does (say (first ++ second)) (Ok r) before after
  both-said t v w = fits_said before (first ++ second) both-length t (then-wrote v w)

module _ (before : Bytes) (text : Bytes) (rows : Words) {after : Bytes} {r : Result ℕ Unsaid} where
  module _ {s : code.Option Missing} where
    pub satisfied-said : s ≡ None → Does (say (number_line (ascii "satisfied") [])) r before after
        → Does (say (answer_bytes (lack_answer (missing_meant text rows s)))) r before after
    unfolding missing_meant
    satisfied-said e d = said-as before (ap (λ z. answer_bytes (lack_answer (missing_meant text rows z))) e ∙ satisfied-line) d

    pub missing-said : {m : Missing} {f : ℕ} → s ≡ Some m → f ≡ bit m.other_type
        → Does (say (number_line (ascii "missing") (m.method.0 ∷ f ∷ []))) r before after
        → Does (say (answer_bytes (lack_answer (missing_meant text rows s)))) r before after
    unfolding missing_meant
    missing-said {m} {f} e ef d =
        said-as before
        (ap (λ z. answer_bytes (lack_answer (missing_meant text rows z))) e
        ∙ missing-line (member_at text rows m.method) m.other_type
        ∙ ap (λ n. number_line (ascii "missing") (n ∷ bit m.other_type ∷ [])) (key-line text rows m.method)
        ∙ ap (λ n. number_line (ascii "missing") (m.method.0 ∷ n ∷ [])) (sym ef)) d
