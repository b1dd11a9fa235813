-- Laws of the T lines that the code writes (specs/Rows.antt): the bytes of a part, the word of a kind, and its numbers.
use mathlib.Core.Path.{◌≡◌, refl, sym, ap, ◌∙◌}
use mathlib.Core.Bool.{cond}
use mathlib.Core.List.{[], ◌∷◌, ◌++◌, append_assoc}
use Prim.Native.Nat.{ℕ, zero, suc, ◌+◌, ◌≤◌, ◌<◌}
use native.Mathlib.Omega.{arith}
use lib.Dec.{eqb, ltb, leb}
use lib.ListN.{length, get_or, take, drop, length-append}
use borrow.Author.Tests.{ne_eqb, eqb-true, eqb-false, lt-ltb, le-ltb, ltb-true, leb-true}
use Rattle.objects.specs.Bounds.{word_values}
use Rattle.objects.specs.Lists.{Bytes}
use Rattle.objects.specs.declared.TypeKey.{TypeKey}
use Rattle.objects.specs.Rows.{Words, bytes_at, dir_at, type_word, element_at, elements_from, kind_of, kind_read}
use Rattle.objects.specs.Types.{number_of, number_read, first_read, total_read}
use Rattle.objects.proofs.RowLaws.{by_kind, named-kind}
use Rattle.objects.proofs.ListLaws.{cases, map-map}
use Rattle.objects.proofs.PartLaws.{every-In, get_or-all}
use Rattle.text.specs.Bytes.{decimal}
use Rattle.rules.specs.Answer.{tabbed}
use Rattle.print.specs.Written.{number_line, line_end, Wrote}
use Rattle.print.proofs.LineLaws.{end_none, end-some}
use Rattle.print.proofs.WrittenLaws.{wrote-length, then-wrote, wrote_as}
use Rattle.edits.specs.TableText.{type_bytes, line_body, line_of_type}
use Rattle.objects.specs.Table.{dir_number}
use Rattle.table_text.specs.Rows.{carried_number, carried_type, carried_kind, kind_word, number_counts, first_number, element_numbers, type_text, pieces_from}
use Rattle.table_text.proofs.AssembledText.{from_next}

-- ---- parts

pub part-is : (s : Bytes) (from count : ℕ) {w : Bytes} → w ≡ take count (drop from s) → bytes_at s from count ≡ w
unfolding bytes_at
part-is s from count e = sym e

-- ---- references by lent numbers

module _ (numbers : Words) (n : ℕ) where
  pub carried-within : n < length numbers → get_or numbers n 0 ≡ carried_number numbers n
  unfolding carried_number
  carried-within h = rw (lt-ltb n (length numbers) h)

  pub carried-beyond : length numbers ≤ n → n ≡ carried_number numbers n
  unfolding carried_number
  carried-beyond h = rw (le-ltb n (length numbers) h)

-- ---- the first number

module _ (numbers : Words) (k a : ℕ) where
  pub first-low : k ≡ 5 → a < 2 → a ≡ first_number numbers k a
  unfolding first_number
  first-low e h = rw e (low a h)
    where
      low : (a : ℕ) → a < 2 → a ≡ dir_number (dir_at a)
      low zero h = unfold dir_at in refl
      low (suc zero) h = unfold dir_at in refl
      low (suc (suc a)) h = absurd (omega arith)

  pub first-high : k ≡ 5 → 2 ≤ a → 2 ≡ first_number numbers k a
  unfolding first_number dir_at
  first-high e h = rw (e, ne_eqb a 0 (λ z. omega arith), ne_eqb a 1 (λ z. omega arith))

-- ---- a whole T line

module _ (numbers rows : Words) (a b c first count : ℕ) where
  -- a kind but tuple: its word, and as many numbers as it has
  words-line : (k : ℕ) → (number_of k ≡ 6 → ⊥) → line_body (line_of_type (carried_kind numbers (kind_of [] rows k a b c first count))) ++ (10 ∷ [])
      ≡ kind_word (number_of k) ++ number_line [] (take (get_or number_counts (number_of k) 0) (first_number numbers (number_of k) a ∷ carried_number numbers b ∷ carried_number numbers c ∷ []))
  unfolding kind_of number_of line_body kind_word bytes_at number_line first_number
  words-line =
      by_kind _ (λ n. refl) (λ n. refl) (λ n. refl) (λ n. refl) (λ n. refl) (λ n. refl) (λ n. absurd (n refl)) (λ n. refl) (λ n. refl) (λ n. refl)
      (λ k h n. ap (λ K. line_body (line_of_type (carried_kind numbers K)) ++ (10 ∷ [])) (named-kind [] rows a b c first count k h) ∙ rw (le-ltb k 10 h))

  -- a tuple: its word and its elements
  tuple-line : (k : ℕ) → number_of k ≡ 6
      → line_body (line_of_type (carried_kind numbers (kind_of [] rows k a b c first count))) ++ (10 ∷ []) ≡ kind_word 6 ++ line_end (element_numbers numbers rows first count)
  unfolding kind_of number_of line_body kind_word bytes_at line_end element_numbers
  tuple-line k e =
      rw (six k e)
      (ap (λ fs. kind_word 6 ++ (tabbed fs ++ (10 ∷ [])))
      (map-map type_bytes (carried_type numbers) (elements_from [] rows first count)
      ∙ sym (map-map decimal (λ (x : TypeKey). carried_number numbers x.0) (elements_from [] rows first count))))
    where
      six : (k : ℕ) → cond (ltb k 10) k 10 ≡ 6 → k ≡ 6
      six k h = cases (ltb k 10) (λ q. rw q at h) (λ q. let z : ◌≡◌ {A = ℕ} 10 6 = rw q at h in absurd (omega arith))

  -- the T line does not look at the text
  line-any : (text : Bytes) (k : ℕ) → line_of_type (carried_kind numbers (kind_of text rows k a b c first count)) ≡ line_of_type (carried_kind numbers (kind_of [] rows k a b c first count))
  unfolding kind_of elements_from
  line-any text =
      by_kind _ refl refl refl refl refl refl refl refl refl refl
      (λ k h. ap (λ K. line_of_type (carried_kind numbers K)) (named-kind text rows a b c first count k h) ∙ sym (ap (λ K. line_of_type (carried_kind numbers K)) (named-kind [] rows a b c first count k h)))

module _ (numbers rows : Words) (t : TypeKey) where
  type-words : (number_read rows t ≡ 6 → ⊥)
      → type_text numbers rows t ≡ kind_word (number_read rows t) ++ number_line []
      (take (get_or number_counts (number_read rows t) 0)
      (first_number numbers (number_read rows t) (type_word rows t 1) ∷ carried_number numbers (type_word rows t 2) ∷ carried_number numbers (type_word rows t 3) ∷ []))
  unfolding type_text kind_read number_read
  type-words n = words-line numbers rows _ _ _ _ _ _ n

  type-tuple : number_read rows t ≡ 6 → type_text numbers rows t ≡ kind_word 6 ++ line_end (element_numbers numbers rows (first_read rows t) (total_read rows t))
  unfolding type_text kind_read number_read first_read total_read
  type-tuple e = tuple-line numbers rows _ _ _ _ _ _ e

  pub type-line-any : (text : Bytes) → type_text numbers rows t ≡ line_body (line_of_type (carried_kind numbers (kind_read text rows t))) ++ (10 ∷ [])
  unfolding type_text kind_read
  type-line-any text = ap (λ l. line_body l ++ (10 ∷ [])) (sym (line-any numbers rows _ _ _ _ _ text _))

-- ---- the elements of a tuple are pieces

module _ (numbers rows : Words) where
  -- a tab and the number of an element
  abbrev pub element_piece : ℕ → Bytes
  element_piece k = 9 ∷ decimal (carried_number numbers (element_at rows k).0)

  pub elements-pieces : (first count : ℕ) → line_end (element_numbers numbers rows first count) ≡ pieces_from element_piece first count ++ (10 ∷ [])
  unfolding element_numbers elements_from pieces_from
  elements-pieces first zero = end_none
  elements-pieces first (suc n) =
      rw (from_next first n)
      (end-some (carried_number numbers (element_at rows first).0) (element_numbers numbers rows (suc first) n)
      ∙ ap (λ r. element_piece first ++ r) (elements-pieces (suc first) n) ∙ sym (append_assoc (element_piece first) (pieces_from element_piece (suc first) n) (10 ∷ [])))

-- ---- the parts of a T line, written one after the other

-- no T line has more than three numbers, a tuple's apart
count-few : (k : ℕ) → get_or number_counts k 0 ≤ 3
count-few k = get_or-all (λ n. n ≤ 3) number_counts k 0 (λ n i. leb-true n 3 (every-In (λ m. leb m 3) number_counts n refl i)) (omega arith)

-- after a part of the bytes there is room for the rest
pub room-left : {o a o₁ : Bytes} {at i : ℕ} (b : Bytes) → Wrote o at a o₁ i → at + length (a ++ b) ≤ length o → i + length b ≤ length o₁
room-left {a = a} b d h = omega (arith, d.past, wrote-length d, length-append a b, h)

module _ (numbers rows : Words) (t : TypeKey) {k : ℕ} (p : k ≡ number_read rows t) where
  pub kind-low : k ≤ 10
  unfolding number_read number_of
  kind-low = rw p (cases (ltb (type_word rows t 0) 10) (λ e. let h = ltb-true (type_word rows t 0) 10 e in rw e (omega arith)) (λ e. rw e (omega arith)))

  module _ (e : k ≡ 6) {first count : ℕ} (a : first ≡ first_read rows t) (b : count ≡ total_read rows t) where
    tuple_is : type_text numbers rows t ≡ kind_word k ++ line_end (element_numbers numbers rows first count)
    tuple_is = rw (e, a, b) (type-tuple numbers rows t (sym p ∙ e))

    pub tuple-fits : {o o₁ : Bytes} {at i : ℕ} → first_read rows t + total_read rows t < word_values → at + length (type_text numbers rows t) ≤ length o → Wrote o at (kind_word k) o₁ i
        → (first + count < word_values) × (i + length (line_end (element_numbers numbers rows first count)) ≤ length o₁)
    tuple-fits l h d = (rw (a, b) l, room-left (line_end (element_numbers numbers rows first count)) d (rw tuple_is at h))

    pub tuple-wrote : {o o₁ o₂ : Bytes} {at i r : ℕ} → Wrote o at (kind_word k) o₁ i → Wrote o₁ i (line_end (element_numbers numbers rows first count)) o₂ r → Wrote o at (type_text numbers rows t) o₂ r
    tuple-wrote d f = wrote_as tuple_is refl (then-wrote d f)

  module _ (n : k ≡ 6 → ⊥) {a x y z count : ℕ} (pa : a ≡ type_word rows t 1) (px : x ≡ first_number numbers k a) {b c : ℕ} (pb : b ≡ type_word rows t 2)
      (py : y ≡ carried_number numbers b) (pc : c ≡ type_word rows t 3) (pz : z ≡ carried_number numbers c)
      (pn : count ≡ get_or number_counts k 0) where
    words-is : type_text numbers rows t ≡ kind_word k ++ number_line [] (take count (x ∷ y ∷ z ∷ []))
    words-is = rw (px, pa, py, pb, pz, pc, pn, p) (type-words numbers rows t (λ e. n (p ∙ e)))

    pub words-fits : {o o₁ : Bytes} {at i : ℕ} → at + length (type_text numbers rows t) ≤ length o → Wrote o at (kind_word k) o₁ i
        → (count ≤ 3) × (i + length (number_line [] (take count (x ∷ y ∷ z ∷ []))) ≤ length o₁)
    words-fits h d = (rw pn (count-few k), room-left (number_line [] (take count (x ∷ y ∷ z ∷ []))) d (rw words-is at h))

    pub words-wrote : {o o₁ o₂ : Bytes} {at i r : ℕ} → Wrote o at (kind_word k) o₁ i → Wrote o₁ i (number_line [] (take count (x ∷ y ∷ z ∷ []))) o₂ r → Wrote o at (type_text numbers rows t) o₂ r
    words-wrote d f = wrote_as words-is refl (then-wrote d f)

  -- the word itself has room
  starts : (rest : Bytes) × (type_text numbers rows t ≡ kind_word k ++ rest)
  starts =
      cases (eqb k 6)
      (λ e. (line_end (element_numbers numbers rows (first_read rows t) (total_read rows t)), tuple_is (eqb-true k 6 e) refl refl))
      (λ e. (
        number_line [] (take (get_or number_counts k 0) (first_number numbers k (type_word rows t 1) ∷ carried_number numbers (type_word rows t 2) ∷ carried_number numbers (type_word rows t 3) ∷ [])),
        words-is (eqb-false k 6 e) refl refl refl refl refl refl refl,
      ))

  pub kind_fits : (at : ℕ) (out : Bytes) → at + length (type_text numbers rows t) ≤ length out → (k ≤ 10) × (at + length (kind_word k) ≤ length out)
  kind_fits at out h = let r = starts in (kind-low, omega (arith, h, ap length r.1, length-append (kind_word k) r.0))
