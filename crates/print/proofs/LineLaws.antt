-- Laws of the lines of numbers (specs/Written.antt): number after number, how long they are, and how they are written.
use mathlib.Core.Path.{◌≡◌, refl, sym, ap, ◌∙◌}
use mathlib.Core.List.{List, [], ◌∷◌, ◌++◌, map, append_assoc}
use Prim.Native.Nat.{ℕ, ◌+◌, ◌*◌, ◌≤◌, ◌<◌}
use native.Mathlib.Numerals.{add-one}
use native.Mathlib.Omega.{arith}
use lib.ListN.{length, get_or, drop, take, set, drop_of_length-le, length-append, length-take}
use lib.Seq.{drop-cons}
use Rattle.objects.specs.Lists.{Bytes}
use Rattle.text.specs.Bytes.{decimal}
use Rattle.rules.specs.Answer.{tabbed}
use Rattle.print.specs.Written.{max_word, max_fields, max_line, number_line, line_end, written, Wrote}
use Rattle.print.proofs.DecimalLaws.{decimal-any}
use Rattle.print.proofs.WrittenLaws.{written-more, written-nothing, written_byte, then-wrote, wrote_as}

-- ---- number after number

pub line-start : (word : Bytes) (ns : List ℕ) → number_line word ns ≡ word ++ line_end ns
unfolding number_line line_end
line-start word ns = append_assoc word (tabbed (map decimal ns)) (10 ∷ [])

pub end_none : line_end [] ≡ 10 ∷ []
unfolding line_end
end_none = refl

pub end-some : (n : ℕ) (ns : List ℕ) → line_end (n ∷ ns) ≡ (9 ∷ decimal n) ++ line_end ns
unfolding line_end
end-some n ns = append_assoc (9 ∷ decimal n) (tabbed (map decimal ns)) (10 ∷ [])

-- from the number j on
pub end-next : (ns : List ℕ) (j : ℕ) → j < length ns → line_end (drop j ns) ≡ (9 ∷ decimal (get_or ns j 0)) ++ line_end (drop (j + 1) ns)
end-next ns j t =
    let e : drop j ns ≡ get_or ns j 0 ∷ drop (j + 1) ns = rw (add-one j) (drop-cons ns j 0 t) in
    ap line_end e ∙ end-some (get_or ns j 0) (drop (j + 1) ns)

pub end-last : (ns : List ℕ) (j : ℕ) → length ns ≤ j → line_end (drop j ns) ≡ 10 ∷ []
end-last ns j t = ap line_end (drop_of_length-le ns t) ∙ end_none

-- ---- how long

pub line-length : (word : Bytes) (ns : List ℕ) → length (number_line word ns) ≡ length word + length (line_end ns)
line-length word ns = ap length (line-start word ns) ∙ length-append word (line_end ns)

pub next-length : (ns : List ℕ) (j : ℕ) → j < length ns
    → length (line_end (drop j ns)) ≡ 1 + length (decimal (get_or ns j 0)) + length (line_end (drop (j + 1) ns))
next-length ns j t =
    let e = length-append (9 ∷ decimal (get_or ns j 0)) (line_end (drop (j + 1) ns)) in
    omega (arith, ap length (end-next ns j t), e)

pub last-length : (ns : List ℕ) (j : ℕ) → length ns ≤ j → length (line_end (drop j ns)) ≡ 1
last-length ns j t = ap length (end-last ns j t)

pub end_short : (ns : List ℕ) → length (line_end ns) ≤ 21 * length ns + 1
end_short [] = rw end_none (omega arith)
end_short (n ∷ ns) = rw (end-some n ns, length-append (9 ∷ decimal n) (line_end ns)) (omega (arith, decimal-any n, end_short ns))

pub line-short : (word : Bytes) (ns : List ℕ) (n : ℕ) → length word ≤ max_word → n ≤ max_fields → length (number_line word (take n ns)) ≤ max_line
line-short word ns n w h =
    let k : length (take n ns) ≤ n = rw (length-take n ns) (omega arith) in
    omega (arith, line-length word (take n ns), end_short (take n ns), k)

-- ---- how they are written

-- what is still to be written, after one number more
pub fields-next : (ns : List ℕ) (j : ℕ) {out out' : Bytes} {i r : ℕ} → j < length ns → Wrote out i (9 ∷ decimal (get_or ns j 0)) out' r
    → written out i (line_end (drop j ns)) ≡ written out' r (line_end (drop (j + 1) ns))
fields-next ns j {out} {out'} {i} {r} t d =
    let x : Bytes = 9 ∷ decimal (get_or ns j 0) in
    let rest = line_end (drop (j + 1) ns) in
    ap (written out i) (end-next ns j t) ∙ sym (rw (d.past, d.text) (written-more out i x rest))

-- after the last number the newline is left
pub fields-end : (ns : List ℕ) (j : ℕ) (o : Bytes) (at : ℕ) (out : Bytes) (i : ℕ) → length ns ≤ j
    → written o at (line_end ns) ≡ written out i (line_end (drop j ns))
    → i + length (line_end (drop j ns)) ≡ at + length (line_end ns) → Wrote o at (line_end ns) (set out i 10) (i + 1)
fields-end ns j o at out i t e l = record {
  past = omega (arith, l, last-length ns j t);
  text = sym (e ∙ ap (written out i) (end-last ns j t) ∙ written_byte out i 10 [] ∙ written-nothing (set out i 10) (i + 1));
}

pub line_wrote : (word : Bytes) (ns : List ℕ) {o o₁ o₂ : Bytes} {at i r : ℕ} → Wrote o at word o₁ i → Wrote o₁ i (line_end ns) o₂ r
    → Wrote o at (number_line word ns) o₂ r
line_wrote word ns d e = wrote_as (line-start word ns) refl (then-wrote d e)
