-- The lines of a method set one by one: how long they are, and how they are written.
use mathlib.Core.Path.{◌≡◌, refl, sym, ap, ◌∙◌}
use mathlib.Core.List.{List, [], ◌∷◌, ◌++◌}
use Prim.Native.Nat.{ℕ, ◌+◌, ◌≤◌, ◌<◌}
use native.Mathlib.Numerals.{add-one}
use native.Mathlib.Omega.{arith}
use lib.ListN.{length, get_or, take, drop, drop_of_length-le, length-append}
use lib.Seq.{drop-cons}
use Rattle.std.specs.Prelude.{Ok, Err}
use Rattle.objects.specs.Bounds.{max_places}
use Rattle.objects.specs.Lists.{Bytes}
use Rattle.objects.specs.Rows.{Words}
use Rattle.objects.proofs.PartLaws.{get_or-In}
use Rattle.text.specs.Bytes.{ascii}
use Rattle.multiples.specs.Records.{Record}
use Rattle.print.specs.Written.{max_line, number_line, written, Wrote}
use Rattle.print.proofs.LineLaws.{line-short}
use Rattle.print.proofs.WrittenLaws.{written-more, written-nothing, then-wrote, wrote_as}
use Rattle.first_hits.specs.declared.FirstHit.{FirstHit}
use Rattle.method_set.specs.Sets.{sel_at}
use Rattle.rules.specs.Asked.{say}
use Rattle.reply.specs.declared.Unsaid.{Unsaid}
use Rattle.reply.specs.Done.{Does}
use Rattle.reply.specs.SetLines.{Says, Short, sel_line, sel_lines, set_lines}
use Rattle.reply.proofs.Saying.{too-long, fits_said}

-- ---- one line

module _ (rows : Words) (walk : List Record) (hits : List FirstHit) (k : ℕ) (numbers : Words) (n : ℕ) (e : take n numbers ≡ sel_at rows walk hits k) where
  sel-is : sel_line rows walk hits k ≡ number_line (ascii "sel") (take n numbers)
  unfolding sel_line
  sel-is = ap (number_line (ascii "sel")) (sym e)

  pub sel-length : {r : ℕ} → r ≡ length (number_line (ascii "sel") (take n numbers)) → n ≤ max_places + 2 → (r ≡ length (sel_line rows walk hits k)) × (r ≤ max_line)
  sel-length p h = (p ∙ ap length (sym sel-is), omega (arith, p, line-short (ascii "sel") numbers n (omega arith) (omega arith)))

  pub sel-room : (at room : ℕ) → at + length (sel_line rows walk hits k) ≤ room → at + length (number_line (ascii "sel") (take n numbers)) ≤ room
  sel-room at room h = omega (arith, ap length sel-is, h)

  pub sel-wrote : {at r : ℕ} {out after : Bytes} → Wrote out at (number_line (ascii "sel") (take n numbers)) after r → Wrote out at (sel_line rows walk hits k) after r
  sel-wrote w = wrote_as sel-is refl w

-- ---- line after line

module _ (rows : Words) (walk : List Record) (hits : List FirstHit) (ks : List ℕ) where
  pub lines_next : (i : ℕ) → i < length ks
      → sel_lines rows walk hits (drop i ks) ≡ sel_line rows walk hits (get_or ks i 0) ++ sel_lines rows walk hits (drop (i + 1) ks)
  unfolding sel_lines
  lines_next i t =
      let e : drop i ks ≡ get_or ks i 0 ∷ drop (i + 1) ks = rw (add-one i) (drop-cons ks i 0 t) in
      ap (sel_lines rows walk hits) e

  lines_end : (i : ℕ) → length ks ≤ i → sel_lines rows walk hits (drop i ks) ≡ []
  unfolding sel_lines
  lines_end i t = ap (sel_lines rows walk hits) (drop_of_length-le ks t)

  pub next-length : (i : ℕ) → i < length ks
      → length (sel_lines rows walk hits (drop i ks)) ≡ length (sel_line rows walk hits (get_or ks i 0)) + length (sel_lines rows walk hits (drop (i + 1) ks))
  next-length i t = ap length (lines_next i t) ∙ length-append (sel_line rows walk hits (get_or ks i 0)) (sel_lines rows walk hits (drop (i + 1) ks))

  pub end-length : (i : ℕ) → length ks ≤ i → length (sel_lines rows walk hits (drop i ks)) ≡ 0
  end-length i t = ap length (lines_end i t)

  pub lines-wrote : (i : ℕ) → i < length ks → {out after : Bytes} {at r : ℕ} → Wrote out at (sel_line rows walk hits (get_or ks i 0)) after r
      → written out at (sel_lines rows walk hits (drop i ks)) ≡ written after r (sel_lines rows walk hits (drop (i + 1) ks))
  lines-wrote i t {out} {after} {at} {r} w =
      ap (written out at) (lines_next i t)
      ∙ sym (rw (w.past, w.text) (written-more out at (sel_line rows walk hits (get_or ks i 0)) (sel_lines rows walk hits (drop (i + 1) ks))))

  pub all-wrote : (i : ℕ) → length ks ≤ i → (o : Bytes) (at : ℕ) (out : Bytes) (end : ℕ)
      → written o at (sel_lines rows walk hits ks) ≡ written out end (sel_lines rows walk hits (drop i ks))
      → end + length (sel_lines rows walk hits (drop i ks)) ≡ at + length (sel_lines rows walk hits ks)
      → Wrote o at (sel_lines rows walk hits ks) out end
  all-wrote i t o at out end e l = record {
    past = omega (arith, l, end-length i t);
    text = sym (e ∙ ap (written out end) (lines_end i t) ∙ written-nothing out end);
  }

  pub short-at : (i : ℕ) → i < length ks → Short walk hits ks → Says walk hits (get_or ks i 0)
  short-at i t s = s (get_or ks i 0) (get_or-In ks i 0 t)

  -- ---- `set`, the count and the lines

  set_is : set_lines rows walk hits ks ≡ number_line (ascii "set") (length ks ∷ []) ++ sel_lines rows walk hits ks
  unfolding set_lines
  set_is = refl

  pub set-length : {a b : ℕ} → a ≡ length (number_line (ascii "set") (length ks ∷ [])) → b ≡ length (sel_lines rows walk hits ks) → a + b ≡ length (set_lines rows walk hits ks)
  set-length p q = omega (arith, p, q, ap length set_is, length-append (number_line (ascii "set") (length ks ∷ [])) (sel_lines rows walk hits ks))

  module _ (before : Bytes) {a b : ℕ} (p : a ≡ length (number_line (ascii "set") (length ks ∷ []))) (q : b ≡ length (sel_lines rows walk hits ks)) where
    pub set_long : length before < a + b → Does (say (set_lines rows walk hits ks)) (Err (Unsaid.Long (a + b))) before before
    set_long t = too-long before (set_lines rows walk hits ks) (set-length p q) t

    pub set-said : a + b ≤ length before → {mid after : Bytes} {at r : ℕ} → Wrote before 0 (number_line (ascii "set") (length ks ∷ [])) mid at
        → Wrote mid at (sel_lines rows walk hits ks) after r → Does (say (set_lines rows walk hits ks)) (Ok r) before after
    set-said t v w = fits_said before (set_lines rows walk hits ks) (set-length p q) t (wrote_as set_is refl (then-wrote v w))
