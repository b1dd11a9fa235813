-- The run of bytes that pass a test: how a loop goes on over it, and how it ends.
use mathlib.Core.Path.{◌≡◌, refl, sym, ap, ◌∙◌}
use mathlib.Core.Bool.{Bool, true, false, not, ◌||◌}
use mathlib.Core.List.{List, [], ◌∷◌, ◌++◌}
use Prim.Native.Nat.{ℕ, zero, suc, ◌+◌, ◌-◌, ◌≤◌, ◌<◌}
use native.Mathlib.Nat.{add-zero}
use native.Mathlib.Omega.{arith}
use lib.Dec.{eqb, leb}
use lib.ListN.{length, get_or, take, drop, take-append-drop}
use lib.Seq.{take_all}
use borrow.Author.Tests.{eqb-true, leb-true, leb-false, le-leb}
use Rattle.objects.specs.Lists.{Bytes, every}
use Rattle.objects.proofs.ListLaws.{cases, clash, or_l, or_r}
use Rattle.text.specs.Lines.{split}
use Rattle.text.specs.Runs.{other, run_length, run_end, Met, Ended, EndsAt, stop_at}
use Rattle.text.proofs.LineLaws.{Free, split_at, split-end, split-on}
use Rattle.text.proofs.PartLaws.{drop-short, stop-in, part-next, part_none}

-- ---- the loop: stop is the end within the text, t the test of the byte at i

module _ (p : ℕ → Bool) (s : Bytes) (i end : ℕ) {stop : ℕ} (ps : stop ≡ stop_at s end) where
  pub run-done : stop ≤ i → run_end p s i end ≡ i
  unfolding run_end run_length
  run-done h = rw (part_none s i end ps h) (add-zero i)

  module _ (h : i < stop) {b : ℕ} (pb : b ≡ get_or s i 0) where
    pub run-next : p b ≡ true → run_end p s i end ≡ run_end p s (i + 1) end
    unfolding run_end run_length
    run-next e =
        let q : p (get_or s i 0) ≡ true = rw pb at e in
        rw (part-next s i end ps h, q) (omega arith)

    pub run-stop : p b ≡ false → run_end p s i end ≡ i
    unfolding run_end run_length
    run-stop e =
        let q : p (get_or s i 0) ≡ false = rw pb at e in
        rw (part-next s i end ps h, q) (add-zero i)

module _ (sep b : ℕ) {t : Bool} (pt : t ≡ eqb b sep) where
  pub other-no : t ≡ true → other sep b ≡ false
  unfolding other
  other-no e = ap not (sym pt ∙ e)

  pub other-yes : t ≡ false → other sep b ≡ true
  unfolding other
  other-yes e = ap not (sym pt ∙ e)

-- ---- several bytes at a time

pub stop-short : (s : Bytes) (end : ℕ) {stop : ℕ} → stop ≡ stop_at s end → stop ≤ length s
unfolding stop_at
stop-short s end p = cases (leb end (length s)) (λ e. let l = leb-true end (length s) e in rw (p, e) l) (λ e. rw (p, e) (omega arith))

pub stop-before : (s : Bytes) (end : ℕ) {stop : ℕ} → stop ≡ stop_at s end → stop ≤ end
unfolding stop_at
stop-before s end p = cases (leb end (length s)) (λ e. rw (p, e) (omega arith)) (λ e. let l = leb-false end (length s) e in rw (p, e) (omega arith))

module _ (s : Bytes) (i sep : ℕ) where
  -- none of no bytes
  pub met-none : Met s i 0 sep false
  met-none = let z : i + 0 ≡ i = omega arith in record {
    yes = λ end h e. clash e refl;
    no = λ end h e. ap (λ x. run_end (other sep) s x end) (sym z);
  }

  -- one more byte, with its test
  module _ (k : ℕ) {m : Bool} (pm : Met s i k sep m) {b : ℕ} (pb : b ≡ get_or s (i + k) 0) {t : Bool} (pt : t ≡ eqb b sep) {r : Bool} (pr : r ≡ m || t) where
    met-yes : (end : ℕ) → i + (k + 1) ≤ stop_at s end → r ≡ true → run_end (other sep) s i end < i + (k + 1)
    met-yes end h e =
        cases m
        (λ f. let l = pm.yes end (omega arith) f in omega arith)
        (λ f. let g : t ≡ true = sym (ap (λ x. x || t) f) ∙ sym pr ∙ e in
        let l = pm.no end (omega arith) f ∙ run-stop (other sep) s (i + k) end refl (omega arith) pb (other-no sep b pt g) in
        omega arith)

    met-no : (end : ℕ) → i + (k + 1) ≤ stop_at s end → r ≡ false → run_end (other sep) s i end ≡ run_end (other sep) s (i + (k + 1)) end
    met-no end h e =
        let n = sym pr ∙ e in
        let z : i + k + 1 ≡ i + (k + 1) = omega arith in
        pm.no end (omega arith) (or_l m t n)
        ∙ run-next (other sep) s (i + k) end refl (omega arith) pb (other-yes sep b pt (or_r m t n))
        ∙ ap (λ x. run_end (other sep) s x end) z

    pub met_next : Met s i (k + 1) sep r
    met_next = record { yes = met-yes; no = met-no }

  -- all n of them
  pub met_all : (n k : ℕ) {r : Bool} → k ≤ n → n ≤ k → Met s i k sep r → Met s i n sep r
  met_all n k l h m = let e : k ≡ n = omega arith in rw e at m

  -- n bytes that stand before the end
  module _ {n : ℕ} {r : Bool} (pm : Met s i n sep r) (end : ℕ) {stop : ℕ} (ps : stop ≡ stop_at s end) (l : i ≤ stop) (h : n ≤ stop - i) where
    pub met-before : r ≡ true → run_end (other sep) s i end < stop_at s end
    met-before e = let k = pm.yes end (omega arith) e in omega arith

    pub met-past : r ≡ false → run_end (other sep) s i end ≡ run_end (other sep) s (i + n) end
    met-past e = pm.no end (omega arith) e

-- ---- a run that a byte ends, whatever end it is read up to

-- such a run from at goes on from i
abbrev pub GoesOn : (ℕ → Bool) → Bytes → ℕ → ℕ → Type 0
GoesOn p s at i = (end : ℕ) → run_end p s at end < stop_at s end → run_end p s at end ≡ run_end p s i end

module _ (p : ℕ → Bool) (s : Bytes) (at i : ℕ) (on : GoesOn p s at i) where
  on-before : (end : ℕ) → run_end p s at end < stop_at s end → i < stop_at s end
  unfolding run_end
  on-before end h = let e = on end h in omega arith

  pub on-within : Ended p s at → i < length s
  on-within (end, h) = (stop-in s i end refl (on-before end h)).1

  module _ {b : ℕ} (pb : b ≡ get_or s i 0) where
    pub on-next : p b ≡ true → GoesOn p s at (i + 1)
    on-next e end h = on end h ∙ run-next p s i end refl (on-before end h) pb e

    pub on-stop : p b ≡ false → EndsAt p s at i
    on-stop e end h = sym (on end h ∙ run-stop p s i end refl (on-before end h) pb e)

-- The byte at the end, which is none of the run: the run up to the end is the run that this byte ends.
module _ (p : ℕ → Bool) (s : Bytes) (end : ℕ) {stop : ℕ} (ps : stop ≡ stop_at s end) (l : stop < length s) (n : p (get_or s stop 0) ≡ false) where
  stop-next : stop + 1 ≡ stop_at s (stop + 1)
  unfolding stop_at
  stop-next = rw (le-leb (stop + 1) (length s) (omega arith))

  fence : (k i : ℕ) → i + k ≡ stop → (run_end p s i (stop + 1) ≡ run_end p s i end) × (run_end p s i end ≤ stop)
  fence zero i e =
      let z : i ≡ stop = omega arith in
      let d = run-done p s i end ps (omega arith) in
      let m = run-stop p s i (stop + 1) stop-next (omega arith) refl (rw z n) in
      (m ∙ sym d, omega arith)
  fence (suc k) i e =
      let f = fence k (i + 1) (omega arith) in
      cases (p (get_or s i 0))
      (λ t. let x = run-next p s i end ps (omega arith) refl t in
      (run-next p s i (stop + 1) stop-next (omega arith) refl t ∙ f.0 ∙ sym x, rw x f.1))
      (λ t. let x = run-stop p s i end ps (omega arith) refl t in
      (run-stop p s i (stop + 1) stop-next (omega arith) refl t ∙ sym x, omega arith))

  module _ (at : ℕ) (h : at ≤ stop) where
    fenced : (run_end p s at (stop + 1) ≡ run_end p s at end) × (run_end p s at end ≤ stop)
    fenced = fence (stop - at) at (omega arith)

    fence-before : run_end p s at (stop + 1) < stop_at s (stop + 1)
    fence-before = let f = fenced.0 in let g = fenced.1 in let z = stop-next in omega arith

    pub fence-ended : Ended p s at
    fence-ended = (stop + 1, fence-before)

    pub fence-end : {r : ℕ} → EndsAt p s at r → r ≡ run_end p s at end
    fence-end e = e (stop + 1) fence-before ∙ fenced.0

-- ---- a text as its run and what is left

pub run-within : (p : ℕ → Bool) (l : Bytes) → run_length p l ≤ length l
unfolding run_length
run-within p [] = omega arith
run-within p (b ∷ l) = let h = run-within p l in cases (p b) (λ e. rw e (omega arith)) (λ e. rw e (omega arith))

pub run-every : (p : ℕ → Bool) (l : Bytes) → every p (take (run_length p l) l) ≡ true
unfolding run_length
run-every p [] = refl
run-every p (b ∷ l) = cases (p b) (λ e. rw (e, e) (run-every p l)) (λ e. rw e)

-- what is left does not begin with a byte of the run
pub run-left : (p : ℕ → Bool) (l : Bytes) {b : ℕ} {m : Bytes} → drop (run_length p l) l ≡ b ∷ m → p b ≡ false
unfolding run_length
run-left p [] h = let z : ◌≡◌ {A = Bool} true false = cc in clash refl z
run-left p (x ∷ l) {b} {m} h =
    cases (p x)
    (λ e. run-left p l (rw e at h))
    (λ e. let q : ◌≡◌ {A = Bytes} (x ∷ l) (b ∷ m) = rw e at h in let y : x ≡ b = cc in rw (← y) e)

-- a run whose test no separator passes has none
pub every-free : (sep : ℕ) (p : ℕ → Bool) → p sep ≡ false → (l : Bytes) → every p l ≡ true → Free sep l
every-free sep p n [] h = refl
every-free sep p n (x ∷ l) h =
    cases (p x)
    (λ e. cases (eqb x sep)
    (λ f. clash e (ap p (eqb-true x sep f) ∙ n))
    (λ f. rw f (every-free sep p n l (rw e at h))))
    (λ e. clash h (rw e))

every-broken : (p : ℕ → Bool) (a : Bytes) (b : ℕ) (x : Bytes) → p b ≡ false → every p (a ++ (b ∷ x)) ≡ false
every-broken p [] b x e = rw e
every-broken p (y ∷ a) b x e = cases (p y) (λ f. rw f (every-broken p a b x e)) (λ f. rw f)

-- the first piece is the run, if a separator or the end stands behind it; else the first piece does not pass the test
module _ (sep : ℕ) (p : ℕ → Bool) (n : p sep ≡ false) (l : Bytes) where
  whole : take (run_length p l) l ++ drop (run_length p l) l ≡ l
  whole = take-append-drop (run_length p l) l

  free : Free sep (take (run_length p l) l)
  free = every-free sep p n (take (run_length p l) l) (run-every p l)

  pub first-end : drop (run_length p l) l ≡ [] → split sep l ≡ take (run_length p l) l ∷ []
  first-end h =
      let k = drop-short (run_length p l) l h in
      let z = take_all (run_length p l) l k in
      ap (split sep) (sym z) ∙ split-end sep (take (run_length p l) l) free

  pub first-at : {m : Bytes} → drop (run_length p l) l ≡ sep ∷ m → split sep l ≡ take (run_length p l) l ∷ split sep m
  first-at {m} h = ap (split sep) (sym whole ∙ ap (λ d. take (run_length p l) l ++ d) h) ∙ split_at sep (take (run_length p l) l) m free

  pub first-fails : {b : ℕ} {m : Bytes} → drop (run_length p l) l ≡ b ∷ m → eqb b sep ≡ false
      → (x : Bytes) × (rest : List Bytes) × (split sep l ≡ x ∷ rest) × (every p x ≡ false)
  first-fails {b} {m} h e =
      let r = split-on sep (take (run_length p l) l) b m free e in (
        take (run_length p l) l ++ (b ∷ r.0),
        r.1,
        ap (split sep) (sym whole ∙ ap (λ d. take (run_length p l) l ++ d) h) ∙ r.2,
        every-broken p (take (run_length p l) l) b r.0 (run-left p l h),
      )
