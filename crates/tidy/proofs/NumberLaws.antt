-- Laws of the new numbers, as the code finds them: each is that of `tidy_type`.
use mathlib.Core.Path.{◌≡◌, refl, sym, ap, ◌∙◌}
use mathlib.Core.Bool.{Bool, not}
use mathlib.Core.List.{List, [], ◌∷◌, ◌++◌, map, append-nil}
use Prim.Native.Nat.{ℕ, zero, suc, ◌+◌, ◌≤◌, ◌<◌}
use native.Mathlib.Omega.{arith}
use native.Mathlib.Numerals.{add-one}
use lib.Dec.{eqb, ltb}
use lib.ListN.{length, get_or, set, length-append}
use lib.Seq.{get_or-set_same, get_or-set_other}
use borrow.Author.Count.{below_more}
use borrow.Author.Tests.{eqb-true, eqb-false, eq-eqb, ne_eqb, lt-ltb, ltb-true, ltb-false}
use Rattle.objects.specs.Lists.{Bytes, keep, up_to}
use Rattle.objects.proofs.ListLaws.{cases, keep_append, keep-swap, keep_all, any_none, In-map}
use Rattle.objects.proofs.Numbers.{up_to-below, each_more}
use Rattle.objects.proofs.RowLaws.{size-read}
use Rattle.objects.specs.declared.TypeKey.{TypeKey}
use Rattle.objects.specs.Table.{Table, size, type_key, same_type}
use Rattle.objects.specs.Rows.{Words, type_count, table_of}
use Rattle.rules.specs.Library.{Library}
use Rattle.rules.specs.Sound.{Sound}
use Rattle.rules.proofs.Sounds.{library-sound}
use Rattle.edits.specs.Tidy.{all_types, least, remaining, tidy_type}
use Rattle.carry.proofs.Twins.{least-is, least-same}
use Rattle.twins.specs.Labels.{Twinned}
use Rattle.tidy.specs.Numbers.{Backward, own_below, Renumbered, NewNumbers}

-- ---- one word more

word_more : (f : ℕ → ℕ) (l : List ℕ) (i v : ℕ) → i < length l → ((k : ℕ) → k < i → get_or l k 0 ≡ f k) → v ≡ f i → (k : ℕ) → k < i + 1 → get_or (set l i v) k 0 ≡ f k
word_more f l i v h z e =
    below_more (λ (k : ℕ). get_or (set l i v) k 0 ≡ f k) i
    (λ k lt. get_or-set_other l i k v 0 (λ q. omega arith) ∙ z k lt) (get_or-set_same l i v 0 h ∙ e)

-- ---- the least twins

module _ (T : Table) (sound : Sound T) where
  -- a twin is its own
  least-twice : (t : TypeKey) → t.0 < size T → least T (least T t) ≡ least T t
  least-twice t h = let r = least-is T sound t h in least-same T sound (least T t) t r.0 r.1

module _ (text : Bytes) (rows : Words) (lib : Library text rows) where
  inside : (t : ℕ) → t < type_count rows → t < size (table_of text rows)
  inside t h = rw (size-read text rows) h

  -- twins come no later and are their own
  pub twins-backward : (twins : Words) → Twinned text rows twins → Backward twins (type_count rows)
  twins-backward twins w t h =
      let r = least-is (table_of text rows) (library-sound lib) (type_key t) (inside t h) in
      let low : (least (table_of text rows) (type_key t)).0 ≤ t = r.2 in
      let q = w t h in (
        omega arith,
        rw q (w (least (table_of text rows) (type_key t)).0 (omega arith) ∙ ap (λ (x : TypeKey). x.0) (least-twice (table_of text rows) (library-sound lib) (type_key t) (inside t h))),
      )

-- ---- new numbers

pub own-more : (twins : Words) (n : ℕ) → get_or twins n 0 ≡ n → own_below twins (n + 1) ≡ own_below twins n + 1
unfolding own_below
own-more twins n e = rw (add-one n, eq-eqb (get_or twins n 0) n e) (sym (add-one (own_below twins n)))

pub own_same : (twins : Words) (n : ℕ) → (get_or twins n 0 ≡ n → ⊥) → own_below twins (n + 1) ≡ own_below twins n
unfolding own_below
own_same twins n e = rw (add-one n, ne_eqb (get_or twins n 0) n e)

pub own-few : (twins : Words) (n : ℕ) → own_below twins n ≤ n
unfolding own_below
own-few twins zero = omega arith
own-few twins (suc n) =
    let h = own-few twins n in
    cases (eqb (get_or twins n 0) n) (λ e. rw e (omega arith)) (λ e. rw e (omega arith))

-- one number more: of a type that is its own twin, and of another
module _ (twins numbers : Words) (t v : ℕ) (h : t < length numbers) (old : NewNumbers twins t numbers) where
  pub numbers-own : get_or twins t 0 ≡ t → v ≡ own_below twins t → NewNumbers twins (t + 1) (set numbers t v)
  numbers-own e q = word_more (λ k. own_below twins (get_or twins k 0)) numbers t v h old (rw e q)

  pub numbers-other : get_or twins t 0 < t → get_or twins (get_or twins t 0) 0 ≡ get_or twins t 0 → v ≡ get_or numbers (get_or twins t 0) 0 → NewNumbers twins (t + 1) (set numbers t v)
  numbers-other l e q = word_more (λ k. own_below twins (get_or twins k 0)) numbers t v h old (q ∙ old (get_or twins t 0) l ∙ ap (own_below twins) e)

pub less_other : {u t : ℕ} → u ≤ t → (u ≡ t → ⊥) → u < t
less_other {u} {t} l n = cases (eqb u t) (λ e. absurd (n (eqb-true u t e))) (λ e. let g = eqb-false u t e in pick u t l g)
  where
    pick : (u t : ℕ) → u ≤ t → (u ≡ t → ⊥) → u < t
    pick u t l g = omega arith

-- ---- new numbers are those of `tidy_type`

-- of the types below n those below m
pub keep-below : (m n : ℕ) → m ≤ n → keep (λ (u : TypeKey). ltb u.0 m) (map type_key (up_to n)) ≡ map type_key (up_to m)
keep-below m zero h = let z : m ≡ 0 = omega arith in rw z
keep-below m (suc n) h =
    cases (ltb n m)
    (λ e.
    let l = ltb-true n m e in
    let z : m ≡ suc n = omega arith in
    rw z (keep_all (λ (u : TypeKey). ltb u.0 (suc n)) (map type_key (up_to (suc n)))
    (any_none (λ (u : TypeKey). not (ltb u.0 (suc n))) (map type_key (up_to (suc n)))
    (λ u i. let r = In-map type_key (up_to (suc n)) u i in rw (r.2, lt-ltb r.0 (suc n) (up_to-below (suc n) r.0 r.1))))))
    (λ e.
    let l = ltb-false n m e in
    rw (
      each_more type_key n,
      keep_append (λ (u : TypeKey). ltb u.0 m) (map type_key (up_to n)) (type_key n ∷ []),
      e,
      append-nil (keep (λ (u : TypeKey). ltb u.0 m) (map type_key (up_to n))),
    )
    (keep-below m n l))

module _ (text : Bytes) (rows : Words) (lib : Library text rows) (twins : Words) (w : Twinned text rows twins) where
  abbrev own_twin : TypeKey → Bool
  own_twin t = same_type (least (table_of text rows) t) t

  own-kept : (n : ℕ) → n ≤ type_count rows → own_below twins n ≡ length (keep own_twin (map type_key (up_to n)))
  unfolding own_below
  own-kept zero h = refl
  own-kept (suc n) h =
      let i = own-kept n (omega arith) in
      let q = w n (omega arith) in
      let split : keep own_twin (map type_key (up_to (suc n))) ≡ keep own_twin (map type_key (up_to n)) ++ keep own_twin (type_key n ∷ []) =
      rw (each_more type_key n) (keep_append own_twin (map type_key (up_to n)) (type_key n ∷ [])) in
      rw (split, length-append (keep own_twin (map type_key (up_to n))) (keep own_twin (type_key n ∷ [])), ← i, q)
      (cases (eqb (least (table_of text rows) (type_key n)).0 n) (λ e. rw e (sym (add-one (own_below twins n)))) (λ e. rw e (omega arith)))

  number-tidy : (t : ℕ) → t < type_count rows → own_below twins (get_or twins t 0) ≡ (tidy_type (table_of text rows) (type_key t)).0
  unfolding tidy_type remaining
  number-tidy t h =
      let r = least-is (table_of text rows) (library-sound lib) (type_key t) (inside text rows lib t h) in
      let m = (least (table_of text rows) (type_key t)).0 in
      let l : m < size (table_of text rows) = r.0 in
      ap (own_below twins) (w t h)
      ∙ own-kept m (let z = size-read text rows in omega arith)
      ∙ ap (λ k. length (keep own_twin k)) (sym (keep-below m (size (table_of text rows)) (omega arith)))
      ∙ ap length (keep-swap own_twin (λ (u : TypeKey). ltb u.0 m) (all_types (table_of text rows)))

  -- EACH NEW NUMBER IS THAT OF `tidy_type`
  pub numbers-tidy : (numbers : Words) → NewNumbers twins (type_count rows) numbers → Renumbered text rows numbers
  numbers-tidy numbers n t h = n t h ∙ number-tidy t h
