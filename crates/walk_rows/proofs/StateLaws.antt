-- The state of the records of kept walks (specs/State.antt): how many rows there are at most, and what a row put behind the others makes of it.
use mathlib.Core.Path.{◌≡◌, refl, sym, ap, ap₂, ◌∙◌}
use mathlib.Core.Bool.{false}
use mathlib.Core.List.{List, [], ◌∷◌, ◌++◌, map}
use mathlib.Core.Logic.{inl, inr}
use Prim.Native.Nat.{ℕ, zero, suc, ◌+◌, ◌*◌, ◌≤◌, ◌<◌}
use native.Mathlib.Omega.{arith}
use native.Mathlib.Decide.{dec_lt}
use lib.ListN.{length, length-map, length-append, get_or-append}
use lib.Seq.{get_or-append-add}
use Rattle.objects.specs.Lists.{In}
use Rattle.objects.specs.declared.TypeKey.{TypeKey}
use Rattle.objects.specs.Table.{type_key, same_type}
use Rattle.objects.proofs.ListLaws.{cases, either, In-append, In-map}
use Rattle.objects.proofs.KeyLaws.{same_key}
use Rattle.multiples.specs.Records.{Record}
use Rattle.walks.specs.Kept.{count}
use Rattle.walks.specs.Rows.{Row, root_row, row}
use Rattle.walks.proofs.Few.{at_most}
use Rattle.walk_rows.specs.Records.{row_of, rows_of, mark_of, first_of}
use Rattle.walk_rows.specs.State.{HasRoom, times_in, Told, Rowed}
use Rattle.walk_rows.proofs.ListLaws.{times, times_more, times-same}

-- ---- the first n rows

module _ (walk : List Record) where
  pub rows-length : (n : ℕ) → length (rows_of walk n) ≡ n
  unfolding rows_of
  rows-length zero = refl
  rows-length (suc n) = length-append (rows_of walk n) (row_of walk n ∷ []) ∙ (let h = rows-length n in omega arith)

  pub rows_at : (n i : ℕ) → i < n → row (rows_of walk n) i ≡ row_of walk i
  unfolding rows_of
  rows_at zero i l = absurd (omega arith)
  rows_at (suc n) i l =
      let k = rows-length n in
      elim (dec_lt i n) [
        | yes a ↦ get_or-append (rows_of walk n) (row_of walk n ∷ []) (root_row (type_key 0) false) i (omega arith) ∙ rows_at n i a
        | no a ↦
            let z : i ≡ length (rows_of walk n) + 0 = omega arith in
            let y : i ≡ n = omega arith in
            ap (row (rows_of walk n ++ (row_of walk n ∷ []))) z ∙ get_or-append-add (rows_of walk n) (row_of walk n ∷ []) 0 (root_row (type_key 0) false) ∙ ap (row_of walk) (sym y)
      ]

  pub rows-In : (n : ℕ) (r : Row) → In r (rows_of walk n) → (j : ℕ) × (j < n) × (r ≡ row_of walk j)
  unfolding rows_of
  rows-In zero r i = absurd i
  rows-In (suc n) r i =
      either (In-append (rows_of walk n) (row_of walk n ∷ []) r i)
      (λ k. let p = rows-In n r k in let l = p.1 in (p.0, omega arith, p.2))
      (λ k. either k (λ e. (n, omega arith, e)) (λ z. absurd z))

pub rows_same : (walk after : List Record) (n : ℕ) → ((j : ℕ) → j < n → row_of after j ≡ row_of walk j) → rows_of after n ≡ rows_of walk n
unfolding rows_of
rows_same walk after zero h = refl
rows_same walk after (suc n) h = ap₂ (λ a b. a ++ (b ∷ [])) (rows_same walk after n (λ j l. h j (omega arith))) (h n (omega arith))

-- ---- the room

half : (m : ℕ) → (k : ℕ) × (2 * k ≤ m) × (m < 2 * k + 2)
half zero = (0, omega arith, omega arith)
half (suc zero) = (0, omega arith, omega arith)
half (suc (suc m)) = let h = half m in let a = h.1 in let b = h.2 in (suc h.0, omega arith, omega arith)

-- types that there is room for, none three times: there is room for all of them
all_fit : (m : ℕ) (l : List TypeKey) → ((u : TypeKey) → count u l ≤ 2) → ((u : TypeKey) → In u l → 2 * u.0 + 2 ≤ m) → length l ≤ m
all_fit m l two typed =
    let h = half m in
    let low = h.1 in
    let high = h.2 in
    let most = at_most l two h.0 (λ u i. let k = typed u i in omega arith) in
    omega arith

none_of : (u : TypeKey) (l : List TypeKey) → ((t : TypeKey) → In t l → same_type t u ≡ false) → count u l ≡ 0
none_of u [] k = refl
none_of u (t ∷ l) k = rw (k t (inl refl)) (none_of u l (λ x i. k x (inr i)))

module _ {walk : List Record} {n : ℕ} (h : Rowed walk n) where
  told-two : (u : TypeKey) → HasRoom walk u → (k : ℕ) → first_of walk u ≡ k → times_in walk n u ≤ 2
  told-two u l zero e = let z = (h.told u l).none e in omega arith
  told-two u l (suc j) e = cases (mark_of walk j) (λ m. let z = (h.told u l).two j e m in omega arith) (λ m. let z = (h.told u l).one j e m in omega arith)

  types-in : (u : TypeKey) → In u (map (λ r. r.type) (rows_of walk n)) → HasRoom walk u
  types-in u i = let p = In-map (λ (r : Row). r.type) (rows_of walk n) u i in let q = rows-In walk n p.0 p.1 in rw (p.2, q.2) (h.typed q.0 q.1)

  few-each : (u : TypeKey) → times u (rows_of walk n) ≤ 2
  unfolding times_in
  few-each u = elim (dec_lt (length walk) (2 * u.0 + 2)) [
    | yes l ↦
        let other : (t : TypeKey) → In t (map (λ r. r.type) (rows_of walk n)) → same_type t u ≡ false = λ t i. cases (same_type t u) (λ s. let k = types-in t i in let e = ap (λ (x : TypeKey). x.0) (same_key t u s) in absurd (omega arith)) (λ s. s) in
        let z = none_of u (map (λ r. r.type) (rows_of walk n)) other in
        omega arith
    | no l ↦ told-two u (omega arith) (first_of walk u) refl
  ]

  -- THERE ARE NO MORE ROWS THAN RECORDS;
  pub rows-most : n ≤ length walk
  rows-most = let a = all_fit (length walk) (map (λ r. r.type) (rows_of walk n)) few-each types-in in let b = length-map (rows_of walk n) (λ r. r.type) in let c = rows-length walk n in omega arith

  -- there is room for one more of a type that has one at most.
  pub room : (x : Row) → HasRoom walk x.type → times_in walk n x.type ≤ 1 → n < length walk
  unfolding times_in
  room x l t =
      let R = rows_of walk n in
      let few : (u : TypeKey) → times u (R ++ (x ∷ [])) ≤ 2 = λ u. cases (same_type x.type u)
      (λ s. let e = same_key x.type u s in let z : times u R ≤ 1 = rw e at t in let m = times_more u R x e in omega arith)
      (λ s. let z = few-each u in let m = times-same u R x s in omega arith) in
      let sized : (u : TypeKey) → In u (map (λ r. r.type) (R ++ (x ∷ []))) → HasRoom walk u = λ u i. let p = In-map (λ (r : Row). r.type) (R ++ (x ∷ [])) u i in either (In-append R (x ∷ []) p.0 p.1)
      (λ k. let q = rows-In walk n p.0 k in rw (p.2, q.2) (h.typed q.0 q.1))
      (λ k. either k (λ q. rw (p.2, q) l) (λ z. absurd z)) in
      let a = all_fit (length walk) (map (λ r. r.type) (R ++ (x ∷ []))) few sized in
      let b = length-map (R ++ (x ∷ [])) (λ r. r.type) in
      let c = length-append R (x ∷ []) in
      let d = rows-length walk n in
      omega arith

-- ---- one row more

-- Row n is x, and nothing else changes but the first row and the marks of x's type.
pub record Grows (walk : List Record) (n : ℕ) (x : Row) (after : List Record) : Type 0 where
  pub long : length after ≡ length walk
  pub old : (j : ℕ) → j < n → row_of after j ≡ row_of walk j
  pub new : row_of after n ≡ x
  pub firsts : (u : TypeKey) → same_type x.type u ≡ false → first_of after u ≡ first_of walk u
  pub marks : (u : TypeKey) → same_type x.type u ≡ false → (j : ℕ) → j < n → (row_of walk j).type ≡ u → mark_of after j ≡ mark_of walk j

module _ {walk : List Record} {n : ℕ} {x : Row} {after : List Record} (g : Grows walk n x after) where
  pub grown-rows : rows_of after (suc n) ≡ rows_of walk n ++ (x ∷ [])
  unfolding rows_of
  grown-rows = ap₂ (λ a b. a ++ (b ∷ [])) (rows_same walk after n g.old) g.new

  pub grown-times : times_in after (suc n) x.type ≡ suc (times_in walk n x.type)
  unfolding times_in
  grown-times = ap (times x.type) grown-rows ∙ times_more x.type (rows_of walk n) x refl

  times-other : (u : TypeKey) → same_type x.type u ≡ false → times_in after (suc n) u ≡ times_in walk n u
  unfolding times_in
  times-other u e = ap (times u) grown-rows ∙ times-same u (rows_of walk n) x e

  told-other : (u : TypeKey) → same_type x.type u ≡ false → Told walk n u → Told after (suc n) u
  told-other u e h =
      let i = g.firsts u e in
      let t = times-other u e in
      record {
        none = λ z. t ∙ h.none (sym i ∙ z);
        first = λ j z. let f = h.first j (sym i ∙ z) in let l = f.0 in (omega arith, ap (λ (r : Row). r.type) (g.old j l) ∙ f.1);
        one = λ j z m. let f = h.first j (sym i ∙ z) in t ∙ h.one j (sym i ∙ z) (sym (g.marks u e j f.0 f.1) ∙ m);
        two = λ j z m. let f = h.first j (sym i ∙ z) in t ∙ h.two j (sym i ∙ z) (sym (g.marks u e j f.0 f.1) ∙ m);
      }

  pub grown : Rowed walk n → HasRoom walk x.type → x.parent ≤ n → x.level ≤ n → Told after (suc n) x.type → Rowed after (suc n)
  grown h typed back low told = record {
    most = rw g.long h.most;
    typed = λ j l. rw g.long (each (λ k r. HasRoom walk r.type) h.typed typed j l);
    back = each (λ k r. r.parent ≤ k) h.back back;
    low = each (λ k r. r.level ≤ k) h.low low;
    told = λ u l. cases (same_type x.type u) (λ s. rw (same_key x.type u s) at told) (λ s. told-other u s (h.told u (rw g.long at l)));
  }
    where
      each : (P : ℕ → Row → Type 0) → ((j : ℕ) → j < n → P j (row_of walk j)) → P n x → (j : ℕ) → j < suc n → P j (row_of after j)
      each P a b j l = elim (dec_lt j n) [ yes k ↦ rw (g.old j k) (a j k) | no k ↦ let e : j ≡ n = omega arith in rw (e, g.new) b ]
