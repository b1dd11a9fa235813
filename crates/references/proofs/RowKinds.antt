-- What a type's row is of by its kind's number, and the F and M lines under it: each said of the table that the rows hold.
use mathlib.Core.Path.{◌≡◌, refl, ap, ◌∙◌}
use mathlib.Core.Bool.{cond}
use Prim.Native.Nat.{ℕ, ◌+◌, ◌<◌, ◌≤◌}
use native.Mathlib.Omega.{arith}
use lib.Dec.{eqb, ltb}
use lib.ListN.{length, get_or}
use borrow.Author.Tests.{ltb-true, ltb-false, lt-ltb, le-ltb, eqb-true, ne_eqb}
use Rattle.objects.specs.declared.TypeKey.{TypeKey}
use Rattle.objects.specs.Bounds.{max_elements}
use Rattle.objects.specs.Lists.{Bytes}
use Rattle.objects.specs.Table.{Member, Tuple, Func, Struct, Named, type_key, obj_key, kind_number, members_of, kind_at}
use Rattle.objects.specs.Rows.{Words, type_count, member_count_of, element_count, type_word, member_at, members_from, elements_from, kind_of, kind_read, table_of}
use Rattle.objects.specs.Types.{number_of, number_read, first_read, total_read}
use Rattle.objects.specs.Laid.{Laid, end_of}
use Rattle.objects.proofs.ListLaws.{cases}
use Rattle.objects.proofs.RowLaws.{by_kind, named-kind, members-length, members-at, kind-read, kind-beyond}
use Rattle.references.specs.Lines.{lines_read}

-- ---- the kind's word

module _ (rows : Words) (t : TypeKey) where
  number_word : (n : ℕ) → n < 10 → number_read rows t ≡ n → type_word rows t 0 ≡ n
  unfolding number_read number_of
  number_word n l e =
      cases (ltb (type_word rows t 0) 10)
      (λ b. rw b at e)
      (λ b. let q : 10 ≡ n = rw b at e in absurd (omega arith))

  named-word : number_read rows t ≡ 10 → 10 ≤ type_word rows t 0
  unfolding number_read number_of
  named-word e =
      cases (ltb (type_word rows t 0) 10)
      (λ b. let q : type_word rows t 0 ≡ 10 = rw b at e in omega arith)
      (λ b. ltb-false (type_word rows t 0) 10 b)

  number-most : number_read rows t ≤ 10
  unfolding number_read number_of
  number-most =
      cases (ltb (type_word rows t 0) 10)
      (λ b. let l = ltb-true (type_word rows t 0) 10 b in rw b (omega arith))
      (λ b. rw b (omega arith))

  -- the word of a tuple's kind is its number
  pub tuple-word : {k : ℕ} → k ≡ type_word rows t 0 → eqb k 6 ≡ eqb (number_read rows t) 6
  unfolding number_read number_of
  tuple-word {k} p =
      cases (ltb k 10)
      (λ b. rw (← p, b))
      (λ b. let l = ltb-false k 10 b in rw (← p, b, ne_eqb k 6 (λ e. omega arith)))

-- ---- the kind, by its number

module _ (text : Bytes) (rows : Words) (t : TypeKey) (h : t.0 < type_count rows) where
  pub tuple-row : number_read rows t ≡ 6 → kind_at (table_of text rows) t ≡ Tuple (elements_from text rows (first_read rows t) (total_read rows t))
  unfolding kind_read kind_of first_read total_read
  tuple-row e = kind-read text rows t h ∙ rw (number_word rows t 6 (omega arith) e)

  pub func-row : number_read rows t ≡ 7 → kind_at (table_of text rows) t ≡ Func (eqb (type_word rows t 1) 1) (type_key (type_word rows t 2)) (type_key (type_word rows t 3))
  unfolding kind_read kind_of
  func-row e = kind-read text rows t h ∙ rw (number_word rows t 7 (omega arith) e)

  -- what has members and is neither an interface nor named is a struct
  pub struct_row : 7 < number_read rows t → (number_read rows t ≡ 9 → ⊥) → (number_read rows t ≡ 10 → ⊥)
      → kind_at (table_of text rows) t ≡ Struct (members_from text rows (first_read rows t) (total_read rows t))
  unfolding kind_read kind_of first_read total_read
  struct_row l n m =
      let most = number-most rows t in
      let e : number_read rows t ≡ 8 = omega arith in
      kind-read text rows t h ∙ rw (number_word rows t 8 (omega arith) e)

  pub named-row : number_read rows t ≡ 10 → kind_at (table_of text rows) t ≡ Named (type_key (type_word rows t 1)) (members_from text rows (first_read rows t) (total_read rows t))
  unfolding kind_read first_read total_read
  named-row e = kind-read text rows t h ∙ named-kind text rows _ _ _ _ _ (type_word rows t 0) (named-word rows t e)

-- a type that is not basic is there
pub there : (text : Bytes) (rows : Words) (t : TypeKey) → 0 < kind_number (kind_at (table_of text rows) t) → t.0 < type_count rows
there text rows t h =
    cases (ltb t.0 (type_count rows))
    (λ b. ltb-true t.0 (type_count rows) b)
    (λ b. let z : kind_number (kind_at (table_of text rows) t) ≡ 0 = ap kind_number (kind-beyond text rows t (ltb-false t.0 (type_count rows) b)) in absurd (omega arith))

-- ---- how many lines are under a T line

module _ (rows : Words) (t : TypeKey) {k : ℕ} (p : k ≡ number_read rows t) where
  pub some-under : 7 < k → {n : ℕ} → n ≡ total_read rows t → n ≡ lines_read rows t
  unfolding lines_read
  some-under h q = q ∙ rw (lt-ltb 7 (number_read rows t) (rw p at h))

  pub none-under : k ≤ 7 → 0 ≡ lines_read rows t
  unfolding lines_read
  none-under h = rw (le-ltb 7 (number_read rows t) (omega arith))

-- ---- members and elements are there

module _ (rows : Words) (laid : Laid rows) (t : TypeKey) (h : t.0 < type_count rows) where
  places-end : (n : ℕ) → member_count_of rows ≤ n → element_count rows ≤ n → first_read rows t + total_read rows t ≤ n
  unfolding first_read total_read end_of
  places-end n m k =
      let w = laid.within t h in
      cases (eqb (type_word rows t 0) 6)
      (λ e. let v : type_word rows t 4 + type_word rows t 5 ≤ element_count rows = rw e at w in omega arith)
      (λ e. let v : type_word rows t 4 + type_word rows t 5 ≤ member_count_of rows = rw e at w in omega arith)

  pub places-fit : first_read rows t + total_read rows t ≤ max_elements
  places-fit = let m = laid.members in places-end max_elements (omega arith) laid.elements

  pub places-there : first_read rows t + total_read rows t ≤ length rows
  places-there = let l = laid.long in places-end (length rows) (omega arith) (omega arith)

  pub lines_fit : first_read rows t + lines_read rows t ≤ max_elements
  unfolding lines_read
  lines_fit =
      let w = places-fit in
      cases (ltb 7 (number_read rows t)) (λ b. rw b w) (λ b. rw b (omega arith))

  pub some-lines : (i : ℕ) → i < lines_read rows t → (7 < number_read rows t) × (lines_read rows t ≡ total_read rows t)
  unfolding lines_read
  some-lines i l =
      cases (ltb 7 (number_read rows t))
      (λ b. (ltb-true 7 (number_read rows t) b, rw b))
      (λ b. let v : i < 0 = rw b at l in absurd (omega arith))

  pub member-there : (i : ℕ) → i < lines_read rows t → first_read rows t + i < member_count_of rows
  unfolding first_read total_read end_of number_read number_of
  member-there i l =
      let w = laid.within t h in
      let s = some-lines i l in
      let q = s.1 in
      cases (eqb (type_word rows t 0) 6)
      (λ e. let z = eqb-true (type_word rows t 0) 6 e in let v : 7 < 6 = rw z at s.0 in absurd (omega arith))
      (λ e. let v : type_word rows t 4 + type_word rows t 5 ≤ member_count_of rows = rw e at w in omega arith)

-- ---- the members under a T line

module _ (text : Bytes) (rows : Words) (a b c first count : ℕ) where
  members-of : (k : ℕ) → members_of (kind_of text rows k a b c first count) ≡ members_from text rows first (cond (ltb 7 (number_of k)) count 0)
  unfolding kind_of number_of members_from
  members-of =
      by_kind _ refl refl refl refl refl refl refl refl refl refl
      (λ k h. ap members_of (named-kind text rows a b c first count k h) ∙ rw (le-ltb k 10 h))

module _ (text : Bytes) (rows : Words) (t : TypeKey) (h : t.0 < type_count rows) where
  pub members-row : members_of (kind_at (table_of text rows) t) ≡ members_from text rows (first_read rows t) (lines_read rows t)
  unfolding kind_read first_read total_read lines_read number_read
  members-row = ap members_of (kind-read text rows t h) ∙ members-of text rows _ _ _ _ _ _

  pub members-count : length (members_of (kind_at (table_of text rows) t)) ≡ lines_read rows t
  members-count = ap length members-row ∙ members-length text rows (first_read rows t) (lines_read rows t)

  pub members-get : (i : ℕ) (d : Member) → i < lines_read rows t → get_or (members_of (kind_at (table_of text rows) t)) i d ≡ member_at text rows (obj_key (first_read rows t + i))
  members-get i d l = ap (λ ms. get_or ms i d) members-row ∙ members-at text rows (first_read rows t) (lines_read rows t) i d l
