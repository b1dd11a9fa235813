-- The table that rows hold (`table_of`), read off their words: its counts, its kinds and what the rules ask of them, its members and elements.
use mathlib.Core.Path.{◌≡◌, refl, sym, ap, subst, ◌∙◌}
use mathlib.Core.Bool.{true, false, cond}
use mathlib.Core.List.{[], ◌∷◌, ◌++◌}
use mathlib.Core.Logic.{◌⊎◌, inl, inr, ◌≢◌}
use mathlib.Core.Option.{some}
use Prim.Native.Nat.{ℕ, zero, suc, ◌+◌, ◌-◌, ◌<◌, ◌≤◌, zero-le}
use native.Mathlib.Nat.{add-zero, add-suc, suc-add}
use native.Mathlib.Omega.{arith}
use lib.Dec.{eqb, ltb}
use lib.ListN.{length, get_or, get_or-eq_default}
use borrow.Author.Tests.{eqb-true, eqb-false, ne_eqb, lt-ltb, le-ltb}
use Rattle.objects.specs.declared.TypeKey.{TypeKey}
use Rattle.objects.specs.declared.ObjKey.{ObjKey}
use Rattle.objects.specs.declared.PackageKey.{PackageKey}
use Rattle.objects.specs.declared.«Type».{«Type»}
use Rattle.objects.specs.Lists.{Bytes, In, head_or}
use Rattle.objects.specs.Table.{Member, Method, Basic, Named, type_key, obj_key, size, member_count, kind_number, members_of, refs, is_method, is_embedded, has_ptr, kind_at, path_of, under, bare, pointer_at, iface_under, named_pointer, all_methods_of, all_methods, fields_of, declared_of}
use Rattle.objects.specs.Rows.{Words, package_count, type_count, member_count_of, type_word, member_word, element_at, package_meant, pkg_of, member_at, members_from, elements_from, entity_of, kind_of, kind_read, path_read, table_of}
use Rattle.objects.specs.Types.{type_from, type_read, kind_meant, number_of, number_read, pointer_read, named_read, bare_read, under_read, iface_read, named_pointer_read, first_read, total_read, member_type_read, package_read, embedded_read, method_read, ptr_read}
use Rattle.objects.proofs.ListLaws.{cases, either}
use Rattle.objects.proofs.Numbers.{each-length, each_at, run-length, run_at, run-has, run-In, run_more}

-- ---- the eleven kinds, by their word

pick : (P : ℕ → Type 0) (k n : ℕ) → n ≤ k → P n → (n < k → P k) → P k
pick P k n h p q = cases (eqb k n) (λ e. subst P (sym (eqb-true k n e)) p) (λ e. let ne = eqb-false k n e in q (omega arith))

pub by_kind : (P : ℕ → Type 0) → P 0 → P 1 → P 2 → P 3 → P 4 → P 5 → P 6 → P 7 → P 8 → P 9 → ((k : ℕ) → 10 ≤ k → P k) → (k : ℕ) → P k
by_kind P p0 p1 p2 p3 p4 p5 p6 p7 p8 p9 last k =
    pick P k 0 zero-le p0 λ h.
    pick P k 1 h p1 λ h.
    pick P k 2 h p2 λ h.
    pick P k 3 h p3 λ h.
    pick P k 4 h p4 λ h.
    pick P k 5 h p5 λ h.
    pick P k 6 h p6 λ h.
    pick P k 7 h p7 λ h.
    pick P k 8 h p8 λ h.
    pick P k 9 h p9 λ h.
    last k h

-- past the first ten the last is left
past : {A : Type 0} (k : ℕ) → 10 ≤ k → (x0 x1 x2 x3 x4 x5 x6 x7 x8 x9 y : A)
    → cond (eqb k 0) x0 (cond (eqb k 1) x1 (cond (eqb k 2) x2 (cond (eqb k 3) x3 (cond (eqb k 4) x4
    (cond (eqb k 5) x5 (cond (eqb k 6) x6 (cond (eqb k 7) x7 (cond (eqb k 8) x8 (cond (eqb k 9) x9 y))))))))) ≡ y
past k h x0 x1 x2 x3 x4 x5 x6 x7 x8 x9 y =
    rw (
      above 0 (omega arith),
      above 1 (omega arith),
      above 2 (omega arith),
      above 3 (omega arith),
      above 4 (omega arith),
      above 5 (omega arith),
      above 6 (omega arith),
      above 7 (omega arith),
      above 8 (omega arith),
      above 9 (omega arith),
    )
  where
    above : (n : ℕ) → n < k → eqb k n ≡ false
    above n l = ne_eqb k n (λ e. omega arith)

module _ (text : Bytes) (rows : Words) (a b c first count : ℕ) where
  pub named-kind : (k : ℕ) → 10 ≤ k → kind_of text rows k a b c first count ≡ Named (type_key a) (members_from text rows first count)
  unfolding kind_of
  named-kind k h = past k h _ _ _ _ _ _ _ _ _ _ _

  pub named-type : (k : ℕ) → 10 ≤ k → type_from k a b c first count ≡ «Type».Named (type_key a) first count
  unfolding type_from
  named-type k h = past k h _ _ _ _ _ _ _ _ _ _ _

  meant-kind : (k : ℕ) → kind_meant text rows (type_from k a b c first count) ≡ kind_of text rows k a b c first count
  unfolding kind_meant type_from kind_of
  meant-kind =
      by_kind _ refl refl refl refl refl refl refl refl refl refl
      (λ k h. ap (kind_meant text rows) (named-type k h) ∙ sym (named-kind k h))

  number-kind : (k : ℕ) → kind_number (kind_of text rows k a b c first count) ≡ number_of k
  unfolding kind_of number_of
  number-kind = by_kind _ refl refl refl refl refl refl refl refl refl refl (λ k h. ap kind_number (named-kind k h) ∙ rw (le-ltb k 10 h))

  -- the members, where the row is of a kind that has some
  members-kind : (n : ℕ) → 8 ≤ n → (k : ℕ)
      → cond (eqb (kind_number (kind_of text rows k a b c first count)) n) (members_of (kind_of text rows k a b c first count)) []
      ≡ cond (eqb (number_of k) n) (members_from text rows first count) []
  unfolding kind_of number_of
  members-kind n g =
      by_kind _ (none 0 (omega arith)) (none 1 (omega arith)) (none 2 (omega arith)) (none 3 (omega arith)) (none 4 (omega arith))
      (none 5 (omega arith)) (none 6 (omega arith)) (none 7 (omega arith)) refl refl
      (λ k h. ap (λ K. cond (eqb (kind_number K) n) (members_of K) []) (named-kind k h) ∙ rw (le-ltb k 10 h))
    where
      none : (k : ℕ) → k < 8 → cond (eqb k n) [] [] ≡ cond (eqb k n) (members_from text rows first count) []
      none k h = rw (ne_eqb k n (λ e. omega arith))

  -- the type that it refers to first, where it is a pointer or named
  refs-kind : (t : TypeKey) (k : ℕ) → (number_of k ≡ 3) ⊎ (number_of k ≡ 10) → head_or t (refs (kind_of text rows k a b c first count)) ≡ type_key a
  unfolding kind_of number_of
  refs-kind t =
      by_kind _ (off 0 (omega arith) (omega arith)) (off 1 (omega arith) (omega arith)) (λ _. refl) (λ _. refl) (λ _. refl)
      (off 5 (omega arith) (omega arith)) (off 6 (omega arith) (omega arith)) (off 7 (omega arith) (omega arith)) (off 8 (omega arith) (omega arith)) (off 9 (omega arith) (omega arith))
      (λ k h _. ap (λ K. head_or t (refs K)) (named-kind k h))
    where
      off : {C : Type 0} (n : ℕ) → n ≢ 3 → n ≢ 10 → (n ≡ 3) ⊎ (n ≡ 10) → C
      off n p q h = either h (λ e. absurd (p e)) (λ e. absurd (q e))

-- ---- a type's row

module _ (text : Bytes) (rows : Words) (t : TypeKey) where
  -- WHAT `type_of` GIVES STANDS FOR THE KIND THAT THE ROW IS OF
  pub type-meant : kind_meant text rows (type_read rows t) ≡ kind_read text rows t
  unfolding type_read kind_read
  type-meant = meant-kind text rows _ _ _ _ _ _

  pub number-meant : kind_number (kind_read text rows t) ≡ number_read rows t
  unfolding kind_read number_read
  number-meant = number-kind text rows _ _ _ _ _ _

  -- the fields (8), the methods of an interface (9) or those declared of a named type (10)
  pub members-meant : (n : ℕ) → 8 ≤ n
      → cond (eqb (kind_number (kind_read text rows t)) n) (members_of (kind_read text rows t)) []
      ≡ cond (eqb (number_read rows t) n) (members_from text rows (first_read rows t) (total_read rows t)) []
  unfolding kind_read number_read first_read total_read
  members-meant n h = members-kind text rows _ _ _ _ _ n h _

  pub refs-meant : (number_read rows t ≡ 3) ⊎ (number_read rows t ≡ 10) → (u : TypeKey) → head_or u (refs (kind_read text rows t)) ≡ type_key (type_word rows t 1)
  unfolding kind_read number_read
  refs-meant h u = refs-kind text rows _ _ _ _ _ u _ h

-- ---- a member's row

pub by_form : (P : ℕ → Type 0) → P 0 → P 1 → P 2 → ((k : ℕ) → 3 ≤ k → P k) → (k : ℕ) → P k
by_form P p0 p1 p2 last k = pick P k 0 zero-le p0 λ h. pick P k 1 h p1 λ h. pick P k 2 h p2 λ h. last k h

module _ (tag : Bytes) where
  pub last-form : (k : ℕ) → 3 ≤ k → entity_of k tag ≡ Method true
  unfolding entity_of
  last-form k h = rw (ne_eqb k 0 (λ e. omega arith), ne_eqb k 1 (λ e. omega arith), ne_eqb k 2 (λ e. omega arith))

  embedded-form : (k : ℕ) → is_embedded (entity_of k tag) ≡ eqb k 1
  unfolding entity_of
  embedded-form = by_form _ refl refl refl (λ k h. ap is_embedded (last-form k h) ∙ sym (ne_eqb k 1 (λ e. omega arith)))

  method-form : (k : ℕ) → is_method (entity_of k tag) ≡ ltb 1 k
  unfolding entity_of
  method-form = by_form _ refl refl refl (λ k h. ap is_method (last-form k h) ∙ sym (lt-ltb 1 k (omega arith)))

  ptr_form : (k : ℕ) → has_ptr (entity_of k tag) ≡ ltb 2 k
  unfolding entity_of
  ptr_form = by_form _ refl refl refl (λ k h. ap has_ptr (last-form k h) ∙ sym (lt-ltb 2 k (omega arith)))

module _ (text : Bytes) (rows : Words) (m : ObjKey) where
  pub member-key : (member_at text rows m).key ≡ m
  unfolding member_at
  member-key = refl

  pub member-package-meant : (member_at text rows m).pkg ≡ package_meant (package_read rows m)
  unfolding member_at package_read pkg_of
  member-package-meant = refl

  pub member-type-meant : (member_at text rows m).type ≡ member_type_read rows m
  unfolding member_at member_type_read
  member-type-meant = refl

  pub embedded-meant : is_embedded (member_at text rows m).entity ≡ embedded_read rows m
  unfolding member_at embedded_read
  embedded-meant = embedded-form _ _

  pub method-meant : is_method (member_at text rows m).entity ≡ method_read rows m
  unfolding member_at method_read
  method-meant = method-form _ _

  pub ptr-meant : has_ptr (member_at text rows m).entity ≡ ptr_read rows m
  unfolding member_at ptr_read
  ptr-meant = ptr_form _ _

-- ---- n members, and n elements, from a first one on

module _ (text : Bytes) (rows : Words) (first n : ℕ) where
  pub members-length : length (members_from text rows first n) ≡ n
  unfolding members_from
  members-length = run-length _ first n

  pub members-at : (i : ℕ) (d : Member) → i < n → get_or (members_from text rows first n) i d ≡ member_at text rows (obj_key (first + i))
  unfolding members_from
  members-at i d h = run_at _ first n i d h

  pub members-have : (i : ℕ) → i < n → In (member_at text rows (obj_key (first + i))) (members_from text rows first n)
  unfolding members_from
  members-have i h = run-has (λ k. member_at text rows (obj_key k)) first n i h

  pub members-In : (m : Member) → In m (members_from text rows first n) → (k : ℕ) × (first ≤ k) × (k < first + n) × (m ≡ member_at text rows (obj_key k))
  unfolding members_from
  members-In m h = run-In _ first n m h

  pub members-more : members_from text rows first (suc n) ≡ members_from text rows first n ++ (member_at text rows (obj_key (first + n)) ∷ [])
  unfolding members_from
  members-more = run_more _ first n

  pub elements-length : length (elements_from text rows first n) ≡ n
  unfolding elements_from
  elements-length = run-length _ first n

  pub elements-at : (i : ℕ) (d : TypeKey) → i < n → get_or (elements_from text rows first n) i d ≡ element_at rows (first + i)
  unfolding elements_from
  elements-at i d h = run_at _ first n i d h

  pub elements-have : (i : ℕ) → i < n → In (element_at rows (first + i)) (elements_from text rows first n)
  unfolding elements_from
  elements-have i h = run-has (element_at rows) first n i h

  pub elements-In : (e : TypeKey) → In e (elements_from text rows first n) → (k : ℕ) × (first ≤ k) × (k < first + n) × (e ≡ element_at rows k)
  unfolding elements_from
  elements-In e h = run-In _ first n e h

  pub elements-more : elements_from text rows first (suc n) ≡ elements_from text rows first n ++ (element_at rows (first + n) ∷ [])
  unfolding elements_from
  elements-more = run_more _ first n

module _ (text : Bytes) (rows : Words) where
  -- the first and those behind it
  pub members-cons : (from n : ℕ) → members_from text rows from (suc n) ≡ member_at text rows (obj_key from) ∷ members_from text rows (suc from) n
  unfolding members_from
  members-cons from zero = ap (λ k. member_at text rows (obj_key k) ∷ []) (add-zero from)
  members-cons from (suc n) =
      members-more text rows from (suc n)
      ∙ ap (λ l. l ++ (member_at text rows (obj_key (from + suc n)) ∷ [])) (members-cons from n)
      ∙ ap (λ k. member_at text rows (obj_key from) ∷ (members_from text rows (suc from) n ++ (member_at text rows (obj_key k) ∷ []))) (add-suc from n ∙ sym (suc-add from n))
      ∙ ap (λ l. member_at text rows (obj_key from) ∷ l) (sym (members-more text rows (suc from) n))

  -- member i and those behind it
  pub members-left : (from count i : ℕ) → i < count
      → members_from text rows (from + i) (count - i) ≡ member_at text rows (obj_key (from + i)) ∷ members_from text rows (from + (i + 1)) (count - (i + 1))
  members-left from count i h =
      let z : count - i ≡ suc (count - (i + 1)) = omega arith in
      let y : suc (from + i) ≡ from + (i + 1) = omega arith in
      ap (members_from text rows (from + i)) z ∙ members-cons (from + i) (count - (i + 1)) ∙ ap (λ k. member_at text rows (obj_key (from + i)) ∷ members_from text rows k (count - (i + 1))) y

-- ---- the table

module _ (text : Bytes) (rows : Words) where
  pub size-read : size (table_of text rows) ≡ type_count rows
  unfolding table_of
  size-read = each-length _ (type_count rows)

  pub member-count-read : member_count (table_of text rows) ≡ member_count_of rows
  unfolding table_of
  member-count-read = each-length _ (member_count_of rows)

  pub package-count-read : length (table_of text rows).packages ≡ package_count rows
  unfolding table_of
  package-count-read = each-length _ (package_count rows)

  pub path-read : (p : PackageKey) → p.0 < package_count rows → path_of (table_of text rows) (some p) ≡ some (path_read text rows p)
  unfolding table_of path_of
  path-read p h = ap some (each_at _ (package_count rows) p.0 [] h)

  pub type-line-read : (t : TypeKey) (d : ℕ) → t.0 < type_count rows → get_or (table_of text rows).type_lines t.0 d ≡ type_word rows t 6
  unfolding table_of
  type-line-read t d h = each_at _ (type_count rows) t.0 d h

  pub member-line-read : (m : ObjKey) (d : ℕ) → m.0 < member_count_of rows → get_or (table_of text rows).member_lines m.0 d ≡ member_word rows m 7
  unfolding table_of
  member-line-read m d h = each_at _ (member_count_of rows) m.0 d h

  -- a number that the table lacks counts as `T basic 0`
  pub kind-beyond : (t : TypeKey) → type_count rows ≤ t.0 → kind_at (table_of text rows) t ≡ Basic 0
  unfolding kind_at
  kind-beyond t h = get_or-eq_default (table_of text rows).types (Basic 0) (rw size-read h)

  module _ (t : TypeKey) (h : t.0 < type_count rows) where
    pub kind-read : kind_at (table_of text rows) t ≡ kind_read text rows t
    unfolding table_of kind_at
    kind-read = each_at _ (type_count rows) t.0 (Basic 0) h

    pub number-read : kind_number (kind_at (table_of text rows) t) ≡ number_read rows t
    number-read = ap kind_number kind-read ∙ number-meant text rows t

    pub pointer-read : pointer_at (table_of text rows) t ≡ pointer_read rows t
    unfolding pointer_at pointer_read
    pointer-read = ap (λ n. eqb n 3) number-read

    -- t, or the type that it refers to first where it is of the kind n: a pointer's e, a named type's u
    leads : (n : ℕ) → (n ≡ 3) ⊎ (n ≡ 10)
        → cond (eqb (kind_number (kind_at (table_of text rows) t)) n) (head_or t (refs (kind_at (table_of text rows) t))) t
        ≡ cond (eqb (number_read rows t) n) (type_key (type_word rows t 1)) t
    leads n w =
        rw (number-read, kind-read)
        (cases (eqb (number_read rows t) n)
        (λ e. let q = eqb-true (number_read rows t) n e in rw (e, refs-meant text rows t (either w (λ i. inl (q ∙ i)) (λ i. inr (q ∙ i))) t))
        (λ e. rw e))

    pub bare-read : bare (table_of text rows) t ≡ bare_read rows t
    unfolding bare bare_read pointer_read
    bare-read = leads 3 (inl refl)

    pub under-read : under (table_of text rows) t ≡ under_read rows t
    unfolding under under_read named_read
    under-read = leads 10 (inr refl)

    lists : (n : ℕ) → 8 ≤ n
        → cond (eqb (kind_number (kind_at (table_of text rows) t)) n) (members_of (kind_at (table_of text rows) t)) []
        ≡ cond (eqb (number_read rows t) n) (members_from text rows (first_read rows t) (total_read rows t)) []
    lists n g = rw kind-read (members-meant text rows t n g)

    pub fields_read : fields_of (kind_at (table_of text rows) t) ≡ cond (eqb (number_read rows t) 8) (members_from text rows (first_read rows t) (total_read rows t)) []
    fields_read = lists 8 (omega arith)

    pub declared-read : declared_of (kind_at (table_of text rows) t) ≡ cond (named_read rows t) (members_from text rows (first_read rows t) (total_read rows t)) []
    unfolding named_read
    declared-read = lists 10 (omega arith)

    pub methods-read : all_methods_of (kind_at (table_of text rows) t) ≡ cond (eqb (number_read rows t) 9) (members_from text rows (first_read rows t) (total_read rows t)) []
    methods-read = lists 9 (omega arith)

-- what t stands for is in the table too
module _ (text : Bytes) (rows : Words) (t : TypeKey) (h : t.0 < type_count rows) (g : (under_read rows t).0 < type_count rows) where
  pub iface-read : iface_under (table_of text rows) t ≡ iface_read rows t
  unfolding iface_under iface_read
  iface-read = rw (under-read text rows t h) (ap (λ n. eqb n 9) (number-read text rows (under_read rows t) g))

  pub named-pointer-read : named_pointer (table_of text rows) t ≡ named_pointer_read rows t
  unfolding named_pointer named_pointer_read named_read pointer_read
  named-pointer-read = rw (under-read text rows t h, number-read text rows t h, number-read text rows (under_read rows t) g)

  pub all-methods-read : all_methods (table_of text rows) t
      ≡ cond (iface_read rows t) (members_from text rows (first_read rows (under_read rows t)) (total_read rows (under_read rows t))) []
  unfolding all_methods iface_read
  all-methods-read = ap all_methods_of (ap (kind_at (table_of text rows)) (under-read text rows t h)) ∙ methods-read text rows (under_read rows t) g
