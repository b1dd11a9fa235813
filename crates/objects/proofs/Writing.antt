-- What table the rows hold behind each writer (src/writers.rt), over the stores that it makes.
use mathlib.Core.Path.{◌≡◌, ap, ◌∙◌}
use mathlib.Core.List.{List, [], ◌∷◌}
use mathlib.Core.Logic.{◌≢◌}
use Prim.Native.Nat.{ℕ, suc, ◌+◌, ◌-◌, ◌*◌, ◌<◌, ◌≤◌}
use native.Mathlib.Numerals.{add-one}
use native.Mathlib.Omega.{arith}
use lib.Dec.{eqb}
use lib.ListN.{length, get_or, set, length-set, replicate, length-replicate, get_or-replicate}
use lib.Seq.{sets, length-sets}
use Rattle.objects.specs.declared.TypeKey.{TypeKey}
use Rattle.objects.specs.declared.PackageKey.{PackageKey}
use Rattle.std.specs.declared.option.Option as code
use Rattle.objects.specs.Bounds.{max_types, max_packages, max_members, max_elements, row_words, types_at, members_at, packages_at}
use Rattle.objects.specs.Table.{no_table, type_key, plus_package, plus_type, plus_member}
use Rattle.objects.specs.Rows.{Words, word_at, package_count, type_count, member_count_of, element_count, type_word, member_word, package_word, element_at, bytes_at, package_meant, package_from, pkg_of, kind_of, table_of}
use Rattle.objects.specs.Laid.{end_of, last_type, types_used, used, Laid, Holds, raised, member_of, plus_element}
use Rattle.objects.proofs.ListLaws.{cases}
use Rattle.objects.proofs.RoomLaws.{types-behind, members-within}
use Rattle.objects.proofs.Stores.{word-put, word_kept, run-put, run-kept, Kept, Free, kept-none, kept_set, kept_sets}
use Rattle.objects.proofs.Growing.{package-grown, type-grown, member-grown, element-grown}

-- ---- before the first line

pub empty_holds : (rows : Words) → types_at ≤ length rows → ((i : ℕ) → i < 4 → word_at rows i ≡ 0) → Holds rows (λ text. no_table)
unfolding package_count type_count member_count_of element_count table_of
empty_holds rows long zero =
    let p : word_at rows 0 ≡ 0 = zero 0 (omega arith) in
    let t : word_at rows 1 ≡ 0 = zero 1 (omega arith) in
    let m : word_at rows 2 ≡ 0 = zero 2 (omega arith) in
    let e : word_at rows 3 ≡ 0 = zero 3 (omega arith) in
    record {
      laid = record {
        short = let behind = types-behind (length rows) long in omega arith;
        long = let within = members-within (length rows) long in omega arith;
        packages = omega arith;
        types = omega arith;
        members = omega arith;
        elements = omega arith;
        within = λ u h. absurd (omega arith);
        last = λ u h. absurd (omega arith);
      };
      held = λ text. rw (p, t, m);
    }

-- as a local array of the code begins
pub zeros-hold : (n : ℕ) → types_at ≤ n → Holds (replicate n 0) (λ text. no_table)
unfolding word_at
zeros-hold n h = empty_holds (replicate n 0) (rw (length-replicate {A = ℕ} n 0) h) (λ i l. get_or-replicate n i 0 0 (omega arith))

-- ---- a run of words behind the counts, then a count

module _ (rows : Words) (at : ℕ) (vs : List ℕ) (c v : ℕ) (behind : 4 ≤ at) (small : c < 4) where
  stored-count : 4 ≤ length rows → word_at (set (sets rows at vs) c v) c ≡ v
  stored-count h = word-put (sets rows at vs) c v (rw (length-sets rows at vs) (omega arith))

  stored-below : (i : ℕ) → i < at → i ≢ c → word_at (set (sets rows at vs) c v) i ≡ word_at rows i
  stored-below i h ne = word_kept (sets rows at vs) c v i ne ∙ run-kept vs rows at i (λ j l e. omega arith)

  stored-word : at + length vs ≤ length rows → (j : ℕ) → j < length vs → word_at (set (sets rows at vs) c v) (at + j) ≡ get_or vs j 0
  stored-word h j l = word_kept (sets rows at vs) c v (at + j) (λ e. omega arith) ∙ run-put vs rows at j h l

-- ---- P

abbrev package_row : ℕ → ℕ → List ℕ
package_row place len = place ∷ len ∷ []

module _ (rows : Words) (laid : Laid rows) (place len : ℕ) (room : package_count rows < max_packages) where
  package-stored : Holds (set (sets rows (packages_at + 2 * package_count rows) (package_row place len)) 0 (package_count rows + 1)) (λ text. plus_package (table_of text rows) (bytes_at text place len))
  unfolding package_count type_count member_count_of element_count package_word
  package-stored =
      let at = packages_at + 2 * package_count rows in
      let vs = package_row place len in
      let v = package_count rows + 1 in
      let kept : (i : ℕ) → i < 4 → i ≢ 0 → word_at (set (sets rows at vs) 0 v) i ≡ word_at rows i
      = λ i h. stored-below rows at vs 0 v (omega arith) (omega arith) i (omega arith) in
      package-grown rows (set (sets rows at vs) 0 v) place len laid room
      (kept_set 0 v (kept_sets at vs kept-none (λ i lo hi. omega arith)) (omega arith))
      (stored-count rows at vs 0 v (omega arith) (omega arith) (let w = laid.long in omega arith) ∙ add-one _)
      (kept 1 (omega arith) (omega arith))
      (kept 2 (omega arith) (omega arith))
      (kept 3 (omega arith) (omega arith))
      (stored-word rows at vs 0 v (omega arith) (omega arith) (omega arith))

-- as the writer finds and leaves the words
pub package-holds : (rows : Words) (place len : ℕ) {p : ℕ} {r : Words} → Laid rows → package_count rows < max_packages
    → p ≡ package_count rows → r ≡ sets rows (packages_at + 2 * p) (package_row place len)
    → Holds (set r 0 (p + 1)) (λ text. plus_package (table_of text rows) (bytes_at text place len))
package-holds rows place len laid room p-is r-is = rw (r-is, p-is) (package-stored rows laid place len room)

-- ---- T

abbrev type_row : (kind a b c first line : ℕ) → List ℕ
type_row kind a b c first line = kind ∷ a ∷ b ∷ c ∷ first ∷ 0 ∷ line ∷ 0 ∷ []

module _ (rows : Words) (laid : Laid rows) (kind a b c line : ℕ) (room : type_count rows < max_types) (space : types_used rows + row_words ≤ members_at (length rows)) where
  type-stored : Holds (set (sets rows (types_at + row_words * type_count rows) (type_row kind a b c (end_of rows kind) line)) 1 (type_count rows + 1))
      (λ text. plus_type (table_of text rows) line (kind_of text rows kind a b c 0 0))
  unfolding package_count type_count member_count_of element_count type_word
  type-stored =
      let at = types_at + row_words * type_count rows in
      let vs = type_row kind a b c (end_of rows kind) line in
      let v = type_count rows + 1 in
      let kept : (i : ℕ) → i < 4 → i ≢ 1 → word_at (set (sets rows at vs) 1 v) i ≡ word_at rows i
      = λ i h. stored-below rows at vs 1 v (omega arith) (omega arith) i (omega arith) in
      type-grown rows (set (sets rows at vs) 1 v) kind a b c line laid room space
      (kept_set 1 v (kept_sets at vs kept-none (λ i lo hi. omega arith)) (omega arith))
      (kept 0 (omega arith) (omega arith))
      (stored-count rows at vs 1 v (omega arith) (omega arith) (let w = laid.long in omega arith) ∙ add-one _)
      (kept 2 (omega arith) (omega arith))
      (kept 3 (omega arith) (omega arith))
      (stored-word rows at vs 1 v (omega arith) (omega arith) (omega arith))

pub type-holds : (rows : Words) (kind a b c line : ℕ) {n first : ℕ} {r : Words} → Laid rows → type_count rows < max_types → types_used rows + row_words ≤ members_at (length rows)
    → n ≡ type_count rows → first ≡ end_of rows kind → r ≡ sets rows (types_at + row_words * n) (type_row kind a b c first line)
    → Holds (set r 1 (n + 1)) (λ text. plus_type (table_of text rows) line (kind_of text rows kind a b c 0 0))
type-holds rows kind a b c line laid room space n-is first-is r-is = rw (r-is, n-is, first-is) (type-stored rows laid kind a b c line room space)

-- ---- what stands under the last type: its count raised, a run of words behind all types, then a count

-- the word that the writer reads and raises
module _ (rows : Words) {n w : ℕ} (n-is : n ≡ type_count rows) (w-is : w ≡ word_at rows (types_at + row_words * (n - 1) + 5)) where
  pub raised_is : set rows (types_at + row_words * (n - 1) + 5) (w + 1) ≡ raised rows
  unfolding raised type_word
  raised_is = rw (w-is, n-is)

  pub raised-small : Laid rows → 0 < type_count rows → w ≤ max_elements
  unfolding type_word end_of
  raised-small laid some =
      let h = laid.last (last_type rows) (omega arith) in
      let e : w ≡ type_word rows (last_type rows) 5 = w-is ∙ rw n-is in
      cases (eqb (type_word rows (last_type rows) 0) 6) (λ q. let g = rw q at h in omega arith) (λ q. let g = rw q at h in omega arith)

raised_long : (rows : Words) → length (raised rows) ≡ length rows
unfolding raised
raised_long rows = length-set rows _ _

module _ (rows : Words) (laid : Laid rows) (some : 0 < type_count rows) (at : ℕ) (vs : List ℕ) (c v : ℕ) (behind : members_at (length rows) ≤ at) (small : c < 4) where
  under-count : word_at (set (sets (raised rows) at vs) c v) c ≡ v
  unfolding raised
  under-count = stored-count (raised rows) at vs c v (omega arith) small (rw (length-set rows (types_at + row_words * (type_count rows - 1) + 5) (type_word rows (last_type rows) 5 + 1)) (let w = laid.long in omega arith))

  under-other : (i : ℕ) → i < 4 → i ≢ c → word_at (set (sets (raised rows) at vs) c v) i ≡ word_at rows i
  unfolding raised
  under-other i h ne = stored-below (raised rows) at vs c v (omega arith) small i (omega arith) ne ∙ word_kept rows _ _ i (λ e. omega arith)

  under-word : (j : ℕ) → j < 8 → j ≢ 5 → type_word (set (sets (raised rows) at vs) c v) (last_type rows) j ≡ type_word rows (last_type rows) j
  unfolding raised type_word
  under-word j h ne =
      let l = laid in
      stored-below (raised rows) at vs c v (omega arith) small _ (omega arith) (λ e. omega arith) ∙ word_kept rows _ _ _ (λ e. ne (omega arith))

  under-raised : type_word (set (sets (raised rows) at vs) c v) (last_type rows) 5 ≡ suc (type_word rows (last_type rows) 5)
  unfolding raised type_word
  under-raised =
      let l = laid in
      stored-below (raised rows) at vs c v (omega arith) small _ (omega arith) (λ e. omega arith) ∙ word-put rows _ _ (omega arith) ∙ add-one _

  under-kept : ((i : ℕ) → at ≤ i → i < at + length vs → Free (type_count rows - 1) rows i) → Kept (type_count rows - 1) rows (set (sets (raised rows) at vs) c v)
  unfolding raised
  under-kept free = let l = laid in kept_set c v (kept_sets at vs (kept_set _ _ kept-none (omega arith)) free) (omega arith)

  under-new : at + length vs ≤ length rows → (j : ℕ) → j < length vs → word_at (set (sets (raised rows) at vs) c v) (at + j) ≡ get_or vs j 0
  unfolding raised
  under-new h = stored-word (raised rows) at vs c v (omega arith) small (rw (length-set rows (types_at + row_words * (type_count rows - 1) + 5) (type_word rows (last_type rows) 5 + 1)) h)

-- ---- F and M

abbrev member_row : (name len pkg type form tag width line : ℕ) → List ℕ
member_row name len pkg type form tag width line = name ∷ len ∷ pkg ∷ type ∷ form ∷ tag ∷ width ∷ line ∷ []

module _ (rows : Words) (laid : Laid rows) (name len pkg type form tag width line : ℕ)
    (room : member_count_of rows < max_members) (some : 0 < type_count rows) (kind : type_word rows (last_type rows) 0 ≢ 6) (space : used rows + row_words ≤ length rows) where
  member-stored : Holds (set (sets (raised rows) (members_at (length rows) + row_words * member_count_of rows) (member_row name len pkg type form tag width line)) 2 (member_count_of rows + 1))
      (λ text. plus_member (table_of text rows) line (member_of text (member_count_of rows) name len (pkg_of pkg) type form tag width))
  unfolding package_count type_count member_count_of element_count member_word
  member-stored =
      let at = members_at (length rows) + row_words * member_count_of rows in
      let vs = member_row name len pkg type form tag width line in
      let v = member_count_of rows + 1 in
      let l : members_at (length rows) ≤ at = omega arith in
      let s : 2 < 4 = omega arith in
      let kept = under-other rows laid some at vs 2 v l s in
      let others = under-kept rows laid some at vs 2 v l s (λ i lo hi. omega arith) in
      member-grown rows (set (sets (raised rows) at vs) 2 v) (type_count rows - 1) laid (omega arith)
      others
      (kept 0 (omega arith) (omega arith))
      (kept 1 (omega arith) (omega arith))
      (under-word rows laid some at vs 2 v l s)
      (under-raised rows laid some at vs 2 v l s)
      name len pkg type form tag width line room kind space
      (under-count rows laid some at vs 2 v l s ∙ add-one _)
      (kept 3 (omega arith) (omega arith))
      (λ j h. rw others.long (under-new rows laid some at vs 2 v l s (omega arith) j h))

pub member-holds : (rows : Words) (name len pkg type form tag width line : ℕ) {p : code.Option PackageKey} {m start : ℕ} {r r' : Words} → package_from pkg ≡ p → Laid rows → member_count_of rows < max_members → 0 < type_count rows
    → type_word rows (last_type rows) 0 ≢ 6 → used rows + row_words ≤ length rows → m ≡ member_count_of rows → start ≡ members_at (length rows) → r ≡ raised rows
    → r' ≡ sets r (start + row_words * m) (member_row name len pkg type form tag width line)
    → Holds (set r' 2 (m + 1)) (λ text. plus_member (table_of text rows) line (member_of text (member_count_of rows) name len (package_meant p) type form tag width))
unfolding pkg_of
member-holds rows name len pkg type form tag width line pkg-is laid room some kind space m-is start_is r-is r'-is =
    rw (← pkg-is, r'-is, r-is, m-is, start_is) (member-stored rows laid name len pkg type form tag width line room some kind space)

-- ---- an element of a tuple

module _ (rows : Words) (laid : Laid rows) (t : TypeKey) (room : element_count rows < max_elements) (some : 0 < type_count rows) (kind : type_word rows (last_type rows) 0 ≡ 6)
    (space : used rows < length rows) where
  element-stored : Holds (set (set (raised rows) (length rows - 1 - element_count rows) t.0) 3 (element_count rows + 1)) (λ text. plus_element (table_of text rows) t)
  unfolding package_count type_count member_count_of element_count element_at
  element-stored =
      let at = length rows - 1 - element_count rows in
      let vs : List ℕ = t.0 ∷ [] in
      let v = element_count rows + 1 in
      let l : members_at (length rows) ≤ at = omega arith in
      let s : 3 < 4 = omega arith in
      let kept = under-other rows laid some at vs 3 v l s in
      let e : at + 0 ≡ at = omega arith in
      let others = under-kept rows laid some at vs 3 v l s (λ i lo hi. omega arith) in
      element-grown rows (set (sets (raised rows) at vs) 3 v) (type_count rows - 1) laid (omega arith)
      others
      (kept 0 (omega arith) (omega arith))
      (kept 1 (omega arith) (omega arith))
      (under-word rows laid some at vs 3 v l s)
      (under-raised rows laid some at vs 3 v l s)
      t room kind space
      (kept 2 (omega arith) (omega arith))
      (under-count rows laid some at vs 3 v l s ∙ add-one _)
      (rw others.long (ap type_key (rw e at (under-new rows laid some at vs 3 v l s (omega arith) 0 (omega arith)))))

pub element-holds : (rows : Words) (t : TypeKey) {n : ℕ} {r : Words} → Laid rows → element_count rows < max_elements → 0 < type_count rows
    → type_word rows (last_type rows) 0 ≡ 6 → used rows < length rows → n ≡ element_count rows → r ≡ raised rows
    → Holds (set (set r (length r - 1 - n) t.0) 3 (n + 1)) (λ text. plus_element (table_of text rows) t)
element-holds rows t laid room some kind space n-is r-is = rw (r-is, n-is, raised_long rows) (element-stored rows laid t room some kind space)

-- ---- the count of elements, which only an element raises

elements-kept : (rows : Words) (at : ℕ) (vs : List ℕ) (c v : ℕ) → 4 ≤ at → c < 3 → element_count (set (sets rows at vs) c v) ≡ element_count rows
unfolding element_count
elements-kept rows at vs c v behind small = stored-below rows at vs c v behind (omega arith) 3 (omega arith) (λ e. omega arith)

raised-elements : (rows : Words) → element_count (raised rows) ≡ element_count rows
unfolding element_count raised
raised-elements rows = word_kept rows _ _ 3 (λ e. omega arith)

pub package-elements : (rows : Words) (place len : ℕ) {p : ℕ} {r : Words} → p ≡ package_count rows → r ≡ sets rows (packages_at + 2 * p) (package_row place len)
    → element_count (set r 0 (p + 1)) ≡ element_count rows
package-elements rows place len {p} p-is r-is = rw r-is (elements-kept rows (packages_at + 2 * p) (package_row place len) 0 (p + 1) (omega arith) (omega arith))

pub type-elements : (rows : Words) (kind a b c line : ℕ) {n first : ℕ} {r : Words} → n ≡ type_count rows → first ≡ end_of rows kind
    → r ≡ sets rows (types_at + row_words * n) (type_row kind a b c first line) → element_count (set r 1 (n + 1)) ≡ element_count rows
type-elements rows kind a b c line {n} {first} n-is first-is r-is = rw r-is (elements-kept rows (types_at + row_words * n) (type_row kind a b c first line) 1 (n + 1) (omega arith) (omega arith))

pub member-elements : (rows : Words) (name len pkg type form tag width line : ℕ) {m start : ℕ} {r r' : Words} → Laid rows → m ≡ member_count_of rows → start ≡ members_at (length rows) → r ≡ raised rows
    → r' ≡ sets r (start + row_words * m) (member_row name len pkg type form tag width line) → element_count (set r' 2 (m + 1)) ≡ element_count rows
member-elements rows name len pkg type form tag width line {m} {start} laid m-is start_is r-is r'-is =
    let s = laid.short in
    rw (r'-is, r-is) (elements-kept (raised rows) (start + row_words * m) (member_row name len pkg type form tag width line) 2 (m + 1) (omega arith) (omega arith) ∙ raised-elements rows)

pub element-elements : (rows : Words) (t : ℕ) {n : ℕ} {r : Words} → Laid rows → n ≡ element_count rows → r ≡ raised rows
    → element_count (set (set r (length r - 1 - n) t) 3 (n + 1)) ≡ element_count rows + 1
unfolding element_count raised
element-elements rows t {n} {r} laid n-is r-is =
    let l : length r ≡ length rows = ap length r-is ∙ length-set rows _ _ in
    let h : 3 < length (set r (length r - 1 - n) t) = rw (length-set r (length r - 1 - n) t, l) (let w = laid.long in omega arith) in
    word-put (set r (length r - 1 - n) t) 3 (n + 1) h ∙ ap (λ x. x + 1) n-is
