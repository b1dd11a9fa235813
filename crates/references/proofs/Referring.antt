-- What the table has (7), and each reference of a T line put to a test.
use mathlib.Core.Path.{◌≡◌, refl, sym, ap, ◌∙◌}
use mathlib.Core.Bool.{Bool, true, false, ◌&&◌, and_assoc}
use mathlib.Core.List.{List, [], ◌∷◌, ◌++◌}
use Prim.Native.Nat.{ℕ, zero, suc, ◌+◌, ◌-◌, ◌<◌, ◌≤◌}
use native.Mathlib.Omega.{arith}
use lib.Dec.{ltb}
use lib.ListN.{length, get_or, take, drop}
use lib.Seq.{drop-cons}
use native.Mathlib.Numerals.{add-one}
use Rattle.objects.specs.declared.TypeKey.{TypeKey}
use Rattle.objects.specs.declared.ObjKey.{ObjKey}
use Rattle.objects.specs.declared.PackageKey.{PackageKey}
use Rattle.std.specs.declared.option.Option as code
use Rattle.std.specs.Prelude.{Some, None}
use Rattle.objects.specs.declared.«Type».{«Type»}
use Rattle.objects.specs.Lists.{Bytes, every}
use Rattle.objects.specs.Table.{type_key, refs, has_type, has_package, kind_number, kind_at}
use Rattle.objects.specs.Rows.{Words, type_count, package_count, package_meant, word_at, element_at, elements_from, member_at, table_of}
use Rattle.objects.specs.Types.{type_read, kind_meant, number_read, first_read, total_read, member_type_read, package_read}
use Rattle.objects.proofs.BoolLaws.{and_yes}
use Rattle.objects.proofs.PartLaws.{every-end}
use Rattle.objects.proofs.RowLaws.{size-read, package-count-read, kind-read, number-read, type-meant, elements-more, member-type-meant, member-package-meant}
use Rattle.references.proofs.RowKinds.{tuple-row}

-- ---- numbers that the table has

module _ (text : Bytes) (rows : Words) where
  pub type-had : (t : TypeKey) {n : ℕ} → n ≡ type_count rows → ltb t.0 n ≡ has_type (table_of text rows) t
  type-had t p = ap (ltb t.0) (p ∙ sym (size-read text rows))

  module _ {p : code.Option PackageKey} where
    pub no-package : p ≡ None → true ≡ has_package (table_of text rows) (package_meant p)
    unfolding package_meant
    no-package e = rw e

    pub package-had : {k : PackageKey} → p ≡ Some k → {c : ℕ} → c ≡ package_count rows → ltb k.0 c ≡ has_package (table_of text rows) (package_meant p)
    unfolding package_meant
    package-had {k} e q = rw e (ap (ltb k.0) (q ∙ sym (package-count-read text rows)))

  pub member-had : (m : ObjKey) {e : TypeKey} → e ≡ member_type_read rows m → {a : Bool} → a ≡ has_type (table_of text rows) e
      → {p : code.Option PackageKey} → p ≡ package_read rows m → {b : Bool} → b ≡ has_package (table_of text rows) (package_meant p) → {r : Bool} → r ≡ a && b
      → r ≡ has_type (table_of text rows) (member_at text rows m).type && has_package (table_of text rows) (member_at text rows m).pkg
  member-had m pe pa pp pb pr = pr ∙ rw (pa, pb, pe, pp, member-type-meant text rows m, member-package-meant text rows m)

-- ---- those of a T line

pub meant : (text : Bytes) (rows : Words) (t : TypeKey) → t.0 < type_count rows → {r x : «Type»} → r ≡ type_read rows t → r ≡ x → kind_at (table_of text rows) t ≡ kind_meant text rows x
meant text rows t h p q = kind-read text rows t h ∙ sym (type-meant text rows t) ∙ ap (kind_meant text rows) (sym p ∙ q)

module _ (p : TypeKey → Bool) {es : List TypeKey} where
  pub no-refs : es ≡ [] → true ≡ every p es
  no-refs q = rw q

  pub one-ref : {e : TypeKey} → es ≡ e ∷ [] → {r : Bool} → r ≡ p e → r ≡ every p es
  one-ref q pr = pr ∙ rw q (sym (and_yes _))

  pub second_ref : {d e : TypeKey} → es ≡ d ∷ e ∷ [] → {a b : Bool} → a ≡ p d → a ≡ true → b ≡ p e → b ≡ every p es
  second_ref q pa t pb = pb ∙ rw (q, sym pa ∙ t) (sym (and_yes _))

  pub first_ref : {d e : TypeKey} → es ≡ d ∷ e ∷ [] → {a : Bool} → a ≡ p d → a ≡ false → a ≡ every p es
  first_ref q pa f = f ∙ rw (q, sym pa ∙ f)

pub tuple-refs : (p : TypeKey → Bool) (text : Bytes) (rows : Words) (t : TypeKey) → t.0 < type_count rows
    → {r : «Type»} {f n : ℕ} → r ≡ type_read rows t → r ≡ «Type».Tuple f n
    → {a : Bool} → a ≡ every p (elements_from text rows (first_read rows t) (total_read rows t)) → a ≡ every p (refs (kind_at (table_of text rows) t))
unfolding kind_meant
tuple-refs p text rows t h pr q pa =
    let six : number_read rows t ≡ 6 = sym (number-read text rows t h) ∙ ap kind_number (meant text rows t h pr q) in
    pa ∙ rw (tuple-row text rows t h six)

-- ---- the words of a tuple's elements

every-last : (p : TypeKey → Bool) (es : List TypeKey) (e : TypeKey) → every p (es ++ (e ∷ [])) ≡ p e && every p es
every-last p [] e = refl
every-last p (d ∷ es) e = rw (every-last p es e) (swap (p d) (p e) (every p es))
  where
    swap : (a b c : Bool) → a && (b && c) ≡ b && (a && c)
    swap true b c = refl
    swap false true c = refl
    swap false false c = refl

module _ (text : Bytes) (rows : Words) (p : TypeKey → Bool) (first : ℕ) where
  -- one element more stands a word before those of the others
  words-more : (n : ℕ) → first + suc n ≤ length rows → take (suc n) (drop (length rows - first - suc n) rows) ≡ get_or rows (length rows - 1 - (first + n)) 0 ∷ take n (drop (length rows - first - n) rows)
  words-more n l =
      let at : length rows - first - suc n ≡ length rows - 1 - (first + n) = omega arith in
      let behind : suc (length rows - 1 - (first + n)) ≡ length rows - first - n = omega arith in
      rw (at, drop-cons rows (length rows - 1 - (first + n)) 0 (omega arith), behind)

  pub words-every : (n : ℕ) → first + n ≤ length rows → every (λ w. p (type_key w)) (take n (drop (length rows - first - n) rows)) ≡ every p (elements_from text rows first n)
  unfolding element_at word_at elements_from
  words-every zero l = refl
  words-every (suc n) l =
      let more : every p (elements_from text rows first (suc n)) ≡ p (element_at rows (first + n)) && every p (elements_from text rows first n) =
      ap (every p) (elements-more text rows first n) ∙ every-last p (elements_from text rows first n) (element_at rows (first + n)) in
      rw (words-more n l) (ap (λ b. p (element_at rows (first + n)) && b) (words-every n (omega arith)) ∙ sym more)

-- ---- words, tried in turn

module _ (f : ℕ → Bool) (words : List ℕ) {i : ℕ} where
  next : i < length words → every f (drop i words) ≡ f (get_or words i 0) && every f (drop (i + 1) words)
  next h = rw (drop-cons words i 0 h, add-one i)

  pub all-next : i < length words → (all : Bool) → every f words ≡ all && every f (drop i words) → every f words ≡ all && f (get_or words i 0) && every f (drop (i + 1) words)
  all-next h all p = p ∙ ap (λ b. all && b) (next h) ∙ sym (and_assoc all (f (get_or words i 0)) (every f (drop (i + 1) words)))

  pub all-end : length words ≤ i → {all : Bool} → every f words ≡ all && every f (drop i words) → all ≡ every f words
  all-end h {all} p = sym (p ∙ rw (every-end f words i h) (and_yes all))

  pub on-next : i < length words → {b : Bool} → b ≡ f (get_or words i 0) → b ≡ true → every f (drop i words) ≡ every f (drop (i + 1) words)
  on-next h p e = next h ∙ rw (sym p ∙ e)

  pub on-stop : i < length words → {b : Bool} → b ≡ f (get_or words i 0) → b ≡ false → every f (drop i words) ≡ false
  on-stop h p e = next h ∙ rw (sym p ∙ e)

  pub on-end : length words ≤ i → every f (drop i words) ≡ true
  on-end h = every-end f words i h

-- they are types that the table has
pub words-had : (text : Bytes) (rows : Words) (words : List ℕ) {n : ℕ} → n ≡ type_count rows → every (λ w. ltb w n) words ≡ every (λ w. has_type (table_of text rows) (type_key w)) words
words-had text rows words p = ap (λ n. every (λ w. ltb w n) words) (p ∙ sym (size-read text rows))
