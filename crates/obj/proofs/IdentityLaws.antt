-- The identity of a member and that of a name that is asked for, by what the member's row says and by the numbers of packages.
use mathlib.Core.Path.{◌≡◌, refl, sym, ap, ◌∙◌}
use mathlib.Core.Bool.{Bool, true, false}
use mathlib.Core.List.{[], ◌∷◌}
use mathlib.Core.Option.{Option, some}
use Prim.Native.Nat.{ℕ, ◌<◌}
use lib.Dec.{eqb}
use lib.ListN.{length, get_or, take, drop}
use borrow.Author.Tests.{ltb-true, eqb-true, eqb-false, eq-eqb}
use Rattle.objects.specs.Lists.{Bytes}
use Rattle.objects.specs.declared.ObjKey.{ObjKey}
use Rattle.objects.specs.declared.PackageKey.{PackageKey}
use Rattle.std.specs.declared.option.Option as code
use Rattle.std.specs.Option.{option_eq}
use Rattle.objects.specs.contracts.PackageKeyPartialEq.TheImpl as key
use Rattle.std.specs.Prelude.{Some, None}
use Rattle.objects.specs.Table.{Table, has_package, path_of}
use Rattle.objects.specs.Rows.{Words, package_count, member_word, bytes_at, package_meant, member_at, path_read, table_of}
use Rattle.objects.specs.Types.{package_read}
use Rattle.objects.proofs.ListLaws.{cases}
use Rattle.objects.proofs.RowLaws.{package-count-read, path-read, member-package-meant}
use Rattle.text.specs.Bytes.{ascii, same_bytes, between, exported, is_blank}
use Rattle.text.proofs.ByteLaws.{same_refl, same_true}
use Rattle.rules.specs.Members.{identity_from, identity_of, same_path, same_id}
use Rattle.rules.specs.Sound.{Ordered}
use Rattle.rules.proofs.PathLaws.{path-once}
use Rattle.obj.specs.Ids.{same_package, asked_id}

-- ---- names

-- what is not there reads as 0, which is no capital letter
pub exported-first : (s : Bytes) → between 65 90 (get_or s 0 0) ≡ exported s
unfolding exported
exported-first [] = refl
exported-first (b ∷ s) = refl

-- ---- packages

module _ (text : Bytes) (rows : Words) (k : PackageKey) (h : has_package (table_of text rows) (some k) ≡ true) where
  package-in : k.0 < package_count rows
  package-in = rw (package-count-read text rows) at (ltb-true k.0 (length (table_of text rows).packages) h)

  pub path-of : path_of (table_of text rows) (some k) ≡ some (path_read text rows k)
  path-of = path-read text rows k package-in

-- the derived equality of packages
pub equal-package : (p q : code.Option PackageKey) → option_eq key.eq-value.it p q ≡ same_package p q
unfolding same_package
equal-package None None = refl
equal-package None (Some l) = refl
equal-package (Some k) None = refl
equal-package (Some k) (Some l) = refl

-- where paths ascend, equal numbers are equal paths
numbers-tell : (T : Table) → Ordered T → (k l : PackageKey) → has_package T (some k) ≡ true → has_package T (some l) ≡ true → eqb k.0 l.0 ≡ same_path (path_of T (some k)) (path_of T (some l))
unfolding path_of
numbers-tell T ordered k l h i =
    let n = length T.packages in
    let path = get_or T.packages k.0 [] in
    let other = get_or T.packages l.0 [] in
    cases (eqb k.0 l.0)
    (λ e. rw (eqb-true k.0 l.0 e, eq-eqb l.0 l.0 refl, same_refl other))
    (λ e. cases (same_bytes path other)
    (λ f. absurd (eqb-false k.0 l.0 e (path-once T.packages ordered k.0 l.0 (ltb-true k.0 n h) (ltb-true l.0 n i) (same_true path other f))))
    (λ f. rw (e, f)))

pub same-package : (T : Table) → Ordered T → (p q : code.Option PackageKey) → has_package T (package_meant p) ≡ true → has_package T (package_meant q) ≡ true
    → same_package p q ≡ same_path (path_of T (package_meant p)) (path_of T (package_meant q))
unfolding same_package package_meant path_of
same-package T ordered None None h i = refl
same-package T ordered None (Some l) h i = refl
same-package T ordered (Some k) None h i = refl
same-package T ordered (Some k) (Some l) h i = numbers-tell T ordered k l h i

-- ---- names, and paths only where the name is not exported

module _ (T : Table) (p q : Option PackageKey) (a b : Bytes) where
  id-differ : same_bytes a b ≡ false → same_id (identity_from T p a) (identity_from T q b) ≡ false
  unfolding same_id identity_from
  id-differ h = rw h

  id-exported : same_bytes a b ≡ true → exported a ≡ true → same_id (identity_from T p a) (identity_from T q b) ≡ true
  unfolding same_id identity_from
  id-exported h e = let z = same_true a b h in rw (h, ← z, e)

  id-path : same_bytes a b ≡ true → exported a ≡ false → same_id (identity_from T p a) (identity_from T q b) ≡ same_path (path_of T p) (path_of T q)
  unfolding same_id identity_from
  id-path h e = let z = same_true a b h in rw (h, ← z, e)

-- ---- a member's row

module _ (text : Bytes) (rows : Words) (m : ObjKey) where
  pub member-has : has_package (table_of text rows) (member_at text rows m).pkg ≡ true → {p : code.Option PackageKey} → p ≡ package_read rows m → has_package (table_of text rows) (package_meant p) ≡ true
  member-has h e = rw (member-package-meant text rows m, ← e) at h

  pub member-identity : identity_of (table_of text rows) (member_at text rows m)
      ≡ identity_from (table_of text rows) (package_meant (package_read rows m)) (bytes_at text (member_word rows m 0) (member_word rows m 1))
  unfolding identity_of member_at
  member-identity = ap (λ p. identity_from (table_of text rows) p (member_at text rows m).name) (member-package-meant text rows m)

  pub member-asked : {a n : ℕ} {p : code.Option PackageKey} → a ≡ member_word rows m 0 → n ≡ member_word rows m 1 → p ≡ package_read rows m
      → asked_id text rows text a n p ≡ identity_of (table_of text rows) (member_at text rows m)
  unfolding asked_id
  member-asked ea en ep = rw (ea, en, ep) (sym member-identity)

  pub blank-read : {a n : ℕ} → a ≡ member_word rows m 0 → n ≡ member_word rows m 1 → {s : Bytes} → s ≡ take n (drop a text)
      → same_bytes s (ascii "_") ≡ is_blank (member_at text rows m).name
  unfolding member_at is_blank bytes_at
  blank-read ea en es = rw (es, ea, en)

  -- the ways through `same-id`
  module _ (names : Bytes) (at len : ℕ) (pkg : code.Option PackageKey) {a n : ℕ} (ea : a ≡ member_word rows m 0) (en : n ≡ member_word rows m 1)
      {s : Bool} (es : s ≡ same_bytes (take n (drop a text)) (take len (drop at names))) where
    pub same-differ : s ≡ false → same_id (identity_of (table_of text rows) (member_at text rows m)) (asked_id text rows names at len pkg) ≡ false
    unfolding asked_id bytes_at
    same-differ h = rw (member-identity) (id-differ _ _ _ _ _ (rw (← ea, ← en) (sym es ∙ h)))

    module _ {x : Bool} (ex : x ≡ exported (bytes_at text a n)) (h : s ≡ true) where
      pub same-exported : x ≡ true → same_id (identity_of (table_of text rows) (member_at text rows m)) (asked_id text rows names at len pkg) ≡ true
      unfolding asked_id bytes_at
      same-exported k = rw (member-identity) (id-exported _ _ _ _ _ (rw (← ea, ← en) (sym es ∙ h)) (rw (← ea, ← en) (sym ex ∙ k)))

      pub same-paths : x ≡ false → {p : code.Option PackageKey} → p ≡ package_read rows m
          → same_id (identity_of (table_of text rows) (member_at text rows m)) (asked_id text rows names at len pkg)
          ≡ same_path (path_of (table_of text rows) (package_meant p)) (path_of (table_of text rows) (package_meant pkg))
      unfolding asked_id bytes_at
      same-paths k ep = rw (member-identity, ep) (id-path _ _ _ _ _ (rw (← ea, ← en) (sym es ∙ h)) (rw (← ea, ← en) (sym ex ∙ k)))
