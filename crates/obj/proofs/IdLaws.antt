-- Ids by their parts: the id of a member is what its places stand for, byte by byte, and two ids with the same before their names compare as the names do.
use mathlib.Core.Path.{◌≡◌, refl, sym, ap, ◌∙◌}
use mathlib.Core.Bool.{Bool, true, false}
use mathlib.Core.List.{[], ◌∷◌, ◌++◌, append_assoc}
use mathlib.Core.Option.{Option, none, some}
use Prim.Native.Nat.{ℕ, zero, suc, ◌+◌, ◌-◌, ◌≤◌, ◌<◌}
use native.Mathlib.Omega.{arith}
use lib.Dec.{eqb}
use lib.ListN.{length, get_or, take, drop, length-append, length-take, get_or-append}
use borrow.Author.Tests.{eq-eqb, ne_eqb, le-ltb}
use Rattle.objects.specs.Lists.{Bytes}
use Rattle.objects.specs.declared.ObjKey.{ObjKey}
use Rattle.objects.specs.declared.PackageKey.{PackageKey}
use Rattle.std.specs.declared.option.Option as code
use Rattle.std.specs.Prelude.{Some, None}
use Rattle.objects.specs.Table.{Table, has_package, path_of}
use Rattle.objects.specs.Rows.{Words, package_word, member_word, bytes_at, package_meant, member_at, path_read, table_of}
use Rattle.objects.specs.Types.{package_read}
use Rattle.objects.proofs.ListLaws.{cases}
use Rattle.std.specs.declared.cmp.Ordering.TheVariants.{Less, Equal, Greater}
use Rattle.text.specs.Bytes.{exported}
use Rattle.text.specs.Compare.{order_of}
use Rattle.text.proofs.CompareLaws.{order-end, order-part, order-whole, order-less, order-greater, order-next}
use Rattle.rules.specs.Members.{identity_from, identity_of, id_bytes}
use Rattle.obj.specs.declared.Id.{Id}
use Rattle.obj.specs.Ids.{joined, id_meant}
use Rattle.obj.proofs.IdentityLaws.{path-of, member-has, member-identity}

-- ---- the parts of an id

module _ {form : ℕ} (path name : Bytes) where
  pub joined-name : form ≡ 0 → joined form path name ≡ name
  unfolding joined
  joined-name e = rw e

  pub joined-blank : form ≡ 1 → joined form path name ≡ 95 ∷ 46 ∷ name
  unfolding joined
  joined-blank e = rw e

  pub joined-path : (form ≡ 0 → ⊥) → (form ≡ 1 → ⊥) → joined form path name ≡ path ++ (46 ∷ name)
  unfolding joined
  joined-path n k = rw (ne_eqb form 0 n, ne_eqb form 1 k)

-- ---- lengths

pub length-blank : {form : ℕ} (path name : Bytes) → form ≡ 1 → length name + 2 ≡ length (joined form path name)
length-blank path name e = rw (joined-blank path name e) (omega arith)

pub length-path : {form : ℕ} (path name : Bytes) → (form ≡ 0 → ⊥) → (form ≡ 1 → ⊥) → length path + 1 + length name ≡ length (joined form path name)
length-path path name n k = rw (joined-path path name n k, length-append path (46 ∷ name)) (omega arith)

-- what was cut to n bytes has no more
pub cut_short : {s : Bytes} (n : ℕ) (l : Bytes) (max : ℕ) → s ≡ take n l → n ≤ max → length s ≤ max
cut_short n l max e h = rw (e, length-take n l) (omega arith)

-- ---- bytes

pub dot-here : (name : Bytes) (i n : ℕ) → i ≡ n → 46 ≡ get_or (46 ∷ name) (i - n) 0
dot-here name i n e = let z : i - n ≡ 0 = omega arith in rw z

pub dot_before : (name : Bytes) (i n : ℕ) → n ≤ i → (i ≡ n → ⊥) → get_or name (i - n - 1) 0 ≡ get_or (46 ∷ name) (i - n) 0
dot_before name i n h k = let z : suc (i - n - 1) ≡ i - n = omega arith in ap (λ j. get_or (46 ∷ name) j 0) z

pub byte-behind : (path l : Bytes) (i : ℕ) → length path ≤ i → get_or l (i - length path) 0 ≡ get_or (path ++ l) i 0
byte-behind [] l i h = let z : i - 0 ≡ i = omega arith in rw z
byte-behind (x ∷ path) l zero h = absurd (omega arith)
byte-behind (x ∷ path) l (suc i) h = let z : suc i - suc (length path) ≡ i - length path = omega arith in rw z (byte-behind path l i (omega arith))

module _ {form : ℕ} (path name : Bytes) (i : ℕ) where
  pub byte-blank : form ≡ 1 → i ≡ 0 → 95 ≡ get_or (joined form path name) i 0
  byte-blank e h = rw (joined-blank path name e, h)

  pub byte-behind-blank : form ≡ 1 → (i ≡ 0 → ⊥) → get_or (46 ∷ name) (i - 1) 0 ≡ get_or (joined form path name) i 0
  byte-behind-blank e h = rw (joined-blank path name e) (byte-behind (95 ∷ []) (46 ∷ name) i (omega arith))

  pub byte-of-path : (form ≡ 0 → ⊥) → (form ≡ 1 → ⊥) → i < length path → get_or path i 0 ≡ get_or (joined form path name) i 0
  byte-of-path n k h = rw (joined-path path name n k) (sym (get_or-append path (46 ∷ name) 0 i h))

  pub byte-behind-path : (form ≡ 0 → ⊥) → (form ≡ 1 → ⊥) → length path ≤ i → get_or (46 ∷ name) (i - length path) 0 ≡ get_or (joined form path name) i 0
  byte-behind-path n k h = rw (joined-path path name n k) (byte-behind path (46 ∷ name) i h)

-- ---- the id of a member

module _ (T : Table) (name : Bytes) where
  id-whole : (p : Option PackageKey) → exported name ≡ true → id_bytes (identity_from T p name) ≡ name
  unfolding id_bytes identity_from
  id-whole p h = rw h

  id-blank : exported name ≡ false → {p : Option PackageKey} → p ≡ none → id_bytes (identity_from T p name) ≡ 95 ∷ 46 ∷ name
  unfolding id_bytes identity_from path_of
  id-blank h e = rw (e, h)

  id-pathed : exported name ≡ false → (p : Option PackageKey) {path : Bytes} → path_of T p ≡ some path → id_bytes (identity_from T p name) ≡ path ++ (46 ∷ name)
  unfolding id_bytes identity_from
  id-pathed h p {path = path} e = rw (h, e) (append_assoc path (46 ∷ []) name)

module _ (text : Bytes) (rows : Words) (m : ObjKey) {a n : ℕ} (ea : a ≡ member_word rows m 0) (en : n ≡ member_word rows m 1)
    {x : Bool} (ex : x ≡ exported (bytes_at text a n)) where
  pub id-name : x ≡ true → id_meant text (record { form = 0; path = 0; path_len = 0; name = a; len = n }) ≡ id_bytes (identity_of (table_of text rows) (member_at text rows m))
  unfolding id_meant joined
  id-name h = rw (member-identity text rows m, ← ea, ← en) (sym (id-whole (table_of text rows) (bytes_at text a n) (package_meant (package_read rows m)) (sym ex ∙ h)))

  module _ (h : x ≡ false) {p : code.Option PackageKey} (ep : p ≡ package_read rows m) where
    pub id-none : p ≡ None → id_meant text (record { form = 1; path = 0; path_len = 0; name = a; len = n }) ≡ id_bytes (identity_of (table_of text rows) (member_at text rows m))
    unfolding id_meant joined package_meant
    id-none e =
        rw (member-identity text rows m, ← ea, ← en, ← ep)
        (sym (id-blank (table_of text rows) (bytes_at text a n) (sym ex ∙ h) (ap package_meant e)))

    pub id-path : has_package (table_of text rows) (member_at text rows m).pkg ≡ true → {k : PackageKey} → p ≡ Some k
        → {b l : ℕ} → b ≡ package_word rows k 0 → l ≡ package_word rows k 1
        → id_meant text (record { form = 2; path = b; path_len = l; name = a; len = n }) ≡ id_bytes (identity_of (table_of text rows) (member_at text rows m))
    unfolding id_meant joined path_read package_meant
    id-path has {k} e eb el =
        let here : has_package (table_of text rows) (some k) ≡ true = rw e at (member-has text rows m has ep) in
        rw (member-identity text rows m, ← ea, ← en, ← ep, e, eb, el)
        (sym (id-pathed (table_of text rows) (bytes_at text a n) (sym ex ∙ h) (some k) (path-of text rows k here)))

-- ---- the order of two ids, byte by byte

module _ (A B : Bytes) (i : ℕ) {n m : ℕ} (en : n ≡ length A) (em : m ≡ length B) where
  pub ids-end : n ≤ i → m ≤ i → order_of (drop i A) (drop i B) ≡ Equal
  ids-end h k = order-end A B i (omega arith) (omega arith)

  pub ids-part : n ≤ i → i < m → order_of (drop i A) (drop i B) ≡ Less
  ids-part h k = order-part A B i (omega arith) (omega arith)

  pub ids_whole : i < n → m ≤ i → order_of (drop i A) (drop i B) ≡ Greater
  ids_whole h k = order-whole A B i (omega arith) (omega arith)

  module _ (h : i < n) (k : i < m) {x y : ℕ} (ex : x ≡ get_or A i 0) (ey : y ≡ get_or B i 0) where
    pub ids-less : x < y → order_of (drop i A) (drop i B) ≡ Less
    ids-less l = order-less A B i (omega arith) (omega arith) (omega arith)

    pub ids-greater : y < x → order_of (drop i A) (drop i B) ≡ Greater
    ids-greater l = order-greater A B i (omega arith) (omega arith) (omega arith)

    pub ids_next : y ≤ x → x ≤ y → order_of (drop i A) (drop i B) ≡ order_of (drop (i + 1) A) (drop (i + 1) B)
    ids_next l o = order-next A B i (omega arith) (omega arith) (omega arith) (omega arith)

-- ---- the same before two names

order-behind : (p a b : Bytes) → order_of (p ++ a) (p ++ b) ≡ order_of a b
unfolding order_of
order-behind [] a b = refl
order-behind (x ∷ p) a b = rw (le-ltb x x (omega arith), eq-eqb x x refl) (order-behind p a b)

order-joined : (form : ℕ) (p a b : Bytes) → order_of (joined form p a) (joined form p b) ≡ order_of a b
unfolding joined
order-joined form p a b =
    cases (eqb form 0)
    (λ e. rw e)
    (λ e. cases (eqb form 1) (λ f. rw (e, f) (order-behind (95 ∷ 46 ∷ []) a b)) (λ f. rw (e, f, ← append_assoc p (46 ∷ []) a, ← append_assoc p (46 ∷ []) b) (order-behind (p ++ (46 ∷ [])) a b)))

pub order-names : (text : Bytes) (a b : Id) → (a.form ≡ b.form) × (a.path ≡ b.path) × (a.path_len ≡ b.path_len) → {m n : Bytes}
    → m ≡ take a.len (drop a.name text) → n ≡ take b.len (drop b.name text) → order_of m n ≡ order_of (id_meant text a) (id_meant text b)
unfolding id_meant bytes_at
order-names text a b e em en = rw (e.0, e.1, e.2, em, en) (sym (order-joined b.form _ _ _))

pub order-whole-ids : (text : Bytes) (a b : Id) {p m q n : Bytes}
    → p ≡ take a.path_len (drop a.path text) → m ≡ take a.len (drop a.name text)
    → q ≡ take b.path_len (drop b.path text) → n ≡ take b.len (drop b.name text)
    → order_of (joined a.form p m) (joined b.form q n) ≡ order_of (id_meant text a) (id_meant text b)
unfolding id_meant bytes_at
order-whole-ids text a b ep em eq en = rw (ep, em, eq, en)
