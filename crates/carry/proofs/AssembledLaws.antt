-- Tables put together (crate edits, specs/Assembled.antt): a type's lines with other numbers are carried (`CarriedKind`), and where they stand.
use mathlib.Core.Path.{◌≡◌, refl, sym, ap, ap₂, ◌∙◌, subst}
use mathlib.Core.Bool.{Bool, true, false, cond}
use mathlib.Core.List.{List, [], ◌∷◌, ◌++◌, map}
use mathlib.Core.Logic.{inl, inr}
use mathlib.Core.Option.{Option, none}
use Prim.Native.Nat.{ℕ, zero, suc, ◌+◌}
use lib.Dec.{eqb}
use native.Mathlib.Omega.{arith}
use native.Mathlib.Nat.{add-zero, zero-add}
use native.Mathlib.Numerals.{add-one}
use lib.ListN.{length, get_or, length-map, length-append}
use Rattle.objects.specs.Lists.{Bytes, In, flat, up_to, mapped}
use Rattle.objects.proofs.ListLaws.{map-append}
use Rattle.objects.proofs.PairLaws.{AllPairs}
use Rattle.objects.proofs.Numbers.{from-length}
use Rattle.objects.specs.Rows.{from}
use Rattle.objects.specs.declared.TypeKey.{TypeKey}
use Rattle.objects.specs.declared.PackageKey.{PackageKey}
use Rattle.objects.specs.Table.{Table, obj_key, size, member_count, Member, Kind, Basic, Array, Slice, Pointer, Map, Chan, Tuple, Func, Struct, Iface, Named, kind_number, refs, members_of, kind_at, path_of}
use Rattle.text.specs.Bytes.{exported}
use Rattle.rules.specs.Members.{identity_of, identity_from}
use Rattle.rules.specs.Identity.{own_number}
use Rattle.carry.proofs.Pairing.{pairs-graph}
use Rattle.carry.specs.Maps.{CarriedMembers, CarriedKind}
use Rattle.edits.specs.Carried.{carry_member, carry_kind}
use Rattle.edits.proofs.CarriedLaws.{carry-members}
use Rattle.edits.specs.Assembled.{numbered_from, number_kind, member_numbers, type_lines_from, member_lines_from, assembled}

-- ---- members numbered

number-length : (n : ℕ) (ms : List Member) → length (numbered_from n ms) ≡ length ms
number-length n [] = refl
number-length n (m ∷ ms) = ap suc (number-length (suc n) ms)

number-members : (n : ℕ) (k : Kind) → members_of (number_kind n k) ≡ numbered_from n (members_of k)
number-members n (Basic k) = refl
number-members n (Array l e) = refl
number-members n (Slice e) = refl
number-members n (Pointer e) = refl
number-members n (Map k e) = refl
number-members n (Chan d e) = refl
number-members n (Tuple es) = refl
number-members n (Func v a r) = refl
number-members n (Struct ms) = refl
number-members n (Iface ms) = refl
number-members n (Named u ms) = refl

module _ (f : TypeKey → TypeKey) (p : PackageKey → PackageKey) (n : ℕ) where
  -- the lines of a type with other numbers
  abbrev pub line : Kind → Kind
  line k = number_kind n (carry_kind f p k)

  line-kind : (k : Kind) → kind_number (line k) ≡ kind_number k
  line-kind (Basic k) = refl
  line-kind (Array l e) = refl
  line-kind (Slice e) = refl
  line-kind (Pointer e) = refl
  line-kind (Map k e) = refl
  line-kind (Chan d e) = refl
  line-kind (Tuple es) = refl
  line-kind (Func v a r) = refl
  line-kind (Struct ms) = refl
  line-kind (Iface ms) = refl
  line-kind (Named u ms) = refl

  line-number : (t : TypeKey) (k : Kind) → own_number t (line k) ≡ own_number t k
  unfolding own_number
  line-number t (Basic k) = refl
  line-number t (Array l e) = refl
  line-number t (Slice e) = refl
  line-number t (Pointer e) = refl
  line-number t (Map k e) = refl
  line-number t (Chan d e) = refl
  line-number t (Tuple es) = length-map es f
  line-number t (Func v a r) = refl
  line-number t (Struct ms) = number-length n (map (carry_member f p) ms) ∙ length-map ms (carry_member f p)
  line-number t (Iface ms) = number-length n (map (carry_member f p) ms) ∙ length-map ms (carry_member f p)
  line-number t (Named u ms) = refl

  line-refers : (k : Kind) → refs (line k) ≡ map f (refs k)
  line-refers (Basic k) = refl
  line-refers (Array l e) = refl
  line-refers (Slice e) = refl
  line-refers (Pointer e) = refl
  line-refers (Map k e) = refl
  line-refers (Chan d e) = refl
  line-refers (Tuple es) = refl
  line-refers (Func v a r) = refl
  line-refers (Struct ms) = refl
  line-refers (Iface ms) = refl
  line-refers (Named u ms) = refl

  line-members : (k : Kind) → members_of (line k) ≡ numbered_from n (map (carry_member f p) (members_of k))
  line-members k = number-members n (carry_kind f p k) ∙ ap (numbered_from n) (carry-members f p k)

-- ---- carried lines

-- the members of one sort, or none
if-carried : (R : TypeKey → TypeKey → Type 0) (T U : Table) (b c : Bool) (ms ns : List Member) → c ≡ b → CarriedMembers R T U ms ns → CarriedMembers R T U (cond b ms []) (cond c ns [])
if-carried R T U true c ms ns e a = rw e a
if-carried R T U false c ms ns e a = rw e tt

pub carried-kind : (R : TypeKey → TypeKey → Type 0) (T U : Table) (t : TypeKey) (k l : Kind) → kind_number l ≡ kind_number k → own_number t l ≡ own_number t k
    → AllPairs R (refs k) (refs l) → CarriedMembers R T U (members_of k) (members_of l)
    → CarriedKind R T U t k l
carried-kind R T U t k l a b c d = record {
  kind = a;
  number = b;
  refers = c;
  declared = if-carried R T U (eqb (kind_number k) 10) (eqb (kind_number l) 10) (members_of k) (members_of l) (ap (λ z. eqb z 10) a) d;
  fields = if-carried R T U (eqb (kind_number k) 8) (eqb (kind_number l) 8) (members_of k) (members_of l) (ap (λ z. eqb z 8) a) d;
  methods = if-carried R T U (eqb (kind_number k) 9) (eqb (kind_number l) 9) (members_of k) (members_of l) (ap (λ z. eqb z 9) a) d;
}

module _ (f : TypeKey → TypeKey) (p : PackageKey → PackageKey) (T U : Table) where
  same-identity : (m : Member) → path_of U (mapped p m.pkg) ≡ path_of T m.pkg → identity_from U (mapped p m.pkg) m.name ≡ identity_from T m.pkg m.name
  unfolding identity_from
  same-identity m e = ap (λ (z : Option Bytes). record { name = m.name; path = cond (exported m.name) none z }) e

  members-carried : (n : ℕ) (ms : List Member) → ((m : Member) → In m ms → path_of U (mapped p m.pkg) ≡ path_of T m.pkg)
      → CarriedMembers (λ a b. b ≡ f a) T U ms (numbered_from n (map (carry_member f p) ms))
  unfolding identity_of
  members-carried n [] h = tt
  members-carried n (m ∷ ms) h = (record { identity = same-identity m (h m (inl refl)); entity = refl; type = refl }, members-carried (suc n) ms (λ o i. h o (inr i)))

  -- A TYPE'S LINES WITH OTHER NUMBERS ARE CARRIED, where packages keep their paths
  pub line-carried : (n : ℕ) (t : TypeKey) (k : Kind) → ((m : Member) → In m (members_of k) → path_of U (mapped p m.pkg) ≡ path_of T m.pkg) → CarriedKind (λ a b. b ≡ f a) T U t k (line f p n k)
  line-carried n t k h =
      carried-kind (λ a b. b ≡ f a) T U t k (line f p n k) (line-kind f p n k) (line-number f p n t k)
      (subst (AllPairs (λ a b. b ≡ f a) (refs k)) (sym (line-refers f p n k)) (pairs-graph f (refs k)))
      (subst (CarriedMembers (λ a b. b ≡ f a) T U (members_of k)) (sym (line-members f p n k)) (members-carried n (members_of k) h))

-- ---- where they stand

numbers-at : (n : ℕ) (ks : List Kind) (i : ℕ) → (m : ℕ) × (get_or (member_numbers n ks) i (Basic 0) ≡ number_kind m (get_or ks i (Basic 0)))
numbers-at n [] i = (n, refl)
numbers-at n (k ∷ ks) zero = (n, refl)
numbers-at n (k ∷ ks) (suc i) = numbers-at (n + length (members_of k)) ks i

numbers-length : (n : ℕ) (ks : List Kind) → length (member_numbers n ks) ≡ length ks
numbers-length n [] = refl
numbers-length n (k ∷ ks) = ap suc (numbers-length (n + length (members_of k)) ks)

module _ (packages : List Bytes) (kinds : List Kind) where
  pub assembled-size : size (assembled packages kinds) ≡ length kinds
  unfolding assembled
  assembled-size = numbers-length 0 kinds

  pub assembled-at : (t : TypeKey) → (m : ℕ) × (kind_at (assembled packages kinds) t ≡ number_kind m (get_or kinds t.0 (Basic 0)))
  unfolding assembled kind_at
  assembled-at t = numbers-at 0 kinds t.0

-- ---- numbers "from 0 as they come", and lines

-- c numbers from n on
abbrev range : ℕ → ℕ → List ℕ
range n zero = []
range n (suc c) = n ∷ range (suc n) c

range-append : (n a b : ℕ) → range n a ++ range (n + a) b ≡ range n (a + b)
range-append n zero b = ap₂ range (add-zero n) (sym (zero-add b))
range-append n (suc a) b =
    ap (λ l. n ∷ l) (ap (λ k. range (suc n) a ++ range k b) move ∙ range-append (suc n) a b) ∙ ap (range n) count
  where
    move : n + suc a ≡ suc n + a
    move = omega arith

    count : suc (a + b) ≡ suc a + b
    count = omega arith

range-up_to : (c : ℕ) → range 0 c ≡ up_to c
range-up_to zero = refl
range-up_to (suc c) = ap (range 0) (sym (add-one c)) ∙ sym (range-append 0 c 1) ∙ ap₂ (λ l k. l ++ (k ∷ [])) (range-up_to c) (zero-add c)

numbers : (n : ℕ) (ms : List Member) → map (λ (m : Member). m.key.0) (numbered_from n ms) ≡ range n (length ms)
numbers n [] = refl
numbers n (m ∷ ms) = ap (λ l. n ∷ l) (numbers (suc n) ms)

all-numbers : (n : ℕ) (ks : List Kind) → map (λ (m : Member). m.key.0) (flat members_of (member_numbers n ks)) ≡ range n (length (flat members_of ks))
all-numbers n [] = refl
all-numbers n (k ∷ ks) =
    map-append (λ (m : Member). m.key.0) (members_of (number_kind n k)) (flat members_of (member_numbers (n + length (members_of k)) ks))
    ∙ ap₂ (λ a b. a ++ b) (ap (map (λ (m : Member). m.key.0)) (number-members n k) ∙ numbers n (members_of k)) (all-numbers (n + length (members_of k)) ks)
    ∙ range-append n (length (members_of k)) (length (flat members_of ks))
    ∙ ap (range n) (sym (length-append (members_of k) (flat members_of ks)))

member-lines : (line : ℕ) (ks : List Kind) → length (member_lines_from line ks) ≡ length (flat members_of ks)
member-lines line [] = refl
member-lines line (k ∷ ks) =
    length-append (from (suc line) (length (members_of k))) (member_lines_from (suc line + length (members_of k)) ks)
    ∙ ap₂ (λ a b. a + b) (from-length (suc line) (length (members_of k))) (member-lines (suc line + length (members_of k)) ks)
    ∙ sym (length-append (members_of k) (flat members_of ks))

type-lines : (line : ℕ) (ks : List Kind) → length (type_lines_from line ks) ≡ length ks
type-lines line [] = refl
type-lines line (k ∷ ks) = ap suc (type-lines (suc line + length (members_of k)) ks)

module _ (packages : List Bytes) (kinds : List Kind) where
  pub assembled-count : member_count (assembled packages kinds) ≡ length (flat members_of kinds)
  unfolding assembled
  assembled-count = member-lines (2 + length packages) kinds

  pub assembled-numbered : map (λ (m : Member). m.key.0) (flat members_of (assembled packages kinds).types) ≡ up_to (member_count (assembled packages kinds))
  unfolding assembled
  assembled-numbered = all-numbers 0 kinds ∙ ap (range 0) (sym (member-lines (2 + length packages) kinds)) ∙ range-up_to (length (member_lines_from (2 + length packages) kinds))

  pub assembled-lined : length (assembled packages kinds).type_lines ≡ size (assembled packages kinds)
  unfolding assembled
  assembled-lined = type-lines (2 + length packages) kinds ∙ sym (numbers-length 0 kinds)

-- a member of lines with other numbers: its package is the old one's
pub line-package : (f : TypeKey → TypeKey) (p : PackageKey → PackageKey) (n : ℕ) (k : Kind) (o : Member) → In o (members_of (line f p n k))
    → (m : Member) × In m (members_of k) × (o.pkg ≡ mapped p m.pkg)
line-package f p n k o i = go n (members_of k) (subst (In o) (line-members f p n k) i)
  where
    go : (n : ℕ) (ms : List Member) → In o (numbered_from n (map (carry_member f p) ms)) → (m : Member) × In m ms × (o.pkg ≡ mapped p m.pkg)
    go n [] x' = elim x' [ ]
    go n (m ∷ ms) (inl e) = (m, inl refl, ap (λ (z : Member). z.pkg) e)
    go n (m ∷ ms) (inr j) = let r = go (suc n) ms j in (r.0, inr r.1, r.2)

pub carry-count : (f : TypeKey → TypeKey) (p : PackageKey → PackageKey) (k : Kind) → length (members_of (carry_kind f p k)) ≡ length (members_of k)
carry-count f p k = ap length (carry-members f p k) ∙ length-map (members_of k) (carry_member f p)

-- ---- assembled again

number-again : (n m : ℕ) (ms : List Member) → numbered_from n (numbered_from m ms) ≡ numbered_from n ms
number-again n m [] = refl
number-again n m (o ∷ ms) = ap (λ l. record { key = obj_key n; name = o.name; pkg = o.pkg; type = o.type; entity = o.entity } ∷ l) (number-again (suc n) (suc m) ms)

kind-again : (n m : ℕ) (k : Kind) → number_kind n (number_kind m k) ≡ number_kind n k
kind-again n m (Basic k) = refl
kind-again n m (Array l e) = refl
kind-again n m (Slice e) = refl
kind-again n m (Pointer e) = refl
kind-again n m (Map k e) = refl
kind-again n m (Chan d e) = refl
kind-again n m (Tuple es) = refl
kind-again n m (Func v a r) = refl
kind-again n m (Struct ms) = ap Struct (number-again n m ms)
kind-again n m (Iface ms) = ap Iface (number-again n m ms)
kind-again n m (Named u ms) = ap (Named u) (number-again n m ms)

count_same : (n : ℕ) (k : Kind) → length (members_of (number_kind n k)) ≡ length (members_of k)
count_same n k = ap length (number-members n k) ∙ number-length n (members_of k)

types-again : (n m : ℕ) (ks : List Kind) → member_numbers n (member_numbers m ks) ≡ member_numbers n ks
types-again n m [] = refl
types-again n m (k ∷ ks) =
    ap₂ (λ a b. a ∷ b) (kind-again n m k)
    (ap (λ c. member_numbers (n + c) (member_numbers (m + length (members_of k)) ks)) (count_same m k) ∙ types-again (n + length (members_of k)) (m + length (members_of k)) ks)

type-lines-again : (line m : ℕ) (ks : List Kind) → type_lines_from line (member_numbers m ks) ≡ type_lines_from line ks
type-lines-again line m [] = refl
type-lines-again line m (k ∷ ks) =
    ap (λ l. line ∷ l)
    (ap (λ c. type_lines_from (suc line + c) (member_numbers (m + length (members_of k)) ks)) (count_same m k)
    ∙ type-lines-again (suc line + length (members_of k)) (m + length (members_of k)) ks)

member-lines-again : (line m : ℕ) (ks : List Kind) → member_lines_from line (member_numbers m ks) ≡ member_lines_from line ks
member-lines-again line m [] = refl
member-lines-again line m (k ∷ ks) =
    ap (λ c. from (suc line) c ++ member_lines_from (suc line + c) (member_numbers (m + length (members_of k)) ks)) (count_same m k)
    ∙ ap (λ l. from (suc line) (length (members_of k)) ++ l) (member-lines-again (suc line + length (members_of k)) (m + length (members_of k)) ks)

-- ASSEMBLING WHAT WAS ASSEMBLED changes nothing
pub assembled-again : (packages : List Bytes) (kinds : List Kind) → assembled packages (assembled packages kinds).types ≡ assembled packages kinds
unfolding assembled
assembled-again packages kinds =
    let line = 2 + length packages in
    rw (types-again 0 0 kinds, type-lines-again line 0 kinds, member-lines-again line 0 kinds)
