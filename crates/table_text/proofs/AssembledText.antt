-- A table that is put together (crate edits, specs/Assembled.antt) stands on the lines of its text.
use mathlib.Core.Path.{◌≡◌, refl, sym, ap, ap₂, ◌∙◌}
use mathlib.Core.List.{List, [], ◌∷◌, ◌++◌, map}
use Prim.Native.Nat.{ℕ, zero, suc, ◌+◌}
use native.Mathlib.Omega.{arith}
use lib.ListN.{length}
use Rattle.objects.specs.Lists.{Bytes, flat, up_to}
use Rattle.objects.specs.Rows.{from}
use Rattle.objects.specs.Table.{Table, Member, Kind, Basic, Array, Slice, Pointer, Map, Chan, Tuple, Func, Struct, Iface, Named, members_of}
use Rattle.objects.proofs.ListLaws.{map-append}
use Rattle.rules.specs.Forms.{Line, package_line, type_line}
use Rattle.edits.specs.Assembled.{numbered_from, number_kind, member_numbers, type_lines_from, member_lines_from, assembled}
use Rattle.edits.specs.TableText.{line_of_member, lines_of_kind, lines_of}
use Rattle.table_text.specs.Numbered.{line_numbers, is_type_line, is_member_line, numbered, LinesNumbered}

-- ---- a member's key stands on no line

members-lines : (n : ℕ) (ms : List Member) → map line_of_member (numbered_from n ms) ≡ map line_of_member ms
members-lines n [] = refl
members-lines n (m ∷ ms) = ap (λ r. line_of_member m ∷ r) (members-lines (suc n) ms)

kind-lines : (n : ℕ) (k : Kind) → lines_of_kind (number_kind n k) ≡ lines_of_kind k
kind-lines n (Basic k) = refl
kind-lines n (Array l e) = refl
kind-lines n (Slice e) = refl
kind-lines n (Pointer e) = refl
kind-lines n (Map k e) = refl
kind-lines n (Chan d e) = refl
kind-lines n (Tuple es) = refl
kind-lines n (Func v p r) = refl
kind-lines n (Struct ms) = ap (λ r. type_line (Struct []) ∷ r) (members-lines n ms)
kind-lines n (Iface ms) = ap (λ r. type_line (Iface []) ∷ r) (members-lines n ms)
kind-lines n (Named u ms) = ap (λ r. type_line (Named u []) ∷ r) (members-lines n ms)

kinds-lines : (n : ℕ) (ks : List Kind) → flat lines_of_kind (member_numbers n ks) ≡ flat lines_of_kind ks
kinds-lines n [] = refl
kinds-lines n (k ∷ ks) = ap₂ (λ a b. a ++ b) (kind-lines n k) (kinds-lines (n + length (members_of k)) ks)

-- THE LINES OF WHAT IS PUT TOGETHER
pub assembled-lines : (packages : List Bytes) (kinds : List Kind) → lines_of (assembled packages kinds) ≡ map package_line packages ++ flat lines_of_kind kinds
unfolding lines_of assembled
assembled-lines packages kinds = ap (λ r. map package_line packages ++ r) (kinds-lines 0 kinds)

-- ---- where the lines stand

pub from_next : (first n : ℕ) → from first (suc n) ≡ first ∷ from (suc first) n
from_next first zero = let e : first + 0 ≡ first = omega arith in ap (λ x. x ∷ []) e
from_next first (suc n) =
    let e : first + suc n ≡ suc first + n = omega arith in
    map-append (λ i. first + i) (up_to (suc n)) (suc n ∷ []) ∙ rw e (ap (λ r. r ++ ((suc first + n) ∷ [])) (from_next first n))
    ∙ ap (λ r. first ∷ r) (sym (map-append (λ i. suc first + i) (up_to n) (n ∷ [])))

packages-types : (n : ℕ) (ps : List Bytes) (ls : List Line) → line_numbers is_type_line n (map package_line ps ++ ls) ≡ line_numbers is_type_line (n + length ps) ls
packages-types n [] ls = let e : n + 0 ≡ n = omega arith in rw e
packages-types n (p ∷ ps) ls = let e : n + suc (length ps) ≡ suc n + length ps = omega arith in rw e (packages-types (suc n) ps ls)

packages-members : (n : ℕ) (ps : List Bytes) (ls : List Line) → line_numbers is_member_line n (map package_line ps ++ ls) ≡ line_numbers is_member_line (n + length ps) ls
packages-members n [] ls = let e : n + 0 ≡ n = omega arith in rw e
packages-members n (p ∷ ps) ls = let e : n + suc (length ps) ≡ suc n + length ps = omega arith in rw e (packages-members (suc n) ps ls)

members-types : (n : ℕ) (ms : List Member) (ls : List Line) → line_numbers is_type_line n (map line_of_member ms ++ ls) ≡ line_numbers is_type_line (n + length ms) ls
members-types n [] ls = let e : n + 0 ≡ n = omega arith in rw e
members-types n (m ∷ ms) ls = let e : n + suc (length ms) ≡ suc n + length ms = omega arith in rw e (members-types (suc n) ms ls)

members-members : (n : ℕ) (ms : List Member) (ls : List Line) → line_numbers is_member_line n (map line_of_member ms ++ ls) ≡ from n (length ms) ++ line_numbers is_member_line (n + length ms) ls
members-members n [] ls = let e : n + 0 ≡ n = omega arith in rw e
members-members n (m ∷ ms) ls =
    let e : n + suc (length ms) ≡ suc n + length ms = omega arith in
    rw (e, from_next n (length ms)) (ap (λ r. n ∷ r) (members-members (suc n) ms ls))

kinds-types : (n : ℕ) (ks : List Kind) → line_numbers is_type_line n (flat lines_of_kind ks) ≡ type_lines_from n ks
kinds-types n [] = refl
kinds-types n (k ∷ ks) = ap (λ r. n ∷ r) (members-types (suc n) (members_of k) (flat lines_of_kind ks) ∙ kinds-types (suc n + length (members_of k)) ks)

kinds-members : (n : ℕ) (ks : List Kind) → line_numbers is_member_line n (flat lines_of_kind ks) ≡ member_lines_from n ks
kinds-members n [] = refl
kinds-members n (k ∷ ks) = members-members (suc n) (members_of k) (flat lines_of_kind ks) ∙ ap (λ r. from (suc n) (length (members_of k)) ++ r) (kinds-members (suc n + length (members_of k)) ks)

-- WHAT IS PUT TOGETHER STANDS ON THE LINES OF ITS TEXT
pub assembled-numbered : (packages : List Bytes) (kinds : List Kind) → LinesNumbered (assembled packages kinds)
unfolding numbered assembled
assembled-numbered packages kinds =
    same (assembled packages kinds)
    (ap (line_numbers is_type_line 2) (assembled-lines packages kinds) ∙ packages-types 2 packages (flat lines_of_kind kinds) ∙ kinds-types (2 + length packages) kinds)
    (ap (line_numbers is_member_line 2) (assembled-lines packages kinds) ∙ packages-members 2 packages (flat lines_of_kind kinds) ∙ kinds-members (2 + length packages) kinds)
  where
    same : (T : Table) {ts ms : List ℕ} → ts ≡ T.type_lines → ms ≡ T.member_lines → record { packages = T.packages; types = T.types; type_lines = ts; member_lines = ms } ≡ T
    same T a b = rw (a, b)
