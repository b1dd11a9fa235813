-- The paths of a table that passes 14 (specs/Checks.antt) ascend, and so a package is known by its path: none recurs.
use mathlib.Core.Path.{◌≡◌, refl, sym, ap, ◌∙◌}
use mathlib.Core.Bool.{Bool, true, false}
use mathlib.Core.List.{List, [], ◌∷◌}
use mathlib.Core.Logic.{◌↔◌, inl, inr}
use mathlib.Core.Option.{Option, none, some}
use Prim.Native.Nat.{ℕ, zero, suc, ◌+◌, ◌-◌, ◌≤◌, ◌<◌}
use native.Mathlib.Numerals.{add-one}
use native.Mathlib.Omega.{arith}
use lib.Dec.{ltb}
use lib.ListN.{length, get_or, drop, drop_of_length-le}
use lib.Seq.{drop-cons}
use borrow.Author.Tests.{ltb-true, ltb-false, not-false}
use Rattle.objects.specs.declared.PackageKey.{PackageKey}
use Rattle.objects.specs.Lists.{Bytes, In, Sorted}
use Rattle.objects.specs.Table.{Table, package_key, has_package, path_of}
use Rattle.objects.proofs.ListLaws.{cases, clash, either}
use Rattle.objects.proofs.PartLaws.{get_or-In}
use Rattle.text.specs.Bytes.{below_bytes}
use Rattle.text.proofs.ByteLaws.{below_irrefl, below-trans}
use Rattle.rules.specs.Checks.{PathItem, paths_behind, path_items, unordered}
use Rattle.rules.specs.Stages.{first_line, first_unordered}
use Rattle.rules.specs.Sound.{Below, Ordered}
use Rattle.rules.proofs.StageLaws.{first-here, first-later, none-fails}

-- ---- 14 passed

below_of : (i : PathItem) → unordered i ≡ false → Below i.before i.path
unfolding unordered
below_of i e = not-false (below_bytes i.before i.path) e

-- paths of which each is above the one before ascend
behind-ordered : (line : ℕ) (path : Bytes) (rest : List Bytes) → ((i : PathItem) → In i (paths_behind line path rest) → unordered i ≡ false) → Sorted Below (path ∷ rest)
behind-ordered line path [] h = (λ q i. absurd i, tt)
behind-ordered line path (next ∷ rest) h =
    let step = below_of (record { line = suc line; before = path; path = next }) (h _ (inl refl)) in
    let after = behind-ordered (suc line) next rest (λ i j. h i (inr j)) in
    (λ q i. either i (λ e. rw e step) (λ j. below-trans path next q step (after.0 q j)), after)

pub ordered_of : (paths : List Bytes) → ((i : PathItem) → In i (path_items paths) → unordered i ≡ false) → Sorted Below paths
unfolding path_items
ordered_of [] h = tt
ordered_of (path ∷ rest) h = behind-ordered 2 path rest h

-- where 14 finds nothing the paths ascend
pub found-ordered : (paths : List Bytes) → first_unordered paths ≡ none → Sorted Below paths
found-ordered paths e = ordered_of paths (none-fails (λ (i : PathItem). i.line) unordered (path_items paths) e)

-- each P line is on one of the lines from the second on, as many as there are paths
behind-lines : (line : ℕ) (path : Bytes) (rest : List Bytes) (i : PathItem) → In i (paths_behind line path rest) → i.line < line + suc (length rest)
behind-lines line path [] i x' = elim x' [ ]
behind-lines line path (next ∷ rest) i (inl e) = rw e (omega arith)
behind-lines line path (next ∷ rest) i (inr j) = let h = behind-lines (suc line) next rest i j in omega arith

pub item-lines : (paths : List Bytes) (i : PathItem) → In i (path_items paths) → i.line < 2 + length paths
unfolding path_items
item-lines [] i j = elim j [ ]
item-lines (path ∷ rest) i j = behind-lines 2 path rest i j

-- ---- one after the other

-- the P lines from package i on, which is not the first
unfoldable pub paths_left : List Bytes → ℕ → List PathItem
paths_left paths i = paths_behind (i + 1) (get_or paths (i - 1) []) (drop i paths)

module _ (paths : List Bytes) where
  -- what 14 finds from package i on
  abbrev pub found_from : ℕ → Option ℕ
  found_from i = first_line (λ (p : PathItem). p.line) unordered (paths_left paths i)

  pub paths-start : first_unordered paths ≡ found_from 1
  unfolding paths_left path_items
  paths-start = go paths
    where
      go : (ps : List Bytes) → first_unordered ps ≡ first_line (λ (p : PathItem). p.line) unordered (paths_behind 2 (get_or ps 0 []) (drop 1 ps))
      go [] = refl
      go (p ∷ ps) = refl

  pub paths-end : (i : ℕ) → length paths ≤ i → found_from i ≡ none
  unfolding paths_left first_line
  paths-end i h = rw (drop_of_length-le paths h)

  module _ (i : ℕ) (h : i < length paths) where
    here : PathItem
    here = record { line = i + 2; before = get_or paths (i - 1) []; path = get_or paths i [] }

    paths-next : paths_left paths i ≡ here ∷ paths_left paths (i + 1)
    unfolding paths_left here
    paths-next =
        let next : suc (i + 1) ≡ i + 2 = omega arith in
        let again : i + 1 + 1 ≡ i + 2 = omega arith in
        let same : i + 1 - 1 ≡ i = omega arith in
        rw (drop-cons paths i [] h, next, again, same, add-one i)

    pub paths-on : Below (get_or paths (i - 1) []) (get_or paths i []) → found_from i ≡ found_from (i + 1)
    unfolding unordered here
    paths-on b = ap (first_line (λ (p : PathItem). p.line) unordered) paths-next ∙ first-later (λ p. p.line) unordered here _ (rw b)

    pub paths-stop : below_bytes (get_or paths (i - 1) []) (get_or paths i []) ≡ false → found_from i ≡ some (i + 2)
    unfolding unordered here
    paths-stop b = ap (first_line (λ (p : PathItem). p.line) unordered) paths-next ∙ first-here (λ p. p.line) unordered here _ (rw b)

-- ---- what rests on it

-- a path of a smaller number is below
pub paths-ascend : (paths : List Bytes) → Sorted Below paths → (i j : ℕ) → i < j → j < length paths → Below (get_or paths i []) (get_or paths j [])
paths-ascend [] s i j l h = absurd (omega arith)
paths-ascend (p ∷ ps) s i zero l h = absurd (omega arith)
paths-ascend (p ∷ ps) s zero (suc j) l h = s.0 (get_or ps j []) (get_or-In ps j [] (omega arith))
paths-ascend (p ∷ ps) s (suc i) (suc j) l h = paths-ascend ps s.1 i j (omega arith) (omega arith)

-- one path, one number
pub path-once : (paths : List Bytes) → Sorted Below paths → (i j : ℕ) → i < length paths → j < length paths → get_or paths i [] ≡ get_or paths j [] → i ≡ j
path-once paths s i j h k e =
    cases (ltb i j)
    (λ l. absurd (never _ _ e (paths-ascend paths s i j (ltb-true i j l) k)))
    (λ l. cases (ltb j i)
    (λ m. absurd (never _ _ (sym e) (paths-ascend paths s j i (ltb-true j i m) h)))
    (λ m. let a = ltb-false i j l in let b = ltb-false j i m in omega arith))
  where
    never : (p q : Bytes) → p ≡ q → Below p q → ⊥
    never p q same below = clash (rw same at below) (below_irrefl q)

-- TWO PACKAGES ARE ONE EXACTLY IF THEIR NUMBERS ARE
pub package-by-path : (T : Table) → Ordered T → (p q : Option PackageKey) → has_package T p ≡ true → has_package T q ≡ true → (path_of T p ≡ path_of T q) ↔ (p ≡ q)
unfolding path_of
package-by-path T ordered p q h k = (one p q h k, ap (path_of T))
  where
    or_else : Bytes → Option Bytes → Bytes
    or_else d none = d
    or_else d (some s) = s

    is_some : Option Bytes → Bool
    is_some none = false
    is_some (some s) = true

    one : (p q : Option PackageKey) → has_package T p ≡ true → has_package T q ≡ true → path_of T p ≡ path_of T q → p ≡ q
    one none none h k e = refl
    one none (some q) h k e = clash refl (ap is_some (sym e))
    one (some p) none h k e = clash refl (ap is_some e)
    one (some p) (some q) h k e =
        let n = length T.packages in
        ap (λ i. some (package_key i)) (path-once T.packages ordered p.0 q.0 (ltb-true p.0 n h) (ltb-true q.0 n k) (ap (or_else []) e))
