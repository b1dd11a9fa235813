-- Document 02, point 5, for every text whose lines pass 2 to 6: 14 is due at the first P line that does not ascend and nowhere else, and names the line on which
-- that package stands. What the stage finds goes one package after the other (rules' PathLaws).
use mathlib.Core.Path.{◌≡◌, refl, sym, ap, ◌∙◌}
use mathlib.Core.Bool.{Bool, true, false}
use mathlib.Core.List.{List, [], ◌∷◌, ◌++◌, append-nil, append_assoc}
use mathlib.Core.Logic.{◌⊎◌, inl, inr}
use mathlib.Core.Option.{Option, none, some}
use Prim.Native.Nat.{ℕ, zero, suc, ◌+◌, ◌-◌, ◌≤◌, ◌<◌}
use native.Mathlib.Omega.{arith}
use lib.Dec.{ltb}
use lib.ListN.{length, get_or}
use borrow.Author.Tests.{ltb-true, ltb-false, le-ltb}
use Rattle.objects.specs.Bounds.{max_text, Bounds, bounds}
use Rattle.objects.specs.Lists.{Bytes, Sorted, empty, last_or, on_last}
use Rattle.objects.specs.Table.{Table, Entity, Field, Method, Kind, Basic, no_table, plus_package, plus_type, plus_member}
use Rattle.objects.proofs.ListLaws.{cases, clash}
use Rattle.text.specs.Bytes.{below_bytes}
use Rattle.text.specs.Lines.{pieces, fields}
use Rattle.rules.specs.Forms.{Line, package_line, type_line, member_line, line_of}
use Rattle.rules.specs.Checks.{path_items}
use Rattle.rules.specs.Stages.{first_line, first_unordered}
use Rattle.rules.specs.Load.{Loaded, refused, loaded, added, stands, in_place, has_room, lines_from, staged, checked, load_within, load}
use Rattle.rules.specs.Sound.{Below, Ordered}
use Rattle.rules.proofs.PathLaws.{found-ordered, found_from, paths-start, paths-on, paths-stop, paths-end, paths-ascend}
use Rattle.promises.specs.Demands.{Reads, Falls, InOrder}

-- ---- the lines that passed are judged

reads_load : (text : Bytes) (T : Table) → Reads text T → load text ≡ checked T
unfolding load_within
reads_load text T r = rw (le-ltb max_text (length text) r.bytes, r.header, r.lines)

-- ---- what the stage finds

module _ (paths : List Bytes) where
  -- each path before package p is above the one before it
  abbrev Rises : ℕ → Type 0
  Rises p = (q : ℕ) → 0 < q → q < p → Below (get_or paths (q - 1) []) (get_or paths q [])

  found_at : (p : ℕ) → 0 < p → p ≤ length paths → Rises p → first_unordered paths ≡ found_from paths p
  found_at zero h k r = absurd (omega arith)
  found_at (suc zero) h k r = paths-start paths
  found_at (suc (suc p)) h k r =
      let one : suc p + 1 ≡ suc (suc p) = omega arith in
      found_at (suc p) (omega arith) (omega arith) (λ q a b. r q a (omega arith)) ∙ rw (← one) (paths-on paths (suc p) (omega arith) (r (suc p) (omega arith) (omega arith)))

  none_found : Rises (length paths) → first_unordered paths ≡ none
  unfolding path_items first_line
  none_found r = cases (ltb 0 (length paths)) (λ e. at-end (ltb-true 0 (length paths) e)) (λ e. nowhere paths (ltb-false 0 (length paths) e))
    where
      at-end : 0 < length paths → first_unordered paths ≡ none
      at-end h = found_at (length paths) h (omega arith) r ∙ paths-end paths (length paths) (omega arith)

      nowhere : (l : List Bytes) → length l ≤ 0 → first_unordered l ≡ none
      nowhere [] h = refl
      nowhere (x ∷ l) h = absurd (omega arith)

  rises-ordered : Rises (length paths) → Sorted Below paths
  rises-ordered r = found-ordered paths (none_found r)

  ordered-rises : Sorted Below paths → Rises (length paths)
  ordered-rises s q h k = paths-ascend paths s (q - 1) q (omega arith) k

-- the paths ascend, or one of them is the first that falls
falls-or : (T : Table) (left p : ℕ) → 0 < p → p + left ≡ length T.packages → Rises T.packages p → Ordered T ⊎ ((p : ℕ) × Falls T p)
falls-or T zero p h e r = inl (rises-ordered T.packages (λ q a b. r q a (omega arith)))
falls-or T (suc left) p h e r =
    cases (below_bytes (get_or T.packages (p - 1) []) (get_or T.packages p []))
    (λ b. falls-or T left (suc p) (omega arith) (omega arith) (λ q a k. on b q a k))
    (λ b. inr (p, record { behind = h; there = omega arith; before = r; here = b }))
  where
    on : below_bytes (get_or T.packages (p - 1) []) (get_or T.packages p []) ≡ true → Rises T.packages (suc p)
    on b q a k =
        cases (ltb q p)
        (λ e. r q a (ltb-true q p e))
        (λ e. let m = ltb-false q p e in let same : q ≡ p = omega arith in rw same b)

decided : (T : Table) → Ordered T ⊎ ((p : ℕ) × Falls T p)
decided T = go T.packages refl
  where
    go : (paths : List Bytes) → T.packages ≡ paths → Ordered T ⊎ ((p : ℕ) × Falls T p)
    go [] e = inl (rw e tt)
    go (path ∷ rest) e = let n = ap length e in falls-or T (length rest) 1 (omega arith) (omega arith) (λ q a b. absurd (omega arith))

-- ---- package p stands on line p + 2

-- no P line is read behind a T line; before it each line is the P line of the next package
pub record PathsRead (T : Table) (ps : List Bytes) (U : Table) : Type 0 where
  pub paths : List Bytes
  pub grown : U.packages ≡ T.packages ++ paths
  pub lines : (i : ℕ) → i < length paths → line_of (fields (get_or ps i [])) ≡ some (package_line (get_or paths i []))
  pub closed : empty T.types ≡ false → paths ≡ []

abbrev is_loaded : Loaded → Bool
is_loaded (refused n at) = false
is_loaded (loaded T) = true

abbrev table_or : Table → Loaded → Table
table_or d (refused n at) = d
table_or d (loaded T) = T

-- nothing more is read
none_read : (T : Table) (ps : List Bytes) (U : Table) → U.packages ≡ T.packages → PathsRead T ps U
none_read T ps U e = record { paths = []; grown = e ∙ sym (append-nil T.packages); lines = λ i h. absurd (omega arith); closed = λ h. refl }

some-types : (T : Table) (entity : Entity) (f : Kind → Kind) → stands entity (last_or (Basic 0) T.types) ≡ true → empty (on_last f T.types) ≡ false
some-types T entity f h = go T.types entity h
  where
    go : (ks : List Kind) (entity : Entity) → stands entity (last_or (Basic 0) ks) ≡ true → empty (on_last f ks) ≡ false
    go [] (Field emb tag) h = clash h refl
    go [] (Method ptr) h = clash h refl
    go (k ∷ []) entity h = refl
    go (k ∷ l ∷ ks) entity h = refl

-- what one line adds, and what is read behind it
line-paths : (b : Bounds) (line : ℕ) (T : Table) (piece : Bytes) (rest : List Bytes) (l : Line) (U : Table) → line_of (fields piece) ≡ some l → in_place T l ≡ true
    → PathsRead (added T line l) rest U → PathsRead T (piece ∷ rest) U
unfolding added plus_package plus_type plus_member
line-paths b line T piece rest (package_line path) U e h r = record {
  paths = path ∷ r.paths;
  grown = r.grown ∙ append_assoc T.packages (path ∷ []) r.paths;
  lines = λ i k. at i k;
  closed = λ z. clash h z;
}
  where
    at : (i : ℕ) → i < length (path ∷ r.paths) → line_of (fields (get_or (piece ∷ rest) i [])) ≡ some (package_line (get_or (path ∷ r.paths) i []))
    at zero k = e
    at (suc i) k = r.lines i (omega arith)
line-paths b line T piece rest (type_line k) U e h r = none_read T (piece ∷ rest) U (r.grown ∙ ap (λ x. T.packages ++ x) (r.closed (behind T.types)) ∙ append-nil T.packages)
  where
    behind : (ks : List Kind) → empty (ks ++ (k ∷ [])) ≡ false
    behind [] = refl
    behind (x ∷ ks) = refl
line-paths b line T piece rest (member_line name pkg type entity) U e h r =
    none_read T (piece ∷ rest) U (r.grown ∙ ap (λ x. T.packages ++ x) (r.closed (some-types T entity _ h)) ∙ append-nil T.packages)

lines-paths : (b : Bounds) (line : ℕ) (T : Table) (ps : List Bytes) (U : Table) → lines_from b line T ps ≡ loaded U → PathsRead T ps U
unfolding lines_from
lines-paths b line T [] U e = none_read T [] U (ap (λ L. (table_or T L).packages) (sym e))
lines-paths b line T (last ∷ []) U e =
    cases (empty last)
    (λ z. none_read T (last ∷ []) U (ap (λ L. (table_or T L).packages) (sym (rw z at e))))
    (λ z. clash refl (ap is_loaded (sym (rw z at e))))
lines-paths b line T (piece ∷ next ∷ rest) U e = go (line_of (fields piece)) refl (λ more z. lines-paths b (suc line) more (next ∷ rest) U z)
  where
    go : (o : Option Line) → line_of (fields piece) ≡ o → ((more : Table) → lines_from b (suc line) more (next ∷ rest) ≡ loaded U → PathsRead more (next ∷ rest) U) → PathsRead T (piece ∷ next ∷ rest) U
    go none q on = clash refl (ap is_loaded (sym (rw (q, lines_from) at e)))
    go (some l) q on =
        cases (in_place T l)
        (λ p. cases (has_room b T l)
        (λ r. line-paths b line T piece (next ∷ rest) l U q p (on (added T line l) (rw (q, p, r, lines_from) at e)))
        (λ r. clash refl (ap is_loaded (sym (rw (q, p, r, lines_from) at e)))))
        (λ p. clash refl (ap is_loaded (sym (rw (q, p, lines_from) at e))))

-- ---- the whole

pub in_order : (text : Bytes) (T : Table) → Reads text T → InOrder text T
unfolding checked staged
in_order text T r = record {
  ascending = λ s. reads_load text T r ∙ rw (none_found T.packages (ordered-rises T.packages s));
  falling = decided T;
  refuses = λ p f. reads_load text T r ∙ rw (found_at T.packages p f.behind (let k = f.there in omega arith) f.before ∙ paths-stop T.packages p f.there f.here);
  line = λ p h. at p h;
}
  where
    read : PathsRead no_table (r.next ∷ r.rest) T
    read = lines-paths bounds 2 no_table (r.next ∷ r.rest) T r.lines

    at : (p : ℕ) → p < length T.packages → line_of (fields (get_or (pieces text) (p + 1) [])) ≡ some (package_line (get_or T.packages p []))
    at p h = let one : p + 1 ≡ suc p = omega arith in rw (one, r.header, read.grown) (read.lines p (rw read.grown at h))
