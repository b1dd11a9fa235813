-- What loads within bounds is within them. Larger bounds change nothing for a text that loads: neither the table, nor what a call gives, nor what the program
-- prints. What is refused for anything else than its size (2, 6) is refused in the same way.
use mathlib.Core.Path.{◌≡◌, refl, sym, ap, ◌∙◌}
use mathlib.Core.Bool.{Bool, true, false}
use mathlib.Core.List.{List, [], ◌∷◌}
use mathlib.Core.Logic.{◌≢◌}
use mathlib.Core.Option.{Option, none, some}
use Prim.Native.Nat.{ℕ, suc, ◌+◌, ◌≤◌}
use native.Mathlib.Omega.{arith}
use lib.Dec.{ltb}
use lib.ListN.{length}
use borrow.Author.Tests.{ltb-true, ltb-false, lt-ltb, le-ltb}
use Rattle.objects.specs.Bounds.{max_per_type, Bounds}
use Rattle.objects.specs.Lists.{Bytes, empty}
use Rattle.objects.specs.Table.{Table, size, member_count, members_of, no_table}
use Rattle.objects.proofs.ListLaws.{cases, clash, and_l, and_r}
use Rattle.text.specs.Bytes.{ascii, same_bytes}
use Rattle.text.specs.Lines.{pieces, fields}
use Rattle.rules.specs.Forms.{Line, package_line, type_line, member_line, line_of}
use Rattle.rules.specs.Load.{Loaded, refused, loaded, last_kind, in_place, has_room, line_added, lines_from, then_checked, headed, load_within, Within, Wider}
use Rattle.rules.specs.Asked.{fitted, replied, on_table, outcome_within, asked_within}
use Rattle.rules.specs.AskedAll.{outcome_all_within, asked_all_within}
use Rattle.rules.specs.Typeask.{input_of, printed_all, typeask_within}
use Rattle.rules.proofs.LoadLaws.{Built}
use Rattle.rules.proofs.CheckLaws.{Right, right-within}

-- ---- what loads within bounds is within them

pub loads-within : (b : Bounds) (text : Bytes) (T : Table) → load_within b text ≡ loaded T → Within b text T
unfolding load_within
loads-within b text T e = record {
  bytes = cases (ltb b.bytes (length text)) (λ h. clash-long h) (λ h. ltb-false b.bytes (length text) h);
  types = built.few_types;
  members = built.few_members;
}
  where
    is_loaded : Loaded → Bool
    is_loaded (refused n at) = false
    is_loaded (loaded U) = true

    line : ℕ
    line = b.bytes + 2

    right : Right b line (loaded T)
    right = rw e at (right-within b line (omega arith) (omega arith) text)

    built : Built b line T
    built = right.0

    -- a text that is too long does not load
    clash-long : ltb b.bytes (length text) ≡ true → length text ≤ b.bytes
    clash-long h = let z : refused 2 0 ≡ loaded T = rw h at e in clash refl (ap is_loaded (sym z))

-- ---- and larger bounds change nothing for it

-- what loading gives stays, but for 2 and 6
abbrev Stays : Loaded → Loaded → Type 0
Stays (refused n line) L = n ≢ 2 → n ≢ 6 → L ≡ refused n line
Stays (loaded T) L = L ≡ loaded T

same-stays : (K L : Loaded) → L ≡ K → Stays K L
same-stays (refused n line) L e = λ two six. e
same-stays (loaded T) L e = e

then-stays : (K L : Loaded) → Stays K L → Stays (then_checked K) (then_checked L)
then-stays (refused n line) L s = λ two six. ap then_checked (s two six)
then-stays (loaded T) L s = same-stays (then_checked (loaded T)) (then_checked L) (ap then_checked s)

below_wider : (n m m' : ℕ) → m ≤ m' → ltb n m ≡ true → ltb n m' ≡ true
below_wider n m m' le h = let k = ltb-true n m h in lt-ltb n m' (omega arith)

module _ (b b' : Bounds) (w : Wider b b') where
  room-wider : (T : Table) (l : Line) → has_room b T l ≡ true → has_room b' T l ≡ true
  room-wider T (package_line path) h = h
  room-wider T (type_line k) h = let m = w.types in below_wider (size T) _ _ (omega arith) h
  room-wider T (member_line name pkg type entity) h =
      let all = ltb (member_count T) b.members in
      let each = ltb (length (members_of (last_kind T))) max_per_type in
      let all' = below_wider (member_count T) b.members b'.members w.members (and_l all each h) in
      rw all' (and_r all each h)

  line_stays : (line : ℕ) (T : Table) (o : Option Line) → Stays (line_added b T line o) (line_added b' T line o)
  line_stays line T none = λ two six. refl
  line_stays line T (some l) =
      cases (in_place T l)
      (λ p. rw p (cases (has_room b T l) (λ r. let r' = room-wider T l r in rw (r, r')) (λ r. rw r (λ two six. absurd (six refl)))))
      (λ p. rw p (λ two six. refl))

  lines_stay : (line : ℕ) (T : Table) (ps : List Bytes) → Stays (lines_from b line T ps) (lines_from b' line T ps)
  unfolding lines_from
  lines_stay line T [] = refl
  lines_stay line T (last ∷ []) = cases (empty last) (λ e. rw e) (λ e. rw e (λ two six. refl))
  lines_stay line T (piece ∷ next ∷ rest) =
      let o = line_of (fields piece) in
      go (line_added b T line o) (line_added b' T line o) (line_stays line T o) (λ U. lines_stay (suc line) U (next ∷ rest))
    where
      go : (K L : Loaded) → Stays K L → ((U : Table) → Stays (lines_from b (suc line) U (next ∷ rest)) (lines_from b' (suc line) U (next ∷ rest)))
          → Stays (elim K [ refused n at ↦ refused n at | loaded U ↦ lines_from b (suc line) U (next ∷ rest) ])
          (elim L [ refused n at ↦ refused n at | loaded U ↦ lines_from b' (suc line) U (next ∷ rest) ])
      go (refused n at) L s on = λ two six. let e = s two six in rw e
      go (loaded U) L s on = rw s (on U)

  headed-stays : (ps : List Bytes) → Stays (headed b ps) (headed b' ps)
  headed-stays [] = λ two six. refl
  headed-stays (first ∷ []) = λ two six. refl
  headed-stays (first ∷ next ∷ rest) =
      cases (same_bytes first (ascii "typetable\t1"))
      (λ e. rw e (then-stays (lines_from b 2 no_table (next ∷ rest)) (lines_from b' 2 no_table (next ∷ rest)) (lines_stay 2 no_table (next ∷ rest))))
      (λ e. rw e (λ two six. refl))

  fits_wider : (n : ℕ) → n ≤ b.bytes → ltb b'.bytes n ≡ false
  fits_wider n h = let k = w.bytes in le-ltb b'.bytes n (omega arith)

  load-stays : (text : Bytes) → Stays (load_within b text) (load_within b' text)
  unfolding load_within
  load-stays text =
      cases (ltb b.bytes (length text))
      (λ e. rw e (λ two six. absurd (two refl)))
      (λ e. let e' = fits_wider (length text) (ltb-false b.bytes (length text) e) in rw (e, e') (headed-stays (pieces text)))

  -- ---- a text that loads

  pub load-wider : (text : Bytes) (T : Table) → load_within b text ≡ loaded T → load_within b' text ≡ loaded T
  load-wider text T e = rw e at (load-stays text)

  -- 3 to 5, and 7 to 10, which are tried on a table whose lines all have room
  pub refused-wider : (text : Bytes) (n line : ℕ) → load_within b text ≡ refused n line → n ≢ 2 → n ≢ 6 → load_within b' text ≡ refused n line
  refused-wider text n line e = rw e at (load-stays text)

  module _ (text : Bytes) (T : Table) (loads : load_within b text ≡ loaded T) where
    same_load : load_within b' text ≡ load_within b text
    same_load = load-wider text T loads ∙ sym loads

    pub outcome-wider : (question : Bytes) (room : ℕ) → outcome_within b' text question room ≡ outcome_within b text question room
    unfolding outcome_within
    outcome-wider question room = ap (λ L. fitted room (on_table (replied question) L)) same_load

    pub asked-wider : (question buffer : Bytes) (work : List ℕ) → asked_within b' text question buffer work ≡ asked_within b text question buffer work
    unfolding asked_within
    asked-wider question buffer work = rw (outcome-wider question (length buffer))

    pub asked-all-wider : (questions buffer : Bytes) (work : List ℕ) → asked_all_within b' text questions buffer work ≡ asked_all_within b text questions buffer work
    unfolding asked_all_within outcome_all_within
    asked-all-wider questions buffer work = rw same_load

  pub typeask-wider : (input : Bytes) (T : Table) → length input ≤ b.bytes → load_within b (input_of (pieces input)).table ≡ loaded T → typeask_within b' input ≡ typeask_within b input
  unfolding typeask_within
  typeask-wider input T fits loads =
      let i = input_of (pieces input) in
      rw (le-ltb b.bytes (length input) fits, fits_wider (length input) fits) (ap (λ L. printed_all L i.questions) (same_load i.table T loads))
