-- The next field of a cursor is the bytes up to the first tab before its end, or up to the end, and the fields left are those of the cursor behind it.
use mathlib.Core.Path.{◌≡◌, refl, sym, ap, ◌∙◌}
use mathlib.Core.Bool.{Bool, true, false, cond, not, and-false}
use mathlib.Core.List.{List, [], ◌∷◌}
use mathlib.Core.Option.{Option, none, some}
use Prim.Native.Nat.{ℕ, ◌+◌, ◌-◌, ◌≤◌, ◌<◌}
use native.Mathlib.Omega.{arith}
use lib.Dec.{eqb}
use lib.ListN.{length, get_or, take, drop}
use lib.Seq.{length-take-le}
use borrow.Author.Tests.{eqb-true, not-false, le-leb, lt-leb}
use Rattle.objects.specs.Lists.{Bytes, every, empty, mapped}
use Rattle.objects.proofs.ListLaws.{cases, clash}
use Rattle.text.specs.declared.Cursor.{Cursor}
use Rattle.std.specs.declared.option.Option as code
use Rattle.std.specs.Prelude.{Some, None}
use Rattle.text.specs.declared.Part.{Part}
use Rattle.text.specs.Bytes.{between}
use Rattle.text.specs.Lines.{split, fields}
use Rattle.text.specs.Readers.{field}
use Rattle.text.specs.Cursors.{part, fields_left, part_read}
use Rattle.text.specs.Runs.{other, run_length, run_end, stop_at, past_of, past_tab, with_past, closed_at, Exact, run_read}
use Rattle.text.proofs.LineLaws.{split-first, split-next}
use Rattle.text.proofs.PartLaws.{part-next, part_none, part-take, part-drop}
use Rattle.text.proofs.RunLaws.{run-within, run-every, run-left, first-end, first-at, first-fails}

-- ---- what is left

pub left-more : (s : Bytes) (c : Cursor) → c.more ≡ true → fields_left s c ≡ fields (part s c.at c.end)
unfolding fields_left
left-more s c h = rw h

pub left-none : (s : Bytes) (c : Cursor) → c.more ≡ false → fields_left s c ≡ []
unfolding fields_left
left-none s c h = rw h

pub done-left : (s : Bytes) (c : Cursor) → empty (fields_left s c) ≡ not c.more
unfolding fields
done-left s c =
    cases c.more
    (λ e. rw (left-more s c e, e, (split-first 9 (part s c.at c.end)).2))
    (λ e. rw (left-none s c e, e))

-- ---- behind a field

module _ (s : Bytes) (to end : ℕ) where
  pub part-behind : {b : ℕ} {m : Bytes} → part s to end ≡ b ∷ m → part s (to + 1) end ≡ m
  part-behind q = sym (part-drop s to end 1) ∙ ap (drop 1) q

  pub past_end : part s to end ≡ [] → past_tab s to end ≡ Some (record { at = to; end = end; more = false })
  unfolding past_tab past_of
  past_end q = rw q

  pub past-tab : {b : ℕ} {m : Bytes} → part s to end ≡ b ∷ m → eqb b 9 ≡ true → past_tab s to end ≡ Some (record { at = to + 1; end = end; more = true })
  unfolding past_tab past_of
  past-tab q e = rw (q, e)

  pub past-wrong : {b : ℕ} {m : Bytes} → part s to end ≡ b ∷ m → eqb b 9 ≡ false → past_tab s to end ≡ None
  unfolding past_tab past_of
  past-wrong q e = rw (q, e)

-- the same with what the code has tested: stop is the end within the text, t whether the byte at `to` is a tab
module _ (s : Bytes) (to end : ℕ) {stop : ℕ} (ps : stop ≡ stop_at s end) where
  pub behind-end : stop ≤ to → past_tab s to end ≡ Some (record { at = to; end = end; more = false })
  behind-end h = past_end s to end (part_none s to end ps h)

  module _ (h : to < stop) {b : ℕ} {t : Bool} (pb : b ≡ get_or s to 0) (pt : t ≡ eqb b 9) where
    pub behind-tab : t ≡ true → past_tab s to end ≡ Some (record { at = to + 1; end = end; more = true })
    behind-tab e = past-tab s to end (part-next s to end ps h) (ap (λ x. eqb x 9) (sym pb) ∙ sym pt ∙ e)

    pub behind-wrong : t ≡ false → past_tab s to end ≡ None
    behind-wrong e = past-wrong s to end (part-next s to end ps h) (ap (λ x. eqb x 9) (sym pb) ∙ sym pt ∙ e)

-- ---- the next field, byte by byte

pub fields-end : fields [] ≡ [] ∷ []
unfolding fields split
fields-end = refl

pub fields-tab : (b : ℕ) (l : Bytes) → eqb b 9 ≡ true → fields (b ∷ l) ≡ [] ∷ fields l
unfolding fields split
fields-tab b l e = rw e

module _ {A : Type 0} where
  pub field-ext : (f g : Bytes → Option A) → ((b : Bytes) → f b ≡ g b) → (fs : List Bytes) → field f fs ≡ field g fs
  field-ext f g h [] = refl
  field-ext f g h (b ∷ fs) = rw (h b)

  -- a byte that is no tab belongs to the field
  pub fields-next : (f : Bytes → Option A) (b : ℕ) (l : Bytes) → eqb b 9 ≡ false → field f (fields (b ∷ l)) ≡ field (λ x. f (b ∷ x)) (fields l)
  unfolding fields
  fields-next f b l e = let r = split-first 9 l in rw (split-next 9 b l e r.2, r.2)

  -- a field that f reads nothing in, whatever it goes on with
  pub field-none : (f : Bytes → Option A) → ((b : Bytes) → f b ≡ none) → (fs : List Bytes) → field f fs ≡ none
  field-none f h [] = refl
  field-none f h (b ∷ fs) = rw (h b)

  -- the field that ends at a place is empty from there; one that goes on has a byte more
  module _ (f : Bytes → Option A) where
    pub past-empty : (s : Bytes) (to end : ℕ) {c : Cursor} → past_tab s to end ≡ Some c → field f (fields (part s to end)) ≡ mapped (λ a. (a, fields_left s c)) (f [])
    past-empty s to end {c} h = go (part s to end) refl
      where
        go : (l : Bytes) → part s to end ≡ l → field f (fields (part s to end)) ≡ mapped (λ a. (a, fields_left s c)) (f [])
        go [] q =
            let z : c ≡ record { at = to; end = end; more = false } = cc (h, past_end s to end q) in
            rw (q, fields-end, z, left-none s (record { at = to; end = end; more = false }) refl)
        go (b ∷ l) q =
            cases (eqb b 9)
            (λ e.
            let z : c ≡ record { at = to + 1; end = end; more = true } = cc (h, past-tab s to end q e) in
            rw (q, fields-tab b l e, z, left-more s (record { at = to + 1; end = end; more = true }) refl, part-behind s to end q))
            (λ e. let z : ◌≡◌ {A = Bool} true false = cc (h, past-wrong s to end q e) in clash refl z)

    pub past-byte : ((b : ℕ) (x : Bytes) → f (b ∷ x) ≡ none) → (s : Bytes) (to end : ℕ) → past_tab s to end ≡ None → field f (fields (part s to end)) ≡ none
    past-byte n s to end h = go (part s to end) refl
      where
        go : (l : Bytes) → part s to end ≡ l → field f (fields (part s to end)) ≡ none
        go [] q = let z : ◌≡◌ {A = Bool} true false = cc (h, past_end s to end q) in clash refl z
        go (b ∷ l) q =
            cases (eqb b 9)
            (λ e. let z : ◌≡◌ {A = Bool} true false = cc (h, past-tab s to end q e) in clash refl z)
            (λ e. rw q (fields-next f b l e ∙ field-none (λ x. f (b ∷ x)) (n b) (fields l)))

-- ---- the next field: the run of a test that no tab passes, if the field ends behind it

module _ (p : ℕ → Bool) (n : p 9 ≡ false) (s : Bytes) (at end : ℕ) where
  -- the run, and what stands behind it
  run-part : part s at (run_end p s at end) ≡ take (run_length p (part s at end)) (part s at end)
  unfolding run_end
  run-part = part-take s at end (run_length p (part s at end)) (run-within p (part s at end))

  run-rest : drop (run_length p (part s at end)) (part s at end) ≡ part s (run_end p s at end) end
  unfolding run_end
  run-rest = part-drop s at end (run_length p (part s at end))

  pub run-passes : every p (part s at (run_end p s at end)) ≡ true
  run-passes = ap (every p) run-part ∙ run-every p (part s at end)

  pub run-size : length (part s at (run_end p s at end)) ≡ run_end p s at end - at
  unfolding run_end
  run-size =
      let h = run-within p (part s at end) in
      let z : at + run_length p (part s at end) - at ≡ run_length p (part s at end) = omega arith in
      ap length run-part ∙ length-take-le (run_length p (part s at end)) (part s at end) h ∙ sym z

  pub run-exact : (at ≤ run_end p s at end) × (length (part s at (run_end p s at end)) ≡ run_end p s at end - at)
  unfolding run_end
  run-exact = (omega arith, run-size)

  pub run-closes : {c : Cursor} → past_tab s (run_end p s at end) end ≡ Some c
      → fields (part s at end) ≡ part s at (run_end p s at end) ∷ fields_left s c
  unfolding fields
  run-closes {c} h = go (part s (run_end p s at end) end) refl
    where
      go : (d : Bytes) → part s (run_end p s at end) end ≡ d → split 9 (part s at end) ≡ part s at (run_end p s at end) ∷ fields_left s c
      go [] q =
          let z : c ≡ record { at = run_end p s at end; end = end; more = false } = cc (h, past_end s (run_end p s at end) end q) in
          rw (run-part, z, left-none s (record { at = run_end p s at end; end = end; more = false }) refl)
          (first-end 9 p n (part s at end) (run-rest ∙ q))
      go (b ∷ m) q =
          cases (eqb b 9)
          (λ e.
          let z : c ≡ record { at = run_end p s at end + 1; end = end; more = true } = cc (h, past-tab s (run_end p s at end) end q e) in
          let y : drop (run_length p (part s at end)) (part s at end) ≡ 9 ∷ m = run-rest ∙ q ∙ ap (λ x. x ∷ m) (eqb-true b 9 e) in
          let w : fields (part s (run_end p s at end + 1) end) ≡ split 9 m = ap fields (part-behind s (run_end p s at end) end q) in
          rw (run-part, z, left-more s (record { at = run_end p s at end + 1; end = end; more = true }) refl, w)
          (first-at 9 p n (part s at end) y))
          (λ e. let z : ◌≡◌ {A = Bool} true false = cc (h, past-wrong s (run_end p s at end) end q e) in clash refl z)

  -- else a byte that fails the test stands in the field
  pub run-fails : past_tab s (run_end p s at end) end ≡ None
      → (x : Bytes) × (rest : List Bytes) × (fields (part s at end) ≡ x ∷ rest) × (every p x ≡ false)
  unfolding fields
  run-fails h = go (part s (run_end p s at end) end) refl
    where
      go : (d : Bytes) → part s (run_end p s at end) end ≡ d
          → (x : Bytes) × (rest : List Bytes) × (split 9 (part s at end) ≡ x ∷ rest) × (every p x ≡ false)
      go [] q = let z : ◌≡◌ {A = Bool} true false = cc (h, past_end s (run_end p s at end) end q) in clash refl z
      go (b ∷ m) q =
          cases (eqb b 9)
          (λ e. let z : ◌≡◌ {A = Bool} true false = cc (h, past-tab s (run_end p s at end) end q e) in clash refl z)
          (λ e. first-fails 9 p n (part s at end) (run-rest ∙ q) e)

-- up to the first tab the field always ends
pub tab-closes : (s : Bytes) (at end : ℕ) → past_tab s (run_end (other 9) s at end) end ≡ None → ⊥
unfolding other
tab-closes s at end h = go (part s (run_end (other 9) s at end) end) refl
  where
    go : (d : Bytes) → part s (run_end (other 9) s at end) end ≡ d → ⊥
    go [] q = let z : ◌≡◌ {A = ℕ} 0 1 = cc (h, past_end s (run_end (other 9) s at end) end q) in omega arith
    go (b ∷ m) q =
        let e = not-false (eqb b 9) (run-left (other 9) (part s at end) (run-rest (other 9) refl s at end ∙ q)) in
        let z : ◌≡◌ {A = ℕ} 0 1 = cc (h, past-tab s (run_end (other 9) s at end) end q e) in
        omega arith

-- ---- the readers of one field

-- no field is left
pub none_left : {A : Type 0} (s : Bytes) (c : Cursor) (f : Bytes → Option A) → c.more ≡ false → field f (fields_left s c) ≡ none
none_left s c f h = rw (left-none s c h)

module _ (s : Bytes) (c : Cursor) (m : c.more ≡ true) {to : ℕ} {past : code.Option Cursor} (pe : to ≡ run_end (other 9) s c.at c.end) (pp : past ≡ past_tab s to c.end) where
  pub field_is : {d : Cursor} → past ≡ Some d → part_read s (Some (record { from = c.at; to = to; rest = d })) ≡ field some (fields_left s c)
  unfolding part_read other
  field_is {d} q =
      let h : past_tab s (run_end (other 9) s c.at c.end) c.end ≡ Some d = cc in
      rw (left-more s c m, run-closes (other 9) refl s c.at c.end h, pe)

  pub field-never : past ≡ None → ⊥
  field-never q = tab-closes s c.at c.end (cc)

-- a field's places are those of its bytes
pub wrong-exact : (s : Bytes) → Exact s None
unfolding Exact
wrong-exact s = tt

pub field-exact : (s : Bytes) (c : Cursor) {to : ℕ} (d : Cursor) → to ≡ run_end (other 9) s c.at c.end → Exact s (Some (record { from = c.at; to = to; rest = d }))
unfolding Exact other
field-exact s c d pe = rw pe (run-exact (other 9) refl s c.at c.end)

-- `closed`, by what the code has tested
module _ (s : Bytes) (c : Cursor) (to max : ℕ) where
  pub closed_none : c.more ≡ false → closed_at s c to max ≡ None
  unfolding closed_at
  closed_none m = rw m

  module _ (m : c.more ≡ true) where
    pub closed-short : to ≤ c.at → closed_at s c to max ≡ None
    unfolding closed_at
    closed-short h = let z : to - c.at < 1 = omega arith in rw (m, lt-leb 1 (to - c.at) z)

    pub closed-long : max < to - c.at → closed_at s c to max ≡ None
    unfolding closed_at
    closed-long h = rw (m, lt-leb (to - c.at) max h, and-false)

    module _ (h : c.at < to) (k : to - c.at ≤ max) {past : code.Option Cursor} (pp : past ≡ past_tab s to c.end) where
      closes : closed_at s c to max ≡ with_past c.at to past
      unfolding closed_at
      closes = let z : 1 ≤ to - c.at = omega arith in rw (m, le-leb 1 (to - c.at) z, le-leb (to - c.at) max k, pp)

      pub closed_is : {d : Cursor} → past ≡ Some d → closed_at s c to max ≡ Some (record { from = c.at; to = to; rest = d })
      unfolding with_past
      closed_is q = closes ∙ rw q

      pub closed_on : past ≡ None → closed_at s c to max ≡ None
      unfolding with_past
      closed_on q = closes ∙ rw q

-- so a run of allowed bytes is read, if it is the whole field and has 1 to max bytes
module _ (p : ℕ → Bool) (n : p 9 ≡ false) (s : Bytes) (c : Cursor) (max : ℕ) where
  run-closed : part_read s (closed_at s c (run_end p s c.at c.end) max) ≡ field (run_read p max) (fields_left s c)
  unfolding closed_at with_past part_read run_read
  run-closed =
      cases c.more
      (λ m. rw (left-more s c m, m) (go (past_tab s (run_end p s c.at c.end) c.end) refl))
      (λ m. rw (left-none s c m, m))
    where
      go : (past : code.Option Cursor) → past_tab s (run_end p s c.at c.end) c.end ≡ past
          → part_read s (cond (between 1 max (run_end p s c.at c.end - c.at)) (with_past c.at (run_end p s c.at c.end) (past_tab s (run_end p s c.at c.end) c.end)) None) ≡ field (run_read p max) (fields (part s c.at c.end))
      go (Some d) h =
          cases (between 1 max (run_end p s c.at c.end - c.at))
          (λ e. rw (h, run-closes p n s c.at c.end h, run-passes p n s c.at c.end, run-size p n s c.at c.end, e))
          (λ e. rw (run-closes p n s c.at c.end h, run-size p n s c.at c.end, e))
      go None h =
          let r = run-fails p n s c.at c.end h in
          cases (between 1 max (run_end p s c.at c.end - c.at))
          (λ e. rw (h, r.2, r.3, e, and-false))
          (λ e. rw (r.2, r.3, e, and-false))

  pub closed-reads : {to : ℕ} {r : code.Option Part} → to ≡ run_end p s c.at c.end → r ≡ closed_at s c to max → part_read s r ≡ field (run_read p max) (fields_left s c)
  closed-reads pe pr = rw (pr, pe) run-closed

  run-closed-exact : Exact s (closed_at s c (run_end p s c.at c.end) max)
  unfolding closed_at with_past Exact
  run-closed-exact =
      cases c.more
      (λ m. cases (between 1 max (run_end p s c.at c.end - c.at))
      (λ e. rw (m, e) (go (past_tab s (run_end p s c.at c.end) c.end)))
      (λ e. rw (m, e) tt))
      (λ m. rw m tt)
    where
      go : (past : code.Option Cursor) → Exact s (with_past c.at (run_end p s c.at c.end) past)
      go (Some d) = run-exact p n s c.at c.end
      go None = tt

  pub closed-exact : {to : ℕ} {r : code.Option Part} → to ≡ run_end p s c.at c.end → r ≡ closed_at s c to max → Exact s r
  closed-exact pe pr = rw (pr, pe) run-closed-exact
