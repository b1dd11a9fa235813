-- What a reader's answer tells of the fields: r is the answer, y the definition that it equals.
use mathlib.Core.Path.{◌≡◌, refl, sym, ap, ◌∙◌}
use mathlib.Core.Bool.{Bool, true, false}
use mathlib.Core.List.{List, [], ◌∷◌}
use mathlib.Core.Option.{Option, none, some}
use Prim.Native.Nat.{ℕ, ◌-◌, ◌≤◌, ◌<◌}
use native.Mathlib.Omega.{arith}
use lib.ListN.{length, take, drop, length-take, length-drop}
use Rattle.objects.specs.Lists.{Bytes, when, mapped}
use Rattle.objects.proofs.ListLaws.{cases, clash}
use Rattle.text.specs.declared.Cursor.{Cursor}
use Rattle.std.specs.declared.option.Option as code
use Rattle.std.specs.Prelude.{Some, None}
use Rattle.text.specs.declared.Part.{Part}
use Rattle.text.specs.Bytes.{same_bytes, number}
use Rattle.text.specs.Readers.{field}
use Rattle.text.specs.Cursors.{part, fields_left, exactly, part_read, num_read, past_read}
use Rattle.text.specs.Runs.{Exact}
use Rattle.text.proofs.ByteLaws.{same_true}
use Rattle.text.proofs.Gives.{holds-some, number-max}

module _ (s : Bytes) {y : Option (Bytes × List Bytes)} (r : code.Option Part) (p : part_read s r ≡ y) where
  pub part-on : {p : Part} → r ≡ Some p → y ≡ some (part s p.from p.to, fields_left s p.rest)
  unfolding part_read
  part-on q = sym p ∙ ap (part_read s) q

  pub part_out : r ≡ None → y ≡ none
  unfolding part_read
  part_out q = sym p ∙ ap (part_read s) q

module _ (s : Bytes) {y : Option (ℕ × List Bytes)} (r : code.Option (ℕ × Cursor)) (p : num_read s r ≡ y) where
  pub num-on : {v : ℕ} {c : Cursor} → r ≡ Some (v, c) → y ≡ some (v, fields_left s c)
  unfolding num_read
  num-on q = sym p ∙ ap (num_read s) q

  pub num-out : r ≡ None → y ≡ none
  unfolding num_read
  num-out q = sym p ∙ ap (num_read s) q

module _ (s : Bytes) {y : Option (List Bytes)} (r : code.Option Cursor) (p : past_read s r ≡ y) where
  pub past-on : {c : Cursor} → r ≡ Some c → y ≡ some (fields_left s c)
  unfolding past_read
  past-on q = sym p ∙ ap (past_read s) q

  pub past-out : r ≡ None → y ≡ none
  unfolding past_read
  past-out q = sym p ∙ ap (past_read s) q

-- ---- what the definitions tell of the field that was read

pub none-some : {A : Type 0} {a : A} {C : Type 0} → ◌≡◌ {A = Option A} none (some a) → C
none-some e = let z : ◌≡◌ {A = Bool} true false = cc in clash refl z

pub field-some : {A : Type 0} (f : Bytes → Option A) (fs : List Bytes) {a : A} {rest : List Bytes} → field f fs ≡ some (a, rest)
    → (b : Bytes) × (fs ≡ b ∷ rest) × (f b ≡ some a)
field-some f [] h = none-some h
field-some {A} f (b ∷ fs) {a} {rest} h = go (f b) refl h
  where
    go : (o : Option A) → f b ≡ o → ◌≡◌ {A = Option (A × List Bytes)} (mapped (λ x. (x, fs)) o) (some (a, rest)) → (x : Bytes) × (b ∷ fs ≡ x ∷ rest) × (f x ≡ some a)
    go none e q = none-some q
    go (some x) e q =
        let p : ◌≡◌ {A = A × List Bytes} (x, fs) (a, rest) = cc in
        let y : x ≡ a = ap (λ z. z.0) p in
        let r : fs ≡ rest = ap (λ z. z.1) p in
        (b, ap (λ z. b ∷ z) r, e ∙ ap some y)

-- a field that passed a test is the value
pub passed : (P : Bytes → Bool) (fs : List Bytes) {x : Bytes} {rest : List Bytes} → field (λ b. when (P b) b) fs ≡ some (x, rest) → (fs ≡ x ∷ rest) × (P x ≡ true)
passed P fs {x} {rest} h = let r = field-some (λ b. when (P b) b) fs h in go r.0 r.1 (P r.0) refl r.2
  where
    go : (b : Bytes) → fs ≡ b ∷ rest → (t : Bool) → P b ≡ t → when t b ≡ some x → (fs ≡ x ∷ rest) × (P x ≡ true)
    go b q true e w = let y : b ≡ x = cc in (q ∙ ap (λ z. z ∷ rest) y, sym (ap P y) ∙ e)
    go b q false e w = none-some w

pub exactly-some : (w : Bytes) (fs : List Bytes) {rest : List Bytes} → exactly w fs ≡ some rest → fs ≡ w ∷ rest
unfolding exactly
exactly-some w [] h = none-some h
exactly-some w (b ∷ fs) {rest} h =
    cases (same_bytes b w)
    (λ e. let q : ◌≡◌ {A = Option (List Bytes)} (some fs) (some rest) = rw e at h in
    let r : fs ≡ rest = cc in
    let y = same_true b w e in
    cc)
    (λ e. none-some (let q : ◌≡◌ {A = Option (List Bytes)} none (some rest) = rw e at h in q))

-- a number that was read is at most max
pub number-below : (max : ℕ) (fs : List Bytes) {v : ℕ} {rest : List Bytes} → field (number max) fs ≡ some (v, rest) → v ≤ max
number-below max fs {v} h = let r = field-some (number max) fs h in holds-some (λ n. n ≤ max) (number max r.0) v r.2 (number-max max r.0)

-- ---- the places of a part

module _ (s : Bytes) (q : Part) (e : Exact s (Some q)) where
  pub exact-order : q.from ≤ q.to
  unfolding Exact
  exact-order = e.0

  pub exact-size : length (part s q.from q.to) ≡ q.to - q.from
  unfolding Exact
  exact-size = e.1

  -- a part that is not empty lies within the text
  pub exact-within : q.from < q.to → q.to ≤ length s
  unfolding part
  exact-within h =
      let a : length (take (q.to - q.from) (drop q.from s)) ≡ q.to - q.from = exact-size in
      let b = length-take (q.to - q.from) (drop q.from s) in
      let d = length-drop q.from s in
      omega arith
