-- What an answer tells of a line's steps (specs/Steps.antt): r is the answer, y the definition that it equals, f what follows.
use mathlib.Core.Path.{◌≡◌, refl, sym, ap, ◌∙◌}
use mathlib.Core.Bool.{Bool, true, false, not}
use mathlib.Core.List.{List, [], ◌∷◌}
use mathlib.Core.Option.{Option, none, some}
use Prim.Native.Nat.{ℕ, suc, ◌+◌, ◌≤◌}
use native.Mathlib.Omega.{arith}
use lib.ListN.{length}
use Rattle.objects.specs.declared.TypeKey.{TypeKey}
use Rattle.objects.specs.declared.PackageKey.{PackageKey}
use Rattle.std.specs.declared.option.Option as code
use Rattle.std.specs.Prelude.{Some, None}
use Rattle.std.specs.Bool.{then_some}
use Rattle.objects.specs.Lists.{Bytes, empty, mapped}
use Rattle.objects.specs.Table.{type_key}
use Rattle.objects.specs.Rows.{bytes_at, package_meant}
use Rattle.objects.proofs.ListLaws.{cases, clash}
use Rattle.text.specs.declared.Cursor.{Cursor}
use Rattle.text.specs.Bytes.{same_bytes}
use Rattle.text.specs.Readers.{done}
use Rattle.text.specs.Cursors.{fields_left, exactly, past_read}
use Rattle.text.proofs.ByteLaws.{same_refl}
use Rattle.text.proofs.FieldLaws.{done-left}
use Rattle.text.proofs.AnswerLaws.{past-on, past-out, none-some, exactly-some}
use Rattle.rules.specs.Forms.{Line}
use Rattle.line_forms.specs.declared.Piece.{Piece}
use Rattle.line_forms.specs.declared.Typed.{Typed}
use Rattle.line_forms.specs.declared.Form.{Form}
use Rattle.line_forms.specs.Steps.{next, ended, tried}
use Rattle.line_forms.specs.Weights.{weight}
use Rattle.line_forms.specs.Forms.{small_read, piece_read, packaged_read, typed_read, form_meant, unread, form_read}

-- ---- one step

module _ {A B : Type 0} (f : A → List Bytes → Option B) {y : Option (A × List Bytes)} where
  pub next-on : {a : A} {fs : List Bytes} → y ≡ some (a, fs) → next y f ≡ f a fs
  unfolding next
  next-on e = rw e

  pub next-out : y ≡ none → next y f ≡ none
  unfolding next
  next-out e = rw e

module _ (s : Bytes) {B : Type 0} where
  module _ (f : ℕ → List Bytes → Option B) {r : code.Option (ℕ × Cursor)} {y : Option (ℕ × List Bytes)} (p : small_read s r ≡ y) where
    pub small-on : {v : ℕ} {c : Cursor} → r ≡ Some (v, c) → next y f ≡ f v (fields_left s c)
    unfolding small_read
    small-on q = next-on f (sym p ∙ ap (small_read s) q)

    pub small-out : r ≡ None → next y f ≡ none
    unfolding small_read
    small-out q = next-out f (sym p ∙ ap (small_read s) q)

  module _ (f : Option PackageKey → List Bytes → Option B) {r : code.Option (code.Option PackageKey × Cursor)} {y : Option (Option PackageKey × List Bytes)} (p : packaged_read s r ≡ y) where
    pub package-on : {pkg : code.Option PackageKey} {c : Cursor} → r ≡ Some (pkg, c) → next y f ≡ f (package_meant pkg) (fields_left s c)
    unfolding packaged_read
    package-on q = next-on f (sym p ∙ ap (packaged_read s) q)

    pub package-out : r ≡ None → next y f ≡ none
    unfolding packaged_read
    package-out q = next-out f (sym p ∙ ap (packaged_read s) q)

  module _ (f : Bytes → List Bytes → Option B) {r : code.Option Piece} {y : Option (Bytes × List Bytes)} (p : piece_read s r ≡ y) where
    pub piece-on : {x : Piece} → r ≡ Some x → next y f ≡ f (bytes_at s x.at x.len) (fields_left s x.rest)
    unfolding piece_read
    piece-on q = next-on f (sym p ∙ ap (piece_read s) q)

    pub piece-out : r ≡ None → next y f ≡ none
    unfolding piece_read
    piece-out q = next-out f (sym p ∙ ap (piece_read s) q)

  module _ (f : (Option PackageKey × TypeKey × ℕ) → List Bytes → Option B) {r : code.Option Typed} {y : Option ((Option PackageKey × TypeKey × ℕ) × List Bytes)} (p : typed_read s r ≡ y) where
    pub typed-on : {x : Typed} → r ≡ Some x → next y f ≡ f (package_meant x.pkg, type_key x.t, x.bit) (fields_left s x.rest)
    unfolding typed_read
    typed-on q = next-on f (sym p ∙ ap (typed_read s) q)

    pub typed-out : r ≡ None → next y f ≡ none
    unfolding typed_read
    typed-out q = next-out f (sym p ∙ ap (typed_read s) q)

-- ---- the end of the line

module _ (s : Bytes) {A : Type 0} (a : A) (c : Cursor) {t : Bool} (p : t ≡ not c.more) where
  pub ended-yes : t ≡ true → ended a (fields_left s c) ≡ some (a, [])
  unfolding ended
  ended-yes e = go (fields_left s c) (done-left s c ∙ sym p ∙ e)
    where
      go : (l : List Bytes) → empty l ≡ true → done a l ≡ some (a, [])
      go [] h = refl
      go (b ∷ l) h = clash h refl

  pub ended-no : t ≡ false → ended a (fields_left s c) ≡ none
  unfolding ended
  ended-no e = go (fields_left s c) (done-left s c ∙ sym p ∙ e)
    where
      go : (l : List Bytes) → empty l ≡ false → done a l ≡ none
      go [] h = clash refl h
      go (b ∷ l) h = refl

-- a form, if no field is left
pub form-ended : (s : Bytes) (f : Form) (c : Cursor) {l : Line} → form_meant s (Some f) ≡ some l → {t : Bool} → t ≡ not c.more → {r : code.Option Form} → r ≡ then_some t f
    → form_read s r ≡ ended l (fields_left s c)
unfolding form_read form_meant
form-ended s f c {l} m {t} p {r} q =
    cases t
    (λ e. let k : r ≡ Some f = rw e at q in rw (k, m) (sym (ended-yes s l c p e)))
    (λ e. let k : r ≡ None = rw e at q in rw k (sym (ended-no s l c p e)))

-- and it leaves nothing unread, if it is no tuple
pub unread-ended : (s : Bytes) (f : Form) → unread s (Some f) ≡ 0 → (t : Bool) → {r : code.Option Form} → r ≡ then_some t f → unread s r ≡ 0
unfolding unread
unread-ended s f z t {r} q =
    cases t (λ e. let k : r ≡ Some f = rw e at q in rw k z) (λ e. let k : r ≡ None = rw e at q in rw k)

-- or none at all
module _ (s : Bytes) {r : code.Option Form} (q : r ≡ None) where
  pub form-out : {y : Option (Line × List Bytes)} → y ≡ none → form_read s r ≡ y
  unfolding form_read form_meant
  form-out e = rw (q, e)

  pub unread-out : unread s r ≡ 0
  unfolding unread
  unread-out = rw q

-- ---- a letter or a kind's word

module _ (s : Bytes) {A : Type 0} (w : Bytes) (fs : List Bytes) (on : List Bytes → A) (off : A) {r : code.Option Cursor} (p : past_read s r ≡ exactly w fs) where
  pub tried-on : {c : Cursor} → r ≡ Some c → tried w fs on off ≡ on (fields_left s c)
  unfolding tried
  tried-on q = rw (exactly-some w fs (past-on s r p q), same_refl w)

  pub tried-out : r ≡ None → tried w fs on off ≡ off
  unfolding tried exactly
  tried-out q = go fs (past-out s r p q)
    where
      go : (l : List Bytes) → exactly w l ≡ none → tried w l on off ≡ off
      go [] h = refl
      go (b ∷ l) h = cases (same_bytes b w) (λ e. none-some (sym (rw e at h))) (λ e. rw e)

-- what stands behind it weighs less by the word
pub word-takes : (s w : Bytes) (fs : List Bytes) {r : code.Option Cursor} → past_read s r ≡ exactly w fs → {c : Cursor} → r ≡ Some c → suc (length w) + weight (fields_left s c) ≤ weight fs
word-takes s w fs {r} p {c} q = let e = ap weight (exactly-some w fs (past-on s r p q)) in omega arith

-- ---- a form

-- the line of a form, and that it leaves no field
pub read-meant : (s : Bytes) (r : code.Option Form) → mapped (λ p. p.0) (form_read s r) ≡ form_meant s r
unfolding form_read
read-meant s r = go (form_meant s r)
  where
    go : (o : Option Line) → mapped (λ p. p.0) (mapped {A = Line} {B = Line × List Bytes} (λ l. (l, [])) o) ≡ o
    go none = refl
    go (some l) = refl
