-- Marks on the way through a table (specs/Marks.antt): the fields of structs, the members above a line, and that a line without marks does not clash.
use mathlib.Core.Path.{◌≡◌, refl, sym, ◌∙◌}
use mathlib.Core.Bool.{Bool, true, false, not, ◌&&◌, ◌||◌}
use mathlib.Core.List.{List}
use Prim.Native.Nat.{ℕ, zero, suc, ◌+◌, ◌<◌, ◌≤◌}
use lib.Dec.{eqb}
use lib.ListN.{set, take, replicate}
use borrow.Author.Tests.{eqb-true, eqb-false, eq-eqb, ne_eqb}
use Rattle.objects.specs.declared.TypeKey.{TypeKey}
use Rattle.objects.specs.Lists.{Bytes, any}
use Rattle.objects.specs.Table.{Table, Member, type_key, obj_key, members_of, fields_of, kind_at}
use Rattle.objects.specs.Rows.{Words, word_at, type_count, type_word, member_at, members_from, table_of}
use Rattle.objects.specs.Types.{number_read, first_read, total_read}
use Rattle.objects.proofs.ListLaws.{cases, any_none, and_l, or_l, or_r}
use Rattle.objects.proofs.BoolLaws.{false_of}
use Rattle.objects.proofs.KeyLaws.{key-eq}
use Rattle.objects.proofs.RowLaws.{fields_read, kind-beyond}
use Rattle.objects.proofs.Stores.{word_kept}
use Rattle.text.specs.Bytes.{same_bytes, is_blank}
use Rattle.text.specs.Hash.{hash_from}
use Rattle.text.proofs.ByteLaws.{same_true}
use Rattle.rules.specs.Members.{same_path, same_id, identity_from, identity_of, same_member}
use Rattle.rules.specs.Checks.{member_item, clashing}
use Rattle.references.specs.Lines.{lines_read}
use Rattle.clashes.specs.Marks.{place_of, fields_number, MarkedAt, Marked, Grows, AllMarked, Met, Noted, FieldsMarked, Ready, Readied, Seen, Prepared, Looked}
use Rattle.clashes.proofs.MarkLaws.{grown-mark, all-on}
use Rattle.clashes.proofs.ClashLaws.{clashes-named, clashes-other}

-- ---- a name without its mark

and_none : (a : Bool) → a && false ≡ false
and_none true = refl
and_none false = refl

same_names : (T : Table) (m x : Member) → same_member T m x ≡ true → m.name ≡ x.name
unfolding same_id identity_of identity_from
same_names T m x e = same_true m.name x.name (and_l (same_bytes m.name x.name) (same_path (identity_of T m).path (identity_of T x).path) e)

none-same-name : (T : Table) (m : Member) (ms : List Member) (marks : Words) (k : ℕ) → AllMarked marks k ms → (Marked marks k m.name → ⊥) → any (same_member T m) ms ≡ false
none-same-name T m ms marks k all new = any_none (same_member T m) ms (λ x j. false_of (same_member T m x) (λ e. new (rw (same_names T m x e) (all x j))))

unmarked : (marks : Words) (k : ℕ) (name : Bytes) {h p : ℕ} → h ≡ hash_from 0 name → p ≡ place_of k h → (MarkedAt marks p → ⊥) → Marked marks k name → ⊥
unfolding Marked
unmarked marks k name eh ep new m = new (rw (ep, eh) m)

-- ---- the fields of a struct

module _ (text : Bytes) (rows : Words) (u : TypeKey) where
  module _ (h : u.0 < type_count rows) {n : ℕ} (pn : n ≡ number_read rows u) (marks : Words) where
    pub noted-fields : n ≡ 8 → (after : Words) {k : ℕ} → k ≡ fields_number u.0 → {first c : ℕ} → first ≡ first_read rows u → c ≡ total_read rows u
        → Noted marks k (members_from text rows first c) after → Noted marks (fields_number u.0) (fields_of (kind_at (table_of text rows) u)) after
    noted-fields q after ek pf pc e = rw (fields_read text rows u h, eq-eqb (number_read rows u) 8 (sym pn ∙ q), ← pf, ← pc, ← ek) e

    pub noted-no-fields : (n ≡ 8 → ⊥) → Noted marks (fields_number u.0) (fields_of (kind_at (table_of text rows) u)) marks
    noted-no-fields o = record { grows = λ i l. l; all = λ x j. absurd (rw (fields_read text rows u h, ne_eqb (number_read rows u) 8 (λ q. o (pn ∙ q))) at j) }

  -- a type that the table lacks has none
  pub readied-beyond : (marks done : Words) → Ready text rows marks done → {n : ℕ} → n ≡ type_count rows → n ≤ u.0 → Readied text rows u marks done
  unfolding FieldsMarked
  readied-beyond marks done r e l = record { ready = r; fields = λ x j. absurd (rw (kind-beyond text rows u (rw e at l)) at j) }

  pub readied-before : (marks done : Words) → Ready text rows marks done → {d : ℕ} → d ≡ word_at done u.0 → (d ≡ 0 → ⊥) → Readied text rows u marks done
  readied-before marks done r e n = record { ready = r; fields = r u (λ z. n (e ∙ z)) }

  pub readied-now : (marks after done : Words) → Ready text rows marks done → Noted marks (fields_number u.0) (fields_of (kind_at (table_of text rows) u)) after → Readied text rows u after (set done u.0 1)
  unfolding FieldsMarked
  readied-now marks after done r n = record {
    ready = λ v w. cases (eqb v.0 u.0)
        (λ e. let q : v ≡ u = key-eq v u (eqb-true v.0 u.0 e) in rw q n.all)
        (λ e x j. grown-mark marks after n.grows (fields_number v.0) x.name (r v (λ z. w (word_kept done u.0 1 v.0 (eqb-false v.0 u.0 e) ∙ z)) x j));
    fields = n.all;
  }

zero_word : (n x : ℕ) → word_at (replicate n 0) x ≡ 0
unfolding word_at
zero_word zero x = refl
zero_word (suc n) zero = refl
zero_word (suc n) (suc x) = zero_word n x

-- none is marked at the start
pub ready-start : (text : Bytes) (rows marks : Words) (n : ℕ) → Ready text rows marks (replicate n 0)
ready-start text rows marks n u w = absurd (w (zero_word n u.0))

module _ (text : Bytes) (rows marks after : Words) (g : Grows marks after) where
  fields-grown : (u : TypeKey) → FieldsMarked text rows marks u → FieldsMarked text rows after u
  unfolding FieldsMarked
  fields-grown u f x j = grown-mark marks after g (fields_number u.0) x.name (f x j)

  pub ready-grown : (done : Words) → Ready text rows marks done → Ready text rows after done
  ready-grown done r u w = fields-grown u (r u w)

-- ---- before the first member

module _ (text : Bytes) (rows : Words) (t : TypeKey) {n : ℕ} (pn : n ≡ number_read rows t) (marks done : Words) where
  pub prepared-named : {w : ℕ} → w ≡ type_word rows t 1 → Readied text rows (type_key w) marks done → Prepared text rows t marks done
  unfolding members_from
  prepared-named e r = record { ready = r.ready; seen = record { own = λ _ x j. absurd j; fields = λ _. rw e at r.fields } }

  pub prepared-other : (n ≡ 10 → ⊥) → Ready text rows marks done → Prepared text rows t marks done
  unfolding members_from
  prepared-other o r = record { ready = r; seen = record { own = λ _ x j. absurd j; fields = λ e. absurd (o (pn ∙ e)) } }

-- ---- a field's mark is looked for

module _ (rows marks : Words) (t : TypeKey) (h : ℕ) where
  pub field-looked : {w k p : ℕ} → w ≡ type_word rows t 1 → k ≡ fields_number w → p ≡ place_of k h → {r : Bool} → (r ≡ false → MarkedAt marks p → ⊥)
      → r ≡ false → number_read rows t ≡ 10 → MarkedAt marks (place_of (fields_number (type_word rows t 1)) h) → ⊥
  field-looked ew ek ep f e _ m = f e (rw (ep, ek, ew) m)

-- ---- one line

module _ (text : Bytes) (rows : Words) (t : TypeKey) (h : t.0 < type_count rows) (i : ℕ) (l : i < lines_read rows t) (marks : Words) (s : Seen text rows marks t i) where
  -- an interface's methods have no marks
  pub looked-iface : {k : ℕ} → k ≡ number_read rows t → k ≡ 9 → {r : Bool}
      → r ≡ clashing (table_of text rows) (member_item t (kind_at (table_of text rows) t) (take i (members_of (kind_at (table_of text rows) t))) (member_at text rows (obj_key (first_read rows t + i))))
      → Looked text rows marks t i r marks
  looked-iface pk e a = record { answer = a; grows = λ j m. m; seen = record { own = λ n. absurd (n (sym pk ∙ e)); fields = s.fields } }

  module _ {first : ℕ} (pf : first ≡ first_read rows t) {hash : ℕ} (eh : hash ≡ hash_from 0 (member_at text rows (obj_key (first + i))).name) {p : ℕ} (ep : p ≡ place_of t.0 hash)
      (after : Words) {own : Bool} (m : Met marks p after own) where
    hash-here : hash ≡ hash_from 0 (member_at text rows (obj_key (first_read rows t + i))).name
    hash-here = rw (← pf) eh

    seen-on : Seen text rows after t (i + 1)
    seen-on = record {
      own = λ n. all-on text rows t.0 (first_read rows t) i hash-here ep marks after m (s.own n);
      fields = λ e. fields-grown text rows marks after m.grows (type_key (type_word rows t 1)) (s.fields e);
    }

    pub looked-compared : {r : Bool}
        → r ≡ clashing (table_of text rows) (member_item t (kind_at (table_of text rows) t) (take i (members_of (kind_at (table_of text rows) t))) (member_at text rows (obj_key (first_read rows t + i))))
        → Looked text rows marks t i r after
    looked-compared a = record { answer = a; grows = m.grows; seen = seen-on }

    module _ {k : ℕ} (pk : k ≡ number_read rows t) (ne : k ≡ 9 → ⊥) {field : Bool}
        (pe : field ≡ false → number_read rows t ≡ 10 → MarkedAt marks (place_of (fields_number (type_word rows t 1)) hash) → ⊥)
        {r : Bool} (er : r ≡ own || field) (z : r ≡ false) where
      abbrev T : Table
      T = table_of text rows

      abbrev x : Member
      x = member_at text rows (obj_key (first_read rows t + i))

      none_above : any (same_member T x) (members_from text rows (first_read rows t) i) ≡ false
      none_above =
          none-same-name T x (members_from text rows (first_read rows t) i) marks t.0 (s.own (λ e. ne (pk ∙ e)))
          (unmarked marks t.0 x.name hash-here ep (m.new (or_l own field (sym er ∙ z))))

      again : false ≡ not (is_blank x.name) && any (same_member T x) (members_from text rows (first_read rows t) i)
      again = rw none_above (sym (and_none (not (is_blank x.name))))

      none-field : number_read rows t ≡ 10 → any (same_member T x) (fields_of (kind_at T (type_key (type_word rows t 1)))) ≡ false
      unfolding FieldsMarked
      none-field e =
          none-same-name T x (fields_of (kind_at T (type_key (type_word rows t 1)))) marks (fields_number (type_word rows t 1)) (s.fields e)
          (unmarked marks (fields_number (type_word rows t 1)) x.name hash-here refl (pe (or_r own field (sym er ∙ z)) e))

      pub looked-new : Looked text rows marks t i false after
      looked-new = record {
        answer = cases (eqb (number_read rows t) 10)
            (λ e. let q = eqb-true (number_read rows t) 10 e in clashes-named text rows t h i l refl again refl q refl (sym (none-field q)))
            (λ e. clashes-other text rows t h i l refl again refl (λ q. ne (pk ∙ q)) (eqb-false (number_read rows t) 10 e));
        grows = m.grows;
        seen = seen-on;
      }
