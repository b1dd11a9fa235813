-- Selection around the search by levels: the blank name, pointers to interfaces, named pointer types; and the ways of the table's graph as the rules'.
use mathlib.Core.Path.{◌≡◌, refl, sym, ap, ◌∙◌, subst}
use mathlib.Core.Bool.{Bool, true, false, cond, ◌&&◌}
use Prim.Native.Nat.{ℕ, ◌<◌}
use native.Mathlib.Omega.{arith}
use lib.ListN.{take, drop}
use borrow.Author.Tests.{not-true}
use Rattle.objects.specs.declared.TypeKey.{TypeKey}
use Rattle.objects.specs.declared.ObjKey.{ObjKey}
use Rattle.objects.specs.Lists.{Bytes}
use Rattle.objects.specs.Table.{bare, pointer_at, iface_under, named_pointer}
use Rattle.objects.specs.Rows.{Words, type_count, bytes_at, table_of}
use Rattle.objects.specs.Types.{pointer_read, bare_read, under_read, iface_read, named_pointer_read, method_read}
use Rattle.objects.proofs.RowLaws.{size-read, pointer-read, bare-read, under-read, iface-read, named-pointer-read, method-meant}
use Rattle.text.specs.Bytes.{ascii, same_bytes, is_blank}
use Rattle.rules.specs.Members.{Identity, identity_from}
use Rattle.rules.specs.Library.{Library}
use Rattle.rules.specs.Sound.{Sound}
use Rattle.rules.specs.Ways.{Selected, notfound, no_method, searched, select}
use Rattle.rules.proofs.Sounds.{library-sound}
use Rattle.obj.specs.Ids.{asked_id}
use Rattle.ways.specs.Graph as over
use Rattle.ways.specs.OfTable.{graph}
use Rattle.ways.proofs.Selects.{select-says}
use Rattle.ways.proofs.TableLaws.{bare-in}
use Rattle.selection.specs.declared.Name.{Name}
use Rattle.selection.specs.declared.Entity.{Entity}
use Rattle.selection.specs.declared.LookupResult.{LookupResult}
use Rattle.selection.specs.declared.Selection.{Selection}
use Rattle.selection.specs.Results.{name_meant, key_of, result_meant, called_right, Typed, Selects}
use Rattle.selection.proofs.OwnLaws.{under-in}
use Rattle.levels.specs.Hits.{Answers, nothing_found}
use Rattle.lookup.specs.Answers.{left_of, without_method}

-- ---- what is not searched

pub blank-asked : (text : Bytes) (rows : Words) (names : Bytes) (q : Name) {s : Bytes} → s ≡ take q.len (drop q.at names)
    → same_bytes s (ascii "_") ≡ is_blank (name_meant text rows names q).name
unfolding name_meant asked_id identity_from is_blank bytes_at
blank-asked text rows names q e = rw e

-- ---- selections

module _ (text : Bytes) (rows : Words) (places : Words) where
  pub selects-nothing : (due : Selected) → due ≡ notfound → Selects text rows nothing_found places due
  unfolding result_meant called_right Typed
  selects-nothing due e = record { says = sym e; fits = omega arith; called = refl; typed = tt }

  -- the selection that is due in other words
  pub selects-as : (r : Selection) (due : Selected) (other : Selected) → due ≡ other → Selects text rows r places due → Selects text rows r places other
  selects-as r due other e s = subst (Selects text rows r places) e s

-- ---- a type that is no named pointer type

module _ (text : Bytes) (rows : Words) (lib : Library text rows) (t : TypeKey) (h : t.0 < type_count rows) where
  sound : Sound (table_of text rows)
  sound = library-sound lib

  pub bare-inside : {u : TypeKey} → u ≡ bare_read rows t → u.0 < type_count rows
  bare-inside pu =
      let s = size-read text rows in
      let l = bare-in (table_of text rows) sound t (rw s h) in
      rw (pu ∙ sym (bare-read text rows t h)) (rw s at l)

  -- whether the pointer t leads to an interface
  to-interface : pointer_at (table_of text rows) t && iface_under (table_of text rows) (bare (table_of text rows) t) ≡ pointer_read rows t && iface_read rows (bare_read rows t)
  to-interface =
      let l = bare-inside refl in
      rw (pointer-read text rows t h, bare-read text rows t h, iface-read text rows (bare_read rows t) l (under-in text rows lib (bare_read rows t) l refl))

  module _ (q : Identity) (a : Bool) {b : Bool} (pb : b ≡ is_blank q.name) (places : Words) where
    pub blank-nothing : b ≡ true → Selects text rows nothing_found places (cond (is_blank q.name) notfound (searched (table_of text rows) q t a))
    blank-nothing e = selects-nothing text rows places _ (rw (sym pb ∙ e))

    module _ (nb : b ≡ false) {i : Bool} (pi : i ≡ pointer_read rows t && iface_read rows (bare_read rows t)) where
      pub interface-nothing : i ≡ true → Selects text rows nothing_found places (cond (is_blank q.name) notfound (searched (table_of text rows) q t a))
      unfolding searched
      interface-nothing e = selects-nothing text rows places _ (rw (sym pb ∙ nb, to-interface, sym pi ∙ e))

      -- the search from t, one pointer removed
      pub search-selects : i ≡ false → {u : TypeKey} → u ≡ bare_read rows t → {f : Bool} → f ≡ pointer_read rows t → (r : Selection)
          → Answers text rows q r places (over.select (graph (table_of text rows)) q u f a)
          → Selects text rows r places (cond (is_blank q.name) notfound (searched (table_of text rows) q t a))
      search-selects e {u = u} pu {f = f} pf r s = selects-as text rows places r _ _ due (s (sym pb ∙ nb))
        where
          due : over.select (graph (table_of text rows)) q u f a ≡ cond (is_blank q.name) notfound (searched (table_of text rows) q t a)
          due = sym (rw (sym pb ∙ nb) (select-says (table_of text rows) q t a ∙ rw (to-interface, sym pi ∙ e, bare-read text rows t h, pointer-read text rows t h, ← pu, ← pf)))

-- ---- named pointer types

module _ (s : Selection) where
  module _ {entity : Entity} {flag : Bool} (p : s.result ≡ LookupResult.Entry entity flag) {m : ObjKey} where
    pub without-entry : entity ≡ Entity.Method m → nothing_found ≡ without_method s
    unfolding without_method left_of
    without-entry e = rw (p, e)

    pub without-field : entity ≡ Entity.Field m → s ≡ without_method s
    unfolding without_method left_of
    without-field e = rw (p, e)

  pub without-other : ((entity : Entity) (flag : Bool) → s.result ≡ LookupResult.Entry entity flag → ⊥) → s ≡ without_method s
  unfolding without_method left_of
  without-other n = left s.result n
    where
      left : (r : LookupResult) → ((entity : Entity) (flag : Bool) → r ≡ LookupResult.Entry entity flag → ⊥) → s ≡ left_of r s
      left (LookupResult.Entry entity flag) n = absurd (n entity flag refl)
      left LookupResult.Ambiguous n = refl
      left LookupResult.BadMethodReceiver n = refl
      left LookupResult.NotFound n = refl

module _ (text : Bytes) (rows : Words) (places : Words) where
  left-selects : (result : LookupResult) (n : ℕ) (due : Selected) → Selects text rows (record { result = result; count = n }) places due → Selects text rows (left_of result (record { result = result; count = n })) places (no_method due)
  unfolding left_of result_meant called_right key_of
  left-selects (LookupResult.Entry (Entity.Method m) flag) n due s =
      selects-nothing text rows places (no_method due) (ap no_method (sym s.says) ∙ rw (method-meant text rows m, s.called))
  left-selects (LookupResult.Entry (Entity.Field m) flag) n due s =
      selects-as text rows places _ due (no_method due) (sym s.says ∙ sym (ap no_method (sym s.says) ∙ rw (method-meant text rows m, not-true (method_read rows m) s.called))) s
  left-selects LookupResult.Ambiguous n due s = selects-as text rows places _ due (no_method due) (sym s.says ∙ ap no_method s.says) s
  left-selects LookupResult.BadMethodReceiver n due s = selects-as text rows places _ due (no_method due) (sym s.says ∙ ap no_method s.says) s
  left-selects LookupResult.NotFound n due s = selects-as text rows places _ due (no_method due) (sym s.says ∙ ap no_method s.says) s

  without-selects : (r : Selection) (due : Selected) → Selects text rows r places due → Selects text rows (without_method r) places (no_method due)
  unfolding without_method
  without-selects r due s = left-selects r.result r.count due s

  module _ (lib : Library text rows) (t : TypeKey) (h : t.0 < type_count rows) (q : Identity) (a : Bool) {b : Bool} (pb : b ≡ named_pointer_read rows t) where
    np : named_pointer (table_of text rows) t ≡ b
    np = named-pointer-read text rows t h (under-in text rows lib t h refl) ∙ sym pb

    blank-first : (x : Bool) (y : Selected) → no_method (cond x notfound y) ≡ cond x notfound (no_method y)
    blank-first true y = refl
    blank-first false y = refl

    pub select-pointer : b ≡ true → {u : TypeKey} → u ≡ under_read rows t → (r : Selection)
        → Selects text rows r places (cond (is_blank q.name) notfound (searched (table_of text rows) q u a))
        → {w : Selection} → w ≡ without_method r → Selects text rows w places (select (table_of text rows) q t a)
    unfolding select
    select-pointer e {u = u} pu r s pw =
        rw pw (selects-as text rows places _ _ _
        (blank-first (is_blank q.name) (searched (table_of text rows) q u a) ∙ sym (rw (np ∙ e, under-read text rows t h, ← pu)))
        (without-selects r _ s))

    pub select-plain : b ≡ false → (r : Selection) → Selects text rows r places (cond (is_blank q.name) notfound (searched (table_of text rows) q t a))
        → Selects text rows r places (select (table_of text rows) q t a)
    unfolding select
    select-plain e r s = selects-as text rows places r _ _ (sym (rw (np ∙ e))) s
