-- What loading leaves (`ListsHeld`), from what it shows; and what a reader has of it: how many methods an interface has, which is at a place, at which place
-- one is, and whether one is there at all.
use mathlib.Core.Path.{◌≡◌, sym, ap, ◌∙◌, subst}
use mathlib.Core.Bool.{Bool, true}
use mathlib.Core.List.{List, [], ◌∷◌, map}
use mathlib.Core.Logic.{◌↔◌}
use Prim.Native.Nat.{ℕ, ◌<◌}
use lib.ListN.{length, get_or}
use Rattle.objects.specs.Lists.{keep, flat, In}
use Rattle.objects.specs.declared.TypeKey.{TypeKey}
use Rattle.objects.specs.Table.{Member}
use Rattle.objects.proofs.ListLaws.{any-In, some-In}
use Rattle.rules.specs.Members.{identity_of}
use Rattle.rules.proofs.AscendLaws.{Has}
use Rattle.interfaces.specs.Interfaces.{Interfaces, itself, Tells}
use Rattle.interfaces.specs.FullList.{Entry, entry, choice, identity_at, full_list}
use Rattle.interfaces.specs.Runs.{Arranged, Runs, Parted, reaches_run, read_list, read_total, read_place}
use Rattle.interfaces.specs.Orders.{Falls, Unions}
use Rattle.interfaces.specs.Held.{ListsHeld}
use Rattle.interfaces.proofs.Fit.{Linked, Fit}
use Rattle.interfaces.proofs.Picking.{same-run}
use Rattle.interfaces.proofs.FullLaws.{read-full, full-reached, full-has}
use Rattle.interfaces.proofs.RunLaws.{arranged-runs, parted-runs}
use Rattle.interfaces.proofs.PlaceLaws.{total-is, at-is, place_is}
use Rattle.interfaces.proofs.OrderLaws.{union-reaches}

-- RANKS, UNIONS ALONG THEM, AND ARRANGED METHODS PARTED WHERE THE IDENTITY CHANGES: ALL THAT LOADING SHOWS
pub held : (I : Interfaces) → Linked I → (rank : TypeKey → ℕ) → Falls I rank → (sets : TypeKey → TypeKey → Bool) → Unions I sets
    → (rs : List (List Entry)) → Parted I rs → Arranged I (flat (λ r. r) rs) → ListsHeld I sets rs
held I linked rank falls sets unions rs parted arranged = record {
  runs = subst (λ l. Runs I l) (parted-runs I rs parted) (arranged-runs I (flat (λ r. r) rs) arranged);
  reach = union-reaches I linked rank falls sets unions;
}

module _ (I : Interfaces) (fit : Fit I) (sets : TypeKey → TypeKey → Bool) (rs : List (List Entry)) (held : ListsHeld I sets rs) (t : TypeKey) (face : I.iface (I.under t) ≡ true) where
  abbrev i : TypeKey
  i = I.under t

  tells : Tells I i (sets i)
  tells = held.reach i face

  self : sets i i ≡ true
  self = (tells i face).1 itself

  pub held-list : read_list i (sets i) rs ≡ full_list I t
  held-list = read-full I fit t face (sets i) tells rs held.runs

  -- how many
  pub held-total : read_total (sets i) rs ≡ length (full_list I t)
  held-total = sym (total-is i (sets i) self rs) ∙ ap length held-list

  -- which at a place
  pub held_at : (k : ℕ) (d : Member) → k < length (full_list I t) → map (λ x. x.method) (choice i (sets i) (get_or (keep (reaches_run (sets i)) rs) k [])) ≡ get_or (full_list I t) k d ∷ []
  held_at k d h = at-is i (sets i) self rs k d (subst (λ n. k < n) (sym held-total) h) ∙ ap (λ l. get_or l k d ∷ []) held-list

  -- at which place
  pub held_place : (m d : Member) → In m (full_list I t)
      → (read_place I (sets i) (identity_of I.table m) rs < length (full_list I t)) × (get_or (full_list I t) (read_place I (sets i) (identity_of I.table m) rs) d ≡ m)
  held_place m d h =
      let p = place_is I i (sets i) self rs held.runs m d (subst (λ l. In m l) (sym held-list) h) in
      (subst (λ n. read_place I (sets i) (identity_of I.table m) rs < n) held-total p.0, subst (λ l. get_or l (read_place I (sets i) (identity_of I.table m) rs) d ≡ m) held-list p.1)

  -- AN IDENTITY IS IN THE LIST EXACTLY IF i REACHES ITS RUN
  pub held-has : (r : List Entry) (x : Entry) → In r rs → In x r → (reaches_run (sets i) r ≡ true) ↔ Has I.table (full_list I t) x.method
  held-has r x h k = (λ e. there e, λ n. here n.0 n.1 n.2)
    where
      there : reaches_run (sets i) r ≡ true → Has I.table (full_list I t) x.method
      there e =
          let y = some-In (λ (z : Entry). sets i z.owner) r e in
          let o = (held.runs.every y.0).0 (r, h, y.1) in
          let n = full-has I fit t face y.0.method (record { owner = y.0.owner; way = (tells y.0.owner (fit.owning y.0.owner y.0.method o)).0 y.2; owns = o }) in
          (n.0, n.1, held.runs.one r x y.0 h k y.1 ∙ n.2)

      here : (n : Member) → In n (full_list I t) → identity_at I x ≡ identity_of I.table n → reaches_run (sets i) r ≡ true
      here n m e =
          let w = full-reached I fit t face n m in
          let y = entry w.owner n in
          let s = (held.runs.every y).1 w.owns in
          any-In (λ (z : Entry). sets i z.owner) r y (subst (λ l. In y l) (same-run I rs held.runs r s.0 x y h s.1 k s.2 e) s.2)
          ((tells w.owner (fit.owning w.owner n w.owns)).1 w.way)
