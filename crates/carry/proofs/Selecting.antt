-- S: what is selected in U is what was selected in T, its member carried.
use mathlib.Core.Path.{◌≡◌, refl, sym, ap, ap₂, ◌∙◌}
use mathlib.Core.Bool.{Bool, true, false, cond, not, ◌&&◌}
use mathlib.Core.List.{List, [], ◌∷◌, ◌++◌}
use Prim.Native.Nat.{ℕ}
use Rattle.objects.proofs.ListLaws.{cases, either}
use Rattle.objects.proofs.PairLaws.{AllPairs, pairs-map}
use Rattle.objects.specs.declared.TypeKey.{TypeKey}
use Rattle.objects.specs.Table.{Table, Member, is_method, has_ptr, under, bare, pointer_at, iface_under, named_pointer}
use Rattle.text.specs.Bytes.{is_blank}
use Rattle.rules.specs.Members.{Identity}
use Rattle.rules.specs.Ways.{Way, places_of, member_of, searched_as, Selected, notfound, badreceiver, entry, ambiguous, single, no_method, judged, ways, shortest, searched, select}
use Rattle.rules.specs.Sound.{Sound}
use Rattle.ways.proofs.Selects.{LeastLength, length-or-none, shortest-are-least, shortest-are-none}
use Rattle.carry.specs.Maps.{CarriedMember, Likeness}
use Rattle.carry.specs.Carry.{counterpart, end_from, carry_selected}
use Rattle.carry.proofs.Pairing.{pairs-none, pairs-nothing}
use Rattle.carry.proofs.Lines.{under-kept, bare-kept, pointer-kept, iface-kept, named-pointer-kept}
use Rattle.carry.proofs.Walking.{Alongside, ways-kept}
use Rattle.carry.proofs.Ends.{way_end}

module _ (R : TypeKey → TypeKey → Type 0) (T U : Table) where
  pub places_same : (w v : Way) → Alongside R T U w v → places_of v ≡ places_of w
  places_same w v a = ap₂ (λ (l : List ℕ) (i : ℕ). l ++ (i ∷ [])) a.walk.places a.last.place

  -- a way from s of T and a way from z of U that are alike, and where their places lead
  pub record Ended (s z : TypeKey) (w v : Way) : Type 0 where
    pub alike : Alongside R T U w v
    pub old : end_from T s (places_of w) ≡ w.walk.at
    pub new : end_from U z (places_of w) ≡ v.walk.at

  -- the member at the end
  pub ended-counterpart : (s z : TypeKey) (w v : Way) → Ended s z w v → member_of v ≡ counterpart T U (end_from T s (places_of w)) (end_from U z (places_of w)) (member_of w)
  ended-counterpart s z w v e = e.alike.last.member ∙ ap₂ (λ a b. counterpart T U a b (member_of w)) (sym e.old) (sym e.new)

  -- the answer r of T for a search from s on, and what U answers from z on
  abbrev pub Found : TypeKey → TypeKey → Selected → Selected → Type 0
  Found s z notfound r = r ≡ notfound
  Found s z badreceiver r = r ≡ badreceiver
  Found s z (entry m flag places) r = (n : Member) × (r ≡ entry n flag places) × CarriedMember R T U m n × (n ≡ counterpart T U (end_from T s places) (end_from U z places) m)
  Found s z (ambiguous first second) r = r ≡ ambiguous first second

  single-found : (s z : TypeKey) (a : Bool) (w v : Way) → Ended s z w v → Found s z (single a w) (single a v)
  single-found s z a w v e =
      rw (places_same w v e.alike, e.alike.walk.flag, ap has_ptr e.alike.last.says.entity)
      (go (has_ptr (member_of w).entity && not w.walk.flag && not a))
    where
      go : (b : Bool) → Found s z (cond b badreceiver (entry (member_of w) w.walk.flag (places_of w))) (cond b badreceiver (entry (member_of v) w.walk.flag (places_of w)))
      go true = refl
      go false = (member_of v, refl, e.alike.last.says, ended-counterpart s z w v e)

  judged-found : (s z : TypeKey) (a : Bool) (ws vs : List Way) → AllPairs (Ended s z) ws vs → Found s z (judged a ws) (judged a vs)
  judged-found s z a [] [] c = refl
  judged-found s z a [] (v ∷ vs) c = absurd c
  judged-found s z a (w ∷ ws) [] c = absurd c
  judged-found s z a (w ∷ []) (v ∷ []) c = single-found s z a w v c.0
  judged-found s z a (w ∷ []) (v ∷ y ∷ vs) c = absurd c.1
  judged-found s z a (w ∷ x ∷ ws) (v ∷ []) c = absurd c.1
  judged-found s z a (w ∷ x ∷ ws) (v ∷ y ∷ vs) c = ap₂ ambiguous (places_same w v c.0.alike) (places_same x y c.1.0.alike)

  no-method-found : (s z : TypeKey) (r o : Selected) → Found s z r o → Found s z (no_method r) (no_method o)
  no-method-found s z notfound o e = ap no_method e
  no-method-found s z badreceiver o e = ap no_method e
  no-method-found s z (entry m flag places) o e =
      cases (is_method m.entity)
      (λ b. rw (b, e.1, ap is_method e.2.entity ∙ b))
      (λ b. rw (b, e.1, ap is_method e.2.entity ∙ b) (e.0, refl, e.2, e.3))
  no-method-found s z (ambiguous first second) o e = ap no_method e

  found-carried : (t u : TypeKey) (r o : Selected) → Found (bare T (searched_as T t)) (bare U (searched_as U u)) r o → o ≡ carry_selected T U t u r
  found-carried t u notfound o e = e
  found-carried t u badreceiver o e = e
  found-carried t u (entry m flag places) o e = e.1 ∙ ap (λ n. entry n flag places) e.3
  found-carried t u (ambiguous first second) o e = e

module _ (R : TypeKey → TypeKey → Type 0) (T U : Table) (sound : Sound T) (sound_u : Sound U) (g : Likeness R T U) where
  module _ (q : Identity) where
    -- ---- the shortest ways

    ways-ended : (t u : TypeKey) → R t u → (d : ℕ) → AllPairs (Ended R T U (bare T t) (bare U u)) (ways T q t d) (ways U q u d)
    ways-ended t u r d =
        pairs-map (Alongside R T U) (Ended R T U (bare T t) (bare U u)) (ways T q t d) (ways U q u d)
        (λ w v i j a. record { alike = a; old = way_end T q t d w i; new = ap (end_from U (bare U u)) (sym (places_same R T U w v a)) ∙ way_end U q u d v j }) (ways-kept R T U sound g q t u r d)

    pub shortest-kept : is_blank q.name ≡ false → (t u : TypeKey) → R t u → AllPairs (Ended R T U (bare T t) (bare U u)) (shortest T q t) (shortest U q u)
    shortest-kept nb t u r =
        let ht = g.old t u r in
        let hu = g.new t u r in
        let P = Ended R T U (bare T t) (bare U u) in
        either (length-or-none T sound q nb t ht)
        (λ l.
        let d = l.0 in
        let least : LeastLength U q u d = record {
          some = λ e. l.1.some (pairs-nothing P (ways T q t d) (ways U q u d) (ways-ended t u r d) e);
          none = λ j k. pairs-none P (ways T q t j) (ways U q u j) (ways-ended t u r j) (l.1.none j k);
        } in
        rw (shortest-are-least T sound q nb t ht d l.1, shortest-are-least U sound_u q nb u hu d least) (ways-ended t u r d))
        (λ n. rw (shortest-are-none T sound q nb t ht n, shortest-are-none U sound_u q nb u hu (λ j. pairs-none P (ways T q t j) (ways U q u j) (ways-ended t u r j) (n j))) tt)

    -- ---- S

    searched-found : is_blank q.name ≡ false → (t u : TypeKey) → R t u → (a : Bool) → Found R T U (bare T t) (bare U u) (searched T q t a) (searched U q u a)
    unfolding searched
    searched-found nb t u r a =
        let same : pointer_at U u && iface_under U (bare U u) ≡ pointer_at T t && iface_under T (bare T t) =
        ap₂ (λ x y. x && y) (pointer-kept R T U g t u r) (iface-kept R T U g (bare T t) (bare U u) (bare-kept R T U g t u r)) in
        cases (pointer_at T t && iface_under T (bare T t))
        (λ e. rw (same, e))
        (λ e. rw (same, e) (judged-found R T U (bare T t) (bare U u) a (shortest T q t) (shortest U q u) (shortest-kept nb t u r)))

    pub select-found : (t u : TypeKey) → R t u → (a : Bool) → Found R T U (bare T (searched_as T t)) (bare U (searched_as U u)) (select T q t a) (select U q u a)
    unfolding select
    select-found t u r a =
        cases (is_blank q.name)
        (λ b. rw b)
        (λ b. cases (named_pointer T t)
        (λ n. rw (b, named-pointer-kept R T U g t u r, n)
        (no-method-found R T U (bare T (under T t)) (bare U (under U u)) (searched T q (under T t) a) (searched U q (under U u) a)
        (searched-found b (under T t) (under U u) (under-kept R T U g t u r) a)))
        (λ n. rw (b, named-pointer-kept R T U g t u r, n) (searched-found b t u r a)))

    -- SELECTION IS KEPT
    pub select_kept : (t u : TypeKey) → R t u → (a : Bool) → select U q u a ≡ carry_selected T U t u (select T q t a)
    select_kept t u r a = found-carried R T U t u (select T q t a) (select U q u a) (select-found t u r a)
