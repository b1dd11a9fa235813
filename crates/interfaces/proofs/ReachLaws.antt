-- What the searches of E lines find: `reaches` is `Reaches`, and `embeds_itself` is a chain of one or more E lines that leads back. And which types, interfaces and
-- methods the lists of all of them have.
use mathlib.Core.Path.{◌≡◌, refl, sym, subst}
use mathlib.Core.Bool.{true}
use mathlib.Core.List.{[], ◌∷◌, map}
use mathlib.Core.Logic.{◌↔◌, inl}
use Prim.Native.Nat.{◌<◌}
use Rattle.objects.specs.Lists.{In, up_to}
use Rattle.objects.specs.declared.TypeKey.{TypeKey}
use Rattle.objects.specs.Table.{type_key, same_type}
use Rattle.objects.proofs.ListLaws.{either, In-map, map-In-to, In-flat, flat-In-to, In-keep, keep-In-to}
use Rattle.objects.proofs.KeyLaws.{same_key, same_self}
use Rattle.objects.proofs.Numbers.{up_to-below, up_to-has}
use Rattle.rules.specs.Chains.{Chain, here, there}
use Rattle.rules.proofs.ChainLaws.{AtMost, leads-sound, leads-iff, types-few}
use Rattle.interfaces.specs.Interfaces.{Interfaces, Reaches, itself, through, types, interfaces, targets, reaches}
use Rattle.interfaces.specs.FullList.{Entry, entry, entries}
use Rattle.interfaces.specs.Orders.{EmbedsItself, embeds_itself}
use Rattle.interfaces.proofs.Fit.{Linked, Fit}

module _ (I : Interfaces) where
  -- ---- chains of E lines

  chain-reaches : (j : TypeKey) {i : TypeKey} → Chain (targets I) (same_type j) i → Reaches I i j
  chain-reaches j {i} (here e) = subst (λ k. Reaches I i k) (sym (same_key j i e)) itself
  chain-reaches j {i} (there h c) =
      let r = In-map I.under (I.embeds i) _ h in through r.1 (subst (λ k. Reaches I k j) r.2 (chain-reaches j c))

  reaches-chain : {i j : TypeKey} → Reaches I i j → Chain (targets I) (same_type j) i
  reaches-chain {i} itself = here (same_self i)
  reaches-chain {i} (through {e = e} h w) = there (map-In-to I.under (I.embeds i) e h) (reaches-chain w)

  -- what `reaches` finds is there, for any i
  pub reaches-sound : (i j : TypeKey) → reaches I i j ≡ true → Reaches I i j
  unfolding reaches
  reaches-sound i j e =
      let c = leads-sound same_type (targets I) (same_type j) _ [] (i ∷ []) e in
      either c.1 (λ q. subst (λ t. Reaches I t j) q (chain-reaches j c.2)) (λ z. absurd z)

  -- without E lines only itself
  pub reaches-only : {i j : TypeKey} → I.embeds i ≡ [] → Reaches I i j → j ≡ i
  reaches-only e itself = refl
  reaches-only e (through {e = f} h w) = absurd (subst (λ l. In f l) e h)

  -- ---- the types and the interfaces

  pub types-In : (t : TypeKey) → In t (types I) ↔ (t.0 < I.total)
  unfolding types
  types-In t = (
    λ i. let r = In-map type_key (up_to I.total) t i in subst (λ u. u.0 < I.total) (sym r.2) (up_to-below I.total r.0 r.1),
    λ h. map-In-to type_key (up_to I.total) t.0 (up_to-has I.total t.0 h),
  )

  module _ (k : Linked I) where
    target-in : (t u : TypeKey) → In u (targets I t) → u.0 < I.total
    target-in t u i =
        let r = In-map I.under (I.embeds t) u i in
        subst (λ v. v.0 < I.total) (sym r.2) (k.inside (I.under r.0) (k.allowed t r.0 r.1))

    few : AtMost I.total same_type (targets I) (λ t. t.0 < I.total)
    few = types-few I.total (targets I) target-in

    -- REACHES IS A CHAIN OF E LINES OF ANY LENGTH
    pub reaches-iff : (i j : TypeKey) → i.0 < I.total → (reaches I i j ≡ true) ↔ Reaches I i j
    unfolding reaches
    reaches-iff i j h =
        let l = leads-iff few (same_type j) (i ∷ []) (λ y m. either m (λ e. subst (λ t. t.0 < I.total) (sym e) h) (λ z. absurd z)) in
        (reaches-sound i j, λ w. l.1 (i, inl refl, reaches-chain w))

    -- AND `embeds_itself` ONE OF ONE OR MORE THAT LEADS BACK
    pub embeds-itself-iff : (i : TypeKey) → (embeds_itself I i ≡ true) ↔ EmbedsItself I i
    unfolding embeds_itself
    embeds-itself-iff i =
        let l = leads-iff few (same_type i) (targets I i) (λ u m. target-in i u m) in
        (λ e. back (l.0 e), λ r. l.1 (I.under r.0, map-In-to I.under (I.embeds i) r.0 r.1, reaches-chain r.2))
      where
        back : (x : TypeKey) × In x (targets I i) × Chain (targets I) (same_type i) x → EmbedsItself I i
        back c = let r = In-map I.under (I.embeds i) c.0 c.1 in (r.0, r.1, subst (λ t. Reaches I t i) r.2 (chain-reaches i c.2))

    pub interfaces-In : (t : TypeKey) → In t (interfaces I) ↔ (I.iface t ≡ true)
    unfolding interfaces
    interfaces-In t = (λ i. (In-keep I.iface (types I) t i).1, λ e. keep-In-to I.iface (types I) t ((types-In t).1 (k.inside t e)) e)

  -- ---- the methods of all interfaces

  pub entries-In : Fit I → (x : Entry) → In x (entries I) ↔ In x.method (I.own x.owner)
  unfolding entries
  entries-In fit x = (
    λ i. there-is (In-flat (λ t. map (entry t) (I.own t)) (types I) x i),
    λ h. flat-In-to (λ t. map (entry t) (I.own t)) (types I) x.owner x
        ((types-In x.owner).1 (fit.linked.inside x.owner (fit.owning x.owner x.method h)))
        (map-In-to (entry x.owner) (I.own x.owner) x.method h),
  )
    where
      there-is : (t : TypeKey) × In t (types I) × In x (map (entry t) (I.own t)) → In x.method (I.own x.owner)
      there-is r =
          let s = In-map (entry r.0) (I.own r.0) x r.2 in
          subst (λ (y : Entry). In y.method (I.own y.owner)) (sym s.2) s.1
