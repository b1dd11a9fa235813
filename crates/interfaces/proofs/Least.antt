-- The first interface that passes a test is the one of the least number (`LeastInterface`): what refusals 16 and 17 name.
use mathlib.Core.Path.{◌≡◌, sym, subst}
use mathlib.Core.Bool.{Bool, true}
use mathlib.Core.List.{[], map}
use mathlib.Core.Logic.{◌⊎◌, ◌↔◌}
use Prim.Native.Nat.{◌≤◌, ◌<◌}
use native.Mathlib.Omega.{arith}
use Rattle.objects.specs.Lists.{keep, In, Sorted, up_to}
use Rattle.objects.specs.declared.TypeKey.{TypeKey}
use Rattle.objects.specs.Table.{type_key}
use Rattle.objects.proofs.ListLaws.{either, In-keep, keep-In-to}
use Rattle.objects.proofs.SortedLaws.{sorted-keep}
use Rattle.interfaces.specs.Interfaces.{Interfaces, types, interfaces}
use Rattle.interfaces.specs.FullList.{first_of}
use Rattle.interfaces.specs.Orders.{LeastInterface}
use Rattle.interfaces.proofs.Fit.{Linked}
use Rattle.interfaces.proofs.Lists.{first-In, first_some, first-least, no-members, sorted-map, up_to-sorted}
use Rattle.interfaces.proofs.ReachLaws.{interfaces-In}

abbrev Smaller : TypeKey → TypeKey → Type 0
Smaller t u = t.0 < u.0

interfaces-sorted : (I : Interfaces) → Sorted Smaller (interfaces I)
unfolding interfaces types
interfaces-sorted I = sorted-keep Smaller I.iface (map type_key (up_to I.total)) (sorted-map Smaller type_key (up_to I.total) (up_to-sorted I.total))

module _ (I : Interfaces) (linked : Linked I) (p : TypeKey → Bool) (P : TypeKey → Type 0) (is : (i : TypeKey) → I.iface i ≡ true → (p i ≡ true) ↔ P i) where
  kept : (t : TypeKey) → In t (keep p (interfaces I)) → (I.iface t ≡ true) × P t
  kept t h = let r = In-keep p (interfaces I) t h in let f = (interfaces-In I linked t).0 r.0 in (f, (is t f).0 r.1)

  to-keep : (t : TypeKey) → I.iface t ≡ true → P t → In t (keep p (interfaces I))
  to-keep t f h = keep-In-to p (interfaces I) t ((interfaces-In I linked t).1 f) ((is t f).1 h)

  low : (t u : TypeKey) → In t (first_of (keep p (interfaces I))) → In u (keep p (interfaces I)) → (u ≡ t) ⊎ (t.0 < u.0)
  low t u h k = first-least Smaller (keep p (interfaces I)) t (sorted-keep Smaller p (interfaces I) (interfaces-sorted I)) h u k

  pub first-interface : (t : TypeKey) → In t (first_of (keep p (interfaces I))) ↔ LeastInterface I P t
  first-interface t = (
    λ h. let r = kept t (first-In (keep p (interfaces I)) t h) in
        record { face = r.0; is = r.1; least = λ u f k. either (low t u h (to-keep u f k)) (λ e. subst (λ v. t.0 ≤ v.0) (sym e) (omega arith)) (λ l. omega (arith, l)) },
    λ l. let f = first_some (keep p (interfaces I)) t (to-keep t l.face l.is) in
        let r = kept f.0 (first-In (keep p (interfaces I)) f.0 f.1) in
        either (low f.0 t f.1 (to-keep t l.face l.is)) (λ e. subst (λ v. In v (first_of (keep p (interfaces I)))) (sym e) f.1) (λ k. let m = l.least f.0 r.0 r.1 in absurd (omega (arith, k, m))),
  )

  pub no-interface : (first_of (keep p (interfaces I)) ≡ []) ↔ ((i : TypeKey) → I.iface i ≡ true → P i → ⊥)
  no-interface = (
    λ e i f h. let s = first_some (keep p (interfaces I)) i (to-keep i f h) in subst (λ l. In s.0 l) e s.1,
    λ h. no-members (first_of (keep p (interfaces I))) (λ t k. let r = kept t (first-In (keep p (interfaces I)) t k) in h t r.0 r.1),
  )
