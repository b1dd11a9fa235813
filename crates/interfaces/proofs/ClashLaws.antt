-- Refusal 17, and what its absence gives: it does not matter which member stands for an identity.
use mathlib.Core.Path.{◌≡◌, sym, ◌∙◌}
use mathlib.Core.Bool.{Bool, true, not}
use mathlib.Core.List.{List, []}
use mathlib.Core.Logic.{◌↔◌}
use Prim.Native.Nat.{◌<◌}
use borrow.Author.Tests.{not-true}
use Rattle.objects.specs.Lists.{any, In}
use Rattle.objects.specs.declared.TypeKey.{TypeKey}
use Rattle.objects.specs.Table.{Member}
use Rattle.objects.proofs.ListLaws.{cases, any-In, some-In, In-keep, keep-In-to, and_l, and_r}
use Rattle.objects.proofs.BoolLaws.{and_i}
use Rattle.objects.proofs.PairLaws.{AllPairs, pairs-map, pairs-right, pairs-left}
use Rattle.rules.specs.Members.{identity_of, same_member}
use Rattle.rules.proofs.MemberLaws.{same_id-true, same_id-eq}
use Rattle.rules.proofs.AscendLaws.{SameIdentity, aligned}
use Rattle.interfaces.specs.Interfaces.{Interfaces, Reached, reaches}
use Rattle.interfaces.specs.FullList.{Entry, entry, entries, full_list}
use Rattle.interfaces.specs.Orders.{LeastInterface}
use Rattle.interfaces.specs.Clashes.{unlike, reachable, clashes, Clash, clashing, Matches, Agrees, Among}
use Rattle.interfaces.proofs.Fit.{Fit}
use Rattle.interfaces.proofs.ReachLaws.{reaches-iff, entries-In}
use Rattle.interfaces.proofs.FullLaws.{full, full-reached, full-has}
use Rattle.interfaces.proofs.Least.{first-interface, no-interface}

module _ (I : Interfaces) (fit : Fit I) (same : TypeKey → TypeKey → Bool) where
  -- ---- refusal 17

  module _ (i : TypeKey) (face : I.iface i ≡ true) where
    low : i.0 < I.total
    low = fit.linked.inside i face

    is-reached : (x : Entry) → In x (reachable I i) → Reached I i x.method
    is-reached x h =
        let r = In-keep (λ (y : Entry). reaches I i y.owner) (entries I) x h in
        record { owner = x.owner; way = (reaches-iff I fit.linked i x.owner low).0 r.1; owns = (entries-In I fit x).0 r.0 }

    to-reach : (m : Member) (w : Reached I i m) → In (entry w.owner m) (reachable I i)
    to-reach m w =
        keep-In-to (λ (y : Entry). reaches I i y.owner) (entries I) (entry w.owner m)
        ((entries-In I fit (entry w.owner m)).1 w.owns) ((reaches-iff I fit.linked i w.owner low).1 w.way)

    abbrev unlike_at : Entry → Entry → Bool
    unlike_at x y = unlike I same x.method y.method

    pub clashes-iff : (clashes I same i ≡ true) ↔ Clash I same i
    unfolding clashes
    clashes-iff = (λ h. found h, λ c. there c)
      where
        all : List Entry
        all = reachable I i

        found : any (λ x. any (unlike_at x) all) all ≡ true → Clash I same i
        found h =
            let a = some-In (λ x. any (unlike_at x) all) all h in
            let b = some-In (unlike_at a.0) all a.2 in
            let m = a.0.method in
            let n = b.0.method in
            record {
              left = m;
              right = n;
              reaches-left = is-reached a.0 a.1;
              reaches-right = is-reached b.0 b.1;
              one = same_id-true (identity_of I.table m) (identity_of I.table n) (and_l (same_member I.table m n) (not (same m.type n.type)) b.2);
              two = not-true (same m.type n.type) (and_r (same_member I.table m n) (not (same m.type n.type)) b.2);
            }

        there : Clash I same i → any (λ x. any (unlike_at x) all) all ≡ true
        there c =
            let x = entry c.reaches-left.owner c.left in
            let y = entry c.reaches-right.owner c.right in
            any-In (λ z. any (unlike_at z) all) all x (to-reach c.left c.reaches-left)
            (any-In (unlike_at x) all y (to-reach c.right c.reaches-right)
            (and_i (same_id-eq (identity_of I.table c.left) (identity_of I.table c.right) c.one) (rw c.two)))

    no-clash : (Clash I same i → ⊥) → Agrees I same i
    no-clash h m n w v e =
        cases (same m.type n.type) (λ t. t) (λ f. absurd (h (record { left = m; right = n; reaches-left = w; reaches-right = v; one = e; two = f })))

  -- REFUSAL 17 NAMES THE FIRST INTERFACE THAT REACHES TWO METHODS OF ONE IDENTITY WHOSE TYPES ARE NOT IDENTICAL
  pub clashing-is : (t : TypeKey) → In t (clashing I same) ↔ LeastInterface I (Clash I same) t
  unfolding clashing
  clashing-is t = first-interface I fit.linked (clashes I same) (Clash I same) (λ i f. clashes-iff i f) t

  -- WHERE IT IS NOT DUE, REACHABLE METHODS OF ONE IDENTITY HAVE IDENTICAL TYPES
  pub agree : clashing I same ≡ [] → (i : TypeKey) → I.iface i ≡ true → Agrees I same i
  unfolding clashing
  agree e i f = no-clash i f ((no-interface I fit.linked (clashes I same) (Clash I same) (λ j g. clashes-iff j g)).0 e i f)

  -- so any reachable member would do in the place of the one that stands
  pub any-member : (t : TypeKey) → I.iface (I.under t) ≡ true → Agrees I same (I.under t) → (m n : Member) → In m (full_list I t) → Reached I (I.under t) n
      → SameIdentity I.table m n → same m.type n.type ≡ true
  any-member t face agrees m n h w e = agrees m n (full-reached I fit t face m h) w e

  -- ---- identical lists

  stands-for : (t : TypeKey) → I.iface (I.under t) ≡ true → Agrees I same (I.under t) → (m : Member) → Reached I (I.under t) m → (n : Member) × In n (full_list I t) × Matches I same m n
  stands-for t face agrees m w = let r = full-has I fit t face m w in (r.0, r.1, (r.2, agrees m r.0 w (full-reached I fit t face r.0 r.1) r.2))

  module _ (symmetric : (x y : TypeKey) → same x y ≡ true → same y x ≡ true) (transitive : (x y z : TypeKey) → same x y ≡ true → same y z ≡ true → same x z ≡ true)
      (t u : TypeKey) (face : I.iface (I.under t) ≡ true) (face' : I.iface (I.under u) ≡ true) (agrees : Agrees I same (I.under t)) (agrees' : Agrees I same (I.under u)) where
    matched : (m n k : Member) → Matches I same m n → Matches I same n k → Matches I same m k
    matched m n k a b = (a.0 ∙ b.0, transitive m.type n.type k.type a.1 b.1)

    turned : (m n : Member) → Matches I same m n → Matches I same n m
    turned m n a = (sym a.0, symmetric m.type n.type a.1)

    -- IDENTICAL LISTS ARE GO'S WORDS: EVERY METHOD OF THE ONE IS AMONG THOSE OF THE OTHER, WITH AN IDENTICAL TYPE
    pub lists-match : AllPairs (Matches I same) (full_list I t) (full_list I u) ↔ (Among I same (I.under t) (I.under u) × Among I same (I.under u) (I.under t))
    lists-match = (
      λ a. (
        λ m w. let s = stands-for t face agrees m w in let r = pairs-right (Matches I same) (full_list I t) (full_list I u) a s.0 s.1 in
            (r.0, full-reached I fit u face' r.0 r.1, matched m s.0 r.0 s.2 r.2),
        λ m w. let s = stands-for u face' agrees' m w in let r = pairs-left (Matches I same) (full_list I t) (full_list I u) a s.0 s.1 in
            (r.0, full-reached I fit t face r.0 r.1, matched m s.0 r.0 s.2 (turned r.0 s.0 r.2)),
      ),
      λ b. joined b,
    )
      where
        joined : Among I same (I.under t) (I.under u) × Among I same (I.under u) (I.under t) → AllPairs (Matches I same) (full_list I t) (full_list I u)
        joined b =
            pairs-map (SameIdentity I.table) (Matches I same) (full_list I t) (full_list I u)
            (λ m n h k e.
            let r = b.0 m (full-reached I fit t face m h) in
            (e, transitive m.type r.0.type n.type r.2.1 (agrees' r.0 n r.1 (full-reached I fit u face' n k) (sym r.2.0 ∙ e))))
            (aligned I.table (full_list I t) (full_list I u) (full I fit t face).ascends (full I fit u face').ascends
            (λ m h. let r = b.0 m (full-reached I fit t face m h) in let s = full-has I fit u face' r.0 r.1 in (s.0, s.1, r.2.0 ∙ s.2))
            (λ n h. let r = b.1 n (full-reached I fit u face' n h) in let s = full-has I fit t face r.0 r.1 in (s.0, s.1, r.2.0 ∙ s.2)))
