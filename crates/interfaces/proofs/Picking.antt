-- One method of each run that is reached is the full list: whatever made the runs (`Runs`) and the test of what i reaches (`Tells`), `read_list` is a full list of i.
use mathlib.Core.Path.{◌≡◌, refl, sym, ap, subst}
use mathlib.Core.Bool.{Bool, true}
use mathlib.Core.List.{List, [], ◌++◌, map}
use mathlib.Core.Logic.{◌⊎◌, inl, inr}
use Prim.Native.Nat.{◌≤◌}
use native.Mathlib.Omega.{arith}
use Rattle.objects.specs.Lists.{keep, flat, In}
use Rattle.objects.specs.declared.TypeKey.{TypeKey}
use Rattle.objects.specs.Table.{Member, same_type}
use Rattle.objects.proofs.ListLaws.{either, clash, In-map, map-In-to, In-flat, flat-In-to, In-keep, keep-In-to, In-append, In-append-r}
use Rattle.objects.proofs.SortedLaws.{sorted-keep, sorted-same}
use Rattle.objects.proofs.KeyLaws.{same_key, same_self}
use Rattle.text.proofs.ByteLaws.{below_irrefl, below-trans}
use Rattle.rules.specs.Members.{identity_of, id_bytes}
use Rattle.rules.specs.Sound.{Lower}
use Rattle.rules.proofs.AscendLaws.{lower-apart}
use Rattle.interfaces.specs.Interfaces.{Interfaces, Reached, Tells}
use Rattle.interfaces.specs.FullList.{Entry, entry, first_of, choice, identity_at, Stands, own, least, FullList}
use Rattle.interfaces.specs.Runs.{Earlier, LowerAt, RunLower, Runs, read_list}
use Rattle.interfaces.proofs.Fit.{Fit}
use Rattle.interfaces.proofs.Lists.{first-In, first_some, first-least, first-append, first-left, first-right, first-sorted, no-members, sorted-two, sorted-map, sorted-flat, sorted-weaker}

-- THERE IS ONE FULL LIST
pub full-one : (I : Interfaces) (i : TypeKey) (l m : List Member) → FullList I i l → FullList I i m → l ≡ m
full-one I i l m a b =
    sorted-same (Lower I.table)
    (λ x h. clash h (below_irrefl (id_bytes (identity_of I.table x))))
    (λ x y z h k. below-trans (id_bytes (identity_of I.table x)) (id_bytes (identity_of I.table y)) (id_bytes (identity_of I.table z)) h k)
    l m a.ascends b.ascends (λ x h. (b.holds x).1 ((a.holds x).0 h)) (λ x h. (a.holds x).1 ((b.holds x).0 h))

-- methods of one identity stand in one run
pub same-run : (I : Interfaces) (rs : List (List Entry)) → Runs I rs → (r s : List Entry) (x y : Entry) → In r rs → In s rs → In x r → In y s → identity_at I x ≡ identity_at I y → s ≡ r
same-run I rs runs r s x y h k p q e =
    either (sorted-two (RunLower I) rs s r runs.apart k h) (λ f. f)
    (λ o. either o
    (λ l. absurd (lower-apart I.table y.method x.method (sym e) (l y x q p)))
    (λ l. absurd (lower-apart I.table x.method y.method e (l x y p q))))

-- what is chosen of a run is one of it, and i's own or reached
pub choice-In : (i : TypeKey) (reached : TypeKey → Bool) (r : List Entry) (x : Entry) → In x (choice i reached r)
    → In x r × ((same_type i x.owner ≡ true) ⊎ (reached x.owner ≡ true))
choice-In i reached r x c =
    let ours : List Entry = keep (λ y. same_type i y.owner) r in
    let theirs : List Entry = keep (λ y. reached y.owner) r in
    either (In-append ours theirs x (first-In (ours ++ theirs) x c))
    (λ h. let k = In-keep (λ (y : Entry). same_type i y.owner) r x h in (k.0, inl k.1))
    (λ h. let k = In-keep (λ (y : Entry). reached y.owner) r x h in (k.0, inr k.1))

module _ (I : Interfaces) (fit : Fit I) (i : TypeKey) (reached : TypeKey → Bool) (tells : Tells I i reached) (rs : List (List Entry)) (runs : Runs I rs) where
  abbrev own_in : List Entry → List Entry
  own_in r = keep (λ x. same_type i x.owner) r

  abbrev reached_in : List Entry → List Entry
  reached_in r = keep (λ x. reached x.owner) r

  owns : (r : List Entry) (x : Entry) → In r rs → In x r → In x.method (I.own x.owner)
  owns r x h k = (runs.every x).0 (r, h, k)

  -- a method stands in the run of its identity
  in-run : (r : List Entry) (x : Entry) (j : TypeKey) (n : Member) → In r rs → In x r → In n (I.own j) → identity_of I.table n ≡ identity_at I x → In (entry j n) r
  in-run r x j n h k o e =
      let s = (runs.every (entry j n)).1 o in
      subst (λ l. In (entry j n) l) (same-run I rs runs r s.0 x (entry j n) h s.1 k s.2 (sym e)) s.2

  own-In : (r : List Entry) (x : Entry) → In r rs → In x (own_in r) → In x r × In x.method (I.own i)
  own-In r x h k =
      let p = In-keep (λ (y : Entry). same_type i y.owner) r x k in
      (p.0, subst (λ t. In x.method (I.own t)) (sym (same_key i x.owner p.1)) (owns r x h p.0))

  pub reached-In : (r : List Entry) (x : Entry) → In r rs → In x (reached_in r) → In x r × Reached I i x.method
  reached-In r x h k =
      let p = In-keep (λ (y : Entry). reached y.owner) r x k in
      let o = owns r x h p.0 in
      (p.0, record { owner = x.owner; way = (tells x.owner (fit.owning x.owner x.method o)).0 p.1; owns = o })

  own-run : (r : List Entry) (x : Entry) (n : Member) → In r rs → In x r → In n (I.own i) → identity_of I.table n ≡ identity_at I x → In (entry i n) (own_in r)
  own-run r x n h k o e = keep-In-to (λ (y : Entry). same_type i y.owner) r (entry i n) (in-run r x i n h k o e) (same_self i)

  pub reached-run : (r : List Entry) (x : Entry) (n : Member) → In r rs → In x r → (w : Reached I i n) → identity_of I.table n ≡ identity_at I x → In (entry w.owner n) (reached_in r)
  reached-run r x n h k w e =
      keep-In-to (λ (y : Entry). reached y.owner) r (entry w.owner n) (in-run r x w.owner n h k w.owns e)
      ((tells w.owner (fit.owning w.owner n w.owns)).1 w.way)

  -- ---- what is chosen stands for its identity

  fewest : (r : List Entry) (x y : Entry) → In r rs → In x (first_of (reached_in r)) → In y (reached_in r) → x.method.key.0 ≤ y.method.key.0
  fewest r x y h f k =
      either (first-least Earlier (reached_in r) x (sorted-keep Earlier (λ z. reached z.owner) r (runs.rising r h)) f y k)
      (λ e. let q : y.method.key.0 ≡ x.method.key.0 = ap (λ (z : Entry). z.method.key.0) e in omega (arith, q))
      (λ l. omega (arith, l))

  chosen : (r : List Entry) (x : Entry) → In r rs → In x (choice i reached r) → Stands I i x.method
  chosen r x h c =
      either (first-append (own_in r) (reached_in r) x c)
      (λ f. own (own-In r x h (first-In (own_in r) x f)).1)
      (λ f. let p = reached-In r x h (first-In (reached_in r) x f.1) in
      least p.1
      (λ n o e. subst (λ l. In (entry i n) l) f.0 (own-run r x n h p.0 o e))
      (λ n w e. fewest r x (entry w.owner n) h f.1 (reached-run r x n h p.0 w e)))

  -- ---- what stands for its identity is chosen

  record Chosen (m : Member) : Type 0 where
    run : List Entry
    at : Entry
    stands : In run rs
    taken : In at (choice i reached run)
    is : m ≡ at.method

  chosen-own : (m : Member) → In m (I.own i) → Chosen m
  chosen-own m o =
      let s = (runs.every (entry i m)).1 o in
      let k = own-run s.0 (entry i m) m s.1 s.2 o refl in
      let f = first_some (own_in s.0) (entry i m) k in
      let p = own-In s.0 f.0 s.1 (first-In (own_in s.0) f.0 f.1) in
      record {
        run = s.0;
        at = f.0;
        stands = s.1;
        taken = first-left (own_in s.0) (reached_in s.0) f.0 f.1;
        is = fit.apart i m f.0.method o p.1 (runs.one s.0 (entry i m) f.0 s.1 s.2 p.0);
      }

  chosen-least : (m : Member) (w : Reached I i m)
      → ((n : Member) → In n (I.own i) → identity_of I.table n ≡ identity_of I.table m → ⊥)
      → ((n : Member) → Reached I i n → identity_of I.table n ≡ identity_of I.table m → m.key.0 ≤ n.key.0)
      → Chosen m
  chosen-least m w no_own lowest =
      let x = entry w.owner m in
      let s = (runs.every x).1 w.owns in
      let k = reached-run s.0 x m s.1 s.2 w refl in
      let f = first_some (reached_in s.0) x k in
      let p = reached-In s.0 f.0 s.1 (first-In (reached_in s.0) f.0 f.1) in
      let none-own : own_in s.0 ≡ [] = no-members (own_in s.0) (λ y h. let q = own-In s.0 y s.1 h in no_own y.method q.1 (runs.one s.0 y x s.1 q.0 s.2)) in
      record {
        run = s.0;
        at = f.0;
        stands = s.1;
        taken = first-right (own_in s.0) (reached_in s.0) f.0 none-own f.1;
        is =
            either (first-least Earlier (reached_in s.0) f.0 (sorted-keep Earlier (λ z. reached z.owner) s.0 (runs.rising s.0 s.1)) f.1 x k)
            (λ e. ap (λ (z : Entry). z.method) e)
            (λ l. let g = lowest f.0.method p.1 (runs.one s.0 f.0 x s.1 p.0 s.2) in absurd (omega (arith, l, g)));
      }

  chosen-stands : (m : Member) → Stands I i m → Chosen m
  chosen-stands m (own o) = chosen-own m o
  chosen-stands m (least w a b) = chosen-least m w a b

  -- ---- the list

  in_list : (m : Member) → Chosen m → In m (map (λ x. x.method) (flat (choice i reached) rs))
  in_list m c =
      subst (λ n. In n (map (λ (x : Entry). x.method) (flat (choice i reached) rs))) (sym c.is)
      (map-In-to (λ x. x.method) (flat (choice i reached) rs) c.at (flat-In-to (choice i reached) rs c.run c.at c.stands c.taken))

  -- THE READING OF RUNS IS THE FULL LIST
  pub picked : FullList I i (read_list i reached rs)
  unfolding read_list
  picked = record {
    ascends =
        sorted-map (Lower I.table) (λ x. x.method) (flat (choice i reached) rs)
        (sorted-flat (LowerAt I) (choice i reached) rs
        (sorted-weaker (RunLower I) (λ r s. RunLower I (choice i reached r) (choice i reached s)) (λ r s h x y p q. h x y (choice-In i reached r x p).0 (choice-In i reached s y q).0) rs runs.apart)
        (λ r h. first-sorted (LowerAt I) (own_in r ++ reached_in r)));
    holds = λ m. (λ h. taken m h, λ s. in_list m (chosen-stands m s));
  }
    where
      taken : (m : Member) → In m (map (λ x. x.method) (flat (choice i reached) rs)) → Stands I i m
      taken m h =
          let p = In-map (λ (x : Entry). x.method) (flat (choice i reached) rs) m h in
          let q = In-flat (choice i reached) rs p.0 p.1 in
          subst (λ n. Stands I i n) (sym p.2) (chosen q.0 p.0 q.1 q.2)

  -- one stands for each identity that i reaches
  pub covered : (m : Member) → Reached I i m → (n : Member) × In n (read_list i reached rs) × (identity_of I.table m ≡ identity_of I.table n)
  unfolding read_list
  covered m w =
      let x = entry w.owner m in
      let s = (runs.every x).1 w.owns in
      let k = reached-run s.0 x m s.1 s.2 w refl in
      let f = first_some (own_in s.0 ++ reached_in s.0) x (In-append-r (own_in s.0) (reached_in s.0) x k) in (
        f.0.method,
        in_list f.0.method (record { run = s.0; at = f.0; stands = s.1; taken = f.1; is = refl }),
        runs.one s.0 x f.0 s.1 s.2 (choice-In i reached s.0 f.0 f.1).0,
      )
