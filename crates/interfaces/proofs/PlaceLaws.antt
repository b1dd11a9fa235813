-- The reading of runs by place: how many methods it has, which is at a place, and at which place one is. A run is reached if one of its methods is.
use mathlib.Core.Path.{◌≡◌, refl, sym, ap, subst}
use mathlib.Core.Bool.{Bool, true, false}
use mathlib.Core.List.{List, [], ◌∷◌, ◌++◌, map}
use Prim.Native.Nat.{ℕ, zero, suc, ◌<◌}
use native.Mathlib.Omega.{arith}
use lib.ListN.{length, get_or, take}
use Rattle.objects.specs.Lists.{any, keep, flat, In, Sorted}
use Rattle.objects.specs.declared.TypeKey.{TypeKey}
use Rattle.objects.specs.Table.{Member, same_type}
use Rattle.objects.proofs.ListLaws.{cases, clash, either, any-In, any_none, some-In, none-In, keep-none, keep-In-to, In-append, In-append-r, In-map, In-flat}
use Rattle.objects.proofs.BoolLaws.{false_of}
use Rattle.objects.proofs.PartLaws.{get_or-In}
use Rattle.objects.proofs.KeyLaws.{same_key}
use Rattle.rules.specs.Members.{identity_of, same_id}
use Rattle.rules.proofs.MemberLaws.{same_id-true, same_id-eq}
use Rattle.rules.proofs.AscendLaws.{lower-apart}
use Rattle.interfaces.specs.Interfaces.{Interfaces}
use Rattle.interfaces.specs.FullList.{Entry, choice, identity_at}
use Rattle.interfaces.specs.Runs.{LowerAt, RunLower, Runs, reaches_run, read_list, read_total, read_place}
use Rattle.interfaces.proofs.Lists.{one-In, first_one}
use Rattle.interfaces.proofs.Picking.{choice-In}

module _ (i : TypeKey) (reached : TypeKey → Bool) (self : reached i ≡ true) where
  -- ---- one of a run that is reached, none of another

  pub choice-one : (r : List Entry) → reaches_run reached r ≡ true → (x : Entry) × (choice i reached r ≡ x ∷ [])
  choice-one r h =
      let s = some-In (λ (x : Entry). reached x.owner) r h in
      first_one (keep (λ x. same_type i x.owner) r ++ keep (λ x. reached x.owner) r) s.0
      (In-append-r (keep (λ x. same_type i x.owner) r) (keep (λ x. reached x.owner) r) s.0 (keep-In-to (λ (x : Entry). reached x.owner) r s.0 s.1 s.2))

  not_own : (r : List Entry) → reaches_run reached r ≡ false → any (λ (x : Entry). same_type i x.owner) r ≡ false
  not_own r h =
      any_none (λ (x : Entry). same_type i x.owner) r
      (λ x k. false_of (same_type i x.owner) (λ e. clash self (subst (λ t. reached t ≡ false) (sym (same_key i x.owner e)) (none-In (λ (y : Entry). reached y.owner) r x h k))))

  pub choice-none : (r : List Entry) → reaches_run reached r ≡ false → choice i reached r ≡ []
  choice-none r h = rw (keep-none (λ (x : Entry). same_type i x.owner) r (not_own r h), keep-none (λ (x : Entry). reached x.owner) r h)

  -- ---- how many

  pub total-is : (rs : List (List Entry)) → length (read_list i reached rs) ≡ read_total reached rs
  unfolding read_list read_total
  total-is [] = refl
  total-is (r ∷ rs) =
      cases (reaches_run reached r)
      (λ e. rw (e, (choice-one r e).1) (ap suc (total-is rs)))
      (λ e. rw (e, choice-none r e) (total-is rs))

  -- ---- which is at a place: the choice of the run at that place among those that are reached

  pub at-is : (rs : List (List Entry)) (k : ℕ) (d : Member) → k < read_total reached rs → map (λ x. x.method) (choice i reached (get_or (keep (reaches_run reached) rs) k [])) ≡ get_or (read_list i reached rs) k d ∷ []
  unfolding read_list read_total
  at-is [] k d h = absurd (omega arith)
  at-is (r ∷ rs) zero d h =
      cases (reaches_run reached r) (λ e. rw (e, (choice-one r e).1)) (λ e. rw (e, choice-none r e) (at-is rs zero d (rw e at h)))
  at-is (r ∷ rs) (suc k) d h =
      cases (reaches_run reached r)
      (λ e. let l : suc k < suc (length (keep (reaches_run reached) rs)) = rw e at h in rw (e, (choice-one r e).1) (at-is rs k d (omega (arith, l))))
      (λ e. rw (e, choice-none r e) (at-is rs (suc k) d (rw e at h)))

-- ---- at which place

module _ (I : Interfaces) (i : TypeKey) (reached : TypeKey → Bool) (self : reached i ≡ true) where
  abbrev chosen : List Entry → List Entry
  chosen = choice i reached

  abbrev place_in : Member → List (List Entry) → ℕ
  place_in m rs = read_place I reached (identity_of I.table m) rs

  abbrev At : Member → Member → List (List Entry) → Type 0
  At d m rs = (place_in m rs < read_total reached rs) × (get_or (read_list i reached rs) (place_in m rs) d ≡ m)

  is-there : (r : List Entry) (x : Entry) → In x r → any (λ (y : Entry). same_id (identity_at I x) (identity_at I y)) r ≡ true
  is-there r x h = any-In (λ (y : Entry). same_id (identity_at I x) (identity_at I y)) r x h (same_id-eq (identity_at I x) (identity_at I x) refl)

  not_there : (r : List Entry) (x : Entry) → ((y : Entry) → In y r → LowerAt I y x) → any (λ (y : Entry). same_id (identity_at I x) (identity_at I y)) r ≡ false
  not_there r x below =
      any_none (λ (y : Entry). same_id (identity_at I x) (identity_at I y)) r
      (λ y k. false_of _ (λ e. lower-apart I.table y.method x.method (sym (same_id-true (identity_at I x) (identity_at I y) e)) (below y k)))

  place_here : (r : List Entry) (rs : List (List Entry)) (x : Entry) (d : Member) → In x (chosen r) → At d x.method (r ∷ rs)
  unfolding read_list read_total read_place
  place_here r rs x d c =
      cases (reaches_run reached r)
      (λ e. let o = choice-one i reached self r e in rw (is-there r x (choice-In i reached r x c).0, e, o.1) (omega arith, ap (λ (y : Entry). y.method) (sym (one-In o.0 x (subst (λ l. In x l) o.1 c)))))
      (λ e. absurd (subst (λ l. In x l) (choice-none i reached self r e) c))

  place-on : (r : List Entry) (rs : List (List Entry)) (x : Entry) (d : Member) → ((y : Entry) → In y r → LowerAt I y x) → At d x.method rs → At d x.method (r ∷ rs)
  unfolding read_list read_total read_place
  place-on r rs x d below h =
      let h0 = h.0 in
      cases (reaches_run reached r)
      (λ e. rw (not_there r x below, e, (choice-one i reached self r e).1) (omega (arith, h0), h.1))
      (λ e. rw (not_there r x below, e, choice-none i reached self r e) h)

  placed : (rs : List (List Entry)) → Sorted (RunLower I) rs → (x : Entry) (d : Member) → In x (flat chosen rs) → At d x.method rs
  placed [] s x d h = elim h [ ]
  placed (r ∷ rs) s x d h =
      either (In-append (chosen r) (flat chosen rs) x h)
      (λ c. place_here r rs x d c)
      (λ k. let q = In-flat chosen rs x k in
      place-on r rs x d (λ y j. s.0 q.0 q.1 y x j (choice-In i reached q.0 x q.2).0) (placed rs s.1 x d k))

  -- a method of the list stands at its place
  pub place_is : (rs : List (List Entry)) → Runs I rs → (m d : Member) → In m (read_list i reached rs) → At d m rs
  unfolding read_list
  place_is rs runs m d h =
      let p = In-map (λ (x : Entry). x.method) (flat chosen rs) m h in
      subst (λ n. At d n rs) (sym p.2) (placed rs runs.apart p.0 d p.1)

  -- THE PLACE OF A METHOD IS HOW MANY RUNS BEFORE ITS OWN ARE REACHED
  place-before : (rs : List (List Entry)) → Sorted (RunLower I) rs → (k : ℕ) (x : Entry) → k < length rs → In x (get_or rs k []) → place_in x.method rs ≡ length (keep (reaches_run reached) (take k rs))
  unfolding read_place
  place-before [] s k x l h = absurd (omega arith)
  place-before (r ∷ rs) s zero x l h = rw (is-there r x h)
  place-before (r ∷ rs) s (suc k) x l h =
      let n : k < length rs = omega arith in
      let other = not_there r x (λ y i. s.0 (get_or rs k []) (get_or-In rs k [] n) y x i h) in
      cases (reaches_run reached r)
      (λ e. rw (other, e) (ap suc (place-before rs s.1 k x n h)))
      (λ e. rw (other, e) (place-before rs s.1 k x n h))

  pub place-counts : (rs : List (List Entry)) → Runs I rs → (k : ℕ) (x : Entry) → k < length rs → In x (get_or rs k []) → place_in x.method rs ≡ length (keep (reaches_run reached) (take k rs))
  place-counts rs runs k x l h = place-before rs runs.apart k x l h
