-- N: the first method that is not met in U is the one that was not met in T, carried.
use mathlib.Core.Path.{◌≡◌, refl, ap, ap₂, ◌∙◌}
use mathlib.Core.Bool.{Bool, true, false, cond, not}
use mathlib.Core.List.{List, [], ◌∷◌, ◌++◌}
use mathlib.Core.Option.{Option, none, some}
use Prim.Native.Nat.{ℕ, suc}
use Rattle.objects.specs.Lists.{keep, when, mapped}
use Rattle.objects.proofs.PairLaws.{AllPairs}
use Rattle.objects.specs.declared.TypeKey.{TypeKey}
use Rattle.objects.specs.Table.{Table, Member, is_method, declared_of, fields_of, kind_at, under, bare, iface_under, all_methods}
use Rattle.rules.specs.Members.{identity_of, same_id, same_member}
use Rattle.rules.specs.Ways.{places_from, field_places, owned, searched_as, Selected, notfound, badreceiver, entry, ambiguous, select}
use Rattle.rules.specs.Missing.{compared, unmet_there, unmet_by, unmet, first_unmet, missing}
use Rattle.rules.specs.Sound.{Sound}
use Rattle.carry.specs.Maps.{CarriedMember, Likeness}
use Rattle.carry.specs.Carry.{counterpart, carry_lack}
use Rattle.carry.proofs.Pairing.{pairs-append, pairs-rest, pairs-keep}
use Rattle.carry.proofs.Lines.{iface-kept, fields-kept, methods-kept}
use Rattle.carry.proofs.Identities.{identical-kept}
use Rattle.carry.proofs.Walking.{CarriedPlace, places-carried, Beside, owned-kept}
use Rattle.carry.proofs.Selecting.{Found, select-found}

module _ (R : TypeKey → TypeKey → Type 0) (T U : Table) where
  -- a method of the interface i, as j has it
  abbrev Method : TypeKey → TypeKey → Member → Member → Type 0
  Method i j m n = CarriedMember R T U m n × (n ≡ counterpart T U i j m)

  methods-of : (i j : TypeKey) (k : ℕ) (ms ns : List Member) → AllPairs (Beside R T U i j) (places_from k ms) (places_from k ns) → AllPairs (Method i j) ms ns
  methods-of i j k [] [] a = tt
  methods-of i j k [] (n ∷ ns) a = a
  methods-of i j k (m ∷ ms) [] a = a
  methods-of i j k (m ∷ ms) (n ∷ ns) a = ((a.0.says, a.0.member), methods-of i j (suc k) ms ns a.1)

module _ (R : TypeKey → TypeKey → Type 0) (T U : Table) (sound : Sound T) (sound_u : Sound U) (g : Likeness R T U) where
  -- the last of the three lists that a type owns
  methods-carried : (i j : TypeKey) → R i j → AllPairs (Method R T U i j) (all_methods T i) (all_methods U j)
  unfolding owned
  methods-carried i j r =
      methods-of R T U i j 0 (all_methods T i) (all_methods U j)
      (pairs-rest (Beside R T U i j) (CarriedPlace R T U) (places_from 0 (declared_of (kind_at T i)) ++ field_places T i) (places_from 0 (all_methods T i))
      (places_from 0 (declared_of (kind_at U j)) ++ field_places U j) (places_from 0 (all_methods U j))
      (pairs-append (CarriedPlace R T U) (places_from 0 (declared_of (kind_at T i))) (field_places T i) (places_from 0 (declared_of (kind_at U j))) (field_places U j)
      (places-carried R T U 0 (declared_of (kind_at T i)) (declared_of (kind_at U j)) (g.line i j r).declared)
      (places-carried R T U 0 (fields_of (kind_at T (under T i))) (fields_of (kind_at U (under U j))) (fields-kept R T U g i j r)))
      (owned-kept R T U sound g i j r))

  -- ---- one method

  module _ (m n : Member) (c : CarriedMember R T U m n) where
    compared-kept : (x y : Member) → CarriedMember R T U x y → compared U n y ≡ compared T m x
    compared-kept x y d = ap (λ b. when (not b) true) (identical-kept R T U g sound sound_u m.type n.type x.type y.type c.type d.type)

    there-kept : (s : Bool) (xs ys : List Member) → AllPairs (CarriedMember R T U) xs ys → unmet_there U s n ys ≡ unmet_there T s m xs
    there-kept s [] [] a = refl
    there-kept s [] (y ∷ ys) a = absurd a
    there-kept s (x ∷ xs) [] a = absurd a
    there-kept s (x ∷ xs) (y ∷ ys) a = compared-kept x y a.0

    by-kept : (s z : TypeKey) (r o : Selected) → Found R T U s z r o → unmet_by U n o ≡ unmet_by T m r
    by-kept s z notfound o e = ap (unmet_by U n) e
    by-kept s z badreceiver o e = ap (unmet_by U n) e
    by-kept s z (entry x flag places) o e = ap (unmet_by U n) e.1 ∙ ap₂ (λ b r. cond b r (some false)) (ap is_method e.2.entity) (compared-kept x e.0 e.2)
    by-kept s z (ambiguous first second) o e = ap (unmet_by U n) e

    unmet-kept : (t u : TypeKey) → R t u → (s : Bool) → unmet U u s n ≡ unmet T t s m
    unfolding unmet
    unmet-kept t u r s =
        ap₂ (λ b x. cond b (unmet_there U s n (keep (same_member U n) (all_methods U u))) x) (iface-kept R T U g t u r)
        (ap (λ q. unmet_by U n (select U q u false)) c.identity
        ∙ by-kept (bare T (searched_as T t)) (bare U (searched_as U u)) (select T (identity_of T m) t false) (select U (identity_of T m) u false)
        (select-found R T U sound sound_u g (identity_of T m) t u r false))
        ∙ ap (λ x. cond (iface_under T t) x (unmet_by T m (select T (identity_of T m) t false)))
        (there-kept s (keep (same_member T m) (all_methods T t)) (keep (same_member U n) (all_methods U u))
        (pairs-keep (CarriedMember R T U) (same_member T m) (same_member U n) (λ x y d. ap₂ same_id c.identity d.identity) (all_methods T t) (all_methods U u) (methods-kept R T U g t u r)))

  -- ---- the first

  first-kept : (t u i j : TypeKey) → R t u → (s : Bool) (ms ns : List Member) → AllPairs (Method R T U i j) ms ns → first_unmet U u s ns ≡ mapped (carry_lack T U i j) (first_unmet T t s ms)
  first-kept t u i j r s [] [] a = refl
  first-kept t u i j r s [] (n ∷ ns) a = absurd a
  first-kept t u i j r s (m ∷ ms) [] a = absurd a
  first-kept t u i j r s (m ∷ ms) (n ∷ ns) a = go (unmet T t s m) refl (unmet-kept m n a.0.0 t u r s) (first-kept t u i j r s ms ns a.1)
    where
      go : (x : Option Bool) → unmet T t s m ≡ x → unmet U u s n ≡ unmet T t s m → first_unmet U u s ns ≡ mapped (carry_lack T U i j) (first_unmet T t s ms)
          → first_unmet U u s (n ∷ ns) ≡ mapped (carry_lack T U i j) (first_unmet T t s (m ∷ ms))
      go none e d ih = rw (d ∙ e, e, first_unmet) ih
      go (some w) e d ih = rw (d ∙ e, e, first_unmet) (ap (λ (x : Member). some (record { member = x; w = w })) a.0.1)

  -- WHAT IS MISSING IS KEPT
  pub missing-kept : (t u i j : TypeKey) → R t u → R i j → (s : Bool) → missing U u j s ≡ mapped (carry_lack T U i j) (missing T t i s)
  unfolding missing
  missing-kept t u i j r k s = first-kept t u i j r s (all_methods T i) (all_methods U j) (methods-carried i j k)
