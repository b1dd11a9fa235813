-- `missing_method` gives the rules' N, on every sound table.
use mathlib.Core.Path.{◌≡◌, refl, sym, ap, ◌∙◌}
use mathlib.Core.Bool.{Bool, true, false}
use mathlib.Core.List.{List, [], ◌∷◌}
use mathlib.Core.Logic.{inl, inr}
use mathlib.Core.Option.{Option, none, some}
use Prim.Native.Nat.{ℕ, suc, ◌≤◌, ◌<◌}
use Rattle.objects.specs.Lists.{keep, In, empty}
use Rattle.objects.proofs.ListLaws.{cases, clash}
use Rattle.objects.proofs.BoolLaws.{iff-eq}
use Rattle.text.specs.Bytes.{is_blank}
use Rattle.objects.specs.declared.TypeKey.{TypeKey}
use Rattle.objects.specs.Table.{Table, size, is_method, Member, under, iface_under, all_methods}
use Rattle.rules.specs.Members.{Identity, identity_of, identity_from, same_id, same_member}
use Rattle.rules.proofs.MemberLaws.{same_id-true, same_id-self}
use Rattle.rules.specs.Sound.{Sound}
use Rattle.rules.specs.Ways.{places_from, Selected, notfound, badreceiver, entry, ambiguous, is_ambiguous}
use Rattle.rules.specs.Missing.{compared, unmet_there, unmet_by, unmet, first_unmet, missing}
use Rattle.goscript.specs.Lookup.{LookupResult, enough_turns, first_match}
use Rattle.goscript.specs.Agrees.{Agrees, entries, one-shown, bad-receivers, not-founds}
use Rattle.goscript.specs.Missing.{first_missing, wrong_type, found, check_there, result, check_concrete, missing_method}
use Rattle.ways.proofs.MemberSorts.{listed-In, listed-method}
use Rattle.goscript.proofs.IdenticalIs.{identical-types}
use Rattle.goscript.proofs.LookupIs.{lookup-is-goscript}

same_id-turn : (a b : Identity) → same_id a b ≡ same_id b a
same_id-turn a b =
    iff-eq (same_id a b) (same_id b a) (λ e. ap (same_id b) (same_id-true a b e) ∙ same_id-self b) (λ e. ap (same_id a) (same_id-true b a e) ∙ same_id-self a)

module _ (T : Table) (sound : Sound T) where
  wrong-type : (m x : Member) → wrong_type T m x ≡ compared T m x
  wrong-type m x = rw (identical-types T sound m.type x.type)

  -- the first of the list with the method's identity
  there-is : (s : Bool) (m : Member) (n : ℕ) (ms : List Member) → found T s m (first_match T (identity_of T m) (places_from n ms)) ≡ unmet_there T s m (keep (same_member T m) ms)
  there-is s m n [] = refl
  there-is s m n (x ∷ ms) =
      cases (same_id (identity_of T m) (identity_of T x))
      (λ e. rw (same_id-turn (identity_of T x) (identity_of T m) ∙ e, e) (wrong-type m x))
      (λ e. rw (same_id-turn (identity_of T x) (identity_of T m) ∙ e, e) (there-is s m (suc n) ms))

  result-is : (m : Member) {r : LookupResult} {s : Selected} → Agrees r s → result T m r ≡ unmet_by T m s
  result-is m (entries {m = g}) = cases (is_method g.entity) (λ e. rw e (wrong-type m g)) (λ e. rw e)
  result-is m (one-shown {s = s} e i) = sym (other s e)
    where
      other : (s : Selected) → is_ambiguous s ≡ true → unmet_by T m s ≡ some false
      other notfound e = refl
      other badreceiver e = refl
      other (entry g flag places) e = clash e refl
      other (ambiguous first second) e = refl
  result-is m bad-receivers = refl
  result-is m not-founds = refl

module _ (T : Table) where
  loop-is : (t : TypeKey) (s : Bool) (check : Member → Option Bool) (ms : List Member) → ((m : Member) → In m ms → check m ≡ unmet T t s m) → first_missing check ms ≡ first_unmet T t s ms
  loop-is t s check [] h = refl
  loop-is t s check (m ∷ ms) h = go (unmet T t s m) refl (loop-is t s check ms (λ x i. h x (inr i)))
    where
      go : (o : Option Bool) → unmet T t s m ≡ o → first_missing check ms ≡ first_unmet T t s ms → first_missing check (m ∷ ms) ≡ first_unmet T t s (m ∷ ms)
      go none e ih = rw (h m (inl refl) ∙ e, first_missing, e, first_unmet) ih
      go (some w) e ih = rw (h m (inl refl) ∙ e, first_missing, e, first_unmet)

module _ (T : Table) (sound : Sound T) (t i : TypeKey) (in0 : t.0 < size T) (s : Bool) (out : LookupResult) (k : ℕ) (le : enough_turns T ≤ k) where
  -- an interface's method is not blank
  named-method : (m : Member) → In m (all_methods T i) → is_blank (identity_of T m).name ≡ false
  unfolding all_methods identity_of identity_from
  named-method m j =
      sound.method_named (under T i) m (listed-In T sound i m j).1 (listed-method T sound i m j)

  there-met : iface_under T t ≡ true → (m : Member) → In m (all_methods T i) → check_there T s (all_methods T t) m ≡ unmet T t s m
  unfolding unmet
  there-met e m j = rw (e, named-method m j) (there-is T sound s m 0 (all_methods T t))

  concrete-met : iface_under T t ≡ false → (m : Member) → In m (all_methods T i) → check_concrete T out k t m ≡ unmet T t s m
  unfolding unmet
  concrete-met e m j = rw e (result-is T sound m (lookup-is-goscript T sound (identity_of T m) t in0 false out k le))

  -- GOSCRIPT'S MISSING METHOD IS N'S
  pub missing-is-goscript : missing_method T out k t i s ≡ missing T t i s
  unfolding missing
  missing-is-goscript =
      cases (empty (all_methods T i))
      (λ e. rw e (no-methods (all_methods T i) e))
      (λ e. rw e (cases (iface_under T t)
      (λ f. rw f (loop-is T t s (check_there T s (all_methods T t)) (all_methods T i) (there-met f)))
      (λ f. rw f (loop-is T t s (check_concrete T out k t) (all_methods T i) (concrete-met f)))))
    where
      no-methods : (ms : List Member) → empty ms ≡ true → none ≡ first_unmet T t s ms
      no-methods [] e = refl
      no-methods (m ∷ ms) e = clash e refl
