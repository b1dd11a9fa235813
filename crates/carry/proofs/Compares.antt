-- C: a type is comparable in U exactly if it was in T.
use mathlib.Core.Path.{◌≡◌, refl, sym, ap, ap₂, ◌∙◌}
use mathlib.Core.Bool.{Bool, true, cond, not, ◌&&◌, ◌||◌}
use mathlib.Core.List.{List, [], ◌∷◌, map}
use Prim.Native.Nat.{ℕ, zero, suc}
use lib.Dec.{eqb}
use borrow.Author.Tests.{eqb-true}
use Rattle.objects.specs.Lists.{every}
use Rattle.objects.specs.declared.TypeKey.{TypeKey}
use Rattle.objects.specs.Table.{Table, size, Member, Kind, Basic, Array, Slice, Pointer, Map, Chan, Tuple, Func, Struct, Iface, Named, kind_number, refs, fields_of, kind_at}
use Rattle.objects.proofs.ListLaws.{cases, clash}
use Rattle.objects.proofs.PairLaws.{AllPairs}
use Rattle.objects.proofs.BoolLaws.{iff-eq, and_yes}
use Rattle.rules.specs.Identity.{real_type, own_number}
use Rattle.rules.specs.Comparable.{comparable_kind, comparable_in, comparable}
use Rattle.rules.specs.Sound.{Sound}
use Rattle.rules.proofs.ComparableLaws.{comparable_kind-map, comparable-step}
use Rattle.carry.specs.Maps.{Likeness}
use Rattle.carry.proofs.Lines.{types-carried}

-- ---- comparability by what is kept of a kind: its number, its own number, the types it refers to and those of its fields

abbrev judged_by : (TypeKey → Bool) → (kind own : ℕ) → (refers fields : List TypeKey) → Bool
judged_by R kind own refers fields =
    cond (eqb kind 0) (not (eqb own 25))
    (cond (eqb kind 1 || eqb kind 10) (every R refers)
    (cond (eqb kind 8) (every R fields)
    (eqb kind 3 || eqb kind 5 || eqb kind 9)))

every_map : (R : TypeKey → Bool) (ms : List Member) → every (λ m. R m.type) ms ≡ every R (map (λ (m : Member). m.type) ms)
every_map R [] = refl
every_map R (m ∷ ms) = ap (λ b. R m.type && b) (every_map R ms)

nil-real : (k : ℕ) → eqb k 25 ≡ eqb (real_type k) 25
unfolding real_type
nil-real k =
    cases (eqb k 26)
    (λ e. rw (eqb-true k 26 e))
    (λ e. cases (eqb k 27) (λ d. rw (eqb-true k 27 d)) (λ d. rw (e, d)))

judged-by : (R : TypeKey → Bool) (t : TypeKey) (k : Kind) → comparable_kind R k ≡ judged_by R (kind_number k) (own_number t k) (refs k) (map (λ (m : Member). m.type) (fields_of k))
unfolding comparable_kind own_number
judged-by R t (Basic k) = ap not (nil-real k)
judged-by R t (Array n e) = sym (and_yes (R e))
judged-by R t (Slice e) = refl
judged-by R t (Pointer e) = refl
judged-by R t (Map k e) = refl
judged-by R t (Chan d e) = refl
judged-by R t (Tuple es) = refl
judged-by R t (Func v p r) = refl
judged-by R t (Struct ms) = every_map R ms
judged-by R t (Iface ms) = refl
judged-by R t (Named u ms) = sym (and_yes (R u))

pairs-every : (R : TypeKey → TypeKey → Type 0) (p q : TypeKey → Bool) → ((x y : TypeKey) → R x y → q y ≡ p x) → (l m : List TypeKey) → AllPairs R l m → every q m ≡ every p l
pairs-every R p q h [] [] a = refl
pairs-every R p q h [] (y ∷ m) a = absurd a
pairs-every R p q h (x ∷ l) [] a = absurd a
pairs-every R p q h (x ∷ l) (y ∷ m) a = ap₂ (λ b c. b && c) (h x y a.0) (pairs-every R p q h l m a.1)

-- ---- however deep

module _ (T : Table) (sound : Sound T) where
  -- comparable through however many elements, fields and names
  any-depth : (n : ℕ) (t : TypeKey) → comparable_in T n t ≡ true → comparable T t ≡ true
  unfolding comparable_in
  any-depth zero t h = clash h refl
  any-depth (suc n) t h = comparable-step T sound t ∙ comparable_kind-map (comparable_in T n) (comparable T) (kind_at T t) (λ e i. any-depth n e) h

module _ (R : TypeKey → TypeKey → Type 0) (T U : Table) (sound : Sound T) (sound_u : Sound U) (g : Likeness R T U) where
  depth-kept : (n : ℕ) (t u : TypeKey) → R t u → comparable_in U n u ≡ comparable_in T n t
  unfolding comparable_in
  depth-kept zero t u r = refl
  depth-kept (suc n) t u r =
      let c = g.line t u r in
      judged-by (comparable_in U n) t (kind_at U u)
      ∙ rw (
        pairs-every R (comparable_in T n) (comparable_in U n) (depth-kept n) (map (λ (m : Member). m.type) (fields_of (kind_at T t)))
            (map (λ (m : Member). m.type) (fields_of (kind_at U u))) (types-carried R T U (fields_of (kind_at T t)) (fields_of (kind_at U u)) c.fields),
        pairs-every R (comparable_in T n) (comparable_in U n) (depth-kept n) (refs (kind_at T t)) (refs (kind_at U u)) c.refers,
        c.kind,
        c.number,
      )
      (sym (judged-by (comparable_in T n) t (kind_at T t)))

  -- COMPARABILITY IS KEPT
  pub comparable-kept : (t u : TypeKey) → R t u → comparable U u ≡ comparable T t
  unfolding comparable
  comparable-kept t u r =
      iff-eq (comparable U u) (comparable T t)
      (λ e. any-depth T sound (suc (size U)) t (sym (depth-kept (suc (size U)) t u r) ∙ e))
      (λ e. any-depth U sound_u (suc (size T)) u (depth-kept (suc (size T)) t u r ∙ e))
