-- COMPARABILITY (C): `comparable` is one step of itself (`comparable-step`), on every key of a sound table: as many steps as there are types see all.
use mathlib.Core.Path.{◌≡◌, refl}
use mathlib.Core.Bool.{Bool, true}
use mathlib.Core.Logic.{inl}
use Prim.Native.Nat.{ℕ, zero, suc}
use native.Mathlib.Omega.{arith}
use native.Mathlib.Decide.{dec_lt}
use Rattle.objects.specs.Lists.{In}
use Rattle.objects.specs.declared.TypeKey.{TypeKey}
use Rattle.objects.specs.Table.{Table, size, type_key, Member, Kind, Basic, Array, Slice, Pointer, Map, Chan, Tuple, Func, Struct, Iface, Named, by_value, kind_at}
use Rattle.objects.proofs.ListLaws.{clash, map-In-to}
use Rattle.objects.proofs.BoolLaws.{every-from, iff-eq}
use Rattle.objects.proofs.PartLaws.{every-In}
use Rattle.objects.proofs.Settle.{Stays, settles}
use Rattle.rules.specs.Comparable.{comparable_kind, comparable_in, comparable}
use Rattle.rules.specs.Sound.{Sound}
use Rattle.rules.proofs.RangeLaws.{kind-out, content-in}

-- more types comparable among what it is judged by: still comparable
pub comparable_kind-map : (R S : TypeKey → Bool) (k : Kind) → ((e : TypeKey) → In e (by_value k) → R e ≡ true → S e ≡ true) → comparable_kind R k ≡ true → comparable_kind S k ≡ true
unfolding comparable_kind
comparable_kind-map R S (Basic k) h e = e
comparable_kind-map R S (Array n a) h e = h a (inl refl) e
comparable_kind-map R S (Slice a) h e = e
comparable_kind-map R S (Pointer a) h e = e
comparable_kind-map R S (Map k a) h e = e
comparable_kind-map R S (Chan d a) h e = e
comparable_kind-map R S (Tuple es) h e = e
comparable_kind-map R S (Func v p r) h e = e
comparable_kind-map R S (Struct ms) h e = every-from (λ m. S m.type) ms (λ m i. h m.type (map-In-to (λ (m : Member). m.type) ms m i) (every-In (λ m. R m.type) ms m e i))
comparable_kind-map R S (Iface ms) h e = e
comparable_kind-map R S (Named u ms) h e = h u (inl refl) e

module _ (T : Table) where
  pub comparable-more : (n : ℕ) (t : TypeKey) → comparable_in T n t ≡ true → comparable_in T (suc n) t ≡ true
  unfolding comparable_in
  comparable-more zero t h = clash h refl
  comparable-more (suc n) t h = comparable_kind-map (comparable_in T n) (comparable_in T (suc n)) (kind_at T t) (λ e i. comparable-more n e) h

module _ (T : Table) (s : Sound T) where
  abbrev judged : ℕ → ℕ → Bool
  judged n i = comparable_in T n (type_key i)

  on : (n : ℕ) → Stays (size T) judged (λ k i. comparable-more T k (type_key i)) n → Stays (size T) judged (λ k i. comparable-more T k (type_key i)) (suc n)
  unfolding comparable_in
  on n h i l e = comparable_kind-map (comparable_in T (suc n)) (comparable_in T n) (kind_at T (type_key i)) (λ a j. h a.0 (content-in T s (type_key i) a j)) e

  -- one step more tells nothing new
  closed : (t : TypeKey) → comparable_in T (suc (suc (size T))) t ≡ true → comparable_in T (suc (size T)) t ≡ true
  unfolding comparable_in comparable_kind
  closed t e =
      elim (dec_lt t.0 (size T)) [
        | yes l ↦ settles (size T) judged (λ k i. comparable-more T k (type_key i)) on (suc (size T)) (omega arith) t.0 l e
        | no l ↦ rw (kind-out T t l)
      ]

  -- "a named type is judged as its u; an array is comparable if its element is, a struct if all its fields are; .."
  pub comparable-step : (t : TypeKey) → comparable T t ≡ comparable_kind (comparable T) (kind_at T t)
  unfolding comparable comparable_in
  comparable-step t = iff-eq (comparable_in T (suc (size T)) t) (comparable_in T (suc (suc (size T))) t) (comparable-more T (suc (size T)) t) (closed t)
