-- COMPARABILITY IS GO'S: `comparable` holds exactly for what the Go specification calls comparable.
use mathlib.Core.Path.{◌≡◌, refl}
use mathlib.Core.Bool.{Bool, true}
use mathlib.Core.Logic.{◌↔◌}
use Prim.Native.Nat.{ℕ, zero, suc}
use borrow.Author.Tests.{eq-eqb, ne_eqb}
use Rattle.objects.specs.declared.TypeKey.{TypeKey}
use Rattle.objects.specs.Table.{Table, size, Kind, Basic, Array, Slice, Pointer, Map, Chan, Tuple, Func, Struct, Iface, Named, kind_at}
use Rattle.objects.proofs.ListLaws.{clash}
use Rattle.objects.proofs.BoolLaws.{every-from}
use Rattle.objects.proofs.PartLaws.{every-In}
use Rattle.rules.specs.Comparable.{comparable_kind, comparable_in, comparable}
use Rattle.rules.specs.Sound.{Sound}
use Rattle.rules.proofs.ComparableLaws.{comparable-step}
use Rattle.gospec.specs.Go.{untyped_nil, Comparable, basic-values, pointer-values, channel-values, interface-values, struct-values, array-values, defined-values}

module _ (T : Table) where
  -- one step of the rules is one sentence of the specification
  kind-go : (R : TypeKey → Bool) (t : TypeKey) (k : Kind) → kind_at T t ≡ k → ((e : TypeKey) → R e ≡ true → Comparable T e) → comparable_kind R k ≡ true → Comparable T t
  unfolding comparable_kind
  kind-go R t (Basic k) p rec h = basic-values p (λ e. clash h (rw (eq-eqb k untyped_nil e)))
  kind-go R t (Array m e) p rec h = array-values p (rec e h)
  kind-go R t (Slice e) p rec h = clash h refl
  kind-go R t (Pointer e) p rec h = pointer-values p
  kind-go R t (Map k e) p rec h = clash h refl
  kind-go R t (Chan d e) p rec h = channel-values p
  kind-go R t (Tuple es) p rec h = clash h refl
  kind-go R t (Func v a b) p rec h = clash h refl
  kind-go R t (Struct ms) p rec h = struct-values p (λ m i. rec m.type (every-In (λ m. R m.type) ms m h i))
  kind-go R t (Iface ms) p rec h = interface-values p
  kind-go R t (Named u ms) p rec h = defined-values p (rec u h)

  -- what is seen within n steps has a derivation
  steps-go : (n : ℕ) (t : TypeKey) → comparable_in T n t ≡ true → Comparable T t
  unfolding comparable_in
  steps-go zero t h = clash h refl
  steps-go (suc n) t h = kind-go (comparable_in T n) t (kind_at T t) refl (steps-go n) h

module _ (T : Table) (s : Sound T) where
  -- judged by its kind
  judged : (t : TypeKey) {k : Kind} → kind_at T t ≡ k → comparable_kind (comparable T) k ≡ true → comparable T t ≡ true
  judged t p h = rw (comparable-step T s t, p) h

  go-comparable : {t : TypeKey} → Comparable T t → comparable T t ≡ true
  unfolding comparable_kind
  go-comparable (basic-values {t = t} {k = k} p h) = judged t p (rw (ne_eqb k untyped_nil h))
  go-comparable (pointer-values {t = t} p) = judged t p refl
  go-comparable (channel-values {t = t} p) = judged t p refl
  go-comparable (interface-values {t = t} p) = judged t p refl
  go-comparable (struct-values {t = t} {fs = fs} p h) = judged t p (every-from (λ m. comparable T m.type) fs (λ m i. go-comparable (h m i)))
  go-comparable (array-values {t = t} p c) = judged t p (go-comparable c)
  go-comparable (defined-values {t = t} p c) = judged t p (go-comparable c)

  -- COMPARABILITY IS GO'S
  pub comparability-is-go : (t : TypeKey) → (comparable T t ≡ true) ↔ Comparable T t
  unfolding comparable
  comparability-is-go t = (steps-go T (suc (size T)) t, go-comparable)
