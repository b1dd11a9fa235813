-- `comparable` of typ.rs gives the rules' C, on every sound table: no type contains itself by value, so that the calls inside each other are at most as many as
-- there are types.
use mathlib.Core.Path.{◌≡◌, refl, sym, ap, ◌∙◌, subst}
use mathlib.Core.Bool.{Bool, true, false, ◌||◌}
use mathlib.Core.List.{List, [], ◌∷◌, map}
use mathlib.Core.Logic.{inl, inr}
use mathlib.Core.Option.{Option, some}
use Prim.Native.Nat.{ℕ, zero, suc, ◌+◌, ◌≤◌, ◌<◌}
use native.Mathlib.Omega.{arith}
use lib.ListN.{length, length-map}
use borrow.Author.Tests.{not-true}
use Rattle.objects.specs.Lists.{every, In}
use Rattle.objects.specs.declared.TypeKey.{TypeKey}
use Rattle.objects.specs.Table.{Table, size, same_type, Member, Kind, Basic, Array, Slice, Pointer, Map, Chan, Tuple, Func, Struct, Iface, Named, is_tuple, is_named, by_value, kind_at, under}
use Rattle.objects.proofs.ListLaws.{cases, clash, or_l, In-map, map-In-to}
use Rattle.objects.proofs.KeyLaws.{key-eq, same_key, same_self}
use Rattle.objects.proofs.KindLaws.{named-is, under-plain, under-named}
use Rattle.objects.proofs.Pigeons.{Distinct, pigeons}
use Rattle.rules.specs.Chains.{Chain, here, there}
use Rattle.rules.specs.Checks.{may_name, type_allowed, contents}
use Rattle.rules.specs.Comparable.{comparable_kind, comparable}
use Rattle.rules.specs.Sound.{Sound}
use Rattle.rules.proofs.RangeLaws.{content-in}
use Rattle.rules.proofs.ComparableLaws.{comparable-step}
use Rattle.goscript.specs.Comparable.{and_then, all_comparable, comparable_under, comparable_impl}

-- ---- one turn

module _ (R : TypeKey → Option Bool) (S : TypeKey → Bool) where
  all-is : (ms : List Member) → ((m : Member) → In m ms → R m.type ≡ some (S m.type)) → all_comparable R ms ≡ some (every (λ m. S m.type) ms)
  all-is [] h = refl
  all-is (m ∷ ms) h =
      ap (λ o. and_then o (all_comparable R ms)) (h m (inl refl))
      ∙ cases (S m.type) (λ e. rw e (all-is ms (λ x i. h x (inr i)))) (λ e. rw e)

  turn_is : (k : Kind) → is_named k ≡ false → ((e : TypeKey) → In e (by_value k) → R e ≡ some (S e)) → comparable_under R k ≡ some (comparable_kind S k)
  unfolding comparable_under comparable_kind
  turn_is (Basic k) n h = refl
  turn_is (Array m e) n h = h e (inl refl)
  turn_is (Slice e) n h = refl
  turn_is (Pointer e) n h = refl
  turn_is (Map k e) n h = refl
  turn_is (Chan d e) n h = refl
  turn_is (Tuple es) n h = refl
  turn_is (Func v p r) n h = refl
  turn_is (Struct ms) n h = all-is ms (λ m i. h m.type (map-In-to (λ (m : Member). m.type) ms m i))
  turn_is (Iface ms) n h = refl
  turn_is (Named u ms) n h = clash refl n

module _ (T : Table) (sound : Sound T) where
  -- ---- the types that the calls have come through

  -- q contains t by value
  abbrev Contains : TypeKey → TypeKey → Type 0
  Contains q t = (e : TypeKey) × In e (contents T q) × Chain (contents T) (same_type t) e

  chain-on : (t e u : TypeKey) → Chain (contents T) (same_type t) e → In u (contents T t) → Chain (contents T) (same_type u) e
  chain-on t e u (here h) i = there (subst (λ z. In u (contents T z)) (same_key t e h) i) (here (same_self u))
  chain-on t e u (there {y = y} j c) i = there j (chain-on t y u c i)

  record Came (l : List TypeKey) (t : TypeKey) : Type 0 where
    contain : (q : TypeKey) → In q l → Contains q t
    distinct : Distinct (map (λ q. q.0) l)
    inside : (q : TypeKey) → In q l → q.0 < size T

  on : (l : List TypeKey) (t u : TypeKey) → Came l t → In u (contents T t) → Came l u
  on l t u c i = record {
    contain = λ q j. let r = c.contain q j in (r.0, r.1, chain-on t r.0 u r.2 i);
    distinct = c.distinct;
    inside = c.inside;
  }

  -- a type is not among those that it was reached through
  apart : (l : List TypeKey) (t : TypeKey) → Came l t → In t.0 (map (λ (q : TypeKey). q.0) l) → ⊥
  apart l t c i =
      let r = In-map (λ (q : TypeKey). q.0) l t.0 i in
      let a = subst (λ q. Contains q t) (sym (key-eq t r.0 r.2)) (c.contain r.0 r.1) in
      sound.well_founded t a.0 a.1 a.2

  through : (l : List TypeKey) (t u : TypeKey) → t.0 < size T → Came l t → In u (contents T t) → Came (t ∷ l) u
  through l t u h c i = record { contain = contain; distinct = (apart l t c, c.distinct); inside = inside }
    where
      contain : (q : TypeKey) → In q (t ∷ l) → Contains q u
      contain q (inl e) = subst (λ z. Contains z u) (sym e) (u, i, here (same_self u))
      contain q (inr j) = (on l t u c i).contain q j

      inside : (q : TypeKey) → In q (t ∷ l) → q.0 < size T
      inside q (inl e) = rw e h
      inside q (inr j) = c.inside q j

  -- so many types cannot have been come through
  few : (l : List TypeKey) (t : TypeKey) → t.0 < size T → Came l t → length l < size T
  few l t h c =
      let p = pigeons (size T) (t.0 ∷ map (λ q. q.0) l) (apart l t c, c.distinct) below in
      let e = length-map l (λ q. q.0) in
      omega arith
    where
      below : (n : ℕ) → In n (t.0 ∷ map (λ (q : TypeKey). q.0) l) → n < size T
      below n (inl e) = rw e h
      below n (inr i) = let r = In-map (λ (q : TypeKey). q.0) l n i in rw r.2 (c.inside r.0 r.1)

  -- ---- the calls

  abbrev Gives : ℕ → Type 0
  Gives n = (l : List TypeKey) (t : TypeKey) → t.0 < size T → Came l t → size T ≤ n + length l → comparable_impl T n t ≡ some (comparable T t)

  -- the type under t is judged by what it contains
  judged : (n : ℕ) → Gives n → (l : List TypeKey) (u : TypeKey) → is_named (kind_at T u) ≡ false → ((e : TypeKey) → In e (contents T u) → Came l e) → size T ≤ n + length l
      → comparable_under (comparable_impl T n) (kind_at T u) ≡ some (comparable T u)
  judged n rec l u nn c le = turn_is (comparable_impl T n) (comparable T) (kind_at T u) nn (λ e i. rec l e (content-in T sound u e i) (c e i) le) ∙ ap some (sym (comparable-step T sound u))

  named : (n : ℕ) → Gives n → (l : List TypeKey) (t u : TypeKey) (ms : List Member) → kind_at T t ≡ Named u ms → t.0 < size T → Came l t → size T ≤ suc n + length l
      → comparable_under (comparable_impl T n) (kind_at T (under T t)) ≡ some (comparable T t)
  unfolding comparable_kind
  named n rec l t u ms k h c le =
      ap (λ x. comparable_under (comparable_impl T n) (kind_at T x)) (under-named T t u ms k)
      ∙ judged n rec (t ∷ l) u plain (λ e i. on (t ∷ l) u e (through l t u h c (rw k (inl refl))) i) (omega arith)
      ∙ ap some (sym (comparable-step T sound t ∙ ap (comparable_kind (comparable T)) k))
    where
      plain : is_named (kind_at T u) ≡ false
      plain = let a : may_name T u ≡ true = ap (type_allowed T t) (sym k) ∙ sound.allowed t in or_l (is_named (kind_at T u)) (is_tuple (kind_at T u)) (not-true (is_named (kind_at T u) || is_tuple (kind_at T u)) a)

  gives : (n : ℕ) → Gives n
  unfolding comparable_impl
  gives zero l t h c le = let f = few l t h c in absurd (omega arith)
  gives (suc n) l t h c le =
      cases (is_named (kind_at T t))
      (λ e. let r = named-is (kind_at T t) e in named n (gives n) l t r.0 r.1 r.2 h c le)
      (λ e. ap (λ x. comparable_under (comparable_impl T n) (kind_at T x)) (under-plain T t e) ∙ judged n (gives n) (t ∷ l) t e (λ u i. through l t u h c i) (omega arith))

  -- GOSCRIPT'S COMPARABILITY IS C'S, and its recursion ends
  pub comparable-is-goscript : (t : TypeKey) → t.0 < size T → (n : ℕ) → size T ≤ n → comparable_impl T n t ≡ some (comparable T t)
  comparable-is-goscript t h n le = gives n [] t h (record { contain = λ q i. absurd i; distinct = tt; inside = λ q i. absurd i }) (omega arith)
