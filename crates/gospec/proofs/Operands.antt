-- Operands of a selector: which kinds they are of, that an operand's type and its shallowest depth are one, and what its selector denotes (`view`).
use mathlib.Core.Path.{◌≡◌, refl, sym, ap, ◌∙◌, subst}
use mathlib.Core.Bool.{Bool, true, false, ◌||◌}
use mathlib.Core.List.{List}
use mathlib.Core.Option.{Option}
use Prim.Native.Nat.{ℕ, ◌<◌}
use native.Mathlib.Omega.{arith}
use native.Mathlib.Decide.{dec_lt}
use Rattle.objects.specs.Lists.{Bytes, head_or}
use Rattle.objects.specs.declared.TypeKey.{TypeKey}
use Rattle.objects.specs.declared.PackageKey.{PackageKey}
use Rattle.objects.specs.Table.{Table, size, Member, Kind, Pointer, Iface, Named, is_pointer, is_iface, is_named, refs, fields_of, kind_at, bare, pointer_at}
use Rattle.objects.proofs.ListLaws.{clash}
use Rattle.objects.proofs.KindLaws.{under-plain, under-named}
use Rattle.text.specs.Bytes.{is_blank}
use Rattle.rules.specs.Sound.{Sound}
use Rattle.rules.specs.Ways.{Selected, notfound, is_ambiguous}
use Rattle.ways.specs.Graph.{select}
use Rattle.ways.specs.OfTable.{graph}
use Rattle.gospec.specs.Go.{At}
use Rattle.gospec.specs.GoSelectors.{underlying, Embeds, embeds, Occurs, Base, Operand, of-type, of-pointer, NoneShallower, Denotes, shallowest, dynamic, shorthand, Several, several, several-shorthand}
use Rattle.gospec.proofs.Places.{At-one}
use Rattle.gospec.proofs.Found.{asked, stars-bare, outcome, Found, absent, alone, crowd, finds}

-- ---- kinds

pub base-one : (a b : TypeKey) → Pointer a ≡ Pointer b → a ≡ b
base-one a b e = ap (λ k. head_or a (refs k)) e

module _ (T : Table) where
  pub under-pointer : (x e : TypeKey) → kind_at T x ≡ Pointer e → underlying T x ≡ Pointer e
  under-pointer x e p = rw (under-plain T x (ap is_named p)) p

  -- a defined type's underlying type
  pub under-defined : (x u : TypeKey) (ms : List Member) (k : Kind) → kind_at T x ≡ Named u ms → kind_at T u ≡ k → underlying T x ≡ k
  under-defined x u ms k p q = rw (under-named T x u ms p) q

  pub base-of : (t : TypeKey) → is_pointer (underlying T t) ≡ false → is_iface (underlying T t) ≡ false → Base T t
  base-of t p i = record { no_pointer = λ e z. clash (ap is_pointer z) p; no-interface = λ ms z. clash (ap is_iface z) i }

  pub embeds-one : (t a b : TypeKey) (i : ℕ) (o p : Bool) → Embeds T t i a o → Embeds T t i b p → (a ≡ b) × (o ≡ p)
  embeds-one t a b i o p (embeds {fs = fs} f l at m s) (embeds {fs = gs} g k bt n r) =
      let e : fs ≡ gs = ap fields_of (sym l ∙ k) in
      let h : f ≡ g = At-one gs i f g (subst (λ (z : List Member). At z i f) e at) bt in
      let u = stars-bare T f.type a o s in
      let v = stars-bare T g.type b p r in
      (sym u.0 ∙ ap (λ (z : Member). bare T z.type) h ∙ v.0, sym u.1 ∙ ap (λ (z : Member). pointer_at T z.type) h ∙ v.1)

  pub operand-one : (x t u : TypeKey) (o p : Bool) → Operand T x t o → Operand T x u p → (t ≡ u) × (o ≡ p)
  operand-one x t u o p (of-type b) (of-type c) = (refl, refl)
  operand-one x t u o p (of-type b) (of-pointer k c) = absurd (b.no_pointer u (under-pointer x u k))
  operand-one x t u o p (of-pointer k b) (of-type c) = absurd (c.no_pointer t (under-pointer x t k))
  operand-one x t u o p (of-pointer k b) (of-pointer l c) = (base-one t u (sym k ∙ l), refl)

  -- a type of an operand is neither an interface nor a defined pointer type
  pub operand-iface : (x t : TypeKey) (o : Bool) → Operand T x t o → (ms : List Member) → underlying T x ≡ Iface ms → ⊥
  operand-iface x t o (of-type b) ms e = b.no-interface ms e
  operand-iface x t o (of-pointer k b) ms e = clash refl (ap is_pointer (sym (under-pointer x t k) ∙ e))

  pub operand-defined : (x t : TypeKey) (o : Bool) → Operand T x t o → (u e : TypeKey) (ms : List Member) → kind_at T x ≡ Named u ms → kind_at T u ≡ Pointer e → ⊥
  operand-defined x t o (of-type b) u e ms k l = b.no_pointer e (under-defined x u ms (Pointer e) k l)
  operand-defined x t o (of-pointer p b) u e ms k l = clash refl (ap is_pointer (sym p ∙ k))

  -- ---- shallowest depths are one

  module _ (R : TypeKey → Type 0) (name : Bytes) (pkg : Option PackageKey) where
    same-depth : (t : TypeKey) (d e : ℕ) (ps qs : List ℕ) (m n : Member) (b c : Bool) → Occurs T name pkg t d ps m b → Occurs T name pkg t e qs n c
        → NoneShallower T name pkg t d → NoneShallower T name pkg t e → e ≡ d
    same-depth t d e ps qs m n b c x y nx ny =
        elim (dec_lt e d) [
          | yes h ↦ absurd (nx e qs n c h y)
          | no h ↦ elim (dec_lt d e) [ yes k ↦ absurd (ny d ps m b k x) | no k ↦ omega arith ]
        ]

    -- What an operand's selector denotes, y of type t or *t, and what a selection `sel` from t on gives, f if a pointer was removed before.
    pub data View (y t : TypeKey) (o : Bool) (sel : Bool → Selected) (f : Bool) : Type 0 where
      none-at : ((ps : List ℕ) (m : Member) (b : Bool) → Denotes T R name pkg y ps m b → ⊥) → (Several T R name pkg y → ⊥) → ((a : Bool) → sel a ≡ notfound) → View y t o sel f
      one_at : (ps : List ℕ) (m : Member) (d : ℕ) (c : Bool) → Denotes T R name pkg y ps m (o || c) → Occurs T name pkg t d ps m c → (Several T R name pkg y → ⊥)
          → ((qs : List ℕ) (n : Member) (e : Bool) → Denotes T R name pkg y qs n e → (g : Bool) × (e ≡ o || g) × Occurs T name pkg t d qs n g × ((a : Bool) → sel a ≡ outcome a f qs n g)) → View y t o sel f
      many-at : Several T R name pkg y → ((ps : List ℕ) (m : Member) (b : Bool) → Denotes T R name pkg y ps m b → ⊥) → ((a : Bool) → is_ambiguous (sel a) ≡ true) → View y t o sel f

    -- Denotes and Several of an operand, taken apart
    pub record Core (t : TypeKey) (ps : List ℕ) (m : Member) (c : Bool) (o : Bool) : Type 0 where
      pub depth : ℕ
      pub flag : Bool
      pub is : c ≡ o || flag
      pub occurs : Occurs T name pkg t depth ps m flag
      pub least : NoneShallower T name pkg t depth
      pub sole : (qs : List ℕ) (n : Member) (e : Bool) → Occurs T name pkg t depth qs n e → qs ≡ ps

    core : {y : TypeKey} {ps : List ℕ} {m : Member} {c : Bool} → Denotes T R name pkg y ps m c → (t : TypeKey) (o : Bool) → Operand T y t o → Core t ps m c o
    core (shallowest {x = x} {t = u} {d = d} {ps = ps} {m = m} {o = p} {b = b} op oc nn so) t o w =
        let e = operand-one x u t p o op w in
        subst (λ (z : TypeKey). Core z ps m (p || b) o) e.0 (record { depth = d; flag = b; is = ap (λ z. z || b) e.1; occurs = oc; least = nn; sole = so })
    core (dynamic {x = x} {ms = ms} m l a i) t o w = absurd (operand-iface x t o w ms l)
    core (shorthand {x = x} {u = u} {e = e} {ms = ms} m k l ρ d h) t o w = absurd (operand-defined x t o w u e ms k l)

    pub record Cores (t : TypeKey) : Type 0 where
      pub depth : ℕ
      pub ps : List ℕ
      pub qs : List ℕ
      pub m : Member
      pub n : Member
      pub b : Bool
      pub c : Bool
      pub first : Occurs T name pkg t depth ps m b
      pub second : Occurs T name pkg t depth qs n c
      pub differ : ps ≡ qs → ⊥
      pub least : NoneShallower T name pkg t depth

    cores : {y : TypeKey} → Several T R name pkg y → (t : TypeKey) (o : Bool) → Operand T y t o → Cores t
    cores (several {x = x} {t = u} {d = d} {ps = ps} {qs = qs} {m = m} {n = n} {o = p} {b = b} {c = c} op nn f g ne) t o w =
        subst (λ (z : TypeKey). Cores z) (operand-one x u t p o op w).0 (record { depth = d; ps = ps; qs = qs; m = m; n = n; b = b; c = c; first = f; second = g; differ = ne; least = nn })
    cores (several-shorthand {x = x} {u = u} {e = e} {ms = ms} k l ρ d) t o w = absurd (operand-defined x t o w u e ms k l)

    module _ (sound : Sound T) (nb : is_blank (asked T name pkg).name ≡ false) where
      pub view : (y t : TypeKey) (o f : Bool) → Operand T y t o → t.0 < size T → View y t o (λ a. select (graph T) (asked T name pkg) t f a) f
      view y t o f w in0 = go (finds T sound name pkg nb t in0 f)
        where
          go : Found T sound name pkg nb t in0 f → View y t o (λ a. select (graph T) (asked T name pkg) t f a) f
          go (absent n e) = none-at (λ ps m b d. let k = core d t o w in n k.depth ps m k.flag k.occurs) (λ s. let k = cores s t o w in n k.depth k.ps k.m k.b k.first) e
          go (alone d ps m b x n u) =
              one_at ps m d b (shallowest w x n (λ qs k c z. (u qs k c z).0)) x
              (λ z.
              let k = cores z t o w in
              let e = same-depth t d k.depth ps k.ps m k.m b k.b x k.first n k.least in
              k.differ ((u k.ps k.m k.b (subst (λ (i : ℕ). Occurs T name pkg t i k.ps k.m k.b) e k.first)).0
              ∙ sym (u k.qs k.n k.c (subst (λ (i : ℕ). Occurs T name pkg t i k.qs k.n k.c) e k.second)).0))
              (λ qs l c z.
              let k = core z t o w in
              let e = same-depth t d k.depth ps qs m l b k.flag x k.occurs n k.least in
              let v = subst (λ (i : ℕ). Occurs T name pkg t i qs l k.flag) e k.occurs in
              (k.flag, k.is, v, (u qs l k.flag v).1))
          go (crowd d ps m b qs l c x v ne n e) =
              many-at (several w n x v ne)
              (λ ps' m' b' z.
              let k = core z t o w in
              let i = same-depth t d k.depth ps ps' m m' b k.flag x k.occurs n k.least in
              ne (k.sole ps m b (subst (λ (j : ℕ). Occurs T name pkg t j ps m b) (sym i) x) ∙ sym (k.sole qs l c (subst (λ (j : ℕ). Occurs T name pkg t j qs l c) (sym i) v))))
              e
