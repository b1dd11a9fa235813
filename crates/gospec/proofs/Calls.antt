-- Calls: the call of a method that is found is valid exactly if it is no method with pointer receiver, or a pointer lies on the way, or the operand is addressable.
use mathlib.Core.Path.{◌≡◌, refl, sym, ap, subst}
use mathlib.Core.Bool.{Bool, true, false, not, ◌&&◌, ◌||◌}
use mathlib.Core.List.{List, [], ◌∷◌, cons≢nil}
use mathlib.Core.Logic.{◌⊎◌, inl, inr}
use mathlib.Core.Option.{Option}
use Prim.Native.Nat.{ℕ}
use borrow.Author.Tests.{not-false, not-true}
use Rattle.objects.specs.Lists.{Bytes, head_or, In}
use Rattle.objects.specs.declared.TypeKey.{TypeKey}
use Rattle.objects.specs.declared.PackageKey.{PackageKey}
use Rattle.objects.specs.Table.{Table, Entity, Field, Method, Member, is_method, has_ptr, Kind, Pointer, Struct, Iface, is_func, members_of, kind_at, under}
use Rattle.objects.proofs.ListLaws.{cases, clash, either, or-true, and_r}
use Rattle.rules.specs.Load.{stands}
use Rattle.rules.specs.Checks.{member_allowed, may_have}
use Rattle.rules.specs.Sound.{Sound}
use Rattle.gospec.specs.Go.{At}
use Rattle.gospec.specs.GoSelectors.{underlying, a-field, a-method, of-interface, Embeds, Occurs, declared, promoted, Base, Operand, of-type, of-pointer, InSet, receiver-value, receiver-any, interface-set, value-embedded, value-embedded-star, star-embedded, Callable, in-set, in-pointer-set, in-address-set}
use Rattle.gospec.proofs.Places.{At-In}
use Rattle.gospec.proofs.Operands.{under-pointer, embeds-one}

-- all places but the first
abbrev pub tail_of : List ℕ → List ℕ
tail_of [] = []
tail_of (x ∷ xs) = xs

module _ (T : Table) (sound : Sound T) where
  -- ---- sorts of members

  -- a struct has fields
  pub field-sort : (t : TypeKey) (i : ℕ) (f : Member) (fs : List Member) → underlying T t ≡ Struct fs → At fs i f → is_method f.entity ≡ false
  field-sort t i f fs l a = go f.entity (subst (λ (k : Kind). stands f.entity k ≡ true) l (sound.standing (under T t) f (subst (λ (k : Kind). In f (members_of k)) (sym l) (At-In a))))
    where
      go : (e : Entity) → stands e (Struct fs) ≡ true → is_method e ≡ false
      go (Field emb tag) s = refl
      go (Method ptr) s = clash s refl

  -- an interface has methods, and none with pointer receiver
  pub method-sort : (t : TypeKey) (i : ℕ) (m : Member) (ms : List Member) → underlying T t ≡ Iface ms → At ms i m → (is_method m.entity ≡ true) × (has_ptr m.entity ≡ false)
  method-sort t i m ms l a =
      go m.entity (subst (λ (k : Kind). stands m.entity k ≡ true) l (sound.standing (under T t) m there))
      (subst (λ (k : Kind). member_allowed T (under T t) k m.type m.entity ≡ true) l (sound.allowed_member (under T t) m there))
    where
      there : In m (members_of (kind_at T (under T t)))
      there = subst (λ (k : Kind). In m (members_of k)) (sym l) (At-In a)

      go : (e : Entity) → stands e (Iface ms) ≡ true → member_allowed T (under T t) (Iface ms) m.type e ≡ true → (is_method e ≡ true) × (has_ptr e ≡ false)
      go (Field emb tag) s h = clash s refl
      go (Method ptr) s h = (refl, not-true ptr (and_r (is_func (kind_at T m.type)) (may_have T (Iface ms) ptr) h))

  -- ---- method sets

  set-places : {b : Bool} {t : TypeKey} {ps : List ℕ} {m : Member} → InSet T b t ps m → ps ≡ [] → ⊥
  set-places (receiver-value m k a e) z = cons≢nil z
  set-places (receiver-any k a) z = cons≢nil z
  set-places (interface-set k a) z = cons≢nil z
  set-places (value-embedded x i) z = cons≢nil z
  set-places (value-embedded-star x i) z = cons≢nil z
  set-places (star-embedded x i) z = cons≢nil z

  module _ (name : Bytes) (pkg : Option PackageKey) where
    -- what an occurrence behind an embedded field is made of
    pub record Inner (t : TypeKey) (i : ℕ) (ps : List ℕ) (m : Member) (b : Bool) : Type 0 where
      pub a : TypeKey
      pub d : ℕ
      pub o : Bool
      pub c : Bool
      pub embedded : Embeds T t i a o
      pub occurs : Occurs T name pkg a d ps m c
      pub is : b ≡ o || c

    inner : {t : TypeKey} {d : ℕ} {qs : List ℕ} {m : Member} {b : Bool} → Occurs T name pkg t d qs m b → (i : ℕ) (ps : List ℕ) → qs ≡ i ∷ ps → (ps ≡ []) ⊎ Inner t i ps m b
    inner (declared m x e) i ps z = inl (sym (ap tail_of z))
    inner (promoted {t = t} {a = a} {i = j} {d = d} {b = o} {c = c} {ps = qs} {m = m} x y) i ps z =
        inr (record { a = a; d = d; o = o; c = c; embedded = subst (λ (k : ℕ). Embeds T t k a o) (ap (head_or 0) z) x; occurs = subst (λ (k : List ℕ). Occurs T name pkg a d k m c) (ap tail_of z) y; is = refl })

    -- a method with pointer receiver is in the set only of a pointer, or behind one
    set-needs : {g : Bool} {t : TypeKey} {ps : List ℕ} {m : Member} → InSet T g t ps m → (d : ℕ) (b : Bool) → Occurs T name pkg t d ps m b → has_ptr m.entity ≡ true → g || b ≡ true
    set-needs (receiver-value m k a e) d b x h = clash h e
    set-needs (receiver-any k a) d b x h = refl
    set-needs (interface-set {t = t} {i = i} {m = m} {ms = ms} k a) d b x h = clash h (method-sort t i m ms k a).1
    set-needs (value-embedded {t = t} {a = a} {i = i} {b = g} {ps = ps} {m = m} e w) d b x h =
        either (inner x i ps refl) (λ z. absurd (set-places w z))
        (λ k.
        let u = embeds-one T t a k.a i false k.o e k.embedded in
        let ih = set-needs w k.d k.c (subst (λ (z : TypeKey). Occurs T name pkg z k.d ps m k.c) (sym u.0) k.occurs) h in
        rw (k.is, ← u.1, ih, or-true))
    set-needs (value-embedded-star e w) d b x h = refl
    set-needs (star-embedded {t = t} {a = a} {i = i} {b = g} {ps = ps} {m = m} e w) d b x h =
        either (inner x i ps refl) (λ z. absurd (set-places w z))
        (λ k. let u = embeds-one T t a k.a i true k.o e k.embedded in rw (k.is, ← u.1, or-true))

    -- a method with value receiver is in every set but that of a pointer to an interface
    set_value : {t : TypeKey} {d : ℕ} {ps : List ℕ} {m : Member} {b : Bool} → Occurs T name pkg t d ps m b → is_method m.entity ≡ true → has_ptr m.entity ≡ false
        → (g : Bool) → (g ≡ true → (ms : List Member) → underlying T t ≡ Iface ms → ⊥) → InSet T g t ps m
    set_value (declared {t = t} {i = i} m (a-field {fs = fs} l a) e) f h g n = clash f (field-sort t i m fs l a)
    set_value (declared m (a-method k a) e) f h true n = receiver-any k a
    set_value (declared m (a-method k a) e) f h false n = receiver-value m k a h
    set_value (declared m (of-interface {ms = ms} l a) e) f h true n = absurd (n refl ms l)
    set_value (declared m (of-interface l a) e) f h false n = interface-set l a
    set_value (promoted {b = true} x y) f h g n = star-embedded x (set_value y f h false (λ z. clash z refl))
    set_value (promoted {b = false} x y) f h g n = value-embedded x (set_value y f h false (λ z. clash z refl))

    set-pointer : {t : TypeKey} {d : ℕ} {ps : List ℕ} {m : Member} {b : Bool} → Occurs T name pkg t d ps m b → is_method m.entity ≡ true → has_ptr m.entity ≡ true
        → (g : Bool) → g || b ≡ true → InSet T g t ps m
    set-pointer (declared {t = t} {i = i} m (a-field {fs = fs} l a) e) f h g n = clash f (field-sort t i m fs l a)
    set-pointer (declared m (a-method k a) e) f h true n = receiver-any k a
    set-pointer (declared m (a-method k a) e) f h false n = clash n refl
    set-pointer (declared {t = t} {i = i} m (of-interface {ms = ms} l a) e) f h g n = clash h (method-sort t i m ms l a).1
    set-pointer (promoted {b = true} x y) f h g n = star-embedded x (set-pointer y f h true refl)
    set-pointer (promoted {b = false} x y) f h true n = value-embedded-star x (set-pointer y f h true refl)
    set-pointer (promoted {b = false} x y) f h false n = value-embedded x (set-pointer y f h false n)

    -- ---- calls

    no-pointer-at : (x : TypeKey) → Base T x → (e : TypeKey) → kind_at T x ≡ Pointer e → ⊥
    no-pointer-at x b e k = b.no_pointer e (under-pointer T x e k)

    and-false : (p : Bool) → p && false ≡ false
    and-false true = refl
    and-false false = refl

    -- the call of a method found is valid exactly if the receiver can be had
    pub call_needs : (x t : TypeKey) (d : ℕ) (o a : Bool) (ps : List ℕ) (m : Member) (b : Bool) → Operand T x t o → Occurs T name pkg t d ps m b
        → Callable T a x ps m → has_ptr m.entity && not (o || b) && not a ≡ false
    call_needs x t d o a ps m b (of-type w) y (in-set n i) = cases (has_ptr m.entity) (λ h. rw (h, set-needs i d b y h)) (λ h. rw h)
    call_needs x t d o a ps m b (of-type w) y (in-pointer-set {t = u} k i) = absurd (no-pointer-at x w u k)
    call_needs x t d o a ps m b (of-type w) y (in-address-set e i) = rw e (and-false (has_ptr m.entity && not b))
    call_needs x t d o a ps m b (of-pointer k w) y c = rw (and-false (has_ptr m.entity))

    pub call-has : (x t : TypeKey) (d : ℕ) (o a : Bool) (ps : List ℕ) (m : Member) (b : Bool) → Operand T x t o → Occurs T name pkg t d ps m b → is_method m.entity ≡ true
        → has_ptr m.entity && not (o || b) && not a ≡ false → Callable T a x ps m
    call-has x t d o a ps m b (of-type w) y f h =
        cases (has_ptr m.entity)
        (λ e. cases b
        (λ z. in-set (no-pointer-at x w) (set-pointer y f e false z))
        (λ z. in-address-set (not-false a (rw (e, z) at h)) (set-pointer y f e true refl)))
        (λ e. in-set (no-pointer-at x w) (set_value y f e false (λ z. clash z refl)))
    call-has x t d o a ps m b (of-pointer k w) y f h =
        cases (has_ptr m.entity)
        (λ e. in-pointer-set k (set-pointer y f e true refl))
        (λ e. in-pointer-set k (set_value y f e true (λ z. w.no-interface)))
