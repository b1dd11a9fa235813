-- The method set, and what selectors and calls say: a type's method set has m at ps exactly if x.f, with m's name, denotes m there and the call is valid with no
-- address taken (`set_says`, `says-set`).
use mathlib.Core.Path.{◌≡◌, refl, sym, ap, ◌∙◌, subst}
use mathlib.Core.Bool.{Bool, true, false, ◌||◌}
use mathlib.Core.List.{List, [], ◌∷◌}
use mathlib.Core.Option.{Option}
use Prim.Native.Nat.{ℕ, suc}
use native.Mathlib.Omega.{arith}
use Rattle.objects.specs.Lists.{Bytes, In}
use Rattle.objects.specs.declared.TypeKey.{TypeKey}
use Rattle.objects.specs.declared.PackageKey.{PackageKey}
use Rattle.objects.specs.Table.{Table, Entity, Field, Method, Member, is_method, has_ptr, Kind, Pointer, Iface, Named, is_pointer, is_iface, members_of, kind_at, under}
use Rattle.objects.proofs.ListLaws.{cases, clash, either}
use Rattle.text.specs.Bytes.{is_blank}
use Rattle.rules.specs.Load.{stands}
use Rattle.rules.specs.Sound.{Sound}
use Rattle.rules.specs.Ways.{Place}
use Rattle.ways.specs.Graph.{matching}
use Rattle.ways.specs.OfTable.{graph}
use Rattle.ways.proofs.Same.{One}
use Rattle.ways.proofs.TableLaws.{names-neither, one}
use Rattle.gospec.specs.Go.{At, SameIds}
use Rattle.gospec.specs.GoSelectors.{underlying, Declares, a-field, a-method, of-interface, Embeds, embeds, Occurs, declared, promoted, Base, Operand, of-type, of-pointer, NoneShallower, Text, Denotes, shallowest, dynamic, shorthand, InSet, receiver-value, receiver-any, interface-set, value-embedded, value-embedded-star, star-embedded, Callable, in-set, in-pointer-set}
use Rattle.gospec.specs.Says.{blank}
use Rattle.gospec.proofs.Names.{same-ids}
use Rattle.gospec.proofs.Places.{At-In}
use Rattle.gospec.proofs.Found.{asked, declares-member}
use Rattle.gospec.proofs.Operands.{under-pointer, under-defined, base-of}
use Rattle.gospec.proofs.Calls.{tail_of, field-sort, method-sort, call_needs}
use Rattle.gospec.proofs.SelectGo.{blank-is, not-blank, asked-blank}
use Rattle.gospec.specs.GoMethodSets.{Promoted, Methods, own_value, own_any, listed, from-value, from-value-star, from-star, MethodSet, of_plain, of-star}

-- of a list with one at most, any two are one
one_in : (l : List Place) (x y : Place) → One l → In x l → In y l → x ≡ y
one_in [] x y o i j = absurd i
one_in (p ∷ []) x y o i j = either i (λ e. either j (λ f. e ∙ sym f) (λ z. absurd z)) (λ z. absurd z)
one_in (p ∷ q ∷ l) x y o i j = absurd o

-- ---- the set without the condition of promotion is `InSet`

module _ (T : Table) where
  pub methods-in : {b : Bool} {t : TypeKey} {ps : List ℕ} {m : Member} → Methods T b t ps m → InSet T b t ps m
  methods-in (own_value m k a h) = receiver-value m k a h
  methods-in (own_any k w a) = receiver-any k a
  methods-in (listed l a) = interface-set l a
  methods-in (from-value e s p) = value-embedded e (methods-in s)
  methods-in (from-value-star e s p) = value-embedded-star e (methods-in s)
  methods-in (from-star e s p) = star-embedded e (methods-in s)

  set-callable : {x : TypeKey} {ps : List ℕ} {m : Member} → MethodSet T x ps m → (a : Bool) → Callable T a x ps m
  set-callable (of_plain n s) a = in-set n (methods-in s)
  set-callable (of-star k s) a = in-pointer-set k (methods-in s)

  -- a type with embedded fields is a struct
  struct-base : {t a : TypeKey} {i : ℕ} {o : Bool} → Embeds T t i a o → Base T t
  struct-base (embeds {fs = fs} f l at e s) = record { no_pointer = λ c z. clash refl (ap is_pointer (sym z ∙ l)); no-interface = λ ms z. clash refl (ap is_iface (sym z ∙ l)) }

  self : (m : Member) → SameIds T m.name m.pkg m.name m.pkg
  self m = same-ids T m.name m.name m.pkg m.pkg refl

-- ---- what is in a set is a method, has a name, and is what its selector denotes

module _ (T : Table) (sound : Sound T) where
  declared-sort : (t u : TypeKey) (i : ℕ) (m : Member) (ms : List Member) → kind_at T t ≡ Named u ms → At ms i m → is_method m.entity ≡ true
  declared-sort t u i m ms k a = go m.entity (subst (λ (z : Kind). stands m.entity z ≡ true) k (sound.standing t m (subst (λ (z : Kind). In m (members_of z)) (sym k) (At-In a))))
    where
      go : (e : Entity) → stands e (Named u ms) ≡ true → is_method e ≡ true
      go (Field emb tag) s = clash s refl
      go (Method ptr) s = refl

  methods-method : {b : Bool} {t : TypeKey} {ps : List ℕ} {m : Member} → Methods T b t ps m → is_method m.entity ≡ true
  methods-method (own_value {t = t} {u = u} {i = i} {ms = ms} m k a h) = declared-sort t u i m ms k a
  methods-method (own_any {t = t} {u = u} {i = i} {m = m} {ms = ms} k w a) = declared-sort t u i m ms k a
  methods-method (listed {t = t} {i = i} {m = m} {ms = ms} l a) = (method-sort T sound t i m ms l a).0
  methods-method (from-value e s p) = methods-method s
  methods-method (from-value-star e s p) = methods-method s
  methods-method (from-star e s p) = methods-method s

  -- a method under a T line has a name
  member-named : (t : TypeKey) (k : Kind) (i : ℕ) (m : Member) → kind_at T t ≡ k → At (members_of k) i m → is_method m.entity ≡ true → m.name ≡ blank → ⊥
  member-named t k i m z a h = not-blank m.name (sound.method_named t m (subst (λ (y : Kind). In m (members_of y)) (sym z) (At-In a)) h)

  methods-named : {b : Bool} {t : TypeKey} {ps : List ℕ} {m : Member} → Methods T b t ps m → m.name ≡ blank → ⊥
  methods-named (own_value {t = t} {u = u} {i = i} {ms = ms} m k a h) = member-named t (Named u ms) i m k a (declared-sort t u i m ms k a)
  methods-named (own_any {t = t} {u = u} {i = i} {m = m} {ms = ms} k w a) = member-named t (Named u ms) i m k a (declared-sort t u i m ms k a)
  methods-named (listed {t = t} {i = i} {m = m} {ms = ms} l a) = member-named (under T t) (Iface ms) i m l a (method-sort T sound t i m ms l a).0
  methods-named (from-value e s p) = p.named
  methods-named (from-value-star e s p) = p.named
  methods-named (from-star e s p) = p.named

  -- a defined type with methods is neither a pointer nor an interface
  defined-base : (t u : TypeKey) (i : ℕ) (m : Member) (ms : List Member) → kind_at T t ≡ Named u ms → At ms i m → Base T t
  defined-base t u i m ms k a =
      let n = names-neither T sound t u ms m k (At-In a) in
      let z : underlying T t ≡ kind_at T u = under-defined T t u ms (kind_at T u) k refl in
      base-of T t (ap is_pointer z ∙ n.0) (ap is_iface z ∙ n.1)

  -- what is found at depth 0 is declared there
  depth-zero : {name : Bytes} {pkg : Option PackageKey} {t : TypeKey} {d : ℕ} {ps : List ℕ} {m : Member} {b : Bool} → Occurs T name pkg t d ps m b → d ≡ 0
      → (i : ℕ) × (ps ≡ i ∷ []) × Declares T t i m × SameIds T m.name m.pkg name pkg
  depth-zero (declared {i = i} m x e) z = (i, refl, x, e)
  depth-zero (promoted x y) z = absurd (omega arith)

  -- a method declared in t is what x.f denotes, for x of type t or *t
  own-denotes : (R : TypeKey → Type 0) (x t : TypeKey) (o : Bool) (i : ℕ) (m : Member) → Operand T x t o → (m.name ≡ blank → ⊥) → Declares T t i m → Denotes T R m.name m.pkg x (i ∷ []) m (o || false)
  own-denotes R x t o i m w nb h =
      shallowest w (declared m h (self T m)) (λ e ps n b l y. absurd (omega arith))
      (λ qs n c y.
      let z = depth-zero y refl in
      let same = one_in (matching (graph T) (asked T m.name m.pkg) t) (record { place = z.0; member = n }) (record { place = i; member = m }) (one T sound (asked T m.name m.pkg) t (blankless (is_blank m.name) refl))
      (declares-member T m.name m.pkg t z.0 n z.2 z.3) (declares-member T m.name m.pkg t i m h (self T m)) in
      z.1 ∙ ap (λ (p : Place). p.place ∷ []) same)
    where
      blankless : (b : Bool) → is_blank m.name ≡ b → is_blank (asked T m.name m.pkg).name ≡ false
      blankless true e = absurd (nb (blank-is m.name e))
      blankless false e = asked-blank T m.name m.pkg false e

  -- a method is never denoted by the shorthand (*x).f, so every reading of it will do
  any-reading : (R S : TypeKey → Type 0) {name : Bytes} {pkg : Option PackageKey} {x : TypeKey} {ps : List ℕ} {m : Member} {b : Bool} → Denotes T R name pkg x ps m b → is_method m.entity ≡ true → Denotes T S name pkg x ps m b
  any-reading R S (shallowest w y n s) h = shallowest w y n s
  any-reading R S (dynamic m l a e) h = dynamic m l a e
  any-reading R S (shorthand m k l r d f) h = clash h f

  -- what a struct's selector denotes, a pointer's to it does
  starred : (R : TypeKey → Type 0) {name : Bytes} {pkg : Option PackageKey} {t : TypeKey} {ps : List ℕ} {m : Member} {b : Bool} → Denotes T R name pkg t ps m b → Base T t → is_method m.entity ≡ true
      → (x : TypeKey) → kind_at T x ≡ Pointer t → (c : Bool) × Denotes T R name pkg x ps m c
  starred R (shallowest {b = b} (of-type w) y n s) base h x k = (true || b, shallowest (of-pointer k base) y n s)
  starred R (shallowest {x = t} (of-pointer {t = u} l w) y n s) base h x k = absurd (base.no_pointer u (under-pointer T t u l))
  starred R (dynamic {ms = ms} m l a e) base h x k = absurd (base.no-interface ms l)
  starred R (shorthand m i l r d f) base h x k = clash h f

  set-denotes : (R : TypeKey → Type 0) {x : TypeKey} {ps : List ℕ} {m : Member} → MethodSet T x ps m → (b : Bool) × Denotes T R m.name m.pkg x ps m b
  set-denotes R {x} (of_plain n (own_value {u = u} {i = i} {ms = ms} m k a h)) = (false, own-denotes R x x false i m (of-type (defined-base x u i m ms k a)) (methods-named (own_value m k a h)) (a-method k a))
  set-denotes R (of_plain n (listed {m = m} l a)) = (false, dynamic m l a (self T m))
  set-denotes R (of_plain n (from-value e s p)) = (p.flag, any-reading (Text T) R p.denotes (methods-method s))
  set-denotes R (of_plain n (from-star e s p)) = (p.flag, any-reading (Text T) R p.denotes (methods-method s))
  set-denotes R {x} (of-star {t = t} z (own_any {i = i} {m = m} k w a)) = (true, own-denotes R x t true i m (of-pointer z w) (methods-named (own_any k w a)) (a-method k a))
  set-denotes R {x} (of-star z (from-value e s p)) = starred R (any-reading (Text T) R p.denotes (methods-method s)) (struct-base T e) (methods-method s) x z
  set-denotes R {x} (of-star z (from-value-star e s p)) = starred R (any-reading (Text T) R p.denotes (methods-method s)) (struct-base T e) (methods-method s) x z
  set-denotes R {x} (of-star z (from-star e s p)) = starred R (any-reading (Text T) R p.denotes (methods-method s)) (struct-base T e) (methods-method s) x z

  -- WHAT IS IN THE METHOD SET is what its selector denotes, a method, and may be called with no address taken.
  pub set_says : (R : TypeKey → Type 0) {x : TypeKey} {ps : List ℕ} {m : Member} → MethodSet T x ps m
      → (b : Bool) × (m.name ≡ blank → ⊥) × Denotes T R m.name m.pkg x ps m b × (is_method m.entity ≡ true) × Callable T false x ps m
  set_says R s = let d = set-denotes R s in (d.0, named s, d.1, method s, set-callable T s false)
    where
      named : {x : TypeKey} {ps : List ℕ} {m : Member} → MethodSet T x ps m → m.name ≡ blank → ⊥
      named (of_plain n s) = methods-named s
      named (of-star k s) = methods-named s

      method : {x : TypeKey} {ps : List ℕ} {m : Member} → MethodSet T x ps m → is_method m.entity ≡ true
      method (of_plain n s) = methods-method s
      method (of-star k s) = methods-method s

  -- ---- the other way round

  module _ (name : Bytes) (pkg : Option PackageKey) where
    -- the only shallowest occurrence
    record Shallowest (t : TypeKey) (d : ℕ) (ps : List ℕ) : Type 0 where
      none : NoneShallower T name pkg t d
      sole : (qs : List ℕ) (n : Member) (c : Bool) → Occurs T name pkg t d qs n c → qs ≡ ps

    -- m is asked for by its own name
    record Asked (m : Member) : Type 0 where
      of-name : name ≡ m.name
      of-pkg : pkg ≡ m.pkg
      named : m.name ≡ blank → ⊥
      method : is_method m.entity ≡ true

    -- behind an embedded field it is the only shallowest of that field's type: what is promoted to t is promoted at every step
    lower : (t a : TypeKey) (i d : ℕ) (o : Bool) (ps : List ℕ) → Embeds T t i a o → Shallowest t (suc d) (i ∷ ps) → Shallowest a d ps
    lower t a i d o ps x s = record {
      none = λ e qs n c l y. s.none (suc e) (i ∷ qs) n (o || c) (omega arith) (promoted x y);
      sole = λ qs n c y. ap tail_of (s.sole (i ∷ qs) n (o || c) (promoted x y));
    }

    promotes : (t a : TypeKey) (i d : ℕ) (o b : Bool) (ps : List ℕ) (m : Member) → Embeds T t i a o → Occurs T name pkg t d ps m b → Shallowest t d ps → Asked m → Promoted T t ps m
    promotes t a i d o b ps m x y s q = record {
      flag = false || b;
      named = q.named;
      denotes = subst (λ (z : Bytes). Denotes T (Text T) z m.pkg t ps m (false || b)) q.of-name
          (subst (λ (z : Option PackageKey). Denotes T (Text T) name z t ps m (false || b)) q.of-pkg (shallowest (of-type (struct-base T x)) y s.none s.sole));
    }

    -- a method with value receiver is in every set but that of a pointer to an interface
    has_value : {t : TypeKey} {d : ℕ} {ps : List ℕ} {m : Member} {b : Bool} → Occurs T name pkg t d ps m b → Shallowest t d ps → Asked m → has_ptr m.entity ≡ false
        → (g : Bool) → (g ≡ true → (ms : List Member) → underlying T t ≡ Iface ms → ⊥) → Methods T g t ps m
    has_value (declared {t = t} {i = i} m (a-field {fs = fs} l a) e) s q h g n = clash q.method (field-sort T sound t i m fs l a)
    has_value (declared {t = t} {i = i} m (a-method {u = u} {ms = ms} k a) e) s q h true n = own_any k (defined-base t u i m ms k a) a
    has_value (declared m (a-method k a) e) s q h false n = own_value m k a h
    has_value (declared m (of-interface {ms = ms} l a) e) s q h true n = absurd (n refl ms l)
    has_value (declared m (of-interface l a) e) s q h false n = listed l a
    has_value (promoted {t = t} {a = a} {i = i} {d = d} {b = true} {c = c} {ps = ps} {m = m} x y) s q h g n =
        from-star x (has_value y (lower t a i d true ps x s) q h false (λ z. clash z refl)) (promotes t a i (suc d) true (true || c) (i ∷ ps) m x (promoted x y) s q)
    has_value (promoted {t = t} {a = a} {i = i} {d = d} {b = false} {c = c} {ps = ps} {m = m} x y) s q h g n =
        from-value x (has_value y (lower t a i d false ps x s) q h false (λ z. clash z refl)) (promotes t a i (suc d) false (false || c) (i ∷ ps) m x (promoted x y) s q)

    -- one with pointer receiver is in the set of a pointer, or behind one
    has-pointer : {t : TypeKey} {d : ℕ} {ps : List ℕ} {m : Member} {b : Bool} → Occurs T name pkg t d ps m b → Shallowest t d ps → Asked m → has_ptr m.entity ≡ true
        → (g : Bool) → g || b ≡ true → Methods T g t ps m
    has-pointer (declared {t = t} {i = i} m (a-field {fs = fs} l a) e) s q h g n = clash q.method (field-sort T sound t i m fs l a)
    has-pointer (declared {t = t} {i = i} m (a-method {u = u} {ms = ms} k a) e) s q h true n = own_any k (defined-base t u i m ms k a) a
    has-pointer (declared m (a-method k a) e) s q h false n = clash n refl
    has-pointer (declared {t = t} {i = i} m (of-interface {ms = ms} l a) e) s q h g n = clash h (method-sort T sound t i m ms l a).1
    has-pointer (promoted {t = t} {a = a} {i = i} {d = d} {b = true} {c = c} {ps = ps} {m = m} x y) s q h g n =
        from-star x (has-pointer y (lower t a i d true ps x s) q h true refl) (promotes t a i (suc d) true (true || c) (i ∷ ps) m x (promoted x y) s q)
    has-pointer (promoted {t = t} {a = a} {i = i} {d = d} {b = false} {c = c} {ps = ps} {m = m} x y) s q h true n =
        from-value-star x (has-pointer y (lower t a i d false ps x s) q h true refl) (promotes t a i (suc d) false (false || c) (i ∷ ps) m x (promoted x y) s q)
    has-pointer (promoted {t = t} {a = a} {i = i} {d = d} {b = false} {c = c} {ps = ps} {m = m} x y) s q h false n =
        from-value x (has-pointer y (lower t a i d false ps x s) q h false n) (promotes t a i (suc d) false (false || c) (i ∷ ps) m x (promoted x y) s q)

    denoted-set : (R : TypeKey → Type 0) {x : TypeKey} {ps : List ℕ} {m : Member} {b : Bool} → Denotes T R name pkg x ps m b → Asked m → Callable T false x ps m → MethodSet T x ps m
    denoted-set R (shallowest {x = x} {d = d} {ps = ps} {m = m} {b = b} (of-type w) y n u) q c =
        of_plain (λ e k. w.no_pointer e (under-pointer T x e k))
        (cases (has_ptr m.entity)
        (λ h. has-pointer y s q h false (needs h))
        (λ h. has_value y s q h false (λ z. clash z refl)))
      where
        s : Shallowest x d ps
        s = record { none = n; sole = u }

        needs : has_ptr m.entity ≡ true → false || b ≡ true
        needs h = cases b (λ e. e) (λ e. clash refl (rw (h, e) at (call_needs T sound name pkg x x d false false ps m b (of-type w) y c)))
    denoted-set R (shallowest {t = t} {d = d} {ps = ps} {m = m} (of-pointer k w) y n u) q c =
        of-star k
        (cases (has_ptr m.entity)
        (λ h. has-pointer y (record { none = n; sole = u }) q h true refl)
        (λ h. has_value y (record { none = n; sole = u }) q h true (λ z. w.no-interface)))
    denoted-set R (dynamic {x = x} m l a e) q c = of_plain (λ f k. clash refl (ap is_iface (sym l ∙ under-pointer T x f k))) (listed l a)
    denoted-set R (shorthand m k l r d f) q c = clash q.method f

  -- AND WHAT ITS OWN NAME'S SELECTOR DENOTES, a method that may be called with no address taken, is in the method set.
  pub says-set : (R : TypeKey → Type 0) (x : TypeKey) (ps : List ℕ) (m : Member) (b : Bool) → (m.name ≡ blank → ⊥) → Denotes T R m.name m.pkg x ps m b → is_method m.entity ≡ true → Callable T false x ps m → MethodSet T x ps m
  says-set R x ps m b n d h c = denoted-set m.name m.pkg R d (record { of-name = refl; of-pkg = refl; named = n; method = h }) c
