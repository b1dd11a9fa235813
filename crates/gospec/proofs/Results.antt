-- The rules of "Selectors" one by one: what the selection of a graph gives for an operand, an interface and a defined pointer type is what x.f denotes there.
use mathlib.Core.Path.{◌≡◌, refl, sym, ap, ◌∙◌, subst}
use mathlib.Core.Bool.{Bool, true, false, not, ◌&&◌, ◌||◌}
use mathlib.Core.List.{List, [], ◌∷◌}
use mathlib.Core.Logic.{◌⊎◌, inl, inr}
use mathlib.Core.Option.{Option}
use Prim.Native.Nat.{ℕ, zero, suc, ◌<◌}
use Rattle.objects.specs.Lists.{Bytes, Sorted}
use Rattle.objects.specs.declared.TypeKey.{TypeKey}
use Rattle.objects.specs.declared.PackageKey.{PackageKey}
use Rattle.objects.specs.Table.{Table, size, Entity, Field, Method, Member, is_method, has_ptr, Kind, Pointer, Iface, Named, is_pointer, is_iface, all_methods_of, kind_at, under}
use Rattle.objects.proofs.ListLaws.{cases, clash, either}
use Rattle.text.specs.Bytes.{is_blank}
use Rattle.rules.specs.Members.{identity_of}
use Rattle.rules.specs.Sound.{Sound, Lower}
use Rattle.rules.specs.Ways.{Selected, notfound, badreceiver, entry, ambiguous, is_ambiguous, no_method}
use Rattle.rules.proofs.SelectedLaws.{no-method-ambiguous}
use Rattle.rules.proofs.MemberLaws.{same_id-true}
use Rattle.rules.proofs.AscendLaws.{lower-apart}
use Rattle.ways.specs.Graph.{select}
use Rattle.ways.specs.OfTable.{graph}
use Rattle.ways.proofs.TableLaws.{names-neither}
use Rattle.gospec.specs.Go.{At, SameIds}
use Rattle.gospec.specs.GoSelectors.{underlying, a-field, a-method, of-interface, embeds, Occurs, declared, promoted, Base, Operand, of-type, of-pointer, Denotes, shallowest, dynamic, shorthand, Several, several, several-shorthand, interface-set, Callable, in-set}
use Rattle.gospec.specs.Says.{blank, Says, legal-field, legal-method, no_call, not-one, nothing, Alike}
use Rattle.gospec.proofs.Names.{go-hit}
use Rattle.gospec.proofs.Places.{At-In, at_head, at_tail}
use Rattle.gospec.proofs.Found.{asked, outcome, Found, absent, alone, crowd, finds}
use Rattle.gospec.proofs.Operands.{base-one, under-pointer, under-defined, operand-iface, operand-defined, View, none-at, one_at, many-at, view}
use Rattle.gospec.proofs.Calls.{method-sort, call_needs, call-has}

-- what a denotation is answered
pub record Given (T : Table) (x : TypeKey) (a : Bool) (r : Selected) (ps : List ℕ) (m : Member) (b : Bool) : Type 0 where
  pub if-field : is_method m.entity ≡ false → r ≡ entry m b ps
  pub if-call : is_method m.entity ≡ true → Callable T a x ps m → r ≡ entry m b ps
  pub if-not : is_method m.entity ≡ true → (Callable T a x ps m → ⊥) → r ≡ badreceiver
  pub decides : is_method m.entity ≡ true → Callable T a x ps m ⊎ (Callable T a x ps m → ⊥)

-- r is what x.f is answered: it denotes nothing, or something, of which every denotation is answered r, or there are several
module _ (T : Table) (R : TypeKey → Type 0) (name : Bytes) (pkg : Option PackageKey) (x : TypeKey) (a : Bool) where
  abbrev Den : List ℕ → Member → Bool → Type 0
  Den = Denotes T R name pkg x

  pub data Result (r : Selected) : Type 0 where
    r-none : ((ps : List ℕ) (m : Member) (b : Bool) → Den ps m b → ⊥) → (Several T R name pkg x → ⊥) → r ≡ notfound → Result r
    r-one : (ps : List ℕ) (m : Member) (b : Bool) → Den ps m b → (Several T R name pkg x → ⊥) → ((qs : List ℕ) (n : Member) (c : Bool) → Den qs n c → Given T x a r qs n c) → Result r
    r-many : Several T R name pkg x → ((ps : List ℕ) (m : Member) (b : Bool) → Den ps m b → ⊥) → is_ambiguous r ≡ true → Result r

  module _ (nb : name ≡ blank → ⊥) where
    pub result_says : (r : Selected) → Result r → Says T R name pkg x a r
    result_says r (r-none n s e) = rw e (nothing (inr (n, s)))
    result_says r (r-one ps m b d n f) =
        let g = f ps m b d in
        cases (is_method m.entity)
        (λ i. either (g.decides i) (λ c. rw (g.if-call i c) (legal-method m nb d i c)) (λ c. rw (g.if-not i c) (no_call m nb d i c)))
        (λ i. rw (g.if-field i) (legal-field m nb d i))
    result_says r (r-many s n e) = not-one nb s e

    pub says-result : (r u : Selected) → Result r → Says T R name pkg x a u → Alike u r
    says-result r u (r-none n s e) (legal-field m k d i) = absurd (n _ m _ d)
    says-result r u (r-none n s e) (legal-method m k d i c) = absurd (n _ m _ d)
    says-result r u (r-none n s e) (no_call m k d i c) = absurd (n _ m _ d)
    says-result r u (r-none n s e) (not-one k z y) = absurd (s z)
    says-result r u (r-none n s e) (nothing z) = inl (sym e)
    says-result r u (r-one ps m b d n f) (legal-field l k z i) = inl (sym ((f _ l _ z).if-field i))
    says-result r u (r-one ps m b d n f) (legal-method l k z i c) = inl (sym ((f _ l _ z).if-call i c))
    says-result r u (r-one ps m b d n f) (no_call l k z i c) = inl (sym ((f _ l _ z).if-not i c))
    says-result r u (r-one ps m b d n f) (not-one k z y) = absurd (n z)
    says-result r u (r-one ps m b d n f) (nothing z) = absurd (either z nb (λ w. w.0 ps m b d))
    says-result r u (r-many s n e) (legal-field m k d i) = absurd (n _ m _ d)
    says-result r u (r-many s n e) (legal-method m k d i c) = absurd (n _ m _ d)
    says-result r u (r-many s n e) (no_call m k d i c) = absurd (n _ m _ d)
    says-result r u (r-many s n e) (not-one k z y) = inr (y, e)
    says-result r u (r-many s n e) (nothing z) = absurd (either z nb (λ w. w.1 s))

-- an interface's methods ascend, so that no two places have one identity
ascend-at : (T : Table) (l : List Member) → Sorted (Lower T) l → (i j : ℕ) (m n : Member) → At l i m → At l j n → identity_of T m ≡ identity_of T n → i ≡ j
ascend-at T [] s i j m n a b e = elim a [ ]
ascend-at T (z ∷ l) s zero zero m n a b e = refl
ascend-at T (z ∷ l) s zero (suc j) m n a b e = absurd (lower-apart T z n (ap (identity_of T) (sym (at_head l z m a)) ∙ e) (s.0 n (At-In (at_tail l z n j b))))
ascend-at T (z ∷ l) s (suc i) zero m n a b e = absurd (lower-apart T z m (ap (identity_of T) (sym (at_head l z n b)) ∙ sym e) (s.0 m (At-In (at_tail l z m i a))))
ascend-at T (z ∷ l) s (suc i) (suc j) m n a b e = ap suc (ascend-at T l s.1 i j m n (at_tail l z m i a) (at_tail l z n j b) e)

-- a field has no receiver
pub field-ptr : (m : Member) → is_method m.entity ≡ false → has_ptr m.entity ≡ false
field-ptr m h = go m.entity h
  where
    go : (e : Entity) → is_method e ≡ false → has_ptr e ≡ false
    go (Field emb tag) h = refl
    go (Method ptr) h = clash refl h

-- the answer is an entry that is a method
abbrev pub method_in : Selected → Bool
method_in notfound = false
method_in badreceiver = false
method_in (entry m flag places) = is_method m.entity
method_in (ambiguous first second) = false

module _ (T : Table) (sound : Sound T) (R : TypeKey → Type 0) (name : Bytes) (pkg : Option PackageKey) (nb : is_blank (asked T name pkg).name ≡ false) where
  abbrev pub sel : TypeKey → Bool → Bool → Selected
  sel t f a = select (graph T) (asked T name pkg) t f a

  given : (x t : TypeKey) (d : ℕ) (o a : Bool) (r : Selected) (ps : List ℕ) (m : Member) (e g : Bool) → Operand T x t o → Occurs T name pkg t d ps m g → e ≡ o || g → r ≡ outcome a o ps m g → Given T x a r ps m e
  given x t d o a r ps m e g w y i z =
      record {
        if-field = λ h. z ∙ rw (field-ptr m h, i);
        if-call = λ h c. z ∙ rw (call_needs T sound name pkg x t d o a ps m g w y c, i);
        if-not = λ h c. cases (has_ptr m.entity && not (o || g) && not a) (λ k. z ∙ rw k) (λ k. absurd (c (call-has T sound name pkg x t d o a ps m g w y h k)));
        decides = λ h. cases (has_ptr m.entity && not (o || g) && not a) (λ k. inr (λ c. clash k (call_needs T sound name pkg x t d o a ps m g w y c))) (λ k. inl (call-has T sound name pkg x t d o a ps m g w y h k));
      }

  -- ---- "For a value x of type T or *T where T is not a pointer or interface type"

  pub direct : (x t : TypeKey) (o a : Bool) → Operand T x t o → t.0 < size T → Result T R name pkg x a (sel t o a)
  direct x t o a w in0 = go (view T R name pkg sound nb x t o o w in0)
    where
      go : View T R name pkg x t o (λ a. sel t o a) o → Result T R name pkg x a (sel t o a)
      go (none-at n s e) = r-none n s (e a)
      go (one_at ps m d c z y n f) = r-one ps m (o || c) z n (λ qs l e k. let g = f qs l e k in given x t d o a (sel t o a) qs l e g.0 w g.2 g.1 (g.3 a))
      go (many-at s n e) = r-many s n (e a)

  -- ---- pointers to pointers and to interfaces: nothing

  no_operand : (x t : TypeKey) → kind_at T x ≡ Pointer t → (Base T t → ⊥) → {u : TypeKey} {o : Bool} → Operand T x u o → ⊥
  no_operand x t k n (of-type w) = w.no_pointer t (under-pointer T x t k)
  no_operand x t k n (of-pointer {t = u} l w) = n (subst (Base T) (base-one u t (sym l ∙ k)) w)

  pub star-denotes : (x t : TypeKey) → kind_at T x ≡ Pointer t → (Base T t → ⊥) → (ps : List ℕ) (m : Member) (b : Bool) → Denotes T R name pkg x ps m b → ⊥
  star-denotes x t k n ps m b (shallowest op oc nn so) = no_operand x t k n op
  star-denotes x t k n ps m b (dynamic w l a i) = clash refl (ap is_pointer (sym (under-pointer T x t k) ∙ l))
  star-denotes x t k n ps m b (shorthand w l r ρ d h) = clash refl (ap is_pointer (sym k ∙ l))

  pub star-several : (x t : TypeKey) → kind_at T x ≡ Pointer t → (Base T t → ⊥) → Several T R name pkg x → ⊥
  star-several x t k n (several op nn f g ne) = no_operand x t k n op
  star-several x t k n (several-shorthand l r ρ d) = clash refl (ap is_pointer (sym k ∙ l))

  -- nothing is found in a pointer type
  dead : {t : TypeKey} {d : ℕ} {ps : List ℕ} {m : Member} {b : Bool} → Occurs T name pkg t d ps m b → is_pointer (underlying T t) ≡ true → ⊥
  dead (declared m (a-field l a) e) h = clash (ap is_pointer (sym l) ∙ h) refl
  dead (declared {t = t} m (a-method {u = u} {ms = ms} k a) e) h = clash (ap is_pointer (sym (under-defined T t u ms (kind_at T u) k refl)) ∙ h) (names-neither T sound t u ms m k (At-In a)).0
  dead (declared m (of-interface l a) e) h = clash (ap is_pointer (sym l) ∙ h) refl
  dead (promoted (embeds f l a m s) y) h = clash (ap is_pointer (sym l) ∙ h) refl

  pub dead-sel : (t : TypeKey) (f a : Bool) → t.0 < size T → is_pointer (underlying T t) ≡ true → sel t f a ≡ notfound
  dead-sel t f a in0 h = go (finds T sound name pkg nb t in0 f)
    where
      go : Found T sound name pkg nb t in0 f → sel t f a ≡ notfound
      go (absent n e) = e a
      go (alone d ps m b x n u) = absurd (dead x h)
      go (crowd d ps m b qs l c x y ne n e) = absurd (dead x h)

  -- ---- "For a value x of type I where I is an interface type"

  pub record Listed (ms : List Member) (d : ℕ) (ps : List ℕ) (m : Member) (b : Bool) : Type 0 where
    pub place : ℕ
    pub zero-depth : d ≡ 0
    pub places : ps ≡ place ∷ []
    pub there-is : At ms place m
    pub same_name : SameIds T m.name m.pkg name pkg
    pub flag : b ≡ false

  listed : {t : TypeKey} {d : ℕ} {ps : List ℕ} {m : Member} {b : Bool} → Occurs T name pkg t d ps m b → (ms : List Member) → underlying T t ≡ Iface ms → Listed ms d ps m b
  listed (declared m (a-field l a) e) ms h = clash refl (ap is_iface (sym h ∙ l))
  listed (declared {t = t} m (a-method {u = u} {ms = ns} k a) e) ms h = clash (ap is_iface (sym (under-defined T t u ns (kind_at T u) k refl) ∙ h)) (names-neither T sound t u ns m k (At-In a)).1
  listed (declared {i = i} m (of-interface {ms = ns} l a) e) ms h = record { place = i; zero-depth = refl; places = refl; there-is = subst (λ (z : List Member). At z i m) (ap all_methods_of (sym l ∙ h)) a; same_name = e; flag = refl }
  listed (promoted (embeds f l a m s) y) ms h = clash refl (ap is_iface (sym h ∙ l))

  iface-denotes : (x : TypeKey) (ms : List Member) → underlying T x ≡ Iface ms → {ps : List ℕ} {m : Member} {b : Bool} → Denotes T R name pkg x ps m b → Listed ms 0 ps m b
  iface-denotes x ms h (shallowest {t = t} {o = o} op oc nn so) = absurd (operand-iface T x t o op ms h)
  iface-denotes x ms h (dynamic {i = i} {ms = ns} m l a e) = record { place = i; zero-depth = refl; places = refl; there-is = subst (λ (z : List Member). At z i m) (ap all_methods_of (sym l ∙ h)) a; same_name = e; flag = refl }
  iface-denotes x ms h (shorthand {u = u} {e = e} {ms = ns} m k l ρ d f) = clash refl (ap is_iface (sym h ∙ under-defined T x u ns (Pointer e) k l))

  pub iface-several : (x : TypeKey) (ms : List Member) → underlying T x ≡ Iface ms → Several T R name pkg x → ⊥
  iface-several x ms h (several {t = t} {o = o} op nn f g ne) = operand-iface T x t o op ms h
  iface-several x ms h (several-shorthand {u = u} {e = e} {ms = ns} k l ρ d) = clash refl (ap is_iface (sym h ∙ under-defined T x u ns (Pointer e) k l))

  name-is : (m : Member) → SameIds T m.name m.pkg name pkg → identity_of T m ≡ asked T name pkg
  name-is m s = same_id-true (identity_of T m) (asked T name pkg) (go-hit T m name pkg s)

  pub faces : (x : TypeKey) (a : Bool) (ms : List Member) → x.0 < size T → underlying T x ≡ Iface ms → Result T R name pkg x a (sel x false a)
  faces x a ms in0 h = go (finds T sound name pkg nb x in0 false)
    where
      occ : (i : ℕ) (m : Member) → At ms i m → SameIds T m.name m.pkg name pkg → Occurs T name pkg x 0 (i ∷ []) m false
      occ i m t e = declared m (of-interface h t) e

      can : (i : ℕ) (m : Member) → At ms i m → Callable T a x (i ∷ []) m
      can i m t = in-set (λ e k. clash refl (ap is_iface (sym h ∙ under-pointer T x e k))) (interface-set h t)

      outcome-is : (i : ℕ) (m : Member) → At ms i m → outcome a false (i ∷ []) m false ≡ entry m false (i ∷ [])
      outcome-is i m t = rw (method-sort T sound x i m ms h t).1

      answered : (qs : List ℕ) (n : Member) (c : Bool) → ((i : ℕ) (m : Member) → Occurs T name pkg x 0 (i ∷ []) m false → sel x false a ≡ outcome a false (i ∷ []) m false)
          → Denotes T R name pkg x qs n c → Given T x a (sel x false a) qs n c
      answered qs n c f d =
          let l = iface-denotes x ms h d in
          subst (λ (z : List ℕ). Given T x a (sel x false a) z n c) (sym l.places)
          (record {
            if-field = λ e. clash (method-sort T sound x l.place n ms h l.there-is).0 e;
            if-call = λ e k. f l.place n (occ l.place n l.there-is l.same_name) ∙ outcome-is l.place n l.there-is ∙ ap (λ z. entry n z (l.place ∷ [])) (sym l.flag);
            if-not = λ e k. absurd (k (can l.place n l.there-is));
            decides = λ e. inl (can l.place n l.there-is);
          })

      go : Found T sound name pkg nb x in0 false → Result T R name pkg x a (sel x false a)
      go (absent n e) = r-none (λ ps m b d. let l = iface-denotes x ms h d in n 0 (l.place ∷ []) m false (occ l.place m l.there-is l.same_name)) (iface-several x ms h) (e a)
      go (alone d ps m b y n u) =
          let l = listed y ms h in
          r-one (l.place ∷ []) m false (dynamic m h l.there-is l.same_name) (iface-several x ms h)
          (λ qs k c z. answered qs k c (λ i w v. (u (i ∷ []) w false (subst (λ (j : ℕ). Occurs T name pkg x j (i ∷ []) w false) (sym l.zero-depth) v)).1 a) z)
      go (crowd d ps m b qs k c y z ne n e) =
          let l = listed y ms h in
          let o = listed z ms h in
          absurd (ne (l.places ∙ ap (λ i. i ∷ []) (ascend-at T ms (subst (λ (k : Kind). Sorted (Lower T) (all_methods_of k)) h (sound.ascend (under T x))) l.place o.place m k l.there-is o.there-is (name-is m l.same_name ∙ sym (name-is k o.same_name))) ∙ sym o.places))

  -- ---- "if the type of x is a defined pointer type"

  module _ (x u e : TypeKey) (ms : List Member) (k : kind_at T x ≡ Named u ms) (l : kind_at T u ≡ Pointer e) where
    pointer-under : underlying T x ≡ Pointer e
    pointer-under = under-defined T x u ms (Pointer e) k l

    pub inner-denotes : {ps : List ℕ} {m : Member} {b : Bool} → Denotes T R name pkg x ps m b → (c : Bool) × (is_method m.entity ≡ false) × (b ≡ true) × Denotes T R name pkg e ps m c × R e
    inner-denotes (shallowest {t = t} {o = o} op oc nn so) = absurd (operand-defined T x t o op u e ms k l)
    inner-denotes (dynamic m h a i) = clash refl (ap is_pointer (sym pointer-under ∙ h))
    inner-denotes (shorthand {u = v} {e = f} {ms = ns} {ps = ps} {b = b} m i j ρ d h) =
        let z : f ≡ e = base-one f e (sym (under-defined T x v ns (Pointer f) i j) ∙ pointer-under) in
        (b, h, refl, subst (λ (y : TypeKey). Denotes T R name pkg y ps m b) z d, subst R z ρ)

    pub inner-several : Several T R name pkg x → Several T R name pkg e × R e
    inner-several (several {t = t} {o = o} op nn f g ne) = absurd (operand-defined T x t o op u e ms k l)
    inner-several (several-shorthand {u = v} {e = f} {ms = ns} i j ρ d) =
        let z : f ≡ e = base-one f e (sym (under-defined T x v ns (Pointer f) i j) ∙ pointer-under) in (subst (Several T R name pkg) z d, subst R z ρ)

    -- of an interface it denotes a method, never a field
    pub no_field : (ns : List Member) → underlying T e ≡ Iface ns → (ps : List ℕ) (m : Member) (b : Bool) → Denotes T R name pkg x ps m b → ⊥
    no_field ns h ps m b d = let r = inner-denotes d in let i = iface-denotes e ns h r.3 in clash (method-sort T sound e i.place m ns h i.there-is).0 r.1

    flagged : (a : Bool) (ps : List ℕ) (m : Member) (g : Bool) → outcome a true ps m g ≡ entry m true ps
    flagged a ps m g = cases (has_ptr m.entity) (λ z. rw z) (λ z. rw z)

    pub short : (a : Bool) → e.0 < size T → Base T e → R e → Result T R name pkg x a (no_method (sel e true a))
    short a in0 base ρ = go (view T R name pkg sound nb e e false true (of-type base) in0)
      where
        field-given : (r : Selected) (ps : List ℕ) (m : Member) (b : Bool) → is_method m.entity ≡ false → r ≡ entry m true ps → b ≡ true → Given T x a r ps m b
        field-given r ps m b s z i = record { if-field = λ h. rw (i, z); if-call = λ h. clash h s; if-not = λ h. clash h s; decides = λ h. clash h s }

        kept : (m : Member) (ps : List ℕ) → is_method m.entity ≡ false → no_method (entry m true ps) ≡ entry m true ps
        kept m ps h = rw h

        dropped : (m : Member) (ps : List ℕ) → is_method m.entity ≡ true → no_method (entry m true ps) ≡ notfound
        dropped m ps h = rw h

        go : View T R name pkg e e false (λ a. sel e true a) true → Result T R name pkg x a (no_method (sel e true a))
        go (none-at n s v) = r-none (λ ps m b d. let r = inner-denotes d in n ps m r.0 r.3) (λ z. s (inner-several z).0) (ap no_method (v a))
        go (one_at ps m d c z y n f) =
            let g = f ps m c z in
            cases (is_method m.entity)
            (λ h. r-none (λ qs w b v.
            let i = inner-denotes v in
            let j = f qs w i.0 i.3 in
            clash h (sym (ap method_in (flagged a ps m g.0)) ∙ ap method_in (sym (g.3 a) ∙ j.3 a) ∙ ap method_in (flagged a qs w j.0) ∙ i.1))
            (λ w. n (inner-several w).0) (ap no_method (g.3 a ∙ flagged a ps m g.0) ∙ dropped m ps h))
            (λ h. r-one ps m true (shorthand m k l ρ z h) (λ w. n (inner-several w).0)
            (λ qs w b v.
            let i = inner-denotes v in
            let j = f qs w i.0 i.3 in
            field-given (no_method (sel e true a)) qs w b i.1 (ap no_method (j.3 a ∙ flagged a qs w j.0) ∙ kept w qs i.1) i.2))
        go (many-at s n v) = r-many (several-shorthand k l ρ s) (λ ps m b d. let r = inner-denotes d in n ps m r.0 r.3) (no-method-ambiguous (sel e true a) ∙ v a)
