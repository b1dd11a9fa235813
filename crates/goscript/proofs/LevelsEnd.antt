-- The levels of M come to an end: a named type is entered on one level only, and a step from one type without a name to another goes down in the table. So
-- a level that is not empty lies less than 2 × size + 1 steps down.
use mathlib.Core.Path.{◌≡◌, refl, sym, ap, ◌∙◌, subst}
use mathlib.Core.Bool.{Bool, true, false, cond, not, ◌||◌}
use mathlib.Core.List.{List, [], ◌∷◌, map}
use mathlib.Core.Logic.{inl}
use Prim.Native.Nat.{ℕ, zero, suc, ◌+◌, ◌≤◌, ◌<◌}
use native.Mathlib.Omega.{arith}
use native.Mathlib.Decide.{dec_lt}
use lib.Dec.{ltb}
use borrow.Author.Tests.{eqb-true, ltb-true}
use Rattle.objects.specs.Lists.{any, keep, flat, In}
use Rattle.objects.proofs.ListLaws.{cases, clash, or-true, and_l, and_r, any_append, any-map, any-In, some-In, In-keep, In-flat, In-map, keep-In-to}
use Rattle.objects.proofs.KeyLaws.{same_key, same_self}
use Rattle.objects.proofs.KindLaws.{pointer_is, under-plain, bare-plain, bare-pointer}
use Rattle.objects.specs.declared.TypeKey.{TypeKey}
use Rattle.objects.specs.Table.{Table, size, same_type, Entity, Field, Method, is_method, is_embedded, Kind, Pointer, kind_number, is_tuple, is_named, is_pointer, is_struct, is_iface, members_of, kind_at, bare}
use Rattle.rules.specs.Checks.{may_refer, may_embed, member_allowed, type_allowed}
use Rattle.rules.specs.Sound.{Sound}
use Rattle.rules.proofs.RangeLaws.{kind-out}
use Rattle.rules.specs.Ways.{Place, Walk, start, along, embedded, field_places, onward, walks}
use Rattle.ways.specs.Graph as over
use Rattle.ways.specs.MethodLevels.{reaches, barred, below}
use Rattle.ways.proofs.AllWays.{plain}
use Rattle.ways.proofs.Bridge.{walks-are}
use Rattle.ways.proofs.TableLaws.{closed, bare-in}
use Rattle.ways.proofs.MethodLevels.{set_level, sooner, new, new-level, new-short}
use Rattle.ways.proofs.MemberSorts.{field-In, field-no-method}

-- ---- ranks

module _ (T : Table) where
  abbrev pub rank : TypeKey → ℕ
  rank u = cond (is_struct (kind_at T u)) (suc u.0) 0

  abbrev pub top : ℕ
  top = suc (size T)

  high : (u : TypeKey) → rank u < top
  high u = cases (is_struct (kind_at T u)) (λ e. rw e (inside e)) (λ e. rw e (omega arith))
    where
      inside : is_struct (kind_at T u) ≡ true → suc u.0 < top
      inside e = elim (dec_lt u.0 (size T)) [ yes h ↦ omega arith | no h ↦ clash e (ap is_struct (kind-out T u h)) ]

  -- "refer to a smaller number than their type's, unless the target is named or iface"
  pub smaller : (t e : TypeKey) → may_refer T t e ≡ true → is_named (kind_at T e) ≡ false → is_iface (kind_at T e) ≡ false → e.0 < t.0
  smaller t e h n i = ltb-true e.0 t.0 (first (ltb e.0 t.0) (is_named (kind_at T e)) (is_iface (kind_at T e)) n i (and_r (not (is_tuple (kind_at T e))) (ltb e.0 t.0 || is_named (kind_at T e) || is_iface (kind_at T e)) h))
    where
      first : (a b c : Bool) → b ≡ false → c ≡ false → a || b || c ≡ true → a ≡ true
      first true b c n i h = refl
      first false true c n i h = clash refl n
      first false false c n i h = clash h i

  -- of a type that may be referred to and has no name
  low : (t n : ℕ) (u : TypeKey) → is_named (kind_at T u) ≡ false → (is_iface (kind_at T u) ≡ false → u.0 < n) → n ≤ t → rank u < suc t
  low t n u un down le =
      cases (is_struct (kind_at T u))
      (λ e. let l = down (rw (eqb-true (kind_number (kind_at T u)) 8 e)) in rw e (omega arith))
      (λ e. rw e (omega arith))

module _ (T : Table) (sound : Sound T) where
  -- an embedded field of a struct without a name leads to a named type or down
  field-falls : (t e : TypeKey) → may_refer T t e ≡ true → is_named (kind_at T (bare T e)) ≡ false → rank T (bare T e) < suc t.0
  field-falls t e h n =
      cases (is_pointer (kind_at T e))
      (λ p. let b = pointer_is (kind_at T e) p in pointed b.0 b.1)
      (λ p. let b = bare-plain T e p in rw b (low T t.0 t.0 e (ap (λ x. is_named (kind_at T x)) (sym b) ∙ n) (smaller T t e h (ap (λ x. is_named (kind_at T x)) (sym b) ∙ n)) (omega arith)))
    where
      pointed : (b : TypeKey) → kind_at T e ≡ Pointer b → rank T (bare T e) < suc t.0
      pointed b k =
          let q = bare-pointer T e b k in
          let n' : is_named (kind_at T b) ≡ false = ap (λ x. is_named (kind_at T x)) (sym q) ∙ n in
          let l : e.0 < t.0 = smaller T t e h (ap is_named k) (ap is_iface k) in
          let m : may_refer T e b ≡ true = ap (type_allowed T e) (sym k) ∙ sound.allowed e in
          rw q (low T t.0 e.0 b n' (smaller T e b m n') (omega arith))

  allowed-field : (t e : TypeKey) (k : Kind) (x : Entity) → member_allowed T t k e x ≡ true → is_method x ≡ false → may_refer T t e ≡ true
  allowed-field t e k (Field emb tag) h m = and_l (may_refer T t e) (not emb || may_embed T e) h
  allowed-field t e k (Method ptr) h m = clash refl m

  pub falls : (t : TypeKey) (p : Place) → In p (embedded T t) → is_named (kind_at T t) ≡ false → is_named (kind_at T (bare T p.member.type)) ≡ false
      → rank T (bare T p.member.type) < rank T t
  falls t p i nt ns =
      let f = (In-keep (λ (x : Place). is_embedded x.member.entity) (field_places T t) p i).0 in
      let d = field-In T sound t p f in
      let u = under-plain T t nt in
      let s : is_struct (kind_at T t) ≡ true = ap (λ x. is_struct (kind_at T x)) (sym u) ∙ d.0 in
      let m : In p.member (members_of (kind_at T t)) = subst (λ x. In p.member (members_of (kind_at T x))) u d.1 in
      rw s (field-falls t p.member.type (allowed-field t p.member.type (kind_at T t) p.member.entity (sound.allowed_member t p.member m) (field-no-method T sound t p f)) ns)

-- ---- levels

module _ (T : Table) (sound : Sound T) (t : TypeKey) (in0 : t.0 < size T) where
  short : (d : ℕ) (w : Walk) → In w (set_level T t d).walks → sooner T t d w.at ≡ false → d < size T
  short = new-short T t (closed T sound) (bare-in T sound t in0)

  -- what fewer steps reach, the levels have reached
  all-reached : (d : ℕ) (u : TypeKey) → sooner T t d u ≡ true → any (same_type u) (set_level T t d).reached ≡ true
  unfolding below
  all-reached zero u h = h
  all-reached (suc d) u h =
      any_append (same_type u) (map (λ (w : Walk). w.at) (set_level T t d).walks) (set_level T t d).reached
      ∙ cases (sooner T t d u)
      (λ e. ap (λ b. any (same_type u) (map (λ (w : Walk). w.at) (set_level T t d).walks) || b) (all-reached d u e) ∙ or-true (any (same_type u) (map (λ (w : Walk). w.at) (set_level T t d).walks)))
      (λ e.
      let w = some-In (λ (x : Walk). same_type x.at u) (over.walks (plain T) (start T t) d) (rw e at h) in
      ap (λ b. b || any (same_type u) (set_level T t d).reached) (found w.0 (subst (In w.0) (sym (walks-are T t d)) w.1) (same_key w.0.at u w.2) e))
    where
      found : (w : Walk) → In w (walks T t d) → w.at ≡ u → sooner T t d u ≡ false → any (same_type u) (map (λ (x : Walk). x.at) (set_level T t d).walks) ≡ true
      found w i s f =
          let n : new T t d w ≡ true = ap not (ap (sooner T t d) s ∙ f) in
          let j : In w (keep (new T t d) (set_level T t d).walks) = rw (new-level T t d) (keep-In-to (new T t d) (walks T t d) w i n) in
          any-map (same_type u) (λ (x : Walk). x.at) (set_level T t d).walks
          ∙ any-In (λ (x : Walk). same_type u x.at) (set_level T t d).walks w (In-keep (new T t d) (set_level T t d).walks w j).0 (ap (same_type u) s ∙ same_self u)

  -- a type met again has no name
  again : (d : ℕ) (w : Walk) → In w (set_level T t (suc d)).walks → sooner T t (suc d) w.at ≡ true → is_named (kind_at T w.at) ≡ false
  unfolding below
  again d w i h =
      let k = (In-keep (λ x. not (barred T (reaches T (set_level T t d)) x.at)) (flat (onward T) (set_level T t d).walks) w i).1 in
      cases (is_named (kind_at T w.at)) (λ o. clash k (rw (o, all-reached (suc d) w.at h))) (λ o. o)

  deep : (d : ℕ) (w : Walk) → In w (set_level T t d).walks → sooner T t d w.at ≡ true → d + rank T w.at < size T + top T
  unfolding below onward
  deep zero w i h = clash h refl
  deep (suc d) w i h =
      let k = In-keep (λ x. not (barred T (reaches T (set_level T t d)) x.at)) (flat (onward T) (set_level T t d).walks) w i in
      let v = In-flat (onward T) (set_level T t d).walks w k.0 in
      let s = In-map (along T v.0) (embedded T v.0.at) w v.2 in
      from v.0 v.1 s.0 s.1 s.2 (λ e. deep d v.0 v.1 e)
    where
      from : (v : Walk) → In v (set_level T t d).walks → (p : Place) → In p (embedded T v.at) → w ≡ along T v p → (sooner T t d v.at ≡ true → d + rank T v.at < size T + top T)
          → suc d + rank T w.at < size T + top T
      from v j p l e ih =
          cases (sooner T t d v.at)
          (λ r. older d j ih r)
          (λ r. let b = short d v j r in let hi = high T w.at in omega arith)
        where
          older : (c : ℕ) → In v (set_level T t c).walks → (sooner T t c v.at ≡ true → c + rank T v.at < size T + top T) → sooner T t c v.at ≡ true → suc c + rank T w.at < size T + top T
          older zero j ih r = clash r refl
          older (suc c) j ih r =
              let f : rank T w.at < rank T v.at = rw e (falls T sound v.at p l (again c v j r) (ap (λ (x : Walk). is_named (kind_at T x.at)) (sym e) ∙ again d w i h)) in
              let g = ih r in
              omega arith

  level-bound : (d : ℕ) (w : Walk) → In w (set_level T t d).walks → d < size T + top T
  level-bound d w i =
      cases (sooner T t d w.at)
      (λ e. let b = deep d w i e in omega arith)
      (λ e. let b = short d w i e in omega arith)

  -- FROM SO MANY STEPS ON A LEVEL IS EMPTY.
  pub level-none : (d : ℕ) → size T + top T ≤ d → (set_level T t d).walks ≡ []
  level-none d le = go (set_level T t d).walks refl
    where
      go : (W : List Walk) → (set_level T t d).walks ≡ W → (set_level T t d).walks ≡ []
      go [] e = e
      go (w ∷ ws) e = let b = level-bound d w (rw e (inl refl)) in absurd (omega arith)
