-- Types that an old line refers to, but as a named type's u, are identical in the new library exactly if they were: they got no fields, nor did their parts.
use mathlib.Core.Path.{◌≡◌, refl, sym, ap, ap₂, ◌∙◌, subst}
use mathlib.Core.Bool.{Bool, true, false, not, ◌&&◌, beq}
use mathlib.Core.List.{List, [], ◌∷◌, ◌++◌, map, append-nil}
use mathlib.Core.Logic.{inl, inr}
use Prim.Native.Nat.{◌<◌}
use lib.Dec.{eqb}
use lib.ListN.{length, length-map}
use borrow.Author.Tests.{eqb-true, eq-eqb}
use Rattle.objects.specs.Lists.{In}
use Rattle.objects.proofs.ListLaws.{cases, clash, either, In-append, In-map, map-In-to, map-append, map-map}
use Rattle.objects.proofs.KeyLaws.{key-eq}
use Rattle.objects.proofs.KindLaws.{named-is}
use Rattle.objects.proofs.PairLaws.{pairs-self}
use Rattle.objects.specs.declared.TypeKey.{TypeKey}
use Rattle.objects.specs.Table.{Table, size, Member, is_embedded, tag_of, Kind, kind_number, is_named, refs, members_of, kind_at}
use Rattle.text.specs.Bytes.{same_bytes}
use Rattle.rules.specs.Members.{Identity, same_id}
use Rattle.rules.specs.Chains.{Chain, here, there}
use Rattle.rules.specs.Identity.{own_number, parts, Pair, corresponding, alike_member, alike, mismatch, pair_parts, identical}
use Rattle.rules.specs.Sound.{Sound, MemberOf}
use Rattle.rules.proofs.MemberLaws.{Alike, alike-join}
use Rattle.rules.proofs.StepLaws.{corr-from}
use Rattle.rules.proofs.IdentityLaws.{identical-chain}
use Rattle.growth.specs.Grown.{Numbers, carry_member, Free, Grew, grew-basic, grew-array, grew-slice, grew-pointer, grew_map, grew-chan, grew-tuple, grew-func, grew-iface, grew-struct, grew-named, Grown}
use Rattle.growth.proofs.GrowKinds.{kind-grew, refs-grew, kind-kept, identity-kept}

-- a named type's own number is its type number
own-named : (t : TypeKey) (k : Kind) → is_named k ≡ true → own_number t k ≡ t.0
unfolding own_number
own-named t k e = ap (own_number t) (named-is k e).2

module _ (n : Numbers) (A : Table) where
  -- ---- kinds that got no fields

  members-whole : (t : TypeKey) (k l : Kind) → (Free n A t → ⊥) → is_named k ≡ false → Grew n A t k l → members_of l ≡ map (carry_member n) (members_of k)
  members-whole t k l h e grew-basic = refl
  members-whole t k l h e grew-array = refl
  members-whole t k l h e grew-slice = refl
  members-whole t k l h e grew-pointer = refl
  members-whole t k l h e grew_map = refl
  members-whole t k l h e grew-chan = refl
  members-whole t k l h e grew-tuple = refl
  members-whole t k l h e grew-func = refl
  members-whole t k l h e grew-iface = refl
  members-whole t k l h e (grew-struct {fs = fs} more w (inl z)) = rw z (append-nil (map (carry_member n) fs))
  members-whole t k l h e (grew-struct more w (inr f)) = absurd (h f)
  members-whole t k l h e (grew-named more w) = clash refl e

  own-whole : (t : TypeKey) (k l : Kind) → (Free n A t → ⊥) → is_named k ≡ false → Grew n A t k l → own_number (n.ty t) l ≡ own_number t k
  unfolding own_number
  own-whole t k l h e grew-basic = refl
  own-whole t k l h e grew-array = refl
  own-whole t k l h e grew-slice = refl
  own-whole t k l h e grew-pointer = refl
  own-whole t k l h e grew_map = refl
  own-whole t k l h e grew-chan = refl
  own-whole t k l h e (grew-tuple {es = es}) = length-map es n.ty
  own-whole t k l h e grew-func = refl
  own-whole t k l h e (grew-iface {ms = ms}) = length-map ms (carry_member n)
  own-whole t k l h e (grew-struct {fs = fs} more w (inl z)) = rw z (ap length (append-nil (map (carry_member n) fs)) ∙ length-map fs (carry_member n))
  own-whole t k l h e (grew-struct more w (inr f)) = absurd (h f)
  own-whole t k l h e (grew-named more w) = clash refl e

  parts_whole : (t : TypeKey) (k l : Kind) → (Free n A t → ⊥) → Grew n A t k l → parts l ≡ map n.ty (parts k)
  unfolding parts
  parts_whole t k l h g =
      cases (is_named k)
      (λ e. rw (kind-grew n A t k l g, e))
      (λ e. rw (kind-grew n A t k l g, e)
      (ap₂ (λ r ms. r ++ map (λ (m : Member). m.type) ms) (refs-grew n A t k l g) (members-whole t k l h e g)
      ∙ ap (λ z. map n.ty (refs k) ++ z) (map-map (λ (m : Member). m.type) (carry_member n) (members_of k) ∙ sym (map-map n.ty (λ (m : Member). m.type) (members_of k)))
      ∙ sym (map-append n.ty (refs k) (map (λ (m : Member). m.type) (members_of k)))))

  abbrev carry_pair : Pair → Pair
  carry_pair p = record { left = n.ty p.left; right = n.ty p.right }

  pairs-whole : (xs ys : List TypeKey) → corresponding (map n.ty xs) (map n.ty ys) ≡ map carry_pair (corresponding xs ys)
  pairs-whole [] ys = refl
  pairs-whole (x ∷ xs) [] = refl
  pairs-whole (x ∷ xs) (y ∷ ys) = ap (λ r. carry_pair (record { left = x; right = y }) ∷ r) (pairs-whole xs ys)

module _ (n : Numbers) (A B : Table) (sound_a : Sound A) (sound_b : Sound B) (g : Grown n A B) where
  -- an old type that gets no fields
  pub record Whole (t : TypeKey) : Type 0 where
    pub known : t.0 < size A
    pub closed : Free n A t → ⊥

  -- ---- what old lines refer to

  ref-whole : (x t : TypeKey) → is_named (kind_at A x) ≡ false → In t (refs (kind_at A x)) → Whole t
  ref-whole x t e i = record { known = sound_a.refers x t i; closed = λ f. clash (f.unreferred x i) e }

  pub type-whole : (x : TypeKey) (m : Member) → MemberOf A x m → Whole m.type
  type-whole x m i = record { known = sound_a.typed x m i; closed = λ f. f.no_member x m i refl }

  part-whole : (x t : TypeKey) → In t (parts (kind_at A x)) → Whole t
  unfolding parts
  part-whole x t i =
      cases (is_named (kind_at A x))
      (λ e. absurd (rw e at i))
      (λ e. either (In-append (refs (kind_at A x)) (map (λ (m : Member). m.type) (members_of (kind_at A x))) t (rw e at i))
      (λ j. ref-whole x t e j)
      (λ j. let r = In-map (λ (m : Member). m.type) (members_of (kind_at A x)) t j in subst Whole (sym r.2) (type-whole x r.0 r.1)))

  -- ---- a mismatch

  member-kept : (x y : TypeKey) (m o : Member) → MemberOf A x m → MemberOf A y o → alike_member B (carry_member n m) (carry_member n o) ≡ alike_member A m o
  member-kept x y m o i j =
      ap₂ (λ (a b : Identity). same_id a b && beq (is_embedded m.entity) (is_embedded o.entity) && same_bytes (tag_of m.entity) (tag_of o.entity))
      (identity-kept n A B sound_a g x m i) (identity-kept n A B sound_a g y o j)

  alike-kept : (x y : TypeKey) (ms os : List Member) → ((m : Member) → In m ms → MemberOf A x m) → ((m : Member) → In m os → MemberOf A y m) → alike B (map (carry_member n) ms) (map (carry_member n) os) ≡ alike A ms os
  alike-kept x y [] [] h k = refl
  alike-kept x y [] (o ∷ os) h k = refl
  alike-kept x y (m ∷ ms) [] h k = refl
  alike-kept x y (m ∷ ms) (o ∷ os) h k =
      ap₂ (λ a b. a && b) (member-kept x y m o (h m (inl refl)) (k o (inl refl))) (alike-kept x y ms os (λ z i. h z (inr i)) (λ z i. k z (inr i)))

  number-kept : (x y : TypeKey) → x.0 < size A → y.0 < size A → eqb x.0 y.0 ≡ false → eqb (n.ty x).0 (n.ty y).0 ≡ false
  number-kept x y hx hy e =
      cases (eqb (n.ty x).0 (n.ty y).0)
      (λ f. clash (eq-eqb x.0 y.0 (ap (λ (t : TypeKey). t.0) (g.type_own x y hx hy (key-eq (n.ty x) (n.ty y) (eqb-true (n.ty x).0 (n.ty y).0 f))))) e)
      (λ f. f)

  abbrev carried : Pair → Pair
  carried = carry_pair n A

  -- what `mismatch` looks at
  abbrev matches : Table → TypeKey → TypeKey → Bool
  matches T x y = eqb (kind_number (kind_at T x)) (kind_number (kind_at T y)) && eqb (own_number x (kind_at T x)) (own_number y (kind_at T y)) && alike T (members_of (kind_at T x)) (members_of (kind_at T y))

  matches-self : (T : Table) (x : TypeKey) → matches T x x ≡ true
  matches-self T x =
      rw (eq-eqb (kind_number (kind_at T x)) (kind_number (kind_at T x)) refl, eq-eqb (own_number x (kind_at T x)) (own_number x (kind_at T x)) refl)
      (alike-join T (members_of (kind_at T x)) (members_of (kind_at T x)) (pairs-self (Alike T) (members_of (kind_at T x)) (λ m i. (refl, refl, refl))))

  -- named types match only themselves
  matches-named : (x y : TypeKey) → x.0 < size A → y.0 < size A → is_named (kind_at A x) ≡ true → is_named (kind_at A y) ≡ true → matches B (n.ty x) (n.ty y) ≡ matches A x y
  matches-named x y hx hy ex ey =
      cases (eqb x.0 y.0)
      (λ e. let z = key-eq x y (eqb-true x.0 y.0 e) in
      subst (λ (u : TypeKey). matches B (n.ty x) (n.ty u) ≡ matches A x u) z (matches-self B (n.ty x) ∙ sym (matches-self A x)))
      (λ e.
      let nx = ap (λ k. eqb k 10) (kind-kept n A B sound_a g x hx) ∙ ex in
      let ny = ap (λ k. eqb k 10) (kind-kept n A B sound_a g y hy) ∙ ey in
      none_other B (n.ty x) (n.ty y) nx ny (number-kept x y hx hy e) ∙ sym (none_other A x y ex ey e))
    where
      none : (k b : Bool) → k && false && b ≡ false
      none true b = refl
      none false b = refl

      none_other : (T : Table) (x y : TypeKey) → is_named (kind_at T x) ≡ true → is_named (kind_at T y) ≡ true → eqb x.0 y.0 ≡ false → matches T x y ≡ false
      none_other T x y ex ey e =
          rw (own-named x (kind_at T x) ex, own-named y (kind_at T y) ey, e) (none (eqb (kind_number (kind_at T x)) (kind_number (kind_at T y))) (alike T (members_of (kind_at T x)) (members_of (kind_at T y))))

  matches-other : (x y : TypeKey) → Whole x → Whole y → is_named (kind_at A x) ≡ false → is_named (kind_at A y) ≡ false → matches B (n.ty x) (n.ty y) ≡ matches A x y
  matches-other x y wx wy ex ey =
      let gx = g.grew x wx.known in
      let gy = g.grew y wy.known in
      three
      (ap₂ eqb (kind-grew n A x (kind_at A x) (kind_at B (n.ty x)) gx) (kind-grew n A y (kind_at A y) (kind_at B (n.ty y)) gy))
      (ap₂ eqb (own-whole n A x (kind_at A x) (kind_at B (n.ty x)) wx.closed ex gx) (own-whole n A y (kind_at A y) (kind_at B (n.ty y)) wy.closed ey gy))
      (ap₂ (alike B) (members-whole n A x (kind_at A x) (kind_at B (n.ty x)) wx.closed ex gx) (members-whole n A y (kind_at A y) (kind_at B (n.ty y)) wy.closed ey gy)
      ∙ alike-kept x y (members_of (kind_at A x)) (members_of (kind_at A y)) (λ m i. i) (λ m i. i))
    where
      three : {a b c a' b' c' : Bool} → a ≡ a' → b ≡ b' → c ≡ c' → a && b && c ≡ a' && b' && c'
      three p q r = rw (p, q, r)

  matches-kept : (x y : TypeKey) → Whole x → Whole y → matches B (n.ty x) (n.ty y) ≡ matches A x y
  matches-kept x y wx wy =
      cases (eqb (kind_number (kind_at A x)) (kind_number (kind_at A y)))
      (λ e. let k = eqb-true (kind_number (kind_at A x)) (kind_number (kind_at A y)) e in
      cases (is_named (kind_at A x))
      (λ t. matches-named x y wx.known wy.known t (ap (λ z. eqb z 10) (sym k) ∙ t))
      (λ t. matches-other x y wx wy t (ap (λ z. eqb z 10) (sym k) ∙ t)))
      (λ e. rw (kind-kept n A B sound_a g x wx.known, kind-kept n A B sound_a g y wy.known, e))

  mismatch-kept : (p : Pair) → Whole p.left → Whole p.right → mismatch B (carried p) ≡ mismatch A p
  unfolding mismatch
  mismatch-kept p wl wr = ap not (matches-kept p.left p.right wl wr)

  -- ---- chains

  parts-kept : (p : Pair) → Whole p.left → Whole p.right → pair_parts B (carried p) ≡ map carried (pair_parts A p)
  unfolding pair_parts
  parts-kept p wl wr =
      ap₂ corresponding
      (parts_whole n A p.left (kind_at A p.left) (kind_at B (n.ty p.left)) wl.closed (g.grew p.left wl.known))
      (parts_whole n A p.right (kind_at A p.right) (kind_at B (n.ty p.right)) wr.closed (g.grew p.right wr.known))
      ∙ pairs-whole n A (parts (kind_at A p.left)) (parts (kind_at A p.right))

  next-whole : (p z : Pair) → In z (pair_parts A p) → Whole z.left × Whole z.right
  unfolding pair_parts
  next-whole p z i =
      let r = corr-from (parts (kind_at A p.left)) (parts (kind_at A p.right)) z i in
      (part-whole p.left z.left r.0, part-whole p.right z.right r.1)

  there-kept : (p : Pair) → Whole p.left → Whole p.right → Chain (pair_parts A) (mismatch A) p → Chain (pair_parts B) (mismatch B) (carried p)
  there-kept p wl wr (here e) = here (mismatch-kept p wl wr ∙ e)
  there-kept p wl wr (there {y = z} i c) =
      let w = next-whole p z i in
      there (subst (In (carried z)) (sym (parts-kept p wl wr)) (map-In-to carried (pair_parts A p) z i)) (there-kept z w.0 w.1 c)

  back-kept : (r p : Pair) → r ≡ carried p → Whole p.left → Whole p.right → Chain (pair_parts B) (mismatch B) r → Chain (pair_parts A) (mismatch A) p
  back-kept r p e wl wr (here h) = here (sym (mismatch-kept p wl wr) ∙ ap (mismatch B) (sym e) ∙ h)
  back-kept r p e wl wr (there {y = z} i c) =
      let k = In-map carried (pair_parts A p) z (subst (In z) (ap (pair_parts B) e ∙ parts-kept p wl wr) i) in
      let w = next-whole p k.0 k.1 in
      there k.1 (back-kept z k.0 k.2 w.0 w.1 c)

  -- IDENTITY STAYS
  pub identity-stays : (x y : TypeKey) → Whole x → Whole y → identical B (n.ty x) (n.ty y) ≡ identical A x y
  identity-stays x y wx wy =
      let both : Pair = record { left = x; right = y } in
      let old = identical-chain A sound_a x y in
      let new = identical-chain B sound_b (n.ty x) (n.ty y) in
      cases (identical A x y)
      (λ e. cases (identical B (n.ty x) (n.ty y)) (λ f. f ∙ sym e)
      (λ f. clash e (old.1 (back-kept (carried both) both refl wx wy (new.0 f)))))
      (λ e. new.1 (there-kept both wx wy (old.0 e)) ∙ sym e)
