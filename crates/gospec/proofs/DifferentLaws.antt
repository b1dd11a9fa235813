-- What the Go specification calls different is not identical by the rules: every constructor of `Different` contradicts what identical types have in common.
use mathlib.Core.Path.{◌≡◌, refl, sym, ◌∙◌, subst}
use mathlib.Core.Bool.{Bool, true, false}
use mathlib.Core.List.{List, map, append-nil}
use mathlib.Core.Logic.{◌⊎◌, inl, inr}
use Prim.Native.Nat.{ℕ}
use native.Mathlib.Omega.{arith}
use lib.Dec.{eqb}
use borrow.Author.Tests.{eqb-true}
use Rattle.objects.specs.Lists.{In, Sorted}
use Rattle.objects.specs.declared.TypeKey.{TypeKey}
use Rattle.objects.specs.declared.Dir.{Dir}
use Rattle.objects.specs.Table.{Table, dir_number, bit, Member, Kind, Struct, Iface, all_methods_of, kind_at}
use Rattle.objects.proofs.ListLaws.{cases, clash, either}
use Rattle.objects.proofs.BoolLaws.{false_of}
use Rattle.objects.proofs.PairLaws.{pairs-left}
use Rattle.objects.proofs.KeyLaws.{key-eq}
use Rattle.rules.specs.Members.{identity_of}
use Rattle.rules.specs.Identity.{real_type, own_number, parts, identical}
use Rattle.rules.specs.Sound.{Sound, Lower}
use Rattle.rules.proofs.MemberLaws.{Alike}
use Rattle.rules.proofs.StepLaws.{AgreeKinds, Holds}
use Rattle.rules.proofs.AscendLaws.{ascend-one}
use Rattle.rules.proofs.IdentityLaws.{identical-parts}
use Rattle.gospec.specs.Go.{At, Alias, byte-is-uint8, rune-is-int32, SameBasic, itself, left-alias, right-alias, Different, names, predeclared, forms, array-elements, array-lengths, slice-elements, struct-counts, struct-embedding, struct-names, struct-types, struct-tags, pointer-bases, func-parameters, func-results, func-variadic, tuple-counts, tuple-types, iface-lacks, iface-adds, iface-types, map_keys, map-elements, chan-elements, chan-directions}
use Rattle.gospec.proofs.Forms.{number-form}
use Rattle.gospec.proofs.Names.{same_names}
use Rattle.gospec.proofs.Places.{At-In, In-At, At-map, pairs-at, pairs-beside}

-- ---- basic types, directions, variadic

alias-real : (j k : ℕ) → Alias j k → real_type j ≡ real_type k
unfolding real_type
alias-real j k byte-is-uint8 = refl
alias-real j k rune-is-int32 = refl

pub basic-real : (j k : ℕ) → SameBasic j k → real_type j ≡ real_type k
basic-real j k itself = refl
basic-real j l (left-alias {k = k} a s) = alias-real j k a ∙ basic-real k l s
basic-real j l (right-alias {k = k} s a) = basic-real j k s ∙ sym (alias-real l k a)

alias-or : (k : ℕ) → Alias k (real_type k) ⊎ (k ≡ real_type k)
unfolding real_type
alias-or k =
    cases (eqb k 26)
    (λ e. inl (rw (eqb-true k 26 e) byte-is-uint8))
    (λ e. cases (eqb k 27) (λ f. inl (rw (eqb-true k 27 f) rune-is-int32)) (λ f. inr (rw (e, f))))

pub real-basic : (j k : ℕ) → real_type j ≡ real_type k → SameBasic j k
real-basic j k h = either (alias-or k) (λ a. right-alias one (subst (Alias k) (sym h) a)) (λ e. subst (SameBasic j) (h ∙ sym e) one)
  where
    one : SameBasic j (real_type j)
    one = either (alias-or j) (λ a. left-alias a itself) (λ e. subst (SameBasic j) e itself)

dir-eq : (c d : Dir) → dir_number c ≡ dir_number d → c ≡ d
dir-eq Dir.Both Dir.Both h = refl
dir-eq Dir.Both Dir.Send h = absurd (omega arith)
dir-eq Dir.Both Dir.Receive h = absurd (omega arith)
dir-eq Dir.Send Dir.Both h = absurd (omega arith)
dir-eq Dir.Send Dir.Send h = refl
dir-eq Dir.Send Dir.Receive h = absurd (omega arith)
dir-eq Dir.Receive Dir.Both h = absurd (omega arith)
dir-eq Dir.Receive Dir.Send h = absurd (omega arith)
dir-eq Dir.Receive Dir.Receive h = refl

bit-eq : (v w : Bool) → bit v ≡ bit w → v ≡ w
bit-eq true true h = refl
bit-eq true false h = absurd (omega arith)
bit-eq false true h = absurd (omega arith)
bit-eq false false h = refl

-- ---- each difference

module _ (T : Table) (s : Sound T) where
  abbrev Common : TypeKey → Kind → TypeKey → Kind → Type 0
  Common x k y l = AgreeKinds T (identical T) x k y l

  -- two that have nothing in common are not identical
  refute : (x y : TypeKey) {k l : Kind} → kind_at T x ≡ k → kind_at T y ≡ l → (Common x k y l → ⊥) → identical T x y ≡ false
  refute x y {k} {l} p q h = false_of (identical T x y) (λ e. h (rw (← p, ← q) ((identical-parts T s x y).0 e)))

  -- the fields at one place
  fields_at : (x y : TypeKey) (fs gs : List Member) (i : ℕ) (f g : Member) → Common x (Struct fs) y (Struct gs) → At fs i f → At gs i g → Alike T f g × (identical T f.type g.type ≡ true)
  unfolding parts
  fields_at x y fs gs i f g a r t = (
    pairs-at (Alike T) fs gs i f g a.members r t,
    pairs-at (Holds (identical T)) (map (λ m. m.type) fs) (map (λ m. m.type) gs) i f.type g.type a.related (At-map (λ m. m.type) r) (At-map (λ m. m.type) t),
  )

  -- the method of the other interface that stands beside m
  method-beside : (x y : TypeKey) (ms ns : List Member) (m : Member) → Common x (Iface ms) y (Iface ns) → In m ms
      → (n : Member) × In n ns × (identity_of T m ≡ identity_of T n) × (identical T m.type n.type ≡ true)
  unfolding parts
  method-beside x y ms ns m a i =
      let r = In-At ms m i in
      let b = pairs-beside (Alike T) ms ns r.0 m a.members r.1 in (
        b.0,
        At-In b.1,
        b.2.0,
        pairs-at (Holds (identical T)) (map (λ m. m.type) ms) (map (λ m. m.type) ns) r.0 m.type b.0.type a.related (At-map (λ m. m.type) r.1) (At-map (λ m. m.type) b.1),
      )

  -- DIFFERENT TYPES ARE NOT IDENTICAL
  pub different-false : {x y : TypeKey} → Different T x y → identical T x y ≡ false
  unfolding parts own_number
  different-false (names {x = x} {y = y} p q h) = refute x y p q (λ a. h (key-eq x y a.owns))
  different-false (predeclared {x = x} {y = y} {j = j} {k = k} p q h) = refute x y p q (λ a. h (real-basic j k a.owns))
  different-false (forms {x = x} {y = y} h) = refute x y refl refl (λ a. h (number-form (kind_at T x) (kind_at T y) a.kinds))
  different-false (array-elements {x = x} {y = y} p q d) = refute x y p q (λ a. clash a.related.0 (different-false d))
  different-false (array-lengths {x = x} {y = y} p q h) = refute x y p q (λ a. h a.owns)
  different-false (slice-elements {x = x} {y = y} p q d) = refute x y p q (λ a. clash a.related.0 (different-false d))
  different-false (struct-counts {x = x} {y = y} p q h) = refute x y p q (λ a. h a.owns)
  different-false (struct-embedding {x = x} {y = y} {i = i} {fs = fs} {gs = gs} f g p q r t h) = refute x y p q (λ a. h (fields_at x y fs gs i f g a r t).0.1)
  different-false (struct-names {x = x} {y = y} {i = i} {fs = fs} {gs = gs} f g p q r t d) = refute x y p q (λ a. (same_names T f g).0 (fields_at x y fs gs i f g a r t).0.0 d)
  different-false (struct-types {x = x} {y = y} {i = i} {fs = fs} {gs = gs} f g p q r t d) = refute x y p q (λ a. clash (fields_at x y fs gs i f g a r t).1 (different-false d))
  different-false (struct-tags {x = x} {y = y} {i = i} {fs = fs} {gs = gs} f g p q r t h) = refute x y p q (λ a. h (fields_at x y fs gs i f g a r t).0.2)
  different-false (pointer-bases {x = x} {y = y} p q d) = refute x y p q (λ a. clash a.related.0 (different-false d))
  different-false (func-parameters {x = x} {y = y} p q d) = refute x y p q (λ a. clash a.related.0 (different-false d))
  different-false (func-results {x = x} {y = y} p q d) = refute x y p q (λ a. clash a.related.1.0 (different-false d))
  different-false (func-variadic {x = x} {y = y} {v = v} {w = w} p q h) = refute x y p q (λ a. h (bit-eq v w a.owns))
  different-false (tuple-counts {x = x} {y = y} p q h) = refute x y p q (λ a. h a.owns)
  different-false (tuple-types {x = x} {y = y} {e = e} {f = f} {i = i} {es = es} {fs = fs} p q r t d) =
      refute x y p q (λ a. clash (pairs-at (Holds (identical T)) es fs i e f (let b = a.related in rw (append-nil es, append-nil fs) at b) r t) (different-false d))
  different-false (iface-lacks {x = x} {y = y} {ms = ms} {ns = ns} m p q i h) =
      refute x y p q (λ a. let r = method-beside x y ms ns m a i in (same_names T m r.0).0 r.2 (h r.0 r.1))
  different-false (iface-adds {x = x} {y = y} {ms = ms} {ns = ns} n p q i h) =
      refute x y p q (λ a. let r = pairs-left (Alike T) ms ns a.members n i in (same_names T r.0 n).0 r.2.0 (h r.0 r.1))
  different-false (iface-types {x = x} {y = y} {ms = ms} {ns = ns} m n p q i j e d) =
      refute x y p q (λ a.
      let r = method-beside x y ms ns m a i in
      let z : r.0 ≡ n = ascend-one T ns (subst (λ (k : Kind). Sorted (Lower T) (all_methods_of k)) q (s.ascend y)) r.0 n r.1 j (sym r.2 ∙ (same_names T m n).1 e) in
      clash (subst (λ (z : Member). identical T m.type z.type ≡ true) z r.3) (different-false d))
  different-false (map_keys {x = x} {y = y} p q d) = refute x y p q (λ a. clash a.related.0 (different-false d))
  different-false (map-elements {x = x} {y = y} p q d) = refute x y p q (λ a. clash a.related.1.0 (different-false d))
  different-false (chan-elements {x = x} {y = y} p q d) = refute x y p q (λ a. clash a.related.0 (different-false d))
  different-false (chan-directions {x = x} {y = y} {c = c} {d = d} p q h) = refute x y p q (λ a. h (dir-eq c d a.owns))
