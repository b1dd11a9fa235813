-- `identical` of typ.rs gives the rules' I, on every sound table, whichever interface pairs it counts as identical because they were met before.
use mathlib.Core.Path.{◌≡◌, sym, ap, ◌∙◌, subst}
use mathlib.Core.Bool.{true, false}
use mathlib.Core.List.{List, [], ◌∷◌, map}
use mathlib.Core.Option.{some}
use Prim.Native.Nat.{ℕ, zero, suc, ◌≤◌, ◌<◌}
use native.Mathlib.Omega.{arith}
use native.Mathlib.Decide.{dec_lt}
use lib.Dec.{eqb}
use lib.ListN.{length}
use borrow.Author.Tests.{eqb-true}
use Rattle.objects.specs.Lists.{any, In}
use Rattle.objects.specs.declared.TypeKey.{TypeKey}
use Rattle.objects.specs.Table.{Table, size, same_type, Member, Iface, kind_number, is_iface, members_of, kind_at}
use Rattle.objects.proofs.ListLaws.{cases, clash, some-In}
use Rattle.objects.proofs.KindLaws.{iface-is}
use Rattle.rules.specs.Identity.{own_number, parts, Pair, same_pair, identical}
use Rattle.rules.specs.StepIdentity.{same_step, same_in}
use Rattle.rules.specs.Load.{stands}
use Rattle.rules.specs.Sound.{Sound}
use Rattle.rules.proofs.RangeLaws.{kind-out, part-in}
use Rattle.rules.proofs.IdLaws.{member-proper}
use Rattle.rules.proofs.IdentityLaws.{pair, same_pair-true, identical-steps}
use Rattle.gospec.proofs.Forms.{number-form}
use Rattle.goscript.specs.Identical.{Verdict, same, differ, out, all_same, same_method, arm, identical_impl, enough_calls, answer, is_yes, identical_answer, identical_types}
use Rattle.goscript.proofs.Runs.{all_b, AgreeIn, Judged, judged-as, stays, self-judged, lower, opened, begun}
use Rattle.goscript.proofs.Arms.{method_b, arm_b, Listed, Shows, arm_step, methods-judged, arm-judged}
use Rattle.goscript.proofs.Unmet.{measure, measure-part, measure-opened, measure-most}

module _ (T : Table) (sound : Sound T) where
  -- the methods of an interface
  listed : (x : TypeKey) → is_iface (kind_at T x) ≡ true → Listed T (members_of (kind_at T x))
  listed x e m i =
      let r = iface-is (kind_at T x) e in (
        subst (λ ms. stands m.entity (Iface ms) ≡ true) (sym (ap members_of r.1)) (subst (λ k. stands m.entity k ≡ true) r.1 (sound.standing x m i)),
        member-proper T sound x m i,
      )

  -- f calls inside each other show of x and y whether they agree, if so many are enough
  abbrev Shown : ℕ → Type 0
  Shown f = (x y : TypeKey) (d : List Pair) → x.0 < size T → measure T d x < f → Judged T d (λ n. same_in T n x y) (identical_impl T f x y d)

  module _ (f : ℕ) (x y : TypeKey) (d : List Pair) (ne : same_type x y ≡ false) (k : eqb (kind_number (kind_at T x)) (kind_number (kind_at T y)) ≡ true) where
    step_is : (n : ℕ) → arm_b T (same_in T n) x (kind_at T x) y (kind_at T y) ≡ same_in T (suc n) x y
    unfolding same_in same_step
    step_is n = arm_step T (same_in T n) x y (kind_at T x) (kind_at T y) (number-form (kind_at T x) (kind_at T y) (eqb-true (kind_number (kind_at T x)) (kind_number (kind_at T y)) k)) ne (listed x) (listed y)

    -- all kinds but interfaces
    plain : is_iface (kind_at T x) ≡ false → ((a b : TypeKey) → In a (parts (kind_at T x)) → Shows T (identical_impl T f) d a b) → Judged T d (λ n. same_in T n x y) (arm T (identical_impl T f) x (kind_at T x) y (kind_at T y) d)
    plain ni rec =
        lower T d x y (arm T (identical_impl T f) x (kind_at T x) y (kind_at T y) d)
        (judged-as T d (λ n. arm_b T (same_in T n) x (kind_at T x) y (kind_at T y)) (λ n. same_in T (suc n) x y) (arm T (identical_impl T f) x (kind_at T x) y (kind_at T y) d) step_is
        (arm-judged T (identical_impl T f) x y d (kind_at T x) (kind_at T y) ni rec))

    module _ (rec : Shown f) (hx : x.0 < size T) (lt : measure T d x < suc f) where
      module _ (ms : List Member) (kx : kind_at T x ≡ Iface ms) where
        -- both are interfaces of the table
        y-in : y.0 < size T
        y-in = elim (dec_lt y.0 (size T)) [ yes h ↦ h | no h ↦ clash k (rw (kx, kind-out T y h)) ]

        method-in : (a : TypeKey) → In a (map (λ (m : Member). m.type) ms) → a.0 < size T
        unfolding parts
        method-in a i = part-in T sound x a (rw kx i)

        lengths_differ : eqb (length ms) (own_number y (kind_at T y)) ≡ false → same_in T 1 x y ≡ false
        unfolding arm_b
        lengths_differ e = sym (step_is 0) ∙ rw (kx, e)

        methods-are : eqb (length ms) (own_number y (kind_at T y)) ≡ true → (n : ℕ) → all_b (method_b T (same_in T n)) ms (members_of (kind_at T y)) ≡ same_in T (suc n) x y
        unfolding arm_b
        methods-are e n = go ∙ step_is n
          where
            go : all_b (method_b T (same_in T n)) ms (members_of (kind_at T y)) ≡ arm_b T (same_in T n) x (kind_at T x) y (kind_at T y)
            go = rw (kx, e)

        -- "If x and y were compared before, they must be equal"
        met : any (same_pair (pair x y)) d ≡ true → Judged T d (λ n. same_in T n x y) (same d)
        met h = let r = some-In (same_pair (pair x y)) d h in stays T d (λ n. same_in T n x y) (λ n a. subst (AgreeIn T n) (sym (same_pair-true (pair x y) r.0 r.2)) (a r.0 r.1))

        -- put into dup, and then compared by their methods
        entered : any (same_pair (pair x y)) d ≡ false → eqb (length ms) (own_number y (kind_at T y)) ≡ true
            → Judged T d (λ n. same_in T n x y) (all_same (same_method T (identical_impl T f)) ms (members_of (kind_at T y)) (pair x y ∷ d))
        entered h e =
            opened T d (pair x y) (all_same (same_method T (identical_impl T f)) ms (members_of (kind_at T y)) (pair x y ∷ d))
            (judged-as T (pair x y ∷ d) (λ n. all_b (method_b T (same_in T n)) ms (members_of (kind_at T y))) (λ n. same_in T (suc n) x y) (all_same (same_method T (identical_impl T f)) ms (members_of (kind_at T y)) (pair x y ∷ d)) (methods-are e)
            (methods-judged T (identical_impl T f) ms (members_of (kind_at T y)) (pair x y ∷ d)
            (λ a b i c s. let m = measure-opened T d c x y a hx y-in h s (method-in a i) in rec a b c (method-in a i) (omega arith))))

        face : Judged T d (λ n. same_in T n x y) (arm T (identical_impl T f) x (Iface ms) y (kind_at T y) d)
        unfolding arm
        face =
            cases (eqb (length ms) (own_number y (kind_at T y)))
            (λ e. rw e (cases (any (same_pair (pair x y)) d) (λ h. rw h (met h)) (λ h. rw h (entered h e))))
            (λ e. rw e (1, lengths_differ e))

      -- the parts of another kind have smaller ranks
      matched : Judged T d (λ n. same_in T n x y) (arm T (identical_impl T f) x (kind_at T x) y (kind_at T y) d)
      matched =
          cases (is_iface (kind_at T x))
          (λ i. let r = iface-is (kind_at T x) i in rw r.1 (face r.0 r.1))
          (λ ni. plain ni (λ a b i e s. let m = measure-part T sound d e x a s ni i in rec a b e (part-in T sound x a i) (omega arith)))

  kinds-differ : (x y : TypeKey) → eqb (kind_number (kind_at T x)) (kind_number (kind_at T y)) ≡ false → same_in T 1 x y ≡ false
  unfolding same_in same_step
  kinds-differ x y e = rw e

  -- a call, if the arm of two types of one kind shows it
  called : (f : ℕ) (x y : TypeKey) (d : List Pair) → (same_type x y ≡ false → eqb (kind_number (kind_at T x)) (kind_number (kind_at T y)) ≡ true → Judged T d (λ n. same_in T n x y) (arm T (identical_impl T f) x (kind_at T x) y (kind_at T y) d))
      → Judged T d (λ n. same_in T n x y) (identical_impl T (suc f) x y d)
  unfolding identical_impl
  called f x y d h =
      cases (same_type x y)
      (λ e. rw e (self-judged T d x y e))
      (λ e. rw e (cases (eqb (kind_number (kind_at T x)) (kind_number (kind_at T y))) (λ k. rw k (h e k)) (λ k. rw k (1, kinds-differ x y k))))

  shown : (f : ℕ) → Shown f
  shown zero x y d hx lt = absurd (omega arith)
  shown (suc f) x y d hx lt = called f x y d (λ e k. matched f x y d e k (shown f) hx lt)

  -- a number that the table lacks counts as a basic type, which has no parts
  lacking : (f : ℕ) (x y : TypeKey) (d : List Pair) → (x.0 < size T → ⊥) → Judged T d (λ n. same_in T n x y) (identical_impl T (suc f) x y d)
  unfolding parts
  lacking f x y d h = called f x y d (λ e k. plain f x y d e k (rw (kind-out T x h)) (λ a b i. absurd (subst (λ l. In a (parts l)) (kind-out T x h) i)))

  enough : (x y : TypeKey) (n : ℕ) → enough_calls T ≤ n → Judged T [] (λ n. same_in T n x y) (identical_impl T n x y [])
  enough x y zero le = absurd (omega arith)
  enough x y (suc n) le = elim (dec_lt x.0 (size T)) [ yes h ↦ let m = measure-most T [] x h in shown (suc n) x y [] h (omega arith) | no h ↦ lacking n x y [] h ]

  -- GOSCRIPT'S IDENTITY IS I'S, and its recursion ends
  pub identical-is-goscript : (x y : TypeKey) (n : ℕ) → enough_calls T ≤ n → identical_answer T n x y ≡ some (identical T x y)
  identical-is-goscript x y n le = go (identical_impl T n x y []) (enough x y n le)
    where
      go : (v : Verdict) → Judged T [] (λ n. same_in T n x y) v → answer v ≡ some (identical T x y)
      go (same e) g = rw ((identical-steps T sound x y).1 (begun T e (λ n. same_in T n x y) g))
      go differ g = cases (identical T x y) (λ h. clash ((identical-steps T sound x y).0 h g.0) g.1) (λ h. rw h)
      go out g = absurd g

  -- so that what lookup.rs calls is I's too
  pub identical-types : (x y : TypeKey) → identical_types T x y ≡ identical T x y
  unfolding identical_types
  identical-types x y = ap is_yes (identical-is-goscript x y (enough_calls T) (omega arith))
