-- SELECTION IS GO'S: what S answers is what the Go spec says of x.f, and of a call of it (`selection-is-go`), and the Go spec says nothing else but for the
-- ways that `ambiguous` shows (`go-is-selection`). `select-is-go` and `go-is-select` are the two for document 01's reading of (*x).f, with no side condition.
use mathlib.Core.Path.{◌≡◌, refl, sym, ap, ◌∙◌, subst}
use mathlib.Core.Bool.{Bool, true, false, cond}
use mathlib.Core.List.{List}
use mathlib.Core.Logic.{inl, inr}
use mathlib.Core.Option.{Option}
use Prim.Native.Nat.{◌<◌}
use Rattle.objects.specs.Lists.{Bytes}
use Rattle.objects.specs.declared.TypeKey.{TypeKey}
use Rattle.objects.specs.declared.PackageKey.{PackageKey}
use Rattle.objects.specs.Table.{Table, size, Member, Pointer, Named, is_pointer, is_iface, is_named, kind_at, under, pointer_at, iface_under, named_pointer}
use Rattle.objects.proofs.ListLaws.{cases, clash, and_l, and_r}
use Rattle.objects.proofs.KindLaws.{pointer_is, iface-is, named-is, under-plain, under-named, bare-plain, bare-pointer}
use Rattle.text.specs.Bytes.{is_blank}
use Rattle.text.proofs.ByteLaws.{same_refl, same_true}
use Rattle.rules.specs.Members.{identity_from}
use Rattle.rules.specs.Sound.{Sound}
use Rattle.rules.specs.Ways.{Selected, notfound, is_ambiguous, no_method, searched, select}
use Rattle.ways.proofs.TableLaws.{base-in}
use Rattle.ways.proofs.Selects.{select-says}
use Rattle.gospec.specs.GoSelectors.{underlying, of-type, of-pointer, Base, OneStar, Text}
use Rattle.gospec.specs.Says.{blank, Says, legal-field, legal-method, no_call, not-one, nothing, Alike, Reading}
use Rattle.gospec.proofs.Found.{asked}
use Rattle.gospec.proofs.Operands.{base-of}
use Rattle.gospec.proofs.Results.{sel, Result, r-none, result_says, says-result, direct, star-denotes, star-several, dead-sel, faces, iface-several, inner-denotes, inner-several, no_field, short}

-- ---- the blank name

pub blank-is : (name : Bytes) → is_blank name ≡ true → name ≡ blank
unfolding is_blank
blank-is name h = same_true name blank h

pub not-blank : (name : Bytes) → is_blank name ≡ false → name ≡ blank → ⊥
unfolding is_blank
not-blank name h e = clash (subst (λ n. is_blank n ≡ true) (sym e) (same_refl blank)) h

-- a name is asked for by itself
pub asked-blank : (T : Table) (name : Bytes) (pkg : Option PackageKey) (b : Bool) → is_blank name ≡ b → is_blank (asked T name pkg).name ≡ b
unfolding identity_from
asked-blank T name pkg b h = h

module _ (T : Table) (sound : Sound T) (R : TypeKey → Type 0) (pkg : Option PackageKey) (name : Bytes) (nb : is_blank (asked T name pkg).name ≡ false) where
  -- ---- what is searched

  searched-pointer : (x t : TypeKey) (a : Bool) → kind_at T x ≡ Pointer t → searched T (asked T name pkg) x a ≡ cond (is_iface (underlying T t)) notfound (sel T sound R name pkg nb t true a)
  unfolding pointer_at iface_under
  searched-pointer x t a k = select-says T (asked T name pkg) x a ∙ rw (bare-pointer T x t k, ap is_pointer k)

  searched-plain : (x : TypeKey) (a : Bool) → is_pointer (kind_at T x) ≡ false → searched T (asked T name pkg) x a ≡ sel T sound R name pkg nb x false a
  unfolding pointer_at iface_under
  searched-plain x a p = select-says T (asked T name pkg) x a ∙ rw (bare-plain T x p, p)

  -- a type with an interface or a pointer under it is no base
  no-base-iface : (t : TypeKey) → is_iface (underlying T t) ≡ true → Base T t → ⊥
  no-base-iface t i b = let r = iface-is (underlying T t) i in b.no-interface r.0 r.1

  no-base-pointer : (t : TypeKey) → is_pointer (underlying T t) ≡ true → Base T t → ⊥
  no-base-pointer t p b = let r = pointer_is (underlying T t) p in b.no_pointer r.0 r.1

  starred : (x t : TypeKey) (a : Bool) → kind_at T x ≡ Pointer t → Result T R name pkg x a (cond (is_iface (underlying T t)) notfound (sel T sound R name pkg nb t true a))
  starred x t a k =
      cases (is_iface (underlying T t))
      (λ i. rw i (r-none (star-denotes T sound R name pkg nb x t k (no-base-iface t i)) (star-several T sound R name pkg nb x t k (no-base-iface t i)) refl))
      (λ i. rw i (cases (is_pointer (underlying T t))
      (λ p. r-none (star-denotes T sound R name pkg nb x t k (no-base-pointer t p)) (star-several T sound R name pkg nb x t k (no-base-pointer t p)) (dead-sel T sound R name pkg nb t true a (base-in T sound x t k) p))
      (λ p. direct T sound R name pkg nb x t true a (of-pointer k (base-of T t p i)) (base-in T sound x t k))))

  plain : (x : TypeKey) (a : Bool) → x.0 < size T → is_pointer (underlying T x) ≡ false → Result T R name pkg x a (sel T sound R name pkg nb x false a)
  plain x a in0 n =
      cases (is_iface (underlying T x))
      (λ i. let r = iface-is (underlying T x) i in faces T sound R name pkg nb x a r.0 in0 r.1)
      (λ i. direct T sound R name pkg nb x x false a (of-type (base-of T x n i)) in0)

  -- t that is no named pointer type
  plain-result : (x : TypeKey) (a : Bool) → x.0 < size T → named_pointer T x ≡ false → Result T R name pkg x a (searched T (asked T name pkg) x a)
  unfolding named_pointer
  plain-result x a in0 np =
      cases (is_pointer (kind_at T x))
      (λ p. let r = pointer_is (kind_at T x) p in subst (Result T R name pkg x a) (sym (searched-pointer x r.0 a r.1)) (starred x r.0 a r.1))
      (λ p. subst (Result T R name pkg x a) (sym (searched-plain x a p)) (plain x a in0 (no_pointer p)))
    where
      no_pointer : is_pointer (kind_at T x) ≡ false → is_pointer (underlying T x) ≡ false
      no_pointer p = cases (is_named (kind_at T x)) (λ n. rw n at np) (λ n. rw (under-plain T x n) p)

  -- a named pointer type
  short-result : (x : TypeKey) (a : Bool) → Reading T R x → named_pointer T x ≡ true → Result T R name pkg x a (no_method (searched T (asked T name pkg) (under T x) a))
  unfolding named_pointer
  short-result x a rd np =
      let n = named-is (kind_at T x) (and_l (is_named (kind_at T x)) (is_pointer (underlying T x)) np) in
      let p = pointer_is (underlying T x) (and_r (is_named (kind_at T x)) (is_pointer (underlying T x)) np) in
      behind n.0 p.0 n.1 n.2 (subst (λ u. kind_at T u ≡ Pointer p.0) (under-named T x n.0 n.1 n.2) p.1)
    where
      found : (u e : TypeKey) (ms : List Member) → kind_at T x ≡ Named u ms → kind_at T u ≡ Pointer e → Result T R name pkg x a (no_method (cond (is_iface (underlying T e)) notfound (sel T sound R name pkg nb e true a)))
      found u e ms k l =
          cases (is_iface (underlying T e))
          (λ i. let r = iface-is (underlying T e) i in rw i (r-none (no_field T sound R name pkg nb x u e ms k l r.0 r.1) (λ s. iface-several T sound R name pkg nb e r.0 r.1 (inner-several T sound R name pkg nb x u e ms k l s).0) refl))
          (λ i. rw i (cases (is_pointer (underlying T e))
          (λ p. r-none (λ ps m b d. clash p (rd.only u e ms k l (inner-denotes T sound R name pkg nb x u e ms k l d).4)) (λ s. clash p (rd.only u e ms k l (inner-several T sound R name pkg nb x u e ms k l s).1)) (ap no_method (dead-sel T sound R name pkg nb e true a (base-in T sound u e l) p)))
          (λ p. short T sound R name pkg nb x u e ms k l a (base-in T sound u e l) (base-of T e p i) (rd.admits e p))))

      behind : (u e : TypeKey) (ms : List Member) → kind_at T x ≡ Named u ms → kind_at T u ≡ Pointer e → Result T R name pkg x a (no_method (searched T (asked T name pkg) (under T x) a))
      behind u e ms k l = subst (λ r. Result T R name pkg x a (no_method r)) (sym (ap (λ v. searched T (asked T name pkg) v a) (under-named T x u ms k) ∙ searched-pointer u e a l)) (found u e ms k l)

module _ (T : Table) (sound : Sound T) (R : TypeKey → Type 0) (x : TypeKey) (in0 : x.0 < size T) (rd : Reading T R x) (a : Bool) (pkg : Option PackageKey) (name : Bytes) where
  result : is_blank name ≡ false → Result T R name pkg x a (select T (identity_from T pkg name) x a)
  unfolding select
  result b =
      let nb = asked-blank T name pkg false b in
      rw nb (cases (named_pointer T x) (λ p. rw p (short-result T sound R pkg name nb x a rd p)) (λ p. rw p (plain-result T sound R pkg name nb x a in0 p)))

  nothing-blank : is_blank name ≡ true → select T (identity_from T pkg name) x a ≡ notfound
  unfolding select
  nothing-blank b = rw (asked-blank T name pkg true b)

  -- SELECTION IS GO'S: the Go spec says what S answers,
  pub selection-is-go : Says T R name pkg x a (select T (identity_from T pkg name) x a)
  selection-is-go =
      cases (is_blank name)
      (λ b. rw (nothing-blank b) (nothing (inl (blank-is name b))))
      (λ b. result_says T R name pkg x a (not-blank name b) (select T (identity_from T pkg name) x a) (result b))

  -- and nothing else, but for the ways that `ambiguous` shows
  pub go-is-selection : (r : Selected) → Says T R name pkg x a r → Alike r (select T (identity_from T pkg name) x a)
  go-is-selection r s =
      cases (is_blank name)
      (λ b. inl (blanks (blank-is name b) r s ∙ sym (nothing-blank b)))
      (λ b. says-result T R name pkg x a (not-blank name b) (select T (identity_from T pkg name) x a) r (result b) s)
    where
      blanks : name ≡ blank → (r : Selected) → Says T R name pkg x a r → r ≡ notfound
      blanks b r (legal-field m k d i) = absurd (k b)
      blanks b r (legal-method m k d i c) = absurd (k b)
      blanks b r (no_call m k d i c) = absurd (k b)
      blanks b r (not-one k z y) = absurd (k b)
      blanks b r (nothing z) = refl

-- Document 01's reading: no more is asked.
pub one-star : (T : Table) (x : TypeKey) → Reading T (OneStar T) x
one-star T x = record {
  admits = λ e h f z. clash (ap is_pointer z) h;
  only = λ u e ms k l r. cases (is_pointer (underlying T e)) (λ p. let i = pointer_is (underlying T e) p in absurd (r i.0 i.1)) (λ p. p);
}

-- The text's reading: behind a named pointer type lies no second pointer. (There document 01 answers `notfound` and the text may not: proofs/Differ.antt.)
pub as-text : (T : Table) (x : TypeKey) → ((u e : TypeKey) (ms : List Member) → kind_at T x ≡ Named u ms → kind_at T u ≡ Pointer e → is_pointer (underlying T e) ≡ false) → Reading T (Text T) x
as-text T x h = record { admits = λ e z. tt; only = λ u e ms k l r. h u e ms k l }

module _ (T : Table) (sound : Sound T) (x : TypeKey) (in0 : x.0 < size T) (a : Bool) (pkg : Option PackageKey) (name : Bytes) where
  pub select-is-go : Says T (OneStar T) name pkg x a (select T (identity_from T pkg name) x a)
  select-is-go = selection-is-go T sound (OneStar T) x in0 (one-star T x) a pkg name

  pub go-is-select : (r : Selected) → Says T (OneStar T) name pkg x a r → Alike r (select T (identity_from T pkg name) x a)
  go-is-select = go-is-selection T sound (OneStar T) x in0 (one-star T x) a pkg name

-- an answer that is not `ambiguous` is like itself alone
pub alike-one : (r s : Selected) → is_ambiguous r ≡ false → Alike r s → s ≡ r
alike-one r s h (inl e) = sym e
alike-one r s h (inr e) = clash e.0 h
