-- A named type whose u is a pointer has no members of its own and embeds nothing, so M gives nothing for it, whether or not it is left out at once.
use mathlib.Core.Path.{◌≡◌, refl, sym, ap, ◌∙◌, subst}
use mathlib.Core.Bool.{true}
use mathlib.Core.List.{List, [], ◌++◌}
use Prim.Native.Nat.{ℕ}
use borrow.Author.Tests.{eqb-true}
use Rattle.objects.specs.Lists.{In}
use Rattle.objects.proofs.ListLaws.{clash, either, and_l, and_r, In-append}
use Rattle.objects.proofs.KindLaws.{named-is, under-named, bare-plain}
use Rattle.objects.specs.declared.TypeKey.{TypeKey}
use Rattle.objects.specs.Table.{Table, Member, Named, kind_number, is_named, is_pointer, members_of, declared_of, all_methods_of, all_methods, kind_at, bare, under, named_pointer}
use Rattle.rules.specs.Members.{Identity}
use Rattle.rules.specs.Sound.{Sound}
use Rattle.rules.specs.Ways.{Place, places_from, Walk, field_places, owned}
use Rattle.ways.specs.IsWay.{IsWalk, starts, takes}
use Rattle.ways.specs.MethodLevels.{Standing, absent, hidden, given, listed, as_goscript, standing}
use Rattle.ways.proofs.TableLaws.{names-neither}
use Rattle.ways.proofs.MethodLevels.{given-way}
use Rattle.ways.proofs.MemberSorts.{declared-In, iface-In, field-In}

module _ (T : Table) (sound : Sound T) (t : TypeKey) (pointer : named_pointer T t ≡ true) where
  named : is_named (kind_at T t) ≡ true
  unfolding named_pointer
  named = and_l (is_named (kind_at T t)) (is_pointer (kind_at T (under T t))) pointer

  under-pointer : is_pointer (kind_at T (under T t)) ≡ true
  unfolding named_pointer
  under-pointer = and_r (is_named (kind_at T t)) (is_pointer (kind_at T (under T t))) pointer

  bare-is : bare T t ≡ t
  bare-is = bare-plain T t (rw (eqb-true (kind_number (kind_at T t)) 10 named))

  no_field : (p : Place) → In p (field_places T t) → ⊥
  no_field p i = clash (field-In T sound t p i).0 (rw (eqb-true (kind_number (kind_at T (under T t))) 3 under-pointer))

  no-declared : (p : Place) → In p (places_from 0 (declared_of (kind_at T t))) → ⊥
  no-declared p i = let n = named-is (kind_at T t) named in go n.0 n.1 n.2 (declared-In T sound t p i).1
    where
      go : (u : TypeKey) (ms : List Member) → kind_at T t ≡ Named u ms → In p.member (members_of (kind_at T t)) → ⊥
      go u ms e j = clash (ap (λ x. is_pointer (kind_at T x)) (sym (under-named T t u ms e)) ∙ under-pointer) (names-neither T sound t u ms p.member e (subst (λ k. In p.member (members_of k)) e j)).0

  no-owned : (p : Place) → In p (owned T t) → ⊥
  unfolding owned all_methods
  no-owned p i =
      either (In-append (places_from 0 (declared_of (kind_at T t)) ++ field_places T t) (places_from 0 (all_methods_of (kind_at T (under T t)))) p i)
      (λ j. either (In-append (places_from 0 (declared_of (kind_at T t))) (field_places T t) p j) (no-declared p) (no_field p))
      (λ m. clash (iface-In T sound t p m).0 (rw (eqb-true (kind_number (kind_at T (under T t))) 3 under-pointer)))

  stays : {d : ℕ} {w : Walk} → IsWalk T t d w → w.at ≡ t
  stays starts = bare-is
  stays (takes {w = w} f p i e) = absurd (no_field f (subst (λ u. In f (field_places T u)) (stays p) i))

  -- NOTHING IS GIVEN
  pub pointer-empty : (q : Identity) → listed (standing as_goscript T q t) ≡ []
  pointer-empty q = go (standing as_goscript T q t) refl
    where
      go : (s : Standing) → standing as_goscript T q t ≡ s → listed (standing as_goscript T q t) ≡ []
      go absent e = rw e
      go hidden e = rw e
      go (given w) e =
          let g = given-way as_goscript T q t w e in
          absurd (no-owned w.last (subst (λ u. In w.last (owned T u)) (stays g.1.walks) g.1.owns))
