-- `MethodSet::new` gives M by levels, by goscript's rule: on every sound table, for every type of it, the same methods in the same order, with indices and flag.
use mathlib.Core.Path.{◌≡◌, refl, sym, ap, ◌∙◌, subst}
use mathlib.Core.Bool.{true, false, not, ◌&&◌}
use mathlib.Core.List.{List, [], ◌∷◌, map}
use mathlib.Core.Option.{Option, none, some}
use Prim.Native.Nat.{ℕ, ◌≤◌, ◌<◌}
use native.Mathlib.Omega.{arith}
use Rattle.objects.specs.Lists.{flat, empty, In}
use Rattle.objects.proofs.ListLaws.{cases, clash, or-true, or-false, some-In, map-flat, flat-In-ext}
use Rattle.text.specs.Bytes.{is_blank}
use Rattle.objects.specs.declared.TypeKey.{TypeKey}
use Rattle.objects.specs.Table.{Table, size, is_iface, kind_at, bare, pointer_at, named_pointer}
use Rattle.rules.specs.Members.{Identity, identity_of, same_id}
use Rattle.rules.proofs.MemberLaws.{same_id-true}
use Rattle.rules.specs.Sound.{Sound}
use Rattle.rules.specs.Ways.{Way, start}
use Rattle.rules.specs.MethodSet.{ascending, method_names}
use Rattle.rules.proofs.MethodNames.{NamesMethod, names-listed, names-ascend, ascending-In, ascending-sorted}
use Rattle.ways.specs.Levels.{raw}
use Rattle.ways.specs.MethodLevels.{Standing, absent, hidden, given, listed, as_goscript, first_level, standing_from, standing, set_by_levels}
use Rattle.ways.proofs.TableLaws.{closed, bare-in}
use Rattle.ways.proofs.NamesInOrder.{gives, same-flat}
use Rattle.ways.proofs.MemberSorts.{owned-member}
use Rattle.ways.proofs.MethodLevels.{callable-method, given-way, enough-levels}
use Rattle.gospec.proofs.OneView.{method-named}
use Rattle.goscript.specs.Maps.{Map, get, is_some, keys}
use Rattle.goscript.specs.MethodSets.{Selection, MethodCollision, selected, sorted, new_method_set}
use Rattle.goscript.proofs.MapLaws.{keys-have}
use Rattle.goscript.proofs.Collisions.{selection_of}
use Rattle.goscript.proofs.Values.{entry_of}
use Rattle.goscript.proofs.SetsSame.{set_after, begin, after-says}
use Rattle.goscript.specs.Lookup.{enough_turns}
use Rattle.goscript.proofs.LoopsEnd.{set-ends}
use Rattle.goscript.proofs.PointerSets.{pointer-empty}
use Rattle.goscript.proofs.SetKeys.{after-keys, after-blank}

-- ---- the methods of the map

module _ (T : Table) where
  selected-entry : (s : Standing) → selected (entry_of T s) ≡ map (selection_of T) (listed s)
  selected-entry absent = refl
  selected-entry hidden = refl
  selected-entry (given w) = refl

module _ (T : Table) (sound : Sound T) (t : TypeKey) where
  -- what is given is a method of the table
  pub given-named : (q : Identity) (w : Way) → standing as_goscript T q t ≡ given w → NamesMethod T q
  given-named q w h =
      let g = given-way as_goscript T q t w h in
      let o = owned-member T sound w.walk.at w.last g.1.owns in
      record { type = o.0; method = w.last.member; stands = o.1; is_one = callable-method T w g.2; named = sym (same_id-true (identity_of T w.last.member) q g.1.matches) }

module _ (T : Table) (sound : Sound T) (t : TypeKey) (in0 : t.0 < size T) (k : ℕ) (le : size T ≤ k) where
  abbrev set : Map MethodCollision
  set = set_after T k [] [] (raw (start T t) ∷ [])

  abbrev chosen : Identity → List Selection
  chosen q = selected (get set q)

  at_name : (q : Identity) → is_blank q.name ≡ false → chosen q ≡ map (selection_of T) (listed (standing as_goscript T q t))
  at_name q real =
      ap selected (after-says T sound t q real k)
      ∙ selected-entry T (standing_from as_goscript T q k (first_level T t))
      ∙ ap (map (selection_of T)) (enough-levels as_goscript T (closed T sound) q t (bare-in T sound t in0) k le)

  chosen-named : (q : Identity) → gives chosen q ≡ true → NamesMethod T q
  chosen-named q h =
      cases (is_blank q.name)
      (λ e. clash h (ap (λ l. not (empty l)) (after-blank T sound q e t k 0 [] [] (raw (start T t) ∷ []) (begin T sound t) refl)))
      (λ e. go (standing as_goscript T q t) refl (ap (λ l. not (empty l)) (sym (at_name q e)) ∙ h))
    where
      go : (s : Standing) → standing as_goscript T q t ≡ s → not (empty (map (selection_of T) (listed (standing as_goscript T q t)))) ≡ true → NamesMethod T q
      go absent e n = clash n (rw e)
      go hidden e n = clash n (rw e)
      go (given w) e n = given-named T sound t q w e

  chosen-key : (q : Identity) → gives chosen q ≡ true → In q (keys set)
  chosen-key q h =
      let r = some-In (λ x. same_id x q) (keys set) (keys-have set q ∙ held (get set q) h) in
      subst (λ x. In x (keys set)) (same_id-true r.0 q r.2) r.1
    where
      held : (o : Option MethodCollision) → not (empty (selected o)) ≡ true → is_some o ≡ true
      held none e = clash e refl
      held (some c) e = refl

  set-sorted : sorted T set ≡ flat chosen (method_names T)
  set-sorted =
      same-flat chosen (ascending T (keys set)) (method_names T)
      (ascending-sorted T (keys set) (after-keys T sound t k 0 [] [] (raw (start T t) ∷ []) (begin T sound t) (λ x i. absurd i)))
      (names-ascend T sound)
      (λ q h. (names-listed T q).1 (chosen-named q h))
      (λ q h. (ascending-In T (keys set) q).1 (chosen-key q h))

  set_is : sorted T set ≡ map (selection_of T) (flat (λ q. listed (standing as_goscript T q t)) (method_names T))
  set_is =
      set-sorted
      ∙ flat-In-ext chosen (λ q. map (selection_of T) (listed (standing as_goscript T q t))) (method_names T) (λ q i. at_name q (method-named T sound t q i))
      ∙ sym (map-flat (selection_of T) (λ q. listed (standing as_goscript T q t)) (method_names T))

  nothing-given : named_pointer T t ≡ true → (qs : List Identity) → flat (λ q. listed (standing as_goscript T q t)) qs ≡ []
  nothing-given p [] = refl
  nothing-given p (q ∷ qs) = rw (pointer-empty T sound t p q) (nothing-given p qs)

-- GOSCRIPT'S METHOD SET IS M BY LEVELS, by its own rule, and its loop ends.
pub method-set-is-goscript : (T : Table) → Sound T → (t : TypeKey) → t.0 < size T → (out : Map MethodCollision) (k : ℕ) → enough_turns T ≤ k → new_method_set T out k t ≡ map (selection_of T) (set_by_levels as_goscript T t)
unfolding set_by_levels
method-set-is-goscript T sound t in0 out k le =
    cases (pointer_at T t && is_iface (kind_at T (bare T t)))
    (λ e. rw (e, or-true (named_pointer T t)))
    (λ e. rw (e, or-false (named_pointer T t)) (ap (sorted T) (set-ends T sound t in0 out k le) ∙ set_is T sound t in0 k (omega arith)
    ∙ cases (named_pointer T t) (λ p. rw (p, nothing-given T sound t in0 k (omega arith) p (method_names T))) (λ p. rw p)))
