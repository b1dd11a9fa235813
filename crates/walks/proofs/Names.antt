-- M read off the kept walks is the rules' M: the identities that the types of the kept walks have are enough, and the kept ways decide each.
use mathlib.Core.Path.{◌≡◌, refl, sym, ap, ◌∙◌, subst}
use mathlib.Core.Bool.{true, cond}
use mathlib.Core.List.{List, [], ◌∷◌, map}
use mathlib.Core.Logic.{inl, inr}
use Prim.Native.Nat.{◌<◌}
use lib.Dec.{eqb}
use lib.ListN.{length, take}
use Rattle.objects.specs.Lists.{flat, In, Sorted}
use Rattle.objects.proofs.ListLaws.{cases, clash, In-keep, In-map, In-flat, map-In-to, flat-In-to, flat-In-ext}
use Rattle.objects.specs.declared.TypeKey.{TypeKey}
use Rattle.objects.specs.Table.{Table, size, is_method}
use Rattle.rules.specs.Members.{Identity, identity_of, same_id}
use Rattle.rules.specs.Sound.{Sound}
use Rattle.rules.specs.Ways.{Way, member_of, owned, shortest}
use Rattle.rules.specs.MethodSet.{callable, only_method, method_names, empty_set, method_set}
use Rattle.rules.proofs.MemberLaws.{same_id-true}
use Rattle.rules.proofs.IdLaws.{Proper, member-proper}
use Rattle.rules.proofs.MethodNames.{Lower, ascending-In, ascending-sorted, names-listed, names-ascend}
use Rattle.ways.specs.Graph.{matching, ends}
use Rattle.ways.specs.OfTable.{graph}
use Rattle.ways.proofs.MemberSorts.{owned-member}
use Rattle.ways.proofs.NamesInOrder.{gives, same-flat}
use Rattle.walks.specs.Reads.{as_short, kept_from, kept_ways, names_kept, set_kept}
use Rattle.walks.proofs.Tables.{kept-ways}

-- ---- one name

-- the first two ways decide
only_two : (T : Table) (ws vs : List Way) → take 2 ws ≡ take 2 vs → only_method T ws ≡ only_method T vs
unfolding only_method
only_two T ws vs h = sym (cut ws) ∙ ap (only_method T) h ∙ cut vs
  where
    cut : (l : List Way) → only_method T (take 2 l) ≡ only_method T l
    cut [] = refl
    cut (w ∷ []) = refl
    cut (w ∷ v ∷ l) = refl

-- ---- the members of the kept walks' types

-- a way ends in a member of the type where its walk stands, and the member has the name
record Ends (T : Table) (q : Identity) (t : TypeKey) (v : Way) : Type 0 where
  stands : In v.walk (kept_from T t)
  owns : In v.last (owned T v.walk.at)
  named : identity_of T (member_of v) ≡ q

short-In : (ws : List Way) (v : Way) → In v (as_short ws) → In v ws
short-In [] v x' = elim x' [ ]
short-In (w ∷ ws) v (inl e) = inl e
short-In (w ∷ ws) v (inr i) = inr (In-keep (λ x. eqb (length x.walk.places) (length w.walk.places)) ws v i).0

module _ (T : Table) (t : TypeKey) where
  kept-ends : (q : Identity) (v : Way) → In v (kept_ways T q t) → Ends T q t v
  kept-ends q v i =
      let w = In-flat (ends (graph T) q) (kept_from T t) v (short-In (flat (ends (graph T) q) (kept_from T t)) v i) in
      let m = In-map (λ p. record { walk = w.0; last = p }) (matching (graph T) q w.0.at) v w.2 in
      let k = In-keep (λ p. same_id (identity_of T p.member) q) (owned T w.0.at) m.0 m.1 in
      subst (Ends T q t) (sym m.2) (record { stands = w.1; owns = k.0; named = same_id-true (identity_of T m.0.member) q k.1 })

  -- the names that a type's members have, and those of all kept walks
  abbrev names_of : TypeKey → List Identity
  names_of u = map (λ p. identity_of T p.member) (owned T u)

  abbrev all : List Identity
  all = flat (λ w. names_of w.at) (kept_from T t)

  -- a name that a kept way leads to is among the names
  kept-name : (q : Identity) (v : Way) → In v (kept_ways T q t) → In q (names_kept T t)
  kept-name q v i =
      let e = kept-ends q v i in
      (ascending-In T all q).1 (flat-In-to (λ w. names_of w.at) (kept_from T t) v.walk q e.stands
      (subst (λ x. In x (names_of v.walk.at)) e.named (map-In-to (λ p. identity_of T p.member) (owned T v.walk.at) v.last e.owns)))

module _ (T : Table) (sound : Sound T) where
  -- THE NAMES ASCEND, so each is there once.
  pub names-kept-ascend : (t : TypeKey) → Sorted Lower (names_kept T t)
  names-kept-ascend t = ascending-sorted T (all T t) proper
    where
      proper : (q : Identity) → In q (all T t) → Proper q
      proper q i =
          let w = In-flat (λ w. names_of T t w.at) (kept_from T t) q i in
          let p = In-map (λ p. identity_of T p.member) (owned T w.0.at) q w.2 in
          let o = owned-member T sound w.0.at p.0 p.1 in
          subst Proper (sym p.2) (member-proper T sound o.0 p.0.member o.1)

  -- ---- M

  module _ (t : TypeKey) (in0 : t.0 < size T) where
    abbrev chosen : Identity → List Way
    chosen q = only_method T (kept_ways T q t)

    chosen-kept : (q : Identity) → gives chosen q ≡ true → In q (names_kept T t)
    unfolding only_method
    chosen-kept q h = go (kept_ways T q t) refl
      where
        go : (ws : List Way) → kept_ways T q t ≡ ws → In q (names_kept T t)
        go [] e = clash h (rw e)
        go (w ∷ ws) e = kept-name T t q w (subst (In w) (sym e) (inl refl))

    chosen-method : (q : Identity) → gives chosen q ≡ true → In q (method_names T)
    unfolding only_method callable
    chosen-method q h = go (kept_ways T q t) refl
      where
        go : (ws : List Way) → kept_ways T q t ≡ ws → In q (method_names T)
        go [] e = clash h (rw e)
        go (w ∷ []) e =
            let k = kept-ends T t q w (subst (In w) (sym e) (inl refl)) in
            let o = owned-member T sound w.walk.at w.last k.owns in
            cases (is_method (member_of w).entity)
            (λ m. (names-listed T q).1 (record { type = o.0; method = member_of w; stands = o.1; is_one = m; named = sym k.named }))
            (λ m. clash h (rw (e, m)))
        go (w ∷ v ∷ ws) e = clash h (rw e)

    -- M BY THE KEPT WALKS IS M.
    pub set-kept : set_kept T t ≡ method_set T t
    unfolding method_set
    set-kept =
        ap (cond (empty_set T t) [])
        (same-flat chosen (names_kept T t) (method_names T) (names-kept-ascend t) (names-ascend T sound) chosen-method chosen-kept
        ∙ flat-In-ext chosen (λ q. only_method T (shortest T q t)) (method_names T) (λ q i. only_two T (kept_ways T q t) (shortest T q t) (kept-ways T sound q t in0)))
