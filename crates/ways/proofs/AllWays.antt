-- The rules' list of ways has every way and nothing else; and where there is no way of as many places as there are types, or fewer, there is none at all.
use mathlib.Core.Path.{◌≡◌, refl, sym, ap, ◌∙◌, subst}
use mathlib.Core.Bool.{Bool}
use mathlib.Core.List.{[]}
use mathlib.Core.Logic.{inl, ◌↔◌}
use Prim.Native.Nat.{ℕ, zero, suc, ◌<◌, ◌≤◌}
use native.Mathlib.Omega.{arith}
use Rattle.objects.specs.Lists.{any, flat, In}
use Rattle.objects.proofs.ListLaws.{In-keep, In-map, In-flat, map-In-to, flat-In-to, keep-In-to}
use Rattle.objects.proofs.KeyLaws.{same_key}
use Rattle.objects.specs.declared.TypeKey.{TypeKey}
use Rattle.objects.specs.Table.{Table, size, same_type, is_embedded, bare}
use Rattle.rules.specs.Members.{Identity, identity_of, same_id}
use Rattle.rules.specs.Ways.{Place, Walk, Way, start, along, field_places, embedded, owned, onward, walks, matching, ends, ways}
use Rattle.ways.specs.Graph as over
use Rattle.ways.specs.OfTable.{graph, graph_up_to}
use Rattle.ways.specs.IsWay.{IsWalk, starts, takes, IsWay}
use Rattle.ways.proofs.Merge.{Lawful}
use Rattle.ways.proofs.Bound.{Closed, none-longer}
use Rattle.ways.proofs.Numbered.{numbered-lawful}
use Rattle.ways.proofs.Bridge.{ways-are}

-- ---- every way is listed, and nothing else

module _ (T : Table) (t : TypeKey) where
  abbrev emb : Place → Bool
  emb p = is_embedded p.member.entity

  walk-listed : {d : ℕ} {w : Walk} → IsWalk T t d w → In w (walks T t d)
  unfolding walks onward
  walk-listed starts = inl refl
  walk-listed (takes {d = d} {w = w} f p i e) =
      flat-In-to (onward T) (walks T t d) w (along T w f) (walk-listed p) (map-In-to (along T w) (embedded T w.at) f (keep-In-to emb (field_places T w.at) f i e))

  listed-walk : (d : ℕ) (w : Walk) → In w (walks T t d) → IsWalk T t d w
  unfolding walks onward
  listed-walk zero w (mathlib.Core.Logic.inr x'') = elim x'' [ ]
  listed-walk zero w (inl e) = subst (IsWalk T t zero) (sym e) starts
  listed-walk (suc d) w i =
      let v = In-flat (onward T) (walks T t d) w i in
      let s = In-map (along T v.0) (embedded T v.0.at) w v.2 in
      let k = In-keep emb (field_places T v.0.at) s.0 s.1 in
      subst (IsWalk T t (suc d)) (sym s.2) (takes s.0 (listed-walk d v.0 v.1) k.0 k.1)

  -- EVERY WAY IS LISTED, AND EVERY LISTED ONE IS A WAY.
  pub ways-listed : (q : Identity) (d : ℕ) (w : Way) → In w (ways T q t d) ↔ IsWay T q t d w
  unfolding ways
  ways-listed q d w = (there, back)
    where
      test : Place → Bool
      test p = same_id (identity_of T p.member) q

      there : In w (flat (ends T q) (walks T t d)) → IsWay T q t d w
      there i =
          let v = In-flat (ends T q) (walks T t d) w i in
          let m = In-map (λ p. record { walk = v.0; last = p }) (matching T q v.0.at) w v.2 in
          let k = In-keep (λ p. same_id (identity_of T p.member) q) (owned T v.0.at) m.0 m.1 in
          subst (IsWay T q t d) (sym m.2) (record { walks = listed-walk d v.0 v.1; owns = k.0; matches = k.1 })

      back : IsWay T q t d w → In w (flat (ends T q) (walks T t d))
      back h =
          flat-In-to (ends T q) (walks T t d) w.walk w (walk-listed h.walks)
          (map-In-to (λ p. record { walk = w.walk; last = p }) (matching T q w.walk.at) w.last (keep-In-to (λ p. same_id (identity_of T p.member) q) (owned T w.walk.at) w.last h.owns h.matches))

-- ---- no way of any length

-- the table's graph with each type identical to itself only: enough to count the types on a way
abbrev pub plain : Table → over.Graph
plain T = graph_up_to T same_type

pub plain-lawful : (T : Table) → Lawful (plain T)
plain-lawful T = numbered-lawful (graph T)

module _ (T : Table) (closed : Closed (graph T)) (q : Identity) (t : TypeKey) (in0 : (bare T t).0 < size T) where
  -- "Ways may be of any length": none of as many places as there are types or fewer (a way of d steps has d + 1 places), none at all
  pub no_way : ((d : ℕ) → suc d ≤ size T → ways T q t d ≡ []) → (d : ℕ) → ways T q t d ≡ []
  no_way h d =
      ways-are T q t d
      ∙ none-longer (plain T) (plain-lawful T) closed (start T t) in0 q (λ a b e. ap (λ x. any ((plain T).hit q) (owned T x)) (same_key a b e))
      (λ e l. sym (ways-are T q t e) ∙ h e (omega arith)) d
