-- The turns of the lookup's while give what the search level by level tells (`search-levels`), however many they are.
use mathlib.Core.Path.{◌≡◌, refl, sym, ap, ap₂, ◌∙◌}
use mathlib.Core.Bool.{Bool, true, false, not, ◌||◌}
use mathlib.Core.List.{List, [], ◌∷◌, ◌++◌, map}
use Prim.Native.Nat.{ℕ, zero, suc}
use lib.Dec.{eqb}
use Rattle.objects.specs.Lists.{any, keep, flat}
use Rattle.objects.proofs.ListLaws.{cases, clash, or_l, or_r, any_append, any-map, any-keep, keep-swap, keep-ext, keep-weaker}
use Rattle.objects.proofs.KeyLaws.{same_key}
use Rattle.text.specs.Bytes.{is_blank}
use Rattle.objects.specs.declared.TypeKey.{TypeKey}
use Rattle.objects.specs.Table.{Table, same_type, is_struct, is_iface, is_named, kind_at, under, all_methods}
use Rattle.rules.specs.Members.{Identity}
use Rattle.rules.specs.Sound.{Sound}
use Rattle.rules.proofs.IdentityLaws.{identical-parts}
use Rattle.rules.specs.Ways.{owned}
use Rattle.ways.specs.Levels.{EmbeddedType, at, merge, next, hit, unseen, search-levels}
use Rattle.ways.specs.OfTable.{graph}
use Rattle.ways.proofs.ListLaws.{flat_keep, keep-each}
use Rattle.ways.proofs.Merge.{Class, merge-keep}
use Rattle.ways.proofs.TableLaws.{lawful, keyed}
use Rattle.ways.proofs.Extra.{Apart, merge-apart}
use Rattle.goscript.specs.Consolidate.{consolidate_multiples}
use Rattle.goscript.specs.Lookup.{LookupResult, NotFound, searchable, scanned, ended, turns}
use Rattle.goscript.specs.Agrees.{told}
use Rattle.goscript.proofs.Consolidating.{consolidate-is}
use Rattle.goscript.proofs.Scans.{skipped, saw_named}
use Rattle.goscript.proofs.ScanLevels.{live, kept, saw_all, live_next, firstly, scan-none}

-- ---- types of kinds that are not pushed have no members and embed nothing

module _ (T : Table) (r : EmbeddedType) (dead : live T r ≡ false) where
  not_named : is_named (kind_at T (at r)) ≡ false
  not_named = or_l (is_named (kind_at T (at r))) (is_struct (kind_at T (at r))) (or_l (is_named (kind_at T (at r)) || is_struct (kind_at T (at r))) (is_iface (kind_at T (at r))) dead)

  not_struct : is_struct (kind_at T (at r)) ≡ false
  not_struct = or_r (is_named (kind_at T (at r))) (is_struct (kind_at T (at r))) (or_l (is_named (kind_at T (at r)) || is_struct (kind_at T (at r))) (is_iface (kind_at T (at r))) dead)

  not-iface : is_iface (kind_at T (at r)) ≡ false
  not-iface = or_r (is_named (kind_at T (at r)) || is_struct (kind_at T (at r))) (is_iface (kind_at T (at r))) dead

  dead-hit : (q : Identity) → hit (graph T) q r ≡ false
  unfolding owned all_methods under
  dead-hit q = rw (not_named, not_struct, not-iface)

  pub dead-next : next (graph T) r ≡ []
  unfolding under
  dead-next = rw (not_named, not_struct)

-- ---- what was seen

module _ (T : Table) (u : TypeKey) (named : is_named (kind_at T u) ≡ true) where
  saw-one : (r : EmbeddedType) (s : List TypeKey) → any (λ v. same_type v u) (saw_named T r s) ≡ same_type (at r) u || any (λ v. same_type v u) s
  saw-one r s =
      cases (is_named (kind_at T (at r)))
      (λ e. rw e)
      (λ e. rw e (cases (same_type (at r) u) (λ f. clash (ap (λ x. is_named (kind_at T x)) (same_key (at r) u f) ∙ named) e) (λ f. rw f)))

  pub saw-all : (K : List EmbeddedType) (s : List TypeKey) → any (λ v. same_type v u) (saw_all T s K) ≡ any (λ r. same_type (at r) u) K || any (λ v. same_type v u) s
  saw-all [] s = refl
  saw-all (r ∷ K) s =
      saw-all K (saw_named T r s)
      ∙ ap (λ b. any (λ x. same_type (at x) u) K || b) (saw-one r s)
      ∙ swap (any (λ x. same_type (at x) u) K) (same_type (at r) u) (any (λ v. same_type v u) s)
    where
      swap : (a b c : Bool) → a || (b || c) ≡ (b || a) || c
      swap true true c = refl
      swap true false c = refl
      swap false true c = refl
      swap false false c = refl

-- ---- the turns

module _ (T : Table) (sound : Sound T) where
  live-class : Class (graph T) (λ u. searchable (kind_at T u))
  live-class x y h = ap (λ n. eqb n 10 || eqb n 8 || eqb n 9) ((identical-parts T sound x y).0 h).kinds

  -- What ties the lookup's level L, and what it saw, to the level M of the search by walks.
  pub record Tied (seen : List TypeKey) (L : List EmbeddedType) (seen' : List TypeKey) (M : List EmbeddedType) : Type 0 where
    pub apart : Apart (graph T) L
    pub alive : keep (live T) L ≡ keep (live T) M
    pub knows : (u : TypeKey) → skipped T seen u ≡ skipped T seen' u

  module _ (seen : List TypeKey) (L : List EmbeddedType) (seen' : List TypeKey) (M : List EmbeddedType) (tied : Tied seen L seen' M) where
    pub alive-kept : keep (live T) (kept T seen L) ≡ keep (live T) (kept T seen' M)
    alive-kept =
        keep-swap (live T) (unseen (skipped T) seen) L
        ∙ ap (keep (unseen (skipped T) seen)) tied.alive
        ∙ keep-ext _ _ (λ r. ap not (tied.knows (at r))) (keep (live T) M)
        ∙ sym (keep-swap (live T) (unseen (skipped T) seen') M)

    same-hits : (q : Identity) → keep (hit (graph T) q) (kept T seen L) ≡ keep (hit (graph T) q) (kept T seen' M)
    same-hits q =
        sym (keep-weaker (hit (graph T) q) (live T) hit-live (kept T seen L))
        ∙ ap (keep (hit (graph T) q)) alive-kept
        ∙ keep-weaker (hit (graph T) q) (live T) hit-live (kept T seen' M)
      where
        hit-live : (r : EmbeddedType) → hit (graph T) q r ≡ true → live T r ≡ true
        hit-live r h = cases (live T r) (λ e. e) (λ e. clash h (dead-hit T r e q))

    same_next : flat (next (graph T)) (kept T seen L) ≡ flat (next (graph T)) (kept T seen' M)
    same_next =
        sym (flat_keep (next (graph T)) (live T) (kept T seen L) (λ r i. dead-next T r))
        ∙ ap (flat (next (graph T))) alive-kept
        ∙ flat_keep (next (graph T)) (live T) (kept T seen' M) (λ r i. dead-next T r)

    alive-on : keep (live T) (merge (graph T) (flat (live_next T) (kept T seen L))) ≡ keep (live T) (merge (graph T) (flat (next (graph T)) (kept T seen' M)))
    alive-on =
        ap (λ l. keep (live T) (merge (graph T) l)) (keep-each (live T) (next (graph T)) (kept T seen L) ∙ ap (keep (live T)) same_next)
        ∙ ap (keep (live T)) (merge-keep (graph T) (lawful T sound) (λ u. searchable (kind_at T u)) live-class (flat (next (graph T)) (kept T seen' M)))
        ∙ keep-weaker (live T) (live T) (λ r h. h) (merge (graph T) (flat (next (graph T)) (kept T seen' M)))

    knows_on : (u : TypeKey) → skipped T (saw_all T seen (kept T seen L)) u ≡ skipped T (map at (kept T seen' M) ++ seen') u
    knows_on u =
        cases (is_named (kind_at T u))
        (λ e. rw e (saw-all T u e (kept T seen L) seen
        ∙ ap₂ (λ x y. x || y) (met e) (rw e at (tied.knows u))
        ∙ sym (any_append (λ v. same_type v u) (map at (kept T seen' M)) seen' ∙ ap (λ b. b || any (λ v. same_type v u) seen') (any-map (λ v. same_type v u) at (kept T seen' M)))))
        (λ e. rw e)
      where
        is_live : is_named (kind_at T u) ≡ true → (r : EmbeddedType) → same_type (at r) u ≡ true → live T r ≡ true
        is_live e r h = rw (same_key (at r) u h, e)

        met : is_named (kind_at T u) ≡ true → any (λ r. same_type (at r) u) (kept T seen L) ≡ any (λ r. same_type (at r) u) (kept T seen' M)
        met e =
            sym (any-keep (λ r. same_type (at r) u) (live T) (is_live e) (kept T seen L))
            ∙ ap (any (λ r. same_type (at r) u)) alive-kept
            ∙ any-keep (λ r. same_type (at r) u) (live T) (is_live e) (kept T seen' M)

    tied_on : Tied (saw_all T seen (kept T seen L)) (consolidate_multiples T (flat (live_next T) (kept T seen L))) (map at (kept T seen' M) ++ seen') (merge (graph T) (flat (next (graph T)) (kept T seen' M)))
    tied_on = rw (consolidate-is T sound (flat (live_next T) (kept T seen L))) (record { apart = merge-apart (graph T) (lawful T sound) (flat (live_next T) (kept T seen L)); alive = alive-on; knows = knows_on })

  -- the same, where the other level's seen types are the named ones too
  pub tied-saw : (seen : List TypeKey) (L : List EmbeddedType) (seen' : List TypeKey) (M : List EmbeddedType) → Tied seen L seen' M → Apart (graph T) M
      → Tied (saw_all T seen (kept T seen L)) (consolidate_multiples T (flat (live_next T) (kept T seen L))) (saw_all T seen' (kept T seen' M)) (merge (graph T) (flat (next (graph T)) (kept T seen' M)))
  tied-saw seen L seen' M tied apart =
      let n = tied_on seen L seen' M tied in
      record { apart = n.apart; alive = n.alive; knows = λ u. n.knows u ∙ sym (knows_on seen' M seen' M (record { apart = apart; alive = refl; knows = λ v. refl }) u) }

  module _ (q : Identity) (real : is_blank q.name ≡ false) (a : Bool) where
    module _ (out : LookupResult) where
      turns-empty : (k : ℕ) (seen : List TypeKey) → turns T q out a k seen [] ≡ NotFound
      turns-empty zero seen = refl
      turns-empty (suc k) seen = refl

      -- an empty level has no turn, and a turn on it would change nothing
      turns-on : (k : ℕ) (seen : List TypeKey) (L : List EmbeddedType)
          → turns T q out a (suc k) seen L ≡ ended a (λ st. turns T q out a k st.seen (consolidate_multiples T st.next)) (scanned T q seen L)
      turns-on k seen [] = sym (turns-empty k seen)
      turns-on k seen (r ∷ L) = refl

      pub turns-step : (k : ℕ) (seen : List TypeKey) (L : List EmbeddedType) → Apart (graph T) L
          → turns T q out a (suc k) seen L
          ≡ firstly T q a (keep (hit (graph T) q) (kept T seen L)) (turns T q out a k (saw_all T seen (kept T seen L)) (consolidate_multiples T (flat (live_next T) (kept T seen L))))
      turns-step k seen L apart =
          turns-on k seen L ∙ scan-none T (lawful T sound) q real (keyed T sound q real) a (λ st. turns T q out a k st.seen (consolidate_multiples T st.next)) L seen [] apart

    -- THE TURNS GIVE WHAT THE SEARCH BY WALKS TELLS
    pub turns-tell : (k : ℕ) (seen : List TypeKey) (L : List EmbeddedType) (seen' : List TypeKey) (M : List EmbeddedType) → Tied seen L seen' M
        → turns T q NotFound a k seen L ≡ told a (search-levels (graph T) (skipped T) q k seen' M)
    turns-tell zero seen [] seen' M tied = refl
    turns-tell zero seen (r ∷ L) seen' M tied = refl
    turns-tell (suc k) seen L seen' M tied =
        turns-step NotFound k seen L tied.apart
        ∙ ap₂ (firstly T q a) (same-hits seen L seen' M tied q) (turns-tell k _ _ _ _ (tied_on seen L seen' M tied))
        ∙ go (keep (hit (graph T) q) (kept T seen' M)) refl
      where
        go : (hs : List EmbeddedType) → keep (hit (graph T) q) (kept T seen' M) ≡ hs
            → firstly T q a (keep (hit (graph T) q) (kept T seen' M)) (told a (search-levels (graph T) (skipped T) q k (map at (kept T seen' M) ++ seen') (merge (graph T) (flat (next (graph T)) (kept T seen' M)))))
            ≡ told a (search-levels (graph T) (skipped T) q (suc k) seen' M)
        go [] e = rw (e, search-levels)
        go (h ∷ hs) e = rw (e, search-levels)
