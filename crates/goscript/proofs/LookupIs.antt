-- `lookup_field_or_method` agrees with the rules' S: on every sound table, for every type of it, name and a.
use mathlib.Core.Path.{◌≡◌, refl, sym, ap, ◌∙◌, subst}
use mathlib.Core.Bool.{Bool, true, false, cond, not, ◌&&◌, and-false}
use mathlib.Core.List.{List, [], ◌∷◌}
use mathlib.Core.Logic.{◌⊎◌, inl, inr}
use Prim.Native.Nat.{ℕ, zero, suc, ◌≤◌, ◌<◌}
use native.Mathlib.Omega.{arith}
use Rattle.objects.specs.Lists.{any, In}
use Rattle.objects.proofs.ListLaws.{cases, clash, In-flat, In-map, and_r}
use Rattle.text.specs.Bytes.{is_blank}
use Rattle.objects.specs.declared.TypeKey.{TypeKey}
use Rattle.objects.specs.Table.{Table, size, Entity, Field, Method, is_method, has_ptr, is_named, is_pointer, kind_at, under, bare, pointer_at, iface_under, named_pointer}
use Rattle.rules.specs.Members.{Identity}
use Rattle.rules.specs.Identity.{identical}
use Rattle.rules.specs.Sound.{Sound}
use Rattle.rules.proofs.RangeLaws.{under-in}
use Rattle.ways.proofs.TableLaws.{closed, lawful, keyed, bare-in}
use Rattle.rules.specs.Ways.{Selected, notfound, badreceiver, entry, ambiguous, is_ambiguous, Walk, Way, member_of, places_of, single, no_method, start, searched_as, judged, shortest, searched, select}
use Rattle.ways.specs.Graph as over
use Rattle.ways.specs.Levels.{raw, folded, search-levels}
use Rattle.ways.specs.OfTable.{graph}
use Rattle.ways.proofs.Merge.{Lawful}
use Rattle.ways.proofs.Same.{Keyed, search_is, named-skips}
use Rattle.ways.proofs.Least.{Least, least-or-none, shortest-least, shortest-nothing, shortest-more}
use Rattle.ways.proofs.LevelTest.{shortest-are}
use Rattle.goscript.specs.Lookup.{LookupResult, Entry, Ambiguous, BadMethodReceiver, NotFound, potential_match, enough_turns, discard_method, lookup_impl, lookup_field_or_method}
use Rattle.goscript.specs.Agrees.{Agrees, entries, one-shown, bad-receivers, not-founds, WhichWay, told}
use Rattle.goscript.proofs.Scans.{skipped}
use Rattle.goscript.proofs.LookupSame.{turns-tell}
use Rattle.goscript.proofs.LoopsEnd.{lookup-ends}

-- ---- from a pointer on, the flag is set, and a does not matter

flag-kept : (T : Table) (r : Walk) → r.flag ≡ true → (d : ℕ) (w : Walk) → In w (over.walks (graph T) r d) → w.flag ≡ true
flag-kept T r h zero w (inr x'') = elim x'' [ ]
flag-kept T r h zero w (inl e) = ap (λ (x : Walk). x.flag) e ∙ h
flag-kept T r h (suc d) w i =
    let v = In-flat (over.onward (graph T)) (over.walks (graph T) r d) w i in
    let s = In-map (over.along (graph T) v.0) ((graph T).steps v.0.at) w v.2 in
    from v.0 s.0 (flag-kept T r h d v.0 v.1) s.2
  where
    from : (v : Walk) (s : over.Step) → v.flag ≡ true → w ≡ over.along (graph T) v s → w.flag ≡ true
    from v s e f = ap (λ (x : Walk). x.flag) f ∙ rw e

single-flag : (a b : Bool) (w : Way) → w.walk.flag ≡ true → single a w ≡ single b w
single-flag a b w e = cases (has_ptr (member_of w).entity) (λ h. rw (h, e)) (λ h. rw h)

judged-flag : (a b : Bool) (ws : List Way) → ((w : Way) → In w ws → w.walk.flag ≡ true) → judged a ws ≡ judged b ws
judged-flag a b [] h = refl
judged-flag a b (w ∷ []) h = single-flag a b w (h w (inl refl))
judged-flag a b (w ∷ v ∷ ws) h = refl

-- ---- what is told of the shortest ways, and what the answer shows of them

-- the test of the receiver is the rules'
match-agrees : (a : Bool) (w : Way) → Agrees (potential_match a w) (single a w)
match-agrees a w = cases (has_ptr (member_of w).entity) (λ e. rw (has-method (member_of w).entity e, e) (received w.walk.flag a)) (λ e. rw (e, and-false) entries)
  where
    has-method : (x : Entity) → has_ptr x ≡ true → is_method x ≡ true
    has-method (Field emb tag) h = clash h refl
    has-method (Method ptr) h = refl

    received : (f b : Bool) → Agrees (cond (not f && not b) BadMethodReceiver (Entry (member_of w) (places_of w) f)) (cond (not f && not b) badreceiver (entry (member_of w) f (places_of w)))
    received true b = entries
    received false true = entries
    received false false = bad-receivers

-- more than one way is told of
abbrev several : LookupResult → Bool
several (Entry m indices indirect) = false
several (Ambiguous indices) = true
several BadMethodReceiver = false
several NotFound = false

match-one : (a : Bool) (w : Way) → several (potential_match a w) ≡ false
match-one a w = go (is_method (member_of w).entity && has_ptr (member_of w).entity && not w.walk.flag && not a)
  where
    go : (b : Bool) → several (cond b BadMethodReceiver (Entry (member_of w) (places_of w) w.walk.flag)) ≡ false
    go true = refl
    go false = refl

module _ (T : Table) (a : Bool) where
  -- the first or the second is told, and both are shown
  told-agrees : (ws : List Way) → Agrees (told a (folded (graph T) ws)) (judged a ws)
  told-agrees [] = not-founds
  told-agrees (w ∷ []) = match-agrees a w
  told-agrees (w ∷ v ∷ rest) =
      cases (any (λ x. identical T w.walk.at x.walk.at) (v ∷ rest))
      (λ e. rw e (one-shown refl (inl refl)))
      (λ e. rw e (one-shown refl (inr (inl refl))))

  -- .. which of them, whatever b is
  told-which : (b : Bool) (ws : List Way) (indices : List ℕ) → told a (folded (graph T) ws) ≡ Ambiguous indices → WhichWay T ws indices (judged b ws)
  told-which b [] indices h = clash (ap several h) refl
  told-which b (w ∷ []) indices h = clash (ap several h) (match-one a w)
  told-which b (w ∷ v ∷ rest) indices h = record { first = w; second = v; others = rest; ways = refl; shown = refl; tells = which }
    where
      which : indices ≡ cond (any (λ x. identical T w.walk.at x.walk.at) (v ∷ rest)) (places_of w) (places_of v)
      which =
          cases (any (λ x. identical T w.walk.at x.walk.at) (v ∷ rest))
          (λ e. let i : Ambiguous (places_of w) ≡ Ambiguous indices = rw e at h in rw e (cc))
          (λ e. let i : Ambiguous (places_of v) ≡ Ambiguous indices = rw e at h in rw e (cc))

-- ---- a named pointer type's methods are discarded alike

discard-agrees : {r : LookupResult} {s : Selected} → Agrees r s → Agrees (discard_method r) (no_method s)
discard-agrees (entries {m = m}) = cases (is_method m.entity) (λ e. rw e not-founds) (λ e. rw e entries)
discard-agrees (one-shown {s = s} e i) = subst (Agrees (Ambiguous _)) (sym (kept s e)) (one-shown e i)
  where
    kept : (s : Selected) → is_ambiguous s ≡ true → no_method s ≡ s
    kept notfound e = clash e refl
    kept badreceiver e = clash e refl
    kept (entry m flag places) e = clash e refl
    kept (ambiguous first second) e = refl
discard-agrees bad-receivers = bad-receivers
discard-agrees not-founds = not-founds

discard-ambiguous : (r : LookupResult) (indices : List ℕ) → discard_method r ≡ Ambiguous indices → r ≡ Ambiguous indices
discard-ambiguous (Entry m l indirect) indices h = cases (is_method m.entity) (λ e. clash (ap several (rw e at h)) refl) (λ e. rw e at h)
discard-ambiguous (Ambiguous l) indices h = h
discard-ambiguous BadMethodReceiver indices h = h
discard-ambiguous NotFound indices h = h

-- ---- the search

module _ (T : Table) (sound : Sound T) (q : Identity) (real : is_blank q.name ≡ false) where
  law : Lawful (graph T)
  law = lawful T sound

  kd : Keyed (graph T) q
  kd = keyed T sound q real

  module _ (t : TypeKey) (in0 : t.0 < size T) where
    in1 : (bare T t).0 < size T
    in1 = bare-in T sound t in0

    levels-are : (k : ℕ) → size T ≤ k → search-levels (graph T) (skipped T) q k [] (raw (start T t) ∷ []) ≡ folded (graph T) (shortest T q t)
    levels-are k le =
        search_is (graph T) law (skipped T) (named-skips (graph T) law (λ u. is_named (kind_at T u))) (start T t) q kd k 0 [] (raw (start T t) ∷ []) (record { level = refl; before = λ u h. h; within = λ u h. h }) (λ u h. clash h refl)
        ∙ ap (folded (graph T)) (shortest-more (graph T) law (closed T sound) (start T t) in1 q kd k le ∙ sym (shortest-are T t q))

    -- THE LOOKUP TELLS WHAT IS TOLD OF THE SHORTEST WAYS
    impl-tells : (a : Bool) (out : LookupResult) (k : ℕ) → enough_turns T ≤ k
        → lookup_impl T q out k t a ≡ cond (pointer_at T t && iface_under T (bare T t)) NotFound (told a (folded (graph T) (shortest T q t)))
    impl-tells a out k le =
        rw (real, lookup-ends T sound t in0 q real a out k le)
        (ap (cond (pointer_at T t && iface_under T (bare T t)) NotFound)
        (turns-tell T sound q real a k [] (raw (start T t) ∷ []) [] (raw (start T t) ∷ []) (record { apart = (refl, tt); alive = refl; knows = λ u. refl })
        ∙ ap (told a) (levels-are k (omega arith))))

    impl-agrees : (a : Bool) (out : LookupResult) (k : ℕ) → enough_turns T ≤ k → Agrees (lookup_impl T q out k t a) (searched T q t a)
    unfolding searched
    impl-agrees a out k le =
        rw (impl-tells a out k le) (cases (pointer_at T t && iface_under T (bare T t)) (λ e. rw e not-founds) (λ e. rw e (told-agrees T a (shortest T q t))))

    impl-which : (a b : Bool) (out : LookupResult) (k : ℕ) → enough_turns T ≤ k → (indices : List ℕ) → lookup_impl T q out k t a ≡ Ambiguous indices
        → WhichWay T (shortest T q t) indices (searched T q t b)
    unfolding searched
    impl-which a b out k le indices h =
        let i = sym (impl-tells a out k le) ∙ h in
        cases (pointer_at T t && iface_under T (bare T t))
        (λ e. clash (ap several (rw e at i)) refl)
        (λ e. rw e (told-which T a b (shortest T q t) indices (rw e at i)))

    pointer-flag : pointer_at T t ≡ true → (a b : Bool) → judged a (shortest T q t) ≡ judged b (shortest T q t)
    pointer-flag p a b = rw (shortest-are T t q) (go (least-or-none (graph T) law (closed T sound) (start T t) in1 q kd))
      where
        go : ((d : ℕ) × Least (graph T) q (start T t) d) ⊎ ((j : ℕ) → over.ways (graph T) q (start T t) j ≡ [])
            → judged a (over.shortest (graph T) q (start T t) 0 (size T)) ≡ judged b (over.shortest (graph T) q (start T t) 0 (size T))
        go (inl l) = rw (shortest-least (graph T) law (closed T sound) (start T t) in1 q kd l.0 l.1) (judged-flag a b (over.ways (graph T) q (start T t) l.0) (λ w i.
            let v = In-flat (over.ends (graph T) q) (over.walks (graph T) (start T t) l.0) w i in
            let m = In-map (λ x. record { walk = v.0; last = x }) (over.matching (graph T) q v.0.at) w v.2 in
            ap (λ (x : Way). x.walk.flag) m.2 ∙ flag-kept T (start T t) p l.0 v.0 v.1))
        go (inr h) = rw (shortest-nothing (graph T) law (closed T sound) (start T t) in1 q kd h)

    searched-pointer : pointer_at T t ≡ true → (a b : Bool) → searched T q t a ≡ searched T q t b
    unfolding searched
    searched-pointer p a b = rw (pointer-flag p a b)

-- ---- every sound table

module _ (T : Table) (sound : Sound T) (q : Identity) (t : TypeKey) (in0 : t.0 < size T) (a : Bool) (out : LookupResult) (k : ℕ) (le : enough_turns T ≤ k) where
  through-pointer : is_blank q.name ≡ false → named_pointer T t ≡ true → Agrees (lookup_impl T q out k (under T t) false) (searched T q (under T t) a)
  unfolding named_pointer pointer_at
  through-pointer real n =
      let in1 = under-in T sound t in0 in
      let p = and_r (is_named (kind_at T t)) (is_pointer (kind_at T (under T t))) n in
      subst (Agrees (lookup_impl T q out k (under T t) false)) (searched-pointer T sound q real (under T t) in1 p false a) (impl-agrees T sound q real (under T t) in1 false out k le)

  -- GOSCRIPT'S LOOKUP AGREES WITH S, and its loop ends.
  pub lookup-is-goscript : Agrees (lookup_field_or_method T q out k t a) (select T q t a)
  unfolding select
  lookup-is-goscript =
      cases (is_blank q.name)
      (λ e. cases (named_pointer T t) (λ n. rw (e, n) not-founds) (λ n. rw (e, n) not-founds))
      (λ e. cases (named_pointer T t)
      (λ n. rw (n, e) (rw e at (discard-agrees (through-pointer e n))))
      (λ n. rw (n, e) (rw e at (impl-agrees T sound q e t in0 a out k le))))

  pointer-which : is_blank q.name ≡ false → (indices : List ℕ) → discard_method (lookup_impl T q out k (under T t) false) ≡ Ambiguous indices
      → WhichWay T (shortest T q (under T t)) indices (no_method (searched T q (under T t) a))
  pointer-which real indices h =
      let w = impl-which T sound q real (under T t) (under-in T sound t in0) false a out k le indices (discard-ambiguous (lookup_impl T q out k (under T t) false) indices h) in
      record { first = w.first; second = w.second; others = w.others; ways = w.ways; shown = ap no_method w.shown; tells = w.tells }

  -- WHICH OF THE TWO WAYS GOSCRIPT TELLS, where it tells of several
  pub which-way : (indices : List ℕ) → lookup_field_or_method T q out k t a ≡ Ambiguous indices → WhichWay T (shortest T q (searched_as T t)) indices (select T q t a)
  unfolding select
  which-way indices h =
      cases (is_blank q.name)
      (λ e. cases (named_pointer T t) (λ n. clash (ap several (rw (n, e) at h)) refl) (λ n. clash (ap several (rw (n, e) at h)) refl))
      (λ e. cases (named_pointer T t)
      (λ n. rw (e, n) (pointer-which e indices (rw n at h)))
      (λ n. rw (e, n) (impl-which T sound q e t in0 a a out k le indices (rw n at h))))
