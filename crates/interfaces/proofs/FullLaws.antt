-- `full_list` is the full list (`full`), and so is what is read off any runs (`read-full`); and what those who use the list ask of it.
use mathlib.Core.Path.{◌≡◌, sym, ap, ◌∙◌, subst}
use mathlib.Core.Bool.{Bool, true, false}
use mathlib.Core.List.{List, [], ◌∷◌, map}
use mathlib.Core.Logic.{◌⊎◌, ◌↔◌}
use Rattle.objects.specs.Lists.{flat, In, Sorted}
use Rattle.objects.specs.declared.TypeKey.{TypeKey}
use Rattle.objects.specs.Table.{Member, same_type}
use Rattle.objects.proofs.ListLaws.{clash, either, In-map, map-In-to, In-flat, In-keep, keep-In-to, flat_map}
use Rattle.objects.proofs.KeyLaws.{same_key}
use Rattle.objects.proofs.SortedLaws.{sorted-keep}
use Rattle.rules.specs.Members.{Identity, same_id}
use Rattle.rules.specs.Sound.{Lower}
use Rattle.rules.proofs.MemberLaws.{same_id-true, same_id-self}
use Rattle.rules.proofs.MethodNames as names_of
use Rattle.rules.proofs.MethodNames.{ascending-In, ascending-sorted}
use Rattle.rules.proofs.IdLaws.{Proper}
use Rattle.rules.proofs.AscendLaws.{SameIdentity, ascend-one, Has}
use Rattle.interfaces.specs.Interfaces.{Interfaces, itself, through, Reached, reaches, Tells}
use Rattle.interfaces.specs.FullList.{Entry, choice, identity_at, entries, of_identity, names, full_list, Stands, own, least, FullList}
use Rattle.interfaces.specs.Runs.{Earlier, RunLower, Somewhere, Runs, read_list}
use Rattle.interfaces.proofs.Fit.{Fit}
use Rattle.interfaces.proofs.Lists.{no-members, sorted-map}
use Rattle.interfaces.proofs.ReachLaws.{reaches-sound, reaches-only, reaches-iff, entries-In}
use Rattle.interfaces.proofs.Picking.{full-one, choice-In, picked, covered}

-- what stands for an identity is reached
pub stands-reached : {I : Interfaces} {i : TypeKey} {m : Member} → Stands I i m → Reached I i m
stands-reached {I} {i} (own o) = record { owner = i; way = itself; owns = o }
stands-reached (least w a b) = w

module _ (I : Interfaces) (fit : Fit I) where
  -- ---- the runs of `full_list`: the methods of each identity

  abbrev pub blocks : List (List Entry)
  blocks = map (of_identity I) (names I)

  named : (q : Identity) → In q (names I) ↔ In q (map (identity_at I) (entries I))
  unfolding names
  named q = ascending-In I.table (map (identity_at I) (entries I)) q

  names-sorted : Sorted names_of.Lower (names I)
  unfolding names
  names-sorted = ascending-sorted I.table (map (identity_at I) (entries I)) proper
    where
      proper : (q : Identity) → In q (map (identity_at I) (entries I)) → Proper q
      proper q i =
          let r = In-map (identity_at I) (entries I) q i in
          subst Proper (sym r.2) (fit.proper r.0.owner r.0.method ((entries-In I fit r.0).0 r.1))

  of-identity : (q : Identity) (x : Entry) → In x (of_identity I q) → In x (entries I) × (q ≡ identity_at I x)
  of-identity q x h = let r = In-keep (λ (y : Entry). same_id q (identity_at I y)) (entries I) x h in (r.0, same_id-true q (identity_at I x) r.1)

  ascending-blocks : (qs : List Identity) → Sorted names_of.Lower qs → Sorted (λ p q. RunLower I (of_identity I p) (of_identity I q)) qs
  ascending-blocks [] s = tt
  ascending-blocks (p ∷ qs) s = (
    λ q i x y h k. subst (λ a. names_of.Lower a (identity_at I y)) (of-identity p x h).1 (subst (λ b. names_of.Lower p b) (of-identity q y k).1 (s.0 q i)),
    ascending-blocks qs s.1,
  )

  pub block_runs : Runs I blocks
  block_runs = record {
    apart = sorted-map (RunLower I) (of_identity I) (names I) (ascending-blocks (names I) names-sorted);
    one = λ r x y h i j.
        let q = In-map (of_identity I) (names I) r h in
        sym (of-identity q.0 x (subst (λ l. In x l) q.2 i)).1 ∙ (of-identity q.0 y (subst (λ l. In y l) q.2 j)).1;
    rising = λ r h. let q = In-map (of_identity I) (names I) r h in subst (Sorted Earlier) (sym q.2) (sorted-keep Earlier (λ (y : Entry). same_id q.0 (identity_at I y)) (entries I) fit.rising);
    every = λ x. (
      λ h. there-is x h,
      λ o. let i = (entries-In I fit x).1 o in (
        of_identity I (identity_at I x),
        map-In-to (of_identity I) (names I) (identity_at I x) ((named (identity_at I x)).1 (map-In-to (identity_at I) (entries I) x i)),
        keep-In-to (λ (y : Entry). same_id (identity_at I x) (identity_at I y)) (entries I) x i (same_id-self (identity_at I x)),
      ),
    );
  }
    where
      there-is : (x : Entry) → Somewhere blocks x → In x.method (I.own x.owner)
      there-is x h =
          let q = In-map (of_identity I) (names I) h.0 h.1 in
          (entries-In I fit x).0 (of-identity q.0 x (subst (λ l. In x l) q.2 h.2)).0

  as_read : (t : TypeKey) → read_list (I.under t) (reaches I (I.under t)) blocks ≡ full_list I t
  unfolding read_list full_list
  as_read t = ap (map (λ x. x.method)) (flat_map (choice (I.under t) (reaches I (I.under t))) (of_identity I) (names I))

  module _ (t : TypeKey) (face : I.iface (I.under t) ≡ true) where
    told : Tells I (I.under t) (reaches I (I.under t))
    told j h = reaches-iff I fit.linked (I.under t) j (fit.linked.inside (I.under t) face)

    -- `full_list` IS THE FULL LIST
    pub full : FullList I (I.under t) (full_list I t)
    full = subst (FullList I (I.under t)) (as_read t) (picked I fit (I.under t) (reaches I (I.under t)) told blocks block_runs)

    -- AND SO IS THE READING OF ANY RUNS, BY ANY TEST OF WHAT IS REACHED
    pub read-full : (reached : TypeKey → Bool) → Tells I (I.under t) reached → (rs : List (List Entry)) → Runs I rs → read_list (I.under t) reached rs ≡ full_list I t
    read-full reached tells rs runs =
        full-one I (I.under t) (read_list (I.under t) reached rs) (full_list I t) (picked I fit (I.under t) reached tells rs runs) full

    -- only what is reached
    pub full-reached : (m : Member) → In m (full_list I t) → Reached I (I.under t) m
    full-reached m h = stands-reached ((full.holds m).0 h)

    -- each identity that is reached
    pub full-has : (m : Member) → Reached I (I.under t) m → Has I.table (full_list I t) m
    full-has m w = subst (λ l. Has I.table l m) (as_read t) (covered I fit (I.under t) (reaches I (I.under t)) told blocks block_runs m w)

    -- and that once
    pub full-once : (m n : Member) → In m (full_list I t) → In n (full_list I t) → SameIdentity I.table m n → m ≡ n
    full-once m n h k e = ascend-one I.table (full_list I t) full.ascends m n h k e

    -- WITHOUT E LINES, AN INTERFACE WHOSE METHODS ASCEND HAS ITS OWN LIST
    pub full-own : I.embeds (I.under t) ≡ [] → Sorted (Lower I.table) (I.own (I.under t)) → full_list I t ≡ I.own (I.under t)
    full-own none ascends = full-one I (I.under t) (full_list I t) (I.own (I.under t)) full (record { ascends = ascends; holds = λ m. (λ h. own h, λ s. back m (stands-reached s)) })
      where
        back : (m : Member) → Reached I (I.under t) m → In m (I.own (I.under t))
        back m w = subst (λ j. In m (I.own j)) (reaches-only I none w.way) w.owns

  -- THE IDENTITIES OF WHAT IT EMBEDS ARE IN IT
  pub full-embedded : (t e : TypeKey) → In e (I.embeds (I.under t)) → (m : Member) → In m (full_list I e) → Has I.table (full_list I t) m
  full-embedded t e h m k =
      let w = full-reached e (fit.linked.allowed (I.under t) e h) m k in
      full-has t (fit.linked.embedding (I.under t) e h) m (record { owner = w.owner; way = through h w.way; owns = w.owns })

  -- A TYPE WITHOUT AN INTERFACE UNDER IT HAS NONE
  pub full-none : (t : TypeKey) → I.iface (I.under t) ≡ false → full_list I t ≡ []
  unfolding full_list
  full-none t off = no-members (full_list I t) (λ m h. lacks m h)
    where
      i : TypeKey
      i = I.under t

      bare : I.embeds i ≡ []
      bare = no-members (I.embeds i) (λ e h. clash (fit.linked.embedding i e h) off)

      taken : (x : Entry) → In x.method (I.own x.owner) → (same_type i x.owner ≡ true) ⊎ (reaches I i x.owner ≡ true) → ⊥
      taken x o c =
          let f = fit.owning x.owner x.method o in
          either c
          (λ e. clash (subst (λ j. I.iface j ≡ true) (sym (same_key i x.owner e)) f) off)
          (λ e. clash (subst (λ j. I.iface j ≡ true) (reaches-only I bare (reaches-sound I i x.owner e)) f) off)

      lacks : (m : Member) → In m (full_list I t) → ⊥
      lacks m h =
          let p = In-map (λ (x : Entry). x.method) (flat (λ q. choice i (reaches I i) (of_identity I q)) (names I)) m h in
          let q = In-flat (λ q. choice i (reaches I i) (of_identity I q)) (names I) p.0 p.1 in
          let c = choice-In i (reaches I i) (of_identity I q.0) p.0 q.2 in
          taken p.0 ((entries-In I fit p.0).0 (of-identity q.0 p.0 c.0).0) c.1

-- TWO NAMES OF ONE INTERFACE HAVE ONE LIST
pub full-named : (I : Interfaces) (t u : TypeKey) → I.under t ≡ I.under u → full_list I t ≡ full_list I u
unfolding full_list
full-named I t u e = ap (λ i. map (λ (x : Entry). x.method) (flat (λ q. choice i (reaches I i) (of_identity I q)) (names I))) e
