-- The graph of a library that grew has what the old one's had (`Grows` of proofs/GrowWays.antt), for every name.
use mathlib.Core.Path.{◌≡◌, refl, sym, ap, ap₂, ◌∙◌}
use mathlib.Core.Bool.{Bool, false, not}
use mathlib.Core.List.{List, [], ◌∷◌, ◌++◌, map, append-nil}
use mathlib.Core.Logic.{inl, inr}
use Prim.Native.Nat.{ℕ, suc, ◌<◌}
use Rattle.objects.specs.Lists.{any, keep, In}
use Rattle.objects.proofs.ListLaws.{cases, keep_append, keep-map, map-append, map-map, map-In, In-keep, or_l, or_r}
use Rattle.objects.specs.declared.TypeKey.{TypeKey}
use Rattle.objects.specs.Table.{Table, size, Member, is_embedded, fields_of, declared_of, kind_at, under, all_methods}
use Rattle.rules.specs.Members.{Identity, identity_of, same_id}
use Rattle.rules.specs.Ways.{Place, places_from, field_places, owned, embedded}
use Rattle.rules.specs.Sound.{Sound, MemberOf}
use Rattle.rules.proofs.RangeLaws.{under-in, member-known}
use Rattle.ways.specs.Graph.{Step, matching}
use Rattle.ways.specs.OfTable.{graph, step_of}
use Rattle.ways.proofs.TableLaws.{places-from}
use Rattle.growth.specs.Grown.{Numbers, carry_member, is_added, Added, Grown}
use Rattle.growth.proofs.GrowWays.{carry_step, carry_place, Grows}
use Rattle.growth.proofs.GrowKinds.{fields-members, declared-members, methods-members, fields-grew, declared-grew, carried-old, under-kept, bare-kept, pointer-kept, methods-kept, identity-kept}

-- the members of a list that pass a test, at their places
abbrev tested : (Member → Bool) → ℕ → List Member → List Place
tested p i ms = keep (λ (x : Place). p x.member) (places_from i ms)

module _ (n : Numbers) (A B : Table) (sound_a : Sound A) (g : Grown n A B) where
  abbrev is_old : Place → Bool
  is_old p = not (is_added n A p.member.key)

  -- ---- members at their places

  added-places : (test : Member → Bool) (i : ℕ) (more : List Member) → Added n A more → keep is_old (tested test i more) ≡ []
  added-places test i [] w = refl
  added-places test i (m ∷ ms) w =
      let here = or_l (not (is_added n A m.key)) (any (λ (x : Member). not (is_added n A x.key)) ms) w in
      let rest = added-places test (suc i) ms (or_r (not (is_added n A m.key)) (any (λ (x : Member). not (is_added n A x.key)) ms) w) in
      cases (test m) (λ e. rw (e, here) rest) (λ e. rw e rest)

  -- members of one type, with what was added: those that are not added and pass a test are the carried ones of those that passed
  grown-places : (old new : Member → Bool) (i : ℕ) (ms more : List Member) → ((m : Member) → In m ms → (is_added n A (n.mem m.key) ≡ false) × (new (carry_member n m) ≡ old m)) → Added n A more
      → keep is_old (tested new i (map (carry_member n) ms ++ more)) ≡ map (carry_place n) (tested old i ms)
  grown-places old new i [] more h w = added-places new i more w
  grown-places old new i (m ∷ ms) more h w =
      let k = h m (inl refl) in
      let rest = grown-places old new (suc i) ms more (λ x j. h x (inr j)) w in
      cases (old m)
      (λ e. rw (k.1 ∙ e, k.0, e) (ap (λ r. carry_place n (record { place = i; member = m }) ∷ r) rest))
      (λ e. rw (k.1 ∙ e, e) rest)

  known : (t : TypeKey) (m : Member) → MemberOf A t m → is_added n A (n.mem m.key) ≡ false
  known t m i = carried-old n A m.key (member-known A sound_a t m i)

  -- ---- embedded fields

  field-in : (t : TypeKey) (p : Place) → In p (embedded A t) → MemberOf A (under A t) p.member
  field-in t p i =
      fields-members (kind_at A (under A t)) p.member (places-from 0 (fields_of (kind_at A (under A t))) p (In-keep (λ (x : Place). is_embedded x.member.entity) (field_places A t) p i).0).1

  embedded-kept : (t : TypeKey) → t.0 < size A → keep is_old (embedded B (n.ty t)) ≡ map (carry_place n) (embedded A t)
  embedded-kept t h =
      let u = under A t in
      let r = fields-grew n A u (kind_at A u) (kind_at B (n.ty u)) (g.grew u (under-in A sound_a t h)) in
      ap (λ z. keep is_old (tested (λ m. is_embedded m.entity) 0 (fields_of (kind_at B z)))) (under-kept n A B sound_a g t h)
      ∙ ap (λ z. keep is_old (tested (λ m. is_embedded m.entity) 0 z)) r.2
      ∙ grown-places (λ m. is_embedded m.entity) (λ m. is_embedded m.entity) 0 (fields_of (kind_at A u)) r.0
      (λ m i. (known u m (fields-members (kind_at A u) m i), refl)) r.1

  step_kept : (p : Place) → p.member.type.0 < size A → step_of B (carry_place n p) ≡ carry_step n (step_of A p)
  step_kept p h =
      ap₂ (λ (t : TypeKey) (b : Bool). record { place = p.place; key = n.mem p.member.key; target = t; ptr = b }) (bare-kept n A B sound_a g p.member.type h) (pointer-kept n A B sound_a g p.member.type h)

  steps-kept : (t : TypeKey) → t.0 < size A → keep (λ s. not (is_added n A s.key)) ((graph B).steps (n.ty t)) ≡ map (carry_step n) ((graph A).steps t)
  steps-kept t h =
      keep-map (λ (s : Step). not (is_added n A s.key)) (step_of B) (embedded B (n.ty t))
      ∙ ap (map (step_of B)) (embedded-kept t h)
      ∙ map-map (step_of B) (carry_place n) (embedded A t)
      ∙ map-In (λ p. step_of B (carry_place n p)) (λ p. carry_step n (step_of A p)) (embedded A t) (λ p i. step_kept p (sound_a.typed (under A t) p.member (field-in t p i)))
      ∙ sym (map-map (carry_step n) (step_of A) (embedded A t))

  -- ---- members of a name

  pub method-in : (t : TypeKey) (m : Member) → In m (all_methods A t) → MemberOf A (under A t) m
  unfolding all_methods
  method-in t m i = methods-members (kind_at A (under A t)) m i

  module _ (q : Identity) where
    abbrev in_a : Member → Bool
    in_a m = same_id (identity_of A m) q

    abbrev in_b : Member → Bool
    in_b m = same_id (identity_of B m) q

    hit-kept : (t : TypeKey) (m : Member) → MemberOf A t m → (is_added n A (n.mem m.key) ≡ false) × (in_b (carry_member n m) ≡ in_a m)
    hit-kept t m i = (known t m i, ap (λ z. same_id z q) (identity-kept n A B sound_a g t m i))

    two : (a b : List Place) → keep is_old (keep (λ (p : Place). in_b p.member) (a ++ b)) ≡ keep is_old (keep (λ (p : Place). in_b p.member) a) ++ keep is_old (keep (λ (p : Place). in_b p.member) b)
    two a b = ap (keep is_old) (keep_append (λ (p : Place). in_b p.member) a b) ∙ keep_append is_old (keep (λ (p : Place). in_b p.member) a) (keep (λ (p : Place). in_b p.member) b)

    both : (a b : List Place) → map (carry_place n) (keep (λ (p : Place). in_a p.member) (a ++ b)) ≡ map (carry_place n) (keep (λ (p : Place). in_a p.member) a) ++ map (carry_place n) (keep (λ (p : Place). in_a p.member) b)
    both a b = ap (map (carry_place n)) (keep_append (λ (p : Place). in_a p.member) a b) ∙ map-append (carry_place n) (keep (λ (p : Place). in_a p.member) a) (keep (λ (p : Place). in_a p.member) b)

    -- two lists that grew, one after the other
    joined : (a b c d : List Place) → keep is_old (keep (λ (p : Place). in_b p.member) a) ≡ map (carry_place n) (keep (λ (p : Place). in_a p.member) c) → keep is_old (keep (λ (p : Place). in_b p.member) b) ≡ map (carry_place n) (keep (λ (p : Place). in_a p.member) d)
        → keep is_old (keep (λ (p : Place). in_b p.member) (a ++ b)) ≡ map (carry_place n) (keep (λ (p : Place). in_a p.member) (c ++ d))
    joined a b c d e f = two a b ∙ ap₂ (λ x y. x ++ y) e f ∙ sym (both c d)

    members_kept : (t : TypeKey) → t.0 < size A → keep is_old (matching (graph B) q (n.ty t)) ≡ map (carry_place n) (matching (graph A) q t)
    unfolding owned
    members_kept t h =
        let d = declared-grew n A t (kind_at A t) (kind_at B (n.ty t)) (g.grew t h) in
        let f = fields-grew n A (under A t) (kind_at A (under A t)) (kind_at B (n.ty (under A t))) (g.grew (under A t) (under-in A sound_a t h)) in
        joined (places_from 0 (declared_of (kind_at B (n.ty t))) ++ field_places B (n.ty t)) (places_from 0 (all_methods B (n.ty t))) (places_from 0 (declared_of (kind_at A t)) ++ field_places A t) (places_from 0 (all_methods A t))
        (joined (places_from 0 (declared_of (kind_at B (n.ty t)))) (field_places B (n.ty t)) (places_from 0 (declared_of (kind_at A t))) (field_places A t)
        (ap (λ z. keep is_old (tested in_b 0 z)) d.2 ∙ grown-places in_a in_b 0 (declared_of (kind_at A t)) d.0 (λ m i. hit-kept t m (declared-members (kind_at A t) m i)) d.1)
        (ap (λ z. keep is_old (tested in_b 0 (fields_of (kind_at B z)))) (under-kept n A B sound_a g t h) ∙ ap (λ z. keep is_old (tested in_b 0 z)) f.2
        ∙ grown-places in_a in_b 0 (fields_of (kind_at A (under A t))) f.0 (λ m i. hit-kept (under A t) m (fields-members (kind_at A (under A t)) m i)) f.1))
        (ap (λ z. keep is_old (tested in_b 0 z)) (methods-kept n A B sound_a g t h ∙ sym (append-nil (map (carry_member n) (all_methods A t))))
        ∙ grown-places in_a in_b 0 (all_methods A t) [] (λ m i. hit-kept (under A t) m (method-in t m i)) refl)

  -- THE GRAPH GROWS WITH THE LIBRARY
  pub grows : (q : Identity) → Grows n (is_added n A) (graph A) (graph B) q
  grows q = record { steps = steps-kept; members = members_kept q }
