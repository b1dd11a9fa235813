-- S, walks and ways: those of U from a type are those of T from the type that it is like, one for one in their order.
use mathlib.Core.Path.{◌≡◌, refl, ap, ap₂}
use mathlib.Core.Bool.{◌||◌}
use mathlib.Core.List.{List, [], ◌∷◌, ◌++◌}
use Prim.Native.Nat.{ℕ, zero, suc}
use Rattle.objects.proofs.PairLaws.{AllPairs, pairs-map}
use Rattle.objects.specs.declared.TypeKey.{TypeKey}
use Rattle.objects.specs.Table.{Table, Member, is_embedded, fields_of, declared_of, all_methods, kind_at, under}
use Rattle.rules.specs.Members.{Identity, identity_of, same_id}
use Rattle.rules.specs.Ways.{Place, Walk, Way, places_from, field_places, owned, start, along, embedded, onward, walks, matching, ends, ways}
use Rattle.rules.specs.Sound.{Sound}
use Rattle.carry.specs.Maps.{CarriedMember, CarriedMembers, Likeness}
use Rattle.carry.specs.Carry.{counterpart, CarriedWalk, CarriedWay}
use Rattle.carry.proofs.Pairing.{pairs-append, pairs-keep, pairs-mapped, pairs-flat}
use Rattle.carry.proofs.Lines.{bare-kept, pointer-kept, fields-kept, methods-kept}
use Rattle.carry.proofs.Numbers.{owned-distinct, beside-pairs}

module _ (R : TypeKey → TypeKey → Type 0) (T U : Table) where
  abbrev pub CarriedPlace : Place → Place → Type 0
  CarriedPlace r s = (s.place ≡ r.place) × CarriedMember R T U r.member s.member

  pub places-carried : (n : ℕ) (ms ns : List Member) → CarriedMembers R T U ms ns → AllPairs CarriedPlace (places_from n ms) (places_from n ns)
  places-carried n [] [] c = tt
  places-carried n [] (y ∷ ns) c = absurd c
  places-carried n (x ∷ ms) [] c = absurd c
  places-carried n (x ∷ ms) (y ∷ ns) c = ((refl, c.0), places-carried (suc n) ms ns c.1)

  -- a place of the type e of T, carried to d of U, and what its member is
  pub record Beside (e d : TypeKey) (r s : Place) : Type 0 where
    pub place : s.place ≡ r.place
    pub says : CarriedMember R T U r.member s.member
    pub member : s.member ≡ counterpart T U e d r.member

  pub record Alongside (w v : Way) : Type 0 where
    pub walk : CarriedWalk T U R w.walk v.walk
    pub last : Beside w.walk.at v.walk.at w.last v.last

  pub alongside-carried : (w v : Way) → Alongside w v → CarriedWay T U R w v
  alongside-carried w v a = record { walk = a.walk; place = a.last.place; member = a.last.member }

module _ (R : TypeKey → TypeKey → Type 0) (T U : Table) (sound : Sound T) (g : Likeness R T U) where
  abbrev Follows : Walk → Walk → Type 0
  Follows = CarriedWalk T U R

  owned-carried : (t u : TypeKey) → R t u → AllPairs (CarriedPlace R T U) (owned T t) (owned U u)
  unfolding owned
  owned-carried t u r =
      pairs-append (CarriedPlace R T U) (places_from 0 (declared_of (kind_at T t)) ++ field_places T t) (places_from 0 (all_methods T t))
      (places_from 0 (declared_of (kind_at U u)) ++ field_places U u) (places_from 0 (all_methods U u))
      (pairs-append (CarriedPlace R T U) (places_from 0 (declared_of (kind_at T t))) (field_places T t) (places_from 0 (declared_of (kind_at U u))) (field_places U u)
      (places-carried R T U 0 (declared_of (kind_at T t)) (declared_of (kind_at U u)) (g.line t u r).declared)
      (places-carried R T U 0 (fields_of (kind_at T (under T t))) (fields_of (kind_at U (under U u))) (fields-kept R T U g t u r)))
      (places-carried R T U 0 (all_methods T t) (all_methods U u) (methods-kept R T U g t u r))

  -- WHAT A TYPE OWNS, place by place
  pub owned-kept : (t u : TypeKey) → R t u → AllPairs (Beside R T U t u) (owned T t) (owned U u)
  unfolding counterpart
  owned-kept t u r =
      pairs-map (λ a b. CarriedPlace R T U a b × (b.member ≡ counterpart T U t u a.member)) (Beside R T U t u) (owned T t) (owned U u)
      (λ a b i j c. record { place = c.0.0; says = c.0.1; member = c.1 })
      (beside-pairs (CarriedPlace R T U) (owned T t) (owned U u) (owned-distinct T sound t (g.old t u r)) (owned-carried t u r))

  -- ---- walks

  embedded-kept : (t u : TypeKey) → R t u → AllPairs (CarriedPlace R T U) (embedded T t) (embedded U u)
  embedded-kept t u r =
      pairs-keep (CarriedPlace R T U) (λ a. is_embedded a.member.entity) (λ b. is_embedded b.member.entity) (λ a b c. ap is_embedded c.1.entity) (field_places T t) (field_places U u)
      (places-carried R T U 0 (fields_of (kind_at T (under T t))) (fields_of (kind_at U (under U u))) (fields-kept R T U g t u r))

  start-kept : (t u : TypeKey) → R t u → Follows (start T t) (start U u)
  start-kept t u r = record { places = refl; at = bare-kept R T U g t u r; flag = pointer-kept R T U g t u r }

  along-kept : (w v : Walk) → Follows w v → (a b : Place) → CarriedPlace R T U a b → Follows (along T w a) (along U v b)
  along-kept w v c a b d = record {
    places = ap₂ (λ (l : List ℕ) (i : ℕ). l ++ (i ∷ [])) c.places d.0;
    at = bare-kept R T U g a.member.type b.member.type d.1.type;
    flag = ap₂ (λ x y. x || y) c.flag (pointer-kept R T U g a.member.type b.member.type d.1.type);
  }

  onward-kept : (w v : Walk) → Follows w v → AllPairs Follows (onward T w) (onward U v)
  unfolding onward
  onward-kept w v c = pairs-mapped (CarriedPlace R T U) Follows (along T w) (along U v) (along-kept w v c) (embedded T w.at) (embedded U v.at) (embedded-kept w.at v.at c.at)

  pub walks-kept : (t u : TypeKey) → R t u → (d : ℕ) → AllPairs Follows (walks T t d) (walks U u d)
  unfolding walks
  walks-kept t u r zero = (start-kept t u r, tt)
  walks-kept t u r (suc d) = pairs-flat Follows Follows (onward T) (onward U) onward-kept (walks T t d) (walks U u d) (walks-kept t u r d)

  -- ---- ways to a name

  module _ (q : Identity) where
    matching-kept : (t u : TypeKey) → R t u → AllPairs (Beside R T U t u) (matching T q t) (matching U q u)
    matching-kept t u r =
        pairs-keep (Beside R T U t u) (λ a. same_id (identity_of T a.member) q) (λ b. same_id (identity_of U b.member) q)
        (λ a b c. ap (λ i. same_id i q) c.says.identity) (owned T t) (owned U u) (owned-kept t u r)

    ends-kept : (w v : Walk) → Follows w v → AllPairs (Alongside R T U) (ends T q w) (ends U q v)
    ends-kept w v c =
        pairs-mapped (Beside R T U w.at v.at) (Alongside R T U) (λ a. record { walk = w; last = a }) (λ b. record { walk = v; last = b })
        (λ a b d. record { walk = c; last = d }) (matching T q w.at) (matching U q v.at)
        (matching-kept w.at v.at c.at)

    pub ways-kept : (t u : TypeKey) → R t u → (d : ℕ) → AllPairs (Alongside R T U) (ways T q t d) (ways U q u d)
    unfolding ways
    ways-kept t u r d = pairs-flat Follows (Alongside R T U) (ends T q) (ends U q) ends-kept (walks T t d) (walks U u d) (walks-kept t u r d)
