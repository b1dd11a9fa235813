-- Which of a type's own members are methods, on a sound table: those of a named type's list and of an interface's, and no field of a struct.
use mathlib.Core.Path.{◌≡◌, refl, sym, ap, ◌∙◌, subst}
use mathlib.Core.Bool.{Bool, true, false, ◌||◌}
use mathlib.Core.List.{List, ◌++◌}
use borrow.Author.Tests.{eqb-true}
use Rattle.objects.specs.Lists.{In}
use Rattle.objects.proofs.ListLaws.{clash, either, or-true, In-append}
use Rattle.objects.proofs.KindLaws.{if-In, named-is, under-named}
use Rattle.objects.specs.declared.TypeKey.{TypeKey}
use Rattle.objects.specs.Table.{Table, Entity, Field, Method, Member, is_method, Kind, Named, kind_number, is_struct, is_iface, is_named, members_of, fields_of, declared_of, all_methods_of, kind_at, under, iface_under, all_methods}
use Rattle.rules.specs.Load.{stands}
use Rattle.rules.specs.Sound.{Sound, MemberOf}
use Rattle.rules.specs.Ways.{Place, places_from, Way, field_places, owned}
use Rattle.rules.specs.MethodSet.{method_flag}
use Rattle.ways.proofs.TableLaws.{places-from, names-neither}

stands-method : (e : Entity) (k : Kind) → stands e k ≡ true → is_struct k ≡ false → is_method e ≡ true
stands-method (Field emb tag) k h s = clash h s
stands-method (Method ptr) k h s = refl

stands-field : (e : Entity) (k : Kind) → stands e k ≡ true → is_struct k ≡ true → is_method e ≡ false
stands-field (Field emb tag) k h s = refl
stands-field (Method ptr) k h s = clash h (rw (eqb-true (kind_number k) 8 s))

module _ (T : Table) (sound : Sound T) (u : TypeKey) (m : Member) where
  -- a member of an interface's list
  pub listed-In : In m (all_methods_of (kind_at T (under T u))) → (is_iface (kind_at T (under T u)) ≡ true) × In m (members_of (kind_at T (under T u)))
  listed-In i = if-In (is_iface (kind_at T (under T u))) (members_of (kind_at T (under T u))) m i

  pub listed-method : In m (all_methods_of (kind_at T (under T u))) → is_method m.entity ≡ true
  listed-method i =
      let d = listed-In i in
      stands-method m.entity (kind_at T (under T u)) (sound.standing (under T u) m d.1) (rw (eqb-true (kind_number (kind_at T (under T u))) 9 d.0))

module _ (T : Table) (sound : Sound T) (u : TypeKey) (p : Place) where
  -- a named type's list
  pub declared-In : In p (places_from 0 (declared_of (kind_at T u))) → (is_named (kind_at T u) ≡ true) × In p.member (members_of (kind_at T u))
  declared-In i = if-In (is_named (kind_at T u)) (members_of (kind_at T u)) p.member (places-from 0 (declared_of (kind_at T u)) p i).1

  pub declared-method : In p (places_from 0 (declared_of (kind_at T u))) → is_method p.member.entity ≡ true
  declared-method i =
      let d = declared-In i in
      stands-method p.member.entity (kind_at T u) (sound.standing u p.member d.1) (rw (eqb-true (kind_number (kind_at T u)) 10 d.0))

  pub declared-flag : (w : Way) → w.walk.at ≡ u → In p (places_from 0 (declared_of (kind_at T u))) → w.walk.flag ≡ method_flag T w
  unfolding method_flag iface_under
  declared-flag w e i = let d = declared-In i in let n = named-is (kind_at T u) d.0 in go n.0 n.1 n.2 d.1
    where
      go : (v : TypeKey) (ms : List Member) → kind_at T u ≡ Named v ms → In p.member (members_of (kind_at T u)) → w.walk.flag ≡ w.walk.flag || is_iface (kind_at T (under T w.walk.at))
      go v ms k j =
          let no : is_iface (kind_at T v) ≡ false = (names-neither T sound u v ms p.member k (subst (λ x. In p.member (members_of x)) k j)).1 in
          let off : is_iface (kind_at T (under T w.walk.at)) ≡ false = ap (λ x. is_iface (kind_at T (under T x))) e ∙ ap (λ x. is_iface (kind_at T x)) (under-named T u v ms k) ∙ no in
          sym (ap (λ b. w.walk.flag || b) off ∙ keeps w.walk.flag)
        where
          keeps : (b : Bool) → b || false ≡ b
          keeps true = refl
          keeps false = refl

  -- an interface's list
  pub iface-In : In p (places_from 0 (all_methods_of (kind_at T (under T u)))) → (is_iface (kind_at T (under T u)) ≡ true) × In p.member (members_of (kind_at T (under T u)))
  iface-In i = listed-In T sound u p.member (places-from 0 (all_methods_of (kind_at T (under T u))) p i).1

  pub iface-method : In p (places_from 0 (all_methods_of (kind_at T (under T u)))) → is_method p.member.entity ≡ true
  iface-method i = listed-method T sound u p.member (places-from 0 (all_methods_of (kind_at T (under T u))) p i).1

  pub iface-flag : (w : Way) → w.walk.at ≡ u → In p (places_from 0 (all_methods_of (kind_at T (under T u)))) → true ≡ method_flag T w
  unfolding method_flag iface_under
  iface-flag w e i = sym (ap (λ b. w.walk.flag || b) (ap (λ x. is_iface (kind_at T (under T x))) e ∙ (iface-In i).0) ∙ or-true w.walk.flag)

  -- a struct's fields
  pub field-In : In p (field_places T u) → (is_struct (kind_at T (under T u)) ≡ true) × In p.member (members_of (kind_at T (under T u)))
  field-In i = if-In (is_struct (kind_at T (under T u))) (members_of (kind_at T (under T u))) p.member (places-from 0 (fields_of (kind_at T (under T u))) p i).1

  pub field-no-method : In p (field_places T u) → is_method p.member.entity ≡ false
  field-no-method i =
      let d = field-In i in
      stands-field p.member.entity (kind_at T (under T u)) (sound.standing (under T u) p.member d.1) d.0

module _ (T : Table) (sound : Sound T) where
  -- a type's own member stands under a T line: the type's, or that of the struct or interface under it
  pub owned-member : (u : TypeKey) (p : Place) → In p (owned T u) → (v : TypeKey) × MemberOf T v p.member
  unfolding owned all_methods
  owned-member u p i =
      let declared = places_from 0 (declared_of (kind_at T u)) in
      either (In-append (declared ++ field_places T u) (places_from 0 (all_methods T u)) p i)
      (λ j. either (In-append declared (field_places T u) p j) (λ d. (u, (declared-In T sound u p d).1)) (λ f. (under T u, (field-In T sound u p f).1)))
      (λ l. (under T u, (iface-In T sound u p l).1))
