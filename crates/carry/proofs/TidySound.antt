-- The tidied table is sound: "The output loads", as far as its table goes.
use mathlib.Core.Path.{◌≡◌, refl, sym, ap, ap₂, ◌∙◌, subst}
use mathlib.Core.Bool.{Bool, true}
use mathlib.Core.List.{List, [], ◌∷◌, map}
use mathlib.Core.Option.{Option, none, some}
use Prim.Native.Nat.{◌+◌, ◌≤◌, ◌<◌}
use native.Mathlib.Omega.{arith}
use lib.ListN.{length, length-map, length-append}
use lib.Seq.{ext_get_or}
use Rattle.objects.specs.Lists.{keep, flat, mapped, In, up_to}
use Rattle.objects.proofs.ListLaws.{cases, map-map}
use Rattle.objects.proofs.Numbers.{up_to-length, each-length, each_at}
use Rattle.objects.specs.declared.TypeKey.{TypeKey}
use Rattle.objects.specs.declared.PackageKey.{PackageKey}
use Rattle.objects.specs.Table.{Table, size, member_count, type_key, same_type, Member, Basic, members_of, has_package, kind_at}
use Rattle.rules.specs.Sound.{Sound, MemberOf}
use Rattle.rules.proofs.Lacks.{has-member}
use Rattle.edits.specs.Assembled.{assembled}
use Rattle.edits.specs.Tidy.{all_types, least, remaining, tidy_type, tidied}
use Rattle.carry.proofs.AssembledLaws.{line-package, carry-count, assembled-count, assembled-numbered, assembled-lined}
use Rattle.carry.proofs.Twins.{had}
use Rattle.carry.proofs.TidyMaps.{tidied_lines, tidied-size, tidied-at, tidy-maps}
use Rattle.carry.proofs.Covering.{Comes}
use Rattle.carry.proofs.Covered.{InOrder, covered-sound}

-- ---- counts

module _ {A B C : Type 0} (g : B → List C) (h : A → B) where
  fewer-kept : (p : A → Bool) (l : List A) → length (flat g (map h (keep p l))) ≤ length (flat g (map h l))
  fewer-kept p [] = omega arith
  fewer-kept p (x ∷ l) =
      let k = fewer-kept p l in
      let all = length-append (g (h x)) (flat g (map h l)) in
      cases (p x)
      (λ e. rw e (omega (arith, length-append (g (h x)) (flat g (map h (keep p l))))))
      (λ e. rw e (omega arith))

pub keep-few : {A : Type 0} (p : A → Bool) (l : List A) → length (keep p l) ≤ length l
keep-few p [] = omega arith
keep-few p (x ∷ l) = let k = keep-few p l in cases (p x) (λ e. rw e (omega arith)) (λ e. rw e (omega arith))

module _ (T : Table) where
  pub all_kinds : map (kind_at T) (all_types T) ≡ T.types
  unfolding kind_at
  all_kinds =
      map-map (kind_at T) type_key (up_to (size T))
      ∙ ext_get_or (Basic 0) (map (λ i. kind_at T (type_key i)) (up_to (size T))) T.types (each-length (λ i. kind_at T (type_key i)) (size T))
      (λ i l. each_at (λ i. kind_at T (type_key i)) (size T) i (Basic 0) (subst (λ n. i < n) (each-length (λ i. kind_at T (type_key i)) (size T)) l))

  carry-total : (l : List TypeKey) → length (flat members_of (map (tidied_lines T) l)) ≡ length (flat members_of (map (kind_at T) l))
  carry-total [] = refl
  carry-total (t ∷ l) =
      length-append (members_of (tidied_lines T t)) (flat members_of (map (tidied_lines T) l))
      ∙ ap₂ (λ a b. a + b) (carry-count (tidy_type T) (λ k. k) (kind_at T t)) (carry-total l)
      ∙ sym (length-append (members_of (kind_at T t)) (flat members_of (map (kind_at T) l)))

module _ (T : Table) (sound : Sound T) where
  member-total : length (flat members_of T.types) ≡ member_count T
  member-total = sym (length-map (flat members_of T.types) (λ (m : Member). m.key.0)) ∙ ap length sound.numbered ∙ up_to-length (member_count T)

  few-members : member_count (tidied T) ≤ member_count T
  unfolding tidied remaining
  few-members =
      let a = assembled-count T.packages (map (tidied_lines T) (remaining T)) ∙ carry-total T (remaining T) in
      let b = fewer-kept members_of (kind_at T) (λ t. same_type (least T t) t) (all_types T) in
      let c = ap (λ l. length (flat members_of l)) (all_kinds T) ∙ member-total in
      omega arith

  few-types : size (tidied T) ≤ size T
  unfolding remaining
  few-types =
      let a = tidied-size T in
      let b = keep-few (λ t. same_type (least T t) t) (all_types T) in
      let c = each-length type_key (size T) in
      omega arith

  -- ---- packages

  has_same : (k : Option PackageKey) → has_package (tidied T) (mapped (λ (k : PackageKey). k) k) ≡ has_package T k
  unfolding tidied assembled
  has_same none = refl
  has_same (some k) = refl

  comes : (u : TypeKey) → u.0 < size (tidied T) → Comes (tidied T) u
  comes u h =
      let d = had T sound u (rw (tidied-size T) at h) in
      record { old = T; types = tidy_type T; packages = λ k. k; sound = sound; maps = tidy-maps T sound; at = d.type; inside = d.inside; is = d.is; order = d.order }

  packaged : (u : TypeKey) (o : Member) → MemberOf (tidied T) u o → has_package (tidied T) o.pkg ≡ true
  packaged u o i =
      let c = had T sound u (rw (tidied-size T) at (has-member (tidied T) u o i)) in
      let w = tidied-at T sound c.type c.inside in
      let m = line-package (tidy_type T) (λ k. k) w.0 (kind_at T (least T c.type)) o (subst (λ k. In o (members_of k)) w.1 (subst (λ z. MemberOf (tidied T) z o) (sym c.is) i)) in
      rw (m.2, has_same m.0.pkg) (sound.packaged (least T c.type) m.0 m.1)

  in_order : InOrder (tidied T)
  unfolding tidied assembled
  in_order =
      let t = few-types in
      let m = few-members in
      let a = sound.few_types in
      let b = sound.few_members in
      record {
        paths = sound.paths;
        few_packages = sound.few_packages;
        few_types = omega arith;
        few_members = omega arith;
        numbered = assembled-numbered T.packages (map (tidied_lines T) (remaining T));
        lined = assembled-lined T.packages (map (tidied_lines T) (remaining T));
        ordered = sound.ordered;
        packaged = packaged;
      }

  -- THE TIDIED TABLE IS SOUND
  pub tidied-sound : Sound (tidied T)
  tidied-sound = covered-sound (tidied T) comes in_order
