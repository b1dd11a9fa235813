-- "Tidying it again gives the same bytes", on tables.
use mathlib.Core.Path.{◌≡◌, refl, sym, ap, ap₂, ◌∙◌}
use mathlib.Core.Bool.{true}
use mathlib.Core.List.{map}
use Prim.Native.Nat.{◌<◌}
use Rattle.objects.proofs.ListLaws.{map-In}
use Rattle.objects.specs.declared.TypeKey.{TypeKey}
use Rattle.objects.specs.Table.{Table, size, kind_at}
use Rattle.rules.specs.Identity.{identical}
use Rattle.rules.specs.Sound.{Sound}
use Rattle.edits.specs.Assembled.{assembled}
use Rattle.edits.specs.Tidy.{all_types, remaining, tidy_type, tidied}
use Rattle.edits.proofs.CarriedLaws.{kind-stays}
use Rattle.carry.proofs.Identities.{identical-kept}
use Rattle.carry.proofs.Carried.{Becomes, map-likens}
use Rattle.carry.proofs.AssembledLaws.{assembled-again}
use Rattle.carry.proofs.Twins.{tidy-same, had, all-remain, tidy-own}
use Rattle.carry.proofs.TidyMaps.{tidied_lines, tidied-size, tidy-maps}
use Rattle.carry.proofs.TidySound.{all_kinds, tidied-sound}

-- where identical types are one, the lines stay
stays : (T : Table) → Sound T → ((x y : TypeKey) → x.0 < size T → y.0 < size T → identical T x y ≡ true → x ≡ y) → tidied T ≡ assembled T.packages T.types
unfolding tidied
stays T sound alone =
    ap (assembled T.packages)
    (ap (map (tidied_lines T)) (all-remain T sound alone)
    ∙ map-In (tidied_lines T) (kind_at T) (all_types T)
    (λ t i. kind-stays (tidy_type T) (kind_at T t) (λ e j. tidy-own T sound alone e (sound.refers t e j)) (λ m j. tidy-own T sound alone m.type (sound.typed t m j)))
    ∙ all_kinds T)

module _ (T : Table) (sound : Sound T) where
  -- no two types of the tidied table are identical
  pub one_each : (x y : TypeKey) → x.0 < size (tidied T) → y.0 < size (tidied T) → identical (tidied T) x y ≡ true → x ≡ y
  one_each x y hx hy e =
      let a = had T sound x (rw (tidied-size T) at hx) in
      let b = had T sound y (rw (tidied-size T) at hy) in
      let R = Becomes (tidy_type T) (λ k. k) T (tidied T) sound (tidy-maps T sound) in
      let alike = map-likens (tidy_type T) (λ k. k) T (tidied T) sound (tidy-maps T sound) in
      let kept = identical-kept R T (tidied T) alike sound (tidied-sound T sound) a.type (tidy_type T a.type) b.type (tidy_type T b.type) (a.inside, refl) (b.inside, refl) in
      let same : identical T a.type b.type ≡ true = sym kept ∙ ap₂ (identical (tidied T)) a.is b.is ∙ e in
      sym a.is ∙ tidy-same T sound a.type b.type a.inside same ∙ b.is

  -- TIDYING AGAIN CHANGES NOTHING
  pub tidied-again : tidied (tidied T) ≡ tidied T
  unfolding tidied assembled
  tidied-again = stays (tidied T) (tidied-sound T sound) one_each ∙ assembled-again T.packages (map (tidied_lines T) (remaining T))
