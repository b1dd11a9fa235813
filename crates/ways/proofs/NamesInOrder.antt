-- Two lists of names that ascend by id, gone through for what each name gives: it is enough that both have the names that give something.
use mathlib.Core.Path.{◌≡◌, refl, sym, ap, ◌∙◌}
use mathlib.Core.Bool.{Bool, true, false, not}
use mathlib.Core.List.{List, [], ◌∷◌}
use Rattle.objects.specs.Lists.{keep, flat, In, Sorted, empty}
use Rattle.objects.proofs.ListLaws.{clash, In-keep, keep-In-to}
use Rattle.objects.proofs.SortedLaws.{sorted-keep, sorted-same}
use Rattle.text.proofs.ByteLaws.{below_irrefl, below-trans}
use Rattle.rules.specs.Members.{Identity, id_bytes}
use Rattle.rules.proofs.MethodNames.{Lower}
use Rattle.ways.proofs.ListLaws.{flat_keep}

-- f gives something for a name, or nothing
module _ {B : Type 0} (f : Identity → List B) where
  abbrev pub gives : Identity → Bool
  gives q = not (empty (f q))

  none-given : (q : Identity) → gives q ≡ false → f q ≡ []
  none-given q h = go (f q) h
    where
      go : (l : List B) → not (empty l) ≡ false → l ≡ []
      go [] e = refl
      go (x ∷ l) e = clash refl e

  -- THE SAME IS GIVEN, if each name that gives something is in both.
  pub same-flat : (l m : List Identity) → Sorted Lower l → Sorted Lower m → ((q : Identity) → gives q ≡ true → In q m) → ((q : Identity) → gives q ≡ true → In q l) → flat f l ≡ flat f m
  same-flat l m s r h k =
      sym (flat_keep f gives l (λ q i. none-given q))
      ∙ ap (flat f) (sorted-same Lower (λ x e. clash e (below_irrefl (id_bytes x))) (λ x y z. below-trans (id_bytes x) (id_bytes y) (id_bytes z)) (keep gives l) (keep gives m) (sorted-keep Lower gives l s) (sorted-keep Lower gives m r)
      (λ q i. let g = (In-keep gives l q i).1 in keep-In-to gives m q (h q g) g)
      (λ q i. let g = (In-keep gives m q i).1 in keep-In-to gives l q (k q g) g))
      ∙ flat_keep f gives m (λ q i. none-given q)
