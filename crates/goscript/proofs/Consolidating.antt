-- `consolidate_multiples` merges: identical types become the first of them, marked.
use mathlib.Core.Path.{◌≡◌, refl, ◌∙◌}
use mathlib.Core.List.{List, [], ◌∷◌, ◌++◌, append-nil, append_assoc, foldl}
use Rattle.objects.proofs.ListLaws.{or-true, cases}
use Rattle.objects.specs.Table.{Table}
use Rattle.rules.specs.Sound.{Sound}
use Rattle.ways.specs.Levels.{EmbeddedType, at, twin, merge}
use Rattle.ways.specs.OfTable.{graph}
use Rattle.ways.proofs.TableLaws.{lawful}
use Rattle.ways.proofs.Extra.{add_first, add-first, merge-apart, merge-snoc}
use Rattle.goscript.specs.Consolidate.{consolidated, consolidate_multiples}
use Rattle.goscript.proofs.IdenticalIs.{identical-types}

module _ (T : Table) (sound : Sound T) where
  marks-first : (M : List EmbeddedType) (x : EmbeddedType) → consolidated T M x ≡ add_first (graph T) M x
  marks-first [] x = refl
  marks-first (r ∷ M) x =
      rw (identical-types T sound (at r) (at x))
      (cases (twin (graph T) r x) (λ e. rw (e, or-true r.multiples)) (λ e. rw (e, marks-first M x)))

  fold-merge : (A L : List EmbeddedType) → foldl (consolidated T) (merge (graph T) A) L ≡ merge (graph T) (A ++ L)
  fold-merge A [] = rw (append-nil A)
  fold-merge A (x ∷ L) =
      let law = lawful T sound in
      rw (marks-first (merge (graph T) A) x, add-first (graph T) law (merge (graph T) A) x (merge-apart (graph T) law A), ← merge-snoc (graph T) law A x)
      (fold-merge (A ++ (x ∷ [])) L ∙ rw (append_assoc A (x ∷ []) L))

  pub consolidate-is : (L : List EmbeddedType) → consolidate_multiples T L ≡ merge (graph T) L
  consolidate-is L = fold-merge [] L
