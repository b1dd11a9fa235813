-- What is known between rounds: identical types are together, and once a round changes nothing the labels are the least twins. What falls from round to round.
use mathlib.Core.Path.{◌≡◌, sym, ◌∙◌}
use mathlib.Core.Bool.{Bool, true, false}
use Prim.Native.Nat.{ℕ, ◌<◌, ◌≤◌}
use native.Mathlib.Omega.{arith}
use lib.ListN.{get_or, replicate}
use Rattle.objects.specs.Lists.{Bytes}
use Rattle.objects.specs.Rows.{Words, type_count, table_of}
use Rattle.objects.specs.Table.{Table, size}
use Rattle.objects.proofs.RowLaws.{size-read}
use Rattle.pair_marks.proofs.Zero.{get_or-zeros}
use Rattle.rules.specs.Library.{Library}
use Rattle.rules.proofs.Sounds.{library-sound}
use Rattle.twins.specs.Labels.{Classed, Coarse, slack, Renewed, Twinned}
use Rattle.twins.proofs.RoundLaws.{start-coarse, round-coarse, round-grows, settled}

-- labels that are cleared
pub cleared-coarse : (T : Table) (labels : Words) (n : ℕ) → labels ≡ replicate n 0 → Coarse T labels
cleared-coarse T labels n e = rw e (start-coarse T (replicate n 0) (λ t. get_or-zeros n t))

-- the same labels
coarse-same : (T : Table) (a b : Words) → ((t : ℕ) → t < size T → get_or a t 0 ≡ get_or b t 0) → Coarse T b → Coarse T a
coarse-same T a b e old = record {
  low = λ t h. omega (arith, e t h, old.low t h);
  kept = λ t u h k i. e t h ∙ old.kept t u h k i ∙ sym (e u k);
}

module _ (text : Bytes) (rows : Words) (lib : Library text rows) (labels fresh after : Words) (n : ℕ) (more : Bool) (e : n ≡ type_count rows) (coarse : Coarse (table_of text rows) labels)
    (classed : Classed (table_of text rows) labels fresh (type_count rows)) (renewed : Renewed labels fresh after n more) where
  abbrev T : Table
  T = table_of text rows

  sized : size T ≡ n
  sized = size-read text rows ∙ sym e

  whole : Classed T labels fresh (size T)
  whole = rw (size-read text rows) classed

  pub next-coarse : Coarse T after
  next-coarse = coarse-same T after fresh (λ t h. renewed.taken t (omega (arith, sized))) (round-coarse T labels fresh (library-sound lib) coarse whole)

  pub next-twinned : more ≡ false → Twinned text rows after
  next-twinned f t h =
      let kept : (u : ℕ) → u < size T → get_or fresh u 0 ≡ get_or labels u 0 = λ u k. renewed.stays f u (omega (arith, sized)) in
      let inside : t < size T = omega (arith, sized) in
      renewed.taken t (omega arith) ∙ kept t inside ∙ settled T labels fresh (library-sound lib) coarse whole kept t inside

  grows : (t : ℕ) → t < n → get_or labels t 0 ≤ get_or fresh t 0
  grows t h = round-grows T labels fresh coarse whole t (omega (arith, sized))

  pub next-falls : more ≡ true → slack after n < slack labels n
  next-falls f = renewed.moves f grows (λ t h. whole.low t (omega (arith, sized)))
