-- The rules' walks and ways are those of the table's graph.
use mathlib.Core.Path.{◌≡◌, refl, sym, ap, ◌∙◌}
use Prim.Native.Nat.{ℕ, zero, suc}
use Rattle.objects.specs.Lists.{flat}
use Rattle.objects.proofs.ListLaws.{map-map, flat-In-ext}
use Rattle.objects.specs.declared.TypeKey.{TypeKey}
use Rattle.objects.specs.Table.{Table}
use Rattle.rules.specs.Members.{Identity}
use Rattle.rules.specs.Ways as rules
use Rattle.rules.specs.Ways.{Walk, onward, walks, ways}
use Rattle.ways.specs.Graph as over
use Rattle.ways.specs.OfTable.{graph, step_of}

module _ (T : Table) where
  pub onward-are : (w : Walk) → onward T w ≡ over.onward (graph T) w
  unfolding onward
  onward-are w = sym (map-map (over.along (graph T) w) (step_of T) (rules.embedded T w.at))

  pub walks-are : (t : TypeKey) (d : ℕ) → walks T t d ≡ over.walks (graph T) (rules.start T t) d
  unfolding walks
  walks-are t zero = refl
  walks-are t (suc d) =
      flat-In-ext (onward T) (over.onward (graph T)) (walks T t d) (λ w i. onward-are w)
      ∙ ap (flat (over.onward (graph T))) (walks-are t d)

  pub ways-are : (q : Identity) (t : TypeKey) (d : ℕ) → ways T q t d ≡ over.ways (graph T) q (rules.start T t) d
  unfolding ways
  ways-are q t d = ap (flat (over.ends (graph T) q)) (walks-are t d)
