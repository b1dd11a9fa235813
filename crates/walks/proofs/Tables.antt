-- S of a table, read off the kept walks, is the rules' S.
use mathlib.Core.Path.{◌≡◌, sym, ap, ◌∙◌}
use mathlib.Core.Bool.{Bool, cond, ◌&&◌}
use Prim.Native.Nat.{◌<◌}
use lib.ListN.{take}
use Rattle.objects.specs.declared.TypeKey.{TypeKey}
use Rattle.objects.specs.Table.{Table, size, bare, pointer_at, iface_under}
use Rattle.rules.specs.Members.{Identity}
use Rattle.rules.specs.Sound.{Sound}
use Rattle.rules.specs.Ways.{notfound, judged, shortest, searched}
use Rattle.ways.specs.OfTable.{graph}
use Rattle.ways.proofs.LevelTest.{shortest-are}
use Rattle.ways.proofs.TableLaws.{closed, bare-in}
use Rattle.walks.specs.Reads.{kept_ways}
use Rattle.walks.proofs.Select.{kept-two, judged-two}

module _ (T : Table) (sound : Sound T) (q : Identity) (t : TypeKey) (in0 : t.0 < size T) where
  -- the first two of the shortest ways
  pub kept-ways : take 2 (kept_ways T q t) ≡ take 2 (shortest T q t)
  kept-ways = kept-two (graph T) (closed T sound) q (bare T t) (bare-in T sound t in0) (pointer_at T t) ∙ ap (take 2) (sym (shortest-are T t q))

  -- S BY THE KEPT WALKS IS S.
  pub searched-kept : (a : Bool) → searched T q t a ≡ cond (pointer_at T t && iface_under T (bare T t)) notfound (judged a (kept_ways T q t))
  unfolding searched
  searched-kept a = sym (ap (cond (pointer_at T t && iface_under T (bare T t)) notfound) (judged-two a (kept_ways T q t) (shortest T q t) kept-ways))
