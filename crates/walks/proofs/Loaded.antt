-- The kept walks of every table that loads, from every type of it: no type has three, and S and M are read off them.
use mathlib.Core.Path.{◌≡◌}
use mathlib.Core.Bool.{Bool, cond, ◌&&◌}
use mathlib.Core.List.{map}
use Prim.Native.Nat.{◌*◌, ◌≤◌, ◌<◌}
use lib.ListN.{length}
use Rattle.objects.specs.Lists.{Bytes}
use Rattle.objects.specs.declared.TypeKey.{TypeKey}
use Rattle.objects.specs.Table.{Table, size, bare, pointer_at, iface_under}
use Rattle.rules.specs.Members.{Identity}
use Rattle.rules.specs.Load.{load, loaded}
use Rattle.rules.specs.Ways.{notfound, judged, searched}
use Rattle.rules.specs.MethodSet.{method_set}
use Rattle.rules.proofs.Sounds.{loads-sound}
use Rattle.ways.specs.OfTable.{graph}
use Rattle.ways.proofs.TableLaws.{closed, bare-in}
use Rattle.walks.specs.Kept.{count}
use Rattle.walks.specs.Rows.{kept_rows}
use Rattle.walks.specs.Reads.{kept_ways, set_kept}
use Rattle.walks.proofs.Tables as tables
use Rattle.walks.proofs.Names as names
use Rattle.walks.proofs.Few as few

module _ (text : Bytes) (T : Table) (h : load text ≡ loaded T) (t : TypeKey) (in0 : t.0 < size T) where
  -- at most two rows for each type
  pub two-each : (u : TypeKey) → count u (map (λ r. r.type) (kept_rows (graph T) (bare T t) (pointer_at T t))) ≤ 2
  two-each = few.two-each (graph T) (bare T t) (pointer_at T t) (size T)

  -- so at most twice as many rows as types
  pub rows_few : length (kept_rows (graph T) (bare T t) (pointer_at T t)) ≤ 2 * size T
  rows_few = few.rows_few (graph T) (bare T t) (pointer_at T t) (size T) (closed T (loads-sound text T h)) (bare-in T (loads-sound text T h) t in0)

  -- S, for every name and package
  pub searched-kept : (q : Identity) (a : Bool) → searched T q t a ≡ cond (pointer_at T t && iface_under T (bare T t)) notfound (judged a (kept_ways T q t))
  searched-kept q = tables.searched-kept T (loads-sound text T h) q t in0

  -- M
  pub set-kept : set_kept T t ≡ method_set T t
  set-kept = names.set-kept T (loads-sound text T h) t in0
