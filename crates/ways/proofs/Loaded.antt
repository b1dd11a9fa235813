-- What is proved of ways, for every table that loads.
use mathlib.Core.Path.{◌≡◌}
use mathlib.Core.Bool.{false}
use mathlib.Core.List.{[]}
use mathlib.Core.Logic.{◌↔◌}
use Prim.Native.Nat.{ℕ, suc, ◌≤◌, ◌<◌}
use Rattle.objects.specs.Lists.{Bytes, In, Sorted}
use Rattle.objects.specs.declared.TypeKey.{TypeKey}
use Rattle.objects.specs.Table.{Table, size}
use Rattle.text.specs.Bytes.{is_blank}
use Rattle.rules.specs.Members.{Identity}
use Rattle.rules.specs.Load.{load, loaded}
use Rattle.rules.specs.Ways.{Way, ways}
use Rattle.rules.proofs.Sounds.{loads-sound}
use Rattle.ways.specs.IsWay.{IsWay}
use Rattle.ways.proofs.AllWays as all
use Rattle.ways.proofs.TableLaws.{closed, bare-in, Earlier}
use Rattle.ways.proofs.TableLaws as laws

module _ (text : Bytes) (T : Table) (h : load text ≡ loaded T) (q : Identity) (t : TypeKey) where
  -- "No way": none of as many places as there are types, or fewer, means none of any length
  pub no_way : t.0 < size T → ((d : ℕ) → suc d ≤ size T → ways T q t d ≡ []) → (d : ℕ) → ways T q t d ≡ []
  no_way l = all.no_way T (closed T (loads-sound text T h)) q t (bare-in T (loads-sound text T h) t l)

  -- every way is listed, and every listed one is a way
  pub ways-listed : (d : ℕ) (w : Way) → In w (ways T q t d) ↔ IsWay T q t d w
  ways-listed = all.ways-listed T t q

  -- in the order of their places
  pub ways-sorted : is_blank q.name ≡ false → (d : ℕ) → Sorted Earlier (ways T q t d)
  ways-sorted nb d = laws.ways-sorted T (loads-sound text T h) q nb t d
