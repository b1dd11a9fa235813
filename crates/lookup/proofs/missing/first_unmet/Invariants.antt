-- `lookup::missing::first_unmet` meets its contract. The invariant: what the whole list gives, the methods from i on give.
use mathlib.Core.Path.{◌≡◌}
use Prim.Native.Nat.{◌+◌, ◌-◌}
use lib.ListN.{length}
use Rattle.objects.specs.Rows.{members_from, table_of}
use Rattle.rules.specs.Missing.{first_unmet}
use Rattle.lookup.proofs.missing.first_unmet.Given as goal

abbrev pub invariant-loop-i : goal.invariant-loop-i
invariant-loop-i l =
    (first_unmet (table_of l.text l.rows) l.t l.s (members_from l.text l.rows l.first l.n) ≡ first_unmet (table_of l.text l.rows) l.t l.s (members_from l.text l.rows (l.first + l.i) (l.n - l.i)))
    × (l.marks ≡ l.initial.marks) × (length l.walk ≡ length l.initial.walk) × (length l.places ≡ length l.initial.places)
