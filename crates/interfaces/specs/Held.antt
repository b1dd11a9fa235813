-- What loading leaves of the full lists: the runs of all interface methods, and for each interface the set of those that it reaches.
use Rattle.std.specs.Prelude.{◌≡◌, Bool, true, List}
use Rattle.objects.specs.declared.TypeKey.{TypeKey}
use Rattle.interfaces.specs.Interfaces.{Interfaces, Tells}
use Rattle.interfaces.specs.FullList.{Entry}
use Rattle.interfaces.specs.Runs.{Runs}

pub record ListsHeld (I : Interfaces) (sets : TypeKey → TypeKey → Bool) (rs : List (List Entry)) : Type 0 where
  pub runs : Runs I rs
  pub reach : (i : TypeKey) → I.iface i ≡ true → Tells I i (sets i)
