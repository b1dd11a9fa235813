-- What tells two types apart by their parts without marks: parts of two kinds or two own numbers.
use mathlib.Core.Path.{◌≡◌, sym}
use mathlib.Core.Bool.{true, false}
use Prim.Native.Nat.{ℕ, ◌<◌}
use native.Mathlib.Omega.{arith}
use Rattle.objects.specs.declared.TypeKey.{TypeKey}
use Rattle.objects.specs.Lists.{Bytes}
use Rattle.objects.specs.Rows.{Words, type_count, table_of}
use Rattle.objects.proofs.ListLaws.{clash}
use Rattle.rules.specs.Identity.{identical}
use Rattle.rules.specs.StepIdentity.{same_in}
use Rattle.rules.specs.Library.{Library}
use Rattle.rules.proofs.StepLaws.{same-split}
use Rattle.rules.proofs.Sounds.{library-sound}
use Rattle.type_parts.specs.Parts.{part_count, part_at, same_numbers, Peers}
use Rattle.type_parts.proofs.MatchLaws.{agree-numbers}
use Rattle.type_parts.proofs.StepAt.{step-split}
use Rattle.type_parts.proofs.KinLaws.{peers-kin, left-inside, right-inside}
use Rattle.typ.proofs.Top.{differed}

module _ (text : Bytes) (rows : Words) (lib : Library text rows) (x y : TypeKey) (k : Peers (table_of text rows) x y) (i n : ℕ) (e : n ≡ part_count rows x) (h : i < n) where
  -- the parts at place i are of two kinds or of two own numbers
  pub parts-differ : (p q : TypeKey) → p ≡ part_at rows x i → q ≡ part_at rows y i → same_numbers rows p q ≡ false → identical (table_of text rows) x y ≡ false
  parts-differ p q l r u =
      sym (differed (table_of text rows) x y (library-sound lib) (λ s. two (s 2)))
    where
      hp : p.0 < type_count rows
      hp = left-inside text rows lib x y (peers-kin (table_of text rows) x y k) i n e h p l

      hq : q.0 < type_count rows
      hq = right-inside text rows lib x y (peers-kin (table_of text rows) x y k) i n e h q r

      same : same_in (table_of text rows) 2 x y ≡ true → same_in (table_of text rows) 1 p q ≡ true
      same s = rw (l, r) (step-split text rows x y k 1 s i (omega arith))

      two : same_in (table_of text rows) 2 x y ≡ true → ⊥
      two s =
          let a = same-split (table_of text rows) 0 p q (same s) in
          clash (agree-numbers text rows p q hp hq a.kinds a.owns) u
