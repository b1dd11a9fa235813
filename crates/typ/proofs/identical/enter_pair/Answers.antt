use mathlib.Core.Path.{refl, ap, ◌∙◌}
use mathlib.Core.Logic.{inl, inr}
use native.Mathlib.Omega.{arith}
use Rattle.objects.proofs.ListLaws.{clash}
use Rattle.pair_marks.specs.Marks.{meet}
use Rattle.typ.proofs.identical.enter_pair.Goals as goal
use Rattle.typ.proofs.identical.enter_pair.Goals.{then-k-eq-IFACE+else-level-ge-DEEP, else-k-eq-IFACE}

pub returns-then-level-ge-DEEP : goal.returns-then-level-ge-DEEP
returns-then-level-ge-DEEP c =
    record { entered = record { passed = λ _. (refl, c.join.ensures); entered = λ q. clash q refl }; level_lt_open_levels = λ q. clash q refl }

pub set_met-requires : goal.set_met-requires
set_met-requires c =
    rw c.pair_number.ensures (c.requires.x_lt_max_types.2, c.requires.x_lt_max_types.3)

pub shape_of-labels : goal.shape_of-labels
shape_of-labels c = c.if-k-eq-IFACE.auto.labels

pub returns : goal.returns
returns c =
    let marked = c.set_met.ensures ∙ ap (meet _) c.pair_number.ensures in
    record {
      entered = record {
        passed = λ q. clash refl q;
        entered = λ _. (marked, elim c.if-k-eq-IFACE.branch [ then-k-eq-IFACE+else-level-ge-DEEP w ↦ inr (rw w.labels-is w.join.ensures) | else-k-eq-IFACE w ↦ inl w.labels-is ]);
      };
      level_lt_open_levels = λ _ e. elim c.if-k-eq-IFACE.branch [ then-k-eq-IFACE+else-level-ge-DEEP w ↦ omega (arith, w.if-level-ge-DEEP.false) | else-k-eq-IFACE w ↦ absurd (w.if-k-eq-IFACE.false e) ];
    }
