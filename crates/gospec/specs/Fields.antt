-- What document 02, point 3 looks at before the types of fields, in the Go specification's words: "the count, the embedded marks, the names and the tags".
use Rattle.std.specs.Prelude.{◌≡◌, List, ℕ, length}
use Rattle.objects.specs.Table.{Table, is_embedded, tag_of, Member}
use Rattle.gospec.specs.Go.{At, DifferentNames}

-- two lists of fields "that differ in any of these"
pub data FieldsDiffer (T : Table) (fs gs : List Member) : Type 0 where
  counts : (length fs ≡ length gs → ⊥) → FieldsDiffer T fs gs
  embedded-marks : {i : ℕ} (f g : Member) → At fs i f → At gs i g → (is_embedded f.entity ≡ is_embedded g.entity → ⊥) → FieldsDiffer T fs gs
  names : {i : ℕ} (f g : Member) → At fs i f → At gs i g → DifferentNames T f g → FieldsDiffer T fs gs
  tags : {i : ℕ} (f g : Member) → At fs i f → At gs i g → (tag_of f.entity ≡ tag_of g.entity → ⊥) → FieldsDiffer T fs gs
