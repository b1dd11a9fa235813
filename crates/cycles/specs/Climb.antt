-- The scratch words of src/climb.rt: three for each type.
use Rattle.std.specs.Prelude.{ℕ, ◌*◌}
use Rattle.objects.specs.Bounds.{max_types}

abbrev pub climb_words : ℕ
climb_words = 3 * max_types
