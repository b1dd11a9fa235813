-- The lines `sel` of a method set that is held as words.
use Rattle.std.specs.Prelude.{List, [], ◌∷◌, ◌++◌, ℕ, ◌<◌, length}
use Rattle.objects.specs.Bounds.{max_places}
use Rattle.objects.specs.Lists.{Bytes, In, flat}
use Rattle.objects.specs.Rows.{Words}
use Rattle.text.specs.Bytes.{ascii}
use Rattle.multiples.specs.Records.{Record}
use Rattle.print.specs.Written.{number_line}
use Rattle.walk_rows.specs.Records.{level_of}
use Rattle.first_hits.specs.declared.FirstHit.{FirstHit}
use Rattle.first_hits.specs.Hits.{Room, hit_row}
use Rattle.method_set.specs.Sets.{sel_at}

-- there is a first hit under key k, and its line is short enough for a row of numbers
abbrev pub Says : List Record → List FirstHit → ℕ → Type 0
Says walk hits k = Room hits k × (level_of walk (hit_row hits k) < max_places)

-- so it is with each of them
abbrev pub Short : List Record → List FirstHit → List ℕ → Type 0
Short walk hits ks = (k : ℕ) → In k ks → Says walk hits k

module _ (rows : Words) (walk : List Record) (hits : List FirstHit) where
  -- the line of one name of the set
  unfoldable pub sel_line : ℕ → Bytes
  sel_line k = number_line (ascii "sel") (sel_at rows walk hits k)

  -- the lines of several, one after the other
  unfoldable pub sel_lines : List ℕ → Bytes
  sel_lines ks = flat sel_line ks

  -- the lines of a set whose names are these
  unfoldable pub set_lines : List ℕ → Bytes
  set_lines ks = number_line (ascii "set") (length ks ∷ []) ++ sel_lines ks
