-- What refusals 4 to 6 demand of a table that is to be written out: each line says what its form allows, members stand where they may, nothing passes a
-- bound, and members are numbered as they come. Every sound table is of this shape (`sound-shaped`, proofs/SoundLoads.antt); one that 14 or 7 to 10 refuse may be too.
use Rattle.std.specs.Prelude.{◌≡◌, true, List, [], ◌∷◌, map, ℕ, ◌≤◌, length}
use Rattle.std.proofs.Math.Option.{Option, none, some}
use Rattle.objects.specs.Bounds.{max_reference, max_types, max_packages, max_members, max_per_type}
use Rattle.objects.specs.Lists.{In, flat, up_to}
use Rattle.objects.specs.declared.PackageKey.{PackageKey}
use Rattle.objects.specs.Table.{Table, size, Member, Kind, refs, members_of}
use Rattle.rules.specs.Forms.{Line, package_line, type_line, member_line}
use Rattle.rules.specs.Load.{stands}
use Rattle.rules.proofs.FormLaws.{Formed}
use Rattle.edits.specs.TableText.{lines_of}

-- ---- one line

-- the type and package numbers of a line
abbrev pub package_number : Option PackageKey → List ℕ
package_number none = []
package_number (some p) = p.0 ∷ []

abbrev pub numbers_of : Line → List ℕ
numbers_of (package_line path) = []
numbers_of (type_line k) = map (λ e. e.0) (refs k)
numbers_of (member_line name pkg type entity) = type.0 ∷ package_number pkg

-- a line that can be written: names, paths, tags and numbers as its form allows, and no reference of more than four digits
pub record Sayable (l : Line) : Type 0 where
  pub formed : Formed l
  pub short : (n : ℕ) → In n (numbers_of l) → n ≤ max_reference

-- ---- a table

abbrev pub all_members : Table → List Member
all_members T = flat members_of T.types

pub record Shaped (T : Table) : Type 0 where
  -- 4
  pub said : (l : Line) → In l (lines_of T) → Sayable l
  -- 5
  pub standing : (k : Kind) (m : Member) → In k T.types → In m (members_of k) → stands m.entity k ≡ true
  -- 6
  pub few_packages : length T.packages ≤ max_packages
  pub few_types : size T ≤ max_types
  pub few_members : length (all_members T) ≤ max_members
  pub few_per_type : (k : Kind) → In k T.types → length (members_of k) ≤ max_per_type
  -- "members are numbered from 0 as they come"
  pub keyed : map (λ m. m.key.0) (all_members T) ≡ up_to (length (all_members T))
