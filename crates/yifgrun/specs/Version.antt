-- The version of the library, and how it is told as one number. CHANGELOG.md has what each changed.
use Rattle.std.specs.Prelude.{ℕ, ◌+◌, ◌*◌}

abbrev pub major : ℕ
major = 0

abbrev pub minor : ℕ
minor = 8

abbrev pub patch : ℕ
patch = 0

-- minor and patch stay below it, so that of two versions the newer has the larger number
abbrev pub version_unit : ℕ
version_unit = 256

abbrev pub version : ℕ
version = (major * version_unit + minor) * version_unit + patch
