-- The identity of a member: what `same-id` compares, and the id that `get_id` makes of it.
use Rattle.std.specs.Prelude.{Bool, true, false, cond, ◌&&◌, ◌++◌}
use Rattle.std.proofs.Math.Option.{Option, none, some}
use Rattle.objects.specs.Lists.{Bytes}
use Rattle.text.specs.Bytes.{ascii, same_bytes, exported}
use Rattle.objects.specs.declared.PackageKey.{PackageKey}
use Rattle.objects.specs.Table.{Table, Member, path_of}

-- A name and, if it is not exported, the path of its package: none for no package.
pub record Identity : Type 0 where
  pub name : Bytes
  pub path : Option Bytes

-- the identity of a name that stands in a package, or is asked for from one
unfoldable pub identity_from : Table → Option PackageKey → Bytes → Identity
identity_from T pkg name = record { name = name; path = cond (exported name) none (path_of T pkg) }

unfoldable pub identity_of : Table → Member → Identity
identity_of T m = identity_from T m.pkg m.name

-- "equal package paths or no package on both sides"
abbrev pub same_path : Option Bytes → Option Bytes → Bool
same_path none none = true
same_path none (some q) = false
same_path (some p) none = false
same_path (some p) (some q) = same_bytes p q

-- "Identity of a member (9): equal names, and if not exported also equal package paths or no package on both sides (`same_id`)."
unfoldable pub same_id : Identity → Identity → Bool
same_id a b = same_bytes a.name b.name && same_path a.path b.path

abbrev pub same_member : Table → Member → Member → Bool
same_member T m n = same_id (identity_of T m) (identity_of T n)

-- "path (`_` if none)"
abbrev pub path_bytes : Option Bytes → Bytes
path_bytes none = ascii "_"
path_bytes (some p) = p

-- "Its id is the name if exported, otherwise path (`_` if none), a dot, name (`get_id`)."
unfoldable pub id_bytes : Identity → Bytes
id_bytes a = cond (exported a.name) a.name (path_bytes a.path ++ ascii "." ++ a.name)
