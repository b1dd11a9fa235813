-- Ids on the text: packages compared by their numbers, the identity that a name asks for, and the id of a member as places in the text, so that no id is ever built.
use Rattle.std.specs.Prelude.{Bool, true, false, cond, ◌∷◌, ◌++◌, ℕ, eqb}
use Rattle.objects.specs.declared.PackageKey.{PackageKey}
use Rattle.std.specs.declared.option.Option as code
use Rattle.std.specs.Prelude.{Some, None}
use Rattle.objects.specs.Lists.{Bytes}
use Rattle.objects.specs.Rows.{Words, bytes_at, package_meant, table_of}
use Rattle.rules.specs.Members.{Identity, identity_from}
use Rattle.obj.specs.declared.Id.{Id}

-- one package, or none on both sides
unfoldable pub same_package : code.Option PackageKey → code.Option PackageKey → Bool
same_package None None = true
same_package None (Some q) = false
same_package (Some p) None = false
same_package (Some p) (Some q) = eqb p.0 q.0

-- the identity of a name that stands in another text and is asked for from a package
unfoldable pub asked_id : Bytes → Words → Bytes → ℕ → ℕ → code.Option PackageKey → Identity
asked_id text rows names at len pkg = identity_from (table_of text rows) (package_meant pkg) (bytes_at names at len)

-- what an id is made of: 0 the name alone, 1 `_`, a dot and the name, any other a path, a dot and the name
unfoldable pub joined : ℕ → Bytes → Bytes → Bytes
joined form path name = cond (eqb form 0) name (cond (eqb form 1) (95 ∷ 46 ∷ name) (path ++ (46 ∷ name)))

-- the id that the places stand for
unfoldable pub id_meant : Bytes → Id → Bytes
id_meant text i = joined i.form (bytes_at text i.path i.path_len) (bytes_at text i.name i.len)
