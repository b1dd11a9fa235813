-- A key is its number.
use mathlib.Core.Path.{◌≡◌, refl, ap}
use mathlib.Core.Bool.{true}
use borrow.Author.Tests.{eqb-true, eq-eqb}
use Rattle.objects.specs.declared.TypeKey.{TypeKey}
use Rattle.objects.specs.Table.{type_key, same_type}

pub key-eq : (t u : TypeKey) → t.0 ≡ u.0 → t ≡ u
key-eq t u e = ap type_key e

pub same_key : (t u : TypeKey) → same_type t u ≡ true → t ≡ u
same_key t u e = key-eq t u (eqb-true t.0 u.0 e)

pub same_self : (t : TypeKey) → same_type t t ≡ true
same_self t = eq-eqb t.0 t.0 refl
