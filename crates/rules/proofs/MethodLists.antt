-- The list of methods of an interface (`all_methods`). What other proofs know of it stands here: each of its methods stands under some interface, and what
-- lines say of such a method.
use mathlib.Core.Path.{◌≡◌}
use mathlib.Core.Bool.{true, false}
use mathlib.Core.List.{[]}
use borrow.Author.Tests.{eqb-true}
use Rattle.objects.specs.Lists.{In}
use Rattle.objects.specs.declared.TypeKey.{TypeKey}
use Rattle.objects.specs.Table.{Table, Member, kind_number, is_iface, members_of, kind_at, under, iface_under, all_methods}
use Rattle.objects.proofs.KindLaws.{if-In, under-plain}
use Rattle.rules.specs.Sound.{MemberOf}

-- a method that stands under an interface
pub record Listed (T : Table) (m : Member) : Type 0 where
  pub owner : TypeKey
  pub face : is_iface (kind_at T owner) ≡ true
  pub stands : MemberOf T owner m

module _ (T : Table) where
  pub listed : (t : TypeKey) (m : Member) → In m (all_methods T t) → Listed T m
  unfolding all_methods
  listed t m i = let r = if-In (is_iface (kind_at T (under T t))) _ m i in record { owner = under T t; face = r.0; stands = r.1 }

  -- the list of no interface has nothing
  pub list-none : (t : TypeKey) → iface_under T t ≡ false → all_methods T t ≡ []
  unfolding all_methods iface_under
  list-none t e = rw e

  pub list-iface : (t : TypeKey) (m : Member) → In m (all_methods T t) → iface_under T t ≡ true
  unfolding all_methods iface_under
  list-iface t m i = (if-In (is_iface (kind_at T (under T t))) _ m i).0

  -- the list of an interface is the methods under its T line
  pub own-list : (i : TypeKey) → is_iface (kind_at T i) ≡ true → all_methods T i ≡ members_of (kind_at T i)
  unfolding all_methods
  own-list i f = rw (under-plain T i (rw (eqb-true (kind_number (kind_at T i)) 9 f)), f)

  -- names of one interface have its list
  pub list-under : (t u : TypeKey) → under T t ≡ under T u → all_methods T t ≡ all_methods T u
  unfolding all_methods
  list-under t u e = rw e

  -- it is a matter of the T lines and what stands under them
  pub list-types : (U : Table) → T.types ≡ U.types → (t : TypeKey) → all_methods T t ≡ all_methods U t
  unfolding all_methods under kind_at
  list-types U e t = rw e
