-- Where M departs from goscript's method set, by document 02, point 2: a field hides its name for all deeper levels, and a pointer to a named interface has an
-- empty set.
use Rattle.std.specs.Prelude.{◌≡◌, Bool, true, false, cond, not, ◌&&◌, List, [], ◌∷◌, ℕ}
use Rattle.objects.specs.Lists.{keep, flat}
use Rattle.objects.specs.declared.TypeKey.{TypeKey}
use Rattle.objects.specs.Table.{Table, Member, is_method, Pointer, Iface, Named, is_named, kind_at, bare, pointer_at, iface_under}
use Rattle.rules.specs.Members.{Identity, identity_of}
use Rattle.rules.specs.Ways.{Way, member_of, ends, shortest}
use Rattle.rules.specs.MethodSet.{callable}
use Rattle.ways.specs.MethodLevels.{Level, below}
use Rattle.gospec.specs.GoSelectors.{OneStar, Denotes}
use Rattle.gospec.specs.Says.{blank}
use Rattle.goscript.specs.MethodSets.{Selection}

-- a list of one way, which ends in a field
abbrev pub one_field : List Way → Bool
one_field [] = false
one_field (w ∷ []) = not (is_method (member_of w).entity)
one_field (w ∷ v ∷ rest) = false

module _ (T : Table) where
  -- A FIELD COVERS THE NAME: of its shortest ways there is one, and it ends in a field.
  abbrev pub covered : Identity → TypeKey → Bool
  covered q t = one_field (shortest T q t)

  -- A POINTER TO A NAMED INTERFACE
  abbrev pub to_named_interface : TypeKey → Bool
  to_named_interface t = pointer_at T t && (is_named (kind_at T (bare T t)) && iface_under T (bare T t))

  -- goscript's selections but for these two departures, in their order
  abbrev pub less_departed : TypeKey → List Selection → List Selection
  less_departed t l = cond (to_named_interface t) [] (keep (λ s. not (covered (identity_of T s.obj) t)) l)

-- ---- the two departures in the Go spec's own words

module _ (T : Table) where
  -- x.f, with the name of m and for x of type t, denotes a field
  pub record DenotesField (t : TypeKey) (m : Member) : Type 0 where
    pub field : Member
    pub places : List ℕ
    pub flag : Bool
    pub named : m.name ≡ blank → ⊥
    pub is-field : is_method field.entity ≡ false
    pub denotes : Denotes T (OneStar T) m.name m.pkg t places field flag

  -- t is a pointer to a named interface
  pub record PointsToNamedInterface (t : TypeKey) : Type 0 where
    pub name : TypeKey
    pub under : TypeKey
    pub declared : List Member
    pub methods : List Member
    pub points : kind_at T t ≡ Pointer name
    pub names : kind_at T name ≡ Named under declared
    pub is : kind_at T under ≡ Iface methods

-- ---- what lies below a field: goscript's rule level by level, as relations without a bound

module _ (T : Table) (q : Identity) where
  -- the ways to the name that a level has
  abbrev pub on_level : Level → List Way
  on_level L = flat (ends T q) L.walks

  -- goscript gives w from the level L on: levels that have the name not at all, or by one field, are passed over, until one has it by w alone, a method that may be
  -- called.
  pub data GivenFrom : Level → Way → Type 0 where
    here : {L : Level} {w : Way} → on_level L ≡ w ∷ [] → callable T w ≡ true → GivenFrom L w
    past-none : {L : Level} {w : Way} → on_level L ≡ [] → GivenFrom (below T L) w → GivenFrom L w
    past-field : {L : Level} {w : Way} → one_field (on_level L) ≡ true → GivenFrom (below T L) w → GivenFrom L w

  -- the same below a field: the first level that has the name has it by one field
  pub data BelowField : Level → Way → Type 0 where
    beneath : {L : Level} {w : Way} → one_field (on_level L) ≡ true → GivenFrom (below T L) w → BelowField L w
    deeper : {L : Level} {w : Way} → on_level L ≡ [] → BelowField (below T L) w → BelowField L w
