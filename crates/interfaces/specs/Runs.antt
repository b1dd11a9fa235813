-- Full lists that are nowhere written out: the methods of all interfaces stand once, in runs, and each interface's list is read off them. A run has the methods
-- of one identity, by number; runs ascend by id.
use Rattle.std.specs.Prelude.{◌≡◌, Bool, cond, not, List, [], ◌∷◌, map, ◌⊎◌, ◌↔◌, ℕ, suc, ◌<◌, length}
use Rattle.objects.specs.Lists.{any, keep, flat, In, Sorted}
use Rattle.objects.specs.declared.TypeKey.{TypeKey}
use Rattle.objects.specs.Table.{Member}
use Rattle.rules.specs.Members.{Identity, same_id}
use Rattle.rules.specs.Sound.{Lower}
use Rattle.interfaces.specs.Interfaces.{Interfaces}
use Rattle.interfaces.specs.FullList.{Entry, first_of, choice, identity_at, of_identity, names}

-- the smaller number
abbrev pub Earlier : Entry → Entry → Type 0
Earlier x y = x.method.key.0 < y.method.key.0

-- some run has it
abbrev pub Somewhere : List (List Entry) → Entry → Type 0
Somewhere rs x = (r : List Entry) × In r rs × In x r

-- a run with a method that is reached
abbrev pub reaches_run : (reached : TypeKey → Bool) → List Entry → Bool
reaches_run reached r = any (λ x. reached x.owner) r

-- 17 in a run: of those reached, the first and another are not of identical types
unfoldable pub run_clashes : (reached : TypeKey → Bool) (same : TypeKey → TypeKey → Bool) → List Entry → Bool
run_clashes reached same r = any (λ x. any (λ y. not (same x.method.type y.method.type)) (keep (λ y. reached y.owner) r)) (first_of (keep (λ y. reached y.owner) r))

-- THE READING: one method of each run with a method that is reached
unfoldable pub read_list : (i : TypeKey) (reached : TypeKey → Bool) → List (List Entry) → List Member
read_list i reached rs = map (λ x. x.method) (flat (choice i reached) rs)

-- how many there are
unfoldable pub read_total : (reached : TypeKey → Bool) → List (List Entry) → ℕ
read_total reached rs = length (keep (reaches_run reached) rs)

module _ (I : Interfaces) where
  -- the lesser id
  abbrev pub LowerAt : Entry → Entry → Type 0
  LowerAt x y = Lower I.table x.method y.method

  -- by id, then by number
  abbrev pub Before : Entry → Entry → Type 0
  Before x y = LowerAt x y ⊎ ((identity_at I x ≡ identity_at I y) × Earlier x y)

  -- every method of every interface, in that order
  pub record Arranged (l : List Entry) : Type 0 where
    pub sorted : Sorted Before l
    pub every : (x : Entry) → In x l ↔ In x.method (I.own x.owner)

  -- THE ARRANGED METHODS: identity after identity
  unfoldable pub arranged : List Entry
  arranged = flat (of_identity I) (names I)

  -- one more before a list in runs: into the first run, if it is of the same identity
  abbrev pub joined : Entry → List (List Entry) → List (List Entry)
  joined x [] = (x ∷ []) ∷ []
  joined x ([] ∷ rs) = (x ∷ []) ∷ rs
  joined x ((y ∷ r) ∷ rs) = cond (same_id (identity_at I x) (identity_at I y)) ((x ∷ y ∷ r) ∷ rs) ((x ∷ []) ∷ (y ∷ r) ∷ rs)

  -- methods of one identity that stand next to each other make a run
  abbrev pub runs : List Entry → List (List Entry)
  runs [] = []
  runs (x ∷ l) = joined x (runs l)

  -- all ids of the one run are below those of the other
  abbrev pub RunLower : List Entry → List Entry → Type 0
  RunLower r s = (x y : Entry) → In x r → In y s → LowerAt x y

  -- an identity to a run
  abbrev pub OneEach : List (List Entry) → Type 0
  OneEach rs = (r : List Entry) (x y : Entry) → In r rs → In x r → In y r → identity_at I x ≡ identity_at I y

  -- the methods that are here, in runs
  pub record RunsOf (Here : Entry → Type 0) (rs : List (List Entry)) : Type 0 where
    pub apart : Sorted RunLower rs
    pub one : OneEach rs
    pub rising : (r : List Entry) → In r rs → Sorted Earlier r
    pub every : (x : Entry) → Somewhere rs x ↔ Here x

  -- all methods of all interfaces in runs, however these were made
  abbrev pub Runs : List (List Entry) → Type 0
  Runs rs = RunsOf (λ x. In x.method (I.own x.owner)) rs

  -- the identity changes from each run to the next
  abbrev pub Changes : List (List Entry) → Type 0
  Changes [] = Unit {0}
  Changes (r ∷ []) = Unit {0}
  Changes (r ∷ s ∷ rs) = ((x y : Entry) → In x r → In y s → identity_at I x ≡ identity_at I y → ⊥) × Changes (s ∷ rs)

  -- what is asked of marks that part arranged methods into runs
  pub record Parted (rs : List (List Entry)) : Type 0 where
    pub full : (r : List Entry) → In r rs → r ≡ [] → ⊥
    pub one : OneEach rs
    pub changes : Changes rs

  -- the place of an identity: how many runs before its own have a method that is reached
  unfoldable pub read_place : (reached : TypeKey → Bool) → Identity → List (List Entry) → ℕ
  read_place reached q [] = 0
  read_place reached q (r ∷ rs) = cond (any (λ x. same_id q (identity_at I x)) r) 0 (cond (reaches_run reached r) (suc (read_place reached q rs)) (read_place reached q rs))
