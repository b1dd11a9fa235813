-- Identity of types step by step: how far two types agree along chains of corresponding parts. `identical` holds exactly if they agree at every
-- number of steps (`identical-steps`, proofs/IdentityLaws.antt); a proof about code that compares types goes by these steps.
use Rattle.std.specs.Prelude.{Bool, true, false, ◌&&◌, List, [], ◌∷◌, ℕ, zero, suc, eqb}
use Rattle.objects.specs.declared.TypeKey.{TypeKey}
use Rattle.objects.specs.Table.{Table, Kind, kind_number, members_of, kind_at}
use Rattle.rules.specs.Identity.{own_number, parts, alike}

-- R of each two at the same place, none left over
abbrev pub pairwise : (TypeKey → TypeKey → Bool) → List TypeKey → List TypeKey → Bool
pairwise R [] [] = true
pairwise R [] (y ∷ ys) = false
pairwise R (x ∷ xs) [] = false
pairwise R (x ∷ xs) (y ∷ ys) = R x y && pairwise R xs ys

module _ (T : Table) where
  -- x of kind k and y of kind l: the same kind and own number, members called alike, and R of corresponding parts
  abbrev pub step_kinds : (TypeKey → TypeKey → Bool) → TypeKey → Kind → TypeKey → Kind → Bool
  step_kinds R x k y l = eqb (kind_number k) (kind_number l) && eqb (own_number x k) (own_number y l) && alike T (members_of k) (members_of l) && pairwise R (parts k) (parts l)

  unfoldable pub same_step : (TypeKey → TypeKey → Bool) → TypeKey → TypeKey → Bool
  same_step R x y = step_kinds R x (kind_at T x) y (kind_at T y)

  -- no chain of corresponding parts of fewer than n steps reaches a mismatch
  unfoldable pub same_in : ℕ → TypeKey → TypeKey → Bool
  same_in zero x y = true
  same_in (suc n) x y = same_step (same_in n) x y
