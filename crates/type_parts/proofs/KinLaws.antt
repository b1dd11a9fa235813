-- Two types of one kind and one own number (`Kin`): when they are, that both are in the table, and where their parts at one place stand.
use mathlib.Core.Path.{◌≡◌, sym, ◌∙◌}
use mathlib.Core.Bool.{Bool, false}
use Prim.Native.Nat.{ℕ, ◌+◌, ◌<◌}
use native.Mathlib.Omega.{arith}
use Rattle.objects.specs.Bounds.{word_values}
use Rattle.objects.specs.declared.TypeKey.{TypeKey}
use Rattle.objects.specs.Lists.{Bytes}
use Rattle.objects.specs.Table.{Table}
use Rattle.objects.specs.Rows.{Words, type_count, table_of}
use Rattle.objects.specs.Types.{first_read}
use Rattle.objects.proofs.RowLaws.{size-read}
use Rattle.rules.specs.Identity.{mismatch}
use Rattle.rules.specs.Library.{Library}
use Rattle.rules.proofs.StepLaws.{match-common}
use Rattle.type_parts.specs.Parts.{part_count, part_at, pair_of, Kin, Peers}
use Rattle.type_parts.proofs.ReadLaws.{place-small}
use Rattle.type_parts.proofs.StepAt.{counts}
use Rattle.type_parts.proofs.Rank.{part-inside}

-- types that nothing but their parts can tell apart are kin
pub peers-kin : (T : Table) (x y : TypeKey) → Peers T x y → Kin T x y
peers-kin T x y k = let m = match-common T x y k.alike in record { left = k.left; right = k.right; kinds = m.0; owns = m.1 }

-- types of the table that are told apart by nothing at hand are peers
pub peers-of : (text : Bytes) (rows : Words) (x y : TypeKey) → x.0 < type_count rows → y.0 < type_count rows → {b : Bool}
    → b ≡ mismatch (table_of text rows) (pair_of x y) → b ≡ false → Peers (table_of text rows) x y
peers-of text rows x y hx hy e f = record { left = rw (size-read text rows) hx; right = rw (size-read text rows) hy; alike = sym e ∙ f }

module _ (text : Bytes) (rows : Words) (x y : TypeKey) (k : Kin (table_of text rows) x y) where
  pub left_in : x.0 < type_count rows
  left_in = let h = k.left in rw (size-read text rows) at h

  pub right-in : y.0 < type_count rows
  right-in = let h = k.right in rw (size-read text rows) at h

  pub right-part : (i n : ℕ) → n ≡ part_count rows x → i < n → i < part_count rows y
  right-part i n e h = omega (arith, counts text rows x y left_in right-in k.kinds k.owns)

-- ---- their parts

module _ (text : Bytes) (rows : Words) (lib : Library text rows) (x y : TypeKey) (k : Kin (table_of text rows) x y) (i n : ℕ) (e : n ≡ part_count rows x) (h : i < n) where
  pub left-place : first_read rows x + i < word_values
  left-place = place-small rows x i lib.laid (left_in text rows x y k) (omega arith)

  pub right-place : first_read rows y + i < word_values
  right-place = place-small rows y i lib.laid (right-in text rows x y k) (right-part text rows x y k i n e h)

  pub left-inside : (p : TypeKey) → p ≡ part_at rows x i → p.0 < type_count rows
  left-inside p z = rw z (part-inside text rows lib x (left_in text rows x y k) i (omega arith))

  pub right-inside : (p : TypeKey) → p ≡ part_at rows y i → p.0 < type_count rows
  right-inside p z = rw z (part-inside text rows lib y (right-in text rows x y k) i (right-part text rows x y k i n e h))
