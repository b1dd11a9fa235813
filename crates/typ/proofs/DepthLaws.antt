-- Why the cycle of calls of `identical` nests no deeper than `deepest` (specs/Depth.antt): what may be compared at a level, and what of it a level below.
use mathlib.Core.Path.{◌≡◌, refl, sym, ◌∙◌}
use mathlib.Core.Logic.{inl, inr, ◌≢◌}
use Prim.Native.Nat.{ℕ, ◌+◌, ◌<◌, ◌≤◌}
use native.Mathlib.Omega.{arith}
use Rattle.objects.specs.declared.TypeKey.{TypeKey}
use Rattle.objects.specs.Lists.{Bytes}
use Rattle.objects.specs.Table.{kind_at}
use Rattle.objects.specs.Rows.{Words, type_count, table_of}
use Rattle.objects.specs.Types.{number_read}
use Rattle.objects.proofs.ListLaws.{either}
use Rattle.objects.proofs.RowLaws.{number-read}
use Rattle.rules.specs.Library.{Library}
use Rattle.type_parts.specs.Parts.{part_count, part_at, Kin}
use Rattle.type_parts.proofs.StepAt.{named-own}
use Rattle.type_parts.proofs.Rank.{part-inside, down}
use Rattle.type_parts.proofs.KinLaws.{left_in, right-in, right-part}
use Rattle.typ.specs.Depth.{open_levels, deepest, Fits, Within, PartsWithin}

module _ (text : Bytes) (rows : Words) (lib : Library text rows) where
  -- above the levels where pairs are put off every type has room
  module _ (level : ℕ) (h : level ≤ open_levels) where
    fits : (x : TypeKey) → x.0 < type_count rows → Fits rows x level
    unfolding Fits
    fits x hx = inl (omega (arith, lib.laid.types))

    pub within : (x y : TypeKey) → x.0 < type_count rows → y.0 < type_count rows → (level < deepest) × Within rows x y level
    within x y hx hy = (omega arith, (fits x hx, fits y hy))

    pub parts-within : (x y : TypeKey) → Kin (table_of text rows) x y → (level < deepest) × PartsWithin rows x y level
    unfolding PartsWithin
    parts-within x y k = (
      omega arith,
      λ i hi. (within (part_at rows x i) (part_at rows y i)
          (part-inside text rows lib x (left_in text rows x y k) i hi)
          (part-inside text rows lib y (right-in text rows x y k) i (right-part text rows x y k i (part_count rows x) refl hi))).1,
    )

  -- a type that is neither an interface nor named has as many levels below it as its number says, and its parts one less, or they have none
  fits-only : (x : TypeKey) (level : ℕ) → Fits rows x level → number_read rows x ≢ 9 → number_read rows x ≢ 10 → level + x.0 < deepest
  unfolding Fits
  fits-only x level f n m = either f (λ h. h) (λ e. either e (λ q. absurd (m q)) (λ q. absurd (n q)))

  fits-part : (x : TypeKey) → x.0 < type_count rows → number_read rows x ≢ 9 → (level : ℕ) → level + x.0 < deepest → (i : ℕ) → i < part_count rows x → Fits rows (part_at rows x i) (level + 1)
  unfolding Fits
  fits-part x hx n level h i hi = either (down text rows lib x hx i hi n) (λ l. inl (omega arith)) (λ e. inr e)

  -- two types that are not one, and no interfaces: the greater number is not 0, so that there is a level left
  pub next-within : (x y : TypeKey) (k : Kin (table_of text rows) x y) → x.0 ≢ y.0 → number_read rows x ≢ 9 → (level : ℕ) → Within rows x y level → (level + 1 < deepest) × PartsWithin rows x y (level + 1)
  unfolding PartsWithin
  next-within x y k apart n level w = (omega (arith, left, right), λ i hi. (fits-part x hx n level left i hi, fits-part y hy n' level right i (right-part text rows x y k i (part_count rows x) refl hi)))
    where
      hx : x.0 < type_count rows
      hx = left_in text rows x y k

      hy : y.0 < type_count rows
      hy = right-in text rows x y k

      kinds : number_read rows x ≡ number_read rows y
      kinds = sym (number-read text rows x hx) ∙ k.kinds ∙ number-read text rows y hy

      n' : number_read rows y ≢ 9
      n' e = n (kinds ∙ e)

      unnamed : number_read rows x ≢ 10
      unnamed e = apart (
          sym (named-own x (kind_at (table_of text rows) x) (number-read text rows x hx ∙ e))
          ∙ k.owns
          ∙ named-own y (kind_at (table_of text rows) y) (number-read text rows y hy ∙ sym kinds ∙ e))

      left : level + x.0 < deepest
      left = fits-only x level w.0 n unnamed

      right : level + y.0 < deepest
      right = fits-only y level w.1 n' (λ e. unnamed (kinds ∙ e))

pub part-within : (rows : Words) (x y : TypeKey) (level : ℕ) → PartsWithin rows x y level → (i n : ℕ) → n ≡ part_count rows x → i < n → (p q : TypeKey) → p ≡ part_at rows x i → q ≡ part_at rows y i → Within rows p q level
unfolding PartsWithin
part-within rows x y level w i n e h p q f g = rw (f, g) (w i (omega arith))
