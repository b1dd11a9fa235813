-- The paths of the packages that rows hold: what the code reads of two of them, and what 14 finds from a package on (rules' PathLaws).
use mathlib.Core.Path.{◌≡◌, sym, ◌∙◌}
use mathlib.Core.Bool.{Bool, true, false}
use mathlib.Core.List.{[]}
use Prim.Native.Nat.{ℕ, ◌+◌, ◌-◌, ◌≤◌, ◌<◌}
use native.Mathlib.Omega.{arith}
use lib.ListN.{length, get_or, take, drop}
use Rattle.objects.specs.declared.PackageKey.{PackageKey}
use Rattle.std.specs.Prelude.{Some, None}
use Rattle.objects.specs.Lists.{Bytes}
use Rattle.objects.specs.Table.{package_key}
use Rattle.objects.specs.Rows.{Words, package_count, package_word, bytes_at, path_read, table_of}
use Rattle.objects.specs.Types.{found}
use Rattle.objects.proofs.Numbers.{each_at}
use Rattle.objects.proofs.RowLaws.{package-count-read}
use Rattle.text.specs.Bytes.{below_bytes}
use Rattle.rules.proofs.PathLaws.{found_from, paths-end, paths-on, paths-stop}

module _ (text : Bytes) (rows : Words) where
  pub path-words : (p : PackageKey) {at len : ℕ} → at ≡ package_word rows p 0 → len ≡ package_word rows p 1 → {s : Bytes} → s ≡ take len (drop at text) → s ≡ path_read text rows p
  unfolding path_read bytes_at
  path-words p ea el es = rw (← ea, ← el) es

  path-at : (i : ℕ) → i < package_count rows → get_or (table_of text rows).packages i [] ≡ path_read text rows (package_key i)
  unfolding table_of
  path-at i h = each_at _ (package_count rows) i [] h

  -- from package i on: n are in the table, and the first of them has none before it
  module _ {n : ℕ} (pn : n ≡ package_count rows) (i : ℕ) where
    pub from_end : n ≤ i → found_from (table_of text rows).packages i ≡ found None
    unfolding found
    from_end l = paths-end (table_of text rows).packages i (rw (package-count-read text rows, ← pn) l)

    module _ (positive : 0 < i) (l : i < n) {b : Bool} (pb : b ≡ below_bytes (path_read text rows (package_key (i - 1))) (path_read text rows (package_key i))) where
      inside : i < package_count rows
      inside = rw pn at l

      there : i < length (table_of text rows).packages
      there = rw (package-count-read text rows) inside

      compared : below_bytes (get_or (table_of text rows).packages (i - 1) []) (get_or (table_of text rows).packages i []) ≡ b
      compared = let h = inside in rw (path-at (i - 1) (omega arith), path-at i inside) (sym pb)

      pub from_on : b ≡ true → found_from (table_of text rows).packages i ≡ found_from (table_of text rows).packages (i + 1)
      from_on e = paths-on (table_of text rows).packages i there (compared ∙ e)

      pub from-stop : b ≡ false → found_from (table_of text rows).packages i ≡ found (Some (i + 2))
      unfolding found
      from-stop e = paths-stop (table_of text rows).packages i there (compared ∙ e)
