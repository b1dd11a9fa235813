-- One step of identity by places: two types that nothing but their parts tells apart agree for one step more exactly if their parts at each place agree.
use mathlib.Core.Path.{◌≡◌, refl, sym, ap, ◌∙◌}
use mathlib.Core.Bool.{true}
use mathlib.Core.List.{[], map}
use mathlib.Core.Logic.{◌≢◌}
use Prim.Native.Nat.{ℕ, suc, ◌<◌, ◌≤◌}
use native.Mathlib.Omega.{arith}
use lib.ListN.{length, length-map}
use borrow.Author.Tests.{eq-eqb}
use Rattle.objects.specs.declared.TypeKey.{TypeKey}
use Rattle.objects.specs.Lists.{Bytes, up_to}
use Rattle.objects.specs.Table.{Kind, Basic, Array, Slice, Pointer, Map, Chan, Tuple, Func, Struct, Iface, Named, kind_number, members_of, kind_at}
use Rattle.objects.specs.Rows.{Words, type_count, members_from, table_of}
use Rattle.objects.specs.Types.{number_read, first_read, total_read}
use Rattle.objects.proofs.KeyLaws.{key-eq}
use Rattle.objects.proofs.PairLaws.{AllPairs}
use Rattle.objects.proofs.Numbers.{each-length, each-pairs, pairs-each}
use Rattle.objects.proofs.RowLaws.{size-read, kind-read, number-read, number-meant, members-meant, members-length}
use Rattle.rules.specs.Identity.{own_number, parts}
use Rattle.rules.specs.StepIdentity.{same_in}
use Rattle.rules.proofs.StepLaws.{Holds, Matched, match-common, same-split, same-join, parts-long}
use Rattle.type_parts.specs.Parts.{part_count, part_at, Peers}
use Rattle.type_parts.proofs.ReadLaws.{parts-read}

-- ---- members of a kind

pub members-none : (k : Kind) → kind_number k < 8 → members_of k ≡ []
members-none (Basic k) h = refl
members-none (Array n e) h = refl
members-none (Slice e) h = refl
members-none (Pointer e) h = refl
members-none (Map k e) h = refl
members-none (Chan d e) h = refl
members-none (Tuple es) h = refl
members-none (Func v p r) h = refl
members-none (Struct ms) h = absurd (omega arith)
members-none (Iface ms) h = absurd (omega arith)
members-none (Named u ms) h = absurd (omega arith)

-- each member is a part, but of a named type
members-parts : (k : Kind) → 8 ≤ kind_number k → kind_number k ≢ 10 → length (parts k) ≡ length (members_of k)
unfolding parts
members-parts (Basic k) h n = absurd (omega arith)
members-parts (Array n e) h m = absurd (omega arith)
members-parts (Slice e) h n = absurd (omega arith)
members-parts (Pointer e) h n = absurd (omega arith)
members-parts (Map k e) h n = absurd (omega arith)
members-parts (Chan d e) h n = absurd (omega arith)
members-parts (Tuple es) h n = absurd (omega arith)
members-parts (Func v p r) h n = absurd (omega arith)
members-parts (Struct ms) h n = length-map ms (λ m. m.type)
members-parts (Iface ms) h n = length-map ms (λ m. m.type)
members-parts (Named u ms) h n = absurd (n refl)

named-parts : (k : Kind) → kind_number k ≡ 10 → parts k ≡ []
unfolding parts
named-parts k e = rw (eq-eqb (kind_number k) 10 e)

-- "named types are identical only to themselves"
pub named-own : (x : TypeKey) (k : Kind) → kind_number k ≡ 10 → own_number x k ≡ x.0
unfolding own_number
named-own x (Basic k) e = absurd (omega arith)
named-own x (Array n t) e = absurd (omega arith)
named-own x (Slice t) e = absurd (omega arith)
named-own x (Pointer t) e = absurd (omega arith)
named-own x (Map k t) e = absurd (omega arith)
named-own x (Chan d t) e = absurd (omega arith)
named-own x (Tuple es) e = absurd (omega arith)
named-own x (Func v p r) e = absurd (omega arith)
named-own x (Struct ms) e = absurd (omega arith)
named-own x (Iface ms) e = absurd (omega arith)
named-own x (Named u ms) e = refl

module _ (text : Bytes) (rows : Words) where
  module _ (x : TypeKey) (h : x.0 < type_count rows) where
    count-parts : length (parts (kind_at (table_of text rows) x)) ≡ part_count rows x
    count-parts = ap length (parts-read text rows x h) ∙ each-length (part_at rows x) (part_count rows x)

    pub named_count : number_read rows x ≡ 10 → part_count rows x ≡ 0
    named_count e = sym count-parts ∙ ap length (named-parts (kind_at (table_of text rows) x) (number-read text rows x h ∙ e))

    pub members-read : 8 ≤ number_read rows x → members_of (kind_at (table_of text rows) x) ≡ members_from text rows (first_read rows x) (total_read rows x)
    members-read g =
        let m = members-meant text rows x (number_read rows x) g in
        rw (kind-read text rows x h) (rw (number-meant text rows x, eq-eqb (number_read rows x) (number_read rows x) refl) at m)

    pub count-members : 8 ≤ number_read rows x → number_read rows x ≢ 10 → part_count rows x ≡ total_read rows x
    count-members g n =
        let e = number-read text rows x h in
        sym count-parts ∙ members-parts (kind_at (table_of text rows) x) (rw e g) (rw e n) ∙ ap length (members-read g) ∙ members-length text rows (first_read rows x) (total_read rows x)

  module _ (x y : TypeKey) (hx : x.0 < type_count rows) (hy : y.0 < type_count rows)
      (kinds : kind_number (kind_at (table_of text rows) x) ≡ kind_number (kind_at (table_of text rows) y))
      (owns : own_number x (kind_at (table_of text rows) x) ≡ own_number y (kind_at (table_of text rows) y)) where
    pub counts : part_count rows x ≡ part_count rows y
    counts = sym (count-parts x hx) ∙ parts-long x y (kind_at (table_of text rows) x) (kind_at (table_of text rows) y) kinds owns ∙ count-parts y hy

    pub numbers : number_read rows x ≡ number_read rows y
    numbers = sym (number-read text rows x hx) ∙ kinds ∙ number-read text rows y hy

    -- a named type is kin to itself alone
    pub one-name : number_read rows x ≡ 10 → x ≡ y
    one-name e =
        key-eq x y (sym (named-own x (kind_at (table_of text rows) x) (number-read text rows x hx ∙ e)) ∙ owns ∙ named-own y (kind_at (table_of text rows) y) (sym kinds ∙ number-read text rows x hx ∙ e))

-- ---- one step

-- the i-th parts of x and y agree for n steps
abbrev pub PartSame : Bytes → Words → ℕ → TypeKey → TypeKey → ℕ → Type 0
PartSame text rows n x y i = same_in (table_of text rows) n (part_at rows x i) (part_at rows y i) ≡ true

module _ (text : Bytes) (rows : Words) (x y : TypeKey) (k : Peers (table_of text rows) x y) where
  hx : x.0 < type_count rows
  hx = let h = k.left in rw (size-read text rows) at h

  hy : y.0 < type_count rows
  hy = let h = k.right in rw (size-read text rows) at h

  common : Matched (table_of text rows) x (kind_at (table_of text rows) x) y (kind_at (table_of text rows) y)
  common = match-common (table_of text rows) x y k.alike

  same-counts : part_count rows x ≡ part_count rows y
  same-counts = counts text rows x y hx hy common.0 common.1

  -- all parts agree: x and y agree for one step more
  pub step-join : (n : ℕ) → ((i : ℕ) → i < part_count rows x → PartSame text rows n x y i) → same_in (table_of text rows) (suc n) x y ≡ true
  step-join n h = same-join (table_of text rows) n x y (record {
    kinds = common.0;
    owns = common.1;
    members = common.2;
    related = rw (parts-read text rows x hx, parts-read text rows y hy, ← same-counts) (each-pairs (Holds (same_in (table_of text rows) n)) (part_at rows x) (part_at rows y) (part_count rows x) h);
  })

  -- and back
  pub step-split : (n : ℕ) → same_in (table_of text rows) (suc n) x y ≡ true → (i : ℕ) → i < part_count rows x → PartSame text rows n x y i
  step-split n h i l =
      let a = same-split (table_of text rows) n x y h in
      let r : AllPairs (Holds (same_in (table_of text rows) n)) (map (part_at rows x) (up_to (part_count rows x))) (map (part_at rows y) (up_to (part_count rows x))) =
      rw (parts-read text rows x hx, parts-read text rows y hy, ← same-counts) at a.related in
      pairs-each (Holds (same_in (table_of text rows) n)) (part_at rows x) (part_at rows y) (part_count rows x) r i l
