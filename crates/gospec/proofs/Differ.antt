-- The one difference of S from the Go spec's text: a named pointer type with a second pointer behind it. "x.f is shorthand for (*x).f" makes x.f legal if *x is
-- a *T with field f; document 01 removes one pointer and finds nothing ("a second pointer behind it is not removed"). Everywhere else they agree (`text-is-go`).
use mathlib.Core.Path.{◌≡◌, refl, ap, subst}
use mathlib.Core.Bool.{Bool, true, false}
use mathlib.Core.List.{List, [], ◌∷◌}
use mathlib.Core.Logic.{◌⊎◌, inl, inr}
use mathlib.Core.Option.{Option, none}
use Prim.Native.Nat.{ℕ, ◌<◌}
use native.Mathlib.Omega.{arith}
use Rattle.objects.specs.Lists.{Bytes}
use Rattle.objects.specs.declared.TypeKey.{TypeKey}
use Rattle.objects.specs.declared.PackageKey.{PackageKey}
use Rattle.objects.specs.Table.{Table, size, type_key, obj_key, Member, Field, is_method, kind_number, is_pointer, Basic, Struct, Named, Pointer, kind_at, no_table, with_types, with_type_lines, with_member_lines}
use Rattle.objects.proofs.ListLaws.{cases, clash}
use Rattle.objects.proofs.KindLaws.{pointer_is}
use Rattle.text.specs.Bytes.{ascii, is_blank}
use Rattle.rules.specs.Members.{identity_from}
use Rattle.rules.specs.Load.{load, loaded}
use Rattle.rules.specs.Sound.{Sound}
use Rattle.rules.specs.Rows.{◌⏎◌, calling}
use Rattle.rules.specs.Ways.{Selected, notfound, entry, select}
use Rattle.rules.proofs.Sounds.{loads-sound}
use Rattle.gospec.specs.GoSelectors.{underlying, Denotes, shorthand, Several, OneStar, Text}
use Rattle.gospec.specs.Says.{Says, legal-field, legal-method, not-one, nothing, Alike}
use Rattle.gospec.proofs.Results.{inner-denotes, inner-several}
use Rattle.gospec.proofs.SelectGo.{blank-is, asked-blank, selection-is-go, go-is-selection, go-is-select, as-text, alike-one}

-- ---- with a second pointer behind it

module _ (T : Table) (sound : Sound T) (x u e : TypeKey) (in0 : x.0 < size T) (ms : List Member) (k : kind_at T x ≡ Named u ms) (l : kind_at T u ≡ Pointer e) (p : is_pointer (underlying T e) ≡ true) where
  no-reading : OneStar T e → ⊥
  no-reading r = let i = pointer_is (underlying T e) p in r i.0 i.1

  -- document 01 finds nothing, whatever the name,
  pub paper-notfound : (a : Bool) (pkg : Option PackageKey) (name : Bytes) → select T (identity_from T pkg name) x a ≡ notfound
  paper-notfound a pkg name = alike-one notfound (select T (identity_from T pkg name) x a) refl (go-is-select T sound x in0 a pkg name notfound (nothing says))
    where
      says : (name ≡ Rattle.gospec.specs.Says.blank) ⊎ (((ps : List ℕ) (m : Member) (b : Bool) → Denotes T (OneStar T) name pkg x ps m b → ⊥) × (Several T (OneStar T) name pkg x → ⊥))
      says =
          cases (is_blank name)
          (λ b. inl (blank-is name b))
          (λ b.
          let nb = asked-blank T name pkg false b in
          inr (λ qs m c d. no-reading (inner-denotes T sound (OneStar T) name pkg nb x u e ms k l d).4, λ s. no-reading (inner-several T sound (OneStar T) name pkg nb x u e ms k l s).1))

  -- and the text makes legal every field that (*x).f is legal for
  pub text-legal : (pkg : Option PackageKey) (name : Bytes) (ps : List ℕ) (m : Member) (b : Bool) → Denotes T (Text T) name pkg e ps m b → is_method m.entity ≡ false → Denotes T (Text T) name pkg x ps m true
  text-legal pkg name ps m b d f = shorthand m k l tt d f

-- ---- without one the text and document 01 agree

module _ (T : Table) (sound : Sound T) (x : TypeKey) (in0 : x.0 < size T)
    (single : (u e : TypeKey) (ms : List Member) → kind_at T x ≡ Named u ms → kind_at T u ≡ Pointer e → is_pointer (underlying T e) ≡ false) (a : Bool) (pkg : Option PackageKey) (name : Bytes) where
  pub text-is-go : Says T (Text T) name pkg x a (select T (identity_from T pkg name) x a)
  text-is-go = selection-is-go T sound (Text T) x in0 (as-text T x single) a pkg name

  pub go-is-text : (r : Selected) → Says T (Text T) name pkg x a r → Alike r (select T (identity_from T pkg name) x a)
  go-is-text = go-is-selection T sound (Text T) x in0 (as-text T x single) a pkg name

-- ---- a table in which they part

-- type T struct { X int }; type Q **T. (`calling` opens all that is computed.)
abbrev stars : Bytes
stars = "typetable 1" ⏎ "T basic 2" ⏎ "T struct" ⏎ "F X - 0 0" ⏎ "T named 1" ⏎ "T pointer 2" ⏎ "T pointer 3" ⏎ "T named 4" ⏎ []

abbrev X : Member
X = record { key = obj_key 0; name = ascii "X"; pkg = none; type = type_key 0; entity = Field false [] }

abbrev pub starred : Table
starred =
    with_types (Basic 2 ∷ Struct (X ∷ []) ∷ Named (type_key 1) [] ∷ Pointer (type_key 2) ∷ Pointer (type_key 3) ∷ Named (type_key 4) [] ∷ [])
    (with_type_lines (2 ∷ 3 ∷ 5 ∷ 6 ∷ 7 ∷ 8 ∷ [])
    (with_member_lines (4 ∷ []) no_table))

loads : load stars ≡ loaded starred
unfolding calling
loads = refl

pub starred-sound : Sound starred
starred-sound = loads-sound stars starred loads

-- *q is of type *T, of which X is a field
star-selects : select starred (identity_from starred none (ascii "X")) (type_key 3) false ≡ entry X true (0 ∷ [])
unfolding calling
star-selects = refl

says-field : {T : Table} {R : TypeKey → Type 0} {name : Bytes} {pkg : Option PackageKey} {x : TypeKey} {a b : Bool} {m : Member} {ps : List ℕ} → Says T R name pkg x a (entry m b ps) → Denotes T R name pkg x ps m b
says-field (legal-field m n d i) = d
says-field (legal-method m n d i c) = d
says-field (not-one n d e) = clash e refl

star-denotes : Denotes starred (Text starred) (ascii "X") none (type_key 3) (0 ∷ []) X true
unfolding kind_at
star-denotes =
    says-field (subst (Says starred (Text starred) (ascii "X") none (type_key 3) false) star-selects (text-is-go starred starred-sound (type_key 3) (omega arith) (λ u e ms k l. unnamed u ms k) false none (ascii "X")))
  where
    unnamed : {A : Type 0} (u : TypeKey) (ms : List Member) → kind_at starred (type_key 3) ≡ Named u ms → A
    unnamed u ms k = let z : ◌≡◌ {A = ℕ} 3 10 = ap kind_number k in absurd (omega arith)

-- so by the text q.X is legal,
pub go-legal : Denotes starred (Text starred) (ascii "X") none (type_key 5) (0 ∷ []) X true
unfolding kind_at
go-legal = shorthand X refl refl tt star-denotes refl

-- and by document 01 it is not found
pub not_found : select starred (identity_from starred none (ascii "X")) (type_key 5) false ≡ notfound
unfolding calling
not_found = refl
