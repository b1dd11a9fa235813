-- What the Go spec says of the selector x.f and of the call x.f(), in document 01's words.
use Rattle.std.specs.Prelude.{◌≡◌, Bool, true, false, List, ◌⊎◌, ℕ}
use Rattle.std.proofs.Math.Option.{Option}
use Rattle.objects.specs.Lists.{Bytes}
use Rattle.objects.specs.declared.TypeKey.{TypeKey}
use Rattle.objects.specs.declared.PackageKey.{PackageKey}
use Rattle.objects.specs.Table.{Table, Member, is_method, is_pointer, Named, Pointer, kind_at}
use Rattle.text.specs.Bytes.{ascii}
use Rattle.rules.specs.Ways.{Selected, notfound, badreceiver, entry, is_ambiguous}
use Rattle.gospec.specs.GoSelectors.{underlying, Denotes, Several, Callable}

-- "The identifier f is called the (field or method) selector; it must not be the blank identifier."
abbrev pub blank : Bytes
blank = ascii "_"

-- x of the type given, a for addressable; R tells of which types of *x the shorthand (*x).f is read.
pub data Says (T : Table) (R : TypeKey → Type 0) (name : Bytes) (pkg : Option PackageKey) (x : TypeKey) (a : Bool) : Selected → Type 0 where
  -- x.f is legal and denotes a field
  legal-field : {ps : List ℕ} {b : Bool} (m : Member) → (name ≡ blank → ⊥) → Denotes T R name pkg x ps m b → is_method m.entity ≡ false → Says T R name pkg x a (entry m b ps)
  -- x.f is legal and denotes a method, and the call x.f() is valid
  legal-method : {ps : List ℕ} {b : Bool} (m : Member) → (name ≡ blank → ⊥) → Denotes T R name pkg x ps m b → is_method m.entity ≡ true → Callable T a x ps m
      → Says T R name pkg x a (entry m b ps)
  -- x.f denotes a method, and the call is not valid
  no_call : {ps : List ℕ} {b : Bool} (m : Member) → (name ≡ blank → ⊥) → Denotes T R name pkg x ps m b → is_method m.entity ≡ true → (Callable T a x ps m → ⊥)
      → Says T R name pkg x a badreceiver
  -- illegal: more than one f with shallowest depth. Which ways are shown is document 01's own.
  not-one : {r : Selected} → (name ≡ blank → ⊥) → Several T R name pkg x → is_ambiguous r ≡ true → Says T R name pkg x a r
  -- illegal: the blank identifier, or x.f denotes nothing, and not because there are several
  nothing : (name ≡ blank) ⊎ (((ps : List ℕ) (m : Member) (b : Bool) → Denotes T R name pkg x ps m b → ⊥) × (Several T R name pkg x → ⊥)) → Says T R name pkg x a notfound

-- one answer, but for the ways that `ambiguous` shows, of which the Go spec is silent
abbrev pub Alike : Selected → Selected → Type 0
Alike r s = (r ≡ s) ⊎ ((is_ambiguous r ≡ true) × (is_ambiguous s ≡ true))

-- A reading of (*x).f that document 01 follows for x: of *x that is no pointer it is read, and of a pointer it is not.
pub record Reading (T : Table) (R : TypeKey → Type 0) (x : TypeKey) : Type 0 where
  pub admits : (e : TypeKey) → is_pointer (underlying T e) ≡ false → R e
  pub only : (u e : TypeKey) (ms : List Member) → kind_at T x ≡ Named u ms → kind_at T u ≡ Pointer e → R e → is_pointer (underlying T e) ≡ false
