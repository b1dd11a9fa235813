-- Classes of types, by a list of labels, one for each type: types of one label are of one class.
use Rattle.std.specs.Prelude.{◌≡◌, cond, List, map, ◌⊎◌, ℕ, ◌<◌, ◌≤◌, eqb, length, get_or}
use Rattle.objects.specs.declared.TypeKey.{TypeKey}

-- types of one class
unfoldable pub OneClass : List ℕ → TypeKey → TypeKey → Type 0
OneClass l x y = get_or l x.0 0 ≡ get_or l y.0 0

-- there is a label for each of n types, and it is the number of a type of its class
pub record Rooted (n : ℕ) (l : List ℕ) : Type 0 where
  pub long : n ≤ length l
  pub small : (i : ℕ) → i < n → get_or l i 0 < n
  pub own : (i : ℕ) → i < n → get_or l (get_or l i 0) 0 ≡ get_or l i 0

-- every type is a class of its own: its label is its number
abbrev pub Single : List ℕ → Type 0
Single l = (i : ℕ) → i < length l → get_or l i 0 ≡ i

-- every label `old` becomes `new`
unfoldable pub new_label : ℕ → ℕ → ℕ → ℕ
new_label new old c = cond (eqb c old) new c

unfoldable pub relabelled : ℕ → ℕ → List ℕ → List ℕ
relabelled new old l = map (new_label new old) l

-- the classes of x and y have become one, and no others
pub record Joined (l l' : List ℕ) (x y : TypeKey) : Type 0 where
  pub rooted : (n : ℕ) → x.0 < n → y.0 < n → Rooted n l → Rooted n l'
  pub one : OneClass l' x y
  pub kept : (a b : TypeKey) → a.0 < length l → b.0 < length l → OneClass l a b → OneClass l' a b
  pub only : (a b : TypeKey) → a.0 < length l → b.0 < length l → OneClass l' a b → OneClass l a b ⊎ ((OneClass l a x × OneClass l y b) ⊎ (OneClass l a y × OneClass l x b))
