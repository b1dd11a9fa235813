-- What comparing two types has shown, by the steps of the rules (`same_in`), by the marks and by the labels before and after: the contracts of the cycle of
-- calls. A pair of types is met when its parts are compared, and marked. Two interfaces whose pair comes up are joined to one class (crate pair_marks): their
-- parts are compared too, then or, where too many levels are nested, later. A pair of one class need not be met.
use Rattle.std.specs.Prelude.{◌≡◌, Bool, true, false, List, ◌⊎◌, ◌≢◌, ℕ, suc, ◌<◌, ◌≤◌, get_or}
use Rattle.objects.specs.declared.TypeKey.{TypeKey}
use Rattle.objects.specs.Table.{Table, size, type_key}
use Rattle.rules.specs.Identity.{mismatch}
use Rattle.rules.specs.StepIdentity.{same_in}
use Rattle.type_parts.specs.Parts.{pair_of}
use Rattle.typ.specs.declared.opening.Round.{Round}
use Rattle.pair_marks.specs.Pairs.{pair}
use Rattle.pair_marks.specs.Marks.{met, meet, unmet}
use Rattle.pair_marks.specs.Classes.{OneClass, Rooted, Joined}

-- marks only grow
pub record Grown (l l' : List ℕ) : Type 0 where
  pub fewer : unmet l' ≤ unmet l
  pub kept : (p : ℕ) → met l p ≡ true → met l' p ≡ true

-- The pair of x and y, which was not met, is met now, with the labels c before and c' after, or joined alone: then it is put off.
pub record Entered (l l' c c' : List ℕ) (x y : TypeKey) (r : Bool) : Type 0 where
  pub passed : r ≡ false → (l' ≡ l) × Joined c c' x y
  pub entered : r ≡ true → (l' ≡ meet l (pair x y)) × ((c' ≡ c) ⊎ Joined c c' x y)

-- The type numbered i has its own number as its label, or its pair with the type that its label names is met: then what its class says of it was looked into.
unfoldable pub Clean : List ℕ → List ℕ → ℕ → Type 0
Clean l c i = (get_or c i 0 ≡ i) ⊎ (met l (pair (type_key (get_or c i 0)) (type_key i)) ≡ true)

module _ (T : Table) where
  -- x and y agree along every chain; so they are identical
  abbrev pub Same : TypeKey → TypeKey → Type 0
  Same x y = (n : ℕ) → same_in T n x y ≡ true

  -- every pair met agrees for n steps
  unfoldable pub AllMet : ℕ → List ℕ → Type 0
  AllMet n l = (a b : TypeKey) → a.0 < size T → b.0 < size T → a.0 ≢ b.0 → met l (pair a b) ≡ true → same_in T n a b ≡ true

  -- every two types of one class do
  unfoldable pub AllOne : ℕ → List ℕ → Type 0
  AllOne n c = (a b : TypeKey) → a.0 < size T → b.0 < size T → OneClass c a b → same_in T n a b ≡ true

  -- what is taken for identical agrees for n steps
  abbrev pub Agree : ℕ → List ℕ → List ℕ → Type 0
  Agree n l c = AllMet n l × AllOne n c

  -- Labels are rooted, and whatever is taken for identical is told apart by its parts at most: it agrees for one step.
  pub record Well (l c : List ℕ) : Type 0 where
    pub rooted : Rooted (size T) c
    pub agree : Agree 1 l c

  -- every pair met since l agrees for one step more
  unfoldable pub NewMet : ℕ → List ℕ → List ℕ → Type 0
  NewMet n l l' = (a b : TypeKey) → a.0 < size T → b.0 < size T → a.0 ≢ b.0 → met l (pair a b) ≡ false → met l' (pair a b) ≡ true → same_in T (suc n) a b ≡ true

  -- classes only grow
  unfoldable pub Merged : List ℕ → List ℕ → Type 0
  Merged c c' = (a b : TypeKey) → a.0 < size T → b.0 < size T → OneClass c a b → OneClass c' a b

  -- if x and y are identical, and so is all that was taken for identical before, then so is all that is now
  unfoldable pub Leads : List ℕ → List ℕ → List ℕ → List ℕ → TypeKey → TypeKey → Type 0
  Leads l l' c c' x y = Same x y → ((n : ℕ) → Agree n l c) → (n : ℕ) → Agree n l' c'

  -- With the marks l and the labels c before, l' and c' after: if all that is taken for identical agrees for n steps, x and y do for `more n`, and so do for
  -- one step more all pairs met since.
  pub record Went (more : ℕ → ℕ) (l l' c c' : List ℕ) (x y : TypeKey) (r : Bool) : Type 0 where
    pub grown : Grown l l'
    pub merged : Merged c c'
    pub well : Well l' c'
    pub leads : Leads l l' c c' x y
    pub same_if : r ≡ true → (n : ℕ) → Agree n l' c' → (same_in T (more n) x y ≡ true) × NewMet n l l'
    pub differ-if : r ≡ false → Same x y → ⊥

  -- two types have been compared; the parts of two types have been
  abbrev pub Compared : List ℕ → List ℕ → List ℕ → List ℕ → TypeKey → TypeKey → Bool → Type 0
  Compared = Went (λ n. n)

  abbrev pub PartsCompared : List ℕ → List ℕ → List ℕ → List ℕ → TypeKey → TypeKey → Bool → Type 0
  PartsCompared = Went suc

  -- Document 02, point 3: "comparing two structs that differ in any of these marks no pair of interfaces". Types that are told apart whatever their parts are,
  -- as two structs are by the count, the embedded marks, the names and the tags of their fields, are told apart with the marks l and the labels c as they were:
  -- no pair is met, put off or joined.
  unfoldable pub AtOnce : List ℕ → List ℕ → List ℕ → List ℕ → TypeKey → TypeKey → Bool → Type 0
  AtOnce l l' c c' x y r = mismatch T (pair_of x y) ≡ true → (r ≡ false) × (l' ≡ l) × (c' ≡ c)

  -- what is known between rounds in which pairs that were put off are opened
  pub record State (l c : List ℕ) (x y : TypeKey) : Type 0 where
    pub well : Well l c
    pub same_if : (n : ℕ) → Agree n l c → (same_in T n x y ≡ true) × AllMet (suc n) l
    pub leads : Same x y → (n : ℕ) → Agree n l c

  -- types have been seen to: a pair of one class differs, and so x and y; or nothing was put off, which is C; or a pair was, and is met now
  pub record Turn (C : Type 0) (l l' c c' : List ℕ) (x y : TypeKey) (r : Round) : Type 0 where
    pub if-apart : r ≡ Round.Apart → Same x y → ⊥
    pub if-settled : r ≡ Round.Settled → (l' ≡ l) × (c' ≡ c) × C
    pub if-opened : r ≡ Round.Opened → (unmet l' < unmet l) × State l' c' x y

  -- nothing is put off
  abbrev pub AllClean : List ℕ → List ℕ → Type 0
  AllClean l c = (i : ℕ) → i < size T → Clean l c i
