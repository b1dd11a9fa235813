-- The growth promise (demand 3) in the words of document 01: what the answers of S and N say of a library that grew, when an old question is put again,
-- "its type and package numbers carried". A way is one of the rules' `ways`, of d steps and d + 1 places, so comparing steps is comparing lengths.
use Rattle.std.specs.Prelude.{◌≡◌, Bool, true, false, cond, ◌&&◌, ◌||◌, List, [], ◌∷◌, ◌⊎◌, ℕ, ◌≤◌, ◌<◌}
use Rattle.std.proofs.Math.Option.{Option, none}
use Rattle.objects.specs.Lists.{Bytes, any, In}
use Rattle.objects.specs.declared.TypeKey.{TypeKey}
use Rattle.objects.specs.declared.PackageKey.{PackageKey}
use Rattle.objects.specs.Table.{Table, Member, bare, pointer_at, iface_under, all_methods}
use Rattle.text.specs.Bytes.{is_blank}
use Rattle.rules.specs.Members.{Identity, identity_from, identity_of}
use Rattle.rules.specs.Ways.{Way, places_of, member_of, Selected, notfound, badreceiver, entry, ambiguous, is_ambiguous, given, searched_as, ways, select}
use Rattle.rules.specs.Missing.{missing}
use Rattle.rules.specs.Question.{Question, ask_s, ask_m, ask_n, ask_i, ask_c, ask_v}
use Rattle.growth.specs.Grown.{Numbers, carry_pkg, carry_member, is_added}

-- ---- the ways of a question

module _ (T : Table) where
  module _ (q : Identity) where
    -- "`_`, or a pointer to any type with an interface under it: `notfound`": nothing is looked for, so there is no way
    abbrev pub is_shut : TypeKey → Bool
    is_shut t = is_blank q.name || (pointer_at T (searched_as T t) && iface_under T (bare T (searched_as T t)))

    -- the ways of d steps that S has for t and the name
    abbrev pub ways_of : TypeKey → ℕ → List Way
    ways_of t d = cond (is_shut t) [] (ways T q (searched_as T t) d)

    -- "the old way is the old shortest": d steps have a way, and no fewer have one
    pub record Shortest (t : TypeKey) (d : ℕ) : Type 0 where
      pub some : ways_of t d ≡ [] → ⊥
      pub none : (j : ℕ) → j < d → ways_of t j ≡ []

-- ---- new ways, and what "same" and "given" mean

module _ (n : Numbers) (A : Table) where
  -- a way is "new if it uses an added member"
  abbrev pub is_new : Way → Bool
  is_new w = any (is_added n A) ((member_of w).key ∷ w.walk.used)

-- "Same means word, flag, places and carried member"; of `ambiguous`, both lists of places
abbrev pub carry_selected : Numbers → Selected → Selected
carry_selected n notfound = notfound
carry_selected n badreceiver = badreceiver
carry_selected n (entry m flag places) = entry (carry_member n m) flag places
carry_selected n (ambiguous first second) = ambiguous first second

-- the answer shows a way of these places; "not given, that the answer has other places or none": of two ways, neither has them
abbrev pub Gives : Selected → List ℕ → Type 0
Gives s places = In places (given s)

-- ---- S

module _ (n : Numbers) (A B : Table) where
  -- new ways of d steps that the new table has, for the question about t and the name q of the new table
  abbrev pub new_way : Identity → TypeKey → ℕ → Bool
  new_way q t d = any (is_new n A) (ways_of B q (n.ty t) d)

  module _ (t : TypeKey) (a : Bool) (pkg : Option PackageKey) (name : Bytes) where
    -- "Concerned is the name asked": as it is asked in either table
    abbrev pub old_name : Identity
    old_name = identity_from A pkg name

    abbrev pub new_name : Identity
    new_name = identity_from B (carry_pkg n pkg) name

    abbrev pub old_answer : Selected
    old_answer = select A old_name t a

    abbrev pub new_answer : Selected
    new_answer = select B new_name (n.ty t) a

    -- The promise for the question `S t a pkg name`. In all of it the old way has d steps.
    pub record PromiseS : Type 0 where
      -- any answer but `notfound` has an old way
      pub found : (old_answer ≡ notfound → ⊥) → (d : ℕ) × Shortest A old_name t d
      -- no new way is as short as the old way or shorter: the answer is the same, whether `entry`, `badreceiver` or another
      pub same : (d : ℕ) → Shortest A old_name t d → ((j : ℕ) → j ≤ d → new_way new_name t j ≡ false) → new_answer ≡ carry_selected n old_answer
      -- a new way is just as long, and none is shorter: `ambiguous`
      pub tied : (d : ℕ) → Shortest A old_name t d → ((j : ℕ) → j < d → new_way new_name t j ≡ false) → new_way new_name t d ≡ true → is_ambiguous new_answer ≡ true
      -- a new way is shorter: the old way is not given
      pub overtaken : (d e : ℕ) → Shortest A old_name t d → e < d → new_way new_name t e ≡ true → (w : Way) → In w (ways_of A old_name t d) → Gives new_answer (places_of w) → ⊥
      -- `ambiguous` stays where no new way is shorter
      pub still_ambiguous : (d : ℕ) → Shortest A old_name t d → ((j : ℕ) → j < d → new_way new_name t j ≡ false) → is_ambiguous old_answer ≡ true → is_ambiguous new_answer ≡ true
      -- `notfound` stays where there is no new way
      pub still_notfound : old_answer ≡ notfound → ((j : ℕ) → new_way new_name t j ≡ false) → new_answer ≡ notfound

  -- ---- N

  -- "in N each method of i with its own package": a new way to one of these names is as short as the old way or shorter
  pub record Disturbed (t i : TypeKey) : Type 0 where
    pub method : Member
    pub concerned : In method (all_methods A i)
    pub d : ℕ
    pub shortest : Shortest A (identity_of A method) t d
    pub j : ℕ
    pub as_short : j ≤ d
    pub new : new_way (identity_of B (carry_member n method)) t j ≡ true

  -- `satisfied` stays unless a new way disturbs it
  abbrev pub PromiseN : TypeKey → TypeKey → Bool → Type 0
  PromiseN t i s = missing A t i s ≡ none → (missing B (n.ty t) (n.ty i) s ≡ none) ⊎ Disturbed t i

  -- ---- the whole

  -- what is promised for a question; for M, I, C and V nothing
  abbrev pub Promised : Question → Type 0
  Promised (ask_s t a pkg name) = PromiseS t a pkg name
  Promised (ask_m t) = Unit {0}
  Promised (ask_c t) = Unit {0}
  Promised (ask_n t i s) = PromiseN t i s
  Promised (ask_i x y) = Unit {0}
  Promised ask_v = Unit {0}
