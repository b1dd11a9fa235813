-- A type's own members off its row: the list under its T line, and the three lists that `owned` of the rules goes through.
use mathlib.Core.Path.{◌≡◌, refl, sym, ap, ◌∙◌}
use mathlib.Core.Bool.{Bool, true, false}
use mathlib.Core.List.{List, [], ◌∷◌, ◌++◌}
use mathlib.Core.Option.{Option, none, some}
use Prim.Native.Nat.{ℕ, ◌+◌, ◌<◌, ◌≤◌}
use native.Mathlib.Omega.{arith}
use lib.Dec.{eqb}
use borrow.Author.Tests.{lt-ltb, le-ltb, eq-eqb, ne_eqb, eqb-true}
use Rattle.objects.specs.declared.TypeKey.{TypeKey}
use Rattle.objects.specs.Bounds.{max_elements}
use Rattle.objects.specs.Lists.{Bytes, keep, head_or}
use Rattle.objects.specs.Table.{Table, obj_key, kind_number, is_named, refs, members_of, declared_of, all_methods, has_package, kind_at, under}
use Rattle.objects.specs.Rows.{Words, type_count, type_word, member_count_of, element_count, member_at, members_from, table_of}
use Rattle.objects.specs.Types.{number_of, number_read, named_read, under_read, first_read, total_read}
use Rattle.objects.specs.Laid.{end_of}
use Rattle.objects.proofs.ListLaws.{cases, keep_append}
use Rattle.objects.proofs.KindLaws.{named-ref}
use Rattle.objects.proofs.RowLaws.{members-have, members-meant, number-meant, kind-read, number-read, size-read, under-read}
use Rattle.rules.specs.Members.{Identity, identity_of, same_id}
use Rattle.rules.specs.Library.{Library}
use Rattle.rules.specs.Ways.{Place, places_from, field_places, owned, matching}
use Rattle.rules.proofs.Sounds.{library-sound}
use Rattle.selection.specs.declared.Name.{Name}
use Rattle.std.specs.declared.option.Option as code
use Rattle.std.specs.Prelude.{Some, None}
use Rattle.std.specs.Option.{is_some}
use Rattle.selection.specs.declared.Own.{Own}
use Rattle.selection.specs.Results.{first, name_meant, own_meant}
use Rattle.selection.specs.Finds.{first_from, or_else, first_plain, place_at}

-- ---- the three lists of the rules

first-append : (l m : List Place) → first (l ++ m) ≡ or_else (first l) (first m)
unfolding or_else
first-append [] m = refl
first-append (p ∷ l) m = refl

or-else-assoc : (a b c : Option Place) → or_else (or_else a b) c ≡ or_else a (or_else b c)
unfolding or_else
or-else-assoc none b c = refl
or-else-assoc (some p) b c = refl

or_else_none : (a : Option Place) → or_else a none ≡ a
unfolding or_else
or_else_none none = refl
or_else_none (some p) = refl

-- declared methods come before the fields of the struct and the methods of the interface
pub first-owned : (T : Table) (q : Identity) (t : TypeKey) → first (matching T q t) ≡ or_else (first_from T q 0 (declared_of (kind_at T t))) (first_plain T q (under T t))
unfolding first_from first_plain owned all_methods
first-owned T q t =
    ap first (keep_append hit (declared ++ field_places T t) methods ∙ ap (λ l. l ++ keep hit methods) (keep_append hit declared (field_places T t)))
    ∙ first-append (keep hit declared ++ keep hit (field_places T t)) (keep hit methods)
    ∙ ap (λ o. or_else o (first (keep hit methods))) (first-append (keep hit declared) (keep hit (field_places T t)))
    ∙ or-else-assoc (first (keep hit declared)) (first (keep hit (field_places T t))) (first (keep hit methods))
  where
    hit : Place → Bool
    hit p = same_id (identity_of T p.member) q

    declared : List Place
    declared = places_from 0 (declared_of (kind_at T t))

    methods : List Place
    methods = places_from 0 (all_methods T t)

-- ---- the list under a T line

module _ (text : Bytes) (rows : Words) (t : TypeKey) where
  pub members-row : t.0 < type_count rows → 8 ≤ number_read rows t → members_of (kind_at (table_of text rows) t) ≡ members_from text rows (first_read rows t) (total_read rows t)
  members-row h g =
      let m = members-meant text rows t (number_read rows t) g in
      rw (kind-read text rows t h) (rw (number-meant text rows t, eq-eqb (number_read rows t) (number_read rows t) refl) at m)

  module _ (lib : Library text rows) (h : t.0 < type_count rows) {from count : ℕ} (pf : from ≡ first_read rows t) (pc : count ≡ total_read rows t) where
    -- no member or element is numbered higher than there are elements at most
    pub list-fits : from + count ≤ max_elements
    unfolding first_read total_read end_of
    list-fits =
        let w = lib.laid.within t h in
        let a = lib.laid.elements in
        let b = lib.laid.members in
        cases (eqb (type_word rows t 0) 6)
        (λ e. let v : type_word rows t 4 + type_word rows t 5 ≤ element_count rows = rw e at w in omega arith)
        (λ e. let v : type_word rows t 4 + type_word rows t 5 ≤ member_count_of rows = rw e at w in omega arith)

    -- they are members, not elements of a tuple
    pub list-within : 8 ≤ number_read rows t → from + count ≤ member_count_of rows
    unfolding first_read total_read end_of number_read number_of
    list-within g =
        let w = lib.laid.within t h in
        cases (eqb (type_word rows t 0) 6)
        (λ e. let k : 8 ≤ number_of 6 = rw (eqb-true (type_word rows t 0) 6 e) at g in absurd (omega arith))
        (λ e. let v : type_word rows t 4 + type_word rows t 5 ≤ member_count_of rows = rw e at w in omega arith)

    pub list-packaged : 8 ≤ number_read rows t → (i : ℕ) → i < count → has_package (table_of text rows) (member_at text rows (obj_key (from + i))).pkg ≡ true
    list-packaged g i l =
        let k : i < total_read rows t = rw pc at l in
        rw pf ((library-sound lib).packaged t (member_at text rows (obj_key (first_read rows t + i)))
        (rw (members-row h g) (members-have text rows (first_read rows t) (total_read rows t) i k)))

  module _ (names : Bytes) (q : Name) (h : t.0 < type_count rows) (g : 8 ≤ number_read rows t) {from count : ℕ} (pf : from ≡ first_read rows t) (pc : count ≡ total_read rows t) (i : ℕ)
      (p : place_at text rows from count i ≡ first_from (table_of text rows) (name_meant text rows names q) 0 (members_from text rows from count)) where
    list-is : first_from (table_of text rows) (name_meant text rows names q) 0 (members_from text rows from count)
        ≡ first_from (table_of text rows) (name_meant text rows names q) 0 (members_of (kind_at (table_of text rows) t))
    list-is = rw (pf, pc, members-row h g)

    pub listed_found : i < count → own_meant text rows (Some (record { place = i; member = obj_key (from + i) })) ≡ first_from (table_of text rows) (name_meant text rows names q) 0 (members_of (kind_at (table_of text rows) t))
    unfolding own_meant place_at
    listed_found l = (rw (lt-ltb i count l) at p) ∙ list-is

    pub listed-nothing : count ≤ i → own_meant text rows None ≡ first_from (table_of text rows) (name_meant text rows names q) 0 (members_of (kind_at (table_of text rows) t))
    unfolding own_meant place_at
    listed-nothing l = (rw (le-ltb i count l) at p) ∙ list-is

-- ---- a struct, an interface, another kind

module _ (text : Bytes) (rows : Words) (q : Identity) (u : TypeKey) (h : u.0 < type_count rows) {k : ℕ} (pk : k ≡ number_read rows u) where
  number : kind_number (kind_at (table_of text rows) u) ≡ k
  number = number-read text rows u h ∙ sym pk

  pub plain-struct : k ≡ 8 → first_from (table_of text rows) q 0 (members_of (kind_at (table_of text rows) u)) ≡ first_plain (table_of text rows) q u
  unfolding first_plain first_from
  plain-struct e = rw (number ∙ e) (sym (or_else_none (first_from (table_of text rows) q 0 (members_of (kind_at (table_of text rows) u)))))

  pub plain-iface : k ≡ 9 → first_from (table_of text rows) q 0 (members_of (kind_at (table_of text rows) u)) ≡ first_plain (table_of text rows) q u
  unfolding first_plain first_from or_else
  plain-iface e = rw (number ∙ e)

  pub plain_other : (k ≡ 8 → ⊥) → (k ≡ 9 → ⊥) → own_meant text rows None ≡ first_plain (table_of text rows) q u
  unfolding first_plain first_from or_else own_meant
  plain_other n m = rw (number, ne_eqb k 8 n, ne_eqb k 9 m)

-- ---- a type

pub named-lists : (rows : Words) (t : TypeKey) {b : Bool} → b ≡ named_read rows t → b ≡ true → 8 ≤ number_read rows t
unfolding named_read
named-lists rows t p e = let z = eqb-true (number_read rows t) 10 (sym p ∙ e) in omega arith

module _ (text : Bytes) (rows : Words) where
  pub under-in : Library text rows → (t : TypeKey) → t.0 < type_count rows → {u : TypeKey} → u ≡ under_read rows t → u.0 < type_count rows
  unfolding under
  under-in lib t h {u = u} e =
      cases (is_named (kind_at (table_of text rows) t))
      (λ n. let l = (library-sound lib).refers t (head_or t (refs (kind_at (table_of text rows) t))) (named-ref t (kind_at (table_of text rows) t) n) in
      let z : under (table_of text rows) t ≡ head_or t (refs (kind_at (table_of text rows) t)) = rw n in
      let v : u ≡ head_or t (refs (kind_at (table_of text rows) t)) = e ∙ sym (under-read text rows t h) ∙ z in
      let s = size-read text rows in
      rw v (rw s at l))
      (λ n. let z : under (table_of text rows) t ≡ t = rw n in
      let v : u ≡ t = e ∙ sym (under-read text rows t h) ∙ z in
      rw v h)

  -- a member that is there comes before others
  meant-some : (r : code.Option Own) → is_some r ≡ true → (p : Option Place) → or_else (own_meant text rows r) p ≡ own_meant text rows r
  unfolding own_meant or_else
  meant-some (Some o) e p = refl
  meant-some None e p = cc

  meant-none : (r : code.Option Own) → is_some r ≡ false → (p : Option Place) → or_else (own_meant text rows r) p ≡ p
  unfolding own_meant or_else
  meant-none (Some o) e p = cc
  meant-none None e p = refl

  module _ (q : Identity) (t : TypeKey) (h : t.0 < type_count rows) {b : Bool} (pb : b ≡ named_read rows t) where
    named : is_named (kind_at (table_of text rows) t) ≡ b
    unfolding named_read
    named = ap (λ n. eqb n 10) (number-read text rows t h) ∙ sym pb

    module _ (e : b ≡ true) (r : code.Option Own) (p : own_meant text rows r ≡ first_from (table_of text rows) q 0 (members_of (kind_at (table_of text rows) t))) where
      declared-first : first (matching (table_of text rows) q t) ≡ or_else (own_meant text rows r) (first_plain (table_of text rows) q (under (table_of text rows) t))
      declared-first = first-owned (table_of text rows) q t ∙ ap (λ o. or_else o (first_plain (table_of text rows) q (under (table_of text rows) t))) (rw (named ∙ e) (sym p))

      pub own-declared : is_some r ≡ true → own_meant text rows r ≡ first (matching (table_of text rows) q t)
      own-declared f = sym (declared-first ∙ meant-some r f _)

    module _ {u : TypeKey} (pu : u ≡ under_read rows t) where
      beneath : first_plain (table_of text rows) q (under (table_of text rows) t) ≡ first_plain (table_of text rows) q u
      beneath = ap (first_plain (table_of text rows) q) (under-read text rows t h ∙ sym pu)

      pub own-under : b ≡ true → (r : code.Option Own) → own_meant text rows r ≡ first_from (table_of text rows) q 0 (members_of (kind_at (table_of text rows) t))
          → is_some r ≡ false → (s : code.Option Own) → own_meant text rows s ≡ first_plain (table_of text rows) q u → own_meant text rows s ≡ first (matching (table_of text rows) q t)
      own-under e r p f s g = g ∙ sym (declared-first e r p ∙ meant-none r f _ ∙ beneath)

      pub own-plain : b ≡ false → (s : code.Option Own) → own_meant text rows s ≡ first_plain (table_of text rows) q u → own_meant text rows s ≡ first (matching (table_of text rows) q t)
      unfolding or_else first_from
      own-plain e s g = g ∙ sym (first-owned (table_of text rows) q t ∙ rw (named ∙ e) beneath)
