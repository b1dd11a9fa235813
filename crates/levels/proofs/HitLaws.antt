-- The rows of a level that have the name: the next of them, and its member of the name.
use mathlib.Core.Path.{◌≡◌, refl, sym, ap, ◌∙◌, subst}
use mathlib.Core.List.{List, [], ◌∷◌, ◌++◌, map}
use mathlib.Core.Logic.{inl}
use mathlib.Core.Option.{none, some}
use Prim.Native.Nat.{ℕ, suc, ◌+◌, ◌-◌, ◌≤◌, ◌<◌}
use native.Mathlib.Omega.{arith}
use lib.Dec.{eqb}
use Rattle.std.specs.declared.option.Option as code
use Rattle.std.specs.Prelude.{Some, None}
use Rattle.objects.specs.Lists.{Bytes, In}
use Rattle.objects.specs.declared.TypeKey.{TypeKey}
use Rattle.objects.specs.Table.{Table, size, is_named, is_struct, is_iface, members_of, kind_at, under, fields_of, declared_of, all_methods, all_methods_of}
use Rattle.objects.specs.Rows.{Words, member_at, table_of}
use Rattle.objects.proofs.ListLaws.{either, In-append, In-keep}
use Rattle.objects.proofs.KindLaws.{if-In}
use Rattle.objects.proofs.RowLaws.{size-read, member-type-meant}
use Rattle.rules.specs.Library.{Library}
use Rattle.rules.specs.Members.{Identity, identity_of, same_id}
use Rattle.rules.specs.Sound.{Sound}
use Rattle.rules.specs.Ways.{Place, places_from, owned, matching, field_places}
use Rattle.rules.proofs.Sounds.{library-sound}
use Rattle.ways.specs.Graph.{ends}
use Rattle.ways.specs.OfTable.{graph}
use Rattle.ways.proofs.Same.{One}
use Rattle.ways.proofs.TableLaws.{places-from, one}
use Rattle.selection.specs.declared.Own.{Own}
use Rattle.selection.specs.Results.{first, own_meant}
use Rattle.multiples.specs.Records.{Record}
use Rattle.walks.specs.Rows.{Row, walk_at}
use Rattle.walk_rows.specs.Records.{record_at, row_meant, row_of, rows_of}
use Rattle.walk_rows.proofs.StateLaws.{rows_at}
use Rattle.levels.specs.declared.Found.{Found}
use Rattle.levels.specs.Hits.{ways_from, way_to, HitAt, Tells}

-- ---- a type's own members

first-none : (l : List Place) → first l ≡ none → l ≡ []
first-none [] e = refl
first-none (p ∷ ps) e = let z : ◌≡◌ {A = ℕ} 0 1 = cc in absurd (omega arith)

first_one : (l : List Place) (p : Place) → One l → first l ≡ some p → l ≡ p ∷ []
first_one [] p o e = let z : ◌≡◌ {A = ℕ} 0 1 = cc in absurd (omega arith)
first_one (x ∷ []) p o e = let q : x ≡ p = cc in rw q
first_one (x ∷ y ∷ l) p o e = absurd o

first-in : (l : List Place) (p : Place) → first l ≡ some p → In p l
first-in [] p e = let z : ◌≡◌ {A = ℕ} 0 1 = cc in absurd (omega arith)
first-in (x ∷ l) p e = let q : p ≡ x = cc in inl q

-- an own member's type is the table's
own-typed : (T : Table) → Sound T → (t : TypeKey) (p : Place) → In p (owned T t) → p.member.type.0 < size T
unfolding owned all_methods
own-typed T sound t p i =
    let u = under T t in
    either (In-append (places_from 0 (declared_of (kind_at T t)) ++ field_places T t) (places_from 0 (all_methods T t)) p i)
    (λ j. either (In-append (places_from 0 (declared_of (kind_at T t))) (field_places T t) p j)
    (λ k. sound.typed t p.member (if-In (is_named (kind_at T t)) (members_of (kind_at T t)) p.member (places-from 0 (declared_of (kind_at T t)) p k).1).1)
    (λ k. sound.typed u p.member (if-In (is_struct (kind_at T u)) (members_of (kind_at T u)) p.member (places-from 0 (fields_of (kind_at T u)) p k).1).1))
    (λ j. sound.typed u p.member (if-In (is_iface (kind_at T u)) (members_of (kind_at T u)) p.member (places-from 0 (all_methods_of (kind_at T u)) p j).1).1)

-- ---- the fields of a row

-- a record that reads as record i
module _ (e : Record) (walk : List Record) (i : ℕ) (read : e ≡ record_at walk i) where
  pub type-read : e.typ ≡ (row_of walk i).type
  unfolding row_of row_meant
  type-read = ap (λ (r : Record). r.typ) read

  pub flag-read : eqb e.indirect 1 ≡ (row_of walk i).flag
  unfolding row_of row_meant
  flag-read = ap (λ (r : Record). eqb r.indirect 1) read

-- ---- the next row

module _ (T : Table) (q : Identity) (walk : List Record) (n i : ℕ) (l : i < n) where
  -- row i's ways, and those of the rows behind it
  ways-split : ways_from T q walk n i ≡ ends (graph T) q (walk_at (rows_of walk n) i) ++ ways_from T q walk n (suc i)
  unfolding ways_from
  ways-split = let z : n - i ≡ suc (n - suc i) = omega arith in rw z

  module _ {t : TypeKey} (read : t ≡ (row_of walk i).type) where
    ends-are : (ms : List Place) → matching T q t ≡ ms → ends (graph T) q (walk_at (rows_of walk n) i) ≡ map (λ m. record { walk = walk_at (rows_of walk n) i; last = m }) ms
    ends-are ms h =
        ap (λ u. map (λ m. record { walk = walk_at (rows_of walk n) i; last = m }) (matching T q u)) (ap (λ (r : Row). r.type) (rows_at walk n i l) ∙ sym read)
        ∙ ap (map (λ m. record { walk = walk_at (rows_of walk n) i; last = m })) h

    ways-skip : matching T q t ≡ [] → ways_from T q walk n i ≡ ways_from T q walk n (i + 1)
    ways-skip h = let s : i + 1 ≡ suc i = omega arith in rw s (ways-split ∙ ap (λ w. w ++ ways_from T q walk n (suc i)) (ends-are [] h))

    ways-here : (p : Place) → matching T q t ≡ p ∷ [] → ways_from T q walk n i ≡ record { walk = walk_at (rows_of walk n) i; last = p } ∷ ways_from T q walk n (suc i)
    ways-here p h = ways-split ∙ ap (λ w. w ++ ways_from T q walk n (suc i)) (ends-are (p ∷ []) h)

module _ (text : Bytes) (rows : Words) (q : Identity) (walk : List Record) (n lo : ℕ) where
  abbrev T : Table
  T = table_of text rows

  -- no row before row i has the name
  pub record Looked (i : ℕ) : Type 0 where
    pub order : (lo ≤ i) × (i ≤ n)
    pub left : ways_from T q walk n lo ≡ ways_from T q walk n i

  pub looked-end : (i : ℕ) → Looked i → n ≤ i → ways_from T q walk n lo ≡ []
  unfolding ways_from
  looked-end i h e = h.left ∙ (let z : n - i ≡ 0 = omega arith in rw z)

  module _ (i : ℕ) (h : Looked i) (l : i < n) {t : TypeKey} (read : t ≡ (row_of walk i).type) {r : code.Option Own} (own : own_meant text rows r ≡ first (matching T q t)) where
    pub looked-on : r ≡ None → Looked (i + 1)
    unfolding own_meant
    looked-on nothing =
        let a = h.order.0 in
        let m = first-none (matching T q t) (sym own ∙ ap (own_meant text rows) nothing) in
        record { order = (omega arith, omega arith); left = h.left ∙ ways-skip T q walk n i l read m }

    pub hit-found : Library text rows → {o : Own} → r ≡ Some o → HitAt text rows q walk n lo (record { row = i; place = o.place; member = o.member })
    unfolding own_meant way_to
    hit-found lib {o} found =
        let p : Place = record { place = o.place; member = member_at text rows o.member } in
        let f = sym own ∙ ap (own_meant text rows) found in
        let within = own-typed T (library-sound lib) t p (In-keep (λ x. same_id (identity_of T x.member) q) (owned T t) p (first-in (matching T q t) p f)).0 in
        record {
          order = h.order.0;
          left = h.left;
          here = record {
            inside = l;
            typed = rw (← member-type-meant text rows o.member, ← size-read text rows) within;
            ways = λ nb. ways-here T q walk n i l read p (first_one (matching T q t) p (one T (library-sound lib) q t nb) f);
          };
        }

  -- ---- what was told

  pub tells-nothing : {r : code.Option Found} → Tells text rows q walk n lo r → r ≡ None → ways_from T q walk n lo ≡ []
  unfolding Tells
  tells-nothing h e = subst (Tells text rows q walk n lo) e h

  pub tells_at : {r : code.Option Found} {w : Found} → Tells text rows q walk n lo r → r ≡ Some w → HitAt text rows q walk n lo w
  unfolding Tells
  tells_at h e = subst (Tells text rows q walk n lo) e h
