-- What was met of a name says whether its shortest ways put it into the set, and its first hit the numbers of its line.
use mathlib.Core.Path.{◌≡◌, refl, sym, ap, ap₂, ◌∙◌, subst}
use mathlib.Core.Bool.{Bool, true, false, cond, not, ◌&&◌, ◌||◌}
use mathlib.Core.List.{List, [], ◌∷◌, ◌++◌, map}
use mathlib.Core.Logic.{inl, inr}
use Prim.Native.Nat.{ℕ, zero, suc, ◌<◌}
use lib.Dec.{eqb}
use lib.ListN.{length}
use borrow.Author.Tests.{eq-eqb, ne_eqb, eqb-true, eqb-false}
use Rattle.objects.specs.Lists.{Bytes, any, keep, flat, In, empty}
use Rattle.objects.specs.declared.TypeKey.{TypeKey}
use Rattle.objects.specs.Table.{Table, obj_key, bit, is_method, bare, pointer_at, iface_under}
use Rattle.objects.specs.Rows.{Words, member_at, table_of}
use Rattle.objects.specs.Types.{ptr_read}
use Rattle.objects.proofs.ListLaws.{cases, clash, either, In-keep, keep-In-to, keep-map, keep-none, keep-swap, keep-In-ext, none_kept}
use Rattle.objects.proofs.PartLaws.{length-snoc}
use Rattle.objects.proofs.RowLaws.{ptr-meant, iface-read}
use Rattle.rules.specs.Library.{Library}
use Rattle.rules.specs.Members.{Identity, same_id}
use Rattle.rules.specs.Ways.{Way, member_of}
use Rattle.rules.specs.MethodSet.{method_flag, callable, only_method}
use Rattle.rules.specs.Answer.{sel_of}
use Rattle.rules.proofs.MemberLaws.{same_id-true}
use Rattle.ways.specs.Graph.{ends}
use Rattle.ways.specs.OfTable.{graph}
use Rattle.ways.proofs.NamesInOrder.{gives}
use Rattle.selection.proofs.OwnLaws.{under-in}
use Rattle.multiples.specs.Records.{Record}
use Rattle.walks.specs.Rows.{Row, row, places_to, walk_at, walks_of, kept_rows}
use Rattle.walks.specs.Reads.{as_short, kept_ways}
use Rattle.walk_rows.specs.Records.{row_of, rows_of, level_of}
use Rattle.walk_rows.proofs.RecordLaws.{row-level}
use Rattle.walk_rows.proofs.StateLaws.{rows_at}
use Rattle.walk_rows.proofs.PlaceLaws.{read_walk}
use Rattle.levels.specs.declared.Found.{Found}
use Rattle.levels.specs.Hits.{way_to}
use Rattle.levels.specs.All.{Keeps}
use Rattle.first_hits.specs.Names.{identity_at}
use Rattle.first_hits.specs.declared.FirstHit.{FirstHit}
use Rattle.first_hits.specs.Hits.{hit_row, hit_place, hit_hidden, beside, above, methods_met, fields_met, named, Hides}
use Rattle.first_hits.proofs.MetLaws.{row_typed}
use Rattle.method_set.specs.Sets.{flag_read, in_set, sel_at, sel_numbers}
use Rattle.method_set.proofs.Firsts.{first_of}
use Rattle.method_set.proofs.MetLaws.{all_met, method_of, field_of, met-inside, met-ways, all-methods, all-fields, met-leads}

eqb-turn : (a b : ℕ) → eqb a b ≡ eqb b a
eqb-turn a b = cases (eqb b a) (λ e. eq-eqb a b (sym (eqb-true b a e)) ∙ sym e) (λ e. ne_eqb a b (λ z. eqb-false b a e (sym z)) ∙ sym e)

-- ---- a walk has as many places as its row's level

places-long : (R : List Row) (d i : ℕ) → length (places_to R d i) ≡ d
places-long R zero i = refl
places-long R (suc d) i = length-snoc (places_to R d (row R i).parent) (row R i).place ∙ ap suc (places-long R d (row R i).parent)

walk-long : (walk : List Record) (n i : ℕ) → i < n → length (walk_at (rows_of walk n) i).places ≡ level_of walk i
walk-long walk n i l = places-long (rows_of walk n) (row (rows_of walk n) i).level i ∙ ap (λ (r : Row). r.level) (rows_at walk n i l) ∙ row-level walk i

-- ---- a name

-- two ways, or more, give nothing
only_none : (T : Table) {A : Type 0} (f : A → Way) (p : A → Bool) (w : Way) (l : List A) → any p l ≡ true → only_method T (w ∷ map f (keep p l)) ≡ []
unfolding only_method
only_none T f p w l h = go (keep p l) refl
  where
    go : (m : List _) → keep p l ≡ m → only_method T (w ∷ map f (keep p l)) ≡ []
    go [] e = clash h (none_kept p l e)
    go (x ∷ m) e = rw e

-- a field that comes first gives nothing, alone or not
only-field : (T : Table) (w : Way) (ws : List Way) → is_method (member_of w).entity ≡ false → only_method T (w ∷ ws) ≡ []
unfolding only_method callable
only-field T w [] e = rw e
only-field T w (v ∷ ws) e = refl

module _ (text : Bytes) (rows : Words) (lib : Library text rows) (walk : List Record) (n : ℕ) (t : TypeKey)
    (keeps : Keeps rows walk n (kept_rows (graph (table_of text rows)) (bare (table_of text rows) t) (pointer_at (table_of text rows) t))) where
  abbrev T : Table
  T = table_of text rows

  abbrev way_of : Found → Way
  way_of = way_to text rows walk n

  abbrev is_one : Found → Bool
  is_one = method_of text rows

  abbrev depth : Found → ℕ
  depth w = level_of walk w.row

  abbrev all : List Found
  all = all_met rows walk n

  -- the name of what was met, and what was met of a name
  abbrev name_of : Found → Identity
  name_of w = identity_at text rows w.member.0

  abbrev met_of : Identity → List Found
  met_of q = keep (λ w. same_id (name_of w) q) all

  kept-are : (q : Identity) → kept_ways T q t ≡ as_short (map way_of (met_of q))
  kept-are q = ap (λ R. as_short (flat (ends (graph T) q) (walks_of R))) (sym keeps.held) ∙ ap as_short (sym (met-ways text rows lib walk n keeps.state q))

  -- what is as short as the first
  short-are : (w : Found) (l : List Found) → ((v : Found) → In v (w ∷ l) → v.row < n) → as_short (map way_of (w ∷ l)) ≡ way_of w ∷ map way_of (keep (λ v. eqb (depth w) (depth v)) l)
  unfolding way_to
  short-are w l inside =
      let short : Way → Bool = λ v. eqb (length v.walk.places) (length (way_of w).walk.places) in
      ap (λ m. way_of w ∷ m) (keep-map short way_of l
      ∙ ap (map way_of) (keep-In-ext (λ v. short (way_of v)) (λ v. eqb (depth w) (depth v)) l (λ v j.
      ap₂ eqb (walk-long walk n v.row (inside v (inr j))) (walk-long walk n w.row (inside w (inl refl))) ∙ eqb-turn (depth v) (depth w))))

  -- ---- the names

  -- A NAME THAT GIVES SOMETHING is that of a method that was met.
  pub given-met : (q : Identity) → gives (λ p. only_method T (kept_ways T p t)) q ≡ true → (w : Found) × In w (methods_met rows walk n) × (q ≡ name_of w)
  unfolding way_to only_method
  given-met q h = go (met_of q) refl
    where
      given : gives (λ p. only_method T (as_short (map way_of (met_of p)))) q ≡ true
      given = ap (λ ws. not (empty (only_method T ws))) (sym (kept-are q)) ∙ h

      go : (l : List Found) → met_of q ≡ l → (w : Found) × In w (methods_met rows walk n) × (q ≡ name_of w)
      go [] e = clash given (rw e)
      go (w ∷ l) e =
          let i = In-keep (λ v. same_id (name_of v) q) all w (subst (In w) (sym e) (inl refl)) in
          cases (is_one w)
          (λ m. (w, subst (In w) (all-methods text rows lib walk n keeps.state) (keep-In-to is_one all w i.0 m), sym (same_id-true (name_of w) q i.1)))
          (λ m. clash given (rw (e, only-field T (way_of w) _ m)))

  -- ---- one of them

  module _ (hits : List FirstHit) (k : ℕ) (hides : Hides text rows walk (keep (named text rows k) (methods_met rows walk n)) (keep (named text rows k) (fields_met rows walk n)) k hits) where
    abbrev q : Identity
    q = identity_at text rows k

    abbrev i : ℕ
    i = hit_row hits k

    -- the first method of the name, and its way
    abbrev first : Found
    first = record { row = i; place = hit_place hits k; member = obj_key k }

    abbrev way : Way
    way = way_of first

    -- it is hidden
    abbrev hide : Bool
    hide = any (λ v. beside walk i v.row) hides.others || any (λ v. above walk v.row i) (keep (named text rows k) (fields_met rows walk n))

    methods-are : keep is_one (met_of q) ≡ first ∷ hides.others
    methods-are = keep-swap is_one (named text rows k) all ∙ ap (keep (named text rows k)) (all-methods text rows lib walk n keeps.state) ∙ hides.first

    fields-are : keep (field_of text rows) (met_of q) ≡ keep (named text rows k) (fields_met rows walk n)
    fields-are = keep-swap (field_of text rows) (named text rows k) all ∙ ap (keep (named text rows k)) (all-fields text rows lib walk n keeps.state)

    first-in : In first (met_of q) × (is_one first ≡ true)
    first-in = In-keep is_one (met_of q) first (subst (In first) (sym methods-are) (inl refl))

    inside : (w : Found) → In w (met_of q) → w.row < n
    inside w j = met-inside text rows walk n w (In-keep (named text rows k) all w j).0

    pub hit-inside : i < n
    hit-inside = inside first first-in.0

    flag_is : method_flag T way ≡ flag_read rows walk i
    unfolding method_flag flag_read way_to
    flag_is =
        let typed = row_typed keeps.state i hit-inside in
        ap (λ (r : Row). r.flag || iface_under T r.type) (rows_at walk n i hit-inside)
        ∙ ap (λ b. (row_of walk i).flag || b) (iface-read text rows (row_of walk i).type typed (under-in text rows lib (row_of walk i).type typed refl))

    callable-is : callable T way ≡ not (ptr_read rows (obj_key k) && not (flag_read rows walk i))
    unfolding callable way_to
    callable-is = ap₂ (λ a b. a && not b) first-in.1 (ap₂ (λ a b. a && not b) (ptr-meant text rows (obj_key k)) flag_is)

    -- the first method leads what was met of the name
    only-first : (rest : List Found) → met_of q ≡ first ∷ rest → hide ≡ any (λ v. beside walk i v.row) rest → only_method T (kept_ways T q t) ≡ cond (in_set rows walk hits k) (way ∷ []) []
    unfolding in_set only_method
    only-first rest e same =
        let besides : Found → Bool = λ v. beside walk i v.row in
        ap (only_method T) (kept-are q ∙ ap (λ l. as_short (map way_of l)) e ∙ short-are first rest (λ v j. inside v (subst (In v) (sym e) j)))
        ∙ cases (any besides rest)
        (λ y. let a : hit_hidden hits k ≡ 1 = hides.hidden ∙ ap bit (same ∙ y) in only_none T way_of besides way rest y ∙ rw a)
        (λ y. let a : hit_hidden hits k ≡ 0 = hides.hidden ∙ ap bit (same ∙ y) in ap (λ l. only_method T (way ∷ map way_of l)) (keep-none besides rest y) ∙ ap (λ b. cond b (way ∷ []) []) callable-is ∙ rw a)

    -- a field leads
    only-covered : (w : Found) (rest : List Found) → met_of q ≡ w ∷ rest → is_one w ≡ false → hide ≡ true → only_method T (kept_ways T q t) ≡ cond (in_set rows walk hits k) (way ∷ []) []
    unfolding in_set way_to
    only-covered w rest e m y =
        let a : hit_hidden hits k ≡ 1 = hides.hidden ∙ ap bit y in
        ap (only_method T) (kept-are q ∙ ap (λ l. as_short (map way_of l)) e) ∙ only-field T (way_of w) _ m ∙ rw a

    only-is : only_method T (kept_ways T q t) ≡ cond (in_set rows walk hits k) (way ∷ []) []
    only-is =
        either (first_of depth is_one (met_of q) first hides.others (keep (named text rows k) (fields_met rows walk n)) (met-leads text rows lib walk n keeps.state keeps.climbs (named text rows k)) methods-are fields-are)
        (λ f. only-first f.0 f.1 f.2)
        (λ f. only-covered f.0 f.1 f.2 f.3 f.4)

    line-is : sel_at rows walk hits k ≡ sel_numbers (sel_of T way)
    unfolding sel_at sel_numbers way_to member_at
    line-is = ap₂ (λ b ps. k ∷ bit b ∷ (ps ++ (hit_place hits k ∷ []))) (sym flag_is) (read_walk walk n keeps.state.rowed i hit-inside)

    -- THE NAME IS IN THE SET exactly if its shortest ways give one method that may be called, and its line is that of this way.
    pub hit-says : (w : Way) × (only_method T (kept_ways T q t) ≡ cond (in_set rows walk hits k) (w ∷ []) []) × (sel_at rows walk hits k ≡ sel_numbers (sel_of T w))
    hit-says = (way, only-is, line-is)
