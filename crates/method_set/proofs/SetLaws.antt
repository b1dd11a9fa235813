-- The whole set: the names of the methods that were met are enough, and the lines of those that are kept are M's.
use mathlib.Core.Path.{◌≡◌, refl, sym, ap, ap₂, ◌∙◌, subst}
use mathlib.Core.Bool.{Bool, true, false, cond, ◌&&◌, ◌||◌}
use mathlib.Core.List.{List, [], ◌∷◌, map}
use mathlib.Core.Logic.{inl, inr}
use Prim.Native.Nat.{ℕ, ◌≤◌, ◌<◌}
use native.Mathlib.Omega.{arith}
use lib.ListN.{length, take}
use Rattle.objects.specs.Bounds.{max_places}
use Rattle.objects.specs.Lists.{Bytes, keep, flat, In, Sorted}
use Rattle.objects.specs.declared.TypeKey.{TypeKey}
use Rattle.objects.specs.Table.{Table, bare, pointer_at}
use Rattle.objects.specs.Rows.{Words, type_count, table_of}
use Rattle.objects.specs.Types.{bare_read, pointer_read}
use Rattle.objects.proofs.ListLaws.{cases, In-keep, In-map, map-In-to}
use Rattle.objects.proofs.RowLaws.{size-read, bare-read, pointer-read, iface-read, named-pointer-read}
use Rattle.rules.specs.Library.{Library}
use Rattle.rules.specs.Members.{Identity, identity_of}
use Rattle.rules.specs.Ways.{Way, owned}
use Rattle.rules.specs.MethodSet.{only_method, empty_set, method_set}
use Rattle.rules.specs.Answer.{sel_of}
use Rattle.rules.proofs.Sounds.{library-sound}
use Rattle.rules.proofs.MethodNames.{Lower, ascending-In}
use Rattle.ways.specs.OfTable.{graph}
use Rattle.ways.proofs.TableLaws.{bare-in}
use Rattle.ways.proofs.NamesInOrder.{gives, same-flat}
use Rattle.selection.proofs.OwnLaws.{under-in}
use Rattle.multiples.specs.Records.{Record}
use Rattle.walks.specs.Rows.{walks_of, kept_rows}
use Rattle.walks.specs.Reads.{kept_from, kept_ways, names_kept}
use Rattle.walks.proofs.Names.{names-kept-ascend, set-kept}
use Rattle.walk_rows.specs.Records.{level_of}
use Rattle.levels.specs.declared.Found.{Found}
use Rattle.levels.specs.All.{Keeps}
use Rattle.first_hits.specs.Names.{identity_at, id_at, Listed}
use Rattle.first_hits.specs.declared.FirstHit.{FirstHit}
use Rattle.first_hits.specs.Hits.{Held, Covered, methods_met, fields_met, hit_row}
use Rattle.first_hits.proofs.HeldLaws.{held_fits}
use Rattle.method_set.specs.Sets.{empty_read, in_set, sel_at, sel_numbers, SetHeld}
use Rattle.method_set.proofs.MetLaws.{all_met, met-names, method-met}
use Rattle.method_set.proofs.HitLaws.{given-met, hit-inside, hit-says}

-- ---- the type that the walks start at

module _ (text : Bytes) (rows : Words) (lib : Library text rows) (t : TypeKey) (there : t.0 < type_count rows) where
  abbrev T : Table
  T = table_of text rows

  pub bare-there : (bare_read rows t).0 < type_count rows
  bare-there = rw (← bare-read text rows t there, ← size-read text rows) (bare-in T (library-sound lib) t (rw (size-read text rows) there))

  empty-is : empty_set T t ≡ empty_read rows t
  unfolding empty_read
  empty-is =
      ap₂ ◌||◌ (named-pointer-read text rows t there (under-in text rows lib t there refl))
      (ap₂ ◌&&◌ (pointer-read text rows t there) (rw (bare-read text rows t there) (iface-read text rows (bare_read rows t) bare-there (under-in text rows lib (bare_read rows t) bare-there refl))))

  -- ---- the names

  names-sorted : (l : List ℕ) → Sorted (λ a b. Lower (identity_at text rows a) (identity_at text rows b)) l → Sorted Lower (map (identity_at text rows) l)
  names-sorted [] s = tt
  names-sorted (k ∷ l) s = (λ q i. let j = In-map (identity_at text rows) l q i in subst (Lower (identity_at text rows k)) (sym j.2) (s.0 j.0 j.1), names-sorted l s.1)

  module _ (walk : List Record) (n : ℕ) (keeps : Keeps rows walk n (kept_rows (graph T) (bare T t) (pointer_at T t))) (hits : List FirstHit) (keys : List ℕ)
      (covered : Covered text rows walk (methods_met rows walk n) (fields_met rows walk n) keys hits) where
    -- what a name gives
    abbrev chosen : Identity → List Way
    chosen q = only_method T (kept_ways T q t)

    -- the names of the methods that were met are enough
    names-enough : Listed text rows keys → flat chosen (map (identity_at text rows) keys) ≡ flat chosen (names_kept T t)
    unfolding id_at
    names-enough listed = same-flat chosen (map (identity_at text rows) keys) (names_kept T t) (names-sorted keys listed.sorted) (names-kept-ascend T (library-sound lib) t) kept met
      where
        name_of : Found → Identity
        name_of w = identity_at text rows w.member.0

        all : List Identity
        all = flat (λ w. map (λ p. identity_of T p.member) (owned T w.at)) (kept_from T t)

        met_all : map name_of (all_met rows walk n) ≡ all
        met_all = met-names text rows lib walk n keeps.state ∙ ap (λ R. flat (λ w. map (λ p. identity_of T p.member) (owned T w.at)) (walks_of R)) keeps.held

        kept : (q : Identity) → gives chosen q ≡ true → In q (names_kept T t)
        kept q g =
            let w = given-met text rows lib walk n t keeps q g in
            let i = method-met text rows lib walk n keeps.state w.0 w.1 in
            (ascending-In T all q).1 (subst (λ x. In x all) (sym w.2) (subst (In (name_of w.0)) met_all (map-In-to name_of (all_met rows walk n) w.0 i)))

        met : (q : Identity) → gives chosen q ≡ true → In q (map (identity_at text rows) keys)
        met q g = let w = given-met text rows lib walk n t keeps q g in subst (λ x. In x (map (identity_at text rows) keys)) (sym w.2) (covered.all w.0 w.1)

    -- ---- the lines

    lines_of : (l : List ℕ) → ((k : ℕ) → In k l → In k keys)
        → map (sel_at rows walk hits) (keep (in_set rows walk hits) l) ≡ map sel_numbers (map (sel_of T) (flat chosen (map (identity_at text rows) l)))
    lines_of [] h = refl
    lines_of (k ∷ l) h =
        let says = hit-says text rows lib walk n t keeps hits k (covered.hides k (h k (inl refl))) in
        let rest = lines_of l (λ j i. h j (inr i)) in
        cases (in_set rows walk hits k)
        (λ e. rw (says.1, e) (ap₂ (λ a b. a ∷ b) says.2 rest))
        (λ e. rw (says.1, e) rest)

    -- THE LINES OF THE NAMES THAT ARE KEPT ARE M'S, if the set is not empty at once.
    set-lines : Listed text rows keys → empty_read rows t ≡ false → map (sel_at rows walk hits) (keep (in_set rows walk hits) keys) ≡ map sel_numbers (map (sel_of T) (method_set T t))
    set-lines listed some =
        lines_of keys (λ k i. i)
        ∙ ap (λ ws. map sel_numbers (map (sel_of T) ws))
        (names-enough listed
        ∙ sym (ap (λ b. cond b [] (flat chosen (names_kept T t))) (empty-is ∙ some))
        ∙ set-kept T (library-sound lib) t (rw (size-read text rows) there))

    key-short : (k : ℕ) → In k keys → level_of walk (hit_row hits k) < max_places
    key-short k i = keeps.short (hit_row hits k) (hit-inside text rows lib walk n t keeps hits k (covered.hides k i))

  -- ---- the set

  pub set-empty : {b : Bool} → b ≡ empty_read rows t → b ≡ true → (walk : List Record) (names : Words) (hits : List FirstHit) → SetHeld text rows t walk names hits 0
  unfolding method_set
  set-empty e y walk names hits = record {
    lines = let z : empty_set T t ≡ true = empty-is ∙ sym e ∙ y in rw z;
    fits = (omega arith, omega arith);
    short = λ k i. absurd i;
  }

  pub set-held : {b : Bool} → b ≡ empty_read rows t → b ≡ false → {u : TypeKey} → u ≡ bare_read rows t → {f : Bool} → f ≡ pointer_read rows t
      → {walk : List Record} {n : ℕ} → Keeps rows walk n (kept_rows (graph T) u f)
      → {names : Words} {hits : List FirstHit} {count : ℕ} → Held text rows names count hits → Covered text rows walk (methods_met rows walk n) (fields_met rows walk n) (take count names) hits
      → {after : Words} {r : ℕ} → length after ≡ length names → (take r after ≡ keep (in_set rows walk hits) (take count names)) × (r ≤ count) → SetHeld text rows t walk after hits r
  set-held e some at removed {walk} {n} keeps {names} {hits} {count} has covered {after} {r} long kept =
      let keys = take count names in
      let few = has.few in let fit = held_fits text rows has in let most = lib.laid.members in let less = kept.1 in
      let rowed = rw (at ∙ sym (bare-read text rows t there), removed ∙ sym (pointer-read text rows t there)) at keeps in
      record {
        lines = ap (map (sel_at rows walk hits)) kept.0 ∙ set-lines walk n rowed hits keys covered has.listed (sym e ∙ some);
        fits = (omega arith, omega arith);
        short = λ k i.
            let j = (In-keep (in_set rows walk hits) keys k (subst (In k) kept.0 i)).0 in
            (has.room k (has.listed.keys k j), key-short walk n rowed hits keys covered k j);
      }
