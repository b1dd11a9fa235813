-- What loaded is written back to the byte: the lines of a text are those of the table that it loads as.
use mathlib.Core.Path.{◌≡◌, refl, sym, ap, ◌∙◌}
use mathlib.Core.Bool.{true}
use mathlib.Core.List.{List, [], ◌∷◌, ◌++◌, map, append_assoc, append-nil, cons≢nil}
use mathlib.Core.Option.{Option, none, some}
use Prim.Native.Nat.{ℕ, suc}
use native.Mathlib.Omega.{arith}
use lib.Dec.{ltb}
use lib.ListN.{length}
use Rattle.objects.specs.Bounds.{Bounds, bounds}
use Rattle.objects.specs.Lists.{Bytes, empty, flat}
use Rattle.objects.specs.Table.{Table, member_count, obj_key, Member, Kind, Basic, Array, Slice, Pointer, Map, Chan, Tuple, Func}
use Rattle.objects.specs.Table.{Struct, Iface, Named, members_of, with_member, no_table, plus_package, plus_type, plus_member}
use Rattle.objects.proofs.ListLaws.{cases, clash, map-append, flat_append}
use Rattle.objects.proofs.PartLaws.{on_last-flat}
use Rattle.text.specs.Bytes.{same_bytes}
use Rattle.text.specs.Lines.{split, pieces, fields}
use Rattle.text.proofs.ByteLaws.{same_true}
use Rattle.rules.specs.Forms.{Line, package_line, type_line, member_line, line_of}
use Rattle.rules.specs.Checks.{items, lacking, forbidden, clashing, containing}
use Rattle.rules.specs.Stages.{first_unordered, first_item}
use Rattle.rules.specs.Load.{Loaded, refused, loaded, last_kind, added, in_place, has_room, line_added, lines_from, staged, checked, then_checked, headed, load_within, load}
use Rattle.rules.proofs.FormLaws.{Formed, line-formed}
use Rattle.rules.proofs.LoadLaws.{has_members, stands-has}
use Rattle.edits.specs.TableText.{line_body, holding, line_of_member, lines_of_kind, lines_of, header, text_of}
use Rattle.table_text.proofs.JoinLaws.{joined, join-split, joined-lines}
use Rattle.table_text.proofs.LineBack.{body_back}

-- ---- what a line adds to the lines of the table

-- a kind holds its own members
pub holding-own : (k : Kind) → holding (members_of k) k ≡ k
holding-own (Basic k) = refl
holding-own (Array n e) = refl
holding-own (Slice e) = refl
holding-own (Pointer e) = refl
holding-own (Map k e) = refl
holding-own (Chan d e) = refl
holding-own (Tuple es) = refl
holding-own (Func v p r) = refl
holding-own (Struct ms) = refl
holding-own (Iface ms) = refl
holding-own (Named u ms) = refl

member-more : (m : Member) (k : Kind) → has_members k ≡ true → lines_of_kind (with_member m k) ≡ lines_of_kind k ++ (line_of_member m ∷ [])
member-more m (Basic k) h = clash h refl
member-more m (Array n e) h = clash h refl
member-more m (Slice e) h = clash h refl
member-more m (Pointer e) h = clash h refl
member-more m (Map k e) h = clash h refl
member-more m (Chan d e) h = clash h refl
member-more m (Tuple es) h = clash h refl
member-more m (Func v p r) h = clash h refl
member-more m (Struct ms) h = ap (λ r. type_line (Struct []) ∷ r) (map-append line_of_member ms (m ∷ []))
member-more m (Iface ms) h = ap (λ r. type_line (Iface []) ∷ r) (map-append line_of_member ms (m ∷ []))
member-more m (Named u ms) h = ap (λ r. type_line (Named u []) ∷ r) (map-append line_of_member ms (m ∷ []))

empty-nil : {A : Type 0} (l : List A) → empty l ≡ true → l ≡ []
empty-nil [] h = refl
empty-nil (x ∷ l) h = clash h refl

-- one line more
lines-added : (T : Table) (line : ℕ) (l : Line) → Formed l → in_place T l ≡ true → lines_of (added T line l) ≡ lines_of T ++ (l ∷ [])
unfolding added plus_package plus_type plus_member lines_of
lines-added T line (package_line path) ok place =
    let e = empty-nil T.types place in
    rw (e, map-append package_line T.packages (path ∷ []), append-nil (map package_line T.packages), append-nil (map package_line T.packages ++ (package_line path ∷ [])))
lines-added T line (type_line k) ok place =
    let own : lines_of_kind k ≡ type_line k ∷ [] = rw ok.1 (ap (λ x. type_line x ∷ []) (ap (λ ms. holding ms k) (sym ok.1) ∙ holding-own k)) in
    ap (λ r. map package_line T.packages ++ r) (flat_append lines_of_kind T.types (k ∷ []) ∙ ap (λ r. flat lines_of_kind T.types ++ r) (append-nil (lines_of_kind k) ∙ own))
    ∙ sym (append_assoc (map package_line T.packages) (flat lines_of_kind T.types) (type_line k ∷ []))
lines-added T line (member_line name pkg type entity) ok place =
    let m : Member = record { key = obj_key (member_count T); name = name; pkg = pkg; type = type; entity = entity } in
    let has = stands-has entity (last_kind T) place in
    let some-type : T.types ≡ [] → ⊥ = λ e. clash has (rw e) in
    ap (λ r. map package_line T.packages ++ r) (on_last-flat lines_of_kind (with_member m) (Basic 0) (line_of_member m ∷ []) T.types some-type (member-more m (last_kind T) has))
    ∙ sym (append_assoc (map package_line T.packages) (flat lines_of_kind T.types) (line_of_member m ∷ []))

-- ---- what loaded

loaded-same : (T U : Table) → loaded T ≡ loaded U → T ≡ U
loaded-same T U e = cc

never : {C : Type 0} {n at : ℕ} {U : Table} → refused n at ≡ loaded U → C
never e = let z : ◌≡◌ {A = ℕ} 0 1 = cc in absurd (omega arith)

-- a line that was added had a form, and a place
added-back : (w : Bounds) (T : Table) (line : ℕ) (o : Option Line) (N : Table) → line_added w T line o ≡ loaded N → (l : Line) × (o ≡ some l) × (in_place T l ≡ true) × (N ≡ added T line l)
added-back w T line none N h = never h
added-back w T line (some l) N h =
    cases (in_place T l)
    (λ p. cases (has_room w T l) (λ r. (l, refl, p, loaded-same N (added T line l) (sym (rw (p, r) at h)))) (λ r. never (rw (p, r) at h)))
    (λ p. never (rw p at h))

-- the lines that were read from a table on, to a table
record Lines (ps : List Bytes) (T U : Table) : Type 0 where
  read : List Line
  bodies : ps ≡ map line_body read ++ ([] ∷ [])
  more : lines_of U ≡ lines_of T ++ read

lines-back : (w : Bounds) (line : ℕ) (T : Table) (ps : List Bytes) (U : Table) → (ps ≡ [] → ⊥) → lines_from w line T ps ≡ loaded U → Lines ps T U
unfolding lines_from
lines-back w line T [] U n h = absurd (n refl)
lines-back w line T (last ∷ []) U n h =
    cases (empty last)
    (λ e. record { read = []; bodies = ap (λ x. x ∷ []) (empty-nil last e); more = sym (ap lines_of (loaded-same T U (rw e at h))) ∙ sym (append-nil (lines_of T)) })
    (λ e. never (rw e at h))
lines-back w line T (piece ∷ next ∷ rest) U n h =
    go (line_added w T line (line_of (fields piece))) refl h (λ N e. lines-back w (suc line) N (next ∷ rest) U cons≢nil e)
  where
    on : (N : Table) (l : Line) → line_of (fields piece) ≡ some l → in_place T l ≡ true → N ≡ added T line l → Lines (next ∷ rest) N U → Lines (piece ∷ next ∷ rest) T U
    on N l form place v r = record {
      read = l ∷ r.read;
      bodies = rw (body_back piece l form) (ap (λ x. piece ∷ x) r.bodies);
      more = r.more ∙ rw (v, lines-added T line l (line-formed (fields piece) l form) place) (append_assoc (lines_of T) (l ∷ []) r.read);
    }

    go : (L : Loaded) → line_added w T line (line_of (fields piece)) ≡ L → (elim L [ refused n at ↦ refused n at | loaded N ↦ lines_from w (suc line) N (next ∷ rest) ]) ≡ loaded U
        → ((N : Table) → lines_from w (suc line) N (next ∷ rest) ≡ loaded U → Lines (next ∷ rest) N U) → Lines (piece ∷ next ∷ rest) T U
    go (refused n at) e k rec = never k
    go (loaded N) e k rec = let r = added-back w T line (line_of (fields piece)) N e in on N r.0 r.1 r.2 r.3 (rec N k)

-- the checks of the whole table change nothing
staged-back : (n : ℕ) (o : Option ℕ) (rest : Loaded) (U : Table) → staged n o rest ≡ loaded U → rest ≡ loaded U
unfolding staged
staged-back n none rest U h = h
staged-back n (some line) rest U h = never h

checked-back : (T U : Table) → checked T ≡ loaded U → T ≡ U
unfolding checked
checked-back T U h =
    loaded-same T U
    (staged-back 10 (first_item T (containing T) (items T)) _ U
    (staged-back 9 (first_item T (clashing T) (items T)) _ U
    (staged-back 8 (first_item T (forbidden T) (items T)) _ U
    (staged-back 7 (first_item T (lacking T) (items T)) _ U
    (staged-back 14 (first_unordered T.packages) _ U h)))))

then-back : (L : Loaded) (U : Table) → then_checked L ≡ loaded U → L ≡ loaded U
then-back (refused n at) U h = never h
then-back (loaded T) U h = ap loaded (checked-back T U h)

headed-back : (w : Bounds) (ps : List Bytes) (T : Table) → headed w ps ≡ loaded T → ps ≡ (header ∷ map line_body (lines_of T)) ++ ([] ∷ [])
unfolding lines_of
headed-back w [] T h = never h
headed-back w (first ∷ []) T h = never h
headed-back w (first ∷ next ∷ rest) T h =
    cases (same_bytes first header)
    (λ e. body (same_true first header e) (lines-back w 2 no_table (next ∷ rest) T cons≢nil (then-back (lines_from w 2 no_table (next ∷ rest)) T (rw e at h))))
    (λ e. never (rw e at h))
  where
    body : first ≡ header → Lines (next ∷ rest) no_table T → first ∷ next ∷ rest ≡ (header ∷ map line_body (lines_of T)) ++ ([] ∷ [])
    body e r = rw (e, r.bodies, r.more)

-- WHAT LOADED IS WRITTEN BACK TO THE BYTE
pub text-back : (text : Bytes) (T : Table) → load text ≡ loaded T → text_of T ≡ text
unfolding load_within pieces text_of
text-back text T h =
    cases (ltb bounds.bytes (length text))
    (λ e. never (rw e at h))
    (λ e. sym (joined-lines (header ∷ map line_body (lines_of T))) ∙ ap (joined 10) (sym (headed-back bounds (split 10 text) T (rw e at h))) ∙ join-split 10 text)
