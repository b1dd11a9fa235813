-- EVERY PROMISE, as one statement each over texts that load and calls that are made. `called` is what the exported call gives: the contract of `yifgrun_ask`
-- (crate yifgrun, src/lib.rt) says that number, answer buffer and work area are those of `asked`, for every table, question, buffer and work area. So is `called_all`
-- what `yifgrun_ask_all` gives, by `asked_all`, and `tidy_called` what `yifgrun_tidy` gives, by `tidied_call`.
use mathlib.Core.Path.{◌≡◌, refl, sym, ap, ◌∙◌, subst}
use mathlib.Core.Bool.{Bool, true, cond}
use mathlib.Core.List.{List, [], ◌∷◌, ◌++◌, map}
use mathlib.Core.Logic.{◌↔◌}
use mathlib.Core.Option.{Option, none}
use Prim.Native.Nat.{ℕ, ◌≤◌, ◌<◌}
use native.Mathlib.Omega.{arith}
use lib.ListN.{length}
use borrow.Author.Tests.{ltb-true, not-false}
use Rattle.objects.specs.Bounds.{work_words, max_text, program_answer, Bounds, bounds, former_bounds}
use Rattle.objects.specs.Lists.{Bytes, In, empty, flat}
use Rattle.objects.specs.declared.TypeKey.{TypeKey}
use Rattle.objects.specs.declared.PackageKey.{PackageKey}
use Rattle.objects.specs.Table.{Table, size, has_type, has_package, path_of, Member, Struct, is_iface, is_named, kind_at, under}
use Rattle.objects.proofs.ListLaws.{and_l, In-map, map-In-to, map-map}
use Rattle.objects.proofs.KindLaws.{iface-is, under-plain}
use Rattle.text.specs.Bytes.{ascii}
use Rattle.text.specs.Lines.{pieces}
use Rattle.text.proofs.LineLaws.{Free}
use Rattle.rules.specs.Members.{identity_from, identity_of}
use Rattle.rules.specs.Load.{Loaded, refused, loaded, load_within, load, Within, Wider}
use Rattle.rules.specs.Sound.{Ordered}
use Rattle.rules.specs.Question.{Question, ask_s, ask_m, ask_n, ask_i, ask_c, in_table}
use Rattle.rules.specs.Ways.{Selected, searched_as, shortest, select}
use Rattle.rules.specs.Identity.{mismatch, identical}
use Rattle.rules.specs.Comparable.{comparable}
use Rattle.rules.specs.Missing.{Lack, missing}
use Rattle.rules.specs.MethodSet.{method_set}
use Rattle.rules.specs.Answer.{Sel, answer, selected, set, sel_of, says, lack_answer}
use Rattle.rules.specs.Asked.{outcome, asked_within}
use Rattle.rules.specs.AskedAll.{question_lines, reply_bytes, outcome_all}
use Rattle.rules.specs.Typeask.{Input, input_of, typeask}
use Rattle.rules.specs.Rows as rows
use Rattle.rules.specs.Worked.{worked}
use Rattle.rules.specs.Batches.{batches}
use Rattle.rules.proofs.Computed as computed
use Rattle.rules.proofs.Sounds.{loads-sound}
use Rattle.rules.proofs.PathLaws.{package-by-path}
use Rattle.rules.proofs.BoundLaws.{loads-within, load-wider, refused-wider, outcome-wider, asked-wider, asked-all-wider, typeask-wider}
use Rattle.edits.specs.TableText.{text_of}
use Rattle.edits.specs.Tidy.{tidied}
use Rattle.edits.specs.Tidying.{tidy_outcome}
use Rattle.carry.specs.Maps.{Maps}
use Rattle.table_text.proofs.TextBack.{text-back}
use Rattle.ways.specs.MethodLevels.{as_go, set_by_levels}
use Rattle.ways.proofs.LevelSets.{set-by-levels}
use Rattle.walks.specs.Reads.{set_kept}
use Rattle.walks.proofs.Loaded as walks
use Rattle.goscript.specs.Lookup.{Ambiguous, enough_turns}
use Rattle.goscript.specs.MethodSets.{Selection, new_method_set}
use Rattle.goscript.specs.Departures.{less_departed}
use Rattle.goscript.specs.Agrees.{WhichWay}
use Rattle.goscript.specs.Answer.{Unended, goscript_answer, line_of, Answers}
use Rattle.goscript.specs.Answer as returns
use Rattle.goscript.proofs.DepartedGo.{go-in-goscript, goscript-beside-go}
use Rattle.goscript.proofs.AnswersAre as goscript
use Rattle.gospec.specs.Go.{Identical, Comparable}
use Rattle.gospec.specs.Fields.{FieldsDiffer}
use Rattle.gospec.specs.GoSelectors.{OneStar}
use Rattle.gospec.specs.GoImplements.{Implements}
use Rattle.gospec.proofs.FieldsGo.{structs-told-apart}
use Rattle.gospec.proofs.Loaded as go
use Rattle.growth.specs.Grown.{known_as, Numbers, GrownTexts}
use Rattle.growth.specs.Calls.{Lent, called, answers_with, PutAgain, Said}
use Rattle.growth.proofs.Packages.{package-in, package-path, package-only, old-order}
use Rattle.growth.proofs.Promised.{asked_in, outcome-says, call-says, grown-calls}
use Rattle.promises.specs.Demands.{refuses_with, CallGives, called_all, AllAsEach, Answered, CallSays, GoSelects, GoSet, KeptWalks, BesideGo, SameWithin, Reads, InOrder, PackagesKnown, tidy_called, AnswersCarried, TidiedText}
use Rattle.promises.proofs.Calls.{call-gives, all-gives, as-each, table-refused, prints-each}
use Rattle.promises.proofs.Questions.{by-line, behind-table}
use Rattle.promises.proofs.PackageOrder.{in_order}
use Rattle.promises.proofs.Tidying.{tidy-gives, answers-carried, tidy-room, tidy-long, tidy-refused}

-- ---- DEMAND 1: what every call gives

pub every_call : (table : Bytes) (c : Lent) → CallGives (outcome table c.line (length c.buffer)) c (called table c)
every_call = call-gives

-- .. with many questions
pub every-call-all : (table : Bytes) (c : Lent) → CallGives (outcome_all table c.line (length c.buffer)) c (called_all table c)
every-call-all = all-gives

-- .. that tidies
pub every-call-tidy : (table : Bytes) (c : Lent) → CallGives (tidy_outcome table (length c.buffer)) c (tidy_called table c)
every-call-tidy = tidy-gives

-- ---- many questions in one call

-- each is answered as it is alone
pub all-as-each : (text : Bytes) (T : Table) → load text ≡ loaded T → AllAsEach text (reply_bytes T)
all-as-each = as-each

-- the questions of a text are its lines, and what stands behind the last newline unless it is empty
pub questions-by-line : (lines : List Bytes) (last : Bytes) → ((l : Bytes) → In l lines → Free 10 l) → Free 10 last
    → question_lines (flat (λ l. l ++ (10 ∷ [])) lines ++ last) ≡ lines ++ cond (empty last) [] (last ∷ [])
questions-by-line = by-line

-- a refused table is refused as it is to one question, whatever is asked
pub all-refused : (text : Bytes) (n line : ℕ) → load text ≡ refused n line → (c : Lent) → (called_all text c ≡ called text c) × (work_words ≤ length c.work → called text c ≡ refuses_with n line c)
all-refused = table-refused

-- The program prints the same bytes for the table and the questions that its input has, if the input is not too long (2) and no answer is longer than its buffer.
pub prints-as-all : (input : Bytes) (i : Input) (T : Table) → input_of (pieces input) ≡ i → length input ≤ max_text → load i.table ≡ loaded T
    → ((q : Bytes) → In q i.questions → length (reply_bytes T q) ≤ program_answer) → typeask input ≡ flat (reply_bytes T) i.questions
prints-as-all = prints-each

-- So what it prints for a table that loads, a line `Q` and questions is what a call with these questions answers, with room for it.
pub prints-as-called : (table : Bytes) (c : Lent) (T : Table) → load table ≡ loaded T → (input : Bytes) → input ≡ table ++ (ascii "Q\n" ++ c.line) → length input ≤ max_text
    → ((q : Bytes) → In q (question_lines c.line) → length (reply_bytes T q) ≤ program_answer)
    → work_words ≤ length c.work → length (typeask input) ≤ length c.buffer → called_all table c ≡ answers_with (typeask input) c
prints-as-called table c T loads input e fits short words room =
    let reads = ap (λ text. input_of (pieces text)) e ∙ behind-table c.line table T loads in
    let same = prints-each input _ T reads fits loads short in
    rw same ((as-each table T loads).all c words (rw same at room))

-- ---- DEMAND 2: what a call says

-- M of every table that loads and every type of it is the Go spec's method set, whether it is asked for or not.
pub set-is-go : (text : Bytes) (T : Table) → load text ≡ loaded T → (t : TypeKey) → t.0 < size T → GoSet T t (map (sel_of T) (method_set T t))
set-is-go text T loads t in0 =
    let M = method_set T t in
    record {
      lists = λ ps m. let both = go.method-set-is-go text T loads t in0 ps m in (
        λ x. let w = In-map (sel_of T) M x.0 x.1 in
            both.0 (record { way = w.0; there = w.1; member = ap (λ (s : Sel). s.member) (sym w.2) ∙ x.2; places = ap (λ (s : Sel). s.places) (sym w.2) ∙ x.3 }),
        λ x. let l = both.1 x in (sel_of T l.way, map-In-to (sel_of T) M l.way l.there, l.member, l.places),
      );
      ascends = rw (map-map (λ (s : Sel). identity_of T s.member) (sel_of T) M) (go.set-ascends text T loads t in0);
    }

module _ (text : Bytes) (c : Lent) (T : Table) where
  in-table : (q : Question) → Answered text c T q → in_table T q ≡ true
  in-table q h = asked_in T c.line q h.asks

  in-range : (t : TypeKey) → has_type T t ≡ true → t.0 < size T
  in-range t h = ltb-true t.0 (size T) h

  -- the rules' answer
  pub call-answers : (q : Question) → Answered text c T q → CallSays text c (answer T q)
  call-answers q h = call-says text _ c (outcome-says text c.line (length c.buffer) T q h.loads h.asks h.second h.fits) h.words

  -- every answer is what goscript's function for the question returns, M's but for the two departures (goscript/specs/Departures.antt), whatever a loop of it would give that
  -- did not end: they all end
  pub answers-are-goscripts : (q : Question) → Answered text c T q → (out : Unended) → CallSays text c (answer T q) × Answers T q (goscript_answer out T q) (answer T q)
  answers-are-goscripts q h out = (call-answers q h, goscript.answers-are-goscripts T (loads-sound text T h.loads) q (in-table q h) out)

  -- S: "Selectors" of the Go spec
  pub selection-is-go : (t : TypeKey) (a : Bool) (pkg : Option PackageKey) (name : Bytes) → Answered text c T (ask_s t a pkg name)
      → (r : Selected) × CallSays text c (selected r) × GoSelects T t a pkg name r
  unfolding answer
  selection-is-go t a pkg name h =
      let in0 = in-range t (and_l (has_type T t) (has_package T pkg) (in-table (ask_s t a pkg name) h)) in
      let says-it : GoSelects T t a pkg name (select T (identity_from T pkg name) t a) = record { gives = go.selection-is-go text T h.loads t in0 a pkg name; alone = go.go-is-selection text T h.loads t in0 a pkg name } in
      (select T (identity_from T pkg name) t a, call-answers (ask_s t a pkg name) h, says-it)

  -- M: "Method sets"
  pub method-set-is-go : (t : TypeKey) → Answered text c T (ask_m t) → (r : List Sel) × CallSays text c (set r) × GoSet T t r
  unfolding answer
  method-set-is-go t h = (map (sel_of T) (method_set T t), call-answers (ask_m t) h, set-is-go text T h.loads t (in-range t (in-table (ask_m t) h)))

  -- I: "Type identity"
  pub identity-is-go : (x y : TypeKey) → Answered text c T (ask_i x y) → (b : Bool) × CallSays text c (says b) × ((b ≡ true) ↔ Identical T x y)
  unfolding answer
  identity-is-go x y h = (identical T x y, call-answers (ask_i x y) h, go.identity-is-go text T h.loads x y)

  -- C: "Comparison operators"
  pub comparability-is-go : (t : TypeKey) → Answered text c T (ask_c t) → (b : Bool) × CallSays text c (says b) × ((b ≡ true) ↔ Comparable T t)
  unfolding answer
  comparability-is-go t h = (comparable T t, call-answers (ask_c t) h, go.comparability-is-go text T h.loads t)

  -- N with s 1: "Implementing an interface"
  pub satisfied-is-go : (t i : TypeKey) → Answered text c T (ask_n t i true) → (r : Option Lack) × CallSays text c (lack_answer r) × ((r ≡ none) ↔ Implements T (OneStar T) t i)
  unfolding answer
  satisfied-is-go t i h =
      let k = in-table (ask_n t i true) h in
      let f = iface-is (kind_at T i) (not-false (is_iface (kind_at T i)) h.second) in
      let own : under T i ≡ i = under-plain T i (ap is_named f.1) in
      (missing T t i true, call-answers (ask_n t i true) h, go.satisfied-is-go text T h.loads t i (in-range t (and_l (has_type T t) (has_type T i) k)) f.0 (ap (kind_at T) own ∙ f.1))

-- ---- DEMAND 3: growth, one claim about two libraries

pub growth-promise : (a b : Bytes) (g : GrownTexts a b) (q : Question) (old new : Lent) → PutAgain g q old new → Said g q old new
growth-promise = grown-calls

-- ---- "These eleven answers are established of the rules themselves, as rows of one table"

pub worked-answers : map rows.called worked ≡ map rows.owed worked
worked-answers = computed.worked-answers

-- .. and calls with many questions, made of them
pub worked-batches : map rows.called_all batches ≡ map rows.owed_all batches
worked-batches = computed.worked-batches

-- ---- document 02, point 1: both ways shown

-- goscript's own way is one of the two: the first if another shortest way ends in a type identical to the first's, else the second
pub which-way : (text : Bytes) (c : Lent) (T : Table) (t : TypeKey) (a : Bool) (pkg : Option PackageKey) (name : Bytes) → Answered text c T (ask_s t a pkg name)
    → (out : Unended) (indices : List ℕ) → goscript_answer out T (ask_s t a pkg name) ≡ returns.selected (Ambiguous indices)
    → (r : Selected) × CallSays text c (selected r) × WhichWay T (shortest T (identity_from T pkg name) (searched_as T t)) indices r
unfolding answer
which-way text c T t a pkg name h out indices e =
    let q = ask_s t a pkg name in
    (select T (identity_from T pkg name) t a, call-answers text c T q h, goscript.which-way T (loads-sound text T h.loads) t a pkg name (in-table text c T q h) out indices e)

-- S reads the kept walks, at most two to each type, and no others
pub kept-walks : (text : Bytes) (T : Table) → load text ≡ loaded T → (t : TypeKey) → t.0 < size T → KeptWalks T t
kept-walks text T h t in0 = record { two_each = walks.two-each text T h t in0; few = walks.rows_few text T h t in0; read = walks.searched-kept text T h t in0 }

-- ---- document 02, point 2: a field covers what lies below it

-- M and goscript's `MethodSet::new`: the call says goscript's list without the two departures, in its order; and where that list parts from the Go spec's method set
pub method-set-beside-goscript : (text : Bytes) (c : Lent) (T : Table) (t : TypeKey) → Answered text c T (ask_m t) → (out : Unended)
    → (l : List Selection) × (goscript_answer out T (ask_m t) ≡ returns.set l) × CallSays text c (set (map line_of (less_departed T t l))) × BesideGo T t l
unfolding answer goscript_answer
method-set-beside-goscript text c T t h out =
    let sound = loads-sound text T h.loads in
    let in0 = in-range text c T t (in-table text c T (ask_m t) h) in
    let turns = enough_turns T in
    let l = new_method_set T out.methods turns t in
    let less : map (sel_of T) (method_set T t) ≡ map line_of (less_departed T t l) = goscript.lines-less T sound t in0 out.methods in (
      l,
      refl,
      subst (λ r. CallSays text c (set r)) less (call-answers text c T (ask_m t) h),
      record {
        all = go-in-goscript T sound t in0 out.methods turns (omega arith);
        besides = goscript-beside-go T sound t in0 out.methods turns (omega arith);
      },
    )

-- M is document 01's levels with the two changes of point 2, for every table
pub sets-by-levels : (T : Table) (t : TypeKey) → method_set T t ≡ set_by_levels as_go T t
sets-by-levels = set-by-levels

-- and is read off the kept walks
pub kept_sets : (text : Bytes) (T : Table) → load text ≡ loaded T → (t : TypeKey) → t.0 < size T → set_kept T t ≡ method_set T t
kept_sets text T h t in0 = walks.set-kept text T h t in0

-- ---- document 02, point 3: names before types in a struct

-- Structs whose fields differ in the count, the embedded marks, the names or the tags are exactly those that are told apart whatever the types of their fields
-- are. Of such types the contract of `identical_impl` (crate typ, src/identical.rt) says `AtOnce`: the answer is no, and every mark and label is as it was,
-- whatever comparison the two are a part of.
pub names-before-types : (T : Table) (x y : TypeKey) (fs gs : List Member) → kind_at T x ≡ Struct fs → kind_at T y ≡ Struct gs → FieldsDiffer T fs gs ↔ (mismatch T (record { left = x; right = y }) ≡ true)
names-before-types = structs-told-apart

-- ---- document 02, point 4: 512 types

-- a text that loads within bounds has no more bytes, types and members than they say, whichever they are
pub within-bounds : (b : Bounds) (text : Bytes) (T : Table) → load_within b text ≡ loaded T → Within b text T
within-bounds = loads-within

-- larger bounds change nothing for what loads, whichever two they are
pub wider-bounds : (b b' : Bounds) → Wider b b' → SameWithin b b'
wider-bounds b b' w = record {
  loads = load-wider b b' w;
  refuses = refused-wider b b' w;
  due = outcome-wider b b' w;
  gives = λ text T h c. asked-wider b b' w text T h c.line c.buffer c.work;
  gives_all = λ text T h c. asked-all-wider b b' w text T h c.line c.buffer c.work;
  prints = typeask-wider b b' w;
}

-- "An old table loads as before, and its answers agree": within document 01's bounds and within those in force, with 14 (point 5) tried in both
pub old-tables : SameWithin former_bounds bounds
old-tables = wider-bounds former_bounds bounds (record { bytes = omega arith; types = omega arith; members = omega arith })

-- of the call: what it gives within document 01's bounds it gives now
pub old-calls : (text : Bytes) (T : Table) → load_within former_bounds text ≡ loaded T → (c : Lent) → called text c ≡ asked_within former_bounds text c.line c.buffer c.work
old-calls = old-tables.gives

-- ---- document 02, point 5: packages by path

-- 14, for every text whose lines pass 2 to 6: where it is due, at which line, and that all else is as document 01 has it
pub packages-in-order : (text : Bytes) (T : Table) → Reads text T → InOrder text T
packages-in-order = in_order

-- "so a path no longer recurs": two packages of a table that loads are one exactly if their numbers are
pub packages-apart : (text : Bytes) (T : Table) → load text ≡ loaded T → (p q : Option PackageKey) → has_package T p ≡ true → has_package T q ≡ true → (path_of T p ≡ path_of T q) ↔ (p ≡ q)
packages-apart text T h = package-by-path T (loads-sound text T h).ordered

-- "an old package is then known by its path": the two texts determine its number
pub packages-known : (a b : Bytes) (g : GrownTexts a b) → PackagesKnown g
packages-known a b g = record {
  kept = λ p h. (package-in n A B g.grown p h, package-path n A B g.grown p h);
  only = package-only n A B new_ordered g.grown;
  order = old-order n A B new_ordered g.grown (loads-sound a A g.old_loads).ordered;
  determined = λ h p k. known h p k ∙ sym (g.grown.package_known p k);
}
  where
    n : Numbers
    n = g.numbers

    A : Table
    A = g.old

    B : Table
    B = g.new

    new_ordered : Ordered B
    new_ordered = (loads-sound b B g.new_loads).ordered

    table_or : Loaded → Table
    table_or (refused m line) = A
    table_or (loaded T) = T

    known : (h : GrownTexts a b) (p : PackageKey) → p.0 < length A.packages → h.numbers.pk p ≡ known_as A B p
    known h p k =
        let old : h.old ≡ A = ap table_or (sym h.old_loads ∙ g.old_loads) in
        let new : h.new ≡ B = ap table_or (sym h.new_loads ∙ g.new_loads) in
        subst (λ U. h.numbers.pk p ≡ known_as U B p) old (subst (λ U. h.numbers.pk p ≡ known_as h.old U p) new (h.grown.package_known p (rw old k)))

-- ---- document 02, point 6: a tidy writer

-- "Write a loaded table out again with only the least-numbered type of each set of identical types": with room for it the call gives the text of the tidied table, of
-- which all is true that is promised
pub tidies : (text : Bytes) (T : Table) → load text ≡ loaded T → (c : Lent) → work_words ≤ length c.work → length (text_of (tidied T)) ≤ length c.buffer
    → (tidy_called text c ≡ answers_with (text_of (tidied T)) c) × TidiedText text (text_of (tidied T))
tidies = tidy-room

-- "If the output buffer is too short, refusal 13 is given and nothing is written."
pub tidies-not : (text : Bytes) (T : Table) → load text ≡ loaded T → (c : Lent) → work_words ≤ length c.work → length c.buffer < length (text_of (tidied T)) → tidy_called text c ≡ refuses_with 13 0 c
tidies-not = tidy-long

-- a refused table is refused as it is to a question
pub tidies-refused : (text : Bytes) (n line : ℕ) → load text ≡ refused n line → (c : Lent) → work_words ≤ length c.work → tidy_called text c ≡ refuses_with n line c
tidies-refused = tidy-refused

-- the one theorem about maps of tables of which this is an instance: whatever maps the types and packages of one text's table into another's carries every answer
pub answers-along-maps : (f : TypeKey → TypeKey) (p : PackageKey → PackageKey) (a b : Bytes) (T U : Table) → load a ≡ loaded T → load b ≡ loaded U → Maps f p T U → AnswersCarried f p a b T U
answers-along-maps = answers-carried

-- what loaded is written back to the byte: the text of a table is the one text that loads to it
pub written_back : (text : Bytes) (T : Table) → load text ≡ loaded T → text_of T ≡ text
written_back = text-back
