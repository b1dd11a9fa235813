-- THE THEOREM: along a map of tables (specs/Maps.antt) every answer but V's is the old one, carried (specs/Carry.antt).
use mathlib.Core.Path.{◌≡◌, refl, ap, ◌∙◌, subst}
use mathlib.Core.Bool.{true, cond, not}
use mathlib.Core.List.{List}
use mathlib.Core.Option.{Option, none, some}
use Prim.Native.Nat.{ℕ, ◌<◌}
use lib.Dec.{eqb}
use lib.ListN.{length}
use borrow.Author.Tests.{ltb-true, lt-ltb}
use Rattle.objects.specs.Lists.{Bytes, mapped, In}
use Rattle.objects.proofs.ListLaws.{and_l, and_r}
use Rattle.objects.proofs.BoolLaws.{and_i, iff-eq}
use Rattle.objects.proofs.KeyLaws.{same_key, same_self}
use Rattle.objects.proofs.KindLaws.{if-In}
use Rattle.objects.proofs.PairLaws.{AllPairs, pairs-map}
use Rattle.objects.specs.declared.TypeKey.{TypeKey}
use Rattle.objects.specs.declared.PackageKey.{PackageKey}
use Rattle.objects.specs.Table.{Table, size, same_type, Member, is_struct, is_iface, is_named, refs, members_of, fields_of, declared_of, all_methods_of, has_type, has_package, kind_at, path_of}
use Rattle.text.specs.Bytes.{exported}
use Rattle.rules.specs.Members.{Identity, identity_from}
use Rattle.rules.specs.Ways.{walks, ways, select}
use Rattle.rules.specs.MethodSet.{method_set}
use Rattle.rules.specs.Missing.{Lack, missing}
use Rattle.rules.specs.Question.{Question, ask_s, ask_m, ask_n, ask_i, ask_c, ask_v, in_table}
use Rattle.rules.specs.Asked.{wrong_second}
use Rattle.rules.specs.Answer.{selected, set, says, lack_answer, answer}
use Rattle.rules.specs.Sound.{Sound, MemberOf}
use Rattle.carry.specs.Maps.{CarriedMember, CarriedMembers, CarriedKind, Likeness, Maps}
use Rattle.edits.specs.Carried.{carry_question}
use Rattle.carry.specs.Carry.{CarriedWalk, CarriedWay, carry_lack, carry_found, carry_answer}
use Rattle.carry.proofs.Identities.{identical-kept}
use Rattle.carry.proofs.Compares.{comparable-kept}
use Rattle.carry.proofs.Walking.{Alongside, alongside-carried, walks-kept, ways-kept}
use Rattle.carry.proofs.Selecting.{select_kept}
use Rattle.carry.proofs.Lacking.{missing-kept}
use Rattle.carry.proofs.Sets.{set-kept, sels-kept}

-- ---- a map of tables makes types alike

module _ (f : TypeKey → TypeKey) (p : PackageKey → PackageKey) (T U : Table) (sound : Sound T) (g : Maps f p T U) where
  -- u is what t of T becomes
  abbrev pub Becomes : TypeKey → TypeKey → Type 0
  Becomes t u = (t.0 < size T) × (u ≡ f t)

  member-becomes : (t : TypeKey) (ms ns : List Member) → ((m : Member) → In m ms → MemberOf T t m) → CarriedMembers (λ a b. b ≡ f a) T U ms ns → CarriedMembers Becomes T U ms ns
  member-becomes t ms ns h =
      pairs-map (CarriedMember (λ a b. b ≡ f a) T U) (CarriedMember Becomes T U) ms ns (λ m n i j c. record { identity = c.identity; entity = c.entity; type = (sound.typed t m (h m i), c.type) })

  line-becomes : (t : TypeKey) → t.0 < size T → CarriedKind Becomes T U t (kind_at T t) (kind_at U (f t))
  line-becomes t h =
      let c = g.line t h in
      let k = kind_at T t in
      let l = kind_at U (f t) in
      record {
        kind = c.kind;
        number = c.number;
        refers = pairs-map (λ a b. b ≡ f a) Becomes (refs k) (refs l) (λ a b i j e. (sound.refers t a i, e)) c.refers;
        declared = member-becomes t (declared_of k) (declared_of l) (λ m i. (if-In (is_named k) (members_of k) m i).1) c.declared;
        fields = member-becomes t (fields_of k) (fields_of l) (λ m i. (if-In (is_struct k) (members_of k) m i).1) c.fields;
        methods = member-becomes t (all_methods_of k) (all_methods_of l) (λ m i. (if-In (is_iface k) (members_of k) m i).1) c.methods;
      }

  named-once : (t x : TypeKey) → t.0 < size T → x.0 < size T → is_named (kind_at T t) ≡ true → same_type (f t) (f x) ≡ same_type t x
  named-once t x ht hx e =
      iff-eq (same_type (f t) (f x)) (same_type t x)
      (λ s. subst (λ z. same_type t z ≡ true) (g.named_own t x ht hx e (same_key (f t) (f x) s)) (same_self t))
      (λ s. subst (λ z. same_type (f t) (f z) ≡ true) (same_key t x s) (same_self (f t)))

  pub map-likens : Likeness Becomes T U
  map-likens = record {
    old = λ t u r. r.0;
    new = λ t u r. rw r.1 (g.type_in t r.0);
    line = λ t u r. rw r.1 (line-becomes t r.0);
    named = λ t u x v r s e. rw (r.1, s.1) (named-once t x r.0 s.0 e);
  }

  -- ---- names

  path-kept : (k : Option PackageKey) → has_package T k ≡ true → path_of U (mapped p k) ≡ path_of T k
  unfolding path_of
  path-kept none h = refl
  path-kept (some k) h = g.path k (ltb-true k.0 (length T.packages) h)

  name-kept : (k : Option PackageKey) (name : Bytes) → has_package T k ≡ true → identity_from U (mapped p k) name ≡ identity_from T k name
  unfolding identity_from
  name-kept k name h = ap (λ (z : Option Bytes). record { name = name; path = cond (exported name) none z }) (path-kept k h)

  -- ---- a question of T is one of U

  known : (t : TypeKey) → has_type T t ≡ true → t.0 < size T
  known t = ltb-true t.0 (size T)

  type-known : (t : TypeKey) → has_type T t ≡ true → has_type U (f t) ≡ true
  type-known t h = lt-ltb (f t).0 (size U) (g.type_in t (known t h))

  package-known : (k : Option PackageKey) → has_package T k ≡ true → has_package U (mapped p k) ≡ true
  package-known none h = refl
  package-known (some k) h = lt-ltb (p k).0 (length U.packages) (g.package_in k (ltb-true k.0 (length T.packages) h))

  pub question-known : (q : Question) → in_table T q ≡ true → in_table U (carry_question f p q) ≡ true
  question-known (ask_s t a pkg name) h = and_i (type-known t (and_l (has_type T t) (has_package T pkg) h)) (package-known pkg (and_r (has_type T t) (has_package T pkg) h))
  question-known (ask_m t) h = type-known t h
  question-known (ask_c t) h = type-known t h
  question-known (ask_n t i s) h = and_i (type-known t (and_l (has_type T t) (has_type T i) h)) (type-known i (and_r (has_type T t) (has_type T i) h))
  question-known (ask_i x y) h = and_i (type-known x (and_l (has_type T x) (has_type T y) h)) (type-known y (and_r (has_type T x) (has_type T y) h))
  question-known ask_v h = refl

  -- refusal 12 is given for it exactly if it was
  pub second-kept : (q : Question) → in_table T q ≡ true → wrong_second U (carry_question f p q) ≡ wrong_second T q
  second-kept (ask_s t a pkg name) h = refl
  second-kept (ask_m t) h = refl
  second-kept (ask_c t) h = refl
  second-kept (ask_n t i s) h = ap (λ k. not (eqb k 9)) (g.line i (known i (and_r (has_type T t) (has_type T i) h))).kind
  second-kept (ask_i x y) h = refl
  second-kept ask_v h = refl

-- ---- the answers

lack-carried : (T U : Table) (i j : TypeKey) (l : Option Lack) → lack_answer (mapped (carry_lack T U i j) l) ≡ carry_found T U i j (lack_answer l)
lack-carried T U i j none = refl
lack-carried T U i j (some l) = refl

module _ (f : TypeKey → TypeKey) (p : PackageKey → PackageKey) (T U : Table) (sound : Sound T) (sound_u : Sound U) (g : Maps f p T U) where
  abbrev R : TypeKey → TypeKey → Type 0
  R = Becomes f p T U sound g

  alike : Likeness R T U
  alike = map-likens f p T U sound g

  becomes : (t : TypeKey) → has_type T t ≡ true → R t (f t)
  becomes t h = (ltb-true t.0 (size T) h, refl)

  -- walks and ways, one for one in their order
  walks-carried : (t : TypeKey) → has_type T t ≡ true → (d : ℕ) → AllPairs (CarriedWalk T U R) (walks T t d) (walks U (f t) d)
  walks-carried t h d = walks-kept R T U sound alike t (f t) (becomes t h) d

  ways-carried : (q : Identity) (t : TypeKey) → has_type T t ≡ true → (d : ℕ) → AllPairs (CarriedWay T U R) (ways T q t d) (ways U q (f t) d)
  ways-carried q t h d =
      pairs-map (Alongside R T U) (CarriedWay T U R) (ways T q t d) (ways U q (f t) d) (λ w v i j a. alongside-carried R T U w v a)
      (ways-kept R T U sound alike q t (f t) (becomes t h) d)

  sets-carried : (t : TypeKey) → has_type T t ≡ true → AllPairs (CarriedWay T U R) (method_set T t) (method_set U (f t))
  sets-carried t h = set-kept R T U sound sound_u alike t (f t) (becomes t h)

  -- ANSWERS ARE CARRIED
  pub carried : (q : Question) → in_table T q ≡ true → (q ≡ ask_v → ⊥) → answer U (carry_question f p q) ≡ carry_answer f T U q (answer T q)
  unfolding answer
  carried (ask_s t a pkg name) h v =
      ap selected (ap (λ q. select U q (f t) a) (name-kept f p T U sound g pkg name (and_r (has_type T t) (has_package T pkg) h))
      ∙ select_kept R T U sound sound_u alike (identity_from T pkg name) t (f t) (becomes t (and_l (has_type T t) (has_package T pkg) h)) a)
  carried (ask_m t) h v = ap set (sels-kept R T U sound sound_u alike t (f t) (becomes t h))
  carried (ask_c t) h v = ap says (comparable-kept R T U sound sound_u alike t (f t) (becomes t h))
  carried (ask_n t i s) h v =
      ap lack_answer
      (missing-kept R T U sound sound_u alike t (f t) i (f i) (becomes t (and_l (has_type T t) (has_type T i) h)) (becomes i (and_r (has_type T t) (has_type T i) h)) s)
      ∙ lack-carried T U i (f i) (missing T t i s)
  carried (ask_i x y) h v = ap says (identical-kept R T U alike sound sound_u x (f x) y (f y) (becomes x (and_l (has_type T x) (has_type T y) h)) (becomes y (and_r (has_type T x) (has_type T y) h)))
  carried ask_v h v = absurd (v refl)
