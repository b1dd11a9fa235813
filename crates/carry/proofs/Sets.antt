-- M: the method set of a type of U is that of the type of T that it is like, way by way in the same order. Of each name the shortest ways decide, which are alike
-- (proofs/Selecting.antt); the names of the two tables differ only in names that give nothing.
use mathlib.Core.Path.{◌≡◌, refl, sym, ap, ap₂, ◌∙◌, subst}
use mathlib.Core.Bool.{Bool, true, false, not, ◌&&◌, ◌||◌}
use mathlib.Core.List.{List, [], ◌∷◌, map}
use mathlib.Core.Logic.{inl, inr}
use Prim.Native.Nat.{ℕ}
use Rattle.objects.specs.Lists.{flat, empty, In}
use Rattle.objects.proofs.ListLaws.{cases, clash, map-map}
use Rattle.objects.proofs.PairLaws.{AllPairs, pairs-map}
use Rattle.objects.specs.declared.TypeKey.{TypeKey}
use Rattle.objects.specs.Table.{Table, Member, is_method, has_ptr, bare, named_pointer}
use Rattle.text.specs.Bytes.{is_blank}
use Rattle.rules.specs.Members.{Identity, identity_of, identity_from}
use Rattle.rules.specs.Ways.{Way, member_of, shortest}
use Rattle.rules.specs.MethodSet.{method_flag, callable, only_method, method_names, empty_set, method_set}
use Rattle.rules.specs.Answer.{Sel, sel_of}
use Rattle.rules.specs.Sound.{Sound}
use Rattle.rules.proofs.MemberLaws.{same_id-true}
use Rattle.rules.proofs.MethodNames.{NamesMethod, names-listed, names-ascend}
use Rattle.ways.specs.MethodLevels.{Standing, absent, hidden, given, listed, as_go, standing}
use Rattle.ways.proofs.MemberSorts.{owned-member}
use Rattle.ways.proofs.MethodLevels.{callable-method, given-way}
use Rattle.ways.proofs.LevelSets.{standing-shortest}
use Rattle.ways.proofs.NamesInOrder.{gives, same-flat}
use Rattle.carry.specs.Maps.{Likeness}
use Rattle.carry.specs.Carry.{CarriedWay, carry_sel}
use Rattle.carry.proofs.Pairing.{pairs-append, pairs-empty, pairs-equal}
use Rattle.carry.proofs.Lines.{bare-kept, pointer-kept, iface-kept, named-pointer-kept}
use Rattle.carry.proofs.Walking.{Alongside, alongside-carried}
use Rattle.carry.proofs.Selecting.{Ended, ended-counterpart, places_same, shortest-kept}

-- ---- names

-- what a name gives
abbrev held : Table → TypeKey → Identity → List Way
held T t q = only_method T (shortest T q t)

module _ (T : Table) (sound : Sound T) where
  -- a method's name is not blank
  name-shown : (q : Identity) → NamesMethod T q → is_blank q.name ≡ false
  unfolding identity_of identity_from
  name-shown q n = ap (λ (i : Identity). is_blank i.name) n.named ∙ sound.method_named n.type n.method n.stands n.is_one

  -- a name that gives something is a method's
  given-named : (t : TypeKey) (q : Identity) → gives (held T t) q ≡ true → NamesMethod T q
  given-named t q h = go (standing as_go T q t) refl (ap (λ l. not (empty l)) (standing-shortest T t q) ∙ h)
    where
      go : (s : Standing) → standing as_go T q t ≡ s → not (empty (listed (standing as_go T q t))) ≡ true → NamesMethod T q
      go absent e n = clash n (rw e)
      go hidden e n = clash n (rw e)
      go (given w) e n =
          let g = given-way as_go T q t w e in
          let o = owned-member T sound w.walk.at w.last g.1.owns in
          record { type = o.0; method = member_of w; stands = o.1; is_one = callable-method T w g.2; named = sym (same_id-true (identity_of T (member_of w)) q g.1.matches) }

-- ---- one name

module _ (R : TypeKey → TypeKey → Type 0) (T U : Table) (g : Likeness R T U) where
  flag-kept : (w v : Way) → Alongside R T U w v → method_flag U v ≡ method_flag T w
  unfolding method_flag
  flag-kept w v a = ap₂ (λ x y. x || y) a.walk.flag (iface-kept R T U g w.walk.at v.walk.at a.walk.at)

  callable-kept : (w v : Way) → Alongside R T U w v → callable U v ≡ callable T w
  unfolding callable
  callable-kept w v a =
      let e = a.last.says.entity in
      ap₂ (λ x y. x && not y) (ap is_method e) (ap₂ (λ x y. x && not y) (ap has_ptr e) (flag-kept w v a))

  only_kept : (s z : TypeKey) (ws vs : List Way) → AllPairs (Ended R T U s z) ws vs → AllPairs (Ended R T U s z) (only_method T ws) (only_method U vs)
  unfolding only_method
  only_kept s z [] [] a = tt
  only_kept s z [] (v ∷ vs) a = absurd a
  only_kept s z (w ∷ ws) [] a = absurd a
  only_kept s z (w ∷ []) (v ∷ []) a = cases (callable T w) (λ e. rw (callable-kept w v a.0.alike, e) (a.0, tt)) (λ e. rw (callable-kept w v a.0.alike, e) tt)
  only_kept s z (w ∷ []) (v ∷ y ∷ vs) a = absurd a.1
  only_kept s z (w ∷ x ∷ ws) (v ∷ []) a = absurd a.1
  only_kept s z (w ∷ x ∷ ws) (v ∷ y ∷ vs) a = tt

-- ---- all names

module _ (R : TypeKey → TypeKey → Type 0) (T U : Table) (sound : Sound T) (sound_u : Sound U) (g : Likeness R T U) (t u : TypeKey) (r : R t u) where
  abbrev Both : Way → Way → Type 0
  Both = Ended R T U (bare T t) (bare U u)

  name-kept : (q : Identity) → is_blank q.name ≡ false → AllPairs Both (held T t q) (held U u q)
  name-kept q nb = only_kept R T U g (bare T t) (bare U u) (shortest T q t) (shortest U q u) (shortest-kept R T U sound sound_u g q nb t u r)

  flat-kept : (qs : List Identity) → ((q : Identity) → In q qs → is_blank q.name ≡ false) → AllPairs Both (flat (held T t) qs) (flat (held U u) qs)
  flat-kept [] h = tt
  flat-kept (q ∷ qs) h = pairs-append Both (held T t q) (flat (held T t) qs) (held U u q) (flat (held U u) qs) (name-kept q (h q (inl refl))) (flat-kept qs (λ p i. h p (inr i)))

  -- a name that U gives is a method's in both tables
  named_new : (q : Identity) → gives (held U u) q ≡ true → In q (method_names U)
  named_new q e = (names-listed U q).1 (given-named U sound_u u q e)

  named-old : (q : Identity) → gives (held U u) q ≡ true → In q (method_names T)
  named-old q e = (names-listed T q).1 (given-named T sound t q (ap not (pairs-empty Both (held T t q) (held U u q) (name-kept q (name-shown U sound_u q (given-named U sound_u u q e)))) ∙ e))

  all-kept : AllPairs Both (flat (held T t) (method_names T)) (flat (held U u) (method_names U))
  all-kept =
      subst (AllPairs Both (flat (held T t) (method_names T))) (same-flat (held U u) (method_names T) (method_names U) (names-ascend T sound) (names-ascend U sound_u) named_new named-old)
      (flat-kept (method_names T) (λ q i. name-shown T sound q ((names-listed T q).0 i)))

  empty-kept : empty_set U u ≡ empty_set T t
  empty-kept = ap₂ (λ x y. x || y) (named-pointer-kept R T U g t u r) (ap₂ (λ x y. x && y) (pointer-kept R T U g t u r) (iface-kept R T U g (bare T t) (bare U u) (bare-kept R T U g t u r)))

  set_ended : AllPairs Both (method_set T t) (method_set U u)
  unfolding method_set
  set_ended = cases (empty_set T t) (λ e. rw (empty-kept, e) tt) (λ e. rw (empty-kept, e) all-kept)

  -- THE METHOD SET IS KEPT
  pub set-kept : AllPairs (CarriedWay T U R) (method_set T t) (method_set U u)
  set-kept = pairs-map Both (CarriedWay T U R) (method_set T t) (method_set U u) (λ w v i j c. alongside-carried R T U w v c.alike) set_ended

  -- .. and its lines `sel`
  pub sels-kept : map (sel_of U) (method_set U u) ≡ map (carry_sel T U t u) (map (sel_of T) (method_set T t))
  unfolding method_set
  sels-kept =
      cases (named_pointer T t)
      (λ e. rw (named-pointer-kept R T U g t u r, e))
      (λ e. pairs-equal Both (λ w. carry_sel T U t u (sel_of T w)) (sel_of U) (line e) (method_set T t) (method_set U u) set_ended ∙ sym (map-map (carry_sel T U t u) (sel_of T) (method_set T t)))
    where
      ap₃ : {m n : Member} {a b : Bool} {k l : List ℕ} → m ≡ n → a ≡ b → k ≡ l → ◌≡◌ {A = Sel} (record { member = m; flag = a; places = k }) (record { member = n; flag = b; places = l })
      ap₃ x y z = rw (x, y, z)

      line : named_pointer T t ≡ false → (w v : Way) → Both w v → sel_of U v ≡ carry_sel T U t u (sel_of T w)
      line e w v c = rw (e, named-pointer-kept R T U g t u r, e) (ap₃ (ended-counterpart R T U (bare T t) (bare U u) w v c) (flag-kept R T U g w v c.alike) (places_same R T U w v c.alike))
