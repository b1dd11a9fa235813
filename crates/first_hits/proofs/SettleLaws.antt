-- One more method is met, whatever was met before: its name has a key, and is hidden or not; or it gets a key of its own.
use mathlib.Core.Path.{◌≡◌, refl, sym, ap, ◌∙◌, subst}
use mathlib.Core.Bool.{Bool, true, false, cond, ◌||◌}
use mathlib.Core.List.{List, [], ◌∷◌, ◌++◌, map, append-nil, append_assoc}
use mathlib.Core.Logic.{◌≢◌}
use Prim.Native.Nat.{ℕ, ◌<◌, ◌≤◌}
use lib.ListN.{length, take, drop, set}
use Rattle.objects.specs.Lists.{Bytes, any, keep, In, Sorted}
use Rattle.objects.specs.Table.{bit}
use Rattle.objects.specs.Rows.{Words, member_count_of}
use Rattle.objects.proofs.ListLaws.{cases, clash, either, or-false, any_append, keep_append, keep-none, any_none, In-map, map-In-to}
use Rattle.objects.proofs.PartLaws.{all_snoc}
use Rattle.objects.proofs.Pigeons.{Distinct, pigeons}
use Rattle.text.specs.Bytes.{below_bytes}
use Rattle.text.proofs.ByteLaws.{below_irrefl}
use Rattle.rules.proofs.MemberLaws.{same_id-true, same_id-eq}
use Rattle.multiples.specs.Records.{Record}
use Rattle.levels.specs.declared.Found.{Found}
use Rattle.first_hits.specs.Names.{identity_at, id_at, AllBelow, AllAbove, Listed}
use Rattle.first_hits.specs.declared.FirstHit.{FirstHit}
use Rattle.first_hits.specs.Hits.{hit_at, hit_row, hit_place, hit_hidden, Room, beside, hidden_if, named, Decides, Settles}
use Rattle.first_hits.proofs.SortedParts.{In-put, put-In, put-In-self, In-parts, sorted-put, sorted-either}
use Rattle.first_hits.proofs.HitLaws.{put-here, put-else, hidden-else, hidden-row, hidden-place, hidden-mark}

-- what is kept of a name when its first method is met
abbrev pub fresh : Found → FirstHit
fresh w = record { row = w.row; place = w.place; hidden = 0 }

-- ---- a list with one more

module _ {A : Type 0} (p : A → Bool) (l : List A) (x : A) where
  pub any-more : any p (l ++ (x ∷ [])) ≡ any p l || p x
  any-more = any_append p l (x ∷ []) ∙ ap (λ b. any p l || b) (or-false (p x))

  pub keep-more : p x ≡ true → keep p (l ++ (x ∷ [])) ≡ keep p l ++ (x ∷ [])
  keep-more e = keep_append p l (x ∷ []) ∙ ap (λ b. keep p l ++ cond b (x ∷ []) []) e

  pub keep-past : p x ≡ false → keep p (l ++ (x ∷ [])) ≡ keep p l
  keep-past e = keep_append p l (x ∷ []) ∙ ap (λ b. keep p l ++ cond b (x ∷ []) []) e ∙ append-nil (keep p l)

module _ (text : Bytes) (rows : Words) where
  -- members of one identity have one id
  id_same : (j k : ℕ) → identity_at text rows j ≡ identity_at text rows k → id_at text rows j ≡ id_at text rows k
  unfolding id_at
  id_same j k e = rw e

  -- ---- keys

  -- the order of keys
  abbrev Before : ℕ → ℕ → Type 0
  Before j k = below_bytes (id_at text rows j) (id_at text rows k) ≡ true

  -- keys in order are distinct
  distinct : (l : List ℕ) → Sorted Before l → Distinct l
  distinct [] s = tt
  distinct (x ∷ l) s = (λ i. clash (s.0 x i) (below_irrefl (id_at text rows x)), distinct l s.1)

  -- so there are no more of them than members
  pub listed-few : (l : List ℕ) → Listed text rows l → length l ≤ member_count_of rows
  listed-few l h = pigeons (member_count_of rows) l (distinct l h.sorted) h.keys

  -- a key stands for its identity alone
  pub key_one : (l : List ℕ) → Listed text rows l → (j k : ℕ) → In j l → In k l → identity_at text rows j ≡ identity_at text rows k → j ≡ k
  key_one l h j k a b e =
      either (sorted-either Before l j k h.sorted a b)
      (λ q. q)
      (λ q. let same = id_same j k e in either q
      (λ o. clash o (rw same (below_irrefl (id_at text rows k))))
      (λ o. clash o (rw same (below_irrefl (id_at text rows k)))))

  module _ (i : ℕ) (l : List ℕ) (m : ℕ) (below : AllBelow text rows (id_at text rows m) (take i l)) (above : AllAbove text rows (id_at text rows m) (drop i l)) where
    -- none of the keys has the id
    pub other_key : (k : ℕ) → In k l → identity_at text rows k ≢ identity_at text rows m
    other_key k j e =
        let same = id_same k m e in
        either (In-parts i l k j)
        (λ a. clash (below k a) (rw same (below_irrefl (id_at text rows m))))
        (λ a. clash (above k a) (rw same (below_irrefl (id_at text rows m))))

    pub listed-put : Listed text rows l → m < member_count_of rows → Listed text rows (take i l ++ (m ∷ drop i l))
    listed-put h b = record {
      sorted = sorted-put Before i l m h.sorted below above;
      keys = λ k j. either (In-put i l m k j) (λ q. rw q b) (λ q. h.keys k q);
    }

  -- ---- what is decided

  module _ (walk : List Record) (P : List Found) (w : Found) (l : List ℕ) (hits : List FirstHit) (s : Settles text rows walk P l hits) where
    abbrev new : ℕ
    new = w.member.0

    -- a hit that stays decides what it decided
    decides-kept : {after : List FirstHit} (k : ℕ) → In k l → named text rows k w ≡ false → hit_at after k ≡ hit_at hits k → Decides text rows walk (keep (named text rows k) (P ++ (w ∷ []))) k after
    decides-kept {after} k i e same =
        let row : hit_row after k ≡ hit_row hits k = ap (λ (h : FirstHit). h.row) same in
        let place : hit_place after k ≡ hit_place hits k = ap (λ (h : FirstHit). h.place) same in
        let mark : hit_hidden after k ≡ hit_hidden hits k = ap (λ (h : FirstHit). h.hidden) same in
        let d = s.decides k i in
        rw (keep-past (named text rows k) P w e) record {
          others = d.others;
          first = rw (row, place) d.first;
          again = rw (mark, row) d.again;
        }

    -- its name has a key
    module _ (listed : Listed text rows l) (k : ℕ) (here : In k l) (same : identity_at text rows k ≡ identity_at text rows new) (room : Room hits k) where
      abbrev hide : Bool
      hide = beside walk (hit_row hits k) w.row

      abbrev marked : List FirstHit
      marked = hidden_if hide k hits

      decides-again : Decides text rows walk (keep (named text rows k) (P ++ (w ∷ []))) k marked
      decides-again =
          let d = s.decides k here in
          let row = hidden-row hide k hits room in
          let place = hidden-place hide k hits room in
          let level : Found → Bool = λ v. beside walk (hit_row hits k) v.row in
          record {
            others = d.others ++ (w ∷ []);
            first = rw (row, place) (keep-more (named text rows k) P w (same_id-eq _ _ (sym same)) ∙ ap (λ met. met ++ (w ∷ [])) d.first);
            again = rw row (hidden-mark hide k hits room (any level d.others) d.again ∙ ap bit (sym (any-more level d.others w)));
          }

      pub settles-again : Settles text rows walk (P ++ (w ∷ [])) l marked
      settles-again = record {
        all = all_snoc _ P w s.all (subst (λ q. In q (map (identity_at text rows) l)) same (map-In-to (identity_at text rows) l k here));
        decides = λ j i. cases (named text rows j w)
            (λ e. rw (key_one l listed j k i here (sym (same_id-true _ _ e) ∙ sym same)) decides-again)
            (λ e. decides-kept j i e (hidden-else hide k hits j (λ q. clash (same_id-eq _ _ (sym same ∙ ap (identity_at text rows) (sym q))) e)));
      }

    -- it has none: it gets one
    module _ (i : ℕ) (none : (k : ℕ) → In k l → identity_at text rows k ≢ identity_at text rows new) (room : Room hits new) where
      abbrev put : List FirstHit
      put = set hits new (fresh w)

      -- nothing before it had the name
      none-met : keep (named text rows new) P ≡ []
      none-met = keep-none (named text rows new) P (any_none (named text rows new) P (λ v j.
          cases (named text rows new v)
          (λ e. let k = In-map (identity_at text rows) l _ (s.all v j) in absurd (none k.0 k.1 (sym k.2 ∙ same_id-true _ _ e)))
          (λ e. e)))

      decides-new : Decides text rows walk (keep (named text rows new) (P ++ (w ∷ []))) new put
      decides-new =
          let here = put-here hits new (fresh w) room.inside in
          let row : hit_row put new ≡ w.row = ap (λ (h : FirstHit). h.row) here in
          let place : hit_place put new ≡ w.place = ap (λ (h : FirstHit). h.place) here in
          record {
            others = [];
            first = rw (row, place) (keep-more (named text rows new) P w (same_id-eq _ _ refl) ∙ ap (λ met. met ++ (w ∷ [])) none-met);
            again = ap (λ (h : FirstHit). h.hidden) here;
          }

      pub settles-new : Settles text rows walk (P ++ (w ∷ [])) (take i l ++ (new ∷ drop i l)) put
      settles-new = record {
        all = all_snoc _ P w
            (λ v j. let k = In-map (identity_at text rows) l _ (s.all v j) in rw k.2 (map-In-to (identity_at text rows) (take i l ++ (new ∷ drop i l)) k.0 (put-In i l new k.0 k.1)))
            (map-In-to (identity_at text rows) (take i l ++ (new ∷ drop i l)) new (put-In-self i l new));
        decides = λ k j. either (In-put i l new k j)
            (λ q. rw q decides-new)
            (λ q. decides-kept k q
            (cases (named text rows k w) (λ e. absurd (none k q (sym (same_id-true _ _ e)))) (λ e. e))
            (put-else hits new (fresh w) k (λ z. none k q (ap (identity_at text rows) z))));
      }

-- ---- nothing is met

pub settles-none : (text : Bytes) (rows : Words) (walk : List Record) {P : List Found} → P ≡ [] → (hits : List FirstHit) → Settles text rows walk P [] hits
settles-none text rows walk e hits = rw e record { all = λ w i. absurd i; decides = λ k i. absurd i }

-- ---- one after the other

module _ (text : Bytes) (rows : Words) (walk : List Record) where
  -- Whatever was met before: with X met too, the names and hits go from the one to the other.
  abbrev pub Carries : List Found → Words → ℕ → List FirstHit → Words → ℕ → List FirstHit → Type 0
  Carries X names n hits after end kept = (P : List Found) → Settles text rows walk P (take n names) hits → Settles text rows walk (P ++ X) (take end after) kept

  pub carries-none : {X : List Found} → X ≡ [] → (names : Words) (n : ℕ) (hits : List FirstHit) → Carries X names n hits names n hits
  carries-none e names n hits P s = rw e (subst (λ met. Settles text rows walk met (take n names) hits) (sym (append-nil P)) s)

  pub carries-then : {X Y Z : List Found} → Z ≡ X ++ Y → (names : Words) (n : ℕ) (hits : List FirstHit) (between : Words) (mid : ℕ) (held : List FirstHit) (after : Words) (end : ℕ) (kept : List FirstHit)
      → Carries X names n hits between mid held → Carries Y between mid held after end kept → Carries Z names n hits after end kept
  carries-then {X} {Y} e names n hits between mid held after end kept a b P s =
      rw e (subst (λ met. Settles text rows walk met (take end after) kept) (append_assoc P X Y) (b (P ++ X) (a P s)))
