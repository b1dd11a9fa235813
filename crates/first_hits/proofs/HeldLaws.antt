-- The names and hits that the code holds, after one more member is met.
use mathlib.Core.Path.{◌≡◌, sym, ap, ◌∙◌, subst}
use mathlib.Core.Bool.{Bool}
use mathlib.Core.List.{List, [], ◌∷◌, ◌++◌}
use mathlib.Core.Logic.{◌≢◌}
use Prim.Native.Nat.{ℕ, ◌+◌, ◌<◌, ◌≤◌}
use native.Mathlib.Omega.{arith}
use lib.ListN.{length, get_or, take, drop, set, length-append, length-drop}
use lib.Seq.{length-take-le, get_or-take}
use Rattle.std.specs.Prelude.{Result, Ok, Err}
use Rattle.objects.specs.Lists.{Bytes, In}
use Rattle.objects.specs.Rows.{Words, member_count_of}
use Rattle.objects.proofs.PartLaws.{get_or-In}
use Rattle.rules.specs.Library.{Library}
use Rattle.multiples.specs.Records.{Record}
use Rattle.levels.specs.declared.Found.{Found}
use Rattle.first_hits.specs.Names.{identity_at, id_at, Listed, Placed}
use Rattle.first_hits.specs.declared.FirstHit.{FirstHit}
use Rattle.first_hits.specs.Hits.{hit_row, Room, beside, above, hidden_if, Held}
use Rattle.first_hits.proofs.SearchLaws.{found_at, found_in, new-at, new_in, same-identity}
use Rattle.first_hits.proofs.HitLaws.{put-room, hidden-room}
use Rattle.first_hits.proofs.SettleLaws.{fresh, listed-few, listed-put, other_key, settles-again, settles-new, Carries}
use Rattle.first_hits.proofs.CoverLaws.{covered_more, covered-past, Covers}

module _ (text : Bytes) (rows : Words) where
  -- the names fit
  pub held_fits : {names : Words} {n : ℕ} {hits : List FirstHit} → Held text rows names n hits → n ≤ length names
  held_fits h = let a = h.few in let b = h.long in omega arith

  module _ (names : Words) (n : ℕ) (hits : List FirstHit) (h : Held text rows names n hits) (w : Found) (inside : w.member.0 < member_count_of rows) where
    abbrev l : List ℕ
    l = take n names

    abbrev m : ℕ
    m = w.member.0

    count : length l ≡ n
    count = length-take-le n names (held_fits h)

    module _ (i : ℕ) {r : Result ℕ ℕ} (s : Placed text rows (take n names) (id_at text rows w.member.0) r) where
      -- ---- its name is there

      module _ (e : r ≡ Ok i) where
        abbrev k : ℕ
        k = get_or names i 0

        pub found-place : i < n
        found-place = found_in text rows names n (held_fits h) (id_at text rows m) s e

        at : get_or l i 0 ≡ k
        at = get_or-take n names i 0 found-place

        key_in : In k l
        key_in = subst (λ x. In x l) at (get_or-In l i 0 (rw count found-place))

        pub found-room : Room hits k
        found-room = h.room k (h.listed.keys k key_in)

        pub found-held : (hide : Bool) → Held text rows names n (hidden_if hide k hits)
        found-held hide = record {
          listed = h.listed;
          few = h.few;
          long = h.long;
          room = λ j b. hidden-room hide k hits found-room j (h.room j b);
        }

        module _ (lib : Library text rows) (walk : List Record) where
          key-same : identity_at text rows k ≡ identity_at text rows m
          key-same = same-identity text rows lib k m (h.listed.keys k key_in) inside (ap (id_at text rows) (sym at) ∙ (found_at text rows l (id_at text rows m) s e).1)

          pub found-carries : Carries text rows walk (w ∷ []) names n hits names n (hidden_if (beside walk (hit_row hits k) w.row) k hits)
          found-carries P t = settles-again text rows walk P w l hits t h.listed k key_in key-same found-room

          pub found-covers : Covers text rows walk (w ∷ []) l hits (hidden_if (above walk w.row (hit_row hits k)) k hits)
          found-covers M F t = covered_more text rows walk M F w l hits t h.listed k key_in key-same found-room

      -- ---- it is new

      module _ (e : r ≡ Err i) where
        abbrev put : List ℕ
        put = take i l ++ (m ∷ drop i l)

        abbrev kept : List FirstHit
        kept = set hits m (fresh w)

        pub new-place : i ≤ n
        new-place = new_in text rows names n (held_fits h) (id_at text rows m) s e

        no_key : (k : ℕ) → In k l → identity_at text rows k ≢ identity_at text rows m
        no_key = let f = new-at text rows l (id_at text rows m) s e in other_key text rows i l m f.1 f.2

        pub new-covers : (walk : List Record) → Covers text rows walk (w ∷ []) l hits hits
        new-covers walk M F t = covered-past text rows walk M F w l hits t no_key

        listed-new : Listed text rows put
        listed-new = let f = new-at text rows l (id_at text rows m) s e in listed-put text rows i l m f.1 f.2 h.listed inside

        -- there is room for one more
        pub new-fits : n < member_count_of rows
        new-fits =
            let p = new-place in
            let few = listed-few text rows put listed-new in
            let front = length-take-le i l (rw count p) in
            let back = length-drop i l in
            let all = length-append (take i l) (m ∷ drop i l) in
            let c = count in
            omega arith

        module _ (after : Words) (long : length after ≡ length names) (read : take (n + 1) after ≡ put) where
          pub new-held : Held text rows after (n + 1) kept
          new-held = record {
            listed = subst (Listed text rows) (sym read) listed-new;
            few = let f = new-fits in omega arith;
            long = let b = h.long in omega arith;
            room = λ j b. put-room hits m (fresh w) j (h.room j b);
          }

          pub new-carries : (walk : List Record) → Carries text rows walk (w ∷ []) names n hits after (n + 1) kept
          new-carries walk P t = rw read (settles-new text rows walk P w l hits t i no_key (h.room m inside))
