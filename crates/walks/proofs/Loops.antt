-- What loops over rows need: a list of rows only grows, and S for one name may stop at the first level that has it.
use mathlib.Core.Path.{◌≡◌, refl, sym, ap, ◌∙◌}
use mathlib.Core.Bool.{Bool, false}
use mathlib.Core.List.{List, [], ◌∷◌, ◌++◌, map, cons≢nil, append-nil, append_assoc}
use Prim.Native.Nat.{ℕ, zero, suc, ◌<◌}
use native.Mathlib.Omega.{arith}
use native.Mathlib.Decide.{dec_lt}
use lib.ListN.{length, take, get_or-append}
use Rattle.objects.specs.Lists.{flat}
use Rattle.objects.proofs.ListLaws.{cases}
use Rattle.objects.specs.declared.TypeKey.{TypeKey}
use Rattle.objects.specs.Table.{type_key}
use Rattle.rules.specs.Members.{Identity}
use Rattle.rules.specs.Ways.{Way, judged}
use Rattle.ways.specs.Graph.{Graph, ends, ways, shortest, start}
use Rattle.walks.specs.Kept.{kept}
use Rattle.walks.specs.Rows.{Row, root_row, walk_at, full, entered, enter_all, level, embeds, stage}
use Rattle.walks.specs.Reads.{search_rows}
use Rattle.walks.proofs.Levels.{two-enough}
use Rattle.walks.proofs.RowsKept.{held}
use Rattle.walks.proofs.Select.{judged-two}

-- ---- entering

pub enter-grows : (X R : List Row) → (F : List Row) × (enter_all R X ≡ R ++ F)
enter-grows [] R = ([], sym (append-nil R))
enter-grows (x ∷ X) R =
    cases (full R x)
    (λ e. rw e (enter-grows X R))
    (λ e. rw e (let r = enter-grows X (R ++ (x ∷ [])) in (x ∷ r.0, r.1 ∙ append_assoc R (x ∷ []) r.0)))

pub enter-append : (X Y R : List Row) → enter_all R (X ++ Y) ≡ enter_all (enter_all R X) Y
enter-append [] Y R = refl
enter-append (x ∷ X) Y R = enter-append X Y (entered R x)

module _ (G : Graph) where
  -- what a row's type embeds is read off the row alone
  pub embeds-old : (R F : List Row) (i : ℕ) → i < length R → embeds G (R ++ F) i ≡ embeds G R i
  embeds-old R F i h = rw (get_or-append R F (root_row (type_key 0) false) i h)

-- ---- one name

module _ (G : Graph) (q : Identity) (t : TypeKey) (f a : Bool) where
  search-from : (k d : ℕ) → ((j : ℕ) → j < d → ways G q (start t f) j ≡ []) → search_rows G q a k (stage G t f d) ≡ judged a (shortest G q (start t f) d k)
  search-from zero d h = refl
  search-from (suc k) d h = go (flat (ends G q) (kept G (start t f) d)) refl (ways G q (start t f) d) refl (search-from k (suc d))
    where
      here : flat (ends G q) (map (walk_at (stage G t f d).rows) (level (stage G t f d))) ≡ flat (ends G q) (kept G (start t f) d)
      here = ap (flat (ends G q)) (held G t f d).here

      two : take 2 (flat (ends G q) (kept G (start t f) d)) ≡ take 2 (ways G q (start t f) d)
      two = two-enough G (start t f) q d h

      go : (E : List Way) → flat (ends G q) (kept G (start t f) d) ≡ E → (W : List Way) → ways G q (start t f) d ≡ W
          → (((j : ℕ) → j < suc d → ways G q (start t f) j ≡ []) → search_rows G q a k (stage G t f (suc d)) ≡ judged a (shortest G q (start t f) (suc d) k))
          → search_rows G q a (suc k) (stage G t f d) ≡ judged a (shortest G q (start t f) d (suc k))
      go [] e [] g ih = rw (here ∙ e, search_rows, g, shortest) (ih (λ j l. elim (dec_lt j d) [ yes m ↦ h j m | no m ↦ let s : j ≡ d = omega arith in rw s g ]))
      go [] e (w ∷ W) g ih = absurd (cons≢nil (sym (ap (take 2) g) ∙ sym two ∙ ap (take 2) e))
      go (w ∷ E) e [] g ih = absurd (cons≢nil (sym (ap (take 2) e) ∙ two ∙ ap (take 2) g))
      go (v ∷ E) e (w ∷ W) g ih = rw (here ∙ e, search_rows, g, shortest) (judged-two a (v ∷ E) (w ∷ W) (sym (ap (take 2) e) ∙ two ∙ ap (take 2) g))

  -- S MAY STOP at the first level that has the name, for every graph.
  pub search-kept : search_rows G q a G.size (stage G t f 0) ≡ judged a (shortest G q (start t f) 0 G.size)
  search-kept = search-from G.size 0 (λ j l. absurd (omega arith))
