-- What S searches, without its bound: the rules' shortest ways are those of the least length that has any, among all lengths, or there is no way at all.
use mathlib.Core.Path.{◌≡◌, refl, sym, ap, ◌∙◌}
use mathlib.Core.Bool.{Bool, true, false, cond, ◌&&◌}
use mathlib.Core.List.{[]}
use mathlib.Core.Logic.{◌⊎◌, inl, inr}
use Prim.Native.Nat.{ℕ, ◌<◌}
use Rattle.objects.specs.declared.TypeKey.{TypeKey}
use Rattle.objects.specs.Table.{Table, size, bare, pointer_at, iface_under}
use Rattle.objects.proofs.ListLaws.{either}
use Rattle.text.specs.Bytes.{is_blank}
use Rattle.rules.specs.Members.{Identity}
use Rattle.rules.specs.Sound.{Sound}
use Rattle.rules.specs.Ways.{notfound, judged, ways, shortest, searched, start}
use Rattle.ways.specs.Graph as over
use Rattle.ways.specs.OfTable.{graph}
use Rattle.ways.proofs.Least.{least-or-none, shortest-least, shortest-nothing}
use Rattle.ways.proofs.Bridge.{ways-are}
use Rattle.ways.proofs.LevelTest.{shortest-are}
use Rattle.ways.proofs.TableLaws.{lawful, keyed, closed, bare-in}

-- t that is no named pointer type, by the ways of the table's graph
pub select-says : (T : Table) (q : Identity) (t : TypeKey) (a : Bool)
    → searched T q t a ≡ cond (pointer_at T t && iface_under T (bare T t)) notfound (over.select (graph T) q (bare T t) (pointer_at T t) a)
unfolding searched
select-says T q t a = ap (λ r. cond (pointer_at T t && iface_under T (bare T t)) notfound r) (ap (judged a) (shortest-are T t q))

-- d steps have a way, and no fewer have one: the rules' own ways
pub record LeastLength (T : Table) (q : Identity) (t : TypeKey) (d : ℕ) : Type 0 where
  pub some : ways T q t d ≡ [] → ⊥
  pub none : (j : ℕ) → j < d → ways T q t j ≡ []

module _ (T : Table) (sound : Sound T) (q : Identity) (nb : is_blank q.name ≡ false) (t : TypeKey) (in0 : t.0 < size T) where
  pub length-or-none : ((d : ℕ) × LeastLength T q t d) ⊎ ((j : ℕ) → ways T q t j ≡ [])
  length-or-none =
      either (least-or-none (graph T) (lawful T sound) (closed T sound) (start T t) (bare-in T sound t in0) q (keyed T sound q nb))
      (λ l. inl (l.0, record { some = λ e. l.1.some (sym (ways-are T q t l.0) ∙ e); none = λ j h. ways-are T q t j ∙ l.1.none j h }))
      (λ n. inr (λ j. ways-are T q t j ∙ n j))

  -- "the shortest": of the least length that has any
  pub shortest-are-least : (d : ℕ) → LeastLength T q t d → shortest T q t ≡ ways T q t d
  shortest-are-least d l =
      shortest-are T t q
      ∙ shortest-least (graph T) (lawful T sound) (closed T sound) (start T t) (bare-in T sound t in0) q (keyed T sound q nb) d
      (record { some = λ e. l.some (ways-are T q t d ∙ e); none = λ j h. sym (ways-are T q t j) ∙ l.none j h })
      ∙ sym (ways-are T q t d)

  pub shortest-are-none : ((j : ℕ) → ways T q t j ≡ []) → shortest T q t ≡ []
  shortest-are-none n = shortest-are T t q ∙ shortest-nothing (graph T) (lawful T sound) (closed T sound) (start T t) (bare-in T sound t in0) q (keyed T sound q nb) (λ j. sym (ways-are T q t j) ∙ n j)

  -- "a pointer to any type with an interface under it: `notfound`"; else what the ways of the least length give
  pub searched-least : (a : Bool) (d : ℕ) → LeastLength T q t d → searched T q t a ≡ cond (pointer_at T t && iface_under T (bare T t)) notfound (judged a (ways T q t d))
  unfolding searched
  searched-least a d l = ap (λ ws. cond (pointer_at T t && iface_under T (bare T t)) notfound (judged a ws)) (shortest-are-least d l)

  pub searched-none : (a : Bool) → ((j : ℕ) → ways T q t j ≡ []) → searched T q t a ≡ notfound
  unfolding searched
  searched-none a n = ap (λ ws. cond (pointer_at T t && iface_under T (bare T t)) notfound (judged a ws)) (shortest-are-none n) ∙ either_way (pointer_at T t && iface_under T (bare T t))
    where
      either_way : (b : Bool) → cond b notfound (judged a []) ≡ notfound
      either_way true = refl
      either_way false = refl
