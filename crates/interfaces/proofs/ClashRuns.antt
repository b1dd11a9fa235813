-- Refusal 17 run by run: where `same` is symmetric and transitive, it is enough to compare the first reached method of each run with the others.
use mathlib.Core.Path.{◌≡◌, refl, sym}
use mathlib.Core.Bool.{Bool, true, not}
use mathlib.Core.List.{List}
use mathlib.Core.Logic.{◌↔◌}
use borrow.Author.Tests.{not-true, not-false}
use Rattle.objects.specs.Lists.{any, keep}
use Rattle.objects.specs.declared.TypeKey.{TypeKey}
use Rattle.objects.proofs.ListLaws.{cases, clash, any-In, some-In, none-In}
use Rattle.interfaces.specs.Interfaces.{Interfaces, Tells}
use Rattle.interfaces.specs.FullList.{Entry, entry, first_of}
use Rattle.interfaces.specs.Runs.{Runs, run_clashes}
use Rattle.interfaces.specs.Clashes.{Clash}
use Rattle.interfaces.proofs.Fit.{Fit}
use Rattle.interfaces.proofs.Lists.{first-In, first_some}
use Rattle.interfaces.proofs.Picking.{reached-In, reached-run}

module _ (I : Interfaces) (fit : Fit I) (i : TypeKey) (reached : TypeKey → Bool) (tells : Tells I i reached) (rs : List (List Entry)) (runs : Runs I rs) (same : TypeKey → TypeKey → Bool) where
  abbrev found : List Entry → List Entry
  found r = keep (λ x. reached x.owner) r

  abbrev differs : Entry → Entry → Bool
  differs x y = not (same x.method.type y.method.type)

  run-clash : any (run_clashes reached same) rs ≡ true → Clash I same i
  unfolding run_clashes
  run-clash h =
      let r = some-In (run_clashes reached same) rs h in
      let x = some-In (λ (x : Entry). any (differs x) (found r.0)) (first_of (found r.0)) r.2 in
      let y = some-In (differs x.0) (found r.0) x.2 in
      let a = reached-In I fit i reached tells rs runs r.0 x.0 r.1 (first-In (found r.0) x.0 x.1) in
      let b = reached-In I fit i reached tells rs runs r.0 y.0 r.1 y.1 in
      record {
        left = x.0.method;
        right = y.0.method;
        reaches-left = a.1;
        reaches-right = b.1;
        one = runs.one r.0 x.0 y.0 r.1 a.0 b.0;
        two = not-true (same x.0.method.type y.0.method.type) y.2;
      }

  module _ (symmetric : (x y : TypeKey) → same x y ≡ true → same y x ≡ true) (transitive : (x y z : TypeKey) → same x y ≡ true → same y z ≡ true → same x z ≡ true) where
    clash-run : Clash I same i → any (run_clashes reached same) rs ≡ true
    unfolding run_clashes
    clash-run c =
        let x = entry c.reaches-left.owner c.left in
        let s = (runs.every x).1 c.reaches-left.owns in
        let a = reached-run I fit i reached tells rs runs s.0 x c.left s.1 s.2 c.reaches-left refl in
        let b = reached-run I fit i reached tells rs runs s.0 x c.right s.1 s.2 c.reaches-right (sym c.one) in
        let f = first_some (found s.0) x a in
        cases (run_clashes reached same s.0)
        (λ e. any-In (run_clashes reached same) rs s.0 s.1 e)
        (λ e.
        let none = none-In (λ (z : Entry). any (differs z) (found s.0)) (first_of (found s.0)) f.0 e f.1 in
        let l = not-false _ (none-In (differs f.0) (found s.0) x none a) in
        let m = not-false _ (none-In (differs f.0) (found s.0) (entry c.reaches-right.owner c.right) none b) in
        clash (transitive c.left.type f.0.method.type c.right.type (symmetric f.0.method.type c.left.type l) m) c.two)

    -- i REACHES A CLASH EXACTLY IF SOME RUN HAS ONE
    pub clash-runs : (any (run_clashes reached same) rs ≡ true) ↔ Clash I same i
    clash-runs = (run-clash, clash-run)
