-- The graph with its types told apart by number: the laws of the ways hold for it, whatever the graph.
use mathlib.Core.Path.{◌≡◌, sym, ap, ◌∙◌}
use mathlib.Core.Bool.{true}
use mathlib.Core.List.{[]}
use Prim.Native.Nat.{ℕ, ◌<◌}
use Rattle.objects.specs.Lists.{any}
use Rattle.objects.proofs.ListLaws.{cases, clash, keep-none}
use Rattle.objects.proofs.KeyLaws.{same_key, same_self}
use Rattle.objects.specs.declared.TypeKey.{TypeKey}
use Rattle.objects.specs.Table.{same_type}
use Rattle.rules.specs.Members.{Identity}
use Rattle.rules.specs.Ways.{Walk}
use Rattle.ways.specs.Graph.{Graph, matching, ways}
use Rattle.ways.proofs.Merge.{Lawful}
use Rattle.ways.proofs.Same.{reached}
use Rattle.ways.proofs.Bound.{none_before}

turned : (a b : TypeKey) → same_type a b ≡ same_type b a
turned a b =
    cases (same_type a b)
    (λ e. e ∙ sym (ap (same_type b) (same_key a b e) ∙ same_self b))
    (λ e. e ∙ sym (cases (same_type b a) (λ f. clash (ap (same_type a) (same_key b a f) ∙ same_self a) e) (λ f. f)))

abbrev pub numbered : Graph → Graph
numbered G = record { size = G.size; members = G.members; steps = G.steps; same = same_type; hit = G.hit }

pub numbered-lawful : (G : Graph) → Lawful (numbered G)
numbered-lawful G = record {
  self = same_self;
  turn = turned;
  chain = λ a b c e. ap (λ x. same_type x c) (same_key a b e);
  alike = λ a b u e. ap (λ x. any (λ s. same_type u s.target) (G.steps x)) (same_key a b e);
}

-- where no fewer than d steps make a way, no type that they lead to has the name
pub none-sooner : (G : Graph) (r0 : Walk) (q : Identity) (d : ℕ) → ((j : ℕ) → j < d → ways G q r0 j ≡ []) → (u : TypeKey) → reached (numbered G) r0 d u ≡ true → matching G q u ≡ []
none-sooner G r0 q d h u e =
    keep-none (G.hit q) (G.members u) (none_before (numbered G) (numbered-lawful G) r0 q (λ a b s. ap (λ x. any (G.hit q) (G.members x)) (same_key a b s)) d h u e)
