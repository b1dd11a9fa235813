-- The loop over the parts of two types: what it has shown of the places below i (`Passed`), and each way in which it ends.
use mathlib.Core.Path.{◌≡◌, refl}
use mathlib.Core.Bool.{Bool, true, false, not}
use mathlib.Core.List.{List}
use Prim.Native.Nat.{ℕ, suc, ◌+◌, ◌<◌, ◌≤◌}
use native.Mathlib.Omega.{arith}
use borrow.Author.Count.{below_more}
use borrow.Author.Tests.{not-true, not-false}
use Rattle.objects.specs.declared.TypeKey.{TypeKey}
use Rattle.objects.specs.Lists.{Bytes}
use Rattle.objects.specs.Rows.{Words, table_of}
use Rattle.objects.proofs.ListLaws.{clash}
use Rattle.type_parts.specs.Parts.{part_count, part_at, Peers}
use Rattle.type_parts.proofs.StepAt.{PartSame, step-join, step-split}
use Rattle.typ.specs.Compared.{Same, Well, Agree, NewMet, Merged, Leads, Grown, Compared, PartsCompared}
use Rattle.typ.proofs.Marked.{grown-refl, grown-trans, merged-refl, merged-trans, agree_less, new_none, new-more, leads-none, leads-more}

module _ (text : Bytes) (rows : Words) where
  pub record Passed (l l' c c' : List ℕ) (x y : TypeKey) (i : ℕ) : Type 0 where
    pub grown : Grown l l'
    pub merged : Merged (table_of text rows) c c'
    pub well : Well (table_of text rows) l' c'
    pub leads : Leads (table_of text rows) l l' c c' x y
    pub same_if : (n : ℕ) → Agree (table_of text rows) n l' c' → ((j : ℕ) → j < i → PartSame text rows n x y j) × NewMet (table_of text rows) n l l'

  pub passed_none : (l c : List ℕ) (x y : TypeKey) → Well (table_of text rows) l c → Passed l l c c x y 0
  passed_none l c x y w = record {
    grown = grown-refl l;
    merged = merged-refl (table_of text rows) c;
    well = w;
    leads = leads-none (table_of text rows) l c x y;
    same_if = λ n a. (λ j h. absurd (omega arith), new_none (table_of text rows) n l);
  }

  module _ (x y : TypeKey) (peers : Peers (table_of text rows) x y) where
    pub at-end : (l r c e : List ℕ) (i n : ℕ) → Passed l r c e x y i → n ≡ part_count rows x → i ≤ n → n ≤ i → PartsCompared (table_of text rows) l r c e x y true
    at-end l r c e i n p z h k = record {
      grown = p.grown;
      merged = p.merged;
      well = p.well;
      leads = p.leads;
      same_if = λ _ m a. let q = p.same_if m a in (step-join text rows x y peers m (λ j lt. q.0 j (omega arith)), q.1);
      differ-if = λ q. clash refl q;
    }

    module _ (i n : ℕ) (z : n ≡ part_count rows x) (h : i < n) where
      -- x and y are identical only if their i-th parts are
      part_same : Same (table_of text rows) x y → Same (table_of text rows) (part_at rows x i) (part_at rows y i)
      part_same s k = step-split text rows x y peers k (s (suc k)) i (omega arith)

      -- the parts at place i were compared
      module _ (l m r c d e : List ℕ) (p q : TypeKey) (b : Bool) (g : Passed l m c d x y i) (left : p ≡ part_at rows x i) (right : q ≡ part_at rows y i) (w : Compared (table_of text rows) m r d e p q b) where
        went : Compared (table_of text rows) m r d e (part_at rows x i) (part_at rows y i) b
        went = rw (left, right) at w

        leads-part : Leads (table_of text rows) l r c e x y
        leads-part = leads-more (table_of text rows) l m r c d e x y (part_at rows x i) (part_at rows y i) part_same g.leads went.leads

        merged-part : Merged (table_of text rows) c e
        merged-part = merged-trans (table_of text rows) c d e g.merged w.merged

        pub at-differ : not b ≡ true → PartsCompared (table_of text rows) l r c e x y false
        at-differ t = record {
          grown = grown-trans g.grown w.grown;
          merged = merged-part;
          well = w.well;
          leads = leads-part;
          same_if = λ o. clash o refl;
          differ-if = λ _ s. went.differ-if (not-true b t) (part_same s);
        }

        pub at_same : not b ≡ false → Passed l r c e x y (i + 1)
        at_same t = record {
          grown = grown-trans g.grown w.grown;
          merged = merged-part;
          well = w.well;
          leads = leads-part;
          same_if = λ k o.
              let before = g.same_if k (agree_less (table_of text rows) k m r d e w.grown w.merged o) in
              let now = went.same_if (not-false b t) k o in
              (below_more (PartSame text rows k x y) i before.0 now.0, new-more (table_of text rows) k l m r before.1 now.1);
        }
