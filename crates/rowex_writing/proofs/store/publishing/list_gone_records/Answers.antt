-- Each node of the steps, and then the leaf.
use Rattle.rowex_writing.proofs.Common.{◌≡◌, ◌∙◌, ◌++◌, ◌∷◌, [], ◌+◌, ◌<◌, ◌≤◌, ℕ, List, ap, get_or, length, map, sym, take, append-nil, map_more, take_all, PathNode, Rec, a_node, a_leaf}
use Rattle.rowex_writing.specs.build.Deeds.{leaf_gone}
use Rattle.rowex_writing.proofs.store.publishing.list_gone_records.Goals as goal

abbrev nodes : List PathNode → List Rec
nodes steps = map (λ (s : PathNode). a_node s.number) steps

one_more : (steps : List PathNode) (i : ℕ) (d : PathNode) (gone more : List Rec) → i < length steps → gone ≡ nodes (take i steps) → more ≡ gone ++ a_node (get_or steps i d).number ∷ [] →
    more ≡ nodes (take (i + 1) steps)
one_more steps i d gone more low listed pushed =
    pushed ∙ (ap (λ (l : List Rec). l ++ a_node (get_or steps i d).number ∷ []) listed ∙ sym (map_more (λ (s : PathNode). a_node s.number) steps i d low))

all_of : (steps : List PathNode) (i : ℕ) (gone : List Rec) → length steps ≤ i → gone ≡ nodes (take i steps) → gone ≡ nodes steps
all_of steps i gone high listed = listed ∙ ap nodes (take_all i steps high)

pub loop-index-preserved : goal.loop-index-preserved
loop-index-preserved c = record {
  listed = one_more c.args.steps.now c.loop-index.index _ _ _ c.loop-index-test.true c.loop-index.invariant.listed c.push.ensures.items;
  made = c.loop-index.invariant.made;
}

pub returns-in-Some-clause-gone : goal.returns-in-Some-clause-gone
returns-in-Some-clause-gone c =
    c.push-in-Some.ensures.items ∙ (ap (λ (l : List Rec). l ++ a_leaf c.in-Some.number ∷ []) (all_of c.args.steps.now c.loop-index.index _ c.loop-index-test.false c.loop-index.invariant.listed)
    ∙ ap (λ leaf. nodes c.args.steps.now ++ leaf_gone leaf) (sym c.in-Some.is))

pub returns-in_default-clause-gone : goal.returns-in_default-clause-gone
returns-in_default-clause-gone c =
    all_of c.args.steps.now c.loop-index.index _ c.loop-index-test.false c.loop-index.invariant.listed ∙ (sym (append-nil (nodes c.args.steps.now)) ∙ ap (λ leaf. nodes c.args.steps.now ++ leaf_gone leaf) (sym c.in_default.is))
