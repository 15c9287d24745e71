-- The key's leaf has another value, and nothing else changes.
use Rattle.std.proofs.Common.{ap, ◌∙◌, set}
use Rattle.plain_trie.specs.Views.{PlainView}
use Rattle.plain_trie.proofs.plain.Inserting.{Becomes, held_becomes}
use Rattle.plain_trie.proofs.plain.PlainTrie.set_value.Goals as goal
use Rattle.plain_trie.proofs.plain.PlainTrie.set_value.Goals.{After-index_mut}

module _ (c : After-index_mut) where
  abbrev after : PlainView
  after = record {
    nodes = c.self.inside.nodes.items;
    leaves = set c.self.inside.leaves.items c.args.leaf (record { key = c.copy.result; value = c.args.value });
    top = c.self.inside.top;
    node_capacity = c.args.self.now.node_capacity;
    leaf_capacity = c.args.self.now.leaf_capacity;
  }

  becomes : Becomes c.args.self.now after c.args.key.now c.args.value
  becomes =
      held_becomes c.args.self.now after c.args.key.now c.args.leaf c.args.value c.requires (ap (λ (u : PlainView). u.nodes) c.self.view_is)
      (ap (λ (u : PlainView). set u.leaves c.args.leaf (record { key = c.copy.result; value = c.args.value })) c.self.view_is ∙
      ap (λ k. set c.args.self.now.leaves c.args.leaf (record { key = k; value = c.args.value })) c.copy.ensures.same)
      (ap (λ (u : PlainView). u.top) c.self.view_is)

pub invariant_of-self : goal.invariant_of-self
invariant_of-self c = (becomes (goal.at.invariant_of-self c).After-index_mut).0

pub returns-clause-map : goal.returns-clause-map
returns-clause-map c = (becomes (goal.at.returns-clause-map c).After-index_mut).1
