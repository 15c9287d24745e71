-- A held key has another value.
use Rattle.std.proofs.Common.{ap, sym, subst, ◌∙◌}
use Rattle.finite_map.specs.Maps.{with_value}
use Rattle.plain_trie.specs.Views.{PlainView, IsHeldInLeaf, trie_map}
use Rattle.plain_trie.proofs.plain.Inserting.{held_reply, held_value}
use Rattle.plain_trie.proofs.plain.PlainTrie.upsert.Goals as goal

pub returns-clause-ok : goal.returns-clause-ok
returns-clause-ok c =
    let a = rw c.in-Some.is at c.in_ok-leaf.ensures.ok in
    let k = c.args.key.now in
    let l = c.index.result.now in
    let held = held_value _ c.args.self.now k c.in-Some.leaf l (c.self.view_is ∙ a.1) a.0 c.index.ensures in
    let r = held_reply (trie_map c.args.self.now) k c.args.value l.value held in
    (r.1, c.set_value.ensures.map ∙ (ap (λ (u : PlainView). with_value (trie_map u) k c.args.value) a.1 ∙ r.3))

pub set_value-requires : goal.set_value-requires
set_value-requires c =
    let a = rw c.in-Some.is at c.in_ok-leaf.ensures.ok in subst (λ u. IsHeldInLeaf u c.args.key.now c.in-Some.leaf) (sym a.1) a.0
