-- An absent key was added, and a held one keeps its value.
use Rattle.std.proofs.Common.{ap, ◌∙◌}
use Rattle.plain_trie.specs.Views.{trie_map}
use Rattle.plain_trie.proofs.plain.Inserting.{added_reply, held_reply, held_value}
use Rattle.plain_trie.proofs.plain.PlainTrie.insert.Goals as goal
use Rattle.plain_trie.proofs.plain.PlainTrie.insert.Goals.{in-None, in-Some}

pub returns-clause-ok : goal.returns-clause-ok
returns-clause-ok c = elim c.match-branch-2.branch [
  | in-None w ↦
      let a = rw w.in-None.is at c.in_ok-add_absent.ensures.ok in
      let r = added_reply (trie_map c.args.self.now) c.args.key.now c.args.value a.0 in
      rw w.result-is (r.0, a.1 ∙ r.2)
  | in-Some w ↦
      let a = rw w.in-Some.is at c.in_ok-add_absent.ensures.ok in
      let k = c.args.key.now in
      let l = w.index.result.now in
      let held = held_value _ c.args.self.now k w.in-Some.leaf l (c.self.view_is ∙ a.1) a.0 w.index.ensures in
      let r = held_reply (trie_map c.args.self.now) k c.args.value l.value held in
      rw w.result-is (r.0, ap trie_map a.1 ∙ r.2)
]

pub returns-clause-err : goal.returns-clause-err
returns-clause-err c = elim c.match-branch-2.branch [
  | in-None w ↦ rw w.result-is tt
  | in-Some w ↦ rw w.result-is tt
]
