-- From the root's entry down the records show the tree that reading finds.
use Rattle.std.proofs.Common.{subst}
use Rattle.plain_trie.specs.Views.{ShowsSoundTree}
use Rattle.plain_trie.proofs.Views.{shows_trie}
use Rattle.plain_trie.proofs.plain.PlainTrie.top.Goals as goal

pub returns-clause-shows : goal.returns-clause-shows
returns-clause-shows c = shows_trie c.args.self.now (subst ShowsSoundTree c.self.view_is c.self.invariant)
