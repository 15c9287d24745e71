-- The law local_rules_make_a_trie.
use Rattle.tries.proofs.Content.{local_is_trie}
use Rattle.tries.proofs.laws.local_rules_make_a_trie.Goals as goal

pub returns : goal.returns
returns c = local_is_trie
