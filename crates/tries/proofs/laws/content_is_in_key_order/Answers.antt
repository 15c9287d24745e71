-- The law content_is_in_key_order.
use Rattle.tries.proofs.Content.Maps.{trie_rises}
use Rattle.tries.proofs.laws.content_is_in_key_order.Goals as goal

pub returns : goal.returns
returns c = trie_rises
