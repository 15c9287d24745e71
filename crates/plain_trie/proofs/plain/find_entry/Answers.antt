-- The entry at the place to which the search leads.
use Rattle.plain_trie_records.proofs.Store.Searching.{sought_entry}
use Rattle.plain_trie.proofs.plain.find_entry.Goals as goal

pub returns : goal.returns
returns c = sought_entry c.args.key.now c.args.node.now c.search-slot.result c.entry.result c.count.ensures.lawful c.search-slot.ensures.leads c.entry.ensures.entry
