-- The greatest height of the entries behind.
use Rattle.record_words.proofs.Common.{◌≡◌, List, drop, Entry, greatest_height}
use Rattle.record_words.specs.Node.{SpellEntries}
use Rattle.record_words.proofs.node.height_over.Given as goal

abbrev pub invariant-loop-i : goal.invariant-loop-i
invariant-loop-i l = (entries : List Entry) → SpellEntries l.height l.words entries → l.greatest ≡ greatest_height (drop l.i entries)
