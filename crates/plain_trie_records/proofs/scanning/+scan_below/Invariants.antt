-- The scan goes on to the pairs at the places so far; heights fall on the way down.
use Rattle.plain_trie_records.proofs.Common.{◌≡◌, ◌++◌, take, Map, IsScanOf, Place, height_of, pairs, Tree, subtrie}
use Rattle.plain_trie_records.specs.Store.{ShowsSound}
use Rattle.plain_trie_records.proofs.scanning.Parts.{items_of_all}
use Rattle.plain_trie_records.proofs.scanning.Standing.{below}
use Rattle.plain_trie_records.proofs.scanning.+scan_below.Given as goal

abbrev pub decreases-scan_below : goal.decreases-scan_below
decreases-scan_below l = height_of l.entry

abbrev pub invariant-loop-slot : goal.invariant-loop-slot
invariant-loop-slot l =
    (t : Tree) (m : Map) → subtrie t ≡ Place l.fn.entry → ShowsSound l.nodes.items l.leaves.items t → IsScanOf m l.range.from.now l.range.upto.now l.range.limit l.fn.scan →
    IsScanOf (m ++ pairs (items_of_all (take l.slot (below t)))) l.range.from.now l.range.upto.now l.range.limit l.scan
