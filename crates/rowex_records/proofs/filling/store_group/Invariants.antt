-- So many of the words are stored.
use Rattle.rowex_records.specs.Records.{SetsMore}
use Rattle.rowex_records.proofs.filling.store_group.Given as goal

abbrev pub invariant-loop-place : goal.invariant-loop-place
invariant-loop-place g l = SetsMore l.table g.G.Gate.becomes l.fn.node.rec l.words l.first l.place (l.fn.seat, l.fn.gate) (l.seat, l.gate)
