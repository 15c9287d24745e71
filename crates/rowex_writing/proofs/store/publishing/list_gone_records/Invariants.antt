-- Those before the index are listed.
use Rattle.rowex_writing.proofs.Common.{◌≡◌, map, take, PathNode, a_node}
use Rattle.rowex_writing.proofs.store.publishing.list_gone_records.Given as goal

abbrev pub invariant-loop-index : goal.invariant-loop-index
invariant-loop-index l = record {
  listed : l.build.gone.items ≡ map (λ (s : PathNode). a_node s.number) (take l.index l.steps);
  made : l.build.made.items ≡ l.fn.build.made.items;
}
