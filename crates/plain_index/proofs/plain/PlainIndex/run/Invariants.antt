-- The calls so far were made.
use Rattle.std.specs.Vec.Iter.{into_iter_items}
use Rattle.plain_index.proofs.plain.Made.{HasMade}
use Rattle.plain_index.proofs.plain.PlainIndex.run.Given as goal

abbrev pub invariant-loop-call : goal.invariant-loop-call
invariant-loop-call l = record {
  iterator : (goal.iterator-loop-call).can_next l.call-iterator × (goal.iterator-loop-call).is_finite l.call-iterator;
  made : HasMade l.fn.self l.fn.calls.items l.self l.yielded (into_iter_items l.call-iterator) l.replies.items;
}
