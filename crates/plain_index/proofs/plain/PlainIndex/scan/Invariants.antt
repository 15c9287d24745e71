-- The pairs so far and those that are left are the range.
use Rattle.plain_index.proofs.Common.{◌≡◌, ◌≤◌, ◌++◌, length, range_of}
use Rattle.plain_index.proofs.plain.PlainIndex.scan.Given as goal

abbrev pub invariant-loop-key : goal.invariant-loop-key
invariant-loop-key l = record {
  rest : l.pairs.items ++ l.key-iterator ≡ range_of l.fn.self l.fn.from l.fn.upto;
  short : length l.pairs.items ≤ l.limit;
}
