-- The lines that went to the text, those on the page, and those of the pairs that are left, each of which has a key.
use Rattle.hot_scripts.proofs.Common.{◌≡◌, ◌++◌, All, flat_map, IsKey}
use Rattle.hot_scripts.specs.Meaning.{pair_line}
use Rattle.hot_scripts.proofs.answer.push_scan.Given as goal

abbrev pub invariant-loop-key : goal.invariant-loop-key
invariant-loop-key l = record {
  lines : l.text.items ++ l.page ++ flat_map pair_line l.key-iterator ≡ l.fn.text.items ++ flat_map pair_line l.pairs;
  keys : All (λ pair. IsKey pair.0) l.key-iterator;
}
