-- What stays true in the loop of `search_plain`.
use Rattle.std.proofs.Common.{◌≡◌, ℕ, ◌<◌, get_or, false}
use Rattle.std.specs.Prelude.{bit_and}
use Rattle.partial_keys.specs.Rows.{complies}
use Rattle.partial_keys.proofs.search_plain.Given as goal

abbrev pub invariant-loop-i : goal.invariant-loop-i
invariant-loop-i l = record {
  before : l.best < l.i;
  complying : bit_and l.dense (get_or l.padded_rows l.best 0) ≡ get_or l.padded_rows l.best 0;
  none_above : (k : ℕ) → l.best < k → k < l.i → complies l.dense (get_or l.padded_rows k 0) ≡ false;
}
