-- What a call for the first pair from a key on says.
use Rattle.std.specs.Prelude.{ℕ, [], Option}
use Rattle.finite_map.specs.Scans.{IsLawfulScan}
use Rattle.hot_index_calls.specs.Answers.{IsFoundBy}
use Rattle.hot_index_calls.specs.Passes.{PassView}
use Rattle.key_ranges.specs.Ranges.{last_with}
use Rattle.record_words.specs.declared.layout.Layout.{Layout}
use Rattle.tries.specs.Keys.{Key}

-- The call asked for the first pair whose key is `from` or above. A scan with limit 1, from this key to the greatest key of all, has found
-- the pair `found`, or none.
abbrev pub IsFirstFound : (layout : Layout) (old new : PassView) (from : Key) (found : Option (Key × ℕ)) → Type 0
IsFirstFound layout old new from found = IsFoundBy IsLawfulScan layout old new from (last_with []) found
