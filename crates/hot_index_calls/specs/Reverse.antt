-- What scans from the end of their range downwards say.
use Rattle.std.specs.Prelude.{ℕ, List, [], Bool, Option}
use Rattle.finite_map.specs.Reverse.{IsLawfulReverseScan}
use Rattle.record_words.specs.declared.layout.Layout.{Layout}
use Rattle.version_laws.specs.Scan.{Range}
use Rattle.tries.specs.Keys.{Key}
use Rattle.hot_index_calls.specs.Answers.{IsFoundBy, IsListedBy}
use Rattle.hot_index_calls.specs.Passes.{PassView}

-- A scan downwards into a list was answered, as `IsListedBy` says, with whether there is a further key. It adds no note, and is lawful
-- since the last load of the root.
abbrev pub IsReverseListed : (layout : Layout) (old new : PassView) (range : Range) (pairs : List (Key × ℕ)) (more : Bool) → Type 0
IsReverseListed = IsListedBy IsLawfulReverseScan

-- The call asked for the last pair whose key is `upto` or below. A lawful scan downwards with limit 1, from this key to the empty one, the
-- least of all, has found the pair `found`, or none.
abbrev pub IsLastFound : (layout : Layout) (old new : PassView) (upto : Key) (found : Option (Key × ℕ)) → Type 0
IsLastFound layout old new upto found = IsFoundBy IsLawfulReverseScan layout old new [] upto found
