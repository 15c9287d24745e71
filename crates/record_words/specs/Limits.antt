-- How many passes and records a table may have.
use Rattle.std.specs.Prelude.{ℕ, ◌≤◌, ◌<◌, ◌^◌}
use Rattle.record_words.specs.declared.TheConstants.{MAX_PASSES, MAX_STOCK_PASSES, MAX_NODES, MAX_LEAVES}

-- a table of `Layout::of` may have so many passes
abbrev pub IsPassCount : ℕ → Type 0
IsPassCount passes = (1 ≤ passes) × (passes ≤ MAX_PASSES)

-- a table of `Layout::of` may have so many node records
abbrev pub IsNodeCount : ℕ → Type 0
IsNodeCount nodes = (1 ≤ nodes) × (nodes ≤ MAX_NODES)

-- a table of `Layout::of` may have so many leaf records
abbrev pub IsLeafCount : ℕ → Type 0
IsLeafCount leaves = (1 ≤ leaves) × (leaves ≤ MAX_LEAVES)

-- a table of any layout may have so many passes
abbrev pub IsStockPassCount : ℕ → Type 0
IsStockPassCount passes = (1 ≤ passes) × (passes ≤ MAX_STOCK_PASSES)

-- A table of any layout may have so many records of a kind, nodes or leaves. An entry word has 32 bits for a number.
abbrev pub IsRecordCount : ℕ → Type 0
IsRecordCount records = (1 ≤ records) × (records < 2 ^ 32)
