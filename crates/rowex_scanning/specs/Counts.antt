-- How many loads a scan makes at most.
use Rattle.std.specs.Prelude.{ℕ, ◌+◌, ◌*◌, ◌≤◌, min}
use Rattle.key_bits.specs.declared.TheConstants.{MAX_BYTES}
use Rattle.record_words.specs.declared.TheConstants.{HEAD_WORDS, LEAF_FIELDS}
use Rattle.rowex_core.specs.declared.event.Event.{Event}
use Rattle.rowex_table.specs.Seats.{SeatView, TableView}
use Rattle.rowex_reading.specs.Reads.{Looks, Reads}

-- How many entries the walk of a scan loads at most: one for each node that it enters, and for each leaf that it reads, one more than the
-- limit. Each node has two entries or more. So it enters no more nodes than it reads leaves, and two more for each node on its path.
abbrev pub walk_entries : (limit : ℕ) → ℕ
walk_entries limit = 2 * (9 * MAX_BYTES) + 2 * limit + 1

-- A walk with this limit may make so many loads, `entries` of them of entries. An entry takes 26 at most: its own, and 25 of the head of
-- the node that it names. A leaf has up to 32 words, so it takes 8 more. One leaf more than the limit may be read. `beside` are other
-- loads.
pub record AreWalkLoads (beside limit entries loads : ℕ) : Type 0 where
  pub most : entries ≤ walk_entries limit
  pub few : loads ≤ beside + 26 * entries + 8 * (limit + 1)

-- The pass makes loads below the root alone, as many as a walk with this limit may, and `beside` others. The gate is told each.
abbrev pub Walks : {G : Type 0} → (table : TableView) → (becomes : G → Event → G → Type 0) → (beside limit : ℕ) → (old new : SeatView × G) →
    Type 0
Walks table becomes beside limit old new = (loads entries : ℕ) × AreWalkLoads beside limit entries loads × Reads table becomes entries loads old new

-- how many entries a scan loads at most: one in each node on the path of its search, and those of its walk
abbrev pub scan_entries : (limit : ℕ) → ℕ
scan_entries limit = 9 * MAX_BYTES + walk_entries limit

-- How many loads a scan makes below the root at most, by the entries that it loads. Beside those of its walk, its search has read a leaf.
-- To find its start it may read one head, and that leaf once more.
abbrev pub loads_by : (limit entries : ℕ) → ℕ
loads_by limit entries = LEAF_FIELDS + (HEAD_WORDS + LEAF_FIELDS) + 26 * entries + 8 * (limit + 1)

-- a scan with this limit has loaded no more entries, and made no more loads below the root, than its limit allows
pub record AreScanLoads (limit entries loads : ℕ) : Type 0 where
  pub most : entries ≤ scan_entries limit
  pub few : loads ≤ loads_by limit entries

-- The pass loads the root, and then makes loads below it alone, no more than a scan with this limit may. The gate is told each.
abbrev pub Scans : {G : Type 0} → (table : TableView) → (becomes : G → Event → G → Type 0) → (limit : ℕ) → (old new : SeatView × G) → Type 0
Scans table becomes limit old new = (loads entries : ℕ) × AreScanLoads limit entries loads × Looks table becomes entries loads old new

-- how many loads a scan with this limit makes below the root at most, whatever it finds
abbrev pub scan_loads : (limit : ℕ) → ℕ
scan_loads limit = loads_by limit (scan_entries limit)

-- The limit that bounds the loads of a scan that took so many pairs. Beside their leaves it has looked at 16 more at most, and at no more
-- than its own limit allows.
abbrev pub limit_by : (limit taken : ℕ) → ℕ
limit_by limit taken = min limit (taken + 16)
