-- What a program in C sees of a count of records.
use Rattle.hot_index_calls.specs.declared.census.RecordCounts.{RecordCounts}
use Rattle.hot_index_calls.specs.declared.census.StateCounts.{StateCounts}
use Rattle.hot_c.specs.declared.census.HotCounts.{HotCounts}
use Rattle.hot_c.specs.declared.census.HotStates.{HotStates}

-- how many committed records are in each state
abbrev pub shown_states : StateCounts → HotStates
shown_states states = record { free = states.free; held = states.held; live = states.live; obsolete = states.obsolete }

-- how many committed records of each kind and class are in each state, and the bytes of the table
abbrev pub shown_counts : RecordCounts → HotCounts
shown_counts counts = record {
  nodes = shown_states counts.nodes;
  short = shown_states counts.short;
  medium = shown_states counts.medium;
  large = shown_states counts.large;
  wide = shown_states counts.wide;
  long = shown_states counts.long;
  bytes = counts.bytes;
}
