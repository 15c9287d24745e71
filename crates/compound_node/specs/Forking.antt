-- What a new fork does to a head.
use Rattle.std.specs.Prelude.{Bool, if◌then◌else◌, map, ℕ, ◌+◌, ◌-◌, ◌^◌}
use Rattle.compound_node.specs.Nodes.{HeadView}
use Rattle.partial_keys.specs.Spread.{forked_rows, spread_row}
use Rattle.node_tries.specs.Growth.{edited}
use Rattle.node_tries.specs.Positions.{front_below, has, with_position}

-- The head with this height and one row more, parted from the rows `first` to `last` by a new fork at the position. `bit` is the new
-- entry's bit there. If no column has the position yet, each old row gets 0 in a new one.
abbrev pub forked_head : (height position first last : ℕ) → Bool → HeadView → HeadView
forked_head height position first last bit head =
    let at = front_below position head.columns in
    let is_column = has head.columns position in
    record {
      height = height;
      columns = if is_column then head.columns else with_position position head.columns;
      rows = edited first (last + 1 - first) (forked_rows (2 ^ (31 - at)) bit) (if is_column then head.rows else map (spread_row at) head.rows);
    }
