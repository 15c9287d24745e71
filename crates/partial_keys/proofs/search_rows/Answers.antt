-- Why `search_rows` meets its contract.
use Rattle.partial_keys.proofs.Rows.Lanes.{highest_of_lanes}
use Rattle.partial_keys.proofs.Leads.{highest-value, place_for_dense, place_for_key}
use Rattle.partial_keys.proofs.search_rows.Goals as goal

pub overflow_sub-result : goal.overflow_sub-result
overflow_sub-result c = (highest_of_lanes c.args.padded_rows c.args.dense c.mark_complying.result c.fits-padded_rows.0 c.requires c.mark_complying.ensures).0

pub returns : goal.returns
returns c =
    let found = (highest_of_lanes c.args.padded_rows c.args.dense c.mark_complying.result c.fits-padded_rows.0 c.requires c.mark_complying.ensures).1 in
    record {
      value = highest-value _ _ _ found;
      highest = found;
      leads = λ even. place_for_dense _ _ _ c.ranges.dense.fits even found;
      leads_key = place_for_key _ _ _ found;
    }
