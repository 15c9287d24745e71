-- Why `search_plain` meets its contract.
use Rattle.std.proofs.Common.{arith}
use Rattle.partial_keys.specs.Rows.{IsHighest}
use Rattle.partial_keys.proofs.Leads.{highest-value, place_for_dense, place_for_key}
use Rattle.partial_keys.proofs.search_plain.Goals as goal

pub returns : goal.returns
returns c =
    let found : IsHighest c.args.padded_rows.now c.args.dense c.loop-i.best = record {
      in_range = omega (arith, c.told-padded_rows);
      complying = c.loop-i.invariant.complying;
      none_above = λ k a b. c.loop-i.invariant.none_above k a (omega (arith, c.told-padded_rows));
    } in
    record {
      value = highest-value c.args.padded_rows.now c.args.dense c.loop-i.best found;
      highest = found;
      leads = λ even. place_for_dense c.args.padded_rows.now c.args.dense c.loop-i.best c.ranges.dense.fits even found;
      leads_key = place_for_key c.args.padded_rows.now c.args.dense c.loop-i.best found;
    }
