-- The pairs are listed in falling order.
use Rattle.hot_c.proofs.prefixes.hot_scan_whole_prefix_reverse.Goals as goal

pub returns : goal.returns
returns c = record { call = c.list_whole_prefix.ensures.call; place = c.list_whole_prefix.ensures.place }
