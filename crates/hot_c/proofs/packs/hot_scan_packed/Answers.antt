-- The pairs are listed in rising order.
use Rattle.hot_c.proofs.packs.hot_scan_packed.Goals as goal

pub returns : goal.returns
returns c = record { call = c.list_packed_pairs.ensures.call; place = c.list_packed_pairs.ensures.place }
