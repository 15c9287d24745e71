-- What a load of the root tells.
use Rattle.rowex_reading.proofs.Seen.Loading.{pinned_by}
use Rattle.rowex_reading.proofs.Possible.Rooting.{root_spelled, root_told, root_low}
use Rattle.rowex_reading.proofs.reading.load_root.Goals as goal

pub read_entry-requires : goal.read_entry-requires
read_entry-requires g c = let e = c.load_ref-word.ensures.event in root_spelled _ _ _ _ e

pub returns-clause-root : goal.returns-clause-root
returns-clause-root g c =
    let p = pinned_by c.args.seat.now.known.pin c.requires.pinned in let r = c.read_entry.ensures in
    root_told _ _ _ p.0 p.1 _ c.load_ref-word.ensures.event c.read_entry.result r.is_value r.spells

pub returns-clause-low : goal.returns-clause-low
returns-clause-low g c =
    let p = pinned_by c.args.seat.now.known.pin c.requires.pinned in let r = c.read_entry.ensures in
    root_low _ _ _ p.0 p.1 _ c.load_ref-word.ensures.event c.read_entry.result r.is_value r.spells
