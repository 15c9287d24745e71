-- The root under the anchor's lock.
use Rattle.rowex_writing.proofs.Common.{◌∙◌, ap, Some, event_possible, step_few}
use Rattle.rowex_reading.proofs.Seen.Loading.{pinned_by}
use Rattle.rowex_writing.proofs.locks.Checks.{anchor_is, reads_root, root_changed}
use Rattle.rowex_writing.proofs.locks.checking.root_stands.Goals as goal

pub returns-clause-reads : goal.returns-clause-reads
returns-clause-reads g c =
    reads_root c.args.table.now g.G.Gate.becomes (c.args.seat.now, c.args.gate.now) (c.load_root-found.new.seat, c.load_root-found.new.gate) c.load_root-found.ensures.reads

pub returns-clause-possible : goal.returns-clause-possible
returns-clause-possible g c = event_possible c.load_root-found.ensures.reads.1.event

pub returns-clause-same : goal.returns-clause-same
returns-clause-same g c = λ t.
    let p = pinned_by c.args.seat.now.known.pin c.requires.pinned in let r = c.load_root-found.ensures in
    anchor_is p.0 p.1 r.reads.0 r.reads.1.event c.requires.locked c.load_root-found.result r.root ∙ ap Some (c.are_same_entry.ensures.same t)

pub returns-clause-changed : goal.returns-clause-changed
returns-clause-changed g c = λ m was f.
    let p = pinned_by c.args.seat.now.known.pin c.requires.pinned in let r = c.load_root-found.ensures in
    root_changed p.0 p.1 r.reads.0 r.reads.1.event m c.args.root c.load_root-found.result was r.root (c.are_same_entry.ensures.differ f)

pub returns-clause-few : goal.returns-clause-few
returns-clause-few g c =
    step_few c.args.table.now g.G.Gate.becomes _ (c.args.seat.now, c.args.gate.now) (c.load_root-found.new.seat, c.load_root-found.new.gate) c.load_root-found.ensures.reads.1
