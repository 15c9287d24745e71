-- A scan of one leaf.
use Rattle.rowex_scanning.proofs.Common.{◌∙◌, ◌≤◌, ℕ, subst, take, err_from_is_err_and, Leaf, LEAF_FIELDS, Reads, since, reads_later, rooted_led, same_since, IsEarlier, IsNoLater}
use Rattle.rowex_scanning.specs.Scanning.{asked_range}
use Rattle.rowex_scanning.proofs.scanning.Parts.{leaf_part}
use Rattle.rowex_scanning.proofs.Walking.{IsRootRead, leaf_early, leaf_full, leaf_unfilled}
use Rattle.rowex_scanning.proofs.scanning.scan_leaf.Given as given
use Rattle.rowex_scanning.proofs.scanning.scan_leaf.Goals as goal
use Rattle.rowex_scanning.proofs.scanning.scan_leaf.Goals.{After-load_scanned_leaf-length}

-- the leaf has been read
root_read : (g : given.Over) (c : After-load_scanned_leaf-length g) →
    IsRootRead c.args.seat.now.known c.load_scanned_leaf-length.new.seat.known c.args.number (take c.load_scanned_leaf-length.result.0 c.load_scanned_leaf-length.new.places) c.load_scanned_leaf-length.result.1
root_read g c =
    let e = c.load_scanned_leaf-length.ensures in
    record { later = reads_later e.reads.2; root = c.requires.root; same = same_since e.reads.2; read = e.leaf (since c.args.seat.now.known) (rooted_led (Leaf c.args.number) c.requires.root) }

loads : (g : given.Over) (c : After-load_scanned_leaf-length g) → (n : ℕ) × (n ≤ LEAF_FIELDS) × Reads c.args.scan.now.table.now g.G.Gate.becomes 0 n (c.args.seat.now, c.args.gate.now) (c.load_scanned_leaf-length.new.seat, c.load_scanned_leaf-length.new.gate)
loads g c = c.load_scanned_leaf-length.ensures.reads

pub load_scanned_leaf-length-requires-clause-led : goal.load_scanned_leaf-length-requires-clause-led
load_scanned_leaf-length-requires-clause-led g c = (since c.args.seat.now.known, rooted_led (Leaf c.args.number) c.requires.root)

pub returns-then-is_earlier_key-clause-reads : goal.returns-then-is_earlier_key-clause-reads
returns-then-is_earlier_key-clause-reads g c = loads g (goal.at.returns-then-is_earlier_key-clause-reads g c).After-load_scanned_leaf-length

pub returns-then-is_earlier_key-clause-scanned : goal.returns-then-is_earlier_key-clause-scanned
returns-then-is_earlier_key-clause-scanned g c =
    leaf_early c.args.scan.now.range.now.direction (asked_range c.args.scan.now.range.now) (root_read g (goal.at.returns-then-is_earlier_key-clause-scanned g c).After-load_scanned_leaf-length) _ c.requires.empty
    (subst (IsEarlier c.args.scan.now.range.now.direction (take c.load_scanned_leaf-length.result.0 c.load_scanned_leaf-length.new.places)) (c.as_bytes.ensures.bytes ∙ c.first_key.ensures) (c.is_earlier_key.ensures.earlier c.if-is_earlier_key.true))

pub take_pair_in_range-requires-clause-reached : goal.take_pair_in_range-requires-clause-reached
take_pair_in_range-requires-clause-reached g c =
    subst (λ z. IsNoLater c.args.scan.now.range.now.direction z (take c.load_scanned_leaf-length.result.0 c.load_scanned_leaf-length.new.places)) (c.as_bytes.ensures.bytes ∙ c.first_key.ensures) (c.is_earlier_key.ensures.no_later c.if-is_earlier_key.false)

pub returns-in_err-take_pair_in_range-clause-reads : goal.returns-in_err-take_pair_in_range-clause-reads
returns-in_err-take_pair_in_range-clause-reads g c = loads g (goal.at.returns-in_err-take_pair_in_range-clause-reads g c).After-load_scanned_leaf-length

pub returns-in_err-take_pair_in_range-clause-part : goal.returns-in_err-take_pair_in_range-clause-part
returns-in_err-take_pair_in_range-clause-part g c =
    rw (err_from_is_err_and c.from_residual.result c.from_residual.ensures.1).1
    (leaf_part c.args.scan.now.range.now.direction (asked_range c.args.scan.now.range.now) (root_read g (goal.at.returns-in_err-take_pair_in_range-clause-part g c).After-load_scanned_leaf-length) _ _ c.requires.empty c.in_err-take_pair_in_range.ensures.refused)

pub returns-in-Full : goal.returns-in-Full
returns-in-Full g c = let at = (goal.at.returns-in-Full g c).After-load_scanned_leaf-length in record {
  reads = loads g at;
  part = tt;
  refused = tt;
  scanned = leaf_full c.args.scan.now.range.now.direction (asked_range c.args.scan.now.range.now) (root_read g at) _ _ c.requires.empty _ c.in_ok-take_pair_in_range.ensures.taken c.in-Full.is;
}

pub returns-in-Further : goal.returns-in-Further
returns-in-Further g c = let at = (goal.at.returns-in-Further g c).After-load_scanned_leaf-length in record {
  reads = loads g at;
  part = tt;
  refused = tt;
  scanned = leaf_unfilled c.args.scan.now.range.now.direction (asked_range c.args.scan.now.range.now) (root_read g at) _ _ c.requires.empty _ c.in_ok-take_pair_in_range.ensures.taken c.in-Further.is;
}
