-- A scan ends as its pass clears the pin, whether it is answered or refused.
use Rattle.hot_index.proofs.Common.{rules, subst, TableView, Range, asked_range, IsLawfulBy, IsListReadBy, PassView, pass_of}
use Rattle.hot_index.proofs.Reading.{list_read, scanned_on, still_pinned}
use Rattle.hot_index.proofs.index.Index.list_range.Goals as goal

pub unpin-requires : goal.unpin-requires
unpin-requires g c = λ κs le. (search rules, still_pinned c.scan_root-scan.ensures.looks.3 c.pin.ensures.fits c.pin.ensures.pinned)

pub invariant_of-pass : goal.invariant_of-pass
invariant_of-pass g c = scanned_on c.pass.inside.count c.pin.ensures.steps c.scan_root-scan.ensures.looks.3 c.unpin.ensures.step c.pass.invariant

pub returns : goal.returns
returns g c =
    let s = c.scan_root-scan.ensures in
    let range : Range = asked_range c.args.range.now in
    let direction = c.args.range.now.direction in
    subst (λ (x : TableView × PassView). IsListReadBy (IsLawfulBy direction) range c.scan_root-scan.new.pairs c.scan_root-scan.result x.0 g.G.Gate.becomes (x.1, c.args.gate.now) (pass_of c.unpin.new.seat, c.unpin.new.gate))
    (λ e. (c.self.view_is e, c.pass.view_is e))
    (list_read c.self.inside.table g.G.Gate.becomes direction range c.scan_root-scan.new.pairs c.scan_root-scan.result c.pass.invariant.settled c.pin.ensures.steps c.pin.ensures.fits.0 c.pin.ensures.pinned s.looks s.keys s.scanned s.part s.few c.unpin.ensures.step)
