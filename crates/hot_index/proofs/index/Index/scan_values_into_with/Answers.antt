-- A scan of values ends as its pass clears the pin.
use Rattle.hot_index.proofs.Common.{rules, subst, TableView, Range, range_from, IsValuesReadWith, PassView, pass_of}
use Rattle.hot_index.proofs.Reading.{scanned_on, still_pinned, values_read}
use Rattle.hot_index.proofs.index.Index.scan_values_into_with.Goals as goal

pub unpin-requires : goal.unpin-requires
unpin-requires g c = λ κs le. (search rules, still_pinned c.scan_values-scan.ensures.looks.3 c.pin.ensures.fits c.pin.ensures.pinned)

pub invariant_of-pass : goal.invariant_of-pass
invariant_of-pass g c = scanned_on c.pass.inside.count c.pin.ensures.steps c.scan_values-scan.ensures.looks.3 c.unpin.ensures.step c.pass.invariant

pub returns : goal.returns
returns g c =
    let s = c.scan_values-scan.ensures in
    let range : Range = range_from c.args.from.now c.args.upto.now c.args.limit in
    let values = c.scan_values-scan.new.values.items in
    subst (λ (x : TableView × PassView). IsValuesReadWith range values c.scan_values-scan.result x.0 g.G.Gate.becomes (x.1, c.args.gate.now) (pass_of c.unpin.new.seat, c.unpin.new.gate))
    (λ e. (c.self.view_is e, c.pass.view_is e))
    (values_read c.self.inside.table g.G.Gate.becomes range values c.scan_values-scan.result c.pass.invariant.settled c.pin.ensures.steps c.pin.ensures.fits.0 c.pin.ensures.pinned s.looks s.keys s.scanned s.part s.few c.unpin.ensures.step)
