-- A count ends as its pass clears the pin.
use Rattle.hot_index.proofs.Common.{◌-◌, ◌^◌, rules, subst, TableView, Range, range_from, IsCountReadWith, PassView, pass_of}
use Rattle.hot_index.proofs.Reading.{count_read, scanned_on, still_pinned}
use Rattle.hot_index.proofs.index.Index.count_range_with.Goals as goal

pub unpin-requires : goal.unpin-requires
unpin-requires g c = λ κs le. (search rules, still_pinned c.count_root-count.ensures.looks.3 c.pin.ensures.fits c.pin.ensures.pinned)

pub invariant_of-pass : goal.invariant_of-pass
invariant_of-pass g c = scanned_on c.pass.inside.count c.pin.ensures.steps c.count_root-count.ensures.looks.3 c.unpin.ensures.step c.pass.invariant

pub returns : goal.returns
returns g c =
    let s = c.count_root-count.ensures in
    let range : Range = range_from c.args.from.now c.args.upto.now (2 ^ 63 - 1) in
    let number = c.count_root-count.result.0 in
    subst (λ (x : TableView × PassView). IsCountReadWith range number x.0 g.G.Gate.becomes (x.1, c.args.gate.now) (pass_of c.unpin.new.seat, c.unpin.new.gate))
    (λ e. (c.self.view_is e, c.pass.view_is e))
    (count_read c.self.inside.table g.G.Gate.becomes range number c.count_root-count.result.1 c.pass.invariant.settled c.pin.ensures.steps c.pin.ensures.fits.0 c.pin.ensures.pinned s.looks s.keys s.counted s.few c.unpin.ensures.step)
