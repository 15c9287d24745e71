-- What is stored above the upper node.
use Rattle.rowex_writing.specs.build.Taking.{upper}
use Rattle.rowex_writing.proofs.Common.{a_node, IsOneOf, ◌-◌, length, ap, arith, inl, refl, subst, sym, slice_range}
use Rattle.rowex_writing.specs.build.Spare.{by_gone}
use Rattle.rowex_writing.proofs.locks.Spans.{slice_few}
use Rattle.rowex_writing.proofs.merging.Merging.{merge_store}
use Rattle.rowex_writing.proofs.merging.publish_merge.Goals as goal

pub publish_entry-requires : goal.publish_entry-requires
publish_entry-requires g c =
    let (number, w, may, listed) = c.requires.may in
    let store = merge_store c.args.table.now c.args.seat.now c.args.build.now _ c.args.job.now number c.args.entry c.spot_above.result w may c.requires.loaded listed
    (ap (λ i. slice_range c.args.job.now.way.now i (c.args.job.now.span.end - 1)) c.saturating_sub.ensures) c.spot_above.ensures in
    record { may = (may.change, may.was, store) }

pub returns-clause-done : goal.returns-clause-done
returns-clause-done g c =
    let (number, w, may, listed) = c.requires.may in
    let store = merge_store c.args.table.now c.args.seat.now c.args.build.now _ c.args.job.now number c.args.entry c.spot_above.result w may c.requires.loaded listed
    (ap (λ i. slice_range c.args.job.now.way.now i (c.args.job.now.span.end - 1)) c.saturating_sub.ensures) c.spot_above.ensures in
    (may.change, may.was, may.takes, c.publish_entry.ensures.changed may.change may.was store)

pub returns-clause-few : goal.returns-clause-few
returns-clause-few g c =
    let (number, w, may, listed) = c.requires.may in
    let gone = ap length (listed w.taking.number w.taking.value w.taking.found) in
    let stay = slice_few c.args.job.now.way.now c.saturating_sub.result (c.args.job.now.span.end - 1) in
    omega (arith, c.publish_entry.ensures.few, gone, stay, c.saturating_sub.ensures, may.few)

pub returns-clause-spares : goal.returns-clause-spares
returns-clause-spares g c =
    let (number, w, may, listed) = c.requires.may in
    let n = (upper c.args.job.now).number in
    c.publish_entry.ensures.spares (by_gone n (subst (IsOneOf (a_node n)) (sym (listed w.taking.number w.taking.value w.taking.found)) (inl refl)))
