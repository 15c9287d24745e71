-- What is stored above the span.
use Rattle.rowex_writing.specs.build.Spare.{WillSpare}
use Rattle.std.proofs.Common.{length, ap, ◌∙◌, arith, subst, sym}
use Rattle.rowex_writing.proofs.locks.Spans.{slice_few}
use Rattle.rowex_writing.proofs.store.Stores.{change_store}
use Rattle.rowex_writing.proofs.build.deeds.Deeds.{gone_few, kept_few}
use Rattle.rowex_writing.proofs.store.publishing.publish_change.Goals as goal

pub list_gone_records-requires : goal.list_gone_records-requires
list_gone_records-requires g c =
    let (m, w) = c.requires.held.from in
    let (x, was, may) = c.requires.may in
    omega (arith, slice_few c.args.job.now.way.now c.args.job.now.span.end c.args.raised.low, may.upto, c.requires.held.within.1, w.depth)

pub publish_entry-requires : goal.publish_entry-requires
publish_entry-requires g c =
    let (x, was, may) = c.requires.may in
    let store = change_store c.args.table.now c.args.seat.now c.args.build.now.made.items c.list_gone_records.new.build c.as_slice.result.now c.args.job.now c.args.raised c.spot_above.result x was c.requires.held c.requires.loaded
    c.list_gone_records.ensures.made c.list_gone_records.ensures.gone (c.as_slice.ensures.value ∙ c.list_kept_nodes-kept.ensures) c.spot_above.ensures may in
    record { may = (x, was, store) }

pub returns-clause-changed : goal.returns-clause-changed
returns-clause-changed g c = λ x was may.
    c.publish_entry.ensures.changed x was (change_store c.args.table.now c.args.seat.now c.args.build.now.made.items c.list_gone_records.new.build c.as_slice.result.now c.args.job.now c.args.raised c.spot_above.result x was c.requires.held c.requires.loaded
    c.list_gone_records.ensures.made c.list_gone_records.ensures.gone (c.as_slice.ensures.value ∙ c.list_kept_nodes-kept.ensures) c.spot_above.ensures may)

pub returns-clause-few : goal.returns-clause-few
returns-clause-few g c =
    let (x, was, may) = c.requires.may in
    let made = ap length c.list_gone_records.ensures.made in
    let gone = ap length c.list_gone_records.ensures.gone in
    let kept = ap length (c.as_slice.ensures.value ∙ c.list_kept_nodes-kept.ensures) in
    let nodes = gone_few c.args.job.now.way.now c.args.job.now.span c.args.raised in
    let stay = kept_few c.args.job.now.way.now c.args.job.now.span c.args.raised in
    omega (arith, c.publish_entry.ensures.few, made, gone, kept, nodes, stay, may.from, may.upto)

pub returns-clause-spares : goal.returns-clause-spares
returns-clause-spares g c = λ will.
    c.publish_entry.ensures.spares
    (subst (λ made. WillSpare c.args.table.now.layout c.args.seat.now made c.list_gone_records.new.build.gone.items) (sym c.list_gone_records.ensures.made)
    (subst (WillSpare c.args.table.now.layout c.args.seat.now c.args.build.now.made.items) (sym c.list_gone_records.ensures.gone) will))
