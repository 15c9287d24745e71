-- The leaf's record, and the rest.
use Rattle.rowex_writing.proofs.build.Spare.{free_spares}
use Rattle.rowex_writing.proofs.Common.{◌-◌, ap, arith, get_or, sym, refl, get_or_from_slice_get, IfErr-weaker, PathNode}
use Rattle.rowex_writing.specs.build.Taking.{no_step}
use Rattle.rowex_writing.proofs.build.deeds.Deeds.{grown_raised, no_leaf_free, none_free_since}
use Rattle.rowex_writing.proofs.build.growing.Growing.{grow_plan}
use Rattle.rowex_writing.proofs.build.Growths.{grown_stored, may_grow}
use Rattle.rowex_writing.proofs.locks.Going.{goes_bounds, goes_more}
use Rattle.rowex_writing.proofs.locks.Runs.{goes_run, run_count}
use Rattle.rowex_writing.proofs.build.growing.grow_node.Goals as goal

pub returns-in_default : goal.returns-in_default
returns-in_default g c = record { done = no_leaf_free c.make_leaf.ensures.goes c.in_default.ensures.made c.make_leaf.ensures.few refl; spares = λ was. tt }

pub overflow_sub-new : goal.overflow_sub-new
overflow_sub-new g c =
    let job = c.args.job.now in
    let (m, aim, t, planned) = c.requires.taken in
    let len = (grow_plan c.args.seat.now.known m job.key.now job.way.now job.span.len job.span.end c.args.position aim job.found planned).len_is in omega (arith, len)

pub grow_with_leaf-requires : goal.grow_with_leaf-requires
grow_with_leaf-requires g c =
    let job = c.args.job.now in
    let (m, aim, t, planned) = c.requires.taken in
    record {
      may = may_grow c.args.table.now c.args.seat.now c.make_leaf.new.seat c.make_leaf.new.build.made.items m job aim
          (record { key = job.key; number = c.in-Some.number; position = c.args.position; slot = (get_or job.way.now (job.span.len - 1) no_step).slot }) t planned
          (λ s there. ap (λ (z : PathNode). z.slot) (sym (get_or_from_slice_get job.way.now (job.span.len - 1) s no_step there)))
          c.in-Some.ensures.goes.stays c.in-Some.ensures.made;
    }

pub returns : goal.returns
returns g c = record {
  done = record {
    goes = (goes_more c.args.table.now g.G.Gate.becomes (c.args.seat.now, c.args.gate.now) (c.make_leaf.new.seat, c.make_leaf.new.gate) (c.grow_with_leaf.new.seat, c.grow_with_leaf.new.gate) c.in-Some.ensures.goes c.grow_with_leaf.ensures.goes);
    raised = (let job = c.args.job.now in
        let (m, aim, t, planned) = c.requires.taken in
        grown_raised c.args.table.now c.args.seat.now.known c.make_leaf.new.seat.known c.grow_with_leaf.new.seat c.grow_with_leaf.new.build.made.items job c.args.position c.in-Some.number c.grow_with_leaf.result c.in-Some.ensures.goes.stays.0
        (grown_stored c.args.seat.now.known m job.key.now job.value job.way.now job.found job.span aim c.args.position c.in-Some.number planned) c.grow_with_leaf.ensures.raised);
    full = (none_free_since c.args.table.now c.args.seat.now c.make_leaf.new.seat c.grow_with_leaf.new.seat c.grow_with_leaf.new.build.made.items c.args.job.now c.grow_with_leaf.result
        (goes_bounds c.args.table.now g.G.Gate.becomes (c.args.seat.now, c.args.gate.now) (c.make_leaf.new.seat, c.make_leaf.new.gate) c.in-Some.ensures.goes)
        (run_count c.args.table.now g.G.Gate.becomes (c.args.seat.now, c.args.gate.now) (c.make_leaf.new.seat, c.make_leaf.new.gate)
        (goes_run c.args.table.now g.G.Gate.becomes (c.args.seat.now, c.args.gate.now) (c.make_leaf.new.seat, c.make_leaf.new.gate) c.in-Some.ensures.goes)) (IfErr-weaker c.grow_with_leaf.result _ _ (λ full h. h.1) c.grow_with_leaf.ensures.full));
    few = omega (arith, c.make_leaf.ensures.few, c.grow_with_leaf.ensures.few);
  };
  spares = λ was. free_spares c.args.table.now.layout c.grow_with_leaf.new.seat c.grow_with_leaf.new.build.made.items c.args.job.now c.grow_with_leaf.result c.grow_with_leaf.ensures.free;
}
