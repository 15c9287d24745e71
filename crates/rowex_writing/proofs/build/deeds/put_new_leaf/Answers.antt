-- The store is that of a first key.
use Rattle.rowex_writing.proofs.build.Counts.{made_one, no_nodes}
use Rattle.rowex_writing.specs.build.Spare.{by_kept}
use Rattle.rowex_writing.proofs.build.Spare.{goes_spare, no_list}
use Rattle.rowex_writing.proofs.Common.{◌+◌, ◌*◌, None, sym, subst, arith, refl, added_change, item}
use Rattle.rowex_writing.specs.build.Changes.{MayPublishOnceReady}
use Rattle.rowex_writing.proofs.build.deeds.Deeds.{just_leaf_gone, no_leaf_free, none_in_table}
use Rattle.rowex_writing.proofs.build.Putting.{put_len, put_may, put_stored}
use Rattle.rowex_writing.proofs.build.deeds.put_new_leaf.Goals as goal

pub returns-in_default : goal.returns-in_default
returns-in_default g c = record { done = no_leaf_free c.make_leaf.ensures.goes c.in_default.ensures.made c.make_leaf.ensures.few refl; kind = λ is. cc; spares = λ was. tt }

pub returns : goal.returns
returns g c = record {
  done = record {
    goes = c.make_leaf.ensures.goes;
    raised = (let job = c.args.job.now in
        let (m, aim, t, planned) = c.requires.taken in
        let (at, same, upto) = put_len c.args.seat.now.known m job.key.now job.way.now aim job.found job.span planned in
        let goes = c.make_leaf.ensures.goes in
        let x = added_change c.args.seat.now.known.pass (item c.in-Some.number job.key.now job.value) in (
          x,
          None,
          put_stored c.args.seat.now.known.pass c.in-Some.number job.key.now job.value job.way.now job.found job.span.len job.span.end at,
          record {
            from = omega (arith, same);
            upto = omega arith;
            most = omega arith;
            leaf = none_in_table c.args.table.now.layout;
            ends = λ spot over.
                subst (MayPublishOnceReady c.args.table.now c.make_leaf.new.seat c.make_leaf.new.build.made.items spot (4 * c.in-Some.number + 1) x None) (sym (just_leaf_gone job.way.now job.span.end job.span.len None same))
                (put_may c.args.table.now c.args.seat.now m job.key.now job.way.now job.found job.span t c.make_leaf.new.seat c.make_leaf.new.build.made.items c.in-Some.number job.value goes.stays.0 goes.stays.1 goes.stays.2
                c.in-Some.ensures.made at spot over);
            few = omega (arith, made_one c.in-Some.ensures.made.building);
            takes = λ number is. absurd cc;
          },
        ));
    full = tt;
    few = omega (arith, c.make_leaf.ensures.few);
  };
  kind = λ is. cc;
  spares = λ was.
      by_kept (goes_spare c.args.table.now g.G.Gate.becomes (c.args.seat.now, c.args.gate.now) (c.make_leaf.new.seat, c.make_leaf.new.gate) c.make_leaf.ensures.goes was) (no_list _ (no_nodes c.in-Some.ensures.made));
}
