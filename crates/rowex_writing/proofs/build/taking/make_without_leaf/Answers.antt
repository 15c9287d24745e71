-- The way has one node.
use Rattle.rowex_writing.proofs.build.Spare.{low_spares}
use Rattle.rowex_writing.proofs.Common.{None, refl, arith, IfErr-weaker}
use Rattle.rowex_writing.specs.locks.Locks.{locks_of}
use Rattle.rowex_writing.proofs.build.Counts.{deed_least}
use Rattle.rowex_writing.proofs.build.deeds.Deeds.{nodes_alone, taken_raised}
use Rattle.rowex_writing.proofs.build.taking.Taking.{found_leaf, take_below, take_top}
use Rattle.rowex_writing.proofs.build.taking.make_without_leaf.Goals as goal
use Rattle.rowex_writing.specs.declared.plan.Deed.TheVariants.{TakeTop}

pub remake_without_leaf-requires-clause-below : goal.remake_without_leaf-requires-clause-below
remake_without_leaf-requires-clause-below g c =
    let job = c.args.job.now in
    let (m, aim, taken, planned) = c.requires.taken in
    let (number, value, same) = found_leaf c.args.seat.now.known m job aim TakeTop tt planned in
    (m, number, value, take_below c.args.table.now c.args.seat.now m job aim TakeTop tt taken planned number value None same (take_top c.args.seat.now.known m job aim TakeTop tt planned refl))

pub returns-clause-done : goal.returns-clause-done
returns-clause-done g c = record {
  goes = c.remake_without_leaf.ensures.goes;
  raised = (let job = c.args.job.now in
      let (m, aim, taken, planned) = c.requires.taken in
      let (number, value, same) = found_leaf c.args.seat.now.known m job aim TakeTop tt planned in
      let below = take_below c.args.table.now c.args.seat.now m job aim TakeTop tt taken planned number value None same (take_top c.args.seat.now.known m job aim TakeTop tt planned refl) in
      taken_raised c.args.table.now c.args.seat.now.known c.remake_without_leaf.new.seat c.remake_without_leaf.new.build.made.items job number value c.remake_without_leaf.result same (c.remake_without_leaf.ensures.raised m number value below));
  full = IfErr-weaker c.remake_without_leaf.result _ _ (λ full h. h.1) c.remake_without_leaf.ensures.full;
  few = (let least = deed_least c.args.table.now.layout (locks_of c.args.job.now.span) c.remake_without_leaf.result in omega (arith, c.remake_without_leaf.ensures.walk, least));
}

pub returns-clause-leafless : goal.returns-clause-leafless
returns-clause-leafless g c = nodes_alone c.remake_without_leaf.result _ c.remake_without_leaf.ensures.full

-- ---- a record that stands in no tree
pub returns-clause-lowest : goal.returns-clause-lowest
returns-clause-lowest g c = c.remake_without_leaf.ensures.lowest

pub returns-clause-spares : goal.returns-clause-spares
returns-clause-spares g c = λ was.
    let job = c.args.job.now in
    let (m, aim, taken, planned) = c.requires.taken in
    let (number, value, same) = found_leaf c.args.seat.now.known m job aim TakeTop tt planned in
    let below = take_below c.args.table.now c.args.seat.now m job aim TakeTop tt taken planned number value None same (take_top c.args.seat.now.known m job aim TakeTop tt planned refl) in
    low_spares c.args.table.now.layout c.remake_without_leaf.new.seat c.remake_without_leaf.new.build.made.items job c.remake_without_leaf.result (omega (arith, below.last)) taken.within.1 c.remake_without_leaf.ensures.lowest
