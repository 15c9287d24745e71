-- A new value, a removal, or what the deed has made is published; or all is given back.
use Rattle.rowex_writing.proofs.build.Spare.{goes_spare, works_spare}
use Rattle.std.specs.Prelude.{IfErr}
use Rattle.rowex_writing.specs.attempts.Attempts.{HasFailed}
use Rattle.rowex_writing.specs.build.Deeds.{bounds_of_deed}
use Rattle.std.proofs.Common.{inl, inr, sym, ap, subst, arith, ◌≡◌, ◌∙◌, Err}
use Rattle.rowex_writing.specs.store.Values.{HasDoneDeed}
use Rattle.rowex_writing.specs.locks.Checks.{HasTakenPlan}
use Rattle.rowex_writing.specs.plan.Counts.{held_loads}
use Rattle.rowex_writing.specs.locks.Locks.{span_numbers}
use Rattle.rowex_writing.specs.merging.Merging.{HasChangeStepsAfterTries}
use Rattle.rowex_writing.specs.plan.Plans.{TakesLeaf}
use Rattle.rowex_writing.proofs.attempts.Attempts.{loads_spared, leaves_refused, nodes_refused}
use Rattle.rowex_writing.proofs.build.Growths.{no_room}
use Rattle.rowex_writing.proofs.build.Changes.{changed_since}
use Rattle.rowex_writing.proofs.merging.Merging.{holds_on, is_taking}
use Rattle.rowex_writing.proofs.build.taking.Taking.{take_above}
use Rattle.rowex_writing.proofs.locks.Runs.{goes_run, runs_trans, works_run}
use Rattle.rowex_writing.proofs.attempts.Named.{loaded_on}
use Rattle.rowex_writing.proofs.store.Values.{held_few}
use Rattle.rowex_writing.proofs.attempts.Attempted.{full_failed}
use Rattle.rowex_writing.proofs.attempts.change_span.Goals as goal
use Rattle.rowex_writing.specs.declared.attempts.TryFault.TheVariants.{FullLeaves, FullNodes}
use Rattle.rowex_writing.specs.declared.plan.Deed.TheVariants.{Take, Value}

pub store_value-requires-clause-taken : goal.store_value-requires-clause-taken
store_value-requires-clause-taken g c = subst (HasTakenPlan c.args.table.now c.args.seat.now c.args.job.now) c.in-Value.is c.requires.taken

pub returns-in-Value-clause-run : goal.returns-in-Value-clause-run
returns-in-Value-clause-run g c = inl (c.store_value.ensures.run, omega (arith, c.store_value.ensures.few, held_few c.args.job.now.found))

pub returns-in-Value-clause-done : goal.returns-in-Value-clause-done
returns-in-Value-clause-done g c = λ ok.
    subst (λ d. HasDoneDeed c.args.seat.now.known c.store_value.new.seat.known d c.args.job.now.key.now c.args.job.now.value c.args.job.now.found) (sym c.in-Value.is) c.store_value.ensures.done

pub make_removal-requires-clause-taken : goal.make_removal-requires-clause-taken
make_removal-requires-clause-taken g c = subst (HasTakenPlan c.args.table.now c.args.seat.now c.args.job.now) c.in-Take.is c.requires.taken

pub make_removal-requires-clause-some : goal.make_removal-requires-clause-some
make_removal-requires-clause-some g c = let (m, aim, taken, planned) = c.requires.taken in take_above c.args.seat.now.known m c.args.job.now aim c.args.job.now.deed (subst TakesLeaf (sym c.in-Take.is) tt) planned c.in-Take.is

pub returns-in-Take-clause-run : goal.returns-in-Take-clause-run
returns-in-Take-clause-run g c =
    let taken = subst (HasTakenPlan c.args.table.now c.args.seat.now c.args.job.now) c.in-Take.is c.requires.taken in
    let (m, aim, span, planned) = c.requires.taken in
    let some = take_above c.args.seat.now.known m c.args.job.now aim c.args.job.now.deed (subst TakesLeaf (sym c.in-Take.is) tt) planned c.in-Take.is in
    let (t, same) = is_taking c.args.table.now c.args.seat.now c.args.job.now taken some in
    inr (
      some,
      t.below.last,
      subst (λ room. HasChangeStepsAfterTries c.args.table.now g.G.Gate.becomes (span_numbers c.args.job.now.way.now c.args.job.now.span) room (c.args.seat.now, c.args.gate.now) (c.make_removal.new.seat, c.make_removal.new.gate)) (sym (ap held_loads t.found))
          c.make_removal.ensures.run,
    )

pub returns-in-Take-clause-done : goal.returns-in-Take-clause-done
returns-in-Take-clause-done g c = λ ok.
    subst (λ d. HasDoneDeed c.args.seat.now.known c.make_removal.new.seat.known d c.args.job.now.key.now c.args.job.now.value c.args.job.now.found) (sym c.in-Take.is) (c.make_removal.ensures.done ok)

pub returns-in-Take-clause-failed : goal.returns-in-Take-clause-failed
returns-in-Take-clause-failed g c =
    subst (λ d. IfErr c.make_removal.result (HasFailed c.args.table.now.layout (bounds_of_deed d c.args.seat.now.bounds) c.args.job.now c.args.seat.now.known c.make_removal.new.seat.known c.make_removal.new.build.made.items)) (sym c.in-Take.is)
    c.make_removal.ensures.failed

pub publish_change-requires : goal.publish_change-requires
publish_change-requires g c =
    let (x, was, is, may) = c.in-Ok.ensures.done.raised in
    record {
      held = holds_on c.args.table.now g.G.Gate.becomes (c.args.seat.now, c.args.gate.now) (c.carry_out_deed.new.seat, c.carry_out_deed.new.gate) c.args.job.now c.args.job.now.deed c.carry_out_deed.ensures.done.goes c.requires.taken;
      may = (x, was, may);
      loaded = loaded_on c.args.seat.now.known c.carry_out_deed.new.seat.known c.args.job.now.found c.carry_out_deed.ensures.done.goes.stays.3 c.requires.loaded;
    }

pub returns-in-Ok-clause-run : goal.returns-in-Ok-clause-run
returns-in-Ok-clause-run g c =
    let (x, was, is, may) = c.in-Ok.ensures.done.raised in
    let (m, aim, taken, planned) = c.requires.taken in
    let spared = loads_spared c.args.seat.now.known m c.args.job.now.key.now c.args.job.now.way.now aim c.args.job.now.found c.args.job.now.span c.args.job.now.deed planned in
    inl (
      runs_trans c.args.table.now g.G.Gate.becomes (c.args.seat.now, c.args.gate.now) (c.carry_out_deed.new.seat, c.carry_out_deed.new.gate) (c.publish_change.new.seat, c.publish_change.new.gate)
          (goes_run c.args.table.now g.G.Gate.becomes (c.args.seat.now, c.args.gate.now) (c.carry_out_deed.new.seat, c.carry_out_deed.new.gate) c.carry_out_deed.ensures.done.goes) c.publish_change.ensures.run,
      omega (arith, c.in-Ok.ensures.done.few, c.publish_change.ensures.few, may.few, spared),
    )

pub returns-in-Ok-clause-done : goal.returns-in-Ok-clause-done
returns-in-Ok-clause-done g c = λ ok.
    let (x, was, is, may) = c.in-Ok.ensures.done.raised in
    (x, was, is, changed_since c.args.seat.now.known c.carry_out_deed.new.seat.known c.publish_change.new.seat.known x was c.carry_out_deed.ensures.done.goes.stays.0 (c.publish_change.ensures.changed x was may))

pub undo_change-requires : goal.undo_change-requires
undo_change-requires g c = record {
  held = holds_on c.args.table.now g.G.Gate.becomes (c.args.seat.now, c.args.gate.now) (c.carry_out_deed.new.seat, c.carry_out_deed.new.gate) c.args.job.now c.args.job.now.deed c.carry_out_deed.ensures.done.goes c.requires.taken;
  made = c.in-Err.ensures.done.full.not_made;
}

pub returns-in-Err-clause-run : goal.returns-in-Err-clause-run
returns-in-Err-clause-run g c =
    let (m, aim, taken, planned) = c.requires.taken in
    let spared = loads_spared c.args.seat.now.known m c.args.job.now.key.now c.args.job.now.way.now aim c.args.job.now.found c.args.job.now.span c.args.job.now.deed planned in
    inl (
      runs_trans c.args.table.now g.G.Gate.becomes (c.args.seat.now, c.args.gate.now) (c.carry_out_deed.new.seat, c.carry_out_deed.new.gate) (c.undo_change.new.seat, c.undo_change.new.gate)
          (goes_run c.args.table.now g.G.Gate.becomes (c.args.seat.now, c.args.gate.now) (c.carry_out_deed.new.seat, c.carry_out_deed.new.gate) c.carry_out_deed.ensures.done.goes)
          (works_run c.args.table.now g.G.Gate.becomes (c.carry_out_deed.new.seat, c.carry_out_deed.new.gate) (c.undo_change.new.seat, c.undo_change.new.gate) c.undo_change.ensures.works),
      omega (arith, c.in-Err.ensures.done.few, c.undo_change.ensures.few, c.in-Err.ensures.done.full.few, spared),
    )

pub returns-in-Err-clause-failed : goal.returns-in-Err-clause-failed
returns-in-Err-clause-failed g c =
    rw c.refusal_of.ensures (full_failed c.args.table.now.layout (bounds_of_deed c.args.job.now.deed c.args.seat.now.bounds) c.args.job.now c.args.seat.now.known c.undo_change.new.seat.known _ c.in-Err.full
    (no_room c.args.table.now g.G.Gate.becomes (bounds_of_deed c.args.job.now.deed c.args.seat.now.bounds) c.args.job.now.key.now (c.args.seat.now, c.args.gate.now) (c.carry_out_deed.new.seat, c.carry_out_deed.new.gate) (c.undo_change.new.seat, c.undo_change.new.gate) _ c.in-Err.full
    c.carry_out_deed.ensures.done.goes c.undo_change.ensures.works c.undo_change.ensures.rest c.in-Err.ensures.done.full.full_of))

pub returns-in-Err-clause-leafless : goal.returns-in-Err-clause-leafless
returns-in-Err-clause-leafless g c take is =
    let same : c.refusal_of.result ≡ FullLeaves = cc in
    c.carry_out_deed.ensures.leafless take (c.in-Err.is ∙ ap Err (leaves_refused c.in-Err.full (sym c.refusal_of.ensures ∙ same)))

-- ---- a new value is never refused
pub returns-in-Take-clause-whole : goal.returns-in-Take-clause-whole
returns-in-Take-clause-whole g c e = absurd (let z : Take ≡ Value = sym c.in-Take.is ∙ e in cc)

pub returns-in-Ok-clause-whole : goal.returns-in-Ok-clause-whole
returns-in-Ok-clause-whole g c e = absurd (c.carry_out_deed.ensures.kind e)

pub returns-in-Err-clause-whole : goal.returns-in-Err-clause-whole
returns-in-Err-clause-whole g c e = absurd (c.carry_out_deed.ensures.kind e)

-- ---- how many steps it takes
pub returns-in-Value-clause-short : goal.returns-in-Value-clause-short
returns-in-Value-clause-short g c e = c.store_value.ensures.few

pub returns-in-Take-clause-short : goal.returns-in-Take-clause-short
returns-in-Take-clause-short g c e = absurd (let z : Take ≡ Value = sym c.in-Take.is ∙ e in cc)

pub returns-in-Ok-clause-short : goal.returns-in-Ok-clause-short
returns-in-Ok-clause-short g c e = absurd (c.carry_out_deed.ensures.kind e)

pub returns-in-Err-clause-short : goal.returns-in-Err-clause-short
returns-in-Err-clause-short g c e = absurd (c.carry_out_deed.ensures.kind e)

-- ---- a record that stands in no tree
pub returns-in-Ok-clause-spares : goal.returns-in-Ok-clause-spares
returns-in-Ok-clause-spares g c = λ was. c.publish_change.ensures.spares (c.in-Ok.ensures.spares was)

pub returns-in-Err-clause-spares : goal.returns-in-Err-clause-spares
returns-in-Err-clause-spares g c = λ was.
    works_spare c.args.table.now g.G.Gate.becomes (c.carry_out_deed.new.seat, c.carry_out_deed.new.gate) (c.undo_change.new.seat, c.undo_change.new.gate) c.undo_change.ensures.works (goes_spare c.args.table.now g.G.Gate.becomes (c.args.seat.now, c.args.gate.now) (c.carry_out_deed.new.seat, c.carry_out_deed.new.gate) c.carry_out_deed.ensures.done.goes was)

-- ---- and one is found
pub returns-in-Err-clause-finds : goal.returns-in-Err-clause-finds
returns-in-Err-clause-finds g c = λ take room is.
    let same : c.refusal_of.result ≡ FullNodes = cc in
    c.carry_out_deed.ensures.finds take room (c.in-Err.is ∙ ap Err (nodes_refused c.in-Err.full (sym c.refusal_of.ensures ∙ same)))
