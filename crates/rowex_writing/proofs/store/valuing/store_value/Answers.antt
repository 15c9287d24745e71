-- The store, and what is unlocked after it.
use Rattle.rowex_writing.proofs.build.Spare.{value_spares}
use Rattle.rowex_writing.proofs.Common.{◌≡◌, ◌<◌, ◌^◌, None, Some, refl, sym, subst, arith, [], ℕ, Option, slice_range, Publish, Value, IsUnlinked, owns_none, HasPublished, Publishes, act_leaves, Leaf, replaced_change, item, IsEvent, silent, SeatView, TableView}
use Rattle.rowex_writing.specs.build.Changes.{IsPutChange}
use Rattle.rowex_writing.specs.locks.Checks.{HasTakenPlan}
use Rattle.rowex_writing.specs.locks.Locks.{HasJustLocked, numbers_of, span_numbers}
use Rattle.rowex_writing.proofs.plan.Plans.{found_for_key, value_found}
use Rattle.rowex_writing.proofs.locks.Spans.{slice_few}
use Rattle.rowex_writing.proofs.build.Growths.{range_nodes}
use Rattle.rowex_writing.proofs.build.Changes.{step_nodes}
use Rattle.rowex_writing.proofs.build.Putting.{found_there, value_may}
use Rattle.rowex_writing.proofs.build.deeds.Deeds.{span_anchor}
use Rattle.rowex_writing.proofs.locks.Runs.{run_one, runs_trans, works_fresh, works_run}
use Rattle.rowex_writing.proofs.store.Values.{all_kept, anchored_on, value_changed}
use Rattle.rowex_writing.proofs.store.valuing.store_value.Goals as goal
use Rattle.rowex_writing.specs.store.Values.{HasLoadedFound}
use Rattle.rowex_writing.specs.declared.plan.job.Job.{Job}
use Rattle.rowex_writing.specs.declared.plan.Deed.TheVariants.{Value as ValueDeed}

-- the leaf has the key
has_key : (table : TableView) (a : SeatView) (job : Job) (n v : ℕ) (mismatch : Option ℕ) → HasTakenPlan table a job ValueDeed → job.found ≡ Leaf n v mismatch → job.found ≡ Leaf n v None
has_key table a job n v mismatch (m, aim, t, planned) is =
    let (o, w, found, len, end) = value_found a.known m job.key.now job.way.now aim job.found job.span planned in found_for_key job.found n v o w mismatch found is

may : (table : TableView) (a : SeatView) (job : Job) (n v : ℕ) (mismatch : Option ℕ) → HasTakenPlan table a job ValueDeed → job.found ≡ Leaf n v mismatch → HasLoadedFound a.known job.found → job.value < 2 ^ 64 →
    Publishes table.layout a.known (Value n) job.value (replaced_change a.known.pass (item n job.key.now job.value)) (Some v) []
may table a job n v mismatch (m, aim, t, planned) is loaded small =
    let (o, w, found, len, end) = value_found a.known m job.key.now job.way.now aim job.found job.span planned in
    let key = found_for_key job.found n v o w mismatch found is in
    value_may table a m job.key.now job.way.now job.found job.span t n v key end job.value small (loaded n v key)

-- and then
published : (table : TableView) (a b : SeatView) (job : Job) (n v : ℕ) (mismatch : Option ℕ) → HasTakenPlan table a job ValueDeed → job.found ≡ Leaf n v mismatch → HasLoadedFound a.known job.found → job.value < 2 ^ 64 →
    IsEvent table.layout (Publish (Value n) job.value) silent a.known b.known →
    HasPublished a.known b.known (replaced_change a.known.pass (item n job.key.now job.value)) (Some v) [] (span_numbers job.way.now job.span)
published table a b job n v mismatch taken is loaded small e =
    (may table a job n v mismatch taken is loaded small).gives b.known (span_numbers job.way.now job.span) (all_kept a.known.locks (span_numbers job.way.now job.span) taken.2.locked.nodes.0) e

pub publish-requires-clause-range : goal.publish-requires-clause-range
publish-requires-clause-range g c =
    let job = c.args.job.now in
    let (m, aim, t, planned) = c.requires.taken in
    found_there c.args.table.now c.args.seat.now m job.key.now job.way.now job.found job.span t c.in-Leaf.number c.in-Leaf.value c.in-Leaf.mismatch c.in-Leaf.is

pub publish-requires-clause-may : goal.publish-requires-clause-may
publish-requires-clause-may g c =
    (may c.args.table.now c.args.seat.now c.args.job.now c.in-Leaf.number c.in-Leaf.value c.in-Leaf.mismatch c.requires.taken c.in-Leaf.is c.requires.loaded (omega arith)).may

pub unlock_kept-requires-clause-none : goal.unlock_kept-requires-clause-none
unlock_kept-requires-clause-none g c = owns_none IsUnlinked c.publish.new.seat.known.own (published c.args.table.now c.args.seat.now c.publish.new.seat c.args.job.now c.in-Leaf.number c.in-Leaf.value c.in-Leaf.mismatch c.requires.taken c.in-Leaf.is c.requires.loaded (omega arith) c.publish.ensures.event).own

pub unlock_kept-requires-clause-nodes : goal.unlock_kept-requires-clause-nodes
unlock_kept-requires-clause-nodes g c =
    let job = c.args.job.now in
    let (m, aim, t, planned) = c.requires.taken in
    range_nodes c.args.table.now.layout job.way.now c.first_locked.result job.span.len (step_nodes c.args.table.now.layout c.args.seat.now.known m job.key.now job.way.now job.found t.way_of)

pub unlock_kept-requires-clause-locked : goal.unlock_kept-requires-clause-locked
unlock_kept-requires-clause-locked g c =
    let (m, aim, t, planned) = c.requires.taken in
    subst (λ n. HasJustLocked c.publish.new.seat.known (numbers_of (slice_range c.args.job.now.way.now n c.args.job.now.span.len))) (sym c.first_locked.ensures)
    ((published c.args.table.now c.args.seat.now c.publish.new.seat c.args.job.now c.in-Leaf.number c.in-Leaf.value c.in-Leaf.mismatch c.requires.taken c.in-Leaf.is c.requires.loaded (omega arith) c.publish.ensures.event).locks, t.locked.nodes.1)

pub unlock_kept-requires-clause-anchored : goal.unlock_kept-requires-clause-anchored
unlock_kept-requires-clause-anchored g c =
    let (m, aim, t, planned) = c.requires.taken in
    anchored_on _ c.args.seat.now.known c.publish.new.seat.known (published c.args.table.now c.args.seat.now c.publish.new.seat c.args.job.now c.in-Leaf.number c.in-Leaf.value c.in-Leaf.mismatch c.requires.taken c.in-Leaf.is c.requires.loaded (omega arith) c.publish.ensures.event).anchor (span_anchor c.args.seat.now.known c.args.job.now.way.now c.args.job.now.span t.locked)

pub returns-clause-run : goal.returns-clause-run
returns-clause-run g c =
    runs_trans c.args.table.now g.G.Gate.becomes (c.args.seat.now, c.args.gate.now) (c.publish.new.seat, c.publish.new.gate) (c.unlock_kept.new.seat, c.unlock_kept.new.gate)
    (run_one c.args.table.now g.G.Gate.becomes (Publish (Value c.in-Leaf.number) c.args.job.now.value) (c.args.seat.now, c.args.gate.now) (c.publish.new.seat, c.publish.new.gate) tt c.publish.ensures)
    (works_run c.args.table.now g.G.Gate.becomes (c.publish.new.seat, c.publish.new.gate) (c.unlock_kept.new.seat, c.unlock_kept.new.gate) c.unlock_kept.ensures.works)

pub returns-clause-done : goal.returns-clause-done
returns-clause-done g c =
    let job = c.args.job.now in
    let x = replaced_change c.args.seat.now.known.pass (item c.in-Leaf.number job.key.now job.value) in (
      x,
      Some c.in-Leaf.value,
      subst (λ f. IsPutChange c.args.seat.now.known.pass job.key.now job.value f x (Some c.in-Leaf.value)) (sym (has_key c.args.table.now c.args.seat.now job c.in-Leaf.number c.in-Leaf.value c.in-Leaf.mismatch c.requires.taken c.in-Leaf.is)) (refl, refl),
      value_changed c.args.table.now.layout c.args.seat.now.known c.publish.new.seat.known c.unlock_kept.new.seat.known (Value c.in-Leaf.number) job.value x (Some c.in-Leaf.value) (span_numbers job.way.now job.span)
          (published c.args.table.now c.args.seat.now c.publish.new.seat c.args.job.now c.in-Leaf.number c.in-Leaf.value c.in-Leaf.mismatch c.requires.taken c.in-Leaf.is c.requires.loaded (omega arith) c.publish.ensures.event) c.publish.ensures.event c.unlock_kept.ensures.rest c.unlock_kept.ensures.front
          (works_fresh c.args.table.now g.G.Gate.becomes (c.publish.new.seat, c.publish.new.gate) (c.unlock_kept.new.seat, c.unlock_kept.new.gate) c.unlock_kept.ensures.works),
    )

pub returns-clause-few : goal.returns-clause-few
returns-clause-few g c =
    let stored = (act_leaves c.args.table.now.layout c.args.seat.now.known c.publish.new.seat.known (Publish (Value c.in-Leaf.number) c.args.job.now.value) c.publish.ensures.event).steps in
    omega (arith, stored, c.unlock_kept.ensures.few, c.first_locked.ensures, slice_few c.args.job.now.way.now c.first_locked.result c.args.job.now.span.len)

pub returns-clause-spares : goal.returns-clause-spares
returns-clause-spares g c =
    let (m, aim, t, planned) = c.requires.taken in
    value_spares c.args.table.now g.G.Gate.becomes (Value c.in-Leaf.number) c.args.job.now.value (c.args.seat.now, c.args.gate.now) (c.publish.new.seat, c.publish.new.gate) (c.unlock_kept.new.seat, c.unlock_kept.new.gate) t.own c.publish.ensures c.unlock_kept.ensures.works
