-- The search, its plan, and what follows from it.
use Rattle.rowex_writing.proofs.build.Spare.{looks_room, looks_spare, reads_room, reads_spare}
use Rattle.rowex_writing.proofs.Common.{[], Err, Some, inl, inr, ◌∙◌, ap, subst, sym, arith, refl, IsSome, ◌≡◌, ◌≤◌, ◌+◌, since, IsWayOf, value_of, reads_later, same_since, way_later, later_trans}
use Rattle.rowex_writing.specs.attempts.Attempts.{HasAttempted, bounds_for}
use Rattle.rowex_writing.specs.build.Deeds.{bounds_of_deed}
use Rattle.rowex_writing.specs.build.Spare.{IsRemoval}
use Rattle.rowex_writing.specs.plan.Planned.{IsPlanned}
use Rattle.rowex_writing.specs.plan.Counts.{most_steps}
use Rattle.rowex_writing.specs.plan.Plans.{LiesOnWay, TakesLeaf}
use Rattle.rowex_writing.proofs.attempts.Attempts.{Begun, aimless_looked, answered_change, answered_leafless, answered_look, begun_on, call_bounds, found_later, leafless, looked, looked_few, plan_made, removal_takes, removes_aim, searched, planned_again, full_of_new, refused_fewer, tried_few}
use Rattle.rowex_writing.proofs.attempts.Attempted.{attempted, searched_few, tried_after}
use Rattle.rowex_writing.proofs.locks.Onward.{reads_run}
use Rattle.rowex_writing.proofs.locks.Runs.{none_once, run_bounds, run_loaded, run_none}
use Rattle.rowex_writing.proofs.locks.Locks.{no_change_made_later}
use Rattle.rowex_writing.proofs.locks.Others.{hindered_later, tried_begin}
use Rattle.rowex_writing.proofs.attempts.attempt.Given as given
use Rattle.rowex_writing.proofs.attempts.attempt.Goals as goal
use Rattle.rowex_writing.proofs.attempts.attempt.Goals.{After-find_plan, After-try_plan, In-Change}
use Rattle.rowex_writing.specs.plan.Asking.{aim_of, value_in}
use Rattle.rowex_writing.specs.declared.attempts.TryFault.TheVariants.{FullNodes}
use Rattle.rowex_writing.specs.declared.plan.Plan.TheVariants.{Change}
use Rattle.rowex_writing.specs.declared.plan.Deed.TheVariants.{Value as ValueDeed}

-- what the search and the plan leave
begun : (g : given.Over) (c : After-find_plan g) → Begun c.args.table.now g.G.Gate.becomes (c.args.seat.now, c.args.gate.now) (c.find_plan.new.seat, c.find_plan.new.gate)
begun g c = begun_on c.args.table.now g.G.Gate.becomes c.find_plan.ensures.reads.0 c.find_plan.ensures.reads.1 (c.args.seat.now, c.args.gate.now) (c.search_way-found.new.seat, c.search_way-found.new.gate) (c.find_plan.new.seat, c.find_plan.new.gate) c.search_way-found.ensures.searched c.search_way-found.ensures.possible c.requires.own c.requires.rest c.find_plan.ensures.reads.2

-- what is planned, if it is a change
change_planned : (g : given.Over) (c : In-Change g) →
    IsPlanned c.find_plan.new.seat.known (since c.search_way-found.new.seat.known) c.key-key.result.now c.as_slice-way.result.now c.in-Some.request.aim c.search_way-found.result (Change c.in-Change.span c.in-Change.deed)
change_planned g c = subst (IsPlanned _ _ _ _ _ _) c.in-Change.is (plan_made c.args.table.now.layout _ _ (since c.search_way-found.new.seat.known) c.key-key.result.now _ _ _ _ _ c.as_slice-way.ensures.value c.search_way-found.ensures.way c.find_plan.ensures.planned)

-- what the plan's change leaves
tried : (g : given.Over) (c : After-try_plan g) → HasAttempted c.args.table.now g.G.Gate.becomes (c.args.seat.now, c.args.gate.now) (c.try_plan.new.seat, c.try_plan.new.gate) ×
    (c.try_plan.new.seat.known.steps ≤ c.args.seat.now.known.steps + most_steps c.args.table.now.layout)
tried g c = tried_after c.args.table.now g.G.Gate.becomes c.find_plan.ensures.reads.0 c.find_plan.ensures.reads.1 (c.args.seat.now, c.args.gate.now) (c.search_way-found.new.seat, c.search_way-found.new.gate) (c.find_plan.new.seat, c.find_plan.new.gate) (c.try_plan.new.seat, c.try_plan.new.gate) c.search_way-found.ensures.searched c.find_plan.ensures.reads.2 c.find_plan.ensures.few c.try_plan.ensures.run

pub find_plan-requires-clause-own : goal.find_plan-requires-clause-own
find_plan-requires-clause-own g c = (searched c.args.table.now g.G.Gate.becomes (c.args.seat.now, c.args.gate.now) (c.search_way-found.new.seat, c.search_way-found.new.gate) c.search_way-found.ensures.searched c.search_way-found.ensures.possible c.requires.own c.requires.rest).seat

pub find_plan-requires-clause-way : goal.find_plan-requires-clause-way
find_plan-requires-clause-way g c = (
  since c.search_way-found.new.seat.known,
  c.key-key.result.now,
  subst (λ way. IsWayOf c.args.table.now.layout c.search_way-found.new.seat.known (since c.search_way-found.new.seat.known) c.key-key.result.now way c.search_way-found.result)
      (sym c.as_slice-way.ensures.value) c.search_way-found.ensures.way,
)

-- ---- answered by the plan
pub returns-in-Answer-clause-run : goal.returns-in-Answer-clause-run
returns-in-Answer-clause-run g c =
    let none = none_once c.args.table.now g.G.Gate.becomes (c.search_way-found.new.seat, c.search_way-found.new.gate) (c.find_plan.new.seat, c.find_plan.new.gate) (reads_run c.args.table.now g.G.Gate.becomes c.find_plan.ensures.reads.0 c.find_plan.ensures.reads.1 (c.search_way-found.new.seat, c.search_way-found.new.gate) (c.find_plan.new.seat, c.find_plan.new.gate) c.find_plan.ensures.reads.2) in
    attempted c.args.table.now g.G.Gate.becomes (c.args.seat.now, c.args.gate.now) (c.search_way-found.new.seat, c.search_way-found.new.gate) (c.find_plan.new.seat, c.find_plan.new.gate) c.search_way-found.ensures.searched none (omega arith) (omega (arith, c.find_plan.ensures.few))

pub returns-in-Answer-clause-loaded : goal.returns-in-Answer-clause-loaded
returns-in-Answer-clause-loaded g c = (begun g (goal.at.returns-in-Answer-clause-loaded g c).After-find_plan).loaded

pub returns-in-Answer-clause-rest : goal.returns-in-Answer-clause-rest
returns-in-Answer-clause-rest g c = (begun g (goal.at.returns-in-Answer-clause-rest g c).After-find_plan).rest

pub returns-in-Answer-clause-answered : goal.returns-in-Answer-clause-answered
returns-in-Answer-clause-answered g c =
    let b = begun g (goal.at.returns-in-Answer-clause-answered g c).After-find_plan in
    let m = since c.search_way-found.new.seat.known in
    let planned = plan_made c.args.table.now.layout _ _ m c.key-key.result.now _ _ _ _ _ c.as_slice-way.ensures.value c.search_way-found.ensures.way c.find_plan.ensures.planned in
    let found = found_later _ _ _ _ (reads_later c.find_plan.ensures.reads.2) (same_since c.find_plan.ensures.reads.2) c.search_way-found.ensures.found in
    answered_look c.args.seat.now.known c.find_plan.new.seat.known c.args.call.now c.in-Answer.reply b.later
    (looked _ _ _ _ _ c.args.call.now _ _ _ _ c.key-key.ensures refl c.in-Some.ensures.0 (subst (IsPlanned _ _ _ _ _ _) c.in-Answer.is planned) found)

pub returns-in-Answer-clause-few : goal.returns-in-Answer-clause-few
returns-in-Answer-clause-few g c =
    let looked = searched_few c.args.table.now g.G.Gate.becomes (c.args.seat.now, c.args.gate.now) (c.search_way-found.new.seat, c.search_way-found.new.gate) c.search_way-found.ensures.searched in
    looked_few c.args.table.now.layout c.args.seat.now.known.steps c.find_plan.new.seat.known.steps c.args.call.now (omega (arith, looked, c.find_plan.ensures.few))

-- ---- the change
pub try_plan-requires-clause-own : goal.try_plan-requires-clause-own
try_plan-requires-clause-own g c = (begun g (goal.at.try_plan-requires-clause-own g c).After-find_plan).seat

pub try_plan-requires-clause-within : goal.try_plan-requires-clause-within
try_plan-requires-clause-within g c = subst (LiesOnWay c.as_slice-way.result.now) c.in-Change.is c.find_plan.ensures.within

pub try_plan-requires-clause-planned : goal.try_plan-requires-clause-planned
try_plan-requires-clause-planned g c =
    let m = since c.search_way-found.new.seat.known in
    let way = subst (λ way. IsWayOf c.args.table.now.layout c.search_way-found.new.seat.known m c.key-key.result.now way c.search_way-found.result) (sym c.as_slice-way.ensures.value) c.search_way-found.ensures.way in (
      m,
      c.in-Some.request.aim,
      way_later _ _ _ _ _ _ _ (reads_later c.find_plan.ensures.reads.2) way,
      subst (IsPlanned _ _ _ _ _ _) c.in-Change.is (c.find_plan.ensures.planned m c.key-key.result.now way),
    )

pub try_plan-requires-clause-rest : goal.try_plan-requires-clause-rest
try_plan-requires-clause-rest g c = (begun g (goal.at.try_plan-requires-clause-rest g c).After-find_plan).rest

pub try_plan-requires-clause-quiet : goal.try_plan-requires-clause-quiet
try_plan-requires-clause-quiet g c =
    let b = begun g (goal.at.try_plan-requires-clause-quiet g c).After-find_plan in
    no_change_made_later c.args.seat.now.known c.find_plan.new.seat.known b.later c.requires.quiet

pub returns-in-Err-clause-run : goal.returns-in-Err-clause-run
returns-in-Err-clause-run g c =
    (tried g (goal.at.returns-in-Err-clause-run g c).After-try_plan).0

pub returns-in-Err-clause-loaded : goal.returns-in-Err-clause-loaded
returns-in-Err-clause-loaded g c =
    run_loaded c.args.table.now g.G.Gate.becomes c.args.seat.now.known (c.find_plan.new.seat, c.find_plan.new.gate) (c.try_plan.new.seat, c.try_plan.new.gate) (begun g (goal.at.returns-in-Err-clause-loaded g c).After-find_plan).loaded c.try_plan.ensures.run.1.1

pub returns-in-Err-clause-refused : goal.returns-in-Err-clause-refused
returns-in-Err-clause-refused g c =
    let b = begun g (goal.at.returns-in-Err-clause-refused g c).After-find_plan in
    let m = since c.search_way-found.new.seat.known in
    let planned = plan_made c.args.table.now.layout _ _ m c.key-key.result.now _ _ _ _ _ c.as_slice-way.ensures.value c.search_way-found.ensures.way c.find_plan.ensures.planned in
    let takes : IsRemoval c.args.call.now → TakesLeaf c.in-Change.deed = λ removes. removal_takes c.find_plan.new.seat.known m c.key-key.result.now c.as_slice-way.result.now c.in-Some.request.aim c.search_way-found.result c.find_plan.result c.in-Change.span c.in-Change.deed
    (removes_aim c.args.call.now (value_of c.search_way-found.result) c.in-Some.request.aim removes c.in-Some.ensures.0) c.in-Change.is planned in
    let falls = run_bounds c.args.table.now g.G.Gate.becomes (c.args.seat.now, c.args.gate.now) (c.find_plan.new.seat, c.find_plan.new.gate) b.run in
    rw (sym c.key-key.ensures) (refused_fewer c.args.table.now.layout (bounds_of_deed c.in-Change.deed c.find_plan.new.seat.bounds) (bounds_for c.args.call.now c.args.seat.now.bounds)
    (call_bounds c.args.call.now c.in-Change.deed c.find_plan.new.seat.bounds c.args.seat.now.bounds takes falls) _ _ _ _ _
    (c.in-Err.ensures.refused c.args.seat.now.known b.loaded b.later))

pub returns-in-Err-clause-leafless : goal.returns-in-Err-clause-leafless
returns-in-Err-clause-leafless g c =
    let m = since c.search_way-found.new.seat.known in
    let planned = plan_made c.args.table.now.layout _ _ m c.key-key.result.now _ _ _ _ _ c.as_slice-way.ensures.value c.search_way-found.ensures.way c.find_plan.ensures.planned in
    leafless c.args.call.now (value_of c.search_way-found.result) c.in-Some.request.aim c.in-Err.fault c.in-Some.ensures.0
    (λ removes is. c.try_plan.ensures.leafless (removal_takes c.find_plan.new.seat.known m c.key-key.result.now c.as_slice-way.result.now c.in-Some.request.aim c.search_way-found.result c.find_plan.result c.in-Change.span c.in-Change.deed removes c.in-Change.is planned) (c.in-Err.is ∙ ap Err is))

pub returns-in-Ok-clause-leafless : goal.returns-in-Ok-clause-leafless
returns-in-Ok-clause-leafless g c = answered_leafless c.args.call.now _

pub returns-in-Answer-clause-leafless : goal.returns-in-Answer-clause-leafless
returns-in-Answer-clause-leafless g c = answered_leafless c.args.call.now _

pub returns-in-Err-clause-few : goal.returns-in-Err-clause-few
returns-in-Err-clause-few g c =
    let m = since c.search_way-found.new.seat.known in
    let plan = change_planned g (goal.at.returns-in-Err-clause-few g c).In-Change in
    let looked = searched_few c.args.table.now g.G.Gate.becomes (c.args.seat.now, c.args.gate.now) (c.search_way-found.new.seat, c.search_way-found.new.gate) c.search_way-found.ensures.searched in
    tried_few c.args.table.now.layout c.args.seat.now.known.steps c.try_plan.new.seat.known.steps c.find_plan.new.seat.known m c.key-key.result.now c.as_slice-way.result.now c.in-Some.request.aim c.search_way-found.result c.in-Change.span c.in-Change.deed c.args.call.now
    c.in-Some.ensures.0 plan (λ is. let short = c.try_plan.ensures.short is in omega (arith, looked, c.find_plan.ensures.few, short))
    (tried g (goal.at.returns-in-Err-clause-few g c).After-try_plan).1

pub returns-in-Ok-clause-run : goal.returns-in-Ok-clause-run
returns-in-Ok-clause-run g c =
    (tried g (goal.at.returns-in-Ok-clause-run g c).After-try_plan).0

pub returns-in-Ok-clause-loaded : goal.returns-in-Ok-clause-loaded
returns-in-Ok-clause-loaded g c =
    run_loaded c.args.table.now g.G.Gate.becomes c.args.seat.now.known (c.find_plan.new.seat, c.find_plan.new.gate) (c.try_plan.new.seat, c.try_plan.new.gate) (begun g (goal.at.returns-in-Ok-clause-loaded g c).After-find_plan).loaded c.try_plan.ensures.run.1.1

pub returns-in-Ok-clause-answered : goal.returns-in-Ok-clause-answered
returns-in-Ok-clause-answered g c =
    let b = begun g (goal.at.returns-in-Ok-clause-answered g c).After-find_plan in
    let m = since c.search_way-found.new.seat.known in
    let plan = change_planned g (goal.at.returns-in-Ok-clause-answered g c).In-Change in
    rw (c.reply-in-Ok.ensures []) (rw (c.found_value-in-Ok.ensures) (elim c.in-Ok.ensures.done [
      | inl other ↦ answered_look c.args.seat.now.known c.try_plan.new.seat.known c.args.call.now _ (later_trans b.later other.later)
          (aimless_looked c.try_plan.new.seat.known c.key-key.result.now c.args.call.now (value_of c.in-Ok.now) (Some other.value) c.key-key.ensures other.is (ap (aim_of c.args.call.now) other.is ∙ other.aimless) other.held)
      | inr made ↦
          let again = made.0 in
          let now = subst (λ f. IsPlanned c.find_plan.new.seat.known m c.key-key.result.now c.as_slice-way.result.now c.in-Some.request.aim f (Change c.in-Change.span c.in-Change.deed)) (sym again.is)
          (planned_again c.find_plan.new.seat.known m c.key-key.result.now c.as_slice-way.result.now c.in-Some.request.aim c.search_way-found.result again.value c.in-Change.span c.in-Change.deed plan) in
          let aims = again.aims c.in-Some.request.aim c.in-Some.ensures.0 in
          answered_change c.args.seat.now.known c.find_plan.new.seat.known c.find_plan.new.seat.known c.try_plan.new.seat.known m c.key-key.result.now (value_in c.args.call.now (value_of c.in-Ok.now)) c.as_slice-way.result.now c.args.call.now
          (value_of c.in-Ok.now) c.in-Some.request.aim c.in-Ok.now c.in-Change.span c.in-Change.deed b.later c.key-key.ensures refl refl aims now made.1
    ]))

pub try_plan-requires-clause-aims : goal.try_plan-requires-clause-aims
try_plan-requires-clause-aims g c =
    subst IsSome (sym c.in-Some.ensures.0) refl

pub returns-in-Ok-clause-few : goal.returns-in-Ok-clause-few
returns-in-Ok-clause-few g c =
    let m = since c.search_way-found.new.seat.known in
    let plan = change_planned g (goal.at.returns-in-Ok-clause-few g c).In-Change in
    let looked = searched_few c.args.table.now g.G.Gate.becomes (c.args.seat.now, c.args.gate.now) (c.search_way-found.new.seat, c.search_way-found.new.gate) c.search_way-found.ensures.searched in
    tried_few c.args.table.now.layout c.args.seat.now.known.steps c.try_plan.new.seat.known.steps c.find_plan.new.seat.known m c.key-key.result.now c.as_slice-way.result.now c.in-Some.request.aim c.search_way-found.result c.in-Change.span c.in-Change.deed c.args.call.now
    c.in-Some.ensures.0 plan (λ is. let short = c.try_plan.ensures.short is in omega (arith, looked, c.find_plan.ensures.few, short))
    (tried g (goal.at.returns-in-Ok-clause-few g c).After-try_plan).1

-- ---- answered at once
pub returns-in_default-clause-run : goal.returns-in_default-clause-run
returns-in_default-clause-run g c =
    let none = none_once c.args.table.now g.G.Gate.becomes (c.search_way-found.new.seat, c.search_way-found.new.gate) (c.search_way-found.new.seat, c.search_way-found.new.gate) (run_none c.args.table.now g.G.Gate.becomes (c.search_way-found.new.seat, c.search_way-found.new.gate)) in
    attempted c.args.table.now g.G.Gate.becomes (c.args.seat.now, c.args.gate.now) (c.search_way-found.new.seat, c.search_way-found.new.gate) (c.search_way-found.new.seat, c.search_way-found.new.gate) c.search_way-found.ensures.searched none (omega arith) (omega arith)

pub returns-in_default-clause-loaded : goal.returns-in_default-clause-loaded
returns-in_default-clause-loaded g c = (searched c.args.table.now g.G.Gate.becomes (c.args.seat.now, c.args.gate.now) (c.search_way-found.new.seat, c.search_way-found.new.gate) c.search_way-found.ensures.searched c.search_way-found.ensures.possible c.requires.own c.requires.rest).loaded

pub returns-in_default-clause-rest : goal.returns-in_default-clause-rest
returns-in_default-clause-rest g c = (searched c.args.table.now g.G.Gate.becomes (c.args.seat.now, c.args.gate.now) (c.search_way-found.new.seat, c.search_way-found.new.gate) c.search_way-found.ensures.searched c.search_way-found.ensures.possible c.requires.own c.requires.rest).rest

pub returns-in_default-clause-answered : goal.returns-in_default-clause-answered
returns-in_default-clause-answered g c =
    let b = searched c.args.table.now g.G.Gate.becomes (c.args.seat.now, c.args.gate.now) (c.search_way-found.new.seat, c.search_way-found.new.gate) c.search_way-found.ensures.searched c.search_way-found.ensures.possible c.requires.own c.requires.rest in
    rw (c.reply.ensures []) (answered_look c.args.seat.now.known c.search_way-found.new.seat.known c.args.call.now _ b.later
    (aimless_looked c.search_way-found.new.seat.known _ c.args.call.now _ _ c.key-key.ensures c.found_value.ensures (ap (aim_of c.args.call.now) c.found_value.ensures ∙ c.in_default.ensures) c.search_way-found.ensures.found))

pub returns-in_default-clause-leafless : goal.returns-in_default-clause-leafless
returns-in_default-clause-leafless g c = answered_leafless c.args.call.now _

pub returns-in_default-clause-few : goal.returns-in_default-clause-few
returns-in_default-clause-few g c =
    let looked = searched_few c.args.table.now g.G.Gate.becomes (c.args.seat.now, c.args.gate.now) (c.search_way-found.new.seat, c.search_way-found.new.gate) c.search_way-found.ensures.searched in
    looked_few c.args.table.now.layout c.args.seat.now.known.steps c.search_way-found.new.seat.known.steps c.args.call.now (omega (arith, looked))

pub returns-in-Err-clause-full : goal.returns-in-Err-clause-full
returns-in-Err-clause-full g c =
    let m = since c.search_way-found.new.seat.known in
    let plan = change_planned g (goal.at.returns-in-Err-clause-full g c).In-Change in
    let whole = λ (is : c.in-Change.deed ≡ ValueDeed). c.in-Err.ensures.whole is in
    full_of_new c.search_way-found.new.seat.known c.find_plan.new.seat.known c.try_plan.new.seat.known m c.key-key.result.now c.as_slice-way.result.now c.in-Some.request.aim c.search_way-found.result c.in-Change.span c.in-Change.deed c.in-Err.fault
    c.args.call.now c.key-key.ensures plan c.search_way-found.ensures.way.since c.search_way-found.ensures.found (later_trans (reads_later c.find_plan.ensures.reads.2) c.in-Err.ensures.later)
    c.in-Some.ensures.0 whole

-- ---- a record that stands in no tree
pub returns-in_default-clause-spares : goal.returns-in_default-clause-spares
returns-in_default-clause-spares g c = looks_spare c.args.table.now g.G.Gate.becomes (c.args.seat.now, c.args.gate.now) (c.search_way-found.new.seat, c.search_way-found.new.gate) c.search_way-found.ensures.searched.looks

pub returns-in-Answer-clause-spares : goal.returns-in-Answer-clause-spares
returns-in-Answer-clause-spares g c = λ was. (reads_spare c.args.table.now g.G.Gate.becomes (c.search_way-found.new.seat, c.search_way-found.new.gate) (c.find_plan.new.seat, c.find_plan.new.gate) c.find_plan.ensures.reads.2 (looks_spare c.args.table.now g.G.Gate.becomes (c.args.seat.now, c.args.gate.now) (c.search_way-found.new.seat, c.search_way-found.new.gate) c.search_way-found.ensures.searched.looks was))

pub returns-in-Ok-clause-spares : goal.returns-in-Ok-clause-spares
returns-in-Ok-clause-spares g c = λ was. c.try_plan.ensures.spares (reads_spare c.args.table.now g.G.Gate.becomes (c.search_way-found.new.seat, c.search_way-found.new.gate) (c.find_plan.new.seat, c.find_plan.new.gate) c.find_plan.ensures.reads.2 (looks_spare c.args.table.now g.G.Gate.becomes (c.args.seat.now, c.args.gate.now) (c.search_way-found.new.seat, c.search_way-found.new.gate) c.search_way-found.ensures.searched.looks was))

pub returns-in-Err-clause-spares : goal.returns-in-Err-clause-spares
returns-in-Err-clause-spares g c = λ was. c.try_plan.ensures.spares (reads_spare c.args.table.now g.G.Gate.becomes (c.search_way-found.new.seat, c.search_way-found.new.gate) (c.find_plan.new.seat, c.find_plan.new.gate) c.find_plan.ensures.reads.2 (looks_spare c.args.table.now g.G.Gate.becomes (c.args.seat.now, c.args.gate.now) (c.search_way-found.new.seat, c.search_way-found.new.gate) c.search_way-found.ensures.searched.looks was))

-- ---- and one is found
pub returns-in-Err-clause-finds : goal.returns-in-Err-clause-finds
returns-in-Err-clause-finds g c = λ removal room is.
    let same : c.in-Err.fault ≡ FullNodes = cc in
    let m = since c.search_way-found.new.seat.known in
    let planned = plan_made c.args.table.now.layout _ _ m c.key-key.result.now _ _ _ _ _ c.as_slice-way.ensures.value c.search_way-found.ensures.way c.find_plan.ensures.planned in
    let removes = removes_aim c.args.call.now (value_of c.search_way-found.result) c.in-Some.request.aim removal c.in-Some.ensures.0 in
    let none = (begun g (goal.at.returns-in-Err-clause-finds g c).After-find_plan).rest.own in
    let searched_none = (searched c.args.table.now g.G.Gate.becomes (c.args.seat.now, c.args.gate.now) (c.search_way-found.new.seat, c.search_way-found.new.gate) c.search_way-found.ensures.searched c.search_way-found.ensures.possible c.requires.own c.requires.rest).rest.own in
    c.try_plan.ensures.finds
    (removal_takes c.find_plan.new.seat.known m c.key-key.result.now c.as_slice-way.result.now c.in-Some.request.aim c.search_way-found.result c.find_plan.result c.in-Change.span c.in-Change.deed removes c.in-Change.is planned)
    (reads_room c.args.table.now g.G.Gate.becomes (c.search_way-found.new.seat, c.search_way-found.new.gate) (c.find_plan.new.seat, c.find_plan.new.gate) c.find_plan.ensures.reads.2 none (looks_room c.args.table.now g.G.Gate.becomes (c.args.seat.now, c.args.gate.now) (c.search_way-found.new.seat, c.search_way-found.new.gate) c.search_way-found.ensures.searched.looks searched_none room)) (c.in-Err.is ∙ ap Err same)

-- ---- what was in the way
pub returns-in-Err-clause-hindered : goal.returns-in-Err-clause-hindered
returns-in-Err-clause-hindered g c = λ is.
    let b = begun g (goal.at.returns-in-Err-clause-hindered g c).After-find_plan in
    hindered_later c.args.table.now.layout c.args.seat.now c.find_plan.new.seat c.try_plan.new.seat b.later
    (tried_begin c.args.table.now g.G.Gate.becomes (c.args.seat.now, c.args.gate.now) (c.find_plan.new.seat, c.find_plan.new.gate) b.run) (c.in-Err.ensures.hindered is)
