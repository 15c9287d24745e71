-- One entry that is left is published; for more a record is claimed; or all is given back.
use Rattle.record_words.specs.Layout.{uncommitted_in}
use Rattle.rowex_writing.proofs.Common.{ℕ, Option, ◌+◌, ◌*◌, [], Some, ap, arith, le_refl, length, refl, rules, subst, sym, ◌∙◌, slice_get_within, Change, item, removed_change, NODE_FIELDS, one, later_trans}
use Rattle.rowex_writing.specs.build.Building.{IsBuilding}
use Rattle.rowex_writing.specs.build.Changes.{IsTakeChange}
use Rattle.rowex_writing.specs.build.Deeds.{MayReplace, leaf_gone}
use Rattle.rowex_writing.specs.locks.Locks.{span_numbers}
use Rattle.rowex_writing.specs.build.Spare.{by_gone}
use Rattle.rowex_writing.specs.declared.plan.job.Raised.{Raised}
use Rattle.rowex_writing.specs.declared.plan.Deed.TheVariants.{Take}
use Rattle.rowex_writing.specs.declared.plan.Full.TheVariants.{Nodes}
use Rattle.rowex_writing.proofs.merging.Beside.{takes_on}
use Rattle.rowex_writing.proofs.build.Growths.{full_since, no_room}
use Rattle.rowex_writing.proofs.build.Changes.{changed_since}
use Rattle.rowex_writing.proofs.merging.Leaving.{left_on}
use Rattle.rowex_writing.proofs.locks.Going.{goes_more, locked_on, seat_of}
use Rattle.rowex_writing.proofs.build.Building.{building_none, goes_possible, steps_rise}
use Rattle.rowex_writing.proofs.merging.Merging.{entry_height, holds_on, is_taking, takes_taken}
use Rattle.rowex_writing.proofs.attempts.Named.{loaded_on}
use Rattle.rowex_writing.proofs.build.taking.Taking.{low_step, lowest_leads, lowest_locked, taken_below, word_of, replaces_alone}
use Rattle.rowex_writing.proofs.locks.Runs.{goes_run, works_run}
use Rattle.rowex_writing.proofs.build.Spare.{goes_room, goes_spare, gone_node, works_spare}
use Rattle.rowex_writing.proofs.attempts.Attempted.{busy_leafless, busy_roomy, failed_before}
use Rattle.rowex_writing.proofs.merging.widening.Widening.{few_none, removal_changes}
use Rattle.rowex_writing.proofs.attempts.make_removal.Given as given
use Rattle.rowex_writing.proofs.attempts.make_removal.Goals as goal
use Rattle.rowex_writing.proofs.attempts.make_removal.Goals.{After-raised_for_leftover}

-- ---- the leaf's node
pub bounds-job-job : goal.bounds-job-job
bounds-job-job g c =
    let job = c.args.job.now in
    let (m, aim, taken, planned) = c.requires.taken in
    let (number, value, is, b) = taken_below c.args.table.now c.args.seat.now m job aim Take tt taken planned (let w = taken.within.0 in omega (arith, w, c.requires.some)) in
    slice_get_within job.way.now job.span.end _ (low_step c.args.table.now c.args.seat.now m job number value b)

pub offset_bounds-job-job : goal.offset_bounds-job-job
offset_bounds-job-job g c =
    let job = c.args.job.now in
    let (m, aim, taken, planned) = c.requires.taken in
    let (number, value, is, b) = taken_below c.args.table.now c.args.seat.now m job aim Take tt taken planned (let w = taken.within.0 in omega (arith, w, c.requires.some)) in
    let h = slice_get_within job.way.now job.span.end _ (low_step c.args.table.now c.args.seat.now m job number value b) in search (rules, h)

pub load_without_leaf-requires-clause-own : goal.load_without_leaf-requires-clause-own
load_without_leaf-requires-clause-own g c = c.requires.taken.2.seat

pub load_without_leaf-requires-clause-range : goal.load_without_leaf-requires-clause-range
load_without_leaf-requires-clause-range g c =
    let job = c.args.job.now in
    let (m, aim, taken, planned) = c.requires.taken in
    let (number, value, is, b) = taken_below c.args.table.now c.args.seat.now m job aim Take tt taken planned (let w = taken.within.0 in omega (arith, w, c.requires.some)) in
    (b.taken.way_of.nodes job.span.end _ (low_step c.args.table.now c.args.seat.now m job number value b)).2.range

pub load_without_leaf-requires-clause-locked : goal.load_without_leaf-requires-clause-locked
load_without_leaf-requires-clause-locked g c =
    let job = c.args.job.now in
    let (m, aim, taken, planned) = c.requires.taken in
    let (number, value, is, b) = taken_below c.args.table.now c.args.seat.now m job aim Take tt taken planned (let w = taken.within.0 in omega (arith, w, c.requires.some)) in
    lowest_locked c.args.table.now c.args.seat.now m job number value b _ (low_step c.args.table.now c.args.seat.now m job number value b)

pub load_without_leaf-requires-clause-place : goal.load_without_leaf-requires-clause-place
load_without_leaf-requires-clause-place g c =
    let job = c.args.job.now in
    let (m, aim, taken, planned) = c.requires.taken in
    let (number, value, is, b) = taken_below c.args.table.now c.args.seat.now m job aim Take tt taken planned (let w = taken.within.0 in omega (arith, w, c.requires.some)) in
    (job.key.now, lowest_leads c.args.table.now c.args.seat.now m job number value b _ (low_step c.args.table.now c.args.seat.now m job number value b))

-- ---- one entry is left
pub raised_for_leftover-requires : goal.raised_for_leftover-requires
raised_for_leftover-requires g c =
    let (t, same) = is_taking c.args.table.now c.args.seat.now c.args.job.now c.requires.taken c.requires.some in record { found = (t.number, t.value, t.found) }

-- what takes the place of the node then
may_replace : (g : given.Over) (c : After-raised_for_leftover g) → (x : Change) × (was : Option ℕ) × IsTakeChange c.args.seat.now.known.pass c.args.job.now.key.now c.args.job.now.found x was ×
    MayReplace c.args.table.now c.load_without_leaf.new.seat c.clear.new.self.items c.args.job.now c.raised_for_leftover.result x was
may_replace g c =
    let table = c.args.table.now in
    let job = c.args.job.now in
    let reads = c.load_without_leaf.ensures.reads in
    let (m, aim, taken, planned) = c.requires.taken in
    let (number, value, is, b) = taken_below table c.args.seat.now m job aim Take tt taken planned (let w = taken.within.0 in omega (arith, w, c.requires.some)) in
    let at = low_step table c.args.seat.now m job number value b in
    let (words, h) = lowest_locked table c.args.seat.now m job number value b _ at in
    let left = c.in-Some.ensures.left job.key.now words (lowest_leads table c.args.seat.now m job number value b _ at) h in
    let building = subst (λ z. IsBuilding table c.load_without_leaf.new.seat z []) (sym c.clear.ensures)
    (building_none table c.load_without_leaf.new.seat (seat_of table g.G.Gate.becomes (c.args.seat.now, c.args.gate.now) (c.load_without_leaf.new.seat, c.load_without_leaf.new.gate) reads.goes taken.seat)
    (goes_possible table g.G.Gate.becomes (c.args.seat.now, c.args.gate.now) (c.load_without_leaf.new.seat, c.load_without_leaf.new.gate) reads.goes taken.possible) (reads.own ∙ taken.own)) in
    let may = replaces_alone table c.args.seat.now m job number value b c.load_without_leaf.new.seat c.clear.new.self.items [] words h c.in-Some.entry (reads.goes.stays.0, reads.goes.stays.1, reads.goes.stays.2) building
    (one c.in-Some.entry left.0) (word_of c.in-Some.entry c.raised_for_leftover.ensures.number (entry_height c.in-Some.entry left.1)) (omega (arith, ap length c.clear.ensures)) in
    let change = removed_change c.args.seat.now.known.pass (item number job.key.now value) in (
      change,
      Some value,
      subst (λ f. IsTakeChange c.args.seat.now.known.pass job.key.now f change (Some value)) (sym is) (refl, refl),
      subst (λ (r : Raised). MayReplace table c.load_without_leaf.new.seat c.clear.new.self.items job r change (Some value)) (sym (c.raised_for_leftover.ensures.same number value is)) may,
    )

pub publish_change-requires : goal.publish_change-requires
publish_change-requires g c =
    let reads = c.load_without_leaf.ensures.reads in
    let (x, was, is, may) = may_replace g (goal.at.publish_change-requires g c).After-raised_for_leftover in
    record {
      held = holds_on c.args.table.now g.G.Gate.becomes (c.args.seat.now, c.args.gate.now) (c.load_without_leaf.new.seat, c.load_without_leaf.new.gate) c.args.job.now Take reads.goes c.requires.taken;
      may = (x, was, may);
      loaded = loaded_on c.args.seat.now.known c.load_without_leaf.new.seat.known c.args.job.now.found reads.goes.stays.3 c.requires.loaded;
    }

pub returns-in-Some-clause-run : goal.returns-in-Some-clause-run
returns-in-Some-clause-run g c =
    let table = c.args.table.now in
    let (t, same) = is_taking table c.args.seat.now c.args.job.now c.requires.taken c.requires.some in
    let gone = ap (λ (r : Raised). length (leaf_gone r.leaf)) (c.raised_for_leftover.ensures.same t.number t.value t.found) in
    removal_changes table g.G.Gate.becomes c.args.job.now t 0 NODE_FIELDS 84 (c.args.seat.now, c.args.gate.now) (c.load_without_leaf.new.seat, c.load_without_leaf.new.gate) (c.publish_change.new.seat, c.publish_change.new.gate) (omega arith)
    (goes_run table g.G.Gate.becomes (c.args.seat.now, c.args.gate.now) (c.load_without_leaf.new.seat, c.load_without_leaf.new.gate) c.load_without_leaf.ensures.reads.goes) (omega (arith, c.load_without_leaf.ensures.few))
    (few_none table g.G.Gate.becomes (span_numbers c.args.job.now.way.now c.args.job.now.span) 0 84 (c.load_without_leaf.new.seat, c.load_without_leaf.new.gate) (c.publish_change.new.seat, c.publish_change.new.gate) c.publish_change.ensures.run
    (omega (arith, c.publish_change.ensures.few, gone, ap length c.clear.ensures, t.below.last)))

pub returns-in-Some-clause-done : goal.returns-in-Some-clause-done
returns-in-Some-clause-done g c = λ ok.
    let (x, was, is, may) = may_replace g (goal.at.returns-in-Some-clause-done g c).After-raised_for_leftover in
    (x, was, is, changed_since c.args.seat.now.known c.load_without_leaf.new.seat.known c.publish_change.new.seat.known x was c.load_without_leaf.ensures.reads.goes.stays.0 (c.publish_change.ensures.changed x was may))

pub returns-in-Some-clause-spares : goal.returns-in-Some-clause-spares
returns-in-Some-clause-spares g c = λ had.
    let (t, same) = is_taking c.args.table.now c.args.seat.now c.args.job.now c.requires.taken c.requires.some in
    let low = ap (λ (r : Raised). r.low) (c.raised_for_leftover.ensures.same t.number t.value t.found) in
    let (n, at) = gone_node c.args.job.now.way.now c.args.job.now.span c.raised_for_leftover.result (omega (arith, low, t.below.last)) (omega (arith, low)) t.below.taken.within.1 in c.publish_change.ensures.spares (by_gone n at)

-- ---- a record is claimed
pub claim_for_leftover-requires-clause-takes : goal.claim_for_leftover-requires-clause-takes
claim_for_leftover-requires-clause-takes g c =
    takes_taken c.args.table.now g.G.Gate.becomes (c.args.seat.now, c.args.gate.now) (c.load_without_leaf.new.seat, c.load_without_leaf.new.gate) c.args.job.now c.load_without_leaf.ensures.reads.goes c.requires.taken c.requires.some

pub claim_for_leftover-requires-clause-none : goal.claim_for_leftover-requires-clause-none
claim_for_leftover-requires-clause-none g c = c.load_without_leaf.ensures.reads.own ∙ c.requires.taken.2.own

-- none is free
pub undo_change-requires : goal.undo_change-requires
undo_change-requires g c = record {
  held = holds_on c.args.table.now g.G.Gate.becomes (c.args.seat.now, c.args.gate.now) (c.claim_for_leftover.new.seat, c.claim_for_leftover.new.gate) c.args.job.now Take
      (goes_more c.args.table.now g.G.Gate.becomes (c.args.seat.now, c.args.gate.now) (c.load_without_leaf.new.seat, c.load_without_leaf.new.gate) (c.claim_for_leftover.new.seat, c.claim_for_leftover.new.gate) c.load_without_leaf.ensures.reads.goes c.claim_for_leftover.ensures.goes) c.requires.taken;
  made = c.in_default-claim_for_leftover.ensures.claims.not_made;
}

pub returns-in_default-claim_for_leftover-clause-run : goal.returns-in_default-claim_for_leftover-clause-run
returns-in_default-claim_for_leftover-clause-run g c =
    let table = c.args.table.now in
    let (t, same) = is_taking table c.args.seat.now c.args.job.now c.requires.taken c.requires.some in
    let goes = goes_more table g.G.Gate.becomes (c.args.seat.now, c.args.gate.now) (c.load_without_leaf.new.seat, c.load_without_leaf.new.gate) (c.claim_for_leftover.new.seat, c.claim_for_leftover.new.gate) c.load_without_leaf.ensures.reads.goes c.claim_for_leftover.ensures.goes in
    removal_changes table g.G.Gate.becomes c.args.job.now t c.claim_for_leftover.new.build.walk.left (NODE_FIELDS + 2) 84 (c.args.seat.now, c.args.gate.now) (c.claim_for_leftover.new.seat, c.claim_for_leftover.new.gate) (c.undo_change.new.seat, c.undo_change.new.gate) (omega arith)
    (goes_run table g.G.Gate.becomes (c.args.seat.now, c.args.gate.now) (c.claim_for_leftover.new.seat, c.claim_for_leftover.new.gate) goes) (omega (arith, c.load_without_leaf.ensures.few, c.claim_for_leftover.ensures.walk))
    (few_none table g.G.Gate.becomes (span_numbers c.args.job.now.way.now c.args.job.now.span) c.claim_for_leftover.new.build.walk.left 84 (c.claim_for_leftover.new.seat, c.claim_for_leftover.new.gate) (c.undo_change.new.seat, c.undo_change.new.gate)
    (works_run table g.G.Gate.becomes (c.claim_for_leftover.new.seat, c.claim_for_leftover.new.gate) (c.undo_change.new.seat, c.undo_change.new.gate) c.undo_change.ensures.works)
    (omega (arith, c.undo_change.ensures.few, c.in_default-claim_for_leftover.ensures.claims.few, t.below.last)))

pub returns-in_default-claim_for_leftover-clause-failed : goal.returns-in_default-claim_for_leftover-clause-failed
returns-in_default-claim_for_leftover-clause-failed g c =
    let reads = c.load_without_leaf.ensures.reads in
    let none = no_room c.args.table.now g.G.Gate.becomes [] c.args.job.now.key.now (c.load_without_leaf.new.seat, c.load_without_leaf.new.gate) (c.claim_for_leftover.new.seat, c.claim_for_leftover.new.gate) (c.undo_change.new.seat, c.undo_change.new.gate) c.claim_for_leftover.new.build.made.items Nodes
    c.claim_for_leftover.ensures.goes c.undo_change.ensures.works c.undo_change.ensures.rest c.in_default-claim_for_leftover.ensures.claims.full_of in
    record {
      rest = none.rest;
      later = later_trans reads.goes.stays.0 none.later;
      full_of = full_since c.args.table.now.layout [] [] c.args.job.now.key.now c.args.seat.now.known c.load_without_leaf.new.seat.known c.undo_change.new.seat.known c.claim_for_leftover.new.build.made.items Nodes
          (λ kind. le_refl (uncommitted_in [] kind))
          (steps_rise c.args.table.now g.G.Gate.becomes reads.goes.acts (c.args.seat.now, c.args.gate.now) (c.load_without_leaf.new.seat, c.load_without_leaf.new.gate) reads.goes.steps) none.full_of;
    }

pub returns-in_default-claim_for_leftover-clause-spares : goal.returns-in_default-claim_for_leftover-clause-spares
returns-in_default-claim_for_leftover-clause-spares g c = λ had.
    works_spare c.args.table.now g.G.Gate.becomes (c.claim_for_leftover.new.seat, c.claim_for_leftover.new.gate) (c.undo_change.new.seat, c.undo_change.new.gate) c.undo_change.ensures.works
    (goes_spare c.args.table.now g.G.Gate.becomes (c.load_without_leaf.new.seat, c.load_without_leaf.new.gate) (c.claim_for_leftover.new.seat, c.claim_for_leftover.new.gate) c.claim_for_leftover.ensures.goes
    (goes_spare c.args.table.now g.G.Gate.becomes (c.args.seat.now, c.args.gate.now) (c.load_without_leaf.new.seat, c.load_without_leaf.new.gate) c.load_without_leaf.ensures.reads.goes had))

pub returns-in_default-claim_for_leftover-clause-finds : goal.returns-in_default-claim_for_leftover-clause-finds
returns-in_default-claim_for_leftover-clause-finds g c = λ room is.
    let reads = c.load_without_leaf.ensures.reads in
    c.claim_for_leftover.ensures.finds (goes_room c.args.table.now g.G.Gate.becomes (c.args.seat.now, c.args.gate.now) (c.load_without_leaf.new.seat, c.load_without_leaf.new.gate) reads.goes (reads.own ∙ c.requires.taken.2.own) room) c.in_default-claim_for_leftover.is

-- one is claimed
pub end_removal-requires-clause-takes : goal.end_removal-requires-clause-takes
end_removal-requires-clause-takes g c =
    takes_on c.args.table.now g.G.Gate.becomes (c.load_without_leaf.new.seat, c.load_without_leaf.new.gate) (c.claim_for_leftover.new.seat, c.claim_for_leftover.new.gate) c.args.job.now c.claim_for_leftover.ensures.goes
    (takes_taken c.args.table.now g.G.Gate.becomes (c.args.seat.now, c.args.gate.now) (c.load_without_leaf.new.seat, c.load_without_leaf.new.gate) c.args.job.now c.load_without_leaf.ensures.reads.goes c.requires.taken c.requires.some)

pub end_removal-requires-clause-claimed : goal.end_removal-requires-clause-claimed
end_removal-requires-clause-claimed g c = c.in-Some-claim_for_leftover.ensures.claims

pub end_removal-requires-clause-left : goal.end_removal-requires-clause-left
end_removal-requires-clause-left g c =
    let job = c.args.job.now in
    let (m, aim, taken, planned) = c.requires.taken in
    let (number, value, is, b) = taken_below c.args.table.now c.args.seat.now m job aim Take tt taken planned (let w = taken.within.0 in omega (arith, w, c.requires.some)) in
    let at = low_step c.args.table.now c.args.seat.now m job number value b in
    let (words, h) = lowest_locked c.args.table.now c.args.seat.now m job number value b _ at in
    left_on c.load_without_leaf.new.seat.known c.claim_for_leftover.new.seat.known job _ c.claim_for_leftover.ensures.goes.stays.1 (record {
      words = words;
      has = locked_on c.args.seat.now.known c.load_without_leaf.new.seat.known _ words c.load_without_leaf.ensures.reads.goes.stays.1 h;
      built = c.in_default.ensures.left job.key.now words (lowest_leads c.args.table.now c.args.seat.now m job number value b _ at) h;
    })

pub end_removal-requires-clause-loaded : goal.end_removal-requires-clause-loaded
end_removal-requires-clause-loaded g c =
    loaded_on c.load_without_leaf.new.seat.known c.claim_for_leftover.new.seat.known c.args.job.now.found c.claim_for_leftover.ensures.goes.stays.3
    (loaded_on c.args.seat.now.known c.load_without_leaf.new.seat.known c.args.job.now.found c.load_without_leaf.ensures.reads.goes.stays.3 c.requires.loaded)

pub returns-clause-run : goal.returns-clause-run
returns-clause-run g c =
    let table = c.args.table.now in
    let (t, same) = is_taking table c.args.seat.now c.args.job.now c.requires.taken c.requires.some in
    let goes = goes_more table g.G.Gate.becomes (c.args.seat.now, c.args.gate.now) (c.load_without_leaf.new.seat, c.load_without_leaf.new.gate) (c.claim_for_leftover.new.seat, c.claim_for_leftover.new.gate) c.load_without_leaf.ensures.reads.goes c.claim_for_leftover.ensures.goes in
    removal_changes table g.G.Gate.becomes c.args.job.now t c.claim_for_leftover.new.build.walk.left (NODE_FIELDS + 2) (84 + 2 * NODE_FIELDS) (c.args.seat.now, c.args.gate.now) (c.claim_for_leftover.new.seat, c.claim_for_leftover.new.gate) (c.end_removal.new.seat, c.end_removal.new.gate) (omega arith)
    (goes_run table g.G.Gate.becomes (c.args.seat.now, c.args.gate.now) (c.claim_for_leftover.new.seat, c.claim_for_leftover.new.gate) goes) (omega (arith, c.load_without_leaf.ensures.few, c.claim_for_leftover.ensures.walk)) c.end_removal.ensures.tries

pub returns-clause-done : goal.returns-clause-done
returns-clause-done g c = λ ok.
    let job = c.args.job.now in
    let (x, was, is, changed) = c.end_removal.ensures.done ok in
    let later = later_trans c.load_without_leaf.ensures.reads.goes.stays.0 c.claim_for_leftover.ensures.goes.stays.0 in
    (x, was, subst (λ q. IsTakeChange q job.key.now job.found x was) later.pass is, changed_since c.args.seat.now.known c.claim_for_leftover.new.seat.known c.end_removal.new.seat.known x was later changed)

pub returns-clause-failed : goal.returns-clause-failed
returns-clause-failed g c =
    let later = later_trans c.load_without_leaf.ensures.reads.goes.stays.0 c.claim_for_leftover.ensures.goes.stays.0 in
    failed_before c.args.table.now.layout c.claim_for_leftover.new.seat.bounds [] c.args.job.now c.args.seat.now.known c.claim_for_leftover.new.seat.known c.end_removal.new.seat.known _ later
    c.end_removal.result c.end_removal.ensures.failed

pub returns-clause-leafless : goal.returns-clause-leafless
returns-clause-leafless g c = busy_leafless c.end_removal.result _ c.end_removal.ensures.failed

pub returns-clause-spares : goal.returns-clause-spares
returns-clause-spares g c = λ had.
    c.end_removal.ensures.spares (goes_spare c.args.table.now g.G.Gate.becomes (c.load_without_leaf.new.seat, c.load_without_leaf.new.gate) (c.claim_for_leftover.new.seat, c.claim_for_leftover.new.gate) c.claim_for_leftover.ensures.goes
    (goes_spare c.args.table.now g.G.Gate.becomes (c.args.seat.now, c.args.gate.now) (c.load_without_leaf.new.seat, c.load_without_leaf.new.gate) c.load_without_leaf.ensures.reads.goes had))

pub returns-clause-finds : goal.returns-clause-finds
returns-clause-finds g c = λ room. busy_roomy c.end_removal.result _ c.end_removal.ensures.failed
