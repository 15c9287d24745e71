-- What is left of the last node takes its place.
use Rattle.rowex_writing.proofs.Common.{rules, ◌≡◌, ◌≤◌, ◌+◌, ◌*◌, [], length, ap, sym, subst, Some, refl, arith, ◌∙◌, slice_get_within, HasEntryWord, Layout, item, removed_change}
use Rattle.rowex_writing.specs.build.Building.{IsBuilding}
use Rattle.rowex_writing.specs.plan.Counts.{level_steps}
use Rattle.rowex_writing.specs.build.Deeds.{MayReplace}
use Rattle.rowex_writing.specs.declared.plan.job.Raised.{Raised}
use Rattle.rowex_writing.specs.build.Walks.{nodes_among}
use Rattle.rowex_writing.proofs.build.Growths.{lacks_nodes}
use Rattle.rowex_writing.proofs.build.Changes.{step_nodes}
use Rattle.rowex_writing.proofs.build.Building.{building_none}
use Rattle.rowex_writing.proofs.build.taking.Taking.{IsRaised, left_raised, low_step, lowest_leads, lowest_locked, replaces_alone}
use Rattle.rowex_writing.proofs.build.Walks.{missed_all, walk_begins}
use Rattle.rowex_writing.proofs.build.taking.remake_without_leaf.Goals as goal

pub make_entry_without_leaf-requires-clause-locked : goal.make_entry_without_leaf-requires-clause-locked
make_entry_without_leaf-requires-clause-locked g c =
    let job = c.args.job.now in
    let (m, number, value, b) = c.requires.below in
    let at = low_step c.args.table.now c.args.seat.now m job number value b in
    lowest_locked c.args.table.now c.args.seat.now m job number value b _ at

pub make_entry_without_leaf-requires-clause-place : goal.make_entry_without_leaf-requires-clause-place
make_entry_without_leaf-requires-clause-place g c =
    let job = c.args.job.now in
    let (m, number, value, b) = c.requires.below in
    let at = low_step c.args.table.now c.args.seat.now m job number value b in
    (job.key.now, lowest_leads c.args.table.now c.args.seat.now m job number value b _ at)

pub returns-in_default-clause-full : goal.returns-in_default-clause-full
returns-in_default-clause-full g c =
    let none = c.begin_claims.ensures.made ∙ c.requires.made in
    let job = c.args.job.now in
    let (m, number, value, b) = c.requires.below in
    let at = low_step c.args.table.now c.args.seat.now m job number value b in
    let (words, h) = lowest_locked c.args.table.now c.args.seat.now m job number value b _ at in (
      refl,
      record {
        not_made = c.in_default.ensures.made job.key.now words (lowest_leads c.args.table.now c.args.seat.now m job number value b _ at) h;
        few = omega (arith, ap length none, c.make_entry_without_leaf.ensures.makes.more);
        full_of = lacks_nodes c.args.table.now.layout c.args.seat.now.known [] c.args.seat.now.known.steps c.make_entry_without_leaf.new.seat.known job.way.now job.span c.make_entry_without_leaf.new.build.made.items
            (step_nodes c.args.table.now.layout c.args.seat.now.known m job.key.now job.way.now _ b.taken.way_of) b.taken.locked c.make_entry_without_leaf.ensures.makes.goes.stays.1 b.taken.within.0 b.taken.within.1 (omega (arith, b.last))
            (omega (arith, ap (λ made. length (nodes_among made)) none, c.in_default.ensures.makes.nodes))
            (missed_all c.args.table.now.layout c.make_entry_without_leaf.new.build.walk c.args.seat.now c.args.seat.now.known.steps _ _
            (c.make_entry_without_leaf.ensures.makes.commits ∙ c.begin_claims.ensures.walk.2) (c.in_default.ensures.makes.walk c.args.seat.now
            (walk_begins c.args.table.now.layout c.args.seat.now c.begin_claims.new.self c.layout.result c.begin_claims.ensures.walk.0 c.begin_claims.ensures.walk.1 c.layout.ensures)));
      },
    )

pub returns-clause-raised : goal.returns-clause-raised
returns-clause-raised g c = λ m number value b.
    let none = c.begin_claims.ensures.made ∙ c.requires.made in
    let job = c.args.job.now in
    let table = c.args.table.now in
    let at = low_step c.args.table.now c.args.seat.now m job number value b in
    let (words, h) = lowest_locked table c.args.seat.now m job number value b _ at in
    let (news, side, building) = c.in-Some.ensures.made job.key.now words (lowest_leads table c.args.seat.now m job number value b _ at) h in
    let low : IsRaised c.in-Some.entry = left_raised table.layout c.args.seat.now.known _ words job.key.now c.in-Some.entry news b.taken.possible h side in
    let word : HasEntryWord (Some c.in-Some.entry) = search (rules, low) in
    subst (λ r. MayReplace table c.make_entry_without_leaf.new.seat c.make_entry_without_leaf.new.build.made.items job r (removed_change c.args.seat.now.known.pass (item number job.key.now value)) (Some value))
    (sym (c.raised_for_leftover.ensures.same number value b.is_found))
    (replaces_alone table c.args.seat.now m job number value b c.make_entry_without_leaf.new.seat c.make_entry_without_leaf.new.build.made.items news words h c.in-Some.entry (let stays = c.make_entry_without_leaf.ensures.makes.goes.stays in (stays.0, stays.1, stays.2)) building side word
    (omega (arith, ap length none, c.make_entry_without_leaf.ensures.makes.more)))

pub raised_for_leftover-requires : goal.raised_for_leftover-requires
raised_for_leftover-requires g c = let (m, number, value, b) = c.requires.below in record { found = (number, value, b.is_found) }

pub returns-clause-lowest : goal.returns-clause-lowest
returns-clause-lowest g c = let (m, number, value, b) = c.requires.below in ap (λ (r : Raised). r.low) (c.raised_for_leftover.ensures.same number value b.is_found)

pub make_entry_without_leaf-requires-clause-building : goal.make_entry_without_leaf-requires-clause-building
make_entry_without_leaf-requires-clause-building g c =
    let (m, number, value, b) = c.requires.below in
    subst (λ z. IsBuilding c.args.table.now c.args.seat.now z []) (sym (c.begin_claims.ensures.made ∙ c.requires.made)) (building_none c.args.table.now c.args.seat.now b.taken.seat b.taken.possible b.taken.own)

pub make_entry_without_leaf-requires-clause-room : goal.make_entry_without_leaf-requires-clause-room
make_entry_without_leaf-requires-clause-room g c = omega (arith, ap length c.begin_claims.ensures.made, ap length c.requires.made)

pub bounds-job-job : goal.bounds-job-job
bounds-job-job g c =
    let job = c.args.job.now in
    let (m, number, value, b) = c.requires.below in
    slice_get_within job.way.now job.span.end _ (low_step c.args.table.now c.args.seat.now m job number value b)

pub offset_bounds-job-job : goal.offset_bounds-job-job
offset_bounds-job-job g c =
    let job = c.args.job.now in
    let (m, number, value, b) = c.requires.below in
    let h = slice_get_within job.way.now job.span.end _ (low_step c.args.table.now c.args.seat.now m job number value b) in search (rules, h)

pub make_entry_without_leaf-requires-clause-range : goal.make_entry_without_leaf-requires-clause-range
make_entry_without_leaf-requires-clause-range g c =
    let job = c.args.job.now in
    let (m, number, value, b) = c.requires.below in
    (b.taken.way_of.nodes job.span.end _ (low_step c.args.table.now c.args.seat.now m job number value b)).2.range

pub returns-in_default-clause-walk : goal.returns-in_default-clause-walk
returns-in_default-clause-walk g c =
    let none = c.begin_claims.ensures.made ∙ c.requires.made in
    let whole : c.begin_claims.new.self.walk.left ≡ c.args.table.now.layout.nodes = c.begin_claims.ensures.walk.0 ∙ ap (λ (z : Layout). z.nodes) c.layout.ensures in
    let few : c.make_entry_without_leaf.new.seat.known.steps + 2 * c.make_entry_without_leaf.new.build.walk.left ≤ c.args.seat.now.known.steps + 2 * c.begin_claims.new.self.walk.left + level_steps + length c.make_entry_without_leaf.new.build.made.items = c.in_default.ensures.makes.few in
    omega (arith, whole, few, ap length none, c.make_entry_without_leaf.ensures.makes.more)

pub returns-clause-walk : goal.returns-clause-walk
returns-clause-walk g c =
    let whole : c.begin_claims.new.self.walk.left ≡ c.args.table.now.layout.nodes = c.begin_claims.ensures.walk.0 ∙ ap (λ (z : Layout). z.nodes) c.layout.ensures in
    let few : c.make_entry_without_leaf.new.seat.known.steps + 2 * c.make_entry_without_leaf.new.build.walk.left ≤ c.args.seat.now.known.steps + 2 * c.begin_claims.new.self.walk.left + level_steps + 0 = c.in-Some.ensures.makes.few in
    omega (arith, whole, few)

pub returns-in_default-clause-finds : goal.returns-in_default-clause-finds
returns-in_default-clause-finds g c = λ room is.
    let (m, number, value, b) = c.requires.below in
    let whole = ap (λ (z : Layout). z.nodes) c.layout.ensures in
    c.make_entry_without_leaf.ensures.finds (c.begin_claims.ensures.walk.0 ∙ whole) (c.begin_claims.ensures.walk.1 ∙ whole) c.begin_claims.ensures.walk.2 b.taken.own room c.in_default.is
