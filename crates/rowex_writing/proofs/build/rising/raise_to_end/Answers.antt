-- One level up, and at the end one entry.
use Rattle.rowex_writing.proofs.Common.{◌≡◌, ap, sym, subst, ◌∙◌, arith, refl, rules, slice_get, PathNode, some_injective, IsOneOf, node_words_of}
use Rattle.rowex_writing.specs.locks.Going.{HasLocked}
use Rattle.rowex_writing.proofs.build.rising.Rising.{fits_above, rises_here, rises_then, settled_on, up_below, up_on, up_there, up_within}
use Rattle.rowex_writing.proofs.build.Walks.{makes_as, makes_failed, makes_none, makes_then}
use Rattle.rowex_writing.proofs.build.rising.raise_to_end.Goals as goal

pub loop-rise-init : goal.loop-rise-init
loop-rise-init g c = record { low = omega arith; end = refl; on = λ b. rises_here b; makes = makes_none ((c.args.seat.now, c.args.gate.now), c.args.build.now) }

-- ---- one level up
pub risen_fork-fork-requires : goal.risen_fork-fork-requires
risen_fork-fork-requires g c = (c.loop-rise.invariant.on c.requires.up).up.split c.loop-rise-test.true

pub offset_bounds-way-above : goal.offset_bounds-way-above
offset_bounds-way-above g c = let h = up_within (c.loop-rise.invariant.on c.requires.up).up c.loop-rise-test.true in search (rules, h)

pub bounds-way-above : goal.bounds-way-above
bounds-way-above g c = up_within (c.loop-rise.invariant.on c.requires.up).up c.loop-rise-test.true

pub raise_node_with_fork-requires-clause-range : goal.raise_node_with_fork-requires-clause-range
raise_node_with_fork-requires-clause-range g c = up_there (c.loop-rise.invariant.on c.requires.up).up c.loop-rise-test.true

pub raise_node_with_fork-requires-clause-below : goal.raise_node_with_fork-requires-clause-below
raise_node_with_fork-requires-clause-below g c =
    up_below (c.loop-rise.invariant.on c.requires.up).up c.loop-rise-test.true c.risen_fork-fork.result c.risen_fork-fork.ensures.key c.risen_fork-fork.ensures.same

pub raise_node_with_fork-requires-clause-room : goal.raise_node_with_fork-requires-clause-room
raise_node_with_fork-requires-clause-room g c =
    let i = c.loop-rise.invariant in omega (arith, i.low, i.end, i.makes.more, c.loop-rise-test.true, c.requires.room)

pub returns-in_err-risen-clause-makes : goal.returns-in_err-risen-clause-makes
returns-in_err-risen-clause-makes g c =
    let i = c.loop-rise.invariant in
    rw c.from_residual.ensures (makes_failed (makes_then i.makes c.in_err-risen.ensures.makes
    (omega (arith, i.low, i.end, c.loop-rise-test.true)) (omega (arith, i.low, i.end, c.loop-rise-test.true))))

pub returns-in_err-risen-clause-made : goal.returns-in_err-risen-clause-made
returns-in_err-risen-clause-made g c = λ b. rw c.from_residual.ensures
    (c.in_err-risen.ensures.made (up_below (c.loop-rise.invariant.on b).up c.loop-rise-test.true c.risen_fork-fork.result c.risen_fork-fork.ensures.key c.risen_fork-fork.ensures.same))

pub loop-rise-preserved : goal.loop-rise-preserved
loop-rise-preserved g c =
    let i = c.loop-rise.invariant in
    let e = c.in_ok-risen.ensures in
    record {
      low = omega (arith, i.low);
      end = i.end;
      on = λ b.
          let u = (i.on b).up in
          let raising = e.made (up_below u c.loop-rise-test.true c.risen_fork-fork.result c.risen_fork-fork.ensures.key c.risen_fork-fork.ensures.same) in
          rises_then (i.on b) (up_on u c.loop-rise-test.true c.in_ok-risen.risen e.makes.goes.stays.1 raising e.level);
      makes = makes_as (makes_then i.makes e.makes (omega (arith, i.low, c.loop-rise-test.true)) (omega (arith, i.low, c.loop-rise-test.true)));
    }

-- ---- and at the end
pub make_one_entry-requires-clause-risen : goal.make_one_entry-requires-clause-risen
make_one_entry-requires-clause-risen g c = let up = (c.loop-rise.invariant.on c.requires.up).up in (up.step.number, up.here)

pub make_one_entry-requires-clause-room : goal.make_one_entry-requires-clause-room
make_one_entry-requires-clause-room g c =
    let i = c.loop-rise.invariant in
    let upto = (i.on c.requires.up).up.upto in omega (arith, i.low, i.end, i.makes.more, upto, c.requires.room)

pub returns-clause-makes : goal.returns-clause-makes
returns-clause-makes g c =
    let i = c.loop-rise.invariant in
    let upto = (i.on c.requires.up).up.upto in
    makes_then i.makes c.make_one_entry.ensures.makes (omega (arith, i.low, i.end, upto)) (omega (arith, i.low, i.end, upto))

pub returns-clause-made : goal.returns-clause-made
returns-clause-made g c = λ b.
    let on = c.loop-rise.invariant.on b in
    let upto = on.up.upto in
    settled_on on c.make_one_entry.new.seat c.make_one_entry.new.build.made.items c.make_one_entry.result (omega (arith, upto, c.loop-rise-test.false))
    (c.make_one_entry.ensures.made on.up.step.number on.up.here)

pub returns-clause-low : goal.returns-clause-low
returns-clause-low g c = λ s words at h.
    let i = c.loop-rise.invariant in
    let u = (i.on c.requires.up).up in
    let upto = u.upto in
    let there : c.loop-rise.rise.level ≡ c.args.rise.end = omega (arith, upto, i.end, c.loop-rise-test.false) in
    let same : s ≡ u.step = some_injective (sym at ∙ (ap (slice_get c.args.way.now) (sym there) ∙ u.at)) in
    let held = subst (IsOneOf (record { node = s.number; words = words })) (sym i.makes.goes.stays.1) h in
    let here = subst (λ (z : PathNode). HasLocked c.loop-rise.seat.known z.number words) same held in
    fits_above words c.loop-rise.rise.risen c.make_one_entry.result (u.single words here) (c.make_one_entry.ensures.low (node_words_of words).fixed.height (u.low words here))
