-- The node of both in the record that is claimed, and what is left of the upper one.
use Rattle.rowex_writing.proofs.Common.{◌∷◌, [], ◌++◌, ap, arith, length, refl, subst, sym, ◌∙◌, Node, a_node, made_of_node}
use Rattle.rowex_writing.specs.build.Building.{IsBuilding}
use Rattle.rowex_writing.specs.merging.Merging.{ClosesFork}
use Rattle.rowex_writing.specs.build.Taking.{upper}
use Rattle.rowex_writing.proofs.merging.Beside.{upper_range}
use Rattle.rowex_writing.proofs.merging.Leaving.{claimed_same}
use Rattle.rowex_writing.proofs.locks.Going.{goes_more, seat_of}
use Rattle.rowex_writing.proofs.build.Building.{goes_possible, set_all_on}
use Rattle.rowex_writing.proofs.merging.Merging.{beside_now, beside_on, closed_made, closes_for, may_merge_into, merged_for, wide_now}
use Rattle.rowex_writing.proofs.build.taking.Taking.{word_of, claimed_again, claimed_filled, claimed_held}
use Rattle.rowex_writing.proofs.merging.make_merge_records.Goals as goal

pub fill_node-requires-clause-own : goal.fill_node-requires-clause-own
fill_node-requires-clause-own g c =
    seat_of c.args.table.now g.G.Gate.becomes (c.args.seat.now, c.args.gate.now) (c.merge_siblings.new.seat, c.merge_siblings.new.gate) c.merge_siblings.ensures.reads.goes c.requires.wide.seat

pub fill_node-requires-clause-range : goal.fill_node-requires-clause-range
fill_node-requires-clause-range g c = c.requires.claimed.low

pub fill_node-requires-clause-held : goal.fill_node-requires-clause-held
fill_node-requires-clause-held g c = claimed_held (claimed_same {j = c.merge_siblings.new.seat.known} c.requires.claimed c.merge_siblings.ensures.reads.own)

pub returns-in_err-joined-clause-same : goal.returns-in_err-joined-clause-same
returns-in_err-joined-clause-same g c = λ e. claimed_same c.requires.claimed c.merge_siblings.ensures.reads.own

pub raise_closed_fork-requires-clause-building : goal.raise_closed_fork-requires-clause-building
raise_closed_fork-requires-clause-building g c =
    let table = c.args.table.now in
    let n = c.args.merge.now.left.now.number in
    let reads = c.merge_siblings.ensures.reads in
    let own = seat_of table g.G.Gate.becomes (c.args.seat.now, c.args.gate.now) (c.merge_siblings.new.seat, c.merge_siblings.new.gate) reads.goes c.requires.wide.seat in
    let possible = goes_possible table g.G.Gate.becomes (c.args.seat.now, c.args.gate.now) (c.merge_siblings.new.seat, c.merge_siblings.new.gate) reads.goes c.requires.wide.possible in
    let filled = claimed_filled table g.G.Gate.becomes n c.pack_node.result (c.merge_siblings.new.seat, c.merge_siblings.new.gate) (c.fill_node.new.seat, c.fill_node.new.gate)
    (claimed_same c.requires.claimed reads.own) c.fill_node.ensures.fills own possible c.fill_node.ensures.filled.1 in
    let made = c.push.ensures.items ∙ ap (λ z. z ++ a_node n ∷ []) c.clear.ensures in (
      made_of_node n c.in_ok-joined.joined ∷ [],
      subst (λ z. IsBuilding table c.fill_node.new.seat z (made_of_node n c.in_ok-joined.joined ∷ [])) (sym made)
          (subst (λ ws. IsBuilding table c.fill_node.new.seat (a_node n ∷ []) (record { rec = a_node n; words = ws } ∷ [])) c.pack_node.ensures.words filled),
    )

pub raise_closed_fork-requires-clause-range : goal.raise_closed_fork-requires-clause-range
raise_closed_fork-requires-clause-range g c = upper_range c.args.table.now c.args.job.now c.requires.wide.taking

pub raise_closed_fork-requires-clause-locked : goal.raise_closed_fork-requires-clause-locked
raise_closed_fork-requires-clause-locked g c =
    let fills = set_all_on c.args.table.now g.G.Gate.becomes _ _ _ _ c.fill_node.ensures.fills in
    let is = beside_on c.args.seat.now.known c.fill_node.new.seat.known c.args.job.now c.args.merge.now (fills.stays.1 ∙ c.merge_siblings.ensures.reads.goes.stays.1) c.requires.beside in (is.words, is.has)

pub raise_closed_fork-requires-clause-closes : goal.raise_closed_fork-requires-clause-closes
raise_closed_fork-requires-clause-closes g c =
    let goes = goes_more c.args.table.now g.G.Gate.becomes (c.args.seat.now, c.args.gate.now) (c.merge_siblings.new.seat, c.merge_siblings.new.gate) (c.fill_node.new.seat, c.fill_node.new.gate) c.merge_siblings.ensures.reads.goes
    (set_all_on c.args.table.now g.G.Gate.becomes _ _ _ _ c.fill_node.ensures.fills) in (
      c.args.job.now.key.now,
      subst (λ h. ClosesFork c.fill_node.new.seat.known c.args.job.now.key.now (record { step = upper c.args.job.now; slot = c.args.merge.now.slot; entry = Node c.args.merge.now.left.now.number h })) (sym c.height.ensures)
          (closes_for c.args.table.now g.G.Gate.becomes (c.args.seat.now, c.args.gate.now) (c.fill_node.new.seat, c.fill_node.new.gate) c.args.job.now c.args.merge.now goes c.requires.wide c.requires.beside c.in_ok-joined.joined c.in_ok-joined.ensures.joined c.args.merge.now.left.now.number),
    )

pub raise_closed_fork-requires-clause-room : goal.raise_closed_fork-requires-clause-room
raise_closed_fork-requires-clause-room g c = omega (arith, ap length (c.push.ensures.items ∙ ap (λ z. z ++ a_node c.args.merge.now.left.now.number ∷ []) c.clear.ensures))

pub returns-in_err-entry-clause-goes : goal.returns-in_err-entry-clause-goes
returns-in_err-entry-clause-goes g c =
    let goes = goes_more c.args.table.now g.G.Gate.becomes (c.args.seat.now, c.args.gate.now) (c.merge_siblings.new.seat, c.merge_siblings.new.gate) (c.fill_node.new.seat, c.fill_node.new.gate) c.merge_siblings.ensures.reads.goes
    (set_all_on c.args.table.now g.G.Gate.becomes _ _ _ _ c.fill_node.ensures.fills) in
    goes_more c.args.table.now g.G.Gate.becomes (c.args.seat.now, c.args.gate.now) (c.fill_node.new.seat, c.fill_node.new.gate) (c.raise_closed_fork.new.seat, c.raise_closed_fork.new.gate) goes c.raise_closed_fork.ensures.goes

pub returns-in_err-entry-clause-same : goal.returns-in_err-entry-clause-same
returns-in_err-entry-clause-same g c = λ e.
    let again = claimed_again c.args.table.now g.G.Gate.becomes c.args.merge.now.left.now.number c.pack_node.result (c.merge_siblings.new.seat, c.merge_siblings.new.gate) (c.fill_node.new.seat, c.fill_node.new.gate)
    (claimed_same c.requires.claimed c.merge_siblings.ensures.reads.own) c.fill_node.ensures.fills in
    claimed_same again (c.in_err-entry.ensures.same refl).0

pub returns-clause-goes : goal.returns-clause-goes
returns-clause-goes g c =
    let goes = goes_more c.args.table.now g.G.Gate.becomes (c.args.seat.now, c.args.gate.now) (c.merge_siblings.new.seat, c.merge_siblings.new.gate) (c.fill_node.new.seat, c.fill_node.new.gate) c.merge_siblings.ensures.reads.goes
    (set_all_on c.args.table.now g.G.Gate.becomes _ _ _ _ c.fill_node.ensures.fills) in
    goes_more c.args.table.now g.G.Gate.becomes (c.args.seat.now, c.args.gate.now) (c.fill_node.new.seat, c.fill_node.new.gate) (c.raise_closed_fork.new.seat, c.raise_closed_fork.new.gate) goes c.raise_closed_fork.ensures.goes

pub returns-clause-may : goal.returns-clause-may
returns-clause-may g c =
    let table = c.args.table.now in
    let job = c.args.job.now in
    let n = c.args.merge.now.left.now.number in
    let reads = c.merge_siblings.ensures.reads in
    let own = seat_of table g.G.Gate.becomes (c.args.seat.now, c.args.gate.now) (c.merge_siblings.new.seat, c.merge_siblings.new.gate) reads.goes c.requires.wide.seat in
    let possible = goes_possible table g.G.Gate.becomes (c.args.seat.now, c.args.gate.now) (c.merge_siblings.new.seat, c.merge_siblings.new.gate) reads.goes c.requires.wide.possible in
    let filled = claimed_filled table g.G.Gate.becomes n c.pack_node.result (c.merge_siblings.new.seat, c.merge_siblings.new.gate) (c.fill_node.new.seat, c.fill_node.new.gate)
    (claimed_same c.requires.claimed reads.own) c.fill_node.ensures.fills own possible c.fill_node.ensures.filled.1 in
    let made = c.push.ensures.items ∙ ap (λ z. z ++ a_node n ∷ []) c.clear.ensures in
    let building = subst (λ z. IsBuilding table c.fill_node.new.seat z (made_of_node n c.in_ok-joined.joined ∷ [])) (sym made)
    (subst (λ ws. IsBuilding table c.fill_node.new.seat (a_node n ∷ []) (record { rec = a_node n; words = ws } ∷ [])) c.pack_node.ensures.words filled) in
    let goes = goes_more table g.G.Gate.becomes (c.args.seat.now, c.args.gate.now) (c.merge_siblings.new.seat, c.merge_siblings.new.gate) (c.fill_node.new.seat, c.fill_node.new.gate) reads.goes
    (set_all_on table g.G.Gate.becomes _ _ _ _ c.fill_node.ensures.fills) in
    let all = goes_more table g.G.Gate.becomes (c.args.seat.now, c.args.gate.now) (c.fill_node.new.seat, c.fill_node.new.gate) (c.raise_closed_fork.new.seat, c.raise_closed_fork.new.gate) goes c.raise_closed_fork.ensures.goes in
    let (us, side, built) = closed_made table g.G.Gate.becomes (c.args.seat.now, c.args.gate.now) (c.fill_node.new.seat, c.fill_node.new.gate) job c.args.merge.now goes c.requires.wide c.requires.beside c.in_ok-joined.joined c.in_ok-joined.ensures.joined
    _ c.raise_closed_fork.new.build.made.items n c.height.result c.in_ok-entry.entry c.raise_closed_fork.new.seat c.height.ensures building c.in_ok-entry.ensures.made in
    let word = word_of c.in_ok-entry.entry c.show_number_fits.ensures c.in_ok-entry.ensures.height in
    may_merge_into table c.raise_closed_fork.new.seat job c.args.merge.now.number
    (wide_now table g.G.Gate.becomes (c.args.seat.now, c.args.gate.now) (c.raise_closed_fork.new.seat, c.raise_closed_fork.new.gate) job c.args.merge.now all c.requires.wide c.requires.beside c.in_ok-joined.joined c.in_ok-joined.ensures.joined) c.args.merge.now refl
    (beside_now table g.G.Gate.becomes (c.args.seat.now, c.args.gate.now) (c.raise_closed_fork.new.seat, c.raise_closed_fork.new.gate) job c.args.merge.now all c.requires.wide c.requires.beside c.in_ok-joined.joined c.in_ok-joined.ensures.joined)
    c.raise_closed_fork.new.build.made.items us n c.in_ok-joined.joined c.in_ok-entry.entry built c.pack_node.ensures.fits
    (merged_for table g.G.Gate.becomes (c.args.seat.now, c.args.gate.now) (c.raise_closed_fork.new.seat, c.raise_closed_fork.new.gate) job c.args.merge.now all c.requires.wide c.requires.beside c.in_ok-joined.joined c.in_ok-joined.ensures.joined)
    side word (omega (arith, c.raise_closed_fork.ensures.more, ap length made))
