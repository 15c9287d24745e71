-- One below the end is claimed, or one behind it, or none was free.
use Rattle.rowex_writing.proofs.Common.{◌∙◌, ◌<◌, ◌≤◌, ⊎_elim, sym, arith, cases_lt}
use Rattle.rowex_writing.proofs.build.Spare.{goes_free}
use Rattle.rowex_writing.proofs.build.Walks.{alone_still, none_left_below, none_left_past}
use Rattle.rowex_writing.proofs.locks.Going.{goes_more, seat_of}
use Rattle.rowex_writing.proofs.build.hints.claim_node_on_walk.Goals as goal

pub claim_from_end-requires : goal.claim_from_end-requires
claim_from_end-requires g c = record { own = seat_of c.args.table.now g.G.Gate.becomes (c.args.seat.now, c.args.gate.now) (c.claim_below_end.new.seat, c.claim_below_end.new.gate) c.claim_below_end.ensures.goes c.requires.own }

pub returns-then-walk-clause-goes : goal.returns-then-walk-clause-goes
returns-then-walk-clause-goes g c = goes_more c.args.table.now g.G.Gate.becomes _ _ _ c.claim_below_end.ensures.goes c.claim_from_end.ensures.goes

pub returns-then-walk-clause-walk : goal.returns-then-walk-clause-walk
returns-then-walk-clause-walk g c = λ first made alone w.
    let (none, here) = c.in_default.ensures.walk first made alone w in
    none_left_past c.args.table.now.layout first c.claim_from_end.new.seat made c.claim_from_end.new.hint.next c.claim_from_end.new.walk c.claim_from_end.result
    (c.claim_from_end.ensures.walk first made (alone_still c.args.seat.now.known c.claim_below_end.new.seat.known made c.in_default.ensures.claims alone) none here)

pub returns-clause-walk : goal.returns-clause-walk
returns-clause-walk g c = λ first made alone w.
    let (none, here) = c.in_default.ensures.walk first made alone w in
    none_left_below c.args.table.now.layout first c.claim_below_end.new.seat made c.claim_below_end.new.hint.next c.claim_below_end.new.walk none here (c.if-walk.false)

pub returns-then-walk-clause-finds : goal.returns-then-walk-clause-finds
returns-then-walk-clause-finds g c = λ left end commits none (one, (number, low, free)) is.
    let own = c.in_default.ensures.claims in
    ⊎_elim (λ (below : number < c.claim_below_end.new.walk.end). c.claim_below_end.ensures.tried left end one none c.in_default.is number (omega arith) below free)
    (λ (behind : c.claim_below_end.new.walk.end ≤ number).
    c.claim_from_end.ensures.tried (c.claim_below_end.ensures.left c.in_default.is left end) one (own ∙ none) is number behind low
    (goes_free c.args.table.now g.G.Gate.becomes number (c.args.seat.now, c.args.gate.now) (c.claim_below_end.new.seat, c.claim_below_end.new.gate) c.claim_below_end.ensures.goes (own ∙ none) free))
    (cases_lt number c.claim_below_end.new.walk.end)

pub returns-clause-finds : goal.returns-clause-finds
returns-clause-finds g c = λ left end commits none room is. (let no = sym c.if-walk.false ∙ (c.claim_below_end.ensures.commits ∙ commits) in absurd cc)
