-- Nothing is left to try; or those that are found committed are tried, of which none was tried before if they are fewer.
use Rattle.rowex_writing.proofs.Common.{◌≡◌, ℕ, ◌+◌, ◌-◌, ◌≤◌, ap, sym, subst, arith, ◌∙◌, Layout, SeatView}
use Rattle.std.specs.Prelude.{min}
use Rattle.record_words.specs.Layout.{uncommitted_in}
use Rattle.rowex_writing.specs.build.Walks.{HasNoOther, IsClaimWalk, left_below}
use Rattle.rowex_writing.proofs.build.Spare.{found_free}
use Rattle.rowex_writing.proofs.build.Walks.{walk_answers, walk_narrows}
use Rattle.rowex_writing.proofs.locks.Going.{goes_bounds, goes_found}
use Rattle.rowex_writing.proofs.build.hints.claim_below_end.Goals as goal

-- what is said of a count from number 0 on
of_rest : (nodes count uncommitted : ℕ) → nodes - 0 ≤ count + uncommitted → nodes ≤ count + uncommitted
of_rest nodes count uncommitted h = omega arith

of_committed : (nodes count uncommitted : ℕ) → uncommitted + count ≤ nodes - 0 → uncommitted + count ≤ nodes
of_committed nodes count uncommitted h = omega arith

at_most : (nodes count uncommitted : ℕ) → uncommitted + count ≤ nodes → count ≤ nodes
at_most nodes count uncommitted h = omega arith

fewer_still : (nodes count more few : ℕ) → few ≤ more → more + count ≤ nodes → few + count ≤ nodes
fewer_still nodes count more few less h = omega arith

pub returns-clause-goes : goal.returns-clause-goes
returns-clause-goes g c =
    let left = c.if-left-eq0.false in
    let end = c.if-walk-eq0.false in
    goes_found c.args.table.now g.G.Gate.becomes c.args.seat.now c.count_committed_from.new.seat c.args.gate.now (c.claim_committed_node-claimed.new.seat, c.claim_committed_node-claimed.new.gate) c.count_committed_from.ensures.bounds c.claim_committed_node-claimed.ensures.goes
    (c.claim_committed_node-claimed.ensures.some (omega (arith, end, c.count_committed_from.ensures.some, c.min-end.ensures)) (omega (arith, left, end, c.count_committed_from.ensures.some, c.min-end.ensures, c.min-most.ensures)))

pub returns-clause-walk : goal.returns-clause-walk
returns-clause-walk g c = λ first made alone w.
    let layout = c.args.table.now.layout in
    let walk = c.args.walk.now in
    let next = c.args.hint.now.next in
    let s = c.args.seat.now in
    let count = c.count_committed_from.result in
    let known : c.count_committed_from.new.seat.known ≡ s.known = ap (λ (z : SeatView). z.known) c.count_committed_from.ensures.bounds.1 in
    let nodes : c.layout-nodes.result.nodes ≡ layout.nodes = ap (λ (z : Layout). z.nodes) c.layout-nodes.ensures in
    let end = c.min-end.ensures in
    let most : c.min-most.result ≡ min (left_below layout.nodes walk) c.min-end.result = c.min-most.ensures ∙ ap (λ z. min z c.min-end.result) (c.left_below_end-left.ensures ∙ ap (λ n. left_below n walk) nodes) in
    let rest = of_rest layout.nodes count (uncommitted_in s.bounds 0) c.count_committed_from.ensures.rest in
    let committed = of_committed layout.nodes count (uncommitted_in c.count_committed_from.new.seat.bounds 0) c.count_committed_from.ensures.committed in
    let fell = goes_bounds c.args.table.now g.G.Gate.becomes (c.count_committed_from.new.seat, c.args.gate.now) (c.claim_committed_node-claimed.new.seat, c.claim_committed_node-claimed.new.gate) c.claim_committed_node-claimed.ensures.goes 0 in
    let less = goes_bounds c.args.table.now g.G.Gate.becomes (s, c.args.gate.now) (c.claim_committed_node-claimed.new.seat, c.claim_committed_node-claimed.new.gate) (returns-clause-goes g c) 0 in
    let fits = c.claim_committed_node-claimed.ensures.less in
    let few : count ≤ layout.nodes = at_most layout.nodes count (uncommitted_in c.count_committed_from.new.seat.bounds 0) committed in
    let still = fewer_still layout.nodes count (uncommitted_in c.count_committed_from.new.seat.bounds 0) (uncommitted_in c.claim_committed_node-claimed.new.seat.bounds 0) fell committed in
    walk_answers layout first s made next walk w count c.min-end.result c.min-most.result rest end most c.claim_committed_node-claimed.new.left fits few c.claim_committed_node-claimed.new.seat
    c.claim_committed_node-claimed.new.hint.next less still c.claim_committed_node-claimed.result
    (c.claim_committed_node-claimed.ensures.walk first.known.steps made (subst (λ k. HasNoOther k made) (sym known) alone)
    (subst (λ k. IsClaimWalk layout c.min-end.result first.known.steps k made next c.min-most.result) (sym known) (walk_narrows layout first s made next walk w count c.min-end.result c.min-most.result rest end most c.count_committed_from.ensures.some)))

pub returns-clause-tried : goal.returns-clause-tried
returns-clause-tried g c = λ left end one none is number from low free.
    let layout = c.args.table.now.layout in
    let nodes : c.layout-nodes.result.nodes ≡ layout.nodes = ap (λ (z : Layout). z.nodes) c.layout-nodes.ensures in
    let most : c.min-most.result ≡ c.min-end.result = omega (arith, left, end, nodes, c.left_below_end-left.ensures, c.min-end.ensures, c.min-most.ensures) in
    c.claim_committed_node-claimed.ensures.tried most one (ap (λ (z : SeatView). z.known.own) c.count_committed_from.ensures.bounds.1 ∙ none) is number from low
    (found_free layout c.args.seat.now c.count_committed_from.new.seat number c.count_committed_from.ensures.bounds free)
