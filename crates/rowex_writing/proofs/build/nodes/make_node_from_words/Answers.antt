-- A claim and its fills are one record more.
use Rattle.rowex_writing.proofs.Common.{◌∷◌, [], ◌++◌, List, ℕ, length, ap, refl, sym, subst, ◌∙◌, arith, length-append, Node, a_node, first_told, more_is_claimed, made_of_node}
use Rattle.rowex_writing.specs.build.Building.{IsBuilding}
use Rattle.rowex_writing.specs.build.Walks.{IsCommittedWalk, nodes_among}
use Rattle.rowex_writing.proofs.build.Counts.{nodes_pushed}
use Rattle.rowex_writing.proofs.locks.Going.{goes_more, seat_of}
use Rattle.rowex_writing.proofs.build.Building.{set_all_on, building_node, not_made}
use Rattle.rowex_writing.proofs.build.Walks.{committed_on}
use Rattle.rowex_writing.proofs.build.nodes.make_node_from_words.Goals as goal

pub fill_node-requires-clause-own : goal.fill_node-requires-clause-own
fill_node-requires-clause-own g c = seat_of c.args.table.now g.G.Gate.becomes (c.args.seat.now, c.args.gate.now) (c.claim_node.new.seat, c.claim_node.new.gate) c.claim_node.ensures.goes c.requires.building.1.seat

pub returns-in_err-number-clause-made : goal.returns-in_err-number-clause-made
returns-in_err-number-clause-made g c = λ news node has spells b. rw c.from_residual.ensures
    (not_made c.args.table.now g.G.Gate.becomes (c.args.seat.now, c.args.gate.now) (c.claim_node.new.seat, c.claim_node.new.gate) c.args.build.now.made.items c.claim_node.new.build.made.items news c.claim_node.ensures.goes
    c.in_err-number.ensures.claims c.claim_node.ensures.made b)

pub returns-clause-made : goal.returns-clause-made
returns-clause-made g c = λ news node has spells b. (
  c.in_ok-number.number,
  ap (Node c.in_ok-number.number) (omega (arith, c.read_numbers.ensures.parts.2, (first_told node c.args.words.now has spells).1, has.lawful.bound)),
  subst (λ z. IsBuilding c.args.table.now c.fill_node.new.seat z (made_of_node c.in_ok-number.number node ∷ news)) (sym (c.push.ensures.items ∙ ap (λ z. z ++ a_node c.in_ok-number.number ∷ []) c.claim_node.ensures.made))
      (subst (λ (ws : List ℕ). IsBuilding c.args.table.now c.fill_node.new.seat (c.args.build.now.made.items ++ a_node c.in_ok-number.number ∷ []) (record { rec = a_node c.in_ok-number.number; words = ws } ∷ news)) (sym spells)
      (building_node c.args.table.now g.G.Gate.becomes c.in_ok-number.number c.args.words.now (c.args.seat.now, c.args.gate.now) (c.claim_node.new.seat, c.claim_node.new.gate) _
      c.args.build.now.made.items news c.claim_node.ensures.goes c.in_ok-number.ensures.claims.1 c.fill_node.ensures.fills c.fill_node.ensures.filled.1 b)),
)

pub fill_node-requires-clause-held : goal.fill_node-requires-clause-held
fill_node-requires-clause-held g c = more_is_claimed (a_node c.in_ok-number.number) c.args.seat.now.known c.claim_node.new.seat.known c.in_ok-number.ensures.claims.1

pub returns-in_err-number-clause-makes : goal.returns-in_err-number-clause-makes
returns-in_err-number-clause-makes g c = rw c.from_residual.ensures (record {
  goes = c.in_err-number.ensures.goes;
  more = omega (arith, ap length c.claim_node.ensures.made);
  nodes = omega (arith, ap (λ made. length (nodes_among made)) c.claim_node.ensures.made);
  walk = c.in_err-number.ensures.walk;
  commits = c.claim_node.ensures.commits;
  few = (let few = c.in_err-number.ensures.few in omega arith);
})

pub returns-clause-makes : goal.returns-clause-makes
returns-clause-makes g c =
    let filled = set_all_on c.args.table.now g.G.Gate.becomes _ _ _ _ c.fill_node.ensures.fills in
    let items = c.claim_node.new.build.made.items in
    let made = c.push.ensures.items ∙ ap (λ z. z ++ a_node c.in_ok-number.number ∷ []) c.claim_node.ensures.made in
    record {
      goes = goes_more c.args.table.now g.G.Gate.becomes _ _ _ c.claim_node.ensures.goes filled;
      more = omega (arith, ap length c.push.ensures.items, ap length c.claim_node.ensures.made, length-append items (a_node c.in_ok-number.number ∷ []));
      nodes = omega (arith, ap (λ made. length (nodes_among made)) c.push.ensures.items, ap (λ made. length (nodes_among made)) c.claim_node.ensures.made, nodes_pushed items c.in_ok-number.number);
      walk = λ first w.
          subst (λ z. IsCommittedWalk c.args.table.now.layout first c.fill_node.new.seat z c.claim_node.new.build.nodes.next c.claim_node.new.build.walk) (sym made)
          (committed_on c.args.table.now g.G.Gate.becomes first (c.claim_node.new.seat, c.claim_node.new.gate) (c.fill_node.new.seat, c.fill_node.new.gate) (c.args.build.now.made.items ++ a_node c.in_ok-number.number ∷ [])
          (c.args.build.now.made.items ++ a_node c.in_ok-number.number ∷ []) c.claim_node.new.build.nodes.next c.claim_node.new.build.walk filled (λ r h. h) (c.in_ok-number.ensures.walk first w));
      commits = c.claim_node.ensures.commits;
      few = omega (arith, c.in_ok-number.ensures.few, c.fill_node.ensures.steps);
    }

pub returns-in_err-number-clause-finds : goal.returns-in_err-number-clause-finds
returns-in_err-number-clause-finds g c = λ left end commits none room is. c.in_err-number.ensures.finds left end commits none room refl
