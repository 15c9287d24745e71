-- The walk begins, and what it claims is all that the pass has.
use Rattle.rowex_writing.proofs.Common.{◌≡◌, ◌∷◌, [], ap, arith, length, refl, subst, sym, ◌∙◌, Layout, a_node, Held}
use Rattle.rowex_writing.specs.build.Building.{IsBuilding}
use Rattle.rowex_writing.specs.build.Walks.{nodes_among}
use Rattle.rowex_writing.proofs.build.taking.Taking.{way_on}
use Rattle.rowex_writing.proofs.locks.Checks.{span_later}
use Rattle.rowex_writing.proofs.build.Growths.{lacks_nodes}
use Rattle.rowex_writing.proofs.build.Changes.{step_nodes}
use Rattle.rowex_writing.proofs.build.Building.{building_none, not_made}
use Rattle.rowex_writing.proofs.build.Walks.{missed_all, walk_begins}
use Rattle.rowex_writing.proofs.build.taking.claim_for_leftover.Goals as goal

pub claim_node-requires : goal.claim_node-requires
claim_node-requires g c = record {
  building = ([], subst (λ z. IsBuilding c.args.table.now c.args.seat.now z []) (sym (c.begin_claims.ensures.made ∙ c.clear.ensures)) (building_none c.args.table.now c.args.seat.now c.requires.takes.1 c.requires.takes.2 c.requires.none));
}

pub returns-in_err-number-clause-claims : goal.returns-in_err-number-clause-claims
returns-in_err-number-clause-claims g c =
    let table = c.args.table.now in
    let job = c.args.job.now in
    let (t, own, possible, stays) = c.requires.takes in
    let none = c.claim_node.ensures.made ∙ (c.begin_claims.ensures.made ∙ c.clear.ensures) in
    let before = subst (λ z. IsBuilding table c.args.seat.now z []) (sym (c.begin_claims.ensures.made ∙ c.clear.ensures)) (building_none table c.args.seat.now own possible c.requires.none) in
    rw c.from_residual.ensures (record {
      not_made = not_made table g.G.Gate.becomes (c.args.seat.now, c.args.gate.now) (c.claim_node.new.seat, c.claim_node.new.gate) _ _ [] c.claim_node.ensures.goes
          c.in_err-number.ensures.claims c.claim_node.ensures.made before;
      few = omega (arith, ap length none);
      full_of = lacks_nodes table.layout c.args.seat.now.known [] c.args.seat.now.known.steps c.claim_node.new.seat.known job.way.now job.span c.claim_node.new.build.made.items
          (step_nodes table.layout c.args.seat.now.known t.since job.key.now job.way.now _ (way_on table c.args.seat.now job c.requires.takes))
          (span_later t.before.known c.args.seat.now.known job.way.now job.span stays.1 stays.2 t.below.taken.locked) c.claim_node.ensures.goes.stays.1 t.below.taken.within.0 t.below.taken.within.1
          (omega (arith, t.below.last)) (omega (arith, ap (λ made. length (nodes_among made)) none))
          (missed_all table.layout c.claim_node.new.build.walk c.args.seat.now c.args.seat.now.known.steps _ _ (c.claim_node.ensures.commits ∙ c.begin_claims.ensures.walk.2)
          (c.in_err-number.ensures.walk c.args.seat.now (walk_begins table.layout c.args.seat.now c.begin_claims.new.self c.layout.result c.begin_claims.ensures.walk.0 c.begin_claims.ensures.walk.1 c.layout.ensures)));
    })

pub returns-in_err-number-clause-walk : goal.returns-in_err-number-clause-walk
returns-in_err-number-clause-walk g c =
    let whole : c.begin_claims.new.self.walk.left ≡ c.args.table.now.layout.nodes = c.begin_claims.ensures.walk.0 ∙ ap (λ (z : Layout). z.nodes) c.layout.ensures in
    let none = c.claim_node.ensures.made ∙ (c.begin_claims.ensures.made ∙ c.clear.ensures) in
    let few = c.in_err-number.ensures.few in omega (arith, whole, few, ap length none)

pub returns-in_err-number-clause-finds : goal.returns-in_err-number-clause-finds
returns-in_err-number-clause-finds g c = λ room is.
    let whole = ap (λ (z : Layout). z.nodes) c.layout.ensures in
    c.in_err-number.ensures.finds (c.begin_claims.ensures.walk.0 ∙ whole) (c.begin_claims.ensures.walk.1 ∙ whole) c.begin_claims.ensures.walk.2 c.requires.none room refl

pub returns-clause-claims : goal.returns-clause-claims
returns-clause-claims g c =
    let (low, holds) = c.in_ok-number.ensures.claims in
    record {
      low = low;
      words = holds.words;
      sized = holds.sized;
      own = holds.own ∙ ap (λ own. record { rec = a_node c.in_ok-number.number; holding = Held; words = holds.words } ∷ own) c.requires.none;
    }

pub returns-clause-walk : goal.returns-clause-walk
returns-clause-walk g c =
    let whole : c.begin_claims.new.self.walk.left ≡ c.args.table.now.layout.nodes = c.begin_claims.ensures.walk.0 ∙ ap (λ (z : Layout). z.nodes) c.layout.ensures in
    let few = c.in_ok-number.ensures.few in omega (arith, whole, few)
