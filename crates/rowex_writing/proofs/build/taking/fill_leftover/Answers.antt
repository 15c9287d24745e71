-- The record spells what is left, and its entry may take the node's place.
use Rattle.rowex_writing.proofs.Common.{◌≡◌, ◌∷◌, [], ◌++◌, List, ℕ, Some, ap, arith, length, refl, subst, sym, ◌∙◌, Node, first_told, item, subtrie_without, a_node, removed_change, node_words_of, IsSide, anew, made_of_node, later_transitive}
use Rattle.rowex_writing.specs.build.Building.{IsBuilding}
use Rattle.rowex_writing.specs.build.Changes.{IsTakeChange}
use Rattle.rowex_writing.specs.build.Deeds.{MayReplace}
use Rattle.rowex_writing.specs.build.Taking.{HasHeight, lower}
use Rattle.rowex_writing.specs.declared.plan.job.Raised.{Raised}
use Rattle.rowex_writing.proofs.locks.Going.{locked_on}
use Rattle.rowex_writing.proofs.build.Building.{set_all_on}
use Rattle.rowex_writing.proofs.build.taking.Taking.{word_of, claimed_filled, claimed_held, replaces_alone}
use Rattle.rowex_writing.proofs.build.taking.fill_leftover.Goals as goal

pub fill_node-requires-clause-own : goal.fill_node-requires-clause-own
fill_node-requires-clause-own g c = c.requires.still.1

pub fill_node-requires-clause-range : goal.fill_node-requires-clause-range
fill_node-requires-clause-range g c = c.requires.claimed.low

pub fill_node-requires-clause-held : goal.fill_node-requires-clause-held
fill_node-requires-clause-held g c = claimed_held c.requires.claimed

pub fill_node-requires-clause-spelling : goal.fill_node-requires-clause-spelling
fill_node-requires-clause-spelling g c = let left = c.requires.left.built in (left.node, left.has, left.spells)

pub raised_for_leftover-requires : goal.raised_for_leftover-requires
raised_for_leftover-requires g c = let t = c.requires.still.0 in record { found = (t.number, t.value, t.found) }

pub returns-clause-goes : goal.returns-clause-goes
returns-clause-goes g c = set_all_on c.args.table.now g.G.Gate.becomes _ _ _ _ c.fill_node.ensures.fills

pub returns-clause-may : goal.returns-clause-may
returns-clause-may g c =
    let table = c.args.table.now in
    let job = c.args.job.now in
    let n = c.args.left.now.number in
    let left = c.requires.left.built in
    let goes = set_all_on table g.G.Gate.becomes _ _ _ _ c.fill_node.ensures.fills in
    let (t, own, possible, later, locks, anchor) = c.requires.still in
    let high : c.read_numbers.result.height ≡ left.node.height = omega (arith, c.read_numbers.ensures.parts.2, (first_told left.node c.args.left.now.words left.has left.spells).1, left.has.lawful.bound) in
    let entry : Node n c.read_numbers.result.height ≡ Node n left.node.height = ap (Node n) high in
    let side = subst (λ e. IsSide (subtrie_without job.key.now (node_words_of c.requires.left.words).subtrie) e (made_of_node n left.node ∷ [])) (sym entry)
    (anew n left.node (left.has, left.built.height_is) left.built.shows_it) in
    let tall : HasHeight (Node n c.read_numbers.result.height) = (omega (arith, high, left.built.height_is), omega (arith, high, left.built.height_is, left.has.lawful.bound)) in
    let filled = claimed_filled table g.G.Gate.becomes n c.args.left.now.words (c.args.seat.now, c.args.gate.now) (c.fill_node.new.seat, c.fill_node.new.gate) c.requires.claimed c.fill_node.ensures.fills own possible c.fill_node.ensures.filled.1 in
    let made = c.push.ensures.items ∙ ap (λ z. z ++ a_node n ∷ []) c.clear.ensures in
    let building = subst (λ z. IsBuilding table c.fill_node.new.seat z (made_of_node n left.node ∷ [])) (sym made)
    (subst (λ (ws : List ℕ). IsBuilding table c.fill_node.new.seat (a_node n ∷ []) (record { rec = a_node n; words = ws } ∷ [])) (sym left.spells) filled) in
    let x = removed_change t.before.known.pass (item t.number job.key.now t.value) in
    let may = replaces_alone table t.before t.since job t.number t.value t.below c.fill_node.new.seat c.push.new.self.items (made_of_node n left.node ∷ []) c.requires.left.words
    (locked_on c.args.seat.now.known t.before.known (lower job).number c.requires.left.words (sym locks) c.requires.left.has) (Node n c.read_numbers.result.height) (later_transitive t.before.known c.args.seat.now.known c.fill_node.new.seat.known later goes.stays.0, goes.stays.1 ∙ locks, goes.stays.2 ∙ anchor) building side
    (word_of (Node n c.read_numbers.result.height) c.raised_for_leftover.ensures.number tall) (omega (arith, ap length made)) in (
      x,
      Some t.value,
      subst (λ f. IsTakeChange c.args.seat.now.known.pass job.key.now f x (Some t.value)) (sym t.found) (ap (λ q. removed_change q (item t.number job.key.now t.value)) (sym later.pass), refl),
      subst (λ (r : Raised). MayReplace table c.fill_node.new.seat c.push.new.self.items job r x (Some t.value)) (sym (c.raised_for_leftover.ensures.same t.number t.value t.found)) may,
    )

pub returns-clause-low : goal.returns-clause-low
returns-clause-low g c = let t = c.requires.still.0 in ap (λ (r : Raised). r.low) (c.raised_for_leftover.ensures.same t.number t.value t.found)
