-- The new node takes the found leaf's place.
use Rattle.rowex_writing.specs.build.Spare.{by_free}
use Rattle.rowex_writing.proofs.Common.{◌≡◌, ◌≤◌, ◌+◌, ◌*◌, List, [], ◌∷◌, ◌++◌, Some, None, refl, sym, ap, subst, ◌∙◌, arith, length, entry_word, Layout, made_of_leaf, made_of_node, Rec, LeafEntry, Place, subtrie_forked, bit, added_change, item}
use Rattle.rowex_writing.specs.build.Changes.{IsPutChange, MayPublishOnceReady}
use Rattle.rowex_writing.specs.plan.Counts.{node_steps}
use Rattle.rowex_writing.specs.build.Walks.{looks_unless, nodes_among}
use Rattle.rowex_writing.proofs.build.Counts.{made_one, no_nodes}
use Rattle.rowex_writing.proofs.build.deeds.Deeds.{just_leaf_gone, no_leaf_free, none_in_table, replace_later}
use Rattle.rowex_writing.proofs.build.Growths.{full_since, lacks_nodes}
use Rattle.rowex_writing.proofs.build.Changes.{step_nodes}
use Rattle.rowex_writing.proofs.build.rising.Rising.{paired}
use Rattle.rowex_writing.proofs.locks.Going.{goes_bounds, goes_more}
use Rattle.rowex_writing.proofs.build.Building.{building_on, not_made, steps_rise}
use Rattle.rowex_writing.proofs.build.Putting.{found_is_key, leaf_at, pair_here, pair_may}
use Rattle.version_laws.proofs.Statements.Leaves.{pair_tree}
use Rattle.rowex_writing.proofs.build.Walks.{missed_known, walk_begins}
use Rattle.rowex_writing.specs.declared.plan.Full.TheVariants.{Nodes}
use Rattle.rowex_writing.proofs.build.deeds.push_leaf_down.Goals as goal

-- ---- no leaf record was free
pub returns-in_default-make_leaf : goal.returns-in_default-make_leaf
returns-in_default-make_leaf g c = record { done = no_leaf_free c.make_leaf.ensures.goes c.in_default-make_leaf.ensures.made c.make_leaf.ensures.few refl; spares = λ was. tt }

-- ---- the node
pub pair_with_leaf-pair-requires : goal.pair_with_leaf-pair-requires
pair_with_leaf-pair-requires g c =
    let job = c.args.job.now in
    let (m, aim, t, planned) = c.requires.taken in
    let here = pair_here c.args.seat.now.known m job.key.now job.way.now aim job.found job.span c.args.position planned c.in-Leaf.old _ _ c.in-Leaf.is in
    let l = leaf_at c.args.table.now c.args.seat.now m job.key.now job.way.now job.found job.span t c.in-Leaf.old here.value (Some c.args.position) here.is_found in
    pair_tree (item c.in-Some.leaf job.key.now here.value) c.args.position c.in-Leaf.old here.value l.0 t.way_of.is_key
    (found_is_key c.args.table.now c.args.seat.now m job.key.now job.way.now job.found job.span t c.in-Leaf.old here.value (Some c.args.position) here.is_found) l.2.0 l.2.1

pub make_node-requires-clause-building : goal.make_node-requires-clause-building
make_node-requires-clause-building g c =
    let leaf = c.in-Some.ensures.made in (made_of_leaf (item c.in-Some.leaf c.args.job.now.key.now c.args.job.now.value) leaf.fresh ∷ [], rw c.begin_claims.ensures.made leaf.building)

pub make_node-requires-clause-room : goal.make_node-requires-clause-room
make_node-requires-clause-room g c = omega (arith, ap length c.begin_claims.ensures.made, made_one c.in-Some.ensures.made.building)

-- ---- no node record was free
pub returns-in_default-make_node : goal.returns-in_default-make_node
returns-in_default-make_node g c = record {
  done = record {
    goes = (goes_more c.args.table.now g.G.Gate.becomes (c.args.seat.now, c.args.gate.now) (c.make_leaf.new.seat, c.make_leaf.new.gate) (c.make_node.new.seat, c.make_node.new.gate) c.make_leaf.ensures.goes c.make_node.ensures.makes.goes);
    raised = tt;
    full = (let job = c.args.job.now in
        let (m, aim, t, planned) = c.requires.taken in
        let here = pair_here c.args.seat.now.known m job.key.now job.way.now aim job.found job.span c.args.position planned c.in-Leaf.old _ _ c.in-Leaf.is in
        let missed = missed_known c.args.table.now.layout c.make_node.new.build.walk c.make_leaf.new.seat c.make_leaf.new.seat.known.steps _ _ (c.in_default-make_node.ensures.makes.walk c.make_leaf.new.seat
        (walk_begins c.args.table.now.layout c.make_leaf.new.seat c.begin_claims.new.self c.layout.result c.begin_claims.ensures.walk.0 c.begin_claims.ensures.walk.1 c.layout.ensures)) in
        let fell = goes_bounds c.args.table.now g.G.Gate.becomes (c.args.seat.now, c.args.gate.now) (c.make_leaf.new.seat, c.make_leaf.new.gate) c.make_leaf.ensures.goes in
        let rise = steps_rise c.args.table.now g.G.Gate.becomes c.make_leaf.ensures.goes.acts (c.args.seat.now, c.args.gate.now) (c.make_leaf.new.seat, c.make_leaf.new.gate) c.make_leaf.ensures.goes.steps in
        record {
          not_made = c.in_default-make_node.ensures.made (made_of_leaf (item c.in-Some.leaf c.args.job.now.key.now c.args.job.now.value) c.in-Some.ensures.made.fresh ∷ []) (rw c.begin_claims.ensures.made c.in-Some.ensures.made.building);
          few = omega (arith, made_one c.in-Some.ensures.made.building, ap length c.begin_claims.ensures.made, c.make_node.ensures.makes.more);
          full_of = full_since c.args.table.now.layout c.make_leaf.new.seat.bounds c.args.seat.now.bounds c.args.job.now.key.now c.args.seat.now.known c.make_leaf.new.seat.known c.make_node.new.seat.known c.make_node.new.build.made.items Nodes fell rise
              (lacks_nodes c.args.table.now.layout c.args.seat.now.known c.make_leaf.new.seat.bounds c.make_leaf.new.seat.known.steps c.make_node.new.seat.known job.way.now job.span c.make_node.new.build.made.items
              (step_nodes c.args.table.now.layout c.args.seat.now.known m job.key.now job.way.now job.found t.way_of) t.locked (c.make_node.ensures.makes.goes.stays.1 ∙ c.make_leaf.ensures.goes.stays.1)
              t.within.0 t.within.1 (omega (arith, here.len)) (omega (arith, no_nodes c.in-Some.ensures.made, ap (λ (z : List Rec). length (nodes_among z)) c.begin_claims.ensures.made, c.in_default-make_node.ensures.makes.nodes)) missed);
        });
    few = (let whole : c.begin_claims.new.self.walk.left ≡ c.args.table.now.layout.nodes = c.begin_claims.ensures.walk.0 ∙ ap (λ (z : Layout). z.nodes) c.layout.ensures in
        let few : c.make_node.new.seat.known.steps + 2 * c.make_node.new.build.walk.left ≤ c.make_leaf.new.seat.known.steps + 2 * c.begin_claims.new.self.walk.left + node_steps + length c.make_node.new.build.made.items = c.in_default-make_node.ensures.makes.few in
        omega (arith, whole, c.make_leaf.ensures.few, few, made_one c.in-Some.ensures.made.building, ap length c.begin_claims.ensures.made, c.make_node.ensures.makes.more));
  };
  spares = λ was. tt;
}

-- ---- or none beside it
pub leaves_free_node-requires : goal.leaves_free_node-requires
leaves_free_node-requires g c =
    let leaf = c.in-Some.ensures.made in
    let news = made_of_leaf (item c.in-Some.leaf c.args.job.now.key.now c.args.job.now.value) leaf.fresh ∷ [] in
    let (number, is, has, building) = c.in-Some-make_node.ensures.made news (rw c.begin_claims.ensures.made leaf.building) in record { building = (made_of_node number c.pair_with_leaf-pair.result ∷ news, building) }

pub returns-then-not-leaves_free_node : goal.returns-then-not-leaves_free_node
returns-then-not-leaves_free_node g c =
    let table = c.args.table.now in
    let leaf = c.in-Some.ensures.made in
    let news = made_of_leaf (item c.in-Some.leaf c.args.job.now.key.now c.args.job.now.value) leaf.fresh ∷ [] in
    let (number, is, has, building) = c.in-Some-make_node.ensures.made news (rw c.begin_claims.ensures.made leaf.building) in
    let made = c.leaves_free_node.ensures.made in
    let both = goes_more table g.G.Gate.becomes (c.args.seat.now, c.args.gate.now) (c.make_leaf.new.seat, c.make_leaf.new.gate) (c.make_node.new.seat, c.make_node.new.gate) c.make_leaf.ensures.goes c.make_node.ensures.makes.goes in
    record {
      done = record {
        goes = goes_more table g.G.Gate.becomes (c.args.seat.now, c.args.gate.now) (c.make_node.new.seat, c.make_node.new.gate) (c.leaves_free_node.new.seat, c.leaves_free_node.new.gate) both c.leaves_free_node.ensures.goes;
        raised = tt;
        full = (let job = c.args.job.now in
            let (m, aim, t, planned) = c.requires.taken in
            let here = pair_here c.args.seat.now.known m job.key.now job.way.now aim job.found job.span c.args.position planned c.in-Leaf.old _ _ c.in-Leaf.is in
            let walked = c.in-Some-make_node.ensures.makes.walk c.make_leaf.new.seat
            (walk_begins table.layout c.make_leaf.new.seat c.begin_claims.new.self c.layout.result c.begin_claims.ensures.walk.0 c.begin_claims.ensures.walk.1 c.layout.ensures) in
            let missed = c.leaves_free_node.ensures.walk c.if-not-leaves_free_node.true c.make_leaf.new.seat walked in
            let fell = goes_bounds table g.G.Gate.becomes (c.args.seat.now, c.args.gate.now) (c.make_leaf.new.seat, c.make_leaf.new.gate) c.make_leaf.ensures.goes in
            let rise = steps_rise table g.G.Gate.becomes c.make_leaf.ensures.goes.acts (c.args.seat.now, c.args.gate.now) (c.make_leaf.new.seat, c.make_leaf.new.gate) c.make_leaf.ensures.goes.steps in
            record {
              not_made = not_made table g.G.Gate.becomes (c.make_node.new.seat, c.make_node.new.gate) (c.leaves_free_node.new.seat, c.leaves_free_node.new.gate) c.make_node.new.build.made.items c.leaves_free_node.new.build.made.items
                  (made_of_node number c.pair_with_leaf-pair.result ∷ news) c.leaves_free_node.ensures.goes c.leaves_free_node.ensures.own made building;
              few = omega (arith, ap length made, made_one leaf.building, ap length c.begin_claims.ensures.made, c.make_node.ensures.makes.more);
              full_of = full_since table.layout c.make_leaf.new.seat.bounds c.args.seat.now.bounds c.args.job.now.key.now c.args.seat.now.known c.make_leaf.new.seat.known c.leaves_free_node.new.seat.known c.leaves_free_node.new.build.made.items Nodes fell rise
                  (lacks_nodes table.layout c.args.seat.now.known c.make_leaf.new.seat.bounds c.make_leaf.new.seat.known.steps c.leaves_free_node.new.seat.known job.way.now job.span c.leaves_free_node.new.build.made.items
                  (step_nodes table.layout c.args.seat.now.known m job.key.now job.way.now job.found t.way_of) t.locked (c.leaves_free_node.ensures.goes.stays.1 ∙ (c.make_node.ensures.makes.goes.stays.1 ∙ c.make_leaf.ensures.goes.stays.1))
                  t.within.0 t.within.1 (omega (arith, here.len)) (omega (arith, ap (λ (z : List Rec). length (nodes_among z)) made, no_nodes leaf, ap (λ (z : List Rec). length (nodes_among z)) c.begin_claims.ensures.made, c.in-Some-make_node.ensures.makes.nodes)) missed);
            });
        few = (let whole : c.begin_claims.new.self.walk.left ≡ table.layout.nodes = c.begin_claims.ensures.walk.0 ∙ ap (λ (z : Layout). z.nodes) c.layout.ensures in
            let few : c.make_node.new.seat.known.steps + 2 * c.make_node.new.build.walk.left ≤ c.make_leaf.new.seat.known.steps + 2 * c.begin_claims.new.self.walk.left + node_steps + 0 = c.in-Some-make_node.ensures.makes.few in
            let more : c.leaves_free_node.new.seat.known.steps ≤ c.make_node.new.seat.known.steps + 2 * c.make_node.new.build.walk.left + 1 + length c.leaves_free_node.new.build.made.items =
            subst (λ z. c.leaves_free_node.new.seat.known.steps ≤ c.make_node.new.seat.known.steps + 2 * c.make_node.new.build.walk.left + 1 + looks_unless z c.leaves_free_node.new.build) c.if-not-leaves_free_node.true c.leaves_free_node.ensures.few in
            omega (arith, whole, c.make_leaf.ensures.few, few, more, ap length made, made_one leaf.building, ap length c.begin_claims.ensures.made, c.make_node.ensures.makes.more));
      };
      spares = λ was. tt;
    }

-- ---- the node is made
pub returns : goal.returns
returns g c = record {
  done = record {
    goes = goes_more c.args.table.now g.G.Gate.becomes (c.args.seat.now, c.args.gate.now) (c.make_node.new.seat, c.make_node.new.gate) (c.leaves_free_node.new.seat, c.leaves_free_node.new.gate)
        (goes_more c.args.table.now g.G.Gate.becomes (c.args.seat.now, c.args.gate.now) (c.make_leaf.new.seat, c.make_leaf.new.gate) (c.make_node.new.seat, c.make_node.new.gate) c.make_leaf.ensures.goes c.make_node.ensures.makes.goes)
        c.leaves_free_node.ensures.goes;
    raised = (let job = c.args.job.now in
        let (m, aim, t, planned) = c.requires.taken in
        let here = pair_here c.args.seat.now.known m job.key.now job.way.now aim job.found job.span c.args.position planned c.in-Leaf.old _ _ c.in-Leaf.is in
        let goes = goes_more c.args.table.now g.G.Gate.becomes (c.args.seat.now, c.args.gate.now) (c.make_leaf.new.seat, c.make_leaf.new.gate) (c.make_node.new.seat, c.make_node.new.gate) c.make_leaf.ensures.goes c.make_node.ensures.makes.goes in
        let leaf = c.in-Some.ensures.made in
        let news = made_of_leaf (item c.in-Some.leaf job.key.now job.value) leaf.fresh ∷ [] in
        let (more, side, building) = paired c.args.table.now c.make_leaf.new.seat c.make_node.new.seat c.make_node.new.build.made.items news c.pair_with_leaf-pair.result
        (subtrie_forked (bit job.key.now c.args.position) c.args.position (LeafEntry c.in-Some.leaf) (Place (LeafEntry c.in-Leaf.old))) (Some c.in-Some-make_node.entry) c.pair_with_leaf-pair.ensures (c.in-Some-make_node.ensures.made news (rw c.begin_claims.ensures.made leaf.building)) in
        let now = building_on c.args.table.now g.G.Gate.becomes (c.make_node.new.seat, c.make_node.new.gate) (c.leaves_free_node.new.seat, c.leaves_free_node.new.gate) c.make_node.new.build.made.items (more ++ news)
        c.leaves_free_node.ensures.goes c.leaves_free_node.ensures.own building in
        let x = added_change c.args.seat.now.known.pass (item c.in-Some.leaf job.key.now job.value) in (
          x,
          None,
          subst (λ f. IsPutChange c.args.seat.now.known.pass job.key.now job.value f x None) (sym here.is_found) (refl, refl),
          replace_later c.args.table.now c.make_node.new.seat c.leaves_free_node.new.seat c.make_node.new.build.made.items c.leaves_free_node.new.build.made.items job _ x None now.seat now.possible
              c.leaves_free_node.ensures.goes.stays.0 (c.leaves_free_node.ensures.goes.stays.1, c.leaves_free_node.ensures.goes.stays.2, c.leaves_free_node.ensures.own) c.leaves_free_node.ensures.made (record {
                from = omega (arith, here.len);
                upto = omega arith;
                most = omega arith;
                leaf = none_in_table c.args.table.now.layout;
                ends = λ spot over.
                    subst (MayPublishOnceReady c.args.table.now c.make_node.new.seat c.make_node.new.build.made.items spot (entry_word (Some c.in-Some-make_node.entry)) x None) (sym (just_leaf_gone job.way.now job.span.end job.span.len None here.len))
                    (pair_may c.args.table.now c.args.seat.now m job.key.now job.way.now job.found job.span t c.make_node.new.seat c.make_node.new.build.made.items c.in-Some.leaf job.value goes.stays.0 goes.stays.1 goes.stays.2
                    c.args.position c.in-Leaf.old here c.in-Some-make_node.entry more side leaf.fresh leaf.spelled building spot over);
                few = omega (arith, made_one c.in-Some.ensures.made.building, ap length c.begin_claims.ensures.made, c.make_node.ensures.makes.more);
                takes = λ number is. absurd cc;
              }),
        ));
    full = tt;
    few = (let whole : c.begin_claims.new.self.walk.left ≡ c.args.table.now.layout.nodes = c.begin_claims.ensures.walk.0 ∙ ap (λ (z : Layout). z.nodes) c.layout.ensures in
        let few : c.make_node.new.seat.known.steps + 2 * c.make_node.new.build.walk.left ≤ c.make_leaf.new.seat.known.steps + 2 * c.begin_claims.new.self.walk.left + node_steps + 0 = c.in-Some-make_node.ensures.makes.few in
        let more : c.leaves_free_node.new.seat.known.steps ≤ c.make_node.new.seat.known.steps + 2 * c.make_node.new.build.walk.left + 1 + 0 =
        subst (λ z. c.leaves_free_node.new.seat.known.steps ≤ c.make_node.new.seat.known.steps + 2 * c.make_node.new.build.walk.left + 1 + looks_unless z c.leaves_free_node.new.build) c.if-not-leaves_free_node.false c.leaves_free_node.ensures.few in
        omega (arith, whole, c.make_leaf.ensures.few, few, more, made_one c.in-Some.ensures.made.building, ap length c.begin_claims.ensures.made, c.make_node.ensures.makes.more));
  };
  spares = λ was. by_free (c.leaves_free_node.ensures.free c.if-not-leaves_free_node.false);
}
