-- The node, and what rises.
use Rattle.rowex_writing.proofs.Common.{◌≡◌, ◌≤◌, ◌-◌, ◌*◌, ◌+◌, List, None, Some, if◌then◌else◌, length, map, ap, refl, subst, sym, ◌∙◌, arith, slice_range, append-nil, PathNode, Layout, item, added_change, Rec, a_node}
use Rattle.rowex_writing.specs.plan.Counts.{level_steps, node_steps}
use Rattle.rowex_writing.specs.build.Deeds.{MayReplace}
use Rattle.rowex_writing.specs.build.Growths.{MayGrow}
use Rattle.rowex_writing.specs.build.Walks.{nodes_among}
use Rattle.rowex_writing.specs.declared.plan.job.Raised.{Raised}
use Rattle.rowex_writing.proofs.build.Counts.{made_one, no_nodes}
use Rattle.rowex_writing.proofs.locks.Going.{goes_more}
use Rattle.rowex_writing.proofs.build.Building.{building_on, not_made}
use Rattle.rowex_writing.proofs.build.deeds.Deeds.{none_in_table, replace_later}
use Rattle.rowex_writing.proofs.build.Growths.{gone_is, grown_ends, lacks_nodes}
use Rattle.rowex_writing.proofs.build.Walks.{missed_known, walk_begins}
use Rattle.rowex_writing.proofs.build.growing.grow_with_leaf.Goals as goal
use Rattle.rowex_writing.proofs.build.growing.grow_with_leaf.Goals.{then-stays, else-stays}

pub raise_with_leaf-requires-clause-growing : goal.raise_with_leaf-requires-clause-growing
raise_with_leaf-requires-clause-growing g c = rw c.begin_claims.ensures.made c.requires.may.growing

pub raise_with_leaf-requires-clause-room : goal.raise_with_leaf-requires-clause-room
raise_with_leaf-requires-clause-room g c = let may = c.requires.may in omega (arith, ap length c.begin_claims.ensures.made, made_one may.growing.lowest.made_leaf.building, may.within.0, may.within.1, may.depth)

pub returns-in_default-clause-full : goal.returns-in_default-clause-full
returns-in_default-clause-full g c =
    let may = subst (λ z. MayGrow c.args.table.now c.args.seat.now z c.args.job.now c.args.new.now) (sym c.begin_claims.ensures.made) c.requires.may in (
      refl,
      record {
        not_made = c.in_default.ensures.made may.growing;
        few = omega (arith, made_one may.growing.lowest.made_leaf.building, c.raise_with_leaf.ensures.makes.more, may.within.0);
        full_of = lacks_nodes c.args.table.now.layout c.args.seat.now.known c.args.seat.now.bounds c.args.seat.now.known.steps c.raise_with_leaf.new.seat.known c.args.job.now.way.now c.args.job.now.span c.raise_with_leaf.new.build.made.items
            may.nodes may.locked c.raise_with_leaf.ensures.makes.goes.stays.1 (omega (arith, may.within.0)) may.within.1 (omega (arith, may.within.1, may.depth))
            (omega (arith, no_nodes may.growing.lowest.made_leaf, c.in_default.ensures.makes.nodes, may.within.0))
            (missed_known c.args.table.now.layout c.raise_with_leaf.new.build.walk c.args.seat.now c.args.seat.now.known.steps _ _ (c.in_default.ensures.makes.walk c.args.seat.now
            (walk_begins c.args.table.now.layout c.args.seat.now c.begin_claims.new.self c.layout.result c.begin_claims.ensures.walk.0 c.begin_claims.ensures.walk.1 c.layout.ensures)));
      },
    )

pub returns-in_default-clause-few : goal.returns-in_default-clause-few
returns-in_default-clause-few g c =
    let may = subst (λ z. MayGrow c.args.table.now c.args.seat.now z c.args.job.now c.args.new.now) (sym c.begin_claims.ensures.made) c.requires.may in
    let whole : c.begin_claims.new.self.walk.left ≡ c.args.table.now.layout.nodes = c.begin_claims.ensures.walk.0 ∙ ap (λ (z : Layout). z.nodes) c.layout.ensures in
    let few : c.raise_with_leaf.new.seat.known.steps + 2 * c.raise_with_leaf.new.build.walk.left ≤ c.args.seat.now.known.steps + 2 * c.begin_claims.new.self.walk.left + ((c.args.job.now.span.len - c.args.job.now.span.end) * level_steps + node_steps) + length c.raise_with_leaf.new.build.made.items = c.in_default.ensures.makes.few in
    omega (arith, whole, few, made_one may.growing.lowest.made_leaf.building, c.raise_with_leaf.ensures.makes.more, may.within.0)

pub leaves_free_node-requires : goal.leaves_free_node-requires
leaves_free_node-requires g c =
    let may = subst (λ z. MayGrow c.args.table.now c.args.seat.now z c.args.job.now c.args.new.now) (sym c.begin_claims.ensures.made) c.requires.may in
    let raising = (c.in-Some.ensures.made may.growing).2 in record { building = (raising.news, raising.building) }

pub returns-then-not-leaves_free_node-clause-goes : goal.returns-then-not-leaves_free_node-clause-goes
returns-then-not-leaves_free_node-clause-goes g c = goes_more c.args.table.now g.G.Gate.becomes _ _ _ c.in-Some.ensures.makes.goes c.leaves_free_node.ensures.goes

pub returns-then-not-leaves_free_node-clause-full : goal.returns-then-not-leaves_free_node-clause-full
returns-then-not-leaves_free_node-clause-full g c =
    let may = subst (λ z. MayGrow c.args.table.now c.args.seat.now z c.args.job.now c.args.new.now) (sym c.begin_claims.ensures.made) c.requires.may in
    let raising = (c.in-Some.ensures.made may.growing).2 in
    let made = c.leaves_free_node.ensures.made in (
      refl,
      record {
        not_made = not_made c.args.table.now g.G.Gate.becomes (c.raise_with_leaf.new.seat, c.raise_with_leaf.new.gate) (c.leaves_free_node.new.seat, c.leaves_free_node.new.gate) c.raise_with_leaf.new.build.made.items c.leaves_free_node.new.build.made.items raising.news
            c.leaves_free_node.ensures.goes c.leaves_free_node.ensures.own made raising.building;
        few = omega (arith, ap length made, made_one may.growing.lowest.made_leaf.building, c.in-Some.ensures.makes.more, may.within.0);
        full_of = lacks_nodes c.args.table.now.layout c.args.seat.now.known c.args.seat.now.bounds c.args.seat.now.known.steps c.leaves_free_node.new.seat.known c.args.job.now.way.now c.args.job.now.span c.leaves_free_node.new.build.made.items
            may.nodes may.locked (c.leaves_free_node.ensures.goes.stays.1 ∙ c.in-Some.ensures.makes.goes.stays.1) (omega (arith, may.within.0)) may.within.1 (omega (arith, may.within.1, may.depth))
            (omega (arith, ap (λ (z : List Rec). length (nodes_among z)) made, no_nodes may.growing.lowest.made_leaf, c.in-Some.ensures.makes.nodes, may.within.0))
            (c.leaves_free_node.ensures.walk c.if-not-leaves_free_node.true c.args.seat.now (c.in-Some.ensures.makes.walk c.args.seat.now
            (walk_begins c.args.table.now.layout c.args.seat.now c.begin_claims.new.self c.layout.result c.begin_claims.ensures.walk.0 c.begin_claims.ensures.walk.1 c.layout.ensures)));
      },
    )

pub returns-clause-goes : goal.returns-clause-goes
returns-clause-goes g c = goes_more c.args.table.now g.G.Gate.becomes _ _ _ c.in-Some.ensures.makes.goes c.leaves_free_node.ensures.goes

pub returns-clause-raised : goal.returns-clause-raised
returns-clause-raised g c =
    let job = c.args.job.now in
    let may = subst (λ z. MayGrow c.args.table.now c.args.seat.now z c.args.job.now c.args.new.now) (sym c.begin_claims.ensures.made) c.requires.may in
    let goes = c.in-Some.ensures.makes.goes in
    let low_is : c.if-stays.low ≡ (if c.in-Some.stays then job.span.len - 1 else job.span.len) = elim c.if-stays.branch [ then-stays w ↦ rw w.if-stays.true w.low-is | else-stays w ↦ rw w.if-stays.false w.low-is ] in
    let low : (job.span.end ≤ c.if-stays.low) × (c.if-stays.low ≤ job.span.len) × (job.span.len ≤ c.if-stays.low + 1) = elim c.if-stays.branch [
      | then-stays w ↦ (omega (arith, w.low-is, may.within.0), omega (arith, w.low-is, may.within.0), omega (arith, w.low-is, may.within.0))
      | else-stays w ↦ (omega (arith, w.low-is, may.within.0), omega (arith, w.low-is, may.within.0), omega (arith, w.low-is, may.within.0))
    ] in
    let gone = append-nil (map (λ (s : PathNode). a_node s.number) (slice_range job.way.now job.span.end c.if-stays.low)) ∙
    sym (gone_is job.way.now job.span.end (job.span.len - 1) job.span.len c.if-stays.low c.in-Some.stays may.growing.step may.growing.upto (let w = may.within.0 in omega (arith, w)) low_is may.growing.at) in
    let raising = (c.in-Some.ensures.made may.growing).2 in
    let here = building_on c.args.table.now g.G.Gate.becomes (c.raise_with_leaf.new.seat, c.raise_with_leaf.new.gate) (c.leaves_free_node.new.seat, c.leaves_free_node.new.gate) c.raise_with_leaf.new.build.made.items raising.news
    c.leaves_free_node.ensures.goes c.leaves_free_node.ensures.own raising.building in
    let raised : Raised = record { entry = Some c.in-Some.entry; low = c.if-stays.low; leaf = None } in
    let made : MayReplace c.args.table.now c.raise_with_leaf.new.seat c.raise_with_leaf.new.build.made.items job raised (added_change c.args.seat.now.known.pass (item c.args.new.now.number c.args.new.now.key.now job.value)) None =
    record {
      from = low.0;
      upto = low.1;
      most = low.2;
      leaf = none_in_table c.args.table.now.layout;
      ends = λ spot over.
          grown_ends c.args.table.now c.args.seat.now c.raise_with_leaf.new.seat c.begin_claims.new.self.made.items c.raise_with_leaf.new.build.made.items job c.args.new.now may
          goes.stays.0 goes.stays.1 goes.stays.2 c.in-Some.entry c.show_number_fits.ensures c.in-Some.stays (c.in-Some.ensures.made may.growing) c.in-Some.ensures.low spot _ over gone;
      few = omega (arith, made_one may.growing.lowest.made_leaf.building, c.raise_with_leaf.ensures.makes.more, may.within.0);
      takes = λ number is. absurd cc;
    } in
    replace_later c.args.table.now c.raise_with_leaf.new.seat c.leaves_free_node.new.seat c.raise_with_leaf.new.build.made.items c.leaves_free_node.new.build.made.items job raised _ None here.seat here.possible
    c.leaves_free_node.ensures.goes.stays.0 (c.leaves_free_node.ensures.goes.stays.1, c.leaves_free_node.ensures.goes.stays.2, c.leaves_free_node.ensures.own) c.leaves_free_node.ensures.made made

pub returns-clause-free : goal.returns-clause-free
returns-clause-free g c = c.leaves_free_node.ensures.free c.if-not-leaves_free_node.false
