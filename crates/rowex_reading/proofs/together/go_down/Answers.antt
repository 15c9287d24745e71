-- None has gone down; one search more has, or is at a leaf; and all have.
use Rattle.rowex_reading.proofs.Common.{◌≡◌, ◌+◌, List, Bool, arith, length, refl, subst, sym, Some, true, false, slice_get, slice_get_read, slice_get-get_or, Entry, Leaf, Node, SeatView}
use Rattle.rowex_reading.specs.Together.{AreLeaves, HasComeTo}
use Rattle.rowex_reading.proofs.Seen.Led.{reads_none}
use Rattle.rowex_reading.proofs.together.Together.{HaveGone, gone_down, gone_still}
use Rattle.rowex_reading.proofs.together.go_down.Given as given
use Rattle.rowex_reading.proofs.together.go_down.Goals as goal
use Rattle.rowex_reading.proofs.together.go_down.Goals.{After-index-keys-index, in-Node, in_default}

pub loop-index-init : goal.loop-index-init
loop-index-init g c = record {
  gone = record {
    reader = c.requires.reader;
    room = c.requires.room;
    ways = c.requires.ways;
    entries = 0;
    falls = omega arith;
    loads = 0;
    few = omega arith;
    reads = reads_none (c.args.seat.now, c.args.gate.now);
    lower_is = λ no. absurd (let z : false ≡ true = no in cc);
    leaves = λ _ i e low. absurd (omega (arith, low));
  };
}

-- the key's way has led to the node
way : (g : given.Over) (c : After-index-keys-index g) → HasComeTo c.loop-index.seat.known c.index-keys-index.result (Node c.in-Node.number c.in-Node.height)
way g c =
    let i = c.loop-index.index in let low = c.loop-index-test.true in let gone = c.loop-index.invariant.gone in
    gone.ways i c.index-keys-index.result (Node c.in-Node.number c.in-Node.height)
    (slice_get_read c.args.keys.now (length c.args.keys.now) i c.index-keys-index.result refl low c.index-keys-index.is)
    (subst (λ e. slice_get c.loop-index.tips i ≡ Some e) c.in-Node.is (slice_get-get_or c.loop-index.tips i (Leaf 0) (omega (arith, low, gone.room))))

pub enter_node-requires-clause-reader : goal.enter_node-requires-clause-reader
enter_node-requires-clause-reader g c = c.loop-index.invariant.gone.reader

pub enter_node-requires-clause-way : goal.enter_node-requires-clause-way
enter_node-requires-clause-way g c = (c.in-Node.height, way g (goal.at.enter_node-requires-clause-way g c).After-index-keys-index)

pub loop-index-preserved : goal.loop-index-preserved
loop-index-preserved g c =
    let i = c.loop-index.index in let low = c.loop-index-test.true in let gone = c.loop-index.invariant.gone in let keys = c.args.keys.now in
    record {
      gone = elim c.match-tips-index.branch [
        | in-Node w ↦
            (let key = w.index-keys-index.result in
            let here : slice_get keys i ≡ Some key = slice_get_read keys (length keys) i key refl low w.index-keys-index.is in
            let there = subst (λ e. slice_get c.loop-index.tips i ≡ Some e) w.in-Node.is (slice_get-get_or c.loop-index.tips i (Leaf 0) (omega (arith, low, gone.room))) in
            let e = w.enter_node.ensures in
            let entered = e.entry w.in-Node.height (gone.ways i key (Node w.in-Node.number w.in-Node.height) here there) in
            subst (λ (z : SeatView × g.row.G.Denot × List Entry × Bool). HaveGone c.args.table.now g.G.Gate.becomes keys (c.args.seat.now, c.args.gate.now) c.args.tips.now (i + 1) (z.0, z.1) z.2 z.3)
            (λ x. (sym w.seat-is x, sym w.gate-is x, sym w.tips-is x, sym w.lower-is x))
            (gone_down gone low key w.in-Node.number w.in-Node.height w.enter_node.result here w.in-Node.is e.reads.0 e.reads.1 e.reads.2 entered))
        | in_default w ↦
            subst (λ (z : SeatView × g.row.G.Denot × List Entry × Bool). HaveGone c.args.table.now g.G.Gate.becomes keys (c.args.seat.now, c.args.gate.now) c.args.tips.now (i + 1) (z.0, z.1) z.2 z.3)
            (λ x. (sym w.seat-is x, sym w.gate-is x, sym w.tips-is x, sym w.lower-is x))
            (gone_still gone low w.in_default.field-0 w.in_default.is)
      ];
    }

pub returns : goal.returns
returns g c =
    let gone = c.loop-index.invariant.gone in
    let all : c.loop-index.index ≡ length c.args.keys.now = omega (arith, c.loop-index-test.false, c.loop-index.auto.index-end) in
    record {
      reads = (gone.entries, gone.loads, gone.falls, gone.few, gone.reads);
      ways = gone.ways;
      lower = gone.lower_is;
      leaves = λ no. subst (λ n. AreLeaves n c.loop-index.tips) all (gone.leaves no);
    }
