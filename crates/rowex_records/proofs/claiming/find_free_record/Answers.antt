-- None yet, one more that is not free, and one that is.
use Rattle.rowex_records.proofs.Common.{arith, ◌≡◌, ◌<◌, ◌≤◌, ◌+◌, ◌∙◌, min, ap, subst, LoadState, Steps}
use Rattle.rowex_records.specs.Claims.{FindsNone, MissesOne, begin_of, count_of, record_of}
use Rattle.rowex_records.proofs.Claims.{begin_turn, begins_turned, finds_more, finds_none, has_index, has_record, missed_by_load, turned_over, begins_low}
use Rattle.rowex_records.proofs.claiming.find_free_record.Goals as goal

pub loop-tried-init : goal.loop-tried-init
loop-tried-init g c =
    let all : c.count-all.result ≡ count_of c.args.kind c.args.table.now.layout = rw c.layout.ensures at c.count-all.ensures in
    record {
      own = c.requires.own;
      none = finds_none _ _ (record_of c.args.kind) _ _ _;
      number = (rw all at c.number_or_zero-number.ensures.begin) ∙ begin_turn (count_of c.args.kind c.args.table.now.layout) c.args.from;
    }

pub record_at-rec-requires : goal.record_at-rec-requires
record_at-rec-requires g c =
    let all : c.count-all.result ≡ count_of c.args.kind c.args.table.now.layout = rw c.layout.ensures at c.count-all.ensures in
    has_index c.args.kind c.args.table.now.layout c.loop-tried.number
    (begins_turned (count_of c.args.kind c.args.table.now.layout) c.args.from c.loop-tried.tried c.loop-tried.number (omega (arith, c.min-most.ensures, all, c.loop-tried-test.true)) c.loop-tried.invariant.number)

pub load_state-requires-clause-own : goal.load_state-requires-clause-own
load_state-requires-clause-own g c = c.loop-tried.invariant.own

pub load_state-requires-clause-range : goal.load_state-requires-clause-range
load_state-requires-clause-range g c =
    let all : c.count-all.result ≡ count_of c.args.kind c.args.table.now.layout = rw c.layout.ensures at c.count-all.ensures in
    rw c.record_at-rec.ensures (has_record c.args.kind c.args.table.now.layout c.loop-tried.number c.requires.kind
    (begins_turned (count_of c.args.kind c.args.table.now.layout) c.args.from c.loop-tried.tried c.loop-tried.number (omega (arith, c.min-most.ensures, all, c.loop-tried-test.true)) c.loop-tried.invariant.number))

pub loop-tried-preserved : goal.loop-tried-preserved
loop-tried-preserved g c =
    let n = count_of c.args.kind c.args.table.now.layout in
    let all : c.count-all.result ≡ n = rw c.layout.ensures at c.count-all.ensures in
    let low : c.loop-tried.tried < n = omega (arith, c.min-most.ensures, all, c.loop-tried-test.true) in
    let taken = c.if-load_state-pack_state.false in
    let free = c.pack_state.ensures in
    let missed : MissesOne c.args.table.now g.G.Gate.becomes (record_of c.args.kind c.loop-tried.number) (c.loop-tried.seat, c.loop-tried.gate) (c.load_state.new.seat, c.load_state.new.gate) =
    missed_by_load c.args.table.now g.G.Gate.becomes (record_of c.args.kind c.loop-tried.number) c.load_state.result _ _ (omega arith)
    (subst (λ r. Steps c.args.table.now g.G.Gate.becomes (LoadState r c.load_state.result) (c.loop-tried.seat, c.loop-tried.gate) (c.load_state.new.seat, c.load_state.new.gate)) c.record_at-rec.ensures c.load_state.ensures) in
    let below : c.loop-tried.number < n = begins_turned n c.args.from c.loop-tried.tried c.loop-tried.number low c.loop-tried.invariant.number in
    record {
      own = missed.does.seat.0 ∙ c.loop-tried.invariant.own;
      none = finds_more c.args.table.now g.G.Gate.becomes (record_of c.args.kind) n (begin_of n c.args.from) c.loop-tried.tried c.loop-tried.number _ _ _ c.loop-tried.invariant.number c.loop-tried.invariant.none missed;
      number = (rw all at c.number_or_zero-number-in-loop-tried.ensures.begin) ∙
          (ap (λ z. begin_of n (z + 1)) c.loop-tried.invariant.number ∙
          turned_over n (begin_of n c.args.from) c.loop-tried.tried 1 (begins_low n c.args.from (omega (arith, low))) low (omega (arith, low)) (subst (λ z. z + 1 ≤ n) c.loop-tried.invariant.number (omega (arith, below))));
    }

pub returns-then-load_state-pack_state : goal.returns-then-load_state-pack_state
returns-then-load_state-pack_state g c =
    let n = count_of c.args.kind c.args.table.now.layout in
    let all : c.count-all.result ≡ n = rw c.layout.ensures at c.count-all.ensures in
    record {
      finds = record {
        tried = c.loop-tried.tried;
        low = (let most : c.min-most.result ≡ min n c.args.most = rw all at c.min-most.ensures in subst (λ z. c.loop-tried.tried < z) most c.loop-tried-test.true);
        number_is = c.loop-tried.invariant.number;
        before = (c.loop-tried.seat, c.loop-tried.gate);
        none = c.loop-tried.invariant.none;
        free = subst (λ w. Steps c.args.table.now g.G.Gate.becomes (LoadState (record_of c.args.kind c.loop-tried.number) w) (c.loop-tried.seat, c.loop-tried.gate) (c.load_state.new.seat, c.load_state.new.gate)) (c.if-load_state-pack_state.true ∙ c.pack_state.ensures)
            (subst (λ r. Steps c.args.table.now g.G.Gate.becomes (LoadState r c.load_state.result) (c.loop-tried.seat, c.loop-tried.gate) (c.load_state.new.seat, c.load_state.new.gate)) c.record_at-rec.ensures c.load_state.ensures);
      };
    }

pub returns : goal.returns
returns g c =
    let n = count_of c.args.kind c.args.table.now.layout in
    let all : c.count-all.result ≡ n = rw c.layout.ensures at c.count-all.ensures in
    let done : c.loop-tried.tried ≡ min n c.args.most = omega (arith, c.loop-tried.auto.tried-end, c.loop-tried-test.false, c.min-most.ensures, all) in
    record {
      finds = subst (λ m. FindsNone c.args.table.now g.G.Gate.becomes (record_of c.args.kind) n (begin_of n c.args.from) m (c.args.seat.now, c.args.gate.now) (c.loop-tried.seat, c.loop-tried.gate)) done
          c.loop-tried.invariant.none;
    }
