-- The fork before the piece at the top is behind the position.
use Rattle.std.proofs.Common.{◌≡◌, ◌+◌, ◌-◌, inr, length, arith}
use Rattle.bulk_load.proofs.Stacks.Joining.{stack_of, top_within, parting_alone, parting_low, next_ready}
use Rattle.bulk_load.proofs.Loading.{nodes_more, nodes_stay}
use Rattle.bulk_load.proofs.builder.Builder.join_behind.Goals as goal

pub overflow_sub-len-in-joins : goal.overflow_sub-len-in-joins
overflow_sub-len-in-joins c =
    let (xs, can) = c.requires in let l = c.joins.self in
    let r = stack_of l xs c.args.position (omega (arith, l.pieces.ok.0, c.len.ensures, c.joins-test.true)) (c.joins.invariant.can_join xs can) in
    let within = top_within l xs r.stack (c.len-in-joins.result - 1) c.index.result.now (omega (arith, l.pieces.ok.0, c.len.ensures, c.len-in-joins.ensures, c.joins-test.true)) c.index.ensures in
    omega (arith, within.1, l.tips.ok.0, c.len-in-joins-2.ensures)

pub index-requires-in-joins : goal.index-requires-in-joins
index-requires-in-joins c =
    let (xs, can) = c.requires in let l = c.joins.self in
    let r = stack_of l xs c.args.position (omega (arith, l.pieces.ok.0, c.len.ensures, c.joins-test.true)) (c.joins.invariant.can_join xs can) in
    let within = top_within l xs r.stack (c.len-in-joins.result - 1) c.index.result.now (omega (arith, l.pieces.ok.0, c.len.ensures, c.len-in-joins.ensures, c.joins-test.true)) c.index.ensures in
    omega (arith, within.0, within.1, l.tips.ok.0, c.len-in-joins-2.ensures)

pub returns-then-index-position-clause-behind : goal.returns-then-index-position-clause-behind
returns-then-index-position-clause-behind c = λ xs can.
    let l = c.joins.self in let now = c.joins.invariant.can_join xs can in
    let r = stack_of l xs c.args.position (omega (arith, l.pieces.ok.0, c.len.ensures, c.joins-test.true)) now in
    let last : c.len-in-joins.result - 1 + 1 ≡ length l.pieces.items = omega (arith, l.pieces.ok.0, c.len.ensures, c.len-in-joins.ensures, c.joins-test.true) in
    let within = top_within l xs r.stack (c.len-in-joins.result - 1) c.index.result.now last c.index.ensures in
    parting_low l xs c.args.position (c.len-in-joins.result - 1) c.index.result.now (c.len-in-joins-2.result - c.index.result.now.count) c.index-in-joins.result.now
    last c.index.ensures (omega (arith, within.1, l.tips.ok.0, c.len-in-joins-2.ensures)) c.index-in-joins.ensures c.if-index-position.true now

pub join_last-requires-clause-stack : goal.join_last-requires-clause-stack
join_last-requires-clause-stack c =
    let (xs, can) = c.requires in let l = c.joins.self in
    (xs, (stack_of l xs c.args.position (omega (arith, l.pieces.ok.0, c.len.ensures, c.joins-test.true)) (c.joins.invariant.can_join xs can)).stack)

pub joins-preserved : goal.joins-preserved
joins-preserved c = record {
  can_join = λ xs can.
      let l = c.joins.self in let now = c.joins.invariant.can_join xs can in
      let r = stack_of l xs c.args.position (omega (arith, l.pieces.ok.0, c.len.ensures, c.joins-test.true)) now in
      let last : c.len-in-joins.result - 1 + 1 ≡ length l.pieces.items = omega (arith, l.pieces.ok.0, c.len.ensures, c.len-in-joins.ensures, c.joins-test.true) in
      let within = top_within l xs r.stack (c.len-in-joins.result - 1) c.index.result.now last c.index.ensures in
      inr (next_ready l c.join_last.new.self xs c.args.position (c.len-in-joins.result - 1) c.index.result.now (c.len-in-joins-2.result - c.index.result.now.count) c.index-in-joins.result.now
      last c.index.ensures (omega (arith, within.1, l.tips.ok.0, c.len-in-joins-2.ensures)) c.index-in-joins.ensures c.if-index-position.false c.join_last.ensures.kept.leaves.last r
      (c.join_last.ensures.joined xs r.stack));
  kept = nodes_more c.args.self.now c.joins.self c.join_last.new.self c.joins.invariant.kept c.join_last.ensures.kept;
}

pub joins-init : goal.joins-init
joins-init c = record { can_join = λ xs can. can; kept = nodes_stay c.args.self.now }

pub returns-clause-behind : goal.returns-clause-behind
returns-clause-behind c = λ xs can.
    parting_alone c.joins.self xs c.args.position (omega (arith, c.joins.self.pieces.ok.0, c.len.ensures, c.joins-test.false)) (c.joins.invariant.can_join xs can)
