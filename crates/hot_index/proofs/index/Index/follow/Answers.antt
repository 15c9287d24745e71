-- What the seat has seen, the pass has.
use Rattle.hot_index.proofs.Common.{subst, StampView, TableView, PassView, pass_of}
use Rattle.rowex_table.specs.Traces.{RunBeginsWith}
use Rattle.hot_index.specs.Stamps.{HasCaughtUp}
use Rattle.hot_index.proofs.KeyCounts.Counted.{settled_on}
use Rattle.hot_index.proofs.Stamps.{caught_up, followed_settled}
use Rattle.hot_index.proofs.index.Index.follow.Goals as goal

pub invariant_of-pass : goal.invariant_of-pass
invariant_of-pass c =
    let f = c.follow_stamp.ensures in
    settled_on c.self.inside.table.layout c.pass.inside.seat c.follow_stamp.new.seat c.pass.inside.count (caught_up c.self.inside.table.layout _ _ _ f.same f.shown f.followed c.pass.invariant.settled).unnoted
    (followed_settled c.self.inside.table.layout _ _ _ f.followed c.pass.invariant.settled) c.pass.invariant

pub returns-clause-followed : goal.returns-clause-followed
returns-clause-followed c =
    subst (λ (y : StampView). HasCaughtUp c.args.self.now.layout y.front c.args.pass.now (pass_of c.follow_stamp.new.seat)) c.stamp.view_is
    (subst (λ (x : TableView). HasCaughtUp x.layout c.stamp.inside.stamp.front c.args.pass.now (pass_of c.follow_stamp.new.seat)) c.self.view_is
    (subst (λ (z : PassView). HasCaughtUp c.self.inside.table.layout c.stamp.inside.stamp.front z (pass_of c.follow_stamp.new.seat)) c.pass.view_is
    (caught_up c.self.inside.table.layout _ _ _ c.follow_stamp.ensures.same c.follow_stamp.ensures.shown c.follow_stamp.ensures.followed c.pass.invariant.settled)))

pub returns-clause-traced : goal.returns-clause-traced
returns-clause-traced c = subst (λ (y : StampView). RunBeginsWith c.follow_stamp.new.seat.trace y.trace) c.stamp.view_is c.follow_stamp.ensures.traced
