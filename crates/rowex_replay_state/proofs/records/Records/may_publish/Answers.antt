-- The three tests are the three parts.
use Rattle.std.proofs.Common.{sym}
use Rattle.rowex_replay_state.proofs.records.Linking.{refused, linked_by}
use Rattle.rowex_replay_state.proofs.records.Records.may_publish.Goals as goal

pub returns-then-not-may_link : goal.returns-then-not-may_link
returns-then-not-may_link c = rw (sym c.self.view_is) (refused c.if-not-may_link.true c.may_link.ensures (λ m. rw c.deref.ensures.value m.nodes_come))

pub returns-then-not-may_link-2 : goal.returns-then-not-may_link-2
returns-then-not-may_link-2 c = rw (sym c.self.view_is) (refused c.if-not-may_link-2.true c.may_link-2.ensures (λ m. rw c.deref-2.ensures.value m.leaves_come))

pub returns : goal.returns
returns c = rw (sym c.self.view_is) (linked_by _ c.args.pass c.args.nodes.now c.args.leaves.now c.may_unlink.result
    (rw c.deref.ensures.value at (c.may_link.ensures.0 c.if-not-may_link.false))
    (rw c.deref-2.ensures.value at (c.may_link-2.ensures.0 c.if-not-may_link-2.false))
    (rw (c.deref-3.ensures.value, c.deref-4.ensures.value) at c.may_unlink.ensures))
