-- The tree is read and tested before anything is changed.
use Rattle.std.proofs.Common.{◌≡◌, refl, sym, length, arith, Some, None}
use Rattle.rowex_replay_state.proofs.Publishing.{none_read, not_linked, not_changed, publishes, read_is, found_is, next_of}
use Rattle.rowex_replay_state.proofs.state.State.publish_tree.Goals as goal

pub returns-in_default-clause-ok : goal.returns-in_default-clause-ok
returns-in_default-clause-ok c = rw (sym c.self.view_is) (
  refl,
  none_read _ c.args.pass c.args.root
      (read_is _ _ _ _ c.args.root c.in_ok-linked.field-0 None c.nodes-nodes.ensures c.leaves-leaves.ensures c.in_default.is c.in_ok-linked.ensures),
)

pub returns-then-not-may_publish-clause-ok : goal.returns-then-not-may_publish-clause-ok
returns-then-not-may_publish-clause-ok c = rw (sym c.self.view_is) (
  refl,
  not_linked _ c.args.pass c.args.root c.in-Some.linked
      (read_is _ _ _ _ c.args.root c.in_ok-linked.field-0 (Some c.in-Some.linked) c.nodes-nodes.ensures c.leaves-leaves.ensures c.in-Some.is c.in_ok-linked.ensures)
      (λ m. let x = c.may_publish.ensures.1 (rw (c.deref.ensures.value, c.deref-2.ensures.value) m) in let y = c.if-not-may_publish.true in cc),
)

pub returns-in_default-change_between-clause-ok : goal.returns-in_default-change_between-clause-ok
returns-in_default-change_between-clause-ok c = rw (sym c.self.view_is) (
  refl,
  not_changed _ c.args.pass c.args.root c.in-Some.linked
      (read_is _ _ _ _ c.args.root c.in_ok-linked.field-0 (Some c.in-Some.linked) c.nodes-nodes.ensures c.leaves-leaves.ensures c.in-Some.is c.in_ok-linked.ensures)
      (found_is c.args.pass _ _ _ _ c.change_between.result None c.as_slice-before.ensures.value c.as_slice-after.ensures.value c.in_default-change_between.is c.change_between.ensures),
)

pub returns-clause-ok : goal.returns-clause-ok
returns-clause-ok c =
    let long : c.len-now.result ≡ length c.self.inside.changes.items = omega (arith, c.len-now.ensures, c.self.inside.changes.ok.0) in
    rw (sym c.self.view_is, c.in_ok-push.ensures.items) (publishes _ c.args.pass c.args.root c.in-Some.linked c.in-Some-change_between.change c.len-now.result c.update_fates.new.self
    (read_is _ _ _ _ c.args.root c.in_ok-linked.field-0 (Some c.in-Some.linked) c.nodes-nodes.ensures c.leaves-leaves.ensures c.in-Some.is c.in_ok-linked.ensures)
    (rw (c.deref.ensures.value, c.deref-2.ensures.value) at (c.may_publish.ensures.0 c.if-not-may_publish.false))
    (found_is c.args.pass _ _ _ _ c.change_between.result (Some c.in-Some-change_between.change) c.as_slice-before.ensures.value c.as_slice-after.ensures.value c.in-Some-change_between.is c.change_between.ensures)
    long
    (next_of _ _ _ _ _ _ _ _ c.deref-3.ensures.value c.deref-4.ensures.value c.update_fates.ensures))
