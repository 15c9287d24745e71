-- The word is put back where the publish is refused.
use Rattle.rowex_replay_state.proofs.Common.{refl, sym, true, false, ◌∙◌, a_node}
use Rattle.rowex_replay_state.specs.contracts.state.State.{the_view}
use Rattle.rowex_replay_state.specs.Records.{with_words_in}
use Rattle.rowex_replay_state.proofs.Publishing.Stores.{entry_publishes, entry_refused, entry_unpacked, of_words, restored}
use Rattle.rowex_replay_state.proofs.state.State.publish_entry.Goals as goal

pub returns-then-not-are_node_words-clause-ok : goal.returns-then-not-are_node_words-clause-ok
returns-then-not-are_node_words-clause-ok c = rw (sym c.self.view_is) (
  refl,
  entry_unpacked _ c.args.pass c.args.node c.args.entry c.args.word c.in-Some.before c.with_word-after.result (sym c.node.ensures ∙ c.in-Some.is) c.with_word-after.ensures
      (λ p. let x = (c.are_node_words.ensures c.args.node).1 p in let y = c.if-not-are_node_words.true in cc),
)

pub returns-in-Ok-true-clause-ok : goal.returns-in-Ok-true-clause-ok
returns-in-Ok-true-clause-ok c = rw (sym c.self.view_is) (entry_publishes _ c.publish_tree.new.self c.args.pass c.args.node c.args.entry c.args.word c.in-Some.before c.with_word-after.result
    c.if-entry-ge-MAX_ENTRIES.false (c.is_locked_by.ensures.0 c.if-not-is_locked_by.false) (sym c.node.ensures ∙ c.in-Some.is) c.with_word-after.ensures ((c.are_node_words.ensures c.args.node).0 c.if-not-are_node_words.false) c.requires
    (of_words (the_view c.self.inside) c.publish_tree.new.self c.set_node.new.self (with_words_in c.self.inside.records (a_node c.args.node) c.with_word-after.result) c.args.pass c.self.inside.root c.in-Ok-true.field-0 true c.in-Ok-true.field-0-test c.set_node.ensures c.in-Ok-true.ensures.ok))

pub returns-in-Ok-false-clause-ok : goal.returns-in-Ok-false-clause-ok
returns-in-Ok-false-clause-ok c =
    let p = of_words (the_view c.self.inside) c.publish_tree.new.self c.set_node.new.self (with_words_in c.self.inside.records (a_node c.args.node) c.with_word-after.result) c.args.pass c.self.inside.root c.in-Ok-false.field-0 false
    c.in-Ok-false.field-0-test c.set_node.ensures c.in-Ok-false.ensures.ok in
    let at = sym c.node.ensures ∙ c.in-Some.is in
    rw (sym c.self.view_is) (
      restored _ _ _ c.set_node-in-Ok-false.new.self c.args.node c.in-Some.before c.with_word-after.result at c.self-2.view_is p.0 c.set_node-in-Ok-false.ensures,
      entry_refused _ c.publish_tree.new.self c.args.pass c.args.node c.args.entry c.args.word c.in-Some.before c.with_word-after.result at c.with_word-after.ensures ((c.are_node_words.ensures c.args.node).0 c.if-not-are_node_words.false) p,
    )

pub returns-in-Err-clause-err : goal.returns-in-Err-clause-err
returns-in-Err-clause-err c =
    let p = rw c.set_node.ensures at c.in-Err.ensures.err in
    rw (sym c.self.view_is)
    (restored _ _ _ c.set_node-in-Err.new.self c.args.node c.in-Some.before c.with_word-after.result (sym c.node.ensures ∙ c.in-Some.is) c.self-2.view_is p c.set_node-in-Err.ensures)
