-- The value is stored where what names the leaf is locked.
use Rattle.rowex_replay_state.proofs.Common.{◌≡◌, refl, sym, set, a_leaf}
use Rattle.rowex_replay_state.specs.contracts.state.State.{the_view}
use Rattle.rowex_replay_state.specs.Records.{with_words_in}
use Rattle.rowex_replay_state.proofs.States.Valued.{not_named, not_there, value_steps}
use Rattle.rowex_replay_state.proofs.state.State.publish_value.Goals as goal

pub returns-then-not-has_locked_namer-clause-ok : goal.returns-then-not-has_locked_namer-clause-ok
returns-then-not-has_locked_namer-clause-ok c =
    not_named c.args.self.now c.args.self.now c.args.pass c.args.leaf c.args.word refl (λ h. let x = c.has_locked_namer.ensures.1 h in let y = c.if-not-has_locked_namer.true in cc)

pub returns-in_default-clause-ok : goal.returns-in_default-clause-ok
returns-in_default-clause-ok c =
    rw (sym c.self.view_is) (not_there (the_view c.self.inside) (the_view c.self.inside) c.args.pass c.args.leaf c.args.word refl (rw c.in_default.is at c.key_of.ensures))

pub returns-clause-ok : goal.returns-clause-ok
returns-clause-ok c =
    let has = c.in-Some.ensures in
    let put : c.set_word.new.self ≡ with_words_in c.self.inside.records (a_leaf c.args.leaf) (set has.0 0 c.args.word) = (rw has.1 at c.set_word.ensures) in
    let named = rw (sym c.self.view_is) at (c.has_locked_namer.ensures.0 c.if-not-has_locked_namer.false) in
    rw (sym c.self.view_is, c.in_ok-push.ensures.items, put)
    (value_steps (the_view c.self.inside) c.args.pass c.args.leaf c.args.word c.ranges.leaf.fits c.ranges.word.fits named c.in-Some.key has c.set_value.new.items.items c.set_value.ensures)
