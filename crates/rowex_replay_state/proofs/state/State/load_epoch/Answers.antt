-- The round begins at the newest version.
use Rattle.std.proofs.Common.{sym, ◌≡◌, length, arith}
use Rattle.rowex_replay_state.proofs.EpochSteps.{epoch_loads, pass_in}
use Rattle.rowex_replay_state.proofs.state.State.load_epoch.Goals as goal

pub returns : goal.returns
returns c =
    let long : c.len-version.result ≡ length c.self.inside.changes.items = omega (arith, c.len-version.ensures, c.self.inside.changes.ok.0) in
    rw (sym c.self.view_is, c.set_item.ensures, c.begin_round-loaded.ensures, long) (epoch_loads _ c.args.pass c.args.word c.pass_state.result c.if-word-self.false (pass_in _ _ c.self.view_is _ _ c.pass_state.ensures))
