-- All is as at the opening.
use Rattle.std.proofs.Common.{refl, ◌∙◌, ap, replicate}
use Rattle.rowex_replay_state.proofs.state.Opening.{opening_replay}
use Rattle.rowex_replay_state.proofs.state.State.new.Goals as goal

pub returns : goal.returns
returns c = opening_replay _ c.args.layout c.in_ok-new.ensures (c.in_ok-repeat_item.ensures ∙ ap (replicate c.args.layout.passes) c.new-2.ensures) refl refl refl c.new-3.ensures.items c.new-4.ensures.items
