-- The state is tested first, and the word of `Free` says that the record may be claimed.
use Rattle.std.proofs.Common.{refl, sym, ◌∙◌}
use Rattle.rowex_replay_state.proofs.RecordSteps.{claims, claims_nothing, no_state}
use Rattle.rowex_replay_state.proofs.state.State.claim.Goals as goal

pub returns-then-not-has_state_word : goal.returns-then-not-has_state_word
returns-then-not-has_state_word c = rw (sym c.self.view_is) (refl, no_state _ c.args.rec c.args.found (λ h. absurd (let x = c.has_state_word.ensures.1 h in let y = c.if-not-has_state_word.true in cc)))

pub returns-then-found-pack_state : goal.returns-then-found-pack_state
returns-then-found-pack_state c = rw (sym c.self.view_is, c.set_fate.ensures) (claims _ c.args.pass c.args.rec c.args.found (c.has_state_word.ensures.0 c.if-not-has_state_word.false) (c.if-found-pack_state.true ∙ c.pack_state.ensures))

pub returns-else-found-pack_state : goal.returns-else-found-pack_state
returns-else-found-pack_state c = rw (sym c.self.view_is) (claims_nothing _ c.args.pass c.args.rec c.args.found (c.has_state_word.ensures.0 c.if-not-has_state_word.false) (λ same. c.if-found-pack_state.false (same ∙ sym c.pack_state.ensures)))
