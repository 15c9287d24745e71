-- The record is given back exactly where it is marked with this epoch.
use Rattle.std.proofs.Common.{◌≡◌, length, arith, refl, subst, sym}
use Rattle.rowex_replay_state.specs.Passes.{IsOutOfReach}
use Rattle.rowex_replay_state.proofs.EpochSteps.{pass_in}
use Rattle.rowex_replay_state.proofs.RecordSteps.{no_state}
use Rattle.rowex_replay_state.proofs.state.Retiring.{gives_back, keeps_back}
use Rattle.rowex_replay_state.proofs.state.State.give_back.Goals as goal

pub returns-then-is_marked : goal.returns-then-is_marked
returns-then-is_marked c =
    let long : c.len.result ≡ length c.self.inside.passes.items = omega (arith, c.len.ensures, c.self.inside.passes.ok.0) in
    rw (sym c.self.view_is, c.set_fate.ensures)
    (gives_back _ c.args.pass c.args.rec c.args.epoch c.args.found c.pass_state.result (pass_in _ _ c.self.view_is _ _ c.pass_state.ensures)
    (subst (IsOutOfReach c.pass_state.result c.args.epoch) long (c.is_unreachable.ensures.0 c.if-not-is_unreachable.false)) (c.has_state_word.ensures.0 c.if-not-has_state_word.false) (c.is_marked.ensures.0 c.if-is_marked.true))

pub returns-else-is_marked : goal.returns-else-is_marked
returns-else-is_marked c =
    let long : c.len.result ≡ length c.self.inside.passes.items = omega (arith, c.len.ensures, c.self.inside.passes.ok.0) in
    rw (sym c.self.view_is)
    (keeps_back _ c.args.pass c.args.rec c.args.epoch c.args.found c.pass_state.result (pass_in _ _ c.self.view_is _ _ c.pass_state.ensures)
    (subst (IsOutOfReach c.pass_state.result c.args.epoch) long (c.is_unreachable.ensures.0 c.if-not-is_unreachable.false)) (c.has_state_word.ensures.0 c.if-not-has_state_word.false)
    (λ h. let x = c.is_marked.ensures.1 h in let y = c.if-is_marked.false in cc))

pub returns-then-not-has_state_word : goal.returns-then-not-has_state_word
returns-then-not-has_state_word c = rw (sym c.self.view_is) (
  refl,
  λ core lawful h legal.
      no_state _ c.args.rec c.args.found (λ has. absurd (let x = c.has_state_word.ensures.1 has in let y = c.if-not-has_state_word.true in cc)) core lawful h (legal.0, legal.1),
)
