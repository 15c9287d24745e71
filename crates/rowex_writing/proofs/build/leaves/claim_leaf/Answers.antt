-- A later record is claimed, or one before those that were passed by, or none was free.
use Rattle.rowex_writing.proofs.Common.{◌≡◌, ℕ, ◌+◌, ◌-◌, ◌*◌, ◌<◌, ◌≤◌, ap, subst, ◌∙◌, arith, Layout, leaf_size, a_leaf, IsAnothersTo, missed_before, more_since}
use Rattle.rowex_writing.specs.build.Classes.{AllMissedBetween}
use Rattle.rowex_writing.proofs.build.Classes.{missed_all}
use Rattle.rowex_writing.proofs.locks.Going.{goes_more, seat_of}
use Rattle.rowex_writing.proofs.build.Building.{steps_rise}
use Rattle.rowex_writing.proofs.build.leaves.claim_leaf.Goals as goal

-- the steps of the claims of the later records, and of all
few_later : (j k from all leaves : ℕ) → all ≡ leaves → j ≤ k + 4 * (all - from) → j ≤ k + 4 * leaves
few_later j k from all leaves same few = omega arith

few_all : (i j k first from all leaves : ℕ) → all ≡ leaves → first ≤ from → from ≤ all → j ≤ k + 4 * (all - from) → i ≤ j + 4 * (from - first) → i ≤ k + 4 * leaves
few_all i j k first from all leaves same low high few more = omega arith

pub claim_leaf_between-requires-2-clause-own : goal.claim_leaf_between-requires-2-clause-own
claim_leaf_between-requires-2-clause-own g c = seat_of c.args.table.now g.G.Gate.becomes (c.args.seat.now, c.args.gate.now) (c.claim_leaf_between.new.seat, c.claim_leaf_between.new.gate) c.claim_leaf_between.ensures.goes c.requires.own

pub returns-in_err-number-clause-goes : goal.returns-in_err-number-clause-goes
returns-in_err-number-clause-goes g c = goes_more c.args.table.now g.G.Gate.becomes _ _ _ c.claim_leaf_between.ensures.goes c.claim_leaf_between-2.ensures.goes

pub returns-in_err-number-clause-claims : goal.returns-in_err-number-clause-claims
returns-in_err-number-clause-claims g c =
    let table = c.args.table.now in
    let at = c.layout-layout.ensures in
    let since = c.args.seat.now.known.steps in
    let goes = c.claim_leaf_between.ensures.goes in
    let late = steps_rise table g.G.Gate.becomes goes.acts (c.args.seat.now, c.args.gate.now) (c.claim_leaf_between.new.seat, c.claim_leaf_between.new.gate) goes.steps in
    let later =
    subst (λ (z : Layout). AllMissedBetween (IsAnothersTo table.layout c.args.seat.now.known) table.layout c.args.seat.now.bounds c.skip_classes-from.result z.leaves c.claim_leaf_between.new.seat.known.failed since) at c.in_default.ensures.claims.1 in
    rw c.from_residual.ensures (
      c.in_err-number.ensures.claims.0 ∙ c.in_default.ensures.claims.0,
      missed_all table g.G.Gate.becomes (IsAnothersTo table.layout c.args.seat.now.known) c.args.words c.first_leaf_with-first.result c.skip_classes-from.result since c.args.seat.now c.args.gate.now
          (c.claim_leaf_between.new.seat, c.claim_leaf_between.new.gate) (c.claim_leaf_between-2.new.seat, c.claim_leaf_between-2.new.gate) late goes c.claim_leaf_between-2.ensures.goes c.skip_classes-from.ensures.0
          (λ q low. subst (λ (z : Layout). leaf_size z q < c.args.words) at (c.first_leaf_with-first.ensures.below q low))
          (λ q low. subst (λ (z : Layout). c.args.words ≤ leaf_size z q) at (c.first_leaf_with-first.ensures.from c.requires.words q low)) later
          (λ q low high committed. missed_before table.layout c.args.seat.now.known c.claim_leaf_between.new.seat.known c.claim_leaf_between-2.new.seat.known.failed (a_leaf q) c.claim_leaf_between.new.seat.known.steps
          goes.stays.0.pass c.in_default.ensures.claims.0 goes.stays.1 (c.in_err-number.ensures.claims.1 q low high committed)),
    )

pub returns-clause-goes : goal.returns-clause-goes
returns-clause-goes g c = goes_more c.args.table.now g.G.Gate.becomes _ _ _ c.claim_leaf_between.ensures.goes c.claim_leaf_between-2.ensures.goes

pub returns-in-Some-clause-few : goal.returns-in-Some-clause-few
returns-in-Some-clause-few g c =
    few_later _ _ c.skip_classes-from.result c.layout-layout.result.leaves _ (ap (λ (z : Layout). z.leaves) c.layout-layout.ensures) c.in-Some.ensures.few

pub returns-in_err-number-clause-few : goal.returns-in_err-number-clause-few
returns-in_err-number-clause-few g c =
    few_all _ _ _ c.first_leaf_with-first.result c.skip_classes-from.result c.layout-layout.result.leaves _ (ap (λ (z : Layout). z.leaves) c.layout-layout.ensures) c.skip_classes-from.ensures.0 c.skip_classes-from.ensures.1 c.in_default.ensures.few c.in_err-number.ensures.few

pub returns-clause-claims : goal.returns-clause-claims
returns-clause-claims g c =
    let all : c.layout-layout.result.leaves ≡ c.args.table.now.layout.leaves = ap (λ (z : Layout). z.leaves) c.layout-layout.ensures in
    let (low, high, holds) = c.in_ok-number.ensures.claims in (
      omega (arith, all, high, c.skip_classes-from.ensures.1),
      subst (λ (z : Layout). c.args.words ≤ leaf_size z c.in_ok-number.number) c.layout-layout.ensures (c.first_leaf_with-first.ensures.from c.requires.words c.in_ok-number.number low),
      more_since (a_leaf c.in_ok-number.number) c.args.seat.now.known c.claim_leaf_between.new.seat.known c.claim_leaf_between-2.new.seat.known c.in_default.ensures.claims.0 holds,
    )

pub returns-clause-few : goal.returns-clause-few
returns-clause-few g c =
    few_all _ _ _ c.first_leaf_with-first.result c.skip_classes-from.result c.layout-layout.result.leaves _ (ap (λ (z : Layout). z.leaves) c.layout-layout.ensures) c.skip_classes-from.ensures.0 c.skip_classes-from.ensures.1 c.in_default.ensures.few c.in_ok-number.ensures.few
