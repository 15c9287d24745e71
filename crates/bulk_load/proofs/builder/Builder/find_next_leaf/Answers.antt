-- Each fault comes where its clause says.
use Rattle.std.proofs.Common.{arith, rules}
use Rattle.std.proofs.lemmas.Result.{err_from_is_err_and}
use Rattle.bulk_load.proofs.Views.{taken_if_used}
use Rattle.bulk_load.proofs.Loading.{falls, rises}
use Rattle.bulk_load.proofs.builder.Builder.find_next_leaf.Goals as goal

pub returns-in_err-fork_position-clause-rising : goal.returns-in_err-fork_position-clause-rising
returns-in_err-fork_position-clause-rising c = λ xs w.
    let p = err_from_is_err_and c.from_residual.result c.from_residual.ensures.1 in let f = c.in_err-fork_position.ensures.fault in
    rw (p.1, p.2) (λ e. falls c.args.self.now xs c.args.key.now w f.1 f.2, λ low. (let z = f.0 in cc))

pub returns-in_default-clause-rising : goal.returns-in_default-clause-rising
returns-in_default-clause-rising c = λ xs w. (λ e above. (cc), λ low. absurd (low (rises c.args.self.now xs c.args.key.now w c.in_ok-fork_position.ensures.above)))

pub returns-in_default-clause-leaves : goal.returns-in_default-clause-leaves
returns-in_default-clause-leaves c = λ xs w e n low room.
    taken_if_used c.args.self.now xs n w.1 low (c.in_default.ensures.none w.0 (search rules) n low (omega (arith, room, c.count_leaf_words.ensures.words)))

pub returns-then-not-has_nodes-clause-rising : goal.returns-then-not-has_nodes-clause-rising
returns-then-not-has_nodes-clause-rising c = λ xs w. (λ e above. (cc), λ low. absurd (low (rises c.args.self.now xs c.args.key.now w c.in_ok-fork_position.ensures.above)))

pub returns-clause-rising : goal.returns-clause-rising
returns-clause-rising c = λ xs w. (λ e above. (cc), λ low. absurd (low (rises c.args.self.now xs c.args.key.now w c.in_ok-fork_position.ensures.above)))
