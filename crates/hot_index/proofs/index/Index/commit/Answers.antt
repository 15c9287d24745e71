-- What the exchange leaves is what the pass knows.
use Rattle.hot_index.proofs.Common.{◌≡◌, ◌≢◌, ◌-◌, subst, arith, rules, PassView, pass_of}
use Rattle.hot_index.specs.Committing.{KnowsUncommitted, HasFallen}
use Rattle.hot_index.proofs.Committed.{fewer_than_found, found_bounds, found_then_left}
use Rattle.hot_index.proofs.index.Index.commit.Goals as goal

pub returns-then-seen-found-clause-found : goal.returns-then-seen-found-clause-found
returns-then-seen-found-clause-found c =
    subst (λ (p : PassView). KnowsUncommitted c.args.kind c.commit_records-seen.result p (pass_of c.commit_records-seen.new.seat)) c.pass.view_is
    (found_then_left c.args.kind c.number-kind.result c.load_uncommitted-found.result c.commit_records-seen.result c.pass.inside.seat c.load_uncommitted-found.new.seat c.commit_records-seen.new.seat
    c.number-kind.ensures.number c.load_uncommitted-found.ensures.seat c.load_uncommitted-found.ensures.few (search rules) c.commit_records-seen.ensures.few)

pub returns-clause-found : goal.returns-clause-found
returns-clause-found c =
    let left = c.saturating_sub-left.result in
    subst (λ (p : PassView). KnowsUncommitted c.args.kind left p (pass_of c.commit_records-seen.new.seat)) c.pass.view_is
    (found_then_left c.args.kind c.number-kind.result c.load_uncommitted-found.result left c.pass.inside.seat c.load_uncommitted-found.new.seat c.commit_records-seen.new.seat
    c.number-kind.ensures.number c.load_uncommitted-found.ensures.seat c.load_uncommitted-found.ensures.few (search rules) (search rules))

pub returns-then-seen-found-clause-falls : goal.returns-then-seen-found-clause-falls
returns-then-seen-found-clause-falls c = λ some.
    let number = c.number-kind.result in let found = c.load_uncommitted-found.result in let seen = c.commit_records-seen.result in
    let other : seen ≢ found = search rules in
    let few = c.commit_records-seen.ensures.few in
    let at_most = found_bounds number found c.pass.inside.seat c.load_uncommitted-found.new.seat c.load_uncommitted-found.ensures.seat in
    subst (λ (p : PassView). HasFallen c.args.kind seen p) c.pass.view_is
    (fewer_than_found c.args.kind number found seen c.pass.inside.seat c.number-kind.ensures.number c.load_uncommitted-found.ensures.few (λ any. omega (arith, other, few, at_most)))

pub returns-clause-falls : goal.returns-clause-falls
returns-clause-falls c = λ some.
    let found = c.load_uncommitted-found.result in let left = c.saturating_sub-left.result in
    let is : left ≡ found - c.args.count = search rules in
    subst (λ (p : PassView). HasFallen c.args.kind left p) c.pass.view_is
    (fewer_than_found c.args.kind c.number-kind.result found left c.pass.inside.seat c.number-kind.ensures.number c.load_uncommitted-found.ensures.few (λ any. omega (arith, is, some, any)))
