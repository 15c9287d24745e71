-- The handle's pass has found it.
use Rattle.std.proofs.Common.{refl}
use Rattle.hot_c.proofs.committing.hot_commit.Goals as goal

pub returns-clause-found : goal.returns-clause-found
returns-clause-found c = λ some low. (
  refl,
  record {
    before = _;
    after = _;
    was = c.lend.ensures.value;
    is = refl;
    stays = record { index = c.commit.ensures.found.index; pass = (c.in-Some.kind, c.in-Some.ensures, c.commit.ensures.found.pass) };
    keeps = refl;
  },
)
