-- At last one piece is left.
use Rattle.std.proofs.Common.{refl, ◌∙◌, arith}
use Rattle.bulk_load.proofs.Stacks.Joining.{alone}
use Rattle.bulk_load.proofs.builder.Builder.join_all.Goals as goal

pub joins-init : goal.joins-init
joins-init c = record { stack = λ xs s. s; layout = refl }

pub join_last-requires-clause-stack : goal.join_last-requires-clause-stack
join_last-requires-clause-stack c = let (xs, s) = c.requires in (xs, c.joins.invariant.stack xs s)

pub joins-preserved : goal.joins-preserved
joins-preserved c = record {
  stack = λ xs s. (c.join_last.ensures.joined xs (c.joins.invariant.stack xs s)).stack;
  layout = c.join_last.ensures.kept.leaves.layout ∙ c.joins.invariant.layout;
}

pub returns-clause-alone : goal.returns-clause-alone
returns-clause-alone c = λ xs s. alone c.joins.self xs (c.joins.invariant.stack xs s) (omega (arith, c.joins.self.pieces.ok.0, c.len.ensures, c.joins-test.false))
