-- The chosen node is one of the way.
use Rattle.std.proofs.Common.{rules}
use Rattle.rowex_writing.proofs.plan.Plans.{chosen_within}
use Rattle.rowex_writing.proofs.plan.plan_beside_entries.Goals as goal

pub overflow_add-len : goal.overflow_add-len
overflow_add-len c = let h = chosen_within c.args.way.now c.args.level c.args.first c.args.last c.choose_case-choice.result c.requires c.choose_case-choice.ensures.chosen in search (rules, h)

pub pull_up_chain_end-requires : goal.pull_up_chain_end-requires
pull_up_chain_end-requires c = chosen_within c.args.way.now c.args.level c.args.first c.args.last c.choose_case-choice.result c.requires c.choose_case-choice.ensures.chosen
