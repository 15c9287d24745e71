-- Why `fill_together` meets its contract.
use Rattle.std.proofs.Common.{[], ◌∷◌, ◌∙◌}
use Rattle.finite_map.specs.declared.Call.TheVariants.{Insert}
use Rattle.hot_example.proofs.Ended.{have_ended}
use Rattle.hot_example.proofs.fill_together.Goals as goal

pub returns : goal.returns
returns g c =
    let both = c.join-first in
    have_ended c.args.handles.0.index (Insert c.args.ash.now 1 ∷ Insert c.args.oak.now 2 ∷ []) (Insert c.args.oak.now 3 ∷ Insert c.args.yew.now 4 ∷ [])
    both.result.0 both.result.1 c.meet.result.0 c.meet.result.1
    both.ensures.first.0 (both.ensures.second.0 ∙ c.requires.index) c.requires.alone
    (both.ensures.first.1 0 c.requires.first) (both.ensures.second.1 1 c.requires.second)
    c.meet.ensures.shown c.meet.ensures.traces c.meet.ensures.rest
