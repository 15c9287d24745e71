-- The fork's tree tells what it owes.
use Rattle.rowex_writing.proofs.Common.{subst, piece, IsCutOf, Two}
use Rattle.rowex_writing.specs.build.Remaking.{subtrie_with_fork}
use Rattle.rowex_writing.proofs.build.remaking.Remaking.{grown_low, fits_fork, fork_low}
use Rattle.rowex_writing.proofs.build.remaking.cut_with_fork.Goals as goal

pub pull_up_full-requires-clause-path : goal.pull_up_full-requires-clause-path
pull_up_full-requires-clause-path c = (fits_fork c.args.fork.now c.search-slot.result (piece c.args.node.now) c.search-slot.ensures.leads c.requires.tree).path

pub pull_up_full-requires-clause-position : goal.pull_up_full-requires-clause-position
pull_up_full-requires-clause-position c = (fits_fork c.args.fork.now c.search-slot.result (piece c.args.node.now) c.search-slot.ensures.leads c.requires.tree).position

pub pull_up_full-requires-clause-zero : goal.pull_up_full-requires-clause-zero
pull_up_full-requires-clause-zero c = (fits_fork c.args.fork.now c.search-slot.result (piece c.args.node.now) c.search-slot.ensures.leads c.requires.tree).zero

pub pull_up_full-requires-clause-one : goal.pull_up_full-requires-clause-one
pull_up_full-requires-clause-one c = (fits_fork c.args.fork.now c.search-slot.result (piece c.args.node.now) c.search-slot.ensures.leads c.requires.tree).one

pub returns-clause-shows : goal.returns-clause-shows
returns-clause-shows c = subst (IsCutOf c.args.node.now c.pull_up_full.result) (fits_fork c.args.fork.now c.search-slot.result (piece c.args.node.now) c.search-slot.ensures.leads c.requires.tree).makes c.pull_up_full.ensures.shows

pub returns-clause-low : goal.returns-clause-low
returns-clause-low c =
    let v = c.args.node.now in
    grown_low c.args.node.now (Two c.pull_up_full.result) (subtrie_with_fork c.args.fork.now (piece v)) v.height (returns-clause-shows c)
    (fork_low c.args.fork.now v c.count.ensures.lawful c.requires.zero c.requires.one)
