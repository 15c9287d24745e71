-- The fork's tree tells what it owes.
use Rattle.rowex_writing.proofs.Common.{subst, IsBuiltFrom, piece}
use Rattle.rowex_writing.specs.build.Remaking.{subtrie_with_fork}
use Rattle.rowex_writing.proofs.build.remaking.Remaking.{built_low, fits_fork, fork_low}
use Rattle.rowex_writing.proofs.build.remaking.add_fork.Goals as goal

pub put_fork-requires-clause-path : goal.put_fork-requires-clause-path
put_fork-requires-clause-path c = (fits_fork c.args.fork.now c.search-slot.result (piece c.args.node.now) c.search-slot.ensures.leads c.requires.tree).path

pub put_fork-requires-clause-position : goal.put_fork-requires-clause-position
put_fork-requires-clause-position c = (fits_fork c.args.fork.now c.search-slot.result (piece c.args.node.now) c.search-slot.ensures.leads c.requires.tree).position

pub put_fork-requires-clause-zero : goal.put_fork-requires-clause-zero
put_fork-requires-clause-zero c = (fits_fork c.args.fork.now c.search-slot.result (piece c.args.node.now) c.search-slot.ensures.leads c.requires.tree).zero

pub put_fork-requires-clause-one : goal.put_fork-requires-clause-one
put_fork-requires-clause-one c = (fits_fork c.args.fork.now c.search-slot.result (piece c.args.node.now) c.search-slot.ensures.leads c.requires.tree).one

pub returns-clause-shows : goal.returns-clause-shows
returns-clause-shows c = subst (IsBuiltFrom c.put_fork.new.node) (fits_fork c.args.fork.now c.search-slot.result (piece c.args.node.now) c.search-slot.ensures.leads c.requires.tree).makes c.put_fork.ensures

pub returns-clause-low : goal.returns-clause-low
returns-clause-low c =
    let v = c.args.node.now in
    built_low c.put_fork.new.node (subtrie_with_fork c.args.fork.now (piece v)) v.height (returns-clause-shows c)
    (fork_low c.args.fork.now v c.count.ensures.lawful c.requires.zero c.requires.one)
