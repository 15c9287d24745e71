-- The lowest node, and then the way up.
use Rattle.rowex_writing.proofs.Common.{◌-◌, ◌<◌, sym, subst, arith, rules, slice_get_within, IsOneOf}
use Rattle.rowex_writing.specs.build.Building.{HasRisenTo, gone_unless_whole, gone_with_way, newcomer_of}
use Rattle.rowex_writing.proofs.build.rising.Rising.{low_at, number_is, up_first}
use Rattle.rowex_writing.proofs.build.Walks.{makes_as, makes_failed, makes_then, makes_within}
use Rattle.rowex_writing.proofs.build.rising.raise_with_leaf.Goals as goal

pub offset_bounds-way-lowest : goal.offset_bounds-way-lowest
offset_bounds-way-lowest g c = let h = slice_get_within c.args.job.now.way.now (c.args.job.now.span.len - 1) c.requires.growing.step c.requires.growing.at in search (rules, h)

pub raise_lowest_node_with_leaf-requires-clause-range : goal.raise_lowest_node_with_leaf-requires-clause-range
raise_lowest_node_with_leaf-requires-clause-range g c =
    subst (λ n. n < c.args.table.now.layout.nodes) (sym (number_is c.requires.growing)) c.requires.growing.low

pub raise_lowest_node_with_leaf-requires-clause-lowest : goal.raise_lowest_node_with_leaf-requires-clause-lowest
raise_lowest_node_with_leaf-requires-clause-lowest g c = low_at c.requires.growing

pub returns-in_err-risen-clause-makes : goal.returns-in_err-risen-clause-makes
returns-in_err-risen-clause-makes g c = rw c.from_residual.ensures (makes_failed (makes_within c.in_err-risen.ensures.makes (omega arith) (omega (arith, c.requires.within))))

pub returns-in_err-risen-clause-made : goal.returns-in_err-risen-clause-made
returns-in_err-risen-clause-made g c = λ b. rw c.from_residual.ensures (c.in_err-risen.ensures.made (low_at b))

pub raise_to_end-requires-clause-up : goal.raise_to_end-requires-clause-up
raise_to_end-requires-clause-up g c =
    let b = c.requires.growing in
    let raising = c.in_ok-risen.ensures.made (low_at b) in
    up_first b c.in_ok-risen.risen c.in_ok-risen.stays
    c.in_ok-risen.ensures.makes.goes.stays.1 raising c.in_ok-risen.ensures.level

pub returns-in_err-entry-clause-makes : goal.returns-in_err-entry-clause-makes
returns-in_err-entry-clause-makes g c = rw c.from_residual-in_err-entry.ensures (makes_failed (makes_then c.in_ok-risen.ensures.makes c.in_err-entry.ensures.makes (omega arith) (omega (arith, c.requires.within))))

pub returns-in_err-entry-clause-made : goal.returns-in_err-entry-clause-made
returns-in_err-entry-clause-made g c = λ b.
    let raising = c.in_ok-risen.ensures.made (low_at b) in
    rw c.from_residual-in_err-entry.ensures
    (c.in_err-entry.ensures.made (up_first b c.in_ok-risen.risen
    c.in_ok-risen.stays c.in_ok-risen.ensures.makes.goes.stays.1 raising c.in_ok-risen.ensures.level))

pub returns-clause-makes : goal.returns-clause-makes
returns-clause-makes g c = makes_as (makes_then c.in_ok-risen.ensures.makes c.in_ok-entry.ensures.makes (omega arith) (omega (arith, c.requires.within)))

pub returns-clause-made : goal.returns-clause-made
returns-clause-made g c = λ b.
    let raising = c.in_ok-risen.ensures.made (low_at b) in
    subst (λ n. HasRisenTo c.args.table.now c.raise_to_end.new.seat c.raise_to_end.new.build.made.items c.args.job.now.way.now (newcomer_of b.lowest) c.args.job.now.span.end (gone_with_way c.args.job.now.way.now c.args.job.now.span.end (c.args.job.now.span.len - 1) (gone_unless_whole c.in_ok-risen.stays n)) c.in_ok-entry.entry)
    (number_is b)
    (c.in_ok-entry.ensures.made (up_first b c.in_ok-risen.risen
    c.in_ok-risen.stays c.in_ok-risen.ensures.makes.goes.stays.1 raising c.in_ok-risen.ensures.level))

pub returns-clause-low : goal.returns-clause-low
returns-clause-low g c = λ s words at h. c.in_ok-entry.ensures.low s words at (subst (IsOneOf (record { node = s.number; words = words })) (sym c.in_ok-risen.ensures.makes.goes.stays.1) h)
