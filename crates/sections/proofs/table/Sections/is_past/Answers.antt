-- The words, one after the other.
use Rattle.std.proofs.Common.{rules, arith}
use Rattle.sections.proofs.Runs.Past.{looked_more, looked_none, looks_on}
use Rattle.sections.proofs.table.Sections.is_past.Goals as goal

pub loop-of-init : goal.loop-of-init
loop-of-init c = looked_none c.args.moment c.load_extent-extent.result c.args.section.now c.load_moments.new.section c.load_extent-extent.new.section c.load_moments.ensures.looks (omega arith) c.load_extent-extent.ensures.looks c.load_extent-extent.ensures.beyond

pub loop-of-preserved : goal.loop-of-preserved
loop-of-preserved c = looked_more c.args.moment c.loop-of.of c.load_extent-extent.result c.load_word-word.result c.args.section.now c.loop-of.section c.load_word-word.new.section
    c.loop-of.invariant c.load_word-word.ensures.looks c.load_word-word.ensures.found (c.is_newer.ensures.newer (search rules))

pub returns-then-not-is_newer-clause-looks : goal.returns-then-not-is_newer-clause-looks
returns-then-not-is_newer-clause-looks c = looks_on _ _ _ c.loop-of.invariant.looks c.load_word-word.ensures.looks
