-- What stays true in the loop of `write_sections`.
use Rattle.hot_scripts.proofs.Common.{take, flat_map, Appends}
use Rattle.hot_scripts.proofs.streams.write_sections.Given as goal

abbrev pub invariant-loop-text : goal.invariant-loop-text
invariant-loop-text g l = Appends (g.W.Write.contents l.fn.writer) (g.W.Write.contents l.writer) (flat_map (λ t. t.items) (take l.text-index l.texts))
