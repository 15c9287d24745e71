-- The changes so far are legal.
use Rattle.plain_index.proofs.Common.{take, LegalFront}
use Rattle.plain_index.proofs.histories.is_legal_front.Given as goal

abbrev pub invariant-loop-i : goal.invariant-loop-i
invariant-loop-i l = LegalFront (take l.i l.front)
