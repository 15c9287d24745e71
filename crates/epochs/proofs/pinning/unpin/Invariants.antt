-- The notes are the caller's.
use Rattle.epochs.proofs.pinning.unpin.Given as goal

abbrev pub ghost-clear_pin : goal.ghost-clear_pin
ghost-clear_pin g a = g.said
