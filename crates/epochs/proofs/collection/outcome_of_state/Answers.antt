-- Each obsolete state is read as one, and the free one as free.
use Rattle.epochs.proofs.Common.{sym, ◌∙◌, FreeTag, Obsolete}
use Rattle.epochs.proofs.collection.outcome_of_state.Goals as goal

pub returns-in_default-2-clause-waits : goal.returns-in_default-2-clause-waits
returns-in_default-2-clause-waits c = λ epoch one few is.
    let clash = sym (c.unpack_state.ensures.read (Obsolete epoch) (one, few) (sym is)) ∙ c.in_default.is in
    absurd cc

pub returns-in_default-2-clause-free : goal.returns-in_default-2-clause-free
returns-in_default-2-clause-free c = λ is.
    let clash = sym (c.unpack_state.ensures.read FreeTag tt (sym is)) ∙ c.in_default.is in
    absurd cc
