-- Locks and loads under them, and what a pass recalls after an act.
use Rattle.publish_laws.proofs.Common.{◌≡◌, ◌+◌, subst, ◌∙◌, arith, suc, LoadFixed, a_node, IsEvent, recalls, pin_is, silent}
use Rattle.rowex_core.proofs.Writers.Leading.{led_is_in_tree}
use Rattle.rowex_table.proofs.Made.ActsBefore as before
use Rattle.rowex_table.proofs.Made.ActsLeave as leave
use Rattle.publish_laws.specs.Acts.{LedMayLock, LoadsOfLocked, ActGoesOn}

pub led_may_lock : LedMayLock
led_may_lock layout k since n h (pin, pinned, early) sure c law layout_is known state =
    let (m, u, lo, hi, stands, subtrie_is) = sure c law (recalls c k known) in
    led_is_in_tree c law k.pass pin (pin_is c k known ∙ pinned) n m u (omega arith) hi stands state

pub loads_of_locked : LoadsOfLocked
loads_of_locked layout k j n words has = (
  λ i w e. (before.entry_of_locked layout silent k j n i w words e has).0,
  λ i w e. (before.fixed_of_locked layout silent k j n i w words (let z : i + 1 ≡ suc i = omega arith in subst (λ q. IsEvent layout (LoadFixed (a_node n) q w) silent k j) z e) has).0,
)

pub act_goes_on : ActGoesOn
act_goes_on layout k j act t e = before.recalls_on layout silent k j act t e
