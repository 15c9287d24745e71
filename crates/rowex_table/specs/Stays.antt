-- What each act leaves its pass of what it knew.
use Rattle.std.specs.Prelude.{◌≡◌, ◌+◌}
use Rattle.rowex_core.specs.declared.event.Act.{Act}
use Rattle.rowex_core.specs.declared.event.Act.TheVariants.{Claim, Fill, Ready, Release, LoadRef, LoadFixed, Lock, Unlock, Publish, Mark, LoadEpoch, SetPin, ClearPin, LoadPin, LoadState, Load}
use Rattle.rowex_core.specs.declared.event.Spot.TheVariants.{Root, Value}
use Rattle.rowex_core.specs.declared.event.Target.TheVariants.{Anchor, Node as NodeTarget}
use Rattle.rowex_core.specs.declared.known.Known.{Known}

-- The act shows its pass no change. Acts that may are a load of the root, an entry, a value or a fixed word, a publish, and a bulk load. A
-- load of a state does not.
abbrev pub LeavesFront : Act → Type 0
LeavesFront (LoadRef spot word) = ⊥
LeavesFront (LoadFixed rec offset word) = ⊥
LeavesFront (Publish spot word) = ⊥
LeavesFront (Load words) = ⊥
LeavesFront act = Unit {0}

-- the act is neither a load of the root nor a bulk load, so its pass keeps what its last load of the root left
abbrev pub LeavesFresh : Act → Type 0
LeavesFresh (LoadRef Root word) = ⊥
LeavesFresh (Load words) = ⊥
LeavesFresh act = Unit {0}

-- The act is no claim, no try of a lock and no load of a state, so its pass's failed acts stay the same. An exchange of the epoch, or one
-- that gives a record back, never counts as failed.
abbrev pub LeavesFailed : Act → Type 0
LeavesFailed (Claim rec found) = ⊥
LeavesFailed (Lock target found) = ⊥
LeavesFailed (LoadState rec word) = ⊥
LeavesFailed act = Unit {0}

-- The act leaves its pass the same records of its own, with their words and the way in which they are held. It is no claim, fill, ready,
-- release, publish or mark.
abbrev pub LeavesOwn : Act → Type 0
LeavesOwn (Claim rec found) = ⊥
LeavesOwn (Fill rec offset word) = ⊥
LeavesOwn (Ready rec) = ⊥
LeavesOwn (Release rec) = ⊥
LeavesOwn (Publish spot word) = ⊥
LeavesOwn (Mark rec epoch) = ⊥
LeavesOwn act = Unit {0}

-- The act leaves its pass the same locks of nodes, with the nodes' words. It neither locks nor unlocks a node, and is no publish: a publish
-- changes a locked node's words, or unlinks locked nodes.
abbrev pub LeavesLocks : Act → Type 0
LeavesLocks (Lock (NodeTarget number) found) = ⊥
LeavesLocks (Unlock (NodeTarget number)) = ⊥
LeavesLocks (Publish spot word) = ⊥
LeavesLocks act = Unit {0}

-- The act leaves its pass what it knows of the anchor's lock and the root's entry. It neither locks nor unlocks the anchor, nor publishes
-- at the root.
abbrev pub LeavesAnchor : Act → Type 0
LeavesAnchor (Lock Anchor found) = ⊥
LeavesAnchor (Unlock Anchor) = ⊥
LeavesAnchor (Publish Root word) = ⊥
LeavesAnchor act = Unit {0}

-- The act leaves its pass the values of leaves that it has loaded. It loads no value, and is none of the acts at which a pass forgets them:
-- a try of a lock, an unlock, a publish, a mark and a bulk load.
abbrev pub LeavesValues : Act → Type 0
LeavesValues (LoadRef (Value leaf) word) = ⊥
LeavesValues (Lock target found) = ⊥
LeavesValues (Unlock target) = ⊥
LeavesValues (Publish spot word) = ⊥
LeavesValues (Mark rec epoch) = ⊥
LeavesValues (Load words) = ⊥
LeavesValues act = Unit {0}

-- the act neither sets nor clears its pass's pin
abbrev pub LeavesPin : Act → Type 0
LeavesPin (SetPin word) = ⊥
LeavesPin ClearPin = ⊥
LeavesPin act = Unit {0}

-- the act leaves its pass what its round has loaded: it loads neither the epoch nor a pin
abbrev pub LeavesRound : Act → Type 0
LeavesRound (LoadEpoch word) = ⊥
LeavesRound (LoadPin other word) = ⊥
LeavesRound act = Unit {0}

-- After this act its pass still knows all that `Recalls` names: the changes seen so far, its facts and its pin. The act is no publish and
-- no bulk load, and neither sets nor clears a pin.
abbrev pub KeepsRecall : Act → Type 0
KeepsRecall (Publish spot word) = ⊥
KeepsRecall (Load words) = ⊥
KeepsRecall (SetPin word) = ⊥
KeepsRecall ClearPin = ⊥
KeepsRecall act = Unit {0}

-- One act, which counts as one step and has no note, has made what a pass knows `after` of `before`. Each part stays as it was, unless the
-- act is of a kind that changes this part. The facts stay where the front does.
pub record IsNext (act : Act) (before after : Known) : Type 0 where
  pub pass : after.pass ≡ before.pass
  pub steps : after.steps ≡ before.steps + 1
  pub notes : after.notes ≡ before.notes
  pub front : LeavesFront act → after.front ≡ before.front
  pub fresh : LeavesFresh act → after.fresh ≡ before.fresh
  pub failed : LeavesFailed act → after.failed ≡ before.failed
  pub own : LeavesOwn act → after.own ≡ before.own
  pub locks : LeavesLocks act → after.locks ≡ before.locks
  pub anchor : LeavesAnchor act → after.anchor ≡ before.anchor
  pub values : LeavesValues act → after.values ≡ before.values
  pub pin : LeavesPin act → after.pin ≡ before.pin
  pub round : LeavesRound act → after.round ≡ before.round
  pub facts : LeavesFront act → after.facts ≡ before.facts
