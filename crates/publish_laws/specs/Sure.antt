-- What a pass is sure of on its descent below a lock.
use Rattle.std.specs.Prelude.{◌≢◌, ℕ, List}
use Rattle.record_words.specs.Leaf.{HasLeafWords}
use Rattle.tries.specs.Keys.{bit, AgreeBelow}
use Rattle.tries.specs.Search.{seek}
use Rattle.versions.specs.Trades.{IsOneOf}
use Rattle.version_laws.specs.Ways.{IsWayFrom}
use Rattle.version_laws.specs.Writer.{Newcomer}
use Rattle.rowex_core.specs.declared.known.Known.{Known}
use Rattle.rowex_core.specs.declared.known.Locked.{Locked}
use Rattle.rowex_core.specs.Reading.{node_words_of}
use Rattle.publish_laws.specs.Stages.{IsSure}
use Rattle.rowex_core.specs.Knowing.{IsPinnedSince}
use Rattle.publish_laws.specs.Rises.{HasFoundBelow}

-- A search went on from a locked node's entry on the key's path, and ended at a leaf. That leaf's key and the newcomer's first differ at
-- the newcomer's position. Then the pass knows what an insertion needs of the path below the node (`HasFoundBelow`).
abbrev pub DescentFinds : Type 0
DescentFinds =
    (known : Known) (held : List Locked) (newcomer : Newcomer) (node : ℕ) (words : List ℕ) → HasLeafWords (newcomer.item.key, newcomer.item.value) →
    -- the pin is no later than the newcomer's version, and the node is locked
    IsPinnedSince known newcomer.since →
    IsOneOf (record { node = node; words = words }) held →
    -- the search below the node ended at a leaf with the key `newcomer.like`
    IsSure known (λ past. IsWayFrom past newcomer.since newcomer.like (seek newcomer.item.key (node_words_of words).subtrie)) →
    -- the two keys first differ at the newcomer's position
    AgreeBelow newcomer.mismatch newcomer.item.key newcomer.like → bit newcomer.item.key newcomer.mismatch ≢ bit newcomer.like newcomer.mismatch →
    HasFoundBelow known held newcomer node words
