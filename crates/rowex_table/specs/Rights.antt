-- What a pass has to know for a step that not every pass may make.
use Rattle.std.specs.Prelude.{◌≡◌, ℕ, List, length, Contains}
use Rattle.record_words.specs.declared.layout.Layout.{Layout}
use Rattle.record_words.specs.declared.state.Tag.TheVariants.{Live}
use Rattle.record_words.specs.State.{state_word}
use Rattle.record_words.specs.declared.records.Rec.{Rec}
use Rattle.record_words.specs.declared.records.Rec.TheVariants.{Node as a_node}
use Rattle.rowex_core.specs.declared.event.Target.{Target}
use Rattle.rowex_core.specs.declared.event.Target.TheVariants.{Anchor, Node as NodeTarget}
use Rattle.rowex_core.specs.declared.known.Holding.{Holding}
use Rattle.rowex_core.specs.declared.known.Holding.TheVariants.{Held}
use Rattle.rowex_core.specs.declared.known.Known.{Known}
use Rattle.rowex_core.specs.Cores.{Core, IsLawful, word_count_of}
use Rattle.rowex_core.specs.Words.{state_at}
use Rattle.rowex_core.specs.Events.{IsInTree}
use Rattle.rowex_core.specs.Knowing.{Knows}

-- The record is one of the pass's own. It is held as `holding` says, and the pass knows it to have these words, without its state.
abbrev pub OwnsAs : (known : Known) → (rec : Rec) → (holding : Holding) → (words : List ℕ) → Type 0
OwnsAs known rec holding words = Contains known.own (record { rec = rec; holding = holding; words = words })

-- The pass has claimed the record, has not made it ready, and knows all its words.
abbrev pub IsClaimed : Known → Rec → Type 0
IsClaimed known rec = (words : List ℕ) × (length words ≡ word_count_of rec) × OwnsAs known rec Held words

-- The pass may try to lock the target. It always may for the anchor. For a node this must follow from what it knows: if the node's state
-- word says live, the node is in the tree. A node that is ready, and not linked yet, has that state word, too.
abbrev pub MayLock : (layout : Layout) → (target : Target) → (known : Known) → Type 0
MayLock layout Anchor known = Unit {0}
MayLock layout (NodeTarget number) known =
    (core : Core) → IsLawful core → core.layout ≡ layout → Knows core known → state_at core (a_node number) ≡ state_word Live → IsInTree core number
