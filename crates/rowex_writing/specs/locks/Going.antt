-- Which steps a pass makes under its locks, and what it keeps meanwhile.
use Rattle.std.specs.Prelude.{◌≡◌, ℕ, List, All}
use Rattle.compound_node.specs.Nodes.{NodeView, head_of, piece}
use Rattle.record_words.specs.Node.{HasNodeWords, node_words}
use Rattle.tries.specs.Keys.{Key}
use Rattle.tries.specs.Place.{spot}
use Rattle.versions.specs.Trades.{IsOneOf}
use Rattle.rowex_core.specs.Reading.{node_words_of}
use Rattle.rowex_core.specs.declared.event.Act.{Act}
use Rattle.rowex_core.specs.declared.event.Act.TheVariants.{GiveBack, Lock}
use Rattle.rowex_core.specs.declared.event.Event.{Event}
use Rattle.rowex_core.specs.declared.known.Known.{Known}
use Rattle.rowex_table.specs.Runs.{Runs}
use Rattle.rowex_table.specs.Seats.{TableView, SeatView}
use Rattle.rowex_table.specs.Stays.{KeepsRecall}
use Rattle.publish_laws.specs.Loops.{StaysLocked}

-- The step is no try of a lock, no publish, no bulk load and no return of a record. It neither sets nor clears the pin of its pass.
abbrev pub IsStepUnderLocks : Act → Type 0
IsStepUnderLocks (Lock target found) = ⊥
IsStepUnderLocks (GiveBack rec epoch found) = ⊥
IsStepUnderLocks act = KeepsRecall act

-- The pass makes steps that try no lock, publish nothing and give no record back (`IsStepUnderLocks`), and the gate is told each. It keeps
-- its pin, its facts, its locks and the values that it had loaded.
pub record WorksOn {G : Type 0} (table : TableView) (becomes : G → Event → G → Type 0) (old new : SeatView × G) : Type 0 where
  pub acts : List Act
  pub plain : All IsStepUnderLocks acts
  pub steps : Runs table becomes acts old new
  pub stays : StaysLocked old.0.known new.0.known

-- The pass makes steps that try no lock, publish nothing and give no record back (`IsStepUnderLocks`), and the gate is told each. It keeps
-- its pin, its facts, its locks, the values that it had loaded, and its own records.
pub record WorksOnKeepingRecords {G : Type 0} (table : TableView) (becomes : G → Event → G → Type 0) (old new : SeatView × G) : Type 0 where
  pub goes : WorksOn table becomes old new
  pub own : new.0.known.own ≡ old.0.known.own

-- the pass has locked node `number`, and knows that these are the node's words, all but its state
abbrev pub HasLocked : (known : Known) → (number : ℕ) → (words : List ℕ) → Type 0
HasLocked known number words = IsOneOf (record { node = number; words = words }) known.locks

-- if the pass has locked node `number`, the key's search takes this slot there, by the node's words
abbrev pub LeadsLocked : (known : Known) → (number : ℕ) → (key : Key) → (slot : ℕ) → Type 0
LeadsLocked known number key slot = (words : List ℕ) → HasLocked known number words → spot key (node_words_of words).subtrie ≡ slot

-- the pass has locked node `number`
abbrev pub IsLockedBy : (known : Known) → (number : ℕ) → Type 0
IsLockedBy known number = (words : List ℕ) × HasLocked known number words

-- The words are those of the node `view`, whose parts fit into words. Read back, they show its head and its subtrie.
pub record IsNodeOf (words : List ℕ) (view : NodeView) : Type 0 where
  pub has : HasNodeWords view
  pub spells : node_words view ≡ words
  pub shows : node_words_of words ≡ record { fixed = head_of view; subtrie = piece view }

-- the pass has locked node `number`, whose words are those of the node `view`
abbrev pub HasLockedNode : (known : Known) → (number : ℕ) → (view : NodeView) → Type 0
HasLockedNode known number view = (words : List ℕ) × HasLocked known number words × IsNodeOf words view
