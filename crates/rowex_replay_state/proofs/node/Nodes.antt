-- A node against its words.
use Rattle.rowex_replay_state.proofs.Common.{ℕ, ◌≡◌, List, Ok, Err, take, drop, sym, ap, ◌∙◌, IsErr, ArrayVec, Entry, NodeView, IsNode, node_from, WordFault, Bad, HasNodeWords, HaveEntryWords, InNodesOf, entry_words, node_words, IsReading}
use Rattle.std.specs.Prelude.{Result}
use Rattle.record_words.proofs.Nodes.{entry_part, head_part}
use Rattle.rowex_replay_state.proofs.node.Heads.{AreReadOf, is_node_of, node_is}
use Rattle.rowex_replay_state.proofs.leaf.Readings.{reads_none, reads_one, reads_fault}

-- the second part has no entries
pub entries_unread : (fault : WordFault) (answer : Result NodeView WordFault) (words : List ℕ) → IsReading {E = WordFault} (λ (list : ArrayVec Entry). HaveEntryWords list.items) (λ list. entry_words list.items) (take 32 (drop 25 words)) (Err fault) → IsErr answer → IsReading HasNodeWords node_words words answer
entries_unread fault answer words reading wrong = reads_fault answer wrong (λ node has same.
    let read : ◌≡◌ {A = Result (ArrayVec Entry) WordFault} (Err fault) (Ok (record { items = node.entries })) = reading.read (record { items = node.entries }) has.entries (entry_part node words same) in
    cc)

-- both parts have been read
module _ (count height : ℕ) (columns rows : List ℕ) (entries : ArrayVec Entry) (words : List ℕ) (read : InNodesOf (take 25 words) (AreReadOf count height columns rows))
    (entries_read : IsReading {E = WordFault} (λ (list : ArrayVec Entry). HaveEntryWords list.items) (λ list. entry_words list.items) (take 32 (drop 25 words)) (Ok entries)) where
  entries_are : (node : NodeView) → HasNodeWords node → node_words node ≡ words → entries.items ≡ node.entries
  entries_are node has same =
      let answer : ◌≡◌ {A = Result (ArrayVec Entry) WordFault} (Ok entries) (Ok (record { items = node.entries })) = entries_read.read (record { items = node.entries }) has.entries (entry_part node words same) in
      let list : ◌≡◌ {A = ArrayVec Entry} entries (record { items = node.entries }) = cc in
      ap (λ (list : ArrayVec Entry). list.items) list

  read_of_node : (node : NodeView) → HasNodeWords node → node_words node ≡ words → AreReadOf count height columns rows node
  read_of_node node has same = read node has.lawful (head_part node words same)

  -- they are of no node
  pub no_node : ¬ IsNode height columns rows entries.items → IsReading HasNodeWords node_words words (Err Bad)
  no_node none = reads_none {IsValue = HasNodeWords} Bad (λ node has same.
      none (is_node_of count height columns rows node has.lawful (read_of_node node has same) entries.items (entries_are node has same)))

  module _ (node : NodeView) (same_node : node ≡ node_from height columns rows entries.items) where
    is_of : (other : NodeView) → HasNodeWords other → node_words other ≡ words → node ≡ other
    is_of other has same = same_node ∙ node_is count height columns rows other has.lawful (read_of_node other has same) entries.items (entries_are other has same)

    -- they are of a node with other words
    pub other_node : ¬ (node_words node ≡ words) → IsReading HasNodeWords node_words words (Err Bad)
    other_node apart = reads_none {IsValue = HasNodeWords} Bad (λ other has same. apart (ap node_words (is_of other has same) ∙ same))

    -- they are of the one with these
    pub node_read : HasNodeWords node → node_words node ≡ words → IsReading {E = WordFault} HasNodeWords node_words words (Ok node)
    node_read has same = reads_one node has same (λ other other_has other_same. is_of other other_has other_same)
