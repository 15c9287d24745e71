-- Parts of a head's words.
use Rattle.std.specs.Prelude.{ℕ, ◌≡◌, ◌≢◌, List, drop, length, slice_index, take}
use Rattle.compound_node.specs.Nodes.{HeadView, IsLawfulNode, NodeView, head_of}
use Rattle.record_words.specs.Kinds.{first_byte, kind_of}
use Rattle.record_words.specs.Node.{HasHeadWords, head_words}
use Rattle.record_words.specs.declared.kind.HeadKind.{HeadKind}
use Rattle.record_words.specs.declared.kind.HeadKind.TheVariants.{Wide}
use Rattle.record_words.specs.declared.numbers.HeadNumbers.{HeadNumbers}
use Rattle.record_words.specs.declared.TheConstants.{FIRST_ROWS, MIDDLE_HEAD_WORDS, NARROW_HEAD_WORDS}

-- the head is that of some lawful node, and its columns take this kind
abbrev pub HasHeadOf : HeadKind → HeadView → Type 0
HasHeadOf kind head = HasHeadWords head × (kind_of head.columns ≡ kind)

-- `IsSo` holds of each lawful node whose head is of this kind and has the words `words` in the part `part`
abbrev pub InNodesOfKind : (kind : HeadKind) → (part : HeadView → List ℕ) → (words : List ℕ) → (IsSo : NodeView → Type 0) → Type 0
InNodesOfKind kind part words IsSo = (node : NodeView) → IsLawfulNode node → kind_of node.columns ≡ kind → part (head_of node) ≡ words → IsSo node

-- the words of a wide head that have its numbers and positions
abbrev pub front_words : HeadView → List ℕ
front_words head = take FIRST_ROWS (head_words head)

-- the words of a wide head that have its rows
abbrev pub back_words : HeadView → List ℕ
back_words head = drop FIRST_ROWS (head_words head)

-- the words of a narrow head without the unused ones
abbrev pub narrow_words : HeadView → List ℕ
narrow_words head = take NARROW_HEAD_WORDS (head_words head)

-- the words of a middle head without the unused ones
abbrev pub middle_words : HeadView → List ℕ
middle_words head = take MIDDLE_HEAD_WORDS (head_words head)

-- The numbers are those that the first word of the node's head tells. The first byte is told only by a narrow or middle head.
pub record AreNumbersOf (numbers : HeadNumbers) (node : NodeView) : Type 0 where
  pub count_is : numbers.count ≡ length node.entries
  pub columns_are : numbers.columns ≡ length node.columns
  pub height_is : numbers.height ≡ node.height
  pub kind_is : numbers.kind ≡ kind_of node.columns
  pub first_is : numbers.kind ≢ Wide → numbers.first_byte ≡ first_byte node.columns

-- `IsSo` holds of each lawful node whose head has these numbers, and the word `word` at this index
abbrev pub InNodesWith : HeadNumbers → (index word : ℕ) → (NodeView → Type 0) → Type 0
InNodesWith numbers index word IsSo =
    (node : NodeView) → IsLawfulNode node → AreNumbersOf numbers node → slice_index (head_words (head_of node)) index ≡ word → IsSo node
