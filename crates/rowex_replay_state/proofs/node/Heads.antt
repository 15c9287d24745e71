-- What is read of the words of a head, by its kind, is its numbers, its columns and its rows; and those are of a head.
use Rattle.rowex_replay_state.proofs.Common.{ℕ, ◌≡◌, ◌+◌, ◌*◌, ◌/◌, ◌%◌, ◌^◌, ◌<◌, ◌≤◌, ◌++◌, ⊎_elim, arith, cond, List, [], ◌∷◌, Ok, Err, below_more, get_or, get_or-set_other, get_or-set_same, length, length-set, nat_lt, set, suc, take, refl, sym, ap, ◌∙◌, ext_get_or, get_or_default, take_all, Entry, HeadView, IsHead, IsLawfulNode, IsNode, NodeView, head_of, node_from, same_count, WordFault, Bad, AreNumbersOf, HasHeadWords, InNodesOf, head_words, position_at, row_at, IsReading, length-with_unused, row_at-with_unused}
use Rattle.std.proofs.Math.Seq.{take-suc}
use Rattle.partial_keys.specs.Rows.{with_unused}
use Rattle.record_words.specs.declared.numbers.HeadNumbers.{HeadNumbers}
use Rattle.record_words.proofs.Heads.{head_used, is_head, is_node, used_rows}
use Rattle.rowex_replay_state.proofs.leaf.Readings.{reads_none, reads_one}

-- ---- the rows so far
abbrev pub AreRowsBelow : List ℕ → HeadNumbers → List ℕ → ℕ → Type 0
AreRowsBelow words numbers rows n = (length rows ≡ 32) × InNodesOf words (λ node. AreNumbersOf numbers node → (k : ℕ) → k < n → get_or rows k 0 ≡ row_at node.rows k)

pub all_rows : (words : List ℕ) (numbers : HeadNumbers) (rows : List ℕ) (n : ℕ) → 32 ≤ n → AreRowsBelow words numbers rows n → InNodesOf words (λ node. AreNumbersOf numbers node → rows ≡ with_unused node.rows)
all_rows words numbers rows n all (long, so_far) = λ node lawful same told.
    ext_get_or 4294967295 rows (with_unused node.rows) (long ∙ sym (length-with_unused node.rows (omega (arith, same_count node lawful, lawful.room))))
    (λ i h. get_or_default rows i 4294967295 0 h ∙ (so_far node lawful same told i (omega (arith, h, long, all)) ∙ sym (row_at-with_unused node.rows i)))

-- ---- what was read, if a node has the words
pub record AreReadOf (count height : ℕ) (columns rows : List ℕ) (node : NodeView) : Type 0 where
  pub count_is : count ≡ length node.rows
  pub height_is : height ≡ node.height
  pub columns_are : columns ≡ node.columns
  pub rows_are : rows ≡ with_unused node.rows

pub read_of : (words : List ℕ) (numbers : HeadNumbers) (columns rows : List ℕ) → ((node : NodeView) → IsLawfulNode node → get_or (head_words (head_of node)) 0 0 ≡ get_or words 0 0 → AreNumbersOf numbers node) →
    InNodesOf words (λ node. AreNumbersOf numbers node → columns ≡ node.columns) → InNodesOf words (λ node. AreNumbersOf numbers node → rows ≡ with_unused node.rows) → InNodesOf words (AreReadOf numbers.count numbers.height columns rows)
read_of words numbers columns rows told columns_are rows_are = λ node lawful same.
    let its = told node lawful (ap (λ ws. get_or ws 0 0) same) in record {
      count_is = its.count_is ∙ sym (same_count node lawful);
      height_is = its.height_is;
      columns_are = columns_are node lawful same its;
      rows_are = rows_are node lawful same its;
    }

module _ (count height : ℕ) (columns rows : List ℕ) (node : NodeView) (lawful : IsLawfulNode node) (read : AreReadOf count height columns rows node) where
  pub is_head_of : IsHead count height columns rows
  is_head_of = rw (read.count_is, read.height_is, read.columns_are, read.rows_are) (is_head node lawful)

  pub head_is : ◌≡◌ {A = HeadView} (record { height = height; columns = columns; rows = take count rows }) (head_of node)
  head_is = rw (read.count_is, read.height_is, read.columns_are, read.rows_are) (head_used node)

  pub is_node_of : (entries : List Entry) → entries ≡ node.entries → IsNode height columns rows entries
  is_node_of entries same = rw (read.height_is, read.columns_are, read.rows_are, same) (is_node node lawful)

  pub node_is : (entries : List Entry) → entries ≡ node.entries → node_from height columns rows entries ≡ node
  node_is entries same = rw (read.height_is, read.columns_are, read.rows_are, same, used_rows node lawful) refl

-- ---- reading a head
module _ (count height : ℕ) (columns rows words : List ℕ) (read : InNodesOf words (AreReadOf count height columns rows)) where
  -- it is of no head
  pub no_head : ¬ IsHead count height columns rows → IsReading HasHeadWords head_words words (Err Bad)
  no_head none = reads_none {IsValue = HasHeadWords} Bad (λ head has same.
      none (is_head_of count height columns rows has.0 has.1 (read has.0 has.1 (ap head_words has.2 ∙ same))))

  module _ (head : HeadView) (same_head : head ≡ record { height = height; columns = columns; rows = take count rows }) where
    is_of : (other : HeadView) → HasHeadWords other → head_words other ≡ words → head ≡ other
    is_of other has same = same_head ∙ (head_is count height columns rows has.0 has.1 (read has.0 has.1 (ap head_words has.2 ∙ same)) ∙ has.2)

    -- it is of a head with other words
    pub other_head : ¬ (head_words head ≡ words) → IsReading HasHeadWords head_words words (Err Bad)
    other_head apart = reads_none {IsValue = HasHeadWords} Bad (λ other has same. apart (ap head_words (is_of other has same) ∙ same))

    -- it is of the one with these
    pub head_read : IsHead count height columns rows → head_words head ≡ words → IsReading {E = WordFault} HasHeadWords head_words words (Ok head)
    head_read is same =
        let node : NodeView = node_from height columns rows is.0 in
        let its_head : head_of node ≡ head = ap (λ n. let h : HeadView = record { height = height; columns = columns; rows = take n rows } in h) is.1 ∙ sym same_head in
        reads_one head (node, is.2.lawful, its_head) same (λ other has other_same. is_of other has other_same)
