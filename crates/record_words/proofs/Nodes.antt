-- A node against its words.
use Rattle.record_words.proofs.Common.{ℕ, ◌≡◌, ◌≢◌, ◌+◌, ◌-◌, ◌*◌, ◌/◌, ◌%◌, ◌^◌, ◌<◌, arith, List, get_or, length, take, drop, refl, sym, ap, ap₂, ◌∙◌, length-append, slice_get, ext_get_or, take_at, drop_at, take_all, get_or-append_right, NodeView, HeadView, IsLawfulNode, head_of, node_of, same_count}
use Rattle.record_words.specs.Entry.{entry_word}
use Rattle.record_words.specs.Kinds.{bit_mask, first_byte, kind_of, mask_index, position_index}
use Rattle.record_words.specs.Node.{HasNodeWords, head_words, entry_words, node_words}
use Rattle.record_words.specs.declared.kind.HeadKind.{HeadKind}
use Rattle.record_words.specs.declared.kind.HeadKind.TheVariants.{Middle, Narrow, Wide}
use Rattle.record_words.proofs.Entries.{length-entry_words, entry_words_at, same_entries}
use Rattle.record_words.proofs.fixed.Fixing.{columns_same, rows_same}
use Rattle.record_words.proofs.Heads.{same_fields}
use Rattle.record_words.proofs.HeadParts.HeadsByKind.{Tells, head_parts}
use Rattle.record_words.proofs.Lawful.{column-lt, row-lt}
use Rattle.record_words.proofs.near.NearLanes.{first_lowest, lane_read, used_lane}
use Rattle.record_words.proofs.near.NearKinds.{IsNearKind, middle_kind, narrow_kind}
use Rattle.record_words.proofs.OfKinds.{are_near_unless_wide}
use Rattle.record_words.proofs.HeadParts.{near_index, near_mask, near_row_is, told, wide}

-- ---- the two parts of a node's words
pub length-head_words : (node : NodeView) → length (head_words (head_of node)) ≡ 25
length-head_words node = (head_parts (length node.rows) node.height node.columns node.rows (head_words (head_of node)) refl).whole

pub head_part : (node : NodeView) (words : List ℕ) → node_words node ≡ words → head_words (head_of node) ≡ take 25 words
head_part node words same = sym (take_at (head_words (head_of node)) (entry_words node.entries) 25 (length-head_words node)) ∙ ap (take 25) same

pub entry_part : (node : NodeView) (words : List ℕ) → node_words node ≡ words → entry_words node.entries ≡ take 32 (drop 25 words)
entry_part node words same =
    sym (take_all 32 (entry_words node.entries) (omega (arith, length-entry_words node.entries)))
    ∙ ap (take 32) (sym (drop_at (head_words (head_of node)) (entry_words node.entries) 25 (length-head_words node)) ∙ ap (drop 25) same)

-- ---- what stands at each offset
pub length-node_words : (node : NodeView) → length (node_words node) ≡ 57
length-node_words node = length-append (head_words (head_of node)) (entry_words node.entries) ∙ omega (arith, length-head_words node, length-entry_words node.entries)

pub node_words-entry : (node : NodeView) (i : ℕ) → i < 32 → get_or (node_words node) (25 + i) 0 ≡ entry_word (slice_get node.entries i)
node_words-entry node i small =
    get_or-append_right (head_words (head_of node)) (entry_words node.entries) 25 (25 + i) 0 (length-head_words node) (omega arith)
    ∙ (ap (λ k. get_or (entry_words node.entries) k 0) (omega arith) ∙ entry_words_at node.entries (entry_words node.entries) refl i small)

-- ---- no two nodes, and no two heads, have the same words
-- a column of a near head, by the index of its byte and its mask
column_read : (node : NodeView) → IsLawfulNode node → kind_of node.columns ≢ Wide → (j : ℕ) → j < length node.columns →
    lane_read (first_byte node.columns) (get_or node.columns j 0 / 9 - first_byte node.columns) (bit_mask (get_or node.columns j 0)) ≡ get_or node.columns j 0
column_read node lawful other j used =
    used_lane (first_byte node.columns) (get_or node.columns j 0) (first_lowest node.columns j lawful.positions.rise used) (column-lt node lawful j) ((are_near_unless_wide node.columns other).each j used).a_bit

module _ (a b : NodeView) (lawful_a : IsLawfulNode a) (lawful_b : IsLawfulNode b) (same : head_words (head_of a) ≡ head_words (head_of b)) where
  abbrev words : List ℕ
  words = head_words (head_of b)

  of_a : Tells (length a.rows) a.height a.columns (get_or words 0 0)
  of_a = told a lawful_a words same

  of_b : Tells (length b.rows) b.height b.columns (get_or words 0 0)
  of_b = told b lawful_b words refl

  kinds : kind_of a.columns ≡ kind_of b.columns
  kinds = sym of_a.kind_told ∙ of_b.kind_told

  counts : length a.rows ≡ length b.rows
  counts = sym of_a.counted ∙ of_b.counted

  as_many : length a.columns ≡ length b.columns
  as_many = sym of_a.columns_counted ∙ of_b.columns_counted

  near_column : kind_of b.columns ≢ Wide → (j : ℕ) → j < length a.columns → get_or a.columns j 0 ≡ get_or b.columns j 0
  near_column other j used =
      let other_a : kind_of a.columns ≢ Wide = λ wide. other (sym kinds ∙ wide) in
      let used_b : j < length b.columns = omega (arith, used, as_many) in
      let firsts : first_byte a.columns ≡ first_byte b.columns = sym (of_a.first_told other_a) ∙ of_b.first_told other in
      let indexes : get_or a.columns j 0 / 9 - first_byte a.columns ≡ get_or b.columns j 0 / 9 - first_byte b.columns =
      sym (near_index a lawful_a words same other_a j used)
      ∙ (ap (λ kind. get_or words (position_index kind j) 0 / 2 ^ (8 * (7 - j % 8)) % 2 ^ 8) kinds ∙ near_index b lawful_b words refl other j used_b) in
      let masks : bit_mask (get_or a.columns j 0) ≡ bit_mask (get_or b.columns j 0) =
      sym (near_mask a lawful_a words same other_a j used)
      ∙ (ap (λ kind. get_or words (mask_index kind j) 0 / 2 ^ (8 * (7 - j % 8)) % 2 ^ 8) kinds ∙ near_mask b lawful_b words refl other j used_b) in
      sym (column_read a lawful_a other_a j used)
      ∙ (ap (λ first. lane_read first (get_or a.columns j 0 / 9 - first_byte a.columns) (bit_mask (get_or a.columns j 0))) firsts
      ∙ (ap₂ (lane_read (first_byte b.columns)) indexes masks ∙ column_read b lawful_b other j used_b))

  near_columns : kind_of b.columns ≢ Wide → a.columns ≡ b.columns
  near_columns other = ext_get_or 0 a.columns b.columns as_many (near_column other)

  near_both : (kind : HeadKind) → IsNearKind kind → kind_of b.columns ≡ kind → (a.columns ≡ b.columns) × (a.rows ≡ b.rows)
  near_both kind near e = (
    near_columns (λ wide. near.other (sym e ∙ wide)),
    ext_get_or 0 a.rows b.rows counts (λ i h. sym (near_row_is a lawful_a words same kind near (kinds ∙ e) i h) ∙ near_row_is b lawful_b words refl kind near e i (omega (arith, h, counts))),
  )

  both : (kind : HeadKind) → kind_of b.columns ≡ kind → (a.columns ≡ b.columns) × (a.rows ≡ b.rows)
  both Wide e =
      let fixed_a = wide a lawful_a words same (kinds ∙ e) in
      let fixed_b = wide b lawful_b words refl e in (
        columns_same a.columns b.columns words fixed_a.positions fixed_b.positions lawful_a.positions.few as_many (column-lt a lawful_a) (column-lt b lawful_b),
        rows_same a.rows b.rows words fixed_a.rows_are fixed_b.rows_are (omega (arith, same_count a lawful_a, lawful_a.room)) counts (row-lt a lawful_a) (row-lt b lawful_b),
      )
  both Narrow e = near_both Narrow narrow_kind e
  both Middle e = near_both Middle middle_kind e

  pub same_head : head_of a ≡ head_of b
  same_head = let parts = both (kind_of b.columns) refl in same_fields (sym of_a.height_told ∙ of_b.height_told) parts.0 parts.1

pub same_node : (a b : NodeView) → HasNodeWords a → HasNodeWords b → node_words a ≡ node_words b → a ≡ b
same_node a b has_a has_b same =
    let heads : head_of a ≡ head_of b = same_head a b has_a.lawful has_b.lawful (head_part a (node_words b) same ∙ sym (head_part b (node_words b) refl)) in
    let entries : a.entries ≡ b.entries = same_entries a.entries b.entries _ has_a.entries has_b.entries (entry_part a (node_words b) same) (entry_part b (node_words b) refl) in
    ap (λ (head : HeadView). node_of head a.entries) heads ∙ ap (node_of (head_of b)) entries
