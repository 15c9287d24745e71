-- What is read of words that spell a value.
use Rattle.record_words.proofs.Common.{ℕ, ◌≡◌, ◌+◌, ◌-◌, ◌/◌, ◌%◌, ◌<◌, ◌≤◌, ◌++◌, List, [], ◌∷◌, Option, Some, suc, arith, get_or, length, replicate, take, refl, sym, ap, ◌∙◌, length-append, get_or-take, lit<, take-suc, slice_get-get_or, Entry, Leaf, ext_get_or, length-replicate, length-take-le, take_at, with_free, with_unused, NodeView, HeadView, IsHead, IsLawfulNode, head_of, node_of, same_count}
use Rattle.record_words.specs.Entry.{HasEntryWord, entry_word}
use Rattle.record_words.specs.HeadParts.{HasHeadOf, InNodesOfKind}
use Rattle.record_words.specs.Kinds.{kind_of}
use Rattle.record_words.specs.Node.{HasHeadWords, HasNodeWords, head_words, node_words}
use Rattle.record_words.specs.Leaf.{HasLeafWords, leaf_words}
use Rattle.record_words.specs.Reading.{IsSpelledBy, IsSpelling}
use Rattle.record_words.specs.declared.kind.HeadKind.{HeadKind}
use Rattle.record_words.proofs.Heads.{head_used, is_head}
use Rattle.record_words.proofs.HeadParts.HeadsByKind.{Tells, head_parts}
use Rattle.record_words.proofs.Lawful.{get_or-padded}
use Rattle.record_words.proofs.Leaves.{same_leaf}
use Rattle.record_words.proofs.Nodes.{head_part, node_words-entry, same_head, same_node}
use Rattle.record_words.proofs.HeadParts.{told}

length-with_free : (columns : List ℕ) → length columns ≤ 31 → length (with_free columns) ≡ 31
length-with_free columns few = length-append columns _ ∙ omega (arith, length-replicate {A = ℕ} (31 - length columns) 65535)

pub places_taken : (columns : List ℕ) → length columns ≤ 31 → take 31 (columns ++ replicate (32 - length columns) 65535) ≡ with_free columns
places_taken columns few =
    let all : length (columns ++ replicate (32 - length columns) 65535) ≡ 32 = length-append columns _ ∙ omega (arith, length-replicate {A = ℕ} (32 - length columns) 65535, few) in
    let long : length (take 31 (columns ++ replicate (32 - length columns) 65535)) ≡ 31 = length-take-le 31 (columns ++ replicate (32 - length columns) 65535) (omega (arith, all)) in
    ext_get_or 65535 _ (with_free columns) (long ∙ sym (length-with_free columns few))
    (λ i h. get_or-take 31 (columns ++ replicate (32 - length columns) 65535) i 65535 (omega (arith, h, long))
    ∙ (get_or-padded columns (32 - length columns) 65535 i ∙ sym (get_or-padded columns (31 - length columns) 65535 i)))

pub columns_in_front : (columns places : List ℕ) (count : ℕ) → places ≡ with_free columns → count ≡ length columns → take count places ≡ columns
columns_in_front columns places count same counted = rw (same, counted) (take_at columns _ (length columns) refl)

-- some node whose head has this kind, and the words in this part
module _ (kind : HeadKind) (part : HeadView → List ℕ) (words : List ℕ) (given : IsSpelling (HasHeadOf kind) part words) where
  abbrev pub one_of_kind : NodeView
  one_of_kind = given.1.0.0

  pub lawful_one : IsLawfulNode one_of_kind
  lawful_one = given.1.0.1

  pub kind_of_one : kind_of one_of_kind.columns ≡ kind
  kind_of_one = ap (λ (head : HeadView). kind_of head.columns) given.1.0.2 ∙ given.1.1

  pub part_of_one : part (head_of one_of_kind) ≡ words
  part_of_one = ap part given.1.0.2 ∙ given.2

  -- what is so in each such node, and speaks of none
  pub in_one : {P : Type 0} → InNodesOfKind kind part words (λ _. P) → P
  in_one each = each one_of_kind lawful_one kind_of_one part_of_one

-- some node whose head has the words
module _ (words : List ℕ) (given : IsSpelling HasHeadWords head_words words) where
  abbrev pub its : NodeView
  its = given.1.0

  pub lawful_its : IsLawfulNode its
  lawful_its = given.1.1

  pub same_its : head_words (head_of its) ≡ words
  same_its = ap head_words given.1.2 ∙ given.2

-- a node whose head has these words
module _ (node : NodeView) (lawful : IsLawfulNode node) (words : List ℕ) (same : head_words (head_of node) ≡ words) where
  pub whole : length words ≡ 25
  whole = (head_parts (length node.rows) node.height node.columns node.rows words same).whole

  its_told : Tells (length node.rows) node.height node.columns (get_or words 0 0)
  its_told = told node lawful words same

  pub count_read : get_or words 0 0 % 256 ≡ length node.rows
  count_read = its_told.counted

  pub columns_counted : get_or words 0 0 / 256 % 256 ≡ length node.columns
  columns_counted = its_told.columns_counted

  pub height_read : get_or words 0 0 / 65536 % 65536 ≡ node.height
  height_read = its_told.height_told

  pub is_head_read : (count height : ℕ) (columns rows : List ℕ) → count ≡ length node.rows → height ≡ node.height → columns ≡ node.columns → rows ≡ with_unused node.rows → IsHead count height columns rows
  is_head_read count height columns rows counts heights columns_are rows_are = rw (counts, heights, columns_are, rows_are) (is_head node lawful)

  pub head_is : (count height : ℕ) (columns rows : List ℕ) → count ≡ length node.rows → height ≡ node.height → columns ≡ node.columns → rows ≡ with_unused node.rows →
      ◌≡◌ {A = HeadView} (record { height = height; columns = columns; rows = take count rows }) (head_of node)
  head_is count height columns rows counts heights columns_are rows_are = rw (counts, heights, columns_are, rows_are) (head_used node)

  -- its head is the one that the words spell
  pub spells_head : (head : HeadView) → head ≡ head_of node → IsSpelledBy HasHeadWords head_words words head
  spells_head head is = record {
    is_value = (node, lawful, sym is);
    spells = ap head_words is ∙ same;
    only = λ other has spelled. is ∙ (same_head node has.0 lawful has.1 (same ∙ sym (ap head_words has.2 ∙ spelled)) ∙ has.2);
  }

pub spells_node : (node read : NodeView) (words : List ℕ) → HasNodeWords node → node_words node ≡ words → read ≡ node → IsSpelledBy HasNodeWords node_words words read
spells_node node read words has same is = record {
  is_value = rw is has;
  spells = ap node_words is ∙ same;
  only = λ other other_has spelled. is ∙ same_node node other has other_has (same ∙ sym spelled);
}

pub spells_leaf : (leaf read : List ℕ × ℕ) (words : List ℕ) → HasLeafWords leaf → leaf_words leaf ≡ words → read ≡ leaf → IsSpelledBy HasLeafWords leaf_words words read
spells_leaf leaf read words has same is = record {
  is_value = rw is has;
  spells = ap leaf_words is ∙ same;
  only = λ other other_has spelled. is ∙ same_leaf leaf other has other_has (same ∙ sym spelled);
}

-- ---- entries
-- an entry of a node has the word at its place
pub entry_spelled : (node : NodeView) (words : List ℕ) (i : ℕ) → HasNodeWords node → node_words node ≡ words → i < length node.entries →
    HasEntryWord (Some (get_or node.entries i (Leaf 0))) × (entry_word (Some (get_or node.entries i (Leaf 0))) ≡ get_or words (25 + i) 0)
entry_spelled node words i has same inside =
    let here = slice_get-get_or node.entries i (Leaf 0) inside in (
      rw here at (has.entries.each i),
      sym (ap (λ all. get_or all (25 + i) 0) (sym same) ∙ (node_words-entry node i (omega (arith, has.entries.room)) ∙ ap (λ (o : Option Entry). entry_word o) here)),
    )

-- and it joins those before
pub one_more_read : (entries before after : List Entry) (i : ℕ) (entry : Entry) → entry ≡ get_or entries i (Leaf 0) → i < length entries → before ≡ take i entries → after ≡ before ++ entry ∷ [] → after ≡ take (i + 1) entries
one_more_read entries before after i entry this inside so_far pushed =
    pushed ∙ (ap (λ front. front ++ entry ∷ []) so_far ∙ (ap (λ x. take i entries ++ x ∷ []) this ∙ (sym (take-suc entries i (Leaf 0) inside) ∙ ap (λ n. take n entries) (let e : suc i ≡ i + 1 = omega arith in e))))

-- the first word is the head's
pub first_word : (node : NodeView) (words : List ℕ) → node_words node ≡ words → get_or (head_words (head_of node)) 0 0 ≡ get_or words 0 0
first_word node words same = ap (λ all. get_or all 0 0) (head_part node words same) ∙ get_or-take 25 words 0 0 (lit< tt)

-- and says how many there are
pub entries_counted : (node : NodeView) (words : List ℕ) → HasNodeWords node → node_words node ≡ words → get_or words 0 0 % 256 ≡ length node.entries
entries_counted node words has same =
    ap (λ word. word % 256) (sym (get_or-take 25 words 0 0 (lit< tt))) ∙ (count_read node has.lawful (take 25 words) (head_part node words same) ∙ same_count node has.lawful)

-- ---- a node of its two parts
pub head_read : (node : NodeView) (words : List ℕ) (head : HeadView) → HasNodeWords node → node_words node ≡ words → IsSpelledBy HasHeadWords head_words (take 25 words) head → head ≡ head_of node
head_read node words head has same spelled = spelled.only (head_of node) (node, has.lawful, refl) (head_part node words same)

pub both_read : (node : NodeView) (words : List ℕ) (head : HeadView) (entries : List Entry) → HasNodeWords node → node_words node ≡ words → IsSpelledBy HasHeadWords head_words (take 25 words) head → entries ≡ node.entries → node_of head entries ≡ node
both_read node words head entries has same spelled entries_are = rw (head_read node words head has same spelled, entries_are) refl
