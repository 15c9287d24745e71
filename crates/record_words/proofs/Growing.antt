-- A node's words with a new leaf.
use Rattle.record_words.proofs.Common.{ℕ, ◌≡◌, ◌+◌, ◌-◌, ◌/◌, ◌%◌, ◌^◌, ◌<◌, ◌≤◌, ◌++◌, arith, List, Some, drop, get_or, get_or-take, take, length, length-append, lit<, sym, ap, subst, ◌∙◌, ⊎_elim, insert, slice_get, cases_lt, ext_get_or, get_or-append_right, get_or-drop, get_or_append_left, length-drop, length-take-le, get_or-insert_above, get_or-insert_at, get_or-insert_below, length-insert, slice_get-get_or, slice_get_past, Entry, Leaf, NodeView, IsLawfulNode, head_of, NewLeaf, new_leaf, same_count}
use Rattle.std.specs.Prelude.{Bool, Option, cond, true, false}
use Rattle.record_words.specs.Entry.{HasEntryWord, entry_word}
use Rattle.record_words.specs.Node.{HasNodeWords, HaveEntryWords, CanGrowAt, entry_words, head_words, node_words}
use Rattle.record_words.proofs.Nodes.{head_part, length-head_words, length-node_words, node_words-entry}
use Rattle.record_words.proofs.Reading.{entries_counted, height_read}

-- ---- a word put in among the first `count`, over the one behind them
abbrev pub put : List ℕ → (count at word : ℕ) → List ℕ
put words count at word = insert (take count words) at word ++ drop (count + 1) words

module _ (words : List ℕ) (count at word : ℕ) (few : at ≤ count) (inside : count < length words) where
  front : length (take count words) ≡ count
  front = length-take-le count words (omega (arith, inside))

  front_put : length (insert (take count words) at word) ≡ count + 1
  front_put = length-insert (take count words) at word (omega (arith, few, front)) ∙ omega (arith, front)

  length-put : length (put words count at word) ≡ length words
  length-put = length-append (insert (take count words) at word) (drop (count + 1) words) ∙ omega (arith, front_put, length-drop (count + 1) words, inside)

  in_front : (k : ℕ) → k ≤ count → get_or (put words count at word) k 0 ≡ get_or (insert (take count words) at word) k 0
  in_front k low = get_or_append_left (insert (take count words) at word) (drop (count + 1) words) 0 k (omega (arith, low, front_put))

  put_below : (k : ℕ) → k < at → get_or (put words count at word) k 0 ≡ get_or words k 0
  put_below k low =
      in_front k (omega (arith, low, few))
      ∙ (get_or-insert_below (take count words) at word 0 k low (omega (arith, few, front)) ∙ get_or-take count words k 0 (omega (arith, low, few)))

  put_here : get_or (put words count at word) at 0 ≡ word
  put_here = in_front at few ∙ get_or-insert_at (take count words) at word 0 (omega (arith, few, front))

  put_above : (k : ℕ) → at ≤ k → k < count → get_or (put words count at word) (k + 1) 0 ≡ get_or words k 0
  put_above k past low =
      in_front (k + 1) (omega (arith, low))
      ∙ (get_or-insert_above (take count words) at word 0 k past (omega (arith, few, front)) ∙ get_or-take count words k 0 low)

  put_past : (k : ℕ) → count < k → get_or (put words count at word) k 0 ≡ get_or words k 0
  put_past k past =
      get_or-append_right (insert (take count words) at word) (drop (count + 1) words) (count + 1) k 0 front_put (omega (arith, past))
      ∙ (get_or-drop (count + 1) words (k - (count + 1)) 0 ∙ ap (λ i. get_or words i 0) (let e : count + 1 + (k - (count + 1)) ≡ k = omega (arith, past) in e))

-- ---- a node with one leaf more
module _ (node after : NodeView) (at leaf : ℕ) (few : at ≤ length node.entries) (are : after.entries ≡ insert node.entries at (Leaf leaf)) where
  longer : length after.entries ≡ length node.entries + 1
  longer = ap (λ (es : List Entry). length es) are ∙ length-insert node.entries at (Leaf leaf) few

  at_place : (i : ℕ) → i ≤ length node.entries → slice_get after.entries i ≡ Some (get_or (insert node.entries at (Leaf leaf)) i (Leaf 0))
  at_place i low = slice_get-get_or after.entries i (Leaf 0) (omega (arith, longer, low)) ∙ ap (λ (es : List Entry). Some (get_or es i (Leaf 0))) are

  entry_below : (i : ℕ) → i < at → slice_get after.entries i ≡ slice_get node.entries i
  entry_below i low =
      at_place i (omega (arith, low, few))
      ∙ (ap (λ (e : Entry). Some e) (get_or-insert_below node.entries at (Leaf leaf) (Leaf 0) i low few) ∙ sym (slice_get-get_or node.entries i (Leaf 0) (omega (arith, low, few))))

  entry_here : slice_get after.entries at ≡ Some (Leaf leaf)
  entry_here = at_place at few ∙ ap (λ (e : Entry). Some e) (get_or-insert_at node.entries at (Leaf leaf) (Leaf 0) few)

  entry_above : (i : ℕ) → at ≤ i → slice_get after.entries (i + 1) ≡ slice_get node.entries i
  entry_above i past = ⊎_elim
      (λ (inside : i < length node.entries).
      at_place (i + 1) (omega (arith, inside))
      ∙ (ap (λ (e : Entry). Some e) (get_or-insert_above node.entries at (Leaf leaf) (Leaf 0) i past few) ∙ sym (slice_get-get_or node.entries i (Leaf 0) inside)))
      (λ (outside : length node.entries ≤ i). slice_get_past after.entries (i + 1) (omega (arith, longer, outside)) ∙ sym (slice_get_past node.entries i outside))
      (cases_lt i (length node.entries))

  -- what holds of each old entry and of the leaf holds of each new one
  each_place : (IsSo : ℕ → Option Entry → Type 0) → ((i : ℕ) → i < at → IsSo i (slice_get node.entries i)) → IsSo at (Some (Leaf leaf)) → ((i : ℕ) → at ≤ i → IsSo (i + 1) (slice_get node.entries i)) →
      (i : ℕ) → IsSo i (slice_get after.entries i)
  each_place IsSo below here above i = ⊎_elim
      (λ (low : i < at). subst (IsSo i) (sym (entry_below i low)) (below i low))
      (λ (past : at ≤ i). ⊎_elim
      (λ (same : i < at + 1).
      let e : at ≡ i = omega (arith, past, same) in subst (λ k. IsSo k (slice_get after.entries k)) e (subst (IsSo at) (sym entry_here) here))
      (λ (more : at + 1 ≤ i).
      let j : ℕ = i - 1 in
      let e : j + 1 ≡ i = omega (arith, more) in
      let high : at ≤ j = omega (arith, more) in subst (λ k. IsSo k (slice_get after.entries k)) e (subst (IsSo (j + 1)) (sym (entry_above j high)) (above j high)))
      (cases_lt i (at + 1)))
      (cases_lt i at)

  pub has_words : HaveEntryWords node.entries → leaf < 2 ^ 32 → IsLawfulNode after → HasNodeWords after
  has_words have small lawful = record {
    lawful = lawful;
    entries = record {
      room = lawful.room;
      each = each_place (λ i o. HasEntryWord o) (λ i low. have.each i) small (λ i past. have.each i);
    };
  }

  module _ (room : length node.entries < 32) where
    -- the old words behind the new head
    abbrev headed : List ℕ
    headed = head_words (head_of after) ++ drop 25 (node_words node)

    length-headed : length headed ≡ 57
    length-headed = length-append (head_words (head_of after)) (drop 25 (node_words node)) ∙ omega (arith, length-head_words after, length-drop 25 (node_words node), length-node_words node)

    headed_entry : (i : ℕ) → i < 32 → get_or headed (25 + i) 0 ≡ entry_word (slice_get node.entries i)
    headed_entry i small =
        get_or-append_right (head_words (head_of after)) (drop 25 (node_words node)) 25 (25 + i) 0 (length-head_words after) (omega arith)
        ∙ (get_or-drop 25 (node_words node) (25 + i - 25) 0 ∙ (ap (λ k. get_or (node_words node) k 0) (let e : 25 + (25 + i - 25) ≡ 25 + i = omega arith in e) ∙ node_words-entry node i small))

    abbrev new_words : List ℕ
    new_words = put headed (25 + length node.entries) (25 + at) (entry_word (Some (Leaf leaf)))

    low_place : 25 + at ≤ 25 + length node.entries
    low_place = omega (arith, few)

    inside_words : 25 + length node.entries < length headed
    inside_words = omega (arith, length-headed, room)

    entry_put : (i : ℕ) → i < 32 → get_or new_words (25 + i) 0 ≡ entry_word (slice_get after.entries i)
    entry_put = each_place (λ i o. i < 32 → get_or new_words (25 + i) 0 ≡ entry_word o)
        (λ i low small. put_below headed (25 + length node.entries) (25 + at) (entry_word (Some (Leaf leaf))) low_place inside_words (25 + i) (omega (arith, low)) ∙ headed_entry i small)
        (λ small. put_here headed (25 + length node.entries) (25 + at) (entry_word (Some (Leaf leaf))) low_place inside_words)
        (λ i past small. ⊎_elim
        (λ (inside : i < length node.entries).
        ap (λ k. get_or new_words k 0) (let e : 25 + (i + 1) ≡ 25 + i + 1 = omega arith in e)
        ∙ (put_above headed (25 + length node.entries) (25 + at) (entry_word (Some (Leaf leaf))) low_place inside_words (25 + i) (omega (arith, past)) (omega (arith, inside)) ∙ headed_entry i (omega (arith, small))))
        (λ (outside : length node.entries ≤ i).
        put_past headed (25 + length node.entries) (25 + at) (entry_word (Some (Leaf leaf))) low_place inside_words (25 + (i + 1)) (omega (arith, outside))
        ∙ (headed_entry (i + 1) small ∙ ap (λ (o : Option Entry). entry_word o) (slice_get_past node.entries (i + 1) (omega (arith, outside)) ∙ sym (slice_get_past node.entries i outside))))
        (cases_lt i (length node.entries)))

    -- the leaf's word among those of the other entries gives the words of the node
    pub words_put : new_words ≡ node_words after
    words_put =
        ext_get_or 0 new_words (node_words after) (length-put headed (25 + length node.entries) (25 + at) (entry_word (Some (Leaf leaf))) low_place inside_words ∙ (length-headed ∙ sym (length-node_words after)))
        (λ k inside. ⊎_elim
        (λ (head : k < 25).
        put_below headed (25 + length node.entries) (25 + at) (entry_word (Some (Leaf leaf))) low_place inside_words k (omega (arith, head))
        ∙ (get_or_append_left (head_words (head_of after)) (drop 25 (node_words node)) 0 k (omega (arith, head, length-head_words after))
        ∙ sym (get_or_append_left (head_words (head_of after)) (entry_words after.entries) 0 k (omega (arith, head, length-head_words after)))))
        (λ (entries : 25 ≤ k).
        let i : ℕ = k - 25 in
        let small : i < 32 = omega (arith, entries, inside, length-put headed (25 + length node.entries) (25 + at) (entry_word (Some (Leaf leaf))) low_place inside_words, length-headed) in
        let e : 25 + i ≡ k = omega (arith, entries) in
        subst (λ z. get_or new_words z 0 ≡ get_or (node_words after) z 0) e (entry_put i small ∙ sym (node_words-entry after i small)))
        (cases_lt k 25))

    -- and so, whatever they are called
    pub words_grown : (words before out : List ℕ) (count place word : ℕ) → node_words node ≡ words → before ≡ head_words (head_of after) ++ drop 25 words → count ≡ length node.entries → place ≡ at → word ≡ entry_word (Some (Leaf leaf)) →
        out ≡ put before (25 + count) (25 + place) word → node_words after ≡ out
    words_grown words before out count place word spells before_is counted placed word_is is = sym (is ∙ (rw (before_is, ← spells, counted, placed, word_is) words_put))

-- ---- words that get a leaf
module _ {words : List ℕ} {node : NodeView} {position first last : ℕ} (growing : CanGrowAt words node position first last) (below : position < 65535) where
  -- the leaf's place is among those of the entries
  pub place_within : (bit : Bool) → cond bit (last + 1) first ≤ length node.entries
  place_within bit =
      let leaf : NewLeaf node position first last bit 0 = new_leaf node growing.has.lawful position first last bit 0 growing.range growing.takes.1 below growing.takes.0 in
      let ordered = leaf.ordered in
      let inside = leaf.in_range in
      elim bit as (λ b. cond b (last + 1) first ≤ length node.entries) [ true ↦ omega (arith, inside, same_count node growing.has.lawful) | false ↦ omega (arith, ordered, inside, same_count node growing.has.lawful) ]

-- the first word tells how many entries a node has, and its height
pub first_told : (node : NodeView) (words : List ℕ) → HasNodeWords node → node_words node ≡ words → (get_or words 0 0 % 256 ≡ length node.entries) × (get_or words 0 0 / 65536 % 65536 ≡ node.height)
first_told node words has same = (
  entries_counted node words has same,
  ap (λ word. word / 65536 % 65536) (sym (get_or-take 25 words 0 0 (lit< tt))) ∙ height_read node has.lawful (take 25 words) (head_part node words same),
)
