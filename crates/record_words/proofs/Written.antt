-- A node's words, written one after another.
use Rattle.record_words.proofs.Common.{ℕ, ◌≡◌, ◌+◌, ◌-◌, ◌*◌, ◌^◌, ◌<◌, ◌≤◌, ◌++◌, arith, List, drop, get_or, get_or-take, set, take, replicate, length, length-append, sym, ap, ap₂, refl, ◌∙◌, ⊎_elim, below_more, get_or-set_other, get_or-set_same, ◌⊎◌, slice_get, cases_lt, ext_get_or, get_or-append_right, get_or-drop, get_or_append_left, get_or_past, length-drop, length-replicate, length-take-le, slice_get_past, get_or-chunk, length-chunk, get_or-put_chunk_above, get_or-put_chunk_at, length-put_chunk, Entry, HeadView, NodeView, head_of, with_unused}
use Rattle.std.specs.Prelude.{Option}
use Rattle.std.proofs.lemmas.List.{length-set}
use Rattle.record_words.specs.Entry.{HasEntryWord, entry_word}
use Rattle.record_words.specs.Node.{HaveEntryWords, head_words, entry_words, node_words}
use Rattle.record_words.specs.Packed.{fixed_words, row_at, row_word}
use Rattle.record_words.proofs.fixed.Fixing.{fixed_words-same}
use Rattle.record_words.proofs.HeadParts.HeadsByKind.{head_parts}
use Rattle.record_words.proofs.Lawful.{row_at-with_unused}
use Rattle.record_words.proofs.Nodes.{length-head_words, node_words-entry}
use borrow.Rule.Slice.PartMut.{mid_of, put_mid}
use lib.Lanes.{chunk, put_chunk}

-- the words before place n are the new ones, and the others the old
pub record AreSoFar (new old words : List ℕ) (n : ℕ) : Type 0 where
  pub whole : length words ≡ 57
  pub written : (k : ℕ) → k < n → get_or words k 0 ≡ get_or new k 0
  pub unwritten : (k : ℕ) → n ≤ k → get_or words k 0 ≡ get_or old k 0

pub one_more : (new old words : List ℕ) (n next value : ℕ) → AreSoFar new old words n → n < 57 → next ≡ n + 1 → value ≡ get_or new n 0 → AreSoFar new old (set words n value) next
one_more new old words n next value so_far inside later same =
    let place : n < length words = omega (arith, so_far.whole) in
    record {
      whole = length-set words n value ∙ so_far.whole;
      written = rw later (below_more _ n (λ k before. get_or-set_other words n k value 0 (omega arith) ∙ so_far.written k before) (get_or-set_same words n value 0 place ∙ same));
      unwritten = λ k past. get_or-set_other words n k value 0 (omega arith) ∙ so_far.unwritten k (omega arith);
    }

-- the words are all there where those behind them stay
pub all_so_far : (new old words : List ℕ) (n : ℕ) → AreSoFar new old words n → length new ≡ 57 → ((k : ℕ) → n ≤ k → k < 57 → get_or new k 0 ≡ get_or old k 0) → words ≡ new
all_so_far new old words n so_far whole rest =
    ext_get_or 0 words new (so_far.whole ∙ sym whole)
    (λ k inside. ⊎_elim (λ (before : k < n). so_far.written k before)
    (λ (past : n ≤ k). so_far.unwritten k past ∙ sym (rest k past (omega (arith, so_far.whole)))) (cases_lt k n))

-- ---- numbers that are stored from a place on, in front of the others
module _ (a k : ℕ) (xs ys : List ℕ) (whole : length xs ≡ a + k) (few : length ys ≤ k) where
  abbrev pub stored : List ℕ
  stored = put_mid a k xs (put_chunk 0 (mid_of a k xs) ys)

  front : length (take a xs) ≡ a
  front = length-take-le a xs (omega (arith, whole))

  middle : length (mid_of a k xs) ≡ k
  middle = length-take-le k (drop a xs) (omega (arith, length-drop a xs, whole))

  length-part : length (put_chunk 0 (mid_of a k xs) ys) ≡ k
  length-part = length-put_chunk 0 (mid_of a k xs) ys ∙ middle

  pub length-stored : length stored ≡ a + k
  length-stored =
      length-append (take a xs) (put_chunk 0 (mid_of a k xs) ys ++ drop k (drop a xs))
      ∙ omega (arith, front, length-append (put_chunk 0 (mid_of a k xs) ys) (drop k (drop a xs)), length-part, length-drop k (drop a xs), length-drop a xs, whole)

  pub before_stored : (i : ℕ) → i < a → get_or stored i 0 ≡ get_or xs i 0
  before_stored i low = get_or_append_left (take a xs) (put_chunk 0 (mid_of a k xs) ys ++ drop k (drop a xs)) 0 i (omega (arith, low, front)) ∙ get_or-take a xs i 0 low

  in_part : (j : ℕ) → j < k → get_or stored (a + j) 0 ≡ get_or (put_chunk 0 (mid_of a k xs) ys) j 0
  in_part j low =
      get_or-append_right (take a xs) (put_chunk 0 (mid_of a k xs) ys ++ drop k (drop a xs)) a (a + j) 0 front (omega arith)
      ∙ (get_or_append_left (put_chunk 0 (mid_of a k xs) ys) (drop k (drop a xs)) 0 (a + j - a) (omega (arith, low, length-part))
      ∙ ap (λ i. get_or (put_chunk 0 (mid_of a k xs) ys) i 0) (let e : a + j - a ≡ j = omega arith in e))

  pub at_stored : (j : ℕ) → j < length ys → get_or stored (a + j) 0 ≡ get_or ys j 0
  at_stored j low =
      in_part j (omega (arith, low, few))
      ∙ (ap (λ i. get_or (put_chunk 0 (mid_of a k xs) ys) i 0) (let e : j ≡ 0 + j = omega arith in e) ∙ get_or-put_chunk_at 0 (mid_of a k xs) ys j 0 low (omega (arith, few, middle)))

  -- what was stored stands there
  pub chunk_stored : (n : ℕ) → length ys ≡ n → chunk a n stored ≡ ys
  chunk_stored n long =
      let room : a + n ≤ length stored = omega (arith, length-stored, long, few) in
      ext_get_or 0 (chunk a n stored) ys (length-chunk a n stored room ∙ sym long)
      (λ j h. let low : j < n = omega (arith, h, length-chunk a n stored room) in get_or-chunk a n stored j 0 low ∙ at_stored j (omega (arith, low, long)))

  pub behind_stored : (i : ℕ) → a + length ys ≤ i → i < a + k → get_or stored i 0 ≡ get_or xs i 0
  behind_stored i past inside =
      let j : ℕ = i - a in
      let e : a + j ≡ i = omega (arith, past) in
      ap (λ n. get_or stored n 0) (sym e)
      ∙ (in_part j (omega (arith, past, inside)) ∙ (get_or-put_chunk_above 0 (mid_of a k xs) ys j 0 (omega (arith, past))
      ∙ (get_or-take k (drop a xs) j 0 (omega (arith, past, inside)) ∙ (get_or-drop a xs j 0 ∙ ap (λ n. get_or xs n 0) e))))

  -- and nothing else changes
  pub other_stored : (i : ℕ) → (i < a) ⊎ (a + length ys ≤ i) → get_or stored i 0 ≡ get_or xs i 0
  other_stored i out =
      ⊎_elim (before_stored i)
      (λ (past : a + length ys ≤ i). ⊎_elim (behind_stored i past)
      (λ (outside : a + k ≤ i). get_or_past stored i 0 (omega (arith, outside, length-stored)) ∙ sym (get_or_past xs i 0 (omega (arith, outside, whole)))) (cases_lt i (a + k)))
      out

-- the words of sixteen rows of 32 are eight of the words of all
pub half_words : (rows : List ℕ) (h k : ℕ) → k < 8 → row_word (chunk (2 * h) 16 rows) k ≡ row_word rows (h + k)
unfolding row_word
half_words rows h k low =
    ap₂ (λ x y. x + 2 ^ 32 * y) (get_or-chunk (2 * h) 16 rows (2 * k) 4294967295 (omega (arith, low)) ∙ ap (row_at rows) (omega arith))
    (get_or-chunk (2 * h) 16 rows (2 * k + 1) 4294967295 (omega (arith, low)) ∙ ap (row_at rows) (omega arith))

-- ---- the words of a head before the old ones of the entries
abbrev pub with_head : (count height : ℕ) (columns rows old : List ℕ) → List ℕ
with_head count height columns rows old = fixed_words count height columns rows ++ drop 25 old

module _ (count height : ℕ) (columns rows old : List ℕ) where
  head_whole : length (fixed_words count height columns rows) ≡ 25
  head_whole = (head_parts count height columns rows (fixed_words count height columns rows) refl).whole

  pub head_word : (k : ℕ) → k < 25 → get_or (with_head count height columns rows old) k 0 ≡ get_or (fixed_words count height columns rows) k 0
  head_word k small = get_or_append_left (fixed_words count height columns rows) (drop 25 old) 0 k (omega (arith, small, head_whole))

  pub length-with_head : length old ≡ 57 → length (with_head count height columns rows old) ≡ 57
  length-with_head whole = length-append (fixed_words count height columns rows) (drop 25 old) ∙ omega (arith, head_whole, length-drop 25 old, whole)

  pub behind_head : (k : ℕ) → 25 ≤ k → get_or (with_head count height columns rows old) k 0 ≡ get_or old k 0
  behind_head k past =
      get_or-append_right (fixed_words count height columns rows) (drop 25 old) 25 k 0 head_whole past
      ∙ (get_or-drop 25 old (k - 25) 0 ∙ ap (λ i. get_or old i 0) (let e : 25 + (k - 25) ≡ k = omega (arith, past) in e))

-- the fields of a head give its words
pub head_put : (head : HeadView) (count height : ℕ) (columns rows : List ℕ) → count ≡ length head.rows → height ≡ head.height → columns ≡ head.columns → rows ≡ with_unused head.rows →
    fixed_words count height columns rows ≡ head_words head
head_put head count height columns rows counts heights columns_are rows_are =
    rw (counts, heights, columns_are, rows_are) (fixed_words-same (length head.rows) head.height head.columns (with_unused head.rows) head.rows (row_at-with_unused head.rows))

-- ---- a node's words
module _ (node : NodeView) where
  -- those of the head before zeros
  pub head_so_far : (words : List ℕ) → words ≡ head_words (head_of node) ++ drop 25 (replicate 57 0) → AreSoFar (node_words node) (replicate 57 0) words 25
  head_so_far words are = rw are record {
    whole = length-with_head (length node.rows) node.height node.columns node.rows (replicate 57 0) (length-replicate {A = ℕ} 57 0);
    written = λ k small.
        head_word (length node.rows) node.height node.columns node.rows (replicate 57 0) k small
        ∙ sym (get_or_append_left (head_words (head_of node)) (entry_words node.entries) 0 k (omega (arith, small, length-head_words node)));
    unwritten = λ k past. behind_head (length node.rows) node.height node.columns node.rows (replicate 57 0) k past;
  }

  -- behind the last entry the words are 0
  pub no_entry_word : (n k : ℕ) → length node.entries ≤ n → 25 + n ≤ k → k < 57 → get_or (node_words node) k 0 ≡ 0
  no_entry_word n k counted past inside =
      let i : ℕ = k - 25 in
      ap (λ m. get_or (node_words node) m 0) (let e : k ≡ 25 + i = omega (arith, past) in e) ∙
      (node_words-entry node i (omega (arith, past, inside)) ∙ ap (λ (o : Option Entry). entry_word o) (slice_get_past node.entries i (omega (arith, past, counted))))

-- entries have words where each of them has one
pub entries_fit : (entries : List Entry) (n : ℕ) → length entries ≤ 32 → length entries ≤ n → ((i : ℕ) → i < n → HasEntryWord (slice_get entries i)) → HaveEntryWords entries
entries_fit entries n room counted fit = record {
  room = room;
  each = λ i. ⊎_elim (fit i) (λ (past : n ≤ i). rw (slice_get_past entries i (omega (arith, counted))) tt) (cases_lt i n);
}
