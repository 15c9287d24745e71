-- A node's words without an entry.
use Rattle.record_words.proofs.Common.{ℕ, suc, ◌≡◌, ◌+◌, ◌-◌, ◌/◌, ◌^◌, ◌<◌, ◌≤◌, ◌++◌, [], ◌∷◌, arith, List, Some, None, drop, get_or, get_or-take, map, max, take, length, length-append, refl, sym, ap, ap₂, subst, ◌∙◌, ⊎_elim, All, slice_get, remove, cases_lt, drop_more, ext_get_or, get_or_at, get_or-append_right, get_or-drop, get_or-map, get_or_append_left, length-drop, length-map, length-take-le, All-append, All-drop, All-take, get_or-remove_above, get_or-remove_below, length-remove, slice_get-get_or, slice_get_past, Entry, Leaf, Node, IsEntry, IsLawfulNode, NodeView, StandsBelow, greatest_height, head_of, height_of, piece, one_left, without, Place}
use Rattle.std.specs.Prelude.{Option}
use Rattle.record_words.specs.Entry.{HasEntryWord, entry_word}
use Rattle.record_words.specs.Node.{HasNodeWords, HaveEntryWords, SpellEntries, entry_words, head_words, node_words}
use Rattle.record_words.proofs.Nodes.{length-head_words, length-node_words, node_words-entry}

-- ---- a word taken out of the first `count`, with 0 behind them
abbrev pub taken : List ℕ → (count at : ℕ) → List ℕ
taken words count at = remove (take count words) at ++ 0 ∷ drop count words

module _ (words : List ℕ) (count at : ℕ) (here : at < count) (inside : count ≤ length words) where
  front : length (take count words) ≡ count
  front = length-take-le count words inside

  low : at < length (take count words)
  low = omega (arith, here, front)

  front_taken : length (remove (take count words) at) ≡ count - 1
  front_taken = omega (arith, length-remove (take count words) at low, front)

  pub length-taken : length (taken words count at) ≡ length words
  length-taken = length-append (remove (take count words) at) (0 ∷ drop count words) ∙ omega (arith, front_taken, length-drop count words, inside, here)

  taken_below : (k : ℕ) → k < at → get_or (taken words count at) k 0 ≡ get_or words k 0
  taken_below k before =
      get_or_append_left (remove (take count words) at) (0 ∷ drop count words) 0 k (omega (arith, before, here, front_taken))
      ∙ (get_or-remove_below (take count words) at 0 k before low ∙ get_or-take count words k 0 (omega (arith, before, here)))

  -- the words in front of it stay
  pub front_stays : (n : ℕ) → n ≤ at → take n (taken words count at) ≡ take n words
  front_stays n before =
      let long : length (take n (taken words count at)) ≡ n = length-take-le n (taken words count at) (omega (arith, length-taken, before, here, inside)) in
      ext_get_or 0 (take n (taken words count at)) (take n words) (long ∙ sym (length-take-le n words (omega (arith, before, here, inside))))
      (λ k h. let low : k < n = omega (arith, h, long) in get_or-take n (taken words count at) k 0 low ∙ (taken_below k (omega (arith, low, before)) ∙ sym (get_or-take n words k 0 low)))

  taken_above : (k : ℕ) → at ≤ k → k + 1 < count → get_or (taken words count at) k 0 ≡ get_or words (k + 1) 0
  taken_above k past within =
      get_or_append_left (remove (take count words) at) (0 ∷ drop count words) 0 k (omega (arith, within, front_taken))
      ∙ (get_or-remove_above (take count words) at 0 k past low ∙ get_or-take count words (k + 1) 0 within)

  taken_last : (k : ℕ) → k + 1 ≡ count → get_or (taken words count at) k 0 ≡ 0
  taken_last k last = get_or_at (remove (take count words) at) 0 (drop count words) 0 k (omega (arith, front_taken, last))

  taken_past : (k : ℕ) → count ≤ k → get_or (taken words count at) k 0 ≡ get_or words k 0
  taken_past k past =
      get_or-append_right (remove (take count words) at) (0 ∷ drop count words) (count - 1) k 0 front_taken (omega (arith, past))
      ∙ (ap (λ i. get_or (0 ∷ drop count words) i 0) (let e : k - (count - 1) ≡ suc (k - count) = omega (arith, past, here) in e)
      ∙ (get_or-drop count words (k - count) 0 ∙ ap (λ i. get_or words i 0) (let e : count + (k - count) ≡ k = omega (arith, past) in e)))

-- ---- a node with one entry less
module _ (node after : NodeView) (at : ℕ) (here : at < length node.entries) (are : after.entries ≡ remove node.entries at) where
  shorter : length after.entries + 1 ≡ length node.entries
  shorter = ap (λ (es : List Entry). length es + 1) are ∙ length-remove node.entries at here

  at_place : (i : ℕ) → i < length after.entries → slice_get after.entries i ≡ Some (get_or (remove node.entries at) i (Leaf 0))
  at_place i inside = slice_get-get_or after.entries i (Leaf 0) inside ∙ ap (λ (es : List Entry). Some (get_or es i (Leaf 0))) are

  entry_below : (i : ℕ) → i < at → slice_get after.entries i ≡ slice_get node.entries i
  entry_below i before =
      at_place i (omega (arith, shorter, before, here))
      ∙ (ap (λ (e : Entry). Some e) (get_or-remove_below node.entries at (Leaf 0) i before here) ∙ sym (slice_get-get_or node.entries i (Leaf 0) (omega (arith, before, here))))

  entry_above : (i : ℕ) → at ≤ i → slice_get after.entries i ≡ slice_get node.entries (i + 1)
  entry_above i past = ⊎_elim
      (λ (inside : i < length after.entries).
      at_place i inside
      ∙ (ap (λ (e : Entry). Some e) (get_or-remove_above node.entries at (Leaf 0) i past here) ∙ sym (slice_get-get_or node.entries (i + 1) (Leaf 0) (omega (arith, inside, shorter)))))
      (λ (outside : length after.entries ≤ i). slice_get_past after.entries i outside ∙ sym (slice_get_past node.entries (i + 1) (omega (arith, shorter, outside))))
      (cases_lt i (length after.entries))

  -- what holds of each old entry holds of each that is left
  each_place : (IsSo : ℕ → Option Entry → Type 0) → ((i : ℕ) → i < at → IsSo i (slice_get node.entries i)) → ((i : ℕ) → at ≤ i → IsSo i (slice_get node.entries (i + 1))) → (i : ℕ) → IsSo i (slice_get after.entries i)
  each_place IsSo below above i = ⊎_elim
      (λ (before : i < at). subst (IsSo i) (sym (entry_below i before)) (below i before))
      (λ (past : at ≤ i). subst (IsSo i) (sym (entry_above i past)) (above i past))
      (cases_lt i at)

  pub left_has_words : HaveEntryWords node.entries → IsLawfulNode after → HasNodeWords after
  left_has_words have lawful = record {
    lawful = lawful;
    entries = record {
      room = lawful.room;
      each = each_place (λ i o. HasEntryWord o) (λ i before. have.each i) (λ i past. have.each (i + 1));
    };
  }

  module _ (room : length node.entries ≤ 32) where
    abbrev old : List ℕ
    old = node_words node

    place : 25 + at < 25 + length node.entries
    place = omega (arith, here)

    within : 25 + length node.entries ≤ length old
    within = omega (arith, length-node_words node, room)

    -- the words of the entries that are left
    pub entry_taken : (i : ℕ) → i < 32 → get_or (taken old (25 + length node.entries) (25 + at)) (25 + i) 0 ≡ entry_word (slice_get after.entries i)
    entry_taken = each_place (λ i o. i < 32 → get_or (taken old (25 + length node.entries) (25 + at)) (25 + i) 0 ≡ entry_word o)
        (λ i before small. taken_below old (25 + length node.entries) (25 + at) place within (25 + i) (omega (arith, before)) ∙ node_words-entry node i small)
        (λ i past small. ⊎_elim
        (λ (inside : i + 1 < length node.entries).
        taken_above old (25 + length node.entries) (25 + at) place within (25 + i) (omega (arith, past)) (omega (arith, inside))
        ∙ (ap (λ k. get_or old k 0) (let e : 25 + i + 1 ≡ 25 + (i + 1) = omega arith in e) ∙ node_words-entry node (i + 1) (omega (arith, inside, room))))
        (λ (outside : length node.entries ≤ i + 1).
        let none : slice_get node.entries (i + 1) ≡ None = slice_get_past node.entries (i + 1) outside in
        ⊎_elim
        (λ (last : i < length node.entries). taken_last old (25 + length node.entries) (25 + at) place within (25 + i) (omega (arith, last, outside)))
        (λ (behind : length node.entries ≤ i).
        taken_past old (25 + length node.entries) (25 + at) place within (25 + i) (omega (arith, behind))
        ∙ (node_words-entry node i small ∙ ap (λ (o : Option Entry). entry_word o) (slice_get_past node.entries i behind)))
        (cases_lt i (length node.entries)) ∙ sym (ap (λ (o : Option Entry). entry_word o) none))
        (cases_lt (i + 1) (length node.entries)))

    -- behind the new head they are the words of the node
    words_taken : head_words (head_of after) ++ drop 25 (taken old (25 + length node.entries) (25 + at)) ≡ node_words after
    words_taken =
        let all : List ℕ = taken old (25 + length node.entries) (25 + at) in
        let long : length all ≡ 57 = length-taken old (25 + length node.entries) (25 + at) place within ∙ length-node_words node in
        let whole : length (head_words (head_of after) ++ drop 25 all) ≡ 57 = length-append (head_words (head_of after)) (drop 25 all) ∙ omega (arith, length-head_words after, length-drop 25 all, long) in
        ext_get_or 0 (head_words (head_of after) ++ drop 25 all) (node_words after) (whole ∙ sym (length-node_words after))
        (λ k inside. ⊎_elim
        (λ (head : k < 25).
        get_or_append_left (head_words (head_of after)) (drop 25 all) 0 k (omega (arith, head, length-head_words after))
        ∙ sym (get_or_append_left (head_words (head_of after)) (entry_words after.entries) 0 k (omega (arith, head, length-head_words after))))
        (λ (entries : 25 ≤ k).
        let i : ℕ = k - 25 in
        let small : i < 32 = omega (arith, entries, inside, whole) in
        let e : 25 + i ≡ k = omega (arith, entries) in
        get_or-append_right (head_words (head_of after)) (drop 25 all) 25 k 0 (length-head_words after) entries
        ∙ (get_or-drop 25 all i 0 ∙ (entry_taken i small ∙ (sym (node_words-entry after i small) ∙ ap (λ z. get_or (node_words after) z 0) e))))
        (cases_lt k 25))

    -- and so, whatever they are called
    pub words_left : (words shorter_words out : List ℕ) (count place_of : ℕ) → node_words node ≡ words → count ≡ length node.entries → place_of ≡ at → shorter_words ≡ taken words (25 + count) (25 + place_of) →
        out ≡ head_words (head_of after) ++ drop 25 shorter_words → node_words after ≡ out
    words_left words shorter_words out count place_of spells counted placed shorter_is is = sym (is ∙ (rw (shorter_is, ← spells, counted, placed) words_taken))

-- ---- what is left
All_left : {A : Type 0} (F : A → Type 0) (xs : List A) (at : ℕ) → All F xs → All F (remove xs at)
All_left F xs at all = All-append F (take at xs) (drop (suc at) xs) (All-take F at xs all) (All-drop F (suc at) xs all)

module _ (node : NodeView) (has : HasNodeWords node) (at : ℕ) where
  -- one of two
  pub other_left : (entry : Entry) → at < 2 → length node.entries ≡ 2 → entry ≡ get_or node.entries (1 - at) (Leaf 0) → (without at (piece node) ≡ Place entry) × IsEntry entry
  other_left entry low two is =
      let here : at < length node.entries = omega (arith, low, two) in
      let other : get_or (remove node.entries at) 0 (Leaf 0) ≡ get_or node.entries (1 - at) (Leaf 0) = ⊎_elim
      (λ (first : at < 1). get_or-remove_above node.entries at (Leaf 0) 0 (omega (arith, first)) here ∙ ap (λ k. get_or node.entries k (Leaf 0)) (let e : 0 + 1 ≡ 1 - at = omega (arith, first) in e))
      (λ (second : 1 ≤ at). get_or-remove_below node.entries at (Leaf 0) 0 second here ∙ ap (λ k. get_or node.entries k (Leaf 0)) (let e : 0 ≡ 1 - at = omega (arith, second) in e))
      (cases_lt at 1) in (
        one_left node has.lawful at here two ∙ ap (λ (e : Entry). Place e) (other ∙ sym is),
        subst IsEntry (sym is) (has.lawful.children (1 - at) (Leaf 0) (omega (arith, two))),
      )

  -- the words of the entries that are left
  module _ (here : at < length node.entries) (words shorter_words mid : List ℕ) (count : ℕ) (spells : node_words node ≡ words) (counted : count ≡ length node.entries)
      (shorter_is : shorter_words ≡ taken words (25 + count) (25 + at)) (mid_is : mid ≡ take (count - 1) (drop 25 shorter_words)) where
    abbrev left : List Entry
    left = remove node.entries at

    left_long : length left + 1 ≡ length node.entries
    left_long = length-remove node.entries at here

    old_long : length words ≡ 57
    old_long = ap (λ (ws : List ℕ). length ws) (sym spells) ∙ length-node_words node

    shorter_long : length shorter_words ≡ 57
    shorter_long =
        ap (λ (ws : List ℕ). length ws) shorter_is
        ∙ (length-taken words (25 + count) (25 + at) (omega (arith, here, counted)) (omega (arith, old_long, counted, has.entries.room)) ∙ old_long)

    mid_long : length mid ≡ count - 1
    mid_long =
        ap (λ (ws : List ℕ). length ws) mid_is
        ∙ length-take-le (count - 1) (drop 25 shorter_words) (omega (arith, length-drop 25 shorter_words, shorter_long, counted, has.entries.room))

    word_at : (i : ℕ) → i < length left → entry_word (Some (get_or left i (Leaf 0))) ≡ get_or mid i 0
    word_at i inside =
        let after : NodeView = record node { entries = left } in
        let told : get_or (taken (node_words node) (25 + length node.entries) (25 + at)) (25 + i) 0 ≡ entry_word (slice_get left i) =
        entry_taken node after at here refl has.entries.room i (omega (arith, inside, left_long, has.entries.room)) in
        sym (ap (λ (ws : List ℕ). get_or ws i 0) mid_is
        ∙ (get_or-take (count - 1) (drop 25 shorter_words) i 0 (omega (arith, inside, left_long, counted)) ∙ (get_or-drop 25 shorter_words i 0
        ∙ (ap (λ (ws : List ℕ). get_or ws (25 + i) 0) shorter_is ∙ (ap₂ (λ (ws : List ℕ) (n : ℕ). get_or (taken ws (25 + n) (25 + at)) (25 + i) 0) (sym spells) counted
        ∙ (told ∙ ap (λ (o : Option Entry). entry_word o) (slice_get-get_or left i (Leaf 0) inside)))))))

    pub spells_left : SpellEntries node.height mid left
    spells_left = record {
      spells = ext_get_or 0 (map (λ entry. entry_word (Some entry)) left) mid (length-map left (λ entry. entry_word (Some entry)) ∙ omega (arith, mid_long, left_long, counted))
          (λ i inside. let low : i < length left = omega (arith, inside, length-map left (λ entry. entry_word (Some entry))) in
          get_or-map (λ entry. entry_word (Some entry)) left i (Leaf 0) 0 low ∙ word_at i low);
      each = All_left (λ entry. HasEntryWord (Some entry)) node.entries at (λ k d l. subst HasEntryWord (slice_get-get_or node.entries k d l) (has.entries.each k));
      stand = All_left (StandsBelow node.height) node.entries at (λ k d l. (has.lawful.children k d l, has.lawful.above k d l));
    }

-- ---- heights
pub height_told : (entry : Entry) → HasEntryWord (Some entry) → entry_word (Some entry) / 2 ^ 34 ≡ height_of entry
height_told (Leaf number) has = omega arith
height_told (Node number height) has = omega arith

-- one more word
pub height_more : (height : ℕ) (words : List ℕ) (entries : List Entry) (i : ℕ) → SpellEntries height words entries → i < length words →
    max (get_or words i 0 / 2 ^ 34) (greatest_height (drop (i + 1) entries)) ≡ greatest_height (drop i entries)
height_more height words entries i spell inside =
    let long : length words ≡ length entries = ap length (sym spell.spells) ∙ length-map entries (λ entry. entry_word (Some entry)) in
    let low : i < length entries = omega (arith, inside, long) in
    let e : Entry = get_or entries i (Leaf 0) in
    let word : get_or words i 0 ≡ entry_word (Some e) = ap (λ ws. get_or ws i 0) (sym spell.spells) ∙ get_or-map (λ entry. entry_word (Some entry)) entries i (Leaf 0) 0 low in
    let tall : get_or words i 0 / 2 ^ 34 ≡ height_of e = ap (λ w. w / 2 ^ 34) word ∙ height_told e (spell.each i (Leaf 0) low) in
    ap (λ h. max h (greatest_height (drop (i + 1) entries))) tall ∙ ap greatest_height (sym (drop_more entries i (Leaf 0) low))

-- leaves alone have no height
pub heights_flat : (height : ℕ) (words : List ℕ) (entries : List Entry) → height ≡ 1 → SpellEntries height words entries → greatest_height entries ≡ 0
heights_flat height words entries one spell = flat entries (λ k d l. subst (λ h. height_of (get_or entries k d) < h) one (spell.stand k d l).1)
  where
    flat : (es : List Entry) → All (λ e. height_of e < 1) es → greatest_height es ≡ 0
    flat [] all = refl
    flat (e ∷ es) all = omega (arith, all 0 e (omega arith), flat es (λ k d l. all (suc k) d (omega arith)))
