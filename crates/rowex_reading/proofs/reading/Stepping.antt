-- A head's words, as many as its kind says, loaded in parts one after the other; and the step at their node.
use Rattle.rowex_reading.proofs.Common.{◌≡◌, Bool, ℕ, ◌+◌, ◌-◌, ◌^◌, ◌<◌, ◌≤◌, ◌++◌, List, [], ◌∷◌, length, length-append, get_or, get_or-take, replicate, take, drop, refl, ap, subst, sym, ◌∙◌, arith, lit<, lit≤, append-nil, drop_at, get_or_append_left, length-replicate, take-take, take_all, take_at, Leaf, Node, HeadView, NodeView, IsLawfulNode, head_of, leaves, node_of, piece, PathNode, bit_of, dense_of, leads_to, Layout, FIRST_ROWS, HEAD_WORDS, ROW_WORDS, head_size, kind_in, kind_of, mask_index, head_words, HeadKind, Middle, Narrow, Wide, IsSpelling, length-head_words, told, recalls, head_is, IsSized, IsPacked, Known, Key, spot, a_node}
use Rattle.compound_node.proofs.Roots.{root_of_head}
use Rattle.record_words.specs.HeadParts.{AreNumbersOf, HasHeadOf, InNodesOfKind, InNodesWith, back_words, front_words}
use Rattle.record_words.specs.declared.numbers.HeadNumbers.{HeadNumbers}
use Rattle.record_words.proofs.Lanes.{one_of}
use Rattle.rowex_reading.specs.Possible.{IsPossible}
use Rattle.rowex_reading.specs.Seen.{AreHeadWords, AreLoaded, IsHeadSeen, IsLedTo, shape_of}
use Rattle.rowex_reading.specs.Ways.{step_at}
use Rattle.rowex_reading.proofs.descent.Descent.{step_is}
use Rattle.rowex_reading.proofs.reading.Heading.{kind_tells, part_read}
use Rattle.rowex_reading.proofs.Seen.{recalls_before, search_spot}
use Rattle.rowex_reading.proofs.Seen.Standing.{is_packed}
use Rattle.rowex_reading.proofs.reading.Wording.{both_loaded, led_stood, word_now, words_now}

-- the first words of a wide head have been loaded: they are those of some node
pub front_spelled : (layout : Layout) (k j : Known) (n : ℕ) (front : List ℕ) → IsPossible layout j → AreLoaded k j (a_node n) 0 (λ o. o < length front) front → length front ≡ FIRST_ROWS → kind_in (get_or front 0 0) ≡ Wide → (m h : ℕ) → IsLedTo k m (Node n h) →
    IsSpelling (HasHeadOf Wide) front_words front
unfolding IsPacked
front_spelled layout k j n front possible loaded long wide m h led =
    let c = possible.core in
    let known = recalls c j possible.knows in
    let before = recalls_before loaded.later known in
    let packed = is_packed c k possible.lawful before m led.0 (Node n h) (led.1 c possible.lawful before) in
    let sized : IsSized (a_node n) (c.words (a_node n)) = possible.lawful.records.sized (a_node n) in
    let head = head_is packed.0 (c.words (a_node n)) sized.1 packed.1 packed.2 in
    let now = words_now FIRST_ROWS front (c.words (a_node n)) long (omega (arith, sized.0))
    (λ o low. word_now k j (a_node n) (λ o. o < length front) front loaded m (led_stood k m (Node n h) led) c possible.lawful known o (omega (arith, low, long)) (omega arith, omega (arith, low)) tt) in
    let same : take FIRST_ROWS (head_words (head_of packed.0)) ≡ front = ap (take FIRST_ROWS) head ∙ (take-take FIRST_ROWS HEAD_WORDS (c.words (a_node n)) (lit≤ tt) ∙ sym now) in
    let kind : kind_of packed.0.columns ≡ Wide = sym (told packed.0 packed.1.lawful (head_words (head_of packed.0)) refl).kind_told
    ∙ (ap kind_in (sym (get_or-take FIRST_ROWS (head_words (head_of packed.0)) 0 0 (lit< tt)) ∙ ap (λ (ws : List ℕ). get_or ws 0 0) same) ∙ wide) in
    (head_of packed.0, ((packed.0, packed.1.lawful, refl), kind), same)

-- ---- the first word, and those behind it
abbrev pub begun : List ℕ → List ℕ → List ℕ
begun first more = get_or first 0 0 ∷ (more ++ [])

pub begun_long : (first more : List ℕ) → length (begun first more) ≡ 1 + length more
begun_long first more = omega (arith, ap (λ (ws : List ℕ). length ws) (append-nil more))

pub begun_loaded : {k j i : Known} {n : ℕ} (first more : List ℕ) → length first ≡ 1 → AreLoaded k j (a_node n) 0 (λ o. o < length first) first → AreLoaded j i (a_node n) 1 (λ o. o < length more) more →
    AreLoaded k i (a_node n) 0 (λ o. o < length (begun first more)) (begun first more)
begun_loaded {k} {j} {i} {n} first more long loaded behind =
    subst (λ (ws : List ℕ). AreLoaded k i (a_node n) 0 (λ o. o < length ws) ws) (ap (λ (ws : List ℕ). get_or first 0 0 ∷ ws) (sym (append-nil more)))
    (both_loaded k j i (a_node n) (get_or first 0 0 ∷ []) more (subst (λ (ws : List ℕ). AreLoaded k j (a_node n) 0 (λ o. o < length ws) ws) (one_of first long) loaded) behind)

-- a near head has been loaded, as far as its words say something
pub near_read : (layout : Layout) (k j i : Known) (n : ℕ) (kind : HeadKind) (first more : List ℕ) → IsPossible layout i → AreLoaded k j (a_node n) 0 (λ o. o < length first) first →
    AreLoaded j i (a_node n) 1 (λ o. o < length more) more → kind_in (get_or first 0 0) ≡ kind → length first ≡ 1 → 1 + length more ≡ head_size kind → (m h : ℕ) → IsLedTo k m (Node n h) →
    AreHeadWords i m n h (begun first more ++ replicate (HEAD_WORDS - head_size kind) (2 ^ 64 - 1))
near_read layout k j i n kind first more possible loaded behind is one long m h led =
    let size : length (begun first more) ≡ head_size kind = begun_long first more ∙ long in
    part_read layout k i n (begun first more) (begun first more ++ replicate (HEAD_WORDS - head_size kind) (2 ^ 64 - 1)) possible (begun_loaded first more one loaded behind)
    (omega (arith, size, most kind)) (kind_tells kind (begun first more) is size) m h led
  where
    most : (kind : HeadKind) → head_size kind ≤ HEAD_WORDS
    most Wide = omega arith
    most Narrow = omega arith
    most Middle = omega arith

-- and the words behind these need no load
pub kind_read : (layout : Layout) (k j i : Known) (n : ℕ) (kind : HeadKind) (first more : List ℕ) → IsPossible layout i → AreLoaded k j (a_node n) 0 (λ o. o < length first) first →
    AreLoaded j i (a_node n) 1 (λ o. o < length more) more → kind_in (get_or first 0 0) ≡ kind → length first ≡ 1 → 1 + length more ≡ head_size kind → (m h : ℕ) → IsLedTo k m (Node n h) →
    AreHeadWords i m n h (get_or first 0 0 ∷ (more ++ replicate (HEAD_WORDS - head_size kind) (2 ^ 64 - 1)))
kind_read layout k j i n kind first more possible loaded behind is one long m h led =
    subst (λ (ws : List ℕ). AreHeadWords i m n h (get_or first 0 0 ∷ (ws ++ replicate (HEAD_WORDS - head_size kind) (2 ^ 64 - 1)))) (append-nil more)
    (near_read layout k j i n kind first more possible loaded behind is one long m h led)

-- a wide head has been loaded
pub wide_read : (layout : Layout) (k j i : Known) (n : ℕ) (front back : List ℕ) → IsPossible layout i → AreLoaded k j (a_node n) 0 (λ o. o < length front) front →
    AreLoaded j i (a_node n) FIRST_ROWS (λ o. o < length back) back → kind_in (get_or front 0 0) ≡ Wide → length front ≡ FIRST_ROWS → length back ≡ ROW_WORDS → (m h : ℕ) → IsLedTo k m (Node n h) →
    AreHeadWords i m n h ((front ++ back) ++ [])
wide_read layout k j i n front back possible loaded behind is long back_long m h led =
    let size : length (front ++ back) ≡ HEAD_WORDS = length-append front back ∙ omega (arith, long, back_long) in
    let first : get_or (front ++ back) 0 0 ≡ get_or front 0 0 = get_or_append_left front back 0 0 (omega (arith, long)) in
    part_read layout k i n (front ++ back) ((front ++ back) ++ []) possible
    (both_loaded k j i (a_node n) front back loaded (subst (λ from. AreLoaded j i (a_node n) from (λ o. o < length back) back) (sym long) behind))
    (omega (arith, size)) (kind_tells Wide (front ++ back) (ap kind_in first ∙ is) size) m h led

-- ---- the step at a node whose head has these words
same_step : (n m height tall first other count many at place : ℕ) → n ≡ m → height ≡ tall → first ≡ other → count ≡ many → at ≡ place →
    ◌≡◌ {A = PathNode} (record { number = n; height = height; first_position = first; count = count; slot = at }) (record { number = m; height = tall; first_position = other; count = many; slot = place })
same_step n m height tall first other count many at place a b c d e = rw (a, b, c, d, e) refl

module _ {k : Known} {m n h : ℕ} (words : List ℕ) (are : AreHeadWords k m n h words) where
  abbrev node : NodeView
  node = node_of are.head (leaves (length are.head.rows))

  abbrev pub IsStepOf : HeadNumbers → ℕ → PathNode → Type 0
  IsStepOf numbers word step = InNodesWith numbers (mask_index numbers.kind 0) word (λ v. (step.height ≡ v.height) × (step.count ≡ length v.entries) × (step.first_position ≡ get_or v.columns 0 0))

  pub step_spelled : (numbers : HeadNumbers) → ((v : NodeView) → IsLawfulNode v → get_or (head_words (head_of v)) 0 0 ≡ get_or words 0 0 → AreNumbersOf numbers v) → (word : ℕ) → word ≡ get_or words (mask_index numbers.kind 0) 0 →
      (step : PathNode) (number at : ℕ) → (step.number ≡ number) × (step.slot ≡ at) → IsStepOf numbers word step → step ≡ step_at are.head number at
  step_spelled numbers numbers_are word word_is step number at same fits =
      let its = numbers_are node are.seen.lawful (ap (λ (ws : List ℕ). get_or ws 0 0) are.words_are) in
      let parts = fits node are.seen.lawful its (ap (λ (ws : List ℕ). get_or ws (mask_index numbers.kind 0) 0) are.words_are ∙ sym word_is) in
      same_step step.number number step.height are.head.height step.first_position step.first_position step.count step.count step.slot at same.0 parts.0 refl refl same.1
      ∙ step_is are.head are.seen.lawful number at step.count step.first_position (parts.1 ∙ length-replicate (length are.head.rows) (Leaf 0)) (root_of_head are.head step.first_position parts.2)

  -- so the step that a search finds is at the node, by its slot
  pub step_found : (numbers : HeadNumbers) → ((v : NodeView) → IsLawfulNode v → get_or (head_words (head_of v)) 0 0 ≡ get_or words 0 0 → AreNumbersOf numbers v) → (kind : HeadKind) → numbers.kind ≡ kind → (word : ℕ) → word ≡ get_or words (mask_index kind 0) 0 →
      (step : PathNode) (at : ℕ) → (step.number ≡ n) × (step.slot ≡ at) → IsStepOf numbers word step → (key : Key) → at ≡ spot key (shape_of are.head) →
      (head : HeadView) × IsHeadSeen k m n h head × (step ≡ step_at head n (spot key (shape_of head)))
  step_found numbers numbers_are kind is word word_is step at same fits key leads = (
    are.head,
    are.seen,
    step_spelled numbers numbers_are word (word_is ∙ ap (λ z. get_or words (mask_index z 0) 0) (sym is)) step n at same fits ∙ ap (step_at are.head n) leads,
  )

-- ---- a head of a kind
module _ {k : Known} {m n h : ℕ} (kind : HeadKind) (part : List ℕ) (is : kind_in (get_or part 0 0) ≡ kind) (long : length part ≡ head_size kind)
    (are : AreHeadWords k m n h (part ++ replicate (HEAD_WORDS - head_size kind) (2 ^ 64 - 1))) where
  some : 0 < length part
  some = omega (arith, long, size_some kind)
    where
      size_some : (kind : HeadKind) → 0 < head_size kind
      size_some Wide = omega arith
      size_some Narrow = omega arith
      size_some Middle = omega arith

  pub part_word : (i : ℕ) → i < length part → get_or (part ++ replicate (HEAD_WORDS - head_size kind) (2 ^ 64 - 1)) i 0 ≡ get_or part i 0
  part_word i low = get_or_append_left part (replicate (HEAD_WORDS - head_size kind) (2 ^ 64 - 1)) 0 i low

  module _ (other : NodeView) (lawful : IsLawfulNode other) (same : head_of other ≡ are.head) where
    other_words : head_words (head_of other) ≡ part ++ replicate (HEAD_WORDS - head_size kind) (2 ^ 64 - 1)
    other_words = ap head_words same ∙ are.words_are

    pub other_kind : kind_of other.columns ≡ kind
    other_kind = sym (told other lawful (head_words (head_of other)) refl).kind_told ∙ (ap kind_in (ap (λ (ws : List ℕ). get_or ws 0 0) other_words ∙ part_word 0 some) ∙ is)

    pub other_part : take (head_size kind) (head_words (head_of other)) ≡ part
    other_part = ap (take (head_size kind)) other_words ∙ take_at part (replicate (HEAD_WORDS - head_size kind) (2 ^ 64 - 1)) (head_size kind) long

  -- some node has it
  pub has_head : HasHeadOf kind are.head
  has_head = ((node_of are.head (leaves (length are.head.rows)), are.seen.lawful, refl), other_kind (node_of are.head (leaves (length are.head.rows))) are.seen.lawful refl)

  pub part_spelled : IsSpelling (HasHeadOf kind) (λ head. take (head_size kind) (head_words head)) part
  part_spelled = (are.head, has_head, other_part (node_of are.head (leaves (length are.head.rows))) are.seen.lawful refl)

  -- the place to which its forks lead
  pub part_spot : (key : Key) (at : ℕ) → InNodesOfKind kind (λ head. take (head_size kind) (head_words head)) part (λ v. at ≡ leads_to (bit_of key) (piece v)) → at ≡ spot key (shape_of are.head)
  part_spot key at leads = search_spot are.head key at are.seen.lawful (λ other law same. leads other law (other_kind other law same) (other_part other law same))

-- ---- a wide head in two parts
module _ {k : Known} {m n h : ℕ} (front back : List ℕ) (is : kind_in (get_or (front ++ back) 0 0) ≡ Wide) (long : length front ≡ FIRST_ROWS) (back_long : length back ≡ ROW_WORDS) (are : AreHeadWords k m n h ((front ++ back) ++ [])) where
  size : length (front ++ back) ≡ HEAD_WORDS
  size = length-append front back ∙ omega (arith, long, back_long)

  front_of : (other : NodeView) (lawful : IsLawfulNode other) → head_of other ≡ are.head → front_words (head_of other) ≡ front
  front_of other lawful same =
      ap (take FIRST_ROWS) (sym (take_all HEAD_WORDS (head_words (head_of other)) (omega (arith, length-head_words other))) ∙ other_part Wide (front ++ back) is size are other lawful same)
      ∙ take_at front back FIRST_ROWS long

  back_of : (other : NodeView) (lawful : IsLawfulNode other) → head_of other ≡ are.head → back_words (head_of other) ≡ back
  back_of other lawful same =
      ap (drop FIRST_ROWS) (sym (take_all HEAD_WORDS (head_words (head_of other)) (omega (arith, length-head_words other))) ∙ other_part Wide (front ++ back) is size are other lawful same)
      ∙ drop_at front back FIRST_ROWS long

  pub back_spelled : IsSpelling (HasHeadOf Wide) back_words back
  back_spelled = (are.head, has_head Wide (front ++ back) is size are, back_of (node_of are.head (leaves (length are.head.rows))) are.seen.lawful refl)

  -- the place to which the forks lead
  pub wide_spot : (key : Key) (dense at : ℕ) → InNodesOfKind Wide front_words front (λ v. dense ≡ dense_of v.columns (bit_of key)) →
      InNodesOfKind Wide back_words back (λ v. (bit : ℕ → Bool) → dense ≡ dense_of v.columns bit → at ≡ leads_to bit (piece v)) → at ≡ spot key (shape_of are.head)
  wide_spot key dense at gathered leads = search_spot are.head key at are.seen.lawful
      (λ other law same. let wide = other_kind Wide (front ++ back) is size are other law same in
      leads other law wide (back_of other law same) (bit_of key) (gathered other law wide (front_of other law same)))
