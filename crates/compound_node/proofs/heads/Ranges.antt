-- The entries of a run of rows are those that agree in the columns before a position.
use Rattle.compound_node.proofs.Common.{List, ap, arith, get_or, length, subst, sym, ℕ, ⊎_elim, ◌+◌, ◌-◌, ◌/◌, ◌%◌, ◌<◌, ◌^◌, ◌∙◌, ◌≡◌, ◌≤◌, ◌↔◌, [], ◌∷◌, zero, suc, drop, div-mul-le_self, cases_lt, cases_order, eq-eqb, eqb-true, false≢true, get_or-drop, length-drop, bit_at_above, bit_at_cat_high, same_from_bits, le-div, mod_below, pow_pos, shr_split, IsRunEnd, IsRunStart, affected_count, affected_first, ascends_back, front_below-place, IsPlaceOf, Ascends, front_below}
use Rattle.std.specs.Int.{bit_at}
use Rattle.compound_node.proofs.Ladders.{rises-ladder, shown-sparse_keys}
use Rattle.compound_node.proofs.Lawful.{affected_range_is, rows_fit, same_count}
use Rattle.compound_node.specs.Nodes.{AgreeBefore, HeadView, IsLawfulNode, NodeView, head_of, piece}
use Rattle.compound_node.specs.declared.entries.Entry.TheVariants.{Leaf}

-- ---- the first columns of rows
shr_bit : (n k i : ℕ) → k ≤ i → bit_at n i ≡ bit_at (n / 2 ^ k) (i - k)
shr_bit n k i l = ap (λ m. bit_at m i) (sym (shr_split n k)) ∙ bit_at_cat_high (n / 2 ^ k) k (n % 2 ^ k) i (mod_below n (2 ^ k) (pow_pos k)) l

div_rises : (a b m : ℕ) → 0 < m → a ≤ b → a / m ≤ b / m
div_rises a b m p l = le-div (a / m) b m p (omega (arith, div-mul-le_self a m))

bits_from_front : (n a b : ℕ) → n ≤ 31 → a / 2 ^ (32 - n) ≡ b / 2 ^ (32 - n) → (j : ℕ) → j < n → bit_at a (31 - j) ≡ bit_at b (31 - j)
bits_from_front n a b l e j m =
    shr_bit a (32 - n) (31 - j) (omega arith) ∙ ap (λ q. bit_at q (31 - j - (32 - n))) e ∙ sym (shr_bit b (32 - n) (31 - j) (omega arith))

front_from_bits : (n a b : ℕ) → n ≤ 31 → a < 2 ^ 32 → b < 2 ^ 32 → ((j : ℕ) → j < n → bit_at a (31 - j) ≡ bit_at b (31 - j)) → a / 2 ^ (32 - n) ≡ b / 2 ^ (32 - n)
front_from_bits n a b l la lb h = same_from_bits (a / 2 ^ (32 - n)) (b / 2 ^ (32 - n)) at
  where
    shifted : (c i : ℕ) → bit_at (c / 2 ^ (32 - n)) i ≡ bit_at c (i + (32 - n))
    shifted c i = let e : i + (32 - n) - (32 - n) ≡ i = omega arith in ap (bit_at (c / 2 ^ (32 - n))) (sym e) ∙ sym (shr_bit c (32 - n) (i + (32 - n)) (omega arith))

    at : (i : ℕ) → bit_at (a / 2 ^ (32 - n)) i ≡ bit_at (b / 2 ^ (32 - n)) i
    at i = ⊎_elim
        (λ (m : i + (32 - n) < 32). let j : ℕ = 31 - (i + (32 - n)) in let e : 31 - j ≡ i + (32 - n) = omega arith in
        shifted a i ∙ ap (bit_at a) (sym e) ∙ h j (omega arith) ∙ ap (bit_at b) e ∙ sym (shifted b i))
        (λ (m : 32 ≤ i + (32 - n)). shifted a i ∙ bit_at_above a 32 (i + (32 - n)) la m ∙ sym (shifted b i ∙ bit_at_above b 32 (i + (32 - n)) lb m))
        (cases_lt (i + (32 - n)) 32)

-- ---- the columns before a position
rises_at : (low : ℕ) (cs : List ℕ) → Ascends low cs → (j : ℕ) → j < length cs → low ≤ get_or cs j 0
rises_at low [] a j l = absurd (omega arith)
rises_at low (c ∷ cs) a zero l = let k : low < c + 1 = a.0 in omega arith
rises_at low (c ∷ cs) a (suc j) l = let k : low < c + 1 = a.0 in omega (arith, rises_at (c + 1) cs a.1 j (omega arith))

before_place : (cs : List ℕ) (p n j : ℕ) → Ascends 0 cs → IsPlaceOf cs p n → j < length cs → get_or cs j 0 < p → j < n
before_place cs p n j a place l below = ⊎_elim (λ m. m)
    (λ (m : n ≤ j).
    let back : n + (j - n) ≡ j = omega arith in
    let at : p ≤ get_or (drop n cs) (j - n) 0 = rises_at p (drop n cs) (ascends_back 0 p n cs place.in_range a place.above) (j - n) (rw length-drop (omega arith)) in
    let here : p ≤ get_or cs j 0 = subst (λ i. p ≤ get_or cs i 0) back (rw (get_or-drop n cs (j - n) 0) at at) in
    absurd (omega arith))
    (cases_lt j n)

-- THE AFFECTED RANGE, in terms of the rows
module _ (node : NodeView) (lawful : IsLawfulNode node) (position found n first last : ℕ) (here : found < length node.entries) (below : n ≡ front_below position node.columns)
    (start : IsRunStart node.rows n found first) (end : IsRunEnd node.rows n found last) where
  few : n ≤ 31
  few = let place : IsPlaceOf node.columns position (front_below position node.columns) = front_below-place position node.columns in omega (arith, below, place.in_range, lawful.positions.few)

  place_is : IsPlaceOf node.columns position n
  place_is = subst (IsPlaceOf node.columns position) (sym below) (front_below-place position node.columns)

  rises : (i k : ℕ) → i ≤ k → k < length node.rows → get_or node.rows i 0 / 2 ^ (32 - n) ≤ get_or node.rows k 0 / 2 ^ (32 - n)
  rises i k l m =
      let keys = shown-sparse_keys node.columns node.rows node.entries (piece node) lawful.shows in
      div_rises (get_or node.rows i 0) (get_or node.rows k 0) (2 ^ (32 - n)) (pow_pos (32 - n)) (rises-ladder node.rows keys.ladder i k l m)

  inside : (k : ℕ) → k < length node.entries → AgreeBefore node position found k → (first ≤ k) × (k ≤ last)
  inside k l agree =
      let count : length node.rows ≡ length node.entries = same_count node lawful in
      let e0 : last < length node.rows = end.in_range in let s0 : first ≤ found = start.in_range in let e1 : found ≤ last = end.at_least in
      let same : get_or node.rows found 0 / 2 ^ (32 - n) ≡ get_or node.rows k 0 / 2 ^ (32 - n) =
      front_from_bits n (get_or node.rows found 0) (get_or node.rows k 0) few (rows_fit (Leaf 0) node.columns node.rows node.entries (piece node) lawful.shows found (omega arith))
      (rows_fit (Leaf 0) node.columns node.rows node.entries (piece node) lawful.shows k (omega arith))
      (λ j m. let inner : j < length node.columns = omega (arith, place_is.in_range) in agree j inner (place_is.below j m)) in (
        ⊎_elim (λ (m : k < first). absurd (false≢true (sym (start.before (omega arith)) ∙ eq-eqb _ _ (omega (arith, same, rises k (first - 1) (omega arith) (omega arith), rises (first - 1) found (omega arith) (omega arith)))))) (λ m. m) (cases_lt k first),
        ⊎_elim (λ (m : last < k). absurd (false≢true (sym (end.after (omega arith)) ∙ eq-eqb _ _ (omega (arith, same, rises (last + 1) k (omega arith) (omega arith), rises found (last + 1) (omega arith) (omega arith)))))) (λ m. m) (cases_lt last k),
      )

  agrees : (k : ℕ) → (first ≤ k) × (k ≤ last) → AgreeBefore node position found k
  agrees k within j l before =
      let low : j < n = before_place node.columns position n j lawful.positions.rise place_is l before in
      ⊎_elim
      (λ (e : found ≡ k). ap (λ i. bit_at (get_or node.rows i 0) (31 - j)) e)
      (λ c. ⊎_elim
      (λ (m : found < k). sym (bits_from_front n (get_or node.rows k 0) (get_or node.rows found 0) few (eqb-true _ _ (end.same k m within.1)) j low))
      (λ (m : k < found). sym (bits_from_front n (get_or node.rows k 0) (get_or node.rows found 0) few (eqb-true _ _ (start.same k within.0 m)) j low)) c)
      (cases_order found k)

  pub agree_range : (k : ℕ) → k < length node.entries → AgreeBefore node position found k ↔ ((first ≤ k) × (k ≤ last))
  agree_range k l = (inside k l, agrees k)

-- ---- of a head, in each of its nodes
pub record IsRange (node : NodeView) (position found first last : ℕ) : Type 0 where
  pub range : (k : ℕ) → k < length node.entries → AgreeBefore node position found k ↔ ((first ≤ k) × (k ≤ last))
  pub from : affected_first position found (piece node) ≡ first
  pub upto : affected_count position found (piece node) + first ≡ last + 1

pub range_of_head : (head : HeadView) (position found n first last : ℕ) → found < length head.rows → n ≡ front_below position head.columns → IsRunStart head.rows n found first → IsRunEnd head.rows n found last →
    (node : NodeView) → IsLawfulNode node → head_of node ≡ head → IsRange node position found first last
range_of_head head position found n first last here below start end node lawful same =
    let at_head = sym same in
    let its_here : found < length node.rows = subst (λ (h : HeadView). found < length h.rows) at_head here in
    let inside : found < length node.entries = omega (arith, its_here, same_count node lawful) in
    let its_below : n ≡ front_below position node.columns = subst (λ (h : HeadView). n ≡ front_below position h.columns) at_head below in
    let its_start : IsRunStart node.rows n found first = subst (λ (h : HeadView). IsRunStart h.rows n found first) at_head start in
    let its_end : IsRunEnd node.rows n found last = subst (λ (h : HeadView). IsRunEnd h.rows n found last) at_head end in
    let part = affected_range_is node lawful position found n first last inside its_below its_start its_end in
    record { range = agree_range node lawful position found n first last inside its_below its_start its_end; from = part.0; upto = part.1 }
