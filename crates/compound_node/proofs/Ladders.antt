-- Rows of which each comes next are the rows of a piece, and the other way round.
use Rattle.compound_node.proofs.Common.{◌≡◌, ℕ, zero, suc, ◌+◌, ◌-◌, ◌*◌, ◌%◌, ◌^◌, ◌<◌, ◌≤◌, Bool, true, false, cond, eqb, ◌||◌, List, [], ◌∷◌, ◌++◌, map, length, take, drop, get_or, refl, sym, ap, subst, ◌∙◌, arith, ⊎_elim, length-append, bit_and, nat_eq, add-mul-mod_self_right, mod-eq_of_lt, mod_self, pow-suc, cases_Bool, cases_eq, cases_lt, eq-eqb, eqb-true, false≢true, or_right, or_left, get_or_append_left, get_or-append_right, get_or-drop, get_or-map, get_or-take, length-drop, length-map, length-take-le, map-append, take-append-drop, and_block, and_mask, pow_pos, pow-add, map-map, code-falses, code-lt, row, row-set, row-skip, shown, length-paths, none_before, RisesFrom-weaker, size_pos, has_after, IsPlaceOf, map_same, later_columns, UsesOnly-more, Piece, Place, Fork, paths, places, RisesFrom, size, UsesOnly, Ascends, front_below, has, front_below-place, code, or_all-piece, piece_of, ShowsPiece, or_all, uses, all, mul-mod_left, le_or_l, le_or_r, or_mod, pow_below, and_from, and_parts}
use Rattle.compound_node.specs.Ladders.{AreSparseKeys, IsLadder, IsNextRow}
use Rattle.std.specs.Prelude.{bit_or}

-- the numbers one bit wider, that bit being 1
abbrev pub raised : ℕ → List ℕ → List ℕ
raised w rows = map (λ row. 2 ^ w + row) rows

-- ---- the rows of a fork at the first column, and of a piece that forks later
module _ {A : Type 0} (w c : ℕ) (cs : List ℕ) where
  pub rows-fork : (s t : Piece A) → Ascends (c + 1) cs → RisesFrom (c + 1) s → map (row (suc w) (c ∷ cs)) (paths (Fork c s t)) ≡ map (row w cs) (paths s) ++ raised w (map (row w cs) (paths t))
  rows-fork s t a r =
      map-append (row (suc w) (c ∷ cs)) (paths s) (map (λ path. c ∷ path) (paths t))
      ∙ (rw (row-skip w c cs (paths s) (none_before c s r), map-map (row (suc w) (c ∷ cs)) (λ path. c ∷ path) (paths t), map-map (λ r. 2 ^ w + r) (row w cs) (paths t))
      (ap (λ rs. map (row w cs) (paths s) ++ rs) (map_same (λ path. row (suc w) (c ∷ cs) (c ∷ path)) (λ path. 2 ^ w + row w cs path) (paths t) (λ z. row-set w c cs z a))))

  pub rows-later : (P : Piece A) → RisesFrom (c + 1) P → map (row (suc w) (c ∷ cs)) (paths P) ≡ map (row w cs) (paths P)
  rows-later P r = row-skip w c cs (paths P) (none_before c P r)

pub row_at : {A : Type 0} (w : ℕ) (cs : List ℕ) (P : Piece A) (k : ℕ) → k < size P → get_or (map (row w cs) (paths P)) k 0 ≡ row w cs (get_or (paths P) k [])
row_at w cs P k l = get_or-map (row w cs) (paths P) k [] 0 (rw (length-paths P) l)

-- ---- the part of a row before its lowest 1
pub without_lowest-raised : (w r : ℕ) → 0 < r → r < 2 ^ w → bit_and (2 ^ w + r) (2 ^ w + r - 1) ≡ 2 ^ w + bit_and r (r - 1)
without_lowest-raised w r p l =
    let a : 2 ^ w + r ≡ 1 * 2 ^ w + r = omega arith in
    let b : 2 ^ w + r - 1 ≡ 1 * 2 ^ w + (r - 1) = omega arith in
    ap (λ m. bit_and m (2 ^ w + r - 1)) a ∙ ap (bit_and (1 * 2 ^ w + r)) b ∙ and_block w 1 1 r (r - 1) l (omega arith) ∙ omega arith

pub without_lowest-power : (w : ℕ) → bit_and (2 ^ w) (2 ^ w - 1) ≡ 0
without_lowest-power w = and_mask (2 ^ w) w ∙ mod_self (2 ^ w)

module _ (w a b : ℕ) (fits : b < 2 ^ w) where
  next-raised : IsNextRow a b → IsNextRow (2 ^ w + a) (2 ^ w + b)
  next-raised n = let p : a < b = n.goes_on in let t : bit_and b (b - 1) ≤ a = n.takes_up in
      record { takes_up = omega (arith, without_lowest-raised w b (omega arith) fits); goes_on = omega arith }

  next-lowered : IsNextRow (2 ^ w + a) (2 ^ w + b) → IsNextRow a b
  next-lowered n = let p : 2 ^ w + a < 2 ^ w + b = n.goes_on in let t : bit_and (2 ^ w + b) (2 ^ w + b - 1) ≤ 2 ^ w + a = n.takes_up in
      record { takes_up = omega (arith, without_lowest-raised w b (omega arith) fits); goes_on = omega arith }

next_at : {a b c d : ℕ} → a ≡ c → b ≡ d → IsNextRow c d → IsNextRow a b
next_at e f n = subst (λ (q : ℕ × ℕ). IsNextRow q.0 q.1) (rw (e, f)) n

-- ---- the rows of a piece are a ladder
module _ (w : ℕ) (xs ys : List ℕ) (lx : IsLadder xs) (ly : IsLadder ys) (some : 0 < length xs) (also : 0 < length ys)
    (below : (k : ℕ) → k < length xs → get_or xs k 0 < 2 ^ w) (within : (k : ℕ) → k < length ys → get_or ys k 0 < 2 ^ w) where
  pub front_at : (k : ℕ) → k < length xs → get_or (xs ++ raised w ys) k 0 ≡ get_or xs k 0
  front_at k l = get_or_append_left xs (raised w ys) 0 k l

  pub rest_at : (k : ℕ) → k < length ys → get_or (xs ++ raised w ys) (length xs + k) 0 ≡ 2 ^ w + get_or ys k 0
  rest_at k l = let e : length xs + k - length xs ≡ k = omega arith in
      get_or-append_right xs (raised w ys) (length xs) (length xs + k) 0 refl (omega arith) ∙ (rw e (get_or-map (λ row. 2 ^ w + row) ys k 0 0 l))

  pub ladder-join : IsLadder (xs ++ raised w ys)
  ladder-join = record { first = front_at 0 some ∙ lx.first; steps = steps }
    where
      long : length (xs ++ raised w ys) ≡ length xs + length ys
      long = length-append xs (raised w ys) ∙ ap (λ n. length xs + n) (length-map ys (λ row. 2 ^ w + row))

      steps : (k : ℕ) → k + 1 < length (xs ++ raised w ys) → IsNextRow (get_or (xs ++ raised w ys) k 0) (get_or (xs ++ raised w ys) (k + 1) 0)
      steps k l = ⊎_elim
          (λ (m : k + 1 < length xs). next_at (front_at k (omega arith)) (front_at (k + 1) m) (lx.steps k m))
          (λ (m : length xs ≤ k + 1). ⊎_elim
          (λ (n : k < length xs). let b : length xs + 0 ≡ k + 1 = omega arith in
          let at : get_or (xs ++ raised w ys) (k + 1) 0 ≡ 2 ^ w = ap (λ i. get_or (xs ++ raised w ys) i 0) (sym b) ∙ rest_at 0 also ∙ ap (λ r. 2 ^ w + r) ly.first ∙ omega arith in
          next_at (front_at k n) at (record { takes_up = omega (arith, without_lowest-power w); goes_on = below k n }))
          (λ (n : length xs ≤ k). let j : ℕ = k - length xs in
          let a : length xs + j ≡ k = omega arith in let b : length xs + (j + 1) ≡ k + 1 = omega arith in
          next_at (ap (λ i. get_or (xs ++ raised w ys) i 0) (sym a) ∙ rest_at j (omega (arith, long)))
          (ap (λ i. get_or (xs ++ raised w ys) i 0) (sym b) ∙ rest_at (j + 1) (omega (arith, long)))
          (next-raised w (get_or ys j 0) (get_or ys (j + 1) 0) (within (j + 1) (omega (arith, long))) (ly.steps j (omega (arith, long)))))
          (cases_lt k (length xs)))
          (cases_lt (k + 1) (length xs))

module _ {A : Type 0} where
  pub rows_fit : (w : ℕ) (cs : List ℕ) (P : Piece A) (k : ℕ) → k < length (map (row w cs) (paths P)) → get_or (map (row w cs) (paths P)) k 0 < 2 ^ w
  rows_fit w cs P k l = let m : k < size P = subst (λ n. k < n) (length-map (paths P) (row w cs) ∙ length-paths P) l in
      rw (row_at w cs P k m) (code-lt w (map (has (get_or (paths P) k [])) cs))

  pub length-rows : (w : ℕ) (cs : List ℕ) (P : Piece A) → length (map (row w cs) (paths P)) ≡ size P
  length-rows w cs P = length-map (paths P) (row w cs) ∙ length-paths P

  pub ladder-rows : (w : ℕ) (cs : List ℕ) (low : ℕ) (P : Piece A) → length cs ≤ w → Ascends low cs → UsesOnly cs P → RisesFrom low P → IsLadder (map (row w cs) (paths P))
  ladder-rows w cs low (Place x) l a u r = record { first = code-falses w cs; steps = λ k m. absurd (omega arith) }
  ladder-rows w [] low (Fork p s t) l a u r = absurd (false≢true u.0)
  ladder-rows zero (c ∷ cs) low (Fork p s t) l a u r = absurd (omega arith)
  ladder-rows (suc w) (c ∷ cs) low (Fork p s t) l a u r = ⊎_elim
      (λ (e : eqb c p ≡ true). let same : c ≡ p = eqb-true c p e in
      let rs : RisesFrom (c + 1) s = (rw same r.1) in let rt : RisesFrom (c + 1) t = (rw same r.2) in
      let join : IsLadder (map (row w cs) (paths s) ++ raised w (map (row w cs) (paths t))) =
      ladder-join w (map (row w cs) (paths s)) (map (row w cs) (paths t))
      (ladder-rows w cs (c + 1) s (omega arith) a.1 (later_columns c cs s u.1 rs) rs) (ladder-rows w cs (c + 1) t (omega arith) a.1 (later_columns c cs t u.2 rt) rt)
      (rw (length-rows w cs s) (size_pos s)) (rw (length-rows w cs t) (size_pos t)) (rows_fit w cs s) (rows_fit w cs t) in
      subst (λ q. IsLadder (map (row (suc w) (c ∷ cs)) (paths (Fork q s t)))) same (subst IsLadder (sym (rows-fork w c cs s t a.1 rs)) join))
      (λ (e : eqb c p ≡ false). let h : (eqb c p || has cs p) ≡ true = u.0 in let g : has cs p ≡ true = (rw e at h) in let after : c + 1 ≤ p = has_after (c + 1) p cs a.1 g in
      let q : RisesFrom (c + 1) (Fork p s t) = (omega arith, r.1, r.2) in
      subst IsLadder (sym (rows-later w c cs (Fork p s t) q)) (ladder-rows w cs (c + 1) (Fork p s t) (omega arith) a.1 (later_columns c cs (Fork p s t) u q) q))
      (cases_Bool (eqb c p))

-- ---- a ladder is the rows of the piece that is read from it
-- what was read shows the rows, over the columns of w bits
pub record Reads {A : Type 0} (low w : ℕ) (cs rows : List ℕ) (es : List A) (P : Piece A) : Type 0 where
  pub rows_are : rows ≡ map (row w cs) (paths P)
  pub entries_are : es ≡ places P
  pub only : UsesOnly cs P
  pub rises : RisesFrom low P

pub rises-ladder : (rows : List ℕ) → IsLadder rows → (j k : ℕ) → j ≤ k → k < length rows → get_or rows j 0 ≤ get_or rows k 0
rises-ladder rows ladder j zero l m = let e : j ≡ 0 = omega arith in rw e (omega arith)
rises-ladder rows ladder j (suc k) l m = ⊎_elim
    (λ (e : j ≡ suc k). rw e (omega arith))
    (λ e. let next : IsNextRow (get_or rows k 0) (get_or rows (k + 1) 0) = ladder.steps k (omega arith) in
    let s : k + 1 ≡ suc k = omega arith in
    let up : get_or rows k 0 < get_or rows (suc k) 0 = subst (λ i. get_or rows k 0 < get_or rows i 0) s next.goes_on in
    omega (arith, rises-ladder rows ladder j k (omega arith) (omega arith)))
    (cases_eq j (suc k))

pub single_row : (rows : List ℕ) → length rows ≡ 1 → get_or rows 0 0 ≡ 0 → rows ≡ 0 ∷ []
single_row [] e z = absurd (omega arith)
single_row (row ∷ []) e z = rw z refl
single_row (row ∷ next ∷ rows) e z = absurd (omega arith)

single_entry : {A : Type 0} (d : A) (es : List A) → length es ≡ 1 → es ≡ get_or es 0 d ∷ []
single_entry d [] e = absurd (omega arith)
single_entry d (x ∷ []) e = refl
single_entry d (x ∷ y ∷ es) e = absurd (omega arith)

raised-lowered : (w : ℕ) (rows : List ℕ) → ((k : ℕ) → k < length rows → 2 ^ w ≤ get_or rows k 0) → raised w (map (λ row. row - 2 ^ w) rows) ≡ rows
raised-lowered w [] h = refl
raised-lowered w (row ∷ rows) h = let m : 2 ^ w ≤ row = h 0 (omega arith) in
    let e : 2 ^ w + (row - 2 ^ w) ≡ row = omega arith in
    rw (e, raised-lowered w rows (λ k l. h (suc k) (omega arith))) refl

-- the two sides of the first column, where some row has a 1 there
module _ (w k : ℕ) (rows : List ℕ) (ladder : IsLadder rows) (fits : (j : ℕ) → j < length rows → get_or rows j 0 < 2 ^ suc w)
    (place : IsPlaceOf rows (2 ^ w) k) (some : k < length rows) where
  front_some : 0 < k
  front_some = ⊎_elim (λ m. m) (λ (m : k ≤ 0). let z : k ≡ 0 = omega arith in
      let high : 2 ^ w ≤ get_or rows 0 0 = subst (λ i. 2 ^ w ≤ get_or rows i 0) z (place.above some) in
      absurd (omega (arith, pow_pos w, ladder.first))) (cases_lt 0 k)

  front_ladder : IsLadder (take k rows)
  front_ladder = record {
    first = get_or-take k rows 0 0 front_some ∙ ladder.first;
    steps = λ j l. let n : length (take k rows) ≡ k = length-take-le k rows (omega arith) in
        next_at (get_or-take k rows j 0 (omega arith)) (get_or-take k rows (j + 1) 0 (omega arith)) (ladder.steps j (omega arith));
  }

  low_at : (j : ℕ) → k + j < length rows → get_or (map (λ row. row - 2 ^ w) (drop k rows)) j 0 ≡ get_or rows (k + j) 0 - 2 ^ w
  low_at j l = get_or-map (λ row. row - 2 ^ w) (drop k rows) j 0 0 (rw (length-drop k rows) (omega arith)) ∙ ap (λ r. r - 2 ^ w) (get_or-drop k rows j 0)

  high_at : (j : ℕ) → k + j < length rows → (2 ^ w ≤ get_or rows (k + j) 0) × (get_or rows (k + j) 0 < 2 ^ w + 2 ^ w)
  high_at j l = (
    let a : 2 ^ w ≤ get_or rows k 0 = place.above some in let b : get_or rows k 0 ≤ get_or rows (k + j) 0 = rises-ladder rows ladder k (k + j) (omega arith) l in omega arith,
    let c : get_or rows (k + j) 0 < 2 ^ suc w = fits (k + j) l in omega (arith, pow-suc 2 w),
  )

  -- the first row with a 1 there has no other
  first_high : get_or rows k 0 ≡ 2 ^ w
  first_high =
      let e : k + 0 ≡ k = omega arith in
      let r : ℕ = get_or rows k 0 - 2 ^ w in
      let h : (2 ^ w ≤ get_or rows (k + 0) 0) × (get_or rows (k + 0) 0 < 2 ^ w + 2 ^ w) = high_at 0 (omega arith) in
      let a : 2 ^ w ≤ get_or rows k 0 = subst (λ i. 2 ^ w ≤ get_or rows i 0) e h.0 in
      let b : get_or rows k 0 < 2 ^ w + 2 ^ w = subst (λ i. get_or rows i 0 < 2 ^ w + 2 ^ w) e h.1 in
      let is : get_or rows k 0 ≡ 2 ^ w + r = omega arith in
      let back : k - 1 + 1 ≡ k = omega (arith, front_some) in
      let next : IsNextRow (get_or rows (k - 1) 0) (get_or rows (k - 1 + 1) 0) = ladder.steps (k - 1) (omega (arith, front_some)) in
      let low : get_or rows (k - 1) 0 < 2 ^ w = place.below (k - 1) (omega (arith, front_some)) in
      let t : bit_and (get_or rows k 0) (get_or rows k 0 - 1) ≤ get_or rows (k - 1) 0 = subst (λ i. bit_and (get_or rows i 0) (get_or rows i 0 - 1) ≤ get_or rows (k - 1) 0) back next.takes_up in
      let u : bit_and (2 ^ w + r) (2 ^ w + r - 1) ≤ get_or rows (k - 1) 0 = subst (λ n. bit_and n (n - 1) ≤ get_or rows (k - 1) 0) is t in
      ⊎_elim (λ (z : r ≡ 0). omega arith) (λ z. absurd (omega (arith, without_lowest-raised w r (omega arith) (omega arith)))) (cases_eq r 0)

  rest_ladder : IsLadder (map (λ row. row - 2 ^ w) (drop k rows))
  rest_ladder = record {
    first = let e : k + 0 ≡ k = omega arith in low_at 0 (omega arith) ∙ (rw (e, first_high) (omega arith));
    steps = λ j l.
        let n : length (map (λ row. row - 2 ^ w) (drop k rows)) ≡ length rows - k = length-map (drop k rows) (λ row. row - 2 ^ w) ∙ length-drop k rows in
        let e : k + j + 1 ≡ k + (j + 1) = omega arith in
        let h : (2 ^ w ≤ get_or rows (k + j) 0) × (get_or rows (k + j) 0 < 2 ^ w + 2 ^ w) = high_at j (omega arith) in
        let g : (2 ^ w ≤ get_or rows (k + (j + 1)) 0) × (get_or rows (k + (j + 1)) 0 < 2 ^ w + 2 ^ w) = high_at (j + 1) (omega arith) in
        let next : IsNextRow (get_or rows (k + j) 0) (get_or rows (k + (j + 1)) 0) = subst (λ i. IsNextRow (get_or rows (k + j) 0) (get_or rows i 0)) e (ladder.steps (k + j) (omega arith)) in
        next_at (low_at j (omega arith)) (low_at (j + 1) (omega arith))
        (next-lowered w (get_or rows (k + j) 0 - 2 ^ w) (get_or rows (k + (j + 1)) 0 - 2 ^ w) (omega (arith, g.1))
        (next_at (omega (arith, h.0)) (omega (arith, g.0)) next));
  }

  split : rows ≡ take k rows ++ raised w (map (λ row. row - 2 ^ w) (drop k rows))
  split = sym (ap (λ rs. take k rows ++ rs) (raised-lowered w (drop k rows) (λ j l. let n : length (drop k rows) ≡ length rows - k = length-drop k rows in rw (get_or-drop k rows j 0) (high_at j (omega arith)).0))
      ∙ take-append-drop k rows)

-- a multiple of a small power stays one without a high bit
lowered-multiple : (w j r : ℕ) → j ≤ w → 2 ^ w ≤ r → r % 2 ^ j ≡ 0 → (r - 2 ^ w) % 2 ^ j ≡ 0
lowered-multiple w j r l m e =
    let s : w ≡ (w - j) + j = omega arith in
    let p : 2 ^ w ≡ 2 ^ (w - j) * 2 ^ j = ap (λ n. 2 ^ n) s ∙ pow-add 2 (w - j) j in
    let q : r - 2 ^ w + 2 ^ (w - j) * 2 ^ j ≡ r = omega arith in
    sym (add-mul-mod_self_right (r - 2 ^ w) (2 ^ (w - j)) (2 ^ j)) ∙ ap (λ n. n % 2 ^ j) q ∙ e

module _ {A : Type 0} (d : A) where
  UsesOnly-later : (c : ℕ) (cs : List ℕ) (P : Piece A) → UsesOnly cs P → UsesOnly (c ∷ cs) P
  UsesOnly-later c cs P u = UsesOnly-more cs (c ∷ cs) P (λ q h. or_right (eqb c q) (has cs q) h) u

  -- what was read without the first column is read with it, where no row has a 1 there
  skips : (low w c : ℕ) (cs rows : List ℕ) (es : List A) (P : Piece A) → low ≤ c → Reads (c + 1) w cs rows es P → Reads low (suc w) (c ∷ cs) rows es P
  skips low w c cs rows es P l h = record {
    rows_are = h.rows_are ∙ sym (rows-later w c cs P h.rises);
    entries_are = h.entries_are;
    only = UsesOnly-later c cs P h.only;
    rises = RisesFrom-weaker low (c + 1) P (omega arith) h.rises;
  }

  -- what was read of the two sides of the first column
  forks : (low w c k : ℕ) (cs rows : List ℕ) (es : List A) (s t : Piece A) → low ≤ c → Ascends (c + 1) cs → rows ≡ take k rows ++ raised w (map (λ row. row - 2 ^ w) (drop k rows)) →
      Reads (c + 1) w cs (take k rows) (take k es) s → Reads (c + 1) w cs (map (λ row. row - 2 ^ w) (drop k rows)) (drop k es) t → Reads low (suc w) (c ∷ cs) rows es (Fork c s t)
  forks low w c k cs rows es s t l a parts hs ht = record {
    rows_are = parts ∙ ap (λ rs. rs ++ raised w (map (λ row. row - 2 ^ w) (drop k rows))) hs.rows_are ∙ ap (λ rs. map (row w cs) (paths s) ++ raised w rs) ht.rows_are ∙ sym (rows-fork w c cs s t a hs.rises);
    entries_are = sym (take-append-drop k es) ∙ ap (λ xs. xs ++ drop k es) hs.entries_are ∙ ap (λ xs. places s ++ xs) ht.entries_are;
    only = (or_left (eqb c c) (has cs c) (eq-eqb c c refl), UsesOnly-later c cs s hs.only, UsesOnly-later c cs t ht.only);
    rises = (omega arith, hs.rises, ht.rises);
  }

  reads : (w : ℕ) (cs : List ℕ) (low : ℕ) (rows : List ℕ) (es : List A) → length cs ≤ w → Ascends low cs → IsLadder rows → 0 < length rows → length es ≡ length rows →
      ((k : ℕ) → k < length rows → get_or rows k 0 < 2 ^ w) → ((k : ℕ) → k < length rows → get_or rows k 0 % 2 ^ (w - length cs) ≡ 0) → Reads low w cs rows es (shown d w cs rows es)
  reads w [] low rows es l a ladder some same fits multiple =
      let one : length rows ≡ 1 = ⊎_elim (λ (m : 1 < length rows).
      let next : IsNextRow (get_or rows 0 0) (get_or rows (0 + 1) 0) = ladder.steps 0 (omega arith) in
      let whole : w - length {A = ℕ} [] ≡ w = omega arith in
      let small : get_or rows 1 0 ≡ 0 = sym (mod-eq_of_lt (fits 1 m)) ∙ subst (λ n. get_or rows 1 0 % 2 ^ n ≡ 0) whole (multiple 1 m) in
      absurd (omega (arith, next.goes_on, small))) (λ (m : length rows ≤ 1). omega arith) (cases_lt 1 (length rows)) in
      record { rows_are = single_row rows one ladder.first; entries_are = single_entry d es (omega arith); only = tt; rises = tt }
  reads zero (c ∷ cs) low rows es l a ladder some same fits multiple = absurd (omega arith)
  reads (suc w) (c ∷ cs) low rows es l a ladder some same fits multiple =
      let k : ℕ = front_below (2 ^ w) rows in
      let place : IsPlaceOf rows (2 ^ w) k = front_below-place (2 ^ w) rows in
      let shift : suc w - suc (length cs) ≡ w - length cs = omega arith in
      let even : (j : ℕ) → j < length rows → get_or rows j 0 % 2 ^ (w - length cs) ≡ 0 = λ j m. (rw shift at (multiple j m)) in
      let before : low < c + 1 = a.0 in
      ⊎_elim
      (λ (e : nat_eq k (length rows) ≡ true). let all_front : k ≡ length rows = eqb-true k (length rows) e in
      rw e (skips low w c cs rows es (shown d w cs rows es) (omega arith)
      (reads w cs (c + 1) rows es (omega arith) a.1 ladder some same (λ j m. place.below j (omega arith)) even)))
      (λ (e : nat_eq k (length rows) ≡ false).
      let more : k < length rows = ⊎_elim (λ m. m) (λ (m : length rows ≤ k). absurd (false≢true (sym e ∙ eq-eqb k (length rows) (omega (arith, place.in_range))))) (cases_lt k (length rows)) in
      let zs : List ℕ = map (λ row. row - 2 ^ w) (drop k rows) in
      let front_long : length (take k rows) ≡ k = length-take-le k rows place.in_range in
      let rest_long : length zs ≡ length rows - k = length-map (drop k rows) (λ row. row - 2 ^ w) ∙ length-drop k rows in
      rw e (forks low w c k cs rows es (shown d w cs (take k rows) (take k es)) (shown d w cs zs (drop k es)) (omega arith) a.1 (split w k rows ladder fits place more)
      (reads w cs (c + 1) (take k rows) (take k es) (omega arith) a.1 (front_ladder w k rows ladder fits place more) (omega (arith, front_some w k rows ladder fits place more))
      (length-take-le k es (omega arith) ∙ sym front_long)
      (λ j m. rw (get_or-take k rows j 0 (omega arith)) (place.below j (omega arith)))
      (λ j m. rw (get_or-take k rows j 0 (omega arith)) (even j (omega arith))))
      (reads w cs (c + 1) zs (drop k es) (omega arith) a.1 (rest_ladder w k rows ladder fits place more) (omega arith)
      (length-drop k es ∙ omega arith)
      (λ j m. let h : (2 ^ w ≤ get_or rows (k + j) 0) × (get_or rows (k + j) 0 < 2 ^ w + 2 ^ w) = high_at w k rows ladder fits place more j (omega arith) in
      rw (low_at w k rows ladder fits place more j (omega arith)) (omega (arith, h.1)))
      (λ j m. let h : (2 ^ w ≤ get_or rows (k + j) 0) × (get_or rows (k + j) 0 < 2 ^ w + 2 ^ w) = high_at w k rows ladder fits place more j (omega arith) in
      rw (low_at w k rows ladder fits place more j (omega arith)) (lowered-multiple w (w - length cs) (get_or rows (k + j) 0) (omega arith) h.0 (even (k + j) (omega arith)))))))
      (cases_Bool (nat_eq k (length rows)))

-- ---- all columns are used where the rows joined are all ones
code-most : {X : Type 0} (w : ℕ) (t : X → Bool) (cs : List X) → length cs ≤ w → code w (map t cs) + 2 ^ (w - length cs) ≤ 2 ^ w
code-most {X} w t [] l = let e : w - length {A = X} [] ≡ w = omega arith in rw e (omega arith)
code-most zero t (c ∷ cs) l = absurd (omega arith)
code-most (suc w) t (c ∷ cs) l =
    let e : suc w - suc (length cs) ≡ w - length cs = omega arith in
    rw e (elim (t c) as (λ v. cond v (2 ^ w) 0 + code w (map t cs) + 2 ^ (w - length cs) ≤ 2 ^ suc w)
    [ true ↦ omega (arith, code-most w t cs (omega arith), pow-suc 2 w) | false ↦ omega (arith, code-most w t cs (omega arith), pow-suc 2 w) ])

code-full : (w : ℕ) (t : ℕ → Bool) (cs : List ℕ) → length cs ≤ w → all t cs ≡ true → code w (map t cs) + 2 ^ (w - length cs) ≡ 2 ^ w
code-full w t [] l h = let e : w - length {A = ℕ} [] ≡ w = omega arith in rw e (omega arith)
code-full zero t (c ∷ cs) l h = absurd (omega arith)
code-full (suc w) t (c ∷ cs) l h =
    let e : suc w - suc (length cs) ≡ w - length cs = omega arith in
    let q : (t c ≡ true) × (all t cs ≡ true) = and_parts (t c) (all t cs) h in
    rw (e, q.0) (omega (arith, code-full w t cs (omega arith) q.1, pow-suc 2 w))

pub full-code : {X : Type 0} (w : ℕ) (t : X → Bool) (cs : List X) → length cs ≤ w → code w (map t cs) + 2 ^ (w - length cs) ≡ 2 ^ w → all t cs ≡ true
full-code w t [] l h = refl
full-code zero t (c ∷ cs) l h = absurd (omega arith)
full-code (suc w) t (c ∷ cs) l h =
    let e : suc w - suc (length cs) ≡ w - length cs = omega arith in
    let g : cond (t c) (2 ^ w) 0 + code w (map t cs) + 2 ^ (w - length cs) ≡ 2 ^ suc w = rw e at h in
    ⊎_elim
    (λ (q : t c ≡ true). let f : 2 ^ w + code w (map t cs) + 2 ^ (w - length cs) ≡ 2 ^ suc w = (rw q at g) in
    and_from (t c) (all t cs) q (full-code w t cs (omega arith) (omega (arith, pow-suc 2 w))))
    (λ (q : t c ≡ false). let f : 0 + code w (map t cs) + 2 ^ (w - length cs) ≡ 2 ^ suc w = (rw q at g) in
    absurd (omega (arith, code-most w t cs (omega arith), pow-suc 2 w, pow_pos w)))
    (cases_Bool (t c))

or_all-multiple : (j : ℕ) (rows : List ℕ) → or_all rows % 2 ^ j ≡ 0 → (k : ℕ) → k < length rows → get_or rows k 0 % 2 ^ j ≡ 0
or_all-multiple j [] h k l = absurd (omega arith)
or_all-multiple j (row ∷ rows) h zero l =
    let e : bit_or (row % 2 ^ j) (or_all rows % 2 ^ j) ≡ 0 = sym (or_mod row (or_all rows) j) ∙ h in omega (arith, le_or_l (row % 2 ^ j) (or_all rows % 2 ^ j))
or_all-multiple j (row ∷ rows) h (suc k) l =
    let e : bit_or (row % 2 ^ j) (or_all rows % 2 ^ j) ≡ 0 = sym (or_mod row (or_all rows) j) ∙ h in
    or_all-multiple j rows (omega (arith, le_or_r (row % 2 ^ j) (or_all rows % 2 ^ j))) k (omega arith)

high_ones : (n : ℕ) → n ≤ 32 → (2 ^ 32 - 2 ^ (32 - n)) % 2 ^ (32 - n) ≡ 0
high_ones n l =
    let s : n + (32 - n) ≡ 32 = omega arith in
    let p : 2 ^ 32 ≡ 2 ^ n * 2 ^ (32 - n) = ap (λ m. 2 ^ m) (sym s) ∙ pow-add 2 n (32 - n) in
    let a : ℕ = 2 ^ n - 1 in
    let e : 2 ^ n ≡ a + 1 = omega (arith, pow_pos n) in
    let r : 2 ^ 32 ≡ (a + 1) * 2 ^ (32 - n) = p ∙ ap (λ m. m * 2 ^ (32 - n)) e in
    let q : 2 ^ 32 - 2 ^ (32 - n) ≡ a * 2 ^ (32 - n) = omega (arith, r) in
    ap (λ m. m % 2 ^ (32 - n)) q ∙ mul-mod_left (2 ^ n - 1) (2 ^ (32 - n))

-- SPARSE PARTIAL KEYS told row by row are those of the piece that they show, and of no other
module _ {A : Type 0} (d : A) (cs rows : List ℕ) (es : List A) where
  pub sparse_keys-shown : Ascends 0 cs → length cs ≤ 31 → 0 < length rows → length es ≡ length rows → ((k : ℕ) → k < length rows → get_or rows k 0 < 2 ^ 32) →
      AreSparseKeys (length cs) rows → ShowsPiece cs rows es (piece_of d cs rows es)
  sparse_keys-shown a few some same fits keys =
      let P : Piece A = piece_of d cs rows es in
      let u : or_all rows ≡ 2 ^ 32 - 2 ^ (32 - length cs) = keys.used in
      let r : Reads 0 32 cs rows es P =
      reads d 32 cs 0 rows es (omega arith) a keys.ladder some same fits (or_all-multiple (32 - length cs) rows (ap (λ m. m % 2 ^ (32 - length cs)) u ∙ high_ones (length cs) (omega arith))) in
      let joined : or_all rows ≡ code 32 (map (uses P) cs) = ap or_all r.rows_are ∙ or_all-piece cs P in
      record {
        few = few;
        columns_rise = a;
        forks_at_columns = r.only;
        columns_used = full-code 32 (uses P) cs (omega arith) (omega (arith, pow_below (32 - length cs) 33 (omega arith), code-most 32 (uses P) cs (omega arith)));
        paths_rise = r.rises;
        rows_are = r.rows_are;
        entries_are = r.entries_are;
      }

pub shown-sparse_keys : {A : Type 0} (cs rows : List ℕ) (es : List A) (P : Piece A) → ShowsPiece cs rows es P → AreSparseKeys (length cs) rows
shown-sparse_keys cs rows es P sh =
    let few : length cs ≤ 31 = sh.few in
    record {
      ladder = subst IsLadder (sym sh.rows_are) (ladder-rows 32 cs 0 P (omega arith) sh.columns_rise sh.forks_at_columns sh.paths_rise);
      used = ap or_all sh.rows_are ∙ or_all-piece cs P ∙ omega (arith, code-full 32 (uses P) cs (omega arith) sh.columns_used);
    }
