-- The fork between two neighbouring rows, read from the lowest 1 of the second one.
use Rattle.compound_node.proofs.Common.{List, [], ap, arith, cond, eqb, false, get_or, length, map, refl, subst, suc, sym, true, zero, ℕ, ⊎_elim, None, ◌++◌, ◌+◌, ◌-◌, ◌/◌, ◌%◌, ◌<◌, ◌^◌, ◌⊎◌, inl, inr, ◌∙◌, ◌∷◌, ◌≡◌, ◌≤◌, ◌||◌, IfSome, nat_eq, slice_index_or, mod-eq_of_lt, pow-suc, get_or_past, cases_Bool, cases_eq, cases_lt, eqb-true, false≢true, le-ltb, lt-ltb, ltb-true, or_cases, found, row, length-places, size_pos, has_after, has-at, beside_by, beside_seams, seam, seam_above, seam_between, seam_first, seam_left, seam_past, seam_right, later_columns, Fork, Piece, Place, paths, RisesFrom, size, UsesOnly, Ascends, front_below, has}
use Rattle.std.specs.Prelude.{nat_lt}
use Rattle.std.proofs.lemmas.Grind.{get_or_default_zero}
use Rattle.compound_node.proofs.Lawful.{same_count}
use lib.Count.{count_trailing_zeros, trailing_of_zero}
use Rattle.compound_node.proofs.Ladders.{front_at, ladder-rows, length-rows, raised, rest_at, rows-fork, rows-later, rows_fit}
use Rattle.compound_node.proofs.Removal.{later_positive, several_forked}
use Rattle.compound_node.specs.Beside.{AreRowsRound, IsBesideIn, at_columns, column_before}
use Rattle.compound_node.specs.Nodes.{IsLawfulNode, NodeView, piece}
use Rattle.compound_node.specs.declared.entries.Entry.{Entry}
use Rattle.compound_node.specs.Ladders.{IsLadder}

-- ---- the place of the lowest 1
module _ (w r : ℕ) where
  small_half : r < 2 ^ suc w → r / 2 < 2 ^ w
  small_half l = omega (arith, pow-suc 2 w)

trailing-low : (w r : ℕ) → 0 < r → r < 2 ^ w → count_trailing_zeros (suc w) r ≡ count_trailing_zeros w r
unfolding count_trailing_zeros
trailing-low zero r p l = absurd (omega arith)
trailing-low (suc w) r p l = ⊎_elim
    (λ (e : r % 2 ≡ 0). rw e (ap suc (trailing-low w (r / 2) (omega arith) (small_half w r l))))
    (λ (e : r % 2 ≡ 0 → ⊥). let one : r % 2 ≡ 1 = omega arith in rw one refl)
    (cases_eq (r % 2) 0)

trailing-raised : (w r : ℕ) → 0 < r → r < 2 ^ w → count_trailing_zeros (suc w) (2 ^ w + r) ≡ count_trailing_zeros w r
unfolding count_trailing_zeros
trailing-raised zero r p l = absurd (omega arith)
trailing-raised (suc w) r p l =
    let low : (2 ^ suc w + r) % 2 ≡ r % 2 = omega (arith, pow-suc 2 w) in
    let high : (2 ^ suc w + r) / 2 ≡ 2 ^ w + r / 2 = omega (arith, pow-suc 2 w) in
    rw (low, high) (⊎_elim
    (λ (e : r % 2 ≡ 0). rw e (ap suc (trailing-raised w (r / 2) (omega arith) (small_half w r l))))
    (λ (e : r % 2 ≡ 0 → ⊥). let one : r % 2 ≡ 1 = omega arith in rw one refl)
    (cases_eq (r % 2) 0))

trailing-power : (w : ℕ) → count_trailing_zeros (suc w) (2 ^ w) ≡ w
unfolding count_trailing_zeros
trailing-power zero = refl
trailing-power (suc w) =
    let low : 2 ^ suc w % 2 ≡ 0 = omega (arith, pow-suc 2 w) in
    let high : 2 ^ suc w / 2 ≡ 2 ^ w = omega (arith, pow-suc 2 w) in
    rw (low, high) (ap suc (trailing-power w))

trailing-lt : (w r : ℕ) → 0 < r → r < 2 ^ w → count_trailing_zeros w r < w
unfolding count_trailing_zeros
trailing-lt zero r p l = absurd (omega arith)
trailing-lt (suc w) r p l = ⊎_elim
    (λ (e : r % 2 ≡ 0). rw e (omega (arith, trailing-lt w (r / 2) (omega arith) (small_half w r l))))
    (λ (e : r % 2 ≡ 0 → ⊥). let one : r % 2 ≡ 1 = omega arith in rw one (omega arith))
    (cases_eq (r % 2) 0)

-- ---- the column of a fork, counted from 1, and 0 of none
abbrev pub column_of : List ℕ → ℕ → ℕ
column_of cs zero = 0
column_of cs (suc q) = front_below q cs + 1

column_of-later : (c : ℕ) (cs : List ℕ) (x : ℕ) → c + 1 < x → column_of (c ∷ cs) x ≡ column_of cs x + 1
column_of-later c cs zero l = absurd (omega arith)
column_of-later c cs (suc q) l = rw (lt-ltb c q (omega arith)) (omega arith)

column_of-here : (c : ℕ) (cs : List ℕ) (x : ℕ) → x ≡ c + 1 → column_of (c ∷ cs) x ≡ 1
column_of-here c cs zero e = absurd (omega arith)
column_of-here c cs (suc q) e = rw (le-ltb c q (omega arith)) refl

-- ---- a row that is one bit wider, and the same below
abbrev HasSameBelow : ℕ → (row wide : ℕ) → Type 0
HasSameBelow w row wide = (wide ≡ row) ⊎ (wide ≡ 2 ^ w + row)

later_row : (w row wide c : ℕ) (cs : List ℕ) (x : ℕ) → HasSameBelow w row wide → 0 < row → row < 2 ^ w → c + 1 < x → w - count_trailing_zeros w row ≡ column_of cs x →
    suc w - count_trailing_zeros (suc w) wide ≡ column_of (c ∷ cs) x
later_row w row wide c cs x same p l above e =
    let t : count_trailing_zeros (suc w) wide ≡ count_trailing_zeros w row = ⊎_elim
    (λ (f : wide ≡ row). ap (count_trailing_zeros (suc w)) f ∙ trailing-low w row p l)
    (λ (f : wide ≡ 2 ^ w + row). ap (count_trailing_zeros (suc w)) f ∙ trailing-raised w row p l) same in
    omega (arith, t, trailing-lt w row p l, column_of-later c cs x above, e)

module _ {A : Type 0} (w : ℕ) (cs : List ℕ) where
  row_small : (P : Piece A) (k : ℕ) → k < size P → get_or (map (row w cs) (paths P)) k 0 < 2 ^ w
  row_small P k m = rows_fit w cs P k (rw (length-rows w cs P) m)

  row_positive : (low : ℕ) (P : Piece A) (k : ℕ) → length cs ≤ w → Ascends low cs → UsesOnly cs P → RisesFrom low P → 0 < k → k < size P → 0 < get_or (map (row w cs) (paths P)) k 0
  row_positive low P k l a u r p m = later_positive (map (row w cs) (paths P)) (ladder-rows w cs low P l a u r) k p (rw (length-rows w cs P) m)

module _ {A : Type 0} where
  -- where the root fork is at the first column, from what holds of its two sides
  lowest_fork : (w c : ℕ) (cs : List ℕ) (s t : Piece A) (k : ℕ) → length cs ≤ w → Ascends (c + 1) cs → UsesOnly cs s → UsesOnly cs t → RisesFrom (c + 1) s → RisesFrom (c + 1) t → 0 < k → k < size s + size t →
      ((j : ℕ) → 0 < j → j < size s → w - count_trailing_zeros w (get_or (map (row w cs) (paths s)) j 0) ≡ column_of cs (seam j s)) →
      ((j : ℕ) → 0 < j → j < size t → w - count_trailing_zeros w (get_or (map (row w cs) (paths t)) j 0) ≡ column_of cs (seam j t)) →
      suc w - count_trailing_zeros (suc w) (get_or (map (row (suc w) (c ∷ cs)) (paths (Fork c s t))) k 0) ≡ column_of (c ∷ cs) (seam k (Fork c s t))
  lowest_fork w c cs s t k l a us ut rs rt p m ihs iht =
      let xs : List ℕ = map (row w cs) (paths s) in let ys : List ℕ = map (row w cs) (paths t) in
      let wide : ℕ = get_or (map (row (suc w) (c ∷ cs)) (paths (Fork c s t))) k 0 in
      let long : length xs ≡ size s = length-rows w cs s in let also : length ys ≡ size t = length-rows w cs t in
      let lx : IsLadder xs = ladder-rows w cs (c + 1) s l a us rs in let ly : IsLadder ys = ladder-rows w cs (c + 1) t l a ut rt in
      let some : 0 < length xs = rw long (size_pos s) in let more : 0 < length ys = rw also (size_pos t) in
      let whole : wide ≡ get_or (xs ++ raised w ys) k 0 = ap (λ rows. get_or rows k 0) (rows-fork w c cs s t a rs) in
      ⊎_elim
      (λ (h : k < size s).
      rw (seam_left k c s t h) (later_row w (get_or xs k 0) wide c cs (seam k s)
      (inl (whole ∙ front_at w xs ys lx ly some more (rows_fit w cs s) (rows_fit w cs t) k (omega (arith, long))))
      (row_positive w cs (c + 1) s k l a us rs p h) (row_small w cs s k h) (seam_above (c + 1) k s rs p h) (ihs k p h)))
      (λ (h : size s ≤ k). ⊎_elim
      (λ (z : k ≡ size s).
      let at : length xs + 0 ≡ k = omega (arith, long) in
      let power : wide ≡ 2 ^ w = whole ∙ ap (λ i. get_or (xs ++ raised w ys) i 0) (sym at) ∙ rest_at w xs ys lx ly some more (rows_fit w cs s) (rows_fit w cs t) 0 more ∙ omega (arith, ly.first) in
      let trailing : count_trailing_zeros (suc w) wide ≡ w = ap (count_trailing_zeros (suc w)) power ∙ trailing-power w in
      omega (arith, trailing, column_of-here c cs (seam k (Fork c s t)) (ap (λ i. seam i (Fork c s t)) z ∙ seam_between c s t)))
      (λ (z : k ≡ size s → ⊥). let j : ℕ = k - size s in
      let at : length xs + j ≡ k = omega (arith, long) in
      rw (seam_right k j c s t (omega arith) (omega arith)) (later_row w (get_or ys j 0) wide c cs (seam j t)
      (inr (whole ∙ ap (λ i. get_or (xs ++ raised w ys) i 0) (sym at) ∙ rest_at w xs ys lx ly some more (rows_fit w cs s) (rows_fit w cs t) j (omega (arith, also))))
      (row_positive w cs (c + 1) t j l a ut rt (omega arith) (omega arith)) (row_small w cs t j (omega arith)) (seam_above (c + 1) j t rt (omega arith) (omega arith)) (iht j (omega arith) (omega arith))))
      (cases_eq k (size s)))
      (cases_lt k (size s))

  -- THE LOWEST 1 OF A ROW is at the column of the fork before its place
  pub lowest_column : (w : ℕ) (cs : List ℕ) (low : ℕ) (P : Piece A) (k : ℕ) → length cs ≤ w → Ascends low cs → UsesOnly cs P → RisesFrom low P → 0 < k → k < size P →
      w - count_trailing_zeros w (get_or (map (row w cs) (paths P)) k 0) ≡ column_of cs (seam k P)
  lowest_column w cs low (Place x) k l a u r p m = absurd (omega arith)
  lowest_column w [] low (Fork o s t) k l a u r p m = absurd (false≢true u.0)
  lowest_column zero (c ∷ cs) low (Fork o s t) k l a u r p m = absurd (omega arith)
  lowest_column (suc w) (c ∷ cs) low (Fork o s t) k l a u r p m = ⊎_elim
      (λ (e : eqb c o ≡ true). let same : c ≡ o = eqb-true c o e in
      let rs : RisesFrom (c + 1) s = (rw same r.1) in let rt : RisesFrom (c + 1) t = (rw same r.2) in
      let us : UsesOnly cs s = later_columns c cs s u.1 rs in let ut : UsesOnly cs t = later_columns c cs t u.2 rt in
      subst (λ q. suc w - count_trailing_zeros (suc w) (get_or (map (row (suc w) (c ∷ cs)) (paths (Fork q s t))) k 0) ≡ column_of (c ∷ cs) (seam k (Fork q s t))) same
      (lowest_fork w c cs s t k (omega arith) a.1 us ut rs rt p m
      (λ j n h. lowest_column w cs (c + 1) s j (omega arith) a.1 us rs n h) (λ j n h. lowest_column w cs (c + 1) t j (omega arith) a.1 ut rt n h)))
      (λ (e : eqb c o ≡ false). let h : (eqb c o || has cs o) ≡ true = u.0 in let g : has cs o ≡ true = (rw e at h) in let after : c + 1 ≤ o = has_after (c + 1) o cs a.1 g in
      let q : RisesFrom (c + 1) (Fork o s t) = (omega arith, r.1, r.2) in
      let v : UsesOnly cs (Fork o s t) = later_columns c cs (Fork o s t) u q in
      let rows : List ℕ = map (row w cs) (paths (Fork o s t)) in
      let here : get_or (map (row (suc w) (c ∷ cs)) (paths (Fork o s t))) k 0 ≡ get_or rows k 0 = ap (λ rs. get_or rs k 0) (rows-later w c cs (Fork o s t) q) in
      later_row w (get_or rows k 0) (get_or (map (row (suc w) (c ∷ cs)) (paths (Fork o s t))) k 0) c cs (seam k (Fork o s t))
      (inl here) (row_positive w cs (c + 1) (Fork o s t) k (omega arith) a.1 v q p m) (row_small w cs (Fork o s t) k m)
      (seam_above (c + 1) k (Fork o s t) q p m) (lowest_column w cs (c + 1) (Fork o s t) k (omega arith) a.1 v q p m))
      (cases_Bool (eqb c o))

-- ---- the order of columns is that of their positions
pub front-le : (q r : ℕ) (cs : List ℕ) → q ≤ r → front_below q cs ≤ front_below r cs
front-le q r [] l = omega arith
front-le q r (c ∷ cs) l = ⊎_elim
    (λ (m : c < q). rw (lt-ltb c q m, lt-ltb c r (omega arith)) (omega (arith, front-le q r cs l)))
    (λ (m : q ≤ c). rw (le-ltb c q m) (omega arith))
    (cases_lt c q)

front-lt : (low q r : ℕ) (cs : List ℕ) → Ascends low cs → has cs q ≡ true → q < r → front_below q cs < front_below r cs
front-lt low q r [] a h l = absurd (false≢true h)
front-lt low q r (c ∷ cs) a h l = ⊎_elim
    (λ (e : eqb c q ≡ true). let same : c ≡ q = eqb-true c q e in rw (le-ltb c q (omega arith), lt-ltb c r (omega arith)) (omega arith))
    (λ (g : has cs q ≡ true). let m : c + 1 ≤ q = has_after (c + 1) q cs a.1 g in
    rw (lt-ltb c q (omega arith), lt-ltb c r (omega arith)) (omega (arith, front-lt (c + 1) q r cs a.1 g l)))
    (or_cases (eqb c q) (has cs q) h)

-- no fork, or one at a column
abbrev pub IsSeamOf : List ℕ → ℕ → Type 0
IsSeamOf cs x = 0 < x → has cs (x - 1) ≡ true

seam_column : {A : Type 0} (cs : List ℕ) (P : Piece A) (k : ℕ) → UsesOnly cs P → IsSeamOf cs (seam k P)
seam_column cs (Place x) k u = λ l. absurd (omega arith)
seam_column cs (Fork p a b) k u = elim (nat_lt k (size a)) as (λ v. IsSeamOf cs (cond v (seam k a) (cond (nat_eq k (size a)) (p + 1) (seam (k - size a) b)))) [
  | true ↦ seam_column cs a k u.1
  | false ↦ elim (nat_eq k (size a)) as (λ v. IsSeamOf cs (cond v (p + 1) (seam (k - size a) b))) [ true ↦ λ l. let e : p + 1 - 1 ≡ p = omega arith in ap (has cs) e ∙ u.0 | false ↦ seam_column cs b (k - size a) u.2 ]
]

column_of-some : (cs : List ℕ) (x : ℕ) → 0 < x → column_of cs x ≡ front_below (x - 1) cs + 1
column_of-some cs zero l = absurd (omega arith)
column_of-some cs (suc q) l = let e : suc q - 1 ≡ q = omega arith in rw e refl

module _ (cs : List ℕ) (rise : Ascends 0 cs) where
  column_order : (x y : ℕ) → IsSeamOf cs x → IsSeamOf cs y → nat_lt (column_of cs x) (column_of cs y) ≡ nat_lt x y
  column_order zero zero f g = refl
  column_order zero (suc y) f g = lt-ltb 0 (column_of cs (suc y)) (omega arith) ∙ sym (lt-ltb 0 (suc y) (omega arith))
  column_order (suc x) zero f g = le-ltb (column_of cs (suc x)) 0 (omega arith) ∙ sym (le-ltb (suc x) 0 (omega arith))
  column_order (suc x) (suc y) f g = let e : suc x - 1 ≡ x = omega arith in ⊎_elim
      (λ (m : x < y). lt-ltb (column_of cs (suc x)) (column_of cs (suc y)) (omega (arith, front-lt 0 x y cs rise (ap (has cs) (sym e) ∙ f (omega arith)) m)) ∙ sym (lt-ltb (suc x) (suc y) (omega arith)))
      (λ (m : y ≤ x). le-ltb (column_of cs (suc x)) (column_of cs (suc y)) (omega (arith, front-le y x cs m)) ∙ sym (le-ltb (suc x) (suc y) (omega arith)))
      (cases_lt x y)

  -- the position of a fork's column, and its place among them
  column_is : (x : ℕ) → IsSeamOf cs x → 0 < x → (get_or cs (column_of cs x - 1) 0 ≡ x - 1) × (column_of cs x - 1 < length cs)
  column_is x f l =
      let at : (front_below (x - 1) cs < length cs) × (get_or cs (front_below (x - 1) cs) 0 ≡ x - 1) = has-at (x - 1) 0 cs rise (f l) in
      let e : column_of cs x - 1 ≡ front_below (x - 1) cs = omega (arith, column_of-some cs x l) in
      (ap (λ k. get_or cs k 0) e ∙ at.1, omega (arith, at.0))

  column_few : (x : ℕ) → IsSeamOf cs x → column_of cs x ≤ length cs
  column_few x f = ⊎_elim (λ (e : x ≡ 0). rw e (omega arith)) (λ (e : x ≡ 0 → ⊥). omega (arith, (column_is x f (omega arith)).1, column_of-some cs x (omega arith))) (cases_eq x 0)

  -- so columns tell the place beside as positions do
  module _ (i b o a s : ℕ) (fb : IsSeamOf cs b) (fo : IsSeamOf cs o) (fa : IsSeamOf cs a) (fs : IsSeamOf cs s) (some : (0 < o) ⊎ (o < a)) where
    some_own : nat_lt o a ≡ false → 0 < o
    some_own e = ⊎_elim (λ (l : 0 < o). l) (λ (l : o < a). absurd (false≢true (sym e ∙ lt-ltb o a l))) some

    by_columns : at_columns cs (beside_by i (column_of cs b) (column_of cs o) (column_of cs a) (column_of cs s)) ≡ beside_by i b o a s
    by_columns = rw (column_order o a fo fa, column_order a s fa fs, column_order o b fo fb) (⊎_elim
        (λ (e : nat_lt o a ≡ true). let l : o < a = ltb-true o a e in
        rw e (elim (nat_lt a s) as (λ v. at_columns cs (cond v None (found (i + 1) (column_of cs a - 1))) ≡ cond v None (found (i + 1) (a - 1))) [ true ↦ refl | false ↦ ap (found (i + 1)) (column_is a fa (omega arith)).0 ]))
        (λ (e : nat_lt o a ≡ false).
        rw e (elim (nat_lt o b) as (λ v. at_columns cs (cond v None (found (i - 1) (column_of cs o - 1))) ≡ cond v None (found (i - 1) (o - 1))) [ true ↦ refl | false ↦ ap (found (i - 1)) (column_is o fo (some_own e)).0 ]))
        (cases_Bool (nat_lt o a)))

    by_columns-in_range : IfSome (beside_by i (column_of cs b) (column_of cs o) (column_of cs a) (column_of cs s)) (λ f. f.1 < length cs)
    by_columns-in_range = rw (column_order o a fo fa, column_order a s fa fs, column_order o b fo fb) (⊎_elim
        (λ (e : nat_lt o a ≡ true). let l : o < a = ltb-true o a e in
        rw e (elim (nat_lt a s) as (λ v. IfSome (cond v None (found (i + 1) (column_of cs a - 1))) (λ f. f.1 < length cs)) [ true ↦ tt | false ↦ (column_is a fa (omega arith)).1 ]))
        (λ (e : nat_lt o a ≡ false).
        rw e (elim (nat_lt o b) as (λ v. IfSome (cond v None (found (i - 1) (column_of cs o - 1))) (λ f. f.1 < length cs)) [ true ↦ tt | false ↦ (column_is o fo (some_own e)).1 ]))
        (cases_Bool (nat_lt o a)))

unused : column_before 4294967295 ≡ 0
unfolding count_trailing_zeros
unused = refl

first_none : column_before 0 ≡ 0
first_none = rw (trailing_of_zero 32) refl

module _ (node : NodeView) (lawful : IsLawfulNode node) where
  places_are : length node.entries ≡ size (piece node)
  places_are = ap length lawful.shows.entries_are ∙ length-places (piece node)

  seam_is : (k : ℕ) → IsSeamOf node.columns (seam k (piece node))
  seam_is k = seam_column node.columns (piece node) k lawful.shows.forks_at_columns

  -- the column that a row names
  row_column : (k : ℕ) → column_before (slice_index_or node.rows k 4294967295) ≡ column_of node.columns (seam k (piece node))
  row_column k = ⊎_elim
      (λ (l : k < size (piece node)). used k l)
      (λ (l : size (piece node) ≤ k). ap column_before (get_or_past node.rows k 4294967295 (omega (arith, l, rows_long))) ∙ unused ∙ sym (ap (column_of node.columns) (seam_past k (piece node) l)))
      (cases_lt k (size (piece node)))
    where
      rows_long : length node.rows ≡ size (piece node)
      rows_long = same_count node lawful ∙ places_are

      few : length node.columns ≤ 31
      few = lawful.shows.few

      used : (k : ℕ) → k < size (piece node) → column_before (get_or node.rows k 4294967295) ≡ column_of node.columns (seam k (piece node))
      used k l =
          let rows : List ℕ = map (row 32 node.columns) (paths (piece node)) in
          let here : get_or node.rows k 4294967295 ≡ get_or rows k 0 = get_or_default_zero node.rows k 4294967295 (omega (arith, l, rows_long)) ∙ ap (λ rs. get_or rs k 0) lawful.shows.rows_are in
          ap column_before here ∙ ⊎_elim
          (λ (z : k ≡ 0).
          let ladder : IsLadder rows = ladder-rows 32 node.columns 0 (piece node) (omega (arith, few)) lawful.shows.columns_rise lawful.shows.forks_at_columns lawful.shows.paths_rise in
          ap column_before (ap (λ i. get_or rows i 0) z ∙ ladder.first) ∙ first_none ∙ sym (ap (λ i. column_of node.columns (seam i (piece node))) z ∙ ap (column_of node.columns) (seam_first (piece node))))
          (λ (z : k ≡ 0 → ⊥).
          let e : 32 - count_trailing_zeros 32 (get_or rows k 0) ≡ column_of node.columns (seam k (piece node)) =
          lowest_column 32 node.columns 0 (piece node) k (omega (arith, few)) lawful.shows.columns_rise lawful.shows.forks_at_columns lawful.shows.paths_rise (omega arith) l in
          ap (λ n. n % 32) e ∙ mod-eq_of_lt (omega (arith, few, column_few node.columns lawful.shows.columns_rise (seam k (piece node)) (seam_is k))))
          (cases_eq k 0)

  pub told_beside : (at before own after second : ℕ) → at < length node.entries → AreRowsRound node.rows at before own after second →
      IsBesideIn node at (beside_by at (column_before before) (column_before own) (column_before after) (column_before second))
  told_beside at before own after second l round =
      let P : Piece Entry = piece node in
      let inside : at < size P = omega (arith, l, places_are) in
      let few : 2 ≤ size P = omega (arith, lawful.several, places_are) in
      let some : (0 < seam at P) ⊎ (seam at P < seam (at + 1) P) = ⊎_elim
      (λ (z : at ≡ 0). inr (omega (arith, ap (λ k. seam k P) z, seam_first P, seam_above 0 (at + 1) P lawful.shows.paths_rise (omega arith) (omega arith))))
      (λ (z : at ≡ 0 → ⊥). inl (omega (arith, seam_above 0 at P lawful.shows.paths_rise (omega arith) inside))) (cases_eq at 0) in
      rw (
        ap column_before round.before_is ∙ row_column (at - 1),
        ap column_before round.own_is ∙ row_column at,
        ap column_before round.after_is ∙ row_column (at + 1),
        ap column_before round.second_is ∙ row_column (at + 2),
      ) (record {
        is = by_columns node.columns lawful.shows.columns_rise at (seam (at - 1) P) (seam at P) (seam (at + 1) P) (seam (at + 2) P) (seam_is (at - 1)) (seam_is at) (seam_is (at + 1)) (seam_is (at + 2)) some
            ∙ sym (beside_seams 0 at P lawful.shows.paths_rise (several_forked node.entries P lawful.shows.entries_are lawful.several) inside);
        in_range = by_columns-in_range node.columns lawful.shows.columns_rise at (seam (at - 1) P) (seam at P) (seam (at + 1) P) (seam (at + 2) P) (seam_is (at - 1)) (seam_is at) (seam_is (at + 1)) (seam_is (at + 2)) some;
      })
