-- The rows of a piece from which a place was taken out.
pub mod Full
pub mod Taken
use Rattle.compound_node.proofs.Common.{List, [], ap, arith, cond, drop, eqb, false, get_or, length, length-append, map, refl, subst, suc, sym, take, true, zero, ℕ, ⊎_elim, ◌++◌, ◌+◌, ◌-◌, ◌*◌, ◌<◌, ◌^◌, ◌||◌, ◌∙◌, ◌∷◌, ◌≡◌, ◌≤◌, drop-append-add, take-append-add, cases_Bool, cases_eq, cases_lt, eq-eqb, eqb-true, false≢true, le-ltb, lt-ltb, ltb-false, ltb-true, ne_eqb, append-nil, drop-append-le, drop-map, drop_all, get_or-drop, length-drop, length-map, map-append, take-append-le, take-map, take_at, and_block, and_le_l, and_le_r, pow_pos, bit_and, nat_eq, row, length-places, size_pos, has_after, Covers, ShowsPiece, remove, later_columns, is_place, without, Fork, Piece, Place, paths, places, RisesFrom, size, UsesOnly, Ascends, has}
use Rattle.std.proofs.Common.{append_assoc}
use Rattle.std.specs.Prelude.{nat_lt}
use Rattle.compound_node.proofs.Ladders.{front_at, ladder-rows, length-rows, raised, rest_at, rows-fork, rows-later, rows_fit, single_row, without_lowest-power, without_lowest-raised}
use Rattle.compound_node.specs.Ladders.{IsLadder, IsNextRow}
use Rattle.compound_node.specs.Removal.{bit_after, cleared_front, lowest, removed_row}
use Rattle.node_tries.proofs.Changes.{RisesFrom-without, UsesOnly-without, places-without, size_alone, size_forked}

-- ---- the lowest 1 of rows
lowest-raised : (w r : ℕ) → 0 < r → r < 2 ^ w → lowest (2 ^ w + r) ≡ lowest r
lowest-raised w r p l = let e : bit_and (2 ^ w + r) (2 ^ w + r - 1) ≡ 2 ^ w + bit_and r (r - 1) = without_lowest-raised w r p l in rw e (omega arith)

lowest-power : (w : ℕ) → lowest (2 ^ w) ≡ 2 ^ w
lowest-power w = let e : bit_and (2 ^ w) (2 ^ w - 1) ≡ 0 = without_lowest-power w in rw e (omega arith)

pub later_positive : (rows : List ℕ) → IsLadder rows → (k : ℕ) → 0 < k → k < length rows → 0 < get_or rows k 0
later_positive rows ladder zero p l = absurd (omega arith)
later_positive rows ladder (suc k) p l =
    let e : k + 1 ≡ suc k = omega arith in
    let next : IsNextRow (get_or rows k 0) (get_or rows (k + 1) 0) = ladder.steps k (omega arith) in
    omega (arith, subst (λ i. get_or rows k 0 < get_or rows i 0) e next.goes_on)

-- ---- a bit below the highest one
and-raised : (w r e : ℕ) → r < 2 ^ w → e < 2 ^ w → bit_and (2 ^ w + r) e ≡ bit_and r e
and-raised w r e l m =
    let a : 2 ^ w + r ≡ 1 * 2 ^ w + r = omega arith in
    let b : e ≡ 0 * 2 ^ w + e = omega arith in
    ap (λ n. bit_and n e) a ∙ ap (bit_and (1 * 2 ^ w + r)) b ∙ and_block w 1 0 r e l m ∙ omega arith

and-highest : (w r : ℕ) → r < 2 ^ w → bit_and (2 ^ w + r) (2 ^ w) ≡ 2 ^ w
and-highest w r l =
    let a : 2 ^ w + r ≡ 1 * 2 ^ w + r = omega arith in
    let b : 2 ^ w ≡ 1 * 2 ^ w + 0 = omega arith in
    ap (λ n. bit_and n (2 ^ w)) a ∙ ap (bit_and (1 * 2 ^ w + r)) b ∙ and_block w 1 1 r 0 l (pow_pos w) ∙ omega (arith, and_le_r r 0)

module _ (w e : ℕ) (low : e < 2 ^ w) where
  -- rows with the highest bit keep it
  cleared_front-raised : (rows : List ℕ) → ((k : ℕ) → k < length rows → get_or rows k 0 < 2 ^ w) → cleared_front e (raised w rows) ≡ raised w (cleared_front e rows)
  cleared_front-raised [] fit = refl
  cleared_front-raised (row ∷ rows) fit =
      let same : bit_and (2 ^ w + row) e ≡ bit_and row e = and-raised w row e (fit 0 (omega arith)) low in
      let less : 2 ^ w + row - bit_and row e ≡ 2 ^ w + (row - bit_and row e) = omega (arith, and_le_l row e) in
      rw (same, less, cleared_front-raised rows (λ k l. fit (suc k) (omega arith)))
      (elim (nat_eq (bit_and row e) 0) as (λ v. cond v ((2 ^ w + row) ∷ raised w rows) ((2 ^ w + (row - bit_and row e)) ∷ raised w (cleared_front e rows)) ≡ raised w (cond v (row ∷ rows) ((row - bit_and row e) ∷ cleared_front e rows)))
      [ true ↦ refl | false ↦ refl ])

  -- and the first of them has no bit below
  cleared_front-before : (rest : List ℕ) → 0 < length rest → get_or rest 0 0 ≡ 0 → (zs : List ℕ) → cleared_front e (zs ++ raised w rest) ≡ cleared_front e zs ++ raised w rest
  cleared_front-before [] some first zs = absurd (omega arith)
  cleared_front-before (r ∷ rest) some first [] =
      let none : bit_and (2 ^ w + r) e ≡ 0 = and-raised w r e (omega (arith, first, pow_pos w)) low ∙ omega (arith, first, and_le_l r e) in
      rw (eq-eqb (bit_and (2 ^ w + r) e) 0 none) refl
  cleared_front-before (r ∷ rest) some first (z ∷ zs) =
      rw (cleared_front-before (r ∷ rest) some first zs)
      (elim (nat_eq (bit_and z e) 0) as (λ v. cond v (z ∷ (zs ++ raised w (r ∷ rest))) ((z - bit_and z e) ∷ (cleared_front e zs ++ raised w (r ∷ rest))) ≡ cond v (z ∷ zs) ((z - bit_and z e) ∷ cleared_front e zs) ++ raised w (r ∷ rest))
      [ true ↦ refl | false ↦ refl ])

-- the highest bit goes from all
cleared_front-highest : (w : ℕ) (rows : List ℕ) → ((k : ℕ) → k < length rows → get_or rows k 0 < 2 ^ w) → cleared_front (2 ^ w) (raised w rows) ≡ rows
cleared_front-highest w [] fit = refl
cleared_front-highest w (row ∷ rows) fit =
    let e : bit_and (2 ^ w + row) (2 ^ w) ≡ 2 ^ w = and-highest w row (fit 0 (omega arith)) in
    let less : 2 ^ w + row - 2 ^ w ≡ row = omega arith in
    rw (e, ne_eqb (2 ^ w) 0 (λ z. absurd (omega (arith, pow_pos w))), less, cleared_front-highest w rows (λ k l. fit (suc k) (omega arith))) refl

-- ---- a row taken out of one of the two sides of the highest bit
module _ (w : ℕ) (xs ys : List ℕ) (lx : IsLadder xs) (ly : IsLadder ys) (some : 0 < length xs) (also : 0 < length ys)
    (below : (k : ℕ) → k < length xs → get_or xs k 0 < 2 ^ w) (within : (k : ℕ) → k < length ys → get_or ys k 0 < 2 ^ w) where
  long : length (xs ++ raised w ys) ≡ length xs + length ys
  long = length-append xs (raised w ys) ∙ ap (λ n. length xs + n) (length-map ys (λ row. 2 ^ w + row))

  left_at : (k : ℕ) → k < length xs → get_or (xs ++ raised w ys) k 0 ≡ get_or xs k 0
  left_at = front_at w xs ys lx ly some also below within

  right_at : (k : ℕ) → k < length ys → get_or (xs ++ raised w ys) (length xs + k) 0 ≡ 2 ^ w + get_or ys k 0
  right_at = rest_at w xs ys lx ly some also below within

  lowest_right : (k : ℕ) → 0 < k → k < length ys → lowest (get_or (xs ++ raised w ys) (length xs + k) 0) ≡ lowest (get_or ys k 0)
  lowest_right k p l = ap lowest (right_at k l) ∙ lowest-raised w (get_or ys k 0) (later_positive ys ly k p l) (within k l)

  -- the first row on the right is that bit alone
  lowest_seam : lowest (get_or (xs ++ raised w ys) (length xs + 0) 0) ≡ 2 ^ w
  lowest_seam = let e : 2 ^ w + get_or ys 0 0 ≡ 2 ^ w = omega (arith, ly.first) in ap lowest (right_at 0 also ∙ e) ∙ lowest-power w

  lowest-fits : (r : ℕ) → r < 2 ^ w → lowest r < 2 ^ w
  lowest-fits r l = omega arith

  bit_left : (i : ℕ) → i < length xs → 2 ≤ length xs → bit_after i (xs ++ raised w ys) ≡ bit_after i xs
  bit_left i l more = ⊎_elim
      (λ (m : i + 1 < length xs). rw (left_at i l, left_at (i + 1) m, long, lt-ltb (i + 1) (length xs + length ys) (omega arith), lt-ltb (i + 1) (length xs) m) refl)
      (λ (m : length xs ≤ i + 1).
      let seam : length xs + 0 ≡ i + 1 = omega arith in
      let next : lowest (get_or (xs ++ raised w ys) (i + 1) 0) ≡ 2 ^ w = ap (λ k. lowest (get_or (xs ++ raised w ys) k 0)) (sym seam) ∙ lowest_seam in
      rw (
        next,
        left_at i l,
        long,
        lt-ltb (i + 1) (length xs + length ys) (omega arith),
        le-ltb (i + 1) (length xs) m,
        ne_eqb i 0 (λ z. absurd (omega arith)),
        le-ltb (2 ^ w) (lowest (get_or xs i 0)) (omega (arith, lowest-fits (get_or xs i 0) (below i l))),
      ) refl)
      (cases_lt (i + 1) (length xs))

  bit_after-fits : (rows : List ℕ) (i : ℕ) → ((k : ℕ) → k < length rows → get_or rows k 0 < 2 ^ w) → bit_after i rows < 2 ^ w
  bit_after-fits rows i fit = ⊎_elim
      (λ (e : nat_lt (i + 1) (length rows) ≡ true). rw e (elim (nat_eq i 0 || nat_lt (lowest (get_or rows (i + 1) 0)) (lowest (get_or rows i 0))) as (λ v. cond v (lowest (get_or rows (i + 1) 0)) 0 < 2 ^ w)
      [ true ↦ lowest-fits (get_or rows (i + 1) 0) (fit (i + 1) (ltb-true (i + 1) (length rows) e)) | false ↦ pow_pos w ]))
      (λ (e : nat_lt (i + 1) (length rows) ≡ false). rw e (pow_pos w))
      (cases_Bool (nat_lt (i + 1) (length rows)))

  pub removed-left : (i : ℕ) → i < length xs → 2 ≤ length xs → removed_row i (xs ++ raised w ys) ≡ removed_row i xs ++ raised w ys
  removed-left i l more =
      rw (
        take-append-le i xs (raised w ys) (omega arith),
        bit_left i l more,
        drop-append-le (i + 1) xs (raised w ys) (omega arith),
        cleared_front-before w (bit_after i xs) (bit_after-fits xs i below) ys also ly.first (drop (i + 1) xs),
      )
      (sym (append_assoc (take i xs) (cleared_front (bit_after i xs) (drop (i + 1) xs)) (raised w ys)))

  bit_right : (j : ℕ) → j < length ys → bit_after (length xs + j) (xs ++ raised w ys) ≡ bit_after j ys
  bit_right j l = ⊎_elim
      (λ (m : j + 1 < length ys).
      let shift : length xs + (j + 1) ≡ length xs + j + 1 = omega arith in
      let next : lowest (get_or (xs ++ raised w ys) (length xs + j + 1) 0) ≡ lowest (get_or ys (j + 1) 0) = ap (λ k. lowest (get_or (xs ++ raised w ys) k 0)) (sym shift) ∙ lowest_right (j + 1) (omega arith) m in
      rw (next, long, lt-ltb (length xs + j + 1) (length xs + length ys) (omega arith), lt-ltb (j + 1) (length ys) m, ne_eqb (length xs + j) 0 (λ z. absurd (omega arith)))
      (⊎_elim
      (λ (z : j ≡ 0). rw (z, lowest_seam, lt-ltb (lowest (get_or ys (0 + 1) 0)) (2 ^ w) (lowest-fits (get_or ys (0 + 1) 0) (within (0 + 1) (subst (λ k. k + 1 < length ys) z m)))) refl)
      (λ z. rw (lowest_right j (omega arith) l, ne_eqb j 0 z) refl)
      (cases_eq j 0)))
      (λ (m : length ys ≤ j + 1). rw (long, le-ltb (length xs + j + 1) (length xs + length ys) (omega arith), le-ltb (j + 1) (length ys) m) refl)
      (cases_lt (j + 1) (length ys))

  pub removed-right : (j : ℕ) → j < length ys → removed_row (length xs + j) (xs ++ raised w ys) ≡ xs ++ raised w (removed_row j ys)
  removed-right j l =
      let shift : length xs + j + 1 ≡ length xs + (j + 1) = omega arith in
      let fit : (k : ℕ) → k < length (drop (j + 1) ys) → get_or (drop (j + 1) ys) k 0 < 2 ^ w = λ k m.
      let n : length (drop (j + 1) ys) ≡ length ys - (j + 1) = length-drop (j + 1) ys in rw (get_or-drop (j + 1) ys k 0) (within (j + 1 + k) (omega arith)) in
      rw (
        take-append-add xs (raised w ys) j,
        bit_right j l,
        shift,
        drop-append-add xs (raised w ys) (j + 1),
        take-map (λ row. 2 ^ w + row) j ys,
        drop-map (λ row. 2 ^ w + row) (j + 1) ys,
        cleared_front-raised w (bit_after j ys) (bit_after-fits ys j within) (drop (j + 1) ys) fit,
        map-append (λ row. 2 ^ w + row) (take j ys) (cleared_front (bit_after j ys) (drop (j + 1) ys)),
      )
      (append_assoc xs (raised w (take j ys)) (raised w (cleared_front (bit_after j ys) (drop (j + 1) ys))))

-- the only row on the left
removed-only_left : (w : ℕ) (ys : List ℕ) → IsLadder ys → 0 < length ys → ((k : ℕ) → k < length ys → get_or ys k 0 < 2 ^ w) → removed_row 0 (0 ∷ raised w ys) ≡ ys
removed-only_left w [] ly also within = absurd (omega arith)
removed-only_left w (y ∷ ys) ly also within =
    let first : y ≡ 0 = ly.first in
    let e : 2 ^ w + y ≡ 2 ^ w = omega arith in
    let n : length (raised w ys) ≡ length ys = length-map ys (λ row. 2 ^ w + row) in
    let bit : bit_after 0 (0 ∷ raised w (y ∷ ys)) ≡ 2 ^ w =
    rw (lt-ltb (0 + 1) (length (0 ∷ raised w (y ∷ ys))) (omega arith)) (ap lowest e ∙ lowest-power w) in
    ap (λ b. cleared_front b (raised w (y ∷ ys))) bit ∙ cleared_front-highest w (y ∷ ys) within

-- the only row on the right
removed-last : (w : ℕ) (xs ys : List ℕ) → length ys ≡ 1 → removed_row (length xs) (xs ++ raised w ys) ≡ xs
removed-last w xs ys one =
    let n : length (xs ++ raised w ys) ≡ length xs + 1 = length-append xs (raised w ys) ∙ (rw (length-map ys (λ row. 2 ^ w + row), one) refl) in
    rw (take_at xs (raised w ys) (length xs) refl, drop_all (length xs + 1) (xs ++ raised w ys) (omega arith)) (append-nil xs)

-- ---- the rows of the piece
module _ {A : Type 0} where
  -- where the root fork is at the first column, from what holds of its two sides
  removed-fork : (w c : ℕ) (cs : List ℕ) (s t : Piece A) (i : ℕ) → length cs ≤ w → Ascends (c + 1) cs → UsesOnly cs s → UsesOnly cs t → RisesFrom (c + 1) s → RisesFrom (c + 1) t → i < size s + size t →
      ((k : ℕ) → is_place s ≡ false → k < size s → map (row w cs) (paths (without k s)) ≡ removed_row k (map (row w cs) (paths s))) →
      ((k : ℕ) → is_place t ≡ false → k < size t → map (row w cs) (paths (without k t)) ≡ removed_row k (map (row w cs) (paths t))) →
      map (row (suc w) (c ∷ cs)) (paths (without i (Fork c s t))) ≡ removed_row i (map (row (suc w) (c ∷ cs)) (paths (Fork c s t)))
  removed-fork w c cs s t i l a us ut rs rt here ihs iht =
      let xs : List ℕ = map (row w cs) (paths s) in let ys : List ℕ = map (row w cs) (paths t) in
      let m : length xs ≡ size s = length-rows w cs s in let n : length ys ≡ size t = length-rows w cs t in
      let lx : IsLadder xs = ladder-rows w cs (c + 1) s l a us rs in let ly : IsLadder ys = ladder-rows w cs (c + 1) t l a ut rt in
      let whole : map (row (suc w) (c ∷ cs)) (paths (Fork c s t)) ≡ xs ++ raised w ys = rows-fork w c cs s t a rs in
      let some : 0 < length xs = rw m (size_pos s) in let also : 0 < length ys = rw n (size_pos t) in
      ⊎_elim
      (λ (e : nat_lt i (size s) ≡ true). let left : i < size s = ltb-true i (size s) e in rw e (⊎_elim
      (λ (f : is_place s ≡ true). let one : size s ≡ 1 = size_alone s f in let z : i ≡ 0 = omega arith in
      rw (f, whole, single_row xs (m ∙ one) lx.first, z) (rows-later w c cs t rt ∙ sym (removed-only_left w ys ly also (rows_fit w cs t))))
      (λ (f : is_place s ≡ false). rw (f, whole)
      (rows-fork w c cs (without i s) t a (RisesFrom-without (c + 1) i s rs) ∙ ap (λ rows. rows ++ raised w ys) (ihs i f left)
      ∙ sym (removed-left w xs ys lx ly some also (rows_fit w cs s) (rows_fit w cs t) i (omega arith) (omega (arith, size_forked s f)))))
      (cases_Bool (is_place s))))
      (λ (e : nat_lt i (size s) ≡ false). let right : size s ≤ i = ltb-false i (size s) e in
      let back : length xs + (i - size s) ≡ i = omega arith in
      rw e (⊎_elim
      (λ (f : is_place t ≡ true). let one : size t ≡ 1 = size_alone t f in let z : i ≡ length xs = omega arith in
      rw (f, whole, z) (rows-later w c cs s rs ∙ sym (removed-last w xs ys (n ∙ one))))
      (λ (f : is_place t ≡ false). rw (f, whole)
      (rows-fork w c cs s (without (i - size s) t) a rs ∙ ap (λ rows. xs ++ raised w rows) (iht (i - size s) f (omega arith))
      ∙ sym (removed-right w xs ys lx ly some also (rows_fit w cs s) (rows_fit w cs t) (i - size s) (omega arith)) ∙ ap (λ k. removed_row k (xs ++ raised w ys)) back))
      (cases_Bool (is_place t))))
      (cases_Bool (nat_lt i (size s)))

  -- THE ROWS OF THE PIECE WITHOUT A PLACE
  pub rows-without : (w : ℕ) (cs : List ℕ) (low : ℕ) (P : Piece A) (i : ℕ) → length cs ≤ w → Ascends low cs → UsesOnly cs P → RisesFrom low P → is_place P ≡ false → i < size P →
      map (row w cs) (paths (without i P)) ≡ removed_row i (map (row w cs) (paths P))
  rows-without w cs low (Place x) i l a u r more here = absurd (false≢true (sym more))
  rows-without w [] low (Fork p s t) i l a u r more here = absurd (false≢true u.0)
  rows-without zero (c ∷ cs) low (Fork p s t) i l a u r more here = absurd (omega arith)
  rows-without (suc w) (c ∷ cs) low (Fork p s t) i l a u r more here = ⊎_elim
      (λ (e : eqb c p ≡ true). let same : c ≡ p = eqb-true c p e in
      let rs : RisesFrom (c + 1) s = (rw same r.1) in let rt : RisesFrom (c + 1) t = (rw same r.2) in
      let us : UsesOnly cs s = later_columns c cs s u.1 rs in let ut : UsesOnly cs t = later_columns c cs t u.2 rt in
      subst (λ q. map (row (suc w) (c ∷ cs)) (paths (without i (Fork q s t))) ≡ removed_row i (map (row (suc w) (c ∷ cs)) (paths (Fork q s t)))) same
      (removed-fork w c cs s t i (omega arith) a.1 us ut rs rt here
      (λ k m h. rows-without w cs (c + 1) s k (omega arith) a.1 us rs m h) (λ k m h. rows-without w cs (c + 1) t k (omega arith) a.1 ut rt m h)))
      (λ (e : eqb c p ≡ false). let h : (eqb c p || has cs p) ≡ true = u.0 in let g : has cs p ≡ true = (rw e at h) in let after : c + 1 ≤ p = has_after (c + 1) p cs a.1 g in
      let q : RisesFrom (c + 1) (Fork p s t) = (omega arith, r.1, r.2) in
      rows-later w c cs (without i (Fork p s t)) (RisesFrom-without (c + 1) i (Fork p s t) q)
      ∙ rows-without w cs (c + 1) (Fork p s t) i (omega arith) a.1 (later_columns c cs (Fork p s t) u q) q more here
      ∙ ap (removed_row i) (sym (rows-later w c cs (Fork p s t) q)))
      (cases_Bool (eqb c p))

  pub several_forked : (es : List A) (P : Piece A) → es ≡ places P → 2 ≤ length es → is_place P ≡ false
  several_forked es P e l = ⊎_elim (λ f. absurd (omega (arith, ap length e, length-places P, size_alone P f))) (λ f. f) (cases_Bool (is_place P))

  -- what is left covers the piece without the place
  pub covers_without : (cs rows : List ℕ) (es : List A) (P : Piece A) (i : ℕ) → ShowsPiece cs rows es P → 2 ≤ length es → i < length es → Covers cs (removed_row i rows) (remove es i) (without i P)
  covers_without cs rows es P i sh several here =
      let few : length cs ≤ 31 = sh.few in
      let more : is_place P ≡ false = several_forked es P sh.entries_are several in
      let inside : i < size P = omega (arith, here, ap length sh.entries_are, length-places P) in
      record {
        few = few;
        columns_rise = sh.columns_rise;
        forks_at_columns = UsesOnly-without cs i P sh.forks_at_columns;
        paths_rise = RisesFrom-without 0 i P sh.paths_rise;
        rows_are = ap (removed_row i) sh.rows_are ∙ sym (rows-without 32 cs 0 P i (omega arith) sh.columns_rise sh.forks_at_columns sh.paths_rise more inside);
        entries_are = ap (λ xs. remove xs i) sh.entries_are ∙ sym (places-without i P more inside);
      }
