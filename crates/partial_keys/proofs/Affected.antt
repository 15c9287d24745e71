-- The affected entries are those that agree with the found one in the columns below the position.
use Rattle.partial_keys.proofs.Common.{List, [], ap, arith, drop, eqb, false, get_or, length, length-append, map, refl, subst, suc, sym, take, true, zero, ℕ, ⊎_elim, ◌*◌, ◌++◌, ◌+◌, ◌-◌, ◌/◌, ◌<◌, ◌^◌, ◌||◌, ◌∙◌, ◌∷◌, ◌≡◌, ◌≤◌, cases_Bool, cases_lt, cases_order, eq-eqb, eqb-true, false≢true, lt-ltb, ltb-false, ltb-true, ne_eqb, get_or-map, length-map, length-take-le, map-append, take-append-drop, shr_high, code-lt, code, affected_fits, NoneHas, only_path, length-paths, paths-left, paths-right, none_before, has_after, Ascends-front, below_front, ascends_back, IsPlaceOf, same_bools, later_columns, affected_first, affected_count, Piece, Place, Fork, size, paths, RisesFrom, UsesOnly, has, Ascends, AllBelow}
use Rattle.std.proofs.Common.{nat_lt}
use Rattle.partial_keys.proofs.Rows.{code-join}
use Rattle.partial_keys.proofs.Shown.{row, row-set}
use Rattle.partial_keys.specs.Rows.{row_of}
use Rattle.partial_keys.specs.Runs.{agree_in, IsRunStart, IsRunEnd}
use Rattle.partial_keys.specs.Shows.{ShowsPiece}
use Rattle.node_tries.proofs.Affected.{within, within_past, within_before, within_shift, within_all, within_in, within_true, rises_after, whole_first}

eqb_add : (m a b : ℕ) → eqb (m + a) (m + b) ≡ eqb a b
eqb_add m a b = same_bools _ _ (λ e. eq-eqb a b (let f : m + a ≡ m + b = eqb-true (m + a) (m + b) e in omega arith)) (λ e. eq-eqb (m + a) (m + b) (let f : a ≡ b = eqb-true a b e in omega arith))

module _ {A : Type 0} where
  -- the row of a path that has not the first column
  row_at-skip : (w c : ℕ) (cs : List ℕ) (P : Piece A) (k : ℕ) → RisesFrom (c + 1) P → row (suc w) (c ∷ cs) (get_or (paths P) k []) ≡ row w cs (get_or (paths P) k [])
  row_at-skip w c cs P k r = rw (none_at c (paths P) k (none_before c P r)) (omega arith)
    where
      none_at : (c : ℕ) (zs : List (List ℕ)) (k : ℕ) → NoneHas c zs → has (get_or zs k []) c ≡ false
      none_at c [] k h = refl
      none_at c (z ∷ zs) zero h = h.0
      none_at c (z ∷ zs) (suc k) h = none_at c zs k h.1

  module _ (position : ℕ) where
    module _ (w c : ℕ) (xs : List ℕ) (s t : Piece A) (before : c < position) (rs : RisesFrom (c + 1) s) (rt : RisesFrom (c + 1) t) (a : Ascends (c + 1) xs) where
      code_left : (k : ℕ) → k < size s → row (suc w) (c ∷ xs) (get_or (paths (Fork c s t)) k []) ≡ row w xs (get_or (paths s) k [])
      code_left k l = ap (row (suc w) (c ∷ xs)) (paths-left c s t k l) ∙ row_at-skip w c xs s k rs

      code_right : (k : ℕ) → size s ≤ k → k < size s + size t → row (suc w) (c ∷ xs) (get_or (paths (Fork c s t)) k []) ≡ 2 ^ w + row w xs (get_or (paths t) (k - size s) [])
      code_right k l m = ap (row (suc w) (c ∷ xs)) (paths-right c s t k l m) ∙ row-set w c xs (get_or (paths t) (k - size s) []) a

      fork_case : (i k : ℕ) → i < size s + size t → k < size s + size t →
          (i < size s → k < size s → eqb (row w xs (get_or (paths s) k [])) (row w xs (get_or (paths s) i [])) ≡ within (affected_first position i s) (affected_count position i s) k) →
          (i - size s < size t → k - size s < size t → eqb (row w xs (get_or (paths t) (k - size s) [])) (row w xs (get_or (paths t) (i - size s) [])) ≡ within (affected_first position (i - size s) t) (affected_count position (i - size s) t) (k - size s)) →
          eqb (row (suc w) (c ∷ xs) (get_or (paths (Fork c s t)) k [])) (row (suc w) (c ∷ xs) (get_or (paths (Fork c s t)) i [])) ≡ within (affected_first position i (Fork c s t)) (affected_count position i (Fork c s t)) k
      fork_case i k li lk ihs iht =
          let small : (z : List ℕ) → row w xs z < 2 ^ w = λ z. code-lt w (map (has z) xs) in
          rw (lt-ltb c position before) (⊎_elim
          (λ e. let p : i < size s = ltb-true i (size s) e in rw (e, code_left i p) (⊎_elim
          (λ q. rw (code_left k q) (ihs p q))
          (λ q. rw (code_right k q lk) (ne_eqb _ _ (let b : row w xs (get_or (paths s) i []) < 2 ^ w = small _ in λ f. absurd (omega (arith, b, f)))
          ∙ sym (within_past (affected_first position i s) (affected_count position i s) k (omega (arith, (affected_fits position s i).0)))))
          (cases_lt k (size s))))
          (λ e. let p : size s ≤ i = ltb-false i (size s) e in rw (e, code_right i p li) (⊎_elim
          (λ q. rw (code_left k q) (ne_eqb _ _ (let b : row w xs (get_or (paths s) k []) < 2 ^ w = small _ in λ f. absurd (omega (arith, b, f)))
          ∙ sym (within_before (size s + affected_first position (i - size s) t) (affected_count position (i - size s) t) k (omega arith))))
          (λ q. rw (code_right k q lk) (eqb_add (2 ^ w) _ _ ∙ iht (omega arith) (omega arith) ∙ sym (within_shift (size s) (affected_first position (i - size s) t) (affected_count position (i - size s) t) k q)))
          (cases_lt k (size s))))
          (cases_Bool (nat_lt i (size s))))

    -- THE AFFECTED RANGE, over the columns below the position
    pub agree_within : (w : ℕ) (xs ys : List ℕ) (low : ℕ) (P : Piece A) (i k : ℕ) → length xs ≤ w → Ascends low (xs ++ ys) → AllBelow position xs → Ascends position ys → UsesOnly (xs ++ ys) P → RisesFrom low P →
        i < size P → k < size P →
        eqb (row w xs (get_or (paths P) k [])) (row w xs (get_or (paths P) i [])) ≡ within (affected_first position i P) (affected_count position i P) k
    agree_within w [] ys low P i k lw a b y u r li lk =
        let h : (affected_first position i P ≡ 0) × (affected_count position i P ≡ size P) = whole_first position P i (rises_after position ys P y u low r) in
        rw (h.0, h.1, within_all (size P) k lk) refl
    agree_within zero (c ∷ xs) ys low P i k lw a b y u r li lk = absurd (omega arith)
    agree_within (suc w) (c ∷ xs) ys low (Place x) i k lw a b y u r li lk = eq-eqb _ _ (ap (row (suc w) (c ∷ xs)) (only_path k ∙ sym (only_path i))) ∙ sym (within_all 1 k lk)
    agree_within (suc w) (c ∷ xs) ys low (Fork q s t) i k lw a b y u r li lk = ⊎_elim
        (λ (e : eqb c q ≡ true). let same : c ≡ q = eqb-true c q e in
        let rs : RisesFrom (c + 1) s = (rw same r.1) in let rt : RisesFrom (c + 1) t = (rw same r.2) in
        let F : ℕ → Type 0 = λ v. eqb (row (suc w) (c ∷ xs) (get_or (paths (Fork v s t)) k [])) (row (suc w) (c ∷ xs) (get_or (paths (Fork v s t)) i [])) ≡ within (affected_first position i (Fork v s t)) (affected_count position i (Fork v s t)) k in
        subst F same (fork_case w c xs s t b.0 rs rt (Ascends-front (c + 1) xs ys a.1) i k li lk
        (λ p l. agree_within w xs ys (c + 1) s i k (omega arith) a.1 b.1 y (later_columns c (xs ++ ys) s u.1 rs) rs p l)
        (λ p l. agree_within w xs ys (c + 1) t (i - size s) (k - size s) (omega arith) a.1 b.1 y (later_columns c (xs ++ ys) t u.2 rt) rt p l)))
        (λ (e : eqb c q ≡ false). let h : (eqb c q || has (xs ++ ys) q) ≡ true = u.0 in let g : has (xs ++ ys) q ≡ true = (rw e at h) in let after : c + 1 ≤ q = has_after (c + 1) q (xs ++ ys) a.1 g in
        let v : RisesFrom (c + 1) (Fork q s t) = (omega arith, r.1, r.2) in
        rw (row_at-skip w c xs (Fork q s t) k v, row_at-skip w c xs (Fork q s t) i v)
        (agree_within w xs ys (c + 1) (Fork q s t) i k (omega arith) a.1 b.1 y (later_columns c (xs ++ ys) (Fork q s t) u v) v li lk))
        (cases_Bool (eqb c q))

-- ---- from rows as numbers
row_high : (xs ys z : List ℕ) → length xs + length ys ≤ 31 → row_of (xs ++ ys) z / 2 ^ (32 - length xs) ≡ row (length xs) xs z
row_high xs ys z few =
    let k : ℕ = 32 - length xs in
    let high : ℕ = row (length xs) xs z in
    let low : ℕ = code k (map (has z) ys) in
    let n : length (map (has z) xs) ≡ length xs = length-map xs (has z) in
    let e : row_of (xs ++ ys) z ≡ high * 2 ^ k + low =
    ap (code 32) (map-append (has z) xs ys) ∙ code-join (map (has z) xs) (map (has z) ys) (omega arith)
    ∙ (rw n refl) in
    ap (λ m. m / 2 ^ k) e ∙ shr_high high k low (code-lt k (map (has z) ys))

module _ {A : Type 0} (cs rows : List ℕ) (es : List A) (Q : Piece A) (p found n first last : ℕ) (sh : ShowsPiece cs rows es Q) (place : IsPlaceOf cs p n) (here : found < size Q)
    (start : IsRunStart rows n found first) (end : IsRunEnd rows n found last) where
  flag : (k : ℕ) → k < size Q → agree_in n (get_or rows k 0) (get_or rows found 0) ≡ within (affected_first p found Q) (affected_count p found Q) k
  flag k l =
      let xs : List ℕ = take n cs in let ys : List ℕ = drop n cs in
      let long : length xs ≡ n = length-take-le n cs place.in_range in
      let whole : xs ++ ys ≡ cs = take-append-drop n cs in
      let few : length cs ≤ 31 = sh.few in
      let parts : length xs + length ys ≡ length cs = sym (length-append xs ys) ∙ ap length whole in
      let at : (i : ℕ) → i < size Q → get_or rows i 0 / 2 ^ (32 - n) ≡ row n xs (get_or (paths Q) i []) = λ i m.
      let e : get_or rows i 0 ≡ row_of (xs ++ ys) (get_or (paths Q) i []) =
      ap (λ rs. get_or rs i 0) sh.rows_are ∙ get_or-map (row_of cs) (paths Q) i [] 0 (rw (length-paths Q) m) ∙ ap (λ ds. row_of ds (get_or (paths Q) i [])) (sym whole) in
      let h : row_of (xs ++ ys) (get_or (paths Q) i []) / 2 ^ (32 - n) ≡ row n xs (get_or (paths Q) i []) = (rw long at (row_high xs ys (get_or (paths Q) i []) (omega arith))) in
      ap (λ m. m / 2 ^ (32 - n)) e ∙ h in
      rw (at k l, at found here)
      (agree_within p n xs ys 0 Q found k (omega arith) (subst (λ ds. Ascends 0 ds) (sym whole) sh.columns_rise) (below_front p n cs place.in_range place.below)
      (ascends_back 0 p n cs place.in_range sh.columns_rise place.above) (subst (λ ds. UsesOnly ds Q) (sym whole) sh.forks_at_columns) sh.paths_rise here l)

  pub affected_is : (affected_first p found Q ≡ first) × (affected_count p found Q + first ≡ last + 1)
  affected_is =
      let f : ℕ = affected_first p found Q in let m : ℕ = affected_count p found Q in
      let count : length rows ≡ size Q = ap length sh.rows_are ∙ length-map (paths Q) (row_of cs) ∙ length-paths Q in
      let fits : (f + m ≤ size Q) × (0 < m) = affected_fits p Q found in
      let inside : (f ≤ found) × (found < f + m) = within_true f m found (sym (flag found here) ∙ eq-eqb _ _ refl) in
      let s0 : first ≤ found = start.in_range in let e0 : found ≤ last = end.at_least in let e1 : last < length rows = end.in_range in
      let same : f ≡ first = ⊎_elim (λ q. q) (λ c. ⊎_elim
      (λ (l : f < first). absurd (false≢true (sym (start.before (omega arith)) ∙ flag (first - 1) (omega arith) ∙ within_in f m (first - 1) (omega arith) (omega (arith, inside.1)))))
      (λ (l : first < f). let w : (f ≤ first) × (first < f + m) = within_true f m first (sym (flag first (omega arith)) ∙ start.same first (omega arith) (omega (arith, inside.0))) in omega (arith, w.0)) c) (cases_order f first) in
      let upto : f + m ≡ last + 1 = ⊎_elim (λ q. q) (λ c. ⊎_elim
      (λ (l : f + m < last + 1). let w : (f ≤ last) × (last < f + m) = within_true f m last (sym (flag last (omega arith)) ∙ end.same last (omega (arith, inside.1)) (omega arith)) in omega (arith, w.1))
      (λ (l : last + 1 < f + m). absurd (false≢true (sym (end.after (omega (arith, fits.0))) ∙ flag (last + 1) (omega (arith, fits.0)) ∙ within_in f m (last + 1) (omega (arith, inside.0)) l))) c) (cases_order (f + m) (last + 1)) in
      (same, omega arith)
