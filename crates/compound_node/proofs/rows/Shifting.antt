-- Lanes that move up by one, over the last of them.
use Rattle.compound_node.proofs.Common.{Bool, List, [], ap, ap₂, arith, bit_or, cond, drop, eqb, false, get_or, length, length-append, map, nat_lt, refl, replicate, sym, take, true, w32, ℕ, ⊎_elim, ◌++◌, ◌+◌, ◌-◌, ◌<◌, ◌∙◌, ◌∷◌, ◌≡◌, ◌≤◌, cases_lt, eq-eqb, le-ltb, lt-ltb, ne_eqb, append_assoc, ext_get_or, get_or-append_right, get_or-drop, get_or-map, get_or-replicate, get_or-take, get_or_append_left, length-drop, length-map, length-take-le, take_more, get_or-insert_above, get_or-insert_at, get_or-insert_below, length-insert, get_or-range_with_len, get_or-sel_l, get_or-zip2, length-sel_l, length-zip2, tops_compared, zip2_splat, insert, range_with_len, forked_rows, edited, or_zero_r}
use Rattle.compound_node.proofs.Editing.{part_first}
use lib.Lanes.{pick_l, sel_l, top, zip2}

-- the lanes whose places a comparison with a number picks
abbrev pub picked : (ℕ → ℕ → Bool) → ℕ → List Bool
picked t b = map (top 31) (zip2 (λ x y. cond (t x y) 4294967295 0) (range_with_len 0 32) (replicate 32 b))

pub picked_at : (t : ℕ → ℕ → Bool) (b i : ℕ) → i < 32 → get_or (picked t b) i false ≡ t i b
picked_at t b i l =
    ap (λ bs. get_or bs i false) (tops_compared w32 t (range_with_len 0 32) (replicate 32 b) ∙ zip2_splat t (range_with_len 0 32) 32 b refl)
    ∙ (get_or-map (λ x. t x b) (range_with_len 0 32) i 0 false l ∙ ap (λ x. t x b) (get_or-range_with_len 0 32 i 0 l ∙ omega arith))

module _ (rows : List ℕ) (long : length rows ≡ 32) where
  -- each lane is the one before it
  abbrev pub moved : List ℕ
  moved = pick_l 0 (rows ++ rows) (31 ∷ range_with_len 0 31)

  moved_at : (i : ℕ) → 0 < i → i < 32 → get_or moved i 0 ≡ get_or rows (i - 1) 0
  moved_at i some l =
      get_or-map (λ k. get_or (rows ++ rows) k 0) (31 ∷ range_with_len 0 31) i 0 0 l
      ∙ (ap (λ k. get_or (rows ++ rows) k 0) (get_or-append_right (31 ∷ []) (range_with_len 0 31) 1 i 0 refl some ∙ (get_or-range_with_len 0 31 (i - 1) 0 (omega (arith, l, some)) ∙ omega arith))
      ∙ get_or_append_left rows rows 0 (i - 1) (omega (arith, l, some, long)))

  -- the lanes from a place on move, but for those that others take the place of
  abbrev pub behind : ℕ → List ℕ → List ℕ
  behind at others = sel_l (picked nat_lt at) rows others

  module _ (at : ℕ) (others : List ℕ) (full : length others ≡ 32) where
    length-behind : length (behind at others) ≡ 32
    length-behind = length-sel_l (picked nat_lt at) rows others (sym long) (sym full)

    kept_at : (i : ℕ) → i < 32 → i < at → get_or (behind at others) i 0 ≡ get_or rows i 0
    kept_at i l low =
        get_or-sel_l (picked nat_lt at) rows others i 0 l (omega (arith, l, long)) (omega (arith, l, full))
        ∙ ap (λ b. cond b (get_or rows i 0) (get_or others i 0)) (picked_at nat_lt at i l ∙ lt-ltb i at low)

    other_at : (i : ℕ) → i < 32 → at ≤ i → get_or (behind at others) i 0 ≡ get_or others i 0
    other_at i l past =
        get_or-sel_l (picked nat_lt at) rows others i 0 l (omega (arith, l, long)) (omega (arith, l, full))
        ∙ ap (λ b. cond b (get_or rows i 0) (get_or others i 0)) (picked_at nat_lt at i l ∙ le-ltb i at past)

  -- a row put in at its place
  module _ (at row : ℕ) (inside : at < 32) where
    abbrev pub put : List ℕ
    put = sel_l (picked eqb at) (replicate 32 row) moved

    put_at : (i : ℕ) → i < 32 → get_or put i 0 ≡ cond (eqb i at) row (get_or moved i 0)
    put_at i l =
        get_or-sel_l (picked eqb at) (replicate 32 row) moved i 0 l l l
        ∙ ap₂ (λ b x. cond b x (get_or moved i 0)) (picked_at eqb at i l) (get_or-replicate 32 i row 0 l)

    length-put : length put ≡ 32
    length-put = length-sel_l (picked eqb at) (replicate 32 row) moved refl refl

    pub row_put : behind at put ≡ take 32 (insert rows at row)
    row_put = ext_get_or 0 (behind at put) (take 32 (insert rows at row)) (length-behind at put length-put ∙ sym more) each
      where
        longer : length (insert rows at row) ≡ 33
        longer = length-insert rows at row (omega (arith, inside, long)) ∙ omega (arith, long)

        more : length (take 32 (insert rows at row)) ≡ 32
        more = length-take-le 32 (insert rows at row) (omega (arith, longer))

        each : (i : ℕ) → i < length (behind at put) → get_or (behind at put) i 0 ≡ get_or (take 32 (insert rows at row)) i 0
        each i h =
            let l : i < 32 = omega (arith, h, length-behind at put length-put) in
            ⊎_elim
            (λ (low : i < at). kept_at at put length-put i l low ∙ sym (get_or-insert_below rows at row 0 i low (omega (arith, inside, long))))
            (λ (past : at ≤ i). other_at at put length-put i l past ∙ (put_at i l ∙ ⊎_elim
            (λ (same : i < at + 1). let e : i ≡ at = omega (arith, past, same) in
            ap (λ b. cond b row (get_or moved i 0)) (eq-eqb i at e) ∙ (sym (get_or-insert_at rows at row 0 (omega (arith, inside, long))) ∙ ap (λ k. get_or (insert rows at row) k 0) (sym e)))
            (λ (above : at + 1 ≤ i).
            ap (λ b. cond b row (get_or moved i 0)) (ne_eqb i at (λ e. omega (arith, e, above)))
            ∙ (moved_at i (omega (arith, above)) l ∙ (sym (get_or-insert_above rows at row 0 (i - 1) (omega (arith, above)) (omega (arith, inside, long))) ∙ ap (λ k. get_or (insert rows at row) k 0) (omega (arith, above)))))
            (cases_lt i (at + 1))))
            (cases_lt i at)
            ∙ sym (get_or-take 32 (insert rows at row) i 0 l)

  -- the lanes moved up, with bits joined to those before `end`
  abbrev pub joined : ℕ → ℕ → List ℕ
  joined end bits = zip2 bit_or moved (sel_l (picked nat_lt end) (replicate 32 bits) (replicate 32 0))

  module _ (end bits : ℕ) where
    length-joined : length (joined end bits) ≡ 32
    length-joined = length-zip2 bit_or moved (sel_l (picked nat_lt end) (replicate 32 bits) (replicate 32 0)) (sym length-bits)
      where
        length-bits : length (sel_l (picked nat_lt end) (replicate 32 bits) (replicate 32 0)) ≡ 32
        length-bits = length-sel_l (picked nat_lt end) (replicate 32 bits) (replicate 32 0) refl refl

    joined_at : (i : ℕ) → i < 32 → (b : Bool) → nat_lt i end ≡ b → get_or (joined end bits) i 0 ≡ bit_or (get_or moved i 0) (cond b bits 0)
    joined_at i l b is =
        get_or-zip2 bit_or moved (sel_l (picked nat_lt end) (replicate 32 bits) (replicate 32 0)) i 0 0 0 l l
        ∙ ap (bit_or (get_or moved i 0)) (get_or-sel_l (picked nat_lt end) (replicate 32 bits) (replicate 32 0) i 0 l l l
        ∙ (ap₂ (λ x y. cond (get_or (picked nat_lt end) i false) x y) (get_or-replicate 32 i bits 0 l) (get_or-replicate 32 i 0 0 l)
        ∙ ap (λ t. cond t bits 0) (picked_at nat_lt end i l ∙ is)))

  -- the rows from `first` on that then come before `end` are the part with the fork
  module _ (first end bits : ℕ) (some : first + 1 < end) (inside : end ≤ 32) where
    abbrev n : ℕ
    n = end - 1 - first

    abbrev part : List ℕ
    part = map (λ row. bit_or row bits) (take n (drop first rows))

    length-taken : length (take n (drop first rows)) ≡ n
    length-taken = length-take-le n (drop first rows) (omega (arith, length-drop first rows, long, inside, some))

    length-part : length part ≡ n
    length-part = length-map (take n (drop first rows)) (λ row. bit_or row bits) ∙ length-taken

    abbrev front : List ℕ
    front = take (first + 1) rows

    length-front : length front ≡ first + 1
    length-front = length-take-le (first + 1) rows (omega (arith, long, inside, some))

    abbrev forked : List ℕ
    forked = front ++ (part ++ drop (first + n) rows)

    forked_is : edited first n (forked_rows bits false) rows ≡ forked
    forked_is =
        ap (λ x. take first rows ++ x ∷ (part ++ drop (first + n) rows))
        (part_first first n 0 rows (omega (arith, some)))
        ∙ (sym (append_assoc (take first rows) (get_or rows first 0 ∷ []) (part ++ drop (first + n) rows))
        ∙ ap (λ xs. xs ++ (part ++ drop (first + n) rows)) (sym (take_more rows first 0 (omega (arith, long, inside, some)))))

    length-forked : length forked ≡ 33
    length-forked =
        length-append front (part ++ drop (first + n) rows)
        ∙ omega (arith, length-front, length-append part (drop (first + n) rows), length-part, length-drop (first + n) rows, long, inside, some)

    forked_at : (i : ℕ) → i < 32 → get_or (behind (first + 1) (joined end bits)) i 0 ≡ get_or forked i 0
    forked_at i l = ⊎_elim
        (λ (low : i < first + 1). kept_at (first + 1) (joined end bits) (length-joined end bits) i l low
        ∙ (sym (get_or-take (first + 1) rows i 0 low) ∙ sym (get_or_append_left front (part ++ drop (first + n) rows) 0 i (omega (arith, low, length-front)))))
        (λ (past : first + 1 ≤ i).
        let j : ℕ = i - (first + 1) in
        let before : get_or moved i 0 ≡ get_or rows (first + j) 0 = moved_at i (omega (arith, past)) l ∙ ap (λ k. get_or rows k 0) (omega (arith, past)) in
        other_at (first + 1) (joined end bits) (length-joined end bits) i l past
        ∙ (⊎_elim
        (λ (low : i < end).
        joined_at end bits i l true (lt-ltb i end low)
        ∙ (ap (λ x. bit_or x bits) (before ∙ (sym (get_or-drop first rows j 0) ∙ sym (get_or-take n (drop first rows) j 0 (omega (arith, past, low)))))
        ∙ (sym (get_or-map (λ row. bit_or row bits) (take n (drop first rows)) j 0 0 (omega (arith, past, low, length-taken)))
        ∙ sym (get_or_append_left part (drop (first + n) rows) 0 j (omega (arith, past, low, length-part))))))
        (λ (above : end ≤ i).
        joined_at end bits i l false (le-ltb i end above)
        ∙ (or_zero_r (get_or moved i 0) ∙ (before
        ∙ (ap (λ k. get_or rows k 0) (let e : first + j ≡ first + n + (j - n) = omega (arith, past, above, some) in e)
        ∙ (sym (get_or-drop (first + n) rows (j - n) 0) ∙ sym (get_or-append_right part (drop (first + n) rows) n j 0 length-part (omega (arith, past, above, some))))))))
        (cases_lt i end)
        ∙ sym (get_or-append_right front (part ++ drop (first + n) rows) (first + 1) i 0 length-front past)))
        (cases_lt i (first + 1))

    pub rows_joined : behind (first + 1) (joined end bits) ≡ take 32 (edited first (end - 1 - first) (forked_rows bits false) rows)
    rows_joined =
        ext_get_or 0 (behind (first + 1) (joined end bits)) (take 32 forked) (length-behind (first + 1) (joined end bits) (length-joined end bits) ∙ sym (length-take-le 32 forked (omega (arith, length-forked))))
        (λ i h. let l : i < 32 = omega (arith, h, length-behind (first + 1) (joined end bits) (length-joined end bits)) in forked_at i l ∙ sym (get_or-take 32 forked i 0 l))
        ∙ ap (take 32) (sym forked_is)
