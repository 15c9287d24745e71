-- A new entry in rows with a place for each column.
use Rattle.partial_keys.proofs.Common.{Bool, List, [], ap, arith, drop, false, get_or, length, length-append, map, subst, sym, take, true, ℕ, ◌%◌, ◌*◌, ◌++◌, ◌+◌, ◌-◌, ◌<◌, ◌^◌, ◌∙◌, ◌∷◌, ◌≡◌, ◌≤◌, drop_more, length-take-le, take-append-drop, one_shl, front_below-place, with_position-split, Ascends-with_position, has-at, IsPlaceOf, affected_count, IsAffected, grown, edited, forked_places, Piece, has, Ascends, front_below, with_position}
use Rattle.partial_keys.proofs.Spread.{column_bit}
use Rattle.partial_keys.proofs.Shows.{shown_columns, affected_range, shows-grown, shows-grown_column}
use Rattle.partial_keys.specs.Rows.{row_of}
use Rattle.partial_keys.specs.Shows.{ShowsPiece}
use Rattle.partial_keys.specs.Spread.{spread_row, forked_rows}

-- the 1 of column j
abbrev pub weight : ℕ → ℕ
weight j = 1 * 2 ^ (31 - j) % 2 ^ 32

weight_is : (p : ℕ) (xs ys : List ℕ) → length xs ≤ 31 → Ascends 0 (xs ++ p ∷ ys) → weight (length xs) ≡ row_of (xs ++ p ∷ ys) (p ∷ [])
weight_is p xs ys l a = let e : 32 - 1 - length xs ≡ 31 - length xs = omega arith in
    one_shl (31 - length xs) 32 (omega arith) ∙ sym (ap (λ m. 2 ^ m) e) ∙ sym (column_bit 32 p 0 xs ys (omega arith) a)

-- the 1 of the column of a position
pub weight_at : (p : ℕ) (cs : List ℕ) → length cs ≤ 31 → Ascends 0 cs → has cs p ≡ true → weight (front_below p cs) ≡ row_of cs (p ∷ [])
weight_at p cs few rise here =
    let j : ℕ = front_below p cs in
    let at : (j < length cs) × (get_or cs j 0 ≡ p) = has-at p 0 cs rise here in
    let xs : List ℕ = take j cs in let ys : List ℕ = drop (j + 1) cs in
    let long : length xs ≡ j = length-take-le j cs (omega (arith, at.0)) in
    let split : xs ++ p ∷ ys ≡ cs = ap (λ ds. xs ++ ds) (ap (λ c. c ∷ ys) (sym at.1) ∙ sym (drop_more cs j 0 at.0)) ∙ take-append-drop j cs in
    ap weight (sym long) ∙ weight_is p xs ys (omega (arith, at.0)) (subst (λ ds. Ascends 0 ds) (sym split) rise) ∙ ap (λ ds. row_of ds (p ∷ [])) split

module _ {A : Type 0} (cs rows : List ℕ) (es : List A) (Q : Piece A) (p first last : ℕ) (bit : Bool) (x : A) (sh : ShowsPiece cs rows es Q) (aff : IsAffected Q p first last) where
  -- the position is a column
  pub shows-at_column : has cs p ≡ true →
      ShowsPiece cs (edited first (last + 1 - first) (forked_rows (weight (front_below p cs)) bit) rows) (edited first (last + 1 - first) (forked_places bit x) es) (grown p bit x first Q)
  shows-at_column here =
      let w : weight (front_below p cs) ≡ row_of cs (p ∷ []) = weight_at p cs sh.few sh.columns_rise here in
      let r : (first ≤ last) × (last < length es) × (last + 1 - first ≡ affected_count p first Q) = affected_range cs rows es Q p first last sh aff in
      let g = shows-grown p bit x Q first cs rows es sh here aff.fresh in
      rw (w, r.2) (rw aff.from at g)

  -- the position becomes a column
  pub shows-at_new : length es < 32 → has cs p ≡ false →
      ShowsPiece (with_position p cs) (edited first (last + 1 - first) (forked_rows (weight (front_below p cs)) bit) (map (spread_row (front_below p cs)) rows))
      (edited first (last + 1 - first) (forked_places bit x) es) (grown p bit x first Q)
  shows-at_new room off =
      let j : ℕ = front_below p cs in
      let place : IsPlaceOf cs p j = front_below-place p cs in
      let long : length (take j cs) ≡ j = length-take-le j cs place.in_range in
      let whole : take j cs ++ drop j cs ≡ cs = take-append-drop j cs in
      let split : with_position p cs ≡ take j cs ++ p ∷ drop j cs = with_position-split p cs in
      let rise : Ascends 0 (take j cs ++ p ∷ drop j cs) = subst (λ ds. Ascends 0 ds) split (Ascends-with_position p 0 cs (omega arith) off sh.columns_rise) in
      let few : length cs < length es = shown_columns cs rows es Q sh in
      let parts : length (take j cs) + length (drop j cs) ≡ length cs = sym (length-append (take j cs) (drop j cs)) ∙ ap length whole in
      let w : weight j ≡ row_of (take j cs ++ p ∷ drop j cs) (p ∷ []) = ap weight (sym long) ∙ weight_is p (take j cs) (drop j cs) (omega arith) rise in
      let r : (first ≤ last) × (last < length es) × (last + 1 - first ≡ affected_count p first Q) = affected_range cs rows es Q p first last sh aff in
      let old : ShowsPiece (take j cs ++ drop j cs) rows es Q = subst (λ ds. ShowsPiece ds rows es Q) (sym whole) sh in
      let g = shows-grown_column p bit x Q first (take j cs) (drop j cs) rows es old (omega arith) rise (rw whole off) in
      rw (split, w, r.2) (rw (aff.from, long) at g)
