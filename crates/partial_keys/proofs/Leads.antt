-- The search of a node: the highest entry that complies is the place to which the forks lead.
use Rattle.partial_keys.proofs.Common.{Bool, List, [], ap, arith, bit_and, eqb, false, get_or, length, map, refl, replicate, subst, suc, sym, take, true, zero, ℕ, ◌%◌, ◌-◌, ◌<◌, ◌^◌, ◌||◌, ◌∙◌, ◌∷◌, ◌≡◌, ◌≤◌, pow-suc, eq-eqb, ne_eqb, ext_get_or, get_or-map, get_or-take, get_or_append_left, length-map, length-take-le, take_at, and_mask, bit_at, code-lt, code, size_pos, length-paths, first_path, highest-paths, AllInside, inside, leads_to-agree, front_below-column, Agree, same_from_flags, Piece, paths, leads_to, has, all, any, Ascends}
use Rattle.partial_keys.proofs.Rows.{complies-row, code-falses, bits_of-code, length-bits_of, get_or-bits_of, complies-front}
use Rattle.partial_keys.specs.Leads.{IsPlaceForDense, IsPlaceForKey}
use Rattle.partial_keys.specs.Rows.{dense_of, row_of, rows_of, complies, IsHighest, with_unused, dense_bit}
use Rattle.partial_keys.specs.Shows.{ShowsPiece}
use Rattle.partial_keys.specs.Squeezed.{bits_of}
use Rattle.node_tries.proofs.Highest.{highest-append, highest-map, highest_at, highest_agree}
use Rattle.node_tries.specs.Highest.{highest}

-- the unused places comply with no dense key whose bit 0 is 0
unused_fail : (d n : ℕ) → d < 2 ^ 32 → d % 2 ≡ 0 → any (complies d) (replicate n 4294967295) ≡ false
unused_fail d zero l e = refl
unused_fail d (suc n) l e = or_none (complies d 4294967295) (any (complies d) (replicate n 4294967295))
    (ne_eqb (bit_and d 4294967295) 4294967295 (λ q. let m : bit_and d (2 ^ 32 - 1) ≡ d % 2 ^ 32 = and_mask d 32 in absurd (omega (arith, m, q, l, e))))
    (unused_fail d n l e)
  where
    or_none : (x y : Bool) → x ≡ false → y ≡ false → (x || y) ≡ false
    or_none x y f g = rw (f, g)

pub code-even : (w : ℕ) (bs : List Bool) → length bs ≤ w → code (suc w) bs % 2 ≡ 0
code-even w [] h = refl
code-even zero (b ∷ bs) h = absurd (omega arith)
code-even (suc w) (true ∷ bs) h = omega (arith, code-even w bs (omega arith), pow-suc 2 w)
code-even (suc w) (false ∷ bs) h = omega (arith, code-even w bs (omega arith))

-- ---- the bits that a dense key has for the columns
module _ (cs : List ℕ) (few : length cs ≤ 31) (rise : Ascends 0 cs) where
  dense_bits : (d : ℕ) → map (dense_bit cs d) cs ≡ take (length cs) (bits_of 32 d)
  dense_bits d = ext_get_or false _ _
      (length-map cs (dense_bit cs d) ∙ sym (length-take-le (length cs) (bits_of 32 d) (rw length-bits_of (omega arith))))
      (λ k l. let m : k < length cs = rw (length-map cs (dense_bit cs d)) at l in
      get_or-map (dense_bit cs d) cs k 0 false m
      ∙ ap (λ n. eqb (bit_at d (31 - n)) 1) (front_below-column 0 cs k rise m)
      ∙ sym (get_or-take (length cs) (bits_of 32 d) k false m ∙ get_or-bits_of 32 d k (omega arith)))

  -- of a gathered key they are the key's bits
  pub dense_bit-gathered : (bit : ℕ → Bool) (c : ℕ) → has cs c ≡ true → dense_bit cs (dense_of cs bit) c ≡ bit c
  dense_bit-gathered bit c h = same_from_flags (dense_bit cs (dense_of cs bit)) bit cs
      (dense_bits (dense_of cs bit) ∙ ap (take (length cs)) (bits_of-code 32 (map bit cs) (rw (length-map cs bit) (omega arith)))
      ∙ take_at (map bit cs) (replicate (32 - length (map bit cs)) false) (length cs) (length-map cs bit)) c h

  agree_on : (d : ℕ) (ps : List (List ℕ)) → d < 2 ^ 32 → AllInside cs ps → Agree (λ path. complies d (row_of cs path)) (all (dense_bit cs d)) ps
  agree_on d [] l f = tt
  agree_on d (path ∷ ps) l f = (
    complies-front 32 d (map (has path) cs) l (rw (length-map cs (has path)) (omega arith))
        ∙ ap (λ bs. complies (code 32 bs) (row_of cs path)) (ap (λ n. take n (bits_of 32 d)) (length-map cs (has path)) ∙ sym (dense_bits d))
        ∙ complies-row 32 (dense_bit cs d) path cs (omega arith) f.0,
    agree_on d ps l f.1,
  )

pub highest-value : (padded_rows : List ℕ) (d i : ℕ) → IsHighest padded_rows d i → i ≡ highest (complies d) padded_rows
highest-value padded_rows d i h = highest_at (complies d) padded_rows i 0 h.in_range (eq-eqb _ _ h.complying) h.none_above

module _ {A : Type 0} (cs rows : List ℕ) (es : List A) (P : Piece A) (sh : ShowsPiece cs rows es P) where
  -- THE SEARCH, for any dense key whose bit 0 is 0
  pub highest_leads_dense : (d i : ℕ) → d < 2 ^ 32 → d % 2 ≡ 0 → IsHighest (with_unused rows) d i → i ≡ leads_to (dense_bit cs d) P
  highest_leads_dense d i below even h =
      let unused : List ℕ = replicate (32 - length rows) 4294967295 in
      highest-value (with_unused rows) d i h
      ∙ highest-append (complies d) rows unused
      ∙ (rw (unused_fail d (32 - length rows) below even) (ap (highest (complies d)) sh.rows_are))
      ∙ highest-map (complies d) (row_of cs) (paths P)
      ∙ highest_agree (λ path. complies d (row_of cs path)) (all (dense_bit cs d)) (paths P) (agree_on cs sh.few sh.columns_rise d (paths P) below (inside cs P sh.forks_at_columns))
      ∙ highest-paths (dense_bit cs d) P

  -- and for one that was gathered from a key
  pub highest_leads : (bit : ℕ → Bool) (i : ℕ) → IsHighest (with_unused rows) (dense_of cs bit) i → i ≡ leads_to bit P
  highest_leads bit i h =
      let few : length cs ≤ 31 = sh.few in
      highest_leads_dense (dense_of cs bit) i (code-lt 32 (map bit cs)) (code-even 31 (map bit cs) (rw length-map few)) h
      ∙ leads_to-agree (dense_bit cs (dense_of cs bit)) bit cs P (dense_bit-gathered cs few sh.columns_rise bit) sh.forks_at_columns

  pub first_is_zero : get_or (with_unused rows) 0 0 ≡ 0
  first_is_zero = rw sh.rows_are
      (get_or_append_left (rows_of cs P) (replicate (32 - length (rows_of cs P)) 4294967295) 0 0 (rw (length-map (paths P) (row_of cs), length-paths P) (size_pos P))
      ∙ get_or-map (row_of cs) (paths P) 0 [] 0 (rw (length-paths P) (size_pos P)) ∙ ap (row_of cs) (first_path P) ∙ code-falses 32 cs)

-- ---- what a search ensures
pub place_for_dense : (padded_rows : List ℕ) (d i : ℕ) → d < 2 ^ 32 → d % 2 ≡ 0 → IsHighest padded_rows d i → IsPlaceForDense padded_rows d i
place_for_dense padded_rows d i l even h columns rows entries piece sh is = highest_leads_dense columns rows entries piece sh d i l even (subst (λ xs. IsHighest xs d i) is h)

pub place_for_key : (padded_rows : List ℕ) (d i : ℕ) → IsHighest padded_rows d i → IsPlaceForKey padded_rows d i
place_for_key padded_rows d i h columns rows entries piece bit sh is e =
    highest_leads columns rows entries piece sh bit i (subst (λ n. IsHighest (with_unused rows) n i) e (subst (λ xs. IsHighest xs d i) is h))
