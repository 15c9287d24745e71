-- The order of keys by their first words.
use Rattle.rowex_scanning.proofs.Common.{◌≡◌, ℕ, zero, suc, ◌+◌, ◌*◌, ◌^◌, ◌<◌, List, [], ◌∷◌, length, get_or, refl, ap, sym, ◌∙◌, arith, below_more, inl, inr, lit<, cases_lt, slice_cmp, nat_cmp, ordering_then, Ordering, Less, Equal, get_or_past, IsKey, key_word}
use borrow.Author.Count.{below_none}
use Rattle.std.specs.Cmp.{nat_cmp_is}
use Rattle.std.proofs.lemmas.List.Elements.{All-get_or}

-- what stands in a key is a byte, and past it is 0
pub small_byte : (key : List ℕ) → IsKey key → (i : ℕ) → get_or key i 0 < 256
small_byte key is i = elim (cases_lt i (length key)) [
  | inl inside ↦ All-get_or (λ byte. byte < 256) key i 0 inside is.are_bytes
  | inr past ↦ rw (get_or_past key i 0 past) (lit< tt)
]

-- the bytes below the one agree, and there the first is smaller: then so is the list
less_at : (i : ℕ) (xs ys : List ℕ) → ((j : ℕ) → j < i → get_or xs j 0 ≡ get_or ys j 0) → get_or xs i 0 < get_or ys i 0 → slice_cmp nat_cmp xs ys ≡ Less
less_at zero [] [] same less = absurd (omega arith)
less_at (suc i) [] [] same less = absurd (omega arith)
less_at zero [] (y ∷ ys) same less = refl
less_at (suc i) [] (y ∷ ys) same less = refl
less_at zero (x ∷ xs) [] same less = absurd (omega arith)
less_at (suc i) (x ∷ xs) [] same less = absurd (omega arith)
less_at zero (x ∷ xs) (y ∷ ys) same less = ap (λ (o : Ordering). ordering_then o (slice_cmp nat_cmp xs ys)) (sym (nat_cmp_is x y Less less))
less_at (suc i) (x ∷ xs) (y ∷ ys) same less =
    ap (λ (o : Ordering). ordering_then o (slice_cmp nat_cmp xs ys)) (sym (nat_cmp_is x y Equal (same 0 (omega arith)))) ∙ less_at i xs ys (λ j low. same (suc j) (omega arith)) less

-- the first word tells it
pub word_less : (xs ys : List ℕ) → ((i : ℕ) → get_or ys i 0 < 256) → key_word xs 0 < key_word ys 0 → slice_cmp nat_cmp xs ys ≡ Less
unfolding key_word
word_less xs ys small less = from0
  where
    Same : ℕ → Type 0
    Same j = get_or xs j 0 ≡ get_or ys j 0

    sum : get_or xs 0 0 * 256 ^ 7 + get_or xs 1 0 * 256 ^ 6 + get_or xs 2 0 * 256 ^ 5 + get_or xs 3 0 * 256 ^ 4 + get_or xs 4 0 * 256 ^ 3 + get_or xs 5 0 * 256 ^ 2 + get_or xs 6 0 * 256 ^ 1 + get_or xs 7 0
        < get_or ys 0 0 * 256 ^ 7 + get_or ys 1 0 * 256 ^ 6 + get_or ys 2 0 * 256 ^ 5 + get_or ys 3 0 * 256 ^ 4 + get_or ys 4 0 * 256 ^ 3 + get_or ys 5 0 * 256 ^ 2 + get_or ys 6 0 * 256 ^ 1 + get_or ys 7 0
    sum = less

    from7 : Same 0 → Same 1 → Same 2 → Same 3 → Same 4 → Same 5 → Same 6 → slice_cmp nat_cmp xs ys ≡ Less
    from7 s0 s1 s2 s3 s4 s5 s6 = elim (cases_lt (get_or xs 7 0) (get_or ys 7 0)) [
      | inl low ↦ less_at 7 xs ys (below_more Same 6 (below_more Same 5 (below_more Same 4 (below_more Same 3 (below_more Same 2 (below_more Same 1 (below_more Same 0 (below_none Same) s0) s1) s2) s3) s4) s5) s6) low
      | inr high ↦ absurd (omega (arith, sum, high, s0, s1, s2, s3, s4, s5, s6))
    ]

    from6 : Same 0 → Same 1 → Same 2 → Same 3 → Same 4 → Same 5 → slice_cmp nat_cmp xs ys ≡ Less
    from6 s0 s1 s2 s3 s4 s5 = elim (cases_lt (get_or xs 6 0) (get_or ys 6 0)) [
      | inl low ↦ less_at 6 xs ys (below_more Same 5 (below_more Same 4 (below_more Same 3 (below_more Same 2 (below_more Same 1 (below_more Same 0 (below_none Same) s0) s1) s2) s3) s4) s5) low
      | inr high ↦ from7 s0 s1 s2 s3 s4 s5 (omega (arith, sum, high, small 0, small 1, small 2, small 3, small 4, small 5, small 6, small 7, s0, s1, s2, s3, s4, s5))
    ]

    from5 : Same 0 → Same 1 → Same 2 → Same 3 → Same 4 → slice_cmp nat_cmp xs ys ≡ Less
    from5 s0 s1 s2 s3 s4 = elim (cases_lt (get_or xs 5 0) (get_or ys 5 0)) [
      | inl low ↦ less_at 5 xs ys (below_more Same 4 (below_more Same 3 (below_more Same 2 (below_more Same 1 (below_more Same 0 (below_none Same) s0) s1) s2) s3) s4) low
      | inr high ↦ from6 s0 s1 s2 s3 s4 (omega (arith, sum, high, small 0, small 1, small 2, small 3, small 4, small 5, small 6, small 7, s0, s1, s2, s3, s4))
    ]

    from4 : Same 0 → Same 1 → Same 2 → Same 3 → slice_cmp nat_cmp xs ys ≡ Less
    from4 s0 s1 s2 s3 = elim (cases_lt (get_or xs 4 0) (get_or ys 4 0)) [
      | inl low ↦ less_at 4 xs ys (below_more Same 3 (below_more Same 2 (below_more Same 1 (below_more Same 0 (below_none Same) s0) s1) s2) s3) low
      | inr high ↦ from5 s0 s1 s2 s3 (omega (arith, sum, high, small 0, small 1, small 2, small 3, small 4, small 5, small 6, small 7, s0, s1, s2, s3))
    ]

    from3 : Same 0 → Same 1 → Same 2 → slice_cmp nat_cmp xs ys ≡ Less
    from3 s0 s1 s2 = elim (cases_lt (get_or xs 3 0) (get_or ys 3 0)) [
      | inl low ↦ less_at 3 xs ys (below_more Same 2 (below_more Same 1 (below_more Same 0 (below_none Same) s0) s1) s2) low
      | inr high ↦ from4 s0 s1 s2 (omega (arith, sum, high, small 0, small 1, small 2, small 3, small 4, small 5, small 6, small 7, s0, s1, s2))
    ]

    from2 : Same 0 → Same 1 → slice_cmp nat_cmp xs ys ≡ Less
    from2 s0 s1 = elim (cases_lt (get_or xs 2 0) (get_or ys 2 0)) [
      | inl low ↦ less_at 2 xs ys (below_more Same 1 (below_more Same 0 (below_none Same) s0) s1) low
      | inr high ↦ from3 s0 s1 (omega (arith, sum, high, small 0, small 1, small 2, small 3, small 4, small 5, small 6, small 7, s0, s1))
    ]

    from1 : Same 0 → slice_cmp nat_cmp xs ys ≡ Less
    from1 s0 = elim (cases_lt (get_or xs 1 0) (get_or ys 1 0)) [
      | inl low ↦ less_at 1 xs ys (below_more Same 0 (below_none Same) s0) low
      | inr high ↦ from2 s0 (omega (arith, sum, high, small 0, small 1, small 2, small 3, small 4, small 5, small 6, small 7, s0))
    ]

    from0 : slice_cmp nat_cmp xs ys ≡ Less
    from0 = elim (cases_lt (get_or xs 0 0) (get_or ys 0 0)) [
      | inl low ↦ less_at 0 xs ys (below_none Same) low
      | inr high ↦ from1 (omega (arith, sum, high, small 0, small 1, small 2, small 3, small 4, small 5, small 6, small 7))
    ]
