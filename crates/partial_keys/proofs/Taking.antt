-- An element taken out of the first of a list.
use Rattle.partial_keys.proofs.Common.{List, [], ap, arith, drop, get_or, length, set, suc, sym, take, ℕ, ◌++◌, ◌+◌, ◌-◌, ◌<◌, ◌∙◌, ◌∷◌, ◌≡◌, ◌≤◌, append_assoc, drop_more, get_or-append_right, get_or-drop, length-take-le, set_at, take-append-drop, take_at, take_more, get_or-remove_above, length-remove, remove-append_left, remove}

module _ {X : Type 0} (xs : List X) (at : ℕ) where
  -- the elements so far, where those before the i-th are what is left
  abbrev pub left_to : ℕ → List X
  left_to i = take i (remove xs at) ++ drop i xs

  pub left-start : at ≤ length xs → xs ≡ left_to at
  left-start l = sym (take-append-drop at xs) ∙ ap (λ ys. ys ++ drop at xs) (sym (take_at (take at xs) (drop (suc at) xs) at (length-take-le at xs l)))

  front_long : (i : ℕ) → at < length xs → i < length xs → length (take i (remove xs at)) ≡ i
  front_long i here l = length-take-le i (remove xs at) (omega (arith, length-remove xs at here))

  -- what comes next
  pub left-next : (i : ℕ) (d : X) → at < length xs → i < length xs → get_or (left_to i) (i + 1) d ≡ get_or xs (i + 1) d
  left-next i d here l =
      let on : i + (i + 1 - i) ≡ i + 1 = omega arith in
      get_or-append_right (take i (remove xs at)) (drop i xs) i (i + 1) d (front_long i here l) (omega arith)
      ∙ get_or-drop i xs (i + 1 - i) d ∙ ap (λ k. get_or xs k d) on

  -- one more moves
  pub left-more : (i : ℕ) (d : X) → at ≤ i → i + 1 < length xs → set (left_to i) i (get_or xs (i + 1) d) ≡ left_to (i + 1)
  left-more i d from l =
      let here : at < length xs = omega (arith, from, l) in
      let y : X = get_or xs (i + 1) d in
      let more : take (i + 1) (remove xs at) ≡ take i (remove xs at) ++ y ∷ [] =
      take_more (remove xs at) i d (omega (arith, length-remove xs at here, l)) ∙ ap (λ z. take i (remove xs at) ++ z ∷ []) (get_or-remove_above xs at d i from here) in
      rw (drop_more xs i d (omega (arith, l))) (set_at (take i (remove xs at)) (get_or xs i d) (drop (i + 1) xs) y i (front_long i here (omega (arith, l))))
      ∙ sym (append_assoc (take i (remove xs at)) (y ∷ []) (drop (i + 1) xs))
      ∙ ap (λ ys. ys ++ drop (i + 1) xs) (sym more)

  -- what fills the last place
  pub left-end : (n count : ℕ) (d fill : X) → at ≤ n → n + 1 ≡ count → count ≤ length xs → set (left_to n) n fill ≡ remove (take count xs) at ++ fill ∷ drop count xs
  left-end n count d fill from last room =
      let here : at < length xs = omega (arith, from, last, room) in
      let long : length (take count xs) ≡ count = length-take-le count xs room in
      let inside : at < length (take count xs) = omega (arith, from, last, long) in
      let whole : remove xs at ≡ remove (take count xs) at ++ drop count xs = ap (λ ys. remove ys at) (sym (take-append-drop count xs)) ∙ remove-append_left (take count xs) (drop count xs) at inside in
      let front : take n (remove xs at) ≡ remove (take count xs) at =
      ap (take n) whole ∙ take_at (remove (take count xs) at) (drop count xs) n (omega (arith, length-remove (take count xs) at inside, long, last)) in
      rw (drop_more xs n d (omega (arith, last, room))) (set_at (take n (remove xs at)) (get_or xs n d) (drop (n + 1) xs) fill n (front_long n here (omega (arith, last, room))))
      ∙ (ap (λ ys. ys ++ fill ∷ drop (n + 1) xs) front ∙ ap (λ k. remove (take count xs) at ++ fill ∷ drop k xs) last)
