-- Parts of lists that are edited in place.
use Rattle.compound_node.proofs.Common.{List, [], ap, arith, drop, get_or, length, sym, take, ℕ, ◌++◌, ◌+◌, ◌<◌, ◌∙◌, ◌∷◌, ◌≡◌, append-nil, append_assoc, drop-drop, drop-take, drop_all, get_or-drop, get_or-take, take-append-drop, take-take, take_all, insert, refill, edited}

module _ {X : Type 0} where
  -- what fills a whole list anew
  pub refill_same : (xs ws : List X) → length ws ≡ length xs → refill (length xs) xs ws ≡ ws
  refill_same xs ws e = rw (drop_all (length ws) xs (omega arith), append-nil ws) (take_all (length xs) ws (omega arith))

  take_parts : (f n : ℕ) (xs : List X) → take (f + n) xs ≡ take f xs ++ take n (drop f xs)
  take_parts f n xs = sym (take-append-drop f (take (f + n) xs)) ∙ ap (λ ys. ys ++ drop f (take (f + n) xs)) (take-take f (f + n) xs (omega arith)) ∙ ap (λ ys. take f xs ++ ys) (drop-take f n xs)

  drop_parts : (f n : ℕ) (xs : List X) → drop f xs ≡ take n (drop f xs) ++ drop (f + n) xs
  drop_parts f n xs = sym (take-append-drop n (drop f xs)) ∙ ap (λ ys. take n (drop f xs) ++ ys) (drop-drop n f xs)

  -- an element put in behind a part
  pub put-behind : (f n : ℕ) (x : X) (xs : List X) → insert xs (f + n) x ≡ edited f n (λ ys. ys ++ x ∷ []) xs
  put-behind f n x xs =
      ap (λ ys. ys ++ x ∷ drop (f + n) xs) (take_parts f n xs)
      ∙ append_assoc (take f xs) (take n (drop f xs)) (x ∷ drop (f + n) xs)
      ∙ ap (λ ys. take f xs ++ ys) (sym (append_assoc (take n (drop f xs)) (x ∷ []) (drop (f + n) xs)))

  -- and before it
  pub put-before : (f n : ℕ) (x : X) (xs : List X) → insert xs f x ≡ edited f n (λ ys. x ∷ ys) xs
  put-before f n x xs = ap (λ ys. take f xs ++ x ∷ ys) (drop_parts f n xs)

  -- the first element of a part
  pub part_first : (f n : ℕ) (d : X) (xs : List X) → 0 < n → get_or (take n (drop f xs)) 0 d ≡ get_or xs f d
  part_first f n d xs l =
      let e : f + 0 ≡ f = omega arith in
      get_or-take n (drop f xs) 0 d l ∙ get_or-drop f xs 0 d ∙ ap (λ k. get_or xs k d) e
