-- The greatest key below one.
use Rattle.std.proofs.Common.{◌≡◌, ◌≢◌, ℕ, zero, suc, ◌+◌, ◌-◌, ◌<◌, ◌≤◌, List, [], ◌∷◌, ◌++◌, length, replicate, refl, sym, ap, subst, ◌∙◌, arith, append_assoc, length-append}
use Rattle.std.specs.Prelude.{All}
use Rattle.std.proofs.Math.Seq.{drop-append_seam}
use Rattle.std.proofs.lemmas.List.Elements.{All-drop, All-head, All-tail}
use Rattle.std.specs.declared.cmp.Ordering.{Ordering}
use Rattle.std.specs.declared.cmp.Ordering.TheVariants.{Less, Equal, Greater}
use Rattle.std.specs.Ordering.{nat_cmp, ordering_then}
use Rattle.std.specs.Cmp.{ranked, nat_cmp_is}
use Rattle.key_bits.specs.Key.{IsKey}
use Rattle.key_bits.specs.declared.TheConstants.{MAX_BYTES}
use Rattle.finite_map.specs.Maps.{key_order}
use Rattle.key_ranges.specs.Ranges.{IsPreviousKey, last_with}
use Rattle.key_ranges.proofs.Ranges.Above.{AreBytes, equal_greater, equal_less, greater_less, less_greater, longer_above, same_front}
use Rattle.key_ranges.proofs.Ranges.Nexts.{front_key}
use Rattle.key_ranges.proofs.Ranges.Places.{last_is_key, one_more_key}

none_less : (ys : List ℕ) → key_order ys [] ≡ Less → ⊥
none_less [] h = equal_less h
none_less (y ∷ ys) h = greater_less h

-- Behind a byte of 0 nothing comes between.
shorter_greatest : (front other : List ℕ) → key_order other (front ++ 0 ∷ []) ≡ Less → key_order other front ≢ Greater
shorter_greatest [] [] h g = equal_greater g
shorter_greatest [] (y ∷ ys) h g = by (nat_cmp y 0) refl h
  where
    by : (o : Ordering) → nat_cmp y 0 ≡ o → ordering_then o (key_order ys []) ≡ Less → ⊥
    by Less e h = let l = ranked y 0 Less (sym e) in omega (arith, l)
    by Equal e h = none_less ys h
    by Greater e h = greater_less h
shorter_greatest (x ∷ front) [] h g = less_greater g
shorter_greatest (x ∷ front) (y ∷ ys) h g = by (nat_cmp y x) (shorter_greatest front ys) h g
  where
    by : (o : Ordering) → (key_order ys (front ++ 0 ∷ []) ≡ Less → key_order ys front ≢ Greater) → ordering_then o (key_order ys (front ++ 0 ∷ [])) ≡ Less → ordering_then o (key_order ys front) ≡ Greater → ⊥
    by Less later h g = less_greater g
    by Equal later h g = later h g
    by Greater later h g = greater_less h

-- no bytes are above so many of 255, if they are no more
none_over : (n : ℕ) (ys : List ℕ) → AreBytes ys → length ys ≤ n → key_order ys (replicate n 255) ≢ Greater
none_over zero [] bytes few g = equal_greater g
none_over zero (y ∷ ys) bytes few g = omega (arith, few)
none_over (suc n) [] bytes few g = less_greater g
none_over (suc n) (y ∷ ys) bytes few g = by (nat_cmp y 255) refl (none_over n ys (All-tail (λ byte. byte < 256) y ys bytes) (omega (arith, few))) g
  where
    by : (o : Ordering) → nat_cmp y 255 ≡ o → key_order ys (replicate n 255) ≢ Greater → ordering_then o (key_order ys (replicate n 255)) ≡ Greater → ⊥
    by Less e later g = less_greater g
    by Equal e later g = later g
    by Greater e later g = let l = ranked y 255 Greater (sym e) in let small = All-head (λ byte. byte < 256) y ys bytes in omega (arith, l, small)

-- Else the last byte is one less, and 255 is behind it as often as there is room.
lowered_below : (front rest : List ℕ) (b : ℕ) → key_order (front ++ b ∷ rest) (front ++ (b + 1) ∷ []) ≡ Less
lowered_below front rest b = same_front front (b ∷ rest) ((b + 1) ∷ []) ∙ ap (λ o. ordering_then o (key_order rest [])) (sym (nat_cmp_is b (b + 1) Less (omega arith)))

lowered_greatest : (front other : List ℕ) (b n : ℕ) → AreBytes other → length other ≤ length front + 1 + n → key_order other (front ++ (b + 1) ∷ []) ≡ Less → key_order other (front ++ b ∷ replicate n 255) ≢ Greater
lowered_greatest [] [] b n bytes few h g = less_greater g
lowered_greatest [] (y ∷ ys) b n bytes few h g = by (nat_cmp y (b + 1)) refl h
  where
    then_under : (o : Ordering) → nat_cmp y b ≡ o → y < b + 1 → ordering_then o (key_order ys (replicate n 255)) ≡ Greater → ⊥
    then_under Less e l g = less_greater g
    then_under Equal e l g = none_over n ys (All-tail (λ byte. byte < 256) y ys bytes) (omega (arith, few)) g
    then_under Greater e l g = let over = ranked y b Greater (sym e) in omega (arith, over, l)

    by : (o : Ordering) → nat_cmp y (b + 1) ≡ o → ordering_then o (key_order ys []) ≡ Less → ⊥
    by Less e h = then_under (nat_cmp y b) refl (ranked y (b + 1) Less (sym e)) g
    by Equal e h = none_less ys h
    by Greater e h = greater_less h
lowered_greatest (x ∷ front) [] b n bytes few h g = less_greater g
lowered_greatest (x ∷ front) (y ∷ ys) b n bytes few h g = by (nat_cmp y x) (lowered_greatest front ys b n (All-tail (λ byte. byte < 256) y ys bytes) (omega (arith, few))) h g
  where
    by : (o : Ordering) → (key_order ys (front ++ (b + 1) ∷ []) ≡ Less → key_order ys (front ++ b ∷ replicate n 255) ≢ Greater) →
        ordering_then o (key_order ys (front ++ (b + 1) ∷ [])) ≡ Less → ordering_then o (key_order ys (front ++ b ∷ replicate n 255)) ≡ Greater → ⊥
    by Less later h g = less_greater g
    by Equal later h g = later h g
    by Greater later h g = greater_less h

module _ (key front : List ℕ) (last : ℕ) (is : IsKey key) (parts : key ≡ front ++ last ∷ []) where
  parts_key : IsKey (front ++ last ∷ [])
  parts_key = subst IsKey parts is

  pub of_front_key : IsKey front
  of_front_key = front_key front (last ∷ []) parts_key

  pub front_short : length front < MAX_BYTES
  front_short = let n = length-append front (last ∷ []) in let s = parts_key.short in omega (arith, n, s)

  pub previous_shorter : last ≡ 0 → (previous : List ℕ) → previous ≡ front → IsPreviousKey key previous
  previous_shorter none previous same = subst (IsPreviousKey key) (sym same) (record {
    is_key = of_front_key;
    below = subst (λ k. key_order front k ≡ Less) (sym parts) (longer_above front last);
    greatest = λ other of less. shorter_greatest front other (subst (λ b. key_order other (front ++ b ∷ []) ≡ Less) none (subst (λ k. key_order other k ≡ Less) parts less));
  })

  last_small : last < 256
  last_small = All-head (λ byte. byte < 256) last [] (subst (λ l. All (λ byte. byte < 256) l) (drop-append_seam front (last ∷ [])) (All-drop (λ byte. byte < 256) (length front) (front ++ last ∷ []) parts_key.are_bytes))

  pub previous_lowered : (b : ℕ) → last ≡ b + 1 → (lowered previous : List ℕ) → lowered ≡ front ++ b ∷ [] → previous ≡ last_with lowered → IsPreviousKey key previous
  previous_lowered b up lowered previous low same = subst (IsPreviousKey key) (sym previous_is) (record {
    is_key = subst IsKey whole (last_is_key (front ++ b ∷ []) lowered_key);
    below = subst (λ k. key_order (front ++ b ∷ replicate n 255) k ≡ Less) (sym raised) (lowered_below front (replicate n 255) b);
    greatest = λ other of less. lowered_greatest front other b n of.are_bytes
        (let s = of.short in let m = length-append front (b ∷ []) in let r = front_short in omega (arith, s, m, r))
        (subst (λ k. key_order other k ≡ Less) raised less);
  })
    where
      n : ℕ
      n = MAX_BYTES - length (front ++ b ∷ [])

      lowered_key : IsKey (front ++ b ∷ [])
      lowered_key = one_more_key front b of_front_key front_short (let small = last_small in omega (arith, up, small))

      whole : last_with (front ++ b ∷ []) ≡ front ++ b ∷ replicate (MAX_BYTES - length (front ++ b ∷ [])) 255
      whole = append_assoc front (b ∷ []) (replicate (MAX_BYTES - length (front ++ b ∷ [])) 255)

      raised : key ≡ front ++ (b + 1) ∷ []
      raised = parts ∙ ap (λ z. front ++ z ∷ []) up

      previous_is : previous ≡ front ++ b ∷ replicate (MAX_BYTES - length (front ++ b ∷ [])) 255
      previous_is = same ∙ (ap last_with low ∙ whole)
