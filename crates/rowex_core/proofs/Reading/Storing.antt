-- An entry stored to a node leaves its fixed words, and all of its subtrie but one entry.
use Rattle.rowex_core.proofs.Common.{◌≡◌, ◌⊎◌, inl, inr, ⊎_elim, ℕ, zero, suc, ◌+◌, ◌-◌, ◌^◌, ◌%◌, ◌<◌, ◌≤◌, List, [], ◌∷◌, length, set, take, drop, map, get_or, true, false, nat_eq, eqb, if◌then◌else◌, refl, sym, ap, ◌∙◌, arith, unwrap_or, cases_Bool, cases_lt, take-set-le, drop-set-lt, drop-set-add, map-set, Entry, Leaf, shown, Fork, Swap, swap, in_zero, in_one, a_node, KeepsAllButOneEntry, same_rec, near_refl, same_rec_true, entries_of, entry_of}
use Rattle.std.proofs.Math.Seq.{take-set-lt}
use Rattle.node_tries.specs.Positions.{front_below}
use Rattle.rowex_core.specs.declared.event.Spot.{Spot}
use Rattle.rowex_core.specs.declared.event.Spot.TheVariants.{Root, Slot, Value}
use Rattle.rowex_core.specs.Reading.{node_words_of, fixed_of}
use Rattle.rowex_core.specs.Cores.{Core, heap_of}
use Rattle.rowex_core.specs.Events.{stored_words}
use Rattle.rowex_core.proofs.Cores.Valuing.{key_stays}

-- What rows show of two lists of entries that differ at one place.
shown_near : (x : Entry) (w : ℕ) (cs rows : List ℕ) (es : List Entry) (j : ℕ) (e : Entry) → (shown x w cs rows es ≡ shown x w cs rows (set es j e)) ⊎ Swap (shown x w cs rows es) (shown x w cs rows (set es j e))
shown_near x w [] rows es j e = inr swap
shown_near x zero (c ∷ cs) rows es j e = inr swap
shown_near x (suc w) (c ∷ cs) rows es j e =
    go (front_below (2 ^ w) rows) (shown_near x w cs rows es j e) (λ k ys i. shown_near x w cs ys (take k es) i e) (λ k ys i. shown_near x w cs ys (drop k es) i e)
    (cases_Bool (eqb (front_below (2 ^ w) rows) (length rows))) (cases_lt j (front_below (2 ^ w) rows))
  where
    go : (k : ℕ) → (shown x w cs rows es ≡ shown x w cs rows (set es j e)) ⊎ Swap (shown x w cs rows es) (shown x w cs rows (set es j e)) →
        ((k : ℕ) (ys : List ℕ) (i : ℕ) → (shown x w cs ys (take k es) ≡ shown x w cs ys (set (take k es) i e)) ⊎ Swap (shown x w cs ys (take k es)) (shown x w cs ys (set (take k es) i e))) →
        ((k : ℕ) (ys : List ℕ) (i : ℕ) → (shown x w cs ys (drop k es) ≡ shown x w cs ys (set (drop k es) i e)) ⊎ Swap (shown x w cs ys (drop k es)) (shown x w cs ys (set (drop k es) i e))) →
        ((eqb k (length rows) ≡ true) ⊎ (eqb k (length rows) ≡ false)) → (j < k) ⊎ (k ≤ j) →
        ((if nat_eq k (length rows) then shown x w cs rows es else Fork c (shown x w cs (take k rows) (take k es)) (shown x w cs (map (λ row. row - 2 ^ w) (drop k rows)) (drop k es))) ≡
        (if nat_eq k (length rows) then shown x w cs rows (set es j e) else Fork c (shown x w cs (take k rows) (take k (set es j e))) (shown x w cs (map (λ row. row - 2 ^ w) (drop k rows)) (drop k (set es j e))))) ⊎
        Swap (if nat_eq k (length rows) then shown x w cs rows es else Fork c (shown x w cs (take k rows) (take k es)) (shown x w cs (map (λ row. row - 2 ^ w) (drop k rows)) (drop k es)))
        (if nat_eq k (length rows) then shown x w cs rows (set es j e) else Fork c (shown x w cs (take k rows) (take k (set es j e))) (shown x w cs (map (λ row. row - 2 ^ w) (drop k rows)) (drop k (set es j e))))
    go k whole low high (inl t) h = rw t whole
    go k whole low high (inr t) (inl h) = rw (t, take-set-lt k es j e h, drop-set-lt k es j e h)
        (⊎_elim (λ y. inl (ap (λ z. Fork c z (shown x w cs (map (λ row. row - 2 ^ w) (drop k rows)) (drop k es))) y)) (λ y. inr (in_zero y)) (low k (take k rows) j))
    go k whole low high (inr t) (inr h) =
        let same : drop k (set es j e) ≡ set (drop k es) (j - k) e = ap (λ z. drop k (set es z e)) (let v : j ≡ k + (j - k) = omega arith in v) ∙ drop-set-add k es (j - k) e in
        rw (t, take-set-le k es j e h, same)
        (⊎_elim (λ y. inl (ap (λ z. Fork c (shown x w cs (take k rows) (take k es)) z) y)) (λ y. inr (in_one y)) (high k (map (λ row. row - 2 ^ w) (drop k rows)) (j - k)))

entries_near : (count : ℕ) (tail : List ℕ) (j w : ℕ) → (entries_of count (set tail j w) ≡ entries_of count tail) ⊎ (entries_of count (set tail j w) ≡ set (entries_of count tail) j (unwrap_or (entry_of w) (Leaf 0)))
entries_near count tail j w =
    let f = λ (w : ℕ). unwrap_or (entry_of w) (Leaf 0) in
    let m : map (λ w. unwrap_or (entry_of w) (Leaf 0)) (set tail j w) ≡ set (map (λ w. unwrap_or (entry_of w) (Leaf 0)) tail) j (unwrap_or (entry_of w) (Leaf 0)) = map-set (λ w. unwrap_or (entry_of w) (Leaf 0)) tail j w in
    ⊎_elim (λ (h : j < count). inr (ap (take count) m ∙ take-set-lt count _ j _ h)) (λ (h : count ≤ j). inl (ap (take count) m ∙ take-set-le count _ j _ h)) (cases_lt j count)

fixed_stays : (words : List ℕ) (j w : ℕ) → (node_words_of words).fixed ≡ (node_words_of (set words (26 + j - 1) w)).fixed
unfolding node_words_of
fixed_stays words j w = ap fixed_of (sym (take-set-le 25 words (26 + j - 1) w (omega arith)))

subtrie_stays : (words : List ℕ) (j w : ℕ) → ((node_words_of words).subtrie ≡ (node_words_of (set words (26 + j - 1) w)).subtrie) ⊎ Swap (node_words_of words).subtrie (node_words_of (set words (26 + j - 1) w)).subtrie
unfolding node_words_of
subtrie_stays words j w =
    let at : take 25 (set words (26 + j - 1) w) ≡ take 25 words = take-set-le 25 words (26 + j - 1) w (omega arith) in
    let behind : drop 25 (set words (26 + j - 1) w) ≡ set (drop 25 words) j w = ap (λ z. drop 25 (set words z w)) (let v : 26 + j - 1 ≡ 25 + j = omega arith in v) ∙ drop-set-add 25 words j w in
    rw (at, behind)
    (⊎_elim (λ e. inl (rw e refl)) (λ e. rw e (shown_near (Leaf 0) 32 (fixed_of (take 25 words)).columns (fixed_of (take 25 words)).rows (entries_of (get_or (take 25 words) 0 0 % 256) (drop 25 words)) j (unwrap_or (entry_of w) (Leaf 0))))
    (entries_near (get_or (take 25 words) 0 0 % 256) (drop 25 words) j w))

pub near_store : (c : Core) (spot : Spot) (w : ℕ) → KeepsAllButOneEntry (heap_of c.words) (heap_of (stored_words c spot w))
near_store c Root w = near_refl (heap_of c.words)
near_store c (Value l) w = (key_stays c l w, λ i. refl, λ i. inl refl)
near_store c (Slot n j) w = (λ i. refl, λ i. fixed i (cases_Bool (same_rec (a_node i) (a_node n))), λ i. subtries i (cases_Bool (same_rec (a_node i) (a_node n))))
  where
    fixed : (i : ℕ) → ((same_rec (a_node i) (a_node n) ≡ true) ⊎ (same_rec (a_node i) (a_node n) ≡ false)) → (node_words_of (c.words (a_node i))).fixed ≡ (node_words_of (stored_words c (Slot n j) w (a_node i))).fixed
    fixed i (inr e) = rw e refl
    fixed i (inl e) = rw e (same i (same_rec_true (a_node i) (a_node n) e))
      where
        same : (i : ℕ) → a_node i ≡ a_node n → (node_words_of (c.words (a_node i))).fixed ≡ (node_words_of (set (c.words (a_node n)) (26 + j - 1) w)).fixed
        same i e = ap (λ z. (node_words_of (c.words z)).fixed) e ∙ fixed_stays (c.words (a_node n)) j w

    subtries : (i : ℕ) → ((same_rec (a_node i) (a_node n) ≡ true) ⊎ (same_rec (a_node i) (a_node n) ≡ false)) →
        ((node_words_of (c.words (a_node i))).subtrie ≡ (node_words_of (stored_words c (Slot n j) w (a_node i))).subtrie) ⊎ Swap (node_words_of (c.words (a_node i))).subtrie (node_words_of (stored_words c (Slot n j) w (a_node i))).subtrie
    subtries i (inr e) = rw e (inl refl)
    subtries i (inl e) = rw (e, same_rec_true (a_node i) (a_node n) e) (subtrie_stays (c.words (a_node n)) j w)
