-- A lawful scan says of each key of its range what the map said of it at some moment of the scan.
use Rattle.plain_index.proofs.Common.{◌≡◌, ◌≢◌, ◌⊎◌, ℕ, ◌≤◌, List, [], ◌∷◌, ◌++◌, length, take, drop, true, false, Option, Some, None, refl, sym, ap, subst, ◌∙◌, arith, inl, inr, ⊎_elim, append_assoc, length-append, IsTrue, IsSome, nat_list_cmp_total, All, is_at, cases_Bool, eq_by_cmp_equiv, All-nil, All-cons, take-append_seam, drop-append_seam, Change, Kind, Added, Replaced, Removed, Scan, Map, key_order, IsRising, value_at, changed_by, map_of, is_within, IsHeldBetween, IsUpToLast, IsLawfulScan, at_itself, same_from_at, value_at-without_same, map_of-push, map_of-rising, at_found}
use Rattle.std.proofs.lemmas.Map.Views.{IsSome-lookup_from_Contains}

-- no change of these removes the key
abbrev IsKept : List Change → List ℕ → Type 0
IsKept changes key = All (λ c. c.kind ≡ Removed → c.key ≢ key) changes

-- the key is absent in the map of the first n changes, for some n from this number on
abbrev IsGoneFrom : ℕ → List Change → List ℕ → Type 0
IsGoneFrom low changes key = (n : ℕ) × (low ≤ n) × (n ≤ length changes) × (value_at (map_of (take n changes)) key ≡ None)

-- a change leaves the key in the map, or the key is absent after it
kept_or_removed : (kind : Kind) (m : Map) (at key : List ℕ) (value : ℕ) → IsRising m →
    (kind ≡ Removed → at ≢ key) ⊎ (value_at (changed_by kind m at value) key ≡ None)
kept_or_removed Added m at key value r = inl (λ e s. cc)
kept_or_removed Replaced m at key value r = inl (λ e s. cc)
kept_or_removed Removed m at key value r = ⊎_elim
    (λ is. inr (ap (value_at (changed_by Removed m at value)) (sym (same_from_at at key is)) ∙ value_at-without_same at m r))
    (λ is. inl (λ e s. let no : true ≡ false = sym (at_itself at) ∙ ap (λ q. is_at (key_order at) q) s ∙ is in cc))
    (cases_Bool (is_at (key_order at) key))

-- none of the further changes removes the key, or it is absent after one of them
kept_or_gone : (front more : List Change) (key : List ℕ) → IsKept more key ⊎ IsGoneFrom (length front) (front ++ more) key
kept_or_gone front [] key = inl (All-nil _)
kept_or_gone front (c ∷ cs) key = ⊎_elim
    (λ stays. ⊎_elim (λ kept. inl (All-cons (λ x. x.kind ≡ Removed → x.key ≢ key) c cs stays kept)) (λ gone. inr (later gone)) (kept_or_gone (front ++ c ∷ []) cs key))
    (λ none. inr (later (now none)))
    (kept_or_removed c.kind (map_of front) c.key key c.value (map_of-rising front))
  where
    now : value_at (changed_by c.kind (map_of front) c.key c.value) key ≡ None → IsGoneFrom (length (front ++ c ∷ [])) ((front ++ c ∷ []) ++ cs) key
    now none = (
      length (front ++ c ∷ []),
      omega arith,
      omega (arith, length-append (front ++ c ∷ []) cs),
      ap (λ (xs : List Change). value_at (map_of xs) key) (take-append_seam (front ++ c ∷ []) cs) ∙ ap (λ m. value_at m key) (map_of-push front c) ∙ none,
    )

    later : IsGoneFrom (length (front ++ c ∷ [])) ((front ++ c ∷ []) ++ cs) key → IsGoneFrom (length front) (front ++ c ∷ cs) key
    later g =
        let h = subst (λ (xs : List Change). IsGoneFrom (length (front ++ c ∷ [])) xs key) (append_assoc front (c ∷ []) cs) g in
        (h.0, omega (arith, length-append front (c ∷ []), h.1), h.2, h.3)

module _ (before after : List Change) (from upto : List ℕ) (limit : ℕ) (scan : Scan) (h : IsLawfulScan before after from upto limit scan) where
  abbrev pairs : Map
  pairs = scan.pairs.items

  -- a key of the range that was there at first and was never removed is listed
  listed : (key : List ℕ) → IsTrue (is_within from upto key) → (scan.more ≡ true → IsUpToLast pairs key) → IsSome (value_at (map_of before) key) →
      IsKept h.begins.0 key → IsSome (value_at pairs key)
  listed key w last held kept =
      let rest : drop (length before) after ≡ h.begins.0 = ap (drop (length before)) h.begins.1 ∙ drop-append_seam before h.begins.0 in
      let never : IsKept (drop (length before) after) key = subst (λ (xs : List Change). IsKept xs key) (sym rest) kept in
      IsSome-lookup_from_Contains (eq_by_cmp_equiv nat_list_cmp_total) key pairs
      (⊎_elim (λ more. h.part more key w (held, never) (last more)) (λ more. h.whole more key w (held, never)) (cases_Bool scan.more))

  -- a key of the range that is not listed was absent at some moment
  absent : (key : List ℕ) → IsTrue (is_within from upto key) → (scan.more ≡ true → IsUpToLast pairs key) → value_at pairs key ≡ None →
      IsGoneFrom (length before) after key
  absent key w last none = subst (λ (xs : List Change). IsGoneFrom (length before) xs key) (sym h.begins.1) (by (value_at (map_of before) key) refl)
    where
      by : (o : Option ℕ) → value_at (map_of before) key ≡ o → IsGoneFrom (length before) (before ++ h.begins.0) key
      by None is = (
        length before,
        omega arith,
        omega (arith, length-append before h.begins.0),
        ap (λ (xs : List Change). value_at (map_of xs) key) (take-append_seam before h.begins.0) ∙ is,
      )
      by (Some held) is = ⊎_elim
          (λ kept. let there = listed key w last (rw is refl) kept in absurd (let no = rw none at there in cc))
          (λ gone. gone)
          (kept_or_gone before h.begins.0 key)

  pub scan-gets : (key : List ℕ) → IsTrue (is_within from upto key) → (scan.more ≡ true → IsUpToLast pairs key) →
      (n : ℕ) × (length before ≤ n) × (n ≤ length after) × (value_at (map_of (take n after)) key ≡ value_at pairs key)
  scan-gets key w last = by (value_at pairs key) refl
    where
      by : (o : Option ℕ) → value_at pairs key ≡ o →
          (n : ℕ) × (length before ≤ n) × (n ≤ length after) × (value_at (map_of (take n after)) key ≡ o)
      by (Some value) is = at_found (λ k v. IsHeldBetween before after k v) pairs key value h.held is
      by None is = absent key w last is
