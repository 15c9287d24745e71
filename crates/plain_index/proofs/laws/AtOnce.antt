-- A scan of one map is lawful while nothing changes.
use Rattle.plain_index.proofs.Common.{◌≡◌, ℕ, zero, suc, ◌<◌, ◌≤◌, List, [], ◌∷◌, length, take, get_or, Bool, true, false, cond, Some, refl, sym, ap, subst, ◌∙◌, arith, min, ⊎_elim, IsTrue, IsSome, Less, ordering_reverse, nat_list_cmp_total, All, Contains, is_at, cases_lt, eq_by_cmp_equiv, take_all, get_or-take, length-take-le, length-take, length-map, get_or-map, take-map, All-filter, All-take, filter_passes, Contains-append_right, recursion_from_All, All-from_recursion, slice_get-get_or, take-length, Change, Scan, Map, key_order, IsRising, value_at, map_of, is_within, range_of, IsScanOf, IsHeldBetween, IsUpToLast, IsPastLast, IsLawfulScan, same_from_at, map_of-rising, begins_itself}
use Rattle.std.specs.List.{filter}
use Rattle.std.specs.List.Sorted.{IsStrictlySortedBy}
use Rattle.std.specs.Map.{keys_of}
use Rattle.std.proofs.lemmas.Map.Entries.{lookup_from_place}
use Rattle.std.proofs.lemmas.Map.Keys.{IsDistinct-from_sorted, Less-from_sorted}
use Rattle.finite_map.proofs.Scans.Ranges.{range-rising}

take-sorted : (n : ℕ) (ks : List (List ℕ)) → IsStrictlySortedBy key_order ks → IsStrictlySortedBy key_order (take n ks)
unfolding IsStrictlySortedBy
take-sorted zero [] r = tt
take-sorted zero (k ∷ ks) r = tt
take-sorted (suc n) [] r = tt
take-sorted (suc n) (k ∷ ks) r =
    (recursion_from_All (λ q. key_order k q ≡ Less) (take n ks) (All-take (λ q. key_order k q ≡ Less) n ks (All-from_recursion (λ q. key_order k q ≡ Less) ks r.0)), take-sorted n ks r.1)

-- a held key of the range is listed in it
listed : (p : List ℕ → Bool) (m : Map) (key : List ℕ) → p key ≡ true → IsSome (value_at m key) → Contains (keys_of (filter (λ e. p e.0) m)) key
listed p [] key in_range held = cc
listed p (e ∷ es) key in_range held = by (is_at (key_order key) e.0) refl held (p e.0) refl (listed p es key in_range)
  where
    by : (at : Bool) → is_at (key_order key) e.0 ≡ at → IsSome (cond at (Some e.1) (value_at es key)) → (b : Bool) → p e.0 ≡ b →
        (IsSome (value_at es key) → Contains (keys_of (filter (λ e. p e.0) es)) key) → Contains (keys_of (cond b (e ∷ filter (λ e. p e.0) es) (filter (λ e. p e.0) es))) key
    by true is held true passes later = (0, omega arith, sym (same_from_at key e.0 is))
    by true is held false passes later = let no : true ≡ false = sym in_range ∙ ap p (same_from_at key e.0 is) ∙ passes in cc
    by false is held true passes later = Contains-append_right (e.0 ∷ []) (keys_of (filter (λ e. p e.0) es)) key (later held)
    by false is held false passes later = later held

module _ (front : List Change) (from upto : List ℕ) where
  abbrev m : Map
  m = map_of front

  abbrev range : Map
  range = range_of m from upto

  within : All (λ e. IsTrue (is_within from upto e.0)) range
  within = filter_passes (λ e. is_within from upto e.0) m

  held : All (λ e. IsHeldBetween front front e.0 e.1) range
  held = All-filter (λ e. is_within from upto e.0) (λ e. IsHeldBetween front front e.0 e.1) m
      (λ k d l. (
        length front,
        omega arith,
        omega arith,
        ap (λ (cs : List Change). value_at (map_of cs) (get_or m k d).0) (take-length front)
            ∙ lookup_from_place (eq_by_cmp_equiv nat_list_cmp_total) m k (get_or m k d).0 (get_or m k d).1 (IsDistinct-from_sorted key_order (keys_of m) (map_of-rising front)) (slice_get-get_or m k d l),
      ))

  -- of two pairs of the range the first has the smaller key
  in_order : (i j : ℕ) (d e : List ℕ × ℕ) → i < j → j < length range → key_order (get_or range i d).0 (get_or range j e).0 ≡ Less
  in_order i j d e l k =
      let key = get_or-map {X = List ℕ × ℕ} (λ x. x.0) range in
      ap (λ x. key_order x (get_or range j e).0) (sym (key i d [] (omega arith))) ∙ ap (λ x. key_order (get_or (keys_of range) i []) x) (sym (key j e [] k))
      ∙ Less-from_sorted key_order (keys_of range) i j [] (range-rising front from upto) l (let n : length (keys_of range) ≡ length range = length-map range (λ x. x.0) in omega arith)

  -- a listed key that is not past the last of the first pairs is one of theirs
  among_first : (limit : ℕ) (key : List ℕ) → Contains (keys_of range) key → IsUpToLast (take limit range) key → Contains (keys_of (take limit range)) key
  among_first limit key c u =
      let n : length (keys_of range) ≡ length range = length-map range (λ x. x.0) in
      let l = length-take limit range in
      ⊎_elim
      (λ (first : c.0 < limit). subst (λ (ks : List (List ℕ)). Contains ks key) (take-map {X = List ℕ × ℕ} (λ x. x.0) limit range)
      (c.0, (let k = length-take limit (keys_of range) in let a = c.1 in omega arith), get_or-take limit (keys_of range) c.0 key first ∙ c.2))
      (λ (later : limit ≤ c.0).
      let j : ℕ = u.0 in let x : List ℕ × ℕ = u.1 in let in_first : j < limit = (let b = u.2 in omega arith) in
      let within_range : c.0 < length range = (let b = c.1 in omega arith) in
      let is_x : get_or range j x ≡ x = sym (get_or-take limit range j x in_first) ∙ u.3 in
      let is_key : (get_or range c.0 x).0 ≡ key = sym (get_or-map {X = List ℕ × ℕ} (λ y. y.0) range c.0 x key within_range) ∙ c.2 in
      let below : key_order x.0 key ≡ Less = ap (λ (y : List ℕ × ℕ). key_order y.0 key) (sym is_x) ∙ ap (key_order (get_or range j x).0) (sym is_key) ∙ in_order j c.0 x x (omega arith) within_range in
      absurd (u.4 (nat_list_cmp_total.antisymm key x.0 ∙ ap ordering_reverse below)))
      (cases_lt c.0 limit)

  pub scan_of-lawful : (limit : ℕ) (scan : Scan) → IsScanOf m from upto limit scan → IsLawfulScan front front from upto limit scan
  scan_of-lawful limit scan h =
      let room : scan.more ≡ true → limit < length range = λ e. h.more.0 e in
      let first : length (take limit range) ≡ min limit (length range) = length-take limit range in
      let from_range : (P : Map → Type 0) → P (take limit range) → P scan.pairs.items = λ P p. subst P (sym h.pairs) p in
      record {
        begins = begins_itself front;
        ordered = from_range IsRising (subst (IsStrictlySortedBy key_order) (take-map {X = List ℕ × ℕ} (λ x. x.0) limit range) (take-sorted limit (keys_of range) (range-rising front from upto)));
        within = from_range (All (λ e. IsTrue (is_within from upto e.0))) (All-take (λ e. IsTrue (is_within from upto e.0)) limit range within);
        short = from_range (λ (xs : Map). length xs ≤ limit) (omega arith);
        held = from_range (All (λ e. IsHeldBetween front front e.0 e.1)) (All-take (λ e. IsHeldBetween front front e.0 e.1) limit range held);
        whole = λ more key w kept. from_range (λ (xs : Map). Contains (keys_of xs) key)
            (subst (λ (xs : Map). Contains (keys_of xs) key)
            (sym (take_all limit range (⊎_elim (λ (l : limit < length range). let no : true ≡ false = sym (h.more.1 l) ∙ more in cc) (λ l. l) (cases_lt limit (length range)))))
            (listed (is_within from upto) m key w kept.0));
        part = λ more key w kept last. from_range (λ (xs : Map). Contains (keys_of xs) key)
            (among_first limit key (listed (is_within from upto) m key w kept.0) (subst (λ (xs : Map). IsUpToLast xs key) h.pairs last));
        full = λ more. from_range (λ (xs : Map). length xs ≡ limit) (length-take-le limit range (let l = room more in omega arith));
        further = λ more. let l = room more in let e : List ℕ × ℕ = get_or range limit ([], 0) in (
          e.0,
          e.1,
          within limit ([], 0) l,
          held limit ([], 0) l,
          from_range (λ (xs : Map). IsPastLast xs e.0)
              (λ k d b. let in_first : k < limit = omega arith in
              ap (λ (x : List ℕ × ℕ). key_order x.0 e.0) (get_or-take limit range k d in_first) ∙ in_order k limit d ([], 0) in_first l),
        );
      }
