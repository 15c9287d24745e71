-- Records that are written or added.
use Rattle.plain_trie_records.proofs.Common.{◌≡◌, ◌≢◌, ◌⊎◌, inl, inr, ℕ, ◌+◌, ◌<◌, List, [], ◌∷◌, ◌++◌, length, refl, ap, sym, ◌∙◌, arith, Some, set, length-append, length-set, eqb, get_or, cases_Bool, eqb-true, eqb-false, slice_get, get_or-set_same, get_or-set_other, get_or_append_left, get_or-append_seam, slice_get-get_or, get_or_from_slice_get, slice_get_within, Piece, Place, Fork, places, size, HalfShows, NodeView, piece, IsLawfulNode, IsBuiltFrom, greatest_height, Entry, Node, Half, One, Many, Same, GrownShows, Two, Split, some_injective}
use Rattle.plain_trie_records.specs.Cases.{IsOneSide}
use Rattle.plain_trie_records.specs.Risen.{IsNamed, StandsForSubtrie, RisenShows, OthersStay, AllStay, pushed_nodes, pushed_entry, kept_nodes, kept_entry}

module _ {A : Type 0} where
  pub set_same : (xs : List A) (n : ℕ) (v : A) → n < length xs → slice_get (set xs n v) n ≡ Some v
  set_same xs n v h = slice_get-get_or (set xs n v) n v (rw (length-set xs n v) h) ∙ ap Some (get_or-set_same xs n v v h)

  pub set_other : (xs : List A) (n m : ℕ) (v w : A) → n ≢ m → slice_get xs m ≡ Some w → slice_get (set xs n v) m ≡ Some w
  set_other xs n m v w ne e =
      slice_get-get_or (set xs n v) m w (rw (length-set xs n v) (slice_get_within xs m w e)) ∙
      ap Some (get_or-set_other xs n m v w (λ z. ne (sym z)) ∙ get_or_from_slice_get xs m w w e)

  pub push_old : (xs ys : List A) (m : ℕ) (w : A) → slice_get xs m ≡ Some w → slice_get (xs ++ ys) m ≡ Some w
  push_old xs ys m w e =
      let h = slice_get_within xs m w e in
      slice_get-get_or (xs ++ ys) m w (omega (arith, length-append xs ys)) ∙
      ap Some (get_or_append_left xs ys w m h ∙ get_or_from_slice_get xs m w w e)

  pub push_new : (xs : List A) (v : A) → slice_get (xs ++ v ∷ []) (length xs) ≡ Some v
  push_new xs v = slice_get-get_or (xs ++ v ∷ []) (length xs) v (omega (arith, length-append xs (v ∷ []))) ∙ ap Some (get_or-append_seam xs v [] v)

  -- what stands after a write or a push is what was written, or stood before
  pub set_back : (xs : List A) (n m : ℕ) (v w : A) → n < length xs → slice_get (set xs n v) m ≡ Some w → ((n ≡ m) × (w ≡ v)) ⊎ (slice_get xs m ≡ Some w)
  set_back xs n m v w h e = elim (cases_Bool (eqb n m)) [
    | inl i ↦ let same : n ≡ m = eqb-true n m i in inl (same, some_injective (sym e ∙ (ap (slice_get (set xs n v)) (sym same) ∙ set_same xs n v h)))
    | inr i ↦
        let old = slice_get-get_or xs m w (let g = slice_get_within (set xs n v) m w e in omega (arith, length-set xs n v)) in
        inr (old ∙ (sym (set_other xs n m v (get_or xs m w) (eqb-false n m i) old) ∙ e))
  ]

  pub push_back : (xs : List A) (v : A) (m : ℕ) (w : A) → slice_get (xs ++ v ∷ []) m ≡ Some w → (slice_get xs m ≡ Some w) ⊎ (w ≡ v)
  push_back xs v m w e = elim (cases_Bool (eqb (length xs) m)) [
    | inl i ↦ inr (some_injective (sym e ∙ (ap (slice_get (xs ++ v ∷ [])) (sym (eqb-true (length xs) m i)) ∙ push_new xs v)))
    | inr i ↦
        let ne = eqb-false (length xs) m i in
        let old = slice_get-get_or xs m w (let g = slice_get_within (xs ++ v ∷ []) m w e in omega (arith, length-append xs (v ∷ []))) in
        inl (old ∙ (sym (push_old xs (v ∷ []) m (get_or xs m w) old) ∙ e))
  ]

module _ (old : NodeView) where
  pub named_built : (xs : List NodeView) (n : ℕ) (v : NodeView) (P : Piece Entry) → slice_get xs n ≡ Some v → IsBuiltFrom v P → IsNamed xs old (Node n v.height) P
  named_built xs n v P at b = record {
    number = n;
    view = v;
    at = at;
    is = refl;
    lawful = b.lawful;
    shows = b.shows_it;
    height = inl (b.height_is ∙ ap (λ es. 1 + greatest_height es) (b.lawful.shows.entries_are ∙ ap places b.shows_it));
  }

  pub named_old : (xs : List NodeView) (n h : ℕ) (P : Piece Entry) → slice_get xs n ≡ Some old → old.height ≡ h → IsLawfulNode old → P ≡ piece old → IsNamed xs old (Node n h) P
  named_old xs n h P at e l s =
      record { number = n; view = old; at = at; is = ap (Node n) (sym e); lawful = l; shows = sym s; height = inr (refl, refl) }

  module _ (xs : List NodeView) (n h : ℕ) (at : slice_get xs n ≡ Some old) (high : old.height ≡ h) (lawful : IsLawfulNode old) where
    in_range : n < length xs
    in_range = slice_get_within xs n old at

    -- two halves, of which the second gets a new record
    both_for : (first second : Half) (P Q : Piece Entry) → HalfShows first P → HalfShows second Q →
        let ys = pushed_nodes xs second in
        StandsForSubtrie (kept_nodes ys n first) old (kept_entry n (Node n h) first) P × StandsForSubtrie (kept_nodes ys n first) old (pushed_entry (length xs) (Node n h) second) Q
    both_for (One e) (One f) P Q x y = (inl x.0, inl y.0)
    both_for (One e) (Many v) P Q x y = (inl x.0, inr (named_built (xs ++ v ∷ []) (length xs) v Q (push_new xs v) y))
    both_for (One e) Same P Q x y = elim y [ ]
    both_for (Many u) (One f) P Q x y = (inr (named_built (set xs n u) n u P (set_same xs n u in_range) x), inl y.0)
    both_for (Many u) (Many v) P Q x y =
        let ys = xs ++ v ∷ [] in
        let ne : n ≢ length xs = λ e. absurd (let r = in_range in omega arith) in (
          inr (named_built (set ys n u) n u P (set_same ys n u (let r = in_range in omega (arith, length-append xs (v ∷ [])))) x),
          inr (named_built (set ys n u) (length xs) v Q (set_other ys n (length xs) u v ne (push_new xs v)) y),
        )
    both_for (Many u) Same P Q x y = elim y [ ]
    both_for Same second P Q x y = elim x [ ]

    -- a node or the old one first, and a half that gets a new record
    pub double_shows : (p : ℕ) (first half : Half) (P : Piece Entry) → ((e : Entry) → first ≢ One e) → GrownShows old (Two (record { position = p; zero = first; one = half })) P →
        RisenShows (kept_nodes (pushed_nodes xs half) n first) old (Split p (kept_entry n (Node n h) first) (pushed_entry (length xs) (Node n h) half)) P
    double_shows p first half (Place x) ne s = elim s [ ]
    double_shows p (One e) half (Fork q a b) ne s = absurd (ne e refl)
    double_shows p (Many u) (One f) (Fork q a b) ne s = let r = both_for (Many u) (One f) a b s.1.0 s.1.1 in (s.0, r.0, r.1)
    double_shows p (Many u) (Many v) (Fork q a b) ne s = let r = both_for (Many u) (Many v) a b s.1.0 s.1.1 in (s.0, r.0, r.1)
    double_shows p (Many u) Same (Fork q a b) ne s = elim s.1.1 [ ]
    double_shows p Same (One f) (Fork q a b) ne s = (s.0, inr (named_old xs n h a at high lawful s.1.0), inl s.1.1)
    double_shows p Same (Many v) (Fork q a b) ne s = elim s.1.0 [ ]
    double_shows p Same Same (Fork q a b) ne s = elim s.1.0 [ ]

-- the side that the old record has
module _ (old : NodeView) (xs : List NodeView) (n : ℕ) (at : slice_get xs n ≡ Some old) where
  stands : n < length xs
  stands = slice_get_within xs n old at

  pub single_side : (p : ℕ) (e : Entry) (half : Half) (P : Piece Entry) → GrownShows old (Two (record { position = p; zero = One e; one = half })) P → 2 < size P →
      (view : NodeView) × (slice_get (kept_nodes xs n half) n ≡ Some view) × IsOneSide view P
  single_side p e half (Place x) s big = elim s [ ]
  single_side p e (One f) (Fork q a b) s big = absurd (omega (arith, ap size s.1.0.0, ap size s.1.1.0))
  single_side p e (Many v) (Fork q a b) s big = (v, set_same xs n v stands, inr s.1.1.shows_it)
  single_side p e Same (Fork q a b) s big = (old, at, inr (sym s.1.1))

  pub double_side : (p : ℕ) (first half : Half) (P : Piece Entry) → ((e : Entry) → first ≢ One e) → GrownShows old (Two (record { position = p; zero = first; one = half })) P →
      (view : NodeView) × (slice_get (kept_nodes (pushed_nodes xs half) n first) n ≡ Some view) × IsOneSide view P
  double_side p first half (Place x) ne s = elim s [ ]
  double_side p (One e) half (Fork q a b) ne s = absurd (ne e refl)
  double_side p (Many u) (One f) (Fork q a b) ne s = (u, set_same xs n u stands, inl s.1.0.shows_it)
  double_side p (Many u) (Many v) (Fork q a b) ne s =
      (u, set_same (xs ++ v ∷ []) n u (let r = stands in omega (arith, length-append xs (v ∷ []))), inl s.1.0.shows_it)
  double_side p (Many u) Same (Fork q a b) ne s = elim s.1.1 [ ]
  double_side p Same (One f) (Fork q a b) ne s = (old, at, inl (sym s.1.0))
  double_side p Same (Many v) (Fork q a b) ne s = elim s.1.0 [ ]
  double_side p Same Same (Fork q a b) ne s = elim s.1.0 [ ]

-- what stays
pub others_kept : (xs : List NodeView) (n : ℕ) (half : Half) → OthersStay xs (kept_nodes xs n half) n
others_kept xs n (One e) = λ m v ne h. h
others_kept xs n (Many u) = λ m v ne h. set_other xs n m u v ne h
others_kept xs n Same = λ m v ne h. h

pub others_pushed : (xs : List NodeView) (half : Half) → AllStay xs (pushed_nodes xs half)
others_pushed xs (One e) = λ m v h. h
others_pushed xs (Many u) = λ m v h. push_old xs (u ∷ []) m v h
others_pushed xs Same = λ m v h. h
