-- What a new fork does to paths, places and positions.
use Rattle.std.proofs.Common.{Bool, List, [], ap, arith, cond, drop, eqb, false, length, map, nat_lt, refl, slice_index_or, sym, take, true, ℕ, ⊎_elim, ◌++◌, ◌+◌, ◌-◌, ◌<◌, ◌||◌, ◌∙◌, ◌∷◌, ◌≡◌, ◌≢◌, ◌≤◌}
use Rattle.std.proofs.lemmas.Bool.{cases_Bool, false≢true, le-ltb, ltb-false, ltb-true}
use Rattle.std.proofs.lemmas.List.{length-drop, length-take-le, map-append}
use Rattle.std.proofs.lemmas.Simd.{map-map}
use Rattle.node_tries.proofs.Edits.{edited-left, edited-right, edited-map, edited_whole}
use Rattle.node_tries.proofs.Piece.{size_pos, length-places, length-paths, RisesFrom-weaker, first_path}
use Rattle.node_tries.specs.Growth.{affected_first, affected_count, IsFresh, forked, grown, edited, forked_places}
use Rattle.node_tries.specs.Piece.{Piece, Place, Fork, places, size, paths, RisesFrom, UsesOnly, uses}
use Rattle.node_tries.specs.Positions.{has, with_position}

-- what becomes of the affected paths
abbrev pub forked_paths : ℕ → Bool → List (List ℕ) → List (List ℕ)
forked_paths position bit paths =
    let first = slice_index_or paths 0 [] in cond bit (paths ++ with_position position first ∷ []) (first ∷ map (with_position position) paths)

-- a fork before the position does not stand in the way
forked_paths-map : (position : ℕ) (bit : Bool) (p : ℕ) (zs : List (List ℕ)) → nat_lt p position ≡ true → 0 < length zs →
    forked_paths position bit (map (λ path. p ∷ path) zs) ≡ map (λ path. p ∷ path) (forked_paths position bit zs)
forked_paths-map position bit p [] e l = absurd (omega arith)
forked_paths-map position true p (z ∷ zs) e l = rw (e, map-append (λ path. p ∷ path) (z ∷ zs) (with_position position z ∷ [])) refl
forked_paths-map position false p (z ∷ zs) e l = rw (map-map (with_position position) (λ path. p ∷ path) zs, map-map (λ path. p ∷ path) (with_position position) zs, e) refl

module _ {A : Type 0} where
  module _ (position : ℕ) where
    pub affected_fits : (P : Piece A) (i : ℕ) → (affected_first position i P + affected_count position i P ≤ size P) × (0 < affected_count position i P)
    affected_fits (Place x) i = (omega arith, omega arith)
    affected_fits (Fork p a b) i = ⊎_elim
        (λ e. rw e (⊎_elim
        (λ f. rw f (let h : (affected_first position i a + affected_count position i a ≤ size a) × (0 < affected_count position i a) = affected_fits a i in (omega (arith, h.0), h.1)))
        (λ f. rw f (let j : ℕ = i - size a in let h : (affected_first position j b + affected_count position j b ≤ size b) × (0 < affected_count position j b) = affected_fits b j in (omega (arith, h.0), h.1)))
        (cases_Bool (nat_lt i (size a)))))
        (λ e. rw e (omega arith, omega (arith, size_pos a, size_pos b)))
        (cases_Bool (nat_lt p position))

    -- below the affected part each path begins at or after the position
    put_first : (P : Piece A) → RisesFrom position P → map (with_position position) (paths P) ≡ map (λ path. position ∷ path) (paths P)
    put_first (Place x) r = refl
    put_first (Fork p a b) r =
        let e : nat_lt p position ≡ false = let k : position < p + 1 = r.0 in le-ltb p position (omega arith) in
        map-append (with_position position) (paths a) (map (λ path. p ∷ path) (paths b))
        ∙ (rw (
          put_first a (RisesFrom-weaker position (p + 1) a (let k : position < p + 1 = r.0 in omega arith) r.1),
          map-map (with_position position) (λ path. p ∷ path) (paths b),
          e,
          map-append (λ path. position ∷ path) (paths a) (map (λ path. p ∷ path) (paths b)),
          map-map (λ path. position ∷ path) (λ path. p ∷ path) (paths b),
        ) refl)

    module _ (bit : Bool) (x : A) where
      paths-forked : (P : Piece A) → RisesFrom position P → paths (forked position bit x P) ≡ forked_paths position bit (paths P)
      paths-forked P r = rw (first_path P) (elim bit as (λ v. paths (forked position v x P) ≡ cond v (paths P ++ (position ∷ []) ∷ []) ([] ∷ map (with_position position) (paths P)))
          [ true ↦ refl | false ↦ ap (λ ps. [] ∷ ps) (sym (put_first P r)) ])

      places-forked : (P : Piece A) → places (forked position bit x P) ≡ forked_places bit x (places P)
      places-forked P = elim bit as (λ v. places (forked position v x P) ≡ forked_places v x (places P)) [ true ↦ refl | false ↦ refl ]

  module _ (position : ℕ) (bit : Bool) (x : A) where
    -- THE NEW FORK: the affected paths alone change, as the building rules say
    pub paths-grown : (P : Piece A) (low i : ℕ) → RisesFrom low P →
        paths (grown position bit x i P) ≡ edited (affected_first position i P) (affected_count position i P) (forked_paths position bit) (paths P)
    paths-grown (Place y) low i r = paths-forked position bit x (Place y) tt ∙ sym (edited_whole 1 (forked_paths position bit) ([] ∷ []) refl)
    paths-grown (Fork p a b) low i r = ⊎_elim
        (λ e. rw e (⊎_elim
        (λ f. rw f (let fits : affected_first position i a + affected_count position i a ≤ length (paths a) = rw (length-paths a) (affected_fits position a i).0 in
        ap (λ ps. ps ++ map (λ path. p ∷ path) (paths b)) (paths-grown a (p + 1) i r.1)
        ∙ sym (edited-left (affected_first position i a) (affected_count position i a) (forked_paths position bit) (paths a) (map (λ path. p ∷ path) (paths b)) fits)))
        (λ f. rw f (let j : ℕ = i - size a in let n : ℕ = affected_count position j b in let g : ℕ = affected_first position j b in
        let h : (g + n ≤ size b) × (0 < n) = affected_fits position b j in
        let long : 0 < length (take n (drop g (paths b))) = rw (length-take-le n (drop g (paths b)) (rw (length-drop g (paths b), length-paths b) (omega (arith, h.0)))) h.1 in
        ap (λ ps. paths a ++ map (λ path. p ∷ path) ps) (paths-grown b (p + 1) j r.2)
        ∙ ap (λ ps. paths a ++ ps) (sym (edited-map (λ path. p ∷ path) g n (forked_paths position bit) (forked_paths position bit) (paths b) (forked_paths-map position bit p (take n (drop g (paths b))) e long)))
        ∙ sym (edited-right (size a) g n (forked_paths position bit) (paths a) (map (λ path. p ∷ path) (paths b)) (length-paths a))))
        (cases_Bool (nat_lt i (size a)))))
        (λ e. rw e (let l : position ≤ p = ltb-false p position e in
        paths-forked position bit x (Fork p a b) (omega arith, r.1, r.2)
        ∙ sym (edited_whole (size a + size b) (forked_paths position bit) (paths (Fork p a b)) (length-paths (Fork p a b)))))
        (cases_Bool (nat_lt p position))

    pub places-grown : (P : Piece A) (i : ℕ) →
        places (grown position bit x i P) ≡ edited (affected_first position i P) (affected_count position i P) (forked_places bit x) (places P)
    places-grown (Place y) i = places-forked position bit x (Place y) ∙ sym (edited_whole 1 (forked_places bit x) (y ∷ []) refl)
    places-grown (Fork p a b) i = ⊎_elim
        (λ e. rw e (⊎_elim
        (λ f. rw f (let fits : affected_first position i a + affected_count position i a ≤ length (places a) = rw (length-places a) (affected_fits position a i).0 in
        ap (λ ps. ps ++ places b) (places-grown a i)
        ∙ sym (edited-left (affected_first position i a) (affected_count position i a) (forked_places bit x) (places a) (places b) fits)))
        (λ f. rw f (let j : ℕ = i - size a in
        ap (λ ps. places a ++ ps) (places-grown b j)
        ∙ sym (edited-right (size a) (affected_first position j b) (affected_count position j b) (forked_places bit x) (places a) (places b) (length-places a))))
        (cases_Bool (nat_lt i (size a)))))
        (λ e. rw e (places-forked position bit x (Fork p a b) ∙ sym (edited_whole (size a + size b) (forked_places bit x) (places (Fork p a b)) (length-places (Fork p a b)))))
        (cases_Bool (nat_lt p position))

  module _ (p : ℕ) (bit : Bool) (x : A) where
    UsesOnly-forked : (cs : List ℕ) (P : Piece A) → has cs p ≡ true → UsesOnly cs P → UsesOnly cs (forked p bit x P)
    UsesOnly-forked cs P h u = elim bit as (λ v. UsesOnly cs (forked p v x P)) [ true ↦ (h, u, tt) | false ↦ (h, tt, u) ]

    pub UsesOnly-grown : (cs : List ℕ) (P : Piece A) (i : ℕ) → has cs p ≡ true → UsesOnly cs P → UsesOnly cs (grown p bit x i P)
    UsesOnly-grown cs (Place y) i h u = UsesOnly-forked cs (Place y) h u
    UsesOnly-grown cs (Fork q a b) i h u = ⊎_elim
        (λ e. rw e (⊎_elim (λ f. rw f (u.0, UsesOnly-grown cs a i h u.1, u.2)) (λ f. rw f (u.0, u.1, UsesOnly-grown cs b (i - size a) h u.2)) (cases_Bool (nat_lt i (size a)))))
        (λ e. rw e (UsesOnly-forked cs (Fork q a b) h u)) (cases_Bool (nat_lt q p))

    pub RisesFrom-grown : (low i : ℕ) (P : Piece A) → low ≤ p → IsFresh p i P → RisesFrom low P → RisesFrom low (grown p bit x i P)
    RisesFrom-grown low i (Place y) l s r = elim bit as (λ v. RisesFrom low (forked p v x (Place y))) [ true ↦ (omega arith, tt, tt) | false ↦ (omega arith, tt, tt) ]
    RisesFrom-grown low i (Fork q a b) l s r = ⊎_elim
        (λ e. let m : q < p = ltb-true q p e in rw e (⊎_elim
        (λ f. rw f (r.0, RisesFrom-grown (q + 1) i a (omega arith) (rw (e, f) at s) r.1, r.2))
        (λ f. rw f (r.0, r.1, RisesFrom-grown (q + 1) (i - size a) b (omega arith) (rw (e, f) at s) r.2))
        (cases_Bool (nat_lt i (size a)))))
        (λ e. let m : p ≤ q = ltb-false q p e in let ne : q ≢ p = (rw e at s) in
        rw e (elim bit as (λ v. RisesFrom low (forked p v x (Fork q a b))) [ true ↦ (omega arith, (omega arith, r.1, r.2), tt) | false ↦ (omega arith, tt, (omega arith, r.1, r.2)) ]))
        (cases_Bool (nat_lt q p))

    uses-forked : (P : Piece A) (c : ℕ) → ((eqb p c || uses P c) ≡ true) → uses (forked p bit x P) c ≡ true
    uses-forked P c h = elim bit as (λ v. uses (forked p v x P) c ≡ true) [ true ↦ two (eqb p c) (uses P c) h | false ↦ h ]
      where
        two : (y z : Bool) → (y || z) ≡ true → (y || (z || false)) ≡ true
        two true z g = refl
        two false true g = refl
        two false false g = g

    pub uses-grown : (P : Piece A) (i c : ℕ) → ((eqb p c || uses P c) ≡ true) → uses (grown p bit x i P) c ≡ true
    uses-grown (Place y) i c h = uses-forked (Place y) c h
    uses-grown (Fork q a b) i c h = ⊎_elim
        (λ e. rw e (⊎_elim
        (λ f. rw f (four (eqb p c) (eqb q c) (uses a c) (uses b c) (uses (grown p bit x i a) c) h (uses-grown a i c)))
        (λ f. rw f (five (eqb p c) (eqb q c) (uses a c) (uses b c) (uses (grown p bit x (i - size a) b) c) h (uses-grown b (i - size a) c)))
        (cases_Bool (nat_lt i (size a)))))
        (λ e. rw e (uses-forked (Fork q a b) c h)) (cases_Bool (nat_lt q p))
      where
        four : (n t y z g : Bool) → (n || (t || (y || z))) ≡ true → ((n || y) ≡ true → g ≡ true) → (t || (g || z)) ≡ true
        four n true y z g h k = refl
        four n false y z true h k = refl
        four true false y z false h k = absurd (false≢true (k refl))
        four false false true z false h k = absurd (false≢true (k refl))
        four false false false z false h k = h

        five : (n t y z g : Bool) → (n || (t || (y || z))) ≡ true → ((n || z) ≡ true → g ≡ true) → (t || (y || g)) ≡ true
        five n true y z g h k = refl
        five n false true z g h k = refl
        five n false false z true h k = refl
        five true false false z false h k = k refl
        five false false false z false h k = k h

  -- a position that is no column is at no fork
  pub fresh_from_columns : (cs : List ℕ) (p i : ℕ) (P : Piece A) → has cs p ≡ false → UsesOnly cs P → IsFresh p i P
  fresh_from_columns cs p i (Place x) h u = tt
  fresh_from_columns cs p i (Fork q a b) h u = ⊎_elim
      (λ e. rw e (⊎_elim (λ f. rw f (fresh_from_columns cs p i a h u.1)) (λ f. rw f (fresh_from_columns cs p (i - size a) b h u.2)) (cases_Bool (nat_lt i (size a)))))
      (λ e. rw e (λ same. let one : has cs q ≡ true = u.0 in let two : has cs p ≡ true = rw same at one in absurd (false≢true (sym h ∙ two)))) (cases_Bool (nat_lt q p))
