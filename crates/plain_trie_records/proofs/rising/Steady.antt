-- What grows out of a node has other forks than the node had.
use Rattle.plain_trie_records.proofs.Common.{◌≡◌, ◌≢◌, ℕ, ◌+◌, ◌-◌, ◌<◌, ◌≤◌, Bool, true, false, nat_lt, length, get_or, refl, ap, sym, ◌∙◌, subst, arith, ⊎_elim, ◌↔◌, IsTrue, cases_Bool, lt-ltb, ltb-true, ltb-false, false≢true, length-map, length-paths, AtRootFork, IsAffected, IsFresh, forked, grown, Piece, Place, Fork, size, paths, RisesFrom, HalfShows, NodeView, piece, IsLawfulNode, Entry, Cut, Half, One, Many, Same, Subtrie, first_position, grafted, IsAbovePath, GrownShows, SidesShow, is_whole, keeps_node, Grown, Two, size-grown, size-piece}
use Rattle.partial_keys.specs.Rows.{row_of}
use Rattle.plain_trie_records.specs.Heights.{KeepsHeight, IsHalfSteady, IsGrownSteady}
use Rattle.insert_cases.specs.declared.growth.Grown.TheVariants.{One as Whole}
use Rattle.compound_node.proofs.Roots.{first_column}

-- ---- root forks
module _ {A : Type 0} where
  -- a root fork is at a position above q
  abbrev IsRootAbove : ℕ → Piece A → Type 0
  IsRootAbove q (Place x) = Unit {0}
  IsRootAbove q (Fork p a b) = q < p

  abbrev AreSidesAbove : ℕ → Piece A → Type 0
  AreSidesAbove q P = AtRootFork (λ p a b. IsRootAbove q a × IsRootAbove q b) P

  above_rises : (q : ℕ) (P : Piece A) → RisesFrom (q + 1) P → IsRootAbove q P
  above_rises q (Place x) r = tt
  above_rises q (Fork p a b) r = omega (arith, r.0)

  above_forked : (q position : ℕ) (bit : Bool) (x : A) (P : Piece A) → q < position → IsRootAbove q (forked position bit x P)
  above_forked q position true x P h = h
  above_forked q position false x P h = h

  above_grown : (q position : ℕ) (bit : Bool) (x : A) (i : ℕ) (P : Piece A) → q < position → IsRootAbove q P → IsRootAbove q (grown position bit x i P)
  above_grown q position bit x i (Place y) h r = above_forked q position bit x (Place y) h
  above_grown q position bit x i (Fork p a b) h r = ⊎_elim
      (λ e. rw e (⊎_elim (λ f. rw f r) (λ f. rw f r) (cases_Bool (nat_lt i (size a)))))
      (λ e. rw e (above_forked q position bit x (Fork p a b) h))
      (cases_Bool (nat_lt p position))

  above_grafted : (q i : ℕ) (F P : Piece A) → IsRootAbove q F → IsRootAbove q P → IsRootAbove q (grafted i F P)
  above_grafted q i F (Place x) f r = f
  above_grafted q i F (Fork p a b) f r = ⊎_elim (λ e. rw e r) (λ e. rw e r) (cases_Bool (nat_lt i (size a)))

  sides_grown : (q position : ℕ) (bit : Bool) (x : A) (i : ℕ) (s t : Piece A) → q < position → IsRootAbove q s → IsRootAbove q t →
      AreSidesAbove q (grown position bit x i (Fork q s t))
  sides_grown q position bit x i s t h a b =
      rw (lt-ltb q position h)
      (⊎_elim (λ f. rw f (above_grown q position bit x i s h a, b)) (λ f. rw f (a, above_grown q position bit x (i - size s) t h b)) (cases_Bool (nat_lt i (size s))))

  sides_grafted : (q i : ℕ) (F s t : Piece A) → IsRootAbove q F → IsRootAbove q s → IsRootAbove q t → AreSidesAbove q (grafted i F (Fork q s t))
  sides_grafted q i F s t f a b =
      ⊎_elim (λ e. rw e (above_grafted q i F s f a, b)) (λ e. rw e (a, above_grafted q (i - size s) F t f b)) (cases_Bool (nat_lt i (size s)))

  pub size-grafted : (position : ℕ) (z o : A) (i : ℕ) (P : Piece A) → size (grafted i (Fork position (Place z) (Place o)) P) ≡ size P + 1
  size-grafted position z o i (Place x) = refl
  size-grafted position z o i (Fork p a b) = ⊎_elim
      (λ e. rw e (omega (arith, size-grafted position z o i a)))
      (λ e. rw e (omega (arith, size-grafted position z o (i - size a) b)))
      (cases_Bool (nat_lt i (size a)))

-- ---- nodes with the same forks
root_is : (x : ℕ) (P : Subtrie) → AtRootFork (λ p a b. x ≡ p) P → x ≡ first_position P
root_is x (Place e) h = elim h [ ]
root_is x (Fork p a b) h = h

root_beyond : (q : ℕ) (P : Subtrie) → 2 ≤ size P → IsRootAbove q P → q < first_position P
root_beyond q (Place e) h r = absurd (omega arith)
root_beyond q (Fork p a b) h r = r

first_is : (v : NodeView) → IsLawfulNode v → get_or v.columns 0 0 ≡ first_position (piece v)
first_is v l = root_is (get_or v.columns 0 0) (piece v) (first_column v l).1

length-rows : (v : NodeView) → IsLawfulNode v → length v.rows ≡ size (piece v)
length-rows v l = ap length l.shows.rows_are ∙ (length-map (paths (piece v)) (row_of v.columns) ∙ length-paths (piece v))

module _ (u v : NodeView) (lawful_u : IsLawfulNode u) (lawful_v : IsLawfulNode v) where
  -- a node of more places has other rows
  steady_longer : size (piece v) ≡ size (piece u) + 1 → KeepsHeight u v
  steady_longer h columns rows = absurd (omega (arith, ap length rows, length-rows u lawful_u, length-rows v lawful_v))

  -- and one whose root fork is further down has other columns
  steady_below : IsRootAbove (first_position (piece u)) (piece v) → KeepsHeight u v
  steady_below h columns rows =
      let beyond = root_beyond (first_position (piece u)) (piece v) (omega (arith, size-piece v lawful_v, lawful_v.several)) h in
      absurd (omega (arith, first_is u lawful_u, first_is v lawful_v, ap (λ cs. get_or cs 0 0) columns))

-- ---- the halves of a cut
module _ (u : NodeView) (lawful : IsLawfulNode u) where
  half_steady : (half : Half) (P : Subtrie) → HalfShows half P → IsRootAbove (first_position (piece u)) P → IsHalfSteady u half
  half_steady (One e) P s r = tt
  half_steady (Many v) P s r = steady_below u v lawful s.lawful (subst (IsRootAbove (first_position (piece u))) (sym s.shows_it) r)
  half_steady Same P s r = tt

  sides_steady : (first second : Half) (a b : Subtrie) → SidesShow u first second a b → IsRootAbove (first_position (piece u)) a → IsRootAbove (first_position (piece u)) b →
      IsHalfSteady u first × IsHalfSteady u second
  sides_steady (One e) (One f) a b s x y = (tt, tt)
  sides_steady (One e) (Many v) a b s x y = (tt, half_steady (Many v) b s.1 y)
  sides_steady (One e) Same a b s x y = (tt, tt)
  sides_steady (Many v) (One f) a b s x y = (half_steady (Many v) a s.0 x, tt)
  sides_steady (Many v) (Many w) a b s x y = (half_steady (Many v) a s.0 x, half_steady (Many w) b s.1 y)
  sides_steady (Many v) Same a b s x y = elim s.1 [ ]
  sides_steady Same (One f) a b s x y = (tt, tt)
  sides_steady Same (Many v) a b s x y = elim s.0 [ ]
  sides_steady Same Same a b s x y = (tt, tt)

  -- where the old node is one half, no node was built
  kept_steady : (cut : Cut) (P : Subtrie) → GrownShows u (Two cut) P → IsTrue (keeps_node (Two cut)) → IsHalfSteady u cut.zero × IsHalfSteady u cut.one
  kept_steady cut (Place e) s k = elim s [ ]
  kept_steady cut (Fork p a b) s k = go cut.zero cut.one s.1 k
    where
      go : (first second : Half) → SidesShow u first second a b → IsTrue (keeps_node (Two (record { position = cut.position; zero = first; one = second }))) → IsHalfSteady u first × IsHalfSteady u second
      go (One e) (One f) s k = (tt, tt)
      go (One e) (Many v) s k = absurd (false≢true k)
      go (One e) Same s k = (tt, tt)
      go (Many v) (One f) s k = absurd (false≢true k)
      go (Many v) (Many w) s k = absurd (false≢true k)
      go (Many v) Same s k = elim s.1 [ ]
      go Same (One f) s k = (tt, tt)
      go Same (Many v) s k = elim s.0 [ ]
      go Same Same s k = (tt, tt)

  cut_steady : (cut : Cut) (P : Subtrie) → GrownShows u (Two cut) P → AreSidesAbove (first_position (piece u)) P → IsHalfSteady u cut.zero × IsHalfSteady u cut.one
  cut_steady cut (Place e) s r = elim s [ ]
  cut_steady cut (Fork p a b) s r = sides_steady cut.zero cut.one a b s.1 r.0 r.1

  -- ---- a new entry
  module _ (position : ℕ) (bit : Bool) (x : Entry) (first last : ℕ) (affected : IsAffected (piece u) position first last) where
    full_cut : (cut : Cut) → GrownShows u (Two cut) (grown position bit x first (piece u)) → (AtRootFork (λ p zero one. position < p) (piece u) → IsTrue (keeps_node (Two cut))) →
        (P : Subtrie) → piece u ≡ P → IsHalfSteady u cut.zero × IsHalfSteady u cut.one
    full_cut cut shows keeps (Place e) is = absurd (let l = lawful.several in omega (arith, size-piece u lawful, ap size is))
    full_cut cut shows keeps (Fork q s t) is = ⊎_elim
        (λ e. let rises : RisesFrom 0 (Fork q s t) = subst (RisesFrom 0) is lawful.shows.paths_rise in
        let above : AreSidesAbove q (grown position bit x first (Fork q s t)) = sides_grown q position bit x first s t (ltb-true q position e) (above_rises q s rises.1) (above_rises q t rises.2) in
        cut_steady cut (grown position bit x first (piece u)) shows (rw is above))
        (λ e. let beyond : nat_lt q position ≡ false = e in
        let fresh : q ≢ position = rw beyond at (subst (IsFresh position first) is affected.fresh) in
        let low : position < q = (let l = ltb-false q position e in omega arith) in
        kept_steady cut (grown position bit x first (piece u)) shows (keeps (subst (AtRootFork (λ p zero one. position < p)) (sym is) low)))
        (cases_Bool (nat_lt q position))

    -- the node with the entry, or the halves of what a full node becomes
    pub grow_steady : (g : Grown) → GrownShows u g (grown position bit x first (piece u)) → IsTrue (keeps_node g) ↔ ((is_whole g ≡ false) × AtRootFork (λ p zero one. position < p) (piece u)) → IsGrownSteady u g
    grow_steady (Whole v) shows keeps = steady_longer u v lawful shows.lawful (ap size shows.shows_it ∙ size-grown position bit x first (piece u))
    grow_steady (Two cut) shows keeps = full_cut cut shows (λ low. keeps.1 (refl, low)) (piece u) refl

  -- ---- a fork for an entry
  module _ (position at : ℕ) (z o : Entry) (path : IsAbovePath position at (piece u)) where
    pulled_cut : (cut : Cut) → GrownShows u (Two cut) (grafted at (Fork position (Place z) (Place o)) (piece u)) → (P : Subtrie) → piece u ≡ P → IsHalfSteady u cut.zero × IsHalfSteady u cut.one
    pulled_cut cut shows (Place e) is = absurd (let l = lawful.several in omega (arith, size-piece u lawful, ap size is))
    pulled_cut cut shows (Fork q s t) is =
        let rises : RisesFrom 0 (Fork q s t) = subst (RisesFrom 0) is lawful.shows.paths_rise in
        let low : IsAbovePath position at (Fork q s t) = subst (IsAbovePath position at) is path in
        let above : AreSidesAbove q (grafted at (Fork position (Place z) (Place o)) (Fork q s t)) = sides_grafted q at (Fork position (Place z) (Place o)) s t low.0 (above_rises q s rises.1) (above_rises q t rises.2) in
        cut_steady cut (grafted at (Fork position (Place z) (Place o)) (piece u)) shows (rw is above)

    pub pull_steady : (g : Grown) → GrownShows u g (grafted at (Fork position (Place z) (Place o)) (piece u)) → IsGrownSteady u g
    pull_steady (Whole v) shows = steady_longer u v lawful shows.lawful (ap size shows.shows_it ∙ size-grafted position z o at (piece u))
    pull_steady (Two cut) shows = pulled_cut cut shows (piece u) refl
