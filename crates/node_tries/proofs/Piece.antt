-- Places and paths of a piece, and where a key leads.
pub mod Mapping
pub mod Using
use Rattle.std.proofs.Common.{Bool, List, [], ap, arith, cond, eqb, false, get_or, length, length-append, map, refl, suc, sym, true, zero, ℕ, ◌&&◌, ◌++◌, ◌+◌, ◌-◌, ◌<◌, ◌∙◌, ◌∷◌, ◌≡◌, ◌≤◌}
use Rattle.std.proofs.lemmas.Bool.{and_from, false≢true, ne_eqb}
use Rattle.std.proofs.lemmas.List.{get_or-append_right, get_or-map, get_or_append_left, length-map}
use Rattle.node_tries.proofs.Highest.{highest-append, highest-map}
use Rattle.node_tries.proofs.Positions.Tests.{any-append, any-map, any_under}
use Rattle.node_tries.specs.Highest.{highest}
use Rattle.node_tries.specs.Piece.{Piece, Place, Fork, places, size, paths, leads_to, RisesFrom, UsesOnly}
use Rattle.node_tries.specs.Positions.{has, all, any}

-- no path has the position
abbrev pub NoneHas : ℕ → List (List ℕ) → Type 0
NoneHas p [] = Unit {0}
NoneHas p (z ∷ zs) = (has z p ≡ false) × NoneHas p zs

pub NoneHas-append : (p : ℕ) (xs ys : List (List ℕ)) → NoneHas p xs → NoneHas p ys → NoneHas p (xs ++ ys)
NoneHas-append p [] ys f g = g
NoneHas-append p (x ∷ xs) ys f g = (f.0, NoneHas-append p xs ys f.1 g)

pub NoneHas-map : (p q : ℕ) (xs : List (List ℕ)) → eqb q p ≡ false → NoneHas p xs → NoneHas p (map (λ path. q ∷ path) xs)
NoneHas-map p q [] e f = tt
NoneHas-map p q (x ∷ xs) e f = (rw (e, f.0) refl, NoneHas-map p q xs e f.1)

pub only_path : (k : ℕ) → get_or {A = List ℕ} ([] ∷ []) k [] ≡ []
only_path zero = refl
only_path (suc k) = refl

module _ {A : Type 0} where
  pub size_pos : (P : Piece A) → 0 < size P
  size_pos (Place x) = omega arith
  size_pos (Fork p a b) = omega (arith, size_pos a, size_pos b)

  pub length-places : (P : Piece A) → length (places P) ≡ size P
  length-places (Place x) = refl
  length-places (Fork p a b) = rw (length-append (places a) (places b), length-places a, length-places b)

  pub length-paths : (P : Piece A) → length (paths P) ≡ size P
  length-paths (Place x) = refl
  length-paths (Fork p a b) = rw (length-append (paths a) (map (λ path. p ∷ path) (paths b)), length-map (paths b) (λ path. p ∷ path), length-paths a, length-paths b)

  pub RisesFrom-weaker : (m n : ℕ) (P : Piece A) → m ≤ n → RisesFrom n P → RisesFrom m P
  RisesFrom-weaker m n (Place x) l r = tt
  RisesFrom-weaker m n (Fork p a b) l r = (let k : n < p + 1 = r.0 in omega arith, r.1, r.2)

  -- the path of the first place has no 1
  pub first_path : (P : Piece A) → get_or (paths P) 0 [] ≡ []
  first_path (Place x) = refl
  first_path (Fork p a b) = head_append (paths a) (map (λ path. p ∷ path) (paths b)) (rw (length-paths a) (size_pos a)) ∙ first_path a
    where
      head_append : (xs ys : List (List ℕ)) → 0 < length xs → get_or (xs ++ ys) 0 [] ≡ get_or xs 0 []
      head_append [] ys l = absurd (omega arith)
      head_append (x ∷ xs) ys l = refl

  pub paths-left : (c : ℕ) (s t : Piece A) (k : ℕ) → k < size s → get_or (paths (Fork c s t)) k [] ≡ get_or (paths s) k []
  paths-left c s t k l = get_or_append_left (paths s) (map (λ path. c ∷ path) (paths t)) [] k (rw (length-paths s) l)

  pub paths-right : (c : ℕ) (s t : Piece A) (k : ℕ) → size s ≤ k → k < size s + size t → get_or (paths (Fork c s t)) k [] ≡ c ∷ get_or (paths t) (k - size s) []
  paths-right c s t k l m = get_or-append_right (paths s) (map (λ path. c ∷ path) (paths t)) (size s) k [] (length-paths s) l
      ∙ get_or-map (λ path. c ∷ path) (paths t) (k - size s) [] [] (rw (length-paths t) (omega arith))

  pub one_place : (es : List A) (Q : Piece A) (d : A) → es ≡ places Q → length es ≡ 1 → Q ≡ Place (get_or es 0 d)
  one_place es (Place x) d e l = rw e refl
  one_place es (Fork p s t) d e l = absurd (omega (arith, ap length e, length-append (places s) (places t), length-places s, length-places t, size_pos s, size_pos t))

  pub none_has : (cs : List ℕ) (p : ℕ) (P : Piece A) → has cs p ≡ false → UsesOnly cs P → NoneHas p (paths P)
  none_has cs p (Place x) h u = (refl, tt)
  none_has cs p (Fork q a b) h u = NoneHas-append p (paths a) (map (λ path. q ∷ path) (paths b)) (none_has cs p a h u.1)
      (NoneHas-map p q (paths b) (ne_eqb q p (λ same. let one : has cs q ≡ true = u.0 in let two : has cs p ≡ true = rw same at one in false≢true (sym h ∙ two))) (none_has cs p b h u.2))

  pub none_before : (c : ℕ) (P : Piece A) → RisesFrom (c + 1) P → NoneHas c (paths P)
  none_before c (Place x) r = (refl, tt)
  none_before c (Fork p s t) r =
      let k : c + 1 < p + 1 = r.0 in
      NoneHas-append c (paths s) (map (λ path. p ∷ path) (paths t)) (none_before c s (RisesFrom-weaker (c + 1) (p + 1) s (omega arith) r.1))
      (NoneHas-map c p (paths t) (ne_eqb p c (omega arith)) (none_before c t (RisesFrom-weaker (c + 1) (p + 1) t (omega arith) r.2)))

  -- ---- the place to which a key leads is the last whose path has a 1 of the key at each position
  module _ (bit : ℕ → Bool) where
    -- the path of the first place takes the 1 side nowhere
    pub any-paths : (P : Piece A) → any (all bit) (paths P) ≡ true
    any-paths (Place x) = refl
    any-paths (Fork p a b) = any-append (all bit) (paths a) (map (λ path. p ∷ path) (paths b)) ∙ rw (any-paths a)

    pub highest-paths : (P : Piece A) → highest (all bit) (paths P) ≡ leads_to bit P
    highest-paths (Place x) = refl
    highest-paths (Fork p a b) =
        highest-append (all bit) (paths a) (map (λ path. p ∷ path) (paths b))
        ∙ rw (any-map (all bit) (λ path. p ∷ path) (paths b), highest-map (all bit) (λ path. p ∷ path) (paths b), any_under (all bit) (bit p) (paths b), length-paths a, highest-paths a, any-paths b)
        (elim (bit p) as (λ v. cond (v && true) (size a + highest (λ path. v && all bit path) (paths b)) (leads_to bit a) ≡ cond v (size a + leads_to bit b) (leads_to bit a))
        [ true ↦ ap (λ n. size a + n) (highest-paths b) | false ↦ refl ])

-- ---- positions of paths among the columns
-- each path's positions are among the columns
abbrev pub AllInside : List ℕ → List (List ℕ) → Type 0
AllInside cs [] = Unit {0}
AllInside cs (path ∷ ps) = (all (has cs) path ≡ true) × AllInside cs ps

AllInside-append : (cs : List ℕ) (xs ys : List (List ℕ)) → AllInside cs xs → AllInside cs ys → AllInside cs (xs ++ ys)
AllInside-append cs [] ys f g = g
AllInside-append cs (x ∷ xs) ys f g = (f.0, AllInside-append cs xs ys f.1 g)

AllInside-map : (cs : List ℕ) (p : ℕ) (xs : List (List ℕ)) → has cs p ≡ true → AllInside cs xs → AllInside cs (map (λ path. p ∷ path) xs)
AllInside-map cs p [] h f = tt
AllInside-map cs p (x ∷ xs) h f = (and_from (has cs p) (all (has cs) x) h f.0, AllInside-map cs p xs h f.1)

module _ {A : Type 0} where
  pub inside : (cs : List ℕ) (P : Piece A) → UsesOnly cs P → AllInside cs (paths P)
  inside cs (Place x) u = (refl, tt)
  inside cs (Fork p a b) u = AllInside-append cs (paths a) (map (λ path. p ∷ path) (paths b)) (inside cs a u.1) (AllInside-map cs p (paths b) u.0 (inside cs b u.2))

  -- tests that agree on the columns lead to the same place
  pub leads_to-agree : (f g : ℕ → Bool) (cs : List ℕ) (P : Piece A) → ((c : ℕ) → has cs c ≡ true → f c ≡ g c) → UsesOnly cs P → leads_to f P ≡ leads_to g P
  leads_to-agree f g cs (Place x) h u = refl
  leads_to-agree f g cs (Fork p a b) h u = rw (h p u.0, leads_to-agree f g cs a h u.1, leads_to-agree f g cs b h u.2) refl
