-- Facts of nodes and of the halves of a cut.
use Rattle.insert_cases.proofs.Common.{Bool, [], ◌∷◌, ap, arith, false, nat_lt, refl, sym, true, ℕ, ⊎_elim, ◌++◌, ◌-◌, ◌<◌, ◌∙◌, ◌≡◌, ◌≤◌, max, subst, cond-true, cond-false, cases_Bool, lt-ltb, NodeView, IsLawfulNode, height_of, greatest_height, Entry, Leaf, greatest-append, replaced, forked, grown, Piece, Place, Fork, places, size, grafted, IsAbovePath, size-replaced}
use Rattle.compound_node.specs.Halves.{HalfShows, CutShows}
use Rattle.compound_node.specs.declared.halves.Cut.{Cut}
use Rattle.compound_node.specs.declared.halves.Half.{Half}
use Rattle.compound_node.specs.declared.halves.Half.TheVariants.{One, Many, Same}
use Rattle.insert_cases.specs.Grown.{is_same, half_piece}

pub height_positive : (n : NodeView) → IsLawfulNode n → 0 < n.height
height_positive n l = let several = l.several in omega (arith, l.above 0 (Leaf 0) (omega arith))

pub half_is : (h : Half) (P : Piece Entry) → HalfShows h P → P ≡ half_piece h
half_is (One e) P s = s.0
half_is (Many n) P s = sym s.shows_it
half_is Same P s = elim s [ ]

pub half_anew : (h : Half) (P : Piece Entry) → HalfShows h P → is_same h ≡ false
half_anew (One e) P s = refl
half_anew (Many n) P s = refl
half_anew Same P s = elim s [ ]

-- what is cut is the fork of its halves
pub record IsCut (cut : Cut) (P : Piece Entry) : Type 0 where
  pub whole : P ≡ Fork cut.position (half_piece cut.zero) (half_piece cut.one)
  pub zero : HalfShows cut.zero (half_piece cut.zero)
  pub one : HalfShows cut.one (half_piece cut.one)

pub cut_is : (cut : Cut) (P : Piece Entry) → CutShows cut P → IsCut cut P
cut_is cut (Place x) s = elim s [ ]
cut_is cut (Fork p a b) s =
    let z : a ≡ half_piece cut.zero = half_is cut.zero a s.1 in
    let o : b ≡ half_piece cut.one = half_is cut.one b s.2 in
    let e : cut.position ≡ p = s.0 in
    record { whole = cc; zero = subst (HalfShows cut.zero) z s.1; one = subst (HalfShows cut.one) o s.2 }

-- ---- the greatest height
-- a new entry counts
pub greatest-grown : (position : ℕ) (bit : Bool) (x : Entry) (i : ℕ) (P : Piece Entry) → height_of x ≤ greatest_height (places (grown position bit x i P))
greatest-grown position true x i (Place y) = omega arith
greatest-grown position false x i (Place y) = omega arith
greatest-grown position bit x i (Fork p a b) = ⊎_elim
    (λ e. rw e (⊎_elim
    (λ f. rw f (let h = greatest-grown position bit x i a in omega (arith, greatest-append (places (grown position bit x i a)) (places b))))
    (λ f. rw f (let h = greatest-grown position bit x (i - size a) b in omega (arith, greatest-append (places a) (places (grown position bit x (i - size a) b)))))
    (cases_Bool (nat_lt i (size a)))))
    (λ e. rw e (beside bit))
    (cases_Bool (nat_lt p position))
  where
    beside : (bit : Bool) → height_of x ≤ greatest_height (places (forked position bit x (Fork p a b)))
    beside true = omega (arith, greatest-append (places a ++ places b) (x ∷ []))
    beside false = omega arith

-- a lower entry beside it does not
pub greatest-grafted : (position : ℕ) (bit : Bool) (x y z : Entry) (i : ℕ) (P : Piece Entry) → height_of y ≤ height_of x → height_of z ≡ 0 →
    IsAbovePath position i P → greatest_height (places (grafted i (forked position bit x (Place y)) P)) ≡ greatest_height (places (grown position bit x i (replaced i z P)))
greatest-grafted position true x y z i (Place w) l n a = omega arith
greatest-grafted position false x y z i (Place w) l n a = omega arith
greatest-grafted position bit x y z i (Fork p s t) l n a =
    let m : nat_lt p position ≡ true = lt-ltb p position a.0 in
    let f : Piece Entry = forked position bit x (Place y) in
    ⊎_elim
    (λ e. let g : nat_lt i (size (replaced i z s)) ≡ true = rw (size-replaced i z s) e in
    let u : grafted i f (Fork p s t) ≡ Fork p (grafted i f s) t = rw e refl in
    let v : grown position bit x i (replaced i z (Fork p s t)) ≡ Fork p (grown position bit x i (replaced i z s)) t = ap (grown position bit x i) (let o : replaced i z (Fork p s t) ≡ Fork p (replaced i z s) t = rw e refl in o) ∙ (cond-true (nat_lt p position) _ _ m ∙ cond-true (nat_lt i (size (replaced i z s))) _ _ g) in
    ap (λ q. greatest_height (places q)) u ∙ (greatest-append (places (grafted i f s)) (places t) ∙
    (ap (λ h. max h (greatest_height (places t))) (greatest-grafted position bit x y z i s l n (rw e at a.1)) ∙
    (sym (greatest-append (places (grown position bit x i (replaced i z s))) (places t)) ∙ ap (λ q. greatest_height (places q)) (sym v)))))
    (λ e. let u : grafted i f (Fork p s t) ≡ Fork p s (grafted (i - size s) f t) = rw e refl in
    let v : grown position bit x i (replaced i z (Fork p s t)) ≡ Fork p s (grown position bit x (i - size s) (replaced (i - size s) z t)) = ap (grown position bit x i) (let o : replaced i z (Fork p s t) ≡ Fork p s (replaced (i - size s) z t) = rw e refl in o) ∙ (cond-true (nat_lt p position) _ _ m ∙ cond-false (nat_lt i (size s)) _ _ e) in
    ap (λ q. greatest_height (places q)) u ∙ (greatest-append (places s) (places (grafted (i - size s) f t)) ∙
    (ap (max (greatest_height (places s))) (greatest-grafted position bit x y z (i - size s) t l n (rw e at a.1)) ∙
    (sym (greatest-append (places s) (places (grown position bit x (i - size s) (replaced (i - size s) z t)))) ∙ ap (λ q. greatest_height (places q)) (sym v)))))
    (cases_Bool (nat_lt i (size s)))
