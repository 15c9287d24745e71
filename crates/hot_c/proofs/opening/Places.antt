-- Lists of passes, pairs and handles, a place after the other.
use Rattle.hot_c.proofs.Common.{◌≡◌, ℕ, zero, suc, ◌+◌, ◌<◌, List, [], ◌∷◌, ◌++◌, length, map, take, drop, All, Some, get_or, refl, sym, ap, ◌∙◌, subst, arith, slice_set, slice_get, length-drop}

-- what holds of each item by its number, the first of which is this one
abbrev pub AreFrom : {A : Type 0} → (ℕ → A → Type 0) → ℕ → List A → Type 0
AreFrom {A} P first items = (q : ℕ) (x : A) → slice_get items q ≡ Some x → P (first + q) x

pub first_of : {A : Type 0} (P : ℕ → A → Type 0) (first : ℕ) (x : A) (items : List A) → AreFrom P first (x ∷ items) → P first x
first_of P first x items h = subst (λ q. P q x) (omega arith) (h 0 x refl)

pub rest_of : {A : Type 0} (P : ℕ → A → Type 0) (first : ℕ) (x : A) (items : List A) → AreFrom P first (x ∷ items) → AreFrom P (suc first) items
rest_of P first x items h q y e = subst (λ i. P i y) (omega arith) (h (suc q) y e)

pub same : {A : Type 0} (x y : A) → Some x ≡ Some y → x ≡ y
same x y e = cc

head : {A : Type 0} (x y : A) (xs ys : List A) → x ∷ xs ≡ y ∷ ys → x ≡ y
head x y xs ys e = cc

tail : {A : Type 0} (x y : A) (xs ys : List A) → x ∷ xs ≡ y ∷ ys → xs ≡ ys
tail x y xs ys e = cc

both : {A : Type 0} (x y : A) (xs ys : List A) → x ≡ y → xs ≡ ys → x ∷ xs ≡ y ∷ ys
both x y xs ys e f = cc

-- what holds of each, and of one more, holds of each of all
pub each_longer : {A : Type 0} (P : ℕ → A → Type 0) (xs : List A) (x : A) → ((q : ℕ) (y : A) → slice_get xs q ≡ Some y → P q y) → P (length xs) x →
    (q : ℕ) (y : A) → slice_get (xs ++ x ∷ []) q ≡ Some y → P q y
each_longer P [] x h p zero y e = subst (P zero) (same x y e) p
each_longer P [] x h p (suc q) y e = absurd cc
each_longer P (z ∷ zs) x h p zero y e = h zero y e
each_longer P (z ∷ zs) x h p (suc q) y e = each_longer (λ i. P (suc i)) zs x (λ i w. h (suc i) w) p q y e

-- an item that was mapped is the image of the one at its place
pub mapped : {A B : Type 0} (f : A → B) (xs : List A) (q : ℕ) (y : B) → slice_get (map f xs) q ≡ Some y → (x : A) × (slice_get xs q ≡ Some x) × (f x ≡ y)
mapped f [] q y e = absurd cc
mapped f (x ∷ xs) zero y e = (x, refl, same (f x) y e)
mapped f (x ∷ xs) (suc q) y e = mapped f xs q y e

less : {A : Type 0} (n : ℕ) (xs : List A) → drop (suc n) xs ≡ drop 1 (drop n xs)
less zero xs = refl
less (suc n) [] = refl
less (suc n) (x ∷ xs) = less n xs

-- one item less is left
pub one_less : {A : Type 0} (n : ℕ) (xs : List A) → drop (n + 1) xs ≡ drop 1 (drop n xs)
one_less n xs = let more : suc n ≡ n + 1 = omega arith in subst (λ m. drop m xs ≡ drop 1 (drop n xs)) more (less n xs)

all_but_first : {A : Type 0} (P : A → Type 0) (xs : List A) → All P xs → All P (drop 1 xs)
all_but_first P [] h = h
all_but_first P (x ∷ xs) h = λ k d low. h (suc k) d (omega (arith, low))

pub all_after : {A : Type 0} (P : A → Type 0) (n : ℕ) (xs : List A) → All P (drop n xs) → All P (drop (n + 1) xs)
all_after P n xs h = subst (All P) (sym (one_less n xs)) (all_but_first P (drop n xs) h)

pub first_after : {A : Type 0} (P : A → Type 0) (n : ℕ) (xs : List A) (d : A) → n < length xs → All P (drop n xs) → P (get_or xs n d)
first_after P n [] d low h = absurd (omega (arith, low))
first_after P zero (x ∷ xs) d low h = h 0 d (omega arith)
first_after P (suc n) (x ∷ xs) d low h = first_after P n xs d (omega (arith, low)) h

-- one more item is written, at the place after those that were
pub written : {A B : Type 0} (S : ℕ → A → B → Type 0) (xs : List A) (room : List B) (n : ℕ) (b : B) → n < length room
    → ((q : ℕ) (e : A) → q < n → slice_get xs q ≡ Some e → (x : B) × (slice_get room q ≡ Some x) × S q e x) → ((e : A) → slice_get xs n ≡ Some e → S n e b)
    → (q : ℕ) (e : A) → q < n + 1 → slice_get xs q ≡ Some e → (x : B) × (slice_get (slice_set room n b) q ≡ Some x) × S q e x
written S xs [] n b low h s q e below got = absurd (omega (arith, low))
written S [] (r ∷ room) n b low h s q e below got = absurd cc
written S (x ∷ xs) (r ∷ room) zero b low h s zero e below got = (b, refl, s e got)
written S (x ∷ xs) (r ∷ room) zero b low h s (suc q) e below got = absurd (omega (arith, below))
written S (x ∷ xs) (r ∷ room) (suc n) b low h s zero e below got = h zero e (omega arith) got
written S (x ∷ xs) (r ∷ room) (suc n) b low h s (suc q) e below got =
    written (λ i. S (suc i)) xs room n b (omega (arith, low)) (λ i f l g. h (suc i) f (omega (arith, l)) g) (λ f g. s f g) q e (omega (arith, below)) got

-- the item at a place from which on the two lists have the same
pub at_both : {A : Type 0} (n : ℕ) (xs ys : List A) (d : A) → n < length xs → drop n xs ≡ drop n ys → slice_get ys n ≡ Some (get_or xs n d)
at_both n [] ys d low e = absurd (omega (arith, low))
at_both zero (x ∷ xs) [] d low e = absurd cc
at_both zero (x ∷ xs) (y ∷ ys) d low e = ap Some (sym (head x y xs ys e))
at_both (suc n) (x ∷ xs) [] d low e = absurd (let many : length (drop n xs) ≡ 0 = ap length e in omega (arith, low, many, length-drop n xs))
at_both (suc n) (x ∷ xs) (y ∷ ys) d low e = at_both n xs ys d (omega (arith, low)) e

same_images : {A B C : Type 0} (f : A → C) (g : B → C) (n : ℕ) (xs : List A) (ys : List B) (x : A) (y : B) (rest : List B) → n < length xs → drop n ys ≡ y ∷ rest → f x ≡ g y
    → take n (map f xs) ≡ take n (map g ys) → take (suc n) (map f (slice_set xs n x)) ≡ take (suc n) (map g ys)
same_images f g n [] ys x y rest low at e before = absurd (omega (arith, low))
same_images f g zero (z ∷ xs) [] x y rest low at e before = absurd cc
same_images f g (suc n) (z ∷ xs) [] x y rest low at e before = absurd cc
same_images f g zero (z ∷ xs) (w ∷ ys) x y rest low at e before = ap (λ c. c ∷ []) (e ∙ ap g (sym (head w y ys rest at)))
same_images f g (suc n) (z ∷ xs) (w ∷ ys) x y rest low at e before =
    both (f z) (g w) _ _ (head (f z) (g w) _ _ before) (same_images f g n xs ys x y rest (omega (arith, low)) at e (tail (f z) (g w) _ _ before))

-- one more item of a list has the image that the other list has at its place
pub alike : {A B C : Type 0} (f : A → C) (g : B → C) (n : ℕ) (xs : List A) (ys : List B) (x : A) (y : B) (rest : List B) → n < length xs → drop n ys ≡ y ∷ rest → f x ≡ g y
    → take n (map f xs) ≡ take n (map g ys) → take (n + 1) (map f (slice_set xs n x)) ≡ take (n + 1) (map g ys)
alike f g n xs ys x y rest low at e before =
    let more : suc n ≡ n + 1 = omega arith in subst (λ m. take m (map f (slice_set xs n x)) ≡ take m (map g ys)) more (same_images f g n xs ys x y rest low at e before)

-- where one item is exchanged for another with the same image, the images stay
pub same_image : {A B : Type 0} (f : A → B) (n : ℕ) (xs : List A) (x d : A) → n < length xs → f x ≡ f (get_or xs n d) → map f (slice_set xs n x) ≡ map f xs
same_image f n [] x d low e = absurd (omega (arith, low))
same_image f zero (z ∷ xs) x d low e = ap (λ y. y ∷ map f xs) e
same_image f (suc n) (z ∷ xs) x d low e = ap (λ ys. f z ∷ ys) (same_image f n xs x d (omega (arith, low)) e)
