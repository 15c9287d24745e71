-- The change between two lists of leaves is found.
use Rattle.rowex_replay_state.proofs.Common.{◌≡◌, ◌≢◌, inl, inr, ℕ, zero, suc, ◌<◌, ◌≤◌, List, [], ◌∷◌, length, get_or, drop, map, true, false, Option, Some, None, eqb, refl, ap, ap₂, sym, ◌∙◌, subst, arith, eq-eqb, ne_eqb, get_or-map, length-map, Change, Added, Replaced, Removed, Item, IsMore, added, behind, IsExchange, exchanged, past_one, item_of, IsChanged, added_change, replaced_change, removed_change, AgreeByNumber, change_between, change_at}
use Rattle.std.specs.declared.cmp.Ordering.{Ordering}
use Rattle.finite_map.specs.declared.Kind.{Kind}
use Rattle.finite_map.specs.Maps.{key_order}
use Rattle.rowex_replay_state.specs.declared.linked.Item.{Item as ReadItem}
use Rattle.rowex_replay_state.specs.Versions.{read_item}
use Rattle.rowex_replay_state.specs.Changed.{BeginApart, numbers, Changes, IsFoundChange, IsMade}
use Rattle.rowex_core.proofs.Cores.Publishing.{no_change}

-- Lists of the same numbers are the same lists
same_lists : (xs ys : List Item) → AgreeByNumber xs ys → numbers xs ≡ numbers ys → xs ≡ ys
same_lists [] [] s e = refl
same_lists [] (y ∷ ys) s e = absurd cc
same_lists (x ∷ xs) [] s e = absurd cc
same_lists (x ∷ xs) (y ∷ ys) s e =
    let h : x.number ≡ y.number = cc in
    let t : numbers xs ≡ numbers ys = cc in
    ap₂ (λ u us. u ∷ us) (s x y (inl refl) (inl refl) h) (same_lists xs ys (λ u v i j. s u v (inr i) (inr j)) t)

-- One leaf more, after a first leaf that both lists have

more_cons : (z x y : Item) (xs ys : List Item) → x ≡ y → IsMore z (x ∷ xs) (y ∷ ys) → IsMore z xs ys
more_cons z x y xs ys e added = subst (λ u. IsMore z xs (u ∷ xs)) (sym e) added
more_cons z x y xs ys e (behind m) = m

exchange_cons : (w z x y : Item) (xs ys : List Item) → x ≡ y → (xs ≡ ys → ⊥) → IsExchange w z (x ∷ xs) (y ∷ ys) → IsExchange w z xs ys
exchange_cons w z x y xs ys e n exchanged = absurd (n refl)
exchange_cons w z x y xs ys e n (past_one m) = m

changed_cons : (k : Kind) (z x : Item) (xs ys : List Item) → (xs ≡ ys → k ≡ Removed) → IsChanged k z (x ∷ xs) (x ∷ ys) → IsChanged k z xs ys
changed_cons Added z x xs ys n m = more_cons z x x xs ys refl m
changed_cons Removed z x xs ys n m = more_cons z x x ys xs refl m
changed_cons Replaced z x xs ys n m = (m.0, m.1, exchange_cons m.0 z x x xs ys refl (λ e. let i : Replaced ≡ Removed = n e in cc) m.2)

changed_behind : (k : Kind) (z x : Item) (xs ys : List Item) → IsChanged k z xs ys → IsChanged k z (x ∷ xs) (x ∷ ys)
changed_behind Added z x xs ys m = behind m
changed_behind Removed z x xs ys m = behind m
changed_behind Replaced z x xs ys m = (m.0, m.1, past_one m.2)

-- Between equal lists the change is none
same_removed : (q : ℕ) (xs ys : List Item) → xs ≡ ys → (change_between q xs ys).kind ≡ Removed
same_removed q xs ys e = subst (λ z. (change_between q xs z).kind ≡ Removed) e (no_change q xs)

-- a first leaf of the same number is passed over
passed : (q : ℕ) (x y : Item) (xs ys : List Item) → x.number ≡ y.number → change_between q (x ∷ xs) (y ∷ ys) ≡ change_between q xs ys
passed q x y xs ys e = let t : eqb x.number y.number ≡ true = eq-eqb x.number y.number e in rw t refl

found_step : (q : ℕ) (x : Item) (xs ys : List Item) (o : Option Change) → IsFoundChange q xs ys o → IsFoundChange q (x ∷ xs) (x ∷ ys) o
found_step q x xs ys None none =
    λ c. none (subst (λ z. Changes z xs ys) (passed q x x xs ys refl) (
      c.0,
      changed_cons (change_between q (x ∷ xs) (x ∷ ys)).kind (item_of c.0 (change_between q (x ∷ xs) (x ∷ ys))) x xs ys
          (λ e. ap (λ (z : Change). z.kind) (passed q x x xs ys refl) ∙ same_removed q xs ys e) c.1,
    ))
found_step q x xs ys (Some c) f = (f.0 ∙ sym (passed q x x xs ys refl), (f.1.0, changed_behind c.kind (item_of f.1.0 c) x xs ys f.1.1))

-- What is found behind a common front is found of the whole lists.
pub found_from : (q : ℕ) (xs ys : List Item) (n : ℕ) (o : Option Change) → AgreeByNumber xs ys → n ≤ length xs → n ≤ length ys →
    ((k : ℕ) → k < n → get_or (numbers xs) k 0 ≡ get_or (numbers ys) k 0) → (AgreeByNumber (drop n xs) (drop n ys) → IsFoundChange q (drop n xs) (drop n ys) o) → IsFoundChange q xs ys o
found_from q xs ys zero o s h g e f = f s
found_from q [] ys (suc n) o s h g e f = absurd (omega arith)
found_from q (x ∷ xs) [] (suc n) o s h g e f = absurd (omega arith)
found_from q (x ∷ xs) (y ∷ ys) (suc n) o s h g e f =
    let i : x ≡ y = s x y (inl refl) (inl refl) (e 0 (omega arith)) in
    subst (λ z. IsFoundChange q (x ∷ xs) (z ∷ ys) o) i
    (found_step q x xs ys o (found_from q xs ys n o (λ u v a b. s u v (inr a) (inr b)) (omega arith) (omega arith) (λ k l. e (suc k) (omega arith)) f))

-- At the first place where the lists differ

made_found : (q : ℕ) (xs ys us vs : List Item) (c : Change) (o : Option Change) → change_between q xs ys ≡ c → (numbers us ≡ numbers vs → Changes c xs ys) →
    (Changes c xs ys → numbers us ≡ numbers vs) → IsMade us vs c o → IsFoundChange q xs ys o
made_found q xs ys us vs c None e into back made = λ m. made (back (subst (λ z. Changes z xs ys) e m))
made_found q xs ys us vs c (Some d) e into back made = (made.0 ∙ sym e, subst (λ z. Changes z xs ys) (sym made.0) (into made.1))

rest_of_more : (z x : Item) (xs ys : List Item) → BeginApart (x ∷ xs) ys → IsMore z ys (x ∷ xs) → ys ≡ xs
rest_of_more z x xs ys a added = refl
rest_of_more z x xs ys a (behind m) = absurd (a refl)

rest_of_less : (z y : Item) (xs ys : List Item) → BeginApart xs (y ∷ ys) → IsMore z xs (y ∷ ys) → xs ≡ ys
rest_of_less z y xs ys a added = refl
rest_of_less z y xs ys a (behind m) = absurd (a refl)

pub removal_found : (q : ℕ) (x : Item) (xs ys : List Item) (o : Option Change) → BeginApart (x ∷ xs) ys → AgreeByNumber (x ∷ xs) ys → change_between q (x ∷ xs) ys ≡ removed_change q x →
    IsMade xs ys (removed_change q x) o → IsFoundChange q (x ∷ xs) ys o
removal_found q x xs ys o a s e made =
    made_found q (x ∷ xs) ys xs ys (removed_change q x) o e
    (λ i. (x.number, subst (λ z. IsMore x z (x ∷ xs)) (same_lists xs ys (λ u v h g. s u v (inr h) g) i) added))
    (λ m. ap numbers (sym (rest_of_more (item_of m.0 (removed_change q x)) x xs ys a m.1))) made

pub addition_found : (q : ℕ) (y : Item) (xs ys : List Item) (o : Option Change) → BeginApart xs (y ∷ ys) → AgreeByNumber xs (y ∷ ys) → change_between q xs (y ∷ ys) ≡ added_change q y →
    IsMade xs ys (added_change q y) o → IsFoundChange q xs (y ∷ ys) o
addition_found q y xs ys o a s e made =
    made_found q xs (y ∷ ys) xs ys (added_change q y) o e
    (λ i. (y.number, subst (λ z. IsMore y xs (y ∷ z)) (same_lists xs ys (λ u v h g. s u v h (inr g)) i) added))
    (λ m. ap numbers (rest_of_less (item_of m.0 (added_change q y)) y xs ys a m.1)) made

rest_of_exchange : (w z x y : Item) (xs ys : List Item) → x.number ≢ y.number → IsExchange w z (x ∷ xs) (y ∷ ys) → xs ≡ ys
rest_of_exchange w z x y xs ys a exchanged = refl
rest_of_exchange w z x y xs ys a (past_one m) = absurd (a refl)

pub exchange_found : (q : ℕ) (x y : Item) (xs ys : List Item) (o : Option Change) → x.number ≢ y.number → AgreeByNumber (x ∷ xs) (y ∷ ys) → x.key ≡ y.key →
    change_between q (x ∷ xs) (y ∷ ys) ≡ replaced_change q y → IsMade xs ys (replaced_change q y) o → IsFoundChange q (x ∷ xs) (y ∷ ys) o
exchange_found q x y xs ys o a s k e made =
    made_found q (x ∷ xs) (y ∷ ys) xs ys (replaced_change q y) o e
    (λ i. (y.number, (x, k, subst (λ z. IsExchange x y (x ∷ xs) (y ∷ z)) (same_lists xs ys (λ u v h g. s u v (inr h) (inr g)) i) exchanged)))
    (λ m. ap numbers (rest_of_exchange m.1.0 (item_of m.0 (replaced_change q y)) x y xs ys a m.1.2)) made

-- of heads of different numbers the change is by the order of their keys
pub apart_change : (q : ℕ) (x y : Item) (xs ys : List Item) (o : Ordering) → x.number ≢ y.number → key_order x.key y.key ≡ o → change_between q (x ∷ xs) (y ∷ ys) ≡ change_at q o x y
apart_change q x y xs ys o a e = let t : eqb x.number y.number ≡ false = ne_eqb x.number y.number a in rw t (ap (λ z. change_at q z x y) e)

-- Behind the common front the heads are apart.
pub apart_from : (xs ys : List Item) (n : ℕ) → n ≤ length xs → n ≤ length ys → (n < length xs → n < length ys → get_or (numbers xs) n 0 ≡ get_or (numbers ys) n 0 → ⊥) → BeginApart (drop n xs) (drop n ys)
apart_from [] [] zero h g f = tt
apart_from [] (y ∷ ys) zero h g f = tt
apart_from (x ∷ xs) [] zero h g f = tt
apart_from (x ∷ xs) (y ∷ ys) zero h g f = f (omega arith) (omega arith)
apart_from [] ys (suc n) h g f = absurd (omega arith)
apart_from (x ∷ xs) [] (suc n) h g f = absurd (omega arith)
apart_from (x ∷ xs) (y ∷ ys) (suc n) h g f = apart_from xs ys n (omega arith) (omega arith) (λ a b. f (omega arith) (omega arith))

-- Lists of leaves as they were read

number_at : (xs : List ReadItem) (i : ℕ) (x : ReadItem) → i < length xs → get_or (numbers (map read_item xs)) i 0 ≡ (get_or xs i x).number
number_at xs i x h =
    get_or-map (λ (z : Item). z.number) (map read_item xs) i (read_item x) 0 (let l = length-map xs read_item in omega arith) ∙ ap (λ (z : Item). z.number) (get_or-map read_item xs i x (read_item x) h)

pub same_number : (xs ys : List ReadItem) (i : ℕ) (x y : ReadItem) → i < length xs → i < length ys → (get_or xs i x).number ≡ (get_or ys i y).number → get_or (numbers (map read_item xs)) i 0 ≡ get_or (numbers (map read_item ys)) i 0
same_number xs ys i x y h g e = number_at xs i x h ∙ (e ∙ sym (number_at ys i y g))

pub other_number : (xs ys : List ReadItem) (i : ℕ) (x y : ReadItem) → (get_or xs i x).number ≢ (get_or ys i y).number → i < length xs → i < length ys → get_or (numbers (map read_item xs)) i 0 ≡ get_or (numbers (map read_item ys)) i 0 → ⊥
other_number xs ys i x y n h g e = n (sym (number_at xs i x h) ∙ (e ∙ number_at ys i y g))

-- what is found of lists is found of those that are the same
pub found_at : (q : ℕ) (gone come xs ys : List ReadItem) (o : Option Change) → gone ≡ xs → come ≡ ys → BeginApart (map read_item gone) (map read_item come) →
    (BeginApart (map read_item xs) (map read_item ys) → AgreeByNumber (map read_item xs) (map read_item ys) → IsFoundChange q (map read_item xs) (map read_item ys) o) →
    AgreeByNumber (map read_item gone) (map read_item come) → IsFoundChange q (map read_item gone) (map read_item come) o
found_at q gone come xs ys o e f a k =
    subst (λ u. BeginApart (map read_item u) (map read_item come) → AgreeByNumber (map read_item u) (map read_item come) → IsFoundChange q (map read_item u) (map read_item come) o) (sym e)
    (subst (λ v. BeginApart (map read_item xs) (map read_item v) → AgreeByNumber (map read_item xs) (map read_item v) → IsFoundChange q (map read_item xs) (map read_item v) o) (sym f) k) a

pub no_items : (xs : List ReadItem) → length xs ≡ 0 → xs ≡ []
no_items [] e = refl
no_items (x ∷ xs) e = absurd (omega arith)
