-- The weave of calls that are listed in the order of time has them in this order.
use Rattle.plain_index.proofs.Common.{◌≡◌, ◌≢◌, ℕ, suc, ◌+◌, ◌<◌, ◌≤◌, List, [], ◌∷◌, ◌++◌, length, get_or, filter, Bool, true, false, cond, not, ◌&&◌, nat_eq, refl, sym, ap, subst, ◌∙◌, arith, ⊎_elim, AllPairs, IsPermutation, cases_eq, eq-eqb, eqb-true, ne_eqb, and_parts, cond-true, cond-false, All-append, All-cons, All-contains_itself, All-filter, All-head, All-nil, All-tail, All-weaker, filter_passes, Change, Note, is_change, place_after, StandsIn, Event, answered, quiet_at, changing_at, calls_of, weave_from, AllLegal, notes_of, place_after-within, weave-legal_listed}
use Rattle.std.specs.Prelude.{All, Contains}
use Rattle.std.proofs.lemmas.List.Kept.{AllPairs-cons, AllPairs-filter}
use Rattle.std.proofs.lemmas.List.Sorted.{All-permutation, IsPermutation-append_right, IsPermutation-cons, IsPermutation-middle, IsPermutation-refl, IsPermutation-sym, IsPermutation-trans}
use Rattle.plain_index.specs.Orders.{calls_in}
use Rattle.plain_index.specs.Statements.{WeavePutsReturnedFirst}
use Rattle.plain_index.specs.Times.{FitsPlaces, IsInTime, noted}
use Rattle.plain_index.proofs.Orders.{calls_here, calls_in-all}

abbrev Labelled : Type 0
Labelled = ℕ × Note

-- The calls by their places, as the weave has them

abbrev quiet : ℕ → Note → Bool
quiet place n = nat_eq n.place place && not (is_change n)

abbrev changing : ℕ → Note → Bool
changing place n = nat_eq n.place place && is_change n

abbrev quiets : ℕ → List Labelled → List Labelled
quiets place l = filter (λ x. quiet place x.1) l

abbrev changes : ℕ → List Labelled → List Labelled
changes place l = filter (λ x. changing place x.1) l

abbrev by_place : ℕ → List Change → List Labelled → List Labelled
by_place place [] l = quiets place l
by_place place (c ∷ cs) l = quiets place l ++ (changes place l ++ by_place (place + 1) cs l)

-- Their notes are those of the weave

chosen : (b : Bool) (x : Labelled) (l : List Labelled) (ns : List Note) → noted l ≡ ns → noted (cond b (x ∷ l) l) ≡ cond b (x.1 ∷ ns) ns
chosen true x l ns e = ap (λ z. x.1 ∷ z) e
chosen false x l ns e = e

noted-filter : (t : Note → Bool) (l : List Labelled) → noted (filter (λ x. t x.1) l) ≡ filter t (noted l)
noted-filter t [] = refl
noted-filter t (x ∷ l) = chosen (t x.1) x (filter (λ x. t x.1) l) (filter t (noted l)) (noted-filter t l)

calls-append : (k l : List Labelled) → calls_of (noted (k ++ l)) ≡ calls_of (noted k) ++ calls_of (noted l)
calls-append [] l = refl
calls-append (x ∷ k) l = ap (λ (z : List Event). answered x.1.call x.1.reply ∷ z) (calls-append k l)

calls_by_place : (place : ℕ) (cs : List Change) (l : List Labelled) → calls_in (weave_from place cs (noted l)) ≡ calls_of (noted (by_place place cs l))
calls_by_place place [] l = calls_in-all (quiet_at place (noted l)) ∙ ap calls_of (sym (noted-filter (quiet place) l))
calls_by_place place (c ∷ cs) l =
    calls_here place c cs (noted l)
    ∙ ap (λ (z : List Event). calls_of (quiet_at place (noted l)) ++ (calls_of (changing_at place (noted l)) ++ z)) (calls_by_place (place + 1) cs l)
    ∙ ap (λ (z : List Note). calls_of z ++ (calls_of (changing_at place (noted l)) ++ calls_of (noted (by_place (place + 1) cs l)))) (sym (noted-filter (quiet place) l))
    ∙ ap (λ (z : List Note). calls_of (noted (quiets place l)) ++ (calls_of z ++ calls_of (noted (by_place (place + 1) cs l)))) (sym (noted-filter (changing place) l))
    ∙ ap (λ (z : List Event). calls_of (noted (quiets place l)) ++ z) (sym (calls-append (changes place l) (by_place (place + 1) cs l)))
    ∙ sym (calls-append (quiets place l) (changes place l ++ by_place (place + 1) cs l))

-- They are the calls of the list

none_by_place : (place : ℕ) (cs : List Change) → by_place place cs [] ≡ []
none_by_place place [] = refl
none_by_place place (c ∷ cs) = none_by_place (place + 1) cs

quiets-other : (place : ℕ) (x : Labelled) (l : List Labelled) → x.1.place ≢ place → quiets place (x ∷ l) ≡ quiets place l
quiets-other place x l ne = ap (λ b. cond (b && not (is_change x.1)) (x ∷ quiets place l) (quiets place l)) (ne_eqb x.1.place place ne)

changes-other : (place : ℕ) (x : Labelled) (l : List Labelled) → x.1.place ≢ place → changes place (x ∷ l) ≡ changes place l
changes-other place x l ne = ap (λ b. cond (b && is_change x.1) (x ∷ changes place l) (changes place l)) (ne_eqb x.1.place place ne)

quiets-here : (place : ℕ) (x : Labelled) (l : List Labelled) (b : Bool) → x.1.place ≡ place → is_change x.1 ≡ b → quiets place (x ∷ l) ≡ cond (not b) (x ∷ quiets place l) (quiets place l)
quiets-here place x l b h e =
    ap (λ z. cond (z && not (is_change x.1)) (x ∷ quiets place l) (quiets place l)) (eq-eqb x.1.place place h) ∙ ap (λ z. cond (not z) (x ∷ quiets place l) (quiets place l)) e

changes-here : (place : ℕ) (x : Labelled) (l : List Labelled) (b : Bool) → x.1.place ≡ place → is_change x.1 ≡ b → changes place (x ∷ l) ≡ cond b (x ∷ changes place l) (changes place l)
changes-here place x l b h e =
    ap (λ z. cond (z && is_change x.1) (x ∷ changes place l) (changes place l)) (eq-eqb x.1.place place h) ∙ ap (λ z. cond z (x ∷ changes place l) (changes place l)) e

-- a call of an earlier place is not among them
earlier_out : (place : ℕ) (cs : List Change) (x : Labelled) (l : List Labelled) → x.1.place < place → by_place place cs (x ∷ l) ≡ by_place place cs l
earlier_out place [] x l low = quiets-other place x l (λ e. omega arith)
earlier_out place (c ∷ cs) x l low =
    let ne : x.1.place ≢ place = λ e. omega arith in
    ap (λ z. z ++ (changes place (x ∷ l) ++ by_place (place + 1) cs (x ∷ l))) (quiets-other place x l ne)
    ∙ ap (λ z. quiets place l ++ (z ++ by_place (place + 1) cs (x ∷ l))) (changes-other place x l ne)
    ∙ ap (λ z. quiets place l ++ (changes place l ++ z)) (earlier_out (place + 1) cs x l (omega arith))

-- any other is there once more
one_more : (place : ℕ) (cs : List Change) (x : Labelled) (l : List Labelled) → place ≤ x.1.place → place_after x.1 ≤ place + length cs → IsPermutation (x ∷ by_place place cs l) (by_place place cs (x ∷ l))
one_more place [] x l low high = by (is_change x.1) refl
  where
    by : (b : Bool) → is_change x.1 ≡ b → IsPermutation (x ∷ quiets place l) (quiets place (x ∷ l))
    by true e = let next : place_after x.1 ≡ x.1.place + 1 = cond-true (is_change x.1) (x.1.place + 1) x.1.place e in absurd (omega (arith, low, high, next))
    by false e =
        let next : place_after x.1 ≡ x.1.place = cond-false (is_change x.1) (x.1.place + 1) x.1.place e in
        let here : x.1.place ≡ place = omega (arith, low, high, next) in
        subst (IsPermutation (x ∷ quiets place l)) (sym (quiets-here place x l false here e)) (IsPermutation-refl (x ∷ quiets place l))
one_more place (c ∷ cs) x l low high = ⊎_elim here (λ ne. later ne (one_more (place + 1) cs x l (omega arith) (omega arith))) (cases_eq x.1.place place)
  where
    rest : List Labelled
    rest = by_place (place + 1) cs l

    by : (b : Bool) → is_change x.1 ≡ b → x.1.place ≡ place → IsPermutation (x ∷ (quiets place l ++ (changes place l ++ rest))) (by_place place (c ∷ cs) (x ∷ l))
    by true e at = subst (IsPermutation (x ∷ (quiets place l ++ (changes place l ++ rest))))
        (sym (ap (λ z. z ++ (changes place (x ∷ l) ++ by_place (place + 1) cs (x ∷ l))) (quiets-here place x l true at e)
        ∙ ap (λ z. quiets place l ++ (z ++ by_place (place + 1) cs (x ∷ l))) (changes-here place x l true at e)
        ∙ ap (λ z. quiets place l ++ ((x ∷ changes place l) ++ z)) (earlier_out (place + 1) cs x l (omega arith))))
        (IsPermutation-sym _ _ (IsPermutation-middle (quiets place l) x (changes place l ++ rest)))
    by false e at = subst (IsPermutation (x ∷ (quiets place l ++ (changes place l ++ rest))))
        (sym (ap (λ z. z ++ (changes place (x ∷ l) ++ by_place (place + 1) cs (x ∷ l))) (quiets-here place x l false at e)
        ∙ ap (λ z. (x ∷ quiets place l) ++ (z ++ by_place (place + 1) cs (x ∷ l))) (changes-here place x l false at e)
        ∙ ap (λ z. (x ∷ quiets place l) ++ (changes place l ++ z)) (earlier_out (place + 1) cs x l (omega arith))))
        (IsPermutation-refl (x ∷ (quiets place l ++ (changes place l ++ rest))))

    here : x.1.place ≡ place → IsPermutation (x ∷ by_place place (c ∷ cs) l) (by_place place (c ∷ cs) (x ∷ l))
    here at = by (is_change x.1) refl at

    later : x.1.place ≢ place → IsPermutation (x ∷ rest) (by_place (place + 1) cs (x ∷ l)) → IsPermutation (x ∷ by_place place (c ∷ cs) l) (by_place place (c ∷ cs) (x ∷ l))
    later ne more =
        let inner = IsPermutation-trans _ _ _ (IsPermutation-sym _ _ (IsPermutation-middle (changes place l) x rest)) (IsPermutation-append_right (changes place l) _ _ more) in
        subst (IsPermutation (x ∷ (quiets place l ++ (changes place l ++ rest))))
        (sym (ap (λ z. z ++ (changes place (x ∷ l) ++ by_place (place + 1) cs (x ∷ l))) (quiets-other place x l ne)
        ∙ ap (λ z. quiets place l ++ (z ++ by_place (place + 1) cs (x ∷ l))) (changes-other place x l ne)))
        (IsPermutation-trans _ _ _ (IsPermutation-sym _ _ (IsPermutation-middle (quiets place l) x (changes place l ++ rest))) (IsPermutation-append_right (quiets place l) _ _ inner))

all_by_place : (place : ℕ) (cs : List Change) (l : List Labelled) → All (λ x. place ≤ x.1.place) l → All (λ x. place_after x.1 ≤ place + length cs) l → IsPermutation l (by_place place cs l)
all_by_place place cs [] low high = subst (IsPermutation []) (sym (none_by_place place cs)) (IsPermutation-refl [])
all_by_place place cs (x ∷ l) low high = IsPermutation-trans _ _ _
    (IsPermutation-cons x l (by_place place cs l) (all_by_place place cs l (All-tail (λ x. place ≤ x.1.place) x l low) (All-tail (λ x. place_after x.1 ≤ place + length cs) x l high)))
    (one_more place cs x l (All-head (λ x. place ≤ x.1.place) x l low) (All-head (λ x. place_after x.1 ≤ place + length cs) x l high))

-- No call stands before one that had returned

pairs_append : (R : Labelled → Labelled → Type 0) (xs ys : List Labelled) → AllPairs R xs → AllPairs R ys → All (λ x. All (R x) ys) xs → AllPairs R (xs ++ ys)
pairs_append R [] ys a b c = b
pairs_append R (x ∷ xs) ys a b c = AllPairs-cons R x (xs ++ ys)
    (All-append (R x) xs ys (λ j d within. a 0 (suc j) d (omega arith) (omega arith)) (All-head (λ x. All (R x) ys) x xs c))
    (pairs_append R xs ys (λ i j d lt within. a (suc i) (suc j) d (omega arith) (omega arith)) b (All-tail (λ x. All (R x) ys) x xs c))

across : (R : Labelled → Labelled → Type 0) (P Q : Labelled → Type 0) (xs ys : List Labelled) → All P xs → All Q ys → ((x y : Labelled) → P x → Q y → R x y) → All (λ x. All (R x) ys) xs
across R P Q xs ys h g f k d lt j e within = f _ _ (h k d lt) (g j e within)

across_both : (R : Labelled → Labelled → Type 0) (xs ys zs : List Labelled) → All (λ x. All (R x) ys) xs → All (λ x. All (R x) zs) xs → All (λ x. All (R x) (ys ++ zs)) xs
across_both R xs ys zs h g k d within = All-append (R (get_or xs k d)) ys zs (h k d within) (g k d within)

module _ (before : ℕ → ℕ → Bool) (whole : List Labelled) (fits : FitsPlaces before whole) where
  abbrev Apart : Labelled → Labelled → Type 0
  Apart x y = before y.0 x.0 ≡ false

  -- of the list, at this place or later
  abbrev From : ℕ → Labelled → Type 0
  From place x = Contains whole x × (place ≤ x.1.place)

  -- and at this place just so
  abbrev Quiet : ℕ → Labelled → Type 0
  Quiet place x = Contains whole x × (x.1.place ≡ place)

  abbrev Changed : ℕ → Labelled → Type 0
  Changed place x = Contains whole x × (x.1.place ≡ place) × (is_change x.1 ≡ true)

  are_quiet : (place : ℕ) → All (Quiet place) (quiets place whole)
  are_quiet place k d within = (
    All-filter (λ x. quiet place x.1) (Contains whole) whole (All-contains_itself whole) k d within,
    eqb-true _ place (and_parts _ _ (filter_passes (λ x. quiet place x.1) whole k d within)).0,
  )

  are_changed : (place : ℕ) → All (Changed place) (changes place whole)
  are_changed place k d within =
      let parts = and_parts _ _ (filter_passes (λ x. changing place x.1) whole k d within) in
      (All-filter (λ x. changing place x.1) (Contains whole) whole (All-contains_itself whole) k d within, eqb-true _ place parts.0, parts.1)

  are_from : (place : ℕ) (cs : List Change) → All (From place) (by_place place cs whole)
  are_from place [] = All-weaker (Quiet place) (From place) (λ x h. (h.0, (let e = h.1 in omega arith))) (quiets place whole) (are_quiet place)
  are_from place (c ∷ cs) = All-append (From place) (quiets place whole) _ (All-weaker (Quiet place) (From place) (λ x h. (h.0, (let e = h.1 in omega arith))) (quiets place whole) (are_quiet place))
      (All-append (From place) (changes place whole) (by_place (place + 1) cs whole) (All-weaker (Changed place) (From place) (λ x h. (h.0, (let e = h.1 in omega arith))) (changes place whole) (are_changed place))
      (All-weaker (From (place + 1)) (From place) (λ x h. (h.0, (let e = h.1 in omega arith))) (by_place (place + 1) cs whole) (are_from (place + 1) cs)))

  after_least : (n : Note) → n.place ≤ place_after n
  after_least n = by (is_change n) refl
    where
      by : (b : Bool) → is_change n ≡ b → n.place ≤ place_after n
      by true e = let next : place_after n ≡ n.place + 1 = cond-true (is_change n) (n.place + 1) n.place e in omega arith
      by false e = let next : place_after n ≡ n.place = cond-false (is_change n) (n.place + 1) n.place e in omega arith

  -- one that had not returned
  apart : (x y : Labelled) → Contains whole x → Contains whole y → x.1.place < place_after y.1 → Apart x y
  apart x y hx hy late = by (before y.0 x.0) refl
    where
      by : (b : Bool) → before y.0 x.0 ≡ b → Apart x y
      by true e = let f = fits y x hy hx e in absurd (omega (arith, late, f))
      by false e = e

  place_apart : (place : ℕ) (x y : Labelled) → Contains whole x → x.1.place ≡ place → From (place + 1) y → Apart x y
  place_apart place x y hx at hy = apart x y hx hy.0 (let low = hy.1 in let least = after_least y.1 in omega (arith, at, low, least))

  change_apart : (place : ℕ) (x y : Labelled) → Quiet place x → Changed place y → Apart x y
  change_apart place x y hx hy =
      let next : place_after y.1 ≡ y.1.place + 1 = cond-true (is_change y.1) (y.1.place + 1) y.1.place hy.2 in apart x y hx.0 hy.0 (let a = hx.1 in let b = hy.1 in omega (arith, next, a, b))

  stay_in_time : IsInTime before whole → (place : ℕ) (cs : List Change) → IsInTime before (by_place place cs whole)
  stay_in_time h place [] = AllPairs-filter Apart (λ x. quiet place x.1) whole h
  stay_in_time h place (c ∷ cs) =
      let rest = by_place (place + 1) cs whole in
      pairs_append Apart (quiets place whole) (changes place whole ++ rest) (AllPairs-filter Apart (λ x. quiet place x.1) whole h)
      (pairs_append Apart (changes place whole) rest (AllPairs-filter Apart (λ x. changing place x.1) whole h) (stay_in_time h (place + 1) cs)
      (across Apart (Changed place) (From (place + 1)) (changes place whole) rest (are_changed place) (are_from (place + 1) cs) (λ x y p q. place_apart place x y p.0 p.1 q)))
      (across_both Apart (quiets place whole) (changes place whole) rest
      (across Apart (Quiet place) (Changed place) (quiets place whole) (changes place whole) (are_quiet place) (are_changed place) (change_apart place))
      (across Apart (Quiet place) (From (place + 1)) (quiets place whole) rest (are_quiet place) (are_from (place + 1) cs) (λ x y p q. place_apart place x y p.0 p.1 q)))

-- the notes of passes end within the front
within_front : (front : List Change) (passes : List (ℕ × List Note)) → AllLegal front passes → All (λ n. place_after n ≤ length front) (notes_of passes)
within_front front [] h = All-nil (λ n. place_after n ≤ length front)
within_front front (pass ∷ passes) h = All-append (λ n. place_after n ≤ length front) pass.1 (notes_of passes)
    (All-weaker (StandsIn front pass.0) (λ n. place_after n ≤ length front) (λ n s. place_after-within front pass.0 n s) pass.1 h.0.each) (within_front front passes h.2)

of_notes : (P : Note → Type 0) (l : List Labelled) → All P (noted l) → All (λ x. P x.1) l
of_notes P [] h = All-nil (λ x. P x.1)
of_notes P (x ∷ l) h = All-cons (λ x. P x.1) x l (All-head P x.1 (noted l) h) (of_notes P l (All-tail P x.1 (noted l) h))

pub woven-in_time : WeavePutsReturnedFirst
woven-in_time front passes before listed legal same fits in_time =
    let high = of_notes (λ n. place_after n ≤ length front) listed (All-permutation (λ n. place_after n ≤ length front) (notes_of passes) (noted listed) same (within_front front passes legal)) in (
      weave-legal_listed front passes (noted listed) legal same,
      (by_place 0 front listed, all_by_place 0 front listed (λ k d within. omega arith) (λ k d within. let h = high k d within in omega (arith, h)), stay_in_time before listed fits in_time 0 front, calls_by_place 0 front listed),
    )
