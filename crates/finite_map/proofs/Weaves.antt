-- The weave of legal calls into their front is a legal history.
use Rattle.finite_map.proofs.Common.{◌≡◌, ◌≢◌, ℕ, zero, suc, ◌+◌, ◌<◌, ◌≤◌, List, [], ◌∷◌, ◌++◌, length, take, Bool, true, false, cond, not, ◌&&◌, eqb, Some, refl, sym, ap, subst, ◌∙◌, arith, append_assoc, append-nil, length-append, All, filter, slice_get, eqb-true, ne_eqb, and_parts, not-true, cond_both, cond-true, All-nil, All-cons, All-head, All-tail, All-append, All-weaker, filter-append, length-filter, IsPermutation, take-append_seam}
use Rattle.std.proofs.lemmas.List.Sorted.{All-permutation, sum_by-IsPermutation}
use Rattle.finite_map.specs.declared.Change.{Change}
use Rattle.finite_map.specs.declared.Note.{Note}
use Rattle.finite_map.specs.Maps.{Map, reply_of}
use Rattle.finite_map.specs.Fronts.{changed, map_of}
use Rattle.finite_map.specs.Calls.{is_change, place_after, StandsIn, RisesFrom, LegalCalls}
use Rattle.finite_map.specs.Weaves.{Event, quiet_at, changing_at, calls_of, made_by, weave_from, weave, LegalHistoryFrom, LegalHistory, notes_of, AllLegal}
use Rattle.finite_map.proofs.Fronts.{map_of-push}
use Rattle.finite_map.proofs.Calls.{map_after-quiet, makes_change, change_of-change, pass-change_of, same_value}

-- the note stands in the front as one of some pass
abbrev Stands : List Change → Note → Type 0
Stands front n = (q : ℕ) × StandsIn front q n

-- the reply at a place
reply_at : (done rest : List Change) (n : Note) → Stands (done ++ rest) n → n.place ≡ length done → n.reply ≡ reply_of (map_of done) n.call
reply_at done rest n s at = s.1.reply ∙ ap (λ (cs : List Change). reply_of (map_of cs) n.call) (ap (λ k. take k (done ++ rest)) at ∙ take-append_seam done rest)

-- the calls of a place that changed nothing leave the map
quiet_answered : (done rest : List Change) (ns : List Note) (es : List Event) → All (Stands (done ++ rest)) ns →
    LegalHistoryFrom (map_of done) es → LegalHistoryFrom (map_of done) (calls_of (quiet_at (length done) ns) ++ es)
quiet_answered done rest [] es s h = h
quiet_answered done rest (n ∷ ns) es s h =
    let later = quiet_answered done rest ns es (All-tail (Stands (done ++ rest)) n ns s) h in
    by (eqb n.place (length done) && not (is_change n)) refl later
  where
    by : (b : Bool) → (eqb n.place (length done) && not (is_change n)) ≡ b → LegalHistoryFrom (map_of done) (calls_of (quiet_at (length done) ns) ++ es) →
        LegalHistoryFrom (map_of done) (calls_of (cond b (n ∷ quiet_at (length done) ns) (quiet_at (length done) ns)) ++ es)
    by false e later = later
    by true e later =
        let parts = and_parts (eqb n.place (length done)) (not (is_change n)) e in
        let reply = reply_at done rest n (All-head (Stands (done ++ rest)) n ns s) (eqb-true n.place (length done) parts.0) in
        (reply, subst (λ (m : Map). LegalHistoryFrom m (calls_of (quiet_at (length done) ns) ++ es)) (sym (map_after-quiet (map_of done) n reply (not-true (is_change n) parts.1))) later)

-- the only note that the filter leaves
passes_first : (p : Note → Bool) (P : Note → Type 0) (ns : List Note) (n : Note) (more : List Note) → All P ns → filter p ns ≡ n ∷ more → P n × (p n ≡ true)
passes_first p P [] n more h e = cc
passes_first p P (x ∷ xs) n more h e = by (p x) refl e (passes_first p P xs n more (All-tail P x xs h))
  where
    same : x ∷ filter p xs ≡ n ∷ more → x ≡ n
    same f = cc

    by : (b : Bool) → p x ≡ b → cond b (x ∷ filter p xs) (filter p xs) ≡ n ∷ more → (filter p xs ≡ n ∷ more → P n × (p n ≡ true)) → P n × (p n ≡ true)
    by true f g later = subst (λ y. P y × (p y ≡ true)) (same g) (All-head P x xs h, f)
    by false f g later = later g

-- change `length done`, as itself or as its call
change_answered : (done : List Change) (c : Change) (rest : List Change) (ns made : List Note) (es : List Event) → changing_at (length done) ns ≡ made → All (Stands (done ++ c ∷ rest)) ns →
    length made ≤ 1 → LegalHistoryFrom (changed (map_of done) c) es → LegalHistoryFrom (map_of done) (made_by c made ++ es)
change_answered done c rest ns [] es is s one h = h
change_answered done c rest ns (n ∷ []) es is s one h =
    let at = passes_first (λ x. eqb x.place (length done) && is_change x) (Stands (done ++ c ∷ rest)) ns n [] s is in
    let parts = and_parts (eqb n.place (length done)) (is_change n) at.1 in
    let place = eqb-true n.place (length done) parts.0 in
    let reply = reply_at done (c ∷ rest) n at.0 place in
    let made = change_of-change at.0.0 n parts.1 in
    let here : slice_get (done ++ c ∷ rest) n.place ≡ Some made.0 = at.0.1.change made.0 made.1 in
    let same : made.0 ≡ c = same_there done c rest n.place made.0 place here in
    let effect = makes_change (map_of done) at.0.0 n reply made.0 made.1 in
    (reply, subst (λ (m : Map). LegalHistoryFrom m es) (sym (effect.map ∙ ap (changed (map_of done)) same)) h)
  where
    same_there : (xs : List Change) (c : Change) (ys : List Change) (i : ℕ) (d : Change) → i ≡ length xs → slice_get (xs ++ c ∷ ys) i ≡ Some d → d ≡ c
    same_there [] c ys zero d e g = cc
    same_there [] c ys (suc i) d e g = absurd (omega arith)
    same_there (x ∷ xs) c ys zero d e g = absurd (omega arith)
    same_there (x ∷ xs) c ys (suc i) d e g = same_there xs c ys i d (omega arith) g
change_answered done c rest ns (n ∷ m ∷ ms) es is s one h = absurd (omega arith)

-- at most one of the notes made each change
abbrev pub OneEach : List Note → Type 0
OneEach ns = (place : ℕ) → length (changing_at place ns) ≤ 1

history_from : (done rest : List Change) (ns : List Note) → All (Stands (done ++ rest)) ns → OneEach ns → LegalHistoryFrom (map_of done) (weave_from (length done) rest ns)
history_from done [] ns s one = subst (LegalHistoryFrom (map_of done)) (append-nil (calls_of (quiet_at (length done) ns))) (quiet_answered done [] ns [] s tt)
history_from done (c ∷ cs) ns s one =
    let next : done ++ c ∷ cs ≡ (done ++ c ∷ []) ++ cs = sym (append_assoc done (c ∷ []) cs) in
    let later = history_from (done ++ c ∷ []) cs ns (subst (λ (xs : List Change). All (Stands xs) ns) next s) one in
    let count : length (done ++ c ∷ []) ≡ length done + 1 = length-append done (c ∷ []) in
    quiet_answered done (c ∷ cs) ns (made_by c (changing_at (length done) ns) ++ weave_from (length done + 1) cs ns) s
    (change_answered done c cs ns (changing_at (length done) ns) (weave_from (length done + 1) cs ns) refl s (one (length done))
    (subst (λ (m : Map). LegalHistoryFrom m (weave_from (length done + 1) cs ns)) (map_of-push done c)
    (subst (λ k. LegalHistoryFrom (map_of (done ++ c ∷ [])) (weave_from k cs ns)) count later)))

-- Each change was made by one call at most

pub none_below : (t : Note → Bool) (place low : ℕ) (ns : List Note) → RisesFrom low ns → place < low → filter (λ n. eqb n.place place && t n) ns ≡ []
none_below t place low [] r l = refl
none_below t place low (n ∷ ns) r l =
    ap (λ b. cond (b && t n) (n ∷ filter (λ x. eqb x.place place && t x) ns) (filter (λ x. eqb x.place place && t x) ns)) (ne_eqb n.place place (omega (arith, r.0)))
    ∙ none_below t place (place_after n) ns r.1 (cond_both (is_change n) (n.place + 1) n.place (λ p. place < p) (λ _. omega (arith, r.0)) (λ _. omega (arith, r.0)))

one_of_pass : (place low : ℕ) (ns : List Note) → RisesFrom low ns → length (changing_at place ns) ≤ 1
one_of_pass place low [] r = omega arith
one_of_pass place low (n ∷ ns) r = by (eqb n.place place && is_change n) refl (one_of_pass place (place_after n) ns r.1)
  where
    by : (b : Bool) → (eqb n.place place && is_change n) ≡ b → length (changing_at place ns) ≤ 1 → length (cond b (n ∷ changing_at place ns) (changing_at place ns)) ≤ 1
    by false e later = later
    by true e later =
        let parts = and_parts (eqb n.place place) (is_change n) e in
        let here : n.place ≡ place = eqb-true n.place place parts.0 in
        let next : place_after n ≡ n.place + 1 = cond-true (is_change n) (n.place + 1) n.place parts.1 in
        let none : changing_at place ns ≡ [] = none_below is_change place (place_after n) ns r.1 (omega (arith, next, here)) in
        rw none (omega arith)

-- the notes of passes with P stand in the front
all_stand : (P : ℕ → Type 0) (front : List Change) (passes : List (ℕ × List Note)) → All (λ pass. P pass.0) passes → AllLegal front passes →
    All (λ n. (q : ℕ) × P q × StandsIn front q n) (notes_of passes)
all_stand P front [] o h = All-nil (λ n. (q : ℕ) × P q × StandsIn front q n)
all_stand P front (pass ∷ passes) o h = All-append (λ n. (q : ℕ) × P q × StandsIn front q n) pass.1 (notes_of passes)
    (All-weaker (StandsIn front pass.0) (λ n. (q : ℕ) × P q × StandsIn front q n) (λ n s. (pass.0, All-head (λ r. P r.0) pass passes o, s)) pass.1 h.0.each)
    (all_stand P front passes (All-tail (λ r. P r.0) pass passes o) h.2)

-- the change at a place has the number of the pass that noted it
pass_at : (P : ℕ → Type 0) (front : List Change) (place : ℕ) (ns : List Note) (n : Note) (more : List Note) →
    All (λ n. (q : ℕ) × P q × StandsIn front q n) ns → changing_at place ns ≡ n ∷ more → (c : Change) × (slice_get front place ≡ Some c) × P c.pass
pass_at P front place ns n more h e =
    let at = passes_first (λ x. eqb x.place place && is_change x) (λ n. (q : ℕ) × P q × StandsIn front q n) ns n more h e in
    let parts = and_parts (eqb n.place place) (is_change n) at.1 in
    let q : ℕ = at.0.0 in
    let made = change_of-change q n parts.1 in
    let here : n.place ≡ place = eqb-true n.place place parts.0 in
    (made.0, subst (λ k. slice_get front k ≡ Some made.0) here (at.0.2.change made.0 made.1), subst P (sym (pass-change_of q n made.0 made.1)) at.0.1)

one_each : (front : List Change) (passes : List (ℕ × List Note)) → AllLegal front passes → OneEach (notes_of passes)
one_each front [] h place = omega arith
one_each front (pass ∷ passes) h place = subst (λ (ns : List Note). length ns ≤ 1) (sym (filter-append (λ n. eqb n.place place && is_change n) pass.1 (notes_of passes)))
    (by (changing_at place pass.1) (changing_at place (notes_of passes)) refl refl (one_of_pass place 0 pass.1 h.0.rising) (one_each front passes h.2 place))
  where
    own : All (λ n. (q : ℕ) × (q ≡ pass.0) × StandsIn front q n) pass.1
    own = All-weaker (StandsIn front pass.0) (λ n. (q : ℕ) × (q ≡ pass.0) × StandsIn front q n) (λ n s. (pass.0, refl, s)) pass.1 h.0.each

    others : All (λ n. (q : ℕ) × (q ≢ pass.0) × StandsIn front q n) (notes_of passes)
    others = all_stand (λ q. q ≢ pass.0) front passes h.1 h.2

    by : (xs ys : List Note) → changing_at place pass.1 ≡ xs → changing_at place (notes_of passes) ≡ ys → length xs ≤ 1 → length ys ≤ 1 → length (xs ++ ys) ≤ 1
    by [] ys e f a b = b
    by (x ∷ xs) [] e f a b = subst (λ (ns : List Note). length ns ≤ 1) (sym (append-nil (x ∷ xs))) a
    by (x ∷ xs) (y ∷ ys) e f a b =
        let mine = pass_at (λ q. q ≡ pass.0) front place pass.1 x xs own e in
        let theirs = pass_at (λ q. q ≢ pass.0) front place (notes_of passes) y ys others f in
        let same : mine.0 ≡ theirs.0 = same_value mine.0 theirs.0 (sym mine.1 ∙ theirs.1) in
        absurd (theirs.2 (ap (λ (c : Change). c.pass) (sym same) ∙ mine.2))

-- any passes of different numbers
pub weave-legal : (front : List Change) (passes : List (ℕ × List Note)) → AllLegal front passes → LegalHistory (weave front (notes_of passes))
weave-legal front passes h = history_from [] front (notes_of passes)
    (All-weaker (λ n. (q : ℕ) × Unit {0} × StandsIn front q n) (Stands front) (λ n s. (s.0, s.2)) (notes_of passes) (all_stand (λ _. Unit {0}) front passes (λ _ _ _. tt) h))
    (one_each front passes h)

-- two passes that share a front
pub weave-legal_two : (front : List Change) (p q : ℕ) (ns ms : List Note) → p ≢ q → LegalCalls front p ns → LegalCalls front q ms → LegalHistory (weave front (ns ++ ms))
weave-legal_two front p q ns ms ne h g = subst (λ (l : List Note). LegalHistory (weave front (ns ++ l))) (append-nil ms)
    (weave-legal front ((p, ns) ∷ (q, ms) ∷ []) (h, All-cons (λ r. r.0 ≢ p) (q, ms) [] (λ e. ne (sym e)) (All-nil (λ r. r.0 ≢ p)), (g, All-nil (λ r. r.0 ≢ q), tt)))

-- the calls listed in any order
pub weave-legal_listed : (front : List Change) (passes : List (ℕ × List Note)) (ns : List Note) → AllLegal front passes → IsPermutation (notes_of passes) ns → LegalHistory (weave front ns)
weave-legal_listed front passes ns h same = history_from [] front ns
    (All-permutation (Stands front) (notes_of passes) ns same
    (All-weaker (λ n. (q : ℕ) × Unit {0} × StandsIn front q n) (Stands front) (λ n s. (s.0, s.2)) (notes_of passes) (all_stand (λ _. Unit {0}) front passes (λ _ _ _. tt) h)))
    (λ place.
    let here : Note → Bool = λ n. eqb n.place place && is_change n in
    let count : length (filter here ns) ≡ length (filter here (notes_of passes)) = length-filter here ns ∙ (sum_by-IsPermutation (λ n. cond (here n) 1 0) (notes_of passes) ns same ∙ sym (length-filter here (notes_of passes))) in
    subst (λ k. k ≤ 1) (sym count) (one_each front passes h place))
