-- Where all calls are noted, each change of a front is one of them: the weave has nothing else.
use Rattle.linearizability.proofs.Common.{◌≡◌, ◌≢◌, ℕ, zero, suc, ◌+◌, ◌<◌, ◌≤◌, List, [], ◌∷◌, ◌++◌, length, Bool, true, false, cond, ◌&&◌, eqb, Some, refl, sym, ap, subst, ◌∙◌, arith, ⊎_elim, le_refl, filter, slice_get, cons_option, IsPermutation, cases_eq, cases_lt, cond_both, eq-eqb, ne_eqb, All-head, All-tail, filter-append, sum_by-IsPermutation, Change, Note, LegalCalls, RisesFrom, StandsIn, changes_of, is_change, own_changes, place_after, Event, calls_of, changing_at, made_by, notes_of, quiet_at, weave, weave_from, change_of-change, change_of-quiet, pass-change_of, same_value}
use Rattle.std.specs.List.{All}
use Rattle.std.proofs.lemmas.List.Sums.{length-filter}
use Rattle.plain_index.specs.Orders.{calls_in}
use Rattle.plain_index.proofs.Orders.{calls_here, calls_in-all}
use Rattle.linearizability.proofs.Histories.Passes.{passes_below}
use Rattle.rowex_core.proofs.Sharing.{and_false}

-- how many changes of pass q stand at this place or behind it
abbrev own_from : ℕ → ℕ → List Change → ℕ
own_from q zero cs = length (own_changes q cs)
own_from q (suc j) [] = 0
own_from q (suc j) (c ∷ cs) = own_from q j cs

own_less : (q j : ℕ) (cs : List Change) → own_from q (suc j) cs ≤ own_from q j cs
own_less q zero [] = le_refl 0
own_less q zero (c ∷ cs) = cond_both (eqb c.pass q) (c ∷ own_changes q cs) (own_changes q cs) (λ l. length (own_changes q cs) ≤ length l) (λ e. omega arith) (λ e. omega arith)
own_less q (suc j) [] = le_refl 0
own_less q (suc j) (c ∷ cs) = own_less q j cs

own_down : (q j k : ℕ) (cs : List Change) → j ≤ k → own_from q k cs ≤ own_from q j cs
own_down q j zero cs low = subst (λ i. own_from q 0 cs ≤ own_from q i cs) (let e : 0 ≡ j = omega arith in e) (le_refl (own_from q 0 cs))
own_down q j (suc k) cs low = ⊎_elim (λ e. subst (λ i. own_from q (suc k) cs ≤ own_from q i cs) (sym e) (le_refl (own_from q (suc k) cs)))
    (λ ne. let one = own_less q k cs in let more = own_down q j k cs (omega arith) in omega (arith, one, more)) (cases_eq j (suc k))

own_here : (q i : ℕ) (cs : List Change) (c : Change) → slice_get cs i ≡ Some c → c.pass ≡ q → own_from q i cs ≡ suc (own_from q (suc i) cs)
own_here q i [] c h e = cc
own_here q zero (x ∷ cs) c h e =
    let is : x ≡ c = same_value x c h in
    ap (λ b. length (cond b (x ∷ own_changes q cs) (own_changes q cs))) (eq-eqb x.pass q (ap (λ (z : Change). z.pass) is ∙ e))
own_here q (suc i) (x ∷ cs) c h e = own_here q i cs c h e

module _ (q : ℕ) (front : List Change) where
  -- a note that tells of a change stands at a change of the pass
  at_own : (n : Note) → StandsIn front q n → is_change n ≡ true → own_from q n.place front ≡ suc (own_from q (suc n.place) front)
  at_own n stands is = let made = change_of-change q n is in own_here q n.place front made.0 (stands.change made.0 made.1) (pass-change_of q n made.0 made.1)

  listed : (n : Note) (ns : List Note) → is_change n ≡ true → length (changes_of q (n ∷ ns)) ≡ suc (length (changes_of q ns))
  listed n ns is = ap (λ o. length (cons_option o (changes_of q ns))) (change_of-change q n is).1

  unlisted : (n : Note) (ns : List Note) → is_change n ≡ false → length (changes_of q (n ∷ ns)) ≡ length (changes_of q ns)
  unlisted n ns is = ap (λ o. length (cons_option o (changes_of q ns))) (change_of-quiet q n is)

  next_place : (n : Note) (b : Bool) → is_change n ≡ b → place_after n ≡ cond b (n.place + 1) n.place
  next_place n b e = ap (λ b. cond b (n.place + 1) n.place) e

  -- the notes tell of no more changes than there are
  most : (low : ℕ) (ns : List Note) → RisesFrom low ns → All (StandsIn front q) ns → length (changes_of q ns) ≤ own_from q low front
  most low [] r e = omega arith
  most low (n ∷ ns) r e = by (is_change n) refl (All-head (StandsIn front q) n ns e) (most (place_after n) ns r.1 (All-tail (StandsIn front q) n ns e))
    where
      by : (b : Bool) → is_change n ≡ b → StandsIn front q n → length (changes_of q ns) ≤ own_from q (place_after n) front → length (changes_of q (n ∷ ns)) ≤ own_from q low front
      by true is stands more =
          let at : place_after n ≡ suc n.place = next_place n true is ∙ (let e : n.place + 1 ≡ suc n.place = omega arith in e) in
          let upto : length (changes_of q ns) ≤ own_from q (suc n.place) front = subst (λ k. length (changes_of q ns) ≤ own_from q k front) at more in
          let here = at_own n stands is in
          let down = own_down q low n.place front r.0 in
          let count = listed n ns is in
          omega (arith, upto, here, down, count)
      by false is stands more =
          let upto : length (changes_of q ns) ≤ own_from q n.place front = subst (λ k. length (changes_of q ns) ≤ own_from q k front) (next_place n false is) more in
          let down = own_down q low n.place front r.0 in
          let count = unlisted n ns is in
          omega (arith, upto, down, count)

  module _ (i : ℕ) (c : Change) (is_at : slice_get front i ≡ Some c) (is_own : c.pass ≡ q) where
    here_own : own_from q i front ≡ suc (own_from q (suc i) front)
    here_own = own_here q i front c is_at is_own

    -- if they tell of all changes, then of the one at this place
    hit : (low : ℕ) (ns : List Note) → RisesFrom low ns → All (StandsIn front q) ns → low ≤ i → own_from q low front ≤ length (changes_of q ns) → changing_at i ns ≢ []
    hit low [] r e below all = let down = own_down q low i front below in absurd (omega (arith, here_own, down, all))
    hit low (n ∷ ns) r e below all = by (is_change n) refl (All-head (StandsIn front q) n ns e) (All-tail (StandsIn front q) n ns e) (λ low r e below all. hit low ns r e below all)
      where
        skip : (b : Bool) → (eqb n.place i && is_change n) ≡ b → b ≡ false → changing_at i ns ≢ [] → changing_at i (n ∷ ns) ≢ []
        skip b e f more = subst (λ z. cond z (n ∷ changing_at i ns) (changing_at i ns) ≢ []) (sym (e ∙ f)) more

        Later : Type 0
        Later = (low : ℕ) → RisesFrom low ns → All (StandsIn front q) ns → low ≤ i → own_from q low front ≤ length (changes_of q ns) → changing_at i ns ≢ []

        by : (b : Bool) → is_change n ≡ b → StandsIn front q n → All (StandsIn front q) ns → Later → changing_at i (n ∷ ns) ≢ []
        by true is stands others later =
            let at : place_after n ≡ suc n.place = next_place n true is ∙ (let e : n.place + 1 ≡ suc n.place = omega arith in e) in
            let rises : RisesFrom (suc n.place) ns = subst (λ k. RisesFrom k ns) at r.1 in
            let upto = most (suc n.place) ns rises others in
            let own = at_own n stands is in
            let count = listed n ns is in
            ⊎_elim
            (λ same. subst (λ z. cond z (n ∷ changing_at i ns) (changing_at i ns) ≢ []) (sym (ap (λ z. z && is_change n) (eq-eqb n.place i same) ∙ is)) (λ no. cc))
            (λ ne. ⊎_elim
            (λ less. let down = own_down q low n.place front r.0 in
            skip (eqb n.place i && is_change n) refl (ap (λ z. z && is_change n) (ne_eqb n.place i ne)) (later (suc n.place) rises others (omega arith) (omega (arith, own, count, down, all))))
            (λ more. let down = own_down q low i front below in let between = own_down q (suc i) n.place front (omega arith) in absurd (omega (arith, here_own, down, between, own, count, all, upto)))
            (cases_lt n.place i)) (cases_eq n.place i)
        by false is stands others later =
            let rises : RisesFrom n.place ns = subst (λ k. RisesFrom k ns) (next_place n false is) r.1 in
            let upto = most n.place ns rises others in
            let count = unlisted n ns is in
            ⊎_elim
            (λ less. let down = own_down q low i front below in let between = own_down q (suc i) n.place front (omega arith) in absurd (omega (arith, here_own, down, between, count, all, upto)))
            (λ more. let down = own_down q low n.place front r.0 in
            skip (eqb n.place i && is_change n) refl (ap (λ z. eqb n.place i && z) is ∙ and_false (eqb n.place i)) (later n.place rises others more (omega (arith, down, count, all))))
            (cases_lt i n.place)

pub hit_calls : (q : ℕ) (front : List Change) (ns : List Note) → LegalCalls front q ns → (i : ℕ) (c : Change) → slice_get front i ≡ Some c → c.pass ≡ q → changing_at i ns ≢ []
hit_calls q front ns h i c is own = hit q front i c is own 0 ns h.rising h.each (omega arith) (let e : length (own_changes q front) ≡ length (changes_of q ns) = ap length h.own in omega (arith, e))

-- Of all passes

neither : (xs ys : List Note) → xs ++ ys ≡ [] → (xs ≡ []) × (ys ≡ [])
neither [] ys e = (refl, e)
neither (x ∷ xs) ys e = cc

one_of : (notes : ℕ → List Note) (i n q : ℕ) → q < n → changing_at i (notes_of (passes_below notes n)) ≡ [] → changing_at i (notes q) ≡ []
one_of notes i zero q low e = absurd (omega arith)
one_of notes i (suc n) q low e =
    let parts = neither (changing_at i (notes n)) (changing_at i (notes_of (passes_below notes n))) (sym (filter-append (λ x. eqb x.place i && is_change x) (notes n) (notes_of (passes_below notes n))) ∙ e) in
    ⊎_elim (λ same. subst (λ k. changing_at i (notes k) ≡ []) (sym same) parts.0) (λ ne. one_of notes i n q (omega arith) parts.1) (cases_eq q n)

empty : (xs : List Note) → length xs ≡ 0 → xs ≡ []
empty [] e = refl
empty (x ∷ xs) e = absurd (omega arith)

-- in another order
none_either : (i : ℕ) (ns ms : List Note) → IsPermutation ns ms → changing_at i ms ≡ [] → changing_at i ns ≡ []
none_either i ns ms same none =
    let here : Note → Bool = λ n. eqb n.place i && is_change n in
    let count : length (filter here ms) ≡ length (filter here ns) = length-filter here ms ∙ (sum_by-IsPermutation (λ n. cond (here n) 1 0) ns ms same ∙ sym (length-filter here ns)) in
    empty (changing_at i ns) (sym count ∙ ap length none)

within : (xs : List Change) (i : ℕ) → i < length xs → (c : Change) × (slice_get xs i ≡ Some c)
within [] i low = absurd (omega arith)
within (x ∷ xs) zero low = (x, refl)
within (x ∷ xs) (suc i) low = within xs i (omega arith)

made_by_call : (c : Change) (ns : List Note) → ns ≢ [] → calls_of ns ≡ made_by c ns
made_by_call c [] ne = absurd (ne refl)
made_by_call c (n ∷ ns) ne = refl

-- a weave in which each change is a call's is one of calls alone
calls_alone : (place : ℕ) (cs : List Change) (ns : List Note) → ((i : ℕ) → place ≤ i → i < place + length cs → changing_at i ns ≢ []) → calls_in (weave_from place cs ns) ≡ weave_from place cs ns
calls_alone place [] ns h = calls_in-all (quiet_at place ns)
calls_alone place (c ∷ cs) ns h =
    calls_here place c cs ns
    ∙ ap (λ (z : List Event). calls_of (quiet_at place ns) ++ (calls_of (changing_at place ns) ++ z)) (calls_alone (place + 1) cs ns (λ i low high. h i (omega arith) (omega arith)))
    ∙ ap (λ (z : List Event). calls_of (quiet_at place ns) ++ (z ++ weave_from (place + 1) cs ns)) (made_by_call c (changing_at place ns) (h place (le_refl place) (omega arith)))

pub all_calls : (front : List Change) (n : ℕ) (notes : ℕ → List Note) (ns : List Note) → All (λ (c : Change). c.pass < n) front → ((q : ℕ) → q < n → LegalCalls front q (notes q)) →
    IsPermutation (notes_of (passes_below notes n)) ns → calls_in (weave front ns) ≡ weave front ns
all_calls front n notes ns below legal same = calls_alone 0 front ns (λ i low high none.
    let at = within front i (omega (arith, high)) in
    let q : ℕ = at.0.pass in
    let under : q < n = in_front front i at.0 at.1 below in
    hit_calls q front (notes q) (legal q under) i at.0 at.1 refl (one_of notes i n q under (none_either i (notes_of (passes_below notes n)) ns same none)))
  where
    in_front : (xs : List Change) (i : ℕ) (c : Change) → slice_get xs i ≡ Some c → All (λ (c : Change). c.pass < n) xs → c.pass < n
    in_front [] i c e h = cc
    in_front (x ∷ xs) zero c e h = subst (λ (z : Change). z.pass < n) (same_value x c e) (All-head (λ (c : Change). c.pass < n) x xs h)
    in_front (x ∷ xs) (suc i) c e h = in_front xs i c e (All-tail (λ (c : Change). c.pass < n) x xs h)
