-- The weave of one pass's legal calls has each of them once, in the order in which they were made.
use Rattle.plain_index.proofs.Common.{◌≡◌, ◌≢◌, ℕ, ◌+◌, ◌<◌, ◌≤◌, List, [], ◌∷◌, ◌++◌, length, Bool, true, false, cond, not, ◌&&◌, refl, ap, subst, ◌∙◌, arith, ⊎_elim, All, eq-eqb, ne_eqb, cases_Bool, cases_eq, cond-true, cond-false, All-head, All-tail, All-weaker, Change, Note, is_change, place_after, StandsIn, RisesFrom, LegalCalls, answered, quiet_at, changing_at, calls_of, made_by, weave_from, weave, place_after-within, none_below}
use Rattle.plain_index.specs.Orders.{calls_in}

place_after-change : (n : Note) → is_change n ≡ true → place_after n ≡ n.place + 1
place_after-change n h = cond-true (is_change n) (n.place + 1) n.place h

place_after-quiet : (n : Note) → is_change n ≡ false → place_after n ≡ n.place
place_after-quiet n h = cond-false (is_change n) (n.place + 1) n.place h

-- the first note, by its place and by what its call did
quiet_at-other : (place : ℕ) (n : Note) (ns : List Note) → n.place ≢ place → quiet_at place (n ∷ ns) ≡ quiet_at place ns
quiet_at-other place n ns h = ap (λ b. cond (b && not (is_change n)) (n ∷ quiet_at place ns) (quiet_at place ns)) (ne_eqb n.place place h)

changing_at-other : (place : ℕ) (n : Note) (ns : List Note) → n.place ≢ place → changing_at place (n ∷ ns) ≡ changing_at place ns
changing_at-other place n ns h = ap (λ b. cond (b && is_change n) (n ∷ changing_at place ns) (changing_at place ns)) (ne_eqb n.place place h)

quiet_at-here : (place : ℕ) (n : Note) (ns : List Note) (b : Bool) → n.place ≡ place → is_change n ≡ b → quiet_at place (n ∷ ns) ≡ cond (not b) (n ∷ quiet_at place ns) (quiet_at place ns)
quiet_at-here place n ns b h e = ap (λ x. cond (x && not (is_change n)) (n ∷ quiet_at place ns) (quiet_at place ns)) (eq-eqb n.place place h) ∙ ap (λ x. cond (not x) (n ∷ quiet_at place ns) (quiet_at place ns)) e

changing_at-here : (place : ℕ) (n : Note) (ns : List Note) (b : Bool) → n.place ≡ place → is_change n ≡ b → changing_at place (n ∷ ns) ≡ cond b (n ∷ changing_at place ns) (changing_at place ns)
changing_at-here place n ns b h e = ap (λ x. cond (x && is_change n) (n ∷ changing_at place ns) (changing_at place ns)) (eq-eqb n.place place h) ∙ ap (λ x. cond x (n ∷ changing_at place ns) (changing_at place ns)) e

-- a note of an earlier place is not in the weave
weave_from-later : (place : ℕ) (cs : List Change) (n : Note) (ns : List Note) → n.place < place → weave_from place cs (n ∷ ns) ≡ weave_from place cs ns
weave_from-later place [] n ns l = ap calls_of (quiet_at-other place n ns (λ e. absurd (omega arith)))
weave_from-later place (c ∷ cs) n ns l =
    let ne : n.place ≢ place = λ e. absurd (omega arith) in
    ap (λ qs. calls_of qs ++ (made_by c (changing_at place (n ∷ ns)) ++ weave_from (place + 1) cs (n ∷ ns))) (quiet_at-other place n ns ne)
    ∙ ap (λ ms. calls_of (quiet_at place ns) ++ (made_by c ms ++ weave_from (place + 1) cs (n ∷ ns))) (changing_at-other place n ns ne)
    ∙ ap (λ es. calls_of (quiet_at place ns) ++ (made_by c (changing_at place ns) ++ es)) (weave_from-later (place + 1) cs n ns (omega arith))

-- after the last change
order_at_end : (place : ℕ) (ns : List Note) → RisesFrom place ns → All (λ n. place_after n ≤ place) ns → calls_in (calls_of (quiet_at place ns)) ≡ calls_of ns
order_at_end place [] r w = refl
order_at_end place (n ∷ ns) r w = ⊎_elim
    (λ change. let next = place_after-change n change in let last = All-head (λ x. place_after x ≤ place) n ns w in absurd (omega (arith, r.0, next, last)))
    (λ quiet. let next = place_after-quiet n quiet in let last = All-head (λ x. place_after x ≤ place) n ns w in
    let here : n.place ≡ place = omega (arith, r.0, next, last) in
    ap (λ qs. calls_in (calls_of qs)) (quiet_at-here place n ns false here quiet)
    ∙ ap (λ es. answered n.call n.reply ∷ es) (order_at_end place ns (subst (λ p. RisesFrom p ns) (next ∙ here) r.1) (All-tail (λ x. place_after x ≤ place) n ns w)))
    (cases_Bool (is_change n))

-- before and at a change
module _ (place last : ℕ) (c : Change) (cs : List Change) (later : (ns : List Note) → RisesFrom (place + 1) ns → All (λ n. place_after n ≤ last) ns → calls_in (weave_from (place + 1) cs ns) ≡ calls_of ns) where
  -- no note is of this place
  order_past : (ns : List Note) → RisesFrom (place + 1) ns → All (λ n. place_after n ≤ last) ns → calls_in (weave_from place (c ∷ cs) ns) ≡ calls_of ns
  order_past ns r w =
      ap (λ qs. calls_in (calls_of qs ++ (made_by c (changing_at place ns) ++ weave_from (place + 1) cs ns))) (none_below (λ n. not (is_change n)) place (place + 1) ns r (omega arith))
      ∙ ap (λ ms. calls_in (made_by c ms ++ weave_from (place + 1) cs ns)) (none_below is_change place (place + 1) ns r (omega arith))
      ∙ later ns r w

  -- the first note is of this place
  order_here : (n : Note) (ns : List Note) (b : Bool) → is_change n ≡ b → n.place ≡ place → RisesFrom (place_after n) ns → All (λ x. place_after x ≤ last) ns →
      (RisesFrom place ns → calls_in (weave_from place (c ∷ cs) ns) ≡ calls_of ns) → calls_in (weave_from place (c ∷ cs) (n ∷ ns)) ≡ calls_of (n ∷ ns)
  order_here n ns false quiet here r w rest =
      ap (λ qs. calls_in (calls_of qs ++ (made_by c (changing_at place (n ∷ ns)) ++ weave_from (place + 1) cs (n ∷ ns)))) (quiet_at-here place n ns false here quiet)
      ∙ ap (λ ms. answered n.call n.reply ∷ calls_in (calls_of (quiet_at place ns) ++ (made_by c ms ++ weave_from (place + 1) cs (n ∷ ns)))) (changing_at-here place n ns false here quiet)
      ∙ ap (λ es. answered n.call n.reply ∷ calls_in (calls_of (quiet_at place ns) ++ (made_by c (changing_at place ns) ++ es))) (weave_from-later (place + 1) cs n ns (omega arith))
      ∙ ap (λ es. answered n.call n.reply ∷ es) (rest (subst (λ p. RisesFrom p ns) (place_after-quiet n quiet ∙ here) r))
  order_here n ns true change here r w rest =
      let rises : RisesFrom (place + 1) ns = subst (λ p. RisesFrom p ns) (place_after-change n change ∙ ap (λ p. p + 1) here) r in
      ap (λ qs. calls_in (calls_of qs ++ (made_by c (changing_at place (n ∷ ns)) ++ weave_from (place + 1) cs (n ∷ ns))))
      (quiet_at-here place n ns true here change ∙ none_below (λ x. not (is_change x)) place (place + 1) ns rises (omega arith))
      ∙ ap (λ ms. calls_in (made_by c ms ++ weave_from (place + 1) cs (n ∷ ns)))
      (changing_at-here place n ns true here change ∙ ap (λ ms. n ∷ ms) (none_below is_change place (place + 1) ns rises (omega arith)))
      ∙ ap (λ es. answered n.call n.reply ∷ calls_in es) (weave_from-later (place + 1) cs n ns (omega arith))
      ∙ ap (λ es. answered n.call n.reply ∷ es) (later ns rises w)

  order_at_change : (ns : List Note) → RisesFrom place ns → All (λ n. place_after n ≤ last) ns → calls_in (weave_from place (c ∷ cs) ns) ≡ calls_of ns
  order_at_change [] r w = later [] tt w
  order_at_change (n ∷ ns) r w = ⊎_elim
      (λ (here : n.place ≡ place). order_here n ns (is_change n) refl here r.1 (All-tail (λ x. place_after x ≤ last) n ns w) (λ s. order_at_change ns s (All-tail (λ x. place_after x ≤ last) n ns w)))
      (λ (ne : n.place ≢ place). order_past (n ∷ ns) (omega (arith, r.0), r.1) w)
      (cases_eq n.place place)

order_from : (last place : ℕ) (rest : List Change) (ns : List Note) → place + length rest ≡ last → RisesFrom place ns → All (λ n. place_after n ≤ last) ns → calls_in (weave_from place rest ns) ≡ calls_of ns
order_from last place [] ns e r w = order_at_end place ns r (All-weaker (λ n. place_after n ≤ last) (λ n. place_after n ≤ place) (λ n l. omega arith) ns w)
order_from last place (c ∷ cs) ns e r w = order_at_change place last c cs (λ ms s v. order_from last (place + 1) cs ms (omega arith) s v) ns r w

pub weave-in_order : (front : List Change) (q : ℕ) (ns : List Note) → LegalCalls front q ns → calls_in (weave front ns) ≡ calls_of ns
weave-in_order front q ns h = order_from (length front) 0 front ns (omega arith) h.rising (All-weaker (StandsIn front q) (λ n. place_after n ≤ length front) (λ n s. place_after-within front q n s) ns h.each)
