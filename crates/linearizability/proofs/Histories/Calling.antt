-- The calls of a run: those of each pass are legal, and all notes are those of calls that have responded.
use Rattle.linearizability.proofs.Common.{◌≡◌, ◌≢◌, ◌⊎◌, inl, inr, ℕ, zero, suc, ◌<◌, ◌≤◌, List, [], ◌∷◌, ◌++◌, map, Option, Some, None, refl, sym, ap, subst, ◌∙◌, arith, ⊎_elim, append-nil, append_assoc, All, IsPermutation, cases_eq, All-nil, All-cons, All-head, All-tail, IsPermutation-append_left, IsPermutation-refl, IsPermutation-sym, IsPermutation-trans, Change, Note, LegalCalls, BeginsWith, OthersGoOn, notes_of, legal_front_part, nothing_before, legal_at_first, legal_longer, noted, Layout, Known}
use Rattle.linearizability.specs.Histories.{notes_of_response, complete_calls}
use Rattle.linearizability.specs.Configurations.{Continues, Happening, IsSoundConfiguration, IsWholeRun, Configuration, Pending, invokes, refuses, responds, shows, steps}
use Rattle.linearizability.proofs.Configurations.{cancelled, runs_stay_sound}
use Rattle.linearizability.proofs.Histories.Passes.{notes_more, notes_same, passes_below}

-- Fronts

all_before : (P : Change → Type 0) (xs ys : List Change) → All P (xs ++ ys) → All P xs
all_before P [] ys h = All-nil P
all_before P (x ∷ xs) ys h = All-cons P x xs (All-head P x (xs ++ ys) h) (all_before P xs ys (All-tail P x (xs ++ ys) h))

-- to a front between, others alone go on too
others_until : (q : ℕ) (a b c : List Change) → OthersGoOn q a c → BeginsWith b a → BeginsWith c b → OthersGoOn q a b
others_until q a b c h g m =
    let same : h.0 ≡ g.0 ++ m.0 = cancelled a h.0 (g.0 ++ m.0) (sym h.1 ∙ m.1 ∙ ap (λ z. z ++ m.0) g.1 ∙ append_assoc a g.0 m.0) in
    (g.0, g.1, all_before (λ x. x.pass ≢ q) g.0 m.0 (subst (All (λ x. x.pass ≢ q)) same h.2))

module _ (at : ℕ → Configuration) (q : ℕ) where
  -- between two calls a pass's notes are legal in its front, and when it invoked the call that is pending they were
  abbrev pub LegalUpTo : ℕ → Option Pending → Type 0
  LegalUpTo t None = LegalCalls ((at t).known q).front q ((at t).known q).notes
  LegalUpTo t (Some call) = (call.since < t) × LegalCalls ((at call.since).known q).front q ((at call.since).known q).notes

  -- the notes of the calls that have responded
  abbrev pub notes_up_to : ℕ → Option Pending → List Note
  notes_up_to t None = ((at t).known q).notes
  notes_up_to t (Some call) = ((at call.since).known q).notes

  goes_on : (t : ℕ) (o : Option Pending) → LegalUpTo t o → (o ≡ None → LegalUpTo t None → LegalUpTo (suc t) None) → LegalUpTo (suc t) o
  goes_on t None h f = f refl h
  goes_on t (Some call) h f = (let low = h.0 in omega (arith, low), h.1)

  notes_stay : (t : ℕ) (o : Option Pending) → (o ≡ None → notes_up_to (suc t) None ≡ notes_up_to t None) → notes_up_to (suc t) o ≡ notes_up_to t o
  notes_stay t None f = f refl
  notes_stay t (Some call) f = refl

abbrev legal_in : ℕ → Known → Type 0
legal_in q k = LegalCalls k.front q k.notes

module _ (layout : Layout) (at : ℕ → Configuration) (t : ℕ) (s : IsSoundConfiguration layout (at t)) (q : ℕ) (low : q < layout.passes) where
  -- the pass is shown more
  shown_legal : (front : List Change) → BeginsWith front ((at t).known q).front → BeginsWith (at t).core.changes front →
      LegalUpTo at q t None → LegalCalls front q ((at t).known q).notes
  shown_legal front more made h =
      let k : Known = (at t).known q in
      let others : OthersGoOn q k.front (at t).core.changes = subst (λ z. OthersGoOn z k.front (at t).core.changes) (s.named q low) (s.knows q low).seen.front in
      legal_longer k.front front q k.notes h (others_until q k.front front (at t).core.changes others more made) (legal_front_part front (at t).core.changes made s.lawful.core.told.legal)

  pub next_legal : (h : Happening) → Continues layout at t h → LegalUpTo at q t ((at t).pending q) → LegalUpTo at q (suc t) ((at (suc t)).pending q)
  next_legal (steps p act notes) x h = subst (LegalUpTo at q (suc t)) (sym (ap (λ (f : ℕ → Option Pending). f q) x.pending)) (goes_on at q t ((at t).pending q) h (λ none legal. ⊎_elim
      (λ e. (let no : None ≡ Some x.call = sym none ∙ ap (λ k. (at t).pending k) e ∙ x.called in cc))
      (λ ne. subst (legal_in q) (sym (x.others q ne)) legal) (cases_eq q p)))
  next_legal (shows p front) x h = subst (LegalUpTo at q (suc t)) (sym (ap (λ (f : ℕ → Option Pending). f q) x.pending)) (goes_on at q t ((at t).pending q) h (λ none legal. ⊎_elim
      (λ e. subst (legal_in q) (sym (subst (λ k. (at (suc t)).known k ≡ record ((at t).known k) { front = front }) (sym e) x.own))
      (shown_legal front (subst (λ k. BeginsWith front ((at t).known k).front) (sym e) x.more) x.made legal))
      (λ ne. subst (legal_in q) (sym (x.others q ne)) legal) (cases_eq q p)))
  next_legal (invokes p calls) x h = ⊎_elim
      (λ e. subst (LegalUpTo at q (suc t)) (sym (ap (λ k. (at (suc t)).pending k) e ∙ x.1.own))
      ((let u : t < suc t = omega arith in u), subst (LegalUpTo at q t) (ap (λ k. (at t).pending k) e ∙ x.0) h))
      (λ ne. subst (LegalUpTo at q (suc t)) (sym (x.1.others q ne)) (goes_on at q t ((at t).pending q) h (λ none legal. subst (λ (f : ℕ → Known). legal_in q (f q)) (sym x.1.known) legal)))
      (cases_eq q p)
  next_legal (responds p notes) x h = ⊎_elim
      (λ e. subst (LegalUpTo at q (suc t)) (sym (ap (λ k. (at (suc t)).pending k) e ∙ x.2.own))
      (subst (λ (f : ℕ → Known). legal_in q (f q)) (sym x.2.known) (subst (λ k. legal_in k ((at t).known k)) (sym e) x.1.legal)))
      (λ ne. subst (LegalUpTo at q (suc t)) (sym (x.2.others q ne)) (goes_on at q t ((at t).pending q) h (λ none legal. subst (λ (f : ℕ → Known). legal_in q (f q)) (sym x.2.known) legal)))
      (cases_eq q p)
  next_legal (refuses p) x h = ⊎_elim
      (λ e. subst (LegalUpTo at q (suc t)) (sym (ap (λ k. (at (suc t)).pending k) e ∙ x.2.own))
      (subst (λ (f : ℕ → Known). legal_in q (f q)) (sym x.2.known) (subst (λ k. legal_in k ((at t).known k)) (sym e) x.1.legal)))
      (λ ne. subst (LegalUpTo at q (suc t)) (sym (x.2.others q ne)) (goes_on at q t ((at t).pending q) h (λ none legal. subst (λ (f : ℕ → Known). legal_in q (f q)) (sym x.2.known) legal)))
      (cases_eq q p)

-- which pass notes what between two times, and that no other does
module _ (layout : Layout) (at : ℕ → Configuration) (t : ℕ) where
  abbrev notes_at : ℕ → ℕ → List Note
  notes_at t q = notes_up_to at q t ((at t).pending q)

  turns : (q : ℕ) → (at (suc t)).known ≡ (at t).known → (at (suc t)).pending q ≡ (at t).pending q → notes_at (suc t) q ≡ notes_at t q
  turns q known same = ap (notes_up_to at q (suc t)) same ∙ notes_stay at q t ((at t).pending q) (λ none. ap (λ (f : ℕ → Known). (f q).notes) known)

  abbrev Noting : ℕ → List Note → Type 0
  Noting p notes = (p < layout.passes) × (notes_at (suc t) p ≡ notes_at t p ++ notes) × ((q : ℕ) → q ≢ p → notes_at (suc t) q ≡ notes_at t q)

  pub next_notes : (h : Happening) → Continues layout at t h → (((q : ℕ) → notes_at (suc t) q ≡ notes_at t q) × (notes_of_response h ≡ [])) ⊎ ((p : ℕ) × Noting p (notes_of_response h))
  next_notes (steps p act notes) x = inl (
    λ q. ap (notes_up_to at q (suc t)) (ap (λ (f : ℕ → Option Pending). f q) x.pending) ∙ notes_stay at q t ((at t).pending q) (λ none. ⊎_elim
        (λ e. (let no : None ≡ Some x.call = sym none ∙ ap (λ k. (at t).pending k) e ∙ x.called in cc))
        (λ ne. ap (λ (k : Known). k.notes) (x.others q ne)) (cases_eq q p)),
    refl,
  )
  next_notes (shows p front) x = inl (
    λ q. ap (notes_up_to at q (suc t)) (ap (λ (f : ℕ → Option Pending). f q) x.pending) ∙ notes_stay at q t ((at t).pending q) (λ none. ⊎_elim
        (λ e. subst (λ k. ((at (suc t)).known k).notes ≡ ((at t).known k).notes) (sym e) (ap (λ (k : Known). k.notes) x.own))
        (λ ne. ap (λ (k : Known). k.notes) (x.others q ne)) (cases_eq q p)),
    refl,
  )
  next_notes (invokes p calls) x = inl (
    λ q. ⊎_elim
        (λ e. subst (λ k. notes_at (suc t) k ≡ notes_at t k) (sym e) (ap (notes_up_to at p (suc t)) x.1.own ∙ sym (ap (notes_up_to at p t) x.0)))
        (λ ne. turns q x.1.known (x.1.others q ne)) (cases_eq q p),
    refl,
  )
  next_notes (responds p notes) x = inr (
    p,
    (
      x.2.pass,
      ap (notes_up_to at p (suc t)) x.2.own ∙ ap (λ (f : ℕ → Known). (f p).notes) x.2.known ∙ x.1.noted ∙ ap (λ ns. ns ++ notes) (sym (ap (notes_up_to at p t) x.1.called)),
      λ q ne. turns q x.2.known (x.2.others q ne),
    ),
  )
  next_notes (refuses p) x = inl (
    λ q. ⊎_elim
        (λ e. subst (λ k. notes_at (suc t) k ≡ notes_at t k) (sym e)
        (ap (notes_up_to at p (suc t)) x.2.own ∙ ap (λ (f : ℕ → Known). (f p).notes) x.2.known ∙ x.1.noted ∙ sym (ap (notes_up_to at p t) x.1.called)))
        (λ ne. turns q x.2.known (x.2.others q ne)) (cases_eq q p),
    refl,
  )

-- the notes of calls with one label
pub noted_at : (t : ℕ) (ns : List Note) → noted (map (λ n. (t, n)) ns) ≡ ns
noted_at t [] = refl
noted_at t (n ∷ ns) = ap (λ z. n ∷ z) (noted_at t ns)

pub noted-append : (xs ys : List (ℕ × Note)) → noted (xs ++ ys) ≡ noted xs ++ noted ys
noted-append [] ys = refl
noted-append (x ∷ xs) ys = ap (λ z. x.1 ∷ z) (noted-append xs ys)

no_notes : (f : ℕ → List Note) → ((q : ℕ) → f q ≡ []) → (n : ℕ) → notes_of (passes_below f n) ≡ []
no_notes f h zero = refl
no_notes f h (suc n) = ap (λ xs. xs ++ notes_of (passes_below f n)) (h n) ∙ no_notes f h n

module _ (layout : Layout) (last : ℕ) (at : ℕ → Configuration) (happens : ℕ → Happening) (run : IsWholeRun layout last at happens) where
  pub calls_legal : (t : ℕ) → t ≤ last → (q : ℕ) → q < layout.passes → LegalUpTo at q t ((at t).pending q)
  calls_legal zero within q low =
      let sound = runs_stay_sound layout last at happens run 0 within in
      let k : Known = (at 0).known q in
      let seen = (sound.knows q low).seen.front in
      let none : k.front ≡ [] = nothing_before k.front seen.0 (sym (sym run.new.changes ∙ seen.1)) in
      subst (LegalUpTo at q 0) (sym (run.new.pending q)) (subst (λ f. LegalCalls f q k.notes) (sym none) (subst (LegalCalls [] q) (sym (run.new.notes q)) (legal_at_first q)))
  calls_legal (suc t) within q low =
      next_legal layout at t (runs_stay_sound layout last at happens run t (omega (arith, within))) q low (happens t) (run.next t (omega (arith, within))) (calls_legal t (omega (arith, within)) q low)

  abbrev pub notes_by : ℕ → ℕ → List Note
  notes_by t q = notes_up_to at q t ((at t).pending q)

  complete_next : (t : ℕ) → (((q : ℕ) → notes_by (suc t) q ≡ notes_by t q) × (notes_of_response (happens t) ≡ [])) ⊎ ((p : ℕ) × Noting layout at t p (notes_of_response (happens t))) →
      IsPermutation (notes_of (passes_below (notes_by t) layout.passes)) (noted (complete_calls happens t)) →
      IsPermutation (notes_of (passes_below (notes_by (suc t)) layout.passes)) (noted (complete_calls happens (suc t)))
  complete_next t (inl (same, none)) h =
      let unchanged : noted (complete_calls happens (suc t)) ≡ noted (complete_calls happens t) =
      ap (λ ns. noted (complete_calls happens t ++ map (λ n. (t, n)) ns)) none ∙ ap noted (append-nil (complete_calls happens t)) in
      subst (IsPermutation (notes_of (passes_below (notes_by (suc t)) layout.passes))) (sym unchanged)
      (subst (λ ns. IsPermutation ns (noted (complete_calls happens t))) (notes_same (notes_by t) (notes_by (suc t)) layout.passes (λ o _. same o)) h)
  complete_next t (inr (p, (low, own, others))) h =
      let more : noted (complete_calls happens (suc t)) ≡ noted (complete_calls happens t) ++ notes_of_response (happens t) =
      noted-append (complete_calls happens t) (map (λ n. (t, n)) (notes_of_response (happens t))) ∙ ap (λ ns. noted (complete_calls happens t) ++ ns) (noted_at t (notes_of_response (happens t))) in
      subst (IsPermutation (notes_of (passes_below (notes_by (suc t)) layout.passes))) (sym more)
      (IsPermutation-trans _ _ _ (IsPermutation-sym _ _ (notes_more (notes_by t) (notes_by (suc t)) p (notes_of_response (happens t)) own others layout.passes low))
      (IsPermutation-append_left (notes_of_response (happens t)) _ _ h))

  -- what passes have noted in calls that have responded are the notes of these
  pub notes_complete : (t : ℕ) → t ≤ last → IsPermutation (notes_of (passes_below (notes_by t) layout.passes)) (noted (complete_calls happens t))
  notes_complete zero within = subst (λ ns. IsPermutation ns []) (sym (no_notes (notes_by 0) (λ q. ap (notes_up_to at q 0) (run.new.pending q) ∙ run.new.notes q) layout.passes)) (IsPermutation-refl [])
  notes_complete (suc t) within = complete_next t (next_notes layout at t (happens t) (run.next t (omega (arith, within)))) (notes_complete t (omega (arith, within)))
