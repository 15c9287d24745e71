-- Where responses complete the pending calls of a run, its calls have one order.
pub mod Calling
pub mod Hits
pub mod Passes
use Rattle.linearizability.proofs.Common.{◌≡◌, ◌≢◌, ℕ, zero, suc, ◌+◌, ◌-◌, ◌<◌, ◌≤◌, List, [], ◌∷◌, ◌++◌, length, get_or, map, Bool, cond, nat_lt, Option, Some, None, refl, sym, ap, ap₂, subst, ◌∙◌, arith, ⊎_elim, le_refl, append-nil, append_assoc, All, AllPairs, IsPermutation, cases_lt, leb-true, lt-leb, lt-ltb, le-ltb, All-append, All-contains, All-map, All-nil, All-push, All-weaker, IsPermutation-append_left, IsPermutation-sym, IsPermutation-trans, Change, Note, LegalCalls, StandsIn, place_after, LegalHistory, notes_of, place_after-within, FitsPlaces, IsInTime, noted, Layout, seen_by}
use Rattle.std.proofs.lemmas.List.Quantifiers.{all_pairs_push}
use Rattle.plain_index.proofs.Times.{woven-in_time}
use Rattle.linearizability.specs.Histories.{notes_of_response, complete_calls, completed, had_responded, invoked, responding_pass, since_of, held_from}
use Rattle.linearizability.specs.Configurations.{Continues, Happening, IsNotedBetween, IsResponse, IsSoundConfiguration, IsWholeRun, Configuration, Pending, invokes, refuses, responds, shows, steps}
use Rattle.linearizability.specs.Statements.{HaveOneOrder}
use Rattle.linearizability.proofs.Histories.Calling.{LegalUpTo, calls_legal, noted-append, noted_at, notes_by, notes_complete, notes_up_to}
use Rattle.linearizability.proofs.Configurations.{all_behind, grown, loaded_since, longer, runs_stay_sound}
use Rattle.linearizability.proofs.Histories.Hits.{all_calls}
use Rattle.linearizability.proofs.Histories.Passes.{all_legal, notes_more, notes_same, passes_below}

-- The notes complete pass q's call, if one is pending at the run's last time: they are legal behind those of its calls that have responded,
-- and stand at no place of a change that had been made before the call was invoked.
pub record Completes (last : ℕ) (at : ℕ → Configuration) (q : ℕ) (o : Option Pending) (notes : List Note) : Type 0 where
  pub none : o ≡ None → notes ≡ []
  pub legal : LegalCalls (at last).core.changes q (notes_up_to at q last o ++ notes)
  pub placed : (call : Pending) → o ≡ Some call → All (λ n. length (at call.since).core.changes ≤ n.place) notes

abbrev pub AllComplete : Layout → ℕ → (ℕ → Configuration) → (ℕ → List Note) → Type 0
AllComplete layout last at added = (q : ℕ) → q < layout.passes → Completes last at q ((at last).pending q) (added q)

module _ (layout : Layout) (last : ℕ) (at : ℕ → Configuration) (happens : ℕ → Happening) (run : IsWholeRun layout last at happens) (added : ℕ → List Note) (all : AllComplete layout last at added) where
  abbrev changes : List Change
  changes = (at last).core.changes

  abbrev goes : ℕ → Happening
  goes = completed last happens added

  sound_at : (t : ℕ) → t ≤ last → IsSoundConfiguration layout (at t)
  sound_at = runs_stay_sound layout last at happens run

  goes_before : (t : ℕ) → t < last → goes t ≡ happens t
  goes_before t low = ap (λ b. cond b (happens t) (responds (t - last) (added (t - last)))) (lt-ltb t last low)

  goes_behind : (n : ℕ) → goes (last + n) ≡ responds n (added n)
  goes_behind n =
      let e : last + n - last ≡ n = omega arith in
      ap (λ b. cond b (happens (last + n)) (responds (last + n - last) (added (last + n - last)))) (le-ltb (last + n) last (omega arith))
      ∙ ap (λ k. responds k (added k)) e

  stays_before : (t : ℕ) → t < last → held_from last at t ≡ at t
  stays_before t low = ap (λ b. cond b (at t) (at last)) (lt-ltb t last low)

  stays_behind : (n : ℕ) → held_from last at (last + n) ≡ at last
  stays_behind n = ap (λ b. cond b (at (last + n)) (at last)) (le-ltb (last + n) last (omega arith))

  -- All calls, those of passes below n completed

  abbrev all_notes : ℕ → ℕ → List Note
  all_notes n q = notes_by layout last at happens run last q ++ cond (nat_lt q n) (added q) []

  same_calls : (t : ℕ) → t ≤ last → complete_calls goes t ≡ complete_calls happens t
  same_calls zero low = refl
  same_calls (suc t) low = ap₂ (λ xs h. xs ++ map (λ n. (t, n)) (notes_of_response h)) (same_calls t (omega arith)) (goes_before t (omega arith))

  calls_more : (n m : ℕ) → m ≡ last + n → noted (complete_calls goes (suc m)) ≡ noted (complete_calls goes m) ++ added n
  calls_more n m e =
      noted-append (complete_calls goes m) (map (λ x. (m, x)) (notes_of_response (goes m)))
      ∙ ap (λ ns. noted (complete_calls goes m) ++ ns) (noted_at m (notes_of_response (goes m)) ∙ ap (λ k. notes_of_response (goes k)) e ∙ ap notes_of_response (goes_behind n))

  others_stay : (n o : ℕ) → o ≢ n → all_notes (suc n) o ≡ all_notes n o
  others_stay n o ne = ap (λ b. notes_by layout last at happens run last o ++ cond b (added o) []) (⊎_elim
      (λ low. lt-ltb o (suc n) (omega arith) ∙ sym (lt-ltb o n low))
      (λ high. le-ltb o (suc n) (omega arith) ∙ sym (le-ltb o n high)) (cases_lt o n))

  own_more : (n : ℕ) → all_notes (suc n) n ≡ all_notes n n ++ added n
  own_more n =
      let base = notes_by layout last at happens run last n in
      ap (λ b. base ++ cond b (added n) []) (lt-ltb n (suc n) (omega arith))
      ∙ ap (λ xs. xs ++ added n) (sym (ap (λ b. base ++ cond b (added n) []) (le-ltb n n (le_refl n)) ∙ append-nil base))

  completed_notes : (n m : ℕ) → n ≤ layout.passes → m ≡ last + n → IsPermutation (notes_of (passes_below (all_notes n) layout.passes)) (noted (complete_calls goes m))
  completed_notes zero m low e = subst (λ k. IsPermutation (notes_of (passes_below (all_notes 0) layout.passes)) (noted (complete_calls goes k))) (let f : last ≡ m = omega arith in f)
      (subst (λ l. IsPermutation (notes_of (passes_below (all_notes 0) layout.passes)) (noted l)) (sym (same_calls last (le_refl last)))
      (subst (λ l. IsPermutation l (noted (complete_calls happens last)))
      (notes_same (notes_by layout last at happens run last) (all_notes 0) layout.passes (λ o _. ap (λ b. notes_by layout last at happens run last o ++ cond b (added o) []) (le-ltb o 0 (omega arith)) ∙ append-nil (notes_by layout last at happens run last o)))
      (notes_complete layout last at happens run last (le_refl last))))
  completed_notes (suc n) zero low e = absurd (omega arith)
  completed_notes (suc n) (suc m) low e =
      let at_m : m ≡ last + n = omega arith in
      let before = completed_notes n m (omega arith) at_m in
      subst (IsPermutation (notes_of (passes_below (all_notes (suc n)) layout.passes))) (sym (calls_more n m at_m))
      (IsPermutation-trans _ _ _ (IsPermutation-sym _ _ (notes_more (all_notes n) (all_notes (suc n)) n (added n) (own_more n) (others_stay n) layout.passes (omega arith)))
      (IsPermutation-append_left (added n) _ _ before))

  -- They are legal

  all_notes_legal : (q : ℕ) → q < layout.passes → LegalCalls changes q (all_notes layout.passes q)
  all_notes_legal q low = subst (LegalCalls changes q) (sym (ap (λ b. notes_by layout last at happens run last q ++ cond b (added q) []) (lt-ltb q layout.passes low)))
      (all q low).legal

  -- In the order of time

  abbrev begun : ℕ → ℕ
  begun = invoked (held_from last at) goes

  -- a call that responds at its label takes time, and stands behind the changes made before it was invoked, and among those made by its end
  record IsTimed (x : ℕ × Note) : Type 0 where
    pub before : begun x.0 < x.0
    pub within : begun x.0 < last
    pub low : length (at (begun x.0)).core.changes ≤ x.1.place
    pub high : x.0 < last → place_after x.1 ≤ length (at x.0).core.changes

  begun_is : (t : ℕ) → t < last → (h : Happening) → happens t ≡ h → begun t ≡ since_of ((at t).pending (responding_pass h))
  begun_is t low h e = ap (λ (m : Configuration). since_of (m.pending (responding_pass (goes t)))) (stays_before t low) ∙ ap (λ g. since_of ((at t).pending (responding_pass g))) (goes_before t low ∙ e)

  begun_behind : (n m : ℕ) → m ≡ last + n → begun m ≡ since_of ((at last).pending n)
  begun_behind n m e =
      ap begun e ∙ ap (λ (m : Configuration). since_of (m.pending (responding_pass (goes (last + n))))) (stays_behind n) ∙ ap (λ g. since_of ((at last).pending (responding_pass g))) (goes_behind n)

  module _ (t : ℕ) (low : t < last) (q : ℕ) (notes : List Note) (is : happens t ≡ responds q notes) (call : Pending) (x : IsResponse at t q call notes) (pass : q < layout.passes) where
    abbrev s : ℕ
    s = call.since

    begun_at : begun t ≡ s
    begun_at = begun_is t low (responds q notes) is ∙ ap since_of x.called

    early : s < t
    early = (subst (LegalUpTo at q t) x.called (calls_legal layout last at happens run t (omega (arith, low)) q pass)).0

    stands : All (StandsIn ((at t).known q).front q) notes
    stands = all_behind (StandsIn ((at t).known q).front q) ((at s).known q).notes notes (subst (All (StandsIn ((at t).known q).front q)) x.noted x.legal.each)

    seen : length ((at t).known q).front ≤ length (at t).core.changes
    seen = longer (at t).core.changes ((at t).known q).front (seen_by (at t).core ((at t).known q) ((sound_at t (omega (arith, low))).knows q pass))

    timed_note : (n : Note) → IsNotedBetween at q s t n → StandsIn ((at t).known q).front q n → IsTimed (t, n)
    timed_note n placed standing =
        let upto = placed.upto in
        let shown = longer ((at placed.shown).known q).fresh.front (at s).core.changes (loaded_since layout last at happens run s q pass placed.shown placed.from (omega (arith, upto, low)) placed.loaded) in
        let place = placed.low in
        let ends = place_after-within ((at t).known q).front q n standing in
        record {
          before = subst (λ k. k < t) (sym begun_at) early;
          within = subst (λ k. k < last) (sym begun_at) (omega (arith, early, low));
          low = subst (λ k. length (at k).core.changes ≤ n.place) (sym begun_at) (omega (arith, shown, place));
          high = λ _. omega (arith, ends, seen);
        }

    timed_notes : All IsTimed (map (λ n. (t, n)) notes)
    timed_notes = All-map IsTimed (λ n. (t, n)) notes (λ k d inside. timed_note (get_or notes k d) (x.placed k d inside) (stands k d inside))

  timed_response : (t : ℕ) → t < last → (h : Happening) → happens t ≡ h → Continues layout at t h → All IsTimed (map (λ n. (t, n)) (notes_of_response h))
  timed_response t low (steps q act notes) is x = All-nil IsTimed
  timed_response t low (shows q front) is x = All-nil IsTimed
  timed_response t low (invokes q calls) is x = All-nil IsTimed
  timed_response t low (refuses q) is x = All-nil IsTimed
  timed_response t low (responds q notes) is x = timed_notes t low q notes is x.0 x.1 x.2.pass

  timed_completion : (n m : ℕ) → n < layout.passes → m ≡ last + n → (o : Option Pending) → (at last).pending n ≡ o → All IsTimed (map (λ x. (m, x)) (added n))
  timed_completion n m low e None is = subst (λ ns. All IsTimed (map (λ x. (m, x)) ns)) (sym ((all n low).none is)) (All-nil IsTimed)
  timed_completion n m low e (Some call) is =
      let s : ℕ = call.since in
      let early : s < last = (subst (LegalUpTo at n last) is (calls_legal layout last at happens run last (le_refl last) n low)).0 in
      let begun_at : begun m ≡ s = begun_behind n m e ∙ ap since_of is in
      let places : All (λ x. length (at s).core.changes ≤ x.place) (added n) = (all n low).placed call is in
      All-map IsTimed (λ x. (m, x)) (added n) (λ k d inside. record {
        before = subst (λ k. k < m) (sym begun_at) (omega (arith, early, e));
        within = subst (λ k. k < last) (sym begun_at) early;
        low = subst (λ j. length (at j).core.changes ≤ (get_or (added n) k d).place) (sym begun_at) (places k d inside);
        high = λ no. absurd (omega (arith, no, e));
      })

  timed_calls : (t : ℕ) → t ≤ last → All IsTimed (complete_calls goes t)
  timed_calls zero low = All-nil IsTimed
  timed_calls (suc t) low = All-append IsTimed (complete_calls goes t) (map (λ n. (t, n)) (notes_of_response (goes t))) (timed_calls t (omega arith))
      (subst (λ h. All IsTimed (map (λ n. (t, n)) (notes_of_response h))) (sym (goes_before t (omega arith))) (timed_response t (omega arith) (happens t) refl (run.next t (omega arith))))

  timed_all : (n m : ℕ) → n ≤ layout.passes → m ≡ last + n → All IsTimed (complete_calls goes m)
  timed_all zero m low e = subst (λ k. All IsTimed (complete_calls goes k)) (let f : last ≡ m = omega arith in f) (timed_calls last (le_refl last))
  timed_all (suc n) zero low e = absurd (omega arith)
  timed_all (suc n) (suc m) low e =
      let at_m : m ≡ last + n = omega arith in
      All-append IsTimed (complete_calls goes m) (map (λ x. (m, x)) (notes_of_response (goes m))) (timed_all n m (omega arith) at_m)
      (subst (λ ns. All IsTimed (map (λ x. (m, x)) ns)) (sym (ap (λ k. notes_of_response (goes k)) at_m ∙ ap notes_of_response (goes_behind n))) (timed_completion n m (omega arith) at_m ((at last).pending n) refl))

-- calls are listed as they respond

abbrev Rises : ℕ × Note → ℕ × Note → Type 0
Rises x y = x.0 ≤ y.0

all_later : (t : ℕ) (ns : List Note) (xs : List (ℕ × Note)) → AllPairs Rises xs → All (λ x. x.0 ≤ t) xs → AllPairs Rises (xs ++ map (λ n. (t, n)) ns)
all_later t [] xs h low = subst (AllPairs Rises) (sym (append-nil xs)) h
all_later t (n ∷ ns) xs h low = subst (AllPairs Rises) (append_assoc xs ((t, n) ∷ []) (map (λ n. (t, n)) ns))
    (all_later t ns (xs ++ (t, n) ∷ []) (all_pairs_push Rises xs (t, n) h low) (All-push (λ x. x.0 ≤ t) xs (t, n) low (le_refl t)))

all_below : (g : ℕ → Happening) (t : ℕ) → All (λ x. x.0 < t) (complete_calls g t)
all_below g zero = All-nil (λ x. x.0 < 0)
all_below g (suc t) = All-append (λ x. x.0 < suc t) (complete_calls g t) (map (λ n. (t, n)) (notes_of_response (g t)))
    (All-weaker (λ x. x.0 < t) (λ x. x.0 < suc t) (λ x h. omega arith) (complete_calls g t) (all_below g t))
    (All-map (λ x. x.0 < suc t) (λ n. (t, n)) (notes_of_response (g t)) (λ k d inside. omega arith))

in_turn : (g : ℕ → Happening) (t : ℕ) → AllPairs Rises (complete_calls g t)
in_turn g zero = λ i j d lt within. absurd (omega arith)
in_turn g (suc t) = all_later t (notes_of_response (g t)) (complete_calls g t) (in_turn g t) (All-weaker (λ x. x.0 < t) (λ x. x.0 ≤ t) (λ x h. omega arith) (complete_calls g t) (all_below g t))

module _ (layout : Layout) (last : ℕ) (at : ℕ → Configuration) (happens : ℕ → Happening) (run : IsWholeRun layout last at happens) (added : ℕ → List Note) (all : AllComplete layout last at added) where
  abbrev calls : List (ℕ × Note)
  calls = complete_calls (completed last happens added) (last + layout.passes)

  abbrev before : ℕ → ℕ → Bool
  before = had_responded (held_from last at) (completed last happens added)

  timed : All (IsTimed layout last at happens run added all) calls
  timed = timed_all layout last at happens run added all layout.passes (last + layout.passes) (le_refl layout.passes) refl

  fits : FitsPlaces before calls
  fits x y hx hy e =
      let first = All-contains (IsTimed layout last at happens run added all) calls x timed hx in
      let second = All-contains (IsTimed layout last at happens run added all) calls y timed hy in
      let b : ℕ = begun layout last at happens run added all y.0 in
      let early : x.0 ≤ b = leb-true x.0 b e in
      let within : b < last = second.within in
      let high = first.high (omega (arith, early, within)) in
      let meanwhile = longer (at b).core.changes (at x.0).core.changes (grown layout last at happens run x.0 b early (omega (arith, within))) in
      let low = second.low in
      omega (arith, high, meanwhile, low)

  in_time : IsInTime before calls
  in_time i j d lt within =
      let x : ℕ × Note = get_or calls i d in
      let y : ℕ × Note = get_or calls j d in
      let rises : x.0 ≤ y.0 = in_turn (completed last happens added) (last + layout.passes) i j d lt within in
      let early = (timed i d (omega (arith, lt, within))).before in
      lt-leb y.0 (begun layout last at happens run added all x.0) (omega (arith, rises, early))

  makers_below : All (λ (c : Change). c.pass < layout.passes) (at last).core.changes
  makers_below = let s = runs_stay_sound layout last at happens run last (le_refl last) in subst (λ (l : Layout). All (λ (c : Change). c.pass < l.passes) (at last).core.changes) s.layout_is s.lawful.makers

  pub in_one_order : HaveOneOrder layout last at happens added
  in_one_order =
      let notes : ℕ → List Note = all_notes layout last at happens run added all layout.passes in
      let legal = all_notes_legal layout last at happens run added all in
      let same = completed_notes layout last at happens run added all layout.passes (last + layout.passes) (le_refl layout.passes) refl in
      let woven = woven-in_time (at last).core.changes (passes_below notes layout.passes) before calls (all_legal (at last).core.changes notes layout.passes legal) same fits in_time in
      let alone = all_calls (at last).core.changes layout.passes notes (noted calls) makers_below legal same in
      (woven.1.0, woven.1.1, subst LegalHistory (sym alone ∙ woven.1.3) woven.0, woven.1.2)
