-- A moment is past where each section's word was 0 or newer after it.
use Rattle.std.proofs.Common.{◌≡◌, ◌≢◌, ◌+◌, ◌<◌, ◌≤◌, ℕ, suc, List, [], ◌∷◌, ◌++◌, true, false, eqb, refl, sym, ap, subst, ◌∙◌, inl, ⊎_elim, arith}
use Rattle.std.specs.Prelude.{Contains}
use Rattle.std.proofs.lemmas.Bool.Decides.{eqb_tells}
use Rattle.sections.specs.declared.events.SectionEvent.{SectionEvent}
use Rattle.sections.specs.declared.events.SectionEvent.TheVariants.{Entered, Left, Taken}
use Rattle.sections.specs.declared.events.SectionKnowledge.{SectionKnowledge}
use Rattle.sections.specs.Runs.{HasNoneOf, IsLawfulRun, IsOpen, IsNewer, OthersRunOn, moments_in, word_in}
use Rattle.sections.specs.Sections.{SeesOthers, SectionView}
use Rattle.sections.proofs.Runs.{moments_grow, moments_more, others_on, word_bounded, word_never, word_other}

-- of section q alone, as `IsPast` of all
abbrev pub IsPastOf : ℕ → ℕ → List SectionEvent → Type 0
IsPastOf q moment run = (before since : List SectionEvent) → run ≡ since ++ before → moments_in before < moment → IsOpen q before → Contains since (Left q)

here : (e : SectionEvent) (xs : List SectionEvent) → Contains (e ∷ xs) e
here e xs = (0, omega arith, refl)

there : (e x : SectionEvent) (xs : List SectionEvent) → Contains xs e → Contains (x ∷ xs) e
there e x xs h = let low = h.1 in (suc h.0, omega arith, h.2)

-- where a section's word is 0 or newer, and the section was opened, it has been left since
left_since : (q moment : ℕ) (since before : List SectionEvent) → IsLawfulRun (since ++ before) → moments_in before < moment → IsOpen q before → IsNewer moment (word_in q (since ++ before)) → Contains since (Left q)
left_since q moment [] before law few opened newer = ⊎_elim
    (λ (e : word_in q before ≡ 0). absurd (omega arith))
    (λ (h : moment < word_in q before). let most : word_in q before ≤ suc (moments_in before) = word_bounded q before law in absurd (omega arith))
    newer
left_since q moment (Entered p n ∷ since) before law few opened newer = there (Left q) (Entered p n) since (⊎_elim
    (λ (e : (eqb p q ≡ true) × (p ≡ q)). left_since q moment since before law.1 few opened (inl (subst (λ z. word_in z (since ++ before) ≡ 0) e.1 law.0.0)))
    (λ (e : (eqb p q ≡ false) × (p ≢ q)). left_since q moment since before law.1 few opened (subst (IsNewer moment) (word_other (n + 1) (word_in q (since ++ before)) p q e.1) newer))
    (eqb_tells p q))
left_since q moment (Left p ∷ since) before law few opened newer = ⊎_elim
    (λ (e : (eqb p q ≡ true) × (p ≡ q)). subst (λ z. Contains (Left z ∷ since) (Left q)) (sym e.1) (here (Left q) since))
    (λ (e : (eqb p q ≡ false) × (p ≢ q)). there (Left q) (Left p) since (left_since q moment since before law.1 few opened (subst (IsNewer moment) (word_other 0 (word_in q (since ++ before)) p q e.1) newer)))
    (eqb_tells p q)
left_since q moment (Taken ∷ since) before law few opened newer = there (Left q) Taken since (left_since q moment since before law.1 few opened newer)

pub past_of : (q moment : ℕ) (run : List SectionEvent) → IsLawfulRun run → IsNewer moment (word_in q run) → IsPastOf q moment run
past_of q moment run law newer before since is few opened =
    left_since q moment since before (subst IsLawfulRun is law) few opened (subst (λ z. IsNewer moment (word_in q z)) is newer)

-- once the moment has been taken, one event more changes nothing of that
past_more : (q moment : ℕ) (run : List SectionEvent) (e : SectionEvent) → moment ≤ moments_in run → IsPastOf q moment run → IsPastOf q moment (e ∷ run)
past_more q moment run e come past before [] is few opened =
    let more : moments_in run ≤ moments_in (e ∷ run) = moments_more (e ∷ []) run in
    let same : moments_in (e ∷ run) ≡ moments_in before = ap moments_in is in absurd (omega arith)
past_more q moment run e come past before (x ∷ since) is few opened =
    let rest : run ≡ since ++ before = cc in there (Left q) x since (past before since rest few opened)

past_on : (q moment : ℕ) (more run : List SectionEvent) → moment ≤ moments_in run → IsPastOf q moment run → IsPastOf q moment (more ++ run)
past_on q moment [] run come past = past
past_on q moment (e ∷ more) run come past =
    let grown : moments_in run ≤ moments_in (more ++ run) = moments_more more run in
    past_more q moment (more ++ run) e (omega arith) (past_on q moment more run come past)

pub past_later : (q p moment : ℕ) (run later : List SectionEvent) → OthersRunOn p run later → moment ≤ moments_in run → IsPastOf q moment run → IsPastOf q moment later
past_later q p moment run later g come past = subst (IsPastOf q moment) (sym g.1) (past_on q moment g.0 run come past)

-- Looks, one after the other

pub looks_on : (s t u : SectionView) → SeesOthers s t → SeesOthers t u → SeesOthers s u
looks_on s t u g h = record {
  table = h.table ∙ g.table;
  known = h.known ∙ ap (λ (z : SectionKnowledge). let k : SectionKnowledge = record z { run = u.known.run } in k) g.known;
  others = others_on s.known.number s.known.run t.known.run u.known.run g.others
      (subst (λ z. OthersRunOn z t.known.run u.known.run) (ap (λ (z : SectionKnowledge). z.number) g.known) h.others);
  lawful = h.lawful;
}

-- How far the words have been looked at: each section below `n`, and each that was never entered, has been left since the moment.
pub record HasLooked (moment n extent : ℕ) (s t : SectionView) : Type 0 where
  pub looks : SeesOthers s t
  pub come : moment ≤ moments_in t.known.run
  pub below : (q : ℕ) → q < n → IsPastOf q moment t.known.run
  pub beyond : (q : ℕ) → extent ≤ q → IsPastOf q moment t.known.run

-- at first, behind the two loads of the head
pub looked_none : (moment extent : ℕ) (s t u : SectionView) → SeesOthers s t → moment ≤ moments_in t.known.run → SeesOthers t u → ((q : ℕ) → extent ≤ q → HasNoneOf q u.known.run) → HasLooked moment 0 extent s u
looked_none moment extent s t u first come second none =
    let grown : moments_in t.known.run ≤ moments_in u.known.run = moments_grow t.known.number t.known.run u.known.run second.others in
    record {
      looks = looks_on s t u first second;
      come = omega arith;
      below = λ q low. absurd (omega arith);
      beyond = λ q high. past_of q moment u.known.run second.lawful (inl (word_never q u.known.run (none q high)));
    }

-- and behind the load of one word more
pub looked_more : (moment n extent w : ℕ) (s t u : SectionView) → HasLooked moment n extent s t → SeesOthers t u → w ≡ word_in n u.known.run → IsNewer moment w → HasLooked moment (n + 1) extent s u
looked_more moment n extent w s t u looked look is newer =
    let on = look.others in
    let grown : moments_in t.known.run ≤ moments_in u.known.run = moments_grow t.known.number t.known.run u.known.run look.others in
    let later : (q : ℕ) → IsPastOf q moment t.known.run → IsPastOf q moment u.known.run = λ q past. past_later q t.known.number moment t.known.run u.known.run look.others looked.come past in
    let come = looked.come in
    record {
      looks = looks_on s t u looked.looks look;
      come = omega arith;
      below = λ q low. ⊎_elim
          (λ (e : (eqb q n ≡ true) × (q ≡ n)). subst (λ z. IsPastOf z moment u.known.run) (sym e.1) (past_of n moment u.known.run look.lawful (subst (IsNewer moment) is newer)))
          (λ (e : (eqb q n ≡ false) × (q ≢ n)). let ne = e.1 in later q (looked.below q (omega arith)))
          (eqb_tells q n);
      beyond = λ q high. later q (looked.beyond q high);
    }
