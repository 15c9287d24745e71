-- Runs that go on, and what their words are.
pub mod Past
use Rattle.std.proofs.Common.{◌≡◌, ◌≢◌, ◌+◌, ◌≤◌, ℕ, suc, List, [], ◌∷◌, ◌++◌, true, false, eqb, if◌then◌else◌, refl, sym, ap, subst, ◌∙◌, ⊎_elim, append_assoc, arith}
use Rattle.std.proofs.lemmas.Bool.{eq-eqb, ne_eqb}
use Rattle.std.proofs.lemmas.Bool.Decides.{eqb_tells}
use Rattle.sections.specs.declared.events.SectionEvent.{SectionEvent}
use Rattle.sections.specs.declared.events.SectionEvent.TheVariants.{Entered, Left, Taken}
use Rattle.sections.specs.declared.table.TheConstants.{MOST_MOMENTS}
use Rattle.sections.specs.Runs.{RunGoesOn, HasNoneOf, IsLawfulRun, OthersRunOn, moments_in, word_in}

-- Events of others

pub none_append : (q : ℕ) (xs ys : List SectionEvent) → HasNoneOf q xs → HasNoneOf q ys → HasNoneOf q (xs ++ ys)
none_append q [] ys h i = i
none_append q (Entered p n ∷ xs) ys h i = (h.0, none_append q xs ys h.1 i)
none_append q (Left p ∷ xs) ys h i = (h.0, none_append q xs ys h.1 i)
none_append q (Taken ∷ xs) ys h i = none_append q xs ys h i

pub others_none : (q : ℕ) (run : List SectionEvent) → OthersRunOn q run run
others_none q run = ([], refl, tt)

pub others_on : (q : ℕ) (a b c : List SectionEvent) → OthersRunOn q a b → OthersRunOn q b c → OthersRunOn q a c
others_on q a b c g h = (h.0 ++ g.0, h.1 ∙ (ap (λ xs. h.0 ++ xs) g.1 ∙ sym (append_assoc h.0 g.0 a)), none_append q h.0 g.0 h.2 g.2)

pub others_more : (q : ℕ) (a b : List SectionEvent) (e : SectionEvent) → HasNoneOf q (e ∷ []) → OthersRunOn q a b → OthersRunOn q a (e ∷ b)
others_more q a b e none g = others_on q a b (e ∷ b) g (e ∷ [], refl, none)

pub goes_on : (a b c : List SectionEvent) → RunGoesOn a b → RunGoesOn b c → RunGoesOn a c
goes_on a b c g h = (h.0 ++ g.0, h.1 ∙ (ap (λ xs. h.0 ++ xs) g.1 ∙ sym (append_assoc h.0 g.0 a)))

-- Words

pub word_own : (n w : ℕ) (q : ℕ) → (if eqb q q then n else w) ≡ n
word_own n w q = ap (λ b. if b then n else w) (eq-eqb q q refl)

pub word_other : (n w p q : ℕ) → p ≢ q → (if eqb p q then n else w) ≡ w
word_other n w p q ne = ap (λ b. if b then n else w) (ne_eqb p q ne)

-- events of others leave a section's word
pub word_stays : (q : ℕ) (more run : List SectionEvent) → HasNoneOf q more → word_in q (more ++ run) ≡ word_in q run
word_stays q [] run h = refl
word_stays q (Entered p n ∷ more) run h = word_other (n + 1) (word_in q (more ++ run)) p q h.0 ∙ word_stays q more run h.1
word_stays q (Left p ∷ more) run h = word_other 0 (word_in q (more ++ run)) p q h.0 ∙ word_stays q more run h.1
word_stays q (Taken ∷ more) run h = word_stays q more run h

pub word_kept : (q : ℕ) (a b : List SectionEvent) → OthersRunOn q a b → word_in q b ≡ word_in q a
word_kept q a b g = ap (word_in q) g.1 ∙ word_stays q g.0 a g.2

pub word_never : (q : ℕ) (run : List SectionEvent) → HasNoneOf q run → word_in q run ≡ 0
word_never q [] h = refl
word_never q (Entered p n ∷ run) h = word_other (n + 1) (word_in q run) p q h.0 ∙ word_never q run h.1
word_never q (Left p ∷ run) h = word_other 0 (word_in q run) p q h.0 ∙ word_never q run h.1
word_never q (Taken ∷ run) h = word_never q run h

-- Moments

pub moments_more : (more run : List SectionEvent) → moments_in run ≤ moments_in (more ++ run)
moments_more [] run = omega arith
moments_more (Entered p n ∷ more) run = moments_more more run
moments_more (Left p ∷ more) run = moments_more more run
moments_more (Taken ∷ more) run = let h : moments_in run ≤ moments_in (more ++ run) = moments_more more run in omega arith

pub moments_grow : (q : ℕ) (a b : List SectionEvent) → OthersRunOn q a b → moments_in a ≤ moments_in b
moments_grow q a b g = subst (λ z. moments_in a ≤ moments_in z) (sym g.1) (moments_more g.0 a)

pub moments_bounded : (run : List SectionEvent) → IsLawfulRun run → moments_in run ≤ MOST_MOMENTS
moments_bounded [] law = omega arith
moments_bounded (Entered p n ∷ run) law = moments_bounded run law.1
moments_bounded (Left p ∷ run) law = moments_bounded run law.1
moments_bounded (Taken ∷ run) law = let h = law.0 in omega arith

-- a section was entered with no more moments than had been taken
pub word_bounded : (q : ℕ) (run : List SectionEvent) → IsLawfulRun run → word_in q run ≤ suc (moments_in run)
word_bounded q [] law = omega arith
word_bounded q (Entered p n ∷ run) law = ⊎_elim
    (λ (e : (eqb p q ≡ true) × (p ≡ q)). subst (λ b. (if b then n + 1 else word_in q run) ≤ suc (moments_in run)) (sym e.0) (let h = law.0.1 in omega arith))
    (λ (e : (eqb p q ≡ false) × (p ≢ q)). subst (λ b. (if b then n + 1 else word_in q run) ≤ suc (moments_in run)) (sym e.0) (word_bounded q run law.1))
    (eqb_tells p q)
word_bounded q (Left p ∷ run) law = ⊎_elim
    (λ (e : (eqb p q ≡ true) × (p ≡ q)). subst (λ b. (if b then 0 else word_in q run) ≤ suc (moments_in run)) (sym e.0) (omega arith))
    (λ (e : (eqb p q ≡ false) × (p ≢ q)). subst (λ b. (if b then 0 else word_in q run) ≤ suc (moments_in run)) (sym e.0) (word_bounded q run law.1))
    (eqb_tells p q)
word_bounded q (Taken ∷ run) law = let h : word_in q run ≤ suc (moments_in run) = word_bounded q run law.1 in omega arith
