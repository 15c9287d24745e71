-- The notes of all passes of an index.
use Rattle.linearizability.proofs.Common.{◌≡◌, ◌≢◌, ℕ, zero, suc, ◌<◌, ◌≤◌, List, [], ◌∷◌, ◌++◌, refl, sym, ap₂, subst, ◌∙◌, arith, ⊎_elim, le_refl, append_assoc, All, IsPermutation, cases_eq, All-cons, All-nil, IsPermutation-append_comm, IsPermutation-append_right, Change, Note, LegalCalls, AllLegal, notes_of}

-- the passes of numbers below n, with these notes
abbrev pub passes_below : (ℕ → List Note) → ℕ → List (ℕ × List Note)
passes_below notes zero = []
passes_below notes (suc n) = (n, notes n) ∷ passes_below notes n

pub notes_same : (f g : ℕ → List Note) (n : ℕ) → ((o : ℕ) → o < n → g o ≡ f o) → notes_of (passes_below f n) ≡ notes_of (passes_below g n)
notes_same f g zero h = refl
notes_same f g (suc n) h = ap₂ (λ xs ys. xs ++ ys) (sym (h n (omega arith))) (notes_same f g n (λ o low. h o (omega arith)))

-- one pass has noted more
pub notes_more : (f g : ℕ → List Note) (p : ℕ) (added : List Note) → g p ≡ f p ++ added → ((o : ℕ) → o ≢ p → g o ≡ f o) → (n : ℕ) → p < n →
    IsPermutation (notes_of (passes_below f n) ++ added) (notes_of (passes_below g n))
notes_more f g p added own others zero low = absurd (omega arith)
notes_more f g p added own others (suc n) low = ⊎_elim here (λ ne. there ne (notes_more f g p added own others n (omega arith))) (cases_eq n p)
  where
    rest : List Note
    rest = notes_of (passes_below f n)

    here : n ≡ p → IsPermutation ((f n ++ rest) ++ added) (g n ++ notes_of (passes_below g n))
    here e =
        let more : g n ≡ f n ++ added = subst (λ k. g k ≡ f k ++ added) (sym e) own in
        let same : rest ≡ notes_of (passes_below g n) = notes_same f g n (λ o lower. others o (λ is. omega arith)) in
        subst (IsPermutation ((f n ++ rest) ++ added)) (sym (append_assoc (f n) added rest) ∙ ap₂ (λ xs ys. xs ++ ys) (sym more) same)
        (subst (λ xs. IsPermutation xs (f n ++ (added ++ rest))) (sym (append_assoc (f n) rest added)) (IsPermutation-append_right (f n) (rest ++ added) (added ++ rest) (IsPermutation-append_comm rest added)))

    there : n ≢ p → IsPermutation (rest ++ added) (notes_of (passes_below g n)) → IsPermutation ((f n ++ rest) ++ added) (g n ++ notes_of (passes_below g n))
    there ne more = subst (λ xs. IsPermutation ((f n ++ rest) ++ added) (xs ++ notes_of (passes_below g n))) (sym (others n ne))
        (subst (λ xs. IsPermutation xs (f n ++ notes_of (passes_below g n))) (sym (append_assoc (f n) rest added))
        (IsPermutation-append_right (f n) (rest ++ added) (notes_of (passes_below g n)) more))

-- Legal calls of each

others_above : (notes : ℕ → List Note) (n m : ℕ) → n ≤ m → All (λ other. other.0 ≢ m) (passes_below notes n)
others_above notes zero m low = All-nil (λ other. other.0 ≢ m)
others_above notes (suc n) m low = All-cons (λ other. other.0 ≢ m) (n, notes n) (passes_below notes n) (λ e. omega arith) (others_above notes n m (omega arith))

pub all_legal : (changes : List Change) (notes : ℕ → List Note) (n : ℕ) → ((q : ℕ) → q < n → LegalCalls changes q (notes q)) → AllLegal changes (passes_below notes n)
all_legal changes notes zero legal = tt
all_legal changes notes (suc n) legal = (legal n (omega arith), others_above notes n n (le_refl n), all_legal changes notes n (λ q low. legal q (omega arith)))
