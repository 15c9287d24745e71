-- What the fixed words need of a lawful node.
use Rattle.record_words.proofs.Common.{ℕ, ◌≡◌, ◌-◌, ◌^◌, ◌<◌, ◌≤◌, ◌++◌, ⊎_elim, arith, List, [], ◌∷◌, get_or, length, replicate, lit<, sym, ◌∙◌, refl, zero, suc, length-append, cases_lt, length-map, length-replicate, get_or-map, get_or_past, get_or_append_left, get_or-append_right, get_or-replicate, code-lt, AllBelow, paths, row_of, with_unused, NodeView, IsLawfulNode, piece}
use Rattle.record_words.specs.Packed.{row_at}

pub small_below : (bound : ℕ) (xs : List ℕ) → 0 < bound → AllBelow bound xs → (i : ℕ) → get_or xs i 0 < bound
small_below bound [] some below i = some
small_below bound (x ∷ xs) some below zero = below.0
small_below bound (x ∷ xs) some below (suc i) = small_below bound xs some below.1 i

pub column-lt : (node : NodeView) → IsLawfulNode node → (i : ℕ) → get_or node.columns i 0 < 2 ^ 16
column-lt node lawful i = omega (arith, small_below 65535 node.columns (lit< tt) lawful.positions.below i)

pub row-lt : (node : NodeView) → IsLawfulNode node → (i : ℕ) → get_or node.rows i 0 < 2 ^ 32
row-lt node lawful i =
    ⊎_elim (λ (inside : i < length (paths (piece node))).
    rw (lawful.shows.rows_are, get_or-map (row_of node.columns) (paths (piece node)) i [] 0 inside) (code-lt 32 _))
    (λ (past : length (paths (piece node)) ≤ i). rw (get_or_past node.rows i 0 (rw lawful.shows.rows_are (rw length-map past))) (lit< tt))
    (cases_lt i (length (paths (piece node))))

-- unused places change no element
pub get_or-padded : (xs : List ℕ) (n d i : ℕ) → get_or (xs ++ replicate n d) i d ≡ get_or xs i d
get_or-padded xs n d i =
    ⊎_elim (λ (used : i < length xs). get_or_append_left xs _ d i used)
    (λ (past : length xs ≤ i). get_or-append_right xs _ (length xs) i d refl past ∙ (⊎_elim
    (λ (inside : i - length xs < n). get_or-replicate _ _ d d inside)
    (λ (outside : n ≤ i - length xs). get_or_past (replicate n d) _ d (omega (arith, length-replicate {A = ℕ} n d)))
    (cases_lt (i - length xs) n) ∙ sym (get_or_past xs i d past)))
    (cases_lt i (length xs))

pub row_at-with_unused : (rows : List ℕ) (i : ℕ) → row_at (with_unused rows) i ≡ row_at rows i
row_at-with_unused rows i = get_or-padded rows (32 - length rows) 4294967295 i

pub length-with_unused : (rows : List ℕ) → length rows ≤ 32 → length (with_unused rows) ≡ 32
length-with_unused rows room = length-append rows _ ∙ omega (arith, length-replicate {A = ℕ} (32 - length rows) 4294967295)
