-- More columns in the rows of a node.
use Rattle.compound_node.proofs.Common.{Bool, List, [], ap, arith, cond, false, get_or, length, map, refl, subst, suc, sym, take, true, zero, ℕ, ⊎_elim, ◌++◌, ◌+◌, ◌<◌, ◌||◌, ◌∙◌, ◌∷◌, ◌≡◌, ◌≤◌, eqb, cases_Bool, eqb-true, false≢true, or_cases, or_left, same_bools, take-map, covers-new_column, IsColumns-with_position, IsColumns, spread_row, has-with_position, length-with_position, AllBelow, front_below, has, with_position}
use Rattle.compound_node.specs.Joining.{IsWidened}

-- nothing new
pub widened_none : (count : ℕ) (cs rows : List ℕ) → IsWidened count [] cs rows cs rows
widened_none count cs rows = record { columns = λ q. none (has cs q); positions = λ h. h; rows = λ es shown c. c }
  where
    none : (b : Bool) → b ≡ (b || false)
    none true = refl
    none false = refl

or_assoc : (x y z : Bool) → ((x || y) || z) ≡ (x || (y || z))
or_assoc true y z = refl
or_assoc false y z = refl

has-push : (ps : List ℕ) (p q : ℕ) → has (ps ++ p ∷ []) q ≡ (has ps q || has (p ∷ []) q)
has-push [] p q = refl
has-push (r ∷ ps) p q = rw (has-push ps p q, or_assoc (eqb r q) (has ps q) (has (p ∷ []) q)) refl

-- a column that is there
already : (cs : List ℕ) (p q : ℕ) → has cs p ≡ true → has cs q ≡ (has cs q || has (p ∷ []) q)
already cs p q here = same_bools (has cs q) (has cs q || has (p ∷ []) q) (or_left (has cs q) (has (p ∷ []) q))
    (λ h. ⊎_elim (λ g. g) (λ g. let same : p ≡ q = only p q g in (rw same at here)) (or_cases (has cs q) (has (p ∷ []) q) h))
  where
    only : (p q : ℕ) → has (p ∷ []) q ≡ true → p ≡ q
    only p q g = ⊎_elim (λ e. eqb-true p q e) (λ e. absurd (false≢true e)) (or_cases (eqb p q) false g)

-- one column more
module _ (count : ℕ) (ps old old_rows cs rows : List ℕ) (p : ℕ) (small : p < 65535) (room : has cs p ≡ false → length cs < 31) (before : IsWidened count ps old old_rows cs rows) where
  pub widened_more : (new new_rows : List ℕ) → new ≡ cond (has cs p) cs (with_position p cs) → new_rows ≡ cond (has cs p) rows (map (spread_row (front_below p cs)) rows) →
      IsWidened count (ps ++ p ∷ []) old old_rows new new_rows
  widened_more new new_rows columns_are rows_are = ⊎_elim
      (λ (e : has cs p ≡ true).
      let here : new ≡ cs = (rw e at columns_are) in
      let there : new_rows ≡ rows = (rw e at rows_are) in
      record {
        columns = λ q. ap (λ ds. has ds q) here ∙ already cs p q e ∙ ap (λ b. b || has (p ∷ []) q) (before.columns q) ∙ or_assoc (has old q) (has ps q) (has (p ∷ []) q) ∙ ap (λ b. has old q || b) (sym (has-push ps p q));
        positions = λ h. subst IsColumns (sym here) (before.positions h);
        rows = λ es shown c. rw (here, there) (before.rows es shown c);
      })
      (λ (e : has cs p ≡ false).
      let here : new ≡ with_position p cs = (rw e at columns_are) in
      let there : new_rows ≡ map (spread_row (front_below p cs)) rows = (rw e at rows_are) in
      let front : take count new_rows ≡ map (spread_row (front_below p cs)) (take count rows) = ap (take count) there ∙ take-map (spread_row (front_below p cs)) count rows in
      record {
        columns = λ q. ap (λ ds. has ds q) here ∙ has-with_position p cs q ∙ ap (λ b. b || has (p ∷ []) q) (before.columns q) ∙ or_assoc (has old q) (has ps q) (has (p ∷ []) q) ∙ ap (λ b. has old q || b) (sym (has-push ps p q));
        positions = λ h. subst IsColumns (sym here) (IsColumns-with_position p cs (before.positions h) (room e) small e);
        rows = λ es shown c. rw (here, front) (covers-new_column p cs (take count rows) es shown (room e) e (before.rows es shown c));
      })
      (cases_Bool (has cs p))

pub length-widened : (p : ℕ) (cs new : List ℕ) → new ≡ cond (has cs p) cs (with_position p cs) → length new ≤ length cs + 1
length-widened p cs new e = elim (has cs p) as (λ v. new ≡ cond v cs (with_position p cs) → length new ≤ length cs + 1)
    [ true ↦ λ f. omega (arith, ap length f) | false ↦ λ f. omega (arith, ap length f, length-with_position p cs) ] e

pub below_at : (bound : ℕ) (ps : List ℕ) → AllBelow bound ps → (k : ℕ) → k < length ps → get_or ps k 0 < bound
below_at bound [] b k l = absurd (omega arith)
below_at bound (p ∷ ps) b zero l = b.0
below_at bound (p ∷ ps) b (suc k) l = below_at bound ps b.1 k (omega arith)
