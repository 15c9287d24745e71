-- The rows of two pieces below a fork.
use Rattle.partial_keys.proofs.Common.{Bool, List, [], ap, ap₂, arith, bit_or, drop, eqb, false, length, length-append, map, refl, sym, take, true, ℕ, ◌++◌, ◌+◌, ◌<◌, ◌||◌, ◌∙◌, ◌∷◌, ◌≡◌, and_from, eq-eqb, or_left, or_right, length-take-le, map-append, take-append-drop, code, none_has, Ascends-with_position, IsPlaceOf, front_below-place, has-with_position, length-with_position, with_position-split, map_same, UsesOnly-more, Fork, Piece, paths, RisesFrom, uses, all, front_below, has, with_position}
use Rattle.partial_keys.proofs.Rows.{code-or}
use Rattle.partial_keys.proofs.Rows.Growing.{weight, weight_at}
use Rattle.partial_keys.proofs.Spread.{rows-new_column}
use Rattle.partial_keys.specs.Rows.{row_of, rows_of}
use Rattle.partial_keys.specs.Shows.{Covers, ShowsPiece}
use Rattle.partial_keys.specs.Spread.{spread_row}

-- the path through one fork more has its bit, too
row_of-below : (cs : List ℕ) (p : ℕ) (path : List ℕ) → row_of cs (p ∷ path) ≡ bit_or (row_of cs path) (row_of cs (p ∷ []))
row_of-below cs p path = ap (code 32) (map_same (has (p ∷ path)) (λ c. has path c || has (p ∷ []) c) cs (λ c. turned (eqb p c) (has path c))) ∙ code-or 32 (has path) (has (p ∷ [])) cs
  where
    turned : (x y : Bool) → (x || y) ≡ (y || (x || false))
    turned true true = refl
    turned true false = refl
    turned false true = refl
    turned false false = refl

rows-below : (cs : List ℕ) (p : ℕ) (zs : List (List ℕ)) → map (row_of cs) (map (λ path. p ∷ path) zs) ≡ map (λ row. bit_or row (row_of cs (p ∷ []))) (map (row_of cs) zs)
rows-below cs p [] = refl
rows-below cs p (z ∷ zs) = rw (row_of-below cs p z, rows-below cs p zs) refl

pub all_of : (t : ℕ → Bool) (ps : List ℕ) → ((p : ℕ) → has ps p ≡ true → t p ≡ true) → all t ps ≡ true
all_of t [] h = refl
all_of t (p ∷ ps) h = and_from (t p) (all t ps) (h p (or_left (eqb p p) (has ps p) (eq-eqb p p refl))) (all_of t ps (λ q g. h q (or_right (eqb p q) (has ps q) g)))

module _ {A : Type 0} where
  -- a column that no fork uses, in which each row has 0
  pub covers-new_column : (p : ℕ) (cs rows : List ℕ) (es : List A) (P : Piece A) → length cs < 31 → has cs p ≡ false → Covers cs rows es P →
      Covers (with_position p cs) (map (spread_row (front_below p cs)) rows) es P
  covers-new_column p cs rows es P room off cov =
      let j : ℕ = front_below p cs in
      let place : IsPlaceOf cs p j = front_below-place p cs in
      let long : length (take j cs) ≡ j = length-take-le j cs place.in_range in
      let whole : take j cs ++ drop j cs ≡ cs = take-append-drop j cs in
      let split : with_position p cs ≡ take j cs ++ p ∷ drop j cs = with_position-split p cs in
      let parts : length (take j cs) + length (drop j cs) ≡ length cs = sym (length-append (take j cs) (drop j cs)) ∙ ap length whole in
      record {
        few = omega (arith, length-with_position p cs);
        columns_rise = Ascends-with_position p 0 cs (omega arith) off cov.columns_rise;
        forks_at_columns = UsesOnly-more cs (with_position p cs) P (λ c h. has-with_position p cs c ∙ or_left (has cs c) (has (p ∷ []) c) h) cov.forks_at_columns;
        paths_rise = cov.paths_rise;
        rows_are = ap (map (spread_row j)) cov.rows_are
            ∙ ap₂ (λ k ds. map (spread_row k) (map (row_of ds) (paths P))) (sym long) (sym whole)
            ∙ sym (rows-new_column (take j cs) (drop j cs) p (paths P) (omega (arith, parts)) (none_has cs p P off cov.forks_at_columns))
            ∙ ap (λ ds. map (row_of ds) (paths P)) (sym split);
        entries_are = cov.entries_are;
      }

  module _ (cs : List ℕ) (p : ℕ) (zero_rows one_rows : List ℕ) (zero_entries one_entries : List A) (zero one : Piece A) where
    -- THE TWO SIDES OF A FORK, over the columns of both
    pub shows-fork : has cs p ≡ true → Covers cs zero_rows zero_entries zero → Covers cs one_rows one_entries one → RisesFrom 0 (Fork p zero one) →
        ((q : ℕ) → has cs q ≡ true → uses (Fork p zero one) q ≡ true) →
        ShowsPiece cs (zero_rows ++ map (λ row. bit_or row (weight (front_below p cs))) one_rows) (zero_entries ++ one_entries) (Fork p zero one)
    shows-fork here cz co rises used =
        let w : weight (front_below p cs) ≡ row_of cs (p ∷ []) = weight_at p cs cz.few cz.columns_rise here in
        record {
          few = cz.few;
          columns_rise = cz.columns_rise;
          forks_at_columns = (here, cz.forks_at_columns, co.forks_at_columns);
          columns_used = all_of (uses (Fork p zero one)) cs used;
          paths_rise = rises;
          rows_are = ap₂ (λ xs ys. xs ++ map (λ row. bit_or row (weight (front_below p cs))) ys) cz.rows_are co.rows_are
              ∙ ap (λ b. rows_of cs zero ++ map (λ row. bit_or row b) (rows_of cs one)) w
              ∙ ap (λ ys. rows_of cs zero ++ ys) (sym (rows-below cs p (paths one)))
              ∙ sym (map-append (row_of cs) (paths zero) (map (λ path. p ∷ path) (paths one)));
          entries_are = ap₂ (λ xs ys. xs ++ ys) cz.entries_are co.entries_are;
        }
