-- What rows show, with a new fork and with a new column.
use Rattle.partial_keys.proofs.Common.{Bool, List, [], ap, arith, eqb, false, length, length-append, map, refl, sym, true, ℕ, ◌++◌, ◌+◌, ◌-◌, ◌<◌, ◌∙◌, ◌∷◌, ◌≡◌, ◌≤◌, eq-eqb, false≢true, or_left, or_right, length-map, affected_fits, places-grown, UsesOnly-grown, RisesFrom-grown, uses-grown, fresh_from_columns, length-places, length-paths, none_has, has-bigger, has-here, all_weaker, all-put, fewer_columns, UsesOnly-more, replaced, affected_first, affected_count, IsFresh, IsAffected, grown, edited, forked_places, Piece, Place, Fork, size, paths, uses, has, Ascends}
use Rattle.std.specs.Prelude.{set}
use Rattle.partial_keys.proofs.Spread.{rows-grown, rows-new_column}
use Rattle.partial_keys.specs.Rows.{row_of}
use Rattle.partial_keys.specs.Shows.{ShowsPiece, Covers}
use Rattle.partial_keys.specs.Spread.{spread_row, forked_rows}
use Rattle.node_tries.proofs.Changes.Replacing.{paths-replaced, places-replaced, uses-replaced, UsesOnly-replaced, RisesFrom-replaced}

module _ {A : Type 0} where
  pub covered_length : (cs rows : List ℕ) (es : List A) (Q : Piece A) → Covers cs rows es Q → length rows ≡ length es
  covered_length cs rows es Q cov = rw (cov.rows_are, cov.entries_are, length-map (paths Q) (row_of cs), length-paths Q, length-places Q) refl

  pub covers_of : (cs rows : List ℕ) (es : List A) (Q : Piece A) → ShowsPiece cs rows es Q → Covers cs rows es Q
  covers_of cs rows es Q sh = record {
    few = sh.few;
    columns_rise = sh.columns_rise;
    forks_at_columns = sh.forks_at_columns;
    paths_rise = sh.paths_rise;
    rows_are = sh.rows_are;
    entries_are = sh.entries_are;
  }

  pub same_length : (cs rows : List ℕ) (es : List A) (Q : Piece A) → ShowsPiece cs rows es Q → length rows ≡ length es
  same_length cs rows es Q sh = covered_length cs rows es Q (covers_of cs rows es Q sh)

  -- there are fewer columns than entries
  pub shown_columns : (columns rows : List ℕ) (entries : List A) (P : Piece A) → ShowsPiece columns rows entries P → length columns < length entries
  shown_columns columns rows entries P sh = rw sh.entries_are (rw (length-places P) (fewer_columns P columns sh.columns_rise sh.columns_used))

  -- a node of two entries has a column
  pub shown_some_column : (columns rows : List ℕ) (entries : List A) (P : Piece A) → ShowsPiece columns rows entries P → 2 ≤ length entries → 0 < length columns
  shown_some_column columns rows entries (Place x) sh l = absurd (omega (arith, l, ap length sh.entries_are))
  shown_some_column [] rows entries (Fork p a b) sh l = absurd (false≢true sh.forks_at_columns.0)
  shown_some_column (c ∷ columns) rows entries (Fork p a b) sh l = omega arith

  -- another entry at a place
  pub shows-replaced : (columns rows : List ℕ) (entries : List A) (P : Piece A) (i : ℕ) (x : A) → ShowsPiece columns rows entries P → i < length entries →
      ShowsPiece columns rows (set entries i x) (replaced i x P)
  shows-replaced columns rows entries P i x sh l = record {
    few = sh.few;
    columns_rise = sh.columns_rise;
    forks_at_columns = UsesOnly-replaced x columns i P sh.forks_at_columns;
    columns_used = all_weaker (uses P) (uses (replaced i x P)) columns (λ c u. uses-replaced x i P c ∙ u) sh.columns_used;
    paths_rise = RisesFrom-replaced x 0 i P sh.paths_rise;
    rows_are = sh.rows_are ∙ sym (ap (map (row_of columns)) (paths-replaced x i P));
    entries_are = ap (λ es. set es i x) sh.entries_are ∙ sym (places-replaced x i P (omega (arith, l, ap length sh.entries_are, length-places P)));
  }

  pub affected_range : (cs rows : List ℕ) (es : List A) (Q : Piece A) (p first last : ℕ) → ShowsPiece cs rows es Q → IsAffected Q p first last →
      (first ≤ last) × (last < length es) × (last + 1 - first ≡ affected_count p first Q)
  affected_range cs rows es Q p first last sh aff =
      let h : (affected_first p first Q + affected_count p first Q ≤ size Q) × (0 < affected_count p first Q) = affected_fits p Q first in
      let n : length es ≡ size Q = rw sh.entries_are (length-places Q) in
      let f : affected_first p first Q ≡ first = aff.from in
      let u : affected_count p first Q + first ≡ last + 1 = aff.upto in
      (omega arith, omega (arith, h.0), omega arith)

  module _ (p : ℕ) (bit : Bool) (x : A) (P : Piece A) (i : ℕ) where
    -- THE NEW ENTRY, where the position is a column
    pub shows-grown : (cs rows : List ℕ) (entries : List A) → ShowsPiece cs rows entries P → has cs p ≡ true → IsFresh p i P →
        ShowsPiece cs (edited (affected_first p i P) (affected_count p i P) (forked_rows (row_of cs (p ∷ [])) bit) rows)
        (edited (affected_first p i P) (affected_count p i P) (forked_places bit x) entries) (grown p bit x i P)
    shows-grown cs rows entries s h fresh = record {
      few = s.few;
      columns_rise = s.columns_rise;
      forks_at_columns = UsesOnly-grown p bit x cs P i h s.forks_at_columns;
      columns_used = all_weaker (uses P) (uses (grown p bit x i P)) cs (λ c u. uses-grown p bit x P i c (or_right (eqb p c) (uses P c) u)) s.columns_used;
      paths_rise = RisesFrom-grown p bit x 0 i P (omega arith) fresh s.paths_rise;
      rows_are = rw s.rows_are (sym (rows-grown cs p bit x P 0 i s.paths_rise));
      entries_are = rw s.entries_are (sym (places-grown p bit x P i));
    }

    -- THE NEW ENTRY, where the position becomes a column
    pub shows-grown_column : (xs ys rows : List ℕ) (entries : List A) → ShowsPiece (xs ++ ys) rows entries P → length xs + length ys ≤ 30 →
        Ascends 0 (xs ++ p ∷ ys) → has (xs ++ ys) p ≡ false →
        ShowsPiece (xs ++ p ∷ ys) (edited (affected_first p i P) (affected_count p i P) (forked_rows (row_of (xs ++ p ∷ ys) (p ∷ [])) bit) (map (spread_row (length xs)) rows))
        (edited (affected_first p i P) (affected_count p i P) (forked_places bit x) entries) (grown p bit x i P)
    shows-grown_column xs ys rows entries s room rise h =
        let cs : List ℕ = xs ++ p ∷ ys in
        let bigger : (c : ℕ) → has (xs ++ ys) c ≡ true → has cs c ≡ true = has-bigger xs ys p in
        let here : has cs p ≡ true = has-here xs ys p in
        record {
          few = rw (length-append xs (p ∷ ys)) (omega arith);
          columns_rise = rise;
          forks_at_columns = UsesOnly-grown p bit x cs P i here (UsesOnly-more (xs ++ ys) cs P bigger s.forks_at_columns);
          columns_used = all-put (uses (grown p bit x i P)) p xs ys (uses-grown p bit x P i p (or_left (eqb p p) (uses P p) (eq-eqb p p refl)))
              (all_weaker (uses P) (uses (grown p bit x i P)) (xs ++ ys) (λ c u. uses-grown p bit x P i c (or_right (eqb p c) (uses P c) u)) s.columns_used);
          paths_rise = RisesFrom-grown p bit x 0 i P (omega arith) (fresh_from_columns (xs ++ ys) p i P h s.forks_at_columns) s.paths_rise;
          rows_are = rw (s.rows_are, ← rows-new_column xs ys p (paths P) room (none_has (xs ++ ys) p P h s.forks_at_columns)) (sym (rows-grown cs p bit x P 0 i s.paths_rise));
          entries_are = rw s.entries_are (sym (places-grown p bit x P i));
        }
