-- Two nodes under one fork.
use Rattle.compound_node.proofs.Common.{Bool, List, ap, arith, bit_or, eqb, get_or, length, length-append, map, refl, subst, sym, take, true, ℕ, ⊎_elim, ◌++◌, ◌+◌, ◌<◌, ◌||◌, ◌∙◌, ◌∷◌, ◌≡◌, ◌≤◌, eq-eqb, or_cases, or_left, or_right, take_at, All-append, weight, shows-fork, piece_of_shown, covers_of, shown_columns, with_unused, piece_of, Covers, ShowsPiece, same_rising, all_at, AtRootFork, Fork, Piece, Place, RisesFrom, uses, front_below, has}
use Rattle.std.proofs.Math.Bool.{or_assoc, or_comm}
use Rattle.compound_node.proofs.Forking.{fit_from_shown}
use Rattle.compound_node.proofs.Lawful.{same_count}
use Rattle.compound_node.proofs.Roots.{first_below, first_column}
use Rattle.compound_node.specs.Joining.{IsWidened}
use Rattle.compound_node.specs.Nodes.{FitTogether, IsEntry, IsLawfulNode, NodeView, piece}
use Rattle.compound_node.specs.declared.entries.Entry.{Entry}
use Rattle.compound_node.specs.declared.entries.Entry.TheVariants.{Leaf}

root_after : (low first : ℕ) (P : Piece Entry) → AtRootFork (λ p zero one. first ≡ p) P → RisesFrom low P → low ≤ first
root_after low first (Place x) root rises = elim root [ ]
root_after low first (Fork p a b) root rises = let k : low < p + 1 = rises.0 in let e : first ≡ p = root in omega arith

turned : (x y z : Bool) → (x || (y || z)) ≡ (z || (y || x))
turned x y z = or_comm x (y || z) ∙ ap (λ b. b || x) (or_comm y z) ∙ or_assoc z y x

module _ (p : ℕ) (zero one : NodeView) (zero_lawful : IsLawfulNode zero) (one_lawful : IsLawfulNode one) (after : RisesFrom 0 (Fork p (piece zero) (piece one))) where
  -- the fork's position is one that a column may have
  pub join_below : p < 65535
  join_below =
      let h : (0 < length zero.columns) × AtRootFork (λ q a b. get_or zero.columns 0 0 ≡ q) (piece zero) = first_column zero zero_lawful in
      omega (arith, first_below zero.columns zero_lawful.positions.below, root_after (p + 1) (get_or zero.columns 0 0) (piece zero) h.1 after.1)

  module _ (room : length zero.entries + length one.entries ≤ 32) where
    -- there is room for the columns of both and the position
    pub join_columns : length zero.columns + length one.columns < 31
    join_columns = omega (
      arith,
      room,
      shown_columns zero.columns zero.rows zero.entries (piece zero) zero_lawful.shows,
      shown_columns one.columns one.rows one.entries (piece one) one_lawful.shows,
    )

    module _ (m n : ℕ) (zero_count : m ≡ length zero.entries) (one_count : n ≡ length one.entries) (cs zero_rows ds one_rows : List ℕ)
        (zero_wide : IsWidened m (p ∷ one.columns) zero.columns (with_unused zero.rows) cs zero_rows)
        (one_wide : IsWidened n (p ∷ zero.columns) one.columns (with_unused one.rows) ds one_rows) where
      covers_before : (node : NodeView) → IsLawfulNode node → (k : ℕ) → k ≡ length node.entries → Covers node.columns (take k (with_unused node.rows)) node.entries (piece node)
      covers_before node lawful k counted = subst (λ rows. Covers node.columns rows node.entries (piece node))
          (sym (take_at node.rows _ k (same_count node lawful ∙ sym counted))) (covers_of node.columns node.rows node.entries (piece node) lawful.shows)

      zero_covers : Covers cs (take m zero_rows) zero.entries (piece zero)
      zero_covers = zero_wide.rows zero.entries (piece zero) (covers_before zero zero_lawful m zero_count)

      one_covers : Covers ds (take n one_rows) one.entries (piece one)
      one_covers = one_wide.rows one.entries (piece one) (covers_before one one_lawful n one_count)

      same_columns : cs ≡ ds
      same_columns = same_rising 0 cs ds zero_covers.columns_rise one_covers.columns_rise
          (λ q. zero_wide.columns q ∙ turned (has zero.columns q) (eqb p q) (has one.columns q) ∙ sym (one_wide.columns q))

      has_position : has cs p ≡ true
      has_position = zero_wide.columns p ∙ or_right (has zero.columns p) (eqb p p || has one.columns p) (or_left (eqb p p) (has one.columns p) (eq-eqb p p refl))

      all_used : (q : ℕ) → has cs q ≡ true → uses (Fork p (piece zero) (piece one)) q ≡ true
      all_used q h = ⊎_elim
          (λ (g : has zero.columns q ≡ true). or_right (eqb p q) (uses (piece zero) q || uses (piece one) q)
          (or_left (uses (piece zero) q) (uses (piece one) q) (all_at (uses (piece zero)) zero.columns q zero_lawful.shows.columns_used g)))
          (λ g. ⊎_elim (λ (f : eqb p q ≡ true). or_left (eqb p q) (uses (piece zero) q || uses (piece one) q) f)
          (λ (f : has one.columns q ≡ true). or_right (eqb p q) (uses (piece zero) q || uses (piece one) q)
          (or_right (uses (piece zero) q) (uses (piece one) q) (all_at (uses (piece one)) one.columns q one_lawful.shows.columns_used f)))
          (or_cases (eqb p q) (has one.columns q) g))
          (or_cases (has zero.columns q) (eqb p q || has one.columns q) (sym (zero_wide.columns q) ∙ h))

      -- the position is one of at most 31
      pub join_place : (k : ℕ) → k ≤ length cs → k ≤ 31
      join_place k l = omega (arith, zero_covers.few)

      abbrev pub both_rows : List ℕ
      both_rows = take m zero_rows ++ map (λ row. bit_or row (weight (front_below p cs))) (take n one_rows)

      join_shows : ShowsPiece cs both_rows (zero.entries ++ one.entries) (Fork p (piece zero) (piece one))
      join_shows = shows-fork cs p (take m zero_rows) (take n one_rows) zero.entries one.entries (piece zero) (piece one) has_position zero_covers
          (subst (λ es. Covers es (take n one_rows) one.entries (piece one)) (sym same_columns) one_covers) after all_used

      pub join_fits : FitTogether cs both_rows (zero.entries ++ one.entries)
      join_fits = fit_from_shown cs both_rows (zero.entries ++ one.entries) (Fork p (piece zero) (piece one)) join_shows
          (omega (arith, length-append zero.entries one.entries, zero_lawful.several)) (omega (arith, length-append zero.entries one.entries, room)) (zero_wide.positions zero_lawful.positions)
          (All-append IsEntry zero.entries one.entries zero_lawful.children one_lawful.children)

      pub join_piece : piece_of (Leaf 0) cs both_rows (zero.entries ++ one.entries) ≡ Fork p (piece zero) (piece one)
      join_piece = piece_of_shown (Leaf 0) cs both_rows (zero.entries ++ one.entries) (Fork p (piece zero) (piece one)) join_shows
