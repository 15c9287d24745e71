-- The sides of a fork, each over the columns that it uses.
use Rattle.compound_node.proofs.Common.{List, [], ap, arith, drop, get_or, length, length-append, map, refl, subst, sym, take, ℕ, ◌%◌, ◌+◌, ◌<◌, ◌^◌, ◌∙◌, ◌∷◌, ◌≡◌, ◌≤◌, false≢true, All, covers_one, covers_zero, front_size, half_shows, root_first, IsColumns-kept, covers_self, piece_of_covered, shown_some_column, IsColumns, piece_of, Covers, ShowsPiece, or_all, squeezed, used_bits, length-places, size_pos, kept, Fork, Piece, Place, places, size, front_below}
use Rattle.compound_node.proofs.Forking.{fit_from_shown}
use Rattle.compound_node.specs.Halves.{CutShows, HalfShows}
use Rattle.compound_node.specs.Nodes.{FitTogether, IsEntry}
use Rattle.compound_node.specs.declared.entries.Entry.TheVariants.{Leaf}
use Rattle.compound_node.specs.declared.entries.Entry.{Entry}
use Rattle.compound_node.specs.declared.halves.Half.{Half}

-- ---- the columns that rows use
module _ (columns rows : List ℕ) (entries : List Entry) (P : Piece Entry) (covers : Covers columns rows entries P) (more : 2 ≤ length entries) where
  pub some_used : 0 < length (kept (used_bits (or_all rows)) columns)
  some_used = shown_some_column (kept (used_bits (or_all rows)) columns) (map (squeezed (or_all rows)) rows) entries P (half_shows columns rows entries P covers) more

  pub fit_used : length entries ≤ 32 → IsColumns columns → All IsEntry entries → FitTogether (kept (used_bits (or_all rows)) columns) (map (squeezed (or_all rows)) rows) entries
  fit_used room positions children =
      fit_from_shown (kept (used_bits (or_all rows)) columns) (map (squeezed (or_all rows)) rows) entries P (half_shows columns rows entries P covers) more room
      (IsColumns-kept (used_bits (or_all rows)) columns positions some_used) children

-- ---- the two sides of the root fork
-- what a cut needs, for the piece that a node shows
pub record Parts (cs rows : List ℕ) (es : List Entry) (Q : Piece Entry) : Type 0 where
  pub front_some : 0 < front_below (2 ^ 31) rows
  pub front_within : front_below (2 ^ 31) rows < length es
  pub zero_covers : Covers cs (take (front_below (2 ^ 31) rows) rows) (take (front_below (2 ^ 31) rows) es) (piece_of (Leaf 0) cs (take (front_below (2 ^ 31) rows) rows) (take (front_below (2 ^ 31) rows) es))
  pub one_covers : Covers cs (map (λ r. r % 2 ^ 31) (drop (front_below (2 ^ 31) rows) rows)) (drop (front_below (2 ^ 31) rows) es)
      (piece_of (Leaf 0) cs (map (λ r. r % 2 ^ 31) (drop (front_below (2 ^ 31) rows) rows)) (drop (front_below (2 ^ 31) rows) es))
  pub shows : (zero one : Half) → HalfShows zero (piece_of (Leaf 0) cs (take (front_below (2 ^ 31) rows) rows) (take (front_below (2 ^ 31) rows) es)) →
      HalfShows one (piece_of (Leaf 0) cs (map (λ r. r % 2 ^ 31) (drop (front_below (2 ^ 31) rows) rows)) (drop (front_below (2 ^ 31) rows) es)) →
      CutShows (record { position = get_or cs 0 0; zero = zero; one = one }) Q

pub parts : (cs rows : List ℕ) (es : List Entry) (Q : Piece Entry) → ShowsPiece cs rows es Q → 2 ≤ length es → Parts cs rows es Q
parts cs rows es (Place x) sh l = absurd (omega (arith, ap length sh.entries_are))
parts [] rows es (Fork p s t) sh l = absurd (false≢true sh.forks_at_columns.0)
parts (c ∷ cs) rows es (Fork p s t) sh l =
    let e : p ≡ c = root_first c p cs rows es s t sh in
    let F : ℕ → Type 0 = λ v. Parts (c ∷ cs) rows es (Fork v s t) in
    let at : ShowsPiece (c ∷ cs) rows es (Fork c s t) = subst (λ v. ShowsPiece (c ∷ cs) rows es (Fork v s t)) e sh in
    let k : front_below (2 ^ 31) rows ≡ size s = front_size c cs rows es s t at in
    let n : length es ≡ size s + size t = ap length sh.entries_are ∙ length-append (places s) (places t) ∙ (rw (length-places s, length-places t) refl) in
    let z : Covers (c ∷ cs) (take (size s) rows) (take (size s) es) s = covers_zero c cs rows es s t at in
    let o : Covers (c ∷ cs) (map (λ r. r % 2 ^ 31) (drop (size s) rows)) (drop (size s) es) t = covers_one c cs rows es s t at in
    subst F (sym e) (record {
      front_some = omega (arith, size_pos s);
      front_within = omega (arith, size_pos t);
      zero_covers = rw k (covers_self (Leaf 0) (c ∷ cs) _ _ s z);
      one_covers = rw k (covers_self (Leaf 0) (c ∷ cs) _ _ t o);
      shows = rw k (λ zero one a b. (
        refl,
        rw (piece_of_covered (Leaf 0) (c ∷ cs) (take (size s) rows) (take (size s) es) s z) at a,
        rw (piece_of_covered (Leaf 0) (c ∷ cs) (map (λ r. r % 2 ^ 31) (drop (size s) rows)) (drop (size s) es) t o) at b,
      ));
    })
