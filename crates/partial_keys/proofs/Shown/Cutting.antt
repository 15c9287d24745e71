-- A part of a piece shows itself by the columns that it uses.
use Rattle.partial_keys.proofs.Common.{List, [], ap, arith, cond, drop, length, map, refl, sym, take, true, ℕ, ◌%◌, ◌&&◌, ◌*◌, ◌++◌, ◌+◌, ◌^◌, ◌∙◌, ◌∷◌, ◌≡◌, ◌≤◌, and_parts, drop_at, length-map, map-append, take_at, mod_low, map-map, code-lt, code, NoneHas, length-places, length-paths, RisesFrom-weaker, none_before, has_after, Ascends-kept, map-kept, length-kept, map_same, uses_after, any-uses, all-used, UsesOnly-used, kept, Piece, Fork, places, size, paths, RisesFrom, UsesOnly, uses, used_columns, has, all, any, Ascends, front_below}
use Rattle.partial_keys.proofs.Rows.{code-or, code-falses, squeezed-code}
use Rattle.partial_keys.proofs.Shown.{row, row-skip, row-set, front_part}
use Rattle.partial_keys.proofs.Squeezed.{kept_coded}
use Rattle.partial_keys.specs.Rows.{row_of, rows_of}
use Rattle.partial_keys.specs.Shows.{ShowsPiece, Covers}
use Rattle.partial_keys.specs.Squeezed.{used_bits, squeezed, or_all}

pub row_of-used : {A : Type 0} (P : Piece A) (cs path : List ℕ) → length cs ≤ 32 → row_of (used_columns P cs) path ≡ squeezed (code 32 (map (uses P) cs)) (row_of cs path)
row_of-used P cs path l =
    ap (code 32) (map-kept (has path) (map (uses P) cs) cs)
    ∙ sym (squeezed-code (map (uses P) cs) (map (has path) cs) (length-map cs (uses P) ∙ sym (length-map cs (has path))) (rw (length-map cs (has path)) l))

-- ---- which columns rows use
or_all-rows : (cs : List ℕ) (zs : List (List ℕ)) → or_all (map (row_of cs) zs) ≡ code 32 (map (λ c. any (λ z. has z c) zs) cs)
or_all-rows cs [] = sym (code-falses 32 cs)
or_all-rows cs (z ∷ zs) = rw (or_all-rows cs zs) (sym (code-or 32 (has z) (λ c. any (λ y. has y c) zs) cs))

module _ {A : Type 0} where
  pub or_all-piece : (cs : List ℕ) (P : Piece A) → or_all (rows_of cs P) ≡ code 32 (map (uses P) cs)
  or_all-piece cs P = or_all-rows cs (paths P) ∙ ap (code 32) (map_same (λ c. any (λ z. has z c) (paths P)) (uses P) cs (any-uses P))

  -- A PIECE over columns of which it does not use all, and over those that it uses
  pub shows-used : (cs : List ℕ) (low : ℕ) (P : Piece A) → length cs ≤ 31 → Ascends 0 cs → UsesOnly cs P → RisesFrom 0 P →
      ShowsPiece (used_columns P cs) (map (squeezed (code 32 (map (uses P) cs))) (rows_of cs P)) (places P) P
  shows-used cs low P l a u r = record {
    few = let k : length (used_columns P cs) ≤ length cs = length-kept (map (uses P) cs) cs in omega arith;
    columns_rise = Ascends-kept 0 (map (uses P) cs) cs a;
    forks_at_columns = UsesOnly-used P cs P (λ q v. v) u;
    columns_used = all-used P cs;
    paths_rise = r;
    rows_are = map-map (squeezed (code 32 (map (uses P) cs))) (row_of cs) (paths P) ∙ sym (map_rows (paths P));
    entries_are = refl;
  }
    where
      map_rows : (zs : List (List ℕ)) → map (row_of (used_columns P cs)) zs ≡ map (λ z. squeezed (code 32 (map (uses P) cs)) (row_of cs z)) zs
      map_rows [] = refl
      map_rows (z ∷ zs) = rw (row_of-used P cs z (omega arith), map_rows zs) refl

  pub half_shows : (cs rows : List ℕ) (es : List A) (Q : Piece A) → Covers cs rows es Q →
      ShowsPiece (kept (used_bits (or_all rows)) cs) (map (squeezed (or_all rows)) rows) es Q
  half_shows cs rows es Q cov =
      let few : length cs ≤ 31 = cov.few in
      let u : or_all rows ≡ code 32 (map (uses Q) cs) = ap or_all cov.rows_are ∙ or_all-piece cs Q in
      let k : kept (used_bits (code 32 (map (uses Q) cs))) cs ≡ used_columns Q cs = kept_coded (map (uses Q) cs) cs (length-map cs (uses Q)) (rw (length-map cs (uses Q)) (omega arith)) in
      rw (u, k, cov.rows_are, cov.entries_are) (shows-used cs 0 Q few cov.columns_rise cov.forks_at_columns cov.paths_rise)

  -- the root fork is at the first column
  pub root_first : (c p : ℕ) (cs rows : List ℕ) (entries : List A) (s t : Piece A) → ShowsPiece (c ∷ cs) rows entries (Fork p s t) → p ≡ c
  root_first c p cs rows entries s t sh =
      let used : (uses (Fork p s t) c && all (uses (Fork p s t)) cs) ≡ true = sh.columns_used in
      let below : p ≤ c = uses_after p (Fork p s t) c (omega arith, sh.paths_rise.1, sh.paths_rise.2) (and_parts (uses (Fork p s t) c) (all (uses (Fork p s t)) cs) used).0 in
      let above : c ≤ p = has_after c p (c ∷ cs) (omega arith, sh.columns_rise.1) sh.forks_at_columns.0 in
      omega arith

  -- THE CUT: the front part and the rest of the root fork, each over the columns that it uses
  module _ (c : ℕ) (cs rows : List ℕ) (entries : List A) (s t : Piece A) (sh : ShowsPiece (c ∷ cs) rows entries (Fork c s t)) where
    pub front_rows : take (size s) rows ≡ rows_of (c ∷ cs) s
    front_rows = rw (sh.rows_are, map-append (row_of (c ∷ cs)) (paths s) (map (λ path. c ∷ path) (paths t)))
        (take_at (map (row_of (c ∷ cs)) (paths s)) (map (row_of (c ∷ cs)) (map (λ path. c ∷ path) (paths t))) (size s) (length-map (paths s) (row_of (c ∷ cs)) ∙ length-paths s))

    rest_rows : drop (size s) rows ≡ map (row_of (c ∷ cs)) (map (λ path. c ∷ path) (paths t))
    rest_rows = rw (sh.rows_are, map-append (row_of (c ∷ cs)) (paths s) (map (λ path. c ∷ path) (paths t)))
        (drop_at (map (row_of (c ∷ cs)) (paths s)) (map (row_of (c ∷ cs)) (map (λ path. c ∷ path) (paths t))) (size s) (length-map (paths s) (row_of (c ∷ cs)) ∙ length-paths s))

    cleared : (zs : List (List ℕ)) → NoneHas c zs → map (λ r. r % 2 ^ 31) (map (row_of (c ∷ cs)) (map (λ path. c ∷ path) zs)) ≡ map (row_of (c ∷ cs)) zs
    cleared [] h = refl
    cleared (z ∷ zs) h =
        let r : ℕ = code 31 (map (has z) cs) in
        let one : row_of (c ∷ cs) (c ∷ z) ≡ 1 * 2 ^ 31 + r = row-set 31 c cs z sh.columns_rise.1 ∙ omega arith in
        let two : row_of (c ∷ cs) z ≡ r = ap (λ b. cond b (2 ^ 31) 0 + r) h.0 ∙ omega arith in
        let three : (1 * 2 ^ 31 + r) % 2 ^ 31 ≡ r = mod_low 1 31 r (code-lt 31 (map (has z) cs)) in
        let e : row_of (c ∷ cs) (c ∷ z) % 2 ^ 31 ≡ row_of (c ∷ cs) z = ap (λ n. n % 2 ^ 31) one ∙ three ∙ sym two in
        ap (λ n. n ∷ map (λ r. r % 2 ^ 31) (map (row_of (c ∷ cs)) (map (λ path. c ∷ path) zs))) e ∙ ap (λ ns. row_of (c ∷ cs) z ∷ ns) (cleared zs h.1)

    -- the rest loses the 1 in the first column
    pub rest_rows-cleared : map (λ r. r % 2 ^ 31) (drop (size s) rows) ≡ rows_of (c ∷ cs) t
    rest_rows-cleared = rw rest_rows (cleared (paths t) (none_before c t sh.paths_rise.2))

    pub front_size : front_below (2 ^ 31) rows ≡ size s
    front_size =
        let up : List ℕ → ℕ = λ path. 2 ^ 31 + row 31 cs path in
        let rows_split : rows ≡ map (row 31 cs) (paths s) ++ map up (paths t) = sh.rows_are
        ∙ map-append (row 32 (c ∷ cs)) (paths s) (map (λ path. c ∷ path) (paths t))
        ∙ (rw (row-skip 31 c cs (paths s) (none_before c s sh.paths_rise.1), map-map (row 32 (c ∷ cs)) (λ path. c ∷ path) (paths t))
        (ap (λ r. map (row 31 cs) (paths s) ++ r) (map_same (λ path. row 32 (c ∷ cs) (c ∷ path)) up (paths t) (λ z. row-set 31 c cs z sh.columns_rise.1)))) in
        ap (front_below (2 ^ 31)) rows_split ∙ front_part (2 ^ 31) (row 31 cs) up (paths s) (paths t) (λ z. code-lt 31 (map (has z) cs)) (λ z. omega arith) ∙ length-paths s

    pub covers_zero : Covers (c ∷ cs) (take (size s) rows) (take (size s) entries) s
    covers_zero = record {
      few = sh.few;
      columns_rise = sh.columns_rise;
      forks_at_columns = sh.forks_at_columns.1;
      paths_rise = RisesFrom-weaker 0 (c + 1) s (omega arith) sh.paths_rise.1;
      rows_are = front_rows;
      entries_are = rw sh.entries_are (take_at (places s) (places t) (size s) (length-places s));
    }

    pub covers_one : Covers (c ∷ cs) (map (λ r. r % 2 ^ 31) (drop (size s) rows)) (drop (size s) entries) t
    covers_one = record {
      few = sh.few;
      columns_rise = sh.columns_rise;
      forks_at_columns = sh.forks_at_columns.2;
      paths_rise = RisesFrom-weaker 0 (c + 1) t (omega arith) sh.paths_rise.2;
      rows_are = rest_rows-cleared;
      entries_are = rw sh.entries_are (drop_at (places s) (places t) (size s) (length-places s));
    }
