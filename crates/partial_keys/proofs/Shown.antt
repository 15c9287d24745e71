-- Reading rows column by column gives back the piece that they were made of.
pub mod Cutting
use Rattle.partial_keys.proofs.Common.{List, [], ap, arith, eqb, false, length, length-append, map, refl, subst, suc, sym, true, zero, ℕ, ⊎_elim, ◌++◌, ◌+◌, ◌-◌, ◌<◌, ◌^◌, ◌||◌, ◌∙◌, ◌∷◌, ◌≡◌, ◌≤◌, cases_Bool, eq-eqb, eqb-true, false≢true, le-ltb, lt-ltb, ne_eqb, drop_at, length-map, map-append, take_at, map-map, code-lt, code, NoneHas, size_pos, length-places, length-paths, none_before, has-later, has_after, map_same, later_columns, Piece, Place, Fork, places, paths, RisesFrom, UsesOnly, has, Ascends, front_below}
use Rattle.partial_keys.specs.Shown.{shown, piece_of}
use Rattle.partial_keys.specs.Shows.{ShowsPiece, Covers}

-- the row of a path over the columns, of w bits
abbrev pub row : ℕ → List ℕ → List ℕ → ℕ
row w cs path = code w (map (has path) cs)

pub row-skip : (w c : ℕ) (cs : List ℕ) (zs : List (List ℕ)) → NoneHas c zs → map (row (suc w) (c ∷ cs)) zs ≡ map (row w cs) zs
row-skip w c cs [] h = refl
row-skip w c cs (z ∷ zs) h =
    let one : row (suc w) (c ∷ cs) z ≡ row w cs z = rw h.0 (omega arith) in
    rw (one, row-skip w c cs zs h.1) refl

pub row-set : (w c : ℕ) (cs : List ℕ) (path : List ℕ) → Ascends (c + 1) cs → row (suc w) (c ∷ cs) (c ∷ path) ≡ 2 ^ w + row w cs path
row-set w c cs path a = rw (eq-eqb c c refl, has-later (c + 1) c path cs (omega arith) a) refl

front_all : (m : ℕ) (f : List ℕ → ℕ) (zs : List (List ℕ)) → ((z : List ℕ) → f z < m) → front_below m (map f zs) ≡ length zs
front_all m f [] h = refl
front_all m f (z ∷ zs) h = rw (lt-ltb (f z) m (h z), front_all m f zs h) refl

pub front_part : (m : ℕ) (f g : List ℕ → ℕ) (zs : List (List ℕ)) (ys : List (List ℕ)) → ((z : List ℕ) → f z < m) → ((z : List ℕ) → m ≤ g z) → front_below m (map f zs ++ map g ys) ≡ length zs
front_part m f g [] [] h k = refl
front_part m f g [] (y ∷ ys) h k = rw (le-ltb (g y) m (k y)) refl
front_part m f g (z ∷ zs) ys h k = rw (lt-ltb (f z) m (h z), front_part m f g zs ys h k) refl

module _ {A : Type 0} (d : A) where
  shown_skip : (w c : ℕ) (cs : List ℕ) (zs : List (List ℕ)) (es : List A) → NoneHas c zs →
      shown d (suc w) (c ∷ cs) (map (row (suc w) (c ∷ cs)) zs) es ≡ shown d w cs (map (row w cs) zs) es
  shown_skip w c cs zs es h =
      let k : front_below (2 ^ w) (map (row w cs) zs) ≡ length zs = front_all (2 ^ w) (row w cs) zs (λ z. code-lt w (map (has z) cs)) in
      rw (row-skip w c cs zs h, k, length-map zs (row w cs), eq-eqb (length zs) (length zs) refl) refl

  shown_fork : (w c : ℕ) (cs : List ℕ) (za zb : List (List ℕ)) (ea eb : List A) → NoneHas c za → Ascends (c + 1) cs → 0 < length zb → length ea ≡ length za →
      shown d (suc w) (c ∷ cs) (map (row (suc w) (c ∷ cs)) (za ++ map (λ path. c ∷ path) zb)) (ea ++ eb)
      ≡ Fork c (shown d w cs (map (row w cs) za) ea) (shown d w cs (map (row w cs) zb) eb)
  shown_fork w c cs za zb ea eb h a more same =
      let up : List ℕ → ℕ = λ path. 2 ^ w + row w cs path in
      let rows : map (row (suc w) (c ∷ cs)) (za ++ map (λ path. c ∷ path) zb) ≡ map (row w cs) za ++ map up zb =
      map-append (row (suc w) (c ∷ cs)) za (map (λ path. c ∷ path) zb)
      ∙ (rw (row-skip w c cs za h, map-map (row (suc w) (c ∷ cs)) (λ path. c ∷ path) zb) (ap (λ r. map (row w cs) za ++ r) (map_same (λ path. row (suc w) (c ∷ cs) (c ∷ path)) up zb (λ z. row-set w c cs z a)))) in
      let k : front_below (2 ^ w) (map (row w cs) za ++ map up zb) ≡ length za = front_part (2 ^ w) (row w cs) up za zb (λ z. code-lt w (map (has z) cs)) (λ z. omega arith) in
      let n : length (map (row w cs) za ++ map up zb) ≡ length za + length zb = length-append (map (row w cs) za) (map up zb) ∙ (rw (length-map za (row w cs), length-map zb up) refl) in
      let down : map (λ r. r - 2 ^ w) (map up zb) ≡ map (row w cs) zb = map-map (λ r. r - 2 ^ w) up zb ∙ map_same (λ z. up z - 2 ^ w) (row w cs) zb (λ z. omega arith) in
      let long : length (map (row w cs) za) ≡ length za = length-map za (row w cs) in
      rw (
        rows,
        k,
        n,
        ne_eqb (length za) (length za + length zb) (omega arith),
        take_at (map (row w cs) za) (map up zb) (length za) long,
        drop_at (map (row w cs) za) (map up zb) (length za) long,
        take_at ea eb (length za) same,
        drop_at ea eb (length za) same,
        down,
      ) refl

pub reads_back : {A : Type 0} (d : A) (w : ℕ) (cs : List ℕ) (low : ℕ) (P : Piece A) → length cs ≤ w → Ascends low cs → UsesOnly cs P → RisesFrom low P →
    shown d w cs (map (row w cs) (paths P)) (places P) ≡ P
reads_back d w [] low (Place x) l a u r = refl
reads_back d w [] low (Fork p s t) l a u r = absurd (false≢true u.0)
reads_back d zero (c ∷ cs) low P l a u r = absurd (omega arith)
reads_back d (suc w) (c ∷ cs) low (Place x) l a u r =
    shown_skip d w c cs (paths (Place x)) (x ∷ []) (refl, tt) ∙ reads_back d w cs (c + 1) (Place x) (omega arith) a.1 tt tt
reads_back d (suc w) (c ∷ cs) low (Fork p s t) l a u r = ⊎_elim
    (λ (e : eqb c p ≡ true). let same : c ≡ p = eqb-true c p e in
    let rs : RisesFrom (c + 1) s = (rw same r.1) in let rt : RisesFrom (c + 1) t = (rw same r.2) in
    rw (← same) (shown_fork d w c cs (paths s) (paths t) (places s) (places t) (none_before c s rs) a.1 (rw (length-paths t) (size_pos t)) (length-places s ∙ sym (length-paths s))
    ∙ (rw (reads_back d w cs (c + 1) s (omega arith) a.1 (later_columns c cs s u.1 rs) rs, reads_back d w cs (c + 1) t (omega arith) a.1 (later_columns c cs t u.2 rt) rt) refl)))
    (λ (e : eqb c p ≡ false). let h : (eqb c p || has cs p) ≡ true = u.0 in let g : has cs p ≡ true = (rw e at h) in let after : c + 1 ≤ p = has_after (c + 1) p cs a.1 g in
    let q : RisesFrom (c + 1) (Fork p s t) = (omega arith, r.1, r.2) in
    shown_skip d w c cs (paths (Fork p s t)) (places (Fork p s t)) (none_before c (Fork p s t) q)
    ∙ reads_back d w cs (c + 1) (Fork p s t) (omega arith) a.1 (later_columns c cs (Fork p s t) u q) q)
    (cases_Bool (eqb c p))

-- WHAT A NODE SHOWS, read column by column, is the one piece that its rows show
pub piece_of_shown : {A : Type 0} (d : A) (columns rows : List ℕ) (entries : List A) (P : Piece A) → ShowsPiece columns rows entries P → piece_of d columns rows entries ≡ P
piece_of_shown d columns rows entries P s = rw (s.rows_are, s.entries_are) (reads_back d 32 columns 0 P (let f : length columns ≤ 31 = s.few in omega arith) s.columns_rise s.forks_at_columns s.paths_rise)

pub piece_of_covered : {A : Type 0} (d : A) (cs rows : List ℕ) (es : List A) (P : Piece A) → Covers cs rows es P → piece_of d cs rows es ≡ P
piece_of_covered d cs rows es P s = rw (s.rows_are, s.entries_are) (reads_back d 32 cs 0 P (let f : length cs ≤ 31 = s.few in omega arith) s.columns_rise s.forks_at_columns s.paths_rise)

-- so what shows some piece shows what is read
pub shown_self : {A : Type 0} (d : A) (cs rows : List ℕ) (es : List A) (P : Piece A) → ShowsPiece cs rows es P → ShowsPiece cs rows es (piece_of d cs rows es)
shown_self d cs rows es P sh = subst (λ R. ShowsPiece cs rows es R) (sym (piece_of_shown d cs rows es P sh)) sh

pub covers_self : {A : Type 0} (d : A) (cs rows : List ℕ) (es : List A) (P : Piece A) → Covers cs rows es P → Covers cs rows es (piece_of d cs rows es)
covers_self d cs rows es P s = subst (λ R. Covers cs rows es R) (sym (piece_of_covered d cs rows es P s)) s
