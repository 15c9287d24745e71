-- The rows of a piece: each from the one before and the fork between the two.
use Rattle.bulk_load.proofs.Common.{Bool, List, [], ap, ap₂, arith, cond, drop, eqb, false, get_or, length, map, refl, subst, suc, sym, take, true, ℕ, ◌*◌, ◌++◌, ◌+◌, ◌-◌, ◌/◌, ◌<◌, ◌^◌, ◌||◌, ◌∙◌, ◌∷◌, ◌≡◌, ◌≤◌, div-div-eq-div-mul, pow-suc, eq-eqb, ne_eqb, or_left, or_right, drop_more, get_or-take, length-map, length-take-le, map-append, take-append-drop, div-mul-add, pow-add, pow_pos, Entry, IsPlaceOf, front_below-place, has-at, Fork, Piece, Place, RisesFrom, UsesOnly, paths, uses, Ascends, front_below, has, IsColumns, rows_of, ShowsPiece}
use Rattle.std.proofs.Math.Bool.{or_assoc}
use Rattle.std.proofs.lemmas.Simd.{map-map}
use Rattle.compound_node.proofs.Beside.{front-le}
use Rattle.key_bits.proofs.Gather.{code-lt}
use Rattle.key_bits.specs.Gather.{code}
use Rattle.node_tries.proofs.Positions.Tests.{map_same}
use Rattle.node_tries.specs.Piece.{places}
use Rattle.partial_keys.proofs.Rows.{code-falses, code-join}
use Rattle.partial_keys.proofs.Rows.Joining.{all_of}
use Rattle.bulk_load.specs.Tips.{AreTipsOf, entries_in_tips, forks_between, next_row, rows_behind, tip, tips_of}
use Rattle.bulk_load.specs.declared.tips.Tip.{Tip}

-- ---- the forks and the entries of a piece
abbrev pub head_entry : Piece Entry → Entry
head_entry (Place e) = e
head_entry (Fork p a b) = head_entry a

abbrev pub tail_tips : Piece Entry → List Tip
tail_tips (Place e) = []
tail_tips (Fork p a b) = tail_tips a ++ (tip p (head_entry b) ∷ tail_tips b)

pub tips_split : (p : ℕ) (x : Piece Entry) → tips_of p x ≡ tip p (head_entry x) ∷ tail_tips x
tips_split p (Place e) = refl
tips_split p (Fork q a b) = rw (tips_split p a, tips_split q b) refl

abbrev pub forks : Piece Entry → List ℕ
forks (Place e) = []
forks (Fork p a b) = forks a ++ p ∷ forks b

pub all_forks : (p : ℕ) (x : Piece Entry) → map (λ (s : Tip). s.fork) (tips_of p x) ≡ p ∷ forks x
all_forks p (Place e) = refl
all_forks p (Fork q a b) = map-append (λ (s : Tip). s.fork) (tips_of p a) (tips_of q b) ∙ ap₂ (λ xs ys. xs ++ ys) (all_forks p a) (all_forks q b)

pub all_entries : (p : ℕ) (x : Piece Entry) → entries_in_tips (tips_of p x) ≡ places x
all_entries p (Place e) = refl
all_entries p (Fork q a b) = map-append (λ (s : Tip). s.entry) (tips_of p a) (tips_of q b) ∙ ap₂ (λ xs ys. xs ++ ys) (all_entries p a) (all_entries q b)

pub has-append : (xs ys : List ℕ) (q : ℕ) → has (xs ++ ys) q ≡ (has xs q || has ys q)
has-append [] ys q = refl
has-append (x ∷ xs) ys q = ap (λ v. eqb x q || v) (has-append xs ys q) ∙ sym (or_assoc (eqb x q) (has xs q) (has ys q))

turned : (x y z : Bool) → (x || (y || z)) ≡ (y || (x || z))
turned true true z = refl
turned true false z = refl
turned false y z = refl

pub has_forks : (x : Piece Entry) (q : ℕ) → has (forks x) q ≡ uses x q
has_forks (Place e) q = refl
has_forks (Fork p a b) q = has-append (forks a) (p ∷ forks b) q ∙ turned (has (forks a) q) (eqb p q) (has (forks b) q) ∙ ap₂ (λ v w. eqb p q || (v || w)) (has_forks a q) (has_forks b q)

uses_only : (cs : List ℕ) (x : Piece Entry) → ((q : ℕ) → uses x q ≡ true → has cs q ≡ true) → UsesOnly cs x
uses_only cs (Place e) h = tt
uses_only cs (Fork p a b) h = (
  h p (or_left (eqb p p) (uses a p || uses b p) (eq-eqb p p refl)),
  uses_only cs a (λ q u. h q (or_right (eqb p q) (uses a q || uses b q) (or_left (uses a q) (uses b q) u))),
  uses_only cs b (λ q u. h q (or_right (eqb p q) (uses a q || uses b q) (or_right (uses a q) (uses b q) u))),
)

-- ---- one row after another
abbrev pub last_row : List ℕ → ℕ → List ℕ → ℕ
last_row cs row [] = row
last_row cs row (p ∷ ps) = last_row cs (next_row cs row p) ps

pub last_row-append : (cs : List ℕ) (row : ℕ) (ps qs : List ℕ) → last_row cs row (ps ++ qs) ≡ last_row cs (last_row cs row ps) qs
last_row-append cs row [] qs = refl
last_row-append cs row (p ∷ ps) qs = last_row-append cs (next_row cs row p) ps qs

pub rows_behind-append : (cs : List ℕ) (row : ℕ) (ps qs : List ℕ) → rows_behind cs row (ps ++ qs) ≡ rows_behind cs row ps ++ rows_behind cs (last_row cs row ps) qs
rows_behind-append cs row [] qs = refl
rows_behind-append cs row (p ∷ ps) qs = ap (λ rows. next_row cs row p ∷ rows) (rows_behind-append cs (next_row cs row p) ps qs)

-- a fork changes no column before its own
keeps : (row j k : ℕ) → j ≤ k → k ≤ 31 → (row / 2 ^ (32 - k) * 2 + 1) * 2 ^ (31 - k) / 2 ^ (32 - j) ≡ row / 2 ^ (32 - j)
keeps row j k l m =
    let a : ℕ = row / 2 ^ (32 - k) in
    let b : ℕ = 2 ^ (31 - k) in
    let up : 32 - k ≡ suc (31 - k) = omega arith in
    let double : 2 ^ (32 - k) ≡ b * 2 = ap (λ n. 2 ^ n) up ∙ pow-suc 2 (31 - k) in
    let pieces : 32 - j ≡ (32 - k) + (k - j) = omega arith in
    let whole : 2 ^ (32 - j) ≡ 2 ^ (32 - k) * 2 ^ (k - j) = ap (λ n. 2 ^ n) pieces ∙ pow-add 2 (32 - k) (k - j) in
    let split : (a * 2 + 1) * b ≡ a * 2 ^ (32 - k) + b = twice a b ∙ ap (λ n. a * n + b) (sym double) in
    let small : b < 2 ^ (32 - k) = omega (arith, double, pow_pos (31 - k)) in
    ap₂ (λ n d. n / d) split whole
    ∙ sym (div-div-eq-div-mul (a * 2 ^ (32 - k) + b) (2 ^ (32 - k)) (2 ^ (k - j)))
    ∙ ap (λ n. n / 2 ^ (k - j)) (div-mul-add a (2 ^ (32 - k)) b small)
    ∙ div-div-eq-div-mul row (2 ^ (32 - k)) (2 ^ (k - j))
    ∙ ap (λ d. row / d) (sym whole)
  where
    twice : (a b : ℕ) → (a * 2 + 1) * b ≡ a * (b * 2) + b
    twice a b = grind arith

-- nor does what stands behind it
all_keep : (cs : List ℕ) (j row : ℕ) (x : Piece Entry) (low : ℕ) → length cs ≤ 31 → j ≤ front_below low cs → RisesFrom low x → last_row cs row (forks x) / 2 ^ (32 - j) ≡ row / 2 ^ (32 - j)
all_keep cs j row (Place e) low few l r = refl
all_keep cs j row (Fork p a b) low few l r =
    let place : IsPlaceOf cs p (front_below p cs) = front_below-place p cs in
    let lows : low ≤ p = omega (arith, r.0) in
    let below : j ≤ front_below p cs = omega (arith, front-le low p cs lows) in
    let after : j ≤ front_below (p + 1) cs = omega (arith, front-le low (p + 1) cs (omega arith)) in
    let left : ℕ = last_row cs row (forks a) in
    ap (λ n. n / 2 ^ (32 - j)) (last_row-append cs row (forks a) (p ∷ forks b))
    ∙ all_keep cs j (next_row cs left p) b (p + 1) few after r.2
    ∙ keeps left j (front_below p cs) below (omega (arith, place.in_range))
    ∙ all_keep cs j row a (p + 1) few after r.1

-- ---- a row as the bits of a test
abbrev row_by : List ℕ → (ℕ → Bool) → ℕ
row_by cs f = code 32 (map f cs)

-- positions below the one, before those from it on
map_below : (f : ℕ → Bool) (q : ℕ) (xs : List ℕ) → ((k : ℕ) → k < length xs → get_or xs k 0 < q) → map (λ c. f c || eqb q c) xs ≡ map f xs
map_below f q [] l = refl
map_below f q (x ∷ xs) l =
    let m : x < q = l 0 (omega arith) in
    ap₂ (λ v vs. v ∷ vs) (rw (ne_eqb q x (omega arith)) (or_false (f x))) (map_below f q xs (λ k n. l (suc k) (omega arith)))
  where
    or_false : (v : Bool) → (v || false) ≡ v
    or_false true = refl
    or_false false = refl

map_above : (g : ℕ → Bool) (low : ℕ) (ys : List ℕ) → Ascends low ys → ((c : ℕ) → low ≤ c → g c ≡ false) → map g ys ≡ map (λ c. false) ys
map_above g low [] a h = refl
map_above g low (y ∷ ys) a h =
    let m : low < y + 1 = a.0 in
    ap₂ (λ v vs. v ∷ vs) (h y (omega arith)) (map_above g (y + 1) ys a.1 (λ c l. h c (omega arith)))

-- THE STEP: the row behind a fork has the bits before the fork's column, and that one
module _ (cs : List ℕ) (f : ℕ → Bool) (q row : ℕ) (few : length cs ≤ 31) (rise : Ascends 0 cs) (here : has cs q ≡ true)
    (low : (c : ℕ) → q ≤ c → f c ≡ false) (same : row / 2 ^ (32 - front_below q cs) ≡ row_by cs f / 2 ^ (32 - front_below q cs)) where
  j : ℕ
  j = front_below q cs

  at : (front_below q cs < length cs) × (get_or cs (front_below q cs) 0 ≡ q)
  at = has-at q 0 cs rise here

  abbrev xs : List ℕ
  xs = take (front_below q cs) cs

  abbrev ys : List ℕ
  ys = drop (front_below q cs + 1) cs

  abbrev g : ℕ → Bool
  g = λ c. f c || eqb q c

  long : length xs ≡ front_below q cs
  long = length-take-le (front_below q cs) cs (omega (arith, at.0))

  split : cs ≡ xs ++ q ∷ ys
  split = sym (take-append-drop (front_below q cs) cs) ∙ ap (λ ds. xs ++ ds) (drop_more cs (front_below q cs) 0 at.0 ∙ ap (λ c. c ∷ ys) at.1)

  behind : Ascends (q + 1) ys
  behind = ascends_behind 0 xs q ys (subst (Ascends 0) split rise)
    where
      ascends_behind : (low : ℕ) (ws : List ℕ) (p : ℕ) (zs : List ℕ) → Ascends low (ws ++ p ∷ zs) → Ascends (p + 1) zs
      ascends_behind low [] p zs a = a.1
      ascends_behind low (x ∷ ws) p zs a = ascends_behind (x + 1) ws p zs a.1

  -- the bits before the column, as a number
  abbrev front : ℕ
  front = code (front_below q cs) (map f xs)

  joined : (t : ℕ → Bool) → row_by cs t ≡ code (front_below q cs) (map t xs) * 2 ^ (32 - front_below q cs) + code (32 - front_below q cs) (map t (q ∷ ys))
  joined t =
      let l : length (map t xs) ≡ front_below q cs = length-map xs t ∙ long in
      ap (λ ds. code 32 (map t ds)) split
      ∙ ap (code 32) (map-append t xs (q ∷ ys))
      ∙ code-join (map t xs) (map t (q ∷ ys)) (omega (arith, l, at.0))
      ∙ ap (λ n. code n (map t xs) * 2 ^ (32 - n) + code (32 - n) (map t (q ∷ ys))) l

  front_is : row / 2 ^ (32 - front_below q cs) ≡ front
  front_is =
      same
      ∙ ap (λ n. n / 2 ^ (32 - front_below q cs)) (joined f)
      ∙ div-mul-add front (2 ^ (32 - front_below q cs)) (code (32 - front_below q cs) (map f (q ∷ ys))) (code-lt (32 - front_below q cs) (map f (q ∷ ys)))

  front_same : map g xs ≡ map f xs
  front_same = map_below f q xs (λ k l. let place : IsPlaceOf cs q (front_below q cs) = front_below-place q cs in
      subst (λ n. n < q) (sym (get_or-take (front_below q cs) cs k 0 (omega (arith, l, long)))) (place.below k (omega (arith, l, long))))

  rest : code (32 - front_below q cs) (map g (q ∷ ys)) ≡ 2 ^ (31 - front_below q cs)
  rest =
      let w : 32 - front_below q cs ≡ suc (31 - front_below q cs) = omega (arith, at.0) in
      let one : g q ≡ true = or_right (f q) (eqb q q) (eq-eqb q q refl) in
      ap (λ n. code n (map g (q ∷ ys))) w
      ∙ ap₂ (λ v n. cond v (2 ^ (31 - front_below q cs)) 0 + n) one (ap (code (31 - front_below q cs)) (map_above g (q + 1) ys behind (λ c l. rw (low c (omega arith), ne_eqb q c (omega arith)) refl)) ∙ code-falses (31 - front_below q cs) ys)
      ∙ omega arith

  pub stepped : next_row cs row q ≡ row_by cs (λ c. f c || eqb q c)
  stepped =
      let w : 32 - front_below q cs ≡ suc (31 - front_below q cs) = omega (arith, at.0) in
      let double : 2 ^ (32 - front_below q cs) ≡ 2 ^ (31 - front_below q cs) * 2 = ap (λ n. 2 ^ n) w ∙ pow-suc 2 (31 - front_below q cs) in
      ap (λ n. (n * 2 + 1) * 2 ^ (31 - front_below q cs)) front_is
      ∙ sums front (2 ^ (31 - front_below q cs))
      ∙ ap (λ n. front * n + 2 ^ (31 - front_below q cs)) (sym double)
      ∙ ap₂ (λ vs n. code (front_below q cs) vs * 2 ^ (32 - front_below q cs) + n) (sym front_same) (sym rest)
      ∙ sym (joined g)
    where
      sums : (a b : ℕ) → (a * 2 + 1) * b ≡ a * (b * 2) + b
      sums a b = grind arith

-- ---- the rows of a piece
module _ (cs : List ℕ) (few : length cs ≤ 31) (rise : Ascends 0 cs) where
  or_false : (v : Bool) → (v || false) ≡ v
  or_false true = refl
  or_false false = refl

  rows_in : (x : Piece Entry) (f : ℕ → Bool) (low : ℕ) → ((c : ℕ) → low ≤ c → f c ≡ false) → RisesFrom low x → UsesOnly cs x →
      map (λ path. row_by cs (λ c. f c || has path c)) (paths x) ≡ row_by cs f ∷ rows_behind cs (row_by cs f) (forks x)
  rows_in (Place e) f low off r u = ap (λ vs. code 32 vs ∷ []) (map_same (λ c. f c || false) f cs (λ c. or_false (f c)))
  rows_in (Fork q a b) f low off r u =
      let F : List ℕ → ℕ = λ path. row_by cs (λ c. f c || has path c) in
      let G : List ℕ → ℕ = λ path. row_by cs (λ c. (f c || eqb q c) || has path c) in
      let first : ℕ = row_by cs f in
      let left : ℕ = last_row cs first (forks a) in
      let start : low ≤ q = omega (arith, r.0) in
      let step : next_row cs left q ≡ row_by cs (λ c. f c || eqb q c) =
      stepped cs f q left few rise u.0 (λ c l. off c (omega arith)) (all_keep cs (front_below q cs) first a (q + 1) few (front-le q (q + 1) cs (omega arith)) r.1) in
      map-append F (paths a) (map (λ path. q ∷ path) (paths b))
      ∙ ap₂ (λ rs ss. rs ++ ss) (rows_in a f (q + 1) (λ c l. off c (omega arith)) r.1 u.1)
      (map-map F (λ path. q ∷ path) (paths b)
      ∙ map_same (λ path. F (q ∷ path)) G (paths b) (λ path. ap (code 32) (map_same (λ c. f c || (eqb q c || has path c)) (λ c. (f c || eqb q c) || has path c) cs (λ c. sym (or_assoc (f c) (eqb q c) (has path c)))))
      ∙ rows_in b (λ c. f c || eqb q c) (q + 1) (λ c l. rw (off c (omega arith), ne_eqb q c (omega arith)) refl) r.2 u.2
      ∙ ap (λ n. n ∷ rows_behind cs n (forks b)) (sym step))
      ∙ ap (λ rs. first ∷ rs) (sym (rows_behind-append cs first (forks a) (q ∷ forks b)))

  pub rows_are : (x : Piece Entry) → RisesFrom 0 x → UsesOnly cs x → rows_of cs x ≡ 0 ∷ rows_behind cs 0 (forks x)
  rows_are x r u = rows_in x (λ c. false) 0 (λ c l. refl) r u ∙ ap (λ n. n ∷ rows_behind cs n (forks x)) (code-falses 32 cs)

-- THE PARTS OF THE NODE show the piece of the tips
module _ (cs : List ℕ) (tips : List Tip) (p : ℕ) (x : Piece Entry) (are : AreTipsOf tips p x) (columns : IsColumns cs) (positions : (q : ℕ) → has cs q ≡ has (forks_between tips) q) where
  forks_are : forks_between tips ≡ forks x
  forks_are = ap forks_between are.are ∙ ap (drop 1) (all_forks p x)

  used : (q : ℕ) → has cs q ≡ uses x q
  used q = positions q ∙ ap (λ ps. has ps q) forks_are ∙ has_forks x q

  pub pieces_show : ShowsPiece cs (0 ∷ rows_behind cs 0 (forks_between tips)) (entries_in_tips tips) x
  pieces_show =
      let only : UsesOnly cs x = uses_only cs x (λ q u. used q ∙ u) in
      record {
        few = columns.few;
        columns_rise = columns.rise;
        forks_at_columns = only;
        columns_used = all_of (uses x) cs (λ q h. sym (used q) ∙ h);
        paths_rise = are.rises;
        rows_are = ap (λ ps. 0 ∷ rows_behind cs 0 ps) forks_are ∙ sym (rows_are cs columns.few columns.rise x are.rises only);
        entries_are = ap entries_in_tips are.are ∙ all_entries p x;
      }
