-- The pieces of a node, made tip by tip.
use Rattle.bulk_load.proofs.Common.{Bool, List, [], ap, ap₂, arith, bit_or, div-add-mod', drop, eqb, false, get_or, length, refl, replicate, subst, suc, sym, take, true, zero, ℕ, ⊎_elim, ◌%◌, ◌*◌, ◌++◌, ◌+◌, ◌-◌, ◌/◌, ◌<◌, ◌^◌, ◌||◌, ◌∙◌, ◌∷◌, ◌≡◌, ◌≤◌, div-div-eq-div-mul, div-lt_iff_lt-mul, mod-eq_of_lt, pow-suc, cases_Bool, eqb-true, append_assoc, get_or-map, length-map, length-take-le, map-append, set_at, take_all, take_at, take_more, mod_below, mul-le, or_block, pow-add, pow_pos, FitTogether, IsBuiltFrom, IsEntry, NodeView, greatest_height, Entry, Leaf, has-with_position, Piece, front_below, has, with_position, IsColumns, with_unused, ShowsPiece}
use Rattle.std.proofs.Common.{set}
use Rattle.std.specs.Int.Bits.{or_zero_r}
use Rattle.std.specs.List.{All}
use Rattle.compound_node.proofs.Forking.{fit_from_shown}
use Rattle.compound_node.proofs.Lawful.{built_lawful}
use Rattle.partial_keys.proofs.Shown.{piece_of_shown}
use Rattle.bulk_load.proofs.tips.Rows.{has-append, last_row, last_row-append, pieces_show, rows_behind-append}
use Rattle.bulk_load.specs.Tips.{AreTipsOf, MayBeTip, entries_in_tips, forks_between, next_row, rows_behind}
use Rattle.bulk_load.specs.declared.tips.Tip.{Tip}

-- ---- one tip more
pub more_forks : (tips : List Tip) (i : ℕ) (d : Tip) → 1 ≤ i → i < length tips → forks_between (take (i + 1) tips) ≡ forks_between (take i tips) ++ (get_or tips i d).fork ∷ []
more_forks [] i d l m = absurd (omega arith)
more_forks (s ∷ ss) zero d l m = absurd (omega arith)
more_forks (s ∷ ss) (suc i) d l m =
    ap (λ ts. forks_between ts) (take_more (s ∷ ss) (suc i) d m) ∙ ap (drop 1) (map-append (λ (t : Tip). t.fork) (take (suc i) (s ∷ ss)) (get_or (s ∷ ss) (suc i) d ∷ []))

no_fork : (tips : List Tip) → 1 ≤ length tips → forks_between (take 1 tips) ≡ []
no_fork [] l = absurd (omega arith)
no_fork (s ∷ ss) l = refl

length-forks : (tips : List Tip) → 1 ≤ length tips → length (forks_between tips) + 1 ≡ length tips
length-forks [] l = absurd (omega arith)
length-forks (s ∷ ss) l = omega (arith, length-map ss (λ (t : Tip). t.fork))

-- ---- columns
module _ (cs : List ℕ) (tips : List Tip) (i : ℕ) (d : Tip) (some : 1 ≤ i) (inside : i < length tips) (so_far : (q : ℕ) → has cs q ≡ has (forks_between (take i tips)) q) where
  with_next : (q : ℕ) → has (forks_between (take (i + 1) tips)) q ≡ (has cs q || has ((get_or tips i d).fork ∷ []) q)
  with_next q =
      ap (λ ps. has ps q) (more_forks tips i d some inside)
      ∙ has-append (forks_between (take i tips)) ((get_or tips i d).fork ∷ []) q
      ∙ ap (λ v. v || has ((get_or tips i d).fork ∷ []) q) (sym (so_far q))

  -- the position is a column already
  pub same_columns : has cs (get_or tips i d).fork ≡ true → (q : ℕ) → has cs q ≡ has (forks_between (take (i + 1) tips)) q
  same_columns here q = sym (with_next q ∙ ⊎_elim
      (λ (e : eqb (get_or tips i d).fork q ≡ true). let f : (get_or tips i d).fork ≡ q = eqb-true _ q e in let h : has cs q ≡ true = subst (λ p. has cs p ≡ true) f here in rw h refl)
      (λ (e : eqb (get_or tips i d).fork q ≡ false). rw e (or_false (has cs q)))
      (cases_Bool (eqb (get_or tips i d).fork q)))
    where
      or_false : (v : Bool) → (v || (false || false)) ≡ v
      or_false true = refl
      or_false false = refl

  -- it becomes one
  pub more_columns : (q : ℕ) → has (with_position (get_or tips i d).fork cs) q ≡ has (forks_between (take (i + 1) tips)) q
  more_columns q = has-with_position (get_or tips i d).fork cs q ∙ sym (with_next q)

-- ---- rows
-- `row >> k | 1` sets the last bit that is left
odd : (n : ℕ) → bit_or n 1 ≡ n / 2 * 2 + 1
odd n =
    let r : ℕ = n % 2 in
    let small : n % 2 < 2 = mod_below n 2 (omega arith) in
    ap (λ m. bit_or m 1) (sym (div-add-mod' n 2))
    ∙ or_block 1 (n / 2) 0 (n % 2) 1 small (omega arith)
    ∙ ap₂ (λ a b. a * 2 + b) (or_zero_r (n / 2)) (one (n % 2) small)
  where
    one : (r : ℕ) → r < 2 → bit_or r 1 ≡ 1
    one zero l = refl
    one (suc zero) l = refl
    one (suc (suc r)) l = absurd (omega arith)

next_row_is : (row j : ℕ) → row < 2 ^ 32 → j ≤ 31 → bit_or (row / 2 ^ (31 - j)) 1 * 2 ^ (31 - j) % 2 ^ 32 ≡ (row / 2 ^ (32 - j) * 2 + 1) * 2 ^ (31 - j)
next_row_is row j fits l =
    let b : ℕ = 2 ^ (31 - j) in
    let w : ℕ = 2 ^ (32 - j) in
    let m : ℕ = row / 2 ^ (32 - j) in
    let up : 32 - j ≡ suc (31 - j) = omega arith in
    let double : 2 ^ (32 - j) ≡ 2 ^ (31 - j) * 2 = ap (λ n. 2 ^ n) up ∙ pow-suc 2 (31 - j) in
    let all : j + (32 - j) ≡ 32 = omega arith in
    let whole : 2 ^ j * 2 ^ (32 - j) ≡ 2 ^ 32 = sym (pow-add 2 j (32 - j)) ∙ ap (λ n. 2 ^ n) all in
    let below : row / 2 ^ (32 - j) < 2 ^ j = (div-lt_iff_lt-mul (pow_pos (32 - j))).1 (subst (λ n. row < n) (sym whole) fits) in
    let wide : (m + 1) * w ≤ 2 ^ j * 2 ^ (32 - j) = mul-le (m + 1) w (2 ^ j) w (omega (arith, below)) (omega arith) in
    let sum : (m * 2 + 1) * b ≡ m * (b * 2) + b = sums m b in
    let apart : (m + 1) * w ≡ m * w + w = more m w in
    let one : (m * 2 + 1) * b ≡ m * w + b = sum ∙ ap (λ n. m * n + b) (sym double) in
    let less : b < w = omega (arith, double, pow_pos (31 - j)) in
    let small : (m * 2 + 1) * b < 2 ^ 32 = omega (arith, one, less, apart, wide, whole) in
    let halves : row / 2 ^ (31 - j) / 2 ≡ m = div-div-eq-div-mul row (2 ^ (31 - j)) 2 ∙ ap (λ n. row / n) (sym double) in
    ap (λ n. n * 2 ^ (31 - j) % 2 ^ 32) (odd (row / 2 ^ (31 - j)) ∙ ap (λ n. n * 2 + 1) halves) ∙ mod-eq_of_lt small
  where
    sums : (a b : ℕ) → (a * 2 + 1) * b ≡ a * (b * 2) + b
    sums a b = grind arith

    more : (a b : ℕ) → (a + 1) * b ≡ a * b + b
    more a b = grind arith

length-rows : (cs : List ℕ) (row : ℕ) (ps : List ℕ) → length (rows_behind cs row ps) ≡ length ps
length-rows cs row [] = refl
length-rows cs row (p ∷ ps) = ap suc (length-rows cs (next_row cs row p) ps)

filled : (xs : List ℕ) (i unused x : ℕ) → length xs ≡ i → i < 32 → set (xs ++ replicate (32 - i) unused) i x ≡ (xs ++ x ∷ []) ++ replicate (32 - (i + 1)) unused
filled xs i unused x e l =
    let left : 32 - i ≡ suc (32 - (i + 1)) = omega arith in
    ap (λ k. set (xs ++ replicate k unused) i x) left ∙ set_at xs unused (replicate (32 - (i + 1)) unused) x i e ∙ sym (append_assoc xs (x ∷ []) (replicate (32 - (i + 1)) unused))

abbrev pub rows_upto : List ℕ → List Tip → ℕ → List ℕ
rows_upto cs tips i = 0 ∷ rows_behind cs 0 (forks_between (take i tips))

pub rows_start : (cs : List ℕ) (tips : List Tip) → 1 ≤ length tips → (rows_upto cs tips 1 ≡ 0 ∷ []) × (0 ≡ last_row cs 0 (forks_between (take 1 tips)))
rows_start cs tips l = (ap (λ ps. 0 ∷ rows_behind cs 0 ps) (no_fork tips l), sym (ap (last_row cs 0) (no_fork tips l)))

module _ (cs : List ℕ) (tips : List Tip) (i : ℕ) (d : Tip) (row k : ℕ) (rows : List ℕ) (some : 1 ≤ i) (inside : i < length tips) (few : length tips ≤ 32) (within : k ≤ 31)
    (fits : row < 2 ^ 32) (below : k ≡ front_below (get_or tips i d).fork cs) (last : row ≡ last_row cs 0 (forks_between (take i tips)))
    (so_far : rows ≡ rows_upto cs tips i ++ replicate (32 - i) 4294967295) where
  abbrev put : ℕ
  put = bit_or (row / 2 ^ (31 - k)) 1 * 2 ^ (31 - k) % 2 ^ 32

  put_is : put ≡ next_row cs (last_row cs 0 (forks_between (take i tips))) (get_or tips i d).fork
  put_is = next_row_is row k fits within ∙ ap (λ j. (row / 2 ^ (32 - j) * 2 + 1) * 2 ^ (31 - j)) below ∙ ap (λ r. next_row cs r (get_or tips i d).fork) last

  pub next_last : put ≡ last_row cs 0 (forks_between (take (i + 1) tips))
  next_last = put_is ∙ sym (ap (last_row cs 0) (more_forks tips i d some inside) ∙ last_row-append cs 0 (forks_between (take i tips)) ((get_or tips i d).fork ∷ []))

  long : length (rows_upto cs tips i) ≡ i
  long =
      let n : length (take i tips) ≡ i = length-take-le i tips (omega arith) in
      ap suc (length-rows cs 0 (forks_between (take i tips))) ∙ omega (arith, length-forks (take i tips) (omega arith))

  pub next_rows : set rows i put ≡ rows_upto cs tips (i + 1) ++ replicate (32 - (i + 1)) 4294967295
  next_rows =
      ap (λ rs. set rs i put) so_far
      ∙ filled (rows_upto cs tips i) i 4294967295 put long (omega arith)
      ∙ ap (λ rs. rs ++ replicate (32 - (i + 1)) 4294967295)
      (ap (λ r. rows_upto cs tips i ++ r ∷ []) put_is
      ∙ sym (ap (λ ps. 0 ∷ rows_behind cs 0 ps) (more_forks tips i d some inside) ∙ ap (λ rs. 0 ∷ rs) (rows_behind-append cs 0 (forks_between (take i tips)) ((get_or tips i d).fork ∷ []))))

all_rows : (cs : List ℕ) (tips : List Tip) → 1 ≤ length tips → length (0 ∷ rows_behind cs 0 (forks_between tips)) ≡ length tips
all_rows cs tips l = ap suc (length-rows cs 0 (forks_between tips)) ∙ omega (arith, length-forks tips l)

pub rows_end : (cs : List ℕ) (tips : List Tip) (i : ℕ) → 1 ≤ length tips → i ≡ length tips → rows_upto cs tips i ++ replicate (32 - i) 4294967295 ≡ with_unused (0 ∷ rows_behind cs 0 (forks_between tips))
rows_end cs tips i some e =
    ap (λ ss. (0 ∷ rows_behind cs 0 (forks_between ss)) ++ replicate (32 - i) 4294967295) (take_all i tips (omega arith))
    ∙ ap (λ n. (0 ∷ rows_behind cs 0 (forks_between tips)) ++ replicate (32 - n) 4294967295) (e ∙ sym (all_rows cs tips some))

pub front_rows : (cs : List ℕ) (tips : List Tip) (n : ℕ) → 1 ≤ length tips → n ≡ length tips → take n (with_unused (0 ∷ rows_behind cs 0 (forks_between tips))) ≡ 0 ∷ rows_behind cs 0 (forks_between tips)
front_rows cs tips n some e =
    take_at (0 ∷ rows_behind cs 0 (forks_between tips)) (replicate (32 - length (0 ∷ rows_behind cs 0 (forks_between tips))) 4294967295) n (all_rows cs tips some ∙ sym e)

-- ---- entries
pub entries_fit : (tips : List Tip) → All MayBeTip tips → All IsEntry (entries_in_tips tips)
entries_fit tips each k d l =
    let inside : k < length tips = omega (arith, l, length-map tips (λ (s : Tip). s.entry)) in
    subst IsEntry (sym (get_or-map (λ (s : Tip). s.entry) tips k (record { fork = 0; entry = d }) d inside)) (each k (record { fork = 0; entry = d }) inside).0

abbrev pub node_of_tips : List ℕ → List Tip → NodeView
node_of_tips cs tips = record { height = 1 + greatest_height (entries_in_tips tips); columns = cs; rows = 0 ∷ rows_behind cs 0 (forks_between tips); entries = entries_in_tips tips }

-- THE NODE of all pieces
module _ (cs : List ℕ) (tips : List Tip) (several : 2 ≤ length tips) (few : length tips ≤ 32) (each : All MayBeTip tips) (columns : IsColumns cs) (positions : (q : ℕ) → has cs q ≡ has (forks_between tips) q) where
  pub built : (p : ℕ) (x : Piece Entry) → AreTipsOf tips p x → IsBuiltFrom (node_of_tips cs tips) x
  built p x are =
      let shows : ShowsPiece cs (0 ∷ rows_behind cs 0 (forks_between tips)) (entries_in_tips tips) x = pieces_show cs tips p x are columns positions in
      let long : length (entries_in_tips tips) ≡ length tips = length-map tips (λ (s : Tip). s.entry) in
      let fit : FitTogether cs (0 ∷ rows_behind cs 0 (forks_between tips)) (entries_in_tips tips) =
      fit_from_shown cs (0 ∷ rows_behind cs 0 (forks_between tips)) (entries_in_tips tips) x shows (omega arith) (omega arith) columns (entries_fit tips each) in
      record {
        lawful = built_lawful cs (0 ∷ rows_behind cs 0 (forks_between tips)) (entries_in_tips tips) fit;
        shows_it = piece_of_shown (Leaf 0) cs (0 ∷ rows_behind cs 0 (forks_between tips)) (entries_in_tips tips) x shows;
        height_is = refl;
      }
