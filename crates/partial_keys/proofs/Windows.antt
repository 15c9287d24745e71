-- Bits gathered by vectors, lane by lane.
use Rattle.partial_keys.proofs.Common.{◌≡◌, ℕ, zero, suc, ◌+◌, ◌-◌, ◌*◌, ◌/◌, ◌%◌, ◌^◌, ◌<◌, ◌≤◌, ◌⊎◌, inl, inr, ⊎_elim, Bool, true, false, cond, ◌&&◌, ◌||◌, eqb, ltb, T, List, [], ◌∷◌, ◌++◌, map, length, get_or, take, replicate, bit_and, bit_or, refl, sym, ap, ap₂, ◌∙◌, subst, arith, w8, w16, Fits, eqb→eq, drop, length-append, cases_lt, le-ltb, lt-ltb, ltb-true, ltb-false, ne_eqb, min, get_or-append, min-eq_left, min-eq_right, zero-div, or_add_and, or_zero_r, bit_at, below_more, bit_of, with_zeros, take-suc, append_assoc, ext_get_or, get_or-append_right, get_or-drop, get_or-map, get_or-replicate, get_or-take, length-drop, length-map, length-replicate, length-take-le, map-append, map-id, map_push, take-append-le, take_all, and_le_l, and_le_r, and_mask, Each1-all, Each1-get_or, Each1-weaker, Each1-zip2, Each2-splat, SwzOk, SwzOk-from_below, bit_mask_l, bitmask_splat, get_or-chunk, get_or-swz_l_below, get_or-zip2, length-chunk, length-swz_l, length-zip2, map-map, pick_l_left, pick_l_whole, swz_l, range_with_len, code, gathered, code-lt, code-shifted, Ascends}
use Rattle.std.specs.Bool.{beq}
use borrow.Author.Count.{below_none}
use lib.Lanes.{zip2, sel_l, pick_l, mask_l, top, Each1, chunk}
use Rattle.partial_keys.specs.Columns.{AreColumnLanes, HoldsColumns, IsColumns}
use Rattle.partial_keys.proofs.Rows.{code-append, code-falses}
use Rattle.partial_keys.specs.declared.gathering.TheConstants.{MASKS}
use Rattle.partial_keys.specs.Windows.{byte_lane, mask_lane, missed_lane}

-- ---- products, and their parts
abbrev pub mul32 : ℕ → ℕ → ℕ
mul32 a b = a * b % 2 ^ 32

abbrev pub mul16 : ℕ → ℕ → ℕ
mul16 a b = a * b % 2 ^ 16

abbrev pub down : ℕ → ℕ → ℕ
down a b = a / 2 ^ b

abbrev pub is_below : ℕ → ℕ → ℕ
is_below a b = cond (ltb a b) (2 ^ 16 - 1) 0

abbrev pub wholes : ℕ → List ℕ → List ℕ
wholes n ps = zip2 down (zip2 mul32 (map (λ a. a) ps) (replicate n 7282)) (replicate n 16)

abbrev pub parts : ℕ → List ℕ → List ℕ
parts n ps = zip2 down (zip2 mul16 ps (replicate n 7282)) (replicate n 12)

pub wholes_fit : (n : ℕ) (ps : List ℕ) → Each1 (Fits w16) (wholes n ps)
wholes_fit n [] = tt
wholes_fit zero (p ∷ ps) = tt
wholes_fit (suc n) (p ∷ ps) = (record { fits = omega arith }, wholes_fit n ps)

abbrev pub up_to_255 : ℕ → List ℕ → List ℕ
up_to_255 n xs = sel_l (map (top 15) (zip2 is_below xs (replicate n 255))) xs (replicate n 255)

one_up_to : (t : Bool) (x : ℕ) → ltb x 255 ≡ t → cond (top 15 (cond t (2 ^ 16 - 1) 0)) x 255 < 2 ^ 8
one_up_to true x e = omega (arith, ltb-true x 255 e)
one_up_to false x e = omega arith

pub up_to_255_fits : (n : ℕ) (xs : List ℕ) → Each1 (Fits w8) (up_to_255 n xs)
up_to_255_fits n [] = tt
up_to_255_fits zero (x ∷ xs) = tt
up_to_255_fits (suc n) (x ∷ xs) = (record { fits = one_up_to (ltb x 255) x refl }, up_to_255_fits n xs)

one_min : (t : Bool) (x : ℕ) → ltb x 255 ≡ t → cond (top 15 (cond t (2 ^ 16 - 1) 0)) x 255 ≡ min x 255
one_min true x e = omega (arith, ltb-true x 255 e)
one_min false x e = omega (arith, ltb-false x 255 e)

one_byte : (p : ℕ) → p < 2 ^ 16 → cond (top 15 (cond (ltb (p * 7282 % 2 ^ 32 / 2 ^ 16) 255) (2 ^ 16 - 1) 0)) (p * 7282 % 2 ^ 32 / 2 ^ 16) 255 ≡ byte_lane p
one_byte p small = let e : p * 7282 % 2 ^ 32 / 2 ^ 16 ≡ p * 7282 / 65536 = omega (arith, small) in rw e (one_min (ltb (p * 7282 / 65536) 255) (p * 7282 / 65536) refl)

pub bytes_lanes : (n : ℕ) (ps : List ℕ) → length ps ≡ n → Each1 (Fits w16) ps → map (λ a. a) (up_to_255 n (map (λ a. a) (wholes n ps))) ≡ map byte_lane ps
bytes_lanes n [] e f = refl
bytes_lanes zero (p ∷ ps) e f = absurd (omega (arith, e))
bytes_lanes (suc n) (p ∷ ps) e f = ap₂ (λ x xs. x ∷ xs) (one_byte p f.0.fits) (bytes_lanes n ps (omega (arith, e)) f.1)

-- ---- look-ups
abbrev pub every : (t : ℕ → Bool) (n : ℕ) → Bool
every t zero = true
every t (suc n) = t n && every t n

pub every_one : (t : ℕ → Bool) (n : ℕ) → T (every t n) → (i : ℕ) → i < n → T (t i)
every_one t zero h i low = absurd (omega arith)
every_one t (suc n) h i low = elim (cases_lt i n) [ inl l ↦ every_one t n (second (t n) (every t n) h) i l | inr g ↦ subst (λ k. T (t k)) (omega (arith, g, low)) (first (t n) (every t n) h) ]
  where
    first : (a b : Bool) → T (a && b) → T a
    first true b h = tt
    first false b h = h

    second : (a b : Bool) → T (a && b) → T b
    second true b h = h
    second false b h = absurd h

-- the positions of sixteen lanes, twice
abbrev pub twice : List ℕ
twice = 0 ∷ 1 ∷ 2 ∷ 3 ∷ 4 ∷ 5 ∷ 6 ∷ 7 ∷ 8 ∷ 9 ∷ 10 ∷ 11 ∷ 12 ∷ 13 ∷ 14 ∷ 15 ∷ 0 ∷ 1 ∷ 2 ∷ 3 ∷ 4 ∷ 5 ∷ 6 ∷ 7 ∷ 8 ∷ 9 ∷ 10 ∷ 11 ∷ 12 ∷ 13 ∷ 14 ∷ 15 ∷ []

pub twice_at : (lanes : List ℕ) → length lanes ≡ 16 → (i : ℕ) → i < 32 → get_or (pick_l 0 (lanes ++ lanes) twice) i 0 ≡ get_or lanes (i % 16) 0
twice_at lanes long i low =
    ap (λ xs. get_or xs i 0) (pick_l_left 0 lanes lanes 16 twice long tt)
    ∙ (get_or-map (λ k. get_or lanes k 0) twice i 0 0 low
    ∙ ap (λ k. get_or lanes k 0) (eqb→eq _ _ (every_one (λ k. eqb (get_or twice k 0) (k % 16)) 32 tt i low)))

parts_small : (n : ℕ) (ps : List ℕ) → Each1 (λ j. j < 16) (parts n ps)
parts_small n [] = tt
parts_small zero (p ∷ ps) = tt
parts_small (suc n) (p ∷ ps) = (omega arith, parts_small n ps)

pub parts_fit : (n : ℕ) (ps : List ℕ) → Each1 (Fits w8) (parts n ps)
parts_fit n ps = Each1-weaker (λ j. j < 16) (Fits w8) (λ a h. record { fits = omega (arith, h) }) (parts n ps) (parts_small n ps)

parts_are : (n : ℕ) (ps : List ℕ) → length ps ≡ n → map (λ a. a) (parts n ps) ≡ map (λ p. p * 7282 % 65536 / 4096) ps
parts_are n [] e = refl
parts_are zero (p ∷ ps) e = absurd (omega (arith, e))
parts_are (suc n) (p ∷ ps) e = ap (λ xs. (p * 7282 % 65536 / 4096) ∷ xs) (parts_are n ps (omega (arith, e)))

pub parts_ok : (ps : List ℕ) → length ps ≡ 32 → SwzOk w8 16 32 0 (map (λ a. a) (parts 32 ps))
parts_ok ps long =
    let is = parts_are 32 ps long in
    SwzOk-from_below w8 16 2 32 0 (map (λ a. a) (parts 32 ps)) refl (omega (arith, ap length is, length-map ps (λ p. p * 7282 % 65536 / 4096), long))
    (subst (Each1 (λ j. j < 16)) (sym (map-id (parts 32 ps))) (parts_small 32 ps))

-- a table that has sixteen lanes twice, read at the parts
pub masks_lanes : (ps table : List ℕ) → length ps ≡ 32 → ((i : ℕ) → i < 32 → get_or table i 0 ≡ get_or MASKS (i % 16) 0) → swz_l w8 16 table 0 (map (λ a. a) (parts 32 ps)) ≡ map mask_lane ps
masks_lanes ps table long each =
    let g : ℕ → ℕ = λ p. p * 7282 % 65536 / 4096 in
    let js : List ℕ = map (λ a. a) (parts 32 ps) in
    let is : js ≡ map g ps = parts_are 32 ps long in
    let count : length js ≡ 32 = ap length is ∙ (length-map ps g ∙ long) in
    ext_get_or 0 _ _ (length-swz_l w8 16 table 0 js ∙ (count ∙ sym (length-map ps mask_lane ∙ long)))
    (λ i h. (let low : i < 32 = omega (arith, h, length-swz_l w8 16 table 0 js, count) in
    let at : get_or js i 0 ≡ g (get_or ps i 0) = ap (λ xs. get_or xs i 0) is ∙ get_or-map g ps i 0 0 (omega (arith, long, low)) in
    let small : get_or js i 0 < 16 = omega (arith, at) in
    get_or-swz_l_below w8 16 table 0 js i (omega (arith, count, low)) small
    ∙ (each (16 * ((0 + i) / 16) + get_or js i 0) (omega (arith, low, small))
    ∙ (ap (λ k. get_or MASKS k 0) (let e : (16 * ((0 + i) / 16) + get_or js i 0) % 16 ≡ get_or js i 0 = omega (arith, small) in e ∙ at)
    ∙ sym (get_or-map mask_lane ps i 0 0 (omega (arith, long, low)))))))

-- ---- what is missed
abbrev pub less8 : ℕ → ℕ → ℕ
less8 a b = (a + (2 ^ 8 - b)) % 2 ^ 8

abbrev pub below8 : ℕ → ℕ → ℕ
below8 a b = cond (ltb a b) (2 ^ 8 - 1) 0

abbrev pub turned : ℕ → ℕ
turned a = 2 ^ 8 - 1 - a

abbrev pub places : List ℕ → ℕ → List ℕ
places bytes first = zip2 bit_and (zip2 less8 bytes (replicate 32 first)) (replicate 32 15)

places_long : (bytes : List ℕ) (first : ℕ) → length bytes ≡ 32 → length (places bytes first) ≡ 32
places_long bytes first long =
    let a = length-zip2 less8 bytes (replicate 32 first) (long ∙ sym (length-replicate 32 first)) in
    length-zip2 bit_and (zip2 less8 bytes (replicate 32 first)) (replicate 32 15) (a ∙ (long ∙ sym (length-replicate {A = ℕ} 32 15))) ∙ (a ∙ long)

pub places_ok : (bytes : List ℕ) (first : ℕ) → length bytes ≡ 32 → SwzOk w8 16 32 0 (places bytes first)
places_ok bytes first long =
    let xs : List ℕ = zip2 less8 bytes (replicate 32 first) in
    SwzOk-from_below w8 16 2 32 0 (places bytes first) refl (omega (arith, places_long bytes first long))
    (Each1-zip2 bit_and (λ j. j < 16) xs (replicate 32 15) (Each2-splat (λ a b. bit_and a b < 16) xs 32 15 (Each1-all (λ a. bit_and a 15 < 16) (λ a. omega (arith, and_le_r a 15)) xs)))

place_at : (bytes : List ℕ) (first i : ℕ) → length bytes ≡ 32 → first < 256 → get_or bytes i 0 < 256 → i < 32 → get_or (places bytes first) i 0 ≡ (get_or bytes i 0 + 256 - first) % 16
place_at bytes first i long small fits low =
    let xs : List ℕ = zip2 less8 bytes (replicate 32 first) in
    let count : length xs ≡ 32 = length-zip2 less8 bytes (replicate 32 first) (long ∙ sym (length-replicate 32 first)) ∙ long in
    let b : ℕ = get_or bytes i 0 in
    get_or-zip2 bit_and xs (replicate 32 15) i 0 0 0 (omega (arith, count, low)) (omega (arith, length-replicate {A = ℕ} 32 15, low))
    ∙ (ap₂ bit_and (get_or-zip2 less8 bytes (replicate 32 first) i 0 0 0 (omega (arith, long, low)) (omega (arith, length-replicate 32 first, low)) ∙ ap (less8 b) (get_or-replicate 32 i first 0 low)) (get_or-replicate {A = ℕ} 32 i 15 0 low)
    ∙ (and_mask (less8 b first) 4 ∙ omega (arith, small, fits)))

-- a saturating difference
abbrev pub over : List ℕ → List ℕ → List ℕ
over xs ys = zip2 less8 (sel_l (map (top 7) (zip2 below8 xs ys)) ys xs) ys

pub one_over : (a b : ℕ) → a < 256 → b < 256 → less8 (cond (top 7 (below8 a b)) b a) b ≡ a - b
one_over a b A B = go (ltb a b) refl
  where
    go : (t : Bool) → ltb a b ≡ t → less8 (cond (top 7 (cond t (2 ^ 8 - 1) 0)) b a) b ≡ a - b
    go true e = omega (arith, ltb-true a b e)
    go false e = omega (arith, ltb-false a b e, A, B)

over_is : (n last : ℕ) (xs : List ℕ) → length xs ≡ n → last < 256 → Each1 (Fits w8) xs → over xs (replicate n last) ≡ map (λ x. x - last) xs
over_is n last [] e s f = refl
over_is zero last (x ∷ xs) e s f = absurd (omega (arith, e))
over_is (suc n) last (x ∷ xs) e s f = ap₂ (λ z zs. z ∷ zs) (one_over x last f.0.fits s) (over_is n last xs (omega (arith, e)) s f.1)

module _ (bytes masks window : List ℕ) (first last : ℕ) (long : length bytes ≡ 32) (masks_long : length masks ≡ 32) (window_long : length window ≡ 32)
    (fits : Each1 (Fits w8) bytes) (small : first < 256) (low_last : last < 256) where
  abbrev there : List ℕ
  there = swz_l w8 16 window 0 (places bytes first)

  abbrev missing : List ℕ
  missing = zip2 bit_and masks (map turned there)

  abbrev pub all_missed : List ℕ
  all_missed = zip2 bit_or missing (over bytes (replicate 32 last))

  there_long : length there ≡ 32
  there_long = length-swz_l w8 16 window 0 (places bytes first) ∙ places_long bytes first long

  missing_long : length missing ≡ 32
  missing_long = length-zip2 bit_and masks (map turned there) (masks_long ∙ sym (length-map there turned ∙ there_long)) ∙ masks_long

  over_long : length (over bytes (replicate 32 last)) ≡ 32
  over_long = ap length (over_is 32 last bytes long low_last fits) ∙ (length-map bytes (λ x. x - last) ∙ long)

  pub missed_long : length all_missed ≡ 32
  missed_long = length-zip2 bit_or missing (over bytes (replicate 32 last)) (missing_long ∙ sym over_long) ∙ missing_long

  pub missed_at : (i : ℕ) → i < 32 → get_or all_missed i 0 ≡ missed_lane window first last i (get_or bytes i 0) (get_or masks i 0)
  missed_at i low =
      let b : ℕ = get_or bytes i 0 in
      let place : get_or (places bytes first) i 0 ≡ (b + 256 - first) % 16 = place_at bytes first i long small (Each1-get_or (Fits w8) bytes i 0 (omega (arith, long, low)) fits).fits low in
      let in_there : get_or there i 0 ≡ get_or window (16 * (i / 16) + (b + 256 - first) % 16) 0 =
      get_or-swz_l_below w8 16 window 0 (places bytes first) i (omega (arith, places_long bytes first long, low)) (omega (arith, place)) ∙ ap (λ k. get_or window k 0) (omega (arith, place)) in
      get_or-zip2 bit_or missing (over bytes (replicate 32 last)) i 0 0 0 (omega (arith, missing_long, low)) (omega (arith, over_long, low))
      ∙ ap₂ bit_or
      (get_or-zip2 bit_and masks (map turned there) i 0 0 0 (omega (arith, masks_long, low)) (omega (arith, length-map there turned, there_long, low))
      ∙ ap (bit_and (get_or masks i 0)) (get_or-map turned there i 0 0 (omega (arith, there_long, low)) ∙ ap turned in_there))
      (ap (λ zs. get_or zs i 0) (over_is 32 last bytes long low_last fits) ∙ get_or-map (λ x. x - last) bytes i 0 0 (omega (arith, long, low)))

-- ---- lanes as bits, the first as the highest
abbrev falling : ℕ → List ℕ
falling zero = []
falling (suc n) = n ∷ falling n

snoc : (n : ℕ) (bs : List Bool) (b : Bool) → length bs ≡ n → code (suc n) (bs ++ b ∷ []) ≡ code n bs * 2 + cond b 1 0
snoc n bs b long =
    let low : suc n - length bs ≡ 1 = omega (arith, long) in
    code-append (suc n) bs (b ∷ []) (omega (arith, long)) ∙ (ap₂ (λ x w. x + code w (b ∷ [])) (sym (code-shifted n 1 (suc n) bs (omega arith) (omega (arith, long)))) low ∙ one b)
  where
    one : (b : Bool) → code n bs * 2 ^ 1 + code 1 (b ∷ []) ≡ code n bs * 2 + cond b 1 0
    one true = omega arith
    one false = omega arith

mask_falling : (f : ℕ → Bool) (xs : List ℕ) (n : ℕ) → n ≤ length xs → mask_l (map (λ k. f (get_or xs k 0)) (falling n)) ≡ code n (map f (take n xs))
mask_falling f xs zero room = refl
mask_falling f xs (suc n) room =
    let b : Bool = f (get_or xs n 0) in
    let bs : List Bool = map f (take n xs) in
    let long : length bs ≡ n = length-map (take n xs) f ∙ length-take-le n xs (omega (arith, room)) in
    let split : map f (take (suc n) xs) ≡ bs ++ b ∷ [] = ap (map f) (take-suc xs n 0 (omega (arith, room))) ∙ map_push f (take n xs) (get_or xs n 0) in
    omega (arith, mask_falling f xs n (omega (arith, room)), ap (code (suc n)) split, snoc n bs b long)

pub zeros_lanes : (xs : List ℕ) → length xs ≡ 32 →
    mask_l (map (top 7) (zip2 (λ a b. cond (eqb a b) (2 ^ 8 - 1) 0) (pick_l 0 (xs ++ xs) (falling 32)) (replicate 32 0))) % 2 ^ 64 ≡ gathered (λ x. eqb x 0) xs
zeros_lanes xs long =
    let f : ℕ → Bool = λ x. eqb x 0 in
    let picked : pick_l 0 (xs ++ xs) (falling 32) ≡ pick_l 0 xs (falling 32) = pick_l_left 0 xs xs 32 (falling 32) long tt in
    bitmask_splat w8 eqb (pick_l 0 (xs ++ xs) (falling 32)) 32 0 (ap length picked ∙ length-map (falling 32) (λ k. get_or xs k 0)) (omega arith)
    ∙ (ap (λ ys. mask_l (map f ys)) picked
    ∙ (ap mask_l (map-map f (λ k. get_or xs k 0) (falling 32))
    ∙ (mask_falling f xs 32 (omega (arith, long)) ∙ ap (λ ys. code 32 (map f ys)) (take_all 32 xs (omega (arith, long))))))

pub gathered-lt : (f : ℕ → Bool) (xs : List ℕ) → gathered f xs < 2 ^ 32
gathered-lt f xs = code-lt 32 (map f xs)

-- ---- the bit of a key that a lane tells
-- the mask of a bit in its byte, and none for the first of the nine
abbrev mask_of : ℕ → ℕ
mask_of r = get_or (0 ∷ 128 ∷ 64 ∷ 32 ∷ 16 ∷ 8 ∷ 4 ∷ 2 ∷ 1 ∷ []) r 0

mask_is : (p : ℕ) → p < 2160 → mask_lane p ≡ mask_of (p % 9)
mask_is p low = below_more P 8 (below_more P 7 (below_more P 6 (below_more P 5 (below_more P 4 (below_more P 3 (below_more P 2 (below_more P 1 (below_more P 0 (below_none P)
    (λ q is. at (p * 7282 % 65536 / 4096) 0 (omega (arith, is, low)) refl))
    (λ q is. at (p * 7282 % 65536 / 4096) 1 (omega (arith, is, low)) refl))
    (λ q is. at (p * 7282 % 65536 / 4096) 3 (omega (arith, is, low)) refl))
    (λ q is. at (p * 7282 % 65536 / 4096) 5 (omega (arith, is, low)) refl))
    (λ q is. at (p * 7282 % 65536 / 4096) 7 (omega (arith, is, low)) refl))
    (λ q is. elim (cases_lt (p * 7282 % 65536 / 4096) 9) [ inl l ↦ at (p * 7282 % 65536 / 4096) 8 (omega (arith, is, low, l)) refl | inr g ↦ at (p * 7282 % 65536 / 4096) 9 (omega (arith, is, low, g)) refl ]))
    (λ q is. at (p * 7282 % 65536 / 4096) 10 (omega (arith, is, low)) refl))
    (λ q is. at (p * 7282 % 65536 / 4096) 12 (omega (arith, is, low)) refl))
    (λ q is. at (p * 7282 % 65536 / 4096) 14 (omega (arith, is, low)) refl) (p % 9) (omega arith) (p / 9) (omega arith)
  where
    P : ℕ → Type 0
    P r = (q : ℕ) → p ≡ 9 * q + r → mask_lane p ≡ mask_of r

    at : (k j : ℕ) → k ≡ j → {v : ℕ} → get_or MASKS j 0 ≡ v → get_or MASKS k 0 ≡ v
    at k j is known = ap (λ n. get_or MASKS n 0) is ∙ known

pub same_bool : (a b : Bool) → T (beq a b) → a ≡ b
same_bool true true h = refl
same_bool true false h = absurd h
same_bool false true h = absurd h
same_bool false false h = refl

-- what a mask misses in a byte
mask_tells : (r w : ℕ) → r < 9 → w < 256 → eqb (bit_and (mask_of r) (255 - w)) 0 ≡ (eqb r 0 || eqb (bit_at w (8 - r)) 1)
mask_tells r w low small =
    same_bool _ _ (every_one (λ k. beq (eqb (bit_and (mask_of r) (255 - k)) 0) (eqb r 0 || eqb (bit_at k (8 - r)) 1)) 256
    (every_one (λ j. every (λ k. beq (eqb (bit_and (mask_of j) (255 - k)) 0) (eqb j 0 || eqb (bit_at k (8 - j)) 1)) 256) 9 tt r low) w small)

module _ (key window : List ℕ) (first i p : ℕ) (some : 1 ≤ length key) (few : length key ≤ 240) (bytes : (k : ℕ) → get_or key k 0 < 256) (inside : i < 32)
    (holds : (k : ℕ) → k < 32 → get_or window k 0 ≡ get_or (with_zeros key) (first + k % 16) 0)
    (reach : p / 9 < length key → (first ≤ p / 9) × (p / 9 < first + 16)) where
  abbrev lane : ℕ
  lane = missed_lane window first (length key - 1) i (byte_lane p) (mask_lane p)

  there_is : p / 9 < length key → eqb lane 0 ≡ bit_of key p
  there_is low =
      let b : ℕ = p / 9 in
      let below : p < 2160 = omega (arith, low, few) in
      let byte : byte_lane p ≡ b = min-eq_left {n = p * 7282 / 65536} {m = 255} (omega (arith, below)) ∙ omega (arith, below) in
      let r = reach low in
      let at : (16 * (i / 16) + (byte_lane p + 256 - first) % 16) % 16 ≡ b - first = omega (arith, byte, r.0, r.1) in
      let in_window : 16 * (i / 16) + (byte_lane p + 256 - first) % 16 < 32 = omega (arith, inside) in
      let read : get_or window (16 * (i / 16) + (byte_lane p + 256 - first) % 16) 0 ≡ get_or key b 0 =
      holds (16 * (i / 16) + (byte_lane p + 256 - first) % 16) in_window
      ∙ (ap (λ k. get_or (with_zeros key) k 0) (let e : first + (16 * (i / 16) + (byte_lane p + 256 - first) % 16) % 16 ≡ b = omega (arith, at, r.0) in e) ∙ get_or-append key _ 0 b low) in
      let none_over : byte_lane p - (length key - 1) ≡ 0 = omega (arith, byte, low) in
      let is : lane ≡ bit_and (mask_of (p % 9)) (255 - get_or key b 0) = rw (none_over, read, mask_is p below) (or_zero_r (bit_and (mask_of (p % 9)) (255 - get_or key b 0))) in
      rw is (mask_tells (p % 9) (get_or key b 0) (omega arith) (bytes b) ∙ sym (ap (λ t. t && (eqb (p % 9) 0 || eqb (bit_at (get_or key b 0) (8 - p % 9)) 1)) (lt-ltb b (length key) low)))

  behind_is : length key ≤ p / 9 → eqb lane 0 ≡ bit_of key p
  behind_is past =
      let far : length key ≤ byte_lane p = elim (cases_lt (p * 7282 / 65536) 255) [
        | inl l ↦ (let e : byte_lane p ≡ p * 7282 / 65536 = min-eq_left {n = p * 7282 / 65536} {m = 255} (omega (arith, l)) in omega (arith, e, past, few))
        | inr g ↦ (let e : byte_lane p ≡ 255 = min-eq_right {n = 255} {m = p * 7282 / 65536} (omega (arith, g)) in omega (arith, e, few))
      ] in
      let a : ℕ = bit_and (mask_lane p) (255 - get_or window (16 * (i / 16) + (byte_lane p + 256 - first) % 16) 0) in
      let b : ℕ = byte_lane p - (length key - 1) in
      let more : 1 ≤ lane = omega (arith, or_add_and a b, and_le_l a b, far, some) in
      ne_eqb lane 0 (λ e. omega (arith, e, more)) ∙ sym (ap (λ t. t && (eqb (p % 9) 0 || eqb (bit_at (get_or key (p / 9) 0) (8 - p % 9)) 1)) (le-ltb (p / 9) (length key) past))

  pub lane_tells : eqb lane 0 ≡ bit_of key p
  lane_tells = ⊎_elim there_is behind_is (cases_lt (p / 9) (length key))

-- ---- all lanes
-- the positions of columns rise
pub rise_low : (low : ℕ) (cs : List ℕ) (i : ℕ) → Ascends low cs → i < length cs → low ≤ get_or cs i 0
rise_low low [] i h inside = absurd (omega (arith, inside))
rise_low low (c ∷ cs) zero h inside = omega (arith, h.0)
rise_low low (c ∷ cs) (suc i) h inside = omega (arith, h.0, rise_low (c + 1) cs i h.1 (omega (arith, inside)))

pub rise_two : (low : ℕ) (cs : List ℕ) (i j : ℕ) → Ascends low cs → i ≤ j → j < length cs → get_or cs i 0 ≤ get_or cs j 0
rise_two low [] i j h le inside = absurd (omega (arith, inside))
rise_two low (c ∷ cs) zero zero h le inside = omega arith
rise_two low (c ∷ cs) zero (suc j) h le inside = omega (arith, rise_low (c + 1) cs j h.1 (omega (arith, inside)))
rise_two low (c ∷ cs) (suc i) zero h le inside = absurd (omega (arith, le))
rise_two low (c ∷ cs) (suc i) (suc j) h le inside = rise_two (c + 1) cs i j h.1 (omega (arith, le)) (omega (arith, inside))

none_free : (f : ℕ → Bool) (k : ℕ) → f 65535 ≡ false → map f (replicate k 65535) ≡ map {A = ℕ} (λ c. false) (replicate k 65535)
none_free f zero e = refl
none_free f (suc k) e = ap₂ (λ (b : Bool) (bs : List Bool). b ∷ bs) e (none_free f k e)

-- unused lanes add nothing
pub gathered_used : (f : ℕ → Bool) (cs : List ℕ) (k : ℕ) → f 65535 ≡ false → length cs ≤ 32 → gathered f (cs ++ replicate k 65535) ≡ gathered f cs
gathered_used f cs k e few =
    ap (code 32) (map-append f cs (replicate k 65535))
    ∙ (code-append 32 (map f cs) (map f (replicate k 65535)) (omega (arith, length-map cs f, few))
    ∙ (ap (λ n. code 32 (map f cs) + n) (ap (code (32 - length (map f cs))) (none_free f k e) ∙ code-falses (32 - length (map f cs)) (replicate k 65535)) ∙ omega arith))

pub free_bit : (key : List ℕ) → length key ≤ 240 → bit_of key 65535 ≡ false
free_bit key few = ap (λ t. t && (eqb 6 0 || eqb (bit_at (get_or key 7281 0) 2) 1)) (le-ltb 7281 (length key) (omega (arith, few)))

-- where a column has a bit of the key, it is one of the sixteen bytes from the first column's on
pub within : (lanes : List ℕ) (count bytes first i : ℕ) → AreColumnLanes lanes count → first ≡ get_or lanes 0 0 / 9 → bytes ≤ 240 → i < 32 →
    (byte_lane (get_or lanes i 0) < first + 16) ⊎ (bytes ≤ byte_lane (get_or lanes i 0)) → get_or lanes i 0 / 9 < bytes → (first ≤ get_or lanes i 0 / 9) × (get_or lanes i 0 / 9 < first + 16)
within lanes count bytes first i are first_is few inside either low = elim (cases_lt i count) [ inl used ↦ go used | inr free ↦ absurd (omega (arith, unused free, low, few)) ]
  where
    p : ℕ
    p = get_or lanes i 0

    cs : List ℕ
    cs = take count lanes

    unused : count ≤ i → p ≡ 65535
    unused past = ap (λ xs. get_or xs i 0) (sym are.unused)
        ∙ (get_or-append_right cs (replicate (32 - count) 65535) count i 0 are.counted past ∙ get_or-replicate {A = ℕ} (32 - count) (i - count) 65535 0 (omega (arith, past, inside)))

    byte : byte_lane p ≡ p / 9
    byte = let below : p < 2160 = omega (arith, low, few) in min-eq_left {n = p * 7282 / 65536} {m = 255} (omega (arith, below)) ∙ omega (arith, below)

    go : i < count → (first ≤ p / 9) × (p / 9 < first + 16)
    go used =
        let mine : get_or cs i 0 ≡ p = get_or-take count lanes i 0 used in
        let head : get_or cs 0 0 ≡ get_or lanes 0 0 = get_or-take count lanes 0 0 (omega (arith, used)) in
        let after = rise_two 0 cs 0 i are.columns.rise (omega arith) (omega (arith, used, are.counted)) in
        (omega (arith, first_is, mine, head, after), elim either [ inl near ↦ omega (arith, near, byte) | inr far ↦ absurd (omega (arith, far, byte, low)) ])

-- a byte that is as far behind the first of two as the second or further is not between them
lane_between : (b from to : ℕ) → b < 256 → from ≤ to → to < 256 → ltb (less8 b from) (to - from) ≡ false → (b < from) ⊎ (to ≤ b)
lane_between b from to small order low far = elim (cases_lt b from) [ inl before ↦ inl before | inr after ↦ inr (let e = ltb-false (less8 b from) (to - from) far in omega (arith, e, after, small, order, low)) ]

-- no lane is between, if no bit of the comparison is set
pub none_between : (bytes : List ℕ) (from to : ℕ) → length bytes ≡ 32 → Each1 (Fits w8) bytes → from ≤ to → to < 256 →
    mask_l (map (top 7) (zip2 below8 (zip2 less8 bytes (replicate 32 from)) (replicate 32 (to - from)))) % 2 ^ 64 ≡ 0 → (i : ℕ) → i < 32 → (get_or bytes i 0 < from) ⊎ (to ≤ get_or bytes i 0)
none_between bytes from to long fits order low none i inside =
    let less : List ℕ = zip2 less8 bytes (replicate 32 from) in
    let count : length less ≡ 32 = length-zip2 less8 bytes (replicate 32 from) (long ∙ sym (length-replicate 32 from)) ∙ long in
    let t : ℕ → Bool = λ x. ltb x (to - from) in
    let empty : mask_l (map t less) ≡ 0 = sym (bitmask_splat w8 ltb less 32 (to - from) count (omega arith)) ∙ none in
    let bit : ◌≡◌ {A = ℕ} (cond (get_or (map t less) i false) 1 0) 0 = sym (bit_mask_l (map t less) i) ∙ (ap (λ m. m / 2 ^ i % 2) empty ∙ ap (λ n. n % 2) (zero-div (2 ^ i))) in
    let far : t (get_or less i 0) ≡ false = sym (get_or-map t less i 0 false (omega (arith, count, inside))) ∙ unset (get_or (map t less) i false) bit in
    let at : get_or less i 0 ≡ less8 (get_or bytes i 0) from = get_or-zip2 less8 bytes (replicate 32 from) i 0 0 0 (omega (arith, long, inside)) (omega (arith, length-replicate 32 from, inside)) ∙ ap (less8 (get_or bytes i 0)) (get_or-replicate {A = ℕ} 32 i from 0 inside) in
    lane_between (get_or bytes i 0) from to (Each1-get_or (Fits w8) bytes i 0 (omega (arith, long, inside)) fits).fits order low (ap t (sym at) ∙ far)
  where
    unset : (b : Bool) → ◌≡◌ {A = ℕ} (cond b 1 0) 0 → b ≡ false
    unset true e = absurd (omega (arith, e))
    unset false e = refl

-- the lanes that miss nothing are the bits of the key
pub lanes_tell : (f : ℕ → Bool) (lanes missed : List ℕ) → length lanes ≡ 32 → length missed ≡ 32 → ((i : ℕ) → i < 32 → eqb (get_or missed i 0) 0 ≡ f (get_or lanes i 0)) →
    gathered (λ x. eqb x 0) missed ≡ gathered f lanes
lanes_tell f lanes missed long missed_long each =
    let g : ℕ → Bool = λ x. eqb x 0 in
    ap (code 32) (ext_get_or false (map g missed) (map f lanes) (length-map missed g ∙ (missed_long ∙ sym (length-map lanes f ∙ long)))
    (λ i h. (let low : i < 32 = omega (arith, h, length-map missed g, missed_long) in
    get_or-map g missed i 0 false (omega (arith, missed_long, low)) ∙ (each i low ∙ sym (get_or-map f lanes i 0 false (omega (arith, long, low)))))))

-- ---- lanes of 31 positions
abbrev pub one_to_16 : List ℕ
one_to_16 = 1 ∷ 2 ∷ 3 ∷ 4 ∷ 5 ∷ 6 ∷ 7 ∷ 8 ∷ 9 ∷ 10 ∷ 11 ∷ 12 ∷ 13 ∷ 14 ∷ 15 ∷ 16 ∷ []

replicate_snoc : (n a : ℕ) → replicate n a ++ a ∷ [] ≡ replicate (suc n) a
replicate_snoc zero a = refl
replicate_snoc (suc n) a = ap (λ (xs : List ℕ). a ∷ xs) (replicate_snoc n a)

-- columns at the first of 31 places are at the first of 32 lanes
pub column_lanes : (positions : List ℕ) (count : ℕ) → HoldsColumns positions count → AreColumnLanes (positions ++ 65535 ∷ []) count × (take count (positions ++ 65535 ∷ []) ≡ take count positions)
column_lanes positions count holds =
    let cs : List ℕ = take count positions in
    let few = holds.columns.few in
    let long : length positions ≡ 31 = ap length (sym holds.filled) ∙ (length-append cs (replicate (31 - length cs) 65535) ∙ omega (arith, length-replicate {A = ℕ} (31 - length cs) 65535, few)) in
    let same : take count (positions ++ 65535 ∷ []) ≡ cs = take-append-le count positions (65535 ∷ []) (omega (arith, long, holds.counted, few)) in (
      record {
        columns = subst IsColumns (sym same) holds.columns;
        counted = ap length same ∙ holds.counted;
        unused = ap (λ (xs : List ℕ). xs ++ replicate (32 - count) 65535) same ∙ (ap (λ n. cs ++ replicate n 65535) (let e : 32 - count ≡ suc (31 - length cs) = omega (arith, holds.counted, few) in e) ∙ (ap (λ (xs : List ℕ). cs ++ xs) (sym (replicate_snoc (31 - length cs) 65535))
            ∙ (sym (append_assoc cs (replicate (31 - length cs) 65535) (65535 ∷ [])) ∙ ap (λ (xs : List ℕ). xs ++ 65535 ∷ []) holds.filled)));
      },
      same,
    )

pub lanes_joined : (ps : List ℕ) → length ps ≡ 31 →
    pick_l 0 (chunk 0 16 ps ++ pick_l 0 (chunk 0 16 (take 16 (drop 15 ps)) ++ replicate 16 65535) one_to_16) (range_with_len 0 32) ≡ ps ++ 65535 ∷ []
lanes_joined ps long =
    let low : List ℕ = chunk 0 16 ps in
    let behind : List ℕ = take 16 (drop 15 ps) in
    let second : List ℕ = chunk 0 16 behind in
    let ends : List ℕ = replicate 16 65535 in
    let high : List ℕ = pick_l 0 (second ++ ends) one_to_16 in
    let low_long : length low ≡ 16 = length-chunk 0 16 ps (omega (arith, long)) in
    let second_long : length second ≡ 16 = length-chunk 0 16 behind (omega (arith, length-take-le 16 (drop 15 ps) (omega (arith, length-drop 15 ps, long)))) in
    let high_long : length high ≡ 16 = length-map one_to_16 (λ k. get_or (second ++ ends) k 0) in
    let both : length (low ++ high) ≡ 32 = length-append low high ∙ omega (arith, low_long, high_long) in
    let all : length (ps ++ 65535 ∷ []) ≡ 32 = length-append ps (65535 ∷ []) ∙ omega (arith, long) in
    let in_low : (i : ℕ) → i < 16 → get_or (low ++ high) i 0 ≡ get_or (ps ++ 65535 ∷ []) i 0 =
    λ i l. get_or-append low high 0 i (omega (arith, l, low_long)) ∙ (get_or-chunk 0 16 ps i 0 l ∙ (ap (λ k. get_or ps k 0) (let e : 0 + i ≡ i = omega arith in e) ∙ sym (get_or-append ps (65535 ∷ []) 0 i (omega (arith, l, long))))) in
    let in_high : (i : ℕ) → 16 ≤ i → i < 32 → get_or (low ++ high) i 0 ≡ get_or (second ++ ends) (i - 15) 0 =
    λ i g l. get_or-append_right low high 16 i 0 low_long g
    ∙ (get_or-map (λ k. get_or (second ++ ends) k 0) one_to_16 (i - 16) 0 0 (omega (arith, g, l))
    ∙ ap (λ k. get_or (second ++ ends) k 0) (eqb→eq _ _ (every_one (λ k. eqb (get_or one_to_16 k 0) (k + 1)) 16 tt (i - 16) (omega (arith, g, l))) ∙ omega (arith, g))) in
    let in_second : (i : ℕ) → 16 ≤ i → i < 31 → get_or (second ++ ends) (i - 15) 0 ≡ get_or (ps ++ 65535 ∷ []) i 0 =
    λ i g l. get_or-append second ends 0 (i - 15) (omega (arith, g, l, second_long))
    ∙ (get_or-chunk 0 16 behind (i - 15) 0 (omega (arith, g, l))
    ∙ (get_or-take 16 (drop 15 ps) (0 + (i - 15)) 0 (omega (arith, g, l))
    ∙ (get_or-drop 15 ps (0 + (i - 15)) 0 ∙ (ap (λ k. get_or ps k 0) (omega (arith, g)) ∙ sym (get_or-append ps (65535 ∷ []) 0 i (omega (arith, l, long))))))) in
    let at_end : (i : ℕ) → i ≡ 31 → get_or (second ++ ends) (i - 15) 0 ≡ get_or (ps ++ 65535 ∷ []) i 0 =
    λ i is. get_or-append_right second ends 16 (i - 15) 0 second_long (omega (arith, is)) ∙ (ap (λ k. get_or ends k 0) (let e : i - 15 - 16 ≡ 0 = omega (arith, is) in e)
    ∙ sym (get_or-append_right ps (65535 ∷ []) 31 i 0 long (omega (arith, is)) ∙ ap (λ k. get_or {A = ℕ} (65535 ∷ []) k 0) (let e : i - 31 ≡ 0 = omega (arith, is) in e))) in
    pick_l_whole 0 (low ++ high) 32 both
    ∙ ext_get_or 0 (low ++ high) (ps ++ 65535 ∷ []) (both ∙ sym all)
    (λ i h. (let inside : i < 32 = omega (arith, h, both) in elim (cases_lt i 16) [
      | inl l ↦ in_low i l
      | inr g ↦ in_high i g inside ∙ elim (cases_lt i 31) [ inl l ↦ in_second i g l | inr e ↦ at_end i (omega (arith, e, inside)) ]
    ]))
