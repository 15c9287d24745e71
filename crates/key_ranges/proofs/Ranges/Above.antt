-- Which keys are above one.
use Rattle.std.proofs.Common.{◌≡◌, ◌≢◌, ℕ, zero, suc, ◌+◌, ◌<◌, ◌≤◌, List, [], ◌∷◌, ◌++◌, length, replicate, refl, sym, ap, ◌∙◌, arith}
use Rattle.std.specs.Prelude.{All}
use Rattle.std.specs.declared.cmp.Ordering.{Ordering}
use Rattle.std.specs.declared.cmp.Ordering.TheVariants.{Less, Equal, Greater}
use Rattle.std.specs.Ordering.{nat_cmp, ordering_then}
use Rattle.std.specs.Cmp.{ranked, nat_cmp_is}
use Rattle.std.proofs.lemmas.List.Elements.{All-head, All-tail}
use Rattle.finite_map.specs.Maps.{key_order}

abbrev pub AreBytes : List ℕ → Type 0
AreBytes key = All (λ byte. byte < 256) key

pub equal_less : Equal ≡ Less → ⊥
equal_less e = cc

pub greater_less : Greater ≡ Less → ⊥
greater_less e = cc

pub less_greater : Less ≡ Greater → ⊥
less_greater e = cc

pub equal_greater : Equal ≡ Greater → ⊥
equal_greater e = cc

-- what both begin with does not count
pub same_front : (front xs ys : List ℕ) → key_order (front ++ xs) (front ++ ys) ≡ key_order xs ys
same_front [] xs ys = refl
same_front (x ∷ front) xs ys = ap (λ o. ordering_then o (key_order (front ++ xs) (front ++ ys))) (sym (nat_cmp_is x x Equal refl)) ∙ same_front front xs ys

pub none_below : (ys : List ℕ) → key_order [] ys ≢ Greater
none_below [] g = equal_greater g
none_below (y ∷ ys) g = less_greater g

-- Where there is room: one byte more

pub longer_above : (key : List ℕ) (b : ℕ) → key_order key (key ++ b ∷ []) ≡ Less
longer_above [] b = refl
longer_above (x ∷ key) b = ap (λ o. ordering_then o (key_order key (key ++ b ∷ []))) (sym (nat_cmp_is x x Equal refl)) ∙ longer_above key b

pub longer_least : (key other : List ℕ) → key_order key other ≡ Less → key_order (key ++ 0 ∷ []) other ≢ Greater
longer_least [] [] h g = equal_less h
longer_least [] (y ∷ ys) h g = by (nat_cmp 0 y) refl g
  where
    by : (o : Ordering) → nat_cmp 0 y ≡ o → ordering_then o (key_order [] ys) ≡ Greater → ⊥
    by Less e g = less_greater g
    by Equal e g = none_below ys g
    by Greater e g = let l = ranked 0 y Greater (sym e) in omega (arith, l)
longer_least (x ∷ key) [] h g = greater_less h
longer_least (x ∷ key) (y ∷ ys) h g = by (nat_cmp x y) (longer_least key ys) h g
  where
    by : (o : Ordering) → (key_order key ys ≡ Less → key_order (key ++ 0 ∷ []) ys ≢ Greater) → ordering_then o (key_order key ys) ≡ Less → ordering_then o (key_order (key ++ 0 ∷ []) ys) ≡ Greater → ⊥
    by Less later h g = less_greater g
    by Equal later h g = later h g
    by Greater later h g = greater_less h

-- Where there is none: a byte greater

-- no bytes are above so many of 255, if they are no more
pub none_above : (n : ℕ) (ys : List ℕ) → AreBytes ys → length ys ≤ n → key_order (replicate n 255) ys ≢ Less
none_above zero [] bytes few h = equal_less h
none_above zero (y ∷ ys) bytes few h = omega (arith, few)
none_above (suc n) [] bytes few h = greater_less h
none_above (suc n) (y ∷ ys) bytes few h = by (nat_cmp 255 y) refl (none_above n ys (All-tail (λ byte. byte < 256) y ys bytes) (omega (arith, few))) h
  where
    by : (o : Ordering) → nat_cmp 255 y ≡ o → key_order (replicate n 255) ys ≢ Less → ordering_then o (key_order (replicate n 255) ys) ≡ Less → ⊥
    by Less e later h = let l = ranked 255 y Less (sym e) in let small = All-head (λ byte. byte < 256) y ys bytes in omega (arith, l, small)
    by Equal e later h = later h
    by Greater e later h = greater_less h

pub raised_above : (front rest : List ℕ) (b : ℕ) → key_order (front ++ b ∷ rest) (front ++ (b + 1) ∷ []) ≡ Less
raised_above front rest b = same_front front (b ∷ rest) ((b + 1) ∷ []) ∙ ap (λ o. ordering_then o (key_order rest [])) (sym (nat_cmp_is b (b + 1) Less (omega arith)))

pub raised_least : (front other : List ℕ) (b n : ℕ) → AreBytes other → length other ≤ length front + 1 + n → key_order (front ++ b ∷ replicate n 255) other ≡ Less →
    key_order (front ++ (b + 1) ∷ []) other ≢ Greater
raised_least [] [] b n bytes few h g = greater_less h
raised_least [] (y ∷ ys) b n bytes few h g = by (nat_cmp b y) refl h
  where
    then_over : (o : Ordering) → nat_cmp (b + 1) y ≡ o → b < y → ordering_then o (key_order [] ys) ≡ Greater → ⊥
    then_over Less e l g = less_greater g
    then_over Equal e l g = none_below ys g
    then_over Greater e l g = let over = ranked (b + 1) y Greater (sym e) in omega (arith, over, l)

    by : (o : Ordering) → nat_cmp b y ≡ o → ordering_then o (key_order (replicate n 255) ys) ≡ Less → ⊥
    by Less e h = then_over (nat_cmp (b + 1) y) refl (ranked b y Less (sym e)) g
    by Equal e h = none_above n ys (All-tail (λ byte. byte < 256) y ys bytes) (omega (arith, few)) h
    by Greater e h = greater_less h
raised_least (x ∷ front) [] b n bytes few h g = greater_less h
raised_least (x ∷ front) (y ∷ ys) b n bytes few h g = by (nat_cmp x y) (raised_least front ys b n (All-tail (λ byte. byte < 256) y ys bytes) (omega (arith, few))) h g
  where
    by : (o : Ordering) → (key_order (front ++ b ∷ replicate n 255) ys ≡ Less → key_order (front ++ (b + 1) ∷ []) ys ≢ Greater) →
        ordering_then o (key_order (front ++ b ∷ replicate n 255) ys) ≡ Less → ordering_then o (key_order (front ++ (b + 1) ∷ []) ys) ≡ Greater → ⊥
    by Less later h g = less_greater g
    by Equal later h g = later h g
    by Greater later h g = greater_less h
