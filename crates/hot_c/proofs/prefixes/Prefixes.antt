-- The keys with a prefix that are above a key, or below it, are a range.
use Rattle.hot_c.proofs.Common.{◌≡◌, ◌≢◌, ℕ, ◌-◌, ◌≤◌, List, [], ◌∷◌, ◌&&◌, not, length, replicate, refl, sym, ap, subst, ◌∙◌, arith, length-append, length-replicate, nat_list_cmp_total, is_le, is_lt, ordering_reverse, Ordering, Less, Equal, Greater, IsKey, MAX_BYTES, key_order, is_within, HasPrefix, IsNextKey, IsPreviousKey, NoKeyAbove, last_with}
use Rattle.std.specs.Prelude.{IsTrue, Option}
use Rattle.std.specs.BTreeMap.Comparable.{le_lt_trans}
use Rattle.key_ranges.proofs.Ranges.{between, not_below as not_over, not_over as not_under, prefix_is_range}
use Rattle.key_ranges.proofs.Ranges.Above.{less_greater}
use Rattle.hot_c.specs.Calls.{FitsInKey}
use Rattle.hot_c.specs.Orders.{ScanClaim}
use Rattle.hot_c.specs.Prefixes.{HasPrefixAbove, HasPrefixBelow, IsRangeOf, ListsRest}
use Rattle.hot_c.specs.Scans.{Listing, ListsBy}
use Rattle.hot_c.specs.declared.opened.Opened.{Opened}

-- one key is not above the other
abbrev IsUpTo : List ℕ → List ℕ → Type 0
IsUpTo one other = key_order one other ≢ Greater

flipped : (o p : Ordering) → o ≡ ordering_reverse p → o ≢ Less → p ≢ Greater
flipped o Less e n g = cc
flipped o Equal e n g = cc
flipped o Greater e n g = n e

not_below : (one other : List ℕ) → key_order one other ≢ Less → IsUpTo other one
not_below one other n = flipped (key_order one other) (key_order other one) (nat_list_cmp_total.antisymm one other) n

not_above : (one other : List ℕ) → IsUpTo one other → key_order other one ≢ Less
not_above one other n l = n (nat_list_cmp_total.antisymm one other ∙ ap ordering_reverse l)

below_is_up_to : (one other : List ℕ) → key_order one other ≡ Less → IsUpTo one other
below_is_up_to one other l g = less_greater (sym l ∙ g)

above_is_up_to : (one other : List ℕ) → key_order one other ≡ Greater → IsUpTo other one
above_is_up_to one other g = below_is_up_to other one (nat_list_cmp_total.antisymm other one ∙ ap ordering_reverse g)

le : (o : Ordering) → o ≢ Greater → IsTrue (is_le o)
le Less n = refl
le Equal n = refl
le Greater n = absurd (n refl)

-- up to one that is below another
up_to_below : (one other key : List ℕ) → IsUpTo one other → key_order other key ≡ Less → key_order one key ≡ Less
up_to_below one other key n l = le_lt_trans nat_list_cmp_total one other key (le (key_order one other) n) l

-- below one that is not above another
below_up_to : (one other key : List ℕ) → key_order one other ≡ Less → IsUpTo other key → key_order one key ≡ Less
below_up_to one other key l n = by (key_order other key) refl n
  where
    by : (o : Ordering) → key_order other key ≡ o → o ≢ Greater → key_order one key ≡ Less
    by Less e n = nat_list_cmp_total.trans one other key l e
    by Equal e n =
        let above : key_order key one ≡ Greater = sym (nat_list_cmp_total.congr other key one e) ∙ (nat_list_cmp_total.antisymm other one ∙ ap ordering_reverse l) in
        nat_list_cmp_total.antisymm one key ∙ ap ordering_reverse above
    by Greater e n = absurd (n refl)

up_to_up_to : (one other key : List ℕ) → IsUpTo one other → IsUpTo other key → IsUpTo one key
up_to_up_to one other key m n = not_below key one (λ l. not_above other key n (below_up_to key one other l m))

within : (from upto key : List ℕ) → IsUpTo from key → IsUpTo key upto → IsTrue (is_within from upto key)
within from upto key low high = between (key_order from key) (key_order upto key) low (not_above key upto high)

low_end : (from upto key : List ℕ) → IsTrue (is_within from upto key) → IsUpTo from key
low_end from upto key t = not_over (key_order from key) (key_order upto key) t

high_end : (from upto key : List ℕ) → IsTrue (is_within from upto key) → IsUpTo key upto
high_end from upto key t = not_below upto key (not_under (key_order from key) (key_order upto key) t)

-- no key is from one that has bytes to the empty one
none_within : (last key : List ℕ) → 1 ≤ length last → IsTrue (is_within last [] key) → ⊥
none_within [] key some t = omega (arith, some)
none_within (x ∷ last) [] some t = low_end (x ∷ last) [] [] t refl
none_within (x ∷ last) (y ∷ key) some t = high_end (x ∷ last) [] (y ∷ key) t refl

none_below : (key : List ℕ) → key_order key [] ≡ Less → ⊥
none_below [] e = cc
none_below (x ∷ key) e = cc

module _ (prefix : List ℕ) where
  last_has_bytes : 1 ≤ length (last_with prefix)
  last_has_bytes =
      let n = length-append prefix (replicate (MAX_BYTES - length prefix) 255) in
      let m = length-replicate {A = ℕ} (MAX_BYTES - length prefix) 255 in
      omega (arith, n, m)

  begins : (key : List ℕ) → IsKey key → IsUpTo prefix key → IsUpTo key (last_with prefix) → HasPrefix prefix key
  begins key is low high = (prefix_is_range prefix key is).1 (within prefix (last_with prefix) key low high)

  from_prefix : (key : List ℕ) → IsKey key → HasPrefix prefix key → IsUpTo prefix key
  from_prefix key is h = low_end prefix (last_with prefix) key ((prefix_is_range prefix key is).0 h)

  up_to_last : (key : List ℕ) → IsKey key → HasPrefix prefix key → IsUpTo key (last_with prefix)
  up_to_last key is h = high_end prefix (last_with prefix) key ((prefix_is_range prefix key is).0 h)

  -- from the next key, where the prefix is not above it; else from the prefix
  pub from_next : (other next : List ℕ) → IsNextKey other next → key_order next prefix ≢ Less → IsRangeOf (HasPrefixAbove prefix other) next (last_with prefix)
  from_next other next h over key is = (
    (λ t. let low = low_end next (last_with prefix) key t in
        let above = up_to_up_to prefix next key (not_below next prefix over) low in
        (begins key is above (high_end next (last_with prefix) key t), below_up_to other next key h.above low)),
    (λ p. within next (last_with prefix) key (h.least key is p.1) (up_to_last key is p.0)),
  )

  pub from_start : (other next : List ℕ) → IsNextKey other next → key_order next prefix ≡ Less → IsRangeOf (HasPrefixAbove prefix other) prefix (last_with prefix)
  from_start other next h under key is = (
    (λ t. let low = low_end prefix (last_with prefix) key t in
        let above = up_to_up_to next prefix key (below_is_up_to next prefix under) low in
        (begins key is low (high_end prefix (last_with prefix) key t), below_up_to other next key h.above above)),
    (λ p. within prefix (last_with prefix) key (from_prefix key is p.0) (up_to_last key is p.0)),
  )

  pub none_after : (other : List ℕ) → NoKeyAbove other → IsRangeOf (HasPrefixAbove prefix other) (last_with prefix) []
  none_after other none key is = ((λ t. absurd (none_within (last_with prefix) key last_has_bytes t)), (λ p. absurd (none key is p.1)))

  -- up to the previous key, where it is not above the last one with the prefix; else up to that
  pub up_to_previous : (other previous : List ℕ) → IsPreviousKey other previous →
      key_order previous (last_with prefix) ≢ Greater → IsRangeOf (HasPrefixBelow prefix other) prefix previous
  up_to_previous other previous h under key is = (
    (λ t. let high = high_end prefix previous key t in
        let below = up_to_up_to key previous (last_with prefix) high under in
        (begins key is (low_end prefix previous key t) below, up_to_below key previous other high h.below)),
    (λ p. within prefix previous key (from_prefix key is p.0) (h.greatest key is p.1)),
  )

  pub up_to_end : (other previous : List ℕ) → IsPreviousKey other previous →
      key_order previous (last_with prefix) ≡ Greater → IsRangeOf (HasPrefixBelow prefix other) prefix (last_with prefix)
  up_to_end other previous h over key is = (
    (λ t. let high = high_end prefix (last_with prefix) key t in
        let below = up_to_up_to key (last_with prefix) previous high (above_is_up_to previous (last_with prefix) over) in
        (begins key is (low_end prefix (last_with prefix) key t) high, up_to_below key previous other below h.below)),
    (λ p. within prefix (last_with prefix) key (from_prefix key is p.0) (up_to_last key is p.0)),
  )

  pub none_before : (other : List ℕ) → other ≡ [] → IsRangeOf (HasPrefixBelow prefix other) (last_with prefix) []
  none_before other none key is = (
    (λ t. absurd (none_within (last_with prefix) key last_has_bytes t)),
    (λ p. absurd (none_below key (subst (λ (o : List ℕ). key_order key o ≡ Less) none p.1))),
  )

-- A scan of a range with exactly these keys is one of the rest.
module _ {IsMade : ScanClaim} (IsOnSide : List ℕ → List ℕ → List ℕ → Type 0) (prefix other from upto : List ℕ) {p o f u : List ℕ}
    {old new : Option Opened} {before after : Listing} {status : ℕ} where
  pub rest_listed : p ≡ prefix → o ≡ other → from ≡ f → upto ≡ u → FitsInKey prefix → FitsInKey other → IsRangeOf (IsOnSide p o) f u → FitsInKey f × FitsInKey u
      → ListsBy IsMade from upto old new before after status → ListsRest IsMade (IsOnSide prefix other) prefix other old new before after status
  rest_listed prefix_is other_is from_is upto_is first second range ends listed =
      let inside = subst (λ (x : List ℕ). IsRangeOf (IsOnSide prefix x) f u) other_is (subst (λ (x : List ℕ). IsRangeOf (IsOnSide x o) f u) prefix_is range) in
      let whole = subst (λ (x : List ℕ). IsRangeOf (IsOnSide prefix other) from x) (sym upto_is)
      (subst (λ (x : List ℕ). IsRangeOf (IsOnSide prefix other) x u) (sym from_is) inside) in
      record {
        closed = listed.closed;
        long = λ some no. absurd (no (first, second));
        made = λ some l m. (from, upto, whole, subst FitsInKey (sym from_is) ends.0, subst FitsInKey (sym upto_is) ends.1, listed);
      }
