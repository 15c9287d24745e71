-- The pairs of further leaves, and of a range of them.
use Rattle.plain_trie_records.proofs.Common.{◌≡◌, ◌≢◌, ℕ, zero, suc, List, [], ◌∷◌, ◌++◌, take, refl, ap, Map, is_within, range_of, Item, pairs}
use Rattle.std.proofs.lemmas.List.Elements.{filter-append}

pub pairs-append : (xs ys : List Item) → pairs (xs ++ ys) ≡ pairs xs ++ pairs ys
pairs-append [] ys = refl
pairs-append (x ∷ xs) ys = ap (λ m. (x.key, x.value) ∷ m) (pairs-append xs ys)

-- where the scan of some pairs gives one, that of more pairs does
pub some_more : (from upto : List ℕ) (limit : ℕ) (m n : Map) → take limit (range_of m from upto) ≢ [] → take limit (range_of (m ++ n) from upto) ≢ []
some_more from upto limit m n some = rw (filter-append (λ (e : List ℕ × ℕ). is_within from upto e.0) m n) (go limit (range_of m from upto) (range_of n from upto) some)
  where
    go : (k : ℕ) (xs ys : Map) → take k xs ≢ [] → take k (xs ++ ys) ≢ []
    go zero xs ys some = some
    go (suc k) [] ys some = absurd (some refl)
    go (suc k) (x ∷ xs) ys some = λ none. let z : x ∷ take k (xs ++ ys) ≡ [] = none in cc
