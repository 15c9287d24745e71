-- The part of a map in a range.
use Rattle.finite_map.proofs.Common.{◌≡◌, ℕ, List, [], ◌∷◌, Bool, true, false, cond, refl, sym, ap, subst, ◌∙◌, filter, IsStrictlySortedBy, keys_of}
use Rattle.std.proofs.lemmas.List.Kept.{IsStrictlySortedBy-filter}
use Rattle.finite_map.specs.declared.Change.{Change}
use Rattle.finite_map.specs.Maps.{Map, key_order, IsRising}
use Rattle.finite_map.specs.Fronts.{map_of}
use Rattle.finite_map.specs.Scans.{is_within, range_of}
use Rattle.finite_map.proofs.Fronts.{map_of-rising}

keys_of-filter : (p : List ℕ → Bool) (m : Map) → keys_of (filter (λ e. p e.0) m) ≡ filter p (keys_of m)
keys_of-filter p [] = refl
keys_of-filter p (e ∷ es) = by (p e.0) ∙ ap (λ ks. cond (p e.0) (e.0 ∷ ks) ks) (keys_of-filter p es)
  where
    by : (b : Bool) → keys_of (cond b (e ∷ filter (λ e. p e.0) es) (filter (λ e. p e.0) es)) ≡ cond b (e.0 ∷ keys_of (filter (λ e. p e.0) es)) (keys_of (filter (λ e. p e.0) es))
    by true = refl
    by false = refl

-- the keys of a range rise
pub range-rising : (front : List Change) (from upto : List ℕ) → IsRising (range_of (map_of front) from upto)
range-rising front from upto =
    subst (IsStrictlySortedBy key_order) (sym (keys_of-filter (is_within from upto) (map_of front)))
    (IsStrictlySortedBy-filter key_order (is_within from upto) (keys_of (map_of front)) (map_of-rising front))
