-- A text that is cut at its first separator.
use Rattle.hot_scripts.proofs.Common.{◌≡◌, ℕ, ◌+◌, ◌-◌, ◌<◌, Bool, List, [], ◌∷◌, length, take, drop, Some, None, inl, inr, arith, position, slice_split, position_or_len, take_all, length-drop, cases_lt, lt-ltb}
use Rattle.std.proofs.lemmas.List.Splits.{slice_split_first, slice_split_none, length-slice_split}
use Rattle.std.proofs.lemmas.List.Sums.{position_or_len_is, fails_before_first}
use Rattle.std.proofs.lemmas.List.Quantifiers.{position-Some}

-- at the place of the first separator
pub slice_split-Some : (p : ℕ → Bool) (text : List ℕ) (i : ℕ) → position p text ≡ Some i
    → slice_split p text ≡ take i text ∷ slice_split p (take (length text - (i + 1)) (drop (i + 1) text))
slice_split-Some p text i h =
    let at = position-Some p text i 0 h in
    let place = position_or_len_is p text i 0 (omega arith) at.2 (λ _. at.1) in
    let within : position_or_len p text < length text = omega (arith, place, at.0) in
    let rest = take_all (length text - (i + 1)) (drop (i + 1) text) (omega (arith, length-drop (i + 1) text)) in
    rw rest (rw place at (slice_split_first p text 0 within))

-- where no byte is a separator
pub slice_split-None : (p : ℕ → Bool) (text : List ℕ) → position p text ≡ None → slice_split p text ≡ text ∷ []
slice_split-None p text h = elim (cases_lt (position_or_len p text) (length text)) [
  | inl within ↦
      let e = lt-ltb (position_or_len p text) (length text) within in
      let bad = rw e at h in cc
  | inr none ↦ slice_split_none p text (λ k d lt. fails_before_first p text k d (omega arith))
]

-- a text has a part
pub some_part : (p : ℕ → Bool) (text : List ℕ) → 0 < length (slice_split p text)
some_part p text = omega (arith, length-slice_split p text)
