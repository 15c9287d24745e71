-- The pairs of a list are written to an array, one after the other.
use Rattle.hot_c.proofs.Common.{◌≡◌, ℕ, zero, suc, ◌+◌, ◌<◌, ◌≤◌, List, [], ◌∷◌, ◌++◌, length, drop, reverse, All, Some, sym, ap, ◌∙◌, subst, arith, get_or, slice_set, slice_get, drop-set-lt, length-drop, length-set, reverse-append, All-head, All-tail, IsKey}
use Rattle.std.proofs.lemmas.Option.{slice_get_within}
use Rattle.hot_c.specs.Pairs.{HoldPairs, BecomesAt, HoldsPair}
use Rattle.hot_c.specs.declared.pairs.Pair.{Pair}
use Rattle.hot_c.proofs.opening.Places.{at_both, one_less, written}

-- the keys of pairs are keys
abbrev pub HaveKeys : List (List ℕ × ℕ) → Type 0
HaveKeys pairs = All (λ pair. IsKey pair.0) pairs

-- The first n places of an array have the first n pairs, and the others are as they were. These pairs are left, each with a key.
pub record HasWritten (pairs left : List (List ℕ × ℕ)) (n : ℕ) (before after : List Pair) : Type 0 where
  pub left_are : drop n pairs ≡ left
  pub short : n ≤ length pairs
  pub keys : HaveKeys left
  pub count : length after ≡ length before
  pub written : (q : ℕ) (e : List ℕ × ℕ) → q < n → slice_get pairs q ≡ Some e → (pair : Pair) × (slice_get after q ≡ Some pair) × BecomesAt before q e pair
  pub others : drop n after ≡ drop n before

same : {A : Type 0} (x y : A) → Some x ≡ Some y → x ≡ y
same x y e = cc

-- the first item that is left is the one at this place
at_place : {A : Type 0} (n : ℕ) (xs : List A) (x : A) (rest : List A) → drop n xs ≡ x ∷ rest → (n < length xs) × (slice_get xs n ≡ Some x)
at_place zero [] x rest e = absurd cc
at_place (suc n) [] x rest e = absurd cc
at_place zero (y ∷ ys) x rest e = (omega arith, cc)
at_place (suc n) (y ∷ ys) x rest e = let h = at_place n ys x rest e in let low = h.0 in (omega (arith, low), h.1)

module _ (pairs : List (List ℕ × ℕ)) (left : List (List ℕ × ℕ)) (n : ℕ) (before after : List Pair) (h : HasWritten pairs left n before after) where
  module _ (e : List ℕ × ℕ) (rest : List (List ℕ × ℕ)) (is : left ≡ e ∷ rest) where
    pub is_key : IsKey e.0
    is_key = All-head (λ (pair : List ℕ × ℕ). IsKey pair.0) e rest (subst HaveKeys is h.keys)

    is_inside : length pairs ≤ length before → n < length after
    is_inside room = let low = (at_place n pairs e rest (h.left_are ∙ is)).0 in let count = h.count in omega (arith, low, count, room)

    -- one pair more is written
    pub one_more : length pairs ≤ length before → (d pair : Pair) → HoldsPair e (get_or after n d) pair → HasWritten pairs rest (n + 1) before (slice_set after n pair)
    one_more room d pair spelled =
        let (low, got) = at_place n pairs e rest (h.left_are ∙ is) in
        let was = at_both n after before d (is_inside room) h.others in
        record {
          left_are = one_less n pairs ∙ ap (drop 1) (h.left_are ∙ is);
          short = omega (arith, low);
          keys = All-tail (λ (pair : List ℕ × ℕ). IsKey pair.0) e rest (subst HaveKeys is h.keys);
          count = length-set after n pair ∙ h.count;
          written = written (BecomesAt before) pairs after n pair (is_inside room) h.written
              (λ f g. (get_or after n d, was, subst (λ (x : List ℕ × ℕ). HoldsPair x (get_or after n d) pair) (same e f (sym got ∙ g)) spelled));
          others = drop-set-lt (n + 1) after n pair (omega arith) ∙ one_less n after ∙ ap (drop 1) h.others ∙ sym (one_less n before);
        }

  module _ (none : left ≡ []) where
    many : n ≡ length pairs
    many = let l = length-drop n pairs in let z : length (drop n pairs) ≡ 0 = ap length (h.left_are ∙ none) in let short = h.short in omega (arith, l, z, short)

    -- all are written
    pub all_written : HoldPairs pairs before after
    all_written q e got = let low = slice_get_within pairs q e got in let all = many in h.written q e (omega (arith, low, all)) got

    pub others_kept : drop (length pairs) after ≡ drop (length pairs) before
    others_kept = subst (λ m. drop m after ≡ drop m before) many h.others

-- the last item is the first one of the list turned round
pub last_first : {A : Type 0} (xs front : List A) (x : A) → xs ≡ front ++ x ∷ [] → reverse xs ≡ x ∷ reverse front
last_first xs front x e = ap reverse e ∙ reverse-append front (x ∷ [])
