-- How many keys the map of a front has: as many as its changes have put in less those that they have taken out, pass by pass.
use Rattle.hot_index.proofs.Common.{◌≡◌, ◌≢◌, ℕ, zero, suc, ◌+◌, ◌%◌, ◌^◌, ◌<◌, ◌≤◌, List, [], ◌∷◌, length, slice_index_or, fold, cond, Option, Some, None, sum_by, refl, sym, ap, ◌∙◌, subst, arith, ⊎_elim, option_map, unwrap_or, IsStrictlySortedBy, length-map, All-head, All-tail, sum_by-cons, eqb_tells, slice_get-get_or, Added, Replaced, Removed, Change, Map, IsRising, key_order, value_at, with_value, without, FitsKind, LegalFrom, LegalFront, changed, changed_by, map_of, own_changes, changed_by-rising}
use Rattle.std.proofs.Common.{All, IsSome}
use Rattle.std.specs.Map.{values_of}
use Rattle.std.specs.BTreeMap.{is_at}
use Rattle.std.specs.Cmp.Lexicographic.{nat_list_cmp_total}
use Rattle.std.proofs.lemmas.Map.Entries.{sum_by-insert_entry, sum_by-remove_entry}
use Rattle.finite_map.specs.declared.Kind.{Kind}
use Rattle.hot_index.specs.declared.key_counts.KeyCount.{KeyCount}
use Rattle.hot_index.specs.KeyCounts.{AreCounts, IsDifference, IsNet, puts, puts_of, takes, takes_of}
use Rattle.hot_index.proofs.key_counts.Nets.{differences_add}

abbrev one : ℕ → ℕ
one x = 1

ones : (xs : List ℕ) → sum_by one xs ≡ length xs
ones [] = refl
ones (x ∷ xs) = let more = sum_by-cons one x xs in let rest = ones xs in omega (arith, more, rest)

-- how many entries a map has
size : (m : Map) → sum_by one (values_of m) ≡ length m
size m = ones (values_of m) ∙ length-map m (λ e. e.1)

-- one where a value is held
abbrev held_one : Option ℕ → ℕ
held_one o = unwrap_or (option_map one o) 0

some_one : (o : Option ℕ) → IsSome o → held_one o ≡ 1
some_one None h = absurd cc
some_one (Some v) h = refl

with_one : (m : Map) (key : List ℕ) (value : ℕ) → IsRising m → length (with_value m key value) + held_one (value_at m key) ≡ length m + 1
with_one m key value rising =
    let more : sum_by one (values_of (with_value m key value)) + held_one (value_at m key) ≡ sum_by one (values_of m) + 1 = sum_by-insert_entry one nat_list_cmp_total m key value rising in
    let before = size m in let after = size (with_value m key value) in omega (arith, more, before, after)

less_one : (m : Map) (key : List ℕ) → length (without m key) + held_one (value_at m key) ≡ length m
less_one m key =
    let less : sum_by one (values_of (without m key)) + held_one (value_at m key) ≡ sum_by one (values_of m) = sum_by-remove_entry one (is_at (key_order key)) m in
    let before = size m in let after = size (without m key) in omega (arith, less, before, after)

size_after : (kind : Kind) (m : Map) (key : List ℕ) (value : ℕ) → IsRising m → FitsKind kind (value_at m key) value → length (changed_by kind m key value) + takes_of kind ≡ length m + puts_of kind
size_after Added m key value rising fits =
    let it = with_one m key value rising in let none : held_one (value_at m key) ≡ 0 = ap held_one fits in omega (arith, it, none)
size_after Replaced m key value rising fits =
    let it = with_one m key value rising in let some = some_one (value_at m key) fits in omega (arith, it, some)
size_after Removed m key value rising fits =
    let it = less_one m key in let some : held_one (value_at m key) ≡ 1 = ap held_one fits in omega (arith, it, some)

size_from : (m : Map) (cs : List Change) → IsRising m → LegalFrom m cs → length (fold changed m cs) + sum_by takes cs ≡ length m + sum_by puts cs
size_from m [] rising legal = refl
size_from m (c ∷ cs) rising legal =
    let first = size_after c.kind m c.key c.value rising legal.0 in
    let rest = size_from (changed m c) cs (changed_by-rising c.kind m c.key c.value rising) legal.1 in
    let put = sum_by-cons puts c cs in let took = sum_by-cons takes c cs in omega (arith, first, rest, put, took)

none_rising : IsRising []
unfolding IsStrictlySortedBy
none_rising = tt

pub size_of : (front : List Change) → LegalFront front → length (map_of front) + sum_by takes front ≡ sum_by puts front
size_of front legal = let it = size_from [] front none_rising legal in let none : length {A = List ℕ × ℕ} [] ≡ 0 = refl in omega (arith, it, none)

-- what the changes of the passes below k come to
abbrev pub of_below : (Change → ℕ) → ℕ → List Change → ℕ
of_below f zero front = 0
of_below f (suc k) front = of_below f k front + sum_by f (own_changes k front)

pub below_one_more : (f : Change → ℕ) (k : ℕ) (front : List Change) → of_below f (k + 1) front ≡ of_below f k front + sum_by f (own_changes k front)
below_one_more f k front = let more : suc k ≡ k + 1 = omega arith in subst (λ n. of_below f n front ≡ of_below f k front + sum_by f (own_changes k front)) more refl

module _ (f : Change → ℕ) (c : Change) (cs : List Change) where
  another : (k : ℕ) → c.pass ≢ k → sum_by f (own_changes k (c ∷ cs)) ≡ sum_by f (own_changes k cs)
  another k apart = ⊎_elim (λ same. absurd (apart same.1)) (λ no. ap (λ b. sum_by f (cond b (c ∷ own_changes k cs) (own_changes k cs))) no.0) (eqb_tells c.pass k)

  mine : (k : ℕ) → c.pass ≡ k → sum_by f (own_changes k (c ∷ cs)) ≡ f c + sum_by f (own_changes k cs)
  mine k same = ⊎_elim (λ yes. ap (λ b. sum_by f (cond b (c ∷ own_changes k cs) (own_changes k cs))) yes.0 ∙ sum_by-cons f c (own_changes k cs)) (λ no. absurd (no.1 same)) (eqb_tells c.pass k)

  above : (k : ℕ) → k ≤ c.pass → of_below f k (c ∷ cs) ≡ of_below f k cs
  above zero low = refl
  above (suc k) low = let rest = above k (omega (arith, low)) in let own = another k (λ same. absurd (omega (arith, low, same))) in omega (arith, rest, own)

  within : (k : ℕ) → c.pass < k → of_below f k (c ∷ cs) ≡ f c + of_below f k cs
  within zero low = absurd (omega (arith, low))
  within (suc k) low = ⊎_elim
      (λ yes. let rest = above k (omega (arith, yes.1)) in let own = mine k yes.1 in omega (arith, rest, own))
      (λ no. let rest = within k (lower no.1) in let own = another k no.1 in omega (arith, rest, own))
      (eqb_tells c.pass k)
    where
      lower : c.pass ≢ k → c.pass < k
      lower apart = omega (arith, low, apart)

pub of_all : (f : Change → ℕ) (n : ℕ) (front : List Change) → All (λ c. c.pass < n) front → of_below f n front ≡ sum_by f front
of_all f n [] makers = nothing n
  where
    nothing : (k : ℕ) → of_below f k [] ≡ 0
    nothing zero = refl
    nothing (suc k) = let rest = nothing k in omega (arith, rest)
of_all f n (c ∷ cs) makers =
    let here = within f c cs n (All-head (λ x. x.pass < n) c cs makers) in let rest = of_all f n cs (All-tail (λ x. x.pass < n) c cs makers) in
    let all = sum_by-cons f c cs in omega (arith, here, rest, all)

-- a difference of less than 2^64 is known by its net
pub size_told : (size more less net : ℕ) → IsDifference more less net → size + less ≡ more → net < 2 ^ 64 → size < 2 ^ 64 → net ≡ size
size_told size more less net (a, b, e) is low small = omega (arith, e, is, low, small)

-- the counts of the passes below k come to this net
abbrev pub IsBelow : List Change → ℕ → ℕ → Type 0
IsBelow front k net = IsDifference (of_below puts k front) (of_below takes k front) net

pub none_below : (front : List Change) → IsBelow front 0 0
none_below front = (0, 0, refl)

pub one_more_below : (front : List Change) (counts : List KeyCount) → AreCounts front counts → (k : ℕ) (d : KeyCount) → k < length counts → (net : ℕ) → IsBelow front k net
    → IsBelow front (k + 1) ((net + (slice_index_or counts k d).keys) % 2 ^ 64)
one_more_below front counts are k d low net below =
    let count = slice_index_or counts k d in let it = are.each k count (slice_get-get_or counts k d low) in
    let own : IsNet (own_changes k front) count.keys = subst (λ cs. IsNet cs count.keys) (sym it.1.own) it.2 in
    subst (λ less. IsDifference (of_below puts (k + 1) front) less ((net + count.keys) % 2 ^ 64)) (sym (below_one_more takes k front))
    (subst (λ more. IsDifference more (of_below takes k front + sum_by takes (own_changes k front)) ((net + count.keys) % 2 ^ 64)) (sym (below_one_more puts k front))
    (differences_add _ _ _ _ net count.keys below own))

pub all_below : (front : List Change) (counts : List KeyCount) → AreCounts front counts → (k : ℕ) → k ≡ length counts → (net : ℕ) → IsBelow front k net → net < 2 ^ 64
    → length (map_of front) < 2 ^ 64 → net ≡ length (map_of front)
all_below front counts are k all net below low small =
    let makers = subst (λ n. All (λ (c : Change). c.pass < n) front) (sym all) are.makers in
    let put = of_all puts k front makers in let took = of_all takes k front makers in let is = size_of front are.legal in
    size_told (length (map_of front)) (of_below puts k front) (of_below takes k front) net below (omega (arith, put, took, is)) low small
