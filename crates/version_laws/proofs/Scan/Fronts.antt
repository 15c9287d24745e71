-- From versions to fronts: what a scan took is a lawful scan.
use Rattle.version_laws.proofs.Common.{◌≡◌, ◌≢◌, inl, inr, ℕ, suc, zero, ◌+◌, ◌-◌, ◌≤◌, List, [], ◌∷◌, ◌++◌, length, take, drop, fold, refl, ap, sym, ◌∙◌, subst, arith, Some, None, Option, Bool, true, false, not, le_refl, false≢true, and_parts, not-true, IsKey, Change, Key, IsBefore, IsAtMost, Tree, Has, holds_has, Past, IsHeldSince, IsKeptSince, KeepsFixedWordsSince, content, TellChanges, Direction, Upwards, Downwards}
use Rattle.std.specs.Prelude.{All, Contains, IsTrue, is_some}
use Rattle.std.proofs.lemmas.List.{length-append}
use Rattle.std.proofs.lemmas.List.Elements.{All-append, All-from_recursion, recursion_from_All, All-contains, Contains-push, Contains-append_left}
use Rattle.std.proofs.lemmas.List.Sums.{fold-append}
use Rattle.std.specs.List.{AllByRecursion}
use Rattle.std.specs.List.Sorted.{IsStrictlySortedBy}
use Rattle.std.specs.Ordering.{is_le, is_lt}
use Rattle.std.specs.declared.cmp.Ordering.{Ordering}
use Rattle.std.specs.declared.cmp.Ordering.TheVariants.{Less, Equal, Greater}
use Rattle.std.specs.Map.{keys_of}
use Rattle.finite_map.specs.declared.Kind.{Kind}
use Rattle.finite_map.specs.declared.Kind.TheVariants.{Added, Replaced, Removed}
use Rattle.finite_map.specs.declared.Scan.{Scan}
use Rattle.finite_map.specs.Maps.{Map, key_order, value_at}
use Rattle.finite_map.specs.Fronts.{map_of, changed, changed_by}
use Rattle.finite_map.specs.Scans.{is_within, IsHeldBetween, IsHeldThroughout as IsKeptBetween, IsUpToLast, IsLawfulScanWith}
use Rattle.finite_map.specs.Reverse.{falling_order, IsDownToLast}
use Rattle.tries.proofs.Content.Maps.{before_less, holds_value, value_holds}
use Rattle.tries.proofs.Keys.{has_key, at_most_le, at_most_not_lt, le_at_most, not_lt_at_most, HoldsKey, held_inserted, held_removed}
use Rattle.version_laws.proofs.Scan.{before_trans}
use Rattle.version_laws.specs.Scan.{Pair, Every, IsKeyListed, Range, IsInRange, in_order_taken}
use Rattle.version_laws.specs.Directions.{IsAnswer, IsEarlier, IsNoLater, IsLawfulBy, AreOrdered, IsComplete, IsReachedBy, IsCut}
use Rattle.version_laws.proofs.Directions.{every_map}

-- The range by bits is the range by bytes.
module _ (g : Range) (kf : IsKey g.from) (ku : IsKey g.upto) where
  within : (k : Key) → IsKey k → IsInRange g k → IsTrue (is_within g.from g.upto k)
  within k i h = rw (at_most_le g.from k kf i h.0) (rw (at_most_not_lt k g.upto i ku h.1) refl)

  in_range : (k : Key) → IsKey k → IsTrue (is_within g.from g.upto k) → IsInRange g k
  in_range k i h =
      let b = and_parts (is_le (key_order g.from k)) (not (is_lt (key_order g.upto k))) h in
      (le_at_most g.from k kf i b.0, not_lt_at_most k g.upto i ku (not-true (is_lt (key_order g.upto k)) b.1))

-- A change that doesn't remove the key leaves it held.
changed_keeps : (d : Kind) (m : Map) (k l : Key) (w : ℕ) → (d ≡ Removed → l ≢ k) → HoldsKey k m → HoldsKey k (changed_by d m l w)
changed_keeps Added m k l w n h = held_inserted k l w m h
changed_keeps Replaced m k l w n h = held_inserted k l w m h
changed_keeps Removed m k l w n h = held_removed k l m (n refl) h

-- Changes that don't remove the key.
abbrev IsUnremoved : Key → List Change → Type 0
IsUnremoved k xs = AllByRecursion (λ x. x.kind ≡ Removed → x.key ≢ k) xs

front_keeps : (m : Map) (xs : List Change) (k : Key) → IsUnremoved k xs → HoldsKey k m → HoldsKey k (fold changed m xs)
front_keeps m [] k u h = h
front_keeps m (x ∷ xs) k u h = front_keeps (changed m x) xs k u.1 (changed_keeps x.kind m k x.key x.value u.0 h)

unremoved_take : (n : ℕ) (k : Key) (xs : List Change) → IsUnremoved k xs → IsUnremoved k (take n xs)
unremoved_take zero k xs h = tt
unremoved_take (suc n) k [] h = tt
unremoved_take (suc n) k (x ∷ xs) h = (h.0, unremoved_take n k xs h.1)

-- The first changes of a longer list.
take_more : (n : ℕ) (xs ys : List Change) → length xs ≤ n → take n (xs ++ ys) ≡ xs ++ take (n - length xs) ys
take_more n [] ys h = let e : n - 0 ≡ n = omega arith in ap (λ z. take z ys) (sym e)
take_more zero (x ∷ xs) ys h = absurd (omega arith)
take_more (suc n) (x ∷ xs) ys h =
    let e : suc n - suc (length xs) ≡ n - length xs = omega arith in
    ap (λ z. x ∷ z) (take_more n xs ys (omega arith)) ∙ ap (λ z. x ∷ (xs ++ take z ys)) (sym e)

drop_front : (xs ys : List Change) → drop (length xs) (xs ++ ys) ≡ ys
drop_front [] ys = refl
drop_front (x ∷ xs) ys = drop_front xs ys

-- What versions say of a key, and what the fronts say.
module _ (s : Past) (before rest : List Change) (m : ℕ) (steady : KeepsFixedWordsSince s m) (told : TellChanges s (before ++ rest)) where
  held_key : (o : ℕ) (k : Key) (v : ℕ) → IsHeldSince s o k v → IsKey k
  held_key o k v (n, t, lo, hi, e, h) = has_key t (steady.trees n t hi e).0 k (holds_has t k v h)

  -- What was held in a version is held after so many changes.
  held_between : (k : Key) (v : ℕ) → IsHeldSince s (length before) k v → IsHeldBetween before (before ++ rest) k v
  held_between k v (n, t, lo, hi, e, h) =
      let c = told.count in
      (n, lo, omega arith, subst (λ (z : Map). value_at z k ≡ Some v) (ap content (sym e) ∙ told.content_is n hi) (holds_value t (steady.trees n t hi e).0 k v h))

  -- A key of the front's map that nothing removes since was held in each version since.
  front_kept : (k : Key) → IsKeptBetween before (before ++ rest) k → IsKeptSince s (length before) k
  front_kept k h n lo hi = go (s.version n) (subst (HoldsKey k) (sym (told.content_is n hi)) in_map)
    where
      unremoved : IsUnremoved k rest
      unremoved = recursion_from_All (λ (x : Change). x.kind ≡ Removed → x.key ≢ k) rest
          (subst (All (λ (x : Change). x.kind ≡ Removed → x.key ≢ k)) (drop_front before rest) h.1)

      there : (o : Option ℕ) → is_some o ≡ true → (v : ℕ) × (o ≡ Some v)
      there None e = absurd (false≢true e)
      there (Some v) e = (v, refl)

      in_map : HoldsKey k (map_of (take n (before ++ rest)))
      in_map = subst (HoldsKey k) (sym (ap map_of (take_more n before rest lo) ∙ fold-append changed [] before (take (n - length before) rest)))
          (front_keeps (map_of before) (take (n - length before) rest) k (unremoved_take (n - length before) k rest unremoved) (there (value_at (map_of before) k) h.0))

      go : (w : Option Tree) → HoldsKey k (content w) → (t : Tree) × (w ≡ Some t) × Has t k
      go None (v, e) = absurd (let z : None ≡ Some v = e in cc)
      go (Some t) (v, e) = (t, refl, holds_has t k v (value_holds t k v e))

-- The pairs in the order in which they were taken.
module _ (P : Key × ℕ → Type 0) where
  all_turned : (xs : List Pair) → Every (λ x. P (x.key, x.value)) xs → All P (in_order_taken xs)
  all_turned [] a = All-from_recursion P [] tt
  all_turned (x ∷ xs) a = All-append P (in_order_taken xs) ((x.key, x.value) ∷ []) (all_turned xs a.1) (All-from_recursion P ((x.key, x.value) ∷ []) (a.0, tt))

pub length_in_order_taken : (xs : List Pair) → length (in_order_taken xs) ≡ length xs
length_in_order_taken [] = refl
length_in_order_taken (x ∷ xs) =
    let e : length xs + 1 ≡ suc (length xs) = omega arith in
    length-append (in_order_taken xs) ((x.key, x.value) ∷ []) ∙ (ap (λ n. n + 1) (length_in_order_taken xs) ∙ e)

-- A sorted list with a later key at its end.
sorted_push : (order : Key → Key → Ordering) (ks : List Key) (k : Key) → IsStrictlySortedBy order ks → AllByRecursion (λ l. order l k ≡ Less) ks → IsStrictlySortedBy order (ks ++ k ∷ [])
unfolding IsStrictlySortedBy
sorted_push order [] k s a = (tt, tt)
sorted_push order (l ∷ ks) k s a = (below l ks s.0 a.0, sorted_push order ks k s.1 a.1)
  where
    below : (l : Key) (ks : List Key) → AllByRecursion (λ j. order l j ≡ Less) ks → order l k ≡ Less → AllByRecursion (λ j. order l j ≡ Less) (ks ++ k ∷ [])
    below l [] b e = (e, tt)
    below l (j ∷ ks) b e = (b.0, below l ks b.1 e)

keys_push : (m : Map) (k : Key) (v : ℕ) → keys_of (m ++ (k, v) ∷ []) ≡ keys_of m ++ k ∷ []
keys_push [] k v = refl
keys_push (e ∷ m) k v = ap (λ z. e.0 ∷ z) (keys_push m k v)

all_push : (P : Key → Type 0) (ks : List Key) (k : Key) → AllByRecursion P ks → P k → AllByRecursion P (ks ++ k ∷ [])
all_push P [] k a h = (h, tt)
all_push P (l ∷ ks) k a h = (a.0, all_push P ks k a.1 h)

-- The order of keys in a direction.
abbrev order_by : Direction → Key → Key → Ordering
order_by Upwards = key_order
order_by Downwards = falling_order

earlier_less : (d : Direction) (a b : Key) → IsKey a → IsKey b → IsEarlier d a b → order_by d a b ≡ Less
earlier_less Upwards a b ka kb h = before_less a b ka kb h
earlier_less Downwards a b ka kb h = before_less b a kb ka h

module _ (d : Direction) where
  all_earlier : (k : Key) (xs : List Pair) → IsKey k → Every (λ x. IsKey x.key) xs → Every (λ x. IsEarlier d x.key k) xs → Every (λ x. order_by d x.key k ≡ Less) xs
  all_earlier k [] i a b = tt
  all_earlier k (x ∷ xs) i a b = (earlier_less d x.key k a.0 i b.0, all_earlier k xs i a.1 b.1)

  earlier_turned : (k : Key) (xs : List Pair) → Every (λ x. order_by d x.key k ≡ Less) xs → AllByRecursion (λ l. order_by d l k ≡ Less) (keys_of (in_order_taken xs))
  earlier_turned k [] b = tt
  earlier_turned k (x ∷ xs) b =
      subst (AllByRecursion (λ l. order_by d l k ≡ Less)) (sym (keys_push (in_order_taken xs) x.key x.value))
      (all_push (λ l. order_by d l k ≡ Less) (keys_of (in_order_taken xs)) x.key (earlier_turned k xs b.1) b.0)

  turned_sorted : (xs : List Pair) → Every (λ x. IsKey x.key) xs → AreOrdered d xs → IsStrictlySortedBy (order_by d) (keys_of (in_order_taken xs))
  unfolding IsStrictlySortedBy
  turned_sorted [] a f = tt
  turned_sorted (x ∷ xs) a f =
      subst (IsStrictlySortedBy (order_by d)) (sym (keys_push (in_order_taken xs) x.key x.value))
      (sorted_push (order_by d) (keys_of (in_order_taken xs)) x.key (turned_sorted xs a.1 f.1) (earlier_turned x.key xs (all_earlier x.key xs a.0 a.1 f.0)))

listed_turned : (k : Key) (xs : List Pair) → IsKeyListed k xs → Contains (keys_of (in_order_taken xs)) k
listed_turned k [] a = absurd a
listed_turned k (x ∷ xs) (inl e) = rw (keys_push (in_order_taken xs) x.key x.value, e) (Contains-push (keys_of (in_order_taken xs)) x.key)
listed_turned k (x ∷ xs) (inr a) = rw (keys_push (in_order_taken xs) x.key x.value) (Contains-append_left (keys_of (in_order_taken xs)) (x.key ∷ []) k (listed_turned k xs a))

not_greater : (o : Ordering) → o ≢ Greater → is_le o ≡ true
not_greater Less n = refl
not_greater Equal n = refl
not_greater Greater n = absurd (n refl)

at_most_trans : (a b c : Key) → IsAtMost a b → IsAtMost b c → IsAtMost a c
at_most_trans a b c (inl e) h = subst (λ z. IsAtMost z c) (sym e) h
at_most_trans a b c (inr h) (inl e) = inr (subst (IsBefore a) e h)
at_most_trans a b c (inr h) (inr g) = inr (before_trans a b c h g)

not_less : (o : Ordering) → o ≢ Less → is_lt o ≡ false
not_less Less n = absurd (n refl)
not_less Equal n = refl
not_less Greater n = refl

-- Whether a key is no later than that of the last pair.
abbrev IsReachedByLast : Direction → Map → List ℕ → Type 0
IsReachedByLast Upwards pairs k = IsUpToLast pairs k
IsReachedByLast Downwards pairs k = IsDownToLast pairs k

no_later_than : (d : Direction) (x : Pair) (ys : List Pair) → Every (λ y. IsKey y.key) ys → Every (λ y. IsEarlier d y.key x.key) ys → Every (λ y. IsKey y.key × IsNoLater d y.key x.key) ys
no_later_than d x [] b c = tt
no_later_than d x (y ∷ ys) b c = ((b.0, go d c.0), no_later_than d x ys b.1 c.1)
  where
    go : (d : Direction) → IsEarlier d y.key x.key → IsNoLater d y.key x.key
    go Upwards h = inr h
    go Downwards h = inr h

-- A key that is no later than that of the last pair is no later than that of the newest.
last_is_newest : (d : Direction) (k : Key) (xs : List Pair) → IsKey k → Every (λ x. IsKey x.key) xs → AreOrdered d xs → IsReachedByLast d (in_order_taken xs) k → IsReachedBy d k xs
last_is_newest Upwards k [] i a f (n, e, lt, at, h) = absurd (omega arith)
last_is_newest Downwards k [] i a f (n, e, lt, at, h) = absurd (omega arith)
last_is_newest Upwards k (x ∷ xs) i a f (n, e, lt, at, h) =
    let y = All-contains (λ z. IsKey z.0 × IsAtMost z.0 x.key) (in_order_taken (x ∷ xs)) e
    (all_turned (λ z. IsKey z.0 × IsAtMost z.0 x.key) (x ∷ xs) ((a.0, inl refl), no_later_than Upwards x xs a.1 f.0)) (n, lt, at) in
    at_most_trans k e.0 x.key (le_at_most k e.0 i y.0 (not_greater (key_order k e.0) h)) y.1
last_is_newest Downwards k (x ∷ xs) i a f (n, e, lt, at, h) =
    let y = All-contains (λ z. IsKey z.0 × IsAtMost x.key z.0) (in_order_taken (x ∷ xs)) e
    (all_turned (λ z. IsKey z.0 × IsAtMost x.key z.0) (x ∷ xs) ((a.0, inl refl), no_later_than Downwards x xs a.1 f.0)) (n, lt, at) in
    at_most_trans x.key e.0 k y.1 (not_lt_at_most e.0 k y.0 i (not_less (key_order k e.0) h))

-- What is said of lawful scans of a direction.
abbrev IsLawfulIn : Direction → List Change → List Change → List ℕ → List ℕ → ℕ → Scan → Type 0
IsLawfulIn d = IsLawfulScanWith (record { ordered = λ z. IsStrictlySortedBy (order_by d) (keys_of z); reached = IsReachedByLast d; beyond = λ z k. All (λ e. order_by d e.0 k ≡ Less) z })

lawful_by : (d : Direction) (before after : List Change) (from upto : Key) (limit : ℕ) (scan : Scan) → IsLawfulIn d before after from upto limit scan → IsLawfulBy d before after from upto limit scan
lawful_by Upwards before after from upto limit scan w = w
lawful_by Downwards before after from upto limit scan w = w

module _ (s : Past) (before rest : List Change) (m : ℕ) (steady : KeepsFixedWordsSince s m) (told : TellChanges s (before ++ rest)) (g : Range) (kf : IsKey g.from) (ku : IsKey g.upto)
    (xs : List Pair) (scan : Scan) (items : scan.pairs.items ≡ in_order_taken xs) where
  are_keys : Every (λ x. IsHeldSince s (length before) x.key x.value) xs → Every (λ x. IsKey x.key) xs
  are_keys h = every_map (λ x. IsHeldSince s (length before) x.key x.value) (λ x. IsKey x.key) xs
      (λ x. held_key s before rest m steady told (length before) x.key x.value) h

  all_within : Every (λ x. IsKey x.key) xs → Every (λ x. IsInRange g x.key) xs → All (λ e. IsTrue (is_within g.from g.upto e.0)) (in_order_taken xs)
  all_within a h = all_turned (λ e. IsTrue (is_within g.from g.upto e.0)) xs (go xs a h)
    where
      go : (ys : List Pair) → Every (λ y. IsKey y.key) ys → Every (λ y. IsInRange g y.key) ys → Every (λ y. IsTrue (is_within g.from g.upto y.key)) ys
      go [] b c = tt
      go (y ∷ ys) b c = (within g kf ku y.key b.0 c.0, go ys b.1 c.1)

  all_held : Every (λ x. IsHeldSince s (length before) x.key x.value) xs → All (λ e. IsHeldBetween before (before ++ rest) e.0 e.1) (in_order_taken xs)
  all_held h = all_turned (λ e. IsHeldBetween before (before ++ rest) e.0 e.1) xs
      (every_map (λ x. IsHeldSince s (length before) x.key x.value) (λ x. IsHeldBetween before (before ++ rest) x.key x.value) xs
      (λ x. held_between s before rest m steady told x.key x.value) h)

  -- A key of the range that was there all along was held in each version.
  kept_key : (k : Key) → IsKeptBetween before (before ++ rest) k → IsKey k
  kept_key k h =
      let c = told.count in
      let l : length (before ++ rest) ≡ length before + length rest = length-append before rest in
      let z = front_kept s before rest m steady told k h s.now (omega arith) (le_refl s.now) in
      has_key z.0 (steady.trees s.now z.0 (le_refl s.now) z.1).0 k z.2

  -- A scan that came to its end is lawful.
  complete_lawful : (d : Direction) → scan.more ≡ false → IsComplete d s (length before) g xs → IsLawfulBy d before (before ++ rest) g.from g.upto g.limit scan
  complete_lawful d ends w = lawful_by d before (before ++ rest) g.from g.upto g.limit scan (record {
    begins = (rest, refl);
    ordered = subst (λ (z : Map). IsStrictlySortedBy (order_by d) (keys_of z)) (sym items) (turned_sorted d xs (are_keys w.held) w.ordered);
    within = subst (All (λ e. IsTrue (is_within g.from g.upto e.0))) (sym items) (all_within (are_keys w.held) w.within);
    short = subst (λ (z : Map). length z ≤ g.limit) (sym items) (let e = length_in_order_taken xs in let l = w.short in omega arith);
    held = subst (All (λ e. IsHeldBetween before (before ++ rest) e.0 e.1)) (sym items) (all_held w.held);
    whole = λ e k h o. subst (λ (z : Map). Contains (keys_of z) k) (sym items)
        (listed_turned k xs (w.covered k (front_kept s before rest m steady told k o) (in_range g kf ku k (kept_key k o) h)));
    part = λ e. absurd (false≢true (sym ends ∙ e));
    full = λ e. absurd (false≢true (sym ends ∙ e));
    further = λ e. absurd (false≢true (sym ends ∙ e));
  })

  -- And one that was cut at the limit.
  cut_lawful : (d : Direction) → scan.more ≡ true → IsCut d s (length before) g xs → IsLawfulBy d before (before ++ rest) g.from g.upto g.limit scan
  cut_lawful d goes_on w = lawful_by d before (before ++ rest) g.from g.upto g.limit scan (record {
    begins = (rest, refl);
    ordered = subst (λ (z : Map). IsStrictlySortedBy (order_by d) (keys_of z)) (sym items) (turned_sorted d xs (are_keys w.held) w.ordered);
    within = subst (All (λ e. IsTrue (is_within g.from g.upto e.0))) (sym items) (all_within (are_keys w.held) w.within);
    short = subst (λ (z : Map). length z ≤ g.limit) (sym items) (let e = length_in_order_taken xs in let l = w.full in omega arith);
    held = subst (All (λ e. IsHeldBetween before (before ++ rest) e.0 e.1)) (sym items) (all_held w.held);
    whole = λ e. absurd (false≢true (sym e ∙ goes_on));
    part = λ e k h o u. subst (λ (z : Map). Contains (keys_of z) k) (sym items)
        (listed_turned k xs
        (w.covered k (front_kept s before rest m steady told k o) (in_range g kf ku k (kept_key k o) h)
        (last_is_newest d k xs (kept_key k o) (are_keys w.held) w.ordered (subst (λ (z : Map). IsReachedByLast d z k) items u))));
    full = λ e. subst (λ (z : Map). length z ≡ g.limit) (sym items) (length_in_order_taken xs ∙ w.full);
    further = λ e. more;
  })
    where
      more : (k : Key) × (v : ℕ) × IsTrue (is_within g.from g.upto k) × IsHeldBetween before (before ++ rest) k v × All (λ e. order_by d e.0 k ≡ Less) scan.pairs.items
      more =
          let (k, v, r, h, b) = w.further in
          let i = held_key s before rest m steady told (length before) k v h in (
            k,
            v,
            within g kf ku k i r,
            held_between s before rest m steady told k v h,
            subst (All (λ e. order_by d e.0 k ≡ Less)) (sym items) (all_turned (λ e. order_by d e.0 k ≡ Less) xs (all_earlier d k xs i (are_keys w.held) b)),
          )

  -- So is each answer.
  pub scan_is_lawful : (d : Direction) (more : Bool) → scan.more ≡ more → IsAnswer d s (length before) g xs more → IsLawfulBy d before (before ++ rest) g.from g.upto g.limit scan
  scan_is_lawful d false e w = complete_lawful d e w
  scan_is_lawful d true e w = cut_lawful d e w
