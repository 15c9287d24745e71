-- Searches that go down side by side: what stays so while they go on, and what each has found.
use Rattle.rowex_reading.proofs.Common.{◌≡◌, ◌⊎◌, inl, inr, ⊎_elim, ℕ, zero, suc, zero-add, ◌+◌, ◌-◌, ◌*◌, ◌<◌, ◌≤◌, List, [], ◌∷◌, ◌++◌, length, get_or, set, take, replicate, Bool, true, false, Option, Some, None, refl, sym, ap, subst, ◌∙◌, arith, slice_get, suc-mul, cases_lt, length-set, sum_by-cons, sum_by-set, slice_get-get_or, Entry, Leaf, Node, height_of, Key, Event, Known, IsPinnedSince, SeatView, TableView, IsHeldSince, WasAbsentSince, IsRooted}
use borrow.Rule.Slice.PartMut.{mid_of, put_mid}
use Rattle.rowex_reading.specs.Lookups.{HasFound, HaveFound, HaveSearched}
use Rattle.rowex_reading.specs.Reads.{IsReader, Reads, ReadsRoot}
use Rattle.rowex_reading.specs.Seen.{IsAtRoot, Sure, since}
use Rattle.rowex_reading.specs.Together.{AreLeaves, HaveComeTo, HasComeTo, ReadsForAll, heights_in}
use Rattle.rowex_reading.proofs.Seen.Led.{looks_first, looks_on, reader_then, reads_later, reads_trans, same_since}
use Rattle.rowex_reading.proofs.lookup.Lookup.{way_first, way_on}
use Rattle.rowex_reading.proofs.Seen.{held_stable, missed_stable, rooted_stable, since_later, sure_later}

-- Lists

-- what stands in a list of one thing
in_replicate : {A : Type 0} (n m i : ℕ) (x y : A) → slice_get (take n (replicate m x)) i ≡ Some y → x ≡ y
in_replicate zero m i x y at = absurd (let e : None ≡ Some y = at in cc)
in_replicate (suc n) zero i x y at = absurd (let e : None ≡ Some y = at in cc)
in_replicate (suc n) (suc m) zero x y at = let e : Some x ≡ Some y = at in cc
in_replicate (suc n) (suc m) (suc i) x y at = in_replicate n m i x y at

-- what stands in a list in which one has changed
in_set : {A : Type 0} (xs : List A) (i j : ℕ) (x y : A) → slice_get (set xs i x) j ≡ Some y → ((j ≡ i) × (x ≡ y)) ⊎ (slice_get xs j ≡ Some y)
in_set [] i j x y at = absurd (let e : None ≡ Some y = at in cc)
in_set (z ∷ zs) zero zero x y at = inl (refl, let e : Some x ≡ Some y = at in cc)
in_set (z ∷ zs) zero (suc j) x y at = inr at
in_set (z ∷ zs) (suc i) zero x y at = inr at
in_set (z ∷ zs) (suc i) (suc j) x y at = ⊎_elim (λ (both : (j ≡ i) × (x ≡ y)). inl (ap suc both.0, both.1)) (λ (other : slice_get zs j ≡ Some y). inr other) (in_set zs i j x y at)

-- and where it has
set_there : {A : Type 0} (xs : List A) (i : ℕ) (x y : A) → slice_get (set xs i x) i ≡ Some y → x ≡ y
set_there [] i x y at = absurd (let e : None ≡ Some y = at in cc)
set_there (z ∷ zs) zero x y at = let e : Some x ≡ Some y = at in cc
set_there (z ∷ zs) (suc i) x y at = set_there zs i x y at

-- what stands at one place is one thing
same_there : {A : Type 0} (xs : List A) (i j : ℕ) (x y : A) → i ≡ j → slice_get xs i ≡ Some x → slice_get xs j ≡ Some y → x ≡ y
same_there xs i j x y same here there = let e : slice_get xs i ≡ Some y = subst (λ n. slice_get xs n ≡ Some y) (sym same) there in cc

-- a list a part of which was put back: what stands before it, and in it
before_part : {A : Type 0} (a i : ℕ) (xs ys : List A) → i < a → a ≤ length xs → slice_get (take a xs ++ ys) i ≡ slice_get xs i
before_part zero i xs ys low room = absurd (omega (arith, low))
before_part (suc a) i [] ys low room = absurd (omega (arith, room))
before_part (suc a) zero (x ∷ xs) ys low room = refl
before_part (suc a) (suc i) (x ∷ xs) ys low room = before_part a i xs ys (omega (arith, low)) (omega (arith, room))

front_part : {A : Type 0} (j : ℕ) (ys zs : List A) → j < length ys → slice_get (ys ++ zs) j ≡ slice_get ys j
front_part j [] zs low = absurd (omega (arith, low))
front_part zero (y ∷ ys) zs low = refl
front_part (suc j) (y ∷ ys) zs low = front_part j ys zs (omega (arith, low))

in_part : {A : Type 0} (a j : ℕ) (xs ys zs : List A) → a ≤ length xs → j < length ys → slice_get (take a xs ++ (ys ++ zs)) (a + j) ≡ slice_get ys j
in_part (suc a) j [] ys zs room low = absurd (omega (arith, room))
in_part (suc a) j (x ∷ xs) ys zs room low = subst (λ n. slice_get (x ∷ (take a xs ++ (ys ++ zs))) n ≡ slice_get ys j) (let e : suc (a + j) ≡ suc a + j = omega arith in e) (in_part a j xs ys zs (omega (arith, room)) low)
in_part zero j xs ys zs room low = subst (λ n. slice_get (ys ++ zs) n ≡ slice_get ys j) (sym (zero-add j)) (front_part j ys zs low)

taken_part : {A : Type 0} (k j : ℕ) (xs : List A) → j < k → slice_get (take k xs) j ≡ slice_get xs j
taken_part zero j xs low = absurd (omega (arith, low))
taken_part (suc k) j [] low = refl
taken_part (suc k) zero (x ∷ xs) low = refl
taken_part (suc k) (suc j) (x ∷ xs) low = taken_part k j xs (omega (arith, low))

of_part : {A : Type 0} (a k j : ℕ) (xs : List A) → j < k → slice_get (mid_of a k xs) j ≡ slice_get xs (a + j)
of_part (suc a) k j [] low = of_none k j
  where
    of_none : {A : Type 0} (k j : ℕ) → slice_get (take k (let none : List A = [] in none)) j ≡ None
    of_none zero j = refl
    of_none (suc k) j = refl
of_part (suc a) k j (x ∷ xs) low = subst (λ n. slice_get (mid_of a k xs) j ≡ slice_get (x ∷ xs) n) (let e : suc (a + j) ≡ suc a + j = omega arith in e) (of_part a k j xs low)
of_part zero k j xs low = subst (λ n. slice_get (take k xs) j ≡ slice_get xs n) (sym (zero-add j)) (taken_part k j xs low)

-- Heights

-- so many times the one, at most
pub heights_first : (n m : ℕ) (e : Entry) → heights_in (take n (replicate m e)) ≤ n * height_of e
heights_first zero m e = omega arith
heights_first (suc n) zero e = omega arith
heights_first (suc n) (suc m) e =
    let one : heights_in (take (suc n) (replicate (suc m) e)) ≡ height_of e + heights_in (take n (replicate m e)) = sum_by-cons height_of e (take n (replicate m e)) in
    let rest = heights_first n m e in omega (arith, one, rest, suc-mul n (height_of e))

-- one entry is lower
pub heights_lower : (tips : List Entry) (i : ℕ) (e d : Entry) → i < length tips → height_of e < height_of (get_or tips i d) → 1 + heights_in (set tips i e) ≤ heights_in tips
heights_lower tips i e d low lower = let sum = sum_by-set height_of tips i e d low in omega (arith, sum, lower)

-- Ways

module _ {G : Type 0} {table : TableView} {becomes : G → Event → G → Type 0} {f n : ℕ} {a b : SeatView × G} (reads : Reads table becomes f n a b) where
  pub ways_on : (keys : List Key) (tips : List Entry) → HaveComeTo a.0.known keys tips → HaveComeTo b.0.known keys tips
  ways_on keys tips are i key e is at = way_on e reads (are i key e is at)

  -- the root's entry is still what it was at the load
  pub root_on : (e : Entry) → IsAtRoot a.0.known e → IsAtRoot b.0.known e
  root_on e (pinned, rooted) =
      let kept : since b.0.known ≡ since a.0.known = same_since reads in
      subst (λ m. IsPinnedSince b.0.known m × Sure b.0.known (λ s. IsRooted s m e)) (sym kept)
      (since_later (reads_later reads) pinned, sure_later (rooted_stable (since a.0.known) e) (reads_later reads) rooted)

  found_on_key : (key : Key) (o : Option ℕ) → HasFound a.0.known key o → HasFound b.0.known key o
  found_on_key key None h =
      subst (λ m. Sure b.0.known (λ s. WasAbsentSince s m key)) (sym (same_since reads)) (sure_later (missed_stable (since a.0.known) key) (reads_later reads) h)
  found_on_key key (Some v) h =
      subst (λ m. Sure b.0.known (λ s. IsHeldSince s m key v)) (sym (same_since reads)) (sure_later (held_stable (since a.0.known) key v) (reads_later reads) h)

  -- and so is what was found
  pub found_on : (count : ℕ) (keys : List Key) (found : List (Option ℕ)) → HaveFound a.0.known count keys found → HaveFound b.0.known count keys found
  found_on count keys found are i key o low is at = found_on_key key o (are i key o low is at)

-- each key's way begins at the root
pub ways_first : {k : Known} (keys : List Key) (n m : ℕ) (root : Entry) → IsAtRoot k root → HaveComeTo k keys (take n (replicate m root))
ways_first {k} keys n m root at i key e is there = subst (HasComeTo k key) (in_replicate n m i root e there) (way_first key root at)

-- one goes on
pub ways_more : {k : Known} (keys : List Key) (tips : List Entry) (i : ℕ) (key : Key) (e : Entry) → HaveComeTo k keys tips → slice_get keys i ≡ Some key → HasComeTo k key e → HaveComeTo k keys (set tips i e)
ways_more {k} keys tips i key e are here way j other d is at =
    ⊎_elim
    (λ (both : (j ≡ i) × (e ≡ d)). subst (λ (z : Key × Entry). HasComeTo k z.0 z.1) (λ x. (same_there keys i j key other (sym both.0) here is x, both.1 x)) way)
    (λ (old : slice_get tips j ≡ Some d). are j other d is old)
    (in_set tips i j e d at)

-- Leaves

up_to : (i j : ℕ) → j < i + 1 → (j < i) ⊎ (j ≡ i)
up_to i j low = ⊎_elim (λ (less : j < i). inl less) (λ (more : i ≤ j). inr (let e : j ≡ i = omega arith in e)) (cases_lt j i)

-- one more
pub leaves_more : (i : ℕ) (tips : List Entry) (n : ℕ) (e : Entry) → AreLeaves i tips → slice_get tips i ≡ Some e → e ≡ Leaf n → AreLeaves (i + 1) tips
leaves_more i tips n e are here is j d low at =
    ⊎_elim (λ (less : j < i). are j d less at) (λ (same : j ≡ i). (n, sym (same_there tips i j e d (sym same) here at) ∙ is)) (up_to i j low)

-- One node down

-- The searches before the index have gone down a node, from the entries that stood there before, and at least one has if they are lower.
pub record HaveGone {G : Type 0} (table : TableView) (becomes : G → Event → G → Type 0) (keys : List Key) (a : SeatView × G) (before : List Entry) (i : ℕ) (b : SeatView × G) (tips : List Entry) (lower : Bool) : Type 0 where
  pub reader : IsReader table b.0
  pub room : length tips ≡ length keys
  pub ways : HaveComeTo b.0.known keys tips
  pub entries : ℕ
  pub falls : entries + heights_in tips ≤ heights_in before
  pub loads : ℕ
  pub few : loads ≤ 26 * entries
  pub reads : Reads table becomes entries loads a b
  pub lower_is : lower ≡ true → heights_in tips < heights_in before
  pub leaves : lower ≡ false → AreLeaves i tips

module _ {G : Type 0} {table : TableView} {becomes : G → Event → G → Type 0} {keys : List Key} {a b : SeatView × G} {before tips : List Entry} {i : ℕ} {lower : Bool}
    (gone : HaveGone table becomes keys a before i b tips lower) (low : i < length keys) where
  -- one more goes down
  pub gone_down : {c : SeatView × G} (key : Key) (n h : ℕ) (e : Entry) → slice_get keys i ≡ Some key → get_or tips i (Leaf 0) ≡ Node n h → (m : ℕ) → m ≤ 26 → Reads table becomes 1 m b c →
      (height_of e < h) × HasComeTo c.0.known key e → HaveGone table becomes keys a before (i + 1) c (set tips i e) true
  gone_down {c} key n h e here is m most reads entered = record {
    reader = reader_then gone.reader reads;
    room = length-set tips i e ∙ gone.room;
    ways = ways_more keys tips i key e (ways_on reads keys tips gone.ways) here entered.1;
    entries = gone.entries + 1;
    falls = let f = gone.falls in omega (arith, f, down);
    loads = gone.loads + m;
    few = let f = gone.few in omega (arith, f, most);
    reads = reads_trans gone.reads reads;
    lower_is = λ _. (let f = gone.falls in omega (arith, f, down));
    leaves = λ no. absurd (let z : true ≡ false = no in cc);
  }
    where
      down : 1 + heights_in (set tips i e) ≤ heights_in tips
      down = heights_lower tips i e (Leaf 0) (let room = gone.room in omega (arith, low, room)) (subst (λ (z : Entry). height_of e < height_of z) (sym is) entered.0)

  -- one more is at a leaf
  pub gone_still : (n : ℕ) → get_or tips i (Leaf 0) ≡ Leaf n → HaveGone table becomes keys a before (i + 1) b tips lower
  gone_still n is = record {
    reader = gone.reader;
    room = gone.room;
    ways = gone.ways;
    entries = gone.entries;
    falls = gone.falls;
    loads = gone.loads;
    few = gone.few;
    reads = gone.reads;
    lower_is = gone.lower_is;
    leaves = λ no. leaves_more i tips n (get_or tips i (Leaf 0)) (gone.leaves no) (slice_get-get_or tips i (Leaf 0) (let room = gone.room in omega (arith, low, room))) is;
  }

-- What was found

-- of one more
pub found_more : {k : Known} (i : ℕ) (keys : List Key) (found : List (Option ℕ)) (key : Key) (o : Option ℕ) → HaveFound k i keys found → slice_get keys i ≡ Some key → HasFound k key o → HaveFound k (i + 1) keys (set found i o)
found_more {k} i keys found key o are here has j other p low is at = ⊎_elim (λ (less : j < i). before less (in_set found i j o p at)) (λ (same : j ≡ i). this same) (up_to i j low)
  where
    before : j < i → ((j ≡ i) × (o ≡ p)) ⊎ (slice_get found j ≡ Some p) → HasFound k other p
    before less (inl both) = absurd (let same = both.0 in omega (arith, same, less))
    before less (inr old) = are j other p less is old

    this : j ≡ i → HasFound k other p
    this same =
        subst (λ (z : Key × Option ℕ). HasFound k z.0 z.1) (λ x. (same_there keys i j key other (sym same) here is x, set_there found i o p (subst (λ n. slice_get (set found i o) n ≡ Some p) same at) x)) has

-- of one group more
pub found_group : {k : Known} (a e : ℕ) (keys : List Key) (found mine : List (Option ℕ)) → a ≤ e → e ≤ length keys → length found ≡ length keys → length mine ≡ e - a → HaveFound k a keys found →
    HaveFound k (e - a) (mid_of a (e - a) keys) mine → HaveFound k e keys (put_mid a (e - a) found mine)
found_group {k} a e keys found mine rise room same long are here i key o low is at = ⊎_elim (λ (less : i < a). before less) (λ (more : a ≤ i). within more) (cases_lt i a)
  where
    before : i < a → HasFound k key o
    before less = are i key o less is (sym (before_part a i found _ less (omega (arith, rise, room, same))) ∙ at)

    within : a ≤ i → HasFound k key o
    within more =
        let j : ℕ = i - a in
        let there : a + j ≡ i = omega (arith, more) in
        let below : j < e - a = omega (arith, low, more) in
        here j key o below
        (of_part a (e - a) j keys below ∙ (ap (slice_get keys) there ∙ is))
        (sym (in_part a j found mine _ (omega (arith, rise, room, same)) (omega (arith, below, long))) ∙ (ap (slice_get (put_mid a (e - a) found mine)) there ∙ at))

-- The searches so far, and those of one group more

module _ {G : Type 0} {table : TableView} {becomes : G → Event → G → Type 0} where
  -- none has been made
  pub none_searched : {a b : SeatView × G} (count : ℕ) → ReadsRoot table becomes a b → HaveSearched table becomes count a b
  none_searched count root = record { nodes = 0; loaded = 0; low = omega arith; few = omega arith; looks = looks_first root }

  pub more_searched : {n e : ℕ} {a b c : SeatView × G} (m : ℕ) → e ≡ n + m → HaveSearched table becomes n a b → ReadsForAll table becomes m b c → HaveSearched table becomes e a c
  more_searched m is searched more = record {
    nodes = searched.nodes + more.0;
    loaded = searched.loaded + more.1;
    low = let some = searched.low in let low = more.2 in omega (arith, is, some, low);
    few = let some = searched.few in let few = more.3 in omega (arith, is, some, few);
    looks = looks_on searched.looks more.4;
  }
