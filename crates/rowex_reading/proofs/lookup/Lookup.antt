-- A search from the root down to a leaf: what it is sure of at each entry that it is led to.
use Rattle.rowex_reading.proofs.Common.{◌≡◌, ◌≢◌, ◌⊎◌, inl, inr, ℕ, ◌+◌, ◌*◌, ◌<◌, ◌≤◌, Option, Some, None, IsSome, sym, subst, ◌∙◌, arith, MAX_BYTES, height_of, Entry, Leaf, Node, size, Key, Subtrie, Tree, leaf, node, fork, Has, here, spot, spot_below, has?, follows_if_has, Past, KeepsFixedWordsSince, IsLed, WasAbsentSince, IsHeldSince, a_leaf, record_of_subtrie, EntryStoodSince, IsRooted, IsBlank, IsPlaced, HadShapeSince, IsRead, led_placed, read_held, HEAD_WORDS, LEAF_FIELDS, Event, Known, TableView, SeatView, IsPinnedSince}
use Rattle.tries.specs.Search.{Follows}
use Rattle.rowex_reading.specs.Lookups.{HasFound, HasSearched, search_touches}
use Rattle.rowex_reading.specs.Reads.{Looks, Reads, ReadsRoot}
use Rattle.rowex_reading.specs.Seen.{seen, Sure, since, IsAtRoot, IsCompared, IsLedTo, HasPlace}
use Rattle.rowex_reading.specs.Together.{HasComeTo}
use Rattle.rowex_reading.proofs.Seen.Led.{led_shape, looks_first, looks_on, reads_later, reads_trans, root_pinned, same_since, shape_place}
use Rattle.rowex_reading.proofs.Touching.{reads_still, root_still}
use Rattle.rowex_reading.proofs.Seen.{sure_later, sure_map, since_later, seen_steady, led_stable, shaped_stable}

-- Over versions alone

led_seen : (s : Past) (m : ℕ) (k : Key) (e : Entry) → IsLed s m k e → EntryStoodSince s m e
led_seen s m k e (n, u, lo, hi, st, pg, f) = (n, u, lo, hi, st, pg)

blank_missed : (s : Past) (m : ℕ) (k : Key) → IsBlank s m → WasAbsentSince s m k
blank_missed s m k (n, lo, hi, none) = (n, lo, hi, λ t is h. absurd (let no : None ≡ Some t = sym none ∙ is in cc))

-- A search begins at the root's entry.
rooted_led : (s : Past) (m : ℕ) → KeepsFixedWordsSince s m → (k : Key) (e : Entry) → IsRooted s m e → IsLed s m k e
rooted_led s m steady k e (n, t, lo, hi, is, pg) =
    (n, t, lo, hi, record { tree = t; is_version = is; within = here; is_record = record_of_subtrie e t pg }, pg, choose (has? t k))
  where
    choose : Dec (Has t k) → Follows k t ⊎ WasAbsentSince s m k
    choose (yes x) = inl (follows_if_has t (steady.trees n t hi is).0 k x)
    choose (no x) = inr (n, lo, hi, λ u e h. x (subst (λ z. Has z k) (let q : u ≡ t = same (sym e ∙ is) in q) h))
      where
        same : {a b : Tree} → Some a ≡ Some b → a ≡ b
        same e = cc

-- It ends at a leaf: the leaf's key tells whether the key was held or absent.
leaf_missed : (s : Past) (m : ℕ) → KeepsFixedWordsSince s m → (k : Key) (n : ℕ) (l : Key) (v : ℕ) → IsLed s m k (Leaf n) → IsRead s m n l v → k ≢ l → WasAbsentSince s m k
leaf_missed s m steady k n l v (o, u, lo, hi, st, pg, inr missed) r ne = missed
leaf_missed s m steady k n l v (o, leaf a y w, lo, hi, st, pg, inl follows) (p, la, ha, sa) ne =
    absurd (ne (follows ∙ steady.same (a_leaf n) o p (leaf a y w) (leaf n l v) lo hi la ha st sa))
leaf_missed s m steady k n l v (o, node a x b, lo, hi, st, pg, inl follows) r ne = absurd cc
leaf_missed s m steady k n l v (o, fork p x y, lo, hi, st, pg, inl follows) r ne = absurd cc

-- Of a pass

-- the root's entry is on each key's way
pub way_first : {k : Known} (key : Key) (e : Entry) → IsAtRoot k e → HasComeTo k key e
way_first {k} key e (pinned, rooted) = record {
  pinned = pinned;
  led = λ c lawful recalls. rooted_led (seen c k) (since k) (seen_steady lawful recalls pinned) key e (rooted c lawful recalls);
}

-- what the way has led to stood in the tree
pub way_led : {k : Known} {key : Key} (e : Entry) → HasComeTo k key e → IsLedTo k (since k) e
way_led {k} {key} e way = (way.pinned, sure_map (λ s h. led_seen s (since k) key e h) way.led)

module _ {G : Type 0} {table : TableView} {becomes : G → Event → G → Type 0} where
  -- and it is on the way still after more loads
  pub way_on : {f n : ℕ} {a b : SeatView × G} {key : Key} (e : Entry) → Reads table becomes f n a b → HasComeTo a.0.known key e → HasComeTo b.0.known key e
  way_on {a = a} {b = b} {key = key} e reads way =
      let kept : since b.0.known ≡ since a.0.known = same_since reads in
      record {
        pinned = subst (IsPinnedSince b.0.known) (sym kept) (since_later (reads_later reads) way.pinned);
        led = subst (λ o. Sure b.0.known (λ s. IsLed s o key e)) (sym kept) (sure_later (led_stable (since a.0.known) key e) (reads_later reads) way.led);
      }

  -- It has led to a node, whose forks are known: there is an entry at the key's place.
  module _ {b c : SeatView × G} {key : Key} (n height : ℕ) (forks : Subtrie) (place : ℕ) (way : HasComeTo b.0.known key (Node n height)) {loads : ℕ} (reads : Reads table becomes 0 loads b c)
      (shaped : Sure c.0.known (λ s. HadShapeSince s (since b.0.known) n forks)) (leads : place ≡ spot key forks) where
    abbrev m : ℕ
    m = since b.0.known

    pub way_place : HasPlace c.0.known (since b.0.known) n height place
    way_place = shape_place (led_shape m n height forks reads (way_led (Node n height) way) shaped) (subst (λ z. z < size forks) (sym leads) (spot_below key forks))

    -- one node down
    pub way_next : {i : SeatView × G} (e : Entry) → Reads table becomes 1 1 c i → Sure i.0.known (λ s. IsPlaced s (since b.0.known) n place e) → HasComeTo i.0.known key e
    way_next {i} e one placed = record {
      pinned = subst (IsPinnedSince i.0.known) (sym kept) pinned;
      led = subst (λ o. Sure i.0.known (λ s. IsLed s o key e)) (sym kept)
          (λ o lawful recalls. led_placed (seen o i.0.known) m (seen_steady lawful recalls pinned) key n height place forks e
          (shapes o lawful recalls) (sym leads) (placed o lawful recalls) (leads_on o lawful recalls));
    }
      where
        both : Reads table becomes 1 (loads + 1) b i
        both = reads_trans reads one

        kept : since i.0.known ≡ m
        kept = same_since both

        pinned : IsPinnedSince i.0.known m
        pinned = since_later (reads_later both) way.pinned

        shapes : Sure i.0.known (λ s. HadShapeSince s m n forks)
        shapes = sure_later (shaped_stable m n forks) (reads_later one) shaped

        leads_on : Sure i.0.known (λ s. IsLed s m key (Node n height))
        leads_on = sure_later (led_stable m key (Node n height)) (reads_later both) way.led

  -- it has led to a leaf, which has been compared
  pub way_found : {b c : SeatView × G} {key : Key} (n : ℕ) {loads : ℕ} → HasComeTo b.0.known key (Leaf n) → Reads table becomes 0 loads b c → (found : Option ℕ) →
      ((m : ℕ) → IsLedTo b.0.known m (Leaf n) → Sure c.0.known (λ s. IsCompared s m n key found)) → HasFound c.0.known key found
  way_found {b} {c} {key} n way reads (Some v) told =
      let m : ℕ = since b.0.known in
      subst (λ o. Sure c.0.known (λ s. IsHeldSince s o key v)) (sym (same_since reads))
      (λ o lawful recalls. read_held (seen o c.0.known) m n key v (told m (way_led (Leaf n) way) o lawful recalls))
  way_found {b} {c} {key} n way reads None told =
      let m : ℕ = since b.0.known in
      let led_there : Sure c.0.known (λ s. IsLed s m key (Leaf n)) = sure_later (led_stable m key (Leaf n)) (reads_later reads) way.led in
      subst (λ o. Sure c.0.known (λ s. WasAbsentSince s o key)) (sym (same_since reads))
      (λ o lawful recalls. (let other = told m (way_led (Leaf n) way) o lawful recalls in
      leaf_missed (seen o c.0.known) m (seen_steady lawful recalls (since_later (reads_later reads) way.pinned)) key n other.0 other.1 (led_there o lawful recalls) other.2 other.3))

-- Since its load of the root the pass was led to this entry by its search. It has passed so many nodes, and the root's entry
-- has this height.
pub record IsAt {G : Type 0} (table : TableView) (becomes : G → Event → G → Type 0) (a b : SeatView × G) (key : Key) (e : Entry) : Type 0 where
  pub height : ℕ
  pub passed : ℕ
  pub loaded : ℕ
  pub falls : passed + height_of e ≤ height
  pub low : height ≤ 9 * MAX_BYTES
  pub few : loaded ≤ 26 * passed
  pub looks : Looks table becomes passed loaded a b
  pub touched : b.0.touches ≤ a.0.touches + search_touches * passed
  pub way : HasComeTo b.0.known key e

module _ {G : Type 0} {table : TableView} {becomes : G → Event → G → Type 0} where
  -- the load of the root
  module _ {a b : SeatView × G} (reads : ReadsRoot table becomes a b) where
    -- it was empty
    pub none_searched : HasSearched table becomes a b
    none_searched = record { nodes = 0; loaded = 0; low = omega arith; few = omega arith; looks = looks_first reads; touched = let same = root_still reads in omega (arith, same) }

    pub none_found : (key : Key) → Sure b.0.known (λ s. IsBlank s (since b.0.known)) → HasFound b.0.known key None
    none_found key blank = sure_map (λ s h. blank_missed s (since b.0.known) key h) blank

    -- it named an entry
    pub at_root : IsSome a.0.known.pin → (key : Key) (e : Entry) → height_of e ≤ 9 * MAX_BYTES → Sure b.0.known (λ s. IsRooted s (since b.0.known) e) → IsAt table becomes a b key e
    at_root is key e low rooted = record {
      height = height_of e;
      passed = 0;
      loaded = 0;
      falls = omega arith;
      low = low;
      few = omega arith;
      looks = looks_first reads;
      touched = let same = root_still reads in omega (arith, same);
      way = way_first key e (root_pinned is reads, rooted);
    }

  module _ {a b : SeatView × G} {key : Key} {d : Entry} (at : IsAt table becomes a b key d) where
    -- the search is at an entry, of which the pass knows that it stood in the tree
    pub at_led : (e : Entry) → d ≡ e → IsLedTo b.0.known (since b.0.known) e
    at_led e is = subst (IsLedTo b.0.known (since b.0.known)) is (way_led d at.way)

    -- It is a node, whose forks are known: there is an entry at the key's place.
    module _ {c : SeatView × G} (n height : ℕ) (forks : Subtrie) (place : ℕ) (is : d ≡ Node n height) {loads : ℕ} (most : loads ≤ HEAD_WORDS) (reads : Reads table becomes 0 loads b c)
        (shaped : Sure c.0.known (λ s. HadShapeSince s (since b.0.known) n forks)) (leads : place ≡ spot key forks) where
      way : HasComeTo b.0.known key (Node n height)
      way = subst (HasComeTo b.0.known key) is at.way

      pub place_of : HasPlace c.0.known (since b.0.known) n height place
      place_of = way_place n height forks place way reads shaped leads

      -- one node down
      pub next_of : {i : SeatView × G} (e : Entry) → Reads table becomes 1 1 c i → i.0.touches ≤ b.0.touches + search_touches → (height_of e < height) × Sure i.0.known (λ s. IsPlaced s (since b.0.known) n place e) → IsAt table becomes a i key e
      next_of {i} e one touches entry = record {
        height = at.height;
        passed = at.passed + 1;
        loaded = at.loaded + (loads + 1);
        falls = let f : at.passed + height ≤ at.height = subst (λ z. at.passed + height_of z ≤ at.height) is at.falls in let lower = entry.0 in omega arith;
        low = at.low;
        few = let f = at.few in omega (arith, f, most);
        looks = looks_on at.looks (reads_trans reads one);
        touched = let f = at.touched in omega (arith, f, touches);
        way = way_next n height forks place way reads shaped leads e one entry.1;
      }

    -- it is a leaf, which has been compared
    module _ {c : SeatView × G} (n : ℕ) (is : d ≡ Leaf n) {loads : ℕ} (few : loads ≤ LEAF_FIELDS) (reads : Reads table becomes 0 loads b c) where
      pub leaf_searched : HasSearched table becomes a c
      leaf_searched = record {
        nodes = at.passed + 0;
        loaded = at.loaded + loads;
        low = let f = at.falls in let b = at.low in omega arith;
        few = let f = at.few in omega (arith, f, few);
        looks = looks_on at.looks reads;
        touched = let f = at.touched in let same = reads_still reads in omega (arith, f, same);
      }

      pub leaf_found : (found : Option ℕ) → ((m : ℕ) → IsLedTo b.0.known m (Leaf n) → Sure c.0.known (λ s. IsCompared s m n key found)) → HasFound c.0.known key found
      leaf_found found told = way_found n (subst (HasComeTo b.0.known key) is at.way) reads found told
