-- The way of a search while it goes down: what is known of its nodes, and of the entry to go to next.
use Rattle.rowex_reading.proofs.Common.{◌≡◌, ℕ, zero, suc, ◌+◌, ◌*◌, ◌<◌, ◌≤◌, List, [], ◌∷◌, ◌++◌, length, Option, Some, None, refl, sym, ap, subst, ◌∙◌, arith, length-append, slice_get, IfSome, length-replicate, slice_get_within, IsFirstDifference, IsKey, MAX_BYTES, Place, Fork, size, HeadView, InEachNode, IsLawfulNode, node_of, leaves, piece, height_of, Entry, LeafEntry, Node, PathNode, agrees, differs, Layout, HEAD_WORDS, LEAF_FIELDS, Key, spot, Subtrie, first_position, size-piece, Event, Known, IsPinnedSince, IsLater, TableView, SeatView, EntryStoodSince, IsRooted, IsPlaced, HadShapeSince, IsRead}
use Rattle.std.specs.Prelude.{IsNone, ◌↔◌}
use Rattle.node_tries.specs.Changes.{AtRootFork}
use Rattle.rowex_reading.specs.Lookups.{HasFound, search_touches}
use Rattle.rowex_reading.specs.Possible.{IsPossible}
use Rattle.rowex_reading.specs.Reads.{Reads}
use Rattle.rowex_reading.specs.Seen.{Sure, seen, since, HasPlace, IsLedTo, shape_of, IsHeadSeen}
use Rattle.rowex_reading.proofs.Seen.Led.{reads_later, reads_trans, same_since}
use Rattle.rowex_reading.proofs.lookup.Lookup.{IsAt, at_led, leaf_found, next_of, place_of}
use Rattle.rowex_reading.proofs.Seen.{sure_later, since_later, seen_stable, rooted_stable, shaped_stable}
use Rattle.rowex_reading.proofs.Seen.Standing.{led_in_table}
use Rattle.rowex_reading.specs.Ways.{IsWayOf, IsWayNode, IsFoundAt, IsMismatch, RootWas, named, step_at, value_of}
use Rattle.rowex_reading.specs.declared.descent.Found.TheVariants.{Nothing, Leaf}
use Rattle.rowex_reading.proofs.Ways.{node_later}

-- what stands at the head of a way that leads to the entry
abbrev first_of : List PathNode → Entry → Entry
first_of [] e = e
first_of (s ∷ way) e = Node s.number s.height

-- each node of the way names the next one, and the last one the entry
abbrev AreWayNodes : Layout → Known → ℕ → Key → List PathNode → Entry → Type 0
AreWayNodes layout k m key [] e = Unit {0}
AreWayNodes layout k m key (s ∷ way) e = IsWayNode layout k m key s (first_of way e) × AreWayNodes layout k m key way e

-- Since its load of the root at m the search has come down this way, and goes on to the entry.
pub record IsGoing (layout : Layout) (k : Known) (m : ℕ) (key : Key) (way : List PathNode) (e : Entry) : Type 0 where
  pub root : Sure k (λ past. IsRooted past m (first_of way e))
  pub nodes : AreWayNodes layout k m key way e
  pub falls : length way + height_of e ≤ 9 * MAX_BYTES

-- ---- the way
-- one node more
first_more : (way : List PathNode) (s : PathNode) (e : Entry) → first_of (way ++ s ∷ []) e ≡ first_of way (Node s.number s.height)
first_more [] s e = refl
first_more (t ∷ way) s e = refl

module _ (layout : Layout) (k : Known) (m : ℕ) (key : Key) where
  nodes_more : (way : List PathNode) (s : PathNode) (e : Entry) → AreWayNodes layout k m key way (Node s.number s.height) → IsWayNode layout k m key s e → AreWayNodes layout k m key (way ++ s ∷ []) e
  nodes_more [] s e nodes node = (node, tt)
  nodes_more (t ∷ way) s e (first, nodes) node = (subst (IsWayNode layout k m key t) (sym (first_more way s e)) first, nodes_more way s e nodes node)

  -- what names the topmost node, or the end of the search where there is no node
  named_first : (way : List PathNode) (number value : ℕ) (mismatch : Option ℕ) → named way (Leaf number value mismatch) 0 ≡ Some (first_of way (LeafEntry number))
  named_first [] number value mismatch = refl
  named_first (s ∷ way) number value mismatch = refl

  -- each node by its index
  node_at : (way : List PathNode) (number value : ℕ) (mismatch : Option ℕ) → AreWayNodes layout k m key way (LeafEntry number) → (i : ℕ) (s : PathNode) → slice_get way i ≡ Some s →
      (e : Entry) × (named way (Leaf number value mismatch) (suc i) ≡ Some e) × IsWayNode layout k m key s e
  node_at [] number value mismatch nodes i s at = absurd (omega (arith, slice_get_within [] i s at))
  node_at (t ∷ way) number value mismatch nodes zero s at =
      (first_of way (LeafEntry number), named_first way number value mismatch, subst (λ z. IsWayNode layout k m key z (first_of way (LeafEntry number))) (let e : t ≡ s = cc in e) nodes.0)
  node_at (t ∷ way) number value mismatch nodes (suc i) s at = node_at way number value mismatch nodes.1 i s at

module _ (layout : Layout) (k j : Known) (m : ℕ) (key : Key) (later : IsLater k j) where
  nodes_later : (way : List PathNode) (e : Entry) → AreWayNodes layout k m key way e → AreWayNodes layout j m key way e
  nodes_later [] e nodes = tt
  nodes_later (s ∷ way) e (node, nodes) = (node_later layout k j m key later s (first_of way e) node, nodes_later way e nodes)

  root_on : (e : Entry) → Sure k (λ past. IsRooted past m e) → Sure j (λ past. IsRooted past m e)
  root_on e root = sure_later {P = λ past. IsRooted past m e} (rooted_stable m e) later root

  -- the search goes on by a node that it has read
  pub going_on : (way : List PathNode) (s : PathNode) (e : Entry) → IsGoing layout k m key way (Node s.number s.height) → IsWayNode layout j m key s e → IsGoing layout j m key (way ++ s ∷ []) e
  going_on way s e going node = record {
    root = subst (λ z. Sure j (λ past. IsRooted past m z)) (sym (first_more way s e)) (root_on (first_of way (Node s.number s.height)) going.root);
    nodes = nodes_more layout j m key way s e (nodes_later way (Node s.number s.height) going.nodes) node;
    falls = let f = going.falls in let b = node.below in let c = length-append way (s ∷ []) in omega arith;
  }

  -- and ends at a leaf
  pub going_ends : (way : List PathNode) (number value : ℕ) (mismatch : Option ℕ) → IsGoing layout k m key way (LeafEntry number) → IsKey key → IsPinnedSince j m → IsFoundAt j m key (Leaf number value mismatch) →
      IsWayOf layout j m key way (Leaf number value mismatch)
  going_ends way number value mismatch going is_key since found = record {
    is_key = is_key;
    since = since;
    root = subst (RootWas j m) (sym (named_first layout k m key way number value mismatch)) (root_on (first_of way (LeafEntry number)) going.root);
    nodes = λ i s at. subst (λ n. (e : Entry) × (named way (Leaf number value mismatch) n ≡ Some e) × IsWayNode layout j m key s e) (let q : suc i ≡ i + 1 = omega arith in q)
        (node_at layout j m key way number value mismatch (nodes_later way (LeafEntry number) going.nodes) i s at);
    found_at = found;
    depth = let f = going.falls in omega arith;
  }

-- the search begins
pub going_first : (layout : Layout) (k : Known) (m : ℕ) (key : Key) (way : List PathNode) (e : Entry) → way ≡ [] → height_of e ≤ 9 * MAX_BYTES → Sure k (λ past. IsRooted past m e) → IsGoing layout k m key way e
going_first layout k m key way e none low root =
    subst (λ z. IsGoing layout k m key z e) (sym none) (let start : IsGoing layout k m key [] e = record { root = root; nodes = tt; falls = omega arith } in start)

-- at an empty root it has no way
pub ends_nowhere : (layout : Layout) (k : Known) (m : ℕ) (key : Key) (way : List PathNode) → way ≡ [] → IsKey key → IsPinnedSince k m → RootWas k m None → IsWayOf layout k m key way Nothing
ends_nowhere layout k m key way none is_key since blank = subst (λ z. IsWayOf layout k m key z Nothing) (sym none) nowhere
  where
    nowhere : IsWayOf layout k m key [] Nothing
    nowhere = record {
      is_key = is_key;
      since = since;
      root = blank;
      nodes = λ i s at. absurd (omega (arith, slice_get_within [] i s at));
      found_at = tt;
      depth = omega arith;
    }

-- ---- the keys
-- where the key differs from that of the leaf
pub where_differs : (key l : Key) (o : Option ℕ) → (IsNone o ↔ (key ≡ l)) → IfSome o (IsFirstDifference key l) → IsMismatch key l o
where_differs key l None none first = none.0 refl
where_differs key l (Some p) none first = (agrees key l p first, differs key l p first)

-- ---- a node
first_is : (x : ℕ) (forks : Subtrie) → AtRootFork (λ p a b. x ≡ p) forks → x ≡ first_position forks
first_is x (Place e) root = absurd root
first_is x (Fork p a b) root = root

-- how many entries it has, and its first position, by its head
module _ (head : HeadView) (lawful : IsLawfulNode (node_of head (leaves (length head.rows)))) where
  head_size : size (shape_of head) ≡ length head.rows
  head_size = size-piece (node_of head (leaves (length head.rows))) lawful ∙ length-replicate (length head.rows) (LeafEntry 0)

  pub step_is : (number at count first : ℕ) → count ≡ length head.rows → InEachNode head (λ node. AtRootFork (λ p a b. first ≡ p) (piece node)) →
      (let s : PathNode = record { number = number; height = head.height; first_position = first; count = count; slot = at } in s) ≡ step_at head number at
  step_is number at count first count_is root =
      let n : count ≡ size (shape_of head) = count_is ∙ sym head_size in
      let f : first ≡ first_position (shape_of head) = first_is first (shape_of head) (root (node_of head (leaves (length head.rows))) lawful refl) in cc

-- The search is at an entry.
module _ {G : Type 0} {table : TableView} {becomes : G → Event → G → Type 0} {a b c : SeatView × G} {key : Key} {d : Entry} (at : IsAt table becomes a b key d)
    (way : List PathNode) (going : IsGoing table.layout b.0.known (since b.0.known) key way d) where
  -- It is a node, of which the head was read, and so the step there: there is an entry at the key's place.
  module _ (n height : ℕ) (step : PathNode) (head : HeadView) (is : d ≡ Node n height) {loads : ℕ} (most : loads ≤ HEAD_WORDS) (reads : Reads table becomes 0 loads b c) (seen : IsHeadSeen c.0.known (since b.0.known) n height head)
      (stepped : step ≡ step_at head n (spot key (shape_of head))) where
    spot_is : step.slot ≡ spot key (shape_of head)
    spot_is = ap (λ (s : PathNode). s.slot) stepped

    pub there : HasPlace c.0.known (since b.0.known) n height step.slot
    there = place_of at n height (shape_of head) step.slot is most reads seen.shaped spot_is

    -- The entry was read.
    module _ {i : SeatView × G} (e : Entry) (one : Reads table becomes 1 1 c i)
        (entry : (m h : ℕ) → HasPlace c.0.known m n h step.slot → (height_of e < h) × Sure i.0.known (λ s. IsPlaced s m n step.slot e)) where
      stood : (height_of e < height) × Sure i.0.known (λ s. IsPlaced s (since b.0.known) n step.slot e)
      stood = entry (since b.0.known) height there

      both : Reads table becomes 1 (loads + 1) b i
      both = reads_trans reads one

      -- it is lower
      pub falls_on : height_of e < height_of d
      falls_on = subst (λ z. height_of e < height_of z) (sym is) stood.0

      -- the search has been led to it
      pub led_down : i.0.touches ≤ b.0.touches + search_touches → IsAt table becomes a i key e
      led_down touches = next_of at n height (shape_of head) step.slot is most reads seen.shaped spot_is e one touches stood

      -- the way has room for the node
      pub way_room : length way < 9 * MAX_BYTES
      way_room = let f = going.falls in let lower = falls_on in omega arith

      way_node : IsPossible table.layout b.0.known → IsWayNode table.layout i.0.known (since b.0.known) key (record (step_at head n step.slot) { height = height }) e
      way_node possible =
          let led : IsLedTo b.0.known (since b.0.known) (Node n height) = at_led at (Node n height) is in
          record {
            forks = shape_of head;
            range = led_in_table table.layout b.0.known (since b.0.known) (Node n height) possible led;
            seen = sure_later {P = λ s. EntryStoodSince s (since b.0.known) (Node n height)} (seen_stable (since b.0.known) (Node n height)) (reads_later both) led.1;
            shaped = sure_later {P = λ s. HadShapeSince s (since b.0.known) n (shape_of head)} (shaped_stable (since b.0.known) n (shape_of head)) (reads_later one) seen.shaped;
            placed = stood.1;
            at = spot_is;
            below = stood.0;
            count = refl;
            room = let r = seen.lawful.room in let q = head_size head seen.lawful in let l = length-replicate (length head.rows) (LeafEntry 0) in omega arith;
            first = refl;
          }

      -- and goes on by it
      pub way_on : IsPossible table.layout b.0.known → IsGoing table.layout i.0.known (since i.0.known) key (way ++ step ∷ []) e
      way_on possible =
          let t : PathNode = record (step_at head n step.slot) { height = height } in
          let same : t ≡ step = ap (λ z. let x : PathNode = record (step_at head n step.slot) { height = z } in x) (sym seen.height) ∙ (ap (step_at head n) spot_is ∙ sym stepped) in
          let here : IsGoing table.layout b.0.known (since b.0.known) key way (Node n height) = subst (IsGoing table.layout b.0.known (since b.0.known) key way) is going in
          subst (λ z. IsGoing table.layout i.0.known (since i.0.known) key (way ++ z ∷ []) e) same
          (subst (λ o. IsGoing table.layout i.0.known o key (way ++ t ∷ []) e) (sym (same_since both))
          (going_on table.layout b.0.known i.0.known (since b.0.known) key (reads_later both) way t e here (way_node possible)))

  -- It is a leaf, which has been read.
  module _ (n : ℕ) (is : d ≡ LeafEntry n) {loads : ℕ} (few : loads ≤ LEAF_FIELDS) (reads : Reads table becomes 0 loads b c) (l : Key) (v : ℕ) (told : (m : ℕ) → IsLedTo b.0.known m (LeafEntry n) → Sure c.0.known (λ s. IsRead s m n l v))
      (is_key : IsKey key) (differ : Option ℕ) (none : IsNone differ ↔ (key ≡ l)) where
    pub way_ends : IfSome differ (IsFirstDifference key l) → IsWayOf table.layout c.0.known (since c.0.known) key way (Leaf n v differ)
    way_ends first =
        let there : IsGoing table.layout b.0.known (since b.0.known) key way (LeafEntry n) = subst (IsGoing table.layout b.0.known (since b.0.known) key way) is going in
        subst (λ o. IsWayOf table.layout c.0.known o key way (Leaf n v differ)) (sym (same_since reads))
        (going_ends table.layout b.0.known c.0.known (since b.0.known) key (reads_later reads) way n v differ there is_key (since_later (reads_later reads) at.way.pinned)
        (l, told (since b.0.known) (at_led at (LeafEntry n) is), where_differs key l differ none first))

    pub end_found : HasFound c.0.known key (value_of (Leaf n v differ))
    end_found = go differ none
      where
        go : (o : Option ℕ) → (IsNone o ↔ (key ≡ l)) → HasFound c.0.known key (value_of (Leaf n v o))
        go None none = leaf_found at n is few reads (Some v) (λ m led o lawful recalls. subst (λ z. IsRead (seen o c.0.known) m n z v) (sym (none.0 refl)) (told m led o lawful recalls))
        go (Some p) none = leaf_found at n is few reads None (λ m led o lawful recalls. (l, v, told m led o lawful recalls, (λ e. absurd (let z = none.1 e in cc))))
