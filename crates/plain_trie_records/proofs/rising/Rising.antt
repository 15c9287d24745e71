-- The way up of a new leaf: at a leaf, at the affected node, at each node above it, and in a new node.
use Rattle.plain_trie_records.proofs.Common.{◌≡◌, ◌⊎◌, inl, inr, ℕ, suc, ◌+◌, ◌<◌, ◌≤◌, Bool, true, false, List, refl, ap, sym, ◌∙◌, subst, arith, Some, length, get_or, slice_get_within, slice_get, cond, IsFirstDifference, bit_of, replaced, affected_first, affected_count, IsAffected, piece_grown, Place, Fork, places, size, leads_to, NodeView, piece, IsLawfulNode, IsBuiltFrom, StandsBelow, greatest_height, height_of, head_of, Entry, Leaf, Node, affected, IsLeafOrFork, subtrie_grown, subtrie_forked, put, IsPathBelow, Item, first, bit, spot, child, seek, found, Subtrie, Fixed, Tree, leaf, node, fork, subtrie, Has, IsTrie, IsBuilt, IsLower, first_position, Within, here, inside, zero_side, one_side, added_here, grown_subtrie, part_place, lower_positive, leads_spot, spot_below, rises, trie_within, built_within, within_child, subtrie_child, Risen, grafted, IsAbovePath, subtrie_of, WayBelow, greatest_if_lower, node_built_from, tip_entry, tip_low, pair_of, IsPairOf, pair_facts, has_found, all_away, affected_range, part_of_two, tip_of_one_place, tip_child, size_affected, found_child}
use Rattle.std.specs.Prelude.{nat_lt, ◌-◌}
use Rattle.tries.proofs.Place.{grown}
use Rattle.plain_trie_records.specs.declared.leaf.LeafRecord.{LeafRecord}
use Rattle.plain_trie_records.specs.Rising.{IsRaised, IsAddable, IsLifting, IsNew, level, records}
use Rattle.plain_trie_records.specs.Risen.{IsNamed, RisenShows, OthersStay}
use Rattle.plain_trie_records.specs.Store.{ShowsTree}
use Rattle.insert_cases.proofs.Ways.Affecting.{key_part}
use Rattle.plain_trie_records.proofs.Store.{shown_more}
use Rattle.plain_trie_records.proofs.rising.Lifting.{grow_raised, lower_part, old_stays, body_adds, pulled_raised}
use Rattle.plain_trie_records.proofs.rising.Replacing.{child_spot}
use Rattle.plain_trie_records.proofs.Store.Searching.{node_of_subtrie, read_at, shown_within, lower_child, sought_entry}
use Rattle.plain_trie_records.proofs.Risen.{push_old, push_new}

-- ---- a new node for a fork
pub raised_in_new_node : (ns ms us : List NodeView) (ls : List LeafRecord) (x : Item) (p : ℕ) (s : Tree) (h q : ℕ) (z o e : Entry) →
    IsRaised ns ms ls x p s h (Fork q (Place z) (Place o)) → IsNew ms us e (Fork q (Place z) (Place o)) → IsRaised ns us ls x p s (suc h) (Place e)
raised_in_new_node ns ms us ls x p s h q z o e u new = record {
  tree = node (length ms) (head_of new.view) u.tree;
  begins = ap (λ d. let y : Subtrie = Place d in y) (sym new.is);
  adds = record { trie = u.adds.trie; more = u.adds.more; keys = u.adds.keys; like = u.adds.like; has_like = u.adds.has_like; agree = u.adds.agree };
  built = node_built_from new.view (length ms) u.tree built u.adds.trie u.built;
  lower = omega (arith, high, greatest_if_lower h u.tree u.lower);
  shown = (
    record { view = new.view; at = stands; fixed = refl; shows = shows },
    shown_more ms us ls ls u.tree more (λ m l g. g) u.shown,
  );
  kept = λ m v none at. more m v (u.kept m v none at);
}
  where
    shows : piece new.view ≡ subtrie u.tree
    shows = new.built.shows_it ∙ sym u.begins

    high : new.view.height ≡ 1 + greatest_height (places (subtrie u.tree))
    high = new.built.height_is ∙ ap (λ es. 1 + greatest_height es) (new.built.lawful.shows.entries_are ∙ ap places shows)

    stands : slice_get us (length ms) ≡ Some new.view
    stands = ap (λ (vs : List NodeView). slice_get vs (length ms)) new.added ∙ push_new ms new.view

    more : (m : ℕ) (v : NodeView) → slice_get ms m ≡ Some v → slice_get us m ≡ Some v
    more m v g = ap (λ (vs : List NodeView). slice_get vs m) new.added ∙ push_old ms _ m v g

    built : IsBuiltFrom new.view (subtrie u.tree)
    built = subst (IsBuiltFrom new.view) (sym u.begins) new.built

-- ---- a leaf
pub beside_raised : (ns : List NodeView) (ls : List LeafRecord) (x : Item) (p n : ℕ) (t : Tree) → IsAddable ns ls x p (Leaf n) t →
    IsRaised ns ns ls x p t 1 (subtrie_forked (bit x.key p) p (Leaf x.number) (Place (Leaf n)))
beside_raised ns ls x p n (leaf m k v) i =
    let away = all_away x.key k p i.differ (leaf m k v) i.trie refl tt in
    record {
      tree = grown (bit x.key p) p (leaf m k v) x;
      begins = grown_subtrie (bit x.key p) p (leaf m k v) x ∙ ap (subtrie_forked (bit x.key p) p (Leaf x.number)) i.head;
      adds = added_here (leaf m k v) x p i.trie i.key away;
      built = parts_built (bit x.key p);
      lower = parts_low (bit x.key p);
      shown = parts_shown (bit x.key p);
      kept = λ j w none at. at;
    }
  where
    parts_built : (u : Bool) → IsBuilt (grown u p (leaf m k v) x)
    parts_built true = (tt, tt)
    parts_built false = (tt, tt)

    parts_low : (u : Bool) → IsLower 1 (grown u p (leaf m k v) x)
    parts_low true = (omega arith, omega arith)
    parts_low false = (omega arith, omega arith)

    parts_shown : (u : Bool) → ShowsTree ns ls (grown u p (leaf m k v) x)
    parts_shown true = (i.shown, i.new)
    parts_shown false = (i.new, i.shown)
beside_raised ns ls x p n (node m y b) i = absurd (let e = i.head in cc)
beside_raised ns ls x p n (fork q a b) i = absurd (let e = i.head in cc)

-- ---- a node
-- a part whose entries are leaves has no node for its head
part_low : (d : Tree) → IsBuilt d → IsLower 1 d → IsLeafOrFork d
part_low (leaf n k v) b l = tt
part_low (node n x c) b l = let p = lower_positive x.height c b.1 in absurd (omega arith)
part_low (fork q a c) b l = tt

-- the node at which a search stands
pub record IsHere (ns : List NodeView) (ls : List LeafRecord) (x : Item) (p n h : ℕ) (t : Tree) : Type 0 where
  pub fixed : Fixed
  pub body : Tree
  pub is : t ≡ node n fixed body
  pub high : fixed.height ≡ h
  pub trie : IsTrie body
  pub built : IsBuilt (node n fixed body)
  pub shown : ShowsTree ns ls (node n fixed body)
  pub differ : IsFirstDifference x.key (found x.key body).key p
  pub has : Has (child x.key body) (found x.key body).key

pub node_here : {ns : List NodeView} {ls : List LeafRecord} {x : Item} {p n h : ℕ} {t : Tree} → IsAddable ns ls x p (Node n h) t → IsHere ns ls x p n h t
node_here {ns} {ls} {x} {p} {n} {h} {t} i =
    let u = node_of_subtrie ns ls n h t i.head i.shown i.built in
    record {
      fixed = u.fixed;
      body = u.body;
      is = u.is;
      high = u.high;
      trie = subst IsTrie u.is i.trie;
      built = u.built;
      shown = (u.stored, u.below);
      differ = subst (λ y. IsFirstDifference x.key (found x.key y).key p) u.is i.differ;
      has = subst (λ (y : Item). Has (child x.key u.body) y.key) (found_child x.key u.body) (has_found x.key (child x.key u.body));
    }

module _ {ns : List NodeView} {ls : List LeafRecord} {x : Item} {p n h : ℕ} {t : Tree} (i : IsAddable ns ls x p (Node n h) t) (u : IsHere ns ls x p n h t) (first last : ℕ)
    (from : affected_first p (spot x.key (subtrie u.body)) (subtrie u.body) ≡ first) (upto : affected_count p (spot x.key (subtrie u.body)) (subtrie u.body) + first ≡ last + 1) where
  -- several entries are affected, or there are leaves alone: the new leaf belongs to the node
  pub part : (first < last) ⊎ (h ≡ 1) → IsLeafOrFork (affected p x.key u.body)
  part (inl o) = (part_of_two (affected p x.key u.body) (omega (arith, upto, size_affected x.key p u.body))).0
  part (inr one) =
      let w = part_place p x.key u.body in
      part_low (affected p x.key u.body) (built_within w.0 u.built.2) (lower_part 1 w.0 w.1 (subst (λ g. IsLower g u.body) (u.high ∙ one) u.built.1))

  pub range : IsLeafOrFork (affected p x.key u.body) → IsAffected (subtrie u.body) p first last
  range o = affected_range x.key (found x.key u.body).key p u.differ u.body u.trie u.has o first last from upto

  pub here_raised : IsLeafOrFork (affected p x.key u.body) → (ms : List NodeView) (risen : Risen) → OthersStay ns ms n →
      RisenShows ms u.shown.0.view risen (piece_grown p (bit x.key p) (Leaf x.number) first (subtrie u.body)) → IsRaised ns ms ls x p t (suc h) (subtrie_of risen)
  here_raised o ms risen others shows =
      let away = all_away x.key (found x.key u.body).key p u.differ u.body u.trie u.has o in
      let subtrie_is : piece_grown p (bit x.key p) (Leaf x.number) first (subtrie u.body) ≡ subtrie_grown p x.key (Leaf x.number) (subtrie u.body) =
      ap (λ j. piece_grown p (bit x.key p) (Leaf x.number) j (subtrie u.body)) (sym from) ∙ (key_part x.key p (subtrie u.body)).grows (Leaf x.number) in
      let r = grow_raised ns ls n u.fixed u.body u.trie u.built u.shown ms x p i.key away i.new others risen (subst (RisenShows ms u.shown.0.view risen) subtrie_is shows) in
      subst (λ g. IsRaised ns ms ls x p t (suc g) (subtrie_of risen)) u.high (subst (λ y. IsRaised ns ms ls x p y (suc u.fixed.height) (subtrie_of risen)) (sym u.is) r)

  -- one entry is: the search goes on there
  pub way_below : last ≤ first → WayBelow p x.key u.body
  way_below o = (tip_child p x.key u.body (tip_of_one_place (affected p x.key u.body) (omega (arith, upto, size_affected x.key p u.body)))).1

-- what the node's record tells of it
module _ {ns : List NodeView} {ls : List LeafRecord} {x : Item} {p n h : ℕ} {t : Tree} (u : IsHere ns ls x p n h t) where
  pub here_positive : 0 < h
  here_positive = let g = lower_positive u.fixed.height u.body u.built.1 in omega (arith, u.high)

  pub here_within : n < length ns
  here_within = slice_get_within ns n u.shown.0.view u.shown.0.at

  pub here_high : u.shown.0.view.height ≡ h
  here_high = ap (λ (f : Fixed). f.height) u.shown.0.fixed ∙ u.high

  module _ (v : NodeView) (is : v ≡ get_or ns n v) where
    pub here_subtrie : piece v ≡ subtrie u.body
    here_subtrie = ap piece (read_at ns n u.shown.0.view v u.shown.0.at is) ∙ u.shown.0.shows

    pub here_spot : (at : ℕ) → at ≡ leads_to (bit_of x.key) (piece v) → at ≡ spot x.key (subtrie u.body)
    here_spot at leads = leads ∙ (ap (leads_to (bit_of x.key)) here_subtrie ∙ leads_spot x.key (subtrie u.body))

    pub here_from : (at first : ℕ) → at ≡ leads_to (bit_of x.key) (piece v) → affected_first p at (piece v) ≡ first → affected_first p (spot x.key (subtrie u.body)) (subtrie u.body) ≡ first
    here_from at first leads from = ap (λ j. affected_first p j (subtrie u.body)) (sym (here_spot at leads)) ∙ (ap (affected_first p at) (sym here_subtrie) ∙ from)

    pub here_upto : (at first last : ℕ) → at ≡ leads_to (bit_of x.key) (piece v) → affected_count p at (piece v) + first ≡ last + 1 →
        affected_count p (spot x.key (subtrie u.body)) (subtrie u.body) + first ≡ last + 1
    here_upto at first last leads upto =
        ap (λ m. m + first) (ap (λ j. affected_count p j (subtrie u.body)) (sym (here_spot at leads)) ∙ ap (affected_count p at) (sym here_subtrie)) ∙ upto

    pub here_entry : (at : ℕ) (e : Entry) → IsLawfulNode v → at ≡ leads_to (bit_of x.key) (piece v) → slice_get v.entries at ≡ Some e → e ≡ seek x.key (subtrie u.body)
    here_entry at e lawful leads stands = sought_entry x.key v at e lawful leads stands ∙ ap (seek x.key) here_subtrie

pub addable_to : {ns : List NodeView} {ls : List LeafRecord} {x : Item} {p : ℕ} {e f : Entry} {t : Tree} → e ≡ f → IsAddable ns ls x p e t → IsAddable ns ls x p f t
addable_to {ns} {ls} {x} {p} {e} {f} {t} is i = subst (λ g. IsAddable ns ls x p g t) is i

-- the entry below it
pub child_addable : {ns : List NodeView} {ls : List LeafRecord} {x : Item} {p n h : ℕ} {t : Tree} (i : IsAddable ns ls x p (Node n h) t) (u : IsHere ns ls x p n h t) (e : Entry) →
    e ≡ seek x.key (subtrie u.body) → IsAddable ns ls x p e (child x.key u.body)
child_addable {ns} {ls} {x} {p} {n} {h} {t} i u e is = record {
  head = subtrie_child x.key u.body ∙ ap (λ z. let y : Subtrie = Place z in y) (sym is);
  trie = trie_within (within_child x.key u.body) u.trie;
  built = built_within (within_child x.key u.body) u.built.2;
  shown = shown_within ns ls (within_child x.key u.body) u.shown.1;
  key = i.key;
  differ = subst (λ (y : Item). IsFirstDifference x.key y.key p) (sym (found_child x.key u.body)) u.differ;
  new = i.new;
}

pub child_low : {ns : List NodeView} {ls : List LeafRecord} {x : Item} {p n h : ℕ} {t : Tree} (u : IsHere ns ls x p n h t) (e : Entry) →
    e ≡ seek x.key (subtrie u.body) → height_of e < h
child_low {x = x} u e is = let l = lower_child u.fixed.height x.key u.body u.built.1 in omega (arith, ap height_of is, u.high)

pub here_lifting : {ns : List NodeView} {ls : List LeafRecord} {x : Item} {p n h : ℕ} {t : Tree} (u : IsHere ns ls x p n h t) (at low : ℕ) (e : Entry) (ms : List NodeView) (head : Subtrie) →
    WayBelow p x.key u.body → at ≡ spot x.key (subtrie u.body) → e ≡ seek x.key (subtrie u.body) → low ≡ height_of e →
    IsRaised ns ms ls x p (child x.key u.body) (suc (height_of e)) head → IsLifting (records ns ls) ms x p (level n h at low) u.fixed u.body head
here_lifting {ns} {ls} {x} {p} u at low e ms head below at_is is low_is up = record {
  trie = u.trie;
  built = u.built;
  shown = u.shown;
  below = below;
  high_is = u.high;
  at_is = at_is;
  lower = let l = child_low u e is in omega arith;
  up = subst (λ g. IsRaised ns ms ls x p (child x.key u.body) (suc g) head) (sym low_is) up;
}

-- ---- the node above
path_rises : {s b : Tree} (w : Within s b) (q : ℕ) (a c : Tree) → IsTrie (put w (fork q a c)) → Within (fork q a c) (put w (fork q a c)) × IsPathBelow q w
path_rises here q a c i = (here, tt)
path_rises (inside w) q a c i = let r = path_rises w q a c i in (inside r.0, r.1)
path_rises (zero_side w) q a c i =
    let r = path_rises w q a c i.0 in
    (zero_side r.0, (rises false r.0 i.0 (λ y z u v. i.2 y z (inl u) (inl v)) i.3, r.1))
path_rises (one_side w) q a c i =
    let r = path_rises w q a c i.1 in
    (one_side r.0, (rises true r.0 i.1 (λ y z u v. i.2 y z (inr u) (inr v)) i.4, r.1))

module _ {ns ms : List NodeView} {ls : List LeafRecord} {x : Item} {p n height at low : ℕ} {y : Fixed} {b : Tree} {head : Subtrie}
    (i : IsLifting (records ns ls) ms x p (level n height at low) y b head) where
  below_height : suc low ≤ y.height
  below_height = omega (arith, i.lower, i.high_is)

  pub old_at : slice_get ms n ≡ Some i.shown.0.view
  old_at = old_stays ns ls n y b i.trie i.built i.shown ms x p (suc low) head i.below i.up below_height

  pub old_high : i.shown.0.view.height ≡ height
  old_high = ap (λ (f : Fixed). f.height) i.shown.0.fixed ∙ i.high_is

  pub at_within : at < size (piece i.shown.0.view)
  at_within = let e = ap size i.shown.0.shows in omega (arith, spot_below x.key (subtrie b), i.at_is)

  -- a fork can stand there
  pub above_path : (q : ℕ) (z o : Entry) → head ≡ Fork q (Place z) (Place o) → IsAbovePath q at (piece i.shown.0.view)
  above_path q z o e =
      let u = pair_of q z o i.up.tree (i.up.begins ∙ e) in
      let w = (child_spot x.key b).place in
      let trie = (body_adds ns ls n y b i.trie i.built i.shown ms x p (suc low) head i.below i.up below_height).trie in
      let r = path_rises w q u.zero_tip u.one_tip (subst (λ f. IsTrie (put w f)) u.is trie) in
      subst (λ j. IsAbovePath q j (piece i.shown.0.view)) (sym i.at_is)
      (subst (IsAbovePath q (spot x.key (subtrie b))) (sym i.shown.0.shows) ((child_spot x.key b).above q r.1))

  pub pair_here : (q : ℕ) (z o : Entry) → head ≡ Fork q (Place z) (Place o) → IsPairOf q z o
  pair_here q z o e = pair_facts q z o i.up.tree (i.up.begins ∙ e) i.up.adds.trie i.up.built

  -- an entry can stand there
  pub stands_here : (e : Entry) → head ≡ Place e → StandsBelow i.shown.0.view.height e
  stands_here e is =
      let begins : subtrie i.up.tree ≡ Place e = i.up.begins ∙ is in
      (tip_entry e i.up.tree begins i.up.built, let l = tip_low (suc low) e i.up.tree begins i.up.lower in omega (arith, i.lower, old_high))

  -- and so the leaf has risen to the node
  pub lift : (us : List NodeView) (risen : Risen) → OthersStay ms us n → ((old : NodeView) → slice_get ms n ≡ Some old → RisenShows us old risen (grafted at head (piece old))) →
      IsRaised ns us ls x p (node n y b) (suc height) (subtrie_of risen)
  lift us risen others shows =
      let s : RisenShows us i.shown.0.view risen (grafted (spot x.key (subtrie b)) head (subtrie b)) =
      subst (λ j. RisenShows us i.shown.0.view risen (grafted j head (subtrie b))) i.at_is
      (subst (λ f. RisenShows us i.shown.0.view risen (grafted at head f)) i.shown.0.shows (shows i.shown.0.view old_at)) in
      let r = pulled_raised ns ls n y b i.trie i.built i.shown ms x p (suc low) head i.below i.up below_height us risen others s in
      subst (λ g. IsRaised ns us ls x p (node n y b) (suc g) (subtrie_of risen)) i.high_is r

  -- where the node is higher by two, a new node can stand between
  pub between : (us : List NodeView) (q : ℕ) (z o e : Entry) → head ≡ Fork q (Place z) (Place o) → IsNew ms us e (Fork q (Place z) (Place o)) → suc low < height →
      IsLifting (records ns ls) us x p (level n height at (suc low)) y b (Place e)
  between us q z o e is new far = record {
    trie = i.trie;
    built = i.built;
    shown = i.shown;
    below = i.below;
    high_is = i.high_is;
    at_is = i.at_is;
    lower = far;
    up = raised_in_new_node ns ms us ls x p (child x.key b) (suc low) q z o e (subst (IsRaised ns ms ls x p (child x.key b) (suc low)) is i.up) new;
  }

-- ---- an entry for another
pub replaced_grafted : (i : ℕ) (e : Entry) (P : Subtrie) → replaced i e P ≡ grafted i (Place e) P
replaced_grafted i e (Place d) = refl
replaced_grafted i e (Fork p a b) =
    elim (nat_lt i (size a)) as (λ o. cond o (Fork p (replaced i e a) b) (Fork p a (replaced (i - size a) e b)) ≡ cond o (Fork p (grafted i (Place e) a) b) (Fork p a (grafted (i - size a) (Place e) b))) [
      | true ↦ ap (λ z. Fork p z b) (replaced_grafted i e a)
      | false ↦ ap (Fork p a) (replaced_grafted (i - size a) e b)
    ]

first_replaced : (i : ℕ) (e : Entry) (P : Subtrie) → first_position (replaced i e P) ≡ first_position P
first_replaced i e (Place d) = refl
first_replaced i e (Fork p a b) =
    elim (nat_lt i (size a)) as (λ o. first_position (cond o (Fork p (replaced i e a) b) (Fork p a (replaced (i - size a) e b))) ≡ p) [ true ↦ refl | false ↦ refl ]

pub replaced_named : (us : List NodeView) (n at : ℕ) (e : Entry) (old view : NodeView) → slice_get us n ≡ Some view → IsLawfulNode view → view.height ≡ old.height →
    piece view ≡ replaced at e (piece old) → IsNamed us old (Node n view.height) (grafted at (Place e) (piece old))
replaced_named us n at e old view stands lawful high shows = record {
  number = n;
  view = view;
  at = stands;
  is = refl;
  lawful = lawful;
  shows = shows ∙ replaced_grafted at e (piece old);
  height = inr (high, ap first_position shows ∙ first_replaced at e (piece old));
}
