-- The search goes down to the affected node, and the new leaf rises from there.
use Rattle.plain_trie_records.proofs.Common.{◌≡◌, ◌⊎◌, inl, inr, ℕ, ◌+◌, ◌<◌, ◌≤◌, Bool, true, false, List, length, refl, suc, ap, sym, ◌∙◌, subst, arith, ◌↔◌, IsTrue, slice_get, cases_lt, false≢true, AtRootFork, affected_first, affected_count, grown, IsAffected, Place, Fork, size, size-grown, NodeView, piece, height_of, IsLawfulNode, Entry, Leaf, Node, GrownShows, is_whole, keeps_node, subtrie_of, Grown, Risen, subtrie_forked, Item, item, bit, spot, child, seek, Tree, Fixed, node, subtrie, size-piece}
use Rattle.std.specs.Prelude.{Some}
use Rattle.plain_trie_records.specs.declared.leaf.LeafRecord.{LeafRecord}
use Rattle.plain_trie_records.specs.Rising.{IsAddable, IsLifting, IsRaised, level, records}
use Rattle.plain_trie_records.specs.Cases.{AddsByCase, IsLevelDone, IsPutBetween, is_split}
use Rattle.plain_trie_records.specs.Risen.{RisenShows}
use Rattle.plain_trie_records.proofs.Cases.{above_by_case, does_grown, forked_split, leaf_by_case, node_by_case, pushed_by_case, taken_by_case}
use Rattle.plain_trie_records.proofs.Heights.{heights_over}
use Rattle.plain_trie_records.proofs.rising.Lifting.{not_below, old_stays}
use Rattle.plain_trie_records.proofs.rising.Steady.{grow_steady}
use Rattle.plain_trie_records.proofs.Store.Searching.{read_at}
use Rattle.plain_trie_records.proofs.rising.Rising.{IsHere, old_at, addable_to, node_here, here_positive, here_within, here_high, here_spot, here_from, here_upto, here_entry, here_raised, here_lifting, range, part, way_below, child_addable, child_low, beside_raised}
use Rattle.plain_trie_records.proofs.rising.+raise_newcomer.Goals as goal
use Rattle.plain_trie_records.proofs.rising.+raise_newcomer.Goals.{After-affected-first, After-raise_newcomer-risen}

pub index-node-requires : goal.index-node-requires
index-node-requires t c =
    let u = node_here (addable_to c.in-Node.is c.requires.place.3) in omega (arith, here_within u, c.args.nodes.now.ok.0)

-- ---- the node at which the search stands, and its affected entries
module _ (t : ℕ) (c : After-affected-first t) (leaves : List LeafRecord) (value : ℕ) (s : Tree)
    (a : IsAddable c.args.nodes.now.items leaves (item c.args.leaf c.args.key.now value) c.args.position c.args.entry s) where
  stands : IsAddable c.args.nodes.now.items leaves (item c.args.leaf c.args.key.now value) c.args.position (Node c.in-Node.number c.in-Node.height) s
  stands = addable_to c.in-Node.is a

  here : IsHere c.args.nodes.now.items leaves (item c.args.leaf c.args.key.now value) c.args.position c.in-Node.number c.in-Node.height s
  here = node_here stands

  from : affected_first c.args.position (spot c.args.key.now (subtrie here.body)) (subtrie here.body) ≡ c.affected-first.result.0
  from = here_from here c.index-node.result.now c.index-node.ensures c.search-slot.result c.affected-first.result.0 c.search-slot.ensures.leads c.affected-first.ensures.from

  upto : affected_count c.args.position (spot c.args.key.now (subtrie here.body)) (subtrie here.body) + c.affected-first.result.0 ≡ c.affected-first.result.1 + 1
  upto = here_upto here c.index-node.result.now c.index-node.ensures c.search-slot.result c.affected-first.result.0 c.affected-first.result.1 c.search-slot.ensures.leads c.affected-first.ensures.upto

  read : c.index-node.result.now ≡ here.shown.0.view
  read = read_at c.args.nodes.now.items c.in-Node.number here.shown.0.view c.index-node.result.now here.shown.0.at c.index-node.ensures

  lawful : IsLawfulNode here.shown.0.view
  lawful = subst IsLawfulNode read c.count.ensures.lawful

  in_range : (c.affected-first.result.0 < c.affected-first.result.1) ⊎ (c.in-Node.height ≡ 1) → IsAffected (piece here.shown.0.view) c.args.position c.affected-first.result.0 c.affected-first.result.1
  in_range takes =
      let first = c.affected-first.result.0 in
      let last = c.affected-first.result.1 in
      subst (λ f. IsAffected f c.args.position first last) (sym here.shown.0.shows) (range stands here first last from upto (part stands here first last from upto takes))

-- ---- it gets the leaf itself
pub grow-grown-requires-clause-range : goal.grow-grown-requires-clause-range
grow-grown-requires-clause-range t c =
    let d = (goal.at.grow-grown-requires-clause-range t c).After-affected-first in
    let (leaves, value, s, a) = c.requires.place in
    subst (λ (v : NodeView). IsAffected (piece v) c.args.position c.affected-first.result.0 c.affected-first.result.1) (sym (read t d leaves value s a)) (in_range t d leaves value s a (c.if-node_takes_leaf.ensures.0 refl))

pub store_grown-requires-clause-number : goal.store_grown-requires-clause-number
store_grown-requires-clause-number t c =
    let u = node_here (addable_to c.in-Node.is c.requires.place.3) in omega (arith, here_within u, c.args.nodes.now.ok.0)

pub store_grown-requires-clause-room : goal.store_grown-requires-clause-room
store_grown-requires-clause-room t c =
    let u = node_here (addable_to c.in-Node.is c.requires.place.3) in omega (arith, here_positive u, ap height_of c.in-Node.is, c.requires.room)

pub store_grown-requires-clause-small : goal.store_grown-requires-clause-small
store_grown-requires-clause-small t c =
    let u = node_here (addable_to c.in-Node.is c.requires.place.3) in omega (arith, here_positive u, ap height_of c.in-Node.is, c.requires.small)

-- what grew out of the node, as its record has it
grew : {ns : List NodeView} {ls : List LeafRecord} {x : Item} {p n h : ℕ} {t : Tree} (u : IsHere ns ls x p n h t) (v : NodeView) → v ≡ u.shown.0.view → (g : Grown) (first : ℕ) (o : Bool) → o ≡ bit x.key p →
    GrownShows v g (grown p o (Leaf x.number) first (piece v)) → GrownShows u.shown.0.view g (grown p (bit x.key p) (Leaf x.number) first (piece u.shown.0.view))
grew {x = x} {p = p} u v same g first o is shows = subst (λ w. GrownShows w g (grown p (bit x.key p) (Leaf x.number) first (piece w))) same (subst (λ b. GrownShows v g (grown p b (Leaf x.number) first (piece v))) is shows)

pub returns-then-node_takes_leaf-clause-raised : goal.returns-then-node_takes_leaf-clause-raised
unfolding bit
returns-then-node_takes_leaf-clause-raised t c = λ leaves value s a.
    let d = (goal.at.returns-then-node_takes_leaf-clause-raised t c).After-affected-first in
    let i = stands t d leaves value s a in
    let u = here t d leaves value s a in
    let first = c.affected-first.result.0 in
    let last = c.affected-first.result.1 in
    let ms = c.store_grown.new.nodes.items in
    let shows = c.store_grown.ensures.shows u.shown.0.view _ u.shown.0.at (here_high u) (lawful t d leaves value s a)
    (grew u c.index-node.result.now (read t d leaves value s a) c.grow-grown.result first c.bit-bit.result c.bit-bit.ensures c.grow-grown.ensures.shows) in
    subst (λ h. IsRaised c.args.nodes.now.items ms leaves (item c.args.leaf c.args.key.now value) c.args.position s (suc h) (subtrie_of c.store_grown.result)) (sym (ap height_of c.in-Node.is))
    (here_raised i u first last (from t d leaves value s a) (upto t d leaves value s a) (part i u first last (from t d leaves value s a) (upto t d leaves value s a) (c.if-node_takes_leaf.ensures.0 refl))
    ms c.store_grown.result c.store_grown.ensures.others
    (subst (λ f. RisenShows ms u.shown.0.view c.store_grown.result (grown c.args.position (bit c.args.key.now c.args.position) (Leaf c.args.leaf) first f)) u.shown.0.shows shows))

pub returns-then-node_takes_leaf-clause-case : goal.returns-then-node_takes_leaf-clause-case
unfolding bit
returns-then-node_takes_leaf-clause-case t c = λ leaves value s a.
    let d = (goal.at.returns-then-node_takes_leaf-clause-case t c).After-affected-first in
    let u = here t d leaves value s a in
    let view = u.shown.0.view in
    let m = length view.entries in
    let g = c.grow-grown.result in
    let first = c.affected-first.result.0 in
    let ms = c.store_grown.new.nodes.items in
    let up = is_split c.store_grown.result in
    let P = grown c.args.position (bit c.args.key.now c.args.position) (Leaf c.args.leaf) first (piece view) in
    let same = read t d leaves value s a in
    let w = lawful t d leaves value s a in
    let counts = size-piece view w in
    let shown = grew u c.index-node.result.now same g first c.bit-bit.result c.bit-bit.ensures c.grow-grown.ensures.shows in
    let big : 2 < size P = omega (arith, size-grown c.args.position (bit c.args.key.now c.args.position) (Leaf c.args.leaf) first (piece view), counts, w.several) in
    let o = c.store_grown.ensures.does view P u.shown.0.at shown big in
    let whole = subst (λ (v : NodeView). IsTrue (is_whole g) ↔ (length v.entries < 32)) same c.grow-grown.ensures.whole in
    let done = does_grown ms c.in-Node.number view o.0 c.in-Node.height m first P (is_whole g) whole o.1 o.2 in
    subst (λ z. AddsByCase c.args.nodes.now.items ms c.args.key.now c.args.position c.args.leaf z up) (sym u.is)
    (taken_by_case (stands t d leaves value s a) u first c.affected-first.result.1 (from t d leaves value s a) (upto t d leaves value s a) (c.if-node_takes_leaf.ensures.0 refl) m (omega (arith, counts, ap size u.shown.0.shows))
    ms up (c.store_grown.ensures.up ∙ done.1) done.0)

pub returns-then-node_takes_leaf-clause-low : goal.returns-then-node_takes_leaf-clause-low
returns-then-node_takes_leaf-clause-low t c = λ z. absurd (let u = node_here (addable_to c.in-Node.is c.requires.place.3) in omega (arith, here_positive u, ap height_of c.in-Node.is, z))

pub returns-then-node_takes_leaf-clause-heights : goal.returns-then-node_takes_leaf-clause-heights
unfolding bit
returns-then-node_takes_leaf-clause-heights t c =
    let (leaves, value, s, a) = c.requires.place in
    let d = (goal.at.returns-then-node_takes_leaf-clause-heights t c).After-affected-first in
    let u = here t d leaves value s a in
    let g = c.grow-grown.result in
    let p = c.args.position in
    let first = c.affected-first.result.0 in
    let same = read t d leaves value s a in
    let shown = grew u c.index-node.result.now same g first c.bit-bit.result c.bit-bit.ensures c.grow-grown.ensures.shows in
    let keeps = subst (λ (v : NodeView). IsTrue (keeps_node g) ↔ ((is_whole g ≡ false) × AtRootFork (λ q zero one. p < q) (piece v))) same c.grow-grown.ensures.same in
    c.store_grown.ensures.heights u.shown.0.view _ u.shown.0.at shown
    (grow_steady u.shown.0.view (lawful t d leaves value s a) p (bit c.args.key.now p) (Leaf c.args.leaf) first c.affected-first.result.1 (in_range t d leaves value s a (c.if-node_takes_leaf.ensures.0 refl)) g shown keeps)

pub returns-then-node_takes_leaf-clause-len : goal.returns-then-node_takes_leaf-clause-len
returns-then-node_takes_leaf-clause-len t c =
    let u = node_here (addable_to c.in-Node.is c.requires.place.3) in omega (arith, here_positive u, ap height_of c.in-Node.is, c.store_grown.ensures.len)

-- ---- or the search goes on below it
pub raise_newcomer-risen-requires : goal.raise_newcomer-risen-requires
raise_newcomer-risen-requires t c =
    let q = c.requires.place in
    let i = addable_to c.in-Node.is q.3 in
    let u = node_here i in
    let is = here_entry u c.index-node.result.now c.index-node.ensures c.search-slot.result c.entry-child.result c.count.ensures.lawful c.search-slot.ensures.leads c.entry-child.ensures.entry in
    let low = child_low u c.entry-child.result is in
    let high = ap height_of c.in-Node.is in
    (omega (arith, c.decreases), ((q.0, q.1, child c.args.key.now u.body, child_addable i u c.entry-child.result is), (c.requires.position, (omega (arith, c.requires.room), omega (arith, c.requires.small)))))

-- one entry is affected, and not in a node over leaves
few_of : (first last h : ℕ) (takes : Bool) → IsTrue takes ↔ ((first < last) ⊎ (h ≡ 1)) → takes ≡ false → (last ≤ first) × (h ≡ 1 → ⊥)
few_of first last h takes e f = (
  elim (cases_lt first last) [ inl o ↦ absurd (false≢true (sym f ∙ e.1 (inl o))) | inr o ↦ o ],
  λ one. false≢true (sym f ∙ e.1 (inr one)),
)

-- what took the child's place, where the search goes on there
lifts : (t : ℕ) (c : After-raise_newcomer-risen t) (leaves : List LeafRecord) (value : ℕ) (s : Tree) →
    IsAddable c.args.nodes.now.items leaves (item c.args.leaf c.args.key.now value) c.args.position c.args.entry s → (low : ℕ) → low ≡ height_of c.entry-child.result →
    (y : Fixed) × (b : Tree) × (s ≡ node c.in-Node.number y b) × IsLifting (records c.args.nodes.now.items leaves) c.raise_newcomer-risen.new.nodes.items (item c.args.leaf c.args.key.now value) c.args.position
    (level c.in-Node.number c.in-Node.height c.search-slot.result low) y b (subtrie_of c.raise_newcomer-risen.result)
lifts t c leaves value s a low is_low =
    let i = addable_to c.in-Node.is a in
    let u = node_here i in
    let v = c.index-node.result.now in
    let at = c.search-slot.result in
    let first = c.affected-first.result.0 in
    let last = c.affected-first.result.1 in
    let leads = c.search-slot.ensures.leads in
    let from = here_from u v c.index-node.ensures at first leads c.affected-first.ensures.from in
    let upto = here_upto u v c.index-node.ensures at first last leads c.affected-first.ensures.upto in
    let is = here_entry u v c.index-node.ensures at c.entry-child.result c.count.ensures.lawful leads c.entry-child.ensures.entry in
    let up = c.raise_newcomer-risen.ensures.raised leaves value _ (child_addable i u c.entry-child.result is) in
    let few = (few_of first last c.in-Node.height c.node_takes_leaf.result c.node_takes_leaf.ensures c.if-node_takes_leaf.false).0 in (
      u.fixed,
      u.body,
      u.is,
      here_lifting u at low c.entry-child.result c.raise_newcomer-risen.new.nodes.items (subtrie_of c.raise_newcomer-risen.result) (way_below i u first last from upto few)
          (here_spot u v c.index-node.ensures at leads) is is_low up,
    )

pub lift_risen-requires-clause-place : goal.lift_risen-requires-clause-place
lift_risen-requires-clause-place t c =
    let (leaves, value, s, a) = c.requires.place in
    let (y, b, is, l) = lifts t (goal.at.lift_risen-requires-clause-place t c).After-raise_newcomer-risen leaves value s a c.height.result c.height.ensures in
    (c.args.nodes.now.items, leaves, item c.args.leaf c.args.key.now value, c.args.position, y, b, l)

pub lift_risen-requires-clause-room : goal.lift_risen-requires-clause-room
lift_risen-requires-clause-room t c =
    let u = node_here (addable_to c.in-Node.is c.requires.place.3) in
    let is = here_entry u c.index-node.result.now c.index-node.ensures c.search-slot.result c.entry-child.result c.count.ensures.lawful c.search-slot.ensures.leads c.entry-child.ensures.entry in
    omega (arith, child_low u c.entry-child.result is, ap height_of c.in-Node.is, c.requires.room, c.raise_newcomer-risen.ensures.len, c.raise_newcomer-risen.ensures.capacity)

pub lift_risen-requires-clause-small : goal.lift_risen-requires-clause-small
lift_risen-requires-clause-small t c =
    let u = node_here (addable_to c.in-Node.is c.requires.place.3) in
    let is = here_entry u c.index-node.result.now c.index-node.ensures c.search-slot.result c.entry-child.result c.count.ensures.lawful c.search-slot.ensures.leads c.entry-child.ensures.entry in
    omega (arith, child_low u c.entry-child.result is, ap height_of c.in-Node.is, c.requires.small, c.raise_newcomer-risen.ensures.len)

pub returns-in-Leaf-clause-raised : goal.returns-in-Leaf-clause-raised
unfolding bit
returns-in-Leaf-clause-raised t c = λ leaves value s a.
    let i = addable_to c.in-Leaf.is a in
    let x = item c.args.leaf c.args.key.now value in
    let nodes = c.args.nodes.now.items in
    let r = beside_raised nodes leaves x c.args.position c.in-Leaf.field-0 s i in
    let subtrie_is = c.fork_entries.ensures ∙ (ap (λ o. subtrie_forked o c.args.position (Leaf c.args.leaf) (Place c.args.entry)) c.bit.ensures ∙
    ap (λ e. subtrie_forked (bit c.args.key.now c.args.position) c.args.position (Leaf c.args.leaf) (Place e)) c.in-Leaf.is) in
    subst (λ h. IsRaised nodes nodes leaves x c.args.position s (suc h) (subtrie_of c.fork_entries.result)) (sym (ap height_of c.in-Leaf.is))
    (subst (IsRaised nodes nodes leaves x c.args.position s 1) (sym subtrie_is) r)

pub returns-else-node_takes_leaf-clause-raised : goal.returns-else-node_takes_leaf-clause-raised
returns-else-node_takes_leaf-clause-raised t c = λ leaves value s a.
    let x = item c.args.leaf c.args.key.now value in
    let (y, b, is, l) = lifts t (goal.at.returns-else-node_takes_leaf-clause-raised t c).After-raise_newcomer-risen leaves value s a c.height.result c.height.ensures in
    let r = c.lift_risen.ensures.raised c.args.nodes.now.items leaves x c.args.position y b l in
    subst (λ h. IsRaised c.args.nodes.now.items c.lift_risen.new.nodes.items leaves x c.args.position s (suc h) (subtrie_of c.lift_risen.result)) (sym (ap height_of c.in-Node.is))
    (subst (λ z. IsRaised c.args.nodes.now.items c.lift_risen.new.nodes.items leaves x c.args.position z (suc c.in-Node.height) (subtrie_of c.lift_risen.result)) (sym is) r)

pub returns-else-node_takes_leaf-clause-heights : goal.returns-else-node_takes_leaf-clause-heights
returns-else-node_takes_leaf-clause-heights t c =
    let (leaves, value, s, a) = c.requires.place in
    let (y, b, is, l) = lifts t (goal.at.returns-else-node_takes_leaf-clause-heights t c).After-raise_newcomer-risen leaves value s a c.height.result c.height.ensures in
    heights_over c.args.nodes.now.items c.raise_newcomer-risen.new.nodes.items c.lift_risen.new.nodes.items c.raise_newcomer-risen.ensures.heights c.lift_risen.ensures.heights
    c.in-Node.number l.shown.0.view l.shown.0.at (old_at l) c.lift_risen.ensures.others

pub returns-else-node_takes_leaf-clause-len : goal.returns-else-node_takes_leaf-clause-len
returns-else-node_takes_leaf-clause-len t c =
    let u = node_here (addable_to c.in-Node.is c.requires.place.3) in
    let is = here_entry u c.index-node.result.now c.index-node.ensures c.search-slot.result c.entry-child.result c.count.ensures.lawful c.search-slot.ensures.leads c.entry-child.ensures.entry in
    omega (arith, child_low u c.entry-child.result is, ap height_of c.in-Node.is, c.raise_newcomer-risen.ensures.len, c.lift_risen.ensures.len)

-- ---- the case
-- the fork of a leaf and the new one, on either side
forked_between : (ms us : List NodeView) (n at : ℕ) (view : NodeView) (risen : Risen) (p l : ℕ) (e : Entry) (b : Bool) → subtrie_of risen ≡ subtrie_forked b p (Leaf l) (Place e) →
    ((z o : Entry) → subtrie_of risen ≡ Fork p (Place z) (Place o) → IsPutBetween ms us n at view (Fork p (Place z) (Place o))) → IsPutBetween ms us n at view (subtrie_forked b p (Leaf l) (Place e))
forked_between ms us n at view risen p l e true is put = put e (Leaf l) is
forked_between ms us n at view risen p l e false is put = put (Leaf l) e is

pub returns-in-Leaf-clause-case : goal.returns-in-Leaf-clause-case
returns-in-Leaf-clause-case t c = λ leaves value s a.
    leaf_by_case c.args.nodes.now.items c.args.nodes.now.items c.args.key.now c.args.position c.args.leaf c.in-Leaf.field-0 s (is_split c.fork_entries.result) (addable_to c.in-Leaf.is a).head
    (forked_split c.fork_entries.result c.bit.result c.args.position c.args.leaf c.args.entry c.fork_entries.ensures)

pub returns-in-Leaf-clause-low : goal.returns-in-Leaf-clause-low
returns-in-Leaf-clause-low t c = λ z. (refl, c.bit.result, c.fork_entries.ensures)

pub returns-else-node_takes_leaf-clause-low : goal.returns-else-node_takes_leaf-clause-low
returns-else-node_takes_leaf-clause-low t c = λ z. absurd (let u = node_here (addable_to c.in-Node.is c.requires.place.3) in omega (arith, here_positive u, ap height_of c.in-Node.is, z))

pub returns-else-node_takes_leaf-clause-case : goal.returns-else-node_takes_leaf-clause-case
returns-else-node_takes_leaf-clause-case t c = λ leaves value s a.
    let i = addable_to c.in-Node.is a in
    let u = node_here i in
    let v = c.index-node.result.now in
    let e = c.entry-child.result in
    let at = c.search-slot.result in
    let first = c.affected-first.result.0 in
    let last = c.affected-first.result.1 in
    let ns = c.args.nodes.now.items in
    let ms = c.raise_newcomer-risen.new.nodes.items in
    let us = c.lift_risen.new.nodes.items in
    let n = c.in-Node.number in
    let k = c.args.key.now in
    let p = c.args.position in
    let l = c.args.leaf in
    let leads = c.search-slot.ensures.leads in
    let from = here_from u v c.index-node.ensures at first leads c.affected-first.ensures.from in
    let upto = here_upto u v c.index-node.ensures at first last leads c.affected-first.ensures.upto in
    let is = here_entry u v c.index-node.ensures at e c.count.ensures.lawful leads c.entry-child.ensures.entry in
    let (few, tall) = few_of first last c.in-Node.height c.node_takes_leaf.result c.node_takes_leaf.ensures c.if-node_takes_leaf.false in
    let way = way_below i u first last from upto few in
    let b = child_addable i u e is in
    let rose = is_split c.raise_newcomer-risen.result in
    let up = is_split c.lift_risen.result in
    let view = u.shown.0.view in
    let still : slice_get ms n ≡ Some view =
    old_stays ns leaves n u.fixed u.body u.trie u.built u.shown ms (item l k value) p (suc (height_of e)) (subtrie_of c.raise_newcomer-risen.result) way
    (c.raise_newcomer-risen.ensures.raised leaves value (child k u.body) b) (omega (arith, child_low u e is, u.high)) in
    let takes = c.lift_risen.ensures.takes view still in
    subst (λ z. AddsByCase ns us k p l z up) (sym u.is) (elim (cases_lt 0 (height_of e)) [
      | inl high ↦
          let does : IsLevelDone (height_of (seek k (subtrie u.body))) rose view takes.0 (spot k (subtrie u.body)) up =
          subst (λ d. IsLevelDone d rose view takes.0 (spot k (subtrie u.body)) up) (c.height.ensures ∙ ap height_of is)
          (subst (λ j. IsLevelDone c.height.result rose view takes.0 j up) (here_spot u v c.index-node.ensures at leads) takes.2) in
          above_by_case ns ms us k p l n u.fixed u.body rose up (not_below ns leaves n u.fixed u.body u.trie u.built u.shown) way c.lift_risen.ensures.others
          (record { before = view; after = takes.0; old_at = u.shown.0.at; new_at = takes.1; does = does })
          (node_by_case ns ms k p l e (child k u.body) rose b.head high (c.raise_newcomer-risen.ensures.case leaves value (child k u.body) b))
      | inr z ↦
          let zero_high : height_of e ≡ 0 = omega arith in
          let r = c.raise_newcomer-risen.ensures.low zero_high in
          let high : 1 < c.in-Node.height = omega (arith, here_positive u, tall) in
          let far : c.height.result + 1 < c.in-Node.height = omega (arith, c.height.ensures) in
          let within = (c.affected-first.ensures.range at (omega (arith, c.search-slot.ensures.in_range))).0 (λ j g h. refl) in
          let first_is : at ≡ first = omega (arith, within.0, within.1, few) in
          let put : IsPutBetween ms us n at view (subtrie_forked r.1 p (Leaf l) (Place e)) =
          forked_between ms us n at view c.raise_newcomer-risen.result p l e r.1 r.2 (λ z o f. c.lift_risen.ensures.between view p z o still f far) in
          let above : IsLevelDone c.height.result true view takes.0 at up =
          subst (λ o. IsLevelDone c.height.result o view takes.0 at up) (forked_split c.raise_newcomer-risen.result r.1 p l e r.2) takes.2 in
          let stays = above.1 (λ f. absurd (omega (arith, f, far, here_high u))) in
          pushed_by_case i u first last from upto e few high zero_high is c.entry-child.ensures.stands.0 ms us r.1 up stays.1
          (subst (λ j. IsPutBetween ms us n j view (subtrie_forked r.1 p (Leaf l) (Place e))) first_is put)
    ])
