-- What the subtrie of a lawful tree tells of the fork that it got, and how high the nodes of a subtrie are.
use Rattle.rowex_writing.proofs.Common.{◌≡◌, inl, inr, ℕ, suc, Option, ◌+◌, ◌*◌, ◌<◌, ◌≤◌, Bool, true, false, List, [], ◌∷◌, ◌++◌, length, max, ap, sym, ◌∙◌, subst, arith, if◌then◌else◌, nat_lt, All, affected_first, affected_count, grown, IsAffected, IsFresh, without, Place, Fork, leads_to, places, size, HalfShows, NodeView, piece, IsLawfulNode, IsBuiltFrom, IsEntry, height_of, greatest_height, Entry, Half, One, Many, Same, subtrie_affected, subtrie_forked, subtrie_grown, first, Key, bit, spot, with_subtrie, subtrie_without, Subtrie, Tree, fork, subtrie, IsTrie, Within, here, zero_side, one_side, bit_below, greatest-append, size-piece, greatest_without, leads_spot, spot_below, grafted_spot, path_low, path_high, without_spot, has_first, rises, trie_within, built_within, GrownShows, SidesShow, Grown, Two, FirstForkIsNot, key_part, first_fork_is_not, IsPairOf, pair_facts, CanTakeLeaf, HasNodeWords, CanGrowAt, SpellLeft, node_words}
use Rattle.key_bits.specs.Bits.{bit_of}
use Rattle.key_bits.specs.declared.TheConstants.{MAX_BYTES}
use Rattle.node_tries.specs.Grafts.{grafted, IsAbovePath}
use Rattle.node_tries.proofs.Affected.{affected_again}
use Rattle.compound_node.specs.declared.entries.Entry.TheVariants.{Leaf}
use Rattle.tries.proofs.Keys.{has_key}
use Rattle.insert_cases.specs.declared.growth.Grown.TheVariants.{One as Whole}
use Rattle.insert_cases.proofs.NodeFacts.{height_positive}
use Rattle.record_words.specs.Reading.{IsSpelledBy}
use Rattle.rowex_writing.specs.build.Remaking.{IsSubtrieOfTree, IsLowHalf, IsNoHigher, AwaitsLeaf, subtrie_with_fork}
use Rattle.rowex_writing.specs.plan.Planned.{AffectsJust}
use Rattle.rowex_writing.specs.declared.build.remaking.Fork.{Fork as NewFork}
use Rattle.rowex_writing.specs.declared.build.remaking.NewLeaf.{NewLeaf}
use Rattle.version_laws.proofs.Rise.{fork_parts}

-- ---- a new leaf
-- the position is one of keys, and it is not that of the part's first fork
abbrev IsApart : ℕ → Subtrie → Type 0
IsApart p part = (p < 9 * MAX_BYTES) × FirstForkIsNot p part

fork_position : (p : ℕ) (s r : Tree) → IsTrie (fork p s r) → p < 9 * MAX_BYTES
fork_position p s r i = bit_below (first r) p (has_key r i.1 (first r) (has_first r)) (i.4 (first r) (has_first r))

forked_facts : (u : Bool) (p : ℕ) (e : Entry) (x : Subtrie) (t : Tree) → subtrie t ≡ subtrie_forked u p e x → IsTrie t → IsApart p x
forked_facts true p e x t is trie =
    let (s, r, z, a, b) = fork_parts t p x (Place e) is in
    let i : IsTrie (fork p s r) = subst IsTrie z trie in
    (fork_position p s r i, subst (FirstForkIsNot p) a (first_fork_is_not p false s i.0 i.3))
forked_facts false p e x t is trie =
    let (s, r, z, a, b) = fork_parts t p (Place e) x is in
    let i : IsTrie (fork p s r) = subst IsTrie z trie in
    (fork_position p s r i, subst (FirstForkIsNot p) b (first_fork_is_not p true r i.1 i.4))

pub grown_facts : (p : ℕ) (k : Key) (e : Entry) (x : Subtrie) (t : Tree) → subtrie t ≡ subtrie_grown p k e x → IsTrie t → IsApart p (subtrie_affected p k x)
grown_facts p k e (Place d) t is trie = forked_facts (bit k p) p e (Place d) t is trie
grown_facts p k e (Fork q x y) t is trie = go (nat_lt q p) (bit k q) (grown_facts p k e x) (grown_facts p k e y) is
  where
    go : (u o : Bool) → ((s : Tree) → subtrie s ≡ subtrie_grown p k e x → IsTrie s → IsApart p (subtrie_affected p k x)) →
        ((s : Tree) → subtrie s ≡ subtrie_grown p k e y → IsTrie s → IsApart p (subtrie_affected p k y)) →
        subtrie t ≡ (if u then (if o then Fork q x (subtrie_grown p k e y) else Fork q (subtrie_grown p k e x) y) else subtrie_forked (bit k p) p e (Fork q x y)) →
        IsApart p (if u then (if o then subtrie_affected p k y else subtrie_affected p k x) else Fork q x y)
    go true true f g is = let (s, r, z, a, b) = fork_parts t q x (subtrie_grown p k e y) is in g r b (let i : IsTrie (fork q s r) = subst IsTrie z trie in i.1)
    go true false f g is = let (s, r, z, a, b) = fork_parts t q (subtrie_grown p k e x) y is in f s a (let i : IsTrie (fork q s r) = subst IsTrie z trie in i.0)
    go false o f g is = forked_facts (bit k p) p e (Fork q x y) t is trie

-- the range of the new leaf's place
leaf_range : (k : Key) (p first last : ℕ) (e : Entry) (x : Subtrie) → AffectsJust k p first last x → IsSubtrieOfTree (subtrie_grown p k e x) → IsAffected x p first last
leaf_range k p first last e x a (t, is, trie, built) =
    let again = affected_again p x (spot k x) (spot_below k x) in
    let apart = grown_facts p k e x t is trie in
    record {
      from = ap (λ j. affected_first p j x) (sym a.from) ∙ (again.0 ∙ a.from);
      upto = ap (λ j. j + first) (ap (λ j. affected_count p j x) (sym a.from) ∙ again.1) ∙ a.upto;
      fresh = subst (λ j. IsFresh p j x) a.from ((key_part k p x).fresh apart.1);
    }

leaf_position : (k : Key) (p : ℕ) (e : Entry) (x : Subtrie) → IsSubtrieOfTree (subtrie_grown p k e x) → p < 9 * MAX_BYTES
leaf_position k p e x (t, is, trie, built) = (grown_facts p k e x t is trie).0

-- the leaf goes to the side of its bit at the position
pub leaf_subtrie : {k : Key} {p first last : ℕ} {x : Subtrie} {u : Bool} (e : Entry) → AffectsJust k p first last x → u ≡ bit_of k p → grown p u e first x ≡ subtrie_grown p k e x
unfolding bit
leaf_subtrie {k} {p} {first} {last} {x} {u} e affects is = ap (λ o. grown p o e first x) is ∙ (ap (λ j. grown p (bit k p) e j x) (sym affects.from) ∙ (key_part k p x).grows e)

-- ---- a fork in the place of an entry
-- the tree that the fork begins
pub record IsHung (q : ℕ) (a b : Subtrie) (t : Tree) : Type 0 where
  pub tree : Tree
  pub within : Within tree t
  pub is : subtrie tree ≡ Fork q a b

pub hung : (k : Key) (q : ℕ) (a b x : Subtrie) (t : Tree) → subtrie t ≡ with_subtrie k (Fork q a b) x → IsTrie t → IsHung q a b t × IsAbovePath q (spot k x) x
hung k q a b (Place e) t is trie = (record { tree = t; within = here; is = is }, tt)
hung k q a b (Fork f y z) t is trie = go (bit k f) (hung k q a b y) (hung k q a b z) is
  where
    below : {s : Tree} (h : IsHung q a b s) → (v : Tree) × (w : Tree) × Within (fork q v w) s
    below h = let (v, w, z, c, d) = fork_parts h.tree q a b h.is in (v, w, subst (λ y. Within y _) z h.within)

    go : (o : Bool) → ((s : Tree) → subtrie s ≡ with_subtrie k (Fork q a b) y → IsTrie s → IsHung q a b s × IsAbovePath q (spot k y) y) →
        ((s : Tree) → subtrie s ≡ with_subtrie k (Fork q a b) z → IsTrie s → IsHung q a b s × IsAbovePath q (spot k z) z) →
        subtrie t ≡ (if o then Fork f y (with_subtrie k (Fork q a b) z) else Fork f (with_subtrie k (Fork q a b) y) z) →
        IsHung q a b t × IsAbovePath q (if o then size y + spot k z else spot k y) (Fork f y z)
    go true g h is =
        let (s, r, e, c, d) = fork_parts t f y (with_subtrie k (Fork q a b) z) is in
        let i : IsTrie (fork f s r) = subst IsTrie e trie in
        let (u, path) = h r d i.1 in
        let (v, w, at) = below u in
        let low : f < q = rises true at i.1 (λ m n l o. i.2 m n (inr l) (inr o)) i.4 in
        (record { tree = u.tree; within = subst (Within u.tree) (sym e) (one_side u.within); is = u.is }, path_high q f y z (spot k z) low path)
    go false g h is =
        let (s, r, e, c, d) = fork_parts t f (with_subtrie k (Fork q a b) y) z is in
        let i : IsTrie (fork f s r) = subst IsTrie e trie in
        let (u, path) = g s c i.0 in
        let (v, w, at) = below u in
        let low : f < q = rises false at i.0 (λ m n l o. i.2 m n (inl l) (inl o)) i.3 in
        (record { tree = u.tree; within = subst (Within u.tree) (sym e) (zero_side u.within); is = u.is }, path_low q f y z (spot k y) (spot_below k y) low path)

-- what is owed for the fork in the entry's place
fork_is_pair : (k : Key) (q : ℕ) (z o : Entry) (x : Subtrie) → IsSubtrieOfTree (with_subtrie k (Fork q (Place z) (Place o)) x) → IsPairOf q z o × IsAbovePath q (spot k x) x
fork_is_pair k q z o x (t, is, trie, built) =
    let (h, path) = hung k q (Place z) (Place o) x t is trie in
    (pair_facts q z o h.tree h.is (trie_within h.within trie) (built_within h.within built), path)

-- what a fork owes at the place to which its key's search leads, and what it makes there
pub record FitsFork (new : NewFork) (i : ℕ) (x : Subtrie) : Type 0 where
  pub path : IsAbovePath new.position i x
  pub position : new.position < 65535
  pub zero : IsEntry new.zero
  pub one : IsEntry new.one
  pub makes : grafted i (Fork new.position (Place new.zero) (Place new.one)) x ≡ subtrie_with_fork new x

pub fits_fork : (new : NewFork) (i : ℕ) (x : Subtrie) → i ≡ leads_to (bit_of new.key.now) x → IsSubtrieOfTree (subtrie_with_fork new x) → FitsFork new i x
fits_fork new i x leads tree =
    let k = new.key.now in
    let r = Fork new.position (Place new.zero) (Place new.one) in
    let (f, path) = fork_is_pair k new.position new.zero new.one x tree in
    let is : i ≡ spot k x = leads ∙ leads_spot k x in
    let h = f.position in
    record {
      path = subst (λ j. IsAbovePath new.position j x) (sym is) path;
      position = omega arith;
      zero = f.zero;
      one = f.one;
      makes = ap (λ j. grafted j r x) is ∙ grafted_spot k r x;
    }

-- a leaf beside an entry
pub pair_is_lawful : (u : Bool) (q : ℕ) (new old : Entry) → IsSubtrieOfTree (subtrie_forked u q new (Place old)) → (q < 9 * MAX_BYTES) × IsEntry old
pair_is_lawful true q new old (t, is, trie, built) = let f = pair_facts q old new t is trie built in (f.position, f.zero)
pair_is_lawful false q new old (t, is, trie, built) = let f = pair_facts q new old t is trie built in (f.position, f.one)

-- ---- heights
pub greatest_under : (es : List Entry) (h : ℕ) → 0 < h → All (λ e. height_of e < h) es → greatest_height es < h
greatest_under [] h l a = l
greatest_under (e ∷ es) h l a = let x = a 0 e (omega arith) in let y = greatest_under es h l (λ i d o. a (suc i) d (omega arith)) in omega arith

-- the entries of a lawful node's subtrie are lower than it
pub entries_under : (v : NodeView) → IsLawfulNode v → greatest_height (places (piece v)) < v.height
entries_under v l = subst (λ es. greatest_height es < v.height) l.shows.entries_are (greatest_under v.entries v.height (height_positive v l) l.above)

greatest_forked : (u : Bool) (p : ℕ) (e : Entry) (x : Subtrie) → greatest_height (places (subtrie_forked u p e x)) ≤ max (height_of e) (greatest_height (places x))
greatest_forked true p e x = omega (arith, greatest-append (places x) (e ∷ []))
greatest_forked false p e x = omega arith

greatest_leaf : (p : ℕ) (k : Key) (e : Entry) (x : Subtrie) → greatest_height (places (subtrie_grown p k e x)) ≤ max (height_of e) (greatest_height (places x))
greatest_leaf p k e (Place d) = greatest_forked (bit k p) p e (Place d)
greatest_leaf p k e (Fork q x y) = go (nat_lt q p) (bit k q) (greatest_leaf p k e x) (greatest_leaf p k e y)
  where
    go : (u o : Bool) → greatest_height (places (subtrie_grown p k e x)) ≤ max (height_of e) (greatest_height (places x)) →
        greatest_height (places (subtrie_grown p k e y)) ≤ max (height_of e) (greatest_height (places y)) →
        greatest_height (places (if u then (if o then Fork q x (subtrie_grown p k e y) else Fork q (subtrie_grown p k e x) y) else subtrie_forked (bit k p) p e (Fork q x y))) ≤
        max (height_of e) (greatest_height (places x ++ places y))
    go true true f g = omega (arith, g, greatest-append (places x) (places y), greatest-append (places x) (places (subtrie_grown p k e y)))
    go true false f g = omega (arith, f, greatest-append (places x) (places y), greatest-append (places (subtrie_grown p k e x)) (places y))
    go false o f g = greatest_forked (bit k p) p e (Fork q x y)

-- all entries of the subtrie with a new leaf are lower than the node
pub leaf_low : (k : Key) (p n : ℕ) (v : NodeView) → IsLawfulNode v → greatest_height (places (subtrie_grown p k (Leaf n) (piece v))) < v.height
leaf_low k p n v l = omega (arith, greatest_leaf p k (Leaf n) (piece v), entries_under v l, height_positive v l)

-- a new leaf's range and position at a node
pub record FitsLeaf (k : Key) (p first last n : ℕ) (v : NodeView) : Type 0 where
  pub range : IsAffected (piece v) p first last
  pub position : p < 9 * MAX_BYTES

pub fits_leaf : {k : Key} {p first last : ℕ} {v : NodeView} (n : ℕ) → IsLawfulNode v → AffectsJust k p first last (piece v) → IsSubtrieOfTree (subtrie_grown p k (Leaf n) (piece v)) → FitsLeaf k p first last n v
fits_leaf {k} {p} {first} {last} {v} n l affects tree = record {
  range = leaf_range k p first last (Leaf n) (piece v) affects tree;
  position = leaf_position k p (Leaf n) (piece v) tree;
}

-- the entries that are affected, as the node tells them of the one to which the key's search leads
pub just_affected : {k : Key} {p took first last : ℕ} {x : Subtrie} → spot k x ≡ took → affected_first p took x ≡ first → affected_count p took x + first ≡ last + 1 → AffectsJust k p first last x
just_affected {k} {p} {took} {first} {last} {x} leads from upto = record {
  from = subst (λ j. affected_first p j x ≡ first) (sym leads) from;
  upto = subst (λ j. affected_count p j x + first ≡ last + 1) (sym leads) upto;
}

-- that one is an entry of the node
pub leads_within : (k : Key) {took : ℕ} (v : NodeView) → IsLawfulNode v → spot k (piece v) ≡ took → took < length v.entries
leads_within k v lawful leads = omega (arith, leads, spot_below k (piece v), size-piece v lawful)

-- so in words that can take it
pub growing_leaf : (words : List ℕ) (node : NodeView) (new : NewLeaf) (first last : ℕ) → AwaitsLeaf words node new → AffectsJust new.key.now new.position first last (piece node) → CanTakeLeaf node →
    CanGrowAt words node new.position first last
growing_leaf words node new first last takes affects can = record {
  has = takes.is.has;
  spells = takes.is.spells;
  takes = can;
  range = (fits_leaf new.number takes.is.has.lawful affects takes.tree).range;
}

-- the node that is read of the words is the one
pub takes_same : {words : List ℕ} {view : NodeView} → IsSpelledBy HasNodeWords node_words words view → (node : NodeView) (new : NewLeaf) → AwaitsLeaf words node new → view ≡ node
takes_same spelled node new takes = spelled.only node takes.is.has takes.is.spells

pub takes_read : {words : List ℕ} {view : NodeView} → IsSpelledBy HasNodeWords node_words words view → (node : NodeView) (new : NewLeaf) → AwaitsLeaf words node new → AwaitsLeaf words view new
takes_read {words} spelled node new takes = subst (λ v. AwaitsLeaf words v new) (sym (takes_same spelled node new takes)) takes

greatest_put : (k : Key) (r x : Subtrie) → greatest_height (places (with_subtrie k r x)) ≤ max (greatest_height (places r)) (greatest_height (places x))
greatest_put k r (Place d) = omega arith
greatest_put k r (Fork q x y) = go (bit k q) (greatest_put k r x) (greatest_put k r y)
  where
    go : (o : Bool) → greatest_height (places (with_subtrie k r x)) ≤ max (greatest_height (places r)) (greatest_height (places x)) →
        greatest_height (places (with_subtrie k r y)) ≤ max (greatest_height (places r)) (greatest_height (places y)) →
        greatest_height (places (if o then Fork q x (with_subtrie k r y) else Fork q (with_subtrie k r x) y)) ≤ max (greatest_height (places r)) (greatest_height (places x ++ places y))
    go true f g = omega (arith, g, greatest-append (places x) (places y), greatest-append (places x) (places (with_subtrie k r y)))
    go false f g = omega (arith, f, greatest-append (places x) (places y), greatest-append (places (with_subtrie k r x)) (places y))

-- a fork of entries that are low enough for a node leaves it as high
pub fork_low : (new : NewFork) (v : NodeView) → IsLawfulNode v → height_of new.zero < v.height → height_of new.one < v.height →
    greatest_height (places (subtrie_with_fork new (piece v))) < v.height
fork_low new v l z o = omega (arith, greatest_put new.key.now (Fork new.position (Place new.zero) (Place new.one)) (piece v), entries_under v l)

-- what is left of a node's words without the entry to which a key's search leads
pub left_subtrie : (k : Key) (v : NodeView) (at : ℕ) (words : List ℕ) (answer : Option Entry) → spot k (piece v) ≡ at → SpellLeft words answer (without at (piece v)) → SpellLeft words answer (subtrie_without k (piece v))
left_subtrie k v at words answer leads left = subst (SpellLeft words answer) (ap (λ j. without j (piece v)) (sym leads) ∙ without_spot k (piece v)) left

pub left_under : (k : Key) (v : NodeView) → IsLawfulNode v → greatest_height (places (subtrie_without k (piece v))) < v.height
left_under k v l = omega (arith, greatest_without k (piece v), entries_under v l)

-- a node that was built for a subtrie of lower entries
pub built_low : (v : NodeView) (part : Subtrie) (h : ℕ) → IsBuiltFrom v part → greatest_height (places part) < h → v.height ≤ h
built_low v part h i l = let e : greatest_height v.entries ≡ greatest_height (places part) = ap greatest_height i.lawful.shows.entries_are ∙ ap (λ x. greatest_height (places x)) i.shows_it in omega (arith, i.height_is)

pub half_low : (half : Half) (part : Subtrie) (h : ℕ) → HalfShows half part → greatest_height (places part) < h → IsLowHalf h half
half_low (One e) part h s l = let g = ap (λ x. greatest_height (places x)) s.0 in omega arith
half_low (Many v) part h s l = built_low v part h s l
half_low Same part h s l = tt

sides_low : (old : NodeView) (z o : Half) (a b : Subtrie) (h : ℕ) → SidesShow old z o a b → greatest_height (places a) < h → greatest_height (places b) < h → IsLowHalf h z × IsLowHalf h o
sides_low old (One e) (One f) a b h s l m = (half_low (One e) a h s.0 l, half_low (One f) b h s.1 m)
sides_low old (One e) (Many v) a b h s l m = (half_low (One e) a h s.0 l, half_low (Many v) b h s.1 m)
sides_low old (One e) Same a b h s l m = (half_low (One e) a h (s.0, s.2) l, tt)
sides_low old (Many v) (One e) a b h s l m = (half_low (Many v) a h s.0 l, half_low (One e) b h s.1 m)
sides_low old (Many v) (Many w) a b h s l m = (half_low (Many v) a h s.0 l, half_low (Many w) b h s.1 m)
sides_low old (Many v) Same a b h s l m = absurd s.1
sides_low old Same (One e) a b h s l m = (tt, half_low (One e) b h (s.1, s.2) m)
sides_low old Same (Many v) a b h s l m = absurd s.0
sides_low old Same Same a b h s l m = absurd s.0

pub grown_low : (old : NodeView) (g : Grown) (r : Subtrie) (h : ℕ) → GrownShows old g r → greatest_height (places r) < h → IsNoHigher h g
grown_low old (Whole v) r h s l = built_low v r h s l
grown_low old (Two cut) (Place e) h s l = elim s [ ]
grown_low old (Two cut) (Fork q a b) h s l =
    let g = greatest-append (places a) (places b) in
    sides_low old cut.zero cut.one a b h s.1 (omega arith) (omega arith)
