-- What a pass has read of a node's forks is what the words under its lock show.
use Rattle.rowex_writing.proofs.Common.{◌≡◌, ℕ, ◌+◌, ◌-◌, ◌≤◌, List, refl, ap, sym, ◌∙◌, subst, le_refl, le_trans, Entry, Node, PathNode, Place, Fork, size, affected_first, affected_count, Layout, Key, shape, spot, Subtrie, Tree, Fixed, node, subtrie, first_position, shape_tips, spot_shape, a_node, NodeWords, Past, Stands, KeepsFixedWordsSince, all_of, Known, bare, IsPinnedSince, node_words_of, IsLocked, knows_all, recalls, EntryStoodSince, HadShapeSince, shaped, node_named, first_shape, IsPossible, seen, Sure, seen_past, seen_stable, shaped_stable, reach_since, steady, IsWayNode, view}
use Rattle.versions.proofs.Core.Growth.{in_tree_now}
use Rattle.rowex_writing.specs.locks.Going.{HasLocked}
use Rattle.rowex_writing.specs.plan.Planned.{AffectsJust}

-- A node that stands now has the forks and the height of before.
now_shaped : (s : Past) (m n h : ℕ) (x : Subtrie) (w : NodeWords) (b : Tree) → KeepsFixedWordsSince s m → m ≤ s.now → EntryStoodSince s m (Node n h) → HadShapeSince s m n x →
    Stands s s.now (a_node n) (node n w.fixed b) → subtrie b ≡ w.subtrie → (shape w.subtrie ≡ x) × (w.fixed.height ≡ h)
now_shaped s m n h x w b steady low (o, u, lo, hi, st, pg) shape_is now same_subtrie =
    let (y, d, is, high) = node_named n h u pg in
    let before : Stands s o (a_node n) (node n y d) = subst (λ z. Stands s o (a_node n) z) is st in
    let same = steady.same (a_node n) o s.now (node n y d) (node n w.fixed b) lo hi low (le_refl s.now) before now in (
      ap shape (sym same_subtrie) ∙ shaped s m steady n x b shape_is (record { at = s.now; since = low; until = le_refl s.now; fixed = w.fixed; stands = now }),
      ap (λ (z : Fixed). z.height) (sym same.0) ∙ high,
    )

-- of a node to which the pass was led since its pin
pub locked_shape : (layout : Layout) (k : Known) (m n h : ℕ) (x : Subtrie) (words : List ℕ) → IsPossible layout k → IsPinnedSince k m → Sure k (λ past. EntryStoodSince past m (Node n h)) →
    Sure k (λ past. HadShapeSince past m n x) → HasLocked k n words → (shape (node_words_of words).subtrie ≡ x) × ((node_words_of words).fixed.height ≡ h)
locked_shape layout k m n h x words possible since sees shape_is locked =
    let c = possible.core in
    let law = possible.lawful in
    let known = recalls c k possible.knows in
    let grown = seen_past law known in
    let there = seen_stable m (Node n h) (seen c k) c.past grown (sees c law known) in
    let (lock, (f, in_tree), same) = all_of (IsLocked k.pass c) (record { node = n; words = words }) k.locks (knows_all c k possible.knows).locks locked in
    let (b, now, subtrie_is) = in_tree_now (bare c) law.core.state n f in_tree in
    subst (λ ws. (shape (node_words_of ws).subtrie ≡ x) × ((node_words_of ws).fixed.height ≡ h)) same
    (now_shaped c.past m n h x (node_words_of (c.words (a_node n))) b (steady (view c) law.core.state m (reach_since k m since c law known)) (le_trans there.2 there.3) there
    (shaped_stable m n x (seen c k) c.past grown (shape_is c law known)) now subtrie_is)

-- ---- a subtrie, and forks that were read of it

pub shape_size : (x forks : Subtrie) → shape x ≡ forks → size x ≡ size forks
shape_size x forks e = sym (shape_tips x) ∙ ap size e

pub shape_spot : (key : Key) (x forks : Subtrie) → shape x ≡ forks → spot key x ≡ spot key forks
shape_spot key x forks e = sym (spot_shape key x) ∙ ap (spot key) e

pub shape_first : (x forks : Subtrie) → shape x ≡ forks → first_position x ≡ first_position forks
shape_first x forks e = sym (first_shape x) ∙ ap first_position e

affected_from_shape : (p i : ℕ) (x : Subtrie) → affected_first p i (shape x) ≡ affected_first p i x
affected_from_shape p i (Place e) = refl
affected_from_shape p i (Fork q a b) = rw (shape_tips a, affected_from_shape p i a, affected_from_shape p (i - size a) b) refl

affected_count_shape : (p i : ℕ) (x : Subtrie) → affected_count p i (shape x) ≡ affected_count p i x
affected_count_shape p i (Place e) = refl
affected_count_shape p i (Fork q a b) = rw (shape_tips a, shape_tips b, affected_count_shape p i a, affected_count_shape p (i - size a) b) refl

-- an insertion affects the same entries of both
pub shape_affects : (key : Key) (p first last : ℕ) (x forks : Subtrie) → shape x ≡ forks → AffectsJust key p first last forks → AffectsJust key p first last x
shape_affects key p first last x forks e a = record {
  from = same affected_first (affected_from_shape p) ∙ a.from;
  upto = ap (λ z. z + first) (same affected_count (affected_count_shape p)) ∙ a.upto;
}
  where
    same : (f : ℕ → ℕ → Subtrie → ℕ) → ((i : ℕ) (z : Subtrie) → f p i (shape z) ≡ f p i z) → f p (spot key x) x ≡ f p (spot key forks) forks
    same f g = ap (λ i. f p i x) (shape_spot key x forks e) ∙ (sym (g (spot key forks) x) ∙ ap (f p (spot key forks)) e)

-- ---- a locked node of a way

-- What the words under the lock of a way's node show: the forks that were read, and so what its step says.
pub record IsStepOf (key : Key) (s : PathNode) (forks : Subtrie) (w : NodeWords) : Type 0 where
  pub forks_are : shape w.subtrie ≡ forks
  pub height : w.fixed.height ≡ s.height
  pub count : size w.subtrie ≡ s.count
  pub first : first_position w.subtrie ≡ s.first_position
  pub at : spot key w.subtrie ≡ s.slot
  pub room : size w.subtrie ≤ 32

pub way_node_locked : (layout : Layout) (k : Known) (m : ℕ) (key : Key) (s : PathNode) (e : Entry) (words : List ℕ) → IsPossible layout k → IsPinnedSince k m →
    (is : IsWayNode layout k m key s e) → HasLocked k s.number words → IsStepOf key s is.forks (node_words_of words)
way_node_locked layout k m key s e words possible since is locked =
    let (same, high) = locked_shape layout k m s.number s.height is.forks words possible since is.seen is.shaped locked in
    let all = shape_size (node_words_of words).subtrie is.forks same in
    record {
      forks_are = same;
      height = high;
      count = all ∙ sym is.count;
      first = shape_first (node_words_of words).subtrie is.forks same ∙ sym is.first;
      at = shape_spot key (node_words_of words).subtrie is.forks same ∙ sym is.at;
      room = subst (λ z. z ≤ 32) (sym all) is.room;
    }
