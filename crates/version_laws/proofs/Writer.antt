-- What a writer knows stays true under the steps of other passes.
pub mod AtHand
pub mod Hands
use Rattle.version_laws.proofs.Common.{◌≡◌, ℕ, ◌≤◌, Some, ap, sym, subst, le_trans, Key, Subtrie, NodeWords, Past, IsLawfulState, a_node, BareCore, pin_version, view, IsGrown, stands_grown, marked_grown, reach_later}
use Rattle.versions.specs.declared.Pin.{Pin}
use Rattle.version_laws.specs.Writer.{BeganAt, IsWayBelow, at_leaf, below, IsFoundBelow, Newcomer}

begun_grown : (a b : Past) → IsGrown a b → (m r : ℕ) (like : Key) (n : ℕ) → BeganAt a m r like n → BeganAt b m r like n
begun_grown a b g m r like n (o, x, d, e, lo, hi, st, h) = (o, x, d, e, lo, le_trans hi g.longer, stands_grown a b g o (a_node n) _ hi st, h)

pub way_grown : (a b : Past) → IsGrown a b → (m : ℕ) (k : Key) (x : Subtrie) (l : Key) → IsWayBelow a m k x l → IsWayBelow b m k x l
way_grown a b g m k x l (at_leaf j e f) = at_leaf j e (marked_grown a b g m (λ y. y ≡ l) _ f)
way_grown a b g m k x l (below n h r like e f i) = below n h r like e (begun_grown a b g m r like n f) i

pub found_kept : (c d : BareCore) (q : ℕ) (x : Newcomer) (n : ℕ) (pin : Pin) → IsLawfulState (view d) → IsGrown c.past d.past →
    d.lock n ≡ Some q → d.heap.nodes n ≡ c.heap.nodes n → d.pins q ≡ Some pin → pin.version ≤ x.since → IsFoundBelow c q x n → IsFoundBelow d q x n
found_kept c d q x n pin law grown lock words pinned lo found = record {
  key = found.key;
  reach = reach_later (view d) pin.version x.since lo (law.reach q pin.version (ap pin_version pinned));
  lock = lock;
  way = subst (λ z. IsWayBelow d.past x.since x.item.key z x.like) (ap (λ (w : NodeWords). w.subtrie) (sym words)) (way_grown c.past d.past grown x.since x.item.key _ x.like found.way);
  agree = found.agree;
  differ = found.differ;
}
