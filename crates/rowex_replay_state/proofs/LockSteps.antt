-- The steps that lock and unlock nodes.
use Rattle.rowex_replay_state.proofs.Common.{◌≡◌, ◌≢◌, ℕ, Option, Some, None, eq-eqb, ne_eqb, a_node, Lock, Unlock, Core, IsLawful, LegalAct, after, IsInTree, with_lock}
use Rattle.rowex_core.specs.declared.event.Target.TheVariants.{Node as NodeTarget}
use Rattle.rowex_replay_state.specs.declared.fate.Fate.TheVariants.{InTree as IsPutChange}
use Rattle.rowex_replay_state.specs.Records.{RecordsView, HasState, fate_in, lock_in, with_lock_in}
use Rattle.rowex_replay_state.specs.States.{StateView, IsStateOf}
use Rattle.rowex_replay_state.proofs.Tables as table
use Rattle.rowex_replay_state.proofs.States.{state_from, fate_at, tree_from, with_records_is}

pub lock_is : (s : StateView) (c : Core) → IsStateOf s c → (n : ℕ) (o : Option ℕ) → IsStateOf (record s { records = with_lock_in s.records n o }) (record c { shared = with_lock c.shared n o })
lock_is s c h n o = with_records_is s c h (with_lock_in s.records n o) c.words c.fate _ (table.lock_set s.records c.layout c.words c.fate c.lock h.records n o)

-- the node is in the tree of records that are stored
abbrev pub IsTreeNode : RecordsView → ℕ → Type 0
IsTreeNode s n = (since : ℕ) × (fate_in s (a_node n) ≡ Some (IsPutChange since))

tree_at : (s : StateView) (c : Core) → IsStateOf s c → (n : ℕ) → IsTreeNode s.records n → IsInTree c n
tree_at s c h n (since, e) = (since, (fate_at s c h (a_node n) (IsPutChange since) e).1)

pub node_locks : (s : StateView) (q n w : ℕ) → HasState s.records (a_node n) w → w ≡ 2 → IsTreeNode s.records n → (c : Core) → ∥ IsLawful c ∥₁ → IsStateOf s c →
    LegalAct c q (Lock (NodeTarget n) w) × IsStateOf (record s { records = with_lock_in s.records n (Some q) }) (after c q (Lock (NodeTarget n) w))
node_locks s q n w has two tree c lawful h =
    let x = state_from s c h (a_node n) w has in
    ((x.0, x.1, λ _. tree_at s c h n tree), rw (eq-eqb w 2 two) (lock_is s c h n (Some q)))

pub node_stays : (s : StateView) (q n w : ℕ) → HasState s.records (a_node n) w → w ≢ 2 → (c : Core) → ∥ IsLawful c ∥₁ → IsStateOf s c →
    LegalAct c q (Lock (NodeTarget n) w) × IsStateOf s (after c q (Lock (NodeTarget n) w))
node_stays s q n w has ne c lawful h =
    let x = state_from s c h (a_node n) w has in
    ((x.0, x.1, λ e. absurd (ne e)), rw (ne_eqb w 2 ne) h)

pub node_unlocks : (s : StateView) (q n : ℕ) → lock_in s.records (a_node n) ≡ Some (Some q) → IsTreeNode s.records n → (c : Core) → ∥ IsLawful c ∥₁ → IsStateOf s c →
    LegalAct c q (Unlock (NodeTarget n)) × IsStateOf (record s { records = with_lock_in s.records n None }) (after c q (Unlock (NodeTarget n)))
node_unlocks s q n own (since, e) c lawful h =
    (((fate_at s c h (a_node n) (IsPutChange since) e).0, h.records.locks_are n (Some q) own, tree_at s c h n (since, e)), lock_is s c h n None)

pub node_gone : (s : StateView) (q n : ℕ) → ¬ (IsTreeNode s.records n) → (c : Core) → IsLawful c → IsStateOf s c → ¬ (LegalAct c q (Unlock (NodeTarget n)))
node_gone s q n fails c lawful h (there, is, (since, e)) = fails (since, tree_from s c h n since there e)
