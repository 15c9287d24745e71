-- What is told of the number of a located record is told of the number by which it was located, and the other way round.
use Rattle.rowex_reading.proofs.Common.{◌≡◌, ℕ, ◌<◌, List, ap, subst, sym, HeadView, height_of, Entry, Leaf, Node, PathNode, Key, spot, Subtrie, Rec, a_leaf, a_node, IsPlaced, IsRead, HadShapeSince, Known, record_number}
use Rattle.rowex_reading.specs.Seen.{AreHeadWords, HasPlace, IsHeadSeen, IsLedTo, Sure, shape_of}
use Rattle.rowex_reading.specs.Ways.{step_at}

-- what a search of the head of node n tells, a load of its entry, and the loads of leaf n
abbrev pub TellsSlot : Known → Known → Key → ℕ → ℕ → Type 0
TellsSlot k j key slot n = (m h : ℕ) → IsLedTo k m (Node n h) → (forks : Subtrie) × Sure j (λ s. HadShapeSince s m n forks) × (slot ≡ spot key forks)

abbrev pub TellsStep : Known → Known → Key → PathNode → ℕ → Type 0
TellsStep k j key step n = (m h : ℕ) → IsLedTo k m (Node n h) → (head : HeadView) × IsHeadSeen j m n h head × (step ≡ step_at head n (spot key (shape_of head)))

abbrev pub TellsEntry : Known → Known → ℕ → Entry → ℕ → Type 0
TellsEntry k j slot e n = (m h : ℕ) → HasPlace k m n h slot → (height_of e < h) × Sure j (λ s. IsPlaced s m n slot e)

abbrev pub TellsLeaf : Known → Known → Key → ℕ → ℕ → Type 0
TellsLeaf k j key value n = (m : ℕ) → IsLedTo k m (Leaf n) → Sure j (λ s. IsRead s m n key value)

module _ (n : ℕ) (r : Rec) (is : r ≡ a_node n) where
  number_is : record_number r ≡ n
  number_is = ap record_number is

  pub node_led : (k : Known) (m h : ℕ) → IsLedTo k m (Node n h) → IsLedTo k m (Node (record_number r) h)
  node_led k m h led = subst (λ q. IsLedTo k m (Node q h)) (sym number_is) led

  pub node_place : (k : Known) (m h slot : ℕ) → HasPlace k m n h slot → HasPlace k m (record_number r) h slot
  node_place k m h slot has = subst (λ q. HasPlace k m q h slot) (sym number_is) has

  pub words_told : (k : Known) (m h : ℕ) (words : List ℕ) → AreHeadWords k m (record_number r) h words → AreHeadWords k m n h words
  words_told k m h words told = subst (λ q. AreHeadWords k m q h words) number_is told

  pub slot_told : (k j : Known) (key : Key) (slot : ℕ) → TellsSlot k j key slot (record_number r) → TellsSlot k j key slot n
  slot_told k j key slot told = subst (TellsSlot k j key slot) number_is told

  pub step_told : (k j : Known) (key : Key) (step : PathNode) → TellsStep k j key step (record_number r) → TellsStep k j key step n
  step_told k j key step told = subst (TellsStep k j key step) number_is told

  pub entry_told : (k j : Known) (slot : ℕ) (e : Entry) → TellsEntry k j slot e (record_number r) → TellsEntry k j slot e n
  entry_told k j slot e told = subst (TellsEntry k j slot e) number_is told

module _ (n : ℕ) (r : Rec) (is : r ≡ a_leaf n) where
  pub leaf_led : (k : Known) (m : ℕ) → IsLedTo k m (Leaf n) → IsLedTo k m (Leaf (record_number r))
  leaf_led k m led = subst (λ q. IsLedTo k m (Leaf q)) (sym (ap record_number is)) led

  pub leaf_told : (k j : Known) (key : Key) (value : ℕ) → TellsLeaf k j key value (record_number r) → TellsLeaf k j key value n
  leaf_told k j key value told = subst (TellsLeaf k j key value) (ap record_number is) told
