-- A node's forks that were read twice, and the places that they have.
use Rattle.rowex_reading.proofs.Common.{◌≡◌, ℕ, ◌<◌, length, subst, sym, ◌∙◌, HeadView, node_of, leaves, IsLawfulNode, same_count, size, Layout, size-piece, Subtrie, Known, IsPinnedSince, recalls, HadShapeSince, shaped}
use Rattle.rowex_reading.specs.Possible.{IsPossible}
use Rattle.rowex_reading.specs.Seen.{HasPlace, HasMorePlaces, Sure, seen, shape_of}
use Rattle.rowex_reading.proofs.Seen.{seen_steady}

-- forks that were read twice
pub same_shape : (layout : Layout) (k : Known) (m n : ℕ) (x y : Subtrie) → IsPossible layout k → IsPinnedSince k m → Sure k (λ past. HadShapeSince past m n x) → Sure k (λ past. HadShapeSince past m n y) → x ≡ y
same_shape layout k m n x y possible since one two =
    let c = possible.core in
    let known = recalls c k possible.knows in
    let a = one c possible.lawful known in
    sym a.2 ∙ shaped (seen c k) m (seen_steady possible.lawful known since) n y a.0 (two c possible.lawful known) a.1

-- a head has as many rows as its forks have places
pub rows_are : (head : HeadView) → IsLawfulNode (node_of head (leaves (length head.rows))) → length head.rows ≡ size (shape_of head)
rows_are head lawful = let v = node_of head (leaves (length head.rows)) in same_count v lawful ∙ sym (size-piece v lawful)

-- the forks that were read of a node have the place that it has
pub place_inside : (layout : Layout) (k : Known) (m n h i : ℕ) (x : Subtrie) → IsPossible layout k → HasPlace k m n h i → Sure k (λ past. HadShapeSince past m n x) → i < size x
place_inside layout k m n h i x possible has shape_read =
    let c = possible.core in
    let known = recalls c k possible.knows in
    let room : HasMorePlaces (seen c k) m n i = has.1 c possible.lawful known in
    let same : room.0 ≡ x = sym room.1.2 ∙ shaped (seen c k) m (seen_steady possible.lawful known has.0.0) n x room.1.0 (shape_read c possible.lawful known) room.1.1 in
    subst (λ z. i < size z) same room.2
