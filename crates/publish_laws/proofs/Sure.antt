-- What a pass is sure of.
use Rattle.std.specs.Prelude.{List}
use Rattle.publish_laws.proofs.Common.{◌≡◌, ℕ, ◌+◌, length, refl, ap, ◌∙◌, arith, length-append, Locked, Key, Entry, Subtrie, first_position, Node, Leaf, EntryStoodSince, HadShapeSince, IsPlaced, IsRead, Past, IsReach, KeepsFixedWordsSince, pin_version, IsWayBelow, Newcomer, Known, node_words_of, Core, IsLawful, Recalls, IsPinnedSince, IsLater, view, recalls_before}
use Rattle.publish_laws.specs.Rises.{HasFoundBelow}
use Rattle.version_laws.specs.Ways.{IsOnWay, IsWayFrom}
use Rattle.versions.specs.Frames.{IsGrown}
use Rattle.versions.proofs.State.{steady}
use Rattle.version_laws.proofs.Ways.{way_begins, way_goes_on, way_ends, way_is_below}
use Rattle.publish_laws.specs.Stages.{IsSure}
use Rattle.publish_laws.specs.Sure.{DescentFinds}

-- what stood since a pass's pin is still in that life, in each core in which it recalls its pin
pub reach_since : (k : Known) (m : ℕ) → IsPinnedSince k m → (c : Core) → IsLawful c → Recalls c k → IsReach (view c) m
reach_since k m (pin, pinned, early) c law recalls n le = law.core.state.reach k.pass pin.version (ap pin_version (recalls.pin ∙ pinned)) n (omega arith)

steady_since : (k : Known) (m : ℕ) → IsPinnedSince k m → (c : Core) → IsLawful c → Recalls c k → KeepsFixedWordsSince c.past m
steady_since k m since c law recalls = steady (view c) law.core.state m (reach_since k m since c law recalls)

-- What holds of the versions that a pass has seen, in each lawful core in which what it recalls is true, and holds of each longer past
-- then, it is sure of.
pub seen_is_sure : (k : Known) (P : Past → Type 0) → ((a b : Past) → IsGrown a b → P a → P b) →
    ((c : Core) → IsLawful c → Recalls c k → P (record { now = length k.front; version = c.past.version })) → IsSure k P
seen_is_sure k P stable seen c law recalls =
    let (more, is, others) = recalls.front in
    let count : length c.changes ≡ length k.front + length more = ap length is ∙ length-append k.front more in
    let told = law.core.told.count in
    stable (record { now = length k.front; version = c.past.version }) c.past (record { longer = omega arith; kept = λ n low. refl }) (seen c law recalls)

-- What it was sure of it still is, while it goes on.
pub sure_stays : (k j : Known) (P : Past → Type 0) → IsLater k j → IsSure k P → IsSure j P
sure_stays k j P later sure c law recalls = sure c law (recalls_before later recalls)

-- A pass's descent below its lock begins at a node to which it was led,
pub descent_begins : (k : Known) (m a h r : ℕ) (x : Subtrie) → IsPinnedSince k m → IsSure k (λ s. EntryStoodSince s m (Node a h)) → IsSure k (λ s. HadShapeSince s m a x) → first_position x ≡ r →
    IsSure k (λ s. IsOnWay s m r a (Node a h))
descent_begins k m a h r x since led shaped first c law recalls = way_begins c.past m (steady_since k m since c law recalls) a h r x (led c law recalls) (shaped c law recalls) first

-- goes on by each entry that it has read,
pub descent_goes_on : (k : Known) (m r a n h j : ℕ) (e : Entry) → IsPinnedSince k m → IsSure k (λ s. IsOnWay s m r a (Node n h)) → IsSure k (λ s. IsPlaced s m n j e) →
    IsSure k (λ s. IsOnWay s m r a e)
descent_goes_on k m r a n h j e since way placed c law recalls = way_goes_on c.past m (steady_since k m since c law recalls) r a n h j e (way c law recalls) (placed c law recalls)

-- and ends at a leaf that it has read.
pub descent_ends : (k : Known) (m r a h j : ℕ) (l : Key) (v : ℕ) → IsPinnedSince k m → IsSure k (λ s. IsOnWay s m r a (Leaf j)) → IsSure k (λ s. IsRead s m j l v) →
    IsSure k (λ s. IsWayFrom s m l (Node a h))
descent_ends k m r a h j l v since way read c law recalls = way_ends c.past m (steady_since k m since c law recalls) r a h j l v (way c law recalls) (read c law recalls)

pub descent_finds : DescentFinds
descent_finds k held x n words spelled pinned locked way agree differ = record {
  leaf = spelled;
  pinned = pinned;
  locked = locked;
  way = λ c law recalls. way_is_below c.past x.since x.item.key (node_words_of words).subtrie x.like (way c law recalls);
  agree = agree;
  differ = differ;
}

-- What it has found stays found, while the pass goes on.
pub found_stays : (k j : Known) (held : List Locked) (x : Newcomer) (n : ℕ) (words : List ℕ) → IsLater k j →
    HasFoundBelow k held x n words → HasFoundBelow j held x n words
found_stays k j held x n words later f = record {
  leaf = f.leaf;
  pinned = (f.pinned.0, later.pin ∙ f.pinned.1, f.pinned.2);
  locked = f.locked;
  way = sure_stays k j (λ s. IsWayBelow s x.since x.item.key (node_words_of words).subtrie x.like) later f.way;
  agree = f.agree;
  differ = f.differ;
}
