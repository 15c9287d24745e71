-- The way of a search: what names its nodes; and what was found stays known while the pass goes on.
use Rattle.rowex_reading.proofs.Common.{◌≡◌, ℕ, zero, suc, ◌<◌, ◌≤◌, List, [], ◌∷◌, length, Option, Some, None, refl, ap, arith, subst, sym, slice_get, PathNode, some_injective, Entry, Node, size, Layout, Key, spot_below, Known, IsLater, EntryStoodSince, IsRooted, IsBlank, IsPlaced, HadShapeSince, IsRead}
use Rattle.rowex_reading.specs.Seen.{HasPlace}
use Rattle.rowex_reading.proofs.Seen.Led.{shape_place}
use Rattle.rowex_reading.proofs.Seen.{sure_later, since_later, seen_stable, rooted_stable, placed_stable, shaped_stable, read_stable, blank_stable}
use Rattle.rowex_reading.specs.Ways.{IsWayOf, IsWayNode, IsFoundAt, RootWas, end_of, named}
use Rattle.rowex_reading.specs.declared.descent.Found.{Found}
use Rattle.rowex_reading.specs.declared.descent.Found.TheVariants.{Nothing, Leaf}

-- what names a node of a way
pub named_at : (way : List PathNode) (found : Found) (i : ℕ) (s : PathNode) → slice_get way i ≡ Some s → named way found i ≡ Some (Node s.number s.height)
named_at [] found i s at = absurd (let z : None ≡ Some s = at in cc)
named_at (x ∷ way) found zero s at = ap (λ (z : PathNode). Some (Node z.number z.height)) (some_injective at)
named_at (x ∷ way) found (suc i) s at = named_at way found i s at

-- and what its search ended at
pub named_end : (way : List PathNode) (found : Found) (i : ℕ) → length way ≤ i → named way found i ≡ end_of found
named_end [] found i h = refl
named_end (x ∷ way) found zero h = absurd (omega arith)
named_end (x ∷ way) found (suc i) h = named_end way found i (omega arith)

module _ (layout : Layout) (k j : Known) (m : ℕ) (key : Key) (later : IsLater k j) where
  root_later : (e : Option Entry) → RootWas k m e → RootWas j m e
  root_later None h = sure_later {P = λ s. IsBlank s m} (blank_stable m) later h
  root_later (Some e) h = sure_later {P = λ s. IsRooted s m e} (rooted_stable m e) later h

  pub node_later : (s : PathNode) (e : Entry) → IsWayNode layout k m key s e → IsWayNode layout j m key s e
  node_later s e w = record {
    forks = w.forks;
    range = w.range;
    seen = sure_later {P = λ p. EntryStoodSince p m (Node s.number s.height)} (seen_stable m (Node s.number s.height)) later w.seen;
    shaped = sure_later {P = λ p. HadShapeSince p m s.number w.forks} (shaped_stable m s.number w.forks) later w.shaped;
    placed = sure_later {P = λ p. IsPlaced p m s.number s.slot e} (placed_stable m s.number s.slot e) later w.placed;
    at = w.at;
    below = w.below;
    count = w.count;
    room = w.room;
    first = w.first;
  }

  found_later : (found : Found) → IsFoundAt k m key found → IsFoundAt j m key found
  found_later Nothing h = h
  found_later (Leaf number value mismatch) (l, read, differ) = (l, sure_later {P = λ p. IsRead p m number l value} (read_stable m number l value) later read, differ)

-- what a search has found is known later on
pub way_later : (layout : Layout) (k j : Known) (m : ℕ) (key : Key) (way : List PathNode) (found : Found) → IsLater k j → IsWayOf layout k m key way found → IsWayOf layout j m key way found
way_later layout k j m key way found later w = record {
  is_key = w.is_key;
  since = since_later later w.since;
  root = root_later layout k j m key later (named way found 0) w.root;
  nodes = λ i s at. let (e, is, node) = w.nodes i s at in (e, is, node_later layout k j m key later s e node);
  found_at = found_later layout k j m key later found w.found_at;
  depth = w.depth;
}

-- each of its nodes has a place on the key's way
pub way_place : (layout : Layout) (k : Known) (m : ℕ) (key : Key) (way : List PathNode) (found : Found) → IsWayOf layout k m key way found → (i : ℕ) (s : PathNode) → slice_get way i ≡ Some s → HasPlace k m s.number s.height s.slot
way_place layout k m key way found w i s at =
    let node = (w.nodes i s at).2 in
    shape_place ((w.since, node.seen), node.shaped) (subst (λ z. z < size node.forks) (sym node.at) (spot_below key node.forks))
