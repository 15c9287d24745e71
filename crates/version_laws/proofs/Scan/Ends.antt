-- A scan of an empty map, or of one leaf; the depth of the way.
use Rattle.version_laws.proofs.Common.{◌≡◌, ◌⊎◌, inl, inr, ℕ, ◌+◌, ◌*◌, ◌<◌, ◌≤◌, List, [], ◌∷◌, length, sym, ◌∙◌, subst, arith, IsAtMost, Key, IsBefore, node, subtrie, IsBuilt, Entry, Leaf, Node, Place, Past, IsKeptSince, IsSameRecord, KeepsFixedWordsSince, a_node, height_of, entry_at, Direction, built_within, some_height, none-some}
use Rattle.key_bits.specs.declared.TheConstants.{MAX_BYTES}
use Rattle.version_laws.specs.Scan.{IsRooted, IsPlaced, IsRead, EntryStoodSince, IsBlank, Frame, IsStack, Range, IsInRange}
use Rattle.version_laws.specs.Directions.{IsComplete, IsCut}
use Rattle.version_laws.proofs.Scan.{node_of, root_had_key, leaf_had_key, read_held, before_most, never_before, place_same}
use Rattle.version_laws.proofs.Scan.Loads.{lower_at, subtrie_at, rooted_seen, placed_seen, fixed_height}

-- The height of the lowest frame: that of the root's node.
abbrev pub top_height : ℕ → List Frame → ℕ
top_height h [] = h
top_height h (f ∷ fs) = top_height f.height fs

-- A scan that takes nothing because no key of the range was there all the time.
nothing : (d : Direction) (s : Past) (m : ℕ) (g : Range) → ((k : Key) → IsKeptSince s m k → IsInRange g k → ⊥) → IsComplete d s m g []
nothing d s m g none = record { ordered = tt; within = tt; held = tt; short = omega arith; covered = λ k kept r. absurd (none k kept r) }

module _ (s : Past) (m : ℕ) (g : Range) where
  -- Nothing is between the keys.
  pub none_between : (d : Direction) → IsBefore g.upto g.from → IsComplete d s m g []
  none_between d low = nothing d s m g (λ k kept r. never_before g.upto k (before_most g.upto g.from k low r.0) r.1)

  -- The root is None.
  pub answer_blank : (d : Direction) → IsBlank s m → IsComplete d s m g []
  answer_blank d (n, lo, hi, e) = nothing d s m g (λ k kept r. let o = kept n lo hi in none-some o.0 (sym e ∙ o.1))

  -- The limit is 0.
  pub answer_nought : (d : Direction) (n : ℕ) (l : Key) (v : ℕ) → IsRead s m n l v → IsInRange g l → g.limit ≡ 0 → IsCut d s m g []
  answer_nought d n l v is r full = record {
    ordered = tt;
    within = tt;
    held = tt;
    full = sym full;
    further = (l, v, r, read_held s m n l v is, tt);
    covered = λ k kept q u. absurd u;
  }

  module _ (law : KeepsFixedWordsSince s m) where
    -- The root is a leaf in the range.
    pub answer_one : (d : Direction) (n : ℕ) (l : Key) (v : ℕ) → IsRooted s m (Leaf n) → IsRead s m n l v → IsInRange g l → 0 < g.limit →
        IsComplete d s m g (record { key = l; value = v } ∷ [])
    answer_one d n l v root is r room = record {
      ordered = (tt, tt);
      within = (r, tt);
      held = (read_held s m n l v is, tt);
      short = omega (arith, room);
      covered = λ k kept q. inl (leaf_had_key s m law n k l v (root_had_key s m k kept (Leaf n) root) is);
    }

    -- It is out of the range.
    pub answer_outside : (d : Direction) (n : ℕ) (l : Key) (v : ℕ) → IsRooted s m (Leaf n) → IsRead s m n l v → IsBefore l g.from ⊎ IsBefore g.upto l → IsComplete d s m g []
    answer_outside d n l v root is out = nothing d s m g (λ k kept r. go k r (leaf_had_key s m law n k l v (root_had_key s m k kept (Leaf n) root) is) out)
      where
        go : (k : Key) → IsInRange g k → k ≡ l → IsBefore l g.from ⊎ IsBefore g.upto l → ⊥
        go k q e (inl y) = never_before l g.from y (subst (λ z. IsAtMost g.from z) e q.0)
        go k q e (inr y) = never_before g.upto l y (subst (λ z. IsAtMost z g.upto) e q.1)

-- The heights fall along the way.
pub placed_falls : (s : Past) (m : ℕ) → KeepsFixedWordsSince s m → (r h j : ℕ) (e : Entry) → EntryStoodSince s m (Node r h) → IsPlaced s m r j e → height_of e < h
placed_falls s m law r h j e (n, u, lo, hi, sn, pg) (b, st, lt, pe) =
    let o = node_of r h u pg in
    let same : IsSameRecord (node r st.fixed b) u = law.same (a_node r) st.at n (node r st.fixed b) u st.since st.until lo hi st.stands sn in
    let q : st.fixed ≡ o.0 = (subst (λ z. IsSameRecord (node r st.fixed b) z) o.2 same).0 in
    let built : IsBuilt (node r st.fixed b) = built_within st.stands.within (law.trees st.at st.stands.tree st.until st.stands.is_version).1 in
    let f : Place (entry_at (subtrie b) j) ≡ Place e = sym (subtrie_at b j lt) ∙ pe in
    subst (λ z. height_of z < h) (place_same f) (subst (λ z. height_of (entry_at (subtrie b) j) < z) (fixed_height q ∙ o.3) (lower_at st.fixed.height b j built.1))

pub stack_seen : (s : Past) (m : ℕ) (f : Frame) (fs : List Frame) → IsStack s m (f ∷ fs) → EntryStoodSince s m (Node f.number f.height)
stack_seen s m f [] h = rooted_seen s m (Node f.number f.height) h.0
stack_seen s m f (g ∷ gs) h = placed_seen s m g.number g.place (Node f.number f.height) h.0

-- So the way is no longer than the root's node is high.
pub stack_depth : (s : Past) (m : ℕ) → KeepsFixedWordsSince s m → (f : Frame) (fs : List Frame) → IsStack s m (f ∷ fs) → length fs + f.height ≤ top_height f.height fs
stack_depth s m law f [] h = omega arith
stack_depth s m law f (g ∷ gs) h =
    let a = stack_depth s m law g gs h.2 in
    let b : f.height < g.height = placed_falls s m law g.number g.height g.place (Node f.number f.height) (stack_seen s m g gs h.2) h.0 in
    omega arith

-- Each node on it is higher than nothing.
pub stack_high : (s : Past) (m : ℕ) → KeepsFixedWordsSince s m → (f : Frame) (fs : List Frame) → IsStack s m (f ∷ fs) → 0 < f.height
stack_high s m law f fs h = go (stack_seen s m f fs h)
  where
    go : EntryStoodSince s m (Node f.number f.height) → 0 < f.height
    go (n, u, lo, hi, st, pg) =
        let o = node_of f.number f.height u pg in
        let built : IsBuilt (node f.number o.0 o.1) = subst IsBuilt o.2 (built_within st.within (law.trees n st.tree hi st.is_version).1) in
        subst (λ z. 0 < z) o.3 (some_height o.0.height o.1 built.1)

-- And that is as high as a tree can be.
pub stack_low : (s : Past) (m : ℕ) → KeepsFixedWordsSince s m → (f : Frame) (fs : List Frame) → IsStack s m (f ∷ fs) → top_height f.height fs ≤ 9 * MAX_BYTES
stack_low s m law f [] ((n, t, lo, hi, is, pg), shape) =
    let o = node_of f.number f.height t pg in
    let built : IsBuilt (node f.number o.0 o.1) = subst IsBuilt o.2 (law.trees n t hi is).1 in
    let fit = built.3.bound in let high = o.3 in omega (arith, fit, high)
stack_low s m law f (g ∷ gs) h = stack_low s m law g gs h.2
