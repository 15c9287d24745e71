-- What a scan knows stays true while the past grows.
use Rattle.version_laws.proofs.Common.{◌⊎◌, inl, inr, ℕ, List, [], ◌∷◌, sym, ◌∙◌, le_trans, ⊎_elim, Key, Entry, Node, Subtrie, Tree, Past, IsHeldSince, IsKeptSince, Rec, a_node, a_leaf, IsGrown, Direction, stands_grown}
use Rattle.version_laws.specs.Scan.{Stood, IsRooted, IsPlaced, HadShapeSince, IsRead, MayStandAt, HadKeyBelow, Frame, IsStack, Pair, Range}
use Rattle.version_laws.specs.Directions.{MayStandBeforeFrames, HasPassed, ComesOnWay, Comes, IsScanBy}
use Rattle.version_laws.proofs.Directions.{every_map}

stood_on : (a b : Past) → IsGrown a b → (m r : ℕ) (t : Tree) → Stood a m r t → Stood b m r t
stood_on a b g m r t st = record {
  at = st.at;
  since = st.since;
  until = le_trans st.until g.longer;
  fixed = st.fixed;
  stands = stands_grown a b g st.at (a_node r) _ st.until st.stands;
}

pub rooted_grown : (a b : Past) → IsGrown a b → (m : ℕ) (e : Entry) → IsRooted a m e → IsRooted b m e
rooted_grown a b g m e (n, t, lo, hi, q, p) = (n, t, lo, le_trans hi g.longer, g.kept n hi ∙ q, p)

pub placed_grown : (a b : Past) → IsGrown a b → (m r j : ℕ) (e : Entry) → IsPlaced a m r j e → IsPlaced b m r j e
placed_grown a b g m r j e (t, st, lt, p) = (t, stood_on a b g m r t st, lt, p)

pub shaped_grown : (a b : Past) → IsGrown a b → (m r : ℕ) (p : Subtrie) → HadShapeSince a m r p → HadShapeSince b m r p
shaped_grown a b g m r p (t, st, e) = (t, stood_on a b g m r t st, e)

pub read_grown : (a b : Past) → IsGrown a b → (m r : ℕ) (k : Key) (v : ℕ) → IsRead a m r k v → IsRead b m r k v
read_grown a b g m r k v (n, lo, hi, st) = (n, lo, le_trans hi g.longer, stands_grown a b g n (a_leaf r) _ hi st)

pub may_stand_grown : (a b : Past) → IsGrown a b → (m r i : ℕ) (y : Key) → MayStandAt a m r i y → MayStandAt b m r i y
may_stand_grown a b g m r i y (t, k, st, u, f) = (t, k, stood_on a b g m r t st, u, f)

pub had_key_grown : (a b : Past) → IsGrown a b → (m : ℕ) (k : Key) (r : Rec) → HadKeyBelow a m k r → HadKeyBelow b m k r
had_key_grown a b g m k r (n, u, lo, hi, st, h) = (n, u, lo, le_trans hi g.longer, stands_grown a b g n r u hi st, h)

pub stack_grown : (a b : Past) → IsGrown a b → (m : ℕ) (fs : List Frame) → IsStack a m fs → IsStack b m fs
stack_grown a b g m [] h = h
stack_grown a b g m (f ∷ []) h = (rooted_grown a b g m (Node f.number f.height) h.0, shaped_grown a b g m f.number f.shape h.1)
stack_grown a b g m (f ∷ e ∷ fs) h = (
  placed_grown a b g m e.number e.place (Node f.number f.height) h.0,
  shaped_grown a b g m f.number f.shape h.1,
  stack_grown a b g m (e ∷ fs) h.2,
)

way_passed_on : (d : Direction) (a b : Past) → IsGrown a b → (m : ℕ) (k : Key) (fs : List Frame) → MayStandBeforeFrames d a m k fs → MayStandBeforeFrames d b m k fs
way_passed_on d a b g m k [] h = h
way_passed_on d a b g m k (f ∷ fs) (inl (j, passed, x)) = inl (j, passed, may_stand_grown a b g m f.number j k x)
way_passed_on d a b g m k (f ∷ fs) (inr x) = inr (way_passed_on d a b g m k fs x)

passed_on : (d : Direction) (a b : Past) → IsGrown a b → (m : ℕ) (k : Key) (fs : List Frame) → HasPassed d a m k fs → HasPassed d b m k fs
passed_on d a b g m k [] h = h
passed_on d a b g m k (f ∷ fs) (inl (j, passed, x)) = inl (j, passed, may_stand_grown a b g m f.number j k x)
passed_on d a b g m k (f ∷ fs) (inr x) = inr (way_passed_on d a b g m k fs x)

way_comes_on : (d : Direction) (a b : Past) → IsGrown a b → (m : ℕ) (k : Key) (fs : List Frame) → ComesOnWay d a m k fs → ComesOnWay d b m k fs
way_comes_on d a b g m k [] h = h
way_comes_on d a b g m k (f ∷ fs) (inl (x, come)) = inl (had_key_grown a b g m k (a_node f.number) x, come)
way_comes_on d a b g m k (f ∷ fs) (inr x) = inr (way_comes_on d a b g m k fs x)

comes_on : (d : Direction) (a b : Past) → IsGrown a b → (m : ℕ) (k : Key) (fs : List Frame) → Comes d a m k fs → Comes d b m k fs
comes_on d a b g m k [] h = h
comes_on d a b g m k (f ∷ fs) (inl (x, come)) = inl (had_key_grown a b g m k (a_node f.number) x, come)
comes_on d a b g m k (f ∷ fs) (inr x) = inr (way_comes_on d a b g m k fs x)

pub kept_before_growth : (a b : Past) → IsGrown a b → (m : ℕ) (k : Key) → IsKeptSince b m k → IsKeptSince a m k
kept_before_growth a b g m k h n lo hi = let o = h n lo (le_trans hi g.longer) in (o.0, sym (g.kept n hi) ∙ o.1, o.2)

pub held_grown : (a b : Past) → IsGrown a b → (m : ℕ) (k : Key) (v : ℕ) → IsHeldSince a m k v → IsHeldSince b m k v
held_grown a b g m k v (n, t, lo, hi, e, h) = (n, t, lo, le_trans hi g.longer, g.kept n hi ∙ e, h)

-- The scan's invariant is stable.
pub scan_grown : (a : Past) (m : ℕ) (x : Range) (d : Direction) (b : Past) (fs : List Frame) (xs : List Pair) → IsGrown a b → IsScanBy d a m x fs xs → IsScanBy d b m x fs xs
scan_grown a m x d b fs xs g w = record {
  stack = stack_grown a b g m fs w.stack;
  ordered = w.ordered;
  within = w.within;
  held = every_map (λ y. IsHeldSince a m y.key y.value) (λ y. IsHeldSince b m y.key y.value) xs (λ y h. held_grown a b g m y.key y.value h) w.held;
  passed = every_map (λ y. HasPassed d a m y.key fs) (λ y. HasPassed d b m y.key fs) xs (λ y h. passed_on d a b g m y.key fs h) w.passed;
  short = w.short;
  covered = λ k kept r. ⊎_elim (λ y. inl y) (λ y. inr (comes_on d a b g m k fs y)) (w.covered k (kept_before_growth a b g m k kept) r);
}
