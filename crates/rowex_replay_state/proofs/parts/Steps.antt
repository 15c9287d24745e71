-- How many steps reading a part takes at most: the depth of its forks, and for each entry the depth of the nodes below.
use Rattle.rowex_replay_state.proofs.Common.{◌≡◌, ℕ, ◌+◌, ◌-◌, ◌*◌, ◌<◌, ◌≤◌, length, max, refl, ap, ap₂, sym, ◌∙◌, subst, arith, All, NodeView, height_of, piece, IsLawfulNode, HalfShows, CutShows, Leaf, Node, Cut, Place, Fork, size, places, size_pos, length-places, Subtrie}
use Rattle.compound_node.specs.declared.halves.Half.{Half}
use Rattle.compound_node.specs.declared.halves.Half.TheVariants.{One, Many, Same}
use Rattle.rowex_replay_state.proofs.parts.Lists.{all_parts}

abbrev pub steps : Subtrie → ℕ
steps (Place e) = 1 + 100 * height_of e
steps (Fork p x y) = 1 + max (steps x) (steps y)

abbrev pub half_steps : Half → ℕ
half_steps (One e) = steps (Place e)
half_steps (Many view) = steps (piece view)
half_steps Same = 0

half_steps_are : (h : Half) (p : Subtrie) → HalfShows h p → half_steps h ≡ steps p
half_steps_are (One e) p s = ap steps (sym s.0)
half_steps_are (Many view) p s = ap steps s.shows_it
half_steps_are Same p s = elim s [ ]

-- A cut has the steps of its piece.
pub cut_steps : (cut : Cut) (p : Subtrie) → CutShows cut p → 1 + max (half_steps cut.zero) (half_steps cut.one) ≡ steps p
cut_steps cut (Place e) s = elim s [ ]
cut_steps cut (Fork q x y) s = ap₂ (λ u v. 1 + max u v) (half_steps_are cut.zero x s.1) (half_steps_are cut.one y s.2)

few_steps : (h : ℕ) (p : Subtrie) → All (λ e. height_of e < h) (places p) → steps p ≤ size p + 100 * (h - 1)
few_steps h (Place e) a = let l : height_of e < h = a 0 (Leaf 0) (omega arith) in omega arith
few_steps h (Fork q x y) a =
    let s = all_parts (λ e. height_of e < h) (places x) (places y) a in
    let u = few_steps h x s.0 in
    let v = few_steps h y s.1 in
    let m = size_pos x in
    let n = size_pos y in
    omega arith

-- A node has less steps than an entry of its height.
pub node_steps : (view : NodeView) (n h : ℕ) → IsLawfulNode view → view.height ≡ h → steps (piece view) < half_steps (One (Node n h))
node_steps view n h l e =
    let f = few_steps view.height (piece view) (subst (All (λ x. height_of x < view.height)) l.shows.entries_are l.above) in
    let s : length view.entries ≡ size (piece view) = ap length l.shows.entries_are ∙ length-places (piece view) in
    let r = l.room in
    let two = l.several in
    let top : height_of (Leaf 0) ≡ 0 = refl in
    let positive : 0 < view.height = positive_height in
    omega arith
  where
    positive_height : 0 < view.height
    positive_height = let two = l.several in omega (arith, l.above 0 (Leaf 0) (omega arith))
