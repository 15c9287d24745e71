-- Places of the tree, and the forks above them.
use Rattle.version_laws.proofs.Common.{◌≡◌, inl, inr, ℕ, ◌<◌, ◌≤◌, true, false, refl, ap, arith, Fixed, Tree, leaf, node, fork, IsTrie, IsTip, IsFork, Within, here, inside, zero_side, one_side, put, IsPathBelow, within_trans, rises}

-- A place of a node's body is one of the whole.
abbrev pub in_body : {n : ℕ} {x : Fixed} {b s t : Tree} → Within (node n x b) t → Within s b → Within s t
in_body here w = inside w
in_body (inside v) w = inside (in_body v w)
in_body (zero_side v) w = zero_side (in_body v w)
in_body (one_side v) w = one_side (in_body v w)

pub put_in_body : {n : ℕ} {x : Fixed} {b s t : Tree} (v : Within (node n x b) t) (w : Within s b) (r : Tree) → put (in_body v w) r ≡ put v (node n x (put w r))
put_in_body here w r = refl
put_in_body (inside {n = n} {x = x} v) w r = ap (node n x) (put_in_body v w r)
put_in_body (zero_side {p = p} {b = d} v) w r = ap (λ z. fork p z d) (put_in_body v w r)
put_in_body (one_side {p = p} {a = a} v) w r = ap (fork p a) (put_in_body v w r)

pub path_in_body : (p : ℕ) {n : ℕ} {x : Fixed} {b s t : Tree} (v : Within (node n x b) t) (w : Within s b) → IsPathBelow p v → IsPathBelow p w → IsPathBelow p (in_body v w)
path_in_body p here w h k = k
path_in_body p (inside v) w h k = path_in_body p v w h k
path_in_body p (zero_side v) w h k = (h.0, path_in_body p v w h.1 k)
path_in_body p (one_side v) w h k = (h.0, path_in_body p v w h.1 k)

-- The forks above a node are before its first one.
pub path_rises_node : {n q p : ℕ} {x : Fixed} {a b t : Tree} (w : Within (node n x (fork q a b)) t) → IsTrie t → q ≤ p → IsPathBelow p w
path_rises_node here i h = tt
path_rises_node (inside w) i h = path_rises_node w i h
path_rises_node {q = q} (zero_side {p = f} {a = c} {b = d} w) i h =
    let z : f < q = rises false (within_trans (inside here) w) i.0 (λ k l x y. i.2 k l (inl x) (inl y)) i.3 in (omega arith, path_rises_node w i.0 h)
path_rises_node {q = q} (one_side {p = f} {a = c} {b = d} w) i h =
    let z : f < q = rises true (within_trans (inside here) w) i.1 (λ k l x y. i.2 k l (inr x) (inr y)) i.4 in (omega arith, path_rises_node w i.1 h)

-- Where the place in a node's subtrie is below forks before `p`, the node is.
pub path_above : (p : ℕ) {n : ℕ} {x : Fixed} {b s t : Tree} (v : Within (node n x b) t) (w : Within s b) → IsTip s → IsFork b → IsTrie t → IsPathBelow p w → IsPathBelow p v
path_above p {b = leaf m k u} v w i f j h = elim f [ ]
path_above p {b = node m k u} v w i f j h = elim f [ ]
path_above p {b = fork m k u} v here i f j h = elim i [ ]
path_above p {b = fork m k u} v (zero_side w) i f j h = let z = h.0 in path_rises_node v j (omega arith)
path_above p {b = fork m k u} v (one_side w) i f j h = let z = h.0 in path_rises_node v j (omega arith)
