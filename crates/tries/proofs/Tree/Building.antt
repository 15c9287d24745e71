-- A node around a body: heights, and the bound on them.
use Rattle.tries.proofs.Common.{◌≡◌, inl, inr, ℕ, ◌+◌, ◌*◌, ◌/◌, ◌<◌, ◌≤◌, ◌++◌, if◌then◌else◌, Bool, true, false, List, [], ◌∷◌, length, max, ap, sym, ◌∙◌, subst, arith, nat_lt, refl, and_parts, ltb-true, IsKey, MAX_BYTES, NodeView, piece, head_of, IsLawfulNode, IsBuiltFrom, height_of, greatest_height, Entry, Fork, Place, places, size}
use Rattle.partial_keys.specs.Shows.{ShowsPiece}
use Rattle.node_tries.proofs.Piece.{length-places}
use Rattle.tries.specs.Keys.{Key, bit, AgreeBelow}
use Rattle.tries.specs.Tree.{Subtrie, Tree, leaf, node, fork, subtrie, Has, IsTrie, IsBuilt, IsFork, IsLower, first_position, Within, here, inside}
use Rattle.tries.specs.Content.{first}
use Rattle.tries.specs.Place.{joined, subtrie_without}
use Rattle.tries.proofs.Tree.{has_first, rises}
use Rattle.tries.proofs.Keys.{has_key}

pub fork_of : (b : Tree) → IsFork b → (q : ℕ) × (a : Tree) × (c : Tree) × (b ≡ fork q a c)
fork_of (leaf n l v) f = elim f [ ]
fork_of (node n x b) f = elim f [ ]
fork_of (fork q a c) f = (q, a, c, refl)

pub fork_of_two_places : (b : Tree) → 2 ≤ size (subtrie b) → IsFork b
fork_of_two_places (leaf n k v) h = absurd (omega arith)
fork_of_two_places (node n x b) h = absurd (omega arith)
fork_of_two_places (fork p a c) h = tt

pub greatest-append : (xs ys : List Entry) → greatest_height (xs ++ ys) ≡ max (greatest_height xs) (greatest_height ys)
greatest-append [] ys = omega arith
greatest-append (x ∷ xs) ys = ap (max (height_of x)) (greatest-append xs ys) ∙ omega arith

-- The entries are below a height where the greatest of their heights is, and the other way round.
pub lower_by_greatest : (h : ℕ) (b : Tree) → greatest_height (places (subtrie b)) < h → IsLower h b
lower_by_greatest h (leaf n k v) l = omega arith
lower_by_greatest h (node n x b) l = omega arith
lower_by_greatest h (fork p a c) l =
    let e = greatest-append (places (subtrie a)) (places (subtrie c)) in
    (lower_by_greatest h a (omega arith), lower_by_greatest h c (omega arith))

pub greatest_if_lower : (h : ℕ) (b : Tree) → IsLower h b → greatest_height (places (subtrie b)) < h
greatest_if_lower h (leaf n k v) l = omega arith
greatest_if_lower h (node n x b) l = omega arith
greatest_if_lower h (fork p a c) l =
    let x = greatest_if_lower h a l.0 in let y = greatest_if_lower h c l.1 in
    omega (arith, greatest-append (places (subtrie a)) (places (subtrie c)))

-- Without one of its entries a subtrie is no higher.
greatest_joined : (q : ℕ) (o : Bool) (x y r : Subtrie) → greatest_height (places r) ≤ greatest_height (places (if o then y else x)) →
    greatest_height (places (joined q o x y r)) ≤ greatest_height (places x ++ places y)
greatest_joined q true x (Place e) r h = omega (arith, greatest-append (places x) (e ∷ []))
greatest_joined q true x (Fork p a b) r h = omega (arith, h, greatest-append (places x) (places (Fork p a b)), greatest-append (places x) (places r))
greatest_joined q false (Place e) y r h = omega (arith, greatest-append (e ∷ []) (places y))
greatest_joined q false (Fork p a b) y r h = omega (arith, h, greatest-append (places (Fork p a b)) (places y), greatest-append (places r) (places y))

pub greatest_without : (k : Key) (x : Subtrie) → greatest_height (places (subtrie_without k x)) ≤ greatest_height (places x)
greatest_without k (Place e) = omega arith
greatest_without k (Fork q x y) = go (bit k q) (greatest_without k x) (greatest_without k y)
  where
    go : (o : Bool) → greatest_height (places (subtrie_without k x)) ≤ greatest_height (places x) → greatest_height (places (subtrie_without k y)) ≤ greatest_height (places y) →
        greatest_height (places (joined q o x y (if o then subtrie_without k y else subtrie_without k x))) ≤ greatest_height (places x ++ places y)
    go true f g = greatest_joined q true x y (subtrie_without k y) g
    go false f g = greatest_joined q false x y (subtrie_without k x) f

-- A bit that is 1 is one of the key's.
pub bit_below : (k : Key) (q : ℕ) → IsKey k → bit k q ≡ true → q < 9 * MAX_BYTES
unfolding bit
bit_below k q i e = let h : q / 9 < length k = ltb-true (q / 9) (length k) (and_parts (nat_lt (q / 9) (length k)) _ e).0 in omega (arith, i.short)

-- The entries below a fork are so low that a node around it is within the bound,
tips_low : (q : ℕ) (u : Bool) (s : Tree) → IsTrie s → IsBuilt s → ((k l : Key) → Has s k → Has s l → AgreeBelow q k l) → ((k : Key) → Has s k → bit k q ≡ u) →
    q < 9 * MAX_BYTES → greatest_height (places (subtrie s)) + q < 9 * MAX_BYTES
tips_low q u (leaf n k v) i b f g h = omega arith
tips_low q u (node n x b) i bu f g h =
    let c = fork_of b bu.0 in
    let w : Within (fork c.0 c.1 c.2) (node n x b) = subst (λ z. Within (fork c.0 c.1 c.2) (node n x z)) (sym c.3) (inside here) in
    let less : q < c.0 = rises u w i f g in
    let first : first_position (subtrie b) ≡ c.0 = ap (λ z. first_position (subtrie z)) c.3 in
    omega (arith, bu.3.bound)
tips_low q u (fork r a c) i b f g h =
    let x = tips_low q u a i.0 b.0 (λ k l y z. f k l (inl y) (inl z)) (λ k y. g k (inl y)) h in
    let y = tips_low q u c i.1 b.1 (λ k l y z. f k l (inr y) (inr z)) (λ k y. g k (inr y)) h in
    omega (arith, greatest-append (places (subtrie a)) (places (subtrie c)))

-- where its height is one above the greatest of theirs.
pub new_bound : (q : ℕ) (a c : Tree) → IsTrie (fork q a c) → IsBuilt (fork q a c) → 1 + greatest_height (places (subtrie (fork q a c))) + q ≤ 9 * MAX_BYTES
new_bound q a c i b =
    let h : q < 9 * MAX_BYTES = bit_below (first c) q (has_key c i.1 (first c) (has_first c)) (i.4 (first c) (has_first c)) in
    let x = tips_low q false a i.0 b.0 (λ k l y z. i.2 k l (inl y) (inl z)) i.3 h in
    let y = tips_low q true c i.1 b.1 (λ k l y z. i.2 k l (inr y) (inr z)) i.4 h in
    omega (arith, greatest-append (places (subtrie a)) (places (subtrie c)))

pub body_bound : (b : Tree) → IsFork b → IsTrie b → IsBuilt b → 1 + greatest_height (places (subtrie b)) + first_position (subtrie b) ≤ 9 * MAX_BYTES
body_bound (leaf n k v) f i built = elim f [ ]
body_bound (node n x b) f i built = elim f [ ]
body_bound (fork q a c) f i built = new_bound q a c i built

pub size-piece : (n : NodeView) → IsLawfulNode n → size (piece n) ≡ length n.entries
size-piece n l = sym (length-places (piece n)) ∙ ap length (sym l.shows.entries_are)

-- A node that shows a body, with a height that is within the bound, is built around it.
pub node_built : (v : NodeView) (n : ℕ) (b : Tree) → IsLawfulNode v → piece v ≡ subtrie b → IsBuilt b → greatest_height (places (subtrie b)) < v.height →
    v.height + first_position (subtrie b) ≤ 9 * MAX_BYTES → IsBuilt (node n (head_of v) b)
node_built v n b l e built low bound =
    let big : size (piece v) ≡ length v.entries = size-piece v l in (
      fork_of_two_places b (let s = ap size e in omega (arith, l.several)),
      lower_by_greatest v.height b low,
      built,
      record {
        positions = l.positions;
        shows = subst (λ p. ShowsPiece v.columns v.rows (places p) p) e (subst (λ es. ShowsPiece v.columns v.rows es (piece v)) l.shows.entries_are l.shows);
        room = let s = ap size e in omega (arith, l.room);
        bound = bound;
      },
    )

-- So is one that was built to show it.
pub node_built_from : (v : NodeView) (n : ℕ) (b : Tree) → IsBuiltFrom v (subtrie b) → IsTrie b → IsBuilt b → IsBuilt (node n (head_of v) b)
node_built_from v n b i trie built =
    let e : greatest_height v.entries ≡ greatest_height (places (subtrie b)) = ap greatest_height i.lawful.shows.entries_are ∙ ap (λ x. greatest_height (places x)) i.shows_it in
    let s : size (piece v) ≡ size (subtrie b) = ap size i.shows_it in
    let f : IsFork b = fork_of_two_places b (omega (arith, i.lawful.several, size-piece v i.lawful)) in
    node_built v n b i.lawful i.shows_it built (omega (arith, i.height_is)) (omega (arith, i.height_is, body_bound b f trie built))
