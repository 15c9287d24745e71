-- A piece that is closed: a node stands for it.
use Rattle.bulk_load.proofs.Common.{◌≡◌, ◌⊎◌, inl, inr, ℕ, suc, ◌+◌, ◌-◌, ◌*◌, ◌^◌, ◌<◌, ◌≤◌, List, [], ◌∷◌, ◌++◌, take, drop, Option, Some, None, get_or, length, refl, ap, sym, subst, ◌∙◌, arith, All, cases_order, append-nil, ext_get_or, get_or-append_right, length-append, drop_at, take_at, All-append, All-from_recursion, All-from_get_or, All-head, get_or-append, MAX_BYTES, NodeView, IsBuiltFrom, IsEntry, head_of, Entry, Leaf, Node, RisesFrom, first, IsAbove, IsLocal, Tree, leaf, node, fork, subtrie, IsBuilt, trie_if_local, children_are, has_first, Rec, a_node, Heap, IsShown, node_number, Links, heap_of, IsPacked, node_is, fields_in}
use Rattle.record_words.specs.Node.{HasNodeWords, node_words}
use Rattle.tries.proofs.Tree.Building.{bit_below, node_built_from}
use Rattle.tries.proofs.Keys.{has_key}
use Rattle.bulk_load.specs.Tips.{tip, tips_of, MayBeTip, AreTipsOf}
use Rattle.bulk_load.specs.declared.tips.Tip.{Tip}
use Rattle.bulk_load.specs.Stacks.{LeftPiece, whole_of, position_of, front_tips, with_right}
use Rattle.bulk_load.specs.declared.builder.Builder.{Builder}
use Rattle.bulk_load.specs.Loading.{IsPiece, size_right}
use Rattle.bulk_load.specs.Tables.{IsPut, HoldsTree}
use Rattle.bulk_load.proofs.tips.Rows.{tips_split as piece_split}
use Rattle.bulk_load.proofs.records.Fields.{node_field, node_fields_long}
use Rattle.bulk_load.proofs.Tables.Putting.{IsAddedTo, added, still_shown}
use Rattle.bulk_load.proofs.Stacks.{tips_joined, length_tips, built_inner, built_joined, shown_joined, links_inner, links_kept, links_added, local_inner, IsAboveHead, above_head, local_joined}

-- ---- tips of a lawful tree
IsFrom : ℕ → Tree → Type 0
IsFrom low (leaf n k v) = Unit {0}
IsFrom low (node n x b) = Unit {0}
IsFrom low (fork q a b) = low ≤ q

from_above : (q : ℕ) (t : Tree) → IsAbove q t → IsFrom (q + 1) t
unfolding IsFrom
from_above q (leaf n k v) h = tt
from_above q (node n x b) h = tt
from_above q (fork p a b) h = omega (arith, h)

rises_from : (low : ℕ) (t : Tree) → IsLocal t → IsFrom low t → RisesFrom low (subtrie t)
unfolding IsFrom
rises_from low (leaf n k v) i f = tt
rises_from low (node n x b) i f = tt
rises_from low (fork q a b) i f = (omega (arith, f), rises_from (q + 1) a i.0 (from_above q a i.2), rises_from (q + 1) b i.1 (from_above q b i.3))

pub taken_piece : (a b n m : ℕ) (xs ys : List Tip) → a ≡ n → b ≡ m → xs ≡ ys → take a (drop b xs) ≡ take n (drop m ys)
taken_piece a b n m xs ys e f g = rw (e, f, g) refl

rises_local : (t : Tree) → IsLocal t → RisesFrom 0 (subtrie t)
unfolding IsFrom
rises_local (leaf n k v) i = tt
rises_local (node n x b) i = tt
rises_local (fork q a b) i = rises_from 0 (fork q a b) i (omega arith)

-- a fork is at a position that keys have
fork_small : (q : ℕ) (a b : Tree) → IsLocal (fork q a b) → q < 65535
fork_small q a b i =
    let t = trie_if_local (fork q a b) i in let m : MAX_BYTES ≡ 240 = refl in
    let h : q < 9 * MAX_BYTES = bit_below (first b) q (has_key b t.1 (first b) (has_first b)) (t.4 (first b) (has_first b)) in omega (arith, h, m)

position_small : (ls : List LeftPiece) (t : Tree) → IsLocal (whole_of ls t) → position_of ls < 65535
position_small [] t i = omega arith
position_small (l ∷ ls) t i = fork_small l.position l.tree t (local_inner ls (fork l.position l.tree t) i)

tips_lawful : (p : ℕ) (t : Tree) → p < 65535 → IsLocal t → IsBuilt t → All MayBeTip (tips_of p (subtrie t))
tips_lawful p (leaf n k v) h i b = All-from_recursion MayBeTip (tip p (Leaf n) ∷ []) ((tt, h), tt)
tips_lawful p (node n x c) h i b =
    All-from_recursion MayBeTip (tip p (Node n x.height) ∷ []) ((All-head IsEntry (Node n x.height) [] (children_are (node n x c) b), h), tt)
tips_lawful p (fork q a c) h i b =
    All-append MayBeTip (tips_of p (subtrie a)) (tips_of q (subtrie c)) (tips_lawful p a h i.0 b.0) (tips_lawful q c (fork_small q a c i) i.1 b.1)

-- ---- where the tips of a piece stand
abbrev pub right_tips : Option LeftPiece → List Tip
right_tips None = []
right_tips (Some r) = tips_of r.position (subtrie r.tree)

beside : (p : ℕ) (z : Tree) (right : Option LeftPiece) → tips_of p (subtrie (with_right z right)) ≡ tips_of p (subtrie z) ++ right_tips right
beside p z None = sym (append-nil (tips_of p (subtrie z)))
beside p z (Some r) = refl

tips_split : (ls : List LeftPiece) (z : Tree) (right : Option LeftPiece) →
    tips_of 0 (subtrie (whole_of ls (with_right z right))) ≡ front_tips ls ++ (tips_of (position_of ls) (subtrie z) ++ right_tips right)
tips_split ls z right = tips_joined ls (with_right z right) ∙ ap (λ ss. front_tips ls ++ ss) (beside (position_of ls) z right)

length_right : (right : Option LeftPiece) → length (right_tips right) ≡ size_right right
length_right None = refl
length_right (Some r) = length_tips r.position (subtrie r.tree)

local_left : (z : Tree) (right : Option LeftPiece) → IsLocal (with_right z right) → IsLocal z
local_left z None i = i
local_left z (Some r) i = i.0

built_left : (z : Tree) (right : Option LeftPiece) → IsBuilt (with_right z right) → IsBuilt z
built_left z None b = b
built_left z (Some r) b = b.0

module _ (l : Builder) (ls : List LeftPiece) (z : Tree) (right : Option LeftPiece) (count behind : ℕ) (p : IsPiece l ls z right count behind) where
  local_z : IsLocal z
  local_z = local_left z right (local_inner ls (with_right z right) p.tree.ordered)

  built_z : IsBuilt z
  built_z = built_left z right (built_inner ls (with_right z right) p.tree.built)

  abbrev front : List Tip
  front = front_tips ls

  abbrev own : List Tip
  own = tips_of (position_of ls) (subtrie z)

  abbrev pub start : ℕ
  start = length (front_tips ls)

  split : l.tips.items ≡ front ++ (own ++ right_tips right)
  split = p.tree.tips_are ∙ tips_split ls z right

  own_long : length own ≡ count
  own_long = length_tips (position_of ls) (subtrie z) ∙ sym p.count_is

  pub fits : start + count + behind ≡ length l.tips.items
  fits =
      let a = ap length split in let b = length-append front (own ++ right_tips right) in let c = length-append own (right_tips right) in
      let d = length_right right in let e = p.behind_is in omega (arith, a, b, c, d, e, own_long)

  own_is : take count (drop start l.tips.items) ≡ own
  own_is = ap (λ ss. take count (drop start ss)) split ∙ (ap (take count) (drop_at front (own ++ right_tips right) start refl) ∙ take_at own (right_tips right) count own_long)

  pub tips_given : (ss : List Tip) → ss ≡ take count (drop start l.tips.items) → AreTipsOf ss (position_of ls) (subtrie z)
  tips_given ss e = record { are = e ∙ own_is; rises = rises_local z local_z }

  pub each_given : (ss : List Tip) → ss ≡ take count (drop start l.tips.items) → All MayBeTip ss
  each_given ss e = subst (All MayBeTip) (sym (e ∙ own_is)) (tips_lawful (position_of ls) z (position_small ls (with_right z right) p.tree.ordered) local_z built_z)

  -- ---- the tips with one in the place of the piece's
  pub merged : (e : Entry) (d : Tip) (ss : List Tip) → 1 ≤ count → length ss + count ≡ length l.tips.items + 1 →
      ((i : ℕ) → i < start → get_or ss i d ≡ get_or l.tips.items i d) → get_or ss start d ≡ tip (get_or l.tips.items start d).fork e →
      ((i : ℕ) → get_or ss (start + 1 + i) d ≡ get_or l.tips.items (start + count + i) d) →
      ss ≡ front ++ (tip (position_of ls) e ∷ right_tips right)
  merged e d ss some long before here behind_it = ext_get_or d ss (front ++ (tip (position_of ls) e ∷ right_tips right))
      (omega (arith, long, fits, p.behind_is, length_right right, length-append front (tip (position_of ls) e ∷ right_tips right)))
      (λ i h. elim (cases_order i start) [ inl same ↦ at_start i same | inr o ↦ elim o [ inl less ↦ at_front i less | inr more ↦ at_right i more ] ])
    where
      rest : (i : ℕ) → start ≤ i → get_or l.tips.items i d ≡ get_or (own ++ right_tips right) (i - start) d
      rest i h = ap (λ ss. get_or ss i d) split ∙ get_or-append_right front (own ++ right_tips right) start i d refl h

      target : (i : ℕ) → start ≤ i → get_or (front ++ (tip (position_of ls) e ∷ right_tips right)) i d ≡ get_or (tip (position_of ls) e ∷ right_tips right) (i - start) d
      target i h = get_or-append_right front (tip (position_of ls) e ∷ right_tips right) start i d refl h

      at_front : (i : ℕ) → i < start → get_or ss i d ≡ get_or (front ++ (tip (position_of ls) e ∷ right_tips right)) i d
      at_front i h = before i h ∙ (ap (λ ss. get_or ss i d) split ∙ (get_or-append front (own ++ right_tips right) d i h ∙ sym (get_or-append front (tip (position_of ls) e ∷ right_tips right) d i h)))

      first_fork : (get_or l.tips.items start d).fork ≡ position_of ls
      first_fork = ap (λ (s : Tip). s.fork) (rest start (omega arith)) ∙
          (ap (λ n. (get_or (own ++ right_tips right) n d).fork) (let z0 : start - start ≡ 0 = omega arith in z0) ∙
          ap (λ ss. (get_or (ss ++ right_tips right) 0 d).fork) (piece_split (position_of ls) (subtrie z)))

      at_start : (i : ℕ) → i ≡ start → get_or ss i d ≡ get_or (front ++ (tip (position_of ls) e ∷ right_tips right)) i d
      at_start i same = rw same (here ∙ (ap (λ n. tip n e) first_fork ∙ sym (target start (omega arith) ∙
          ap (λ n. get_or (tip (position_of ls) e ∷ right_tips right) n d) (let z0 : start - start ≡ 0 = omega arith in z0))))

      at_right : (i : ℕ) → start < i → get_or ss i d ≡ get_or (front ++ (tip (position_of ls) e ∷ right_tips right)) i d
      at_right i h =
          let k = i - start - 1 in let is : i ≡ start + 1 + k = omega (arith, h) in
          let low : start + count + k - start ≡ count + k = omega arith in
          let high : i - start ≡ suc k = omega (arith, h) in
          ap (λ n. get_or ss n d) is ∙ (behind_it k ∙ (rest (start + count + k) (omega arith) ∙ (ap (λ n. get_or (own ++ right_tips right) n d) low ∙
          (get_or-append_right own (right_tips right) count (count + k) d own_long (omega arith) ∙ (ap (λ n. get_or (right_tips right) n d) (let back : count + k - count ≡ k = omega arith in back) ∙
          sym (target i (omega (arith, h)) ∙ ap (λ n. get_or (tip (position_of ls) e ∷ right_tips right) n d) high))))))

  -- ---- the node that stands for the piece
  module _ (v : NodeView) (new : List ℕ) (b : IsBuiltFrom v (subtrie z)) (has : HasNodeWords v) (put : IsPut l.layout l.words.items new (a_node l.nodes))
      (fields : fields_in l.layout new (a_node l.nodes) ≡ node_words v) (small : (i : ℕ) → get_or new i 0 < 2 ^ 64) (room : l.nodes < l.layout.nodes) where
    abbrev pub closed : Tree
    closed = node l.nodes (head_of v) z

    abbrev whole : Tree
    whole = whole_of ls (with_right z right)

    abbrev heap : Heap
    heap = heap_of (fields_in l.layout new)

    built_closed : IsBuilt closed
    built_closed = node_built_from v l.nodes z b (trie_if_local z local_z) built_z

    addition : IsAddedTo l.layout l.words.items new (Some whole) (a_node l.nodes)
    unfolding IsPacked
    addition = record {
      holds = p.tree.table;
      has = room;
      unlinked = λ h. absurd (let low = p.tree.taken l.nodes h in omega (arith, low));
      put = put;
      packed = (v, has, sym fields);
      fits = tt;
    }

    all_small : All (λ w. w < 2 ^ 64) (fields_in l.layout new (a_node l.nodes))
    all_small = All-from_get_or (λ w. w < 2 ^ 64) (fields_in l.layout new (a_node l.nodes)) 0
        (λ i h. subst (λ w. w < 2 ^ 64) (sym (node_field l.layout new l.nodes i (omega (arith, h, node_fields_long l.layout new l.nodes)))) (small _))

    node_shown : heap.nodes l.nodes ≡ record { fixed = head_of v; subtrie = subtrie z }
    node_shown = node_is v (fields_in l.layout new (a_node l.nodes)) all_small has (sym fields) ∙ ap (λ x. record { fixed = head_of v; subtrie = x }) b.shows_it

    beside_shown : (right : Option LeftPiece) → IsShown heap (with_right z right) → IsShown heap (with_right closed right)
    beside_shown None s = (node_shown, s)
    beside_shown (Some r) s = ((node_shown, s.0), s.1)

    beside_built : (right : Option LeftPiece) → IsBuilt (with_right z right) → IsBuilt (with_right closed right)
    beside_built None s = built_closed
    beside_built (Some r) s = (built_closed, s.1)

    beside_local : (right : Option LeftPiece) → IsLocal (with_right z right) → IsLocal (with_right closed right)
    beside_local None i = i
    beside_local (Some r) i = i

    beside_first : (right : Option LeftPiece) → first (with_right closed right) ≡ first (with_right z right)
    beside_first None = refl
    beside_first (Some r) = refl

    above_closed : (ls : List LeftPiece) (right : Option LeftPiece) → IsAboveHead ls (with_right z right) → IsAboveHead ls (with_right closed right)
    above_closed [] right h = tt
    above_closed (m ∷ ms) None h = h
    above_closed (m ∷ ms) (Some r) h = h

    links_to : (right : Option LeftPiece) (i : Rec) → Links (with_right closed right) i → Links (with_right z right) i ⊎ (i ≡ a_node l.nodes)
    links_to None i (inl e) = inr e
    links_to None i (inr h) = inl h
    links_to (Some r) i (inl (inl e)) = inr e
    links_to (Some r) i (inl (inr h)) = inl (inl h)
    links_to (Some r) i (inr h) = inl (inr h)

    links_from : (right : Option LeftPiece) (i : Rec) → Links (with_right z right) i → Links (with_right closed right) i
    links_from None i h = inr h
    links_from (Some r) i (inl h) = inl (inr h)
    links_from (Some r) i (inr h) = inr h

    links_here : (right : Option LeftPiece) → Links (with_right closed right) (a_node l.nodes)
    links_here None = inl refl
    links_here (Some r) = inl (inl refl)

    to : (i : Rec) → Links (whole_of ls (with_right closed right)) i → Links whole i ⊎ (i ≡ a_node l.nodes)
    to i h = links_added (i ≡ a_node l.nodes) ls (with_right z right) (with_right closed right) i (links_to right i) h

    pub holds_closed : HoldsTree l.layout new (Some (whole_of ls (with_right closed right)))
    holds_closed = added addition (whole_of ls (with_right closed right)) to
        (λ i h. links_kept ls (with_right z right) (with_right closed right) i (links_from right i) h)
        (links_inner ls (with_right closed right) (a_node l.nodes) (links_here right))
        (shown_joined heap ls (with_right z right) (with_right closed right) (beside_shown right) (still_shown addition whole (λ i h. h) (p.tree.table.shows whole refl)))

    pub local_closed : IsLocal (whole_of ls (with_right closed right))
    local_closed = local_joined ls (with_right z right) (with_right closed right) (beside_local right (local_inner ls (with_right z right) p.tree.ordered)) (beside_first right)
        (above_closed ls right (above_head ls (with_right z right) p.tree.ordered)) p.tree.ordered

    pub all_built : IsBuilt (whole_of ls (with_right closed right))
    all_built = built_joined ls (with_right z right) (with_right closed right) (beside_built right) p.tree.built

    pub taken_closed : (n : ℕ) → Links (whole_of ls (with_right closed right)) (a_node n) → n < l.nodes + 1
    taken_closed n h = elim (to (a_node n) h) [ inl x ↦ (let low = p.tree.taken n x in omega (arith, low)) | inr e ↦ (let same = node_number e in omega (arith, same)) ]

    -- the tips are those of the tree
    pub tips_closed : (ss : List Tip) → ss ≡ front ++ (tip (position_of ls) (Node l.nodes v.height) ∷ right_tips right) → ss ≡ tips_of 0 (subtrie (whole_of ls (with_right closed right)))
    tips_closed ss e = e ∙ sym (tips_split ls closed right)
