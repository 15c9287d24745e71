-- The last two pieces become one.
use Rattle.bulk_load.proofs.Common.{zero, suc, ◌≡◌, ◌⊎◌, inl, inr, ℕ, ◌+◌, ◌-◌, ◌*◌, ◌<◌, ◌≤◌, List, [], ◌∷◌, ◌++◌, Bool, true, false, IsTrue, if◌then◌else◌, Option, Some, None, get_or, length, map, take, slice_set, refl, ap, sym, subst, ◌∙◌, arith, All, get_or-append_right, get_or-map, length-append, length-map, map-set, set-append_right, take_at, All-get_or, All-head, All-push, All-set, All-take, get_or-append, size, Item, items, bit, Tree, fork, subtrie, vec_len, Layout, cases_order, trie_if_local, size_pos}
use Rattle.std.proofs.Common.{append_assoc}
use Rattle.bulk_load.specs.declared.builder.Builder.{Builder}
use Rattle.bulk_load.specs.declared.builder.StackedPiece.{StackedPiece}
use Rattle.bulk_load.specs.Loading.{CanJoin, HasPieces, IsOnePiece, HasTakenNone, IsJoined, IsLoading, CanPart, FitsOneNode, HasNodesFor, IsOfLeaves, MayStandBeside, IsPiece, IsStackOf, IsTreeOf, MayTakePlaceOf, greatest_key}
use Rattle.bulk_load.specs.Stacks.{LeftPiece, left_piece, whole_of, counts, position_of, front_tips, with_right}
use Rattle.bulk_load.proofs.Stacks.{fronts, items_joined, last_joined, local_inner, tips_joined}
use Rattle.bulk_load.proofs.tips.Rows.{head_entry, tips_split as piece_split}
use Rattle.bulk_load.proofs.Stacks.Closing.{fits}
use Rattle.bulk_load.proofs.builder.Pushing.{has_last}
use Rattle.bulk_load.specs.declared.tips.Tip.{Tip}
use Rattle.bulk_load.specs.Tips.{tip, tips_of}

abbrev count_of : StackedPiece → ℕ
count_of p = p.count

-- ---- how many entries the pieces have
-- those of all pieces but the top one
abbrev below : List LeftPiece → List ℕ
below [] = []
below (m ∷ ms) = counts ms m.tree

counts_split : (ls : List LeftPiece) (t : Tree) → counts ls t ≡ below ls ++ size (subtrie t) ∷ []
counts_split [] t = refl
counts_split (m ∷ ms) t = refl

counts_long : (ls : List LeftPiece) (t : Tree) → length (counts ls t) ≡ length ls + 1
counts_long [] t = refl
counts_long (m ∷ ms) t = omega (arith, length-append (counts ms m.tree) (size (subtrie t) ∷ []), counts_long ms m.tree)

below_long : (ls : List LeftPiece) → length (below ls) ≡ length ls
below_long [] = refl
below_long (m ∷ ms) = omega (arith, counts_long ms m.tree)

last_of : (us : List ℕ) (a i d : ℕ) → length us ≡ i → get_or (us ++ a ∷ []) i d ≡ a
last_of us a i d e = get_or-append_right us (a ∷ []) i i d e (omega arith) ∙ ap (λ n. get_or (a ∷ []) n d) (let z : i - i ≡ 0 = omega arith in z)

last_count : (ls : List LeftPiece) (t : Tree) (i d : ℕ) → length ls ≡ i → get_or (counts ls t) i d ≡ size (subtrie t)
last_count ls t i d e = ap (λ us. get_or us i d) (counts_split ls t) ∙ last_of (below ls) (size (subtrie t)) i d (below_long ls ∙ e)

piece_count : (ps : List StackedPiece) (us : List ℕ) (i : ℕ) (x : StackedPiece) → map count_of ps ≡ us → i < length ps → x ≡ get_or ps i x → x.count ≡ get_or us i 0
piece_count ps us i x e h is = ap count_of is ∙ (sym (get_or-map count_of ps i x 0 h) ∙ ap (λ us. get_or us i 0) e)

map_take : (n : ℕ) (ps : List StackedPiece) → map count_of (take n ps) ≡ take n (map count_of ps)
map_take zero ps = refl
map_take (suc n) [] = refl
map_take (suc n) (p ∷ ps) = ap (λ us. p.count ∷ us) (map_take n ps)

pub pieces_long : (l : Builder) (ls : List LeftPiece) (top : Tree) → HasPieces l ls top → length l.pieces.items ≡ length ls + 1
pieces_long l ls top h = sym (length-map l.pieces.items count_of) ∙ (ap length h.counts_are ∙ counts_long ls top)

pub top_count : (l : Builder) (ls : List LeftPiece) (top : Tree) (h : HasPieces l ls top) (i : ℕ) (x : StackedPiece) → i + 1 ≡ length l.pieces.items → x ≡ get_or l.pieces.items i x →
    x.count ≡ size (subtrie top)
top_count l ls top h i x e is =
    piece_count l.pieces.items (counts ls top) i x h.counts_are (omega (arith, e)) is ∙ last_count ls top i 0 (omega (arith, e, pieces_long l ls top h))

pub next_count : (l : Builder) (m : LeftPiece) (ms : List LeftPiece) (top : Tree) (h : HasPieces l (m ∷ ms) top) (i : ℕ) (x : StackedPiece) → i + 2 ≡ length l.pieces.items →
    x ≡ get_or l.pieces.items i x → x.count ≡ size (subtrie m.tree)
next_count l m ms top h i x e is =
    let long = pieces_long l (m ∷ ms) top h in
    piece_count l.pieces.items (counts (m ∷ ms) top) i x h.counts_are (omega (arith, e)) is ∙
    (get_or-append (counts ms m.tree) (size (subtrie top) ∷ []) 0 i (omega (arith, e, long, counts_long ms m.tree)) ∙ last_count ms m.tree i 0 (omega (arith, e, long)))

pub each_few : (l : Builder) (ls : List LeftPiece) (top : Tree) (h : HasPieces l ls top) (i : ℕ) (x : StackedPiece) → i < length l.pieces.items → x ≡ get_or l.pieces.items i x → x.count ≤ 32
each_few l ls top h i x less is =
    subst (λ n. n ≤ 32) (sym (piece_count l.pieces.items (counts ls top) i x h.counts_are less is))
    (All-get_or (λ n. n ≤ 32) (counts ls top) i 0 (omega (arith, less, pieces_long l ls top h, counts_long ls top)) h.few)

-- ---- the pieces, once the last two are one
pub counts_joined : (m : LeftPiece) (ms : List LeftPiece) (top a b : Tree) (q i : ℕ) (ps : List StackedPiece) (x : StackedPiece) → map count_of ps ≡ counts (m ∷ ms) top → i + 2 ≡ length ps →
    x.count ≡ size (subtrie a) + size (subtrie b) → map count_of (slice_set (take (i + 1) ps) i x) ≡ counts ms (fork q a b)
counts_joined m ms top a b q i ps x e long is =
    let n : length ms ≡ i = omega (arith, long, length-map ps count_of, ap length e, counts_long (m ∷ ms) top) in
    map-set count_of (take (i + 1) ps) i x ∙
    (ap (λ us. slice_set us i x.count) (map_take (i + 1) ps ∙
    (ap (take (i + 1)) e ∙ (take_at (counts ms m.tree) (size (subtrie top) ∷ []) (i + 1) (omega (arith, n, counts_long ms m.tree)) ∙ counts_split ms m.tree))) ∙
    (set-append_right (below ms) (size (subtrie m.tree) ∷ []) i i x.count (below_long ms ∙ n) (omega arith) ∙
    (ap (λ k. below ms ++ slice_set (size (subtrie m.tree) ∷ []) k x.count) (let z : i - i ≡ 0 = omega arith in z) ∙
    (ap (λ k. below ms ++ k ∷ []) is ∙ sym (counts_split ms (fork q a b))))))

pub few_joined : (m : LeftPiece) (ms : List LeftPiece) (top a b : Tree) (q : ℕ) → All (λ n. n ≤ 32) (counts (m ∷ ms) top) → size (subtrie a) + size (subtrie b) ≤ 32 →
    All (λ n. n ≤ 32) (counts ms (fork q a b))
few_joined m ms top a b q all sum =
    let under : take (length (below ms)) (counts (m ∷ ms) top) ≡ below ms =
    ap (λ us. take (length (below ms)) (us ++ size (subtrie top) ∷ [])) (counts_split ms m.tree) ∙ first_two (below ms) (size (subtrie m.tree)) (size (subtrie top)) in
    subst (All (λ n. n ≤ 32)) (sym (counts_split ms (fork q a b)))
    (All-push (λ n. n ≤ 32) (below ms) (size (subtrie a) + size (subtrie b))
    (subst (All (λ n. n ≤ 32)) under (All-take (λ n. n ≤ 32) (length (below ms)) (counts (m ∷ ms) top) all)) sum)
  where
    first_two : (us : List ℕ) (x y : ℕ) → take (length us) ((us ++ x ∷ []) ++ y ∷ []) ≡ us
    first_two us x y = ap (take (length us)) (append_assoc us (x ∷ []) (y ∷ [])) ∙ take_at us (x ∷ (y ∷ [])) (length us) refl

-- ---- content
pub items_same : (ls : List LeftPiece) (t u : Tree) → items t ≡ items u → items (whole_of ls t) ≡ items (whole_of ls u)
items_same ls t u e = items_joined ls t ∙ (ap (λ ys. fronts ls ++ ys) e ∙ sym (items_joined ls u))

-- ---- node records
abbrev pub one_if : Bool → ℕ
one_if b = if b then 1 else 0

-- how many tips a piece has, once it is closed if it is to be
abbrev pub left_of : Bool → ℕ → ℕ
left_of b count = if b then 1 else count

-- closing a piece takes no more than one node, and as many tips at least as nodes
pub record IsClosed (n tips m left count : ℕ) : Type 0 where
  pub few : m ≤ n + 1
  pub spared : m + left ≤ n + tips
  pub grows : n ≤ m

pub closed_one : (n tips m left count result : ℕ) (b : Bool) → (IsTrue b → 2 ≤ count) → m ≡ n + one_if b → result ≡ left_of b count → left + count ≡ tips + result → IsClosed n tips m left count
closed_one n tips m left count result true two a e l = let h = two refl in record { few = omega (arith, a); spared = omega (arith, a, e, l, h); grows = omega (arith, a) }
closed_one n tips m left count result false two a e l = record { few = omega (arith, a); spared = omega (arith, a, e, l); grows = omega (arith, a) }

pub piece_closed : (l m : Builder) (count result : ℕ) (b : Bool) → (IsTrue b → 2 ≤ count) → m.nodes ≡ l.nodes + one_if b → result ≡ left_of b count → vec_len m.tips + count ≡ vec_len l.tips + result →
    IsClosed l.nodes (length l.tips.items) m.nodes (length m.tips.items) count
piece_closed l m count result b two a e h = closed_one l.nodes (length l.tips.items) m.nodes (length m.tips.items) count result b two a e (omega (arith, h, l.tips.ok.0, m.tips.ok.0))

-- a node is left for the first piece, and for the second one
pub first_node : (n max pieces tips count : ℕ) → (n + 2 * (pieces + 0) ≤ max) ⊎ ((n + tips + 0 ≤ max) ⊎ ((n ≡ 0) × (tips + 0 ≤ 32) × (2 ≤ max))) →
    2 ≤ pieces → 2 ≤ count → count ≤ tips → n < max
first_node n max pieces tips count (inl h) p c s = omega (arith, h, p)
first_node n max pieces tips count (inr (inl h)) p c s = omega (arith, h, c, s)
first_node n max pieces tips count (inr (inr h)) p c s = omega (arith, h.0, h.2)

pub second_node : (n max pieces tips m left count other : ℕ) → (n + 2 * (pieces + 0) ≤ max) ⊎ ((n + tips + 0 ≤ max) ⊎ ((n ≡ 0) × (tips + 0 ≤ 32) × (2 ≤ max))) →
    IsClosed n tips m left other → 2 ≤ pieces → 2 ≤ count → count ≤ left → m < max
second_node n max pieces tips m left count other (inl h) i p c s = omega (arith, h, p, i.few)
second_node n max pieces tips m left count other (inr (inl h)) i p c s = omega (arith, h, c, s, i.spared)
second_node n max pieces tips m left count other (inr (inr h)) i p c s = omega (arith, h.0, h.2, i.few)

-- two pieces have become one
pub nodes_joined : (n max pieces tips m left o last pieces_then other count more : ℕ) → IsClosed n tips m left other → IsClosed m left o last count → pieces_then + 1 ≡ pieces →
    (n ≡ 0 → tips ≤ 32 → (o ≡ 0) × (last ≡ tips)) → (n + 2 * (pieces + more) ≤ max) ⊎ ((n + tips + more ≤ max) ⊎ ((n ≡ 0) × (tips + more ≤ 32) × (2 ≤ max))) →
    (o + 2 * (pieces_then + more) ≤ max) ⊎ ((o + last + more ≤ max) ⊎ ((o ≡ 0) × (last + more ≤ 32) × (2 ≤ max)))
nodes_joined n max pieces tips m left o last pieces_then other count more i j e bare (inl h) = inl (omega (arith, h, e, i.few, j.few))
nodes_joined n max pieces tips m left o last pieces_then other count more i j e bare (inr (inl h)) = inr (inl (omega (arith, h, i.spared, j.spared)))
nodes_joined n max pieces tips m left o last pieces_then other count more i j e bare (inr (inr h)) =
    let stays = bare h.0 (omega (arith, h.1)) in inr (inr (stays.0, omega (arith, h.1, stays.1), h.2))

-- a piece that is not closed takes no node, and its tips stay
pub none_closed : (n m tips left count result : ℕ) (b : Bool) → b ≡ false → m ≡ n + one_if b → result ≡ left_of b count → left + count ≡ tips + result → (m ≡ n) × (left ≡ tips)
none_closed n m tips left count result false same a e l = (omega (arith, a), omega (arith, e, l))
none_closed n m tips left count result true same a e l = cc

-- where no node is taken then, none was taken before, and none is closed
pub none_before : (n m : ℕ) (b : Bool) → m ≡ n + one_if b → m ≡ 0 → (n ≡ 0) × (b ≡ false)
none_before n m false a z = (omega (arith, a, z), refl)
none_before n m true a z = absurd (omega (arith, a, z))

-- the pieces are low, once the last two are one that is
pub low_joined : (ps : List StackedPiece) (i : ℕ) (whole : StackedPiece) → All IsOfLeaves ps → whole.height ≡ 1 → All IsOfLeaves (slice_set (take (i + 1) ps) i whole)
low_joined ps i whole h one = All-set IsOfLeaves (take (i + 1) ps) i whole (omega (arith, one), λ more. omega (arith, one)) (All-take IsOfLeaves (i + 1) ps h)

-- each part is
pub each_low : (ps : List StackedPiece) (i : ℕ) (x : StackedPiece) → All IsOfLeaves ps → i < length ps → x ≡ get_or ps i x → IsOfLeaves x
each_low ps i x h less is = subst IsOfLeaves (sym is) (All-get_or IsOfLeaves ps i x less h)

pub nodes_then : (l m o : Builder) (left right pieces more : ℕ) → IsClosed l.nodes (length l.tips.items) m.nodes (length m.tips.items) right →
    IsClosed m.nodes (length m.tips.items) o.nodes (length o.tips.items) left → o.layout ≡ l.layout → pieces + 1 ≡ length l.pieces.items →
    (l.nodes ≡ 0 → length l.tips.items ≤ 32 → (o.nodes ≡ 0) × (length o.tips.items ≡ length l.tips.items)) → HasNodesFor l more →
    (o.nodes + 2 * (pieces + more) ≤ o.layout.nodes) ⊎ ((o.nodes + length o.tips.items + more ≤ o.layout.nodes) ⊎ FitsOneNode o more)
nodes_then l m o left right pieces more i j same e bare h =
    subst (λ (y : Layout). (o.nodes + 2 * (pieces + more) ≤ y.nodes) ⊎ ((o.nodes + length o.tips.items + more ≤ y.nodes) ⊎
    ((o.nodes ≡ 0) × (length o.tips.items + more ≤ 32) × (2 ≤ y.nodes)))) (sym same)
    (nodes_joined l.nodes l.layout.nodes (length l.pieces.items) (length l.tips.items) m.nodes (length m.tips.items) o.nodes (length o.tips.items) pieces right left more i j e bare h)

-- ---- the two pieces
pub first_piece : (l : Builder) (xs : List Item) (s : IsStackOf l xs) (i : ℕ) (x : StackedPiece) → i + 1 ≡ length l.pieces.items → x ≡ get_or l.pieces.items i x →
    IsPiece l s.levels s.top None x.count 0
first_piece l xs s i x e is = record { tree = s.tree; count_is = top_count l s.levels s.top s.pieces i x e is; behind_is = refl }

next_piece : (l new : Builder) (m : LeftPiece) (ms : List LeftPiece) (top : Tree) (h : HasPieces l (m ∷ ms) top) (i : ℕ) (x : StackedPiece) → i + 2 ≡ length l.pieces.items → x ≡ get_or l.pieces.items i x →
    (y : Tree) (behind : ℕ) → MayTakePlaceOf y top behind → IsTreeOf new (whole_of (m ∷ ms) y) → IsPiece new ms m.tree (Some (left_piece y m.position)) x.count behind
next_piece l new m ms top h i x e is y behind st t = record { tree = t; count_is = next_count l m ms top h i x e is; behind_is = sym st.count_is }

pub second_piece : (l new : Builder) (ls : List LeftPiece) (top : Tree) (h : HasPieces l ls top) (i : ℕ) (x : StackedPiece) → i + 2 ≡ length l.pieces.items → x ≡ get_or l.pieces.items i x →
    (y : Tree) (behind : ℕ) → MayTakePlaceOf y top behind → IsTreeOf new (whole_of ls y) → (ms : List LeftPiece) × (z : Tree) × (right : Option LeftPiece) × IsPiece new ms z right x.count behind
second_piece l new [] top h i x e is y behind st t = absurd (let long = pieces_long l [] top h in omega (arith, e, long))
second_piece l new (m ∷ ms) top h i x e is y behind st t = (ms, m.tree, Some (left_piece y m.position), next_piece l new m ms top h i x e is y behind st t)

-- both are among the tips
pub both_fit : (l : Builder) (xs : List Item) (s : IsStackOf l xs) (i j : ℕ) (left right : StackedPiece) → i + 2 ≡ length l.pieces.items → left ≡ get_or l.pieces.items i left →
    j + 1 ≡ length l.pieces.items → right ≡ get_or l.pieces.items j right → right.count + left.count ≤ length l.tips.items
both_fit l xs s i j left right long left_is longer right_is =
    let p = first_piece l xs s j right longer right_is in
    let same : MayTakePlaceOf s.top s.top right.count = record { count_is = sym p.count_is; same_items = refl; same_first = refl; same_last = refl; above = λ q h. h } in
    let (ms, z, beside, q) = second_piece l l s.levels s.top s.pieces i left long left_is s.top right.count same s.tree in
    omega (arith, fits l ms z beside left.count right.count q)

-- no piece is closed while no node is taken and one takes all tips
pub stays_bare : (l m o : Builder) (xs : List Item) (s : IsStackOf l xs) (i j : ℕ) (left right : StackedPiece) (a b : Bool) (result behind : ℕ) → i + 2 ≡ length l.pieces.items →
    left ≡ get_or l.pieces.items i left → j + 1 ≡ length l.pieces.items → right ≡ get_or l.pieces.items j right →
    (IsOfLeaves left → IsOfLeaves right → left.count + right.count ≤ 32 → (a ≡ false) × (b ≡ false)) →
    m.nodes ≡ l.nodes + one_if b → behind ≡ left_of b right.count → vec_len m.tips + right.count ≡ vec_len l.tips + behind →
    o.nodes ≡ m.nodes + one_if a → result ≡ left_of a left.count → vec_len o.tips + left.count ≡ vec_len m.tips + result →
    l.nodes ≡ 0 → length l.tips.items ≤ 32 → (o.nodes ≡ 0) × (length o.tips.items ≡ length l.tips.items)
stays_bare l m o xs s i j left right a b result behind long left_is longer right_is even m_nodes b_is m_tips o_nodes r_is o_tips z small =
    let none = even (each_low l.pieces.items i left (s.low z) (omega (arith, long)) left_is) (each_low l.pieces.items j right (s.low z) (omega (arith, longer)) right_is)
    (omega (arith, small, both_fit l xs s i j left right long left_is longer right_is)) in
    let first = none_closed l.nodes m.nodes (vec_len l.tips) (vec_len m.tips) right.count behind b none.1 m_nodes b_is m_tips in
    let second = none_closed m.nodes o.nodes (vec_len m.tips) (vec_len o.tips) left.count result a none.0 o_nodes r_is o_tips in
    (omega (arith, first.0, second.0, z), omega (arith, first.1, second.1, l.tips.ok.0, o.tips.ok.0))

-- the stack then
module _ (l between closed new : Builder) (xs : List Item) (i : ℕ) (left whole : StackedPiece) (long : i + 2 ≡ length l.pieces.items) (left_is : left ≡ get_or l.pieces.items i left) (count behind : ℕ)
    (sum : whole.count ≡ count + behind) (small : count + behind ≤ 32) (same_tree : (t : Tree) → IsTreeOf closed t → IsTreeOf new t)
    (pieces_are : new.pieces.items ≡ slice_set (take (i + 1) l.pieces.items) i whole) (same_last : new.last ≡ l.last) (room : HasNodesFor new 0) (few : new.nodes + length new.tips.items ≤ length xs)
    (low : new.nodes ≡ 0 → All IsOfLeaves new.pieces.items) (bare : length xs ≤ 32 → new.nodes ≡ 0)
    (closes : (ms : List LeftPiece) (z : Tree) (right : Option LeftPiece) → IsPiece between ms z right left.count behind → (w : Tree) × MayTakePlaceOf w z count × IsTreeOf closed (whole_of ms (with_right w right))) where
  pub joined_stack : (ls : List LeftPiece) (top : Tree) → HasPieces l ls top → items (whole_of ls top) ≡ xs → l.last ≡ greatest_key (whole_of ls top) → (y : Tree) → MayTakePlaceOf y top behind →
      IsTreeOf between (whole_of ls y) → IsJoined new xs ls
  joined_stack [] top h content last y st t = absurd (let more = pieces_long l [] top h in omega (arith, long, more))
  joined_stack (m ∷ ms) top h content last y st t =
      let (w, sw, tw) = closes ms m.tree (Some (left_piece y m.position)) (next_piece l between m ms top h i left long left_is y behind st t) in
      let sizes : whole.count ≡ size (subtrie w) + size (subtrie y) = omega (arith, sum, sw.count_is, st.count_is) in
      record {
        joint = m;
        stack = record {
          levels = ms;
          top = fork m.position w y;
          tree = same_tree (whole_of ms (fork m.position w y)) tw;
          pieces = record {
            counts_are = ap (map count_of) pieces_are ∙ counts_joined m ms top w y m.position i l.pieces.items whole h.counts_are long sizes;
            few = few_joined m ms top w y m.position h.few (omega (arith, small, sw.count_is, st.count_is));
          };
          content = items_same ms (fork m.position w y) (fork m.position m.tree top)
              (ap (λ us. us ++ items y) sw.same_items ∙ ap (λ us. items m.tree ++ us) st.same_items) ∙ content;
          last = same_last ∙ (last ∙ (last_joined ms (fork m.position m.tree top) ∙ (sym st.same_last ∙ sym (last_joined ms (fork m.position w y)))));
          room = room;
          few = few;
          low = low;
          bare = bare;
        };
        were = refl;
        above = λ p h. h;
      }

-- ---- the tips of the piece at the top
pub top_fits : (l : Builder) (ls : List LeftPiece) (top : Tree) → IsTreeOf l (whole_of ls top) → length (front_tips ls) + size (subtrie top) ≡ length l.tips.items
top_fits l ls top t = let whole = fits l ls top None (size (subtrie top)) 0 (record { tree = t; count_is = refl; behind_is = refl }) in omega (arith, whole)

first_tip : (l : Builder) (ls : List LeftPiece) (top : Tree) → IsTreeOf l (whole_of ls top) → (i : ℕ) (x : Tip) → i + size (subtrie top) ≡ length l.tips.items → x ≡ get_or l.tips.items i x →
    x ≡ tip (position_of ls) (head_entry (subtrie top))
first_tip l ls top t i x at is =
    let start : length (front_tips ls) ≡ i = omega (arith, at, top_fits l ls top t) in
    is ∙ (ap (λ ss. get_or ss i x) (t.tips_are ∙ tips_joined ls top) ∙
    (get_or-append_right (front_tips ls) (tips_of (position_of ls) (subtrie top)) i i x start (omega arith) ∙
    (ap (λ n. get_or (tips_of (position_of ls) (subtrie top)) n x) (let z : i - i ≡ 0 = omega arith in z) ∙
    ap (λ ss. get_or ss 0 x) (piece_split (position_of ls) (subtrie top)))))

pub fork_at_top : (l : Builder) (ls : List LeftPiece) (top : Tree) → IsTreeOf l (whole_of ls top) → (i : ℕ) (x : Tip) → i + size (subtrie top) ≡ length l.tips.items → x ≡ get_or l.tips.items i x →
    x.fork ≡ position_of ls
fork_at_top l ls top t i x at is = ap (λ (s : Tip). s.fork) (first_tip l ls top t i x at is)

-- ---- forks behind a position
-- the last key has 1 where the fork before the piece at the top is
pub last_bit : (l : Builder) (xs : List Item) (m : LeftPiece) (ms : List LeftPiece) (top : Tree) → IsTreeOf l (whole_of (m ∷ ms) top) → bit (greatest_key top) m.position ≡ true
last_bit l xs m ms top t =
    let trie = trie_if_local (fork m.position m.tree top) (local_inner ms (fork m.position m.tree top) t.ordered) in trie.4 (greatest_key top) (has_last top)

last_is_set : (l : Builder) (ls : List LeftPiece) (top : Tree) (m : LeftPiece) (ms : List LeftPiece) → ls ≡ m ∷ ms → IsTreeOf l (whole_of ls top) → l.last ≡ greatest_key (whole_of ls top) → bit l.last m.position ≡ true
last_is_set l ls top m ms e t last =
    ap (λ k. bit k m.position) (last ∙ last_joined ls top) ∙ last_bit l [] m ms top (subst (λ us. IsTreeOf l (whole_of us top)) e t)

-- a loader with pieces has a stack
pub stack_of : (l : Builder) (xs : List Item) (p : ℕ) → 0 < length l.pieces.items → CanJoin l xs p → MayStandBeside l xs p
stack_of l xs p h (inl e) = absurd (let none = ap length e.no_pieces in omega (arith, h, none))
stack_of l xs p h (inr r) = r

-- the piece at the top has tips, which are among the loader's
pub top_within : (l : Builder) (xs : List Item) (s : IsStackOf l xs) (i : ℕ) (x : StackedPiece) → i + 1 ≡ length l.pieces.items → x ≡ get_or l.pieces.items i x →
    (1 ≤ x.count) × (x.count ≤ length l.tips.items)
top_within l xs s i x e is =
    let count = top_count l s.levels s.top s.pieces i x e is in let whole = top_fits l s.levels s.top s.tree in let some = size_pos (subtrie s.top) in
    (omega (arith, count, some), omega (arith, count, whole))

no_levels : (ls : List LeftPiece) → length ls ≡ 0 → ls ≡ []
no_levels [] e = refl
no_levels (m ∷ ms) e = absurd (omega (arith, e))

-- no piece is left that may be joined
pub parting_alone : (l : Builder) (xs : List Item) (p : ℕ) → length l.pieces.items ≤ 1 → CanJoin l xs p → CanPart l xs p
parting_alone l xs p h (inl e) = inl e
parting_alone l xs p h (inr r) = inr (record {
  stack = r.stack;
  above = r.above;
  low = inl (no_levels r.stack.levels (omega (arith, h, pieces_long l r.stack.levels r.stack.top r.stack.pieces)));
})

pub parting_low : (l : Builder) (xs : List Item) (p i : ℕ) (x : StackedPiece) (j : ℕ) (y : Tip) → i + 1 ≡ length l.pieces.items → x ≡ get_or l.pieces.items i x →
    j + x.count ≡ length l.tips.items → y ≡ get_or l.tips.items j y → y.fork < p → CanJoin l xs p → CanPart l xs p
parting_low l xs p i x j y e is at here less can =
    let r = stack_of l xs p (omega (arith, e)) can in let s = r.stack in let count = top_count l s.levels s.top s.pieces i x e is in
    let fork = fork_at_top l s.levels s.top s.tree j y (omega (arith, at, count)) here in
    inr (record { stack = s; above = r.above; low = inr (omega (arith, less, fork)) })

-- the joined piece may stand beside the leaf, too
pub next_ready : (l new : Builder) (xs : List Item) (p i : ℕ) (x : StackedPiece) (j : ℕ) (y : Tip) → i + 1 ≡ length l.pieces.items → x ≡ get_or l.pieces.items i x →
    j + x.count ≡ length l.tips.items → y ≡ get_or l.tips.items j y → p ≤ y.fork → new.last ≡ l.last → (r : MayStandBeside l xs p) → IsJoined new xs r.stack.levels → MayStandBeside new xs p
next_ready l new xs p i x j y e is at here less last r joint =
    let s = r.stack in let count = top_count l s.levels s.top s.pieces i x e is in
    let fork = fork_at_top l s.levels s.top s.tree j y (omega (arith, at, count)) here in
    let same : position_of s.levels ≡ joint.joint.position = ap position_of joint.were in
    let set : bit l.last joint.joint.position ≡ true = last_is_set l s.levels s.top joint.joint joint.stack.levels joint.were s.tree s.last in
    elim (cases_order p joint.joint.position) [
      | inl equal ↦ absurd (not_both (bit l.last p) r.zero (ap (bit l.last) equal ∙ set))
      | inr o ↦ elim o [
        | inl lower ↦ record { stack = joint.stack; above = joint.above p lower; zero = ap (λ k. bit k p) last ∙ r.zero }
        | inr higher ↦ absurd (omega (arith, higher, less, fork, same))
      ]
    ]
  where
    not_both : (b : Bool) → b ≡ false → b ≡ true → ⊥
    not_both b e f = cc

-- the one piece that is left is the tree
pub alone : (l : Builder) (xs : List Item) → IsStackOf l xs → length l.pieces.items ≤ 1 → (t : Tree) × IsOnePiece l t xs
alone l xs s h =
    let long = pieces_long l s.levels s.top s.pieces in let e : s.levels ≡ [] = no_levels s.levels (omega (arith, h, long)) in (
      s.top,
      record {
        tree = subst (λ ls. IsTreeOf l (whole_of ls s.top)) e s.tree;
        content = subst (λ ls. items (whole_of ls s.top) ≡ xs) e s.content;
        few = All-head (λ n. n ≤ 32) (size (subtrie s.top)) [] (subst (λ ls. All (λ n. n ≤ 32) (counts ls s.top)) e s.pieces.few);
        room = elim s.room [
          | inl a ↦ inl (omega (arith, a, long))
          | inr b ↦ elim b [ inl d ↦ inr (omega (arith, d)) | inr o ↦ inl (omega (arith, o.0, o.2)) ]
        ];
      },
    )

-- a loader with pieces has a stack
pub stack_loaded : (l : Builder) (xs : List Item) → 0 < length l.pieces.items → IsLoading l xs → IsStackOf l xs
stack_loaded l xs h (c, inl e) = absurd (let none = ap length e.no_pieces in omega (arith, h, none))
stack_loaded l xs h (c, inr r) = r.stack

pub none_loaded : (l : Builder) (xs : List Item) → length l.pieces.items ≡ 0 → IsLoading l xs → HasTakenNone l xs
none_loaded l xs h (c, inl e) = e
none_loaded l xs h (c, inr r) = absurd (let long = pieces_long l r.stack.levels r.stack.top r.stack.pieces in omega (arith, h, long))
