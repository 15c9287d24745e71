-- The descent of a writer below its lock; and where nothing has changed since.
pub mod Descent
use Rattle.version_laws.proofs.Common.{◌≡◌, ◌⊎◌, inl, inr, ℕ, ◌<◌, ◌≤◌, false, true, refl, ap, sym, ◌∙◌, subst, arith, Some, Bool, false≢true, cases_lt, Entry, Node, Place, Key, bit, AgreeBelow, Fixed, Subtrie, Tree, leaf, node, fork, subtrie, Has, IsTrie, IsFork, IsBuilt, Within, here, inside, zero_side, one_side, first_position, child, seek, Kin, tips, forks, found, Item, first, spot, shape, has_first, has_within, within_trans, trie_within, built_within, rises, within_child, Past, Stands, StoodWithKeys, KeepsFixedWordsSince, a_node, a_leaf, lower_within, spot_shape, found_child, some_same, none-some}
use Rattle.version_laws.specs.Scan.{IsRooted, IsBlank, at_place, IsPlaced}
use Rattle.version_laws.specs.Ways.{IsOnWay, IsWayFrom, from_leaf, from_node, WayBegins, WayGoesOn, WayEnds, WayOfLeaf, WayIsBelow, StillRooted, StillPlaced, StillGrows, OneBody, RootedSame, PlacedSame, FoundSame}
use Rattle.version_laws.specs.Writer.{BeganAt, IsWayBelow, at_leaf, below}
use Rattle.version_laws.proofs.Scan.{node_of, leaf_of, within_at, placed_stands, at_spot, shaped, place_same}

-- keys of a body that is kin to one whose keys agree with `like` before r agree with it too
kin_like : (r : ℕ) (like : Key) {b d : Tree} → Kin b d → IsFork b → IsTrie b → ((y : Key) → Has b y → AgreeBelow r like y) → (y : Key) → Has d y → AgreeBelow r like y
kin_like r like (tips {a = leaf n k v} x y) i t f z h = elim i [ ]
kin_like r like (tips {a = node n k v} x y) i t f z h = elim i [ ]
kin_like r like (tips {a = fork n k v} x y) i t f z h = elim x [ ]
kin_like r like (forks {p = p} {a = a} {b = b} e x y) i t f z h = λ q low. f (first a) (inl (has_first a)) q low ∙ e (first a) z (inl (has_first a)) h q (let g : r ≤ p = go (cases_lt p r) in omega arith)
  where
    go : (p < r) ⊎ (r ≤ p) → r ≤ p
    go (inr h) = h
    go (inl h) = absurd (false≢true (sym (t.3 (first a) (has_first a)) ∙ (sym (f (first a) (inl (has_first a)) p h) ∙ (f (first b) (inr (has_first b)) p h ∙ t.4 (first b) (has_first b)))))

near_placed : (s : Past) (m : ℕ) → KeepsFixedWordsSince s m → (r : ℕ) (like : Key) (n h j : ℕ) (e : Entry) →
    StoodWithKeys s m (λ y. AgreeBelow r like y) (Node n h) → IsPlaced s m n j e → StoodWithKeys s m (λ y. AgreeBelow r like y) e
near_placed s m steady r like n h j e (o, u, lo, hi, st, pg, f) (b, stood, low, pe) = go (node_of n h u pg)
  where
    go : (x : Fixed) × (d : Tree) × (u ≡ node n x d) × (x.height ≡ h) → StoodWithKeys s m (λ y. AgreeBelow r like y) e
    go (x, d, is, high) =
        let su : Stands s o (a_node n) (node n x d) = subst (λ z. Stands s o (a_node n) z) is st in
        let built : IsBuilt (node n x d) = built_within su.within (steady.trees o su.tree hi su.is_version).1 in
        let kin : Kin d b = (steady.same (a_node n) o stood.at (node n x d) (node n stood.fixed b) lo hi stood.since stood.until su stood.stands).1 in
        let keys : (y : Key) → Has d y → AgreeBelow r like y = λ y a. f y (subst (λ z. Has z y) (sym is) a) in (
          stood.at,
          at_place b j,
          stood.since,
          stood.until,
          placed_stands s m n j b stood e pe,
          pe,
          λ y a. kin_like r like kin built.0 (trie_within (within_trans (inside here) su.within) (steady.trees o su.tree hi su.is_version).0) keys y (has_within (within_at b j) y a),
        )

pub way_goes_on : WayGoesOn
way_goes_on s m steady r a n h j e (like, begun, marked) placed = (like, begun, near_placed s m steady r like n h j e marked placed)

pub way_begins : WayBegins
way_begins s m steady a h r x (n, u, lo, hi, st, pg) (b, stood, shape_is) first_is =
    let tree = steady.trees stood.at stood.stands.tree stood.until stood.stands.is_version in
    let built = built_within stood.stands.within tree.1 in
    let (y, d, is, high) = node_of a h u pg in
    let su : Stands s n (a_node a) (node a y d) = subst (λ z. Stands s n (a_node a) z) is st in
    let same = (steady.same (a_node a) n stood.at (node a y d) (node a stood.fixed b) lo hi stood.since stood.until su stood.stands).0 in
    from_body b stood.stands built.0 (trie_within (within_trans (inside here) stood.stands.within) tree.0) shape_is
    (ap (λ (z : Fixed). z.height) (sym same) ∙ high)
  where
    from_body : (b : Tree) → Stands s stood.at (a_node a) (node a stood.fixed b) → IsFork b → IsTrie b → shape (subtrie b) ≡ x → stood.fixed.height ≡ h → IsOnWay s m r a (Node a h)
    from_body (leaf i k v) stands two trie is high = absurd two
    from_body (node i k v) stands two trie is high = absurd two
    from_body (fork f c e) stands two trie is high =
        let at : f ≡ r = ap first_position is ∙ first_is in
        let like : Key = first c in (
          like,
          subst (λ z. BeganAt s m z like a) at (stood.at, stood.fixed, c, e, stood.since, stood.until, stands, inl (has_first c)),
          (
            stood.at,
            node a stood.fixed (fork f c e),
            stood.since,
            stood.until,
            stands,
            ap (λ q. Place (Node a q)) high,
            λ y has. subst (λ z. AgreeBelow z like y) at (trie.2 like y (inl (has_first c)) has),
          ),
        )

pub way_ends : WayEnds
way_ends s m steady r a h j l v (like, begun, (n, u, lo, hi, st, pg, f)) (o, lo2, hi2, read) =
    let (k, w, is) = leaf_of j u pg in
    let su : Stands s n (a_leaf j) (leaf j k w) = subst (λ z. Stands s n (a_leaf j) z) is st in
    let same : k ≡ l = (steady.same (a_leaf j) n o (leaf j k w) (leaf j l v) lo hi lo2 hi2 su read) in
    from_node a h r like begun (subst (λ z. AgreeBelow r like z) same (f k (subst (λ z. Has z k) (sym is) refl)))

pub way_of_leaf : WayOfLeaf
way_of_leaf s m j l v (n, lo, hi, st) = from_leaf j (n, leaf j l v, lo, hi, st, refl, λ y h. h)

way_at : (s : Past) (m : ℕ) (k : Key) (x : Subtrie) (l : Key) (e : Entry) → seek k x ≡ e → IsWayFrom s m l e → IsWayBelow s m k x l
way_at s m k x l e is (from_leaf j f) = at_leaf j is f
way_at s m k x l e is (from_node a h r like begun agree) = below a h r like is begun agree

pub way_is_below : WayIsBelow
way_is_below s m k x l w = way_at s m k x l (seek k x) refl w

-- In one version a node stands at one place

-- a key of one side of a fork and one of the other don't agree beyond it
apart : (p : ℕ) (u : Bool) {q : ℕ} {c d t : Tree} → Within (fork q c d) t → IsTrie t → ((k l : Key) → Has t k → Has t l → AgreeBelow p k l) → ((k : Key) → Has t k → bit k p ≡ u) → (x : Key) →
    AgreeBelow q (first c) x → bit x p ≡ u
apart p u {c = c} w t same side x agree = sym (agree p (rises u w t same side)) ∙ side (first c) (has_within w (first c) (inl (has_first c)))

kin_apart : (p : ℕ) (u : Bool) {n : ℕ} {x : Fixed} {b c t : Tree} → Within (node n x b) t → IsFork b → IsTrie t → ((k l : Key) → Has t k → Has t l → AgreeBelow p k l) → ((k : Key) → Has t k → bit k p ≡ u) →
    Kin b c → (z : Key) → Has c z → bit z p ≡ u
kin_apart p u {b = leaf n k v} w f t same side kin z h = elim f [ ]
kin_apart p u {b = node n k v} w f t same side kin z h = elim f [ ]
kin_apart p u {b = fork q a d} w f t same side (tips x y) z h = elim x [ ]
kin_apart p u {b = fork q a d} w f t same side (forks e x y) z h = apart p u (within_trans (inside here) w) t same side z (e (first a) z (inl (has_first a)) h)

body_same : {n m : ℕ} {x y : Fixed} {b c : Tree} → node n x b ≡ node m y c → (x ≡ y) × (b ≡ c)
body_same e = (cc, cc)

-- a node is not below itself
not_under : (n : ℕ) (x : Fixed) (b c : Tree) {a : ℕ} {y : Fixed} {d v : Tree} → node a y d ≡ node n x b → v ≡ node n x c → Within v d → IsBuilt (node a y d) → ⊥
not_under n x b c {a} {y} {d} p q w g =
    let h : x.height < y.height = lower_within y.height (subst (λ z. Within z d) q w) g.1 g.2 in
    let e = ap (λ (z : Fixed). z.height) (body_same p).0 in omega arith

same_body : (n : ℕ) (x : Fixed) (b c : Tree) {u v t : Tree} → u ≡ node n x b → v ≡ node n x c → Within u t → Within v t → IsTrie t → IsBuilt t → Kin b c → b ≡ c
same_body n x b c p q here here i g kin = (body_same (sym p ∙ q)).1
same_body n x b c p q here (inside w) i g kin = absurd (not_under n x b c p q w g)
same_body n x b c p q (inside v) here i g kin = absurd (not_under n x c b q p v g)
same_body n x b c p q here (zero_side w) i g kin = absurd cc
same_body n x b c p q here (one_side w) i g kin = absurd cc
same_body n x b c p q (zero_side v) here i g kin = absurd cc
same_body n x b c p q (one_side v) here i g kin = absurd cc
same_body n x b c p q (inside v) (inside w) i g kin = same_body n x b c p q v w i g.2 kin
same_body n x b c p q (zero_side v) (zero_side w) i g kin = same_body n x b c p q v w i.0 g.0 kin
same_body n x b c p q (one_side v) (one_side w) i g kin = same_body n x b c p q v w i.1 g.1 kin
same_body n x b c e q (zero_side {p = p} {a = a} {b = d} v) (one_side w) i g kin =
    let v' : Within (node n x b) a = subst (λ z. Within z a) e v in let w' : Within (node n x c) d = subst (λ z. Within z d) q w in
    absurd (false≢true (sym (kin_apart p false v' (built_within v' g.0).0 i.0 (λ k l y z. i.2 k l (inl y) (inl z)) i.3 kin (first c) (has_first c)) ∙ i.4 (first c) (has_within w' (first c) (has_first c))))
same_body n x b c e q (one_side {p = p} {a = a} {b = d} v) (zero_side w) i g kin =
    let v' : Within (node n x b) d = subst (λ z. Within z d) e v in let w' : Within (node n x c) a = subst (λ z. Within z a) q w in
    absurd (false≢true (sym (i.3 (first c) (has_within w' (first c) (has_first c))) ∙ kin_apart p true v' (built_within v' g.1).0 i.1 (λ k l y z. i.2 k l (inr y) (inr z)) i.4 kin (first c) (has_first c)))

-- If nothing has changed since m, the search is at the entry

pub still_grows : StillGrows
still_grows a b g m k e low f same =
    let now : m ≡ a.now = (let l = g.longer in omega arith) in
    let (t, u, is, w, pg, o) = f now in (t, u, g.kept m low ∙ is, w, pg, o)

pub still_placed : StillPlaced
still_placed s m steady seen k n h j x e shape_is at (b, stood, low, pe) f same = go (f same)
  where
    go : (t : Tree) × (u : Tree) × (s.version m ≡ Some t) × Within u t × (subtrie u ≡ Place (Node n h)) × (found k u ≡ found k t) →
        (t : Tree) × (u : Tree) × (s.version m ≡ Some t) × Within u t × (subtrie u ≡ Place e) × (found k u ≡ found k t)
    go (t, u, is, w, pg, o) =
        let (y, d, u_is, high) = node_of n h u pg in
        let v : Within (node n y d) t = subst (λ z. Within z t) u_is w in
        let now : stood.at ≡ m = (let a = stood.since in let c = stood.until in omega arith) in
        let tree : stood.stands.tree ≡ t = some_same (sym stood.stands.is_version ∙ (ap s.version now ∙ is)) in
        let st : Stands s m (a_node n) (node n y d) = record { tree = t; is_version = is; within = v; is_record = refl } in
        let both = steady.same (a_node n) m stood.at (node n y d) (node n stood.fixed b) (omega arith) seen stood.since stood.until st stood.stands in
        let w2 : Within (node n y b) t = subst (λ z. Within (node n z b) t) (sym both.0) (subst (λ z. Within (node n stood.fixed b) z) tree stood.stands.within) in
        let trees = steady.trees m t seen is in
        let body : d ≡ b = same_body n y d b refl refl v w2 trees.0 trees.1 both.1 in
        let spot_is : spot k (subtrie b) ≡ j = sym (spot_shape k (subtrie b)) ∙ (ap (spot k) (shaped s m steady n x b shape_is stood) ∙ at) in
        let child_is : child k d ≡ at_place b j = ap (child k) body ∙ (at_spot k b ∙ ap (at_place b) spot_is) in (
          t,
          child k d,
          is,
          within_trans (within_trans (within_child k d) (inside here)) v,
          ap subtrie child_is ∙ pe,
          found_child k d ∙ (ap (found k) (sym u_is) ∙ o),
        )

pub one_body : OneBody
one_body n x b c t v w trie built kin = same_body n x b c refl refl v w trie built kin

-- Two reads, where nothing has changed

pub still_rooted : StillRooted
still_rooted s m k e (n, t, lo, hi, is, pg) same =
    let now : n ≡ m = omega arith in
    (t, t, ap s.version (sym now) ∙ is, here, pg, refl)

pub rooted_same : RootedSame
rooted_same s m same = (both, not_blank)
  where
    at_now : (n : ℕ) → m ≤ n → n ≤ s.now → s.version n ≡ s.version m
    at_now n lo hi = let e : n ≡ m = omega arith in ap s.version e

    both : (e f : Entry) → IsRooted s m e → IsRooted s m f → e ≡ f
    both e f (n, t, lo, hi, is, pg) (o, u, lo2, hi2, is2, pg2) =
        let one : t ≡ u = some_same (sym is ∙ (at_now n lo hi ∙ (sym (at_now o lo2 hi2) ∙ is2))) in
        place_same (sym pg ∙ (ap subtrie one ∙ pg2))

    not_blank : (e : Entry) → IsRooted s m e → IsBlank s m → ⊥
    not_blank e (n, t, lo, hi, is, pg) (o, lo2, hi2, none) = none-some t (sym (sym is ∙ (at_now n lo hi ∙ (sym (at_now o lo2 hi2) ∙ none))))

pub placed_same : PlacedSame
placed_same s m steady same n j e f (b, stood, low, pe) (c, other, low2, pf) =
    let lo = stood.since in let hi = stood.until in let lo2 = other.since in let hi2 = other.until in
    let now : stood.at ≡ m = omega arith in
    let now2 : other.at ≡ m = omega arith in
    let one : stood.stands.tree ≡ other.stands.tree = some_same (sym stood.stands.is_version ∙ (ap s.version (now ∙ sym now2) ∙ other.stands.is_version)) in
    let trees = steady.trees stood.at stood.stands.tree stood.until stood.stands.is_version in
    let both = steady.same (a_node n) stood.at other.at (node n stood.fixed b) (node n other.fixed c) lo hi lo2 hi2 stood.stands other.stands in
    let there : Within (node n stood.fixed c) stood.stands.tree = subst (λ z. Within (node n z c) stood.stands.tree) (sym both.0) (subst (λ z. Within (node n other.fixed c) z) (sym one) other.stands.within) in
    let body : b ≡ c = same_body n stood.fixed b c refl refl stood.stands.within there trees.0 trees.1 both.1 in
    place_same (sym pe ∙ (ap (λ z. subtrie (at_place z j)) body ∙ pf))

pub found_same : FoundSame
found_same s m same k i j f g =
    let (t, u, is, w, pg, o) = f same in
    let (t2, u2, is2, w2, pg2, o2) = g same in
    let one : t ≡ t2 = some_same (sym is ∙ is2) in
    let (l, v, leaf_is) = leaf_of i u pg in
    let (l2, v2, leaf_is2) = leaf_of j u2 pg2 in
    ap (λ (z : Item). z.number) (ap (found k) (sym leaf_is) ∙ (o ∙ (ap (found k) one ∙ (sym o2 ∙ ap (found k) leaf_is2))))
