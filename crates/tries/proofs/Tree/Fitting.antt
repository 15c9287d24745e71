-- A node's fixed part fits its subtrie whatever entries stand at the places, and the nodes of a tree are lawful nodes.
use Rattle.tries.proofs.Common.{◌≡◌, ℕ, ◌+◌, ◌*◌, ◌<◌, ◌≤◌, arith, true, List, ◌∷◌, ◌++◌, Bool, refl, ap, ◌∙◌, subst, [], map, ◌||◌, eqb, MAX_BYTES, size, paths, uses, UsesOnly, RisesFrom, All, IsEntry, height_of, Leaf, Node, places}
use Rattle.node_tries.specs.Positions.{all}
use Rattle.partial_keys.specs.Rows.{row_of}
use Rattle.std.proofs.lemmas.List.Elements.{All-append, All-from_recursion}
use Rattle.tries.specs.Tree.{Subtrie, Fixed, first_position, IsFit, Tree, leaf, node, fork, subtrie, IsLower, IsBuilt}
use Rattle.tries.specs.Place.{Swap, swap, in_zero, in_one}

size_swap : {x y : Subtrie} → Swap x y → size x ≡ size y
size_swap swap = refl
size_swap (in_zero {b = b} s) = ap (λ n. n + size b) (size_swap s)
size_swap (in_one {a = a} s) = ap (λ n. size a + n) (size_swap s)

paths_swap : {x y : Subtrie} → Swap x y → paths x ≡ paths y
paths_swap swap = refl
paths_swap (in_zero {p = p} {b = b} s) = ap (λ (u : List (List ℕ)). u ++ map (λ path. p ∷ path) (paths b)) (paths_swap s)
paths_swap (in_one {p = p} {a = a} s) = ap (λ (u : List (List ℕ)). paths a ++ map (λ path. p ∷ path) u) (paths_swap s)

uses_swap : {x y : Subtrie} → Swap x y → uses x ≡ uses y
uses_swap swap = refl
uses_swap (in_zero {p = p} {b = b} s) = ap (λ (u : ℕ → Bool). λ q. eqb p q || (u q || uses b q)) (uses_swap s)
uses_swap (in_one {p = p} {a = a} s) = ap (λ (u : ℕ → Bool). λ q. eqb p q || (uses a q || u q)) (uses_swap s)

only_swap : {x y : Subtrie} → Swap x y → (ps : List ℕ) → UsesOnly ps x → UsesOnly ps y
only_swap swap ps u = tt
only_swap (in_zero s) ps u = (u.0, only_swap s ps u.1, u.2)
only_swap (in_one s) ps u = (u.0, u.1, only_swap s ps u.2)

rises_swap : {x y : Subtrie} → Swap x y → (low : ℕ) → RisesFrom low x → RisesFrom low y
rises_swap swap low r = tt
rises_swap (in_zero {p = p} s) low r = (r.0, rises_swap s (p + 1) r.1, r.2)
rises_swap (in_one {p = p} s) low r = (r.0, r.1, rises_swap s (p + 1) r.2)

first_swap : {x y : Subtrie} → Swap x y → first_position x ≡ first_position y
first_swap swap = refl
first_swap (in_zero s) = refl
first_swap (in_one s) = refl

pub fit_swap : {x y : Subtrie} → Swap x y → (f : Fixed) → IsFit f x → IsFit f y
fit_swap {x} {y} s f i = record {
  positions = i.positions;
  shows = record {
    few = i.shows.few;
    columns_rise = i.shows.columns_rise;
    forks_at_columns = only_swap s f.columns i.shows.forks_at_columns;
    columns_used = subst (λ (u : ℕ → Bool). all u f.columns ≡ true) (uses_swap s) i.shows.columns_used;
    paths_rise = rises_swap s 0 i.shows.paths_rise;
    rows_are = i.shows.rows_are ∙ ap (λ (u : List (List ℕ)). map (row_of f.columns) u) (paths_swap s);
    entries_are = refl;
  };
  room = subst (λ n. n ≤ 32) (size_swap s) i.room;
  bound = subst (λ n. f.height + n ≤ 9 * MAX_BYTES) (first_swap s) i.bound;
}

-- A node is not of height 0.
pub lower_positive : (h : ℕ) (b : Tree) → IsLower h b → 0 < h
lower_positive h (leaf n k v) l = l
lower_positive h (node n x b) l = omega (arith, l)
lower_positive h (fork p a b) l = lower_positive h a l.0

-- What stands at the places of a built tree are entries, and lower than the tree is.
pub children_are : (b : Tree) → IsBuilt b → All IsEntry (places (subtrie b))
children_are (leaf n k v) i = All-from_recursion IsEntry (Leaf n ∷ []) (tt, tt)
children_are (node n x b) i =
    let l = lower_positive x.height b i.1 in let h = i.3.bound in let m : MAX_BYTES ≡ 240 = refl in
    All-from_recursion IsEntry (Node n x.height ∷ []) ((l, omega arith), tt)
children_are (fork p a b) i = All-append IsEntry (places (subtrie a)) (places (subtrie b)) (children_are a i.0) (children_are b i.1)

pub all_above : (h : ℕ) (b : Tree) → IsLower h b → All (λ e. height_of e < h) (places (subtrie b))
all_above h (leaf n k v) l = All-from_recursion (λ e. height_of e < h) (Leaf n ∷ []) (l, tt)
all_above h (node n x b) l = All-from_recursion (λ e. height_of e < h) (Node n x.height ∷ []) (l, tt)
all_above h (fork p a b) l = All-append (λ e. height_of e < h) (places (subtrie a)) (places (subtrie b)) (all_above h a l.0) (all_above h b l.1)
