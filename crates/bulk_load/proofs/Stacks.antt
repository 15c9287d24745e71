-- The whole tree of a stack: what stays where its last piece becomes another tree.
pub mod Closing
pub mod Joining
use Rattle.bulk_load.proofs.Common.{◌≡◌, ◌⊎◌, inl, inr, ℕ, List, [], ◌∷◌, ◌++◌, length, refl, sym, subst, ◌∙◌, append_assoc, length-append, Piece, Place, Fork, size, Entry, IsParted, Item, items, first, IsAbove, IsLocal, Tree, fork, subtrie, IsBuilt, Heap, IsShown, Links, Rec}
use Rattle.bulk_load.specs.Tips.{tips_of}
use Rattle.bulk_load.specs.Stacks.{LeftPiece, whole_of, position_of, front_tips}
use Rattle.bulk_load.specs.Loading.{greatest_key}

-- ---- content
pub fronts : List LeftPiece → List Item
fronts [] = []
fronts (l ∷ ls) = fronts ls ++ items l.tree

pub items_joined : (ls : List LeftPiece) (t : Tree) → items (whole_of ls t) ≡ fronts ls ++ items t
unfolding fronts
items_joined [] t = refl
items_joined (l ∷ ls) t = items_joined ls (fork l.position l.tree t) ∙ sym (append_assoc (fronts ls) (items l.tree) (items t))

pub last_joined : (ls : List LeftPiece) (t : Tree) → greatest_key (whole_of ls t) ≡ greatest_key t
last_joined [] t = refl
last_joined (l ∷ ls) t = last_joined ls (fork l.position l.tree t)

-- ---- tips
pub tips_joined : (ls : List LeftPiece) (t : Tree) → tips_of 0 (subtrie (whole_of ls t)) ≡ front_tips ls ++ tips_of (position_of ls) (subtrie t)
tips_joined [] t = refl
tips_joined (l ∷ ls) t =
    tips_joined ls (fork l.position l.tree t) ∙ sym (append_assoc (front_tips ls) (tips_of (position_of ls) (subtrie l.tree)) (tips_of l.position (subtrie t)))

pub length_tips : (p : ℕ) (x : Piece Entry) → length (tips_of p x) ≡ size x
length_tips p (Place e) = refl
length_tips p (Fork q a b) = rw (length-append (tips_of p a) (tips_of q b), length_tips p a, length_tips q b) refl

-- ---- heights and words
pub built_inner : (ls : List LeftPiece) (t : Tree) → IsBuilt (whole_of ls t) → IsBuilt t
built_inner [] t b = b
built_inner (l ∷ ls) t b = (built_inner ls (fork l.position l.tree t) b).1

pub built_joined : (ls : List LeftPiece) (t u : Tree) → (IsBuilt t → IsBuilt u) → IsBuilt (whole_of ls t) → IsBuilt (whole_of ls u)
built_joined [] t u f b = f b
built_joined (l ∷ ls) t u f b = built_joined ls (fork l.position l.tree t) (fork l.position l.tree u) (λ g. (g.0, f g.1)) b

pub shown_joined : (m : Heap) (ls : List LeftPiece) (t u : Tree) → (IsShown m t → IsShown m u) → IsShown m (whole_of ls t) → IsShown m (whole_of ls u)
shown_joined m [] t u f b = f b
shown_joined m (l ∷ ls) t u f b = shown_joined m ls (fork l.position l.tree t) (fork l.position l.tree u) (λ g. (g.0, f g.1)) b

-- ---- records
pub links_inner : (ls : List LeftPiece) (t : Tree) (r : Rec) → Links t r → Links (whole_of ls t) r
links_inner [] t r h = h
links_inner (l ∷ ls) t r h = links_inner ls (fork l.position l.tree t) r (inr h)

pub links_kept : (ls : List LeftPiece) (t u : Tree) (r : Rec) → (Links t r → Links u r) → Links (whole_of ls t) r → Links (whole_of ls u) r
links_kept [] t u r f h = f h
links_kept (l ∷ ls) t u r f h =
    links_kept ls (fork l.position l.tree t) (fork l.position l.tree u) r (λ g. elim g [ inl a ↦ inl a | inr b ↦ inr (f b) ]) h

pub links_added : (X : Type 0) (ls : List LeftPiece) (t u : Tree) (r : Rec) → (Links u r → Links t r ⊎ X) → Links (whole_of ls u) r → Links (whole_of ls t) r ⊎ X
links_added X [] t u r f h = f h
links_added X (l ∷ ls) t u r f h = links_added X ls (fork l.position l.tree t) (fork l.position l.tree u) r
    (λ g. elim g [ inl a ↦ inl (inl a) | inr b ↦ elim (f b) [ inl c ↦ inl (inr c) | inr x ↦ inr x ] ]) h

-- ---- order
pub local_inner : (ls : List LeftPiece) (t : Tree) → IsLocal (whole_of ls t) → IsLocal t
local_inner [] t i = i
local_inner (l ∷ ls) t i = (local_inner ls (fork l.position l.tree t) i).1

-- the fork before the last tree is before its forks
abbrev pub IsAboveHead : List LeftPiece → Tree → Type 0
IsAboveHead [] t = Unit {0}
IsAboveHead (l ∷ ls) t = IsAbove l.position t

pub above_head : (ls : List LeftPiece) (t : Tree) → IsLocal (whole_of ls t) → IsAboveHead ls t
above_head [] t i = tt
above_head (l ∷ ls) t i = (local_inner ls (fork l.position l.tree t) i).3

same_head : (ls : List LeftPiece) (p : ℕ) (a t u : Tree) → IsAboveHead ls (fork p a t) → IsAboveHead ls (fork p a u)
same_head [] p a t u h = tt
same_head (l ∷ ls) p a t u h = h

pub local_joined : (ls : List LeftPiece) (t u : Tree) → IsLocal u → first u ≡ first t → IsAboveHead ls u → IsLocal (whole_of ls t) → IsLocal (whole_of ls u)
local_joined [] t u i e a b = i
local_joined (l ∷ ls) t u i e a b =
    let f = local_inner ls (fork l.position l.tree t) b in
    local_joined ls (fork l.position l.tree t) (fork l.position l.tree u)
    (f.0, i, f.2, a, subst (λ k. IsParted l.position (first l.tree) k) (sym e) f.4) refl
    (same_head ls l.position l.tree t u (above_head ls (fork l.position l.tree t) b)) b
