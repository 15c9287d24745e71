-- What stands at the places of a body, in order, and its leaves.
use Rattle.plain_trie_records.proofs.Common.{◌≡◌, ℕ, zero, suc, ◌+◌, ◌<◌, List, [], ◌∷◌, ◌++◌, length, take, get_or, refl, ap, ap₂, sym, ◌∙◌, arith, append_assoc, add-one, append-nil, take-suc, Place, places, Entry, Item, items, Tree, leaf, node, fork, subtrie, Within, here, zero_side, one_side}

abbrev pub parts : Tree → List Tree
parts (leaf n k v) = leaf n k v ∷ []
parts (node n x b) = node n x b ∷ []
parts (fork p a b) = parts a ++ parts b

abbrev pub items_of_all : List Tree → List Item
items_of_all [] = []
items_of_all (t ∷ ts) = items t ++ items_of_all ts

pub leaves-append : (ss ts : List Tree) → items_of_all (ss ++ ts) ≡ items_of_all ss ++ items_of_all ts
leaves-append [] ts = refl
leaves-append (s ∷ ss) ts = ap (λ xs. items s ++ xs) (leaves-append ss ts) ∙ sym (append_assoc (items s) (items_of_all ss) (items_of_all ts))

-- the leaves of the parts are those of the body
pub leaves_parts : (b : Tree) → items_of_all (parts b) ≡ items b
leaves_parts (leaf n k v) = refl
leaves_parts (node n x b) = append-nil (items b)
leaves_parts (fork p a b) = leaves-append (parts a) (parts b) ∙ ap₂ (λ (xs ys : List Item). xs ++ ys) (leaves_parts a) (leaves_parts b)

-- the leaves of one part more
pub leaves_more : (ts : List Tree) (j : ℕ) (d : Tree) → j < length ts → items_of_all (take (j + 1) ts) ≡ items_of_all (take j ts) ++ items (get_or ts j d)
leaves_more ts j d h =
    let t : Tree = get_or ts j d in
    let e : take (j + 1) ts ≡ take j ts ++ t ∷ [] = rw add-one (take-suc ts j d h) in
    ap items_of_all e ∙ (leaves-append (take j ts) (t ∷ []) ∙ ap (λ xs. items_of_all (take j ts) ++ xs) (append-nil (items t)))

-- ---- the parts beside the entries that stand for them
abbrev Match : (Tree → Entry → Type 0) → List Tree → List Entry → Type 0
Match P [] [] = Unit {0}
Match P [] (e ∷ es) = ⊥
Match P (t ∷ ts) [] = ⊥
Match P (t ∷ ts) (e ∷ es) = P t e × Match P ts es

match_append : (P : Tree → Entry → Type 0) (ts us : List Tree) (es fs : List Entry) → Match P ts es → Match P us fs → Match P (ts ++ us) (es ++ fs)
match_append P [] us [] fs m n = n
match_append P [] us (e ∷ es) fs m n = elim m [ ]
match_append P (t ∷ ts) us [] fs m n = elim m [ ]
match_append P (t ∷ ts) us (e ∷ es) fs m n = (m.0, match_append P ts us es fs m.1 n)

match_map : (P Q : Tree → Entry → Type 0) → ((t : Tree) (e : Entry) → P t e → Q t e) → (ts : List Tree) (es : List Entry) → Match P ts es → Match Q ts es
match_map P Q f [] [] m = tt
match_map P Q f [] (e ∷ es) m = m
match_map P Q f (t ∷ ts) [] m = m
match_map P Q f (t ∷ ts) (e ∷ es) m = (f t e m.0, match_map P Q f ts es m.1)

match_at : (P : Tree → Entry → Type 0) (ts : List Tree) (es : List Entry) → Match P ts es → (i : ℕ) (d : Tree) (e : Entry) → i < length es → P (get_or ts i d) (get_or es i e)
match_at P [] [] m i d e h = absurd (omega arith)
match_at P [] (x ∷ es) m i d e h = elim m [ ]
match_at P (t ∷ ts) [] m i d e h = elim m [ ]
match_at P (t ∷ ts) (x ∷ es) m zero d e h = m.0
match_at P (t ∷ ts) (x ∷ es) m (suc i) d e h = match_at P ts es m.1 i d e (omega arith)

match_length : (P : Tree → Entry → Type 0) (ts : List Tree) (es : List Entry) → Match P ts es → length ts ≡ length es
match_length P [] [] m = refl
match_length P [] (e ∷ es) m = elim m [ ]
match_length P (t ∷ ts) [] m = elim m [ ]
match_length P (t ∷ ts) (e ∷ es) m = ap suc (match_length P ts es m.1)

-- a part begins with its entry, and stands in the body
abbrev pub IsPartOf : Tree → Tree → Entry → Type 0
IsPartOf b t e = (subtrie t ≡ Place e) × Within t b

parts_match : (b : Tree) → Match (IsPartOf b) (parts b) (places (subtrie b))
parts_match (leaf n k v) = ((refl, here), tt)
parts_match (node n x b) = ((refl, here), tt)
parts_match (fork p a b) =
    match_append (IsPartOf (fork p a b)) (parts a) (parts b) (places (subtrie a)) (places (subtrie b))
    (match_map (IsPartOf a) (IsPartOf (fork p a b)) (λ t e w. (w.0, zero_side w.1)) (parts a) (places (subtrie a)) (parts_match a))
    (match_map (IsPartOf b) (IsPartOf (fork p a b)) (λ t e w. (w.0, one_side w.1)) (parts b) (places (subtrie b)) (parts_match b))

pub part_of : (b : Tree) (i : ℕ) (d : Tree) (e : Entry) → i < length (places (subtrie b)) → IsPartOf b (get_or (parts b) i d) (get_or (places (subtrie b)) i e)
part_of b i d e h = match_at (IsPartOf b) (parts b) (places (subtrie b)) (parts_match b) i d e h

pub length-parts : (b : Tree) → length (parts b) ≡ length (places (subtrie b))
length-parts b = match_length (IsPartOf b) (parts b) (places (subtrie b)) (parts_match b)
