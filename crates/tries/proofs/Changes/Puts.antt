-- What a tree keeps when another one is put in the place of one that stands in it.
use Rattle.tries.proofs.Common.{◌≡◌, ℕ, refl, ap, Fork}
use Rattle.tries.specs.Tree.{Tree, subtrie, IsLower, IsBuilt, Within, here, inside, zero_side, one_side}
use Rattle.tries.proofs.Changes.{put, IsInOwnSubtrie}

-- One that begins with the same subtrie leaves the subtrie.
pub subtrie_put : {s t : Tree} (w : Within s t) (r : Tree) → subtrie r ≡ subtrie s → subtrie (put w r) ≡ subtrie t
subtrie_put here r e = e
subtrie_put (inside w) r e = refl
subtrie_put (zero_side {p = p} {b = b} w) r e = ap (λ z. Fork p z (subtrie b)) (subtrie_put w r e)
subtrie_put (one_side {p = p} {a = a} w) r e = ap (λ z. Fork p (subtrie a) z) (subtrie_put w r e)

-- In a body, one that is low enough leaves the body so,
pub lower_in_own_subtrie : (h : ℕ) {s t : Tree} (w : Within s t) → IsInOwnSubtrie w → (r : Tree) → IsLower h t → IsLower h r → IsLower h (put w r)
lower_in_own_subtrie h here f r i j = j
lower_in_own_subtrie h (inside w) f r i j = elim f [ ]
lower_in_own_subtrie h (zero_side w) f r i j = (lower_in_own_subtrie h w f r i.0 j, i.1)
lower_in_own_subtrie h (one_side w) f r i j = (i.0, lower_in_own_subtrie h w f r i.1 j)

-- and one that is built leaves it built.
pub built_in_own_subtrie : {s t : Tree} (w : Within s t) → IsInOwnSubtrie w → (r : Tree) → IsBuilt t → IsBuilt r → IsBuilt (put w r)
built_in_own_subtrie here f r i j = j
built_in_own_subtrie (inside w) f r i j = elim f [ ]
built_in_own_subtrie (zero_side w) f r i j = (built_in_own_subtrie w f r i.0 j, i.1)
built_in_own_subtrie (one_side w) f r i j = (i.0, built_in_own_subtrie w f r i.1 j)
