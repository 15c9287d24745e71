-- The greatest height among entries.
use Rattle.compound_node.proofs.Common.{List, [], arith, get_or, length, refl, suc, zero, ℕ, ◌<◌, ◌∷◌, ◌≡◌, ◌≤◌, All, insert}
use Rattle.compound_node.specs.Nodes.{IsEntry, greatest_height, height_of}
use Rattle.compound_node.specs.declared.entries.Entry.TheVariants.{Leaf, Node}
use Rattle.compound_node.specs.declared.entries.Entry.{Entry}

height_fits : (entry : Entry) → IsEntry entry → height_of entry < 65535
height_fits (Leaf number) h = omega arith
height_fits (Node number height) h = h.1

pub greatest_height-fits : (entries : List Entry) → All IsEntry entries → greatest_height entries < 65535
greatest_height-fits [] h = omega arith
greatest_height-fits (entry ∷ entries) h = omega (arith, height_fits entry (h 0 entry (omega arith)), greatest_height-fits entries (λ k d l. h (suc k) d (omega arith)))

pub below_greatest : (entries : List Entry) (k : ℕ) (d : Entry) → k < length entries → height_of (get_or entries k d) ≤ greatest_height entries
below_greatest [] k d l = absurd (omega arith)
below_greatest (entry ∷ entries) zero d l = omega arith
below_greatest (entry ∷ entries) (suc k) d l = omega (arith, below_greatest entries k d (omega arith))

-- leaves have no height
low_greatest : (entries : List Entry) → All (λ entry. height_of entry < 1) entries → greatest_height entries ≡ 0
low_greatest [] h = refl
low_greatest (entry ∷ entries) h = omega (arith, h 0 entry (omega arith), low_greatest entries (λ k d l. h (suc k) d (omega arith)))

-- one entry among leaves
pub greatest_height-insert : (entries : List Entry) (at : ℕ) (entry : Entry) → All (λ entry. height_of entry < 1) entries → greatest_height (insert entries at entry) ≡ height_of entry
greatest_height-insert entries zero entry h = omega (arith, low_greatest entries h)
greatest_height-insert [] (suc at) entry h = omega arith
greatest_height-insert (first ∷ entries) (suc at) entry h = omega (arith, h 0 first (omega arith), greatest_height-insert entries at entry (λ k d l. h (suc k) d (omega arith)))
