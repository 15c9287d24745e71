-- What names a node, by the way's list.
use Rattle.rowex_writing.proofs.Common.{◌≡◌, ◌<◌, ◌≤◌, ℕ, zero, suc, List, length, Some, [], ◌∷◌, get_or, refl, arith, sym, ap, ◌∙◌, Node, PathNode, named, end_of, Found}
use Rattle.rowex_writing.proofs.locks.checking.naming_entry.Goals as goal

within : (way : List PathNode) (found : Found) (i : ℕ) (d : PathNode) → i < length way → Some (Node (get_or way i d).number (get_or way i d).height) ≡ named way found i
within [] found i d low = absurd (omega arith)
within (s ∷ way) found zero d low = refl
within (s ∷ way) found (suc i) d low = within way found i d (omega arith)

past : (way : List PathNode) (found : Found) (i : ℕ) → length way ≤ i → end_of found ≡ named way found i
past [] found i high = refl
past (s ∷ way) found zero high = absurd (omega arith)
past (s ∷ way) found (suc i) high = past way found i (omega arith)

pub returns-then-index-way : goal.returns-then-index-way
returns-then-index-way c = within c.args.way.now c.args.found c.args.index _ c.if-index-way.true

pub returns-in-Nothing : goal.returns-in-Nothing
returns-in-Nothing c = ap end_of (sym c.in-Nothing.is) ∙ past c.args.way.now c.args.found c.args.index c.if-index-way.false

pub returns-in-Leaf : goal.returns-in-Leaf
returns-in-Leaf c = ap end_of (sym c.in-Leaf.is) ∙ past c.args.way.now c.args.found c.args.index c.if-index-way.false
