-- The words of a locked node's head.
use Rattle.rowex_writing.proofs.Common.{◌≡◌, ℕ, ◌+◌, ◌/◌, ◌<◌, ◌≤◌, List, get_or, ap, ◌∙◌, ⊎_elim, get_or-take, NodeView, head_of, head_words, head_part}
use Rattle.rowex_writing.specs.locks.Going.{IsNodeOf}

pub head_word : (view : NodeView) (words : List ℕ) → IsNodeOf words view → (i : ℕ) → i < 25 → get_or (head_words (head_of view)) i 0 ≡ get_or words i 0
head_word view words is i low = ap (λ ws. get_or ws i 0) (head_part view words is.spells) ∙ get_or-take 25 words i 0 low

-- ---- where the words stand that have a column and a row
