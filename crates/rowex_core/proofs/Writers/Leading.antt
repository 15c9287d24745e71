-- A lock of a node to which the pass was led takes one that is in the tree.
use Rattle.rowex_core.proofs.Common.{◌≡◌, ℕ, Option, Some, None, refl, ap, arith, state_word, a_node, Spans, Fate, Free, Held, Ready, InTree, Unlinked, Marked, life_of, pin_version}
use Rattle.rowex_core.specs.Words.{tag_of}
use Rattle.rowex_core.specs.Writers.{LedIsInTree}

of_state : (now n q m : ℕ) (lock : Option ℕ) (f : Fate) → ((since last q : ℕ) → f ≡ Unlinked since last q → lock ≡ Some q) → Spans now (life_of f) m → state_word (tag_of lock f) ≡ 2 → (since : ℕ) × (f ≡ InTree since)
of_state now n q m lock Free r s e = absurd s
of_state now n q m lock (Held p) r s e = absurd s
of_state now n q m lock (Ready p) r s e = absurd s
of_state now n q m lock (InTree f) r s e = (f, refl)
of_state now n q m lock (Unlinked f l p) r s e = absurd (go lock (r f l p refl) e)
  where
    go : (o : Option ℕ) → o ≡ Some p → state_word (tag_of o (Unlinked f l p)) ≡ 2 → ⊥
    go None a b = absurd cc
    go (Some x) a b = omega arith
of_state now n q m lock (Marked f l s) r h e = absurd (omega arith)

pub led_is_in_tree : LedIsInTree
led_is_in_tree c law q p pinned n m u lo hi st e =
    of_state c.past.now n q m (c.lock n) (c.fate (a_node n)) (λ since last o h. law.records.retired n since last o h)
    (law.core.state.reach q p.version (ap pin_version pinned) m lo hi (a_node n) u st) e
