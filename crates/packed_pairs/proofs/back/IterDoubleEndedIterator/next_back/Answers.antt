-- The last pair is taken: its key has the last bytes.
use Rattle.std.proofs.Common.{◌≡◌, ℕ, ◌<◌, ◌++◌, ◌∷◌, [], List, length, ap, refl, sym, ◌∙◌, arith, length-append}
use Rattle.packed_pairs.proofs.Last.Backwards.{IsTaken, taken}
use Rattle.packed_pairs.proofs.back.IterDoubleEndedIterator.next_back.Goals as goal
use Rattle.packed_pairs.proofs.back.IterDoubleEndedIterator.next_back.Goals.{After-bytes-2-1}

last : (c : After-bytes-2-1) → IsTaken c.self.inside.heads.now c.in_ok-head.heads.now c.in_ok-head.head.now c.self.inside.bytes.now c.split_at.result.0.now c.split_at.result.1.now
last c = taken _ _ _ _ _ _ c.self.invariant c.in_ok-head.ensures.cases.0 c.split_at.ensures.front c.split_at.ensures.back

less : (all front : List (List ℕ × ℕ)) (pair : List ℕ × ℕ) → all ≡ front ++ pair ∷ [] → length front < length all
less all front pair e = let n = ap length e in let m = length-append front (pair ∷ []) in omega (arith, n, m)

pub overflow_sub-self-inside : goal.overflow_sub-self-inside
overflow_sub-self-inside c = (taken c.self.inside.heads.now c.in_ok-head.heads.now c.in_ok-head.head.now c.self.inside.bytes.now _ _ c.self.invariant c.in_ok-head.ensures.cases.0 refl refl).low

pub invariant_of-self : goal.invariant_of-self
invariant_of-self c = (last c).packed

pub returns-clause-steps : goal.returns-clause-steps
returns-clause-steps c = sym c.self.view_is ∙ (last c).pairs

pub returns-clause-goes : goal.returns-clause-goes
returns-clause-goes c = record { on = λ finite. (tt, tt, less _ _ _ (sym c.self.view_is ∙ (last c).pairs)); keeps = tt; rests = λ finite. tt }
