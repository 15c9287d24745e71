-- The last pair is taken: its key has the last bytes. Where there is none, none is.
use Rattle.std.proofs.Common.{◌≡◌, ◌-◌, [], length, take, drop, ap, refl, sym, subst, ◌∙◌, arith}
use Rattle.packed_pairs.specs.Packed.{ArePacked, unpacked}
use Rattle.packed_pairs.proofs.Last.Backwards.{IsTaken, taken}
use Rattle.packed_pairs.proofs.Fits.{popped}
use Rattle.packed_pairs.proofs.pairs.Pairs.pop_pair.Goals as goal
use Rattle.packed_pairs.proofs.pairs.Pairs.pop_pair.Goals.{After-truncate}

last : (c : After-truncate) → IsTaken c.self.inside.heads c.pop.new.self c.in-Some.head c.self.inside.bytes c.truncate.new.self (drop (length c.self.inside.bytes - c.in-Some.head.count) c.self.inside.bytes)
last c =
    let many = c.len.ensures in
    taken _ _ _ _ _ _ c.self.invariant c.in-Some.ensures.items (c.truncate.ensures ∙ ap (λ n. take (n - c.in-Some.head.count) c.self.inside.bytes) many) refl

pub overflow_sub-len : goal.overflow_sub-len
overflow_sub-len c =
    let low = (taken c.self.inside.heads c.pop.new.self c.in-Some.head c.self.inside.bytes _ _ c.self.invariant c.in-Some.ensures.items refl refl).low in
    let many = c.len.ensures in
    omega (arith, low, many)

pub invariant_of-self-in-Some : goal.invariant_of-self-in-Some
invariant_of-self-in-Some c = (last c).packed

pub returns-in-Some : goal.returns-in-Some
returns-in-Some c = popped _ _ _ (sym c.self.view_is ∙ (last c).pairs)

pub invariant_of-self : goal.invariant_of-self
invariant_of-self c = let none = c.in-None.ensures.none in subst (λ hs. ArePacked hs c.self.inside.bytes) (none.0 ∙ sym none.1) c.self.invariant

pub returns-in-None : goal.returns-in-None
returns-in-None c =
    let none = c.in-None.ensures.none in
    let empty : c.args.self.now ≡ [] = sym c.self.view_is ∙ ap (λ hs. unpacked hs c.self.inside.bytes) none.0 in
    rw (none.1, empty) refl
