-- Why `drop_unused` meets its contract.
use Rattle.partial_keys.proofs.Common.{List, length, subst, sym, take, ℕ, ◌<◌, kept}
use Rattle.partial_keys.proofs.Keeping.{IsColumns-kept, holds_front}
use Rattle.partial_keys.specs.Squeezed.{used_bits}
use Rattle.partial_keys.proofs.Columns.drop_unused.Goals as goal

pub invariant_of-self : goal.invariant_of-self
invariant_of-self c =
    let some : 0 < length (kept (used_bits c.args.used) (take c.self.inside.count c.self.inside.positions)) =
    subst (λ (cs : List ℕ). 0 < length (kept (used_bits c.args.used) cs)) (sym c.self.view_is) c.requires.some in
    holds_front (kept (used_bits c.args.used) (take c.self.inside.count c.self.inside.positions)) c.keep_used_positions.new.positions c.keep_used_positions.result
    (IsColumns-kept (used_bits c.args.used) (take c.self.inside.count c.self.inside.positions) c.self.invariant.columns some) c.keep_used_positions.ensures.count c.keep_used_positions.ensures.positions
