-- There are as many pairs as heads.
use Rattle.std.proofs.Common.{ap, sym, ◌∙◌, length, take, arith}
use Rattle.std.proofs.lemmas.List.{length-take-le}
use Rattle.packed_pairs.specs.Filled.{Filled}
use Rattle.packed_pairs.proofs.Packed.{length-unpacked}
use Rattle.packed_pairs.proofs.filling.Filling.len.Goals as goal

pub returns : goal.returns
returns c =
    let fits = c.self.invariant.2 in
    sym (length-take-le c.self.inside.count c.self.inside.heads.items (omega (arith, fits)))
    ∙ (sym (length-unpacked (take c.self.inside.count c.self.inside.heads.items) (take c.self.inside.used c.self.inside.bytes.items)) ∙ ap (λ (f : Filled). length f.pairs) c.self.view_is)
