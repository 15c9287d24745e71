-- There are as many pairs as heads.
use Rattle.std.proofs.Common.{ap, sym, ◌∙◌, length, arith}
use Rattle.packed_pairs.proofs.Packed.{length-unpacked}
use Rattle.packed_pairs.proofs.pairs.Pairs.len.Goals as goal

pub returns-clause-count : goal.returns-clause-count
returns-clause-count c =
    c.len.ensures.count ∙ (sym (length-unpacked c.self.inside.heads c.self.inside.bytes) ∙ ap length c.self.view_is)

pub returns-clause-short : goal.returns-clause-short
returns-clause-short c =
    let n = length-unpacked c.self.inside.heads c.self.inside.bytes in let e = ap length c.self.view_is in
    let small = c.len.ensures.short in omega (arith, n, e, small)
