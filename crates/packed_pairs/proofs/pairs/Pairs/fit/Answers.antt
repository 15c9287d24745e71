-- As long as not all keys fit, the last pair doesn't.
use Rattle.std.proofs.Common.{◌<◌, ◌≤◌, length, sym, ap, ◌∙◌, arith}
use Rattle.packed_pairs.specs.Parts.{fitting, keys_in}
use Rattle.packed_pairs.proofs.Fits.{fits_without, fitting_all}
use Rattle.packed_pairs.proofs.pairs.Pairs.fit.Goals as goal

pub loop-self-preserved : goal.loop-self-preserved
loop-self-preserved c =
    let many : c.args.room < length (keys_in c.loop-self.self) = let low = c.loop-self-test.true in let n = c.key_bytes.ensures in omega (arith, low, n) in
    ap (fitting c.args.room) c.pop_pair.ensures ∙ (fits_without c.args.room c.loop-self.self many ∙ c.loop-self.invariant)

pub returns : goal.returns
returns c =
    let few : length (keys_in c.loop-self.self) ≤ c.args.room = let low = c.loop-self-test.false in let n = c.key_bytes.ensures in omega (arith, low, n) in
    sym (fitting_all c.args.room c.loop-self.self few) ∙ c.loop-self.invariant
