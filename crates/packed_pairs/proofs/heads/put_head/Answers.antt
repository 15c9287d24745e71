-- The heads before stay, and behind them stands the one that was written.
use Rattle.std.proofs.Common.{◌++◌, ◌∷◌, [], length, take, ap, ◌∙◌, arith}
use Rattle.packed_pairs.specs.declared.head.PairHead.{PairHead}
use Rattle.packed_pairs.proofs.keys.Copying.{copied}
use Rattle.packed_pairs.proofs.heads.put_head.Goals as goal

pub returns-clause-put : goal.returns-clause-put
returns-clause-put c =
    let same = c.deref_mut.ensures.value in let long = ap length same in let room = c.requires in let ok = c.args.heads.now.ok.0 in
    let head : PairHead = record { count = c.args.count; value = c.args.value } in
    copied c.args.used 1 c.args.heads.now.len c.deref_mut.result.now c.write_first.new.room _ _ (head ∷ []) (omega (arith, long, room)) (omega (arith, room, ok)) c.write_first.ensures.fits c.write_first.ensures.first
    ∙ ap (λ l. take c.args.used l ++ head ∷ []) same
