-- The bytes before stay, and behind them stand those of the places.
use Rattle.std.proofs.Common.{◌++◌, length, take, ap, ◌∙◌, arith}
use Rattle.packed_pairs.proofs.keys.Copying.{copied}
use Rattle.packed_pairs.proofs.keys.copy_key.Goals as goal

pub returns-then-size-eq8-clause-copied : goal.returns-then-size-eq8-clause-copied
returns-then-size-eq8-clause-copied c =
    let same = c.deref_mut.ensures.value in let long = ap length same in let room = c.requires.room in let fits = c.requires.fits in let ok = c.args.bytes.now.ok.0 in
    copied c.args.used c.args.size c.args.bytes.now.len c.deref_mut.result.now c.copy_first.new.room _ _ c.args.places.now (omega (arith, long, room)) (omega (arith, room, fits, ok)) c.copy_first.ensures.fits c.copy_first.ensures.copied
    ∙ ap (λ l. take c.args.used l ++ take c.args.size c.args.places.now) same

pub returns-then-size-le64-clause-copied : goal.returns-then-size-le64-clause-copied
returns-then-size-le64-clause-copied c =
    let same = c.deref_mut.ensures.value in let long = ap length same in let room = c.requires.room in let fits = c.requires.fits in let ok = c.args.bytes.now.ok.0 in
    copied c.args.used c.args.size c.args.bytes.now.len c.deref_mut.result.now c.copy_first-then-size-le64.new.room _ _ c.args.places.now (omega (arith, long, room)) (omega (arith, room, fits, ok)) c.copy_first-then-size-le64.ensures.fits c.copy_first-then-size-le64.ensures.copied
    ∙ ap (λ l. take c.args.used l ++ take c.args.size c.args.places.now) same

pub returns-else-size-le64-clause-copied : goal.returns-else-size-le64-clause-copied
returns-else-size-le64-clause-copied c =
    let same = c.deref_mut.ensures.value in let long = ap length same in let room = c.requires.room in let fits = c.requires.fits in let ok = c.args.bytes.now.ok.0 in
    copied c.args.used c.args.size c.args.bytes.now.len c.deref_mut.result.now c.copy_any_length.new.room _ _ c.args.places.now (omega (arith, long, room)) (omega (arith, room, fits, ok)) c.copy_any_length.ensures.fits c.copy_any_length.ensures.copied
    ∙ ap (λ l. take c.args.used l ++ take c.args.size c.args.places.now) same
