-- A position more is kept, or not.
use Rattle.partial_keys.proofs.Common.{[], ap, arith, drop, get_or, length, refl, replicate, set, sym, take, ◌++◌, ◌+◌, ◌-◌, ◌∙◌, ◌∷◌, ◌≡◌, drop-set-lt, length_push, take_more_set, fill_from_more, kept_nil, kept}
use Rattle.partial_keys.proofs.Keeping.{filled_behind, more_behind, same_behind}
use Rattle.partial_keys.proofs.Squeezed.{kept_clear, kept_set}
use Rattle.partial_keys.specs.Squeezed.{used_bits}
use lib.Seq.{paste}
use Rattle.partial_keys.proofs.keep_used_positions.Goals as goal
use Rattle.partial_keys.proofs.keep_used_positions.Goals.{then-used-j-eq1, else-used-j-eq1}

pub loop-j-init : goal.loop-j-init
loop-j-init c = record {
  few = omega arith;
  long = c.told-positions;
  front = sym (kept_nil (used_bits c.args.used));
  counted = sym (ap length (kept_nil (used_bits c.args.used)));
  behind = refl;
}

pub loop-j-preserved : goal.loop-j-preserved
loop-j-preserved c = elim c.if-used-j-eq1.branch [
  | then-used-j-eq1 w ↦
      let more : kept (used_bits c.args.used) (take (c.loop-j.j + 1) c.args.positions.now) ≡ kept (used_bits c.args.used) (take c.loop-j.j c.args.positions.now) ++ get_or c.args.positions.now c.loop-j.j 0 ∷ [] =
      kept_set c.args.used c.args.positions.now c.loop-j.j (omega (arith, c.told-positions, c.requires.few)) (omega (arith, c.told-positions)) w.if-used-j-eq1.true in
      let read : get_or c.loop-j.positions c.loop-j.j 0 ≡ get_or c.args.positions.now c.loop-j.j 0 = same_behind c.loop-j.positions c.args.positions.now c.loop-j.j 0 c.loop-j.invariant.behind in
      record {
        few = omega (arith, w.found-is, c.loop-j.invariant.few);
        long = c.if-used-j-eq1.array_long;
        front = rw (w.found-is, w.positions-is) (take_more_set c.loop-j.positions c.loop-j.found (get_or c.loop-j.positions c.loop-j.j 0) (omega (arith, c.loop-j.invariant.few, c.loop-j.invariant.long, c.requires.few))
            ∙ ap (λ xs. xs ++ get_or c.loop-j.positions c.loop-j.j 0 ∷ []) c.loop-j.invariant.front
            ∙ ap (λ y. kept (used_bits c.args.used) (take c.loop-j.j c.args.positions.now) ++ y ∷ []) read ∙ sym more);
        counted = omega (arith, w.found-is, c.loop-j.invariant.counted, ap length more, length_push (kept (used_bits c.args.used) (take c.loop-j.j c.args.positions.now)) (get_or c.args.positions.now c.loop-j.j 0));
        behind = rw w.positions-is (drop-set-lt (c.loop-j.j + 1) c.loop-j.positions c.loop-j.found (get_or c.loop-j.positions c.loop-j.j 0) (omega (arith, c.loop-j.invariant.few))
            ∙ more_behind c.loop-j.positions c.args.positions.now c.loop-j.j c.loop-j.invariant.behind);
      }
  | else-used-j-eq1 w ↦
      let same : kept (used_bits c.args.used) (take (c.loop-j.j + 1) c.args.positions.now) ≡ kept (used_bits c.args.used) (take c.loop-j.j c.args.positions.now) =
      kept_clear c.args.used c.args.positions.now c.loop-j.j (omega (arith, c.told-positions, c.requires.few)) (omega (arith, c.told-positions)) w.if-used-j-eq1.false in
      record {
        few = omega (arith, w.found-is, c.loop-j.invariant.few);
        long = c.if-used-j-eq1.array_long;
        front = rw (w.found-is, w.positions-is) (c.loop-j.invariant.front ∙ sym same);
        counted = w.found-is ∙ c.loop-j.invariant.counted ∙ ap length (sym same);
        behind = rw w.positions-is (more_behind c.loop-j.positions c.args.positions.now c.loop-j.j c.loop-j.invariant.behind);
      }
]

pub loop-j-2-preserved : goal.loop-j-2-preserved
loop-j-2-preserved c =
    let at : c.loop-j.found + (c.loop-j-2.j - c.loop-j.found) ≡ c.loop-j-2.j = omega arith in
    let more : c.loop-j-2.j - c.loop-j.found + 1 ≡ c.loop-j-2.j + 1 - c.loop-j.found = omega arith in
    ap (λ xs. set xs c.loop-j-2.j 65535) c.loop-j-2.invariant
    ∙ ap (λ k. set (paste c.loop-j.positions c.loop-j.found (replicate (c.loop-j-2.j - c.loop-j.found) 65535) (c.loop-j-2.j - c.loop-j.found)) k 65535) (sym at)
    ∙ fill_from_more c.loop-j.positions c.loop-j.found (c.loop-j-2.j - c.loop-j.found) 65535 (omega (arith, c.loop-j.invariant.long, c.requires.few))
    ∙ ap (λ k. paste c.loop-j.positions c.loop-j.found (replicate k 65535) k) more

pub returns-clause-positions : goal.returns-clause-positions
returns-clause-positions c =
    let all : c.loop-j.j ≡ c.args.count = omega arith in
    let end : c.loop-j-2.j ≡ c.args.count = omega (arith, c.loop-j.invariant.few) in
    c.loop-j-2.invariant
    ∙ ap (λ k. paste c.loop-j.positions c.loop-j.found (replicate (k - c.loop-j.found) 65535) (k - c.loop-j.found)) end
    ∙ filled_behind c.loop-j.positions (kept (used_bits c.args.used) (take c.args.count c.args.positions.now)) c.loop-j.found c.args.count (omega (arith, c.loop-j.invariant.few)) c.requires.few
    (c.loop-j.invariant.front ∙ ap (λ k. kept (used_bits c.args.used) (take k c.args.positions.now)) all)
    (c.loop-j.invariant.counted ∙ ap (λ k. length (kept (used_bits c.args.used) (take k c.args.positions.now))) all)
    (ap (λ k. drop k c.loop-j.positions) (sym all) ∙ c.loop-j.invariant.behind ∙ ap (λ k. drop k c.args.positions.now) all ∙ c.requires.unused)
