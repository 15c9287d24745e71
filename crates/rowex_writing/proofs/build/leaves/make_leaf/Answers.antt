-- A claim and its fills are the first record.
use Rattle.rowex_writing.proofs.Common.{◌∷◌, [], ◌++◌, subst, sym, ap, ◌∙◌, length, arith, rules, a_leaf, AllMissedFrom, IsAnothersTo, more_is_claimed, item}
use Rattle.rowex_writing.specs.build.Building.{HasLeafMade, IsBuilding}
use Rattle.rowex_writing.proofs.build.Classes.{lacks_leaves}
use Rattle.rowex_writing.proofs.locks.Going.{goes_more, seat_of}
use Rattle.rowex_writing.proofs.build.Building.{set_some_on, building_leaf, building_none, building_on}
use Rattle.rowex_writing.proofs.build.leaves.make_leaf.Goals as goal

pub fill_leaf-requires-clause-own : goal.fill_leaf-requires-clause-own
fill_leaf-requires-clause-own g c = seat_of c.args.table.now g.G.Gate.becomes (c.args.seat.now, c.args.gate.now) (c.claim_leaf.new.seat, c.claim_leaf.new.gate) c.claim_leaf.ensures.goes c.requires.own

pub returns-in_err-number-clause-made : goal.returns-in_err-number-clause-made
returns-in_err-number-clause-made g c = rw c.from_residual.ensures (
  subst (λ z. IsBuilding c.args.table.now c.claim_leaf.new.seat z []) (sym c.clear.ensures) (building_on c.args.table.now g.G.Gate.becomes (c.args.seat.now, c.args.gate.now) (c.claim_leaf.new.seat, c.claim_leaf.new.gate) [] []
      c.claim_leaf.ensures.goes c.in_err-number.ensures.claims.0 (building_none c.args.table.now c.args.seat.now c.requires.own c.requires.possible c.requires.none)),
  lacks_leaves c.args.table.now.layout c.args.seat.now.bounds c.args.job.now.key.now c.args.seat.now.known c.claim_leaf.new.seat.known c.claim_leaf.new.seat.known.failed c.args.seat.now.known.steps c.claim_leaf.ensures.goes.stays.0.pass c.requires.none
      (subst (λ w. AllMissedFrom (IsAnothersTo c.args.table.now.layout c.args.seat.now.known) c.args.table.now.layout c.args.seat.now.bounds w c.claim_leaf.new.seat.known.failed c.args.seat.now.known.steps) c.count_leaf_words.ensures.words c.in_err-number.ensures.claims.1),
)

pub returns-clause-goes : goal.returns-clause-goes
returns-clause-goes g c =
    goes_more c.args.table.now g.G.Gate.becomes _ _ _ c.claim_leaf.ensures.goes (set_some_on c.args.table.now g.G.Gate.becomes _ _ _ _ _ c.fill_leaf.ensures.fills)

pub returns-clause-made : goal.returns-clause-made
returns-clause-made g c =
    let x = item c.in_ok-number.number c.args.job.now.key.now c.args.job.now.value in
    subst (λ z. HasLeafMade c.args.table.now c.fill_leaf.new.seat z x) (sym (c.push.ensures.items ∙ ap (λ z. z ++ a_leaf x.number ∷ []) c.clear.ensures))
    (building_leaf c.args.table.now g.G.Gate.becomes x (c.args.seat.now, c.args.gate.now) (c.claim_leaf.new.seat, c.claim_leaf.new.gate) (c.fill_leaf.new.seat, c.fill_leaf.new.gate)
    record { key = c.requires.key; value = search rules } (omega (arith, c.in_ok-number.ensures.claims.1, c.count_leaf_words.ensures.words)) c.claim_leaf.ensures.goes c.in_ok-number.ensures.claims.2 c.fill_leaf.ensures.fills
    (building_none c.args.table.now c.args.seat.now c.requires.own c.requires.possible c.requires.none))

pub fill_leaf-requires-clause-held : goal.fill_leaf-requires-clause-held
fill_leaf-requires-clause-held g c = more_is_claimed (a_leaf c.in_ok-number.number) c.args.seat.now.known c.claim_leaf.new.seat.known c.in_ok-number.ensures.claims.2

pub push-requires : goal.push-requires
push-requires g c = let none = ap length c.clear.ensures in (omega arith, omega (arith, none))
