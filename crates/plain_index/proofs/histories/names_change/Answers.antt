-- The front has no such place, and so no change there.
use Rattle.plain_index.proofs.Common.{sym, arith, slice_get_within, change_of-change}
use Rattle.plain_index.proofs.histories.names_change.Goals as goal

pub returns-in-None : goal.returns-in-None
returns-in-None c = (
  (λ h. cc),
  (λ names.
      let change = change_of-change c.args.pass c.args.note.now (sym c.if-not-changes_map.ensures) in
      let within = slice_get_within c.args.front.now c.args.note.now.place change.0 (names change.0 change.1) in
      absurd (omega (arith, within, c.in-None.ensures.lookup.3))),
)
