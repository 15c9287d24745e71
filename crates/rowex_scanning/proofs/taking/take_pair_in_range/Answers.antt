-- The key is past the range, or belongs to it, from its first key on.
use Rattle.rowex_scanning.proofs.Common.{refl, sym, take, ◌∙◌, err_from_is_err_and}
use Rattle.rowex_scanning.specs.Scanning.{asked_range}
use Rattle.rowex_scanning.proofs.direction.Directed.{in_range}
use Rattle.rowex_scanning.proofs.Walking.{kept_more}
use Rattle.rowex_scanning.proofs.taking.take_pair_in_range.Goals as goal

pub returns-then-is_past_range-clause-taken : goal.returns-then-is_past_range-clause-taken
returns-then-is_past_range-clause-taken g c = (c.is_past_range.ensures.past c.if-is_past_range.true, (refl, λ taken said. said))

pub returns-then-size-range-clause-taken : goal.returns-then-size-range-clause-taken
returns-then-size-range-clause-taken g c = (
  in_range c.args.range.now.direction (asked_range c.args.range.now) _ c.requires.reached (c.is_past_range.ensures.inside c.if-is_past_range.false),
  sym c.size.ensures ∙ c.if-size-range.true,
  (refl, λ taken said. said),
)

pub returns-in_err-make_room-clause-refused : goal.returns-in_err-make_room-clause-refused
returns-in_err-make_room-clause-refused g c = rw (err_from_is_err_and c.from_residual.result c.from_residual.ensures.1).1 (
  in_range c.args.range.now.direction (asked_range c.args.range.now) _ c.requires.reached (c.is_past_range.ensures.inside c.if-is_past_range.false),
  (λ e. c.if-size-range.false (c.size.ensures ∙ e)),
  c.make_room.ensures.kept,
)

pub returns-clause-taken : goal.returns-clause-taken
returns-clause-taken g c = (
  in_range c.args.range.now.direction (asked_range c.args.range.now) _ c.requires.reached (c.is_past_range.ensures.inside c.if-is_past_range.false),
  (λ e. c.if-size-range.false (c.size.ensures ∙ e)),
  kept_more (g.S.Tallies.tally c.args.sink.now) (g.S.Tallies.tally c.make_room.new.self) (g.S.Tallies.tally c.take_pair.new.self) (take c.args.length c.args.places.now) c.args.value c.make_room.ensures.kept c.take_pair.ensures.taken,
)
