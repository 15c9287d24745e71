-- Both views in one, and the load.
use Rattle.std.proofs.Common.{rules, ◌≡◌, Some, Option, sym, ap, ◌∙◌}
use Rattle.record_words.specs.declared.layout.Layout.{Layout}
use Rattle.rowex_table.specs.Seats.{TableView}
use Rattle.rowex_table.proofs.stamping.Stamps.{follows, following_me, joins_stamp}
use Rattle.rowex_table.proofs.table.HotTable.follow_stamp_as.Goals as goal

pub join_seat-requires : goal.join_seat-requires
join_seat-requires g c = (search rules, search rules, ap (λ m. m.1) c.stamp.invariant, search rules, joins_stamp c.self.inside.table.shared.key.layout _ _ _ _ _ _ _ _ (ap (λ m. m.0) c.seat.invariant.0) (ap (λ m. m.0) c.stamp.invariant))

pub load-requires : goal.load-requires
load-requires g c =
    let layout : c.self.inside.table.shared.key.layout ≡ c.args.self.now.layout = c.self.invariant.1 ∙ ap (λ (z : TableView). z.layout) c.self.view_is in
    let of : g.Q.Step.layout ≡ Some c.self.inside.table.shared.key.layout = c.requires.layout ∙ ap (λ (z : Layout). let o : Option Layout = Some z in o) (sym layout) in
    (search rules, search rules, follows c.self.inside.table.shared.key.layout _ of _ _ _ _ _ _ _ _ (following_me _ _ _ _ _ _ _ c.join_seat.ensures.2 c.seat.invariant.0 c.stamp.invariant))
