-- A meeting: both views in one, the load, and the two views again.
use Rattle.std.proofs.Common.{rules, ◌≡◌, Some, Option, sym, ap, ◌∙◌}
use Rattle.record_words.specs.declared.layout.Layout.{Layout}
use Rattle.rowex_table.specs.Seats.{TableView}
use Rattle.rowex_table.proofs.Seats.{joins, meets, meeting, parts, paired_me, apart_met}
use Rattle.rowex_table.proofs.table.HotTable.meet_seats_as.Goals as goal

pub join_seat-requires : goal.join_seat-requires
join_seat-requires g c = (search rules, search rules, ap (λ m. m.1) c.second.invariant.0, search rules, joins c.self.inside.table.shared.key.layout _ _ _ _ _ _ _ _ (ap (λ m. m.0) c.first.invariant.0) (ap (λ m. m.0) c.second.invariant.0))

pub load-requires : goal.load-requires
load-requires g c =
    let layout : c.self.inside.table.shared.key.layout ≡ c.args.self.now.layout = c.self.invariant.1 ∙ ap (λ (z : TableView). z.layout) c.self.view_is in
    let of : g.Q.Step.layout ≡ Some c.self.inside.table.shared.key.layout = c.requires.layout ∙ ap (λ (z : Layout). let o : Option Layout = Some z in o) (sym layout) in
    (search rules, search rules, meets c.self.inside.table.shared.key.layout _ of _ _ _ _ _ _ _ _ (paired_me _ _ _ _ _ _ _ c.join_seat.ensures.2 c.first.invariant.0 c.second.invariant.0))

pub split_seat-other-requires : goal.split_seat-other-requires
split_seat-other-requires g c = let m = meeting _ _ c.requires.layout _ _ _ _ _ _ (paired_me _ _ _ _ _ _ _ c.join_seat.ensures.2 c.first.invariant.0 c.second.invariant.0) c.load.ensures.2 in
    (search rules, search rules, parts c.self.inside.table.shared.key.layout _ _ _ _ _ _ (ap (λ z. z.0) m.4) (apart_met c.args.self.now.layout _ _ _ _ m.5))
