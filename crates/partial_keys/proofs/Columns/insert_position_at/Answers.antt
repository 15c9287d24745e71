-- The column stands at its place, and the places behind are unused.
use Rattle.partial_keys.proofs.Common.{ap, arith, false, length, subst, sym, take, ◌<◌, ◌++◌, ◌+◌, ◌∙◌, ◌≡◌, drop, List, ℕ, insert, IsPlaceOf, front_below-place, front_below, has, with_position}
use Rattle.partial_keys.proofs.Keeping.{put_holds, put_shown}
use Rattle.partial_keys.specs.Columns.{HoldsColumns}
use Rattle.partial_keys.proofs.Columns.insert_position_at.Goals as goal
use Rattle.partial_keys.proofs.Columns.insert_position_at.Goals.{After-self-1}

pub insert_element-requires-clause-in_range : goal.insert_element-requires-clause-in_range
insert_element-requires-clause-in_range c =
    let place : IsPlaceOf c.args.self.now c.args.position (front_below c.args.position c.args.self.now) = front_below-place c.args.position c.args.self.now in
    omega (arith, place.in_range, c.requires.index, ap length c.self.view_is, c.self.invariant.counted)

-- the places, by the columns
places : (c : After-self-1) → c.insert_element.new.items ≡
    insert (take c.self.inside.count c.self.inside.positions) (front_below c.args.position (take c.self.inside.count c.self.inside.positions)) c.args.position ++ drop (c.self.inside.count + 1) c.self.inside.positions
places c = c.insert_element.ensures
    ∙ ap (λ k. insert (take c.self.inside.count c.self.inside.positions) k c.args.position ++ drop (c.self.inside.count + 1) c.self.inside.positions) (c.requires.index ∙ ap (front_below c.args.position) (sym c.self.view_is))

room : (c : After-self-1) → length (take c.self.inside.count c.self.inside.positions) < 31
room c = subst (λ (cs : List ℕ). length cs < 31) (sym c.self.view_is) c.requires.room

new : (c : After-self-1) → has (take c.self.inside.count c.self.inside.positions) c.args.position ≡ false
new c = subst (λ (cs : List ℕ). has cs c.args.position ≡ false) (sym c.self.view_is) c.requires.new

pub invariant_of-self : goal.invariant_of-self
invariant_of-self c = subst (λ ps. HoldsColumns ps (c.self.inside.count + 1)) (sym (places c))
    (put_holds c.self.inside.positions c.self.inside.count c.args.position c.self.invariant (room c) c.requires.small (new c))

pub returns : goal.returns
returns c = ap (take (c.self.inside.count + 1)) (places c)
    ∙ put_shown c.self.inside.positions c.self.inside.count c.args.position c.self.invariant (room c) c.requires.small (new c)
    ∙ ap (with_position c.args.position) c.self.view_is
