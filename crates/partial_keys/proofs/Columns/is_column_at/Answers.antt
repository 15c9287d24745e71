-- One look answers whether the position is a column.
use Rattle.partial_keys.proofs.Common.{List, ap, arith, eqb, get_or, length, subst, sym, ℕ, ◌<◌, ◌≤◌, ◌∙◌, ◌≡◌, le-ltb, get_or-take, front_below, has-found, has-past}
use Rattle.partial_keys.specs.Columns.{IsColumns}
use Rattle.partial_keys.proofs.Columns.is_column_at.Goals as goal

pub returns-then-below-self : goal.returns-then-below-self
returns-then-below-self c =
    let cs : List ℕ = c.args.self.now in
    let columns : IsColumns cs = subst IsColumns c.self.view_is c.self.invariant.columns in
    let inside : front_below c.args.position cs < length cs = omega (arith, c.requires, c.if-below-self.true, c.self.invariant.counted, ap length c.self.view_is) in
    let read : get_or c.self.inside.positions c.args.below 0 ≡ get_or cs (front_below c.args.position cs) 0 =
    sym (get_or-take c.self.inside.count c.self.inside.positions c.args.below 0 c.if-below-self.true) ∙ ap (λ (xs : List ℕ). get_or xs c.args.below 0) c.self.view_is ∙ ap (λ k. get_or cs k 0) c.requires in
    ap (λ n. eqb n c.args.position) read ∙ has-found c.args.position 0 cs columns.rise inside

pub returns-else-below-self : goal.returns-else-below-self
returns-else-below-self c =
    let cs : List ℕ = c.args.self.now in
    let columns : IsColumns cs = subst IsColumns c.self.view_is c.self.invariant.columns in
    let past : length cs ≤ front_below c.args.position cs = omega (arith, c.requires, c.if-below-self.false, c.self.invariant.counted, ap length c.self.view_is) in
    le-ltb _ _ c.if-below-self.false ∙ sym (has-past c.args.position 0 cs columns.rise past)
