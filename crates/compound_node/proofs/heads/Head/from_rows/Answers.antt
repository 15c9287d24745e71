-- The rows stand in front of the words.
use Rattle.compound_node.proofs.Common.{List, ap, length, refl, subst, sym, take, ℕ, ◌∙◌, ◌≡◌, take-append_seam}
use Rattle.compound_node.specs.Nodes.{FitsHead, HeadView}
use Rattle.compound_node.proofs.heads.Head.from_rows.Goals as goal
use Rattle.compound_node.proofs.heads.Head.from_rows.Goals.{After-pad}

front : (c : After-pad) → take (length c.args.rows.now) c.pad.result ≡ c.args.rows.now
front c = ap (take (length c.args.rows.now)) c.pad.ensures ∙ take-append_seam c.args.rows.now _

pub invariant_of-result : goal.invariant_of-result
invariant_of-result c = subst (λ rows. FitsHead (length c.args.rows.now) c.pad.result (record { height = c.args.height; columns = c.args.columns; rows = rows })) (sym (front c))
    (record { padded = c.pad.ensures; counted = refl; lawful = c.requires })

pub returns : goal.returns
returns c =
    let head : List ℕ → HeadView = λ rows. record { height = c.args.height; columns = c.args.columns; rows = rows } in
    ap head (front c)
