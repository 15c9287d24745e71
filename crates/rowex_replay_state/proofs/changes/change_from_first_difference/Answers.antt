-- The change at the first place where the lists differ.
use Rattle.rowex_replay_state.proofs.Common.{◌∷◌, [], refl, sym, subst, added_change, removed_change}
use Rattle.std.specs.declared.cmp.Ordering.TheVariants.{Less, Equal, Greater}
use Rattle.std.specs.Prelude.{map}
use Rattle.rowex_replay_state.specs.Versions.{read_item}
use Rattle.rowex_replay_state.specs.Changed.{IsMade}
use Rattle.rowex_replay_state.proofs.Changed.{removal_found, addition_found, exchange_found, apart_change, found_at, no_items}
use Rattle.rowex_replay_state.proofs.changes.change_from_first_difference.Goals as goal

pub returns-in-None-Some : goal.returns-in-None-Some
returns-in-None-Some c =
    let p = c.in-None-Some in
    let e = no_items c.args.gone.now p.ensures.cases in
    found_at c.args.pass c.args.gone.now c.args.come.now [] (p.new.now ∷ p.rest.now) c.make_change.result e p.ensures'.cases.0 c.requires
    (λ a s. addition_found c.args.pass (read_item p.new.now) [] (map read_item p.rest.now) c.make_change.result a s refl
    (subst (λ g. IsMade (map read_item g) (map read_item p.rest.now) (added_change c.args.pass (read_item p.new.now)) c.make_change.result) e c.make_change.ensures))

pub returns-in-Some-None : goal.returns-in-Some-None
returns-in-Some-None c =
    let p = c.in-Some-None in
    let e = no_items c.args.come.now p.ensures'.cases in
    found_at c.args.pass c.args.gone.now c.args.come.now (p.old.now ∷ p.rest.now) [] c.make_change-in-Some-None.result p.ensures.cases.0 e c.requires
    (λ a s. removal_found c.args.pass (read_item p.old.now) (map read_item p.rest.now) [] c.make_change-in-Some-None.result a s refl
    (subst (λ g. IsMade (map read_item p.rest.now) (map read_item g) (removed_change c.args.pass (read_item p.old.now)) c.make_change-in-Some-None.result) e c.make_change-in-Some-None.ensures))

pub returns-in-Less : goal.returns-in-Less
returns-in-Less c =
    let p = c.in-Some-Some in
    found_at c.args.pass c.args.gone.now c.args.come.now (p.old.now ∷ p.gone_rest.now) (p.new.now ∷ p.come_rest.now) c.make_change-in-Less.result p.ensures.cases.0 p.ensures'.cases.0 c.requires
    (λ a s. removal_found c.args.pass (read_item p.old.now) (map read_item p.gone_rest.now) (map read_item (p.new.now ∷ p.come_rest.now)) c.make_change-in-Less.result a s
    (apart_change c.args.pass (read_item p.old.now) (read_item p.new.now) (map read_item p.gone_rest.now) (map read_item p.come_rest.now) Less a (sym c.in-Less.ensures.bytes))
    (subst (λ g. IsMade (map read_item p.gone_rest.now) (map read_item g) (removed_change c.args.pass (read_item p.old.now)) c.make_change-in-Less.result) p.ensures'.cases.0 c.make_change-in-Less.ensures))

pub returns-in-Greater : goal.returns-in-Greater
returns-in-Greater c =
    let p = c.in-Some-Some in
    found_at c.args.pass c.args.gone.now c.args.come.now (p.old.now ∷ p.gone_rest.now) (p.new.now ∷ p.come_rest.now) c.make_change-in-Greater.result p.ensures.cases.0 p.ensures'.cases.0 c.requires
    (λ a s. addition_found c.args.pass (read_item p.new.now) (map read_item (p.old.now ∷ p.gone_rest.now)) (map read_item p.come_rest.now) c.make_change-in-Greater.result a s
    (apart_change c.args.pass (read_item p.old.now) (read_item p.new.now) (map read_item p.gone_rest.now) (map read_item p.come_rest.now) Greater a (sym c.in-Greater.ensures.bytes))
    (subst (λ g. IsMade (map read_item g) (map read_item p.come_rest.now) (added_change c.args.pass (read_item p.new.now)) c.make_change-in-Greater.result) p.ensures.cases.0 c.make_change-in-Greater.ensures))

pub returns-in-Equal : goal.returns-in-Equal
returns-in-Equal c =
    let p = c.in-Some-Some in
    found_at c.args.pass c.args.gone.now c.args.come.now (p.old.now ∷ p.gone_rest.now) (p.new.now ∷ p.come_rest.now) c.make_change-in-Equal.result p.ensures.cases.0 p.ensures'.cases.0 c.requires
    (λ a s. exchange_found c.args.pass (read_item p.old.now) (read_item p.new.now) (map read_item p.gone_rest.now) (map read_item p.come_rest.now) c.make_change-in-Equal.result a s (c.in-Equal.ensures.equal.0 refl)
    (apart_change c.args.pass (read_item p.old.now) (read_item p.new.now) (map read_item p.gone_rest.now) (map read_item p.come_rest.now) Equal a (sym c.in-Equal.ensures.bytes))
    c.make_change-in-Equal.ensures)
