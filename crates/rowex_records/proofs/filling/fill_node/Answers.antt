-- Eight by eight, and then the last one: these are all, and spell the node.
use Rattle.rowex_records.proofs.Common.{arith, rules, length, refl, ◌≡◌, a_node, IsPacked}
use Rattle.rowex_records.specs.Records.{SetsSome}
use Rattle.rowex_records.proofs.filling.Named.{claimed_at, more_of, stores_of}
use Rattle.rowex_records.proofs.filling.SetAll.{sets_eights, sets_node, sets_count, sets_give}
use Rattle.rowex_records.proofs.filling.fill_node.Given as given
use Rattle.rowex_records.proofs.filling.fill_node.Goals as goal
use Rattle.rowex_records.proofs.filling.fill_node.Goals.{After-store_word}

pub store_group-requires-clause-held : goal.store_group-requires-clause-held
store_group-requires-clause-held g c = claimed_at c.locate-node.ensures.rec c.args.seat.now.known c.requires.held

-- all of them are stored
all_set : (g : given.Over) (c : After-store_word g) →
    SetsSome c.args.table.now g.G.Gate.becomes (a_node c.args.number) c.args.words.now 57 (c.args.seat.now, c.args.gate.now) (c.store_word.new.seat, c.store_word.new.gate)
all_set g c =
    let is = c.locate-node.ensures.rec in let words = c.args.words.now in
    sets_eights _ _ (a_node c.args.number) _ _ _ _ _ _ _ _ _ _ _ c.requires.held
    (more_of is words 0 c.store_group.ensures)
    (more_of is words 8 c.store_group-2.ensures)
    (more_of is words 16 c.store_group-3.ensures)
    (more_of is words 24 c.store_group-4.ensures)
    (more_of is words 32 c.store_group-5.ensures)
    (more_of is words 40 c.store_group-6.ensures)
    (more_of is words 48 c.store_group-7.ensures)
    refl
    (stores_of is c.store_word.ensures)

pub returns-clause-fills : goal.returns-clause-fills
returns-clause-fills g c =
    let size : length c.args.words.now ≡ 57 = search rules in
    sets_node _ _ c.args.number c.args.words.now 57 _ _ size (search rules) (all_set g (goal.at.returns-clause-fills g c).After-store_word)

pub returns-clause-filled : goal.returns-clause-filled
unfolding IsPacked
returns-clause-filled g c = (sets_give _ _ (a_node c.args.number) _ _ _ (returns-clause-fills g c) c.requires.held, c.requires.spelling)

pub returns-clause-steps : goal.returns-clause-steps
returns-clause-steps g c = omega (arith, sets_count _ _ (a_node c.args.number) c.args.words.now 57 _ _ (all_set g (goal.at.returns-clause-steps g c).After-store_word))
