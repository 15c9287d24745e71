-- The value, then the length and the words of the key, each behind the one before: these are the leaf's words up to the end of its key.
use Rattle.rowex_records.proofs.Common.{rules, arith, subst, length, ap, ◌≡◌, ◌+◌, ◌-◌, a_leaf, leaf_words, words_for}
use Rattle.rowex_records.specs.Records.{SetsSome}
use Rattle.rowex_records.proofs.filling.Named.{stores_of}
use Rattle.rowex_records.proofs.filling.SetAll.{key_next, length_next, sets_leaf_value, sets_leaf_next, sets_count, sets_leaf}
use Rattle.rowex_records.proofs.filling.fill_leaf.Given as given
use Rattle.rowex_records.proofs.filling.fill_leaf.Goals as goal
use Rattle.rowex_records.proofs.filling.fill_leaf.Goals.{After-store_word-2}

pub loop-index-init : goal.loop-index-init
loop-index-init g c = (
  sets_leaf_value _ _ c.args.number (c.args.key.now, c.args.value) _ _ c.requires.held (stores_of c.locate-leaf.ensures.rec c.store_word.ensures),
  omega arith,
  length_next (c.args.key.now, c.args.value) _ (search rules),
)

pub loop-index-preserved : goal.loop-index-preserved
loop-index-preserved g c =
    let (some, at, is) = c.loop-index.invariant in (
      sets_leaf_next _ _ c.args.number c.loop-index.index _ _ (c.args.key.now, c.args.value) _ _ _ some at is (stores_of c.locate-leaf.ensures.rec c.store_word-in-loop-index.ensures),
      omega arith,
      key_next (c.args.key.now, c.args.value) c.loop-index.index _ (search rules) c.key_word_at-word.ensures,
    )

-- all of them are stored
all_set : (g : given.Over) (c : After-store_word-2 g) →
    SetsSome c.args.table.now g.G.Gate.becomes (a_leaf c.args.number) (leaf_words (c.args.key.now, c.args.value)) (words_for (length c.args.key.now) - 1) (c.args.seat.now, c.args.gate.now) (c.store_word-2.new.seat, c.store_word-2.new.gate)
all_set g c =
    let (some, at, is) = c.loop-index.invariant in
    let end : c.loop-index.index + 1 + 1 ≡ words_for (length c.args.key.now) - 1 = omega (arith, c.loop-index-test.false, c.loop-index.auto.index-end, c.count_key_words-index-end.ensures, ap length c.as_bytes.ensures.bytes) in
    subst (λ k. SetsSome c.args.table.now g.G.Gate.becomes (a_leaf c.args.number) (leaf_words (c.args.key.now, c.args.value)) k (c.args.seat.now, c.args.gate.now) (c.store_word-2.new.seat, c.store_word-2.new.gate)) end
    (sets_leaf_next _ _ c.args.number c.loop-index.index _ _ (c.args.key.now, c.args.value) _ _ _ some at is (stores_of c.locate-leaf.ensures.rec c.store_word-2.ensures))

pub returns-clause-fills : goal.returns-clause-fills
returns-clause-fills g c = all_set g (goal.at.returns-clause-fills g c).After-store_word-2

pub returns-clause-filled : goal.returns-clause-filled
returns-clause-filled g c =
    sets_leaf _ _ c.args.number (c.args.key.now, c.args.value) _ _ record { key = c.as_bytes.ensures.key; value = c.ranges.value.fits } (returns-clause-fills g c) c.requires.held

pub returns-clause-steps : goal.returns-clause-steps
returns-clause-steps g c =
    let few = sets_count _ _ (a_leaf c.args.number) _ (words_for (length c.args.key.now) - 1) _ _ (all_set g (goal.at.returns-clause-steps g c).After-store_word-2) in
    omega (arith, few, c.as_bytes.ensures.key.short)
