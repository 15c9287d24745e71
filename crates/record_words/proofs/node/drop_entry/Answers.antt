-- The words of the other entries move, and those of the head are the new head's; or the other of two entries is read.
use Rattle.record_words.proofs.Common.{rules, List, ℕ, ◌≢◌, ◌≡◌, ◌+◌, ◌-◌, ◌<◌, ◌∙◌, ap, arith, drop, get_or, get_or-take, length, refl, sym, subst, take, remove, IsBuiltFrom, IsLawfulNode, NodeView, greatest_height, head_of, node_of, piece, Leaf, without}
use Rattle.record_words.specs.HeadParts.{AreNumbersOf}
use Rattle.record_words.specs.Dropping.{CanDropAt, HasHeadWithout}
use Rattle.record_words.specs.Node.{HasNodeWords, SpellBuilt, SpellEntries, head_words, node_words}
use Rattle.record_words.specs.declared.numbers.HeadNumbers.{HeadNumbers}
use Rattle.record_words.proofs.Dropping.{front_stays, left_has_words, other_left, spells_left, taken, words_left}
use Rattle.record_words.proofs.Nodes.{head_part, length-node_words}
use Rattle.record_words.proofs.Reading.{entry_spelled}
use Rattle.record_words.proofs.node.drop_entry.Goals as goal

-- the numbers of each node with the words
module _ (words : List ℕ) (numbers : HeadNumbers) (tells : (node : NodeView) → IsLawfulNode node → get_or (head_words (head_of node)) 0 0 ≡ get_or words 0 0 → AreNumbersOf numbers node) where
  told : (node : NodeView) → HasNodeWords node → node_words node ≡ words → AreNumbersOf numbers node
  told node has same = tells node has.lawful (ap (λ ws. get_or ws 0 0) (head_part node words same) ∙ get_or-take 25 words 0 0 (omega arith))

  -- a place of one such node is one of each
  here : (at : ℕ) → ((node : NodeView) × HasNodeWords node × (node_words node ≡ words) × (at < length node.entries)) → at < numbers.count
  here at (node, has, same, inside) = omega (arith, inside, (told node has same).count_is)

  -- the words without that of the entry
  module _ (at : ℕ) (shorter : List ℕ) (is : shorter ≡ taken words (25 + numbers.count - 1 + 1) (25 + at)) (node : NodeView) (has : HasNodeWords node) (same : node_words node ≡ words) (inside : at < length node.entries) where
    counted : numbers.count ≡ length node.entries
    counted = (told node has same).count_is

    shorter_is : shorter ≡ taken words (25 + numbers.count) (25 + at)
    shorter_is = is ∙ ap (λ k. taken words k (25 + at)) (let e : 25 + numbers.count - 1 + 1 ≡ 25 + numbers.count = omega (arith, inside, counted) in e)

    -- the entries that are left
    still_spelled : SpellEntries numbers.height (take (25 + numbers.count - 1 - 25) (drop 25 shorter)) (remove node.entries at)
    still_spelled =
        subst (λ h. SpellEntries h (take (25 + numbers.count - 1 - 25) (drop 25 shorter)) (remove node.entries at)) (sym (told node has same).height_is)
        (spells_left node has at inside words shorter (take (25 + numbers.count - 1 - 25) (drop 25 shorter)) numbers.count same counted shorter_is
        (ap (λ k. take k (drop 25 shorter)) (let e : 25 + numbers.count - 1 - 25 ≡ numbers.count - 1 = omega arith in e)))

    -- and the head is as before
    can_drop : numbers.count ≢ 2 → CanDropAt shorter node at
    can_drop more = record {
      lawful = has.lawful;
      begins = head_part node words same
          ∙ sym (ap (take 25) shorter_is ∙ front_stays words (25 + numbers.count) (25 + at) (omega (arith, inside, counted))
          (let long : length words ≡ 57 = ap length (sym same) ∙ length-node_words node in omega (arith, long, counted, has.entries.room)) 25 (omega arith));
      in_range = inside;
      several = omega (arith, counted, more, has.lawful.several);
    }

    left_spelled : (height : ℕ) (out : List ℕ) → HasHeadWithout shorter out at height node → height ≡ 1 + greatest_height (remove node.entries at) → SpellBuilt out (without at (piece node))
    left_spelled height out without_it tall =
        let after : NodeView = node_of without_it.head (remove node.entries at) in
        let built : IsBuiltFrom after (without at (piece node)) = without_it.built tall in
        record {
          node = after;
          has = left_has_words node after at inside refl has.entries built.lawful;
          spells = words_left node after at inside refl has.entries.room words shorter out numbers.count at same counted refl shorter_is without_it.has;
          built = built;
        }

pub overflow_sub-slot : goal.overflow_sub-slot
overflow_sub-slot c = omega (arith, here c.args.words.now c.read_numbers-numbers.result c.read_numbers-numbers.ensures.node c.args.slot c.requires, c.if-numbers-eq2.true)

pub remove_element-requires-clause-in_range : goal.remove_element-requires-clause-in_range
remove_element-requires-clause-in_range c = omega (arith, here c.args.words.now c.read_numbers-numbers.result c.read_numbers-numbers.ensures.node c.args.slot c.requires)

pub remove_element-requires-clause-room : goal.remove_element-requires-clause-room
remove_element-requires-clause-room c =
    let (node, has, same, inside) = c.requires in
    let long : length c.args.words.now ≡ 57 = ap length (sym same) ∙ length-node_words node in
    omega (arith, (told c.args.words.now c.read_numbers-numbers.result c.read_numbers-numbers.ensures.node node has same).count_is, has.entries.room, inside, long)

pub read_some_entry-requires : goal.read_some_entry-requires
read_some_entry-requires c =
    let (node, has, same, inside) = c.requires in
    let two : length node.entries ≡ 2 = omega (arith, (told c.args.words.now c.read_numbers-numbers.result c.read_numbers-numbers.ensures.node node has same).count_is, c.if-numbers-eq2.true) in
    let at : 25 + (1 - c.args.slot) ≡ 26 - c.args.slot = omega (arith, inside, two) in
    let spelled = entry_spelled node c.args.words.now (1 - c.args.slot) has same (omega (arith, two)) in
    (get_or node.entries (1 - c.args.slot) (Leaf 0), spelled.0, spelled.1 ∙ ap (λ k. get_or c.args.words.now k 0) at)

pub returns-then-numbers-eq2 : goal.returns-then-numbers-eq2
returns-then-numbers-eq2 c = λ node has same.
    let two : length node.entries ≡ 2 = omega (arith, (told c.args.words.now c.read_numbers-numbers.result c.read_numbers-numbers.ensures.node node has same).count_is, c.if-numbers-eq2.true) in
    let low : c.args.slot < 2 = omega (arith, here c.args.words.now c.read_numbers-numbers.result c.read_numbers-numbers.ensures.node c.args.slot c.requires, c.if-numbers-eq2.true) in
    let at : 25 + (1 - c.args.slot) ≡ 26 - c.args.slot = omega (arith, low) in
    let spelled = entry_spelled node c.args.words.now (1 - c.args.slot) has same (omega (arith, two)) in
    let read : c.read_some_entry.result ≡ get_or node.entries (1 - c.args.slot) (Leaf 0) =
    c.read_some_entry.ensures.only (get_or node.entries (1 - c.args.slot) (Leaf 0)) spelled.0 (spelled.1 ∙ ap (λ k. get_or c.args.words.now k 0) at) in
    other_left node has c.args.slot c.read_some_entry.result low two read

pub height_over-height-requires : goal.height_over-height-requires
height_over-height-requires c =
    let (node, has, same, inside) = c.requires in
    (remove node.entries c.args.slot, still_spelled c.args.words.now c.read_numbers-numbers.result c.read_numbers-numbers.ensures.node c.args.slot c.remove_element.new.items c.remove_element.ensures node has same inside)

pub drop_row-requires-clause-dropping : goal.drop_row-requires-clause-dropping
drop_row-requires-clause-dropping c =
    let (node, has, same, inside) = c.requires in
    (node, can_drop c.args.words.now c.read_numbers-numbers.result c.read_numbers-numbers.ensures.node c.args.slot c.remove_element.new.items c.remove_element.ensures node has same inside c.if-numbers-eq2.false)

pub drop_row-requires-clause-height : goal.drop_row-requires-clause-height
drop_row-requires-clause-height c =
    let (node, has, same, inside) = c.requires in
    omega (
      arith,
      c.height_over-height.ensures (remove node.entries c.args.slot)
          (still_spelled c.args.words.now c.read_numbers-numbers.result c.read_numbers-numbers.ensures.node c.args.slot c.remove_element.new.items c.remove_element.ensures node has same inside),
    )

pub returns : goal.returns
returns c = λ node has same.
    let low = here c.args.words.now c.read_numbers-numbers.result c.read_numbers-numbers.ensures.node c.args.slot c.requires in
    let inside : c.args.slot < length node.entries = omega (arith, low, (told c.args.words.now c.read_numbers-numbers.result c.read_numbers-numbers.ensures.node node has same).count_is) in
    let tall = c.height_over-height.ensures (remove node.entries c.args.slot)
    (still_spelled c.args.words.now c.read_numbers-numbers.result c.read_numbers-numbers.ensures.node c.args.slot c.remove_element.new.items c.remove_element.ensures node has same inside) in
    left_spelled c.args.words.now c.read_numbers-numbers.result c.read_numbers-numbers.ensures.node c.args.slot c.remove_element.new.items c.remove_element.ensures node has same inside c.height_over-height.result c.drop_row.new.words
    (c.drop_row.ensures node (can_drop c.args.words.now c.read_numbers-numbers.result c.read_numbers-numbers.ensures.node c.args.slot c.remove_element.new.items c.remove_element.ensures node has same inside c.if-numbers-eq2.false)) tall

pub slice_bounds-height_over-end : goal.slice_bounds-height_over-end
slice_bounds-height_over-end c =
    let (node, has, same, inside) = c.requires in
    let long : length c.args.words.now ≡ 57 = ap length (sym same) ∙ length-node_words node in
    let longer : length c.remove_element.new.items ≡ length c.args.words.now = search rules in
    omega (arith, (told c.args.words.now c.read_numbers-numbers.result c.read_numbers-numbers.ensures.node node has same).count_is, has.entries.room, inside, long, longer)
