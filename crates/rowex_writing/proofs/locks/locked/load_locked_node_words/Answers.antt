-- All words, of the head and then of entries.
use Rattle.rowex_writing.proofs.Common.{◌≡◌, ◌≤◌, ◌+◌, ◌%◌, ap, get_or, inl, length, refl, sym, ◌∙◌, subst, arith, ⊎_elim, record_number}
use Rattle.record_words.proofs.Reading.{entries_counted}
use Rattle.rowex_writing.specs.locks.Going.{HasLocked, IsNodeOf}
use Rattle.rowex_writing.specs.locks.Loads.{AreThose}
use Rattle.rowex_writing.proofs.locks.Going.{all_read}
use Rattle.rowex_writing.proofs.locks.locked.load_locked_node_words.Goals as goal

-- The words of the head have been loaded, and then those of entries.
pub returns-clause-words : goal.returns-clause-words
returns-clause-words g c = λ words h.
    let there = subst (λ q. HasLocked c.args.seat.now.known q words) (sym (ap record_number c.locate-node.ensures.rec)) h in
    let head = c.load_locked_head.ensures in
    let first : AreThose c.load_locked_head.new.words words 25 = head.those words there in
    let (view, is) = first.spelled (omega arith) in
    let told : get_or c.load_locked_head.new.words 0 0 % 256 ≡ length view.entries = ap (λ z. z % 256) (first.each 0 (omega arith)) ∙ entries_counted view words is.has is.spells in
    let (n, read, (high, upto)) = c.load_slot_group-4.ensures.reads _ (c.load_slot_group-3.ensures.reads _ (c.load_slot_group-2.ensures.reads _ (c.load_slot_group.ensures.reads _ (25, head, (omega arith, inl refl))))) in
    let past : 25 + get_or c.load_locked_head.new.words 0 0 % 256 ≤ n = ⊎_elim (λ (all : n ≡ 57). omega (arith, all, told, is.has.lawful.room)) (λ past. omega (arith, past, c.read_numbers-numbers.ensures.parts.0)) upto in
    all_read c.args.table.now g.G.Gate.becomes (c.args.seat.now, c.args.gate.now) (c.load_slot_group-4.new.seat, c.load_slot_group-4.new.gate) (record_number c.locate-node.result.rec) c.load_slot_group-4.new.words n read words view there is (omega (arith, told, past))

pub returns-clause-node : goal.returns-clause-node
returns-clause-node g c =
    let (words, h) = c.requires.locked in
    let there = subst (λ q. HasLocked c.args.seat.now.known q words) (sym (ap record_number c.locate-node.ensures.rec)) h in
    let (view, is) = (c.load_locked_head.ensures.those words there).spelled (omega arith) in
    (view, subst (λ ws. IsNodeOf ws view) (sym (returns-clause-words g c words h)) is)

pub returns-clause-reads : goal.returns-clause-reads
returns-clause-reads g c =
    let head = c.load_locked_head.ensures in
    (c.load_slot_group-4.ensures.reads _ (c.load_slot_group-3.ensures.reads _ (c.load_slot_group-2.ensures.reads _ (c.load_slot_group.ensures.reads _ (25, head, (omega arith, inl refl)))))).1.reads

pub returns-clause-few : goal.returns-clause-few
returns-clause-few g c =
    let head = c.load_locked_head.ensures in
    let (n, read, (high, upto)) = c.load_slot_group-4.ensures.reads _ (c.load_slot_group-3.ensures.reads _ (c.load_slot_group-2.ensures.reads _ (c.load_slot_group.ensures.reads _ (25, head, (omega arith, inl refl))))) in
    omega (arith, read.few, high)
