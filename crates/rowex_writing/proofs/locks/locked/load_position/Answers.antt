-- Two words of the head have the position.
use Rattle.rowex_writing.proofs.Common.{◌∙◌, ap, arith, get_or, sym, subst, mask_index, position_index, position_within, mask_within, record_number}
use Rattle.rowex_writing.specs.locks.Going.{HasLocked}
use Rattle.rowex_writing.proofs.locks.Loads.{head_word}
use Rattle.rowex_writing.proofs.locks.Going.{locked_on, reads_more, seat_of}
use Rattle.rowex_writing.proofs.locks.locked.load_position.Goals as goal

pub load_locked_word-word-requires-clause-index : goal.load_locked_word-word-requires-clause-index
load_locked_word-word-requires-clause-index g c =
    let within = position_within c.load_numbers-numbers.result.kind c.args.column c.requires.column in omega (arith, c.index_of_position-index.ensures, within)

pub load_locked_word-masks-requires-clause-own : goal.load_locked_word-masks-requires-clause-own
load_locked_word-masks-requires-clause-own g c =
    seat_of c.args.table.now g.G.Gate.becomes (c.load_numbers-numbers.new.seat, c.load_numbers-numbers.new.gate) (c.load_locked_word-word.new.seat, c.load_locked_word-word.new.gate) c.load_locked_word-word.ensures.reads.goes c.load_numbers-numbers.ensures.own

pub load_locked_word-masks-requires-clause-index : goal.load_locked_word-masks-requires-clause-index
load_locked_word-masks-requires-clause-index g c =
    let within = mask_within c.load_numbers-numbers.result.kind c.args.column c.requires.column in omega (arith, c.index_of_mask-mask.ensures, within)

pub returns-clause-reads : goal.returns-clause-reads
returns-clause-reads g c =
    let more = reads_more c.args.table.now g.G.Gate.becomes (c.args.seat.now, c.args.gate.now) in
    more (c.load_locked_word-word.new.seat, c.load_locked_word-word.new.gate) (c.load_locked_word-masks.new.seat, c.load_locked_word-masks.new.gate)
    (more (c.load_numbers-numbers.new.seat, c.load_numbers-numbers.new.gate) (c.load_locked_word-word.new.seat, c.load_locked_word-word.new.gate) c.load_numbers-numbers.ensures.reads c.load_locked_word-word.ensures.reads)
    c.load_locked_word-masks.ensures.reads

pub returns-clause-position : goal.returns-clause-position
returns-clause-position g c = λ node (words, h, is).
    let n = record_number c.locate-node.result.rec in
    let there = subst (λ q. HasLocked c.args.seat.now.known q words) (sym (ap record_number c.locate-node.ensures.rec)) h in
    let kind = c.load_numbers-numbers.result.kind in
    let then = locked_on c.args.seat.now.known c.load_numbers-numbers.new.seat.known n words c.load_numbers-numbers.ensures.reads.goes.stays.1 there in
    let last = locked_on c.load_numbers-numbers.new.seat.known c.load_locked_word-word.new.seat.known n words c.load_locked_word-word.ensures.reads.goes.stays.1 then in
    let told = c.load_numbers-numbers.ensures.numbers node (words, there, is) in
    c.read_position.ensures node is.has.lawful told
    (head_word node words is (position_index kind c.args.column) (position_within kind c.args.column c.requires.column) ∙ (ap (λ i. get_or words i 0) (sym c.index_of_position-index.ensures) ∙ sym (c.load_locked_word-word.ensures.word words then)))
    (head_word node words is (mask_index kind c.args.column) (mask_within kind c.args.column c.requires.column) ∙ (ap (λ i. get_or words i 0) (sym c.index_of_mask-mask.ensures) ∙ sym (c.load_locked_word-masks.ensures.word words last)))
