-- What the words of a head tell of the entries that a position affects.
use Rattle.rowex_reading.proofs.Common.{◌∙◌, ap, arith, length, sym, HeadView, leaves, node_of, Node, same_count, same_head}
use Rattle.rowex_reading.proofs.reading.Heading.{spelled_so}
use Rattle.rowex_reading.proofs.Seen.Led.{led_on, reader_then, reads_later}
use Rattle.rowex_reading.proofs.Seen.{room_stable, sure_later}
use Rattle.rowex_reading.proofs.Possible.Shapes.{place_inside, rows_are}
use Rattle.rowex_reading.specs.Seen.{HasPlace, HasMorePlaces}
use Rattle.rowex_reading.proofs.affected.find_affected.Goals as goal

pub load_head_words-words-requires-clause-led : goal.load_head_words-words-requires-clause-led
load_head_words-words-requires-clause-led g c = let (m, h, has) = c.requires.place in (m, h, has.0)

pub affected_slots-requires-clause-spelling : goal.affected_slots-requires-clause-spelling
affected_slots-requires-clause-spelling g c = let (m, h, has) = c.requires.place in spelled_so (c.load_head_words-words.ensures.words m h has.0)

pub affected_slots-requires-clause-in_range : goal.affected_slots-requires-clause-in_range
affected_slots-requires-clause-in_range g c = λ node lawful same.
    let (m, h, has) = c.requires.place in let e = c.load_head_words-words.ensures in let are = e.words m h has.0 in
    let here : HasPlace c.load_head_words-words.new.seat.known m c.args.step.number h c.args.step.slot = (led_on m (Node c.args.step.number h) e.reads.2 has.0, sure_later {P = λ s. HasMorePlaces s m c.args.step.number c.args.step.slot} (room_stable m c.args.step.number c.args.step.slot) (reads_later e.reads.2) has.1) in
    let inside = place_inside _ _ m c.args.step.number h c.args.step.slot _ (reader_then c.requires.reader e.reads.2).1 here are.seen.shaped in
    let heads = same_head (node_of are.head (leaves (length are.head.rows))) node are.seen.lawful lawful (are.words_are ∙ sym same) in
    omega (arith, inside, rows_are are.head are.seen.lawful, ap (λ (v : HeadView). length v.rows) heads, same_count node lawful)

pub returns-clause-affected : goal.returns-clause-affected
returns-clause-affected g c = λ m h has.
    let are = c.load_head_words-words.ensures.words m h has.0 in let v = node_of are.head (leaves (length are.head.rows)) in
    (_, are.seen.shaped, c.affected_slots.ensures.from v are.seen.lawful are.words_are, c.affected_slots.ensures.upto v are.seen.lawful are.words_are)
