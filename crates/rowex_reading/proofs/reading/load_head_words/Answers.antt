-- What the words of a head tell.
use Rattle.rowex_reading.proofs.Common.{◌+◌, ◌∙◌, ap, lit≤, sym, Node, Middle, Narrow, Wide, record_number}
use Rattle.rowex_reading.proofs.Seen.Led.{led_on, reader_then, reads_trans}
use Rattle.rowex_reading.proofs.Seen.Naming.{node_led, words_told}
use Rattle.rowex_reading.proofs.Seen.Standing.{led_in_table}
use Rattle.rowex_reading.proofs.reading.Stepping.{kind_read}
use Rattle.rowex_reading.proofs.reading.load_head_words.Goals as goal

pub locate-node-requires : goal.locate-node-requires
locate-node-requires g c = let l = c.requires.led in led_in_table c.args.table.now.layout c.args.seat.now.known l.0 (Node c.args.number l.1) c.requires.reader.1 l.2

pub load_head_part-requires-clause-led : goal.load_head_part-requires-clause-led
load_head_part-requires-clause-led g c = let (m, h, led) = c.requires.led in (m, h, node_led c.args.number c.locate-node.result.rec c.locate-node.ensures.rec c.args.seat.now.known m h led)

-- ---- a narrow head
pub load_head_part-requires-in-Narrow-clause-reader : goal.load_head_part-requires-in-Narrow-clause-reader
load_head_part-requires-in-Narrow-clause-reader g c = reader_then c.requires.reader c.load_head_part.ensures.reads

pub load_head_part-requires-in-Narrow-clause-led : goal.load_head_part-requires-in-Narrow-clause-led
load_head_part-requires-in-Narrow-clause-led g c = let (m, h, led) = c.requires.led in (m, h, node_led c.args.number c.locate-node.result.rec c.locate-node.ensures.rec c.load_head_part.new.seat.known m h (led_on m (Node c.args.number h) c.load_head_part.ensures.reads led))

pub returns-in-Narrow-clause-reads : goal.returns-in-Narrow-clause-reads
returns-in-Narrow-clause-reads g c = (7, lit≤ tt, reads_trans c.load_head_part.ensures.reads c.load_head_part-in-Narrow.ensures.reads)

pub returns-in-Narrow-clause-words : goal.returns-in-Narrow-clause-words
returns-in-Narrow-clause-words g c = λ m h led.
    let e = c.load_head_part.ensures in let f = c.load_head_part-in-Narrow.ensures in
    words_told c.args.number c.locate-node.result.rec c.locate-node.ensures.rec c.load_head_part-in-Narrow.new.seat.known m h _
    (kind_read _ _ _ _ (record_number c.locate-node.result.rec) Narrow c.load_head_part.new.words c.load_head_part-in-Narrow.new.words (reader_then (reader_then c.requires.reader e.reads) f.reads).1 e.loaded f.loaded
    (sym c.read_numbers.ensures.parts.3 ∙ c.in-Narrow.is) e.long (ap (λ n. 1 + n) f.long) m h (node_led c.args.number c.locate-node.result.rec c.locate-node.ensures.rec c.args.seat.now.known m h led))

-- ---- a middle head
pub load_head_part-requires-in-Middle-clause-reader : goal.load_head_part-requires-in-Middle-clause-reader
load_head_part-requires-in-Middle-clause-reader g c = reader_then c.requires.reader c.load_head_part.ensures.reads

pub load_head_part-requires-in-Middle-clause-led : goal.load_head_part-requires-in-Middle-clause-led
load_head_part-requires-in-Middle-clause-led g c = let (m, h, led) = c.requires.led in (m, h, node_led c.args.number c.locate-node.result.rec c.locate-node.ensures.rec c.load_head_part.new.seat.known m h (led_on m (Node c.args.number h) c.load_head_part.ensures.reads led))

pub returns-in-Middle-clause-reads : goal.returns-in-Middle-clause-reads
returns-in-Middle-clause-reads g c = (13, lit≤ tt, reads_trans c.load_head_part.ensures.reads c.load_head_part-in-Middle.ensures.reads)

pub returns-in-Middle-clause-words : goal.returns-in-Middle-clause-words
returns-in-Middle-clause-words g c = λ m h led.
    let e = c.load_head_part.ensures in let f = c.load_head_part-in-Middle.ensures in
    words_told c.args.number c.locate-node.result.rec c.locate-node.ensures.rec c.load_head_part-in-Middle.new.seat.known m h _
    (kind_read _ _ _ _ (record_number c.locate-node.result.rec) Middle c.load_head_part.new.words c.load_head_part-in-Middle.new.words (reader_then (reader_then c.requires.reader e.reads) f.reads).1 e.loaded f.loaded
    (sym c.read_numbers.ensures.parts.3 ∙ c.in-Middle.is) e.long (ap (λ n. 1 + n) f.long) m h (node_led c.args.number c.locate-node.result.rec c.locate-node.ensures.rec c.args.seat.now.known m h led))

-- ---- a wide head
pub load_head_part-requires-in-Wide-clause-reader : goal.load_head_part-requires-in-Wide-clause-reader
load_head_part-requires-in-Wide-clause-reader g c = reader_then c.requires.reader c.load_head_part.ensures.reads

pub load_head_part-requires-in-Wide-clause-led : goal.load_head_part-requires-in-Wide-clause-led
load_head_part-requires-in-Wide-clause-led g c = let (m, h, led) = c.requires.led in (m, h, node_led c.args.number c.locate-node.result.rec c.locate-node.ensures.rec c.load_head_part.new.seat.known m h (led_on m (Node c.args.number h) c.load_head_part.ensures.reads led))

pub returns-in-Wide-clause-reads : goal.returns-in-Wide-clause-reads
returns-in-Wide-clause-reads g c = (25, lit≤ tt, reads_trans c.load_head_part.ensures.reads c.load_head_part-in-Wide.ensures.reads)

pub returns-in-Wide-clause-words : goal.returns-in-Wide-clause-words
returns-in-Wide-clause-words g c = λ m h led.
    let e = c.load_head_part.ensures in let f = c.load_head_part-in-Wide.ensures in
    words_told c.args.number c.locate-node.result.rec c.locate-node.ensures.rec c.load_head_part-in-Wide.new.seat.known m h _
    (kind_read _ _ _ _ (record_number c.locate-node.result.rec) Wide c.load_head_part.new.words c.load_head_part-in-Wide.new.words (reader_then (reader_then c.requires.reader e.reads) f.reads).1 e.loaded f.loaded
    (sym c.read_numbers.ensures.parts.3 ∙ c.in-Wide.is) e.long (ap (λ n. 1 + n) f.long) m h (node_led c.args.number c.locate-node.result.rec c.locate-node.ensures.rec c.args.seat.now.known m h led))
