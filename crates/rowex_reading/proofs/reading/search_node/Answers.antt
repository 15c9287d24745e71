-- What the loads of the words of a head tell.
use Rattle.rowex_reading.proofs.Common.{ℕ, ◌≡◌, ◌≢◌, ◌/◌, cond, eqb, ◌+◌, ◌-◌, ◌^◌, ◌++◌, ◌∙◌, [], ap, arith, get_or, length, length-append, lit≤, replicate, sym, ne_eqb, get_or_append_left, Node, kind_in, Middle, Narrow, Wide, record_number}
use Rattle.rowex_reading.specs.Lookups.{search_touches}
use Rattle.rowex_reading.specs.Seen.{AreHeadWords, IsLedTo}
use Rattle.rowex_reading.proofs.Seen.Led.{led_on, reader_then, reads_trans}
use Rattle.rowex_reading.proofs.Touching.{led_past, loaded_past, reader_past, searched}
use Rattle.rowex_reading.proofs.reading.Stepping.{back_spelled, begun, begun_loaded, begun_long, front_spelled, near_read, part_spelled, part_spot, step_found, wide_read, wide_spot}
use Rattle.rowex_reading.proofs.reading.search_node.Given as given
use Rattle.rowex_reading.proofs.reading.search_node.Goals as goal
use Rattle.rowex_reading.proofs.reading.search_node.Goals.{After-load_head_part-in-1, After-load_head_part-in-2, After-load_head_part-in_default-2}

-- The number above the low 40 bits of a head's first word tells its kind.
narrow_by : (word : ℕ) → word / 2 ^ 40 ≡ 1 → kind_in word ≡ Narrow
narrow_by word is = ap (λ n. cond (eqb n 1) Narrow (cond (eqb n 2) Middle Wide)) is

middle_by : (word : ℕ) → word / 2 ^ 40 ≡ 2 → kind_in word ≡ Middle
middle_by word is = ap (λ n. cond (eqb n 1) Narrow (cond (eqb n 2) Middle Wide)) is

wide_by : (word : ℕ) → word / 2 ^ 40 ≢ 1 → word / 2 ^ 40 ≢ 2 → kind_in word ≡ Wide
wide_by word one two =
    ap (λ b. cond b Narrow (cond (eqb (word / 2 ^ 40) 2) Middle Wide)) (ne_eqb (word / 2 ^ 40) 1 one) ∙ ap (λ b. cond b Middle Wide) (ne_eqb (word / 2 ^ 40) 2 two)

-- ---- the lines of its entries
pub touch_entries-requires-clause-own : goal.touch_entries-requires-clause-own
touch_entries-requires-clause-own g c = (reader_then c.requires.reader c.load_head_part.ensures.reads).0

-- ---- a narrow head
pub load_head_part-requires-in-1-clause-reader : goal.load_head_part-requires-in-1-clause-reader
load_head_part-requires-in-1-clause-reader g c = reader_past c.args.table.now search_touches c.load_head_part.new.seat c.touch_entries.new.seat c.touch_entries.ensures (reader_then c.requires.reader c.load_head_part.ensures.reads)

pub load_head_part-requires-in-1-clause-led : goal.load_head_part-requires-in-1-clause-led
load_head_part-requires-in-1-clause-led g c = let (m, h, led) = c.requires.led in (m, h, led_past search_touches c.load_head_part.new.seat c.touch_entries.new.seat m (Node (record_number c.args.node.rec) h) c.touch_entries.ensures (led_on m (Node (record_number c.args.node.rec) h) c.load_head_part.ensures.reads led))

module _ (g : given.Over) (c : After-load_head_part-in-1 g) where
  narrow_is : kind_in (get_or c.load_head_part.new.words 0 0) ≡ Narrow
  narrow_is = narrow_by (get_or c.load_head_part.new.words 0 0) (sym c.kind_number.ensures ∙ c.in-1.is)

  narrow_size : length (begun c.load_head_part.new.words c.load_head_part-in-1.new.words) ≡ 7
  narrow_size = begun_long c.load_head_part.new.words c.load_head_part-in-1.new.words ∙ ap (λ n. 1 + n) c.load_head_part-in-1.ensures.long

  narrow_words_are : (m h : ℕ) → IsLedTo c.args.seat.now.known m (Node (record_number c.args.node.rec) h) →
      AreHeadWords c.load_head_part-in-1.new.seat.known m (record_number c.args.node.rec) h (begun c.load_head_part.new.words c.load_head_part-in-1.new.words ++ replicate 18 (2 ^ 64 - 1))
  narrow_words_are m h led =
      let e = c.load_head_part.ensures in let f = c.load_head_part-in-1.ensures in
      near_read _ _ _ _ (record_number c.args.node.rec) Narrow c.load_head_part.new.words c.load_head_part-in-1.new.words (reader_then (reader_past c.args.table.now search_touches c.load_head_part.new.seat c.touch_entries.new.seat c.touch_entries.ensures (reader_then c.requires.reader e.reads)) f.reads).1 e.loaded (loaded_past search_touches c.load_head_part.new.seat c.touch_entries.new.seat c.touch_entries.ensures f.loaded) narrow_is e.long
      (ap (λ n. 1 + n) f.long) m h led

pub search_narrow-slot-requires : goal.search_narrow-slot-requires
search_narrow-slot-requires g c =
    let d = (goal.at.search_narrow-slot-requires g c).After-load_head_part-in-1 in
    let (m, h, led) = c.requires.led in
    part_spelled Narrow (begun c.load_head_part.new.words c.load_head_part-in-1.new.words) (narrow_is g d) (narrow_size g d) (narrow_words_are g d m h led)

pub returns-in-1-clause-reads : goal.returns-in-1-clause-reads
returns-in-1-clause-reads g c = (7, lit≤ tt, searched c.load_head_part.ensures.reads c.touch_entries.ensures c.load_head_part-in-1.ensures.reads)

pub returns-in-1-clause-step : goal.returns-in-1-clause-step
returns-in-1-clause-step g c = λ m h led.
    let d = (goal.at.returns-in-1-clause-step g c).After-load_head_part-in-1 in
    let are = narrow_words_are g d m h led in
    let part = begun c.load_head_part.new.words c.load_head_part-in-1.new.words in
    step_found (part ++ replicate 18 (2 ^ 64 - 1)) are c.read_numbers-numbers.result c.read_numbers-numbers.ensures.node Narrow (c.read_numbers-numbers.ensures.parts.3 ∙ narrow_is g d) _
    (ap (λ i. get_or part i 0) c.index_of_first_position.ensures ∙ sym (get_or_append_left part (replicate 18 (2 ^ 64 - 1)) 0 2 (omega (arith, narrow_size g d))))
    c.path_node.result c.search_narrow-slot.result (rw c.number-number.ensures at c.path_node.ensures.same) c.path_node.ensures.node c.args.key.now
    (part_spot Narrow part (narrow_is g d) (narrow_size g d) are c.args.key.now c.search_narrow-slot.result c.search_narrow-slot.ensures)

-- ---- a middle head
pub load_head_part-requires-in-2-clause-reader : goal.load_head_part-requires-in-2-clause-reader
load_head_part-requires-in-2-clause-reader g c = reader_past c.args.table.now search_touches c.load_head_part.new.seat c.touch_entries.new.seat c.touch_entries.ensures (reader_then c.requires.reader c.load_head_part.ensures.reads)

pub load_head_part-requires-in-2-clause-led : goal.load_head_part-requires-in-2-clause-led
load_head_part-requires-in-2-clause-led g c = let (m, h, led) = c.requires.led in (m, h, led_past search_touches c.load_head_part.new.seat c.touch_entries.new.seat m (Node (record_number c.args.node.rec) h) c.touch_entries.ensures (led_on m (Node (record_number c.args.node.rec) h) c.load_head_part.ensures.reads led))

module _ (g : given.Over) (c : After-load_head_part-in-2 g) where
  middle_is : kind_in (get_or c.load_head_part.new.words 0 0) ≡ Middle
  middle_is = middle_by (get_or c.load_head_part.new.words 0 0) (sym c.kind_number.ensures ∙ c.in-2.is)

  middle_size : length (begun c.load_head_part.new.words c.load_head_part-in-2.new.words) ≡ 13
  middle_size = begun_long c.load_head_part.new.words c.load_head_part-in-2.new.words ∙ ap (λ n. 1 + n) c.load_head_part-in-2.ensures.long

  middle_words_are : (m h : ℕ) → IsLedTo c.args.seat.now.known m (Node (record_number c.args.node.rec) h) →
      AreHeadWords c.load_head_part-in-2.new.seat.known m (record_number c.args.node.rec) h (begun c.load_head_part.new.words c.load_head_part-in-2.new.words ++ replicate 12 (2 ^ 64 - 1))
  middle_words_are m h led =
      let e = c.load_head_part.ensures in let f = c.load_head_part-in-2.ensures in
      near_read _ _ _ _ (record_number c.args.node.rec) Middle c.load_head_part.new.words c.load_head_part-in-2.new.words (reader_then (reader_past c.args.table.now search_touches c.load_head_part.new.seat c.touch_entries.new.seat c.touch_entries.ensures (reader_then c.requires.reader e.reads)) f.reads).1 e.loaded (loaded_past search_touches c.load_head_part.new.seat c.touch_entries.new.seat c.touch_entries.ensures f.loaded) middle_is e.long
      (ap (λ n. 1 + n) f.long) m h led

pub search_middle-slot-requires : goal.search_middle-slot-requires
search_middle-slot-requires g c =
    let d = (goal.at.search_middle-slot-requires g c).After-load_head_part-in-2 in
    let (m, h, led) = c.requires.led in
    part_spelled Middle (begun c.load_head_part.new.words c.load_head_part-in-2.new.words) (middle_is g d) (middle_size g d) (middle_words_are g d m h led)

pub returns-in-2-clause-reads : goal.returns-in-2-clause-reads
returns-in-2-clause-reads g c = (13, lit≤ tt, searched c.load_head_part.ensures.reads c.touch_entries.ensures c.load_head_part-in-2.ensures.reads)

pub returns-in-2-clause-step : goal.returns-in-2-clause-step
returns-in-2-clause-step g c = λ m h led.
    let d = (goal.at.returns-in-2-clause-step g c).After-load_head_part-in-2 in
    let are = middle_words_are g d m h led in
    let part = begun c.load_head_part.new.words c.load_head_part-in-2.new.words in
    step_found (part ++ replicate 12 (2 ^ 64 - 1)) are c.read_numbers-numbers.result c.read_numbers-numbers.ensures.node Middle (c.read_numbers-numbers.ensures.parts.3 ∙ middle_is g d) _
    (ap (λ i. get_or part i 0) c.index_of_first_position-in-2.ensures ∙ sym (get_or_append_left part (replicate 12 (2 ^ 64 - 1)) 0 4 (omega (arith, middle_size g d))))
    c.path_node-in-2.result c.search_middle-slot.result (rw c.number-number.ensures at c.path_node-in-2.ensures.same) c.path_node-in-2.ensures.node c.args.key.now
    (part_spot Middle part (middle_is g d) (middle_size g d) are c.args.key.now c.search_middle-slot.result c.search_middle-slot.ensures)

-- ---- a wide head
pub load_head_part-requires-in_default-clause-reader : goal.load_head_part-requires-in_default-clause-reader
load_head_part-requires-in_default-clause-reader g c = reader_past c.args.table.now search_touches c.load_head_part.new.seat c.touch_entries.new.seat c.touch_entries.ensures (reader_then c.requires.reader c.load_head_part.ensures.reads)

pub load_head_part-requires-in_default-clause-led : goal.load_head_part-requires-in_default-clause-led
load_head_part-requires-in_default-clause-led g c = let (m, h, led) = c.requires.led in (m, h, led_past search_touches c.load_head_part.new.seat c.touch_entries.new.seat m (Node (record_number c.args.node.rec) h) c.touch_entries.ensures (led_on m (Node (record_number c.args.node.rec) h) c.load_head_part.ensures.reads led))

pub extract_dense_key-dense-requires : goal.extract_dense_key-dense-requires
extract_dense_key-dense-requires g c =
    let (m, h, led) = c.requires.led in
    let e = c.load_head_part.ensures in let f = c.load_head_part-in_default.ensures in
    front_spelled _ _ _ (record_number c.args.node.rec) (begun c.load_head_part.new.words c.load_head_part-in_default.new.words) (reader_then (reader_past c.args.table.now search_touches c.load_head_part.new.seat c.touch_entries.new.seat c.touch_entries.ensures (reader_then c.requires.reader e.reads)) f.reads).1
    (begun_loaded c.load_head_part.new.words c.load_head_part-in_default.new.words e.long e.loaded (loaded_past search_touches c.load_head_part.new.seat c.touch_entries.new.seat c.touch_entries.ensures f.loaded))
    (begun_long c.load_head_part.new.words c.load_head_part-in_default.new.words ∙ ap (λ n. 1 + n) f.long) (wide_by (get_or c.load_head_part.new.words 0 0) (omega arith) (omega arith)) m h led

pub load_head_part-requires-in_default-2-clause-reader : goal.load_head_part-requires-in_default-2-clause-reader
load_head_part-requires-in_default-2-clause-reader g c = reader_then (reader_past c.args.table.now search_touches c.load_head_part.new.seat c.touch_entries.new.seat c.touch_entries.ensures (reader_then c.requires.reader c.load_head_part.ensures.reads)) c.load_head_part-in_default.ensures.reads

pub load_head_part-requires-in_default-2-clause-led : goal.load_head_part-requires-in_default-2-clause-led
load_head_part-requires-in_default-2-clause-led g c =
    let (m, h, led) = c.requires.led in
    (m, h, led_on m (Node (record_number c.args.node.rec) h) c.load_head_part-in_default.ensures.reads (led_past search_touches c.load_head_part.new.seat c.touch_entries.new.seat m (Node (record_number c.args.node.rec) h) c.touch_entries.ensures (led_on m (Node (record_number c.args.node.rec) h) c.load_head_part.ensures.reads led)))

module _ (g : given.Over) (c : After-load_head_part-in_default-2 g) where
  wide_is : kind_in (get_or c.load_head_part.new.words 0 0) ≡ Wide
  wide_is = wide_by (get_or c.load_head_part.new.words 0 0) (omega arith) (omega arith)

  front_size : length (begun c.load_head_part.new.words c.load_head_part-in_default.new.words) ≡ 9
  front_size = begun_long c.load_head_part.new.words c.load_head_part-in_default.new.words ∙ ap (λ n. 1 + n) c.load_head_part-in_default.ensures.long

  wide_words_are : (m h : ℕ) → IsLedTo c.args.seat.now.known m (Node (record_number c.args.node.rec) h) →
      AreHeadWords c.load_head_part-in_default-2.new.seat.known m (record_number c.args.node.rec) h ((begun c.load_head_part.new.words c.load_head_part-in_default.new.words ++ c.load_head_part-in_default-2.new.words) ++ [])
  wide_words_are m h led =
      let e = c.load_head_part.ensures in let f = c.load_head_part-in_default.ensures in let b = c.load_head_part-in_default-2.ensures in
      wide_read _ _ _ _ (record_number c.args.node.rec) (begun c.load_head_part.new.words c.load_head_part-in_default.new.words) c.load_head_part-in_default-2.new.words
      (reader_then (reader_then (reader_past c.args.table.now search_touches c.load_head_part.new.seat c.touch_entries.new.seat c.touch_entries.ensures (reader_then c.requires.reader e.reads)) f.reads) b.reads).1
      (begun_loaded c.load_head_part.new.words c.load_head_part-in_default.new.words e.long e.loaded (loaded_past search_touches c.load_head_part.new.seat c.touch_entries.new.seat c.touch_entries.ensures f.loaded)) b.loaded wide_is front_size b.long m h led

pub search_row_words-slot-requires : goal.search_row_words-slot-requires
search_row_words-slot-requires g c =
    let d = (goal.at.search_row_words-slot-requires g c).After-load_head_part-in_default-2 in
    let (m, h, led) = c.requires.led in
    back_spelled (begun c.load_head_part.new.words c.load_head_part-in_default.new.words) c.load_head_part-in_default-2.new.words (wide_is g d) (front_size g d) c.load_head_part-in_default-2.ensures.long
    (wide_words_are g d m h led)

pub returns-in_default-clause-reads : goal.returns-in_default-clause-reads
returns-in_default-clause-reads g c = (25, lit≤ tt, searched c.load_head_part.ensures.reads c.touch_entries.ensures (reads_trans c.load_head_part-in_default.ensures.reads c.load_head_part-in_default-2.ensures.reads))

pub returns-in_default-clause-step : goal.returns-in_default-clause-step
returns-in_default-clause-step g c = λ m h led.
    let d = (goal.at.returns-in_default-clause-step g c).After-load_head_part-in_default-2 in
    let are = wide_words_are g d m h led in
    let front = begun c.load_head_part.new.words c.load_head_part-in_default.new.words in
    let back = c.load_head_part-in_default-2.new.words in
    step_found ((front ++ back) ++ []) are c.read_numbers-numbers.result c.read_numbers-numbers.ensures.node Wide (c.read_numbers-numbers.ensures.parts.3 ∙ wide_is g d) _
    (ap (λ i. get_or front i 0) c.index_of_first_position-in_default.ensures ∙ (sym (get_or_append_left front back 0 1 (omega (arith, front_size g d)))
    ∙ sym (get_or_append_left (front ++ back) [] 0 1 (omega (arith, front_size g d, length-append front back)))))
    c.path_node-in_default.result c.search_row_words-slot.result (rw c.number-number.ensures at c.path_node-in_default.ensures.same) c.path_node-in_default.ensures.node c.args.key.now
    (wide_spot front back (wide_is g d) (front_size g d) c.load_head_part-in_default-2.ensures.long are c.args.key.now c.extract_dense_key-dense.result c.search_row_words-slot.result c.extract_dense_key-dense.ensures c.search_row_words-slot.ensures)
