-- The length, one word more, a word that is another key's, and the value.
use Rattle.rowex_reading.proofs.Common.{inl, inr, refl, ◌+◌, ◌-◌, ◌<◌, ◌≤◌, ◌∙◌, sym, subst, arith, lit<, lit≤, a_leaf, LEAF_FIELDS, LoadRef, LoadFixed, Value, record_number, leaf_size, words_for, size_fits}
use Rattle.rowex_reading.specs.Reads.{Reads}
use Rattle.rowex_reading.proofs.reading.Leafing.{room_of}
use Rattle.rowex_reading.proofs.reading.Comparing.{first_same, next_same, other_key, same_key}
use Rattle.rowex_reading.proofs.Seen.Led.{of_kind, reader_then, reads_one, reads_trans}
use Rattle.rowex_reading.proofs.Seen.Valuing.{byte_word, length_word, words_with}
use Rattle.rowex_reading.proofs.reading.Wording.{IsKeyWord, none_loaded}
use Rattle.rowex_reading.proofs.reading.compare_leaf.Goals as goal

pub load_fixed_at-requires : goal.load_fixed_at-requires
load_fixed_at-requires g c = record {
  own = c.requires.reader.0;
  range = rw c.requires.leaf.0 ((lit≤ tt, lit≤ tt), omega (arith, size_fits c.args.table.now.layout (record_number c.args.leaf.rec)));
  start = rw c.requires.leaf.0 c.requires.leaf.1;
}

pub returns-then-load_fixed_at-size-clause-reads : goal.returns-then-load_fixed_at-size-clause-reads
returns-then-load_fixed_at-size-clause-reads g c = (1, lit≤ tt, reads_one (LoadFixed (a_leaf (record_number c.args.leaf.rec)) 2 c.load_fixed_at.result) tt (of_kind c.requires.leaf.0 c.load_fixed_at.ensures))

pub returns-then-load_fixed_at-size-clause-leaf : goal.returns-then-load_fixed_at-size-clause-leaf
returns-then-load_fixed_at-size-clause-leaf g c = λ m led.
    other_key _ _ (record_number c.args.leaf.rec) c.args.key.now m led _ _ 1 c.load_fixed_at.result _ (none_loaded c.args.seat.now.known (a_leaf (record_number c.args.leaf.rec)) 0 _) (lit≤ tt) (lit< tt) (inl refl) (of_kind c.requires.leaf.0 c.load_fixed_at.ensures).event
    (λ e. c.if-load_fixed_at-size.true (e ∙ (length_word c.args.key.now ∙ sym c.requires.key.1)))

pub loop-index-init : goal.loop-index-init
loop-index-init g c =
    let l = c.requires.led in
    let one = reads_one (LoadFixed (a_leaf (record_number c.args.leaf.rec)) 2 c.load_fixed_at.result) tt (of_kind c.requires.leaf.0 c.load_fixed_at.ensures) in
    let size = c.requires.key.1 in
    let short = c.requires.key.0.short in
    let reader = reader_then c.requires.reader one in
    let loaded = first_same _ _ (record_number c.args.leaf.rec) c.args.key.now l.0 l.1 _ c.load_fixed_at.result (of_kind c.requires.leaf.0 c.load_fixed_at.ensures).event (omega (arith, size, c.if-load_fixed_at-size.false)) in
    let room = subst (λ z. words_for z ≤ leaf_size c.args.table.now.layout (record_number c.args.leaf.rec)) (length_word c.args.key.now)
    (room_of c.args.table.now.layout _ _ (record_number c.args.leaf.rec) (IsKeyWord 2) (words_with c.args.key.now) reader.1 loaded (lit< tt, lit≤ tt) l.0 l.1) in
    record {
      reader = reader;
      room = omega (arith, c.count_key_words-end.ensures, size, room);
      end_is = omega (arith, c.count_key_words-end.ensures, size);
      fits = omega (arith, c.count_key_words-end.ensures, size, short);
      reads = one;
      loaded = loaded;
    }

pub load_fixed_at-word-requires : goal.load_fixed_at-word-requires
load_fixed_at-word-requires g c = let i = c.loop-index.invariant in record {
  own = i.reader.0;
  range = rw c.requires.leaf.0 ((omega arith, omega (arith, i.fits, c.loop-index-test.true)), omega (arith, i.room, c.loop-index-test.true));
  start = rw c.requires.leaf.0 c.requires.leaf.1;
}

pub returns-then-word-key_word_at-clause-reads : goal.returns-then-word-key_word_at-clause-reads
returns-then-word-key_word_at-clause-reads g c =
    let i = c.loop-index.invariant in
    let one = reads_one (LoadFixed (a_leaf (record_number c.args.leaf.rec)) (c.loop-index.index + 1) c.load_fixed_at-word.result) tt (of_kind c.requires.leaf.0 c.load_fixed_at-word.ensures) in
    (c.loop-index.index - 1 + 1, omega (arith, i.fits, c.loop-index-test.true, c.loop-index.auto.index), reads_trans i.reads one)

pub returns-then-word-key_word_at-clause-leaf : goal.returns-then-word-key_word_at-clause-leaf
returns-then-word-key_word_at-clause-leaf g c = λ m led.
    let i = c.loop-index.invariant in
    let low : c.loop-index.index < LEAF_FIELDS = omega (arith, i.fits, c.loop-index-test.true) in
    other_key _ _ (record_number c.args.leaf.rec) c.args.key.now m led _ _ c.loop-index.index c.load_fixed_at-word.result _ i.loaded (omega (arith, c.loop-index.auto.index)) low
    (inr ((lit≤ tt, omega (arith, c.loop-index.auto.index)), omega (arith, i.end_is, c.loop-index-test.true))) (of_kind c.requires.leaf.0 c.load_fixed_at-word.ensures).event
    (λ e. c.if-word-key_word_at.true (e ∙ (byte_word c.args.key.now c.loop-index.index c.loop-index.auto.index low ∙ sym c.key_word_at.ensures)))

pub loop-index-preserved : goal.loop-index-preserved
loop-index-preserved g c =
    let l = c.requires.led in
    let i = c.loop-index.invariant in
    let one = reads_one (LoadFixed (a_leaf (record_number c.args.leaf.rec)) (c.loop-index.index + 1) c.load_fixed_at-word.result) tt (of_kind c.requires.leaf.0 c.load_fixed_at-word.ensures) in
    let low : c.loop-index.index < LEAF_FIELDS = omega (arith, i.fits, c.loop-index-test.true) in
    record {
      reader = reader_then i.reader one;
      end_is = i.end_is;
      fits = i.fits;
      room = i.room;
      reads = subst (λ n. Reads c.args.table.now g.G.Gate.becomes 0 n (c.args.seat.now, c.args.gate.now) (c.load_fixed_at-word.new.seat, c.load_fixed_at-word.new.gate)) (omega (arith, c.loop-index.auto.index)) (reads_trans i.reads one);
      loaded = next_same _ _ (record_number c.args.leaf.rec) c.args.key.now l.0 l.1 _ _ c.loop-index.index c.load_fixed_at-word.result i.loaded low (of_kind c.requires.leaf.0 c.load_fixed_at-word.ensures).event
          (c.if-word-key_word_at.false ∙ (c.key_word_at.ensures ∙ sym (byte_word c.args.key.now c.loop-index.index c.loop-index.auto.index low)));
    }

pub load_value_at-requires : goal.load_value_at-requires
load_value_at-requires g c = record {
  own = c.loop-index.invariant.reader.0;
  leaf = c.requires.leaf;
}

pub returns-clause-reads : goal.returns-clause-reads
returns-clause-reads g c =
    let i = c.loop-index.invariant in
    let one = reads_one (LoadRef (Value (record_number c.args.leaf.rec)) c.load_value_at.result) tt c.load_value_at.ensures in
    (c.loop-index.index - 1 + 1, omega (arith, i.fits, c.loop-index-test.false, c.loop-index.auto.index, c.loop-index.auto.index-end), reads_trans i.reads one)

pub returns-clause-leaf : goal.returns-clause-leaf
returns-clause-leaf g c = λ m led.
    let i = c.loop-index.invariant in
    same_key _ _ (record_number c.args.leaf.rec) c.args.key.now m led _ _ c.loop-index.index c.load_value_at.result c.requires.key.0 i.reader.1 i.loaded
    (omega (arith, i.end_is, c.loop-index-test.false, c.loop-index.auto.index-end)) c.load_value_at.ensures.event
