-- What the loads of a leaf tell.
use Rattle.rowex_reading.proofs.Common.{rules, ◌≡◌, ◌+◌, ◌<◌, arith, length, lit≤, lit<, subst, sym, a_leaf, MAX_BYTES, LEAF_FIELDS, words_of_key, size_fits, LoadRef, LoadFixed, Value, record_number}
use Rattle.rowex_reading.proofs.Seen.Led.{of_kind, reader_then, reads_one, reads_trans}
use Rattle.rowex_reading.proofs.reading.Leafing.{AreSoFar, all_places, first_read, so_far_first, so_far_next, zero_small}
use Rattle.rowex_reading.proofs.reading.Fronting.{front, front_small, front_written, front_others, length-front}
use Rattle.rowex_reading.proofs.reading.Whole.{HasAll, whole_few, whole_key, whole_read, whole_reads}
use Rattle.rowex_reading.proofs.reading.load_leaf.Goals as goal

pub load_value_at-value-requires : goal.load_value_at-value-requires
load_value_at-value-requires g c = record {
  own = c.requires.reader.0;
  leaf = c.requires.leaf;
}

pub load_fixed_at-length-requires : goal.load_fixed_at-length-requires
load_fixed_at-length-requires g c = record {
  own = (reader_then c.requires.reader (reads_one (LoadRef (Value (record_number c.args.leaf.rec)) c.load_value_at-value.result) tt c.load_value_at-value.ensures)).0;
  range = rw c.requires.leaf.0 ((lit≤ tt, lit≤ tt), omega (arith, size_fits c.args.table.now.layout (record_number c.args.leaf.rec)));
  start = rw c.requires.leaf.0 c.requires.leaf.1;
}

-- A key of eight bytes has one word more,
pub load_fixed_at-word-requires : goal.load_fixed_at-word-requires
load_fixed_at-word-requires g c =
    let f = first_read c.requires.reader c.requires.led c.load_value_at-value.ensures (of_kind c.requires.leaf.0 c.load_fixed_at-length.ensures) in
    record {
      own = f.reader.0;
      range = rw c.requires.leaf.0 ((lit≤ tt, lit≤ tt), omega (arith, size_fits c.args.table.now.layout (record_number c.args.leaf.rec)));
      start = rw c.requires.leaf.0 c.requires.leaf.1;
    }

-- and with it all are loaded.
pub returns-then-length-eq8 : goal.returns-then-length-eq8
returns-then-length-eq8 g c =
    let l = c.requires.led in let e = (of_kind c.requires.leaf.0 c.load_fixed_at-word.ensures) in let w = c.write_key_word.ensures in
    let f = first_read {i = (c.load_value_at-value.new.seat, c.load_value_at-value.new.gate)} {b = (c.load_fixed_at-length.new.seat, c.load_fixed_at-length.new.gate)} c.requires.reader l c.load_value_at-value.ensures (of_kind c.requires.leaf.0 c.load_fixed_at-length.ensures) in
    let next = reads_one (LoadFixed (a_leaf (record_number c.args.leaf.rec)) 3 c.load_fixed_at-word.result) tt e in
    let is : c.load_fixed_at-length.result ≡ 8 = c.if-length-eq8.true in
    let first = so_far_first _ _ (record_number c.args.leaf.rec) c.load_value_at-value.result c.load_fixed_at-length.result f.valued f.loaded in
    let long : length c.args.places.now ≡ MAX_BYTES = search rules in
    let long' : length c.write_key_word.new.bytes ≡ MAX_BYTES = search rules in
    let has : HasAll c.args.table.now g.G.Gate.becomes (c.args.seat.now, c.args.gate.now) (c.load_fixed_at-word.new.seat, c.load_fixed_at-word.new.gate) (record_number c.args.leaf.rec) 3 c.load_value_at-value.result c.load_fixed_at-length.result c.write_key_word.new.bytes = record {
      reader = reader_then f.reader next;
      reads = reads_trans f.reads next;
      fits = lit≤ tt;
      short = f.short;
      at_end = omega (arith, is);
      long = long';
      small = front_small 3 c.write_key_word.new.bytes long' (lit≤ tt) w.small;
      so_far = so_far_next _ _ _ _ (record_number c.args.leaf.rec) 2 _ _ _ _ (front 3 c.write_key_word.new.bytes) first (lit≤ tt) (lit< tt) e.event l.0 l.1 (length-front 3 c.write_key_word.new.bytes long' (lit≤ tt))
          (front_written 2 c.load_fixed_at-word.result c.args.places.now c.write_key_word.new.bytes long long' (lit≤ tt) (lit< tt) w.written w.others)
          (front_others 2 c.load_fixed_at-word.result c.args.places.now c.write_key_word.new.bytes long long' (lit≤ tt) (lit< tt) w.written w.others);
    } in
    record {
      reads = whole_reads has l;
      few = whole_few has l;
      key = whole_key has l;
      places = λ zeros.
          all_places _ _ _ (record_number c.args.leaf.rec) _ _ _ c.write_key_word.new.bytes has.reader.1
          (so_far_next _ _ _ _ (record_number c.args.leaf.rec) 2 _ _ _ c.args.places.now c.write_key_word.new.bytes
          (subst (λ z. AreSoFar c.args.seat.now.known c.load_fixed_at-length.new.seat.known (record_number c.args.leaf.rec) 2 c.load_value_at-value.result c.load_fixed_at-length.result z) (sym zeros) first) (lit≤ tt) (lit< tt) e.event l.0 l.1 long' w.written w.others) has.at_end w.small l.0 l.1;
      leaf = whole_read has;
    }

-- Of any other, the length is small,
pub overflow_cast-length : goal.overflow_cast-length
overflow_cast-length g c =
    let f = first_read c.requires.reader c.requires.led c.load_value_at-value.ensures (of_kind c.requires.leaf.0 c.load_fixed_at-length.ensures) in
    let short = f.short in omega (arith, short)

-- and words are loaded up to the last one.
pub count_key_words-used-requires : goal.count_key_words-used-requires
count_key_words-used-requires g c =
    let f = first_read c.requires.reader c.requires.led c.load_value_at-value.ensures (of_kind c.requires.leaf.0 c.load_fixed_at-length.ensures) in
    let short = f.short in omega (arith, short)

pub loop-index-init : goal.loop-index-init
loop-index-init g c =
    let f = first_read c.requires.reader c.requires.led c.load_value_at-value.ensures (of_kind c.requires.leaf.0 c.load_fixed_at-length.ensures) in
    let short = f.short in
    record {
      reader = f.reader;
      used_is = omega (arith, c.count_key_words-used.ensures);
      fits = omega (arith, c.count_key_words-used.ensures, short);
      room = let room = f.room in omega (arith, c.count_key_words-used.ensures, room);
      reads = f.reads;
      long = search rules;
      small = zero_small MAX_BYTES;
      so_far = so_far_first _ _ (record_number c.args.leaf.rec) c.load_value_at-value.result c.load_fixed_at-length.result f.valued f.loaded;
      zeros = λ zeros. (rw zeros (so_far_first _ _ (record_number c.args.leaf.rec) c.load_value_at-value.result c.load_fixed_at-length.result f.valued f.loaded), rw zeros (zero_small MAX_BYTES));
    }

pub load_fixed_at-word-requires-in-loop-index : goal.load_fixed_at-word-requires-in-loop-index
load_fixed_at-word-requires-in-loop-index g c = let i = c.loop-index.invariant in record {
  own = i.reader.0;
  range = rw c.requires.leaf.0 ((omega arith, omega (arith, i.fits, c.loop-index-test.true)), omega (arith, i.room, c.loop-index-test.true));
  start = rw c.requires.leaf.0 c.requires.leaf.1;
}

pub loop-index-preserved : goal.loop-index-preserved
loop-index-preserved g c =
    let l = c.requires.led in let i = c.loop-index.invariant in let e = (of_kind c.requires.leaf.0 c.load_fixed_at-word-in-loop-index.ensures) in let w = c.write_key_word-in-loop-index.ensures in
    let n = c.loop-index.index in let word = c.load_fixed_at-word-in-loop-index.result in let old = c.loop-index.places in let new = c.write_key_word-in-loop-index.new.bytes in
    let one = reads_one (LoadFixed (a_leaf (record_number c.args.leaf.rec)) (n + 1) word) tt e in
    let from = c.loop-index.auto.index in
    let low : n < LEAF_FIELDS = omega (arith, i.fits, c.loop-index-test.true) in
    let long : length new ≡ MAX_BYTES = search rules in
    record {
      reader = reader_then i.reader one;
      used_is = i.used_is;
      fits = i.fits;
      room = i.room;
      reads = reads_trans i.reads one;
      long = long;
      small = front_small (n + 1) new long (omega (arith, low)) w.small;
      so_far = so_far_next _ _ _ _ (record_number c.args.leaf.rec) n _ _ _ _ (front (n + 1) new) i.so_far from low e.event l.0 l.1 (length-front (n + 1) new long (omega (arith, low)))
          (front_written n word old new i.long long from low w.written w.others) (front_others n word old new i.long long from low w.written w.others);
      zeros = λ zeros. (so_far_next _ _ _ _ (record_number c.args.leaf.rec) n _ _ _ _ new (i.zeros zeros).0 from low e.event l.0 l.1 long w.written w.others, w.small);
    }

pub returns : goal.returns
returns g c =
    let l = c.requires.led in let i = c.loop-index.invariant in
    let at_end : c.loop-index.index ≡ 2 + words_of_key c.load_fixed_at-length.result = omega (arith, i.used_is, c.loop-index-test.false, c.loop-index.auto.index-end) in
    let has : HasAll c.args.table.now g.G.Gate.becomes (c.args.seat.now, c.args.gate.now) (c.loop-index.seat, c.loop-index.gate) (record_number c.args.leaf.rec) c.loop-index.index c.load_value_at-value.result c.load_fixed_at-length.result c.loop-index.places = record {
      reader = i.reader;
      reads = i.reads;
      fits = omega (arith, i.fits, c.loop-index-test.false, c.loop-index.auto.index-end);
      short = (first_read {i = (c.load_value_at-value.new.seat, c.load_value_at-value.new.gate)} {b = (c.load_fixed_at-length.new.seat, c.load_fixed_at-length.new.gate)} c.requires.reader l c.load_value_at-value.ensures (of_kind c.requires.leaf.0 c.load_fixed_at-length.ensures)).short;
      at_end = at_end;
      long = i.long;
      small = i.small;
      so_far = i.so_far;
    } in
    record {
      reads = whole_reads has l;
      few = whole_few has l;
      key = whole_key has l;
      places = λ zeros. let of_zeros = i.zeros zeros in all_places _ _ _ (record_number c.args.leaf.rec) _ _ _ c.loop-index.places i.reader.1 of_zeros.0 at_end of_zeros.1 l.0 l.1;
      leaf = whole_read has;
    }
