-- The leaf of one key more has been compared.
use Rattle.rowex_reading.proofs.Common.{◌≡◌, ◌∙◌, ◌+◌, arith, length, refl, subst, Some, slice_get, length-set, slice_get_read, slice_get-get_or, Leaf}
use Rattle.rowex_reading.specs.Seen.{since}
use Rattle.rowex_reading.specs.Together.{HasComeTo}
use Rattle.rowex_reading.proofs.Seen.Led.{reader_then, reads_trans}
use Rattle.rowex_reading.proofs.lookup.Lookup.{way_found, way_led}
use Rattle.rowex_reading.proofs.together.Together.{found_more, found_on, ways_on}
use Rattle.rowex_reading.proofs.together.load_values.Given as given
use Rattle.rowex_reading.proofs.together.load_values.Goals as goal
use Rattle.rowex_reading.proofs.together.load_values.Goals.{After-index-keys-index}

-- the key's way has led to the leaf
way : (g : given.Over) (c : After-index-keys-index g) → HasComeTo c.loop-index.seat.known c.index-keys-index.result (Leaf c.in-Leaf.number)
way g c =
    let i = c.loop-index.index in let low = c.loop-index-test.true in
    c.loop-index.invariant.ways i c.index-keys-index.result (Leaf c.in-Leaf.number)
    (slice_get_read c.args.keys.now (length c.args.keys.now) i c.index-keys-index.result refl low c.index-keys-index.is)
    (subst (λ e. slice_get c.args.tips.now i ≡ Some e) c.in-Leaf.is (slice_get-get_or c.args.tips.now i (Leaf 0) (omega (arith, low, c.requires.rooms.0))))

pub load_value-requires-clause-reader : goal.load_value-requires-clause-reader
load_value-requires-clause-reader g c = c.loop-index.invariant.reader

pub load_value-requires-clause-led : goal.load_value-requires-clause-led
load_value-requires-clause-led g c =
    (since c.loop-index.seat.known, way_led (Leaf c.in-Leaf.number) (way g (goal.at.load_value-requires-clause-led g c).After-index-keys-index))

pub loop-index-preserved : goal.loop-index-preserved
loop-index-preserved g c =
    let i = c.loop-index.invariant in let e = c.load_value.ensures in let keys = c.args.keys.now in let key = c.index-keys-index.result in
    let reads = e.reads.2 in let n = c.loop-index.index in
    let here = slice_get_read keys (length keys) n key refl c.loop-index-test.true c.index-keys-index.is in
    record {
      reader = reader_then i.reader reads;
      room = length-set c.loop-index.found n c.load_value.result ∙ i.room;
      ways = ways_on reads keys c.args.tips.now i.ways;
      found = found_more n keys c.loop-index.found key c.load_value.result (found_on reads n keys c.loop-index.found i.found) here
          (way_found c.in-Leaf.number (way g (goal.at.loop-index-preserved g c).After-index-keys-index) reads c.load_value.result e.leaf);
      reads = (i.reads.0 + e.reads.0, (let few = i.reads.1 in let more = e.reads.1 in omega (arith, few, more)), reads_trans i.reads.2 reads);
    }
