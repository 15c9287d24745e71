-- The leaf is read, and then its pair is taken.
use Rattle.rowex_scanning.proofs.Common.{take, IfOk-weaker, on_err_weaker, reader_then, reads_later}
use Rattle.rowex_scanning.specs.Scanning.{asked_range, request_of, IsLeafRefused, IsLeafJudged, IsPairRefused, IsPairJudged}
use Rattle.rowex_scanning.proofs.taking.take_leaf.Goals as goal

pub load_leaf_at-length-requires-clause-led : goal.load_leaf_at-length-requires-clause-led
load_leaf_at-length-requires-clause-led g c = (c.requires.leaf.0, c.requires.leaf.1)

-- the key that was read does not come before the range
pub take_pair_in_range-requires-clause-reached : goal.take_pair_in_range-requires-clause-reached
take_pair_in_range-requires-clause-reached g c =
    let e = c.load_leaf_at-length.ensures in let (m, led, reached) = c.requires.leaf in
    reached c.load_leaf_at-length.new.seat.known (reads_later e.reads.2) (reader_then c.requires.reader e.reads.2).1 _ _ (e.leaf m led)

pub returns-clause-taken : goal.returns-clause-taken
returns-clause-taken g c =
    let key = take c.load_leaf_at-length.result.0 c.load_leaf_at-length.new.places in let value = c.load_leaf_at-length.result.1 in let r = request_of c.args.scan.now.range.now in
    IfOk-weaker c.take_pair_in_range.result (IsPairJudged r (g.S.Tallies.tally c.args.sink.now) key value (g.S.Tallies.tally c.take_pair_in_range.new.sink)) (IsLeafJudged c.args.seat.now.known c.load_leaf_at-length.new.seat.known r c.args.number (g.S.Tallies.tally c.args.sink.now) (g.S.Tallies.tally c.take_pair_in_range.new.sink))
    (λ verdict taken. record { key = key; value = value; read = c.load_leaf_at-length.ensures.leaf; taken = taken }) c.take_pair_in_range.ensures.taken

pub returns-clause-refused : goal.returns-clause-refused
returns-clause-refused g c =
    let key = take c.load_leaf_at-length.result.0 c.load_leaf_at-length.new.places in let range = asked_range c.args.scan.now.range.now in
    let of_leaf : IsPairRefused range (g.S.Tallies.tally c.args.sink.now) key (g.S.Tallies.tally c.take_pair_in_range.new.sink) → IsLeafRefused c.args.seat.now.known c.load_leaf_at-length.new.seat.known range c.args.number (g.S.Tallies.tally c.args.sink.now) (g.S.Tallies.tally c.take_pair_in_range.new.sink) =
    λ refused. record { key = key; value = c.load_leaf_at-length.result.1; read = c.load_leaf_at-length.ensures.leaf; refused = refused } in
    on_err_weaker c.take_pair_in_range.result of_leaf c.take_pair_in_range.ensures.refused
