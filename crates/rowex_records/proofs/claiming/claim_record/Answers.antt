-- As many may be tried as there are.
use Rattle.std.proofs.Common.{◌≡◌}
use Rattle.rowex_records.specs.Claims.{count_of}
use Rattle.rowex_records.proofs.Claims.{claims_whole, none_whole}
use Rattle.rowex_records.proofs.claiming.claim_record.Goals as goal

pub returns-clause-claims : goal.returns-clause-claims
returns-clause-claims g c =
    let all : c.count-left.result ≡ count_of c.args.kind c.args.table.now.layout = rw c.layout.ensures at c.count-left.ensures in
    claims_whole c.args.table.now g.G.Gate.becomes c.args.kind c.args.from c.count-left.result c.claim_next_record.new.left (c.args.seat.now, c.args.gate.now)
    (c.claim_next_record.new.seat, c.claim_next_record.new.gate) c.claim_next_record.result all c.claim_next_record.ensures.claims

pub returns-clause-none : goal.returns-clause-none
returns-clause-none g c =
    let all : c.count-left.result ≡ count_of c.args.kind c.args.table.now.layout = rw c.layout.ensures at c.count-left.ensures in
    none_whole c.args.table.now g.G.Gate.becomes c.args.kind c.args.from c.count-left.result c.claim_next_record.new.left (c.args.seat.now, c.args.gate.now)
    (c.claim_next_record.new.seat, c.claim_next_record.new.gate) c.claim_next_record.result all c.claim_next_record.ensures.claims
