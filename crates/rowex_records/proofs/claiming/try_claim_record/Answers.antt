-- Found not free by the load, or by the claim, or claimed.
use Rattle.rowex_records.proofs.Common.{arith, ◌≡◌, ◌∙◌, subst, eqb-true, eqb-false, LoadState, Steps}
use Rattle.record_words.specs.Layout.{uncommitted_in}
use Rattle.rowex_table.proofs.Committed.{committed_falls}
use Rattle.rowex_records.proofs.Claims.{missed_by_load, missed_by_claim, claimed_free}
use Rattle.rowex_records.proofs.claiming.try_claim_record.Goals as goal

pub returns-then-load_state_at-pack_state-clause-missed : goal.returns-then-load_state_at-pack_state-clause-missed
returns-then-load_state_at-pack_state-clause-missed g c = λ refused.
    let taken = c.if-load_state_at-pack_state.true in
    let free = c.pack_state.ensures in
    missed_by_load c.args.table.now g.G.Gate.becomes c.args.at.rec c.load_state_at.result _ _ (omega arith) c.load_state_at.ensures

pub returns-clause-missed : goal.returns-clause-missed
returns-clause-missed g c = λ refused.
    let free : c.load_state_at.result ≡ 0 = omega (arith, c.if-load_state_at-pack_state.false, c.pack_state.ensures) in
    let taken = eqb-false c.claim_at.result c.pack_state-2.result refused in
    let found = c.pack_state-2.ensures in
    missed_by_claim c.args.table.now g.G.Gate.becomes c.args.at.rec c.claim_at.result _ _ _ (omega arith)
    (subst (λ w. Steps c.args.table.now g.G.Gate.becomes (LoadState c.args.at.rec w) (c.args.seat.now, c.args.gate.now) (c.load_state_at.new.seat, c.load_state_at.new.gate)) free c.load_state_at.ensures) c.claim_at.ensures

pub returns-clause-claimed : goal.returns-clause-claimed
returns-clause-claimed g c = λ taken.
    let free : c.load_state_at.result ≡ 0 = omega (arith, c.if-load_state_at-pack_state.false, c.pack_state.ensures) in
    claimed_free c.args.table.now g.G.Gate.becomes c.args.at.rec c.claim_at.result _ _ _ (eqb-true c.claim_at.result c.pack_state-2.result taken ∙ c.pack_state-2.ensures)
    (subst (λ w. Steps c.args.table.now g.G.Gate.becomes (LoadState c.args.at.rec w) (c.args.seat.now, c.args.gate.now) (c.load_state_at.new.seat, c.load_state_at.new.gate)) free c.load_state_at.ensures) c.claim_at.ensures

pub claim_at-requires-clause-committed : goal.claim_at-requires-clause-committed
claim_at-requires-clause-committed g c = committed_falls c.args.table.now.layout (uncommitted_in c.load_state_at.new.seat.bounds) (uncommitted_in c.args.seat.now.bounds) c.args.at.rec c.load_state_at.ensures.seat.4 c.requires.committed
