-- One record more is ready.
use Rattle.rowex_writing.proofs.Common.{◌≡◌, ◌-◌, ◌<◌, ◌∙◌, List, Some, ℕ, ap, arith, get_or, length, subst, sym, take, ⊎_elim, slice_get, cases_lt, false≢true, get_or-take, take-take, take_all, get_or_from_slice_get, Rec, FitsIn, HasRecord, does_count, IsFilled, Readies, owning}
use Rattle.rowex_writing.proofs.locks.Going.{goes_none, seat_of}
use Rattle.rowex_writing.proofs.store.publishing.Publishing.{AreReadied, none_readied, next_rights, readied_goes, readied_more, all_readied}
use Rattle.rowex_writing.proofs.store.publishing.ready_records.Goals as goal

-- the last of those that are left
popped : (all now : List Rec) (rec : Rec) → now ≡ take (length now) all → Some rec ≡ slice_get now (length now - 1) → 0 < length now → get_or all (length now - 1) rec ≡ rec
popped all now rec is last some =
    sym (get_or-take (length now) all (length now - 1) rec (omega arith)) ∙ (ap (λ xs. get_or xs (length now - 1) rec) (sym is) ∙ get_or_from_slice_get now (length now - 1) rec rec (sym last))

pub loop-rec-init : goal.loop-rec-init
loop-rec-init g c = record {
  own = c.requires.building.1.seat;
  upto = omega arith;
  rest = sym (take_all _ _ (omega arith));
  goes = goes_none c.args.table.now g.G.Gate.becomes (c.args.seat.now, c.args.gate.now);
  ready = none_readied c.args.table.now g.G.Gate.becomes c.args.seat.now c.args.made.now.items;
  few = omega arith;
}

pub make_ready-requires-clause-range : goal.make_ready-requires-clause-range
make_ready-requires-clause-range g c =
    let i = c.loop-rec.invariant in
    let all = c.args.made.now.items in
    let some : 0 < length c.loop-rec.made.items = omega (arith, c.in-Some.ensures.len) in
    subst (HasRecord c.args.table.now.layout) (popped all c.loop-rec.made.items c.in-Some.rec i.rest c.in-Some.ensures.value some)
    (next_rights c.args.table.now g.G.Gate.becomes (c.args.seat.now, c.args.gate.now) (c.loop-rec.seat, c.loop-rec.gate) all (length c.loop-rec.made.items) c.in-Some.rec some i.upto i.goes i.ready c.requires.building.0 c.requires.building.1).0

pub make_ready-requires-clause-filled : goal.make_ready-requires-clause-filled
make_ready-requires-clause-filled g c =
    let i = c.loop-rec.invariant in
    let all = c.args.made.now.items in
    let some : 0 < length c.loop-rec.made.items = omega (arith, c.in-Some.ensures.len) in
    subst (λ r. (words : List ℕ) × IsFilled c.loop-rec.seat.known r words × FitsIn c.args.table.now.layout r words) (popped all c.loop-rec.made.items c.in-Some.rec i.rest c.in-Some.ensures.value some)
    (next_rights c.args.table.now g.G.Gate.becomes (c.args.seat.now, c.args.gate.now) (c.loop-rec.seat, c.loop-rec.gate) all (length c.loop-rec.made.items) c.in-Some.rec some i.upto i.goes i.ready c.requires.building.0 c.requires.building.1).1

pub loop-rec-preserved : goal.loop-rec-preserved
loop-rec-preserved g c =
    let i = c.loop-rec.invariant in
    let table = c.args.table.now in
    let all = c.args.made.now.items in
    let now = c.loop-rec.made.items in
    let some : 0 < length now = omega (arith, c.in-Some.ensures.len) in
    let less : length now - 1 ≡ length c.pop.new.self.items = omega (arith, c.in-Some.ensures.len) in
    let readied = subst (λ r. Readies table g.G.Gate.becomes r (c.loop-rec.seat, c.loop-rec.gate) (c.make_ready.new.seat, c.make_ready.new.gate)) (sym (popped all now c.in-Some.rec i.rest c.in-Some.ensures.value some)) c.make_ready.ensures in
    let goes = readied_goes table g.G.Gate.becomes (c.args.seat.now, c.args.gate.now) (c.loop-rec.seat, c.loop-rec.gate) all (length now) c.in-Some.rec some i.upto i.goes i.ready (c.make_ready.new.seat, c.make_ready.new.gate) readied in
    record {
      own = seat_of table g.G.Gate.becomes (c.args.seat.now, c.args.gate.now) (c.make_ready.new.seat, c.make_ready.new.gate) goes c.requires.building.1.seat;
      upto = omega (arith, i.upto, less);
      rest = c.pop.ensures.rest ∙ (ap (take (length now - 1)) i.rest ∙ (take-take (length now - 1) (length now) all (omega arith) ∙ ap (λ n. take n all) less));
      goes = goes;
      ready = subst (AreReadied table g.G.Gate.becomes c.args.seat.now c.make_ready.new.seat all) less (readied_more table g.G.Gate.becomes (c.args.seat.now, c.args.gate.now) (c.loop-rec.seat, c.loop-rec.gate) all (length now) c.in-Some.rec some i.upto i.goes i.ready (c.make_ready.new.seat, c.make_ready.new.gate) readied);
      few = (let z = does_count table g.G.Gate.becomes owning _ (c.loop-rec.seat, c.loop-rec.gate) (c.make_ready.new.seat, c.make_ready.new.gate) c.make_ready.ensures.does in omega (arith, i.few, less, some, z));
    }

pub returns-clause-ready : goal.returns-clause-ready
returns-clause-ready g c = λ news b.
    let i = c.loop-rec.invariant in
    all_readied c.args.table.now g.G.Gate.becomes (c.args.seat.now, c.args.gate.now) (c.loop-rec.seat, c.loop-rec.gate) c.args.made.now.items (length c.loop-rec.made.items) (⊎_elim (λ (some : 0 < length c.loop-rec.made.items). absurd (false≢true (c.in_default.ensures.variant.1 some))) (λ none. none) (cases_lt 0 (length c.loop-rec.made.items))) i.goes i.ready news b
