-- Ready, stored, retired.
use Rattle.rowex_writing.proofs.build.Spare.{store_spares}
use Rattle.rowex_writing.proofs.Common.{length, subst, sym, ap, ◌∙◌, arith, entry_word, Publish, MayStep, act_leaves}
use Rattle.rowex_writing.specs.locks.Locks.{numbers_of}
use Rattle.rowex_writing.specs.store.Retiring.{HasJustPublished, is_root}
use Rattle.rowex_writing.specs.build.Putting.{AreInTable}
use Rattle.rowex_writing.proofs.locks.Going.{seat_of}
use Rattle.rowex_writing.proofs.locks.Runs.{goes_run, run_one, runs_trans, works_fresh, works_run}
use Rattle.rowex_writing.proofs.store.ending.Ending.{has_changed, just_published, now_publishes, now_spells, still_anchored, word_published}
use Rattle.rowex_writing.proofs.store.publishing.publish_entry.Goals as goal

pub ready_records-requires : goal.ready_records-requires
ready_records-requires g c = let (x, was, s) = c.requires.may in record { building = (s.ready.news, s.ready.building) }

pub stored_word-requires : goal.stored_word-requires
stored_word-requires g c =
    let (x, was, s) = c.requires.may in
    now_spells c.args.table.now g.G.Gate.becomes (c.args.seat.now, c.args.gate.now) (c.ready_records.new.seat, c.ready_records.new.gate) c.args.build.now.made.items c.args.store.now.spot (entry_word c.args.store.now.entry) c.args.build.now.gone.items c.ready_records.ensures.goes x was s.ready (c.ready_records.ensures.ready s.ready.news s.ready.building) s.told s.of_entry

pub publish-requires-clause-own : goal.publish-requires-clause-own
publish-requires-clause-own g c = seat_of c.args.table.now g.G.Gate.becomes (c.args.seat.now, c.args.gate.now) (c.ready_records.new.seat, c.ready_records.new.gate) c.ready_records.ensures.goes c.requires.may.2.ready.building.seat

pub publish-requires-clause-may : goal.publish-requires-clause-may
publish-requires-clause-may g c =
    let (x, was, s) = c.requires.may in
    subst (λ w. MayStep c.args.table.now.layout (λ found. Publish c.args.store.now.spot w) c.ready_records.new.seat.known) (sym c.stored_word.ensures)
    (now_publishes c.args.table.now g.G.Gate.becomes (c.args.seat.now, c.args.gate.now) (c.ready_records.new.seat, c.ready_records.new.gate) c.args.build.now.made.items c.args.store.now.spot (entry_word c.args.store.now.entry) c.args.build.now.gone.items c.ready_records.ensures.goes x was s.ready (c.ready_records.ensures.ready s.ready.news s.ready.building) s.told).may

pub retire_and_unlock-requires-clause-own : goal.retire_and_unlock-requires-clause-own
retire_and_unlock-requires-clause-own g c = c.publish.ensures.seat.0 ∙ seat_of c.args.table.now g.G.Gate.becomes (c.args.seat.now, c.args.gate.now) (c.ready_records.new.seat, c.ready_records.new.gate) c.ready_records.ensures.goes c.requires.may.2.ready.building.seat

pub retire_and_unlock-requires-clause-records : goal.retire_and_unlock-requires-clause-records
retire_and_unlock-requires-clause-records g c = subst (AreInTable c.args.table.now.layout) (sym c.as_slice.ensures.value) c.requires.may.2.records

pub retire_and_unlock-requires-clause-published : goal.retire_and_unlock-requires-clause-published
retire_and_unlock-requires-clause-published g c =
    let (x, was, s) = c.requires.may in
    subst (λ z. HasJustPublished c.publish.new.seat.known z (numbers_of c.args.store.now.kept.now)) (sym c.as_slice.ensures.value)
    (just_published c.args.table.now g.G.Gate.becomes (c.args.seat.now, c.args.gate.now) (c.ready_records.new.seat, c.ready_records.new.gate) c.args.build.now.made.items c.args.store.now.spot (entry_word c.args.store.now.entry) c.args.build.now.gone.items c.ready_records.ensures.goes x was s.ready (c.ready_records.ensures.ready s.ready.news s.ready.building) s.told
    (numbers_of c.args.store.now.kept.now) s.keeps c.publish.new.seat.known (word_published c.args.table.now.layout c.args.store.now.spot c.stored_word.result (entry_word c.args.store.now.entry) c.ready_records.new.seat.known c.publish.new.seat.known c.stored_word.ensures c.publish.ensures.event) s.apart)

pub retire_and_unlock-requires-clause-anchored : goal.retire_and_unlock-requires-clause-anchored
retire_and_unlock-requires-clause-anchored g c =
    let (x, was, s) = c.requires.may in
    still_anchored c.args.table.now g.G.Gate.becomes (c.args.seat.now, c.args.gate.now) (c.ready_records.new.seat, c.ready_records.new.gate) c.args.build.now.made.items c.args.store.now.spot (entry_word c.args.store.now.entry) c.args.build.now.gone.items c.ready_records.ensures.goes x was s.ready (c.ready_records.ensures.ready s.ready.news s.ready.building) s.told
    (numbers_of c.args.store.now.kept.now) s.keeps c.publish.new.seat.known (word_published c.args.table.now.layout c.args.store.now.spot c.stored_word.result (entry_word c.args.store.now.entry) c.ready_records.new.seat.known c.publish.new.seat.known c.stored_word.ensures c.publish.ensures.event) (is_root c.args.store.now.spot) s.anchored

pub returns-clause-run : goal.returns-clause-run
returns-clause-run g c =
    let store = run_one c.args.table.now g.G.Gate.becomes (Publish c.args.store.now.spot c.stored_word.result) (c.ready_records.new.seat, c.ready_records.new.gate) (c.publish.new.seat, c.publish.new.gate) tt c.publish.ensures in
    let ready = goes_run c.args.table.now g.G.Gate.becomes (c.args.seat.now, c.args.gate.now) (c.ready_records.new.seat, c.ready_records.new.gate) c.ready_records.ensures.goes in
    let ends = works_run c.args.table.now g.G.Gate.becomes (c.publish.new.seat, c.publish.new.gate) (c.retire_and_unlock.new.seat, c.retire_and_unlock.new.gate) c.retire_and_unlock.ensures.works in
    runs_trans c.args.table.now g.G.Gate.becomes (c.args.seat.now, c.args.gate.now) (c.publish.new.seat, c.publish.new.gate) (c.retire_and_unlock.new.seat, c.retire_and_unlock.new.gate)
    (runs_trans c.args.table.now g.G.Gate.becomes (c.args.seat.now, c.args.gate.now) (c.ready_records.new.seat, c.ready_records.new.gate) (c.publish.new.seat, c.publish.new.gate) ready store) ends

pub returns-clause-changed : goal.returns-clause-changed
returns-clause-changed g c = λ x was s.
    has_changed c.args.table.now g.G.Gate.becomes (c.args.seat.now, c.args.gate.now) (c.ready_records.new.seat, c.ready_records.new.gate) c.args.build.now.made.items c.args.store.now.spot (entry_word c.args.store.now.entry) c.args.build.now.gone.items c.ready_records.ensures.goes x was s.ready (c.ready_records.ensures.ready s.ready.news s.ready.building) s.told
    (numbers_of c.args.store.now.kept.now) s.keeps c.publish.new.seat.known (word_published c.args.table.now.layout c.args.store.now.spot c.stored_word.result (entry_word c.args.store.now.entry) c.ready_records.new.seat.known c.publish.new.seat.known c.stored_word.ensures c.publish.ensures.event) c.retire_and_unlock.new.seat.known
    c.retire_and_unlock.ensures.rest c.retire_and_unlock.ensures.front (works_fresh c.args.table.now g.G.Gate.becomes (c.publish.new.seat, c.publish.new.gate) (c.retire_and_unlock.new.seat, c.retire_and_unlock.new.gate) c.retire_and_unlock.ensures.works)

pub returns-clause-few : goal.returns-clause-few
returns-clause-few g c =
    let gone = ap length c.as_slice.ensures.value in
    let stored = (act_leaves c.args.table.now.layout c.ready_records.new.seat.known c.publish.new.seat.known (Publish c.args.store.now.spot c.stored_word.result) c.publish.ensures.event).steps in
    omega (arith, c.ready_records.ensures.few, c.retire_and_unlock.ensures.few, stored, gone)

pub returns-clause-spares : goal.returns-clause-spares
returns-clause-spares g c = λ will.
    let (x, was, s) = c.requires.may in
    let published = just_published c.args.table.now g.G.Gate.becomes (c.args.seat.now, c.args.gate.now) (c.ready_records.new.seat, c.ready_records.new.gate) c.args.build.now.made.items c.args.store.now.spot (entry_word c.args.store.now.entry) c.args.build.now.gone.items c.ready_records.ensures.goes x was s.ready
    (c.ready_records.ensures.ready s.ready.news s.ready.building) s.told (numbers_of c.args.store.now.kept.now) s.keeps c.publish.new.seat.known
    (word_published c.args.table.now.layout c.args.store.now.spot c.stored_word.result (entry_word c.args.store.now.entry) c.ready_records.new.seat.known c.publish.new.seat.known c.stored_word.ensures c.publish.ensures.event) s.apart in
    store_spares c.args.table.now g.G.Gate.becomes c.args.store.now.spot c.stored_word.result (c.args.seat.now, c.args.gate.now) (c.ready_records.new.seat, c.ready_records.new.gate) (c.publish.new.seat, c.publish.new.gate) (c.retire_and_unlock.new.seat, c.retire_and_unlock.new.gate)
    c.args.build.now.made.items c.args.build.now.gone.items s.ready.news c.ready_records.ensures.goes s.ready.building (c.ready_records.ensures.ready s.ready.news s.ready.building).own c.publish.ensures published.3.own s.records c.retire_and_unlock.ensures.works will
