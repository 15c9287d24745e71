-- A leaf with the key is one of the table's; and where it has another value, it has been changed.
use Rattle.rowex_writing.proofs.Common.{◌≡◌, ◌≢◌, None, ap, sym, subst, ◌∙◌, eq-eqb, false≢true, leaf_at, IsFoundAt, Leaf}
use Rattle.rowex_writing.proofs.store.Values.{found_in_table, moved_since, value_reads, of_leaf}
use Rattle.rowex_writing.proofs.store.valuing.is_unchanged.Given as given
use Rattle.rowex_writing.proofs.store.valuing.is_unchanged.Goals as goal
use Rattle.rowex_writing.proofs.store.valuing.is_unchanged.Goals.{In-Leaf-default-default-None}

-- it has the key
has_key : (g : given.Over) (c : In-Leaf-default-default-None g) → c.args.job.now.found ≡ Leaf c.in-Leaf-default-default-None.number c.in-Leaf-default-default-None.value None
has_key g c =
    let none : c.in-Leaf-default-default-None.mismatch ≡ None = rw c.in-Leaf-default-default-None.is at c.in-Leaf-default-default-None.mismatch-is in
    c.in-Leaf-default-default-None.is ∙ ap (λ o. Leaf c.in-Leaf-default-default-None.number c.in-Leaf-default-default-None.value o) none

pub load_value_at-requires-clause-leaf : goal.load_value_at-requires-clause-leaf
load_value_at-requires-clause-leaf g c = leaf_at c.args.table.now.layout c.in-Leaf-default-default-None.number c.locate.result c.locate.ensures.rec c.locate.ensures.start

pub locate-requires : goal.locate-requires
locate-requires g c =
    let (m, w) = c.requires.from in
    found_in_table c.args.table.now.layout c.args.seat.now.known m c.args.job.now.key.now c.in-Leaf-default-default-None.number c.in-Leaf-default-default-None.value c.requires.possible w.since
    (subst (IsFoundAt c.args.seat.now.known m c.args.job.now.key.now) (has_key g (goal.at.locate-requires g c).In-Leaf-default-default-None) w.found_at)

pub returns-in-Leaf-default-default-None-clause-reads : goal.returns-in-Leaf-default-default-None-clause-reads
returns-in-Leaf-default-default-None-clause-reads g c =
    value_reads c.args.table.now g.G.Gate.becomes c.in-Leaf-default-default-None.number c.load_value_at.result (c.args.seat.now, c.args.gate.now) (c.load_value_at.new.seat, c.load_value_at.new.gate) (of_leaf c.locate.ensures.rec c.load_value_at.ensures)

pub returns-in-Leaf-default-default-None-clause-moved : goal.returns-in-Leaf-default-default-None-clause-moved
returns-in-Leaf-default-default-None-clause-moved g c differs m from =
    let is = has_key g (goal.at.returns-in-Leaf-default-default-None-clause-moved g c).In-Leaf-default-default-None in
    let v = c.in-Leaf-default-default-None.value in
    let w = c.load_value_at.result in
    let other : v ≢ w = λ same. false≢true (sym differs ∙ eq-eqb w v (sym same)) in
    moved_since c.in-Leaf-default-default-None.number v w m c.args.job.now.key.now (subst (IsFoundAt c.args.seat.now.known m c.args.job.now.key.now) is from.found_at) from.since (of_leaf c.locate.ensures.rec c.load_value_at.ensures).event other
