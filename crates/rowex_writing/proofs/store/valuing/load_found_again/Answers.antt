-- A leaf with the key is one of the table's; and its value, as loaded, is the key's.
use Rattle.rowex_writing.proofs.Common.{◌≡◌, None, sym, ap, subst, ◌∙◌, leaf_at, IsFoundAt, Leaf}
use Rattle.rowex_writing.specs.store.Values.{revalued}
use Rattle.rowex_writing.proofs.store.Held.{held_loaded}
use Rattle.rowex_writing.proofs.store.Values.{found_in_table, found_loaded, found_now, value_reads, of_leaf}
use Rattle.rowex_writing.proofs.store.valuing.load_found_again.Given as given
use Rattle.rowex_writing.proofs.store.valuing.load_found_again.Goals as goal
use Rattle.rowex_writing.proofs.store.valuing.load_found_again.Goals.{In-Leaf-default-default-None}

-- it has the key
has_key : (g : given.Over) (c : In-Leaf-default-default-None g) → c.args.job.now.found ≡ Leaf c.in-Leaf-default-default-None.number c.in-Leaf-default-default-None.value None
has_key g c =
    let none : c.in-Leaf-default-default-None.mismatch ≡ None = rw c.in-Leaf-default-default-None.is at c.in-Leaf-default-default-None.mismatch-is in
    c.in-Leaf-default-default-None.is ∙ ap (λ o. Leaf c.in-Leaf-default-default-None.number c.in-Leaf-default-default-None.value o) none

pub load_value_at-value-requires-clause-own : goal.load_value_at-value-requires-clause-own
load_value_at-value-requires-clause-own g c = let (deed, (m, aim, t, planned)) = c.requires.taken in t.seat

pub load_value_at-value-requires-clause-leaf : goal.load_value_at-value-requires-clause-leaf
load_value_at-value-requires-clause-leaf g c = leaf_at c.args.table.now.layout c.in-Leaf-default-default-None.number c.locate.result c.locate.ensures.rec c.locate.ensures.start

pub locate-requires : goal.locate-requires
locate-requires g c =
    let (deed, (m, aim, t, planned)) = c.requires.taken in
    found_in_table c.args.table.now.layout c.args.seat.now.known m c.args.job.now.key.now c.in-Leaf-default-default-None.number c.in-Leaf-default-default-None.value t.possible t.way_of.since
    (subst (IsFoundAt c.args.seat.now.known m c.args.job.now.key.now) (has_key g (goal.at.locate-requires g c).In-Leaf-default-default-None) t.way_of.found_at)

pub returns-clause-reads : goal.returns-clause-reads
returns-clause-reads g c =
    value_reads c.args.table.now g.G.Gate.becomes c.in-Leaf-default-default-None.number c.load_value_at-value.result (c.args.seat.now, c.args.gate.now) (c.load_value_at-value.new.seat, c.load_value_at-value.new.gate) (of_leaf c.locate.ensures.rec c.load_value_at-value.ensures)

pub returns-clause-again : goal.returns-clause-again
returns-clause-again g c = let w = c.load_value_at-value.result in (w, sym (ap (λ f. revalued f w) (has_key g (goal.at.returns-clause-again g c).In-Leaf-default-default-None)))

pub returns-clause-loaded : goal.returns-clause-loaded
returns-clause-loaded g c = found_loaded c.in-Leaf-default-default-None.number c.load_value_at-value.result (of_leaf c.locate.ensures.rec c.load_value_at-value.ensures).event

pub returns-clause-held : goal.returns-clause-held
returns-clause-held g c =
    let (deed, taken) = c.requires.taken in
    held_loaded c.args.table.now c.args.seat.now c.load_value_at-value.new.seat.known c.args.job.now deed c.in-Leaf-default-default-None.number c.in-Leaf-default-default-None.value c.load_value_at-value.result taken
    (has_key g (goal.at.returns-clause-held g c).In-Leaf-default-default-None) (of_leaf c.locate.ensures.rec c.load_value_at-value.ensures).event

pub returns-clause-found : goal.returns-clause-found
returns-clause-found g c m from =
    let is = has_key g (goal.at.returns-clause-found g c).In-Leaf-default-default-None in
    found_now c.in-Leaf-default-default-None.number c.in-Leaf-default-default-None.value c.load_value_at-value.result m c.args.job.now.key.now (subst (IsFoundAt c.args.seat.now.known m c.args.job.now.key.now) is from.found_at) from.since
    (of_leaf c.locate.ensures.rec c.load_value_at-value.ensures).event
