-- The empty root, the root's entry, one node down, and the leaf.
use Rattle.rowex_reading.proofs.Common.{◌≡◌, ◌↔◌, IsNone, length, take, sym, ap, subst, arith, IfSome, IsFirstDifference, leaf_at, node_at, Leaf, Node}
use Rattle.rowex_reading.specs.Seen.{since, RootIs}
use Rattle.rowex_reading.proofs.lookup.Lookup.{none_searched, none_found, at_root, at_led, leaf_searched}
use Rattle.rowex_reading.proofs.Seen.Led.{reader_then, root_reader, root_pinned}
use Rattle.rowex_reading.proofs.descent.Descent.{IsGoing, going_first, ends_nowhere, there, falls_on, led_down, way_on, way_room, way_ends, end_found}
use Rattle.rowex_reading.proofs.Touching.{entry_read, entry_touched}
use Rattle.rowex_reading.proofs.Seen.Naming.{entry_told, leaf_led, leaf_told, node_led, node_place, step_told}
use Rattle.rowex_reading.proofs.Seen.Standing.{led_in_table}
use Rattle.rowex_reading.proofs.descent.search_way.Goals as goal

pub prove-unreachable-requires : goal.prove-unreachable-requires
prove-unreachable-requires g c =
    let low = c.as_bytes.ensures.key.short in
    omega (arith, low, ap length c.as_bytes.ensures.bytes, c.if-prove.true)

pub returns-in_default-clause-searched : goal.returns-in_default-clause-searched
returns-in_default-clause-searched g c = none_searched c.load_root.ensures.reads

pub returns-in_default-clause-possible : goal.returns-in_default-clause-possible
returns-in_default-clause-possible g c = (root_reader c.requires.own c.load_root.ensures.reads).1

pub returns-in_default-clause-way : goal.returns-in_default-clause-way
returns-in_default-clause-way g c =
    let r = c.load_root.ensures in
    ends_nowhere _ _ _ _ _ c.clear.ensures c.as_bytes.ensures.key (root_pinned c.requires.pinned r.reads) (subst (RootIs c.load_root.new.seat.known) c.in_default.is r.root)

pub returns-in_default-clause-found : goal.returns-in_default-clause-found
returns-in_default-clause-found g c =
    let r = c.load_root.ensures in
    none_found r.reads c.args.key.now (subst (RootIs c.load_root.new.seat.known) c.in_default.is r.root)

pub loop-entry-init : goal.loop-entry-init
loop-entry-init g c =
    let r = c.load_root.ensures.reads in let e = c.in-Some.ensures in
    record {
      reader = root_reader c.requires.own r;
      at = at_root r c.requires.pinned _ c.in-Some.entry e.low e.root;
      going = going_first _ _ _ _ _ _ c.clear.ensures e.low e.root;
    }

pub load_leaf-length-requires-clause-led : goal.load_leaf-length-requires-clause-led
load_leaf-length-requires-clause-led g c = (since c.loop-entry.seat.known, leaf_led c.in-Leaf.number c.locate-leaf.result.rec c.locate-leaf.ensures.rec c.loop-entry.seat.known (since c.loop-entry.seat.known) (at_led c.loop-entry.invariant.at _ c.in-Leaf.is))

pub load_leaf-length-requires-clause-leaf : goal.load_leaf-length-requires-clause-leaf
load_leaf-length-requires-clause-leaf g c = leaf_at c.args.table.now.layout c.in-Leaf.number c.locate-leaf.result c.locate-leaf.ensures.rec c.locate-leaf.ensures.start

pub returns-in-Leaf-clause-searched : goal.returns-in-Leaf-clause-searched
returns-in-Leaf-clause-searched g c =
    let e = c.load_leaf-length.ensures in leaf_searched c.loop-entry.invariant.at c.in-Leaf.number c.in-Leaf.is e.few e.reads

pub returns-in-Leaf-clause-possible : goal.returns-in-Leaf-clause-possible
returns-in-Leaf-clause-possible g c = (reader_then c.loop-entry.invariant.reader c.load_leaf-length.ensures.reads).1

pub returns-in-Leaf-clause-way : goal.returns-in-Leaf-clause-way
returns-in-Leaf-clause-way g c =
    let i = c.loop-entry.invariant in let e = c.load_leaf-length.ensures in let l = c.load_leaf-length.result in let p = c.mismatch_of_bytes.ensures in
    way_ends i.at _ i.going c.in-Leaf.number c.in-Leaf.is e.few e.reads (take l.0 c.load_leaf-length.new.places) l.1 (leaf_told c.in-Leaf.number c.locate-leaf.result.rec c.locate-leaf.ensures.rec c.loop-entry.seat.known c.load_leaf-length.new.seat.known (take l.0 c.load_leaf-length.new.places) l.1 e.leaf) c.as_bytes-in-Leaf.ensures.key c.mismatch_of_bytes.result
    (subst (λ k. IsNone c.mismatch_of_bytes.result ↔ (k ≡ take l.0 c.load_leaf-length.new.places)) c.as_bytes-in-Leaf.ensures.bytes p.none)
    (subst (λ k. IfSome c.mismatch_of_bytes.result (IsFirstDifference k (take l.0 c.load_leaf-length.new.places))) c.as_bytes-in-Leaf.ensures.bytes p.first)

pub returns-in-Leaf-clause-found : goal.returns-in-Leaf-clause-found
returns-in-Leaf-clause-found g c =
    let i = c.loop-entry.invariant in let e = c.load_leaf-length.ensures in let l = c.load_leaf-length.result in let p = c.mismatch_of_bytes.ensures in
    end_found i.at _ i.going c.in-Leaf.number c.in-Leaf.is e.few e.reads (take l.0 c.load_leaf-length.new.places) l.1 (leaf_told c.in-Leaf.number c.locate-leaf.result.rec c.locate-leaf.ensures.rec c.loop-entry.seat.known c.load_leaf-length.new.seat.known (take l.0 c.load_leaf-length.new.places) l.1 e.leaf) c.as_bytes-in-Leaf.ensures.key c.mismatch_of_bytes.result
    (subst (λ k. IsNone c.mismatch_of_bytes.result ↔ (k ≡ take l.0 c.load_leaf-length.new.places)) c.as_bytes-in-Leaf.ensures.bytes p.none)

pub locate-leaf-requires : goal.locate-leaf-requires
locate-leaf-requires g c =
    let i = c.loop-entry.invariant in led_in_table c.args.table.now.layout c.loop-entry.seat.known (since c.loop-entry.seat.known) (Leaf c.in-Leaf.number) i.reader.1 (at_led i.at _ c.in-Leaf.is)

pub locate-node-requires : goal.locate-node-requires
locate-node-requires g c =
    let i = c.loop-entry.invariant in led_in_table c.args.table.now.layout c.loop-entry.seat.known (since c.loop-entry.seat.known) (Node c.in-Node.number c.in-Node.height) i.reader.1 (at_led i.at _ c.in-Node.is)

pub search_node-step-requires-clause-led : goal.search_node-step-requires-clause-led
search_node-step-requires-clause-led g c = (since c.loop-entry.seat.known, c.in-Node.height, node_led c.in-Node.number c.locate-node.result.rec c.locate-node.ensures.rec c.loop-entry.seat.known (since c.loop-entry.seat.known) c.in-Node.height (at_led c.loop-entry.invariant.at _ c.in-Node.is))

pub search_node-step-requires-clause-node : goal.search_node-step-requires-clause-node
search_node-step-requires-clause-node g c = node_at c.args.table.now.layout c.in-Node.number c.locate-node.result c.locate-node.ensures.rec c.locate-node.ensures.start

pub load_entry-entry-requires-clause-reader : goal.load_entry-entry-requires-clause-reader
load_entry-entry-requires-clause-reader g c = reader_then c.loop-entry.invariant.reader c.search_node-step.ensures.reads.2.reads

pub load_entry-entry-requires-clause-place : goal.load_entry-entry-requires-clause-place
load_entry-entry-requires-clause-place g c =
    let i = c.loop-entry.invariant in let n = c.in-Node in let e = c.search_node-step.ensures in let m = since c.loop-entry.seat.known in
    let (head, seen, stepped) = step_told c.in-Node.number c.locate-node.result.rec c.locate-node.ensures.rec c.loop-entry.seat.known c.search_node-step.new.seat.known c.args.key.now c.search_node-step.result e.step m n.height (at_led i.at _ n.is) in
    (m, n.height, node_place c.in-Node.number c.locate-node.result.rec c.locate-node.ensures.rec c.search_node-step.new.seat.known m n.height c.search_node-step.result.slot (there i.at _ i.going n.number n.height c.search_node-step.result head n.is e.reads.1 e.reads.2.reads seen stepped))

pub load_entry-entry-requires-clause-node : goal.load_entry-entry-requires-clause-node
load_entry-entry-requires-clause-node g c = node_at c.args.table.now.layout c.in-Node.number c.locate-node.result c.locate-node.ensures.rec c.locate-node.ensures.start

pub push-requires : goal.push-requires
push-requires g c =
    let i = c.loop-entry.invariant in let n = c.in-Node in let e = c.search_node-step.ensures in let o = c.load_entry-entry.ensures in
    let (head, seen, stepped) = step_told c.in-Node.number c.locate-node.result.rec c.locate-node.ensures.rec c.loop-entry.seat.known c.search_node-step.new.seat.known c.args.key.now c.search_node-step.result e.step (since c.loop-entry.seat.known) n.height (at_led i.at _ n.is) in
    (omega arith, way_room i.at _ i.going n.number n.height c.search_node-step.result head n.is e.reads.1 e.reads.2.reads seen stepped _ (entry_read e.reads.2 o.reads o.touches) (entry_told c.in-Node.number c.locate-node.result.rec c.locate-node.ensures.rec c.search_node-step.new.seat.known c.load_entry-entry.new.seat.known c.search_node-step.result.slot c.load_entry-entry.result o.entry))

pub loop-entry-smaller : goal.loop-entry-smaller
loop-entry-smaller g c =
    let i = c.loop-entry.invariant in let n = c.in-Node in let e = c.search_node-step.ensures in let o = c.load_entry-entry.ensures in
    let (head, seen, stepped) = step_told c.in-Node.number c.locate-node.result.rec c.locate-node.ensures.rec c.loop-entry.seat.known c.search_node-step.new.seat.known c.args.key.now c.search_node-step.result e.step (since c.loop-entry.seat.known) n.height (at_led i.at _ n.is) in
    falls_on i.at _ i.going n.number n.height c.search_node-step.result head n.is e.reads.1 e.reads.2.reads seen stepped _ (entry_read e.reads.2 o.reads o.touches) (entry_told c.in-Node.number c.locate-node.result.rec c.locate-node.ensures.rec c.search_node-step.new.seat.known c.load_entry-entry.new.seat.known c.search_node-step.result.slot c.load_entry-entry.result o.entry)

pub loop-entry-preserved : goal.loop-entry-preserved
loop-entry-preserved g c =
    let i = c.loop-entry.invariant in let n = c.in-Node in let e = c.search_node-step.ensures in let o = c.load_entry-entry.ensures in
    let known = c.load_entry-entry.new.seat.known in
    let (head, seen, stepped) = step_told c.in-Node.number c.locate-node.result.rec c.locate-node.ensures.rec c.loop-entry.seat.known c.search_node-step.new.seat.known c.args.key.now c.search_node-step.result e.step (since c.loop-entry.seat.known) n.height (at_led i.at _ n.is) in
    record {
      reader = reader_then (reader_then i.reader e.reads.2.reads) o.reads;
      at = led_down i.at _ i.going n.number n.height c.search_node-step.result head n.is e.reads.1 e.reads.2.reads seen stepped _ (entry_read e.reads.2 o.reads o.touches) (entry_told c.in-Node.number c.locate-node.result.rec c.locate-node.ensures.rec c.search_node-step.new.seat.known c.load_entry-entry.new.seat.known c.search_node-step.result.slot c.load_entry-entry.result o.entry) (entry_touched e.reads.2 _ o.touches);
      going = subst (λ z. IsGoing c.args.table.now.layout known (since known) c.args.key.now z c.load_entry-entry.result) (sym c.push.ensures.items)
          (way_on i.at _ i.going n.number n.height c.search_node-step.result head n.is e.reads.1 e.reads.2.reads seen stepped _ (entry_read e.reads.2 o.reads o.touches) (entry_told c.in-Node.number c.locate-node.result.rec c.locate-node.ensures.rec c.search_node-step.new.seat.known c.load_entry-entry.new.seat.known c.search_node-step.result.slot c.load_entry-entry.result o.entry) i.reader.1);
    }
