-- A range without keys; an empty root; and a search that has ended at a leaf.
use Rattle.rowex_scanning.proofs.Common.{subst, ◌∙◌, arith, since, looks_first, looks_same, reads_none, IsWayOf, IsBefore}
use Rattle.rowex_reading.specs.declared.descent.Found.TheVariants.{Leaf}
use Rattle.rowex_scanning.specs.Scanning.{asked_range}
use Rattle.rowex_scanning.proofs.Starts.{leaf_rooted, nothing_blank}
use Rattle.rowex_scanning.proofs.Walking.{blank_scanned, empty_is, nothing_scanned, scans_few, searched_scans, walks_alone}
use Rattle.rowex_scanning.proofs.scanning.walk_root.Goals as goal

pub returns-then-is_key_before-clause-looks : goal.returns-then-is_key_before-clause-looks
returns-then-is_key_before-clause-looks g c = (0, 0, record { most = omega arith; few = omega arith }, looks_first c.load_root.ensures.reads)

pub returns-then-is_key_before-clause-passed : goal.returns-then-is_key_before-clause-passed
returns-then-is_key_before-clause-passed g c = (0, 0, record { most = omega arith; few = omega arith }, looks_first c.load_root.ensures.reads)

pub returns-then-is_key_before-clause-scanned : goal.returns-then-is_key_before-clause-scanned
returns-then-is_key_before-clause-scanned g c =
    let before : IsBefore c.args.range.now.upto.now c.args.range.now.from.now =
    subst (λ z. IsBefore z c.args.range.now.from.now) c.as_bytes.ensures.bytes (subst (IsBefore c.as_bytes.result.now) c.as_bytes-2.ensures.bytes (c.is_key_before.ensures.before c.if-is_key_before.true)) in
    nothing_scanned (asked_range c.args.range.now) _ c.requires.empty before

pub returns-then-is_key_before-clause-few : goal.returns-then-is_key_before-clause-few
returns-then-is_key_before-clause-few g c = scans_few c.args.range.now.limit (0, 0, record { most = omega arith; few = omega arith }, looks_first c.load_root.ensures.reads)

pub returns-in-Nothing-clause-looks : goal.returns-in-Nothing-clause-looks
returns-in-Nothing-clause-looks g c =
    searched_scans {x = 0} c.args.range.now.limit c.search_way.ensures.searched (omega arith) (walks_alone c.args.range.now.limit (0, omega arith, reads_none (c.search_way.new.seat, c.search_way.new.gate)))

pub returns-in-Nothing-clause-passed : goal.returns-in-Nothing-clause-passed
returns-in-Nothing-clause-passed g c = searched_scans {x = 0} _ c.search_way.ensures.searched (omega arith) (walks_alone _ (0, omega arith, reads_none (c.search_way.new.seat, c.search_way.new.gate)))

pub returns-in-Nothing-clause-scanned : goal.returns-in-Nothing-clause-scanned
returns-in-Nothing-clause-scanned g c =
    let w = subst (IsWayOf c.args.table.now.layout c.search_way.new.seat.known (since c.search_way.new.seat.known) c.first_key.result.now c.search_way.new.way.items) c.in-Nothing.is c.search_way.ensures.way in
    blank_scanned (asked_range c.args.range.now) _ c.requires.empty (nothing_blank _ _ _ _ c.search_way.new.way.items w)

pub returns-in-Nothing-clause-few : goal.returns-in-Nothing-clause-few
returns-in-Nothing-clause-few g c = scans_few c.args.range.now.limit
    (searched_scans {x = 0} c.args.range.now.limit c.search_way.ensures.searched (omega arith) (walks_alone c.args.range.now.limit (0, omega arith, reads_none (c.search_way.new.seat, c.search_way.new.gate))))

pub scan_leaf-requires-clause-reader : goal.scan_leaf-requires-clause-reader
scan_leaf-requires-clause-reader g c = ((looks_same c.search_way.ensures.searched.looks).0 ∙ c.requires.own, c.search_way.ensures.possible)

pub scan_leaf-requires-clause-root : goal.scan_leaf-requires-clause-root
scan_leaf-requires-clause-root g c =
    let w = subst (IsWayOf c.args.table.now.layout c.search_way.new.seat.known (since c.search_way.new.seat.known) c.first_key.result.now c.search_way.new.way.items) c.in-Leaf.is c.search_way.ensures.way in
    leaf_rooted _ _ _ c.search_way.new.way.items c.in-Leaf.number _ _ (empty_is c.search_way.new.way.items (let n = c.len.ensures in let e = c.if-len-eq0.true in omega (arith, n, e))) w

pub returns-then-len-eq0-clause-looks : goal.returns-then-len-eq0-clause-looks
returns-then-len-eq0-clause-looks g c = searched_scans c.args.range.now.limit c.search_way.ensures.searched (omega arith) (walks_alone c.args.range.now.limit c.scan_leaf.ensures.reads)

pub returns-then-len-eq0-clause-passed : goal.returns-then-len-eq0-clause-passed
returns-then-len-eq0-clause-passed g c = searched_scans _ c.search_way.ensures.searched (omega arith) (walks_alone _ c.scan_leaf.ensures.reads)

pub returns-then-len-eq0-clause-few : goal.returns-then-len-eq0-clause-few
returns-then-len-eq0-clause-few g c =
    scans_few c.args.range.now.limit (searched_scans c.args.range.now.limit c.search_way.ensures.searched (omega arith) (walks_alone c.args.range.now.limit c.scan_leaf.ensures.reads))

pub scan_node-requires-clause-reader : goal.scan_node-requires-clause-reader
scan_node-requires-clause-reader g c = ((looks_same c.search_way.ensures.searched.looks).0 ∙ c.requires.own, c.search_way.ensures.possible)

pub scan_node-requires-clause-way : goal.scan_node-requires-clause-way
scan_node-requires-clause-way g c =
    let n = c.len.ensures in let e = c.if-len-eq0.false in
    let found = subst (IsWayOf c.args.table.now.layout c.search_way.new.seat.known (since c.search_way.new.seat.known) c.first_key.result.now c.search_way.new.way.items) c.in-Leaf.is c.search_way.ensures.way in
    (omega (arith, n, e), _, subst (λ key. IsWayOf c.args.table.now.layout c.search_way.new.seat.known (since c.search_way.new.seat.known) key c.search_way.new.way.items (Leaf c.in-Leaf.number c.in-Leaf.value c.in-Leaf.mismatch)) c.first_key.ensures found)

pub returns-else-len-eq0-clause-looks : goal.returns-else-len-eq0-clause-looks
returns-else-len-eq0-clause-looks g c = searched_scans c.args.range.now.limit c.search_way.ensures.searched (omega arith) c.scan_node.ensures.reads

pub returns-else-len-eq0-clause-passed : goal.returns-else-len-eq0-clause-passed
returns-else-len-eq0-clause-passed g c = searched_scans _ c.search_way.ensures.searched (omega arith) c.scan_node.ensures.passed

pub returns-else-len-eq0-clause-few : goal.returns-else-len-eq0-clause-few
returns-else-len-eq0-clause-few g c = scans_few c.args.range.now.limit (searched_scans c.args.range.now.limit c.search_way.ensures.searched (omega arith) c.scan_node.ensures.reads)
