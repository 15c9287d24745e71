-- The scan of the whole tree is that of the trie's map.
use Rattle.std.proofs.Common.{◌≡◌, ◌≢◌, ◌∙◌, ℕ, List, [], false, ap, refl, sym, subst, take, arith}
use Rattle.std.proofs.Math.Seq.{take-nil}
use Rattle.std.proofs.lemmas.Bool.{false≢true}
use Rattle.std.proofs.lemmas.Result.{err_from_is_err_and}
use Rattle.finite_map.specs.declared.Scan.{Scan}
use Rattle.finite_map.specs.Maps.{Map}
use Rattle.finite_map.specs.Scans.{IsScanOf, range_of}
use Rattle.plain_trie_records.specs.Store.{ShowsSound}
use Rattle.tries.specs.Tree.{Tree}
use Rattle.plain_trie.specs.Views.{IsTree, PlainView}
use Rattle.plain_trie.proofs.Views.{map_is, no_map, plain_tree}
use Rattle.plain_trie.proofs.plain.PlainTrie.scan.Goals as goal
use Rattle.plain_trie.proofs.plain.PlainTrie.scan.Goals.{In-Some}

tree : (c : In-Some) → (t : Tree) × IsTree c.args.self.now c.in-Some.top t
tree c =
    plain_tree c.args.self.now c.in-Some.top (sym (ap (λ (v : PlainView). v.top) c.self.view_is) ∙ c.in-Some.is) (rw (← c.self.view_is) c.self.invariant)

stands : (c : In-Some) → ShowsSound c.self.inside.nodes.items c.self.inside.leaves.items (tree c).0
stands c = subst (λ (v : PlainView). ShowsSound v.nodes v.leaves (tree c).0) (sym c.self.view_is) (record { shown = (tree c).1.shown; sound = (tree c).1.sound })

pub scan_below-requires : goal.scan_below-requires
scan_below-requires c = let d = (goal.at.scan_below-requires c).In-Some in record { shown = ((tree d).0, (tree d).1.head, stands d) }

-- the scan of no pairs
none_yet : (from upto : List ℕ) (limit : ℕ) (scan : Scan) → scan.pairs.items ≡ [] → scan.more ≡ false → IsScanOf [] from upto limit scan
none_yet from upto limit scan none more = record { pairs = none ∙ sym (take-nil limit); more = (λ h. absurd (false≢true (sym more ∙ h)), λ l. absurd (omega arith)) }

-- without an entry of the root the map is empty
pub returns-in_default-clause-scan : goal.returns-in_default-clause-scan
returns-in_default-clause-scan c =
    let scan : Scan = record { pairs = c.new.result; more = false } in
    subst (λ (m : Map). IsScanOf m c.args.from.now c.args.upto.now c.args.limit scan)
    (sym (no_map c.args.self.now (sym (ap (λ (v : PlainView). v.top) c.self.view_is) ∙ c.in_default.is))) (none_yet c.args.from.now c.args.upto.now c.args.limit scan c.new.ensures.items refl)

pub returns-in_default-clause-memory : goal.returns-in_default-clause-memory
returns-in_default-clause-memory c = tt

pub returns-in_err-scan_below-clause-memory : goal.returns-in_err-scan_below-clause-memory
returns-in_err-scan_below-clause-memory c =
    let d = (goal.at.returns-in_err-scan_below-clause-memory c).In-Some in
    let h = c.in_err-scan_below.ensures.scan (tree d).0 [] (tree d).1.head (stands d) (none_yet c.args.from.now c.args.upto.now c.args.limit _ c.new.ensures.items refl) in
    rw (err_from_is_err_and c.from_residual.result c.from_residual.ensures.1).1
    (subst (λ (m : Map). take c.args.limit (range_of m c.args.from.now c.args.upto.now) ≢ []) (sym (map_is c.args.self.now (tree d).0 (tree d).1.is)) h)

pub returns-clause-scan : goal.returns-clause-scan
returns-clause-scan c =
    let d = (goal.at.returns-clause-scan c).In-Some in
    subst (λ (m : Map). IsScanOf m c.args.from.now c.args.upto.now c.args.limit c.scan_below.new.scan) (sym (map_is c.args.self.now (tree d).0 (tree d).1.is))
    (c.in_ok-scan_below.ensures.scan (tree d).0 [] (tree d).1.head (stands d) (none_yet c.args.from.now c.args.upto.now c.args.limit _ c.new.ensures.items refl))
