-- A node record that stands in no tree, in an index of one pass.
use Rattle.hot_index.proofs.Common.{◌≡◌, ◌≢◌, ℕ, ◌<◌, List, [], ◌∷◌, ◌++◌, sym, ap, subst, ◌∙◌, arith, All-cons, All-weaker, All, Layout, a_node, Core, opening, EventsLead, ClearPin, LoadEpoch, LoadRef, SetPin, Event, IsShownAll, SeatView, TableView, IsBelowRoot, HasSpare, IsLone, IsOut, LeavesTree, KeepsSpare, lead_layout, lead_split, none_other, runs_spare, reads_plain, HasCounted, IsNewPass, PassView, HasCollected, HasRead, reading}
use Rattle.rowex_core.specs.declared.event.Act.{Act}
use Rattle.rowex_core.specs.declared.event.Spot.TheVariants.{Root}
use Rattle.hot_index_calls.specs.declared.census.RecordCounts.{RecordCounts}
use Rattle.hot_index_calls.proofs.Rooms.{counts_spare, noted_spare, round_spare}

-- before the first step each stands in none
pub new_has_spare : (layout : Layout) (q : ℕ) (p : PassView) → 0 < layout.nodes → IsNewPass q p → HasSpare layout p.seat
new_has_spare layout q p some new c lone =
    let first : c ≡ opening layout = subst (λ l. EventsLead (opening layout) l c) new.4 lone.led in
    (0, some, subst (λ (z : Core). IsOut (z.fate (a_node 0))) (sym first) tt)

reading_plain : (epoch root : ℕ) (loads : List Act) → All IsBelowRoot loads → All LeavesTree (reading epoch root loads)
reading_plain epoch root loads below =
    All-cons LeavesTree (LoadEpoch epoch) (SetPin epoch ∷ LoadRef Root root ∷ loads) tt
    (All-cons LeavesTree (SetPin epoch) (LoadRef Root root ∷ loads) tt (All-cons LeavesTree (LoadRef Root root) loads tt (reads_plain loads below)))

module _ {G : Type 0} (becomes : G → Event → G → Type 0) where
  pub reads : (index : TableView) (a b : PassView × G) → HasRead index becomes a b → KeepsSpare index.layout a.0.seat b.0.seat
  reads index a b read was =
      let (m, run, last) = read.steps in
      noted_spare index becomes ClearPin read.said m (b.0.seat, b.1) tt last
      (runs_spare index becomes (reading read.epoch read.root read.loads) (a.0.seat, a.1) m (reading_plain read.epoch read.root read.loads read.below) run was)

  pub collects : (index : TableView) (a b : PassView × G) (nodes leaves : ℕ) → HasCollected index becomes a b nodes leaves → KeepsSpare index.layout a.0.seat b.0.seat
  collects index a b nodes leaves collected = round_spare index becomes (a.0.seat, a.1) (b.0.seat, b.1) collected.round

  pub counts : (index : TableView) (a b : PassView × G) (counts : RecordCounts) → HasCounted index becomes a b counts → KeepsSpare index.layout a.0.seat b.0.seat
  counts index a b found counted = counts_spare index becomes counted.tags (a.0.seat, a.1) (b.0.seat, b.1) counted.steps

-- a pass that is alone is shown its own steps
pub shown : (layout : Layout) (s t : SeatView) → s.known.pass < layout.passes → IsShownAll layout s t → KeepsSpare layout s t
shown layout s t low all was d lone =
    let start = opening layout in
    let (more, is, others) = all.run.others in
    let (c, first, rest) = lead_split start s.trace more d (subst (λ l. EventsLead start l d) is lone.led) in
    let none : more ≡ [] = none_other s.known.pass c d more rest (ap (λ (l : Layout). l.passes) (lead_layout start s.trace c first) ∙ lone.passes) (omega (arith, low, lone.passes)) others in
    let same : d ≡ c = subst (λ l. EventsLead c l d) none rest in
    let (n, few, out) = was c (record { passes = lone.passes; led = first }) in
    (n, few, subst (λ (z : Core). IsOut (z.fate (a_node n))) (sym same) out)
