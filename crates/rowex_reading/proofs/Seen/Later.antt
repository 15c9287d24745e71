-- What a step of the pass leaves of what it is sure of.
use Rattle.rowex_reading.proofs.Common.{List, ◌++◌, sym, subst, Note, Layout, Act, Known, after, Knows, Recalls, IsEvent, learned, recalls, IsLater}
use Rattle.rowex_core.proofs.Knowing.{learns}
use Rattle.rowex_core.proofs.Cores.{stays_lawful}
use Rattle.rowex_reading.specs.Possible.{IsPossible}
use Rattle.rowex_table.proofs.Rule.{renoted}
use Rattle.rowex_table.specs.Stays.{KeepsRecall}
use Rattle.rowex_table.proofs.Made.ActsBefore.{recalls_on}

module _ {layout : Layout} {act : Act} {said : Known → List Note} {k j : Known} (e : IsEvent layout act said k j) where
  -- What the pass was sure of it is sure of after the step.
  pub event_later : KeepsRecall act → IsLater k j
  event_later keeps = recalls_on layout said k j act keeps e

  -- What it knows is true of the core after the step.
  pub event_knows : Knows (after e.core k.pass act) j
  event_knows =
      subst (Knows (after e.core k.pass act)) (sym e.learned_is)
      (renoted (after e.core k.pass act) (learned e.core act k) (k.notes ++ said (learned e.core act k)) (learns e.core k act e.lawful e.knows e.legal))

  pub event_possible : IsPossible layout j
  event_possible = record {
    core = after e.core k.pass act;
    lawful = stays_lawful e.core k.pass act e.lawful e.legal;
    layout_is = e.layout_is;
    knows = event_knows;
  }

  -- and what it recalled is true of the core before it
  pub event_recalls : Recalls e.core k
  event_recalls = recalls e.core k e.knows
