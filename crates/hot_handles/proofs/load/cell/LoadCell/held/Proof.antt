-- A cell lies in memory as what it holds does.
use base.Logic.{id⊢}
use denote.Memory.{part_of}
use Rattle.hot_handles.proofs.Owning.Recasting.{casts}
use Rattle.hot_handles.specs.LoadLending.{held_load, cell_of_load}
use Rattle.hot_handles.specs.contracts.load.open_load.OpenLoad.{the_row as content}
use Rattle.hot_handles.specs.contracts.load.cell.LoadCell.{the_row as cell}
use Rattle.hot_handles.specs.contracts.load.cell.LoadCell.held.Key.{name}
use Rattle.hot_handles.proofs.load.cell.LoadCell.held.Statement.{statement}
use Rattle.hot_handles.proofs.load.cell.LoadCell.held.Code.{unfolded}

pub held_spec : {M : Type 1} → statement M
unfolding part_of
held_spec 𝓤 𝓛 𝓜 𝓡 wired = casts cell content held_load cell_of_load 𝓛 (λ s b o. id⊢ 𝓤 _) (λ h b o. id⊢ 𝓤 _) 𝓜 𝓡 name _ _ _ _ (unfolded 𝓤 𝓛.H 𝓜 𝓡 wired)
