-- A cell lies in memory as what it holds does.
use base.Logic.{id⊢}
use denote.Memory.{part_of}
use Rattle.hot_handles.proofs.Owning.Recasting.{casts}
use Rattle.hot_c.specs.Lending.{held_opened, cell_of_opened}
use Rattle.hot_c.specs.contracts.opened.Opened.{the_row as content}
use Rattle.hot_c.specs.contracts.cell.HandleCell.{the_row as cell}
use Rattle.hot_c.specs.contracts.cell.HandleCell.held.Key.{name}
use Rattle.hot_c.proofs.cell.HandleCell.held.Statement.{statement}
use Rattle.hot_c.proofs.cell.HandleCell.held.Code.{unfolded}

pub held_spec : {M : Type 1} → statement M
unfolding part_of
held_spec 𝓤 𝓛 𝓜 𝓡 wired = casts cell content held_opened cell_of_opened 𝓛 (λ s b o. id⊢ 𝓤 _) (λ h b o. id⊢ 𝓤 _) 𝓜 𝓡 name _ _ _ _ (unfolded 𝓤 𝓛.H 𝓜 𝓡 wired)
