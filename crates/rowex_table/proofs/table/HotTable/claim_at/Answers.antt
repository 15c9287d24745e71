-- A claim is legal in every core, of a record that the table has.
use Rattle.rowex_table.proofs.Common.{refl, subst, sym, Layout, HasRecord}
use Rattle.rowex_table.proofs.Rights.{state_there}
use Rattle.rowex_table.proofs.table.HotTable.claim_at.Goals as goal

pub compare_exchange_at-requires-clause-apt : goal.compare_exchange_at-requires-clause-apt
compare_exchange_at-requires-clause-apt g c = (refl, refl, λ d law at known. (known.pass, (subst (λ (z : Layout). HasRecord z c.args.at.rec) (sym at) c.requires.start.0, state_there d c.args.at.rec)))
