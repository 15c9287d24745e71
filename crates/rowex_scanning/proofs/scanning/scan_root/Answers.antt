-- The pairs that were taken are those of the list.
use Rattle.std.proofs.lemmas.Result.{IfOk-weaker, on_err_weaker}
use Rattle.rowex_scanning.proofs.Scanned.{taken_scanned}
use Rattle.rowex_scanning.proofs.scanning.scan_root.Goals as goal

pub returns-clause-scanned : goal.returns-clause-scanned
returns-clause-scanned g c = rw c.put_back.ensures (IfOk-weaker c.walk_root-scan.result _ _ (λ more taken. taken_scanned taken) c.walk_root-scan.ensures.scanned)

pub returns-clause-part : goal.returns-clause-part
returns-clause-part g c = rw c.put_back.ensures (on_err_weaker c.walk_root-scan.result (λ h. (h.0, taken_scanned h.1)) c.walk_root-scan.ensures.part)
