use Rattle.version_laws.proofs.Scan.Fronts.{scan_is_lawful}
use Rattle.version_laws.proofs.laws.scan_is_lawful.Goals as goal

pub returns : goal.returns
returns c d more s before rest m steady told g kf ku xs scan items = scan_is_lawful s before rest m steady told g kf ku xs scan items d more
