use Rattle.version_laws.proofs.Scan.{led_placed}
use Rattle.version_laws.proofs.laws.loaded_entry_leads_search_on.Goals as goal

pub returns : goal.returns
returns c = led_placed
