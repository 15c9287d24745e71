-- That what a pass knows is true of some core.
use Rattle.std.specs.Prelude.{◌≡◌}
use Rattle.record_words.specs.declared.layout.Layout.{Layout}
use Rattle.rowex_core.specs.declared.known.Known.{Known}
use Rattle.rowex_core.specs.Cores.{Core, IsLawful}
use Rattle.rowex_core.specs.Knowing.{Knows}

-- What the pass knows is true of some lawful core of this layout, such as that at its last load. Without one, being sure of something
-- (`Sure`) would say nothing.
pub record IsPossible (layout : Layout) (known : Known) : Type 0 where
  pub core : Core
  pub lawful : IsLawful core
  pub layout_is : core.layout ≡ layout
  pub knows : Knows core known
