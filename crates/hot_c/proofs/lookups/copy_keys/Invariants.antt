-- The keys so far are those of the look-ups below the index.
use Rattle.std.specs.Prelude.{◌≡◌, map, take}
use Rattle.hot_c.specs.Lookups.{key_in}
use Rattle.hot_c.proofs.lookups.copy_keys.Given as goal

abbrev pub invariant-loop-lookup : goal.invariant-loop-lookup
invariant-loop-lookup l = l.keys.items ≡ map key_in (take l.lookup-index l.lookups)
