-- What a run reads of its last script, and how the read may fail.
use Rattle.std.specs.Prelude.{ℕ, ◌<◌, List, Option, length}
use Rattle.std.specs.Io.KnownBytes.{Consumes, IsAtEnd}
use Rattle.hot_scripts.specs.declared.fault.RunFault.{RunFault}
use Rattle.hot_scripts.specs.declared.fault.RunFault.TheVariants.{Read, Memory, Large}
use Rattle.hot_scripts.specs.Grammar.{most_bytes}

-- the script is all that the reader had left, and nothing is left now, as far as either is known
abbrev pub TakesAll : (old new : Option (List ℕ)) (script : List ℕ) → Type 0
TakesAll old new script = Consumes old new script × IsAtEnd new

-- The fault of a read of a script: the read failed, memory was refused, or more bytes were read than a script may have.
abbrev pub IsReadFault : (old new : Option (List ℕ)) (fault : RunFault) → Type 0
IsReadFault old new Read = Unit {0}
IsReadFault old new Memory = Unit {0}
IsReadFault old new Large = (front : List ℕ) × Consumes old new front × (most_bytes < length front)
IsReadFault old new _ = ⊥
