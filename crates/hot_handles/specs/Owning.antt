-- What a cell owns on the heap of C.
use Rattle.std.specs.Prelude.{Option, None, Some}
use base.Fml.{Fml, ftrue}
use denote.RattleType.{RattleType}
use denote.RawPtr.{Ptr}
use Rattle.std.specs.Box.Ownership.{box_owns}
use Rattle.std.specs.Global.{Global}
use Rattle.std_heap.specs.contracts.GlobalAllocator.TheImpl.{ghosts}

-- the allocator of C's heap, of which there is one
abbrev pub heap : Global
heap = record { memory = record { seal = tt } }

-- What a cell owns at this pointer: nothing, or what a box on C's heap owns that has this value.
abbrev pub owns_held : (R : RattleType) (at : Ptr) (value : Option R.Denot) → Fml
owns_held R at None = ftrue
owns_held R at (Some value) = box_owns (ghosts.dealloc_token heap) R at value
