-- What the calls of a load tell a program in C.
use Rattle.std.specs.Prelude.{◌≡◌, ◌⊎◌, ◌↔◌, ◌≤◌, ℕ, List, [], length, Option, Some, None, IsSome}
use Rattle.bulk_load.specs.Views.{HasNoRoomFor, IsAboveLast, LoadView}
use Rattle.record_words.specs.Layout.{HasStock}
use Rattle.record_words.specs.declared.layout.Stock.{Stock}
use Rattle.tries.specs.Content.{pairs}
use Rattle.hot_index.specs.Kept.{kept_stock}
use Rattle.hot_index.specs.Loads.{HasNoLeafFor, HasTakenPair, IsPassOfLoad}
use Rattle.hot_handles.specs.declared.load.open_load.OpenLoad.{OpenLoad}
use Rattle.hot_c.specs.Calls.{FitsInKey, KeepsPasses}
use Rattle.hot_c.specs.declared.opened.Opened.{Opened}
use Rattle.hot_c.specs.declared.status.TheConstants.{CLOSED, DONE, FULL_LEAVES, FULL_NODES, KEY_TOO_LONG, NO_MEMORY, NOT_RISING}

-- The load has no pair yet. It is for an index with so many passes, this stock, and one node record more, kept for removals.
pub record IsNewLoad (passes : ℕ) (stock : Stock) (load : LoadView) : Type 0 where
  pub passes_are : load.layout.passes ≡ passes
  pub stock_is : HasStock load.layout (kept_stock stock)
  pub none : load.items ≡ []

-- A load was opened, which has no pair yet. It is for an index with so many passes, this stock, and one node record more, kept for
-- removals.
abbrev pub HasBegunLoad : (passes : ℕ) (stock : Stock) (new : Option OpenLoad) → Type 0
HasBegunLoad passes stock new = (opened : OpenLoad) × (new ≡ Some opened) × IsNewLoad passes stock opened.load

-- the status is one of those that say why a load refuses a pair: its order, its length, the lack of a leaf record or of node records, or
-- memory
abbrev pub IsOfRefusedPair : (status : ℕ) → Type 0
IsOfRefusedPair status = (status ≡ NOT_RISING) ⊎ (status ≡ KEY_TOO_LONG) ⊎ (status ≡ FULL_LEAVES) ⊎ (status ≡ FULL_NODES) ⊎ (status ≡ NO_MEMORY)

-- An open load was given a pair. It has taken the pair, or is as before, and the status says why. `NOT_RISING` is told exactly if the key
-- isn't above the last one. The other statuses have the reasons that their fields give: no leaf record has room for the key, all that have
-- are taken, or the pairs are no fewer than the node records, and at least 32 if there are two node records.
pub record TellsPush (key : List ℕ) (value : ℕ) (old new : LoadView) (status : ℕ) : Type 0 where
  pub told : ((status ≡ DONE) × HasTakenPair key value old new) ⊎ (IsOfRefusedPair status × (new ≡ old))
  pub rising : (status ≡ NOT_RISING) ↔ ¬ IsAboveLast old.items key
  pub long : status ≡ KEY_TOO_LONG → HasNoLeafFor old.layout key
  pub leaves : status ≡ FULL_LEAVES → HasNoRoomFor old key × ¬ HasNoLeafFor old.layout key
  pub nodes : status ≡ FULL_NODES → old.layout.nodes ≤ length old.items
  pub many : status ≡ FULL_NODES → 2 ≤ old.layout.nodes → 32 ≤ length old.items

-- A pair is given to a load. If the load is closed, or the key longer than any index takes, the status says so, and nothing has changed.
-- Else the load stays open, and has taken the pair or refused it (`TellsPush`).
pub record LoadsPair (key : List ℕ) (value : ℕ) (old new : Option OpenLoad) (status : ℕ) : Type 0 where
  pub closed : old ≡ None → (status ≡ CLOSED) × (new ≡ old)
  pub long : IsSome old → ¬ FitsInKey key → (status ≡ KEY_TOO_LONG) × (new ≡ old)
  pub given : (was : OpenLoad) → old ≡ Some was → FitsInKey key → (now : OpenLoad) × (new ≡ Some now) × TellsPush key value was.load now.load status

-- The open handle is the first of an index that was made of this load, with the load's layout. It has the last pass, and keeps closed
-- handles with all others. Pass 0 has inserted the pairs, and all other passes are new.
abbrev pub KeepsLoadedPasses : (load : LoadView) (opened : Opened) → Type 0
KeepsLoadedPasses load = KeepsPasses (λ index. IsPassOfLoad index (pairs load.items)) load.layout.passes (λ layout. layout ≡ load.layout)

-- A handle was opened, the first of an index that was made of this load.
abbrev pub HasOpenedLoaded : (load : LoadView) (new : Option Opened) → Type 0
HasOpenedLoaded load new = (opened : Opened) × (new ≡ Some opened) × KeepsLoadedPasses load opened
