-- Steps on records of the pass's own: what they leave of what it knows, and how they follow one another.
use Rattle.rowex_records.proofs.Common.{◌≡◌, ℕ, ◌+◌, List, [], ◌∷◌, ◌++◌, Bool, true, false, nat_eq, refl, Layout, Rec, Fate, Free, ReadyBy, InTree, Unlinked, Marked, Act, Claim, LoadState, Fill, Ready, Release, Event, a_load, Known, Core, holder_of, word_of, IsEvent, claim_learned, failed_with, learned_by, silent, Steps, Does, TableView, SeatView}
use Rattle.std.specs.Prelude.{if◌then◌else◌, Option}
use Rattle.versions.specs.Core.{Held}
use Rattle.rowex_table.proofs.Runs as running
use Rattle.rowex_records.specs.Claims.{claiming}
use Rattle.rowex_records.specs.Records.{owning}

-- One step

-- a step on a record that the pass holds
abbrev pub IsOnHeld : Act → Type 0
IsOnHeld (Fill r offset w) = Unit {0}
IsOnHeld (Ready r) = Unit {0}
IsOnHeld (Release r) = Unit {0}
IsOnHeld act = ⊥

own_rest : (layout : Layout) (act : Act) (k j : Known) → IsOnHeld act → IsEvent layout act silent k j → j ≡ record (owning k j) { steps = k.steps + 1 }
own_rest layout (Fill r offset w) k j on e = running.settled owning k (learned_by e.core (Fill r offset w) k) j e.learned_is refl
own_rest layout (Ready r) k j on e = running.settled owning k (learned_by e.core (Ready r) k) j e.learned_is refl
own_rest layout (Release r) k j on e = running.settled owning k (learned_by e.core (Release r) k) j e.learned_is refl
own_rest layout _ k j on e = absurd on

-- what the pass knows after a step that taught it l
abbrev pub counted : Known → Known → Known
counted k l = record l { steps = k.steps + 1; notes = k.notes ++ [] }

claim_rest : (c : Core) (r : Rec) (found : ℕ) (f : Fate) (k j : Known) → j ≡ counted k (claim_learned c r found f k) → j ≡ record (claiming k j) { steps = k.steps + 1 }
claim_rest c r found Free k j e = running.settled claiming k (claim_learned c r found Free k) j e refl
claim_rest c r found (Held q) k j e = running.settled claiming k (claim_learned c r found (Held q) k) j e refl
claim_rest c r found (ReadyBy q) k j e = running.settled claiming k (claim_learned c r found (ReadyBy q) k) j e refl
claim_rest c r found (InTree s) k j e = running.settled claiming k (claim_learned c r found (InTree s) k) j e refl
claim_rest c r found (Unlinked s l q) k j e = running.settled claiming k (claim_learned c r found (Unlinked s l q) k) j e refl
claim_rest c r found (Marked s l epoch) k j e = running.settled claiming k (claim_learned c r found (Marked s l epoch) k) j e refl

look_rest : (r : Rec) (word : ℕ) (free : Bool) (by : Option ℕ) (k j : Known) → j ≡ counted k (if free then k else failed_with k (a_load by) (word_of r 0) word) → j ≡ record (claiming k j) { steps = k.steps + 1 }
look_rest r word true by k j e = running.settled claiming k k j e refl
look_rest r word false by k j e = running.settled claiming k (failed_with k (a_load by) (word_of r 0) word) j e refl

module _ {G : Type 0} (table : TableView) (becomes : G → Event → G → Type 0) where
  -- Steps on held records, one after the other

  pub owns_none : (a : SeatView × G) → Does table becomes owning [] a a
  owns_none a = running.does_none table becomes owning a (λ k. refl)

  pub owns_one : (act : Act) (a b : SeatView × G) → IsOnHeld act → Steps table becomes act a b → Does table becomes owning (act ∷ []) a b
  owns_one act a b on step = running.does_one table becomes owning act a b step (own_rest table.layout act a.0.known b.0.known on step.event)

  pub owns_append : (acts more : List Act) (a m b : SeatView × G) → Does table becomes owning acts a m → Does table becomes owning more m b → Does table becomes owning (acts ++ more) a b
  owns_append acts more a m b first second = running.does_append table becomes owning (λ k i j n o. refl) acts more a m b first second

  -- Claims and loads of states, one after the other

  pub claims_nothing : (a : SeatView × G) → Does table becomes claiming [] a a
  claims_nothing a = running.does_none table becomes claiming a (λ k. refl)

  pub claims_one : (r : Rec) (found : ℕ) (a b : SeatView × G) → Steps table becomes (Claim r found) a b → Does table becomes claiming (Claim r found ∷ []) a b
  claims_one r found a b step = running.does_one table becomes claiming (Claim r found) a b step (claim_rest step.event.core r found (step.event.core.fate r) a.0.known b.0.known step.event.learned_is)

  -- a load of a state teaches nothing else than a claim may
  pub looks_one : (r : Rec) (word : ℕ) (a b : SeatView × G) → Steps table becomes (LoadState r word) a b → Does table becomes claiming (LoadState r word ∷ []) a b
  looks_one r word a b step = running.does_one table becomes claiming (LoadState r word) a b step (look_rest r word (nat_eq word 0) (holder_of (step.event.core.fate r)) a.0.known b.0.known step.event.learned_is)

  pub claims_append : (acts more : List Act) (a m b : SeatView × G) → Does table becomes claiming acts a m → Does table becomes claiming more m b → Does table becomes claiming (acts ++ more) a b
  claims_append acts more a m b first second = running.does_append table becomes claiming (λ k i j n o. refl) acts more a m b first second
