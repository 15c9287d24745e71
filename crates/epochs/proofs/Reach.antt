-- What pinned passes can reach is neither free nor held.
use Rattle.epochs.proofs.Common.{◌≡◌, ℕ, [], ◌∷◌, ◌<◌, ◌≤◌, true, nat_eq, if◌then◌else◌, Option, Some, None, refl, sym, ap, subst, ◌∙◌, arith, eq-eqb, Obsolete, state_word, Rec, Pin, Fate, Free, Held, ReadyBy, InTree, Unlinked, Marked, GiveBack, Core, IsLawful, tag_of, lock_tag, lock_of, after, given_back, Event, silent}
use Rattle.versions.specs.State.{Past, Stands}
use Rattle.versions.proofs.Core.{same_rec_refl}
use Rattle.rowex_core.proofs.Statements.Promises.{in_reach}
use Rattle.rowex_core.proofs.Cores.{stays_lawful}
use Rattle.epochs.specs.Reach.{IsReachKept}
use Rattle.epochs.specs.Statements.{ReachIsKept, RunsKeepReach, GivenIsOutOfReach}

kept_in : (c : Core) → IsLawful c → IsReachKept c
kept_in c lawful r h = let kept = in_reach c lawful h.0 h.1 h.4 h.2 r h.3 h.5 h.6 h.7 in (kept.0, kept.1)

pub reach_is_kept : ReachIsKept
reach_is_kept layout act said k j event = (kept_in event.core event.lawful, kept_in (after event.core k.pass act) (stays_lawful event.core k.pass act event.lawful event.legal))

pub runs_keep_reach : {G : Type 0} (becomes : G → Event → G → Type 0) → RunsKeepReach becomes
runs_keep_reach becomes table [] a b run = tt
runs_keep_reach becomes table (act ∷ acts) a b run =
    let kept = reach_is_kept table.layout act silent a.0.known run.0.0.known run.1.event in
    (kept.0, kept.1, runs_keep_reach becomes table acts run.0 b run.2)

-- an exchange that found the state that it expected makes the record free, and changes no pin and no version

unlocked_below : (o : Option ℕ) → state_word (lock_tag o) < 4
unlocked_below None = omega arith
unlocked_below (Some q) = omega arith

freed : (c : Core) (r : Rec) (epoch : ℕ) (o : Option ℕ) (f : Fate) → state_word (Obsolete epoch) ≡ state_word (tag_of o f)
    → ((given_back c.shared r epoch f).fate r ≡ Free) × ((given_back c.shared r epoch f).pins ≡ c.pins) × ((given_back c.shared r epoch f).past ≡ c.past)
freed c r epoch o Free is = absurd (omega arith)
freed c r epoch o (Held q) is = absurd (omega arith)
freed c r epoch o (ReadyBy q) is = absurd (let low = unlocked_below o in omega arith)
freed c r epoch o (InTree since) is = absurd (let low = unlocked_below o in omega arith)
freed c r epoch o (Unlinked since last q) is = absurd (let low = unlocked_below o in omega arith)
freed c r epoch o (Marked since last s) is =
    let same : s ≡ epoch = omega arith in
    let yes : nat_eq s epoch ≡ true = eq-eqb s epoch same in
    rw yes (ap (λ b. if b then Free else c.fate r) (same_rec_refl r), refl, refl)

pub given_is_out_of_reach : GivenIsOutOfReach
given_is_out_of_reach layout r epoch said k j event h =
    let c : Core = event.core in
    let free = freed c r epoch (lock_of c r) (c.fate r) event.legal.1.1 in
    ((reach_is_kept layout (GiveBack r epoch (state_word (Obsolete epoch))) said k j event).1 r (
      h.0,
      h.1,
      h.2,
      h.3,
      ap (λ (pins : ℕ → Option Pin). pins h.0) free.1 ∙ h.4,
      h.5,
      subst (λ (past : Past). h.2 ≤ past.now) (sym free.2) h.6,
      subst (λ (past : Past). Stands past h.2 r h.3) (sym free.2) h.7,
    )).0 free.0
