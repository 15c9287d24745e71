-- The run of a replay, and its state after one event more.
use Rattle.std.proofs.Common.{◌≡◌, ℕ, Some, List, [], ◌∷◌, ◌++◌, refl, sym, ap, ◌∙◌, subst, arith}
use Rattle.std.proofs.Props.{props}
use Rattle.std.proofs.lemmas.List.{take_all}
use Rattle.std.proofs.Math.Logic.{∥∥₁_elim, ∥∥₁_map}
use Rattle.finite_map.specs.Fronts.{map_of}
use Rattle.versions.specs.Told.{content}
use Rattle.rowex_core.specs.declared.event.Act.{Act}
use Rattle.rowex_core.specs.declared.event.Event.{Event}
use Rattle.rowex_core.specs.declared.event.Spot.{Spot}
use Rattle.rowex_core.specs.declared.event.Spot.TheVariants.{Root, Slot, Value}
use Rattle.rowex_core.specs.Cores.{Core, IsLawful}
use Rattle.rowex_core.specs.Events.{IsLockedAt, Legal, after}
use Rattle.rowex_core.specs.Opening.{opening}
use Rattle.rowex_core.specs.Runs.{EventsLead}
use Rattle.rowex_core.proofs.Runs.{runs_stay_lawful}
use Rattle.rowex_replay.specs.Runs.{Run, HasLegalEvents, core_after, core_of, with_event}
use Rattle.rowex_replay_state.specs.States.{StateView, IsStateOf, HasLock, IsLockedPublish}
use Rattle.rowex_replay.specs.Replays.{IsAfter, MayWantMemory}
use Rattle.record_words.specs.declared.records.Rec.TheVariants.{Leaf as a_leaf}
use Rattle.rowex_replay_state.proofs.Tables.{within, has_words}
use Rattle.rowex_replay_state.proofs.States.Valued.{namer_at}

-- ---- runs

-- the core after one event more, and that the events are legal then too

core_more : (c : Core) (xs : List Event) (x : Event) → core_after c (xs ++ x ∷ []) ≡ after (core_after c xs) x.pass x.act
core_more c [] x = refl
core_more c (y ∷ ys) x = core_more (after c y.pass y.act) ys x

leads_more : (c : Core) (xs : List Event) (x : Event) → EventsLead c xs (core_after c xs) → Legal (core_after c xs) x.pass x.act → EventsLead c (xs ++ x ∷ []) (core_after c (xs ++ x ∷ []))
leads_more c [] x l legal = (legal, refl)
leads_more c (y ∷ ys) x l legal = (l.0, leads_more (after c y.pass y.act) ys x l.1 legal)

-- a legal run leads to a lawful core
pub lawful : (run : Run) → ∥ HasLegalEvents run ∥₁ → ∥ IsLawful (core_of run) ∥₁
lawful run h = ∥∥₁_map h (λ l. runs_stay_lawful run.layout run.events (core_of run) l)

-- there the content of the newest version is the map of the changes
pub told : (run : Run) → ∥ HasLegalEvents run ∥₁ → content ((core_of run).past.version (core_of run).past.now) ≡ map_of (core_of run).changes
told run h = ∥∥₁_elim (lawful run h) (Prim.hlevel props) (λ l.
    let c = core_of run in
    l.core.told.content_is c.past.now (omega arith) ∙ ap map_of (take_all c.past.now c.changes (let count = l.core.told.count in omega (arith, count))))

-- ---- states

-- a lock of the state is one of its core
locked_at : (s : StateView) (c : Core) (q : ℕ) (spot : Spot) → ∥ IsLawful c ∥₁ → IsStateOf s c → HasLock s q spot → IsLockedAt c q spot
locked_at s c q Root lawful at own = at.anchor ∙ own
locked_at s c q (Value l) lawful at ((words, there), own) =
    let low = has_words s.records c.layout c.words c.fate c.lock at.records (a_leaf l) words there in
    (low, namer_at s c q l lawful at (omega (arith, low, c.layout.leaves_in_range)) own)
locked_at s c q (Slot n j) lawful at (few, own) = (within s.records.locks c.layout.nodes n (Some q) at.records.node_count.2 own, few, at.records.locks_are n (Some q) own)

pub wants_memory : (s : StateView) (run : Run) (q : ℕ) (act : Act) → IsAfter s run → IsLockedPublish s q act → MayWantMemory (core_of run) q act
wants_memory s run q act h (spot, w, is, own) = (spot, w, is, locked_at s (core_of run) q spot (lawful run h.legal) h.at own)

-- An event that the state takes is legal in the run's core, and the run goes on with it.

pub legal_next : (s t : StateView) (run : Run) (x : Event) → IsAfter s run → ((c : Core) → ∥ IsLawful c ∥₁ → IsStateOf s c → Legal c x.pass x.act × IsStateOf t (after c x.pass x.act)) →
    Legal (core_of run) x.pass x.act × IsStateOf t (after (core_of run) x.pass x.act)
legal_next s t run x h made = made (core_of run) (lawful run h.legal) h.at

pub goes_on : (s t : StateView) (run : Run) (x : Event) → IsAfter s run → ((c : Core) → ∥ IsLawful c ∥₁ → IsStateOf s c → Legal c x.pass x.act × IsStateOf t (after c x.pass x.act)) →
    IsAfter t (with_event run x)
goes_on s t run x h made =
    let next = legal_next s t run x h made in
    record {
      legal = ∥∥₁_map h.legal (λ l. leads_more (opening run.layout) run.events x l next.0);
      at = subst (IsStateOf t) (sym (core_more (opening run.layout) run.events x)) next.1;
    }

-- one that it refuses is not legal there
pub refuses : (s : StateView) (run : Run) (x : Event) → IsAfter s run → ((c : Core) → IsLawful c → IsStateOf s c → ¬ Legal c x.pass x.act) → ¬ Legal (core_of run) x.pass x.act
refuses s run x h fails legal = ∥∥₁_elim (lawful run h.legal) (Prim.hlevel props) (λ l. fails (core_of run) l h.at legal)
