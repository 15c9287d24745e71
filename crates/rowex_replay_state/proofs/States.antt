-- What a replay stores, and what the core says that it is at.
pub mod Valued
use Rattle.rowex_replay_state.proofs.Common.{◌≡◌, ◌<◌, ℕ, Option, Some, None, option_map, option_and_then, refl, sym, ap, ◌∙◌, List, same_Some, none-some, Rec, a_node, a_leaf, Fate, Free, Held, InTree, Unlinked, Marked, Core, IsLawful, HasRecord, tag_of, lock_of, state_at, has_state_word}
use Rattle.record_words.specs.declared.state.Tag.{Tag}
use Rattle.record_words.specs.State.{state_word}
use Rattle.versions.specs.Core.{Ready}
use Rattle.rowex_replay_state.specs.declared.fate.Fate.{Fate as Stored}
use Rattle.rowex_replay_state.specs.declared.fate.Fate.TheVariants.{Free as IsFree, Held as IsHeld, Ready as IsReady, InTree as IsInTree, Unlinked as IsUnlinked, Marked as IsMarked}
use Rattle.rowex_replay_state.specs.Fates.{stored_fate}
use Rattle.rowex_replay_state.specs.Records.{HasState, words_in, fate_in, lock_in, AreRecordsOf, RecordsView}
use Rattle.rowex_replay_state.specs.States.{StateView, IsStateOf}
use Rattle.rowex_replay_state.proofs.Tables as table

-- ---- a stored fate is that of one fate

pub tree_stored : (f : Stored) (since : ℕ) → stored_fate f ≡ InTree since → f ≡ IsInTree since
tree_stored IsFree since e = absurd (let x : Free ≡ InTree since = e in cc)
tree_stored (IsHeld q) since e = absurd (let x : Held q ≡ InTree since = e in cc)
tree_stored (IsReady q) since e = absurd (let x : Ready q ≡ InTree since = e in cc)
tree_stored (IsInTree i) since e = let x : InTree i ≡ InTree since = e in cc
tree_stored (IsUnlinked i l q) since e = absurd (let x : Unlinked i l q ≡ InTree since = e in cc)
tree_stored (IsMarked i l s) since e = absurd (let x : Marked i l s ≡ InTree since = e in cc)

pub marked_stored : (f : Stored) (since last epoch : ℕ) → stored_fate f ≡ Marked since last epoch → f ≡ IsMarked since last epoch
marked_stored IsFree since last p e = absurd (let x : Free ≡ Marked since last p = e in cc)
marked_stored (IsHeld q) since last p e = absurd (let x : Held q ≡ Marked since last p = e in cc)
marked_stored (IsReady q) since last p e = absurd (let x : Ready q ≡ Marked since last p = e in cc)
marked_stored (IsInTree i) since last p e = absurd (let x : InTree i ≡ Marked since last p = e in cc)
marked_stored (IsUnlinked i l q) since last p e = absurd (let x : Unlinked i l q ≡ Marked since last p = e in cc)
marked_stored (IsMarked i l s) since last p e = let x : Marked i l s ≡ Marked since last p = e in cc

-- ---- fates, locks and words at a core

pub fate_at : (s : StateView) (c : Core) → IsStateOf s c → (r : Rec) (f : Stored) → fate_in s.records r ≡ Some f → HasRecord c.layout r × (c.fate r ≡ stored_fate f)
fate_at s c h r f e = (table.has_fate s.records c.layout c.words c.fate c.lock h.records r f e, h.records.fates_are r f e)

pub fate_from : (s : StateView) (c : Core) → IsStateOf s c → (r : Rec) → HasRecord c.layout r → (f : Stored) × (fate_in s.records r ≡ Some f) × (c.fate r ≡ stored_fate f)
fate_from s c h r there = let x = table.fate_there s.records c.layout c.words c.fate c.lock h.records r there in (x.0, x.1, h.records.fates_are r x.0 x.1)

pub lock_at : (s : StateView) (c : Core) → IsStateOf s c → (r : Rec) (o : Option ℕ) → lock_in s.records r ≡ Some o → lock_of c r ≡ o
lock_at s c h (a_node n) o e = h.records.locks_are n o e
lock_at s c h (a_leaf n) o e = same_Some {A = Option ℕ} None o e

pub lock_from : (s : StateView) (c : Core) → IsStateOf s c → (r : Rec) → HasRecord c.layout r → lock_in s.records r ≡ Some (lock_of c r)
lock_from s c h r there = let x = table.lock_there s.records c.layout c.words c.fate c.lock h.records r there in x.1 ∙ ap Some (sym (lock_at s c h r x.0 x.1))

pub words_from : (s : StateView) (c : Core) → IsStateOf s c → (r : Rec) → HasRecord c.layout r → words_in s.records r ≡ Some (c.words r)
words_from s c h r there = let x = table.words_there s.records c.layout c.words c.fate c.lock h.records r there in x.1 ∙ ap Some (sym (h.records.words_are r x.0 x.1))

-- the pass holds the record
pub held_at : (s : StateView) (c : Core) → IsStateOf s c → (r : Rec) (q : ℕ) → fate_in s.records r ≡ Some (IsHeld q) → HasRecord c.layout r × (c.fate r ≡ Held q)
held_at s c h r q e = fate_at s c h r (IsHeld q) e

-- the node is in the tree
pub tree_from : (s : StateView) (c : Core) → IsStateOf s c → (n since : ℕ) → n < c.layout.nodes → c.fate (a_node n) ≡ InTree since → fate_in s.records (a_node n) ≡ Some (IsInTree since)
tree_from s c h n since there e = let x = fate_from s c h (a_node n) there in x.1 ∙ ap Some (tree_stored x.0 since (sym x.2 ∙ e))

-- ---- states

tag_parts : (fo : Option Stored) (lo : Option (Option ℕ)) (t : Tag) → option_and_then (λ f. option_map (λ o. tag_of o (stored_fate f)) lo) fo ≡ Some t →
    (f : Stored) × (o : Option ℕ) × (fo ≡ Some f) × (lo ≡ Some o) × (tag_of o (stored_fate f) ≡ t)
tag_parts (Some f) (Some o) t e = (f, o, refl, refl, same_Some (tag_of o (stored_fate f)) t e)
tag_parts (Some f) None t e = absurd (none-some t e)
tag_parts None lo t e = absurd (none-some t e)

pub state_from : (s : StateView) (c : Core) → IsStateOf s c → (r : Rec) (w : ℕ) → HasState s.records r w → HasRecord c.layout r × (w ≡ state_at c r)
state_from s c h r w (t, e, fits, is) =
    let (f, o, a, b, x) = tag_parts (fate_in s.records r) (lock_in s.records r) t e in
    let y = fate_at s c h r f a in
    (y.0, sym is ∙ ap state_word (sym x) ∙ ap (λ z. state_word (tag_of z (stored_fate f))) (sym (lock_at s c h r o b)) ∙ ap (λ z. state_word (tag_of (lock_of c r) z)) (sym y.1))

pub state_is : (s : StateView) (c : Core) → IsLawful c → IsStateOf s c → (r : Rec) (w : ℕ) → HasRecord c.layout r → w ≡ state_at c r → HasState s.records r w
state_is s c lawful h r w there is =
    let x = fate_from s c h r there in (
      tag_of (lock_of c r) (c.fate r),
      rw (x.1, lock_from s c h r there) (ap (λ z. Some (tag_of (lock_of c r) z)) (sym x.2)),
      has_state_word (lock_of c r) (c.fate r) (lawful.epochs.marked r),
      sym is,
    )

-- the replay with other records is at the core with what these stand for
pub with_records_is : (s : StateView) (c : Core) → IsStateOf s c → (t : RecordsView) (words : Rec → List ℕ) (fate : Rec → Fate) (lock : ℕ → Option ℕ) →
    AreRecordsOf t c.layout words fate lock → IsStateOf (record s { records = t }) (record c { words = words; shared = record c.shared { fate = fate; lock = lock } })
with_records_is s c h t words fate lock are = record { records = are; passes = h.passes; anchor = h.anchor; root = h.root; epoch = h.epoch; changes = h.changes; items = h.items }
