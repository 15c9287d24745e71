-- The loads of words of records, and of the root.
use Rattle.rowex_replay_state.proofs.Common.{◌≡◌, ◌↔◌, ◌+◌, ◌-◌, ◌<◌, ℕ, suc, get_or, Some, Bool, true, false, refl, sym, ap, ◌∙◌, subst, arith, slice_get-get_or, get_or_from_slice_get, Rec, a_node, a_leaf, HasEntryWord, entry_word, LoadFixed, LoadRef, LoadState, Root, Slot, Value, Layout, Core, IsLawful, HasRecord, HasPlace, word_count_of, record_word, LegalAct, after, IsFixedOffset}
use Rattle.rowex_core.specs.declared.event.Act.{Act}
use Rattle.rowex_replay_state.specs.Records.{HasState, HasWordStored}
use Rattle.rowex_replay_state.specs.States.{StateView, IsStateOf, IsStepped}
use Rattle.rowex_replay_state.proofs.Tables as table
use Rattle.rowex_replay_state.proofs.States.{state_from, state_is, words_from}

-- what a test decides that is true exactly where the act is legal, of an act that changes nothing
pub decided : (b : Bool) (s : StateView) (q : ℕ) (act : Act) → ((c : Core) → IsStateOf s c → IsStateOf s (after c q act)) →
    (b ≡ true → (c : Core) → ∥ IsLawful c ∥₁ → IsStateOf s c → LegalAct c q act) → (b ≡ false → (c : Core) → IsLawful c → IsStateOf s c → ¬ (LegalAct c q act)) →
    IsStepped b s s q act
decided true s q act same holds fails = λ c lawful h. (holds refl c lawful h, same c h)
decided false s q act same holds fails = (refl, fails refl)

pub record_word_at : (c : Core) (r : Rec) (i offset : ℕ) → offset ≡ suc i → record_word c r offset ≡ get_or (c.words r) i 0
record_word_at c r i offset e = rw e refl

-- a word of a record
pub word_is : (s : StateView) (c : Core) → IsStateOf s c → (r : Rec) (i offset w : ℕ) → offset ≡ suc i → HasWordStored s.records r i w → HasRecord c.layout r × (w ≡ record_word c r offset)
word_is s c h r i offset w e (words, there, at) = (
  table.has_words s.records c.layout c.words c.fate c.lock h.records r words there,
  sym (record_word_at c r i offset e ∙ ap (λ z. get_or z i 0) (h.records.words_are r words there) ∙ get_or_from_slice_get words i w 0 at),
)

pub word_from : (s : StateView) (c : Core) → IsLawful c → IsStateOf s c → (r : Rec) (i offset w : ℕ) → offset ≡ suc i → i < word_count_of r → HasRecord c.layout r → w ≡ record_word c r offset → HasWordStored s.records r i w
word_from s c lawful h r i offset w e short there is = (
  c.words r,
  words_from s c h r there,
  slice_get-get_or (c.words r) i 0 (let l = (lawful.records.sized r).0 in omega (arith, l)) ∙ ap Some (sym (is ∙ record_word_at c r i offset e)),
)

-- ---- the loads

pub root_loaded : (b : Bool) (s : StateView) (q w : ℕ) → ((b ≡ true) ↔ (HasEntryWord s.root × (w ≡ entry_word s.root))) → IsStepped b s s q (LoadRef Root w)
root_loaded b s q w test = decided b s q (LoadRef Root w) (λ c h. h)
    (λ t c lawful h. (test.0 t).1 ∙ ap entry_word (sym h.root))
    (λ f c lawful h is. let x = test.1 (subst HasEntryWord h.root lawful.root, is ∙ ap entry_word h.root) in cc)

pub slot_loaded : (b : Bool) (s : StateView) (q n j w : ℕ) → ((b ≡ true) ↔ ((j < 32) × HasWordStored s.records (a_node n) (25 + j) w)) → IsStepped b s s q (LoadRef (Slot n j) w)
slot_loaded b s q n j w test = decided b s q (LoadRef (Slot n j) w) (λ c h. h)
    (λ t c lawful h. let y = test.0 t in let x = word_is s c h (a_node n) (25 + j) (26 + j) w (omega arith) y.1 in (x.0, y.0, x.1))
    (λ f c lawful h (there, few, is). let x = test.1 (few, word_from s c lawful h (a_node n) (25 + j) (26 + j) w (omega arith) (omega (arith, few)) there is) in cc)

pub value_loaded : (b : Bool) (s : StateView) (q l w : ℕ) → ((b ≡ true) ↔ HasWordStored s.records (a_leaf l) 0 w) → IsStepped b s s q (LoadRef (Value l) w)
value_loaded b s q l w test = decided b s q (LoadRef (Value l) w) (λ c h. h)
    (λ t c lawful h. word_is s c h (a_leaf l) 0 1 w refl (test.0 t))
    (λ f c lawful h (there, is). let x = test.1 (word_from s c lawful h (a_leaf l) 0 1 w refl (omega arith) there is) in cc)

fixed_suc : (r : Rec) (offset : ℕ) → IsFixedOffset r offset → (offset ≡ suc (offset - 1)) × (offset - 1 < word_count_of r)
fixed_suc (a_node n) offset h = (omega (arith, h), omega (arith, h))
fixed_suc (a_leaf n) offset h = (omega (arith, h), omega (arith, h))

pub fixed_loaded : (b : Bool) (s : StateView) (q : ℕ) (r : Rec) (offset w : ℕ) → ((b ≡ true) ↔ (IsFixedOffset r offset × HasPlace s.records.layout r offset × HasWordStored s.records r (offset - 1) w)) → IsStepped b s s q (LoadFixed r offset w)
fixed_loaded b s q r offset w test = decided b s q (LoadFixed r offset w) (λ c h. h)
    (λ t c lawful h. let y = test.0 t in let x = word_is s c h r (offset - 1) offset w (fixed_suc r offset y.0).0 y.2 in (x.0, y.0, x.1, subst (λ (z : Layout). HasPlace z r offset) h.records.layout_is y.1))
    (λ f c lawful h (there, at, is, place). let z = fixed_suc r offset at in let x = test.1 (at, subst (λ (z : Layout). HasPlace z r offset) (sym h.records.layout_is) place, word_from s c lawful h r (offset - 1) offset w z.0 z.1 there is) in cc)

pub state_loaded : (b : Bool) (s : StateView) (q : ℕ) (r : Rec) (w : ℕ) → ((b ≡ true) ↔ HasState s.records r w) → IsStepped b s s q (LoadState r w)
state_loaded b s q r w test = decided b s q (LoadState r w) (λ c h. h)
    (λ t c lawful h. state_from s c h r w (test.0 t))
    (λ f c lawful h (there, is). let x = test.1 (state_is s c lawful h r w there is) in cc)
