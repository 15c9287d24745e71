-- Reserved and committed records: the words that say how many are uncommitted, and the records that a run takes.
pub mod Steps
pub mod Chains
use Rattle.rowex_table.proofs.Common.{◌≡◌, ◌≢◌, ◌⊎◌, inl, inr, ⊎_elim, ℕ, ◌+◌, ◌<◌, ◌≤◌, Bool, true, false, Option, None, List, [], ◌∷◌, ◌++◌, set, get_or, refl, sym, ap, subst, ◌∙◌, arith, le_trans, address, Layout, Location, Rec, Act, Claim, Fill, Ready, Release, LoadRef, LoadFixed, Lock, Unlock, Publish, Mark, LoadEpoch, Advance, SetPin, ClearPin, LoadPin, LoadState, GiveBack, Load, Anchor, NodeTarget, Event, Core, IsAtomic, Legal, after, next_tree, opening, EventsLead, state_word}
use Rattle.std.proofs.Common.{Some, length}
use Rattle.std.proofs.lemmas.Bool.{cases_Bool, cases_lt, eqb-false, eqb-true, ltb-true}
use Rattle.std.proofs.Math.Nat.{min-eq_left, min-le_right}
use Rattle.std.specs.Prelude.{nat_eq, nat_lt, min}
use Rattle.std.proofs.lemmas.List.{get_or-set_other, get_or-set_same, set_past}
use Rattle.record_words.specs.declared.TheConstants.{FIRST_UNCOMMITTED, LEAF_CLASSES, RECORD_KINDS}
use Rattle.rowex_core.specs.Opening.{opening_words}
use Rattle.record_words.specs.declared.layout.Location.TheVariants.{Epoch, Root, Anchor as AnchorWord, Pin, NodeWord, LeafWord}
use Rattle.record_words.specs.declared.records.Rec.TheVariants.{Node as a_node, Leaf as a_leaf}
use Rattle.record_words.specs.declared.state.Tag.TheVariants.{Live}
use Rattle.tries.specs.Tree.{Tree}
use Rattle.versions.specs.Core.{Fate, Free, Held, Ready as ReadyBy, InTree, Unlinked, Marked}
use Rattle.versions.specs.State.{IsLinked}
use Rattle.versions.specs.Steps.{is_linked, same_rec, with_fate}
use Rattle.versions.proofs.Core.{links_true, same_rec_true}
use Rattle.rowex_core.specs.Cores.{HasRecord}
use Rattle.rowex_core.proofs.Statements.Promises.{other_zero}
use Rattle.rowex_core.specs.Events.{anchored, claimed, given_back, loaded_tree, locked_where, marked, advanced}
use Rattle.rowex_table.specs.declared.traces.TracedView.{TracedView}
use Rattle.rowex_table.specs.declared.traces.TracedView.TheVariants.{Spent, Dealer, Founder, Pass, Pair, Witness, Follower}
use Rattle.record_words.specs.Layout.{uncommitted_in, uncommitted_word}
use Rattle.rowex_table.specs.Committed.{AtMost, ClaimsCommitted, IsCommitted, IsTaken, TakesRecord, count_from, record_kind}
use Rattle.rowex_table.specs.Rule.{found_by}
use Rattle.rowex_table.specs.Statements.{UncommittedAreFree}
use Rattle.rowex_table.specs.Traces.{HasBounds, RunBeginsWith}

-- The words stand apart from all that have a location

pub uncommitted_apart : (layout : Layout) (location : Location) (kind : ℕ) → uncommitted_word kind ≢ address layout location
uncommitted_apart layout Epoch kind e = let low = min-le_right kind LEAF_CLASSES in omega arith
uncommitted_apart layout Root kind e = let low = min-le_right kind LEAF_CLASSES in omega arith
uncommitted_apart layout AnchorWord kind e = let low = min-le_right kind LEAF_CLASSES in omega arith
uncommitted_apart layout (Pin pass) kind e = let low = min-le_right kind LEAF_CLASSES in omega arith
uncommitted_apart layout (NodeWord n offset) kind e = let low = min-le_right kind LEAF_CLASSES in omega arith
uncommitted_apart layout (LeafWord n offset) kind e = let low = min-le_right kind LEAF_CLASSES in omega arith

-- the word of a kind, as it is reckoned
pub word_of_kind : (kind : ℕ) → kind < RECORD_KINDS → FIRST_UNCOMMITTED + kind ≡ uncommitted_word kind
word_of_kind kind low = let same = min-eq_left {n = kind} {m = LEAF_CLASSES} (omega arith) in omega arith

-- so a store elsewhere leaves them
pub uncommitted_stays : (words : List ℕ) (i w kind : ℕ) → uncommitted_word kind ≢ i → uncommitted_in (set words i w) kind ≡ uncommitted_in words kind
uncommitted_stays words i w kind ne = get_or-set_other words i (uncommitted_word kind) w 0 ne

-- and in a new table nothing is uncommitted
pub opening_committed : (layout : Layout) (kind : ℕ) → uncommitted_in (opening_words layout) kind ≡ 0
opening_committed layout kind = other_zero layout (uncommitted_word kind) (λ e. omega arith) (λ e. let low = min-le_right kind LEAF_CLASSES in omega arith)

-- a word that takes the place of one of them changes it alone; a list that has no such word stays
pub set_uncommitted : (words : List ℕ) (kind other w : ℕ) → (uncommitted_in (set words (uncommitted_word kind) w) other ≡ uncommitted_in words other) ⊎
    ((uncommitted_word other ≡ uncommitted_word kind) × (uncommitted_in (set words (uncommitted_word kind) w) other ≡ w))
set_uncommitted words kind other w = elim (cases_Bool (nat_eq (uncommitted_word other) (uncommitted_word kind))) [
  | inl e ↦ (let place = eqb-true (uncommitted_word other) (uncommitted_word kind) e in ⊎_elim
      (λ (low : uncommitted_word kind < length words). inr (place, ap (λ i. get_or (set words (uncommitted_word kind) w) i 0) place ∙ get_or-set_same words (uncommitted_word kind) w 0 low))
      (λ (past : length words ≤ uncommitted_word kind). inl (ap (λ (ws : List ℕ). uncommitted_in ws other) (set_past words (uncommitted_word kind) w past)))
      (cases_lt (uncommitted_word kind) (length words)))
  | inr e ↦ inl (get_or-set_other words (uncommitted_word kind) (uncommitted_word other) w 0 (eqb-false (uncommitted_word other) (uncommitted_word kind) e))
]

-- where nothing is uncommitted, each record of the table is committed
pub all_committed : (layout : Layout) (uncommitted : ℕ → ℕ) (r : Rec) → ((kind : ℕ) → uncommitted kind ≡ 0) → HasRecord layout r → IsCommitted layout uncommitted r
all_committed layout uncommitted (a_node n) none has = let z = none 0 in omega arith
all_committed layout uncommitted (a_leaf n) none has =
    let z = none (record_kind layout (a_leaf n)) in
    let order = layout.classes_in_order in
    elim (cases_Bool (nat_lt n layout.medium_from)) [
      | inl e ↦ rw e (let low = ltb-true n layout.medium_from e in let y = none 1 in omega arith)
      | inr e ↦ rw e (elim (cases_Bool (nat_lt n layout.large_from)) [
        | inl f ↦ rw f (let low = ltb-true n layout.large_from f in let y = none 2 in omega arith)
        | inr f ↦ rw f (elim (cases_Bool (nat_lt n layout.wide_from)) [
          | inl g ↦ rw g (let low = ltb-true n layout.wide_from g in let y = none 3 in omega arith)
          | inr g ↦ rw g (elim (cases_Bool (nat_lt n layout.long_from)) [
            | inl h ↦ rw h (let low = ltb-true n layout.long_from h in let y = none 4 in omega arith)
            | inr h ↦ rw h (let y = none 5 in omega arith)
          ])
        ])
      ])
    ]

-- What is known of them stays true where they fall

pub at_most_trans : (f g h : ℕ → ℕ) → AtMost f g → AtMost g h → AtMost f h
at_most_trans f g h a b kind = le_trans (a kind) (b kind)

pub bounds_fall : (new old : ℕ → ℕ) (v : TracedView) → AtMost new old → HasBounds old v → HasBounds new v
bounds_fall new old Spent less h = tt
bounds_fall new old (Dealer m b) less h = λ kind. le_trans (less kind) (h kind)
bounds_fall new old (Founder k t m) less h = λ kind. le_trans (less kind) (h kind)
bounds_fall new old (Pass k t) less h = λ kind. le_trans (less kind) (h kind)
bounds_fall new old (Pair j t k u) less h = ((λ kind. le_trans (less kind) (h.0 kind)), (λ kind. le_trans (less kind) (h.1 kind)))
bounds_fall new old (Witness front events) less h = tt
bounds_fall new old (Follower k t front events) less h = λ kind. le_trans (less kind) (h kind)

pub committed_falls : (layout : Layout) (new old : ℕ → ℕ) (r : Rec) → AtMost new old → IsCommitted layout old r → IsCommitted layout new r
committed_falls layout new old r less h = let l = less (record_kind layout r) in omega arith

-- Records that are taken

pub taken_more : (layout : Layout) (run : List Event) (x : Event) (r : Rec) → IsTaken layout (run ++ x ∷ []) r → IsTaken layout run r ⊎ TakesRecord layout x.act r
taken_more layout [] x r (inl h) = inr h
taken_more layout [] x r (inr h) = absurd h
taken_more layout (y ∷ run) x r (inl h) = inl (inl h)
taken_more layout (y ∷ run) x r (inr h) = ⊎_elim (λ t. inl (inr t)) inr (taken_more layout run x r h)

taken_on : (layout : Layout) (run more : List Event) (r : Rec) → IsTaken layout run r → IsTaken layout (run ++ more) r
taken_on layout [] more r h = absurd h
taken_on layout (y ∷ run) more r (inl h) = inl h
taken_on layout (y ∷ run) more r (inr h) = inr (taken_on layout run more r h)

pub taken_begin : (layout : Layout) (run trace : List Event) (r : Rec) → RunBeginsWith run trace → IsTaken layout trace r → IsTaken layout run r
taken_begin layout run trace r begins h = subst (λ z. IsTaken layout z r) (sym begins.1) (taken_on layout trace begins.0 r h)

-- a claim of a committed record takes a committed one
pub takes_committed : (layout : Layout) (uncommitted bounds : ℕ → ℕ) (act : Act) (r : Rec) → IsAtomic act → AtMost uncommitted bounds → ClaimsCommitted layout bounds act → TakesRecord layout act r → IsCommitted layout uncommitted r
takes_committed layout uncommitted bounds (Claim rec found) r atomic less committed e = committed_falls layout uncommitted bounds r less (subst (λ z. IsCommitted layout bounds z) (sym e) committed)
takes_committed layout uncommitted bounds (Load words) r atomic less committed h = absurd atomic
takes_committed layout uncommitted bounds _ r atomic less committed h = absurd h

pub found_committed : (layout : Layout) (bounds : ℕ → ℕ) (act : Act) (w : ℕ) → ClaimsCommitted layout bounds act → ClaimsCommitted layout bounds (found_by act w)
found_committed layout bounds (Claim rec found) w h = h
found_committed layout bounds _ w h = tt

-- A record that no step has taken is free

fate_or : (c : Core) (rec : Rec) (f : Fate) (r : Rec) → c.fate r ≡ Free → ((with_fate c.shared rec f).fate r ≡ Free) ⊎ (r ≡ rec)
fate_or c rec f r free = elim (cases_Bool (same_rec r rec)) [ inl e ↦ inr (same_rec_true r rec e) | inr e ↦ inl (rw e free) ]

linked_true : (tree : Option Tree) (r : Rec) → is_linked tree r ≡ true → IsLinked tree r
linked_true (Some tree) r e = links_true tree r e
linked_true None r e = absurd cc

not_held : (c : Core) (r rec : Rec) (q : ℕ) → c.fate r ≡ Free → c.fate rec ≡ Held q → r ≡ rec → ⊥
not_held c r rec q free held e = let x : Free ≡ Held q = sym free ∙ (ap c.fate e ∙ held) in absurd cc

not_unlinked : (c : Core) (r rec : Rec) (s l q : ℕ) → c.fate r ≡ Free → c.fate rec ≡ Unlinked s l q → r ≡ rec → ⊥
not_unlinked c r rec s l q free gone e = let x : Free ≡ Unlinked s l q = sym free ∙ (ap c.fate e ∙ gone) in absurd cc

claim_free : (c : Core) (q : ℕ) (rec : Rec) (f : Fate) (r : Rec) → c.fate r ≡ Free → ((claimed c.shared q rec f).fate r ≡ Free) ⊎ (r ≡ rec)
claim_free c q rec Free r free = fate_or c rec (Held q) r free
claim_free c q rec _ r free = inl free

anchor_free : (c : Core) (q : ℕ) (holder : Option ℕ) (r : Rec) → c.fate r ≡ Free → (anchored c.shared q holder).fate r ≡ Free
anchor_free c q None r free = free
anchor_free c q (Some holder) r free = free

lock_free : (c : Core) (n q found : ℕ) (r : Rec) → c.fate r ≡ Free → (locked_where c.shared n q found).fate r ≡ Free
lock_free c n q found r free = elim (cases_Bool (nat_eq found (state_word Live))) [ inl e ↦ rw e free | inr e ↦ rw e free ]

advance_free : (c : Core) (expected : ℕ) (r : Rec) → c.fate r ≡ Free → (advanced c.shared expected).fate r ≡ Free
advance_free c expected r free = elim (cases_Bool (nat_eq c.epoch expected)) [ inl e ↦ rw e free | inr e ↦ rw e free ]

mark_free : (c : Core) (rec : Rec) (epoch : ℕ) (f : Fate) (r : Rec) → c.fate r ≡ Free → (r ≡ rec → ⊥) → (marked c.shared rec epoch f).fate r ≡ Free
mark_free c rec epoch (Unlinked since last q) r free ne = elim (cases_Bool (same_rec r rec)) [ inl e ↦ absurd (ne (same_rec_true r rec e)) | inr e ↦ rw e free ]
mark_free c rec epoch _ r free ne = free

give_free : (c : Core) (rec : Rec) (epoch : ℕ) (f : Fate) (r : Rec) → c.fate r ≡ Free → (given_back c.shared rec epoch f).fate r ≡ Free
give_free c rec epoch (Marked since last mark) r free = elim (cases_Bool (nat_eq mark epoch)) [
  | inl e ↦ rw e (elim (cases_Bool (same_rec r rec)) [ inl s ↦ rw s refl | inr s ↦ rw s free ])
  | inr e ↦ rw e free
]
give_free c rec epoch _ r free = free

step_free : (c : Core) (q : ℕ) (act : Act) (r : Rec) → Legal c q act → c.fate r ≡ Free → ((after c q act).fate r ≡ Free) ⊎ TakesRecord c.layout act r
step_free c q (Claim rec found) r legal free = claim_free c q rec (c.fate rec) r free
step_free c q (Fill rec offset w) r legal free = inl free
step_free c q (Ready rec) r legal free = ⊎_elim inl (λ e. absurd (not_held c r rec q free legal.1.1 e)) (fate_or c rec (ReadyBy q) r free)
step_free c q (Release rec) r legal free = elim (cases_Bool (same_rec r rec)) [ inl e ↦ inl (rw e refl) | inr e ↦ inl (rw e free) ]
step_free c q (LoadRef spot w) r legal free = inl free
step_free c q (LoadFixed rec offset w) r legal free = inl free
step_free c q (Lock Anchor found) r legal free = inl (anchor_free c q c.anchor r free)
step_free c q (Lock (NodeTarget n) found) r legal free = inl (lock_free c n q found r free)
step_free c q (Unlock Anchor) r legal free = inl free
step_free c q (Unlock (NodeTarget n)) r legal free = inl free
step_free c q (Publish spot w) r legal free = inl (rw free refl)
step_free c q (Mark rec epoch) r legal free = inl (mark_free c rec epoch (c.fate rec) r free (λ e. not_unlinked c r rec legal.1.2.0 legal.1.2.1 q free legal.1.2.2 e))
step_free c q (LoadEpoch w) r legal free = inl free
step_free c q (Advance expected found) r legal free = inl (advance_free c expected r free)
step_free c q (SetPin w) r legal free = inl free
step_free c q ClearPin r legal free = inl free
step_free c q (LoadPin o w) r legal free = inl free
step_free c q (LoadState rec w) r legal free = inl free
step_free c q (GiveBack rec epoch found) r legal free = inl (give_free c rec epoch (c.fate rec) r free)
step_free c q (Load words) r legal free = elim (cases_Bool (is_linked (loaded_tree c.layout words.now) r)) [
  | inl e ↦ inr (linked_true (loaded_tree c.layout words.now) r e)
  | inr e ↦ inl (rw e free)
]

lead_free : (c : Core) (run : List Event) (d : Core) (r : Rec) → EventsLead c run d → c.fate r ≡ Free → (d.fate r ≡ Free) ⊎ IsTaken c.layout run r
lead_free c [] d r led free = inl (subst (λ (z : Core). z.fate r ≡ Free) (sym led) free)
lead_free c (x ∷ run) d r led free =
    ⊎_elim (λ e. ⊎_elim inl (λ t. inr (inr t)) (lead_free (after c x.pass x.act) run d r led.1 e)) (λ t. inr (inl t)) (step_free c x.pass x.act r led.0 free)

-- the law: what no step of a run has taken is free in the core to which the run leads
pub never_taken : (layout : Layout) (run : List Event) (d : Core) (r : Rec) → EventsLead (opening layout) run d → (d.fate r ≡ Free) ⊎ IsTaken layout run r
never_taken layout run d r led = lead_free (opening layout) run d r led refl

-- what a trace or the steps after it take
taken_apart : (layout : Layout) (run more : List Event) (r : Rec) → IsTaken layout (run ++ more) r → IsTaken layout run r ⊎ IsTaken layout more r
taken_apart layout [] more r h = inr h
taken_apart layout (x ∷ run) more r (inl h) = inl (inl h)
taken_apart layout (x ∷ run) more r (inr h) = ⊎_elim (λ t. inl (inr t)) inr (taken_apart layout run more r h)

-- the law: uncommitted records are free, while no step takes a record
pub uncommitted_are_free : UncommittedAreFree
uncommitted_are_free layout trace more core kind count led committed none r is beyond =
    ⊎_elim (λ free. free) (λ taken. ⊎_elim (λ before. let low = committed r before is in absurd (omega arith)) (λ later. absurd (none r later)) (taken_apart layout trace more r taken))
    (never_taken layout (trace ++ more) core r led)
