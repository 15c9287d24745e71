-- The steps on the epoch and on pins.
use Rattle.rowex_replay_state.proofs.Common.{◌≡◌, ◌≢◌, inl, inr, ⊎_elim, ◌<◌, ◌≤◌, ℕ, List, [], ◌∷◌, length, set, replicate, slice_get, Option, Some, None, IsSome, is_none, option_map, unwrap_or, Bool, true, false, nat_eq, if◌then◌else◌, refl, sym, ap, ◌∙◌, subst, arith, eq-eqb, ne_eqb, cases_Bool, eqb-true, length-replicate, same_Some, none-some, slice_get_within, Layout, has_seen, lowered, with_pin, with_epoch, ClearPin, LoadEpoch, LoadPin, SetPin, Core, IsLawful, pin_word, LegalAct, after}
use Rattle.std.proofs.lemmas.List.{length-set}
use Rattle.versions.specs.declared.Pin.{Pin}
use Rattle.versions.specs.declared.Round.{Round}
use Rattle.rowex_replay_state.specs.declared.passes.PassState.{PassState}
use Rattle.rowex_replay_state.specs.Passes.{ArePassesOf, IsPassStateOf, in_round, with_pin_seen, lowered_by}
use Rattle.rowex_replay_state.specs.States.{StateView, IsStateOf}
use Rattle.rowex_replay_state.proofs.Tables.{slice_get-replicate, slice_get-set, slice_get_there, within, at_number, other_number}
use Rattle.rowex_replay_state.proofs.Sound.{count}

-- the stored passes with one of them changed
pub pass_set : (passes : List PassState) (layout : Layout) (pins : ℕ → Option Pin) (rounds : ℕ → Round) → ArePassesOf passes layout pins rounds →
    (q : ℕ) (p : PassState) (pin : Option Pin) (round : Round) → IsPassStateOf layout p pin round →
    ArePassesOf (set passes q p) layout (λ i. if nat_eq i q then pin else pins i) (λ i. if nat_eq i q then round else rounds i)
pass_set passes layout pins rounds a q p pin round is = record {
  count = length-set passes q p ∙ a.count;
  each = λ i x e. ⊎_elim
      (λ (same, new). rw (same, new, at_number pins q pin, at_number rounds q round) is)
      (λ (other, old). rw (other_number pins i q pin other, other_number rounds i q round other) (a.each i x old))
      (slice_get-set passes q i p x e);
}

-- a function of passes with its own value in the place of one
pub own_value : {X : Type 0} (f : ℕ → X) (q i : ℕ) → (if nat_eq i q then f q else f i) ≡ f i
own_value f q i = elim (cases_Bool (nat_eq i q)) [ inl e ↦ rw e (ap f (sym (eqb-true i q e))) | inr e ↦ rw e refl ]

pub passes_are : (s : StateView) (c : Core) → IsStateOf s c → (passes : List PassState) (pins : ℕ → Option Pin) (rounds : ℕ → Round) → ArePassesOf passes c.layout pins rounds →
    IsStateOf (record s { passes = passes }) (record c { shared = record c.shared { pins = pins; rounds = rounds } })
passes_are s c h passes pins rounds a = record { records = h.records; passes = a; anchor = h.anchor; root = h.root; epoch = h.epoch; changes = h.changes; items = h.items }

-- the pass itself
pub own_at : (s : StateView) (c : Core) → IsStateOf s c → (q : ℕ) (p : PassState) → slice_get s.passes q ≡ Some p → IsPassStateOf c.layout p (c.pins q) (c.rounds q)
own_at s c h q p e = h.passes.each q p e

pub pass_in : (s t : StateView) → s ≡ t → (q : ℕ) (p : PassState) → slice_get t.passes q ≡ Some p → slice_get s.passes q ≡ Some p
pass_in s t e q p at = subst (λ (z : StateView). slice_get z.passes q ≡ Some p) (sym e) at

pub some_from : (o : Option ℕ) → is_none o ≡ false → o ≢ None
some_from None e = absurd (cc)
some_from (Some w) e = λ x. cc

-- ---- the epoch

pub fresh_seen : (layout : Layout) (o : ℕ) → o < layout.passes → slice_get (replicate 1024 false) o ≡ Some (has_seen [] o)
fresh_seen layout o h =
    let x = slice_get_there {X = Bool} (replicate 1024 false) 1024 o (length-replicate {A = Bool} 1024 false) (let limit = layout.passes_in_range in omega (arith, limit)) in
    x.1 ∙ ap Some (slice_get-replicate {X = Bool} 1024 false o x.0 x.1)

round_begun : (p : PassState) (layout : Layout) (pin : Option Pin) (round : Round) (e m : ℕ) → IsPassStateOf layout p pin round →
    IsPassStateOf layout (in_round p e m) pin (record { epoch = e; version = m; bound = e; seen = [] })
round_begun p layout pin round e m is = record { pin_is = is.pin_is; epoch_is = refl; version_is = refl; bound_is = refl; seen_are = fresh_seen layout }

pub epoch_loads : (s : StateView) (q w : ℕ) (p : PassState) → w ≡ s.epoch → slice_get s.passes q ≡ Some p → (c : Core) → ∥ IsLawful c ∥₁ → IsStateOf s c →
    LegalAct c q (LoadEpoch w) × IsStateOf (record s { passes = set s.passes q (in_round p s.epoch (length s.changes)) }) (after c q (LoadEpoch w))
epoch_loads s q w p is at c lawful h = (
  is ∙ sym h.epoch,
  subst (λ e. IsStateOf (record s { passes = set s.passes q (in_round p e (length s.changes)) }) (after c q (LoadEpoch w))) h.epoch
      (subst (λ m. IsStateOf (record s { passes = set s.passes q (in_round p c.epoch m) }) (after c q (LoadEpoch w))) (sym (count c lawful) ∙ ap length h.changes)
      (passes_are s c h (set s.passes q (in_round p c.epoch c.past.now)) c.pins (after c q (LoadEpoch w)).rounds (same_pins (own_at s c h q p at)))),
)
  where
    same_pins : IsPassStateOf c.layout p (c.pins q) (c.rounds q) → ArePassesOf (set s.passes q (in_round p c.epoch c.past.now)) c.layout c.pins (after c q (LoadEpoch w)).rounds
    same_pins own = record {
      count = length-set s.passes q (in_round p c.epoch c.past.now) ∙ h.passes.count;
      each = λ i x e.
          subst (λ pin. IsPassStateOf c.layout x pin ((after c q (LoadEpoch w)).rounds i)) (own_value c.pins q i)
          ((pass_set s.passes c.layout c.pins c.rounds h.passes q (in_round p c.epoch c.past.now) (c.pins q) (record { epoch = c.epoch; version = c.past.now; bound = c.epoch; seen = [] })
          (round_begun p c.layout (c.pins q) (c.rounds q) c.epoch c.past.now own)).each i x e);
    }

epoch_is : (s : StateView) (c : Core) → IsStateOf s c → (e : ℕ) → IsStateOf (record s { epoch = e }) (record c { shared = with_epoch c.shared e })
epoch_is s c h e = record { records = h.records; passes = h.passes; anchor = h.anchor; root = h.root; epoch = refl; changes = h.changes; items = h.items }

-- ---- pins

-- the passes with one pin changed
pub pin_set : (s : StateView) (c : Core) → IsStateOf s c → (q : ℕ) (p : PassState) (pin : Option Pin) → slice_get s.passes q ≡ Some p →
    IsStateOf (record s { passes = set s.passes q (record p { pin = option_map (λ (x : Pin). x.word) pin }) }) (record c { shared = with_pin c.shared q pin })
pin_set s c h q p pin at = passes_are s c h (set s.passes q (record p { pin = option_map (λ (x : Pin). x.word) pin })) (λ i. if nat_eq i q then pin else c.pins i) c.rounds same_rounds
  where
    own : IsPassStateOf c.layout p (c.pins q) (c.rounds q)
    own = h.passes.each q p at

    now : IsPassStateOf c.layout (record p { pin = option_map (λ (x : Pin). x.word) pin }) pin (c.rounds q)
    now = let o = h.passes.each q p at in record { pin_is = refl; epoch_is = o.epoch_is; version_is = o.version_is; bound_is = o.bound_is; seen_are = o.seen_are }

    same_rounds : ArePassesOf (set s.passes q (record p { pin = option_map (λ (x : Pin). x.word) pin })) c.layout (λ i. if nat_eq i q then pin else c.pins i) c.rounds
    same_rounds = record {
      count = length-set s.passes q (record p { pin = option_map (λ (x : Pin). x.word) pin }) ∙ h.passes.count;
      each = λ i x e.
          subst (λ round. IsPassStateOf c.layout x (if nat_eq i q then pin else c.pins i) round) (own_value c.rounds q i)
          ((pass_set s.passes c.layout c.pins c.rounds h.passes q (record p { pin = option_map (λ (x : Pin). x.word) pin }) pin (c.rounds q) now).each i x e);
    }

no_word : (o : Option Pin) → option_map (λ (x : Pin). x.word) o ≡ None → o ≡ None
no_word None e = refl
no_word (Some x) e = absurd (none-some x.word (sym e))

some_word : (o : Option Pin) → option_map (λ (x : Pin). x.word) o ≢ None → IsSome o
some_word None ne = absurd (ne refl)
some_word (Some x) ne = refl

pub pins : (s : StateView) (q w : ℕ) (p : PassState) → slice_get s.passes q ≡ Some p → p.pin ≡ None → w ≡ p.epoch → 1 ≤ w → (c : Core) → ∥ IsLawful c ∥₁ → IsStateOf s c →
    LegalAct c q (SetPin w) × IsStateOf (record s { passes = set s.passes q (record p { pin = Some w }) }) (after c q (SetPin w))
pins s q w p at none is positive c lawful h =
    let own = own_at s c h q p at in (
      (no_word (c.pins q) (sym own.pin_is ∙ none), is ∙ sym own.epoch_is, positive),
      pin_set s c h q p (Some (record { word = w; version = c.past.now; floor = c.epoch })) at,
    )

pub unpins : (s : StateView) (q : ℕ) (p : PassState) → slice_get s.passes q ≡ Some p → p.pin ≢ None → (c : Core) → ∥ IsLawful c ∥₁ → IsStateOf s c →
    LegalAct c q ClearPin × IsStateOf (record s { passes = set s.passes q (record p { pin = None }) }) (after c q ClearPin)
unpins s q p at some c lawful h =
    let own = own_at s c h q p at in
    (some_word (c.pins q) (λ e. some (own.pin_is ∙ e)), pin_set s c h q p None at)

-- ---- loads of pins

word_of_pin : (o : Option Pin) → pin_word o ≡ unwrap_or (option_map (λ (x : Pin). x.word) o) 0
word_of_pin None = refl
word_of_pin (Some x) = refl

lowered_is : (bound : ℕ) (o : Option Pin) → lowered bound o ≡ lowered_by bound (option_map (λ (x : Pin). x.word) o)
lowered_is bound None = refl
lowered_is bound (Some x) = refl

seen_more : (layout : Layout) (p : PassState) (pin : Option Pin) (round : Round) (o i : ℕ) → IsPassStateOf layout p pin round → i < layout.passes →
    slice_get (set p.seen o true) i ≡ Some (has_seen (o ∷ round.seen) i)
seen_more layout p pin round o i is there =
    let x = slice_get_there (set p.seen o true) (length p.seen) i (length-set p.seen o true) (slice_get_within p.seen i (has_seen round.seen i) (is.seen_are i there)) in
    x.1 ∙ ap Some (⊎_elim
    (λ (same, new). new ∙ sym (rw (eq-eqb i o same) refl))
    (λ (other, old). same_Some x.0 (has_seen round.seen i) (sym old ∙ is.seen_are i there) ∙ sym (rw (ne_eqb i o other) refl))
    (slice_get-set p.seen o i true x.0 x.1))

pub pin_loads : (s : StateView) (q o w : ℕ) (p x : PassState) → slice_get s.passes q ≡ Some p → slice_get s.passes o ≡ Some x → w ≡ unwrap_or x.pin 0 → (c : Core) → ∥ IsLawful c ∥₁ → IsStateOf s c →
    LegalAct c q (LoadPin o w) × IsStateOf (record s { passes = set s.passes q (with_pin_seen p o x.pin) }) (after c q (LoadPin o w))
pin_loads s q o w p x at other is c lawful h =
    let there = own_at s c h o x other in (
      (within s.passes c.layout.passes o x h.passes.count other, is ∙ ap (λ z. unwrap_or z 0) there.pin_is ∙ sym (word_of_pin (c.pins o))),
      rw there.pin_is (passes_are s c h (set s.passes q (with_pin_seen p o (option_map (λ (y : Pin). y.word) (c.pins o)))) c.pins (after c q (LoadPin o w)).rounds same_pins),
    )
  where
    round : Round
    round = record { epoch = (c.rounds q).epoch; version = (c.rounds q).version; bound = lowered (c.rounds q).bound (c.pins o); seen = o ∷ (c.rounds q).seen }

    now : IsPassStateOf c.layout (with_pin_seen p o (option_map (λ (y : Pin). y.word) (c.pins o))) (c.pins q)
        (record { epoch = (c.rounds q).epoch; version = (c.rounds q).version; bound = lowered (c.rounds q).bound (c.pins o); seen = o ∷ (c.rounds q).seen })
    now =
        let own = h.passes.each q p at in
        record {
          pin_is = own.pin_is;
          epoch_is = own.epoch_is;
          version_is = own.version_is;
          bound_is = lowered_is (c.rounds q).bound (c.pins o) ∙ ap (λ b. lowered_by b (option_map (λ (y : Pin). y.word) (c.pins o))) own.bound_is;
          seen_are = λ i there. seen_more c.layout p (c.pins q) (c.rounds q) o i own there;
        }

    same_pins : ArePassesOf (set s.passes q (with_pin_seen p o (option_map (λ (y : Pin). y.word) (c.pins o)))) c.layout c.pins (after c q (LoadPin o w)).rounds
    same_pins = record {
      count = length-set s.passes q (with_pin_seen p o (option_map (λ (y : Pin). y.word) (c.pins o))) ∙ h.passes.count;
      each = λ i y e.
          subst (λ pin. IsPassStateOf c.layout y pin ((after c q (LoadPin o w)).rounds i)) (own_value c.pins q i)
          ((pass_set s.passes c.layout c.pins c.rounds h.passes q (with_pin_seen p o (option_map (λ (y : Pin). y.word) (c.pins o))) (c.pins q)
          (record { epoch = (c.rounds q).epoch; version = (c.rounds q).version; bound = lowered (c.rounds q).bound (c.pins o); seen = o ∷ (c.rounds q).seen }) now).each i y e);
    }
