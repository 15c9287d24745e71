-- A step that its pass may make keeps the rule.
pub mod Located
pub mod Touched
use Rattle.rowex_table.proofs.Common.{◌≡◌, ◌≢◌, ℕ, zero, suc, ◌+◌, ◌<◌, ◌≤◌, arith, le_trans, eqb, List, [], ◌∷◌, ◌++◌, set, get_or, true, false, Option, refl, sym, ap, subst, ◌∙◌, ⊎_elim, Me, Step, Allows, at_set, set_else, eqb_tells, Note, address, word_count, Layout, Location, Act, Claim, Fill, Ready, Release, LoadRef, LoadFixed, Lock, Unlock, Publish, Mark, LoadEpoch, Advance, SetPin, ClearPin, LoadPin, LoadState, GiveBack, Load, Event, Known, Core, IsLawful, Shows, word_at, IsAtomic, Legal, after, location_of, writes, Knows, IsViewOf, IsEvent, learned, opening, keeps, stays_lawful}
use Rattle.std.proofs.Common.{Some}
use mathlib.Core.Option.{none, some, some-injective, some-ne-none}
use lib.ListN.{get_elem?}
use Rattle.atomic_table.specs.Seated.{TableId}
use Rattle.atomic_table.specs.Table as table
use Rattle.record_words.proofs.Locations.{address-below}
use Rattle.rowex_core.proofs.Knowing.{learns}
use Rattle.rowex_core.proofs.Events.{step_writes, writes_one, in_table}
use Rattle.rowex_table.specs.declared.traces.Trace.{Trace}
use Rattle.rowex_table.specs.declared.traces.TracedView.{TracedView}
use Rattle.rowex_table.specs.declared.traces.TracedView.TheVariants.{Pass}
use Rattle.rowex_table.specs.Rule.{Happens, IsAddressOf, IsTrueOf, Ruled, IsSomeSeats, did, MayStep, found_by, known_of, trace_of}
use Rattle.rowex_table.specs.Runs.{StepsWith, most_touches}
use Rattle.rowex_table.specs.Seats.{SeatView, TableView}
use Rattle.rowex_table.specs.Traces.{IsNextStep, view_of}
use Rattle.rowex_table.proofs.Made.ActsLeave.{as_before}
use Rattle.record_words.specs.Layout.{uncommitted_in}
use Rattle.rowex_table.specs.Committed.{AtMost, ClaimsCommitted, IsCommitted, record_kind, count_from}
use Rattle.rowex_table.proofs.Committed.{bounds_fall, found_committed, uncommitted_apart, uncommitted_stays, committed_falls, taken_more, takes_committed}
use Rattle.rowex_table.proofs.Onward.{led_more, others_none, traces_more}

-- a pass keeps its number
pub learned_pass : (c : Core) (act : Act) (k : Known) → (learned c act k).pass ≡ k.pass
learned_pass c act k = (as_before k c act).pass

-- notes are outside the rule
pub renoted : (c : Core) (k : Known) (notes : List Note) → Knows c k → Knows c (record k { notes = notes })
renoted c k notes h = record { pass = h.pass; counted = h.counted; seen = h.seen; own = h.own; values = h.values }

-- The word that an act finds changes neither its place nor what it writes

found_same : (q : ℕ) (act : Act) (w x : ℕ) → (location_of q (found_by act w) ≡ location_of q act) × (writes (found_by act w) x ≡ writes act x)
found_same q (Claim r found) w x = (refl, refl)
found_same q (Fill r offset y) w x = (refl, refl)
found_same q (Ready r) w x = (refl, refl)
found_same q (Release r) w x = (refl, refl)
found_same q (LoadRef spot y) w x = (refl, refl)
found_same q (LoadFixed r offset y) w x = (refl, refl)
found_same q (Lock target found) w x = (refl, refl)
found_same q (Unlock target) w x = (refl, refl)
found_same q (Publish spot y) w x = (refl, refl)
found_same q (Mark r epoch) w x = (refl, refl)
found_same q (LoadEpoch y) w x = (refl, refl)
found_same q (Advance expected found) w x = (refl, refl)
found_same q (SetPin y) w x = (refl, refl)
found_same q ClearPin w x = (refl, refl)
found_same q (LoadPin o y) w x = (refl, refl)
found_same q (LoadState r y) w x = (refl, refl)
found_same q (GiveBack r epoch found) w x = (refl, refl)
found_same q (Load words) w x = (refl, refl)

-- and it stays atomic
pub found_atomic : (act : Act) (w : ℕ) → IsAtomic act → IsAtomic (found_by act w)
found_atomic (Load words) w h = h
found_atomic _ w h = tt

pub found_place : (q : ℕ) (act : Act) (w : ℕ) → location_of q (found_by act w) ≡ location_of q act
found_place q act w = (found_same q act w 0).0

pub found_writes : (act : Act) (w x : ℕ) → writes (found_by act w) x ≡ writes act x
found_writes act w x = (found_same 0 act w x).1

-- The numbers of seats

abbrev pub Apart : List TracedView → Type 0
Apart views = (i j q : ℕ) (v w : TracedView) → get_elem? views i ≡ some v → get_elem? views j ≡ some w → IsViewOf (view_of v) q → IsViewOf (view_of w) q → i ≡ j

-- a seat whose view keeps to its numbers
pub apart_set : (views : List TracedView) (id : ℕ) (v w : TracedView) → get_elem? views id ≡ some v → ((q : ℕ) → IsViewOf (view_of w) q → IsViewOf (view_of v) q) → Apart views → Apart (set views id w)
apart_set views id v w here owns apart i j q x y a b ox oy = ⊎_elim
    (λ (s : (i ≡ id) × (w ≡ x)). ⊎_elim
    (λ (t : (j ≡ id) × (w ≡ y)). s.0 ∙ sym t.0)
    (λ (t : (j ≢ id) × (get_elem? views j ≡ some y)). s.0 ∙ apart id j q v y here t.1 (owns q (subst (λ z. IsViewOf (view_of z) q) (sym s.1) ox)) oy)
    (at_set views id j w y b))
    (λ (s : (i ≢ id) × (get_elem? views i ≡ some x)). ⊎_elim
    (λ (t : (j ≡ id) × (w ≡ y)). apart i id q x v s.1 here ox (owns q (subst (λ z. IsViewOf (view_of z) q) (sym t.1) oy)) ∙ sym t.0)
    (λ (t : (j ≢ id) × (get_elem? views j ≡ some y)). apart i j q x y s.1 t.1 ox oy)
    (at_set views id j w y b))
    (at_set views id i w x a)

pub set_at : {A : Type 0} (l : List A) (i : ℕ) (a b : A) → get_elem? l i ≡ some b → get_elem? (set l i a) i ≡ some a
set_at [] i a b e = absurd (some-ne-none b (sym e))
set_at (x ∷ xs) zero a b e = refl
set_at (x ∷ xs) (suc i) a b e = set_at xs i a b e

-- a number of some seat's: of the one that is set, where that keeps it, or of one of the others
pub each_set : (views : List TracedView) (id q : ℕ) (v w : TracedView) → get_elem? views id ≡ some v → (IsViewOf (view_of v) q → IsViewOf (view_of w) q) → IsSomeSeats views q →
    IsSomeSeats (set views id w) q
each_set views id q v w here keeps (i, x, at, owns) = ⊎_elim
    (λ (e : (eqb i id ≡ true) × (i ≡ id)). (id, w, set_at views id w v here, keeps (subst (λ z. IsViewOf (view_of z) q) (some-injective x v (sym at ∙ (ap (λ n. get_elem? views n) e.1 ∙ here))) owns)))
    (λ (n : (eqb i id ≡ false) × (i ≢ id)). (i, x, set_else views id i w n.1 ∙ at, owns))
    (eqb_tells i id)

-- A step

-- what the pass's seat and the others know is true of the core after the step, and of the run with it
pub true_after : (c : Core) (run : List Event) (k j : Known) (t : Trace) (act : Act) → IsLawful c → Knows c k → Legal c k.pass act → (notes : List Note) → j ≡ record (learned c act k) { notes = notes } → (uncommitted : ℕ → ℕ) → AtMost uncommitted (uncommitted_in t.bounds) →
    let x : Event = record { pass = k.pass; act = act } in IsTrueOf (after c k.pass act) (run ++ x ∷ []) uncommitted (Pass j (record { events = run ++ x ∷ []; asides = t.asides; touches = t.touches; bounds = t.bounds }))
true_after c run k j t act law known legal notes is uncommitted less =
    let x : Event = record { pass = k.pass; act = act } in
    (subst (Knows (after c k.pass act)) (sym is) (renoted (after c k.pass act) (learned c act k) notes (learns c k act law known legal)), others_none j.pass (run ++ x ∷ []), less)

pub still_true : (c : Core) (run : List Event) (q : ℕ) (act : Act) (v : TracedView) → IsLawful c → Legal c q act → ¬ IsViewOf (view_of v) q → (new uncommitted : ℕ → ℕ) → AtMost new uncommitted → IsTrueOf c run uncommitted v →
    IsTrueOf (after c q act) (run ++ record { pass = q; act = act } ∷ []) new v
still_true c run q act v law legal other new uncommitted less h = (keeps c q act (view_of v) law legal other h.0, traces_more run (record { pass = q; act = act }) v other h.1, bounds_fall new uncommitted v less h.2)

module _ {S : Type 0} (layout : Layout) (slots id i : ℕ) (k : Known) (t : Trace) (act : Act) (said : Known → List Note) (f tell : ℕ → ℕ) where
  -- what a step tells depends on its act alone
  abbrev st : Step S
  st = table.step 0 0 0 0 none

  -- the step keeps the rule, and is the event
  pub allows : i ≡ address layout (location_of k.pass act) → ((w : ℕ) → f w ≡ writes act w) → ((w : ℕ) → found_by act (tell w) ≡ found_by act w) → IsAtomic act → MayStep layout (found_by act) k → ClaimsCommitted layout (uncommitted_in t.bounds) act
      → Allows {S = S} {V = TracedView} (Ruled layout) slots id (Pass k t, []) i f (λ n m'. did (Some layout) act said st (Pass k t, []) (tell n) m')
  allows place new says atomic apt claims s r deep here low =
      let c : Core = r.core in
      let w : ℕ = get_or s.words i 0 in
      let at : ℕ = word_at c (location_of k.pass act) in
      let known : Knows c k = (r.knows id (Pass k t) here).0 in
      let found : Legal c k.pass (found_by act at) = subst (λ z. Legal c k.pass (found_by act (word_at c z))) (found_place k.pass act 0) (apt c r.lawful r.layout_is known) in
      let inside = subst (λ z. Rattle.record_words.specs.Layout.IsInTable c.layout z) (found_place k.pass act at) (in_table c k.pass (found_by act at) found) in
      let there : i ≡ address c.layout (location_of k.pass act) = place ∙ ap (λ (z : Layout). address z (location_of k.pass act)) (sym r.layout_is) in
      let word : w ≡ at = ap (λ z. get_or s.words z 0) there ∙ r.shows.each (location_of k.pass act) inside in
      let does : Act = found_by act at in
      let plain : IsAtomic does = found_atomic act at atomic in
      let j : Known = record (learned c does k) { notes = k.notes ++ said (learned c does k) } in
      let x : Event = record { pass = k.pass; act = does } in
      let u : Trace = record { events = r.run ++ x ∷ []; asides = t.asides; touches = t.touches; bounds = t.bounds } in
      let stay : (kind : ℕ) → uncommitted_in (set s.words i (f w)) kind ≡ uncommitted_in s.words kind = λ kind. uncommitted_stays s.words i (f w) kind (λ e. uncommitted_apart c.layout (location_of k.pass act) kind (e ∙ there)) in
      let less : AtMost (uncommitted_in (set s.words i (f w))) (uncommitted_in s.words) = λ kind. let e = stay kind in omega arith in
      let bounds : AtMost (uncommitted_in (set s.words i (f w))) (uncommitted_in t.bounds) = λ kind. le_trans (less kind) ((r.knows id (Pass k t) here).2 kind) in
      let event : IsEvent layout does said k j = record { core = c; lawful = r.lawful; layout_is = r.layout_is; knows = known; legal = found; learned_is = refl } in
      let next : IsNextStep layout k.pass does c t.events u.events = record { before = r.run; led = r.led; others = (r.knows id (Pass k t) here).1; next_is = refl } in (
        Pass j u,
        table.keeps,
        tt,
        record {
          core = after c k.pass does;
          lawful = stays_lawful c k.pass does r.lawful found;
          layout_is = (step_writes c k.pass does plain r.lawful found).layout ∙ r.layout_is;
          shows = subst (λ (z : ℕ × ℕ). Shows (after c k.pass does) (set s.words z.0 z.1))
              (λ e. ((ap (λ z. address c.layout z) (found_place k.pass act at) ∙ sym there) e, (found_writes act at (word_at c (location_of k.pass does)) ∙ (ap (λ z. writes act (word_at c z)) (found_place k.pass act at) ∙ (ap (writes act) (sym word) ∙ sym (new w)))) e))
              (writes_one c k.pass does s.words plain r.lawful found r.shows);
          run = r.run ++ x ∷ [];
          led = led_more (opening layout) r.run c k.pass does r.led found;
          committed = λ rec taken. ⊎_elim
              (λ old. committed_falls layout (uncommitted_in (set s.words i (f w))) (uncommitted_in s.words) rec less (r.committed rec old))
              (λ new. takes_committed layout (uncommitted_in (set s.words i (f w))) (uncommitted_in t.bounds) does rec plain bounds (found_committed layout (uncommitted_in t.bounds) act at claims) new)
              (taken_more layout r.run x rec taken);
          knows = λ m v e. ⊎_elim
              (λ (h : (m ≡ id) × (Pass j u ≡ v)). subst (IsTrueOf (after c k.pass does) (r.run ++ x ∷ []) (uncommitted_in (set s.words i (f w)))) h.1 (true_after c r.run k j t does r.lawful known found j.notes refl (uncommitted_in (set s.words i (f w))) bounds))
              (λ (h : (m ≢ id) × (get_elem? s.views m ≡ some v)). still_true c r.run k.pass does v r.lawful found (λ o. h.0 (r.apart m id k.pass v (Pass k t) h.1 here o refl)) (uncommitted_in (set s.words i (f w))) (uncommitted_in s.words) less (r.knows m v h.1))
              (at_set s.views id m (Pass j u) v e);
          apart = apart_set s.views id (Pass k t) (Pass j u) here (λ q o. sym (learned_pass c does k) ∙ o) r.apart;
          each = λ q low. each_set s.views id q (Pass k t) (Pass j u) here (λ o. learned_pass c does k ∙ o) (r.each q low);
        },
        (refl, subst (λ z. Happens (Some layout) z said (Pass k t) (Pass j u)) (ap (found_by act) (sym word) ∙ sym (says w)) (j, u, event, refl, next, refl, refl, refl)),
      )

  -- the same for a seat that is a pass's
  pub allows_me : (me : Me S TracedView) (key : Layout) (of : Option Layout) → key ≡ layout → of ≡ Some layout → me ≡ (Pass (known_of me.0) (trace_of me.0), []) → k ≡ known_of me.0 → t ≡ trace_of me.0 → i ≡ address layout (location_of k.pass act) → ((w : ℕ) → f w ≡ writes act w)
      → ((w : ℕ) → found_by act (tell w) ≡ found_by act w) → IsAtomic act → MayStep layout (found_by act) k → ClaimsCommitted layout (uncommitted_in t.bounds) act
      → Allows {S = S} {V = TracedView} (Ruled key) slots id me i f (λ n m'. did of act said st me (tell n) m')
  allows_me me key of count is_of is same traced place new says atomic apt claims = subst (λ (x : Layout). Allows {S = S} {V = TracedView} (Ruled x) slots id me i f (λ n m'. did of act said st me (tell n) m')) (sym count)
      (subst (λ (x : Option Layout). Allows {S = S} {V = TracedView} (Ruled layout) slots id me i f (λ n m'. did x act said st me (tell n) m')) (sym is_of)
      (subst (λ (m : Me S TracedView). Allows {S = S} {V = TracedView} (Ruled layout) slots id m i f (λ n m'. did (Some layout) act said st m (tell n) m'))
      ((λ e. (Pass (same e) (traced e), [])) ∙ sym is) (allows place new says atomic apt claims)))

-- the word of a location of the table is one of the table's words
pub in_words : (words : ℕ) (own layout : Layout) (location : Location) (word : ℕ) → words ≡ word_count own → own ≡ layout → IsAddressOf layout location word → word < words
in_words words own layout location word count same place = rw (count, place.0, same) (address-below layout location place.1)

-- What a step leaves its seat

pub stepped_me : {S : Type 0} (layout : Layout) (act : Act) (said : Known → List Note) (of : Option Layout) → of ≡ Some layout → (me m' : Me S TracedView) → me ≡ (Pass (known_of me.0) (trace_of me.0), []) → Happens of act said me.0 m'.0 →
    (event : IsEvent layout act said (known_of me.0) (known_of m'.0)) × IsNextStep layout (known_of me.0).pass act event.core (trace_of me.0).events (trace_of m'.0).events ×
    ((trace_of m'.0).asides ≡ (trace_of me.0).asides) × ((trace_of m'.0).touches ≡ (trace_of me.0).touches) × ((trace_of m'.0).bounds ≡ (trace_of me.0).bounds)
stepped_me {S = S} layout act said of is_of me m' is h =
    let k : Known = known_of me.0 in
    let t : Trace = trace_of me.0 in
    let happens : Happens (Some layout) act said (Pass k t) m'.0 =
    subst (λ (v : TracedView). Happens (Some layout) act said v m'.0) (ap (λ (z : Me S TracedView). z.0) is) (subst (λ (o : Option Layout). Happens o act said me.0 m'.0) is_of h) in
    subst (λ (v : TracedView). (event : IsEvent layout act said k (known_of v)) × IsNextStep layout k.pass act event.core t.events (trace_of v).events × ((trace_of v).asides ≡ t.asides) × ((trace_of v).touches ≡ t.touches) × ((trace_of v).bounds ≡ t.bounds)) (sym happens.3)
    (happens.2, happens.4, happens.5, happens.6, happens.7)

-- the seat of a pass, as contracts see it
abbrev pub seat_of : {S : Type 0} → TableId → ℕ → Me S TracedView → SeatView
seat_of table id me = record { table = table; id = id; known = known_of me.0; trace = (trace_of me.0).events; asides = (trace_of me.0).asides; touches = (trace_of me.0).touches; bounds = (trace_of me.0).bounds }

-- a count that stays may rise
untouched : (before after most : ℕ) → after ≡ before → (before ≤ after) × (after ≤ before + most)
untouched before after most same = (omega (arith, same), omega (arith, same))

-- a step touches nothing
pub touches_with : {S : Type 0} (act : Act) (said : Known → List Note) (layout : Layout) (of : Option Layout) → of ≡ Some layout → (me : Me S TracedView) (v : TracedView) → me ≡ (Pass (known_of me.0) (trace_of me.0), []) →
    Happens of act said me.0 v → (s : SeatView) → (trace_of me.0).touches ≡ s.touches → (trace_of v).touches ≡ s.touches
touches_with act said layout of is_of me v is happens s seen = (stepped_me layout act said of is_of me (v, []) is happens).3 ∙ seen

pub steps_with : {G S : Type 0} (table : TableView) (becomes : G → Event → G → Type 0) (act : Act) (said : Known → List Note) (of : Option Layout) → IsAtomic act → of ≡ Some table.layout → (x y : TableId) (i j : ℕ) (me m' : Me S TracedView) →
    me ≡ (Pass (known_of me.0) (trace_of me.0), []) → y ≡ x → j ≡ i → (m'.1 ≡ me.1) × Happens of act said me.0 m'.0 → (s : SeatView) → seat_of x i me ≡ s → (g h : G) (told : Act) → told ≡ act →
    becomes g (record { pass = (known_of m'.0).pass; act = told }) h → StepsWith table becomes act said (s, g) (seat_of y j m', h)
steps_with {G = G} table becomes act said of plain is_of x y i j me m' is tables ids did s seen g h told same tells =
    let e = stepped_me table.layout act said of is_of me m' is did.1 in
    let pass : (known_of m'.0).pass ≡ (known_of me.0).pass = ap (λ (z : Known). z.pass) e.0.learned_is ∙ learned_pass e.0.core act (known_of me.0) in
    subst (λ (z : SeatView). StepsWith table becomes act said (z, g) (seat_of y j m', h)) seen (record {
      seat = (tables, ids, pass, e.2, λ kind. let s = ap (λ (z : List ℕ). uncommitted_in z kind) e.4 in omega arith);
      atomic = plain;
      event = e.0;
      next = e.1;
      touches = untouched (trace_of me.0).touches (trace_of m'.0).touches (most_touches act) e.3;
      told = subst (λ (z : ℕ × Act). becomes g (record { pass = z.0; act = z.1 }) h) (λ i. (pass i, same i)) tells;
    })
