-- What is left of the lives of passes, and an execution that has come so far in all of them.
use Rattle.index_laws.proofs.Common.{◌≡◌, ◌≢◌, ◌⊎◌, inl, inr, ⊎_elim, ℕ, zero, suc, ◌<◌, ◌≤◌, List, [], ◌∷◌, ◌++◌, cond, if◌then◌else◌, nat_eq, Option, Some, None, refl, sym, ap, subst, ◌∙◌, arith, append_assoc, cases_eq, cases_lt, eq-eqb, ne_eqb, Call, Change, Note, BeginsWith, Act, Event, Known, learned, with_front, IsShownAll, SeatView, TableView, OthersStepOn, RunBeginsWith, begins_on, next_begins, Happening, invokes, shows, steps}
use Rattle.rowex_table.proofs.Onward.{begins_itself, others_begin}
use Rattle.index_laws.specs.Joined.{HasEndedAs, happenings_of, pass_in, KeepCallsWhole}
use Rattle.index_laws.specs.Traced.{ContractsLeadOn, Instant, IsTracedExecution, MakesEvent}
use Rattle.index_laws.proofs.Traced.Reaching.{before, before-new, before-old, traced_more, upto, upto-new, upto-old}

-- Lives, from a seat on

-- a call that a pass has begun: what it asks, and its seat then
pub record Begun : Type 0 where
  pub calls : List Call
  pub from : SeatView

pub record MakesStep (table : TableView) (act : Act) (notes : List Note) (s e : SeatView) : Type 0 where
  pub said : Known → List Note
  pub step : MakesEvent table act said s e
  pub notes_are : notes ≡ said (learned step.event.core act s.known)

-- the pass is shown what others did, or makes a stamp
abbrev pub Shows : TableView → SeatView → SeatView → List Change → Type 0
Shows table s m front = (IsShownAll table.layout s m × BeginsWith front s.known.front × (m.known ≡ with_front front s.known)) ⊎ ((m.known ≡ s.known) ×
    (m.trace ≡ s.trace) × (front ≡ s.known.front))

-- from the seat s on, where this call has begun, pass q does this, up to the seat e
pub data Life (table : TableView) (q : ℕ) : SeatView → Option Begun → List Happening → SeatView → Type 0 where
  over : {s : SeatView} → Life table q s None [] s
  sees : {s m e : SeatView} {hs : List Happening} (front : List Change) → Shows table s m front → Life table q m None hs e → Life table q s None (shows q front ∷ hs) e
  asks : {s e : SeatView} {hs : List Happening} (calls : List Call) → Life table q s (Some (record { calls = calls; from = s })) hs e →
      Life table q s None (invokes q calls ∷ hs) e
  goes : {s m e : SeatView} {hs : List Happening} {o : Begun} (act : Act) (notes : List Note) → MakesStep table act notes s m → Life table q m (Some o) hs e →
      Life table q s (Some o) (steps q act notes ∷ hs) e
  closes : {s m e : SeatView} {hs : List Happening} {o : Begun} (act : Act) (notes : List Note) (h : Happening) → MakesStep table act notes s m →
      HasEndedAs table.layout q o.calls o.from m h → Life table q m None hs e → Life table q s (Some o) (steps q act notes ∷ h ∷ hs) e

step_begins : {table : TableView} {act : Act} {notes : List Note} {s m : SeatView} → MakesStep table act notes s m → RunBeginsWith m.trace s.trace
step_begins x = next_begins x.step.next

-- its trace goes on
pub life_begins : {table : TableView} {q : ℕ} {s e : SeatView} {o : Option Begun} {hs : List Happening} → Life table q s o hs e → RunBeginsWith e.trace s.trace
life_begins (over {s = s}) = begins_itself s.trace
life_begins (sees {s = s} {m = m} {e = e} front (inl x) l) = begins_on s.trace m.trace e.trace (others_begin s.known.pass s.trace m.trace x.0.run.others)
    (life_begins l)
life_begins (sees {s = s} {m = m} {e = e} front (inr x) l) = subst (RunBeginsWith e.trace) x.1 (life_begins l)
life_begins (asks calls l) = life_begins l
life_begins (goes {s = s} {m = m} {e = e} act notes x l) = begins_on s.trace m.trace e.trace (step_begins x) (life_begins l)
life_begins (closes {s = s} {m = m} {e = e} act notes h x is l) = begins_on s.trace m.trace e.trace (step_begins x) (life_begins l)

-- What is left of a life

pub record Rest : Type 0 where
  pub seat : SeatView
  pub call : Option Begun
  pub ahead : List Happening

abbrev pub put : (ℕ → Rest) → ℕ → Rest → ℕ → Rest
put f q r p = cond (nat_eq p q) r (f p)

pub put-own : (f : ℕ → Rest) (q : ℕ) (r : Rest) → put f q r q ≡ r
put-own f q r = ap (λ b. cond b r (f q)) (eq-eqb q q refl)

pub put-other : (f : ℕ → Rest) (q : ℕ) (r : Rest) (p : ℕ) → p ≢ q → put f q r p ≡ f p
put-other f q r p ne = ap (λ b. cond b r (f p)) (ne_eqb p q ne)

pub put_all : (P : ℕ → Rest → Type 0) (f : ℕ → Rest) (q : ℕ) (r : Rest) → P q r → ((p : ℕ) → p ≢ q → P p (f p)) → (p : ℕ) → P p (put f q r p)
put_all P f q r own others p = ⊎_elim
    (λ (e : p ≡ q). subst (λ z. P z (put f q r z)) (sym e) (subst (P q) (sym (put-own f q r)) own))
    (λ (ne : p ≢ q). subst (P p) (sym (put-other f q r p ne)) (others p ne))
    (cases_eq p q)

-- pass q's call has begun at time `since`, and is pending at time n
pub record IsWaiting (at : ℕ → Instant) (n q : ℕ) (o : Begun) : Type 0 where
  pub since : ℕ
  pub low : since ≤ n
  pub pending : (at n).pending q ≡ Some (record { since = since; calls = o.calls })
  pub from : (at since).seat q ≡ o.from

abbrev pub Waits : (ℕ → Instant) → ℕ → ℕ → Option Begun → Type 0
Waits at n q None = (at n).pending q ≡ None
Waits at n q (Some o) = IsWaiting at n q o

waiting_on : (at : ℕ → Instant) (n q : ℕ) (b : Instant) (o : Begun) → IsWaiting at n q o → b.pending q ≡ (at n).pending q → IsWaiting (upto n at b) (suc n) q o
waiting_on at n q b o w e =
    let low : w.since ≤ n = w.low in
    record {
      since = w.since;
      low = omega (arith, low);
      pending = subst (λ (z : Instant). z.pending q ≡ Some (record { since = w.since; calls = o.calls })) (sym (upto-new n at b)) (e ∙ w.pending);
      from = ap (λ (z : Instant). z.seat q) (upto-old n at b w.since low) ∙ w.from;
    }

pub waits_on : (at : ℕ → Instant) (n q : ℕ) (b : Instant) (o : Option Begun) → Waits at n q o → b.pending q ≡ (at n).pending q → Waits (upto n at b) (suc n) q o
waits_on at n q b None w e = subst (λ (z : Instant). z.pending q ≡ None) (sym (upto-new n at b)) (e ∙ w)
waits_on at n q b (Some o) w e = waiting_on at n q b o w e

-- An execution that has come so far

abbrev pub tip_of : (ℕ → Happening) → ℕ → Happening
tip_of happens zero = shows 0 []
tip_of happens (suc n) = happens n

-- The execution has made the steps `done`, and `tip` happened last. `left` is what is left of each pass's life; all in all they are `whole`.
pub record Reached (table : TableView) (whole : ℕ → List Happening) (done : List Event) (left : ℕ → Rest) (tip : Happening) : Type 0 where
  pub last : ℕ
  pub at : ℕ → Instant
  pub happens : ℕ → Happening
  pub traced : IsTracedExecution table last at happens
  pub run : (at last).run ≡ done
  pub seats : (q : ℕ) → (at last).seat q ≡ (left q).seat
  pub waits : (q : ℕ) → Waits at last q (left q).call
  pub own : (q : ℕ) → happenings_of q happens last ++ (left q).ahead ≡ whole q
  pub tip_is : tip_of happens last ≡ tip
  pub next_to : (t : ℕ) → suc t < last → KeepCallsWhole (happens t) (happens (suc t))
  pub named : (q : ℕ) → (left q).seat.known.pass ≡ q
  pub stands : (q : ℕ) → OthersStepOn q (left q).seat.trace done

-- one happening more, of pass q, of whose life r is left then
pub record IsMore (table : TableView) (last : ℕ) (at : ℕ → Instant) (left : ℕ → Rest) (tip : Happening) (q : ℕ) (r : Rest) (h : Happening) (done : List Event)
    (b : Instant) : Type 0 where
  pub run : b.run ≡ done
  pub seat : b.seat q ≡ r.seat
  pub seats : (p : ℕ) → p ≢ q → b.seat p ≡ (at last).seat p
  pub waits : Waits (upto last at b) (suc last) q r.call
  pub pending : (p : ℕ) → p ≢ q → b.pending p ≡ (at last).pending p
  pub whose : pass_in h ≡ q
  pub ahead : (left q).ahead ≡ h ∷ r.ahead
  pub leads : ContractsLeadOn table (upto last at b) last h
  pub follows : KeepCallsWhole tip h
  pub named : r.seat.known.pass ≡ q
  pub stands : OthersStepOn q r.seat.trace done
  pub others : (p : ℕ) → p ≢ q → OthersStepOn p (left p).seat.trace done

happenings_same : (q : ℕ) (f g : ℕ → Happening) (n : ℕ) → ((t : ℕ) → t < n → f t ≡ g t) → happenings_of q f n ≡ happenings_of q g n
happenings_same q f g zero same = refl
happenings_same q f g (suc n) same =
    let a : f n ≡ g n = same n (omega arith) in
    let rest : happenings_of q f n ≡ happenings_of q g n = happenings_same q f g n (λ t low. same t (omega (arith, low))) in
    λ i. if nat_eq (pass_in (a i)) q then rest i ++ a i ∷ [] else rest i

happenings_more : (q : ℕ) (happens : ℕ → Happening) (n : ℕ) (h : Happening) → happenings_of q (before n happens h) (suc n) ≡ (if nat_eq
    (pass_in h) q then happenings_of q happens n ++ h ∷ [] else happenings_of q happens n)
happenings_more q happens n h =
    let a : before n happens h n ≡ h = before-new n happens h in
    let rest : happenings_of q (before n happens h) n ≡ happenings_of q happens n = happenings_same q (before n happens h) happens n
    (λ t low. before-old n happens h t low) in
    λ i. if nat_eq (pass_in (a i)) q then rest i ++ a i ∷ [] else rest i

own_more : (q : ℕ) (happens : ℕ → Happening) (n : ℕ) (h : Happening) (old new whole : List Happening) → pass_in h ≡ q → old ≡ h ∷ new →
    happenings_of q happens n ++ old ≡ whole →
    happenings_of q (before n happens h) (suc n) ++ new ≡ whole
own_more q happens n h old new whole mine ahead is =
    let now : happenings_of q (before n happens h) (suc n) ≡ happenings_of q happens n ++ h ∷ [] =
    happenings_more q happens n h ∙ ap (λ b. if b then happenings_of q happens n ++ h ∷ [] else happenings_of q happens n) (eq-eqb (pass_in h) q mine) in
    ap (λ l. l ++ new) now ∙ (append_assoc (happenings_of q happens n) (h ∷ []) new ∙ (ap (λ l. happenings_of q happens n ++ l) (sym ahead) ∙ is))

own_other : (q p : ℕ) (happens : ℕ → Happening) (n : ℕ) (h : Happening) (ahead whole : List Happening) → pass_in h ≡ q → p ≢ q →
    happenings_of p happens n ++ ahead ≡ whole →
    happenings_of p (before n happens h) (suc n) ++ ahead ≡ whole
own_other q p happens n h ahead whole mine ne is =
    let now : happenings_of p (before n happens h) (suc n) ≡ happenings_of p happens n =
    happenings_more p happens n h ∙ ap (λ b. if b then happenings_of p happens n ++ h ∷ [] else happenings_of p happens n) (ne_eqb (pass_in h) p (λ e. ne (sym e ∙
    mine))) in
    ap (λ l. l ++ ahead) now ∙ is

next_to_more : (happens : ℕ → Happening) (n : ℕ) (tip h : Happening) → tip_of happens n ≡ tip → KeepCallsWhole tip h → ((t : ℕ) → suc t < n →
    KeepCallsWhole (happens t) (happens (suc t))) →
    (t : ℕ) → suc t < suc n → KeepCallsWhole (before n happens h t) (before n happens h (suc t))
next_to_more happens n tip h is follows all t low = ⊎_elim
    (λ (less : suc t < n). subst (λ z. KeepCallsWhole z (before n happens h (suc t))) (sym (before-old n happens h t (omega (arith, less))))
    (subst (KeepCallsWhole (happens t)) (sym (before-old n happens h (suc t) less)) (all t less)))
    (λ (more : n ≤ suc t).
    let e : n ≡ suc t = omega (arith, low, more) in
    let old : happens t ≡ tip = subst (λ k. tip_of happens k ≡ tip) e is in
    let new : before n happens h (suc t) ≡ h = subst (λ k. before n happens h k ≡ h) e (before-new n happens h) in
    subst (λ z. KeepCallsWhole z (before n happens h (suc t))) (sym (before-old n happens h t (omega (arith, low)) ∙ old)) (subst (KeepCallsWhole tip) (sym new) follows))
    (cases_lt (suc t) n)

pub reached_more : (table : TableView) (whole : ℕ → List Happening) (done to : List Event) (left : ℕ → Rest) (tip h : Happening) (q : ℕ) (r : Rest) (b : Instant) →
    (x : Reached table whole done left tip) → IsMore table x.last x.at left tip q r h to b → Reached table whole to (put left q r) h
reached_more table whole done to left tip h q r b x m =
    let n : ℕ = x.last in
    let new : upto n x.at b (suc n) ≡ b = upto-new n x.at b in
    record {
      last = suc n;
      at = upto n x.at b;
      happens = before n x.happens h;
      traced = traced_more table n x.at x.happens b h x.traced m.leads;
      run = ap (λ (z : Instant). z.run) new ∙ m.run;
      seats = put_all (λ p z. (upto n x.at b (suc n)).seat p ≡ z.seat) left q r (ap (λ (z : Instant). z.seat q) new ∙ m.seat)
          (λ p ne. ap (λ (z : Instant). z.seat p) new ∙ (m.seats p ne ∙ x.seats p));
      waits = put_all (λ p z. Waits (upto n x.at b) (suc n) p z.call) left q r m.waits (λ p ne. waits_on x.at n p b (left p).call (x.waits p) (m.pending p ne));
      own = put_all (λ p z. happenings_of p (before n x.happens h) (suc n) ++ z.ahead ≡ whole p) left q r
          (own_more q x.happens n h (left q).ahead r.ahead (whole q) m.whose m.ahead (x.own q))
          (λ p ne. own_other q p x.happens n h (left p).ahead (whole p) m.whose ne (x.own p));
      tip_is = before-new n x.happens h;
      next_to = next_to_more x.happens n tip h x.tip_is m.follows x.next_to;
      named = put_all (λ p z. z.seat.known.pass ≡ p) left q r m.named (λ p ne. x.named p);
      stands = put_all (λ p z. OthersStepOn p z.seat.trace to) left q r m.stands m.others;
    }
