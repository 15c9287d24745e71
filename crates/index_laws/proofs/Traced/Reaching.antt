-- An execution that is reached by the lives of passes, one happening after the other.
use Rattle.index_laws.proofs.Common.{◌≡◌, ⊎_elim, ℕ, suc, ◌<◌, ◌≤◌, List, [], cond, nat_le, nat_lt, Some, None, sym, ap, subst, ◌∙◌, arith, le_refl, cases_lt, le-leb, lt-leb, lt-ltb, le-ltb, Note, IsNewSeatOf, SeatView, TableView, Happening, Configuration, Pending, invokes, refuses, responds, shows, steps}
use Rattle.index_laws.specs.Executions.{HasReturned, IsReturning}
use Rattle.index_laws.specs.Traced.{ContractsLeadOn, Instant, IsSeatShowing, IsSeatStep, IsSeatTurn, IsTracedExecution, configuration_of}

-- Lists that go on at one place

-- the values up to n, and b behind them
abbrev pub upto : {A : Type 0} → ℕ → (ℕ → A) → A → ℕ → A
upto n f b t = cond (nat_le t n) (f t) b

-- the values before n, and b behind them
abbrev pub before : {A : Type 0} → ℕ → (ℕ → A) → A → ℕ → A
before n f b t = cond (nat_lt t n) (f t) b

pub upto-old : {A : Type 0} (n : ℕ) (f : ℕ → A) (b : A) (t : ℕ) → t ≤ n → upto n f b t ≡ f t
upto-old n f b t low = ap (λ z. cond z (f t) b) (le-leb t n low)

pub upto-new : {A : Type 0} (n : ℕ) (f : ℕ → A) (b : A) → upto n f b (suc n) ≡ b
upto-new n f b = ap (λ z. cond z (f (suc n)) b) (lt-leb (suc n) n (omega arith))

pub before-old : {A : Type 0} (n : ℕ) (f : ℕ → A) (b : A) (t : ℕ) → t < n → before n f b t ≡ f t
before-old n f b t low = ap (λ z. cond z (f t) b) (lt-ltb t n low)

pub before-new : {A : Type 0} (n : ℕ) (f : ℕ → A) (b : A) → before n f b n ≡ b
before-new n f b = ap (λ z. cond z (f n) b) (le-ltb n n (le_refl n))

-- Where the first times of two executions are the same

module _ (table : TableView) (at to : ℕ → Instant) (t : ℕ) (same : (s : ℕ) → s ≤ suc t → to s ≡ at s) where
  here : to t ≡ at t
  here = same t (omega arith)

  there : to (suc t) ≡ at (suc t)
  there = same (suc t) (omega arith)

  both : (P : Instant → Instant → Type 0) → P (at t) (at (suc t)) → P (to t) (to (suc t))
  both P h = subst (λ a. P a (to (suc t))) (sym here) (subst (P (at t)) (sym there) h)

  abbrev moments : (ℕ → Instant) → ℕ → Configuration
  moments f i = configuration_of table.layout (f i)

  returning : (q : ℕ) (call : Pending) (s e : SeatView) → IsReturning (moments at) q t call s e → IsReturning (moments to) q t call s e
  returning q call s e x =
      let low : call.since ≤ t = x.later in
      record {
        pending = subst (λ (z : Instant). z.pending q ≡ Some call) (sym here) x.pending;
        before = x.before ∙ ap (λ (z : Instant). (z.seat q).known) (sym (same call.since (omega (arith, low))));
        now = x.now ∙ ap (λ (z : Instant). (z.seat q).known) (sym here);
        pass = x.pass;
        later = x.later;
      }

  returned : (q : ℕ) (call : Pending) (notes : List Note) → HasReturned table.layout (moments at) q t call notes → HasReturned table.layout (moments to) q t call notes
  returned q call notes (s, e, x, how) = (s, e, returning q call s e x, how)

  pub leads_same : (h : Happening) → ContractsLeadOn table at t h → ContractsLeadOn table to t h
  leads_same (steps q act notes) x = both (λ a b. IsSeatStep table a b q act notes) x
  leads_same (shows q front) x = both (λ a b. IsSeatShowing table a b q front) x
  leads_same (invokes q calls) x =
      (subst (λ (z : Instant). z.pending q ≡ None) (sym here) x.0, both (λ a b. IsSeatTurn table.layout a b q (Some (record { since = t; calls = calls }))) x.1)
  leads_same (responds q notes) x = (x.0, returned q x.0 notes x.1, both (λ a b. IsSeatTurn table.layout a b q None) x.2)
  leads_same (refuses q) (call, (s, e, asked, fault, x, calls, refused, may), turn) =
      (call, (s, e, asked, fault, returning q call s e x, calls, refused, may), both (λ a b. IsSeatTurn table.layout a b q None) turn)

-- one happening more
pub traced_more : (table : TableView) (n : ℕ) (at : ℕ → Instant) (happens : ℕ → Happening) (b : Instant) (h : Happening) → IsTracedExecution table n at happens →
    ContractsLeadOn table (upto n at b) n h → IsTracedExecution table (suc n) (upto n at b) (before n happens h)
traced_more table n at happens b h x lead = record {
  run = subst (λ (z : Instant). z.run ≡ []) (sym (upto-old n at b 0 (omega arith))) x.run;
  seats = λ q. subst (λ (z : Instant). IsNewSeatOf table q (z.seat q)) (sym (upto-old n at b 0 (omega arith))) (x.seats q);
  pending = λ q. subst (λ (z : Instant). z.pending q ≡ None) (sym (upto-old n at b 0 (omega arith))) (x.pending q);
  next = λ t low. ⊎_elim
      (λ (less : t < n). subst (ContractsLeadOn table (upto n at b) t) (sym (before-old n happens h t less))
      (leads_same table at (upto n at b) t (λ s upper. upto-old n at b s (omega (arith, upper, less))) (happens t) (x.next t less)))
      (λ (more : n ≤ t). let e : n ≡ t = omega (arith, low, more) in
      subst (λ k. ContractsLeadOn table (upto n at b) k (before n happens h k)) e (subst (ContractsLeadOn table (upto n at b) n) (sym (before-new n happens h)) lead))
      (cases_lt t n);
}
