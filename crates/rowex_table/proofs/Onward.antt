-- Lists of steps, and traces, where the run goes on.
use Rattle.rowex_table.proofs.Common.{◌≡◌, ◌≢◌, ◌⊎◌, ℕ, ◌<◌, List, [], ◌∷◌, ◌++◌, refl, sym, ap, subst, ◌∙◌, inl, inr, ⊎_elim, append_assoc, append-nil, cases_lt, All-append, All-cons, All-nil, Act, Event, Core, Legal, after, IsViewOf, EventsLead}
use Rattle.rowex_table.specs.declared.traces.TracedView.{TracedView}
use Rattle.rowex_table.specs.declared.traces.TracedView.TheVariants.{Spent, Dealer, Founder, Pass, Pair, Witness, Follower}
use Rattle.rowex_table.specs.Traces.{HasTraces, IsNextStep, OthersStepOn, RunBeginsWith, view_of}

-- Steps one after the other

pub begins_itself : (run : List Event) → RunBeginsWith run run
begins_itself run = ([], sym (append-nil run))

pub begins_on : (a b c : List Event) → RunBeginsWith b a → RunBeginsWith c b → RunBeginsWith c a
begins_on a b c g h = (g.0 ++ h.0, h.1 ∙ ap (λ xs. xs ++ h.0) g.1 ∙ append_assoc a g.0 h.0)

pub begins_more : (a b : List Event) (x : Event) → RunBeginsWith b a → RunBeginsWith (b ++ x ∷ []) a
begins_more a b x g = begins_on a b (b ++ x ∷ []) g (x ∷ [], refl)

pub others_none : (q : ℕ) (run : List Event) → OthersStepOn q run run
others_none q run = ([], sym (append-nil run), All-nil (λ x. x.pass ≢ q))

pub others_on : (q : ℕ) (a b c : List Event) → OthersStepOn q a b → OthersStepOn q b c → OthersStepOn q a c
others_on q a b c g h = (g.0 ++ h.0, h.1 ∙ ap (λ xs. xs ++ h.0) g.1 ∙ append_assoc a g.0 h.0, All-append (λ x. x.pass ≢ q) g.0 h.0 g.2 h.2)

pub others_more : (q : ℕ) (a b : List Event) (x : Event) → x.pass ≢ q → OthersStepOn q a b → OthersStepOn q a (b ++ x ∷ [])
others_more q a b x ne g = others_on q a b (b ++ x ∷ []) g (x ∷ [], refl, All-cons (λ y. y.pass ≢ q) x [] ne (All-nil (λ y. y.pass ≢ q)))

pub others_begin : (q : ℕ) (a b : List Event) → OthersStepOn q a b → RunBeginsWith b a
others_begin q a b g = (g.0, g.1)

parts : (a b x y : List Event) → a ++ x ≡ b ++ y → RunBeginsWith b a ⊎ RunBeginsWith a b
parts [] b x y e = inl (b, refl)
parts (p ∷ a) [] x y e = inr (p ∷ a, refl)
parts (p ∷ a) (q ∷ b) x y e =
    let head : p ≡ q = cc in
    let rest : a ++ x ≡ b ++ y = cc in
    ⊎_elim (λ (h : RunBeginsWith b a). inl (h.0, λ i. sym head i ∷ h.1 i)) (λ (h : RunBeginsWith a b). inr (h.0, λ i. head i ∷ h.1 i)) (parts a b x y rest)

-- of two lists with which one run begins, the one begins with the other
pub of_one_run : (run a b : List Event) → RunBeginsWith run a → RunBeginsWith run b → RunBeginsWith b a ⊎ RunBeginsWith a b
of_one_run run a b g h = parts a b g.0 h.0 (sym g.1 ∙ h.1)

-- one legal step more
pub led_more : (c : Core) (run : List Event) (d : Core) (q : ℕ) (act : Act) → EventsLead c run d → Legal d q act → EventsLead c (run ++ record { pass = q; act = act } ∷ []) (after d q act)
led_more c [] d q act e legal = (subst (λ z. Legal z q act) e legal, ap (λ z. after z q act) e)
led_more c (x ∷ xs) d q act e legal = (e.0, led_more (after c x.pass x.act) xs d q act e.1 legal)

-- the trace of the pass that makes a step goes on
pub next_begins : {layout : _} {q : ℕ} {act : Act} {core : Core} {trace next : List Event} → IsNextStep layout q act core trace next → RunBeginsWith next trace
next_begins {layout} {q} {act} {core} {trace} {next} n =
    let x : Event = record { pass = q; act = act } in
    subst (λ z. RunBeginsWith z trace) (sym n.next_is) (begins_more trace n.before x (others_begin q trace n.before n.others))

-- and of no other
pub traces_more : (run : List Event) (x : Event) (v : TracedView) → ¬ IsViewOf (view_of v) x.pass → HasTraces run v → HasTraces (run ++ x ∷ []) v
traces_more run x Spent none h = tt
traces_more run x (Dealer m b) none h =
    All-append (λ y. y.pass < m) run (x ∷ []) h (All-cons (λ y. y.pass < m) x [] (⊎_elim (λ low. low) (λ high. absurd (none high)) (cases_lt x.pass m)) (All-nil (λ y. y.pass < m)))
traces_more run x (Founder k t m) none h = (
  others_more k.pass t.events run x (λ e. none (inl (sym e))) h.0,
  All-append (λ y. y.pass < m) run (x ∷ []) h.1 (All-cons (λ y. y.pass < m) x [] (⊎_elim (λ low. low) (λ high. absurd (none (inr high))) (cases_lt x.pass m)) (All-nil (λ y. y.pass < m))),
)
traces_more run x (Pass k t) none h = others_more k.pass t.events run x (λ e. none (sym e)) h
traces_more run x (Pair j t k u) none h = (others_more j.pass t.events run x (λ e. none (inl (sym e))) h.0, others_more k.pass u.events run x (λ e. none (inr (sym e))) h.1)
traces_more run x (Witness front events) none h = begins_more events run x h
traces_more run x (Follower k t front events) none h = (others_more k.pass t.events run x (λ e. none (sym e)) h.0, begins_more events run x h.1)
