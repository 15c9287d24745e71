-- Where the next step of a pass stands in a run that goes on.
use Rattle.index_laws.proofs.Common.{◌≡◌, ◌≢◌, ℕ, List, [], ◌∷◌, ◌++◌, refl, sym, ap, subst, ◌∙◌, append_assoc, All, All-cons, All-head, All-nil, All-tail, Event, OthersStepOn, RunBeginsWith}

-- steps of other passes than q
abbrev pub Others : ℕ → List Event → Type 0
Others q xs = All (λ (x : Event). x.pass ≢ q) xs

pub none_in : (q : ℕ) (d todo : List Event) (x : Event) → Others q (d ++ x ∷ todo) → x.pass ≡ q → ⊥
none_in q [] todo x h e = All-head (λ (z : Event). z.pass ≢ q) x todo h e
none_in q (y ∷ d) todo x h e = none_in q d todo x (All-tail (λ (z : Event). z.pass ≢ q) y (d ++ x ∷ todo) h) e

-- the first step of q is one, and stands at one place
first_is : (q : ℕ) (d b todo more : List Event) (x y : Event) → Others q d → Others q b → x.pass ≡ q → y.pass ≡ q → d ++ x ∷ todo ≡ (b ++ y ∷ []) ++ more →
    (b ≡ d) × (y ≡ x)
first_is q [] [] todo more x y hd hb ex ey e = let head : y ≡ x = cc in (refl, head)
first_is q [] (z ∷ b) todo more x y hd hb ex ey e =
    let head : x ≡ z = cc in absurd (All-head (λ (v : Event). v.pass ≢ q) z b hb (subst (λ (v : Event). v.pass ≡ q) head ex))
first_is q (z ∷ d) [] todo more x y hd hb ex ey e =
    let head : y ≡ z = cc in absurd (All-head (λ (v : Event). v.pass ≢ q) z d hd (subst (λ (v : Event). v.pass ≡ q) head ey))
first_is q (z ∷ d) (w ∷ b) todo more x y hd hb ex ey e =
    let head : w ≡ z = cc in
    let rest : d ++ x ∷ todo ≡ (b ++ y ∷ []) ++ more = cc in
    let r = first_is q d b todo more x y (All-tail (λ (v : Event). v.pass ≢ q) z d hd) (All-tail (λ (v : Event). v.pass ≢ q) w b hb) ex ey rest in
    (λ i. head i ∷ r.0 i, r.1)

-- steps of others up to it
others_first : (q : ℕ) (d g todo more : List Event) (x : Event) → Others q d → Others q g → x.pass ≡ q → d ++ x ∷ todo ≡ g ++ more →
    (r : List Event) × (d ≡ g ++ r) × Others q r
others_first q d [] todo more x hd hg ex e = (d, refl, hd)
others_first q [] (z ∷ g) todo more x hd hg ex e =
    let head : x ≡ z = cc in absurd (All-head (λ (v : Event). v.pass ≢ q) z g hg (subst (λ (v : Event). v.pass ≡ q) head ex))
others_first q (w ∷ d) (z ∷ g) todo more x hd hg ex e =
    let head : w ≡ z = cc in
    let rest : d ++ x ∷ todo ≡ g ++ more = cc in
    let r = others_first q d g todo more x (All-tail (λ (v : Event). v.pass ≢ q) w d hd) (All-tail (λ (v : Event). v.pass ≢ q) z g hg) ex rest in
    (r.0, λ i. head i ∷ r.1 i, r.2)

same_rest : (a d e : List Event) → a ++ d ≡ a ++ e → d ≡ e
same_rest [] d e h = h
same_rest (x ∷ a) d e h = let rest : a ++ d ≡ a ++ e = cc in same_rest a d e rest

others_behind : (q : ℕ) (g more : List Event) → Others q (g ++ more) → Others q more
others_behind q [] more h = h
others_behind q (x ∷ g) more h = others_behind q g more (All-tail (λ (v : Event). v.pass ≢ q) x (g ++ more) h)

-- A pass knows of the steps `trace`; the run is `done` so far, and x of this pass comes next. Its own next step is x, behind `done`.
pub step_next : (q : ℕ) (trace done before todo : List Event) (x y : Event) → OthersStepOn q trace done → OthersStepOn q trace before → x.pass ≡ q → y.pass ≡ q →
    RunBeginsWith (done ++ x ∷ todo) (before ++ y ∷ []) → (before ≡ done) × (y ≡ x)
step_next q trace done before todo x y g h ex ey r =
    let e : trace ++ (g.0 ++ x ∷ todo) ≡ trace ++ ((h.0 ++ y ∷ []) ++ r.0) =
    sym (append_assoc trace g.0 (x ∷ todo)) ∙ (ap (λ l. l ++ x ∷ todo) (sym g.1) ∙ (r.1 ∙ (ap (λ l. (l ++ y ∷ []) ++ r.0) h.1 ∙
    (ap (λ l. l ++ r.0) (append_assoc trace h.0 (y ∷ [])) ∙ append_assoc trace (h.0 ++ y ∷ []) r.0)))) in
    let f = first_is q g.0 h.0 todo r.0 x y g.2 h.2 ex ey (same_rest trace (g.0 ++ x ∷ todo) ((h.0 ++ y ∷ []) ++ r.0) e) in
    (h.1 ∙ (ap (λ l. trace ++ l) f.0 ∙ sym g.1), f.1)

-- what it is shown before that has been made
pub shown_next : (q : ℕ) (trace done now todo : List Event) (x : Event) → OthersStepOn q trace done → OthersStepOn q trace now → x.pass ≡ q →
    RunBeginsWith (done ++ x ∷ todo) now → OthersStepOn q now done
shown_next q trace done now todo x g h ex r =
    let e : trace ++ (g.0 ++ x ∷ todo) ≡ trace ++ (h.0 ++ r.0) =
    sym (append_assoc trace g.0 (x ∷ todo)) ∙ (ap (λ l. l ++ x ∷ todo) (sym g.1) ∙ (r.1 ∙ (ap (λ l. l ++ r.0) h.1 ∙ append_assoc trace h.0 r.0))) in
    let f = others_first q g.0 h.0 todo r.0 x g.2 h.2 ex (same_rest trace (g.0 ++ x ∷ todo) (h.0 ++ r.0) e) in
    (f.0, g.1 ∙ (ap (λ l. trace ++ l) f.1 ∙ (sym (append_assoc trace h.0 f.0) ∙ ap (λ l. l ++ f.0) (sym h.1))), f.2)

-- and so where no step comes any more
pub shown_last : (q : ℕ) (trace done now : List Event) → OthersStepOn q trace done → OthersStepOn q trace now → RunBeginsWith done now → OthersStepOn q now done
shown_last q trace done now g h r =
    let e : trace ++ g.0 ≡ trace ++ (h.0 ++ r.0) = sym g.1 ∙ (r.1 ∙ (ap (λ l. l ++ r.0) h.1 ∙ append_assoc trace h.0 r.0)) in
    (r.0, r.1, others_behind q h.0 r.0 (subst (Others q) (same_rest trace g.0 (h.0 ++ r.0) e) g.2))

pub no_step_left : (q : ℕ) (trace done before : List Event) (y : Event) → OthersStepOn q trace done → OthersStepOn q trace before → y.pass ≡ q →
    RunBeginsWith done (before ++ y ∷ []) → ⊥
no_step_left q trace done before y g h ey r =
    let e : trace ++ g.0 ≡ trace ++ ((h.0 ++ y ∷ []) ++ r.0) =
    sym g.1 ∙ (r.1 ∙ (ap (λ l. (l ++ y ∷ []) ++ r.0) h.1 ∙ (ap (λ l. l ++ r.0) (append_assoc trace h.0 (y ∷ [])) ∙ append_assoc trace (h.0 ++ y ∷ []) r.0))) in
    none_in q h.0 r.0 y (subst (Others q) (same_rest trace g.0 ((h.0 ++ y ∷ []) ++ r.0) e ∙ append_assoc h.0 (y ∷ []) r.0) g.2) ey

pub none_next : (q : ℕ) (trace done todo : List Event) (x : Event) → OthersStepOn q trace done → OthersStepOn q trace (done ++ x ∷ todo) → x.pass ≡ q → ⊥
none_next q trace done todo x g h ex =
    let e : trace ++ (g.0 ++ x ∷ todo) ≡ trace ++ h.0 = sym (append_assoc trace g.0 (x ∷ todo)) ∙ (ap (λ l. l ++ x ∷ todo) (sym g.1) ∙ h.1) in
    none_in q g.0 todo x (subst (Others q) (sym (same_rest trace (g.0 ++ x ∷ todo) h.0 e)) h.2) ex

-- what stands between two lists of steps, of which a pass knew the one and then the other, without making a step
others_before : (q : ℕ) (g more : List Event) → Others q (g ++ more) → Others q g
others_before q [] more h = All-nil (λ (x : Event). x.pass ≢ q)
others_before q (x ∷ g) more h =
    All-cons (λ (v : Event). v.pass ≢ q) x g (All-head (λ (v : Event). v.pass ≢ q) x (g ++ more) h) (others_before q g more (All-tail (λ (v : Event). v.pass ≢ q) x
    (g ++ more) h))

pub others_between : (q : ℕ) (trace run later : List Event) → OthersStepOn q trace later → RunBeginsWith run trace → RunBeginsWith later run → OthersStepOn q trace run
others_between q trace run later g r h =
    let e : trace ++ g.0 ≡ trace ++ (r.0 ++ h.0) = sym g.1 ∙ (h.1 ∙ (ap (λ l. l ++ h.0) r.1 ∙ append_assoc trace r.0 h.0)) in
    (r.0, r.1, others_before q r.0 h.0 (subst (Others q) (same_rest trace g.0 (r.0 ++ h.0) e) g.2))
