-- Pending calls that have changed the map are completed as the map answers them.
use Rattle.linearizability.proofs.Common.{◌≡◌, ◌≢◌, ℕ, ◌≤◌, List, [], ◌∷◌, ◌++◌, length, true, cond, ◌&&◌, Option, Some, None, refl, sym, ap, subst, ◌∙◌, arith, ⊎_elim, append-nil, append_assoc, length-append, All, option_map, and_parts, cases_eq, cond_both, eq-eqb, eqb-true, ne_eqb, All-cons, All-nil, Call, Upsert, Remove, Change, Kind, Added, Replaced, Removed, Note, LegalCalls, change_of, effect_of, Fits, FitsKind, LegalFrom, changed, map_of, Map, key_of, key_order, reply_of, step_where, value_at, legal_front_push, map_of-push, same_from_at, legal_change, legal_longer, pass-change_of, call_of_kind}
use Rattle.std.specs.Prelude.{fold, nat_eq}
use Rattle.std.specs.BTreeMap.{is_at}
use Rattle.linearizability.specs.Effects.{has_same_effect, maker_note, maker_notes, same_kind}
use Rattle.linearizability.specs.Histories.{replied}

-- Which change

kinds_same : (k l : Kind) → same_kind k l ≡ true → k ≡ l
kinds_same Added Added e = refl
kinds_same Added Replaced e = cc
kinds_same Added Removed e = cc
kinds_same Replaced Added e = cc
kinds_same Replaced Replaced e = refl
kinds_same Replaced Removed e = cc
kinds_same Removed Added e = cc
kinds_same Removed Replaced e = cc
kinds_same Removed Removed e = refl

changes_same : (c x : Change) → c.pass ≡ x.pass → c.key ≡ x.key → c.value ≡ x.value → c.kind ≡ x.kind → c ≡ x
changes_same c x pass key value kind =
    ap (λ p. record { pass = p; key = c.key; value = c.value; kind = c.kind }) pass
    ∙ ap (λ k. record { pass = x.pass; key = k; value = c.value; kind = c.kind }) key
    ∙ ap (λ v. record { pass = x.pass; key = x.key; value = v; kind = c.kind }) value
    ∙ ap (λ k. record { pass = x.pass; key = x.key; value = x.value; kind = k }) kind

this_is : (q : ℕ) (n : Note) (x : Change) → x.pass ≡ q → (o : Option Change) → change_of q n ≡ o → has_same_effect x o ≡ true → o ≡ Some x
this_is q n x pass None e is = cc
this_is q n x pass (Some c) e is =
    let parts = and_parts (same_kind c.kind x.kind) (nat_eq c.value x.value && is_at (key_order c.key) x.key) is in
    let more = and_parts (nat_eq c.value x.value) (is_at (key_order c.key) x.key) parts.1 in
    ap (λ z. Some z) (changes_same c x (pass-change_of q n c e ∙ sym pass) (same_from_at c.key x.key more.1) (eqb-true c.value x.value more.0) (kinds_same c.kind x.kind parts.0))

-- The call of a change

abbrev made_with : ℕ → Call → Kind × ℕ → Change
made_with q call effect = record { pass = q; key = key_of call; value = effect.1; kind = effect.0 }

-- what a call changes where its key holds this
abbrev made_where : ℕ → Map → Call → Option ℕ → Option Change
made_where q m call held = option_map (made_with q call) (effect_of call (step_where held m call).1)

makes_kind : (q : ℕ) (m : Map) (kind : Kind) (key : List ℕ) (value : ℕ) (held : Option ℕ) → FitsKind kind held value →
    made_where q m (call_of_kind kind key value) held ≡ Some (record { pass = q; key = key; value = value; kind = kind })
makes_kind q m Added key value held fits = ap (made_where q m (Upsert key value)) fits
makes_kind q m Replaced key value None fits = cc
makes_kind q m Replaced key value (Some v) fits = refl
makes_kind q m Removed key value held fits = ap (made_where q m (Remove key)) fits

key_of_kind : (kind : Kind) (key : List ℕ) (value : ℕ) → key_of (call_of_kind kind key value) ≡ key
key_of_kind Added key value = refl
key_of_kind Replaced key value = refl
key_of_kind Removed key value = refl

makes_it : (q : ℕ) (m : Map) (kind : Kind) (key : List ℕ) (value : ℕ) → FitsKind kind (value_at m key) value →
    option_map (made_with q (call_of_kind kind key value)) (effect_of (call_of_kind kind key value) (reply_of m (call_of_kind kind key value))) ≡ Some (record { pass = q; key = key; value = value; kind = kind })
makes_it q m kind key value fits = subst (λ k. made_where q m (call_of_kind kind key value) (value_at m k) ≡ Some (record { pass = q; key = key; value = value; kind = kind }))
    (sym (key_of_kind kind key value)) (makes_kind q m kind key value (value_at m key) fits)

-- it is answered as the map answers it, and made this change
pub record Made (q : ℕ) (front : List Change) (x : Change) (n : Note) : Type 0 where
  pub place : n.place ≡ length front
  pub reply : n.reply ≡ reply_of (map_of front) n.call
  pub change : change_of q n ≡ Some x

pub maker_made : (q : ℕ) (calls : List Call) (front : List Change) (x : Change) → Fits (map_of front) x → x.pass ≡ q → Made q front x (maker_note q calls front x)
maker_made q [] front x fits pass = record {
  place = refl;
  reply = refl;
  change = makes_it q (map_of front) x.kind x.key x.value fits ∙ ap (λ p. Some (record { pass = p; key = x.key; value = x.value; kind = x.kind })) (sym pass);
}
maker_made q (call ∷ calls) front x fits pass = cond_both (has_same_effect x (change_of q (replied front call))) (replied front call) (maker_note q calls front x) (Made q front x)
    (λ is. record { place = refl; reply = refl; change = this_is q (replied front call) x pass (change_of q (replied front call)) refl is })
    (λ _. maker_made q calls front x fits pass)

-- The changes from a front on

-- each fits the map of those before it
pub legal_on : (m : Map) (front more : List Change) → LegalFrom m (front ++ more) → LegalFrom (fold changed m front) more
legal_on m [] more h = h
legal_on m (c ∷ front) more h = legal_on (changed m c) front more h.1

pub makers_legal : (q : ℕ) (calls : List Call) (xs front : List Change) (ns : List Note) → LegalCalls front q ns → LegalFrom (map_of front) xs → LegalCalls (front ++ xs) q (ns ++ maker_notes q calls front xs)
makers_legal q calls [] front ns h legal = subst (λ l. LegalCalls l q (ns ++ [])) (sym (append-nil front)) (subst (LegalCalls front q) (sym (append-nil ns)) h)
makers_legal q calls (x ∷ xs) front ns h legal = ⊎_elim (λ e. own e (λ ms g. makers_legal q calls xs (front ++ x ∷ []) ms g next)) (λ ne. other ne (λ ms g. makers_legal q calls xs (front ++ x ∷ []) ms g next)) (cases_eq x.pass q)
  where
    next : LegalFrom (map_of (front ++ x ∷ [])) xs
    next = subst (λ m. LegalFrom m xs) (sym (map_of-push front x)) legal.1

    whole : (ms : List Note) → LegalCalls ((front ++ x ∷ []) ++ xs) q ms → LegalCalls (front ++ x ∷ xs) q ms
    whole ms g = subst (λ l. LegalCalls l q ms) (append_assoc front (x ∷ []) xs) g

    Later : Type 0
    Later = (ms : List Note) → LegalCalls (front ++ x ∷ []) q ms → LegalCalls ((front ++ x ∷ []) ++ xs) q (ms ++ maker_notes q calls (front ++ x ∷ []) xs)

    own : x.pass ≡ q → Later → LegalCalls (front ++ x ∷ xs) q (ns ++ maker_notes q calls front (x ∷ xs))
    own e later =
        let n : Note = maker_note q calls front x in
        let made = maker_made q calls front x legal.0 e in
        let more = later (ns ++ n ∷ []) (legal_change front q ns n x h made.place made.reply made.change) in
        subst (λ b. LegalCalls (front ++ x ∷ xs) q (ns ++ cond b (n ∷ maker_notes q calls (front ++ x ∷ []) xs) (maker_notes q calls (front ++ x ∷ []) xs))) (sym (eq-eqb x.pass q e))
        (whole (ns ++ n ∷ maker_notes q calls (front ++ x ∷ []) xs) (subst (LegalCalls ((front ++ x ∷ []) ++ xs) q) (append_assoc ns (n ∷ []) (maker_notes q calls (front ++ x ∷ []) xs)) more))

    other : x.pass ≢ q → Later → LegalCalls (front ++ x ∷ xs) q (ns ++ maker_notes q calls front (x ∷ xs))
    other ne later =
        let longer = legal_longer front (front ++ x ∷ []) q ns h (x ∷ [], refl, All-cons (λ c. c.pass ≢ q) x [] ne (All-nil (λ c. c.pass ≢ q))) (legal_front_push front x h.legal legal.0) in
        let more = later ns longer in
        subst (λ b. LegalCalls (front ++ x ∷ xs) q (ns ++ cond b (maker_note q calls front x ∷ maker_notes q calls (front ++ x ∷ []) xs) (maker_notes q calls (front ++ x ∷ []) xs))) (sym (ne_eqb x.pass q ne))
        (whole (ns ++ maker_notes q calls (front ++ x ∷ []) xs) more)

-- their places are none of the front
pub makers_behind : (q : ℕ) (calls : List Call) (xs front : List Change) (low : ℕ) → low ≤ length front → LegalFrom (map_of front) xs → All (λ n. low ≤ n.place) (maker_notes q calls front xs)
makers_behind q calls [] front low h legal = All-nil (λ n. low ≤ n.place)
makers_behind q calls (x ∷ xs) front low h legal =
    let long = length-append front (x ∷ []) in
    let more = makers_behind q calls xs (front ++ x ∷ []) low (omega (arith, long, h)) (subst (λ m. LegalFrom m xs) (sym (map_of-push front x)) legal.1) in
    ⊎_elim
    (λ e. subst (λ b. All (λ n. low ≤ n.place) (cond b (maker_note q calls front x ∷ maker_notes q calls (front ++ x ∷ []) xs) (maker_notes q calls (front ++ x ∷ []) xs))) (sym (eq-eqb x.pass q e))
    (let place = (maker_made q calls front x legal.0 e).place in All-cons (λ n. low ≤ n.place) (maker_note q calls front x) (maker_notes q calls (front ++ x ∷ []) xs) (omega (arith, place, h)) more))
    (λ ne. subst (λ b. All (λ n. low ≤ n.place) (cond b (maker_note q calls front x ∷ maker_notes q calls (front ++ x ∷ []) xs) (maker_notes q calls (front ++ x ∷ []) xs))) (sym (ne_eqb x.pass q ne)) more)
    (cases_eq x.pass q)
