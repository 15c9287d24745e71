-- The weave of several passes' calls has those of each pass once, in their order.
pub mod InOrder
use Rattle.plain_index.proofs.Common.{◌≡◌, ℕ, ◌+◌, List, [], ◌∷◌, ◌++◌, Bool, filter, not, ◌&&◌, nat_eq, refl, ap, sym, subst, ◌∙◌, filter-append, Change, Note, is_change, LegalCalls, Event, answered, quiet_at, changing_at, calls_of, made_by, weave_from, weave, notes_of, AllLegal}
use Rattle.plain_index.specs.Orders.{calls_in, AreWoven, empty, of_first, of_second, CallsAreWoven}
use Rattle.plain_index.proofs.Orders.InOrder.{weave-in_order}

-- Lists woven one after the other

woven_append : {xs ys zs us vs ws : List Event} → AreWoven xs ys zs → AreWoven us vs ws → AreWoven (xs ++ us) (ys ++ vs) (zs ++ ws)
woven_append empty b = b
woven_append (of_first a) b = of_first (woven_append a b)
woven_append (of_second a) b = of_second (woven_append a b)

woven_second : (ys : List Event) → AreWoven [] ys ys
woven_second [] = empty
woven_second (y ∷ ys) = of_second (woven_second ys)

-- the calls of two lists of notes, one list after the other
woven_calls : (ns ms : List Note) → AreWoven (calls_of ns) (calls_of ms) (calls_of (ns ++ ms))
woven_calls [] ms = woven_second (calls_of ms)
woven_calls (n ∷ ns) ms = of_first (woven_calls ns ms)

-- The calls in a history

calls_in-calls : (ns : List Note) (es : List Event) → calls_in (calls_of ns ++ es) ≡ calls_of ns ++ calls_in es
calls_in-calls [] es = refl
calls_in-calls (n ∷ ns) es = ap (λ l. answered n.call n.reply ∷ l) (calls_in-calls ns es)

pub calls_in-all : (ns : List Note) → calls_in (calls_of ns) ≡ calls_of ns
calls_in-all [] = refl
calls_in-all (n ∷ ns) = ap (λ l. answered n.call n.reply ∷ l) (calls_in-all ns)

calls_in-made : (c : Change) (ns : List Note) (es : List Event) → calls_in (made_by c ns ++ es) ≡ calls_of ns ++ calls_in es
calls_in-made c [] es = refl
calls_in-made c (n ∷ ns) es = calls_in-calls (n ∷ ns) es

-- the calls of one place, and those behind it
pub calls_here : (place : ℕ) (c : Change) (cs : List Change) (ns : List Note) →
    calls_in (weave_from place (c ∷ cs) ns) ≡ calls_of (quiet_at place ns) ++ (calls_of (changing_at place ns) ++ calls_in (weave_from (place + 1) cs ns))
calls_here place c cs ns = calls_in-calls (quiet_at place ns) _ ∙ ap (λ l. calls_of (quiet_at place ns) ++ l) (calls_in-made c (changing_at place ns) (weave_from (place + 1) cs ns))

-- The weave of two lists of notes

module _ (test : Note → Bool) where
  woven_where : (ns ms : List Note) → AreWoven (calls_of (filter test ns)) (calls_of (filter test ms)) (calls_of (filter test (ns ++ ms)))
  woven_where ns ms = subst (λ l. AreWoven (calls_of (filter test ns)) (calls_of (filter test ms)) (calls_of l)) (sym (filter-append test ns ms)) (woven_calls (filter test ns) (filter test ms))

woven_from : (place : ℕ) (cs : List Change) (ns ms : List Note) → AreWoven (calls_in (weave_from place cs ns)) (calls_in (weave_from place cs ms)) (calls_in (weave_from place cs (ns ++ ms)))
woven_from place [] ns ms = rw (calls_in-all (quiet_at place ns), calls_in-all (quiet_at place ms), calls_in-all (quiet_at place (ns ++ ms))) (woven_where (λ n. nat_eq n.place place && not (is_change n)) ns ms)
woven_from place (c ∷ cs) ns ms = rw (calls_here place c cs ns, calls_here place c cs ms, calls_here place c cs (ns ++ ms))
    (woven_append (woven_where (λ n. nat_eq n.place place && not (is_change n)) ns ms)
    (woven_append (woven_where (λ n. nat_eq n.place place && is_change n) ns ms) (woven_from (place + 1) cs ns ms)))

-- two passes
pub woven-in_order_two : (front : List Change) (p q : ℕ) (ns ms : List Note) → LegalCalls front p ns → LegalCalls front q ms → AreWoven (calls_of ns) (calls_of ms) (calls_in (weave front (ns ++ ms)))
woven-in_order_two front p q ns ms h g = subst (λ l. AreWoven l (calls_of ms) (calls_in (weave front (ns ++ ms)))) (weave-in_order front p ns h)
    (subst (λ l. AreWoven (calls_in (weave front ns)) l (calls_in (weave front (ns ++ ms)))) (weave-in_order front q ms g) (woven_from 0 front ns ms))

nothing_woven : (place : ℕ) (cs : List Change) → calls_in (weave_from place cs []) ≡ []
nothing_woven place [] = refl
nothing_woven place (c ∷ cs) = nothing_woven (place + 1) cs

-- any number of passes
pub woven-in_order : (front : List Change) (passes : List (ℕ × List Note)) → AllLegal front passes → CallsAreWoven passes (calls_in (weave front (notes_of passes)))
woven-in_order front [] h = nothing_woven 0 front
woven-in_order front (pass ∷ passes) h = (
  calls_in (weave front (notes_of passes)),
  woven-in_order front passes h.2,
  subst (λ l. AreWoven l (calls_in (weave front (notes_of passes))) (calls_in (weave front (pass.1 ++ notes_of passes)))) (weave-in_order front pass.0 pass.1 h.0) (woven_from 0 front pass.1 (notes_of passes)),
)
