-- Fronts that go on: their maps, their legality, and prefixes.
use Rattle.finite_map.proofs.Common.{◌≡◌, ◌≢◌, ◌⊎◌, ℕ, List, [], ◌∷◌, ◌++◌, refl, sym, ap, subst, ◌∙◌, append_assoc, append-nil, fold, IsStrictlySortedBy, fold-append, All-append, All-nil}
use Rattle.finite_map.specs.declared.Change.{Change}
use Rattle.finite_map.specs.declared.Kind.{Kind}
use Rattle.finite_map.specs.declared.Kind.TheVariants.{Added, Replaced, Removed}
use Rattle.finite_map.specs.Maps.{Map, IsRising, value_at}
use Rattle.finite_map.specs.Fronts.{changed, changed_by, map_of, Fits, LegalFrom, LegalFront, BeginsWith, OthersGoOn}
use Rattle.finite_map.proofs.Maps.{with_value-rising, without-rising, value_at-with_value_other, value_at-without_other}

-- The map of a front

pub map_of-append : (front more : List Change) → map_of (front ++ more) ≡ fold changed (map_of front) more
map_of-append front more = fold-append changed [] front more

pub map_of-push : (front : List Change) (c : Change) → map_of (front ++ c ∷ []) ≡ changed (map_of front) c
map_of-push front c = map_of-append front (c ∷ [])

pub changed_by-rising : (kind : Kind) (m : Map) (key : List ℕ) (value : ℕ) → IsRising m → IsRising (changed_by kind m key value)
changed_by-rising Added m key value r = with_value-rising key value m r
changed_by-rising Replaced m key value r = with_value-rising key value m r
changed_by-rising Removed m key value r = without-rising key m r

fold-rising : (m : Map) (cs : List Change) → IsRising m → IsRising (fold changed m cs)
fold-rising m [] r = r
fold-rising m (c ∷ cs) r = fold-rising (changed m c) cs (changed_by-rising c.kind m c.key c.value r)

-- the keys of every front's map are in order
pub map_of-rising : (front : List Change) → IsRising (map_of front)
unfolding IsStrictlySortedBy
map_of-rising front = fold-rising [] front tt

pub changed_by-other : (kind : Kind) (m : Map) (key : List ℕ) (value : ℕ) (q : List ℕ) → IsRising m → q ≢ key → value_at (changed_by kind m key value) q ≡ value_at m q
changed_by-other Added m key value q r ne = value_at-with_value_other key value m q ne
changed_by-other Replaced m key value q r ne = value_at-with_value_other key value m q ne
changed_by-other Removed m key value q r ne = value_at-without_other key m q r ne

-- Legal fronts

legal_from_push : (m : Map) (front : List Change) (c : Change) → LegalFrom m front → Fits (fold changed m front) c → LegalFrom m (front ++ c ∷ [])
legal_from_push m [] c l f = (f, tt)
legal_from_push m (x ∷ xs) c l f = (l.0, legal_from_push (changed m x) xs c l.1 f)

pub legal_front_push : (front : List Change) (c : Change) → LegalFront front → Fits (map_of front) c → LegalFront (front ++ c ∷ [])
legal_front_push front c l f = legal_from_push [] front c l f

legal_from_part : (m : Map) (front more : List Change) → LegalFrom m (front ++ more) → LegalFrom m front
legal_from_part m [] more l = tt
legal_from_part m (c ∷ cs) more l = (l.0, legal_from_part (changed m c) cs more l.1)

-- what a legal front begins with is legal
pub legal_front_part : (front later : List Change) → BeginsWith later front → LegalFront later → LegalFront front
legal_front_part front later b l = legal_from_part [] front b.0 (subst LegalFront b.1 l)

-- Beginning with a front is an order

pub begins_itself : (front : List Change) → BeginsWith front front
begins_itself front = ([], sym (append-nil front))

pub begins_push : (front : List Change) (c : Change) → BeginsWith (front ++ c ∷ []) front
begins_push front c = (c ∷ [], refl)

pub begins_on : (a b c : List Change) → BeginsWith b a → BeginsWith c b → BeginsWith c a
begins_on a b c g h = (g.0 ++ h.0, h.1 ∙ ap (λ xs. xs ++ h.0) g.1 ∙ append_assoc a g.0 h.0)

no_more : (a more : List Change) → a ≡ a ++ more → more ≡ []
no_more [] more e = sym e
no_more (x ∷ xs) more e = no_more xs more cc

pub nothing_before : (xs ys : List Change) → xs ++ ys ≡ [] → xs ≡ []
nothing_before [] ys e = refl
nothing_before (x ∷ xs) ys e = cc

pub begins_same : (a b : List Change) → BeginsWith a b → BeginsWith b a → a ≡ b
begins_same a b g h =
    let none : h.0 ++ g.0 ≡ [] = no_more a (h.0 ++ g.0) (g.1 ∙ ap (λ xs. xs ++ g.0) h.1 ∙ append_assoc a h.0 g.0) in
    sym (h.1 ∙ ap (λ xs. a ++ xs) (nothing_before h.0 g.0 none) ∙ append-nil a)

-- Going on by others' changes alone

pub others_none : (q : ℕ) (front : List Change) → OthersGoOn q front front
others_none q front = ([], sym (append-nil front), All-nil (λ x. x.pass ≢ q))

pub others_on : (q : ℕ) (a b c : List Change) → OthersGoOn q a b → OthersGoOn q b c → OthersGoOn q a c
others_on q a b c g h = (g.0 ++ h.0, h.1 ∙ ap (λ xs. xs ++ h.0) g.1 ∙ append_assoc a g.0 h.0, All-append (λ x. x.pass ≢ q) g.0 h.0 g.2 h.2)

pub others_begin : (q : ℕ) (front later : List Change) → OthersGoOn q front later → BeginsWith later front
others_begin q front later g = (g.0, g.1)
