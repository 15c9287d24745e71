-- What the first changes of a front lead to, change by change.
use Rattle.plain_index.proofs.Common.{◌≡◌, ◌≢◌, ℕ, zero, suc, ◌+◌, ◌<◌, List, [], ◌∷◌, length, take, get_or, Option, Some, None, sym, ap, subst, ◌∙◌, arith, fold, take_more, Change, Kind, Added, Replaced, Removed, Map, IsRising, value_at, changed, changed_by, map_of, Fits, LegalFrom, LegalFront, value_at-with_value_same, value_at-without_same, map_of-push, map_of-rising, legal_front_push, changed_by-other}

map_of-take_more : (front : List Change) (i : ℕ) (d : Change) → i < length front → map_of (take (i + 1) front) ≡ changed (map_of (take i front)) (get_or front i d)
map_of-take_more front i d l = ap map_of (take_more front i d l) ∙ map_of-push (take i front) (get_or front i d)

-- what a change of this kind and value leaves at its key
abbrev left_by : Kind → ℕ → Option ℕ
left_by Added value = Some value
left_by Replaced value = Some value
left_by Removed value = None

changed_by-same : (kind : Kind) (m : Map) (key : List ℕ) (value : ℕ) → IsRising m → value_at (changed_by kind m key value) key ≡ left_by kind value
changed_by-same Added m key value r = value_at-with_value_same key value m
changed_by-same Replaced m key value r = value_at-with_value_same key value m
changed_by-same Removed m key value r = value_at-without_same key m r

-- one change more: of the key, or of another
pub value_after_same : (front : List Change) (i : ℕ) (c : Change) (kind : Kind) (key : List ℕ) → i < length front → c ≡ get_or front i c → c.kind ≡ kind → c.key ≡ key →
    left_by kind c.value ≡ value_at (map_of (take (i + 1) front)) key
value_after_same front i c kind key l is of at =
    sym (ap (λ m. value_at m key) (map_of-take_more front i c l ∙ ap (changed (map_of (take i front))) (sym is))
    ∙ ap (value_at (changed (map_of (take i front)) c)) (sym at)
    ∙ changed_by-same c.kind (map_of (take i front)) c.key c.value (map_of-rising (take i front)) ∙ ap (λ k. left_by k c.value) of)

pub value_after_other : (front : List Change) (i : ℕ) (c : Change) (key : List ℕ) → i < length front → c ≡ get_or front i c → c.key ≢ key →
    value_at (map_of (take i front)) key ≡ value_at (map_of (take (i + 1) front)) key
value_after_other front i c key l is apart =
    sym (ap (λ m. value_at m key) (map_of-take_more front i c l ∙ ap (changed (map_of (take i front))) (sym is))
    ∙ changed_by-other c.kind (map_of (take i front)) c.key c.value key (map_of-rising (take i front)) (λ e. apart (sym e)))

-- one legal change more
pub legal_take_more : (front : List Change) (i : ℕ) (c : Change) → i < length front → c ≡ get_or front i c → LegalFront (take i front) → Fits (map_of (take i front)) c → LegalFront (take (i + 1) front)
legal_take_more front i c l is legal fits = subst LegalFront (sym (take_more front i c l)) (legal_front_push (take i front) (get_or front i c) legal (subst (Fits (map_of (take i front))) is fits))

fits_from : (m : Map) (front : List Change) (i : ℕ) (d : Change) → i < length front → LegalFrom m front → Fits (fold changed m (take i front)) (get_or front i d)
fits_from m [] i d l h = absurd (omega arith)
fits_from m (c ∷ cs) zero d l h = h.0
fits_from m (c ∷ cs) (suc i) d l h = fits_from (changed m c) cs i d (omega arith) h.1

-- each change of a legal front fits
pub legal_front-fits : (front : List Change) (i : ℕ) (c : Change) → i < length front → c ≡ get_or front i c → LegalFront front → Fits (map_of (take i front)) c
legal_front-fits front i c l is h = subst (Fits (map_of (take i front))) (sym is) (fits_from [] front i c l h)
