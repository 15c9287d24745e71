-- Passes that follow stamps, and how their calls stand.
use Rattle.hot_index.proofs.Common.{◌≡◌, List, sym, ap, subst, ◌∙◌, arith, All, Change, Note, StandsIn, BeginsWith, place_after-within, Layout, Known, HasFollowed, with_front, IsOneSeat, IsShownAll, SeatView, IsSettled, pass_of, longer}
use Rattle.hot_index.specs.Stamps.{HasCaughtUp}
use Rattle.hot_index.specs.Statements.{ReturnedBeforeBegun}
use Rattle.hot_index.proofs.KeyCounts.Counted.{last_of}
use Rattle.hot_index.proofs.index.Meets.{goes_on, unnoted}

-- the pass is settled as before
pub followed_settled : (layout : Layout) (stamp : List Change) (k j : Known) → HasFollowed layout stamp k j → IsSettled k → IsSettled j
followed_settled layout stamp k j (front, is, legal, others, told, makers) s = subst IsSettled (sym is) (goes_on k front s legal others)

-- and has seen the stamp's changes
pub caught_up : (layout : Layout) (stamp : List Change) (s t : SeatView) → IsOneSeat s t → IsShownAll layout s t → HasFollowed layout stamp s.known t.known → IsSettled s.known → HasCaughtUp layout stamp (pass_of s) (pass_of t)
caught_up layout stamp s t same shown (front, is, legal, others, told, makers) settled = record {
  unnoted = unnoted layout s t front is settled legal others makers;
  told = subst (λ (z : Known). BeginsWith z.front stamp) (sym is) told;
  shown = shown;
  rest = λ i. pass_of (record { table = same.0 i; id = same.1 i; known = known i; trace = t.trace; asides = shown.asides i; touches = shown.touches i; bounds = shown.bounds i });
}
  where
    known : t.known ≡ with_front t.known.front s.known
    known = is ∙ ap (λ (z : List Change). with_front z s.known) (sym (ap (λ (z : Known). z.front) is))

-- Time

pub returned_before_begun : ReturnedBeforeBegun
returned_before_begun layout k j call reply first stamp told i m later answer seen second =
    let note : Note = record { place = first.place; call = call; reply = reply } in
    let stands : StandsIn j.front j.number note = last_of (StandsIn j.front j.number) k.notes note (subst (All (StandsIn j.front j.number)) first.notes first.legal.each) in
    let ended = place_after-within j.front j.number note stands in
    let stamped = longer stamp j.front told in
    let began = longer i.front stamp seen in
    let loaded = longer m.fresh.front i.front second.on.fresh in
    let low = second.low in
    omega (arith, ended, stamped, began, loaded, low)
