-- Two passes that meet.
use Rattle.hot_index.proofs.Common.{◌≡◌, ◌++◌, ◌∙◌, List, sym, subst, ap, Change, LegalCalls, BeginsWith, LegalFront, OthersGoOn, begins_on, others_begin, legal_longer, Layout, Known, SeatsHaveMet, with_front, SeatView, AreByPasses, IsSettled, pass_of, HaveMet, IsUnnoted}
use Rattle.finite_map.specs.Weaves.{LegalHistory, weave}
use Rattle.finite_map.proofs.Weaves.{weave-legal_two}

pub seen_more : (front : List Change) (k j : Known) → j ≡ with_front front k → j ≡ with_front j.front k
seen_more front k j is = is ∙ ap (λ (l : List Change). with_front l k) (sym (ap (λ (z : Known). z.front) is))

-- a pass of which only the front goes on, by changes of others
pub goes_on : (k : Known) (front : List Change) → IsSettled k → LegalFront front → OthersGoOn k.pass k.front front → IsSettled (with_front front k)
goes_on k front s legal others = record {
  own = s.own;
  locks = s.locks;
  anchor = s.anchor;
  pin = s.pin;
  fresh = begins_on k.fresh.front k.front front s.fresh (others_begin k.pass k.front front others);
  loaded = s.loaded;
  legal = legal_longer k.front front k.pass k.notes s.legal others legal;
}

-- each of the two is settled as before
pub first_settled : (layout : Layout) (j k j' k' : Known) → SeatsHaveMet layout j k j' k' → IsSettled j → IsSettled j'
first_settled layout j k j' k' (front, first, second, legal, others, more, apart, makers) s = subst IsSettled (sym first) (goes_on j front s legal others)

pub second_settled : (layout : Layout) (j k j' k' : Known) → SeatsHaveMet layout j k j' k' → IsSettled k → IsSettled k'
second_settled layout j k j' k' (front, first, second, legal, others, more, apart, makers) s = subst IsSettled (sym second) (goes_on k front s legal more)

pub unnoted : (layout : Layout) (s t : SeatView) (front : List Change) → t.known ≡ with_front front s.known → IsSettled s.known → LegalFront front → OthersGoOn s.known.pass s.known.front front →
    AreByPasses layout front → IsUnnoted layout (pass_of s) (pass_of t)
unnoted layout s t front is settled legal others makers = record {
  number = ap (λ (z : Known). z.pass) is;
  front = subst (λ (z : Known). BeginsWith z.front s.known.front) (sym is) (others_begin s.known.pass s.known.front front others);
  notes = ap (λ (z : Known). z.notes) is;
  legal = subst (λ (z : Known). LegalCalls z.front z.pass z.notes) (sym is) (legal_longer s.known.front front s.known.pass s.known.notes settled.legal others legal);
  makers = subst (λ (z : Known). AreByPasses layout z.front) (sym is) makers;
}

-- so they have met
pub passes_met : (layout : Layout) (s t s' t' : SeatView) → SeatsHaveMet layout s.known t.known s'.known t'.known → IsSettled s.known → IsSettled t.known →
    HaveMet layout (pass_of s) (pass_of t) (pass_of s') (pass_of t')
passes_met layout s t s' t' (front, first, second, legal, others, more, apart, makers) settled other_settled =
    let one = unnoted layout s s' front first settled legal others makers in
    let other = unnoted layout t t' front second other_settled legal more makers in
    record {
      first = one;
      second = other;
      fronts = ap (λ (z : Known). z.front) first ∙ sym (ap (λ (z : Known). z.front) second);
      apart = λ e. apart (sym (ap (λ (z : Known). z.pass) first) ∙ (e ∙ ap (λ (z : Known). z.pass) second));
      history = woven;
    }
  where
    same : t'.known.front ≡ s'.known.front
    same = ap (λ (z : Known). z.front) second ∙ sym (ap (λ (z : Known). z.front) first)

    woven : LegalHistory (weave s'.known.front (s'.known.notes ++ t'.known.notes))
    woven =
        weave-legal_two s'.known.front s'.known.pass t'.known.pass s'.known.notes t'.known.notes
        (λ e. apart (sym (ap (λ (z : Known). z.pass) first) ∙ (e ∙ ap (λ (z : Known). z.pass) second)))
        (unnoted layout s s' front first settled legal others makers).legal
        (subst (λ (z : List Change). LegalCalls z t'.known.pass t'.known.notes) same (unnoted layout t t' front second other_settled legal more makers).legal)
