-- The count of a pass, when its notes stay, grow by gets, and grow by a change.
use Rattle.hot_index.proofs.Common.{◌≡◌, ℕ, ◌<◌, List, [], ◌∷◌, ◌++◌, take, Option, Result, Ok, Err, sym, ap, subst, ◌∙◌, append-nil, All, cons_option, All-head, All-tail, filter_map-append, Call, Get, Change, Note, Reply, LegalCalls, StandsIn, change_of, changes_of, map_of, change_of-quiet, legal_longer, Layout, SeatView, TableView, TryFault, Full, Key, IsNoted, IsUnnoted, got, HasReplied, last_try, as_tried, Refusal, IsSettled, PassView, pass_of, get_changes_nothing}
use Rattle.hot_index.specs.KeyCounts.{CountsAnswer, CountsReply, IsCountOf, IsNet, MayReply}
use Rattle.hot_index.specs.declared.key_counts.KeyCount.{KeyCount}
use Rattle.hot_index.specs.Passes.{IsSettledWith}
use Rattle.hot_index.specs.Statements.{CountsAddUp}

-- the count of these notes is that of the same notes of the same pass
pub count_goes : (q r : ℕ) (notes more : List Note) (count : KeyCount) → r ≡ q → more ≡ notes → IsCountOf q notes count → IsCountOf r more count
count_goes q r notes more count pass same is = subst (λ (z : ℕ × List Note). IsCountOf z.0 z.1 count) (λ i. (sym pass i, sym same i)) is

-- notes of calls that changed nothing leave the count
pub count_stays : (q : ℕ) (notes added : List Note) (count : KeyCount) → changes_of q added ≡ [] → IsCountOf q notes count → IsCountOf q (notes ++ added) count
count_stays q notes added count none is =
    let same : changes_of q (notes ++ added) ≡ changes_of q notes = filter_map-append (change_of q) notes added ∙ (ap (λ z. changes_of q notes ++ z) none ∙ append-nil (changes_of q notes)) in
    subst (λ (cs : List Change). IsNet cs count.keys) (sym same) is

module _ (layout : Layout) (s t : SeatView) (count : KeyCount) where
  -- with no note more
  pub settled_on : IsUnnoted layout (pass_of s) (pass_of t) → IsSettled t.known → IsSettledWith s.known count → IsSettledWith t.known count
  settled_on same settled was = record { settled = settled; counts = count_goes s.known.pass t.known.pass s.known.notes t.known.notes count same.number same.notes was.counts }

  -- with the note of a get
  pub got_on : (key : Key) (o : Option ℕ) → IsNoted layout (pass_of s) (pass_of t) (Get key) (got o) × IsSettled t.known → IsSettledWith s.known count → IsSettledWith t.known count
  got_on key o (noted, settled) was = record {
    settled = settled;
    counts = count_goes s.known.pass t.known.pass (s.known.notes ++ note ∷ []) t.known.notes count noted.on.number noted.notes (count_stays s.known.pass s.known.notes (note ∷ []) count none was.counts);
  }
    where
      note : Note
      note = record { place = noted.place; call = Get key; reply = got o }

      none : changes_of s.known.pass (note ∷ []) ≡ []
      none = ap (λ (o : Option Change). cons_option o []) (change_of-quiet s.known.pass note (get_changes_nothing key o noted.place))

-- the last of notes that stand in a front stands there
pub last_of : (P : Note → Type 0) (notes : List Note) (n : Note) → All P (notes ++ n ∷ []) → P n
last_of P [] n h = All-head P n [] h
last_of P (x ∷ notes) n h = last_of P notes n (All-tail P x (notes ++ n ∷ []) h)

-- a call that was noted was answered as some map answers it
may_reply : (layout : Layout) (k j : PassView) (call : Call) (reply : Reply) → IsNoted layout k j call reply → MayReply call reply
may_reply layout k j call reply noted =
    let note : Note = record { place = noted.place; call = call; reply = reply } in
    let stands : StandsIn j.front j.number note = last_of (StandsIn j.front j.number) k.notes note (subst (All (StandsIn j.front j.number)) noted.notes noted.legal.each) in
    (map_of (take note.place j.front), stands.reply)

module _ (table : TableView) (call : Call) (s t : SeatView) (old new : KeyCount) where
  answered : (reply : Reply) → IsNoted table.layout (pass_of s) (pass_of t) call reply → CountsReply reply old new → IsCountOf s.known.pass s.known.notes old → IsCountOf t.known.pass t.known.notes new
  answered reply noted counts is =
      let note : Note = record { place = noted.place; call = call; reply = reply } in
      count_goes s.known.pass t.known.pass (s.known.notes ++ note ∷ []) t.known.notes new noted.on.number noted.notes
      (counts s.known.pass noted.place s.known.notes call (may_reply table.layout (pass_of s) (pass_of t) call reply noted) is)

  refused : IsUnnoted table.layout (pass_of s) (pass_of t) → new ≡ old → IsCountOf s.known.pass s.known.notes old → IsCountOf t.known.pass t.known.notes new
  refused same still is = subst (λ (c : KeyCount). IsCountOf t.known.pass t.known.notes c) (sym still) (count_goes s.known.pass t.known.pass s.known.notes t.known.notes old same.number same.notes is)

  counted : (r : Result Reply TryFault) → HasReplied table call r s t → CountsAnswer r old new → IsCountOf s.known.pass s.known.notes old → IsCountOf t.known.pass t.known.notes new
  counted (Ok reply) replied counts is = answered reply replied.noted counts is
  counted (Err fault) replied counts is = refused replied.refused.refused.unnoted counts is

  -- with the note of a change, if it was answered
  pub tried_on : (r : Result Reply TryFault) → HasReplied table call r s t → CountsAnswer r old new → IsSettledWith s.known old → IsSettledWith t.known new
  tried_on r replied counts was = record { settled = replied.idle.1; counts = counted r replied counts was.counts }

  -- of one that waited
  pub waited_on : (r : Result Reply Full) → HasReplied table call (last_try r) s t → CountsAnswer r old new → IsSettledWith s.known old → IsSettledWith t.known new
  waited_on (Ok reply) replied counts was = tried_on (Ok reply) replied counts was
  waited_on (Err full) replied counts was = tried_on (last_try (Err full)) replied counts was

  -- of one that was counted
  pub counted_on : (r : Result Reply Refusal) → HasReplied table call (as_tried r) s t → CountsAnswer r old new → IsSettledWith s.known old → IsSettledWith t.known new
  counted_on (Ok reply) replied counts was = tried_on (Ok reply) replied counts was
  counted_on (Err refusal) replied counts was = tried_on (as_tried (Err refusal)) replied counts was

-- All counts

pub counts_add_up : CountsAddUp
counts_add_up layout front counts legal makers all each = record {
  legal = legal;
  makers = subst (λ n. All (λ c. c.pass < n) front) (sym all) makers;
  each = λ q count at.
      let (p, number, calls, others, is) = each q count at in (
        p.notes,
        subst (λ n. LegalCalls front n p.notes) number (legal_longer p.front front p.number p.notes calls others legal),
        subst (λ n. IsCountOf n p.notes count) number is,
      );
}
