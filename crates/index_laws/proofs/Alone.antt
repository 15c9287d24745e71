-- Changes of one of idle passes, where enough records are free.
use Rattle.index_laws.proofs.Common.{◌≡◌, ◌≢◌, ◌⊎◌, inl, inr, ⊎_elim, ℕ, zero, suc, ◌+◌, ◌*◌, ◌<◌, ◌≤◌, List, [], ◌∷◌, Bool, true, false, length, refl, sym, ap, subst, ◌∙◌, arith, All, cases_lt, All-head, All-tail, count_by, range_with_len, sum_by-cons, EPOCHS, Layout, Rec, a_node, a_leaf, Fate, Free, Held, Ready, InTree, Unlinked, Marked, IsOneOf, Act, Event, Core, IsLawful, after, opening, EventsLead, stays_lawful, runs_stay_lawful, lead_rest, steps_are_in_one_run, others_none, runs_same, SeatView, TableView, IsSettled, PassView, HasCollected}
use Rattle.std.specs.Prelude.{Result, IsOk}
use Rattle.finite_map.specs.declared.Call.{Call}
use Rattle.finite_map.specs.declared.Reply.{Reply}
use Rattle.finite_map.specs.Calls.{LegalCalls}
use Rattle.finite_map.specs.Maps.{key_of}
use Rattle.record_words.specs.Layout.{leaf_size}
use Rattle.record_words.specs.Leaf.{words_for}
use Rattle.versions.specs.Trades.{AreApart}
use Rattle.publish_laws.proofs.Lone.{lead_layout, lead_same}
use Rattle.rowex_writing.specs.declared.attempts.TryFault.{TryFault}
use Rattle.rowex_writing.specs.declared.plan.Full.{Full}
use Rattle.record_words.specs.Layout.{uncommitted_in}
use Rattle.rowex_table.specs.Seats.{HasAllCommitted}
use Rattle.rowex_table.proofs.Committed.{all_committed}
use Rattle.hot_index_calls.specs.Alone.{HoldsNone, RunsAlone}
use Rattle.hot_index_calls.specs.Calls.{IsTried, MakesTries, AreTriesRefused}
use Rattle.hot_index_calls.specs.Passes.{pass_of}
use Rattle.hot_index_calls.specs.declared.refusals.Refusal.{Refusal}
use Rattle.hot_index_calls.proofs.Rooms.{round_acts}
use Rattle.hot_index.specs.Alone.{HasEnoughFree, HasFreeLeaf, HasFreeNodes}
use Rattle.hot_index.specs.Statements.{IsNoRemoval}
use Rattle.hot_index.proofs.Unhindered.{still_none}
use Rattle.hot_index.proofs.Enough.{alone_changes_end, first_has, first_nodes, first_size, fits_in}
use Rattle.index_laws.specs.Alone.{HasLeavesBeside, HasRoomBeside, IdleChangesEnd}
use Rattle.index_laws.specs.Rest.{GoesOnAlone, LeadsTo, NoneIsLost, StepsAlone, free_below, is_free_fate, number_of_keys}
use Rattle.index_laws.proofs.Standing.{one_if}
use Rattle.index_laws.proofs.Resting.{alone_behind_run, no_record_is_lost}

-- ---- lists of free records
free_fate : (f : Fate) → is_free_fate f ≡ true → f ≡ Free
free_fate Free is = refl
free_fate (Held q) is = absurd cc
free_fate (Ready q) is = absurd cc
free_fate (InTree since) is = absurd cc
free_fate (Unlinked since last q) is = absurd cc
free_fate (Marked since last epoch) is = absurd cc

-- the numbers of the free ones among some records of a kind
record Frees (c : Core) (kind : ℕ → Rec) (from count : ℕ) : Type 0 where
  numbers : List ℕ
  apart : AreApart numbers
  free : (i : ℕ) → IsOneOf i numbers → (from ≤ i) × (i < from + count) × (c.fate (kind i) ≡ Free)
  many : length numbers ≡ count_by (λ i. is_free_fate (c.fate (kind i))) (range_with_len from count)

-- one record more in front, which is free or not
free_more : (c : Core) (kind : ℕ → Rec) (from count : ℕ) → Frees c kind (from + 1) count → Frees c kind from (suc count)
free_more c kind from count rest = of (is_free_fate (c.fate (kind from))) refl
  where
    sum : count_by (λ i. is_free_fate (c.fate (kind i))) (range_with_len from (suc count)) ≡
        one_if (is_free_fate (c.fate (kind from))) + count_by (λ i. is_free_fate (c.fate (kind i))) (range_with_len (from + 1) count)
    sum = sum_by-cons (λ i. one_if (is_free_fate (c.fate (kind i)))) from (range_with_len (from + 1) count)

    of : (t : Bool) → is_free_fate (c.fate (kind from)) ≡ t → Frees c kind from (suc count)
    of false is = record {
      numbers = rest.numbers;
      apart = rest.apart;
      free = λ i there. (let (low, high, free) = rest.free i there in (omega (arith, low), omega (arith, high), free));
      many = (let many = rest.many in let none = ap one_if is in omega (arith, many, sum, none));
    }
    of true is = record {
      numbers = from ∷ rest.numbers;
      apart = ((λ there. let low = (rest.free from there).0 in omega (arith, low)), rest.apart);
      free = each;
      many = (let many = rest.many in let one = ap one_if is in omega (arith, many, sum, one));
    }
      where
        each : (i : ℕ) → IsOneOf i (from ∷ rest.numbers) → (from ≤ i) × (i < from + suc count) × (c.fate (kind i) ≡ Free)
        each i (inl same) = (omega (arith, same), omega (arith, same), ap (λ z. c.fate (kind z)) same ∙ free_fate (c.fate (kind from)) is)
        each i (inr there) = let (low, high, free) = rest.free i there in (omega (arith, low), omega (arith, high), free)

free_ones : (c : Core) (kind : ℕ → Rec) (from count : ℕ) → Frees c kind from count
free_ones c kind from zero = record { numbers = []; apart = tt; free = λ i there. absurd there; many = refl }
free_ones c kind from (suc count) = free_more c kind from count (free_ones c kind (from + 1) count)

-- some number of a list is no lower, or all are lower
any_from : (first : ℕ) (numbers : List ℕ) → ((i : ℕ) × IsOneOf i numbers × (first ≤ i)) ⊎ ((i : ℕ) → IsOneOf i numbers → i < first)
any_from first [] = inr (λ i there. absurd there)
any_from first (n ∷ numbers) = ⊎_elim
    (λ (low : n < first). elim (any_from first numbers) [
      | inl (i, there, high) ↦ inl (i, inr there, high)
      | inr all ↦ inr (λ i there. elim there [
        | inl same ↦ omega (arith, same, low)
        | inr later ↦ all i later
      ])
    ])
    (λ (high : first ≤ n). inl (n, inl refl, high))
    (cases_lt n first)

-- So where more are free than are below some number, one from there on is.
free_from : (c : Core) (kind : ℕ → Rec) (first count : ℕ) → first < count_by (λ i. is_free_fate (c.fate (kind i))) (range_with_len 0 count) →
    (i : ℕ) × (first ≤ i) × (i < count) × (c.fate (kind i) ≡ Free)
free_from c kind first count many =
    let all = free_ones c kind 0 count in
    let size = all.many in
    elim (any_from first all.numbers) [
      | inl (i, there, high) ↦ (let (low, below, free) = all.free i there in (i, high, omega (arith, below), free))
      | inr low ↦ absurd (let few = fits_in all.numbers (first_nodes first) all.apart (λ i there. first_has first i (low i there)) in let top = first_size first in
          omega (arith, few, top, size, many))
    ]

-- ---- where no record is lost
-- enough are free beside those that the keys need
enough_beside : (c : Core) (layout : Layout) (call : Call) (s : SeatView) → HasAllCommitted s → c.layout ≡ layout → NoneIsLost c → HasRoomBeside layout (number_of_keys c) call → HasEnoughFree call s.bounds c
enough_beside c layout call s committed lay none room = record {
  nodes = record {
    nodes = all.numbers;
    apart = all.apart;
    free = λ n there. (let (low, high, free) = all.free n there in (omega (arith, high), free, all_committed c.layout (uncommitted_in s.bounds) (a_node n) committed (omega (arith, high))));
    enough = ⊎_elim (λ (many : 4322 + number_of_keys c ≤ layout.nodes). inl (let lost = none.nodes in let size = all.many in omega (arith, many, lost, size, nodes)))
        (λ (many : 3 * number_of_keys c + 2 ≤ layout.nodes). inr (let lost = none.nodes in let size = all.many in omega (arith, many, lost, size, nodes))) room.nodes;
  };
  leaf = λ gives. leaf (room.leaves gives);
}
  where
    all : Frees c a_node 0 c.layout.nodes
    all = free_ones c a_node 0 c.layout.nodes

    nodes : c.layout.nodes ≡ layout.nodes
    nodes = ap (λ (l : Layout). l.nodes) lay

    leaf : HasLeavesBeside layout (number_of_keys c) (length (key_of call)) → HasFreeLeaf s.bounds c (key_of call)
    leaf beside =
        let sum = none.leaves in
        let more = beside.more in
        let leaves = ap (λ (l : Layout). l.leaves) lay in
        let (i, low, high, free) = free_from c a_leaf beside.first c.layout.leaves (omega (arith, sum, more, leaves)) in
        record {
          number = i;
          low = high;
          room = subst (λ (l : Layout). words_for (length (key_of call)) ≤ leaf_size l i) (sym lay) (beside.room i low (omega (arith, high, leaves)));
          free = free;
          committed = λ q upto has. all_committed c.layout (uncommitted_in s.bounds) (a_leaf q) committed (omega (arith, high, upto));
        }

-- ---- one pass goes on alone
-- what another pass didn't hold it holds neither after these steps
none_after : (c : Core) (xs : List Event) (d : Core) (p q : ℕ) → IsLawful c → EventsLead c xs d → All (λ x. x.pass ≡ q) xs → p < c.layout.passes → p ≢ q →
    HoldsNone c p → HoldsNone d p
none_after c [] d p q law is own low another none = subst (λ z. HoldsNone z p) (sym is) none
none_after c (x ∷ xs) d p q law (legal, rest) own low another none =
    let same : x.pass ≡ q = All-head (λ y. y.pass ≡ q) x xs own in
    let lead : EventsLead (after c x.pass x.act) xs d = rest in
    none_after (after c x.pass x.act) xs d p q (stays_lawful c x.pass x.act law legal) lead (All-tail (λ y. y.pass ≡ q) x xs own)
    (let lay = ap (λ (l : Layout). l.passes) (lead_layout c (x ∷ []) (after c x.pass x.act) (legal, refl)) in omega (arith, low, lay)) another
    (still_none c p x.pass x.act law legal low (λ e. another (e ∙ same)) none)

-- what follows a part of a call that is alone is alone
alone_behind : (layout : Layout) (q : ℕ) (s m t : SeatView) (alone : RunsAlone layout q s m) (d : Core) → EventsLead (opening layout) m.trace d →
    StepsAlone q m.trace t.trace → (rest : RunsAlone layout q m t) × (rest.core ≡ d)
alone_behind layout q s m t alone d led (more, is, own) = (
  record {
    before = m.trace;
    others = others_none q m.trace;
    core = d;
    led = led;
    none = λ p low another.
        none_after alone.core alone.own d p q (runs_stay_lawful layout alone.before alone.core alone.led)
        (lead_rest (opening layout) alone.before alone.core alone.own d (subst (λ l. EventsLead (opening layout) l d) alone.until led) alone.led) alone.each
        (let lay = ap (λ (l : Layout). l.passes) (lead_layout (opening layout) alone.before alone.core alone.led) in omega (arith, low, lay)) another
        (alone.none p low another);
    own = more;
    until = is;
    each = own;
  },
  refl,
)

-- a call of one of idle passes is alone, and begins where their run leads
enough_alone : (index : TableView) (run : List Event) (call : Call) (s t : SeatView) (q : ℕ) → s.known.pass ≡ q → GoesOnAlone index run s t →
    LeadsTo index run (HasEnoughFree call s.bounds) →
    (alone : RunsAlone index.layout q s t) × HasEnoughFree call s.bounds alone.core
enough_alone index run call s t q pass on enough =
    let (alone, same) = alone_behind_run index run s t on in
    subst (λ p. (first : RunsAlone index.layout p s t) × HasEnoughFree call s.bounds first.core) pass
    (alone, enough alone.core (subst (λ l. EventsLead (opening index.layout) l alone.core) same alone.led))

-- a settled pass's calls are legal
settled_legal : (k : PassView) → k ≡ pass_of k.seat → IsSettled k.seat.known → LegalCalls k.front k.number k.notes
settled_legal k begins settled = subst (λ (z : PassView). LegalCalls z.front z.number z.notes) (sym begins) settled.legal

module _ {G : Type 0} (becomes : G → Event → G → Type 0) where
  -- the first try of a change that waits begins where the change begins
  tries_begin : (index : TableView) (call : Call) (result : Result Reply Full) (a b : PassView × G) → MakesTries call result index becomes a b → a.0 ≡ pass_of a.0.seat
  tries_begin index call result a b tries = of tries.refusals tries.refused
    where
      of : (refusals : List Refusal) → AreTriesRefused call refusals index becomes a tries.last → a.0 ≡ pass_of a.0.seat
      of [] same = subst (λ (z : PassView × G). z.0 ≡ pass_of z.0.seat) same tries.tried.tried.made.begins
      of (refusal ∷ refusals) (m, first, passing, rest) = first.tried.made.begins

  -- the pass that goes on is between two calls
  starts_settled : (index : TableView) (run : List Event) (a b : SeatView) → GoesOnAlone index run a b → IsSettled a.known
  starts_settled index run a b on = subst (λ (z : SeatView). IsSettled z.known) on.seat_is (on.idle.settled a.known.pass on.pass)

  reply : (index : TableView) (run : List Event) (call : Call) (result : Result Reply TryFault) (a b : PassView × G) → GoesOnAlone index run a.0.seat b.0.seat →
      LeadsTo index run (HasEnoughFree call a.0.seat.bounds) →
      IsTried call result index becomes a b → IsOk result
  reply index run call result a b on enough tried =
      let begins = tried.made.begins in
      let number : a.0.seat.known.pass ≡ a.0.number = sym (ap (λ (z : PassView). z.number) begins) in
      let (alone, has) = enough_alone index run call a.0.seat b.0.seat a.0.number number on enough in
      (alone_changes_end becomes).reply index call result a b tried (settled_legal a.0 begins (starts_settled index run a.0.seat b.0.seat on)) alone has

  once : (index : TableView) (run : List Event) (call : Call) (result : Result Reply Full) (a b : PassView × G) → GoesOnAlone index run a.0.seat b.0.seat →
      LeadsTo index run (HasEnoughFree call a.0.seat.bounds) →
      (tries : MakesTries call result index becomes a b) → (tries.refusals ≡ []) × IsOk result
  once index run call result a b on enough tries =
      let begins = tries_begin index call result a b tries in
      let number : a.0.seat.known.pass ≡ a.0.number = sym (ap (λ (z : PassView). z.number) begins) in
      let (alone, has) = enough_alone index run call a.0.seat b.0.seat a.0.number number on enough in
      (alone_changes_end becomes).once index call result a b tries (settled_legal a.0 begins (starts_settled index run a.0.seat b.0.seat on)) alone has

  after_round : (index : TableView) (run : List Event) (call : Call) (result : Result Reply Full) (a m b : PassView × G) (nodes leaves : ℕ) →
      GoesOnAlone index run a.0.seat m.0.seat → length run + 2 < EPOCHS →
      HasCollected index becomes a m nodes leaves → IsSettled m.0.seat.known → HasAllCommitted m.0.seat → LeadsTo index m.0.seat.trace
      (λ core. HasRoomBeside index.layout (number_of_keys core) call) →
      StepsAlone m.0.number m.0.seat.trace b.0.seat.trace → (tries : MakesTries call result index becomes m b) → (tries.refusals ≡ []) × IsOk result
  after_round index run call result a m b nodes leaves on early collected settled committed room behind tries =
      let r = collected.round in
      let (d, led) = (steps_are_in_one_run becomes index (round_acts index becomes r) (a.0.seat, a.1) (m.0.seat, m.1) r.does.steps).run (inr (λ e. absurd cc)) in
      let lay = lead_layout (opening index.layout) m.0.seat.trace d led in
      let enough = enough_beside d index.layout call m.0.seat committed lay ((no_record_is_lost becomes).round index run a m nodes leaves on early collected d led) (room d led) in
      let begins = tries_begin index call result m b tries in
      let number : m.0.number ≡ a.0.seat.known.pass =
      ap (λ (z : PassView). z.number) begins ∙ (runs_same index becomes (round_acts index becomes r) (a.0.seat, a.1) (m.0.seat, m.1) r.does.steps).2 in
      let first = (alone_behind_run index run a.0.seat m.0.seat on).0 in
      let (rest, same) = alone_behind index.layout m.0.number a.0.seat m.0.seat b.0.seat (subst (λ q. RunsAlone index.layout q a.0.seat m.0.seat) (sym number) first) d
      led behind in
      (alone_changes_end becomes).once index call result m b tries (settled_legal m.0 begins settled) rest (subst (HasEnoughFree call m.0.seat.bounds) (sym same) enough)

  pub idle_changes_end : IdleChangesEnd becomes
  idle_changes_end = record { reply = reply; once = once; after_round = after_round }
