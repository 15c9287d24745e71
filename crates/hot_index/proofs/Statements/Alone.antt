-- Two passes are not one.
use Rattle.hot_index.proofs.Common.{◌≡◌, ◌≢◌, ◌⊎◌, inl, inr, ℕ, zero, suc, ◌+◌, ◌<◌, ◌≤◌, List, [], ◌∷◌, length, Option, Some, None, Contains, ⊎_elim, refl, sym, subst, arith, cases_lt, Layout, Rec, a_node, a_leaf, word_of, HasMetTaken, IsOvertaken, PassView}
use Rattle.versions.specs.Trades.{AreApart, IsOneOf}
use Rattle.versions.proofs.Trades.{all_of, map_of}
use Rattle.rowex_core.specs.declared.known.Failed.{Failed}
use Rattle.rowex_core.specs.declared.known.FailedAct.{FailedAct}
use Rattle.rowex_core.specs.declared.known.FailedAct.TheVariants.{Claim as a_claim, Lock as a_lock, LoadState as a_load}
use Rattle.record_words.specs.Layout.{uncommitted_in}
use Rattle.rowex_table.specs.Committed.{IsCommitted}
use Rattle.rowex_table.specs.Seats.{HasAllCommitted}
use Rattle.rowex_table.proofs.Committed.{all_committed}
use Rattle.rowex_records.specs.Claims.{AllCommittedMissed, HasMissedSince, IsAnothers, TellsState}
use Rattle.rowex_records.proofs.Claims.{missed_so}
use Rattle.rowex_writing.specs.build.Changes.{LacksNodes}
use Rattle.hot_index_calls.proofs.Lacked.{without_one}
use Rattle.hot_index_calls.proofs.Refusing.{no_other}
use Rattle.hot_index_calls.proofs.Removing.{call_lacks}
use Rattle.hot_index.specs.Statements.{IsNobodys, OnePassFullMeansTaken, OnePassIsNeverBusy, ThirdIsTaken}

pub one_pass_is_never_busy : OnePassIsNeverBusy
one_pass_is_never_busy layout call k j one conflict =
    ⊎_elim
    (λ (met : HasMetTaken layout j.number k.steps j.failed). met.another (no_other layout.passes j.number met.by one conflict.pass met.below))
    (λ (o : IsOvertaken layout k j). o.another (no_other layout.passes j.number o.change.pass one conflict.pass o.below))
    conflict.met

-- with one pass, what isn't its own is nobody's
alone : (layout : Layout) (q : ℕ) (own : List Rec) (locked : List ℕ) (r : Rec) (by : Option ℕ) → layout.passes ≡ 1 → q < layout.passes → IsAnothers layout q own locked r by → IsNobodys r by ⊎ Contains own r
alone layout q own locked r None one mine its = inl refl
alone layout q own locked r (Some by) one mine its = inr (its.1 (no_other layout.passes q by one mine its.0))

-- and none is its own, where it has none
alone_with_none : (layout : Layout) (q : ℕ) (r : Rec) (by : Option ℕ) → layout.passes ≡ 1 → q < layout.passes → IsAnothers layout q [] [] r by → IsNobodys r by
alone_with_none layout q r by one mine its = ⊎_elim (λ (nobodys : IsNobodys r by). nobodys) (λ (has : Contains [] r). absurd (let low = has.1 in omega arith)) (alone layout q [] [] r by one mine its)

-- a node that it has locked is nobody's
locked_nobodys : (layout : Layout) (q : ℕ) (own : List Rec) (locked : List ℕ) (n : ℕ) (by : Option ℕ) → IsOneOf n locked → IsAnothers layout q own locked (a_node n) by → IsNobodys (a_node n) by
locked_nobodys layout q own locked n None there its = refl
locked_nobodys layout q own locked n (Some by) there its = absurd (its.2 (map_of a_node n locked there))

-- a failed step finds that the record is nobody's; or that it is one of these
nobodys_or_own : (own : List Rec) (failed : List Failed) (r : Rec) (since : ℕ) → HasMissedSince (λ r by. IsNobodys r by ⊎ Contains own r) failed r since → HasMissedSince IsNobodys failed r since ⊎ Contains own r
nobodys_or_own own failed r since (step, late, (act, word, tells, one, has)) = go act tells has
  where
    go : (act : FailedAct) → TellsState (λ by. IsNobodys r by ⊎ Contains own r) act → Contains failed (record { act = act; location = word_of r 0; word = word; step = step }) →
        HasMissedSince IsNobodys failed r since ⊎ Contains own r
    go (a_claim by) (inl nobodys) has = inl (step, late, (a_claim by, word, nobodys, one, has))
    go (a_claim by) (inr its) has = inr its
    go (a_load by) (inl nobodys) has = inl (step, late, (a_load by, word, nobodys, one, has))
    go (a_load by) (inr its) has = inr its
    go (a_lock by) tells has = absurd tells

-- ---- how many are taken
-- These are taken, of the first n nodes, where so many are not.
record AreTaken (Taken : ℕ → Type 0) (n others : ℕ) : Type 0 where
  nodes : List ℕ
  apart : AreApart nodes
  many : n ≤ length nodes + others
  each : (q : ℕ) → IsOneOf q nodes → (q < n) × Taken q

-- and the next one is taken too, or is not
one_taken : (Taken : ℕ → Type 0) (n others : ℕ) → Taken n → AreTaken Taken n others → AreTaken Taken (suc n) others
one_taken Taken n others taken below = record {
  nodes = n ∷ below.nodes;
  apart = ((λ there. let low = (below.each n there).0 in omega arith), below.apart);
  many = (let many = below.many in omega arith);
  each = each;
}
  where
    each : (q : ℕ) → IsOneOf q (n ∷ below.nodes) → (q < suc n) × Taken q
    each q (inl is) = (omega (arith, is), subst Taken (sym is) taken)
    each q (inr there) = let (low, its) = below.each q there in (omega (arith, low), its)

one_left : (Taken : ℕ → Type 0) (n others more : ℕ) → more ≡ others + 1 → AreTaken Taken n others → AreTaken Taken (suc n) more
one_left Taken n others more is below = record {
  nodes = below.nodes;
  apart = below.apart;
  many = (let many = below.many in omega arith);
  each = λ q there. (let (low, its) = below.each q there in (omega (arith, low), its));
}

-- each is taken, or one of these
taken_but : (Taken : ℕ → Type 0) (n : ℕ) (own : List Rec) → ((q : ℕ) → q < n → Taken q ⊎ Contains own (a_node q)) → AreTaken Taken n (length own)
taken_but Taken zero own each = record { nodes = []; apart = tt; many = omega arith; each = λ q there. absurd there }
taken_but Taken (suc n) own each = ⊎_elim
    (λ (taken : Taken n). one_taken Taken n (length own) taken (taken_but Taken n own (λ q low. each q (omega (arith, low)))))
    (λ (has : Contains own (a_node n)).
    let (rest, size, keep) = without_one own (a_node n) has in
    one_left Taken n (length rest) (length own) size (taken_but Taken n rest (λ q low. other q low rest keep (each q (omega (arith, low))))))
    (each n (omega arith))
  where
    other : (q : ℕ) → q < n → (rest : List Rec) → ((s : Rec) → s ≢ a_node n → Contains own s → Contains rest s) → Taken q ⊎ Contains own (a_node q) → Taken q ⊎ Contains rest (a_node q)
    other q low rest keep (inl taken) = inl taken
    other q low rest keep (inr has) = inr (keep (a_node q) (λ e. let same : q ≡ n = cc in omega (arith, low, same)) has)

module _ (layout : Layout) (k j : PassView) (one : layout.passes ≡ 1) (mine : j.number < layout.passes) (own : List Rec) (l : LacksNodes layout k.seat.bounds j.number j.failed k.steps own) where
  missed : AllCommittedMissed (λ r by. IsNobodys r by ⊎ Contains own r) layout k.seat.bounds a_node layout.nodes j.failed k.steps
  missed q low committed =
      missed_so (IsAnothers layout j.number own l.locked) (λ r by. IsNobodys r by ⊎ Contains own r) j.failed (a_node q) k.steps (λ by. alone layout j.number own l.locked (a_node q) by one mine) (l.missed q low committed)

  abbrev Taken : ℕ → Type 0
  Taken n = HasMissedSince IsNobodys j.failed (a_node n) k.steps

  module _ (all : HasAllCommitted k.seat) where
    committed : (n : ℕ) → n < layout.nodes → IsCommitted layout (uncommitted_in k.seat.bounds) (a_node n)
    committed n low = all_committed layout (uncommitted_in k.seat.bounds) (a_node n) all low

    all_taken : AreTaken Taken layout.nodes (length own)
    all_taken = taken_but Taken layout.nodes own (λ q low. nobodys_or_own own j.failed (a_node q) k.steps (missed q low (committed q low)))

    third_is_taken : ThirdIsTaken layout k j
    third_is_taken = ⊎_elim
        (λ (fewer : length all_taken.nodes < length l.locked). record {
          nodes = l.locked;
          apart = l.apart;
          many = (let many = all_taken.many in let few = l.few in omega arith);
          each = λ n there. (let low = all_of (λ n. n < layout.nodes) n l.locked l.low there in
              (low, missed_so (IsAnothers layout j.number own l.locked) IsNobodys j.failed (a_node n) k.steps (λ by. locked_nobodys layout j.number own l.locked n by there) (l.missed n low (committed n low))));
        })
        (λ (more : length l.locked ≤ length all_taken.nodes). record {
          nodes = all_taken.nodes;
          apart = all_taken.apart;
          many = (let many = all_taken.many in let few = l.few in omega arith);
          each = all_taken.each;
        })
        (cases_lt (length all_taken.nodes) (length l.locked))

pub one_pass_full_means_taken : OnePassFullMeansTaken
one_pass_full_means_taken layout call k j one mine = (
  λ all q low room upto. missed_so (IsAnothers layout j.number [] []) IsNobodys j.failed (a_leaf q) k.steps (λ by. alone_with_none layout j.number (a_leaf q) by one mine) (all q low room upto),
  λ lacks. (let (own, all) = lacks in
      let l = call_lacks layout call k.seat.bounds j.number j.failed k.steps own all in
      (λ all. third_is_taken layout k j one mine own l all, (own, (let few = l.few in let most = l.most in omega arith), missed layout k j one mine own l))),
)
