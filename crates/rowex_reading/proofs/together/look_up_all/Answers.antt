-- No key is there; the root's entry; and one group more.
use Rattle.rowex_reading.proofs.Common.{◌≡◌, ◌∙◌, ◌+◌, ◌-◌, ◌≤◌, ℕ, [], None, arith, get_or, length, subst, length-set, slice_get-get_or}
use borrow.Rule.Slice.PartMut.{mid_len, mid_of, same_len_mid}
use Rattle.rowex_reading.specs.Lookups.{HaveFound}
use Rattle.rowex_reading.proofs.Seen.Led.{reader_then, root_pinned, root_reader}
use Rattle.rowex_reading.proofs.lookup.Lookup.{none_found}
use Rattle.rowex_reading.proofs.together.Together.{found_group, found_more, found_on, more_searched, none_searched, root_on}
use Rattle.rowex_reading.proofs.together.look_up_all.Goals as goal

pub loop-index-preserved : goal.loop-index-preserved
loop-index-preserved g c =
    let i = c.loop-index.invariant in let index = c.loop-index.index in let keys = c.args.keys.now in
    record {
      room = length-set c.loop-index.found index None ∙ i.room;
      found = found_more index keys c.loop-index.found (get_or keys index []) None i.found (slice_get-get_or keys index [] c.loop-index-test.true)
          (none_found c.load_root.ensures.reads (get_or keys index []) c.in-None.ensures.root);
    }

pub returns-after-loop-index-clause-searched : goal.returns-after-loop-index-clause-searched
returns-after-loop-index-clause-searched g c = none_searched (length c.args.keys.now) c.load_root.ensures.reads

pub loop-first-init : goal.loop-first-init
loop-first-init g c =
    let r = c.load_root.ensures.reads in
    record {
      reader = root_reader c.requires.own r;
      room = c.requires.room;
      range = omega arith;
      root = (root_pinned c.requires.pinned r, c.in-Some.ensures.root);
      found = λ i key o low. absurd (omega (arith, low));
      searched = none_searched 0 r;
    }

pub loop-first-preserved : goal.loop-first-preserved
loop-first-preserved g c =
    let i = c.loop-first.invariant in let e = c.look_up_group.ensures in let first = c.loop-first.first in let keys = c.args.keys.now in
    let end : ℕ = first + c.min.result in let reads = e.reads.4 in
    let low : end ≤ length keys = omega (arith, c.min.ensures, c.loop-first-test.true) in
    let long : length (mid_of first (end - first) keys) ≡ end - first = mid_len first end keys low in
    let all : length c.look_up_group.new.found ≡ length (mid_of first (end - first) c.loop-first.found) = c.look_up_group.auto.found in
    record {
      reader = reader_then i.reader reads;
      room = same_len_mid first (end - first) c.loop-first.found c.look_up_group.new.found all ∙ i.room;
      range = low;
      root = root_on reads c.in-Some.root i.root;
      found = found_group first end keys c.loop-first.found c.look_up_group.new.found (omega arith) low i.room (all ∙ mid_len first end c.loop-first.found (omega (arith, low, i.room)))
          (found_on reads first keys c.loop-first.found i.found) (subst (λ n. HaveFound c.look_up_group.new.seat.known n (mid_of first (end - first) keys) c.look_up_group.new.found) long e.found);
      searched = more_searched (length (mid_of first (end - first) keys)) (let z : end ≡ first + length (mid_of first (end - first) keys) = omega (arith, long) in z)
          i.searched e.reads;
    }
