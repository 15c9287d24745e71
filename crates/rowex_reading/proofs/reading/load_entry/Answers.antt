-- What a load of an entry tells.
use Rattle.rowex_reading.proofs.Common.{Some, refl, LoadRef, Slot, record_number}
use Rattle.rowex_reading.proofs.Seen.Led.{reads_one}
use Rattle.rowex_reading.proofs.Possible.Placing.{is_entry, slot_spelled, slot_some, slot_placed, slot_lower, some_spelled}
use Rattle.rowex_reading.proofs.reading.load_entry.Goals as goal

pub load_slot_at-word-requires : goal.load_slot_at-word-requires
load_slot_at-word-requires g c = let s = c.requires.place in record {
  own = c.requires.reader.0;
  node = c.requires.node;
  slot = (is_entry c.args.table.now.layout c.args.seat.now.known s.0 (record_number c.args.node.rec) s.1 c.args.slot c.requires.reader.1 s.2).1;
}

-- it is the word of some entry
pub read_some_entry-requires : goal.read_some_entry-requires
read_some_entry-requires g c =
    let s = c.requires.place in let e = c.load_slot_at-word.ensures.step.event in
    let o = slot_spelled _ _ _ _ _ _ e s.0 s.1 s.2.0 in
    some_spelled o.0 (slot_some _ _ _ _ _ _ e s.0 s.1 s.2 o.0 o.1 o.2) o.1 o.2

pub returns-clause-reads : goal.returns-clause-reads
returns-clause-reads g c = reads_one (LoadRef (Slot (record_number c.args.node.rec) c.args.slot) c.load_slot_at-word.result) tt c.load_slot_at-word.ensures.step

pub returns-clause-entry : goal.returns-clause-entry
returns-clause-entry g c = λ m h has.
    let e = c.load_slot_at-word.ensures.step.event in let r = c.read_some_entry.ensures in (
      slot_lower _ _ _ _ _ _ e m h has (Some c.read_some_entry.result) r.is_value r.spells c.read_some_entry.result refl,
      slot_placed _ _ _ _ _ _ e m h has (Some c.read_some_entry.result) r.is_value r.spells c.read_some_entry.result refl,
    )
