-- The words up to the key's end are those of the leaf.
use Rattle.bulk_load.proofs.Common.{◌<◌, ap, arith, inl, length, subst, sym, leaf_before, size_fits}
use Rattle.bulk_load.proofs.records.Fields.{leaf_fields_are}
use Rattle.bulk_load.proofs.records.put_leaf.Goals as goal

pub returns-clause-fields : goal.returns-clause-fields
returns-clause-fields c =
    leaf_fields_are c.args.layout.now c.args.words.now c.put_key.new.words c.args.number c.leaf-start.result (length c.as_bytes.result.now) c.pack_state.result (c.args.key.now, c.args.value)
    record { key = c.as_bytes.ensures.key; value = c.ranges.value.fits } c.requires.room c.leaf-start.ensures
    (omega (arith, c.requires.size, c.leaf-start.ensures, leaf_before c.args.layout.now c.args.number c.args.layout.now.leaves c.requires.number, (size_fits c.args.layout.now c.args.number).0)) (ap length c.as_bytes.ensures.bytes)
    (λ k low. c.put_key.ensures.others k (inl low)) (λ j used. c.put_key.ensures.key j (subst (λ m. j < m) (sym c.count_key_words-count.ensures) used))
