-- The leaf's key is compared with the last one of the range.
use Rattle.std.proofs.Common.{take}
use Rattle.rowex_scanning.proofs.counting.is_leaf_past.Goals as goal

pub returns-clause-past : goal.returns-clause-past
returns-clause-past g c = λ is m led core lawful recalls.
    (take c.load_scanned_leaf-length.result.0 c.load_scanned_leaf-length.new.places, c.load_scanned_leaf-length.result.1, c.load_scanned_leaf-length.ensures.leaf m led core lawful recalls, c.is_past_range.ensures.past is)

pub returns-clause-not_past : goal.returns-clause-not_past
returns-clause-not_past g c = λ is m led core lawful recalls.
    (take c.load_scanned_leaf-length.result.0 c.load_scanned_leaf-length.new.places, c.load_scanned_leaf-length.result.1, c.load_scanned_leaf-length.ensures.leaf m led core lawful recalls, c.is_past_range.ensures.inside is)
