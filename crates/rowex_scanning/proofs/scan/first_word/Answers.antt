-- The eight bytes are those of the first word.
use Rattle.std.proofs.Common.{◌∙◌, sym, zero-add, arith, ap, get_or, get_or-take}
use Rattle.record_words.proofs.Bytes.{key_word-eight}
use Rattle.rowex_scanning.proofs.scan.first_word.Goals as goal

pub returns : goal.returns
returns c =
    c.from_be_bytes.ensures ∙ key_word-eight _ c.args.key.now 0 (λ i h. ap (λ bytes. get_or bytes i 0) c.copy_from_slice.ensures.after ∙ (get_or-take 8 c.args.key.now i 0 (omega (arith, h)) ∙ ap (λ n. get_or c.args.key.now n 0) (sym (zero-add i))))
