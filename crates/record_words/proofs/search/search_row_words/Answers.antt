-- The highest complying row is where the forks lead.
use Rattle.record_words.proofs.Common.{◌∙◌, ap, get_or, refl, head_leads, head_of, first_is_zero}
use Rattle.record_words.specs.HeadParts.{back_words}
use Rattle.record_words.specs.declared.kind.HeadKind.TheVariants.{Wide}
use Rattle.record_words.proofs.Reading.{kind_of_one, lawful_one, one_of_kind, part_of_one}
use Rattle.record_words.proofs.search.search_row_words.Goals as goal

pub search_rows-requires : goal.search_rows-requires
search_rows-requires c =
    let words = c.args.words.now in
    let lawful = lawful_one Wide back_words words c.requires in
    ap (λ rows. get_or rows 0 0) (c.wide_rows_in.ensures (one_of_kind Wide back_words words c.requires) lawful (kind_of_one Wide back_words words c.requires) (part_of_one Wide back_words words c.requires))
    ∙ first_is_zero _ _ _ _ lawful.shows

pub returns : goal.returns
returns c = λ node lawful kinded same bit gathered.
    head_leads (head_of node) c.wide_rows_in.result bit c.args.dense c.search_rows.result (c.wide_rows_in.ensures node lawful kinded same) gathered c.search_rows.ensures.highest node lawful refl
