-- Each column is tested.
use Rattle.record_words.proofs.Common.{Bool, List, [], ◌∷◌, ◌≡◌, ◌∙◌, ◌&&◌, ◌+◌, ap, ap₂, arith, refl, rules, sym, tests, le-leb, list_all, all}
use Rattle.std.proofs.lemmas.Iterator.{YieldsList-from_slice}
use Rattle.std.proofs.lemmas.Iterator.Search.{all_from_yields_List}
use Rattle.record_words.specs.Kinds.{first_byte, is_near}
use Rattle.record_words.proofs.kind.are_near.Goals as goal

same_all : {X : Type 0} (t : X → Bool) (xs : List X) → list_all t xs ≡ all t xs
same_all t [] = refl
same_all t (x ∷ xs) = ap (λ b. t x && b) (same_all t xs)

pub returns : goal.returns
returns c =
    let columns = c.args.columns.now in
    all_from_yields_List (is_near (first_byte columns)) _ _ c.all.result c.all.ensures.ran (YieldsList-from_slice c.as_slice.result.now cc) (λ x b q k. search (rules, tests))
    ∙ (same_all (is_near (first_byte columns)) c.as_slice.result.now ∙ ap₂ (λ (a b : Bool). a && b) (sym (le-leb (first_byte columns + 16) 240 (omega (arith, c.if-first-gt-MAX_BYTES.false, c.first.ensures)))) (ap (all (is_near (first_byte columns))) c.as_slice.ensures.positions))
