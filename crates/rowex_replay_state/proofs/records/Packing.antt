-- Words that spell a value are those that are read.
use Rattle.rowex_replay_state.proofs.Common.{◌≡◌, ◌↔◌, ℕ, List, Some, None, Result, Ok, Err, is_ok, Bool, true, false, refl, sym, subst, ◌∙◌, same_Some, none-some, IsReading, HasNodeWords, node_words, HasLeafWords, leaf_words, up_to_key, WordFault, NodeView, Rec, a_node, a_leaf, FitsIn, IsPacked}
use Rattle.rowex_replay_state.specs.Records.{RecordsView, IsPackedIn, words_in}

spelled : {A W E : Type 0} (IsValue : A → Type 0) (spell : A → W) (words : W) (answer : Result A E) → IsReading IsValue spell words answer →
    (is_ok answer ≡ true) ↔ ((x : A) × IsValue x × (spell x ≡ words))
spelled IsValue spell words (Ok x) h = ((λ _. (x, h.spelling.0, h.spelling.1)), λ _. refl)
spelled IsValue spell words (Err e) h = ((λ t. absurd (cc)), λ (x, v, s). absurd (let z : Err e ≡ Ok x = h.read x v s in cc))

pub packed_node : (words : List ℕ) (answer : Result NodeView WordFault) → IsReading HasNodeWords node_words words answer → (n : ℕ) → (is_ok answer ≡ true) ↔ IsPacked (a_node n) words
unfolding IsPacked
packed_node words answer h n = spelled HasNodeWords node_words words answer h

pub packed_leaf : (words : List ℕ) (answer : Result (List ℕ × ℕ) WordFault) → IsReading HasLeafWords leaf_words (up_to_key words) answer → (n : ℕ) → (is_ok answer ≡ true) ↔ IsPacked (a_leaf n) words
unfolding IsPacked
packed_leaf words answer h n = spelled HasLeafWords leaf_words (up_to_key words) answer h

-- a leaf record's words, where the table has it
pub leaf_is_packed : (s : RecordsView) (r : Rec) (n : ℕ) (words : List ℕ) → r ≡ a_leaf n → words_in s (a_leaf n) ≡ Some words → (b : Bool) →
    (b ≡ true → IsPacked (a_leaf n) words × FitsIn s.layout (a_leaf n) words) → (IsPacked (a_leaf n) words × FitsIn s.layout (a_leaf n) words → b ≡ true) → (b ≡ true) ↔ IsPackedIn s r
leaf_is_packed s r n words same at b one other = rw same (
  (λ t. let x = one t in (words, at, x.0, x.1)),
  (λ (found, there, packed, room). other (subst (λ (z : List ℕ). IsPacked (a_leaf n) z × FitsIn s.layout (a_leaf n) z) (same_Some found words (sym there ∙ at)) (packed, room))),
)

pub leaf_is_missing : (s : RecordsView) (r : Rec) (n : ℕ) → r ≡ a_leaf n → words_in s (a_leaf n) ≡ None → (false ≡ true) ↔ IsPackedIn s r
leaf_is_missing s r n same none = rw same ((λ t. absurd (cc)), (λ (found, there, packed, room). absurd (none-some found (sym none ∙ there))))
