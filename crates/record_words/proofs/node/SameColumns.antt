-- The words of a head whose columns stay, while its rows and numbers are others.
use Rattle.record_words.proofs.Common.{ℕ, ◌≡◌, ◌+◌, ◌-◌, ◌<◌, ◌≤◌, ◌⊎◌, ⊎_elim, inl, inr, arith, List, drop, get_or, get_or-take, length, take, ap, refl, subst, sym, ◌∙◌, cases_lt, ext_get_or, get_or-drop, get_or-chunk, HeadView, with_unused}
use Rattle.record_words.specs.Kinds.{head_size, kind_of, kind_part, rows_from}
use Rattle.record_words.specs.Node.{HasHead, head_words}
use Rattle.record_words.specs.Packed.{meta_word, row_at, row_words}
use Rattle.record_words.specs.declared.kind.HeadKind.{HeadKind}
use Rattle.record_words.specs.declared.kind.HeadKind.TheVariants.{Middle, Narrow, Wide}
use Rattle.record_words.proofs.fixed.Fixing.{row_words-same}
use Rattle.record_words.proofs.HeadParts.HeadsByKind.{HasParts, head_parts}
use Rattle.record_words.proofs.Lawful.{row_at-with_unused}
use Rattle.record_words.proofs.Written.{behind_head, head_word, length-with_head, with_head}
use lib.Lanes.{chunk}

-- a word of a part
in_chunk : (from n j k : ℕ) (words part : List ℕ) → chunk from n words ≡ part → j < n → from + j ≡ k → get_or words k 0 ≡ get_or part j 0
in_chunk from n j k words part is low e = ap (λ i. get_or words i 0) (sym e) ∙ (sym (get_or-chunk from n words j 0 low) ∙ ap (λ (ws : List ℕ). get_or ws j 0) is)

in_rest : (from j k : ℕ) (words part : List ℕ) → drop from words ≡ part → from + j ≡ k → get_or words k 0 ≡ get_or part j 0
in_rest from j k words part is e = ap (λ i. get_or words i 0) (sym e) ∙ (sym (get_or-drop from words j 0) ∙ ap (λ (ws : List ℕ). get_or ws j 0) is)

-- a head of each kind ends before the entries
all_within : (kind : HeadKind) (k : ℕ) → 25 ≤ k → head_size kind ≤ k
all_within Wide k past = past
all_within Narrow k past = omega (arith, past)
all_within Middle k past = omega (arith, past)

module _ (words : List ℕ) (head next : HeadView) (same : head_words head ≡ take 25 words) (long : length words ≡ 57) (columns_stay : next.columns ≡ head.columns) where
  word_is : (k : ℕ) → k < 25 → get_or (take 25 words) k 0 ≡ get_or words k 0
  word_is k small = get_or-take 25 words k 0 small

  abbrev new : List ℕ
  new = with_head (length next.rows) next.height next.columns next.rows words

  head_at : (k : ℕ) → k < 25 → get_or new k 0 ≡ get_or (head_words next) k 0
  head_at k small = head_word (length next.rows) next.height next.columns next.rows words k small

  -- the words with the new numbers and rows are those of the next head
  module _ (rows : List ℕ) (padded : rows ≡ with_unused next.rows) (kind : HeadKind) (kinded : kind ≡ kind_of head.columns) (out : List ℕ) (whole : length out ≡ 57)
      (numbers : get_or out 0 0 ≡ meta_word (length next.rows) (length head.columns) next.height + kind_part (kind_of head.columns) head.columns)
      (others : (k : ℕ) → 0 < k → (k < rows_from kind) ⊎ (head_size kind ≤ k) → get_or out k 0 ≡ get_or words k 0)
      (in_rows : take (head_size kind - rows_from kind) (drop (rows_from kind) out) ≡ row_words kind rows) where
    old_parts : HasParts kind (length head.rows) head.height head.columns head.rows (take 25 words)
    old_parts = subst (λ k. HasParts k (length head.rows) head.height head.columns head.rows (take 25 words)) (sym kinded) (head_parts (length head.rows) head.height head.columns head.rows (take 25 words) same)

    new_parts : HasParts kind (length next.rows) next.height head.columns next.rows (head_words next)
    new_parts = subst (λ k. HasParts k (length next.rows) next.height head.columns next.rows (head_words next)) (sym kinded)
        (subst (λ cs. HasParts (kind_of cs) (length next.rows) next.height cs next.rows (head_words next)) columns_stay (head_parts (length next.rows) next.height next.columns next.rows (head_words next) refl))

    row_is : (i : ℕ) → row_at rows i ≡ row_at next.rows i
    row_is i = ap (λ rs. row_at rs i) padded ∙ row_at-with_unused next.rows i

    first_word : get_or out 0 0 ≡ get_or new 0 0
    first_word =
        numbers ∙ (ap (λ k. meta_word (length next.rows) (length head.columns) next.height + kind_part k head.columns) (sym kinded) ∙ (sym new_parts.numbers ∙ sym (head_at 0 (omega arith))))

    column_words_stay : (k : ℕ) → 0 < k → k < rows_from kind → k < 25 → get_or out k 0 ≡ get_or new k 0
    column_words_stay k some low small =
        let j : ℕ = k - 1 in
        let e : 1 + j ≡ k = omega (arith, some) in
        let inside : j < rows_from kind - 1 = omega (arith, some, low) in
        others k some (inl low) ∙ (sym (word_is k small)
        ∙ (in_chunk 1 (rows_from kind - 1) j k (take 25 words) _ old_parts.columns_are inside e
        ∙ (sym (in_chunk 1 (rows_from kind - 1) j k (head_words next) _ new_parts.columns_are inside e) ∙ sym (head_at k small))))

    row_words_are : (k : ℕ) → rows_from kind ≤ k → k < head_size kind → k < 25 → get_or out k 0 ≡ get_or new k 0
    row_words_are k past low small =
        let j : ℕ = k - rows_from kind in
        let e : rows_from kind + j ≡ k = omega (arith, past) in
        let inside : j < head_size kind - rows_from kind = omega (arith, past, low) in
        in_chunk (rows_from kind) (head_size kind - rows_from kind) j k out _ in_rows inside e
        ∙ (ap (λ (ws : List ℕ). get_or ws j 0) (row_words-same kind rows next.rows row_is)
        ∙ (sym (in_chunk (rows_from kind) (head_size kind - rows_from kind) j k (head_words next) _ new_parts.rows_are inside e) ∙ sym (head_at k small)))

    unused_stay : (k : ℕ) → 0 < k → head_size kind ≤ k → k < 25 → get_or out k 0 ≡ get_or new k 0
    unused_stay k some past small =
        let j : ℕ = k - head_size kind in
        let e : head_size kind + j ≡ k = omega (arith, past) in
        others k some (inr past) ∙ (sym (word_is k small)
        ∙ (in_rest (head_size kind) j k (take 25 words) _ old_parts.rest e
        ∙ (sym (in_rest (head_size kind) j k (head_words next) _ new_parts.rest e) ∙ sym (head_at k small))))

    at : (k n : ℕ) → n ≡ k → get_or out n 0 ≡ get_or new n 0 → get_or out k 0 ≡ get_or new k 0
    at k n is so = subst (λ m. get_or out m 0 ≡ get_or new m 0) is so

    each : (k : ℕ) → get_or out k 0 ≡ get_or new k 0
    each k = ⊎_elim
        (λ (zero : k < 1). at k 0 (omega (arith, zero)) first_word)
        (λ (more : 1 ≤ k). ⊎_elim
        (λ (in_head : k < 25). ⊎_elim
        (λ (in_columns : k < rows_from kind). column_words_stay k more in_columns in_head)
        (λ (past : rows_from kind ≤ k). ⊎_elim
        (λ (within : k < head_size kind). row_words_are k past within in_head)
        (λ (unused : head_size kind ≤ k). unused_stay k more unused in_head)
        (cases_lt k (head_size kind)))
        (cases_lt k (rows_from kind)))
        (λ (behind : 25 ≤ k). others k more (inr (all_within kind k behind)) ∙ sym (behind_head (length next.rows) next.height next.columns next.rows words k behind))
        (cases_lt k 25))
        (cases_lt k 1)

    pub has_next : HasHead words out next
    has_next = ext_get_or 0 out new (whole ∙ sym (length-with_head (length next.rows) next.height next.columns next.rows words long)) (λ k inside. each k)
