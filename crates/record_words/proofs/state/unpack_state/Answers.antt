-- A word of no other tag, and of no epoch, is that of none.
use Rattle.std.proofs.Common.{ℕ, ◌≡◌, ◌≢◌, arith, sym}
use Rattle.record_words.specs.declared.state.Tag.{Tag}
use Rattle.record_words.specs.declared.state.Tag.TheVariants.{Free, Held, Live, Locked, Obsolete}
use Rattle.record_words.specs.State.{HasStateWord, state_word}
use Rattle.record_words.proofs.state.unpack_state.Goals as goal

none_has : (word : ℕ) → word ≢ 0 → word ≢ 1 → word ≢ 2 → word ≢ 3 → ((epoch : ℕ) → HasStateWord (Obsolete epoch) → word ≢ state_word (Obsolete epoch)) →
    (tag : Tag) → HasStateWord tag → state_word tag ≡ word → ⊥
none_has word free held live locked retired Free has is = free (sym is)
none_has word free held live locked retired Held has is = held (sym is)
none_has word free held live locked retired Live has is = live (sym is)
none_has word free held live locked retired Locked has is = locked (sym is)
none_has word free held live locked retired (Obsolete epoch) has is = retired epoch has (sym is)

pub returns-in-None : goal.returns-in-None
returns-in-None c = record {
  read = λ tag has is. absurd (none_has c.args.word (λ e. omega (arith, e)) (λ e. omega (arith, e)) (λ e. omega (arith, e)) (λ e. omega (arith, e)) c.in-None.ensures tag has is);
  spelling = tt;
}
