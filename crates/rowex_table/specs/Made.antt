-- New records on their way into the tree, by the whole list of what a pass has, and a pass that has gone on.
use Rattle.std.specs.Prelude.{◌≡◌, ℕ, List, ◌++◌, map, All}
use Rattle.finite_map.specs.Fronts.{OthersGoOn}
use Rattle.versions.specs.State.{Past}
use Rattle.record_words.specs.declared.records.Rec.{Rec}
use Rattle.versions.specs.Trades.{AreApart}
use Rattle.rowex_core.specs.declared.known.Holding.{Holding}
use Rattle.rowex_core.specs.declared.known.Holding.TheVariants.{Held, Ready}
use Rattle.rowex_core.specs.declared.known.Known.{Known}
use Rattle.rowex_core.specs.declared.known.Locked.{Locked}
use Rattle.rowex_core.specs.declared.known.Owned.{Owned}
use Rattle.rowex_core.specs.Knowing.{IsFact}

-- a new record, with the words with which its pass fills it
pub record Made : Type 0 where
  pub rec : Rec
  pub words : List ℕ

-- the new record as one of a pass's own, held as `holding` says
abbrev pub held_as : Holding → Made → Owned
held_as holding made = record { rec = made.rec; holding = holding; words = made.words }

-- the new records of a list, without their words
abbrev pub recs_of : List Made → List Rec
recs_of made = map (λ (one : Made). one.rec) made

-- the numbers of the locked nodes, without the nodes' words
abbrev pub nodes_of : List Locked → List ℕ
nodes_of locks = map (λ (lock : Locked). lock.node) locks

-- The pass's own records are exactly the records `news`. Each is claimed and filled with its words, and none is listed twice.
abbrev pub HoldsMade : Known → List Made → Type 0
HoldsMade known news = (known.own ≡ map (held_as Held) news) × AreApart (recs_of news)

-- The pass's own records are exactly those of `done`, which are ready, and those of `todo`, which are claimed and filled. None is listed
-- twice.
abbrev pub HasReadied : (known : Known) → (done todo : List Made) → Type 0
HasReadied known done todo = (known.own ≡ map (held_as Ready) done ++ map (held_as Held) todo) × AreApart (recs_of (done ++ todo))

-- What a pass knows has gone on from `before` to `after`. The pass and its pin are the same, and the front has grown by changes of other
-- passes alone. In each past where the facts of `after` are true, those of `before` are. So what followed from `before` still follows.
pub record IsLater (before after : Known) : Type 0 where
  pub pass : after.pass ≡ before.pass
  pub pin : after.pin ≡ before.pin
  pub front : OthersGoOn before.pass before.front after.front
  pub facts : (past : Past) → All (IsFact past) after.facts → All (IsFact past) before.facts
