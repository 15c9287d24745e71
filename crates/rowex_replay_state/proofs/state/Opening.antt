-- A replay of no event yet, and the content of its newest version.
use Rattle.rowex_replay_state.proofs.Common.{◌≡◌, List, [], ◌∷◌, map, replicate, None, refl, sym, ap, ◌∙◌, length-replicate, Layout, pairs, Core}
use Rattle.rowex_core.specs.Opening.{opening}
use Rattle.rowex_replay_state.specs.declared.linked.Item.{Item as Stored}
use Rattle.rowex_replay_state.specs.Passes.{ArePassesOf, fresh_pass}
use Rattle.rowex_replay_state.specs.Records.{AreRecordsOf}
use Rattle.rowex_replay_state.specs.States.{StateView, IsStateOf}
use Rattle.rowex_replay_state.specs.Versions.{read_item}
use Rattle.rowex_replay_state.proofs.Tables.{slice_get-replicate}
use Rattle.rowex_replay_state.proofs.EpochSteps.{fresh_seen}

opening_passes : (layout : Layout) → ArePassesOf (replicate layout.passes fresh_pass) layout (opening layout).pins (opening layout).rounds
opening_passes layout = record {
  count = length-replicate layout.passes fresh_pass;
  each = λ q p e. rw (slice_get-replicate layout.passes fresh_pass q p e) record { pin_is = refl; epoch_is = refl; version_is = refl; bound_is = refl; seen_are = fresh_seen layout };
}

pub opening_replay : (s : StateView) (layout : Layout) → AreRecordsOf s.records layout (opening layout).words (opening layout).fate (opening layout).lock →
    s.passes ≡ replicate layout.passes fresh_pass → s.anchor ≡ None → s.root ≡ None → s.epoch ≡ 1 → s.changes ≡ [] → s.items ≡ [] → IsStateOf s (opening layout)
opening_replay s layout records passes anchor root epoch changes items = record {
  records = records;
  passes = rw passes (opening_passes layout);
  anchor = sym anchor;
  root = sym root;
  epoch = sym epoch;
  changes = sym changes;
  items = rw items refl;
}

pairs_stored : (xs : List Stored) → map (λ (x : Stored). (x.key, x.value)) xs ≡ pairs (map read_item xs)
pairs_stored [] = refl
pairs_stored (x ∷ xs) = ap (λ z. (x.key, x.value) ∷ z) (pairs_stored xs)

pub content_is : (s : StateView) (c : Core) → IsStateOf s c → map (λ (x : Stored). (x.key, x.value)) s.items ≡ Rattle.versions.specs.Told.content (c.past.version c.past.now)
content_is s c h = pairs_stored s.items ∙ ap pairs (sym h.items)
