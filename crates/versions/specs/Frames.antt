-- How the past grows.
use Rattle.std.specs.Prelude.{◌≡◌, ℕ, ◌≤◌}
use Rattle.versions.specs.State.{Past}

-- The past `new` goes on from the past `old`: it has the same versions, and maybe later ones.
pub record IsGrown (old new : Past) : Type 0 where
  pub longer : old.now ≤ new.now
  pub kept : (version : ℕ) → version ≤ old.now → new.version version ≡ old.version version
