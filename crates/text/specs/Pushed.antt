-- What is written behind a text in a lent buffer.
-- Assumes nothing.
use Rattle.std.specs.Prelude.{ℕ, ◌≡◌, List, length}
use Rattle.text.specs.Text.{Written}
use Rattle.text.specs.declared.Text.{Text}

-- these bytes were written behind the text, in the same buffer, of which everything else is unchanged
pub record Pushed (before after : Text) (bytes : List ℕ) : Type 0 where
  pub same : after.out.ghost_name ≡ before.out.ghost_name
  pub long : length after.out.now ≡ length before.out.now
  pub written : Written before.out.now before.len bytes after.out.now after.len
