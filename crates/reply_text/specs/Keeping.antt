-- A text that keeps what it had, and may have more after it.
use Rattle.std.specs.Prelude.{◌≡◌, length, take}
use Rattle.lake_model.specs.Texts.{Text}

pub record Keeps (before after : Text) : Type 0 where
  pub kept : take (length before) after ≡ before
