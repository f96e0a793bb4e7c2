-- What a read found.
use Rattle.std.specs.Prelude.{◌≡◌, ◌<◌, ℕ, List, length}
use Rattle.command_answers.specs.declared.reading.Content.{Content}
use Rattle.command_answers.specs.declared.reading.Content.TheVariants as content

-- these bytes, or that they are more than were asked for
abbrev pub IsContent : (most : ℕ) → Content → List ℕ → Type 0
IsContent most (content.Bytes found) bytes = bytes ≡ found.items
IsContent most content.TooLong bytes = most < length bytes
