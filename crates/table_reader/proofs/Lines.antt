-- A process line: what stands before its stays, and then these.
use Rattle.std.proofs.Common.{◌≡◌, ◌≢◌, ℕ, true, List, [], Option, Some, None, ap, ◌∙◌}
use Rattle.std.specs.Prelude.{option_map, option_and_then}
use Rattle.std.specs.Option.{is_some}
use Rattle.std.specs.Borrow.{Bor}
use Rattle.std.proofs.lemmas.Bool.{false≢true}
use Rattle.table_format.specs.Spelling.{Word, SaidStay, SaidLine}
use Rattle.table_reader.specs.Words.{left, split}
use Rattle.table_reader.specs.Reading.{head_read, stays_read, line_read}
use Rattle.table_reader.proofs.Splits.{split_some}

-- ---- the words that are left

pub some_left : (rest : Option (Bor (List ℕ))) → is_some rest ≡ true → left rest ≢ []
some_left None is = absurd (false≢true is)
some_left (Some bytes) is = split_some bytes.now

-- ---- the whole line

abbrev with_stays : SaidLine × List Word → Option (List SaidStay) → Option SaidLine
with_stays front stays = option_map (λ found. record front.0 { stays = found }) stays

pub no_head : (line : List ℕ) → None ≡ head_read (split line) → None ≡ line_read line
unfolding line_read
no_head line is = ap (option_and_then (λ (front : SaidLine × List Word). with_stays front (stays_read front.1))) is

pub line_from : (line : List ℕ) (front : SaidLine × List Word) (stays : Option (List SaidStay)) → Some front ≡ head_read (split line) → stays ≡ stays_read front.1
    → with_stays front stays ≡ line_read line
unfolding line_read
line_from line front stays h s = ap (with_stays front) s ∙ ap (option_and_then (λ (x : SaidLine × List Word). with_stays x (stays_read x.1))) h
