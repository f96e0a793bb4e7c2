-- A log has a line for each event.
use Rattle.std.proofs.Common.{◌≡◌, ◌+◌, ◌++◌, ◌∙◌, ℕ, suc, List, [], ◌∷◌, length, refl, ap, arith}
use Rattle.std.specs.Prelude.{All, cond, nat_eq}
use Rattle.std.proofs.lemmas.List.Sums.{sum_by-cons}
use Rattle.std.proofs.lemmas.List.Elements.{All-head, All-tail}
use Rattle.base.specs.declared.event.Event.{Event}
use Rattle.text_fields.specs.Fields.{Lacks}
use Rattle.image.specs.declared.names.ImageNames.{ImageNames}
use Rattle.event_log.specs.Line.{log_of}
use Rattle.event_log.specs.Logs.{IsLog, IsTold}
use Rattle.event_log.specs.Parts.{spelled}
use Rattle.event_log.proofs.Reading.{line_then, spelled_feed}
use Rattle.command.specs.Due.{lines_in}

-- behind bytes that end no line stand as many lines as with them
lines_behind : (bytes rest : List ℕ) → Lacks 10 bytes → lines_in (bytes ++ rest) ≡ lines_in rest
lines_behind [] rest none = refl
lines_behind (b ∷ bytes) rest none = let other = none.0 in let more = lines_behind bytes rest none.1 in grind (arith, more)

lines_of_log : (names : ImageNames) (es : List Event) → All (IsTold names) es → lines_in (log_of names es) ≡ length es
unfolding log_of
lines_of_log names [] told = refl
lines_of_log names (e ∷ es) told =
    let first : IsTold names e = All-head (IsTold names) e es told in
    let one : log_of names (e ∷ es) ≡ spelled names e ++ 10 ∷ log_of names es = line_then names e (log_of names es) in
    let behind : lines_in (spelled names e ++ 10 ∷ log_of names es) ≡ lines_in (10 ∷ log_of names es) = lines_behind (spelled names e) (10 ∷ log_of names es) (spelled_feed names e first.words first) in
    let more : lines_in (log_of names es) ≡ length es = lines_of_log names es (All-tail (IsTold names) e es told) in
    let one_more : lines_in (10 ∷ log_of names es) ≡ 1 + lines_in (log_of names es) = sum_by-cons (λ (byte : ℕ). cond (nat_eq byte 10) 1 0) 10 (log_of names es) in
    let counted : lines_in (10 ∷ log_of names es) ≡ suc (length es) = omega (arith, one_more, more) in
    ap lines_in one ∙ (behind ∙ counted)

pub lines_are_events : (names : ImageNames) (text : List ℕ) (events : List Event) → IsLog names text events → lines_in text ≡ length events
lines_are_events names text events log = ap lines_in log.whole ∙ lines_of_log names events log.told
