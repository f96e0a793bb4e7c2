-- The list of start events that are missing, put in its parts.
use Rattle.std.proofs.Common.{◌≡◌, ◌++◌, ℕ, List, length, take, ap, sym, ◌∙◌, append_assoc}
use Rattle.std.proofs.lemmas.List.{length-map, take-map}
use Rattle.image.specs.declared.names.ImageNames.{ImageNames}
use Rattle.replay_reason_spec.specs.Events.{event_of, events_of}
use Rattle.replay_reason_spec.specs.declared.event.SourceEvent.{SourceEvent}
use Rattle.message_log.specs.Refused.{list_lines, more}

pub in_parts : (names : ImageNames) (es shown : List SourceEvent) (old head noted listed all : List ℕ) → noted ≡ old ++ head → listed ≡ noted ++ list_lines names (events_of shown) → shown ≡ take 8 es → all ≡ listed ++ more (length es)
    → all ≡ old ++ (head ++ (list_lines names (take 8 (events_of es)) ++ more (length (events_of es))))
in_parts names es shown old head noted listed all notes lists are rest =
    let lines = list_lines names (events_of shown) in
    let last = more (length es) in
    let same_lines : lines ≡ list_lines names (take 8 (events_of es)) = ap (list_lines names) (ap events_of are ∙ sym (take-map event_of 8 es)) in
    let same_last : last ≡ more (length (events_of es)) = ap more (sym (length-map es event_of)) in
    rest
    ∙ (ap (λ l. l ++ last) (lists ∙ ap (λ l. l ++ lines) notes)
    ∙ (append_assoc (old ++ head) lines last
    ∙ (append_assoc old head (lines ++ last)
    ∙ ap (λ l. old ++ (head ++ l)) (ap (λ l. l ++ last) same_lines ∙ ap (λ l. list_lines names (take 8 (events_of es)) ++ l) same_last))))
