use Rattle.std.proofs.Common.{◌++◌, ℕ, List, [], ◌∷◌, append_assoc, subst, sym, ◌∙◌}
use Rattle.base.specs.declared.event.Event.{Event}
use Rattle.event_log.specs.Reader.{HasRead}
use Rattle.event_log.proofs.Reading.{of_some}
use Rattle.event_log.proofs.reader.LogReader.read_to_end.Goals as goal

pub loop-preserved : goal.loop-preserved
loop-preserved c =
    let next =
    of_some c.in_ok-next.field-0 (λ (e : Event). (text : List ℕ) (events : List Event) → HasRead text events c.loop.self → HasRead text (events ++ e ∷ []) c.next.new.self)
    (sym c.is_some.ensures ∙ c.if-is_some.true) c.in_ok-next.ensures.some in
    record {
      reader = c.in_ok-next.ensures.reader;
      index = c.in_ok-next.ensures.names ∙ c.loop.invariant.index;
      read = λ text events read.
          let before = c.loop.invariant.read text events read in
          (before.0 ++ next.0 ∷ [], subst (λ (es : List Event). HasRead text es c.next.new.self) (append_assoc events before.0 (next.0 ∷ [])) (next.1 text (events ++ before.0) before.1));
    }
