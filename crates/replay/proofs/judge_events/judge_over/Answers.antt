use Rattle.std.proofs.Common.{◌≡◌, ◌∙◌, ◌++◌, ◌∷◌, [], ℕ, List, refl, sym, subst}
use Rattle.std.proofs.lemmas.Result.{IfErr-weaker, IfOk-weaker}
use Rattle.std.specs.Borrow.{Bor}
use Rattle.base.specs.declared.event.Event.{Event}
use Rattle.image.specs.declared.names.ImageNames.{ImageNames}
use Rattle.event_log.specs.Logs.{IsLog}
use Rattle.event_log.specs.Reader.{HasRead, names_of}
use Rattle.replay_accept.specs.declared.rules.Rules.{Rules}
use Rattle.replay_accept.specs.Running.{program_of}
use Rattle.replay_state.specs.View.{config_of}
use Rattle.replay_due_events.specs.Accepts.{Accepts}
use Rattle.replay_script.specs.Cursors.{script_in}
use Rattle.script.specs.declared.script.Script as code_script
use Rattle.script.specs.Meaning.{said}
use Rattle.source_semantics.specs.Config.{Config}
use Rattle.source_semantics.specs.Starts.{Script}
use Rattle.source_semantics.specs.Verdicts.{Allowed, Stops}
use Rattle.replay.specs.Judging.{IsFaultOf, IsFoundOf}
use Rattle.replay.proofs.ReplayingLemmas.{allowed_more, along, at_none, at_some, found_at_end, same_names, stays_here, steps_here, stops_here}
use Rattle.replay.proofs.judge_events.judge_over.Goals as goal

abbrev script_at : Bor code_script.Script → Script
script_at b = said b.now.lines b.now.end

pub loop-event-preserved : goal.loop-event-preserved
loop-event-preserved c =
    let g = program_of c.args.running.now.rules in
    let s = script_in c.args.script.now in
    let begun = config_of c.args.running.now.config in
    let d = config_of c.loop-event.running.config in
    let new = config_of c.accept.new.self.config in
    let e = c.in-Some.event in
    let more =
    at_some c.in_ok-event.field-0 e (λ (next : Event). (text : List ℕ) (events : List Event) → HasRead text events c.loop-event.reader → HasRead text (events ++ next ∷ []) c.next.new.self) c.in-Some.is c.in_ok-event.ensures.some in
    let b = c.in_ok-accept.field-0 in
    let accepts : Accepts g s d e b new =
    along (λ (q : Rules) (y : Bor code_script.Script) (k : Config). Accepts (program_of q) (script_at y) k e b new) c.loop-event.running.rules c.args.running.now.rules c.loop-event.script.script c.args.script.now.script d d
    c.loop-event.invariant.rules c.loop-event.invariant.same refl c.in_ok-accept.ensures.accepts in
    record {
      stands = c.in_ok-accept.ensures.stands;
      rules = c.in_ok-accept.ensures.rules ∙ c.loop-event.invariant.rules;
      at = c.in_ok-accept.ensures.script;
      same = c.in_ok-accept.ensures.same ∙ c.loop-event.invariant.same;
      reader = c.in_ok-event.ensures.reader;
      index = c.in_ok-event.ensures.names ∙ c.loop-event.invariant.index;
      led = λ text read.
          let before = c.loop-event.invariant.led text read in
          record {
            events = before.events ++ e ∷ [];
            read = more text before.events before.read;
            allowed = allowed_more g s begun before.events d e new before.allowed (steps_here g s d e b new accepts c.if-not-branch.false);
          };
    }

pub refuse-requires-clause-stops : goal.refuse-requires-clause-stops
refuse-requires-clause-stops c =
    let g = program_of c.loop-event.running.rules in
    let s = script_in c.loop-event.script in
    let d = config_of c.loop-event.running.config in
    let new = config_of c.accept.new.self.config in
    let e = c.in-Some.event in
    let b = c.in_ok-accept.field-0 in
    let accepts : Accepts g s d e b new = c.in_ok-accept.ensures.accepts in
    along (λ (q : Rules) (y : Bor code_script.Script) (k : Config). Stops (program_of q) (script_at y) k (e ∷ [])) c.loop-event.running.rules c.accept.new.self.rules c.loop-event.script.script
    c.accept.new.script.script d new (sym c.in_ok-accept.ensures.rules) (sym c.in_ok-accept.ensures.same) (sym (stays_here g s d e b new accepts c.if-not-branch.true))
    (stops_here g s d e b new accepts c.if-not-branch.true)

pub returns-then-not-branch-clause-found : goal.returns-then-not-branch-clause-found
returns-then-not-branch-clause-found c =
    let begun = config_of c.args.running.now.config in
    let d = config_of c.loop-event.running.config in
    let new = config_of c.accept.new.self.config in
    let e = c.in-Some.event in
    let more =
    at_some c.in_ok-event.field-0 e (λ (next : Event). (text : List ℕ) (events : List Event) → HasRead text events c.loop-event.reader → HasRead text (events ++ next ∷ []) c.next.new.self) c.in-Some.is c.in_ok-event.ensures.some in
    let b = c.in_ok-accept.field-0 in
    let accepts : Accepts (program_of c.loop-event.running.rules) (script_in c.loop-event.script) d e b new = c.in_ok-accept.ensures.accepts in
    let rules : c.accept.new.self.rules ≡ c.args.running.now.rules = c.in_ok-accept.ensures.rules ∙ c.loop-event.invariant.rules in
    let same : c.accept.new.script.script ≡ c.args.script.now.script = c.in_ok-accept.ensures.same ∙ c.loop-event.invariant.same in
    let stays : new ≡ d = stays_here (program_of c.loop-event.running.rules) (script_in c.loop-event.script) d e b new accepts c.if-not-branch.true in
    let names : names_of c.next.new.self ≡ names_of c.args.reader.now = same_names c.args.reader.now c.next.new.self (c.in_ok-event.ensures.names ∙ c.loop-event.invariant.index) in
    IfOk-weaker c.refuse.result _ _
    (λ found finds text read.
    let before = c.loop-event.invariant.led text read in
    let allowed : Allowed (program_of c.accept.new.self.rules) (script_at c.accept.new.script.script) begun before.events new =
    along (λ (q : Rules) (y : Bor code_script.Script) (k : Config). Allowed (program_of q) (script_at y) begun before.events k) c.args.running.now.rules c.accept.new.self.rules c.args.script.now.script
    c.accept.new.script.script d new (sym rules) (sym same) (sym stays) before.allowed in
    along (λ (q : Rules) (y : Bor code_script.Script) (n : ImageNames). IsFoundOf (program_of q) (script_at y) begun n text found c.refuse.new.reader.lines) c.accept.new.self.rules c.args.running.now.rules c.accept.new.script.script
    c.args.script.now.script (names_of c.next.new.self) (names_of c.args.reader.now) rules same names
    (finds begun text before.events (more text before.events before.read) allowed))
    c.refuse.ensures.found

pub returns-then-not-branch-clause-fault : goal.returns-then-not-branch-clause-fault
returns-then-not-branch-clause-fault c =
    let e = c.in-Some.event in
    let more =
    at_some c.in_ok-event.field-0 e (λ (next : Event). (text : List ℕ) (events : List Event) → HasRead text events c.loop-event.reader → HasRead text (events ++ next ∷ []) c.next.new.self) c.in-Some.is c.in_ok-event.ensures.some in
    let names : names_of c.next.new.self ≡ names_of c.args.reader.now = same_names c.args.reader.now c.next.new.self (c.in_ok-event.ensures.names ∙ c.loop-event.invariant.index) in
    IfErr-weaker c.refuse.result _ _
    (λ why fault text read.
    let before = c.loop-event.invariant.led text read in
    subst (λ (n : ImageNames). IsFaultOf n text why) names (fault text (before.events ++ e ∷ []) (more text before.events before.read)))
    c.refuse.ensures.fault

pub returns-clause-found : goal.returns-clause-found
returns-clause-found c =
    let begun = config_of c.args.running.now.config in
    let d = config_of c.loop-event.running.config in
    let none =
    at_none c.in_ok-event.field-0 ((text : List ℕ) (events : List Event) → HasRead text events c.loop-event.reader → HasRead text events c.next.new.self × IsLog (names_of c.loop-event.reader) text events) c.in_default.is c.in_ok-event.ensures.none in
    let names : names_of c.loop-event.reader ≡ names_of c.args.reader.now = same_names c.args.reader.now c.loop-event.reader c.loop-event.invariant.index in
    IfOk-weaker c.judge_end.result _ _
    (λ found finds text read.
    let before = c.loop-event.invariant.led text read in
    let last = none text before.events before.read in
    let at_end = last.0 in
    let allowed : Allowed (program_of c.loop-event.running.rules) (script_at c.loop-event.script.script) begun before.events d =
    along (λ (q : Rules) (y : Bor code_script.Script) (k : Config). Allowed (program_of q) (script_at y) begun before.events k) c.args.running.now.rules c.loop-event.running.rules c.args.script.now.script
    c.loop-event.script.script d d (sym c.loop-event.invariant.rules) (sym c.loop-event.invariant.same) refl before.allowed in
    along (λ (q : Rules) (y : Bor code_script.Script) (n : ImageNames). IsFoundOf (program_of q) (script_at y) begun n text found c.next.new.self.lines) c.loop-event.running.rules c.args.running.now.rules
    c.loop-event.script.script c.args.script.now.script (names_of c.loop-event.reader) (names_of c.args.reader.now) c.loop-event.invariant.rules c.loop-event.invariant.same names
    (found_at_end (program_of c.loop-event.running.rules) (script_at c.loop-event.script.script) begun (names_of c.loop-event.reader) c.next.new.self text before.events found at_end last.1
    (finds begun before.events (c.lines.ensures ∙ at_end.lines) allowed)))
    c.judge_end.ensures.found
