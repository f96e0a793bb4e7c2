use Rattle.std.proofs.Common.{List, ap, drop, map, sym, ◌∙◌}
use Rattle.script.specs.declared.script.ScriptLine.{ScriptLine}
use Rattle.source_semantics.specs.Starts.{event_releases, value_set}
use Rattle.script.specs.Meaning.{line_said}
use Rattle.replay_script.specs.Cursors.{lines_of, until, word}
use Rattle.replay_script.proofs.Passing.{due_alike, releases_until, value_until}
use Rattle.replay_script.proofs.cursor.ScriptCursor.up_to.Goals as goal

pub returns-then-self-clause-due : goal.returns-then-self-clause-due
returns-then-self-clause-due c = λ g d u low high.
    let s = c.args.self.now in
    due_alike g d u s.script.now.end c.lines_until.result.now (lines_of s)
    (
    ap (λ (ls : List ScriptLine). event_releases g d u (map line_said ls)) (c.lines_until.ensures ∙ ap (until c.args.tick) c.coming-lines.ensures)
    ∙ (releases_until g d u c.args.tick s.reached (drop s.done (lines_of s)) (c.requires.coming c.if-self.true) high ∙ sym (c.requires.passed.releases g d u low))
    )

pub returns-then-self-clause-words : goal.returns-then-self-clause-words
returns-then-self-clause-words c = λ d low.
    let s = c.args.self.now in
    let kept = word d s.words.items in
    ap (λ (ls : List ScriptLine). value_set c.args.tick d kept (map line_said ls)) (c.lines_until.ensures ∙ ap (until c.args.tick) c.coming-lines.ensures)
    ∙ (value_until c.args.tick d kept s.reached (drop s.done (lines_of s)) (c.requires.coming c.if-self.true) ∙ sym (c.requires.passed.words c.args.tick d low))

pub returns-else-self-clause-due : goal.returns-else-self-clause-due
returns-else-self-clause-due c = λ g d u low high.
    let s = c.args.self.now in
    due_alike g d u s.script.now.end c.coming-lines.result.now (lines_of s)
    (ap (λ (ls : List ScriptLine). event_releases g d u (map line_said ls)) c.coming-lines.ensures ∙ sym (c.requires.passed.releases g d u low))

pub returns-else-self-clause-words : goal.returns-else-self-clause-words
returns-else-self-clause-words c = λ d low.
    let s = c.args.self.now in
    ap (λ (ls : List ScriptLine). value_set c.args.tick d (word d s.words.items) (map line_said ls)) c.coming-lines.ensures ∙ sym (c.requires.passed.words c.args.tick d low)
