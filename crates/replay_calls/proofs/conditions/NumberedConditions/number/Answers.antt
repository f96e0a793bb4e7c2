use Rattle.std.proofs.Common.{◌≡◌, ◌≤◌, ◌+◌, ◌-◌, ◌∙◌, ap, arith, sym, drop, length, map, take, [], Some, None, Bor}
use Rattle.std.specs.Prelude.{slice_get}
use Rattle.std.proofs.lemmas.List.{length-map}
use Rattle.syntax_tree.specs.declared.name.Name.{Name}
use Rattle.syntax_tree.specs.Placed.{placed, plain}
use Rattle.source_semantics.specs.Names.{condition_number, monitors, place_of}
use Rattle.replay_calls.specs.Conditions.{conditions_in, spans_from}
use Rattle.replay_calls.proofs.Numbering.{no_span_at, number_in, number_past, span_at, span_within}
use Rattle.replay_calls.proofs.conditions.NumberedConditions.number.Goals as goal

pub place_in-requires-clause-start : goal.place_in-requires-clause-start
place_in-requires-clause-start c =
    let s = c.in-Some.span.now in
    let ms = monitors (plain (placed c.self.inside.declarations.now)) in
    let at : slice_get (spans_from 0 ms) c.args.mon ≡ Some (s.start, s.end) =
    span_at c.self.inside.spans.items c.deref.result.now ms c.args.mon s c.self.invariant.spans c.deref.ensures.value c.in-Some.ensures.lookup.3.0 c.in-Some.ensures.lookup.1 in
    (span_within 0 ms c.args.mon s.start s.end at).0

pub place_in-requires-clause-end : goal.place_in-requires-clause-end
place_in-requires-clause-end c =
    let s = c.in-Some.span.now in
    let ms = monitors (plain (placed c.self.inside.declarations.now)) in
    let own = λ (n : Bor Name). n.now in
    let at : slice_get (spans_from 0 ms) c.args.mon ≡ Some (s.start, s.end) =
    span_at c.self.inside.spans.items c.deref.result.now ms c.args.mon s c.self.invariant.spans c.deref.ensures.value c.in-Some.ensures.lookup.3.0 c.in-Some.ensures.lookup.1 in
    let within : s.end ≤ 0 + length (conditions_in ms) = (span_within 0 ms c.args.mon s.start s.end at).1 in
    let count : length (conditions_in ms) ≡ length c.as_slice.result.now =
    ap length (sym c.self.invariant.names) ∙ (length-map c.self.inside.names.items own ∙ ap length (sym c.as_slice.ensures.value)) in
    omega (arith, within, count)

pub returns-in-None : goal.returns-in-None
returns-in-None c =
    let ms = monitors (plain (placed c.self.inside.declarations.now)) in
    let own = λ (n : Bor Name). n.now in
    let past : slice_get (spans_from 0 ms) c.args.mon ≡ None =
    no_span_at c.self.inside.spans.items c.deref.result.now ms c.args.mon c.self.invariant.spans c.deref.ensures.value c.in-None.ensures.lookup.3 in
    let count : length (conditions_in ms) ≡ length c.self.inside.names.items = ap length (sym c.self.invariant.names) ∙ length-map c.self.inside.names.items own in
    let total : c.self.inside.names.len ≡ 0 + length (conditions_in ms) = omega (arith, count, c.self.inside.names.ok) in
    c.len.ensures
    ∙ (total
    ∙ (number_past 0 ms c.args.mon c.args.name.now past
    ∙ ap (λ p. condition_number (plain (placed p)) c.args.mon c.args.name.now) c.self.view_is))

pub returns-in-Some : goal.returns-in-Some
returns-in-Some c =
    let s = c.in-Some.span.now in
    let ms = monitors (plain (placed c.self.inside.declarations.now)) in
    let own = λ (n : Bor Name). n.now in
    let at : slice_get (spans_from 0 ms) c.args.mon ≡ Some (s.start, s.end) =
    span_at c.self.inside.spans.items c.deref.result.now ms c.args.mon s c.self.invariant.spans c.deref.ensures.value c.in-Some.ensures.lookup.3.0 c.in-Some.ensures.lookup.1 in
    c.place_in.ensures
    ∙ (ap (λ l. s.start + place_of c.args.name.now (take (s.end - s.start) (drop s.start l))) (ap (map own) c.as_slice.ensures.value ∙ c.self.invariant.names)
    ∙ (number_in [] ms c.args.mon s.start s.end c.args.name.now at
    ∙ ap (λ p. condition_number (plain (placed p)) c.args.mon c.args.name.now) c.self.view_is))
