use Rattle.std.proofs.Common.{◌≡◌, ◌++◌, ◌∷◌, [], ℕ, List, Ok, codes, sym, ap, ◌∙◌, subst, append_assoc}
use Rattle.std.proofs.lemmas.Result.{err_from_is_err_and}
use Rattle.text_fields.specs.Front.{Fails, Front, Read, begins, front}
use Rattle.asm_lines.specs.Names.{event_read}
use Rattle.assembler.specs.Sections.{events_read, no_more}
use Rattle.assembler.proofs.RowLoop.{ends, fails, full, goes_on, overfull}
use Rattle.assembler.proofs.names.events_at.Goals as goal

pub returns-then-not-begins_with-clause-read : goal.returns-then-not-begins_with-clause-read
returns-then-not-begins_with-clause-read c =
    let one : List (List ℕ) → Front → Read (List ℕ) = λ earlier. event_read (c.args.taken.now ++ earlier) in
    ends (begins (codes "event ")) one one c.loop.events 64 c.loop.counter (front c.loop.place) (events_read c.args.taken.now (front c.args.at)) c.loop-test.true
    (sym c.begins_with.ensures ∙ c.if-not-begins_with.true) c.loop.invariant.so_far

pub returns-in_err-event-clause-read : goal.returns-in_err-event-clause-read
returns-in_err-event-clause-read c =
    let one : List (List ℕ) → Front → Read (List ℕ) = λ earlier. event_read (c.args.taken.now ++ earlier) in
    let p = err_from_is_err_and c.from_residual.result c.from_residual.ensures.1 in
    let e = c.in_err-event.field-0.0 in
    let failed : Fails e (one c.loop.events (front c.loop.place)) = subst (λ ns. Fails e (event_read ns (front c.loop.place))) (c.as_slice.ensures ∙ c.loop.invariant.taken) c.in_err-event.ensures in
    rw (p.1, p.2) (fails (begins (codes "event ")) one one e c.loop.events 64 c.loop.counter (front c.loop.place) (events_read c.args.taken.now (front c.args.at)) c.loop-test.true
    (sym c.begins_with.ensures ∙ c.if-not-begins_with.false) failed c.loop.invariant.so_far)

pub loop-preserved : goal.loop-preserved
loop-preserved c =
    let one : List (List ℕ) → Front → Read (List ℕ) = λ earlier. event_read (c.args.taken.now ++ earlier) in
    let x = c.in_ok-event.event in
    let read : one c.loop.events (front c.loop.place) ≡ Ok (x, front c.in_ok-event.after) =
    subst (λ ns. event_read ns (front c.loop.place) ≡ Ok (x, front c.in_ok-event.after)) (c.as_slice.ensures ∙ c.loop.invariant.taken) c.in_ok-event.ensures in
    rw (c.in_ok-push.ensures.ok, c.in_ok-take.ensures) (record {
      so_far = goes_on (begins (codes "event ")) one one c.loop.events 64 c.loop.counter (front c.loop.place) x (front c.in_ok-event.after) (events_read c.args.taken.now (front c.args.at)) c.loop-test.true
          (sym c.begins_with.ensures ∙ c.if-not-begins_with.false) read c.loop.invariant.so_far;
      taken = ap (λ (ns : List (List ℕ)). ns ++ x ∷ []) c.loop.invariant.taken ∙ append_assoc c.args.taken.now c.loop.events (x ∷ []);
    })

pub returns-in_err-place-clause-read : goal.returns-in_err-place-clause-read
returns-in_err-place-clause-read c =
    let one : List (List ℕ) → Front → Read (List ℕ) = λ earlier. event_read (c.args.taken.now ++ earlier) in
    let p = err_from_is_err_and c.from_residual-in_err-place.result c.from_residual-in_err-place.ensures.1 in
    let e = c.in_err-place.field-0.0 in
    let failed : Fails e (no_more (begins (codes "event ")) (one c.loop.events) (front c.loop.place)) =
    subst (λ ns. Fails e (no_more (begins (codes "event ")) (event_read ns) (front c.loop.place))) (c.as_slice-2.ensures ∙ c.loop.invariant.taken) c.in_err-place.ensures in
    rw (p.1, p.2) (overfull (begins (codes "event ")) one one e c.loop.events 64 c.loop.counter (front c.loop.place) (events_read c.args.taken.now (front c.args.at)) c.loop-test.false failed c.loop.invariant.so_far)

pub returns-clause-read : goal.returns-clause-read
returns-clause-read c =
    let one : List (List ℕ) → Front → Read (List ℕ) = λ earlier. event_read (c.args.taken.now ++ earlier) in
    let t = front c.in_ok-place.place in
    let none : no_more (begins (codes "event ")) (one c.loop.events) (front c.loop.place) ≡ Ok t =
    subst (λ ns. no_more (begins (codes "event ")) (event_read ns) (front c.loop.place) ≡ Ok t) (c.as_slice-2.ensures ∙ c.loop.invariant.taken) c.in_ok-place.ensures in
    full (begins (codes "event ")) one one c.loop.events 64 c.loop.counter (front c.loop.place) t (events_read c.args.taken.now (front c.args.at)) c.loop-test.false none c.loop.invariant.so_far
