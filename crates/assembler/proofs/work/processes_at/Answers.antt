use Rattle.std.proofs.Common.{◌≡◌, ◌-◌, ◌+◌, ◌++◌, ◌∷◌, [], ℕ, List, Ok, codes, map, sym, ap, ◌∙◌, subst, append_assoc, length-append}
use Rattle.std.proofs.lemmas.Result.{err_from_is_err_and}
use Rattle.std.proofs.lemmas.List.{flat_map_more}
use Rattle.std.specs.List.{zip}
use Rattle.machine_semantics.specs.Image.{Process}
use Rattle.image.specs.Raw.{process_of}
use Rattle.image_reader.specs.Grammar.{event_of}
use Rattle.image_reader.specs.File.{used_by}
use Rattle.text_fields.specs.Front.{Fails, Front, Read, begins, front}
use Rattle.asm_lines.specs.Processes.{process_line_read, process_read}
use Rattle.assembler.specs.Sections.{no_more, processes_read, rows_read}
use Rattle.assembler.proofs.RowLoop.{ends, fails, full, goes_on, in_front, overfull}
use Rattle.assembler.proofs.Rows.{names_taken, one_more}
use Rattle.assembler.proofs.work.processes_at.Goals as goal

pub returns-then-not-begins_with-clause-read : goal.returns-then-not-begins_with-clause-read
returns-then-not-begins_with-clause-read c =
    let one : List (List ℕ × Process) → Front → Read (List ℕ × Process) = λ earlier. process_read c.args.monitors c.args.events (c.args.taken.now ++ map (λ p. p.0) earlier) (used_by earlier) in
    let rows = zip c.loop.names (map process_of c.loop.things) in
    let total = processes_read c.args.monitors c.args.events c.args.taken.now (front c.args.at) in
    ends (begins (codes "process ")) one (λ earlier. process_line_read c.args.events (c.args.taken.now ++ map (λ p. p.0) earlier) (used_by earlier)) rows 64 c.loop.counter (front c.loop.place) total c.loop-test.true
    (sym c.begins_with.ensures ∙ c.if-not-begins_with.true) c.loop.invariant.so_far

pub returns-in_err-name-clause-read : goal.returns-in_err-name-clause-read
returns-in_err-name-clause-read c =
    let one : List (List ℕ × Process) → Front → Read (List ℕ × Process) = λ earlier. process_read c.args.monitors c.args.events (c.args.taken.now ++ map (λ p. p.0) earlier) (used_by earlier) in
    let rows = zip c.loop.names (map process_of c.loop.things) in
    let total = processes_read c.args.monitors c.args.events c.args.taken.now (front c.args.at) in
    let names_are = c.as_slice.ensures ∙ names_taken process_of c.args.taken.now c.loop.taken c.loop.names c.loop.things c.loop.invariant.each c.loop.invariant.taken in
    let used_are = c.as_slice-in-loop.ensures ∙ c.loop.invariant.used in
    let e = c.in_err-name.field-0.0 in
    let p = err_from_is_err_and c.from_residual.result c.from_residual.ensures.1 in
    let failed : Fails e (one rows (front c.loop.place)) =
    subst (λ us. Fails e (process_read c.args.monitors c.args.events (c.args.taken.now ++ map (λ p. p.0) rows) us (front c.loop.place))) used_are
    (subst (λ ns. Fails e (process_read c.args.monitors c.args.events ns c.as_slice-in-loop.result.now (front c.loop.place))) names_are c.in_err-name.ensures) in
    rw (p.1, p.2) (fails (begins (codes "process ")) one (λ earlier. process_line_read c.args.events (c.args.taken.now ++ map (λ p. p.0) earlier) (used_by earlier)) e rows 64 c.loop.counter (front c.loop.place) total c.loop-test.true
    (sym c.begins_with.ensures ∙ c.if-not-begins_with.false) failed c.loop.invariant.so_far)

pub loop-preserved : goal.loop-preserved
loop-preserved c =
    let one : List (List ℕ × Process) → Front → Read (List ℕ × Process) = λ earlier. process_read c.args.monitors c.args.events (c.args.taken.now ++ map (λ p. p.0) earlier) (used_by earlier) in
    let line = λ (earlier : List (List ℕ × Process)). process_line_read c.args.events (c.args.taken.now ++ map (λ p. p.0) earlier) (used_by earlier) in
    let rows = zip c.loop.names (map process_of c.loop.things) in
    let total = processes_read c.args.monitors c.args.events c.args.taken.now (front c.args.at) in
    let names_are = c.as_slice.ensures ∙ names_taken process_of c.args.taken.now c.loop.taken c.loop.names c.loop.things c.loop.invariant.each c.loop.invariant.taken in
    let used_are = c.as_slice-in-loop.ensures ∙ c.loop.invariant.used in
    let n = c.in_ok-name.name in
    let p = c.in_ok-name.process in
    let t = front c.in_ok-name.after in
    let read : one rows (front c.loop.place) ≡ Ok ((n, process_of p), t) =
    subst (λ us. process_read c.args.monitors c.args.events (c.args.taken.now ++ map (λ p. p.0) rows) us (front c.loop.place) ≡ Ok ((n, process_of p), t)) used_are
    (subst (λ ns. process_read c.args.monitors c.args.events ns c.as_slice-in-loop.result.now (front c.loop.place) ≡ Ok ((n, process_of p), t)) names_are c.in_ok-name.ensures) in
    let more = one_more process_of c.loop.names c.loop.things n p c.loop.invariant.each in
    rw (c.in_ok-push.ensures.ok, c.in_ok-push-2.ensures.ok, c.in_ok-take.ensures, c.in_ok-use_event.ensures) (record {
      so_far = subst (λ front. in_front front (rows_read (begins (codes "process ")) one line front (64 - (c.loop.counter + 1)) t) ≡ total) (sym more)
          (goes_on (begins (codes "process ")) one line rows 64 c.loop.counter (front c.loop.place) (n, process_of p) t total c.loop-test.true (sym c.begins_with.ensures ∙ c.if-not-begins_with.false) read c.loop.invariant.so_far);
      taken = ap (λ (ns : List (List ℕ)). ns ++ n ∷ []) c.loop.invariant.taken ∙ append_assoc c.args.taken.now c.loop.names (n ∷ []);
      each = length-append c.loop.names (n ∷ []) ∙ ap (λ k. k + 1) c.loop.invariant.each ∙ sym (length-append c.loop.things (p ∷ []));
      used = ap (λ (us : List ℕ). us ++ event_of (process_of p)) c.loop.invariant.used ∙ flat_map_more (λ x. event_of x.1) [] rows (n, process_of p) ∙ ap used_by (sym more);
    })

pub returns-in_err-place-clause-read : goal.returns-in_err-place-clause-read
returns-in_err-place-clause-read c =
    let one : List (List ℕ × Process) → Front → Read (List ℕ × Process) = λ earlier. process_read c.args.monitors c.args.events (c.args.taken.now ++ map (λ p. p.0) earlier) (used_by earlier) in
    let line = λ (earlier : List (List ℕ × Process)). process_line_read c.args.events (c.args.taken.now ++ map (λ p. p.0) earlier) (used_by earlier) in
    let rows = zip c.loop.names (map process_of c.loop.things) in
    let total = processes_read c.args.monitors c.args.events c.args.taken.now (front c.args.at) in
    let names_are = c.as_slice-2.ensures ∙ names_taken process_of c.args.taken.now c.loop.taken c.loop.names c.loop.things c.loop.invariant.each c.loop.invariant.taken in
    let used_are = c.as_slice-3.ensures ∙ c.loop.invariant.used in
    let e = c.in_err-place.field-0.0 in
    let p = err_from_is_err_and c.from_residual-in_err-place.result c.from_residual-in_err-place.ensures.1 in
    let failed : Fails e (no_more (begins (codes "process ")) (line rows) (front c.loop.place)) =
    subst (λ us. Fails e (no_more (begins (codes "process ")) (process_line_read c.args.events (c.args.taken.now ++ map (λ p. p.0) rows) us) (front c.loop.place))) used_are
    (subst (λ ns. Fails e (no_more (begins (codes "process ")) (process_line_read c.args.events ns c.as_slice-3.result.now) (front c.loop.place))) names_are c.in_err-place.ensures) in
    rw (p.1, p.2) (overfull (begins (codes "process ")) one line e rows 64 c.loop.counter (front c.loop.place) total c.loop-test.false failed c.loop.invariant.so_far)

pub returns-clause-read : goal.returns-clause-read
returns-clause-read c =
    let one : List (List ℕ × Process) → Front → Read (List ℕ × Process) = λ earlier. process_read c.args.monitors c.args.events (c.args.taken.now ++ map (λ p. p.0) earlier) (used_by earlier) in
    let line = λ (earlier : List (List ℕ × Process)). process_line_read c.args.events (c.args.taken.now ++ map (λ p. p.0) earlier) (used_by earlier) in
    let rows = zip c.loop.names (map process_of c.loop.things) in
    let total = processes_read c.args.monitors c.args.events c.args.taken.now (front c.args.at) in
    let names_are = c.as_slice-2.ensures ∙ names_taken process_of c.args.taken.now c.loop.taken c.loop.names c.loop.things c.loop.invariant.each c.loop.invariant.taken in
    let used_are = c.as_slice-3.ensures ∙ c.loop.invariant.used in
    let t = front c.in_ok-place.place in
    let none : no_more (begins (codes "process ")) (line rows) (front c.loop.place) ≡ Ok t =
    subst (λ us. no_more (begins (codes "process ")) (process_line_read c.args.events (c.args.taken.now ++ map (λ p. p.0) rows) us) (front c.loop.place) ≡ Ok t) used_are
    (subst (λ ns. no_more (begins (codes "process ")) (process_line_read c.args.events ns c.as_slice-3.result.now) (front c.loop.place) ≡ Ok t) names_are c.in_ok-place.ensures) in
    full (begins (codes "process ")) one line rows 64 c.loop.counter (front c.loop.place) t total c.loop-test.false none c.loop.invariant.so_far
