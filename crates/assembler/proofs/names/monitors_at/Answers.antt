use Rattle.std.proofs.Common.{◌≡◌, ◌-◌, ◌+◌, ◌++◌, ◌∷◌, [], ℕ, List, Ok, codes, map, sym, ap, ◌∙◌, subst, append_assoc, length-append}
use Rattle.std.proofs.lemmas.Result.{err_from_is_err_and}
use Rattle.std.specs.List.{zip}
use Rattle.machine_semantics.specs.Image.{Monitor}
use Rattle.image.specs.Raw.{monitor_of}
use Rattle.text_fields.specs.Front.{Fails, Front, Read, begins, front}
use Rattle.asm_lines.specs.Names.{monitor_read}
use Rattle.assembler.specs.Sections.{monitors_read, no_more, rows_read}
use Rattle.assembler.proofs.RowLoop.{ends, fails, full, goes_on, in_front, overfull}
use Rattle.assembler.proofs.Rows.{names_taken, one_more}
use Rattle.assembler.proofs.names.monitors_at.Goals as goal

pub returns-then-not-begins_with-clause-read : goal.returns-then-not-begins_with-clause-read
returns-then-not-begins_with-clause-read c =
    let one : List (List ℕ × Monitor) → Front → Read (List ℕ × Monitor) = λ earlier. monitor_read (c.args.taken.now ++ map (λ m. m.0) earlier) in
    ends (begins (codes "monitor ")) one one (zip c.loop.names (map monitor_of c.loop.things)) 64 c.loop.counter (front c.loop.place) (monitors_read c.args.taken.now (front c.args.at)) c.loop-test.true
    (sym c.begins_with.ensures ∙ c.if-not-begins_with.true) c.loop.invariant.so_far

pub returns-then-not-begins_with-clause-taken : goal.returns-then-not-begins_with-clause-taken
returns-then-not-begins_with-clause-taken c = names_taken monitor_of c.args.taken.now c.loop.taken c.loop.names c.loop.things c.loop.invariant.each c.loop.invariant.taken

pub returns-in_err-name-clause-read : goal.returns-in_err-name-clause-read
returns-in_err-name-clause-read c =
    let one : List (List ℕ × Monitor) → Front → Read (List ℕ × Monitor) = λ earlier. monitor_read (c.args.taken.now ++ map (λ m. m.0) earlier) in
    let rows = zip c.loop.names (map monitor_of c.loop.things) in
    let names_are = c.as_slice.ensures ∙ names_taken monitor_of c.args.taken.now c.loop.taken c.loop.names c.loop.things c.loop.invariant.each c.loop.invariant.taken in
    let e = c.in_err-name.field-0.0 in
    let p = err_from_is_err_and c.from_residual.result c.from_residual.ensures.1 in
    let failed : Fails e (one rows (front c.loop.place)) = subst (λ ns. Fails e (monitor_read ns (front c.loop.place))) names_are c.in_err-name.ensures in
    rw (p.1, p.2) (fails (begins (codes "monitor ")) one one e rows 64 c.loop.counter (front c.loop.place) (monitors_read c.args.taken.now (front c.args.at)) c.loop-test.true
    (sym c.begins_with.ensures ∙ c.if-not-begins_with.false) failed c.loop.invariant.so_far)

pub loop-preserved : goal.loop-preserved
loop-preserved c =
    let one : List (List ℕ × Monitor) → Front → Read (List ℕ × Monitor) = λ earlier. monitor_read (c.args.taken.now ++ map (λ m. m.0) earlier) in
    let rows = zip c.loop.names (map monitor_of c.loop.things) in
    let names_are = c.as_slice.ensures ∙ names_taken monitor_of c.args.taken.now c.loop.taken c.loop.names c.loop.things c.loop.invariant.each c.loop.invariant.taken in
    let n = c.in_ok-name.name in
    let m = c.in_ok-name.monitor in
    let t = front c.in_ok-name.after in
    let read : one rows (front c.loop.place) ≡ Ok ((n, monitor_of m), t) = subst (λ ns. monitor_read ns (front c.loop.place) ≡ Ok ((n, monitor_of m), t)) names_are c.in_ok-name.ensures in
    let total = monitors_read c.args.taken.now (front c.args.at) in
    rw (c.in_ok-push.ensures.ok, c.in_ok-push-2.ensures.ok, c.in_ok-take.ensures) (record {
      so_far = subst (λ front. in_front front (rows_read (begins (codes "monitor ")) one one front (64 - (c.loop.counter + 1)) t) ≡ total) (sym (one_more monitor_of c.loop.names c.loop.things n m c.loop.invariant.each))
          (goes_on (begins (codes "monitor ")) one one rows 64 c.loop.counter (front c.loop.place) (n, monitor_of m) t total c.loop-test.true (sym c.begins_with.ensures ∙ c.if-not-begins_with.false) read c.loop.invariant.so_far);
      taken = ap (λ (ns : List (List ℕ)). ns ++ n ∷ []) c.loop.invariant.taken ∙ append_assoc c.args.taken.now c.loop.names (n ∷ []);
      each = length-append c.loop.names (n ∷ []) ∙ ap (λ k. k + 1) c.loop.invariant.each ∙ sym (length-append c.loop.things (m ∷ []));
    })

pub returns-in_err-place-clause-read : goal.returns-in_err-place-clause-read
returns-in_err-place-clause-read c =
    let one : List (List ℕ × Monitor) → Front → Read (List ℕ × Monitor) = λ earlier. monitor_read (c.args.taken.now ++ map (λ m. m.0) earlier) in
    let rows = zip c.loop.names (map monitor_of c.loop.things) in
    let names_are = c.as_slice-2.ensures ∙ names_taken monitor_of c.args.taken.now c.loop.taken c.loop.names c.loop.things c.loop.invariant.each c.loop.invariant.taken in
    let e = c.in_err-place.field-0.0 in
    let p = err_from_is_err_and c.from_residual-in_err-place.result c.from_residual-in_err-place.ensures.1 in
    let failed : Fails e (no_more (begins (codes "monitor ")) (one rows) (front c.loop.place)) =
    subst (λ ns. Fails e (no_more (begins (codes "monitor ")) (monitor_read ns) (front c.loop.place))) names_are c.in_err-place.ensures in
    rw (p.1, p.2) (overfull (begins (codes "monitor ")) one one e rows 64 c.loop.counter (front c.loop.place) (monitors_read c.args.taken.now (front c.args.at)) c.loop-test.false failed c.loop.invariant.so_far)

pub returns-clause-read : goal.returns-clause-read
returns-clause-read c =
    let one : List (List ℕ × Monitor) → Front → Read (List ℕ × Monitor) = λ earlier. monitor_read (c.args.taken.now ++ map (λ m. m.0) earlier) in
    let rows = zip c.loop.names (map monitor_of c.loop.things) in
    let names_are = c.as_slice-2.ensures ∙ names_taken monitor_of c.args.taken.now c.loop.taken c.loop.names c.loop.things c.loop.invariant.each c.loop.invariant.taken in
    let t = front c.in_ok-place.place in
    let none : no_more (begins (codes "monitor ")) (one rows) (front c.loop.place) ≡ Ok t =
    subst (λ ns. no_more (begins (codes "monitor ")) (monitor_read ns) (front c.loop.place) ≡ Ok t) names_are c.in_ok-place.ensures in
    full (begins (codes "monitor ")) one one rows 64 c.loop.counter (front c.loop.place) t (monitors_read c.args.taken.now (front c.args.at)) c.loop-test.false none c.loop.invariant.so_far

pub returns-clause-taken : goal.returns-clause-taken
returns-clause-taken c = names_taken monitor_of c.args.taken.now c.loop.taken c.loop.names c.loop.things c.loop.invariant.each c.loop.invariant.taken
