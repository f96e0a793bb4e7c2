use Rattle.std.proofs.Common.{◌≡◌, ◌-◌, ◌+◌, ◌++◌, ◌∷◌, [], ℕ, List, Ok, length, map, sym, ap, ◌∙◌, subst, append_assoc, length-append}
use Rattle.std.proofs.lemmas.List.{map_push, length-map, flat_map_more}
use Rattle.std.specs.List.{zip}
use Rattle.machine_semantics.specs.Image.{Process}
use Rattle.image.specs.Raw.{process_of}
use Rattle.image_format.specs.Format.{Format, each_read}
use Rattle.image_format.specs.Gives.{Fails}
use Rattle.image_reader.specs.Versions.{in_version}
use Rattle.image_reader.specs.Grammar.{event_of, named_process_format}
use Rattle.image_reader.specs.File.{used_by}
use Rattle.image_reader.proofs.EachLoop.{ends, goes_on, in_front, is_done}
use Rattle.image_reader.proofs.Zips.{firsts, zip_push}
use Rattle.image_reader.proofs.named.processes_at.Goals as goal

pub returns-in-Err-clause-read : goal.returns-in-Err-clause-read
returns-in-Err-clause-read c =
    let f : List (List ℕ × Process) → Format (List ℕ × Process) = λ earlier. named_process_format (in_version c.args.has_deadlines) c.args.counts.now (c.args.taken.now ++ map (λ p. p.0) earlier) (used_by earlier) in
    let e = c.in-Err.error in
    let same_length : length c.loop.processes.names ≡ length (map process_of c.loop.processes.things) = c.loop.invariant.each ∙ sym (length-map c.loop.processes.things process_of) in
    let names_are : c.loop.taken ≡ c.args.taken.now ++ map (λ p. p.0) (zip c.loop.processes.names (map process_of c.loop.processes.things)) = c.loop.invariant.taken ∙ ap (λ (ns : List (List ℕ)). c.args.taken.now ++ ns) (sym (firsts c.loop.processes.names (map process_of c.loop.processes.things) same_length)) in
    let used_are : c.as_slice.result.now ≡ used_by (zip c.loop.processes.names (map process_of c.loop.processes.things)) = c.as_slice.ensures ∙ c.loop.invariant.used in
    let failed : Fails e ((f (zip c.loop.processes.names (map process_of c.loop.processes.things))).read c.loop.rest.now) = subst (λ us. Fails e ((named_process_format (in_version c.args.has_deadlines) c.args.counts.now (c.args.taken.now ++ map (λ p. p.0) (zip c.loop.processes.names (map process_of c.loop.processes.things))) us).read c.loop.rest.now)) used_are (subst (λ ns. Fails e ((named_process_format (in_version c.args.has_deadlines) c.args.counts.now ns c.as_slice.result.now).read c.loop.rest.now)) names_are c.in-Err.ensures.read) in
    ends f e (zip c.loop.processes.names (map process_of c.loop.processes.things)) c.args.counts.now.processes c.loop.counter c.loop.rest.now (each_read f [] c.args.counts.now.processes c.args.bytes.now) c.loop-test.true failed c.loop.invariant.so_far

pub loop-preserved : goal.loop-preserved
loop-preserved c =
    let f : List (List ℕ × Process) → Format (List ℕ × Process) = λ earlier. named_process_format (in_version c.args.has_deadlines) c.args.counts.now (c.args.taken.now ++ map (λ p. p.0) earlier) (used_by earlier) in
    let n = c.in-Ok.it.0.0 in
    let m = c.in-Ok.it.0.1 in
    let same_length : length c.loop.processes.names ≡ length (map process_of c.loop.processes.things) = c.loop.invariant.each ∙ sym (length-map c.loop.processes.things process_of) in
    let names_are : c.loop.taken ≡ c.args.taken.now ++ map (λ p. p.0) (zip c.loop.processes.names (map process_of c.loop.processes.things)) = c.loop.invariant.taken ∙ ap (λ (ns : List (List ℕ)). c.args.taken.now ++ ns) (sym (firsts c.loop.processes.names (map process_of c.loop.processes.things) same_length)) in
    let used_are : c.as_slice.result.now ≡ used_by (zip c.loop.processes.names (map process_of c.loop.processes.things)) = c.as_slice.ensures ∙ c.loop.invariant.used in
    let read : (f (zip c.loop.processes.names (map process_of c.loop.processes.things))).read c.loop.rest.now ≡ Ok ((n, process_of m), c.in-Ok.it.1.now) = subst (λ us. (named_process_format (in_version c.args.has_deadlines) c.args.counts.now (c.args.taken.now ++ map (λ p. p.0) (zip c.loop.processes.names (map process_of c.loop.processes.things))) us).read c.loop.rest.now ≡ Ok ((n, process_of m), c.in-Ok.it.1.now)) used_are (subst (λ ns. (named_process_format (in_version c.args.has_deadlines) c.args.counts.now ns c.as_slice.result.now).read c.loop.rest.now ≡ Ok ((n, process_of m), c.in-Ok.it.1.now)) names_are c.in-Ok.ensures.read) in
    let longer : zip (c.loop.processes.names ++ n ∷ []) (map process_of (c.loop.processes.things ++ m ∷ [])) ≡ (zip c.loop.processes.names (map process_of c.loop.processes.things)) ++ (n, process_of m) ∷ [] =
    ap (zip (c.loop.processes.names ++ n ∷ [])) (map_push process_of c.loop.processes.things m) ∙ zip_push c.loop.processes.names (map process_of c.loop.processes.things) n (process_of m) same_length in
    rw (c.in-Ok-add_process.ensures.names, c.in-Ok-add_process.ensures.things, c.in-Ok-add_process.ensures.taken, c.in-Ok-add_process.ensures.used) (record {
      so_far = subst (λ front. in_front front (each_read f front (c.args.counts.now.processes - (c.loop.counter + 1)) c.in-Ok.it.1.now) ≡ (each_read f [] c.args.counts.now.processes c.args.bytes.now)) (sym longer)
          (goes_on f (zip c.loop.processes.names (map process_of c.loop.processes.things)) c.args.counts.now.processes c.loop.counter c.loop.rest.now (n, process_of m) c.in-Ok.it.1.now (each_read f [] c.args.counts.now.processes c.args.bytes.now) c.loop-test.true read c.loop.invariant.so_far);
      taken = ap (λ (ns : List (List ℕ)). ns ++ n ∷ []) c.loop.invariant.taken ∙ append_assoc c.args.taken.now c.loop.processes.names (n ∷ []);
      each = length-append c.loop.processes.names (n ∷ []) ∙ ap (λ k. k + 1) c.loop.invariant.each ∙ sym (length-append c.loop.processes.things (m ∷ []));
      used = ap (λ (us : List ℕ). us ++ event_of (process_of m)) c.loop.invariant.used ∙ flat_map_more (λ p. event_of p.1) [] (zip c.loop.processes.names (map process_of c.loop.processes.things)) (n, process_of m) ∙ ap used_by (sym longer);
    })

pub returns-clause-read : goal.returns-clause-read
returns-clause-read c =
    let f : List (List ℕ × Process) → Format (List ℕ × Process) = λ earlier. named_process_format (in_version c.args.has_deadlines) c.args.counts.now (c.args.taken.now ++ map (λ p. p.0) earlier) (used_by earlier) in
    is_done f (zip c.loop.processes.names (map process_of c.loop.processes.things)) c.args.counts.now.processes c.loop.counter c.loop.rest.now (each_read f [] c.args.counts.now.processes c.args.bytes.now) c.loop-test.false c.loop.invariant.so_far
