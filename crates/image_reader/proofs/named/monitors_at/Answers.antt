use Rattle.std.proofs.Common.{◌≡◌, ◌-◌, ◌+◌, ◌++◌, ◌∷◌, [], ℕ, List, Ok, length, map, sym, ap, ◌∙◌, subst, append_assoc, length-append}
use Rattle.std.proofs.lemmas.List.{map_push, length-map}
use Rattle.std.specs.List.{zip}
use Rattle.machine_semantics.specs.Image.{Monitor}
use Rattle.image.specs.Raw.{monitor_of}
use Rattle.image_format.specs.Format.{Format, each_read}
use Rattle.image_format.specs.Gives.{Fails}
use Rattle.image_reader.specs.Grammar.{named_monitor_format}
use Rattle.image_reader.proofs.EachLoop.{ends, goes_on, in_front, is_done}
use Rattle.image_reader.proofs.Zips.{firsts, zip_push}
use Rattle.image_reader.proofs.named.monitors_at.Goals as goal

pub returns-in-Err-clause-read : goal.returns-in-Err-clause-read
returns-in-Err-clause-read c =
    let f : List (List ℕ × Monitor) → Format (List ℕ × Monitor) = λ earlier. named_monitor_format (c.args.taken.now ++ map (λ m. m.0) earlier) in
    let e = c.in-Err.error in
    let same_length : length c.loop.monitors.names ≡ length (map monitor_of c.loop.monitors.things) = c.loop.invariant.each ∙ sym (length-map c.loop.monitors.things monitor_of) in
    let names_are : c.loop.taken ≡ c.args.taken.now ++ map (λ p. p.0) (zip c.loop.monitors.names (map monitor_of c.loop.monitors.things)) = c.loop.invariant.taken ∙ ap (λ (ns : List (List ℕ)). c.args.taken.now ++ ns) (sym (firsts c.loop.monitors.names (map monitor_of c.loop.monitors.things) same_length)) in
    let failed : Fails e ((f (zip c.loop.monitors.names (map monitor_of c.loop.monitors.things))).read c.loop.rest.now) = subst (λ ns. Fails e ((named_monitor_format ns).read c.loop.rest.now)) names_are c.in-Err.ensures.read in
    ends f e (zip c.loop.monitors.names (map monitor_of c.loop.monitors.things)) c.args.counts.now.monitors c.loop.counter c.loop.rest.now (each_read f [] c.args.counts.now.monitors c.args.bytes.now) c.loop-test.true failed c.loop.invariant.so_far

pub loop-preserved : goal.loop-preserved
loop-preserved c =
    let f : List (List ℕ × Monitor) → Format (List ℕ × Monitor) = λ earlier. named_monitor_format (c.args.taken.now ++ map (λ m. m.0) earlier) in
    let n = c.in-Ok.it.0.0 in
    let m = c.in-Ok.it.0.1 in
    let same_length : length c.loop.monitors.names ≡ length (map monitor_of c.loop.monitors.things) = c.loop.invariant.each ∙ sym (length-map c.loop.monitors.things monitor_of) in
    let names_are : c.loop.taken ≡ c.args.taken.now ++ map (λ p. p.0) (zip c.loop.monitors.names (map monitor_of c.loop.monitors.things)) = c.loop.invariant.taken ∙ ap (λ (ns : List (List ℕ)). c.args.taken.now ++ ns) (sym (firsts c.loop.monitors.names (map monitor_of c.loop.monitors.things) same_length)) in
    let read : (f (zip c.loop.monitors.names (map monitor_of c.loop.monitors.things))).read c.loop.rest.now ≡ Ok ((n, monitor_of m), c.in-Ok.it.1.now) = subst (λ ns. (named_monitor_format ns).read c.loop.rest.now ≡ Ok ((n, monitor_of m), c.in-Ok.it.1.now)) names_are c.in-Ok.ensures.read in
    let longer : zip (c.loop.monitors.names ++ n ∷ []) (map monitor_of (c.loop.monitors.things ++ m ∷ [])) ≡ (zip c.loop.monitors.names (map monitor_of c.loop.monitors.things)) ++ (n, monitor_of m) ∷ [] =
    ap (zip (c.loop.monitors.names ++ n ∷ [])) (map_push monitor_of c.loop.monitors.things m) ∙ zip_push c.loop.monitors.names (map monitor_of c.loop.monitors.things) n (monitor_of m) same_length in
    rw (c.in-Ok-add_monitor.ensures.names, c.in-Ok-add_monitor.ensures.things, c.in-Ok-add_monitor.ensures.taken) (record {
      so_far = subst (λ front. in_front front (each_read f front (c.args.counts.now.monitors - (c.loop.counter + 1)) c.in-Ok.it.1.now) ≡ (each_read f [] c.args.counts.now.monitors c.args.bytes.now)) (sym longer)
          (goes_on f (zip c.loop.monitors.names (map monitor_of c.loop.monitors.things)) c.args.counts.now.monitors c.loop.counter c.loop.rest.now (n, monitor_of m) c.in-Ok.it.1.now (each_read f [] c.args.counts.now.monitors c.args.bytes.now) c.loop-test.true read c.loop.invariant.so_far);
      taken = ap (λ (ns : List (List ℕ)). ns ++ n ∷ []) c.loop.invariant.taken ∙ append_assoc c.args.taken.now c.loop.monitors.names (n ∷ []);
      each = length-append c.loop.monitors.names (n ∷ []) ∙ ap (λ k. k + 1) c.loop.invariant.each ∙ sym (length-append c.loop.monitors.things (m ∷ []));
    })

pub returns-clause-read : goal.returns-clause-read
returns-clause-read c =
    let f : List (List ℕ × Monitor) → Format (List ℕ × Monitor) = λ earlier. named_monitor_format (c.args.taken.now ++ map (λ m. m.0) earlier) in
    is_done f (zip c.loop.monitors.names (map monitor_of c.loop.monitors.things)) c.args.counts.now.monitors c.loop.counter c.loop.rest.now (each_read f [] c.args.counts.now.monitors c.args.bytes.now) c.loop-test.false c.loop.invariant.so_far

pub returns-clause-taken : goal.returns-clause-taken
returns-clause-taken c =
    let same_length : length c.loop.monitors.names ≡ length (map monitor_of c.loop.monitors.things) = c.loop.invariant.each ∙ sym (length-map c.loop.monitors.things monitor_of) in
    c.loop.invariant.taken ∙ ap (λ (ns : List (List ℕ)). c.args.taken.now ++ ns) (sym (firsts c.loop.monitors.names (map monitor_of c.loop.monitors.things) same_length))
