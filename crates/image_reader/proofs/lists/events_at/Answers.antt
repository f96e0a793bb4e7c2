use Rattle.std.proofs.Common.{◌≡◌, ◌++◌, ◌∷◌, [], ℕ, List, Ok, ap, ◌∙◌, subst, append_assoc}
use Rattle.image_format.specs.Format.{Format, each_read}
use Rattle.image_format.specs.Gives.{Fails}
use Rattle.image_reader.proofs.EachLoop.{ends, goes_on, is_done}
use Rattle.image_reader.specs.Grammar.{name_format}
use Rattle.image_reader.proofs.lists.events_at.Goals as goal

pub returns-in-Err-clause-read : goal.returns-in-Err-clause-read
returns-in-Err-clause-read c =
    let f : List (List ℕ) → Format (List ℕ) = λ earlier. name_format (c.args.taken.now ++ earlier) in
    let e = c.in-Err.error in
    let failed : Fails e ((f c.loop.events).read c.loop.rest.now) = subst (λ ns. Fails e ((name_format ns).read c.loop.rest.now)) c.loop.invariant.taken c.in-Err.ensures.read in
    ends f e c.loop.events c.args.counts.now.events c.loop.counter c.loop.rest.now (each_read f [] c.args.counts.now.events c.args.bytes.now) c.loop-test.true failed c.loop.invariant.so_far

pub loop-preserved : goal.loop-preserved
loop-preserved c =
    let f : List (List ℕ) → Format (List ℕ) = λ earlier. name_format (c.args.taken.now ++ earlier) in
    let x = c.in-Ok.it.0 in
    let read : (f c.loop.events).read c.loop.rest.now ≡ Ok (x, c.in-Ok.it.1.now) =
    subst (λ ns. (name_format ns).read c.loop.rest.now ≡ Ok (x, c.in-Ok.it.1.now)) c.loop.invariant.taken c.in-Ok.ensures.read in
    rw (c.in-Ok-add_name.ensures.names, c.in-Ok-add_name.ensures.taken) (record {
      so_far = goes_on f c.loop.events c.args.counts.now.events c.loop.counter c.loop.rest.now x c.in-Ok.it.1.now (each_read f [] c.args.counts.now.events c.args.bytes.now) c.loop-test.true read c.loop.invariant.so_far;
      taken = ap (λ (ns : List (List ℕ)). ns ++ x ∷ []) c.loop.invariant.taken ∙ append_assoc c.args.taken.now (c.loop.events) (x ∷ []);
    })

pub returns-clause-read : goal.returns-clause-read
returns-clause-read c =
    let f : List (List ℕ) → Format (List ℕ) = λ earlier. name_format (c.args.taken.now ++ earlier) in
    is_done f c.loop.events c.args.counts.now.events c.loop.counter c.loop.rest.now (each_read f [] c.args.counts.now.events c.args.bytes.now) c.loop-test.false c.loop.invariant.so_far
