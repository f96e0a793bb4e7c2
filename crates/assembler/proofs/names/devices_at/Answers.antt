use Rattle.std.proofs.Common.{◌≡◌, ◌++◌, ◌∷◌, [], ℕ, List, Ok, codes, map, sym, ap, ◌∙◌, subst, append_assoc}
use Rattle.std.proofs.lemmas.Result.{err_from_is_err_and}
use Rattle.std.proofs.lemmas.List.{map_push}
use Rattle.image.specs.declared.names.DeviceName.{DeviceName}
use Rattle.text_fields.specs.Front.{Fails, Front, Read, begins, front}
use Rattle.asm_lines.specs.Names.{device_read}
use Rattle.assembler.specs.Sections.{devices_read, no_more}
use Rattle.assembler.proofs.RowLoop.{ends, fails, full, goes_on, overfull}
use Rattle.assembler.proofs.names.devices_at.Goals as goal

pub returns-then-not-begins_with-clause-read : goal.returns-then-not-begins_with-clause-read
returns-then-not-begins_with-clause-read c =
    let one : List DeviceName → Front → Read DeviceName = λ earlier. device_read (c.args.taken.now ++ map (λ d. d.name) earlier) in
    ends (begins (codes "device ")) one one c.loop.devices 64 c.loop.counter (front c.loop.place) (devices_read c.args.taken.now (front c.args.at)) c.loop-test.true
    (sym c.begins_with.ensures ∙ c.if-not-begins_with.true) c.loop.invariant.so_far

pub returns-in_err-device-clause-read : goal.returns-in_err-device-clause-read
returns-in_err-device-clause-read c =
    let one : List DeviceName → Front → Read DeviceName = λ earlier. device_read (c.args.taken.now ++ map (λ d. d.name) earlier) in
    let p = err_from_is_err_and c.from_residual.result c.from_residual.ensures.1 in
    let e = c.in_err-device.field-0.0 in
    let failed : Fails e (one c.loop.devices (front c.loop.place)) = subst (λ ns. Fails e (device_read ns (front c.loop.place))) (c.as_slice.ensures ∙ c.loop.invariant.taken) c.in_err-device.ensures in
    rw (p.1, p.2) (fails (begins (codes "device ")) one one e c.loop.devices 64 c.loop.counter (front c.loop.place) (devices_read c.args.taken.now (front c.args.at)) c.loop-test.true
    (sym c.begins_with.ensures ∙ c.if-not-begins_with.false) failed c.loop.invariant.so_far)

pub loop-preserved : goal.loop-preserved
loop-preserved c =
    let one : List DeviceName → Front → Read DeviceName = λ earlier. device_read (c.args.taken.now ++ map (λ d. d.name) earlier) in
    let x = c.in_ok-device.device in
    let read : one c.loop.devices (front c.loop.place) ≡ Ok (x, front c.in_ok-device.after) =
    subst (λ ns. device_read ns (front c.loop.place) ≡ Ok (x, front c.in_ok-device.after)) (c.as_slice.ensures ∙ c.loop.invariant.taken) c.in_ok-device.ensures in
    rw (c.in_ok-push.ensures.ok, c.in_ok-take.ensures) (record {
      so_far = goes_on (begins (codes "device ")) one one c.loop.devices 64 c.loop.counter (front c.loop.place) x (front c.in_ok-device.after) (devices_read c.args.taken.now (front c.args.at)) c.loop-test.true
          (sym c.begins_with.ensures ∙ c.if-not-begins_with.false) read c.loop.invariant.so_far;
      taken = ap (λ (ns : List (List ℕ)). ns ++ x.name ∷ []) c.loop.invariant.taken ∙ append_assoc c.args.taken.now (map (λ d. d.name) c.loop.devices) (x.name ∷ []) ∙ ap (λ (ns : List (List ℕ)). c.args.taken.now ++ ns) (sym (map_push (λ d. d.name) c.loop.devices x));
    })

pub returns-in_err-place-clause-read : goal.returns-in_err-place-clause-read
returns-in_err-place-clause-read c =
    let one : List DeviceName → Front → Read DeviceName = λ earlier. device_read (c.args.taken.now ++ map (λ d. d.name) earlier) in
    let p = err_from_is_err_and c.from_residual-in_err-place.result c.from_residual-in_err-place.ensures.1 in
    let e = c.in_err-place.field-0.0 in
    let failed : Fails e (no_more (begins (codes "device ")) (one c.loop.devices) (front c.loop.place)) =
    subst (λ ns. Fails e (no_more (begins (codes "device ")) (device_read ns) (front c.loop.place))) (c.as_slice-2.ensures ∙ c.loop.invariant.taken) c.in_err-place.ensures in
    rw (p.1, p.2) (overfull (begins (codes "device ")) one one e c.loop.devices 64 c.loop.counter (front c.loop.place) (devices_read c.args.taken.now (front c.args.at)) c.loop-test.false failed c.loop.invariant.so_far)

pub returns-clause-read : goal.returns-clause-read
returns-clause-read c =
    let one : List DeviceName → Front → Read DeviceName = λ earlier. device_read (c.args.taken.now ++ map (λ d. d.name) earlier) in
    let t = front c.in_ok-place.place in
    let none : no_more (begins (codes "device ")) (one c.loop.devices) (front c.loop.place) ≡ Ok t =
    subst (λ ns. no_more (begins (codes "device ")) (device_read ns) (front c.loop.place) ≡ Ok t) (c.as_slice-2.ensures ∙ c.loop.invariant.taken) c.in_ok-place.ensures in
    full (begins (codes "device ")) one one c.loop.devices 64 c.loop.counter (front c.loop.place) t (devices_read c.args.taken.now (front c.args.at)) c.loop-test.false none c.loop.invariant.so_far
