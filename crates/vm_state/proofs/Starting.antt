-- The board at the start.
use Rattle.std.proofs.Common.{◌≡◌, ◌∙◌, ℕ, ℤ, zero, suc, pos, Bool, List, [], ◌∷◌, length, map, replicate, refl, ap, sym}
use Rattle.machine_semantics.specs.Image.{Process as Whole}
use Rattle.machine_semantics.specs.State.{Idle, zeros}
use Rattle.vm_state.specs.declared.decoded_image.DecodedProcess.{DecodedProcess}
use Rattle.std.specs.Global.{Vec}
use Rattle.std.proofs.lemmas.List.{length-map}
use Rattle.machine_semantics.specs.Run as run
use Rattle.machine_semantics.specs.Run.{words_of}
use Rattle.vm_state.specs.Threads.{rooms_of, threads_of}
use Rattle.vm_state.specs.declared.decoded_image.DecodedImage.{DecodedImage}
use Rattle.vm_state.specs.declared.machine_state.MachineState.{MachineState}
use Rattle.vm_state.specs.Plan.{AreProcesses, IsProcess}
use Rattle.vm_state.specs.Board.{Begins, rows_of}

pub zeros_are : (n : ℕ) → replicate n (pos 0) ≡ zeros n
zeros_are zero = refl
zeros_are (suc n) = ap (λ (zs : List ℤ). pos 0 ∷ zs) (zeros_are n)

-- the same for each, so many times
pub same_for_each : {X Y : Type 0} (y : Y) (xs : List X) → replicate (length xs) y ≡ map (λ (x : X). y) xs
same_for_each y [] = refl
same_for_each y (x ∷ xs) = ap (λ (ys : List _). y ∷ ys) (same_for_each y xs)

-- what is the same of each process is the same of all
pub alike : {X : Type 0} (f : Whole → X) (g : DecodedProcess → X) (h : (w : Whole) (p : DecodedProcess) → IsProcess w p → f w ≡ g p) (ws : List Whole) (ps : List DecodedProcess) → AreProcesses ws ps → map f ws ≡ map g ps
alike f g h [] [] are = refl
alike f g h [] (p ∷ ps) are = absurd are
alike f g h (w ∷ ws) [] are = absurd are
alike f g h (w ∷ ws) (p ∷ ps) are = let e = h w p are.0 in let r = alike f g h ws ps are.1 in rw (e, r) refl

-- a board whose parts are made from the plan is that at the start
pub begins : (plan : DecodedImage) (b : MachineState)
    → threads_of b.cells.items ≡ map (λ (p : DecodedProcess). Idle) plan.processes.items → rooms_of b.cells.items ≡ map (λ (p : DecodedProcess). p.stack) plan.processes.items
    → rows_of b.owned.items ≡ map (λ (p : DecodedProcess). zeros p.words) plan.processes.items → b.shared.items ≡ zeros plan.shared
    → b.queues ≡ replicate (length plan.conditions.items) [] → b.devices.items ≡ zeros plan.devices → Begins plan b
unfolding run.at_start
begins plan b idle rooms owned shared queues devices image is =
    let threads : threads_of b.cells.items ≡ map (λ (p : Whole). Idle) image.processes = idle ∙ sym (alike (λ (w : Whole). Idle) (λ (p : DecodedProcess). Idle) (λ w p e. refl) image.processes plan.processes.items is.processes) in
    let words : rows_of b.owned.items ≡ map (λ (p : Whole). zeros p.words) image.processes = owned ∙ sym (alike (λ (w : Whole). zeros w.words) (λ (p : DecodedProcess). zeros p.words) (λ w p e. ap zeros e.words) image.processes plan.processes.items is.processes) in
    let stacks : rooms_of b.cells.items ≡ map (λ (p : Whole). p.stack) image.processes = rooms ∙ sym (alike (λ (w : Whole). w.stack) (λ (p : DecodedProcess). p.stack) (λ w p e. e.stack) image.processes plan.processes.items is.processes) in
    let all : b.shared.items ≡ zeros (words_of image.monitors) = shared ∙ ap zeros (sym is.shared) in
    let none : b.queues ≡ map (λ (c : ℕ). []) image.conditions = queues ∙ ap (λ (cs : List ℕ). replicate (length cs) []) (sym is.conditions) ∙ same_for_each [] image.conditions in
    let unset : b.devices.items ≡ map (λ (d : Bool). pos 0) image.devices = devices ∙ ap zeros (sym is.devices) ∙ sym (zeros_are (length image.devices)) ∙ same_for_each (pos 0) image.devices in (
      rw (threads, words, all, none, unset) refl,
      record {
        rooms = stacks;
        owned = sym (length-map b.owned.items (λ (v : Vec ℤ). v.items)) ∙ ap (λ (xs : List (List ℤ)). length xs) words ∙ length-map image.processes (λ (p : Whole). zeros p.words);
        queues = ap (λ (xs : List (List ℕ)). length xs) none ∙ length-map image.conditions (λ (c : ℕ). []);
        devices = ap (λ (xs : List ℤ). length xs) unset ∙ length-map image.devices (λ (d : Bool). pos 0);
      },
    )
