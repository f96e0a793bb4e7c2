-- Whether nobody waits.
use Rattle.std.proofs.Common.{rules, ◌≡◌, ◌<◌, ◌∙◌, ℕ, zero, suc, Bool, true, false, List, [], ◌∷◌, Option, Some, length, refl, ap, sym, subst, arith}
use Rattle.std.specs.Prelude.{ℤ, pos, negsuc, slice_get, unsigned_abs}
use Rattle.std.specs.Bool.{◌==◌}
use mir.Val.{bool_byte}
use Rattle.machine_isa.specs.declared.instr.Instr.TheVariants as i
use Rattle.base.specs.declared.event.Act.TheVariants as act
use Rattle.base.specs.Words.{of_bool}
use Rattle.machine_semantics.specs.Image.{Image}
use Rattle.machine_semantics.specs.State.{State, Value}
use Rattle.machine_semantics.specs.Starts.{queue_of}
use Rattle.machine_semantics.specs.Effect.{Own, Does, effect, empty, is_none_waiting}
use Rattle.vm_instructions.specs.Frames.{Frames, with_operands}
use Rattle.vm_instructions.specs.Steps.{with_frames}
use Rattle.vm_state.specs.Seen.{IsSmall}

pub no_one : (q : List ℕ) → (length q == 0) ≡ is_none_waiting q
no_one [] = refl
no_one (k ∷ ks) = search rules

pub queue_at : (qs : List (List ℕ)) (c : ℕ) → c < length qs → slice_get qs c ≡ Some (queue_of qs c)
queue_at [] c below = absurd (omega arith)
queue_at (q ∷ qs) zero below = refl
queue_at (q ∷ qs) (suc c) below = queue_at qs c (omega arith)

byte_is : (b : Bool) → pos (bool_byte b) ≡ of_bool b
byte_is true = refl
byte_is false = refl

pub empties : (image : Image) (s : State) (o : Own) (condition : ℤ) (queues : List (List ℕ)) (old new : Frames) (answer : Bool) (given : ℤ) → IsSmall condition → unsigned_abs condition < length queues → s.queues ≡ queues
    → answer ≡ is_none_waiting (queue_of queues (unsigned_abs condition)) → given ≡ pos (bool_byte answer) → new ≡ with_operands (Value given ∷ old.operands) old
    → effect image s (i.Empty condition) (with_frames old o) ≡ Does (act.Empty (unsigned_abs condition) answer) (with_frames new o)
empties image s o (pos c) queues old new answer given small there same is byte frames =
    let at : slice_get s.queues c ≡ Some (queue_of queues c) = ap (λ (qs : List (List ℕ)). slice_get qs c) same ∙ queue_at queues c there in
    let value : given ≡ of_bool answer = byte ∙ byte_is answer in
    ap (λ (q : Option (List ℕ)). empty q (pos c) (with_frames old o)) at ∙ rw (frames, value, is) refl
empties image s o (negsuc c) queues old new answer given small there same is byte frames = absurd small
