-- Steps after steps, and the parts of code.
use Rattle.std.specs.Prelude.{◌≡◌, ℕ, zero, suc, ◌+◌, Bool, true, false, List, [], ◌∷◌, ◌++◌, Option, Some, ℤ, pos, length, cond, ◌&&◌, int_le}
use Rattle.std.proofs.Common.{refl, ◌∙◌, arith}
use Rattle.syntax_tree.specs.Plain.{Op, or, and, equal, unequal, less, less_equal, greater, greater_equal, add, sub, mul, div, remainder}
use Rattle.base.specs.Words.{Answer, word, raised}
use Rattle.source_semantics.specs.Operators.{operated}
use Rattle.source_semantics.specs.Store.{Range, checked, Vars, Held, one, many}
use Rattle.source_semantics.specs.Run.{Memory, operated_not}
use Rattle.machine_isa.specs.declared.instr.Instr.{Instr}
use Rattle.machine_isa.specs.declared.instr.Instr.TheVariants as i
use Rattle.machine_semantics.specs.Image.{Image}
use Rattle.machine_semantics.specs.State.{Operand, Value, State}
use Rattle.machine_semantics.specs.Effect.{Own, Outcome, Goes, Raises, effect, answer, is_reached}
use Rattle.code_spec.specs.Layout.{Scope, Place, Shape, single, array}
use Rattle.code_spec.specs.Code.{op_instr}
use Rattle.code_spec.specs.Emits.{IsLine, At}
use Rattle.code_spec.specs.Steps.{Words, words, stand, SameInside, Runs, arrived, moved}
use Rattle.code_spec.specs.Memory.{Setting, HoldsHeld, Holds, FitsOthers, Fits, Before}
use Rattle.code_measures.proofs.Lines.{has_second, has_first, length_both}

-- ---- runs

pub then_runs : {image : Image} {G H : Own → Type 0} {a : Own} → Runs image G a → ((b : Own) → G b → Runs image H b) → Runs image H a
then_runs (arrived {a = a} g) k = k a g
then_runs (moved j next is s l) k = moved j next is s (λ us same. then_runs (l us same) k)

-- ---- parts of code

-- a line's first part, and the rest of it
pub line_front : (code : List Instr) (p q : ℕ) (is js : List Instr) → IsLine code p q (is ++ js) → IsLine code p (p + length is) is
line_front code p q is js l = record { has = has_first code p is js l.has; end = refl }

pub line_back : (code : List Instr) (p q : ℕ) (is js : List Instr) → IsLine code p q (is ++ js) → IsLine code (p + length is) q js
line_back code p q is js l = record { has = has_second code p is js l.has; end = (let longer : length (is ++ js) ≡ length is + length js = length_both is js in let end : q ≡ p + length (is ++ js) = l.end in omega arith) }

pub line_one : (code : List Instr) (p q : ℕ) (j : Instr) → IsLine code p q (j ∷ []) → At code p j × (q ≡ p + 1)
line_one code p q j l = (l.has.0, l.end)

pub line_rest : (code : List Instr) (p q : ℕ) (j : Instr) (js : List Instr) → IsLine code p q (j ∷ js) → IsLine code (p + 1) q js
line_rest code p q j js l = record { has = l.has.1; end = (let end : q ≡ p + suc (length js) = l.end in omega arith) }

pub line_none : (code : List Instr) (p q : ℕ) → IsLine code p q [] → p ≡ q
line_none code p q l = let end : q ≡ p + 0 = l.end in omega arith

-- ---- words that others left

held_left : (image : Image) (inside : Option ℕ) (ws us : List ℤ) → SameInside image inside ws us → (w : ℕ) (shape : Shape) (held : Held)
    → HoldsHeld (λ k. is_reached image inside (pos k) ≡ true) ws w shape held → HoldsHeld (λ k. is_reached image inside (pos k) ≡ true) us w shape held
held_left image inside ws us same w single (one v) h = record { holds = same w h.open_to ∙ h.holds; open_to = h.open_to }
held_left image inside ws us same w single (many l vs) h = absurd h
held_left image inside ws us same w (array low len) (one v) h = absurd h
held_left image inside ws us same w (array low len) (many l vs) h =
    (h.0, h.1, λ k lt. ((h.2 k lt).0, (h.2 k lt).1, record { holds = same (w + k) (h.2 k lt).2.open_to ∙ (h.2 k lt).2.holds; open_to = (h.2 k lt).2.open_to }))

pub holds_left : (image : Image) (inside : Option ℕ) (ws us : List ℤ) → SameInside image inside ws us → (ps : List Place) (vs : Vars)
    → Holds (λ k. is_reached image inside (pos k) ≡ true) ws ps vs → Holds (λ k. is_reached image inside (pos k) ≡ true) us ps vs
holds_left image inside ws us same [] [] h = tt
holds_left image inside ws us same [] (s ∷ vs) h = absurd h
holds_left image inside ws us same (p ∷ ps) [] h = absurd h
holds_left image inside ws us same (p ∷ ps) (s ∷ vs) h =
    (record { name = h.0.name; range = h.0.range; held = held_left image inside ws us same p.word p.shape s.held h.0.held }, holds_left image inside ws us same ps vs h.1)

pub others_left : (e : Setting) (inside : Option ℕ) (owned shared us : List ℤ) (process monitor : Vars) → FitsOthers e inside owned shared process monitor
    → SameInside e.image inside shared us → FitsOthers e inside owned us process monitor
others_left e inside owned shared us process monitor f same =
    record { process_words = f.process_words; monitor_words = holds_left e.image inside shared us same _ monitor f.monitor_words }

pub fits_left : (e : Setting) (o : Own) (c : Scope) (fixed : List ℤ) (before : Before) (w : Words) (us : List ℤ) (m : Memory) → Fits e o c fixed before w m
    → SameInside e.image o.job.inside w.shared us → Fits e o c fixed before (words w.locals w.owned us) m
fits_left e o c fixed before w us m f same =
    record { frame = f.frame; others = others_left e o.job.inside w.owned w.shared us m.process m.monitor f.others same; same = f.same }

-- ---- instructions that give an answer

-- the outcome of one instruction that gives an answer
abbrev pub told : Own → Words → ℕ → List Operand → Answer → Outcome
told o w q os (word v) = Goes (stand o w q (Value v ∷ os))
told o w q os (raised n) = Raises n

pub answer_told : (o : Own) (w : Words) (q : ℕ) (os : List Operand) (a : Answer) → answer a (stand o w q os) ≡ told o w q os a
answer_told o w q os (word v) = refl
answer_told o w q os (raised n) = refl

pub op_told : (image : Image) (s : State) (o : Own) (w : Words) (q : ℕ) (os : List Operand) (op : Op) (a b : ℤ)
    → effect image s (op_instr op) (stand o w q (Value b ∷ Value a ∷ os)) ≡ told o w q os (operated op a b)
op_told image s o w q os or a b = refl
op_told image s o w q os and a b = refl
op_told image s o w q os equal a b = refl
op_told image s o w q os unequal a b = refl
op_told image s o w q os less a b = refl
op_told image s o w q os less_equal a b = refl
op_told image s o w q os greater a b = refl
op_told image s o w q os greater_equal a b = refl
op_told image s o w q os add a b = answer_told o w q os (operated add a b)
op_told image s o w q os sub a b = answer_told o w q os (operated sub a b)
op_told image s o w q os mul a b = answer_told o w q os (operated mul a b)
op_told image s o w q os div a b = answer_told o w q os (operated div a b)
op_told image s o w q os remainder a b = answer_told o w q os (operated remainder a b)

pub not_told : (image : Image) (s : State) (o : Own) (w : Words) (q : ℕ) (os : List Operand) (a : ℤ)
    → effect image s i.Not (stand o w q (Value a ∷ os)) ≡ told o w q os (operated_not a)
not_told image s o w q os (pos n) = by_sign n
  where
    by_sign : (n : ℕ) → effect image s i.Not (stand o w q (Value (pos n) ∷ os)) ≡ told o w q os (operated_not (pos n))
    by_sign zero = refl
    by_sign (suc n) = refl
not_told image s o w q os a = refl

pub range_told : (image : Image) (s : State) (o : Own) (w : Words) (q : ℕ) (os : List Operand) (r : Range) (a : ℤ)
    → effect image s (i.Range r.low r.high) (stand o w q (Value a ∷ os)) ≡ told o w q os (checked (Some r) a)
range_told image s o w q os r a = by_case (int_le r.low a && int_le a r.high)
  where
    by_case : (b : Bool) → cond b (Goes (stand o w q (Value a ∷ os))) (Raises 3) ≡ told o w q os (cond b (word a) (raised 3))
    by_case true = refl
    by_case false = refl
