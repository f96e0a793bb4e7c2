-- States all of whose words have 32 bits.
use Rattle.std.proofs.Common.{◌≡◌, ◌<◌, ◌^◌, ◌++◌, ℕ, zero, suc, ℤ, pos, negsuc, Bool, true, false, List, [], ◌∷◌, Option, Some, None, arith, refl}
use Rattle.std.specs.Prelude.{All, FitsSigned, if◌then◌else◌, slice_get, slice_set, int_div, int_rem}
use Rattle.std.specs.Int.{w32}
use Rattle.std.proofs.lemmas.Bool.{ltb-true}
use Rattle.std.proofs.lemmas.List.Elements.{All-nil, All-cons, All-head, All-tail}
use lib.Signed.{mag, mag_rem}
use Rattle.text_fields.specs.Fields.{Is32}
use Rattle.base.specs.Words.{Answer, word, raised, in_word, is_word, is_zero, of_bool, remainder, quotient}
use Rattle.machine_semantics.specs.State.{Operand, Value, Counter, Caller, Job, Thread, Idle, Ready, Waiting, State, own_locals, zeros}

-- ---- lists

abbrev pub Each : {X : Type 0} → (X → Type 0) → List X → Type 0
Each P [] = Unit {0}
Each P (x ∷ xs) = P x × Each P xs

abbrev pub Opt : {X : Type 0} → (X → Type 0) → Option X → Type 0
Opt P None = Unit {0}
Opt P (Some x) = P x

module _ {X : Type 0} (P : X → Type 0) where
  pub joined_each : (xs ys : List X) → Each P xs → Each P ys → Each P (xs ++ ys)
  joined_each [] ys one two = two
  joined_each (x ∷ xs) ys one two = (one.0, joined_each xs ys one.1 two)

  pub set_each : (xs : List X) (k : ℕ) (x : X) → P x → Each P xs → Each P (slice_set xs k x)
  set_each [] k x new each = tt
  set_each (y ∷ xs) zero x new each = (new, each.1)
  set_each (y ∷ xs) (suc k) x new each = (each.0, set_each xs k x new each.1)

  pub get_each : (xs : List X) (k : ℕ) → Each P xs → Opt P (slice_get xs k)
  get_each [] k each = tt
  get_each (x ∷ xs) zero each = each.0
  get_each (x ∷ xs) (suc k) each = get_each xs k each.1

  pub all_of : (xs : List X) → Each P xs → All P xs
  all_of [] each = All-nil P
  all_of (x ∷ xs) each = All-cons P x xs each.0 (all_of xs each.1)

  pub each_of : (xs : List X) → All P xs → Each P xs
  each_of [] all = tt
  each_of (x ∷ xs) all = (All-head P x xs all, each_of xs (All-tail P x xs all))

-- ---- words

small : (z : ℤ) → mag z < 2 ^ 31 → Is32 z
small (pos n) low = low
small (negsuc n) low = low

magnitude : (z : ℤ) → Is32 z → mag z < 2 ^ 31
magnitude (pos n) low = low
magnitude (negsuc n) low = low

pub of_signed : (z : ℤ) → FitsSigned w32 z → Is32 z
of_signed (pos n) fits = fits.sfits
of_signed (negsuc n) fits = fits.sfits

pub zero_word : Is32 (pos 0)
zero_word = omega arith

pub truth_word : (b : Bool) → Is32 (of_bool b)
truth_word true = omega arith
truth_word false = omega arith

-- a word, or a number of 16 bits
abbrev pub AnswerFits : Answer → Type 0
AnswerFits (word z) = Is32 z
AnswerFits (raised n) = n < 2 ^ 16

tested : (z : ℤ) → is_word z ≡ true → Is32 z
tested (pos n) is = ltb-true n 2147483648 is
tested (negsuc n) is = ltb-true n 2147483648 is

pub in_word_fits : (z : ℤ) → AnswerFits (in_word z)
in_word_fits z = by (is_word z) refl where
  by : (b : Bool) → is_word z ≡ b → AnswerFits (if b then word z else raised 1)
  by true is = tested z is
  by false is = omega arith

either_fits : (b : Bool) (x y : Answer) → AnswerFits x → AnswerFits y → AnswerFits (if b then x else y)
either_fits true x y p q = p
either_fits false x y p q = q

pub quotient_fits : (a b : ℤ) → AnswerFits (quotient a b)
quotient_fits a b = either_fits (is_zero b) (raised 2) (in_word (int_div a b)) (omega arith) (in_word_fits (int_div a b))

pub remainder_fits : (a b : ℤ) → Is32 a → AnswerFits (remainder a b)
remainder_fits a b word_a =
    either_fits (is_zero b) (raised 2) (word (int_rem a b)) (omega arith) (small (int_rem a b) (omega (arith, mag_rem a b, magnitude a word_a)))

pub zeros_each : (n : ℕ) → Each Is32 (zeros n)
zeros_each zero = tt
zeros_each (suc n) = (zero_word, zeros_each n)

-- ---- states

abbrev pub OperandFits : Operand → Type 0
OperandFits (Value z) = Is32 z
OperandFits (Counter turns) = Unit {0}

pub record CallerFits (c : Caller) : Type 0 where
  pub locals : Each Is32 c.locals
  pub operands : Each OperandFits c.operands

pub record JobFits (job : Job) : Type 0 where
  pub locals : Each Is32 job.locals
  pub operands : Each OperandFits job.operands
  pub callers : Each CallerFits job.callers

abbrev pub ThreadFits : Thread → Type 0
ThreadFits Idle = Unit {0}
ThreadFits (Ready job) = JobFits job
ThreadFits (Waiting condition due number job) = (number < 2 ^ 16) × JobFits job

pub record StateFits (s : State) : Type 0 where
  pub threads : Each ThreadFits s.threads
  pub owned : Each (λ words. Each Is32 words) s.owned
  pub shared : Each Is32 s.shared
  pub devices : Each Is32 s.devices

pub own_locals_each : (locals : List ℤ) (cs : List Caller) → Each Is32 locals → Each CallerFits cs → Each Is32 (own_locals locals cs)
own_locals_each locals [] words callers = words
own_locals_each locals (c ∷ cs) words callers = own_locals_each c.locals cs callers.0.locals callers.1
