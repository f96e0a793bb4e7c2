-- The answer for a kind.
use Rattle.std.proofs.Common.{◌≡◌, ℕ, Bool, false, IsTrue, ◌↔◌, List, inl, inr, refl, sym, subst}
use Rattle.std.specs.Prelude.{codes}
use Rattle.message_expected.specs.Expected.{IsExpected, IsProgram, MayFollow}
use Rattle.message_expected.specs.Kinds.{spelling}
use Rattle.message_expected.specs.Leads.{HasWord, IsWord}
use Rattle.message_expected.specs.declared.kinds.Kind.{Kind}
use Rattle.message_expected.specs.declared.kinds.Kind.TheVariants.{End, Name, Number, Deadline, Keyword, Sign}

-- that it is exactly where a kind is expected
abbrev pub Tells : (text : List ℕ) (kind : Kind) (is : Bool) → Type 0
Tells text kind is = IsTrue is ↔ IsExpected text kind

at_end : (text : List ℕ) (is : Bool) → IsTrue is ↔ IsProgram text → Tells text End is
unfolding IsExpected
at_end text is told = told

pub of_end : (text : List ℕ) (kind : Kind) (is : Bool) → kind ≡ End → IsTrue is ↔ IsProgram text → Tells text kind is
of_end text kind is same told = subst (λ kind. Tells text kind is) (sym same) (at_end text is told)

pub of_deadline : (text : List ℕ) (kind : Kind) (is : Bool) → kind ≡ Deadline → Tells text Deadline is → Tells text kind is
of_deadline text kind is same told = subst (λ kind. Tells text kind is) (sym same) told

pub of_other : (text : List ℕ) (kind : Kind) (is : Bool) → (kind ≡ End → ⊥) → (kind ≡ Deadline → ⊥) → IsTrue is ↔ MayFollow text (spelling kind) → Tells text kind is
unfolding IsExpected
of_other text End is end deadline told = absurd (end refl)
of_other text Deadline is end deadline told = absurd (deadline refl)
of_other text Name is end deadline told = told
of_other text Number is end deadline told = told
of_other text (Keyword at) is end deadline told = told
of_other text (Sign at) is end deadline told = told

-- `deadline` is expected where no other name may stand and it may
pub where_a_name : (text : List ℕ) → MayFollow text (codes "a") → IsTrue false ↔ IsExpected text Deadline
unfolding IsExpected
where_a_name text name = (λ so. cc, λ (none, may). absurd (none name))

pub where_no_name : (text : List ℕ) (is : Bool) → (MayFollow text (codes "a") → ⊥) → IsTrue is ↔ MayFollow text (codes "deadline") → Tells text Deadline is
unfolding IsExpected
where_no_name text is none told = (λ so. (none, told.0 so), λ (n, may). told.1 may)

-- what is not the end has a word
pub word_of_other : (kind : Kind) → IsWord kind → (kind ≡ End → ⊥) → HasWord kind
word_of_other kind (inl end) other = absurd (other end)
word_of_other kind (inr has) other = has
