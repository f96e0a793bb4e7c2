-- Words are operands, and so are the counts that stand for them.
use Rattle.std.proofs.Common.{◌≡◌, ◌<◌, ◌≤◌, min, ℕ, true, ℤ, pos, negsuc, ◌+ℤ◌, ◌-ℤ◌, ◌<ℤ◌, int_lt, T, refl, sym, ap, subst, arith}
use Rattle.std.proofs.lemmas.Bool.{ltb-true}
use Rattle.std.proofs.lemmas.Int.{ints}
use Rattle.base.specs.Words.{is_word}
use Rattle.source_semantics.specs.Names.{as_count}
use Rattle.source_semantics.specs.Store.{up_to}
use Rattle.codegen_law.specs.MadeRightFits.{Fit}

pub fit_low : (n : ℕ) → n ≤ 2147483647 → Fit (pos n)
fit_low n h = let e : min n 2147483647 ≡ n = omega arith in ap pos e

pub word_fits : (v : ℤ) → is_word v ≡ true → Fit v
word_fits (pos n) h = let low : n < 2147483648 = ltb-true n 2147483648 h in fit_low n (omega arith)
word_fits (negsuc n) h = let low : n < 2147483648 = ltb-true n 2147483648 h in let e : min n 2147483647 ≡ n = omega arith in ap negsuc e

pub count_fits : (v : ℤ) → is_word v ≡ true → Fit (pos (as_count v))
count_fits (pos n) h = word_fits (pos n) h
count_fits (negsuc n) h = fit_low 0 (omega arith)

-- as many as one less than so many behind the lower bound
few_up : (low high d : ℤ) (n : ℕ) → high -ℤ low ≡ d → int_lt high (low +ℤ pos n) ≡ true → up_to d ≤ n
few_up low high (pos k) n e h = let less : high <ℤ (low +ℤ pos n) = record { lt = subst (λ b. T b) (sym h) tt } in omega (arith, ints)
few_up low high (negsuc k) n e h = omega arith

pub few_between : (low high : ℤ) (n : ℕ) → int_lt high (low +ℤ pos n) ≡ true → up_to (high -ℤ low) ≤ n
few_between low high n h = few_up low high (high -ℤ low) n refl h
