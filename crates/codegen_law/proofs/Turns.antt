-- The variable of a loop counts on to its upper bound, and once more.
use Rattle.std.specs.Prelude.{◌≡◌, ◌+◌, ◌-◌, ◌<◌, ◌≤◌, ℕ, zero, suc, true, cond, ℤ, pos, negsuc, ◌+ℤ◌, ◌-ℤ◌, int_le, int_lt}
use Rattle.std.proofs.Common.{refl, sym, ◌∙◌, ap, subst, arith}
use Rattle.std.proofs.Math.IntN.{suc_ℤ, +ℤ-suc_ℤ, suc_ℤ-+ℤ, +ℤ-neg_ℤ_cancel, +ℤ_comm, +ℤ_idl}
use Rattle.std.proofs.lemmas.Bool.{lt-ltb, ltb-true, leb-true}
use Rattle.syntax_tree.specs.Plain.{Constant, Program}
use Rattle.base.specs.Words.{word, raised, is_word, in_word}
use Rattle.source_semantics.specs.Names.{constant_value}
use Rattle.source_semantics.specs.Store.{up_to}
use Rattle.code_spec.specs.Proper.{CountsOn}
use Rattle.static_semantics.specs.Statements.{AreTurns}

-- so many steps on
abbrev up : ℤ → ℕ → ℤ
up v zero = v
up v (suc n) = up (suc_ℤ v) n

up_pos : (a n : ℕ) → up (pos a) n ≡ pos (a + n)
up_pos a zero = ap (λ k. pos k) (none a)
  where
    none : (a : ℕ) → a ≡ a + 0
    none a = omega arith
up_pos a (suc n) = up_pos (suc a) n ∙ ap (λ k. pos k) (next a n)
  where
    next : (a n : ℕ) → suc a + n ≡ a + suc n
    next a n = omega arith

up_more : (v : ℤ) (n k : ℕ) → up v (n + k) ≡ up (up v n) k
up_more v zero k = ap (λ j. up v j) (none k)
  where
    none : (k : ℕ) → 0 + k ≡ k
    none k = omega arith
up_more v (suc n) k = ap (λ j. up v j) (next n k) ∙ up_more (suc_ℤ v) n k
  where
    next : (n k : ℕ) → suc n + k ≡ suc (n + k)
    next n k = omega arith

up_over : (a : ℕ) → up (negsuc a) (suc a) ≡ pos 0
up_over zero = refl
up_over (suc a) = up_over a

up_below : (b k : ℕ) → up (negsuc (b + k)) k ≡ negsuc b
up_below b zero = ap (λ n. negsuc n) (none b)
  where
    none : (b : ℕ) → b + 0 ≡ b
    none b = omega arith
up_below b (suc k) = ap (λ n. up (suc_ℤ (negsuc n)) k) (next b k) ∙ up_below b k
  where
    next : (b k : ℕ) → b + suc k ≡ suc (b + k)
    next b k = omega arith

-- the upper bound is so many steps on
steps_to : (low high : ℤ) → int_le low high ≡ true → (d : ℕ) × (up low d ≡ high)
steps_to (pos a) (pos b) h = let le : a ≤ b = leb-true a b h in (b - a, up_pos a (b - a) ∙ ap (λ n. pos n) (omega arith))
steps_to (pos a) (negsuc b) h = absurd cc
steps_to (negsuc a) (pos b) h = (suc a + b, up_more (negsuc a) (suc a) b ∙ (ap (λ v. up v b) (up_over a) ∙ (up_pos 0 b ∙ ap (λ n. pos n) (none b))))
  where
    none : (b : ℕ) → 0 + b ≡ b
    none b = omega arith
steps_to (negsuc a) (negsuc b) h = let le : b ≤ a = leb-true b a h in (a - b, ap (λ n. up (negsuc n) (a - b)) (parts le) ∙ up_below b (a - b))
  where
    parts : b ≤ a → a ≡ b + (a - b)
    parts le = omega arith

up_added : (v : ℤ) (d : ℕ) → up v d ≡ pos d +ℤ v
up_added v zero = sym (+ℤ_idl v)
up_added v (suc d) = up_added (suc_ℤ v) d ∙ (+ℤ-suc_ℤ (pos d) v ∙ sym (suc_ℤ-+ℤ (pos d) v))

one_more : (v : ℤ) → v +ℤ pos 1 ≡ suc_ℤ v
one_more v = +ℤ-suc_ℤ v (pos 0) ∙ ap (λ k. suc_ℤ k) (+ℤ_comm v (pos 0) ∙ +ℤ_idl v)

-- no word is less
abbrev Lower : ℤ → Type 0
Lower (pos a) = Unit {0}
Lower (negsuc a) = a < 2147483648

next_lower : (v : ℤ) → Lower v → Lower (suc_ℤ v)
next_lower (pos a) h = tt
next_lower (negsuc zero) h = tt
next_lower (negsuc (suc a)) h = omega arith

next_word : (v high : ℤ) (n : ℕ) → Lower v → up v n ≡ high → int_lt high (pos 2147483647) ≡ true → is_word (suc_ℤ v) ≡ true
next_word (pos a) high n l e h =
    let lt : a + n < 2147483647 = ltb-true (a + n) 2147483647 (ap (λ k. int_lt k (pos 2147483647)) (sym (up_pos a n) ∙ e) ∙ h) in
    lt-ltb (suc a) 2147483648 (omega arith)
next_word (negsuc zero) high n l e h = refl
next_word (negsuc (suc a)) high n l e h = lt-ltb a 2147483648 (omega arith)

is_in_word : (v : ℤ) → is_word v ≡ true → in_word v ≡ word v
is_in_word v h = ap (λ b. cond b (word v) (raised 1)) h

counts_on : (n : ℕ) (v high : ℤ) → Lower v → up v n ≡ high → int_lt high (pos 2147483647) ≡ true → CountsOn v (suc n)
counts_on zero v high l e h = (subst (λ k. in_word k ≡ word k) (sym (one_more v)) (is_in_word (suc_ℤ v) (next_word v high 0 l e h)), tt)
counts_on (suc n) v high l e h = (
  subst (λ k. in_word k ≡ word k) (sym (one_more v)) (is_in_word (suc_ℤ v) (next_word v high (suc n) l e h)),
  subst (λ k. CountsOn k (suc n)) (sym (one_more v)) (counts_on n (suc_ℤ v) high (next_lower v l) e h),
)

word_lower : (v : ℤ) → is_word v ≡ true → Lower v
word_lower (pos a) h = tt
word_lower (negsuc a) h = ltb-true a 2147483648 h

pub turns_count : (g : Program) (low high : Constant) → AreTurns g low high → ((k : ℕ) × (up_to (constant_value g high -ℤ constant_value g low) ≡ suc k) × CountsOn (constant_value g low) (suc k))
turns_count g low high t =
    let d : (d : ℕ) × (up (constant_value g low) d ≡ constant_value g high) = steps_to (constant_value g low) (constant_value g high) t.order in (
      d.0,
      ap (λ v. up_to (v -ℤ constant_value g low)) (sym d.1 ∙ up_added (constant_value g low) d.0) ∙ ap (λ v. up_to v) (+ℤ-neg_ℤ_cancel (pos d.0) (constant_value g low)),
      counts_on d.0 (constant_value g low) (constant_value g high) (word_lower (constant_value g low) t.low_constant.word) d.1 t.ends,
    )
