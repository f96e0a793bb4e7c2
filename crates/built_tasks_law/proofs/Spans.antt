-- Stretches of the code, and whether one of their instructions calls what passes a test.
use Rattle.std.specs.Prelude.{◌≡◌, ◌+◌, ◌≤◌, ◌||◌, ℕ, zero, suc, Bool, false, List, [], ◌∷◌, Some, length, slice_get}
use Rattle.std.proofs.Common.{refl, sym, ap, subst, ◌∙◌, arith}
use Rattle.machine_isa.specs.declared.instr.Instr.{Instr}
use Rattle.code_spec.specs.Emits.{Has, IsLine, At}
use Rattle.built_tasks_law.proofs.Tests.{or_false, or_three, or_both, passes, some_in}

-- among n instructions from an address on
abbrev pub some_at : (ℕ → Bool) → List Instr → (p n : ℕ) → Bool
some_at test code p zero = false
some_at test code p (suc n) = passes test (slice_get code p) || some_at test code (p + 1) n

module _ (test : ℕ → Bool) (code : List Instr) where
  pub at_split : (n k p : ℕ) → some_at test code p (n + k) ≡ some_at test code p n || some_at test code (p + n) k
  at_split zero k p =
      let z : 0 + k ≡ k = omega arith in
      let y : p ≡ p + 0 = omega arith in
      ap (λ j. some_at test code p j) z ∙ ap (λ a. some_at test code a k) y
  at_split (suc n) k p =
      let z : suc n + k ≡ suc (n + k) = omega arith in
      let y : p + 1 + n ≡ p + suc n = omega arith in
      ap (λ j. some_at test code p j) z
      ∙ (ap (λ b. passes test (slice_get code p) || b) (at_split n k (p + 1))
      ∙ (sym (or_three (passes test (slice_get code p)) (some_at test code (p + 1) n) (some_at test code (p + 1 + n) k))
      ∙ ap (λ a. some_at test code p (suc n) || some_at test code a k) y))

  -- the stretch from p to q comes to b
  pub record Spans (p q : ℕ) (b : Bool) : Type 0 where
    pub many : ℕ
    pub end : q ≡ p + many
    pub is : some_at test code p many ≡ b

  pub in_order : (p q : ℕ) (b : Bool) → Spans p q b → p ≤ q
  in_order p q b s = let e : q ≡ p + s.many = s.end in omega (arith, e)

  pub as_well : (p q : ℕ) (a b : Bool) → Spans p q a → a ≡ b → Spans p q b
  as_well p q a b s e = record { many = s.many; end = s.end; is = s.is ∙ e }

  pub nothing : (p q : ℕ) → q ≡ p → Spans p q false
  nothing p q e = record { many = 0; end = omega (arith, e); is = refl }

  pub join : (p r q : ℕ) (a b : Bool) → Spans p r a → Spans r q b → Spans p q (a || b)
  join p r q a b s t =
      let e : r ≡ p + s.many = s.end in
      let h : q ≡ r + t.many = t.end in
      record {
        many = s.many + t.many;
        end = omega (arith, e, h);
        is = at_split s.many t.many p ∙ or_both s.is (subst (λ y. some_at test code y t.many ≡ b) e t.is);
      }

  has_same : (js : List Instr) (p : ℕ) → Has code p js → some_at test code p (length js) ≡ some_in test js
  has_same [] p h = refl
  has_same (x ∷ js) p h = or_both (ap (λ o. passes test o) h.0) (has_same js (p + 1) h.1)

  pub has_spans : (js : List Instr) (p q : ℕ) → Has code p js → q ≡ p + length js → Spans p q (some_in test js)
  has_spans js p q h e = record { many = length js; end = e; is = has_same js p h }

  pub line_spans : (p q : ℕ) (js : List Instr) (b : Bool) → IsLine code p q js → some_in test js ≡ b → Spans p q b
  line_spans p q js b l e = as_well p q (some_in test js) b (has_spans js p q l.has l.end) e

  -- one instruction that calls nothing
  pub one_spans : (p q : ℕ) (x : Instr) → At code p x → q ≡ p + 1 → passes test (Some x) ≡ false → Spans p q false
  one_spans p q x here e plain = as_well p q (some_in test (x ∷ [])) false (has_spans (x ∷ []) p q (here, tt) e) (or_false (passes test (Some x)) ∙ plain)
