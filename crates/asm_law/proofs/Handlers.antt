-- The numbers that a handler takes, and its tree.
use Rattle.std.proofs.Common.{◌≡◌, ◌≤◌, ◌<◌, ◌^◌, ◌+◌, ◌++◌, ◌&&◌, ℕ, zero, suc, true, false, List, [], ◌∷◌, length, refl, sym, ap, ◌∙◌, arith, append_assoc}
use Rattle.std.specs.Prelude.{codes, nat_lt}
use Rattle.std.specs.List.{flat_map}
use Rattle.std.proofs.lemmas.Bool.{lt-ltb, ltb-true, and_parts}
use Rattle.image_format.specs.Format.{u16, each_is, checked}
use Rattle.image_reader.specs.Grammar as g
use Rattle.asm_format.specs.Text.{field, numbers_text, handler_text, handler_line}
use Rattle.text_fields.specs.Front.{Front, begins}
use Rattle.asm_lines.specs.Processes.{taken_read, more_read, numbers_read, handler_read, handler_tree_read}
use Rattle.asm_law.proofs.Took.{Start, Within, Takes, on, shown, note, nothing, Holds, went, failed, next, choice}
use Rattle.asm_law.proofs.Passing.{inside}
use Rattle.asm_law.proofs.SoundNumbers.{both_true, fine_of, IsIn, any_u16, any_u32, field_took}
use Rattle.asm_law.proofs.SoundTrees.{tree_line_took}
use Rattle.image_reader.proofs.Rising.{above_last}
use Rattle.image_reader_law.proofs.Parts.{is_taken_means}

-- ---- numbers, each above the last one

abbrev pub AreTaken : (last : ℕ) → List ℕ → Type 0
AreTaken last [] = Unit {0}
AreTaken last (n ∷ ns) = (u16.is n ≡ true) × (nat_lt last n ≡ true) × (g.is_taken n ≡ true) × AreTaken n ns

-- there are no more of them than lie between
few : (last : ℕ) (ns : List ℕ) → last ≤ 999 → AreTaken last ns → length ns + last ≤ 999
few last [] low taken = omega (arith, low)
few last (n ∷ ns) low taken =
    let above : last < n = ltb-true last n taken.1 in
    let more : length ns + n ≤ 999 = few n ns (is_taken_means n taken.2) taken.3 in
    omega (arith, above, more)

pub few_numbers : (ns : List ℕ) → AreTaken 0 ns → u16.is (length ns) ≡ true
few_numbers ns taken = let low : length ns + 0 ≤ 999 = few 0 ns (omega arith) taken in lt-ltb (length ns) (2 ^ 16) (omega (arith, low))

above_is : (earlier : List ℕ) (last : ℕ) (ns : List ℕ) → AreTaken last ns → each_is (λ before. checked u16 (g.wrong_number before)) (earlier ++ last ∷ []) (length ns) ns ≡ true
above_is earlier last [] taken = refl
above_is earlier last (n ∷ ns) taken =
    both_true (both_true taken.0 (fine_of 8 (both_true (above_last earlier last n ∙ taken.1) taken.2))) (above_is (earlier ++ last ∷ []) n ns taken.3)

pub numbers_are : (ns : List ℕ) → AreTaken 0 ns → (g.numbers_format (length ns)).is ns ≡ true
numbers_are [] taken = refl
numbers_are (n ∷ ns) taken = both_true (both_true taken.0 (fine_of 8 taken.2)) (above_is [] n ns taken.3)

taken_took : (last : ℕ) (s : Front)
    → Holds (λ z. Takes Within Within 0 s z.1 (field (codes " ") z.0) ((u16.is z.0 ≡ true) × (nat_lt last z.0 ≡ true) × (g.is_taken z.0 ≡ true))) (taken_read last s)
unfolding taken_read
taken_took last s =
    next (field_took (codes " ") 0 65535 s (inside (codes " ") refl)) (λ n a.
    let took = note (nat_lt last n.0 && g.is_taken n.0) a in
    went (shown took refl (λ held. let p = and_parts (nat_lt last n.0) (g.is_taken n.0) held.1 in (any_u16 0 n.0 held.0, p.0, p.1))))

more_took : (most last : ℕ) (s : Front) → Holds (λ z. Takes Within Within 0 s z.1 (flat_map (field (codes " ")) z.0) (AreTaken last z.0)) (more_read most last s)
unfolding more_read
more_took zero last s = failed
more_took (suc n) last s =
    choice (begins (codes "\n") s.rest) (λ h. went (nothing s)) (λ h. next (taken_took last s) (λ x a. next (more_took n x.0 x.1) (λ xs b.
    let took = on a b in went (shown took refl (λ held. (held.0.0, held.0.1, held.0.2, held.1))))))

abbrev AreSome : Front → List ℕ × Front → Type 0
AreSome s z = (0 < length z.0) × Takes Within Within 0 s z.1 (flat_map (field (codes " ")) z.0) (AreTaken 0 z.0)

some_took : (most : ℕ) (s : Front) → begins (codes "\n") s.rest ≡ false → Holds (AreSome s) (more_read most 0 s)
unfolding more_read
some_took zero s go_on = failed
some_took (suc n) s go_on =
    choice (begins (codes "\n") s.rest) (λ h. absurd (let e : true ≡ false = sym h ∙ go_on in cc)) (λ h. next (taken_took 0 s) (λ x a. next (more_took n x.0 x.1) (λ xs b.
    let took = on a b in went ((let e : 0 < length (x.0 ∷ xs.0) = omega arith in e), shown took refl (λ held. (held.0.0, held.0.1, held.0.2, held.1))))))

numbers_took : (s : Front) → Holds (AreSome s) (numbers_read s)
unfolding numbers_read
numbers_took s = choice (begins (codes "\n") s.rest) (λ h. failed) (λ h. some_took (length s.rest) s h)

-- ---- the handler

-- the address and the numbers, up to the end of the line
abbrev pub front_text : ℕ → List ℕ → List ℕ
front_text handler [] = []
front_text handler (n ∷ ns) = field (codes " handler ") handler ++ flat_map (field (codes " ")) (n ∷ ns)

numbers_end : (ns : List ℕ) → flat_map (field (codes " ")) ns ++ codes "\n" ≡ numbers_text ns
numbers_end [] = refl
numbers_end (n ∷ ns) = append_assoc (field (codes " ") n) (flat_map (field (codes " ")) ns) (codes "\n") ∙ ap (λ (xs : List ℕ). field (codes " ") n ++ xs) (numbers_end ns)

pub handler_end : (handler : ℕ) (ns : List ℕ) → front_text handler ns ++ codes "\n" ≡ handler_text handler ns
handler_end handler [] = refl
handler_end handler (n ∷ ns) =
    append_assoc (field (codes " handler ") handler) (flat_map (field (codes " ")) (n ∷ ns)) (codes "\n") ∙ ap (λ (xs : List ℕ). field (codes " handler ") handler ++ xs) (numbers_end (n ∷ ns))

abbrev pub IsHandler : ℕ × List ℕ → Type 0
IsHandler x = (g.handler_format.is (x.0, length x.1) ≡ true) × AreTaken 0 x.1

front_is : (handler : ℕ) (ns : List ℕ) → 0 < length ns → field (codes " handler ") handler ++ flat_map (field (codes " ")) ns ≡ front_text handler ns
front_is handler [] some = absurd (omega (arith, some))
front_is handler (n ∷ ns) some = refl

handler_is : (handler : ℕ) (ns : List ℕ) → 0 < length ns → IsIn 0 4294967295 handler → AreTaken 0 ns → IsHandler (handler, ns)
handler_is handler ns some h taken =
    (both_true (both_true (any_u32 0 4294967295 handler h) (few_numbers ns taken)) (fine_of 7 (let more : nat_lt 0 (length ns) ≡ true = lt-ltb 0 (length ns) some in rw more refl)), taken)

pub handler_took : (s : Front) → Holds (λ z. Takes Within Within 0 s z.1 (front_text z.0.0 z.0.1) (IsHandler z.0)) (handler_read s)
unfolding handler_read
handler_took s =
    choice (begins (codes "\n") s.rest) (λ h. went (shown (nothing s) refl (λ held. (refl, tt))))
    (λ h. next (field_took (codes " handler ") 0 4294967295 s (inside (codes " handler ") refl)) (λ handler a. next (numbers_took handler.1) (λ ns b.
    let took = on a b.1 in went (shown took (front_is handler.0 ns.0 b.0) (λ held. handler_is handler.0 ns.0 b.0 held.0 held.1)))))

-- its tree, where there are numbers
pub handler_tree_took : (monitors : ℕ) (ns : List ℕ) (s : Front)
    → Holds (λ z. Takes Start Start 0 s z.1 (handler_line ns z.0) ((g.handler_tree_format monitors (length ns)).is z.0 ≡ true)) (handler_tree_read monitors ns s)
unfolding handler_tree_read
handler_tree_took monitors [] s = went (shown (nothing s) refl (λ held. refl))
handler_tree_took monitors (n ∷ ns) s = next (tree_line_took monitors s) (λ tree a. went a)
