-- The lines of routines.
use Rattle.std.proofs.Common.{◌≡◌, ◌≤◌, ◌++◌, ◌&&◌, ◌==◌, ℕ, zero, suc, Bool, true, false, List, decimal, Option, Some, None, refl, sym, ap, ◌∙◌, subst, arith, append_assoc}
use Rattle.std.specs.Prelude.{codes, nat_lt, nat_le, if◌then◌else◌}
use Rattle.std.proofs.lemmas.Bool.{lt-ltb, leb-true, le-leb, and_parts}
use Rattle.machine_semantics.specs.Image.{Routine}
use Rattle.machine_semantics.specs.Trees.{Segs}
use Rattle.image_reader.specs.declared.counts.Counts.{Counts}
use Rattle.image_format.specs.Format.{u16, u32, unless, checked}
use Rattle.image_format.specs.TreeFormat.{in_image, u32_within, tree_format}
use Rattle.image_reader.specs.Grammar as g
use Rattle.asm_format.specs.Text.{field, owner_text, bit, stay_text, routine_lines, tree_line}
use Rattle.text_fields.specs.Front.{Front, begins, noted}
use Rattle.text_fields.specs.LineFields.{ranged, number_read, field_read}
use Rattle.asm_lines.specs.Routines.{owned_read, owner_read, place_read, cost_read, stay_read, cost_fields_read, routine_line_read, routine_with, routine_read}
use Rattle.asm_law.proofs.Took.{Start, Within, Takes, on, shown, note, refuted, nothing, Holds, went, next, choice, mapped}
use Rattle.asm_law.proofs.Passing.{is_plain, inside, other_line, skip_took, end_took}
use Rattle.asm_law.proofs.SoundNumbers.{both_true, fine_of, IsIn, u32_is, any_u32, any_u16, IsRead, numeral_took, field_took}
use Rattle.asm_law.proofs.SoundTrees.{tree_line_took}

-- ---- whose it is

-- whatever else there is
abbrev pub IsOwner : (processes monitors : ℕ) → ℕ × ℕ → Type 0
IsOwner processes monitors o = (counts : Counts) → counts.processes ≡ processes → counts.monitors ≡ monitors → (checked u16 (g.wrong_owner counts o.0)).is o.1 ≡ true

abbrev Owner : (processes monitors : ℕ) → Front → (ℕ × ℕ) × Front → Type 0
Owner processes monitors s z = (z.0.0 ≤ 2) × Takes Start Within 0 s z.1 (codes "routine " ++ owner_text z.0.0 z.0.1) (IsOwner processes monitors z.0)

is_below : (count there n : ℕ) → there ≡ count → IsIn 0 65535 n → nat_lt n count ≡ true → (checked u16 (λ m. unless (nat_lt m there) 4)).is n ≡ true
is_below count there n same h low = both_true (any_u16 0 n h) (fine_of 4 (ap (nat_lt n) same ∙ low))

of_process : (processes monitors : ℕ) (s : Front) → Holds (Owner processes monitors s) (owned_read 1 (codes "routine process ") processes s)
of_process processes monitors s =
    next (field_took (codes "routine process ") 0 65535 s (other_line (codes "routine process ") refl)) (λ n a.
    let took = note (nat_lt n.0 processes) a in
    went ((let e : 1 ≤ 2 = omega arith in e), shown took refl (λ held counts same others. is_below processes counts.processes n.0 same held.0 held.1)))

of_monitor : (processes monitors : ℕ) (s : Front) → Holds (Owner processes monitors s) (owned_read 2 (codes "routine monitor ") monitors s)
of_monitor processes monitors s =
    next (field_took (codes "routine monitor ") 0 65535 s (other_line (codes "routine monitor ") refl)) (λ n a.
    let took = note (nat_lt n.0 monitors) a in
    went ((let e : 2 ≤ 2 = omega arith in e), shown took refl (λ held counts others same. is_below monitors counts.monitors n.0 same held.0 held.1)))

owner_took : (processes monitors : ℕ) (s : Front) → Holds (Owner processes monitors s) (owner_read processes monitors s)
unfolding owner_read
owner_took processes monitors s =
    choice (begins (codes "routine process ") s.rest) (λ h. of_process processes monitors s) (λ h.
    choice (begins (codes "routine monitor ") s.rest) (λ h. of_monitor processes monitors s) (λ h.
    next (skip_took (codes "routine program") s (other_line (codes "routine program") refl)) (λ t a. went ((let e : 0 ≤ 2 = omega arith in e), shown a refl (λ held counts p m. refl)))))

-- ---- where it stands and what it costs

one_bit : (n : ℕ) → n ≤ 1 → n ≡ bit (n == 1)
one_bit zero h = refl
one_bit (suc zero) h = refl
one_bit (suc (suc n)) h = absurd (omega (arith, h))

-- whether there is a result
abbrev Digit : Front → ℕ × Front → Type 0
Digit s z = Takes Within Within 0 s z.1 (decimal (bit (z.0 == 1))) (Unit {0})

bit_ranged : (s t : Front) (o : Option ℕ) → IsRead s (o, t) → Digit s (ranged 0 1 o t)
bit_ranged s t None read = refuted t
bit_ranged s t (Some n) read = by (nat_le 0 n && nat_le n 1) refl where
  by : (b : Bool) → (nat_le 0 n && nat_le n 1) ≡ b → Digit s (if b then (n, t) else (0, noted t false))
  by true h =
      let low : n ≤ 1 = leb-true n 1 (and_parts (nat_le 0 n) (nat_le n 1) h).1 in
      shown (read n refl) (ap decimal (one_bit n low)) (λ held. tt)
  by false h = refuted t

abbrev Bit : Front → ℕ × Front → Type 0
Bit s z = Takes Within Within 0 s z.1 (field (codes " result ") (bit (z.0 == 1))) (Unit {0})

bit_took : (s : Front) → Holds (Bit s) (field_read (codes " result ") 0 1 s)
unfolding field_read number_read
bit_took s =
    next (skip_took (codes " result ") s (inside (codes " result ") refl)) (λ t a. next (numeral_took t) (λ x read. let took = on a (bit_ranged t x.1 x.0 read) in went (shown took refl (λ held. tt))))

abbrev place_of : ℕ × (ℕ × (Bool × ℕ)) → List ℕ
place_of x = field (codes " params ") x.0 ++ (field (codes " locals ") x.1.0 ++ (field (codes " result ") (bit x.1.1.0) ++ field (codes " start ") x.1.1.1))

-- each in its range
abbrev IsPlace : ℕ × (ℕ × (Bool × ℕ)) → Type 0
IsPlace x = (u16.is x.0 ≡ true) × ((u32_within 0 4096).is x.1.0 ≡ true) × (u32.is x.1.1.1 ≡ true)

place_took : (s : Front) → Holds (λ z. Takes Within Within 0 s z.1 (place_of z.0) (IsPlace z.0)) (place_read s)
unfolding place_read
place_took s =
    next (field_took (codes " params ") 0 65535 s (inside (codes " params ") refl)) (λ params a. next (field_took (codes " locals ") 0 4096 params.1 (inside (codes " locals ") refl)) (λ locals b.
    next (bit_took locals.1) (λ gives c. next (field_took (codes " start ") 0 4294967295 gives.1 (inside (codes " start ") refl)) (λ start d.
    let took = on a (on b (on c d)) in went (shown took refl (λ held. (any_u16 0 params.0 held.0, u32_is 0 4096 locals.0 held.1.0, any_u32 0 4294967295 start.0 held.1.1.1)))))))

pub cost_took : (label : List ℕ) (s : Front) → is_plain label ≡ true → Holds (λ z. Takes Within Within 0 s z.1 (field label z.0) (g.cost.is z.0 ≡ true)) (cost_read label s)
cost_took label s plain = mapped (λ z a. shown a refl (λ held. u32_is 0 1000000001 z.0 held)) (field_took label 0 1000000001 s (inside label plain))

stay_took : (kind : ℕ) (s : Front) → kind ≤ 2 → Holds (λ z. Takes Within Within 0 s z.1 (stay_text kind z.0) ((checked g.cost (g.wrong_stay kind)).is z.0 ≡ true)) (stay_read kind s)
unfolding stay_read
stay_took zero s low = went (shown (nothing s) refl (λ held. refl))
stay_took (suc zero) s low = went (shown (nothing s) refl (λ held. refl))
stay_took (suc (suc zero)) s low = mapped (λ z a. shown a refl (λ held. both_true held refl)) (cost_took (codes " stay ") s refl)
stay_took (suc (suc (suc kind))) s low = absurd (omega (arith, low))

abbrev costs_of : (kind : ℕ) → ℕ × (ℕ × (ℕ × ℕ)) → List ℕ
costs_of kind x = field (codes " run ") x.0 ++ (field (codes " suspend ") x.1.0 ++ (field (codes " waits ") x.1.1.0 ++ stay_text kind x.1.1.1))

abbrev AreCosts : (kind : ℕ) → ℕ × (ℕ × (ℕ × ℕ)) → Type 0
AreCosts kind x = (g.cost.is x.0 ≡ true) × (g.cost.is x.1.0 ≡ true) × (g.cost.is x.1.1.0 ≡ true) × ((checked g.cost (g.wrong_stay kind)).is x.1.1.1 ≡ true)

costs_took : (kind : ℕ) (s : Front) → kind ≤ 2 → Holds (λ z. Takes Within Within 0 s z.1 (costs_of kind z.0) (AreCosts kind z.0)) (cost_fields_read kind s)
unfolding cost_fields_read
costs_took kind s low =
    next (cost_took (codes " run ") s refl) (λ run a. next (cost_took (codes " suspend ") run.1 refl) (λ susp b. next (cost_took (codes " waits ") susp.1 refl) (λ waits c.
    next (stay_took kind waits.1 low) (λ stay d. let took = on a (on b (on c d)) in went (shown took refl (λ held. (held.0, held.1.0, held.1.1.0, held.1.1.1)))))))

-- ---- the line, and the tree

abbrev Line : Type 0
Line = (ℕ × ℕ) × ((ℕ × (ℕ × (Bool × ℕ))) × (ℕ × (ℕ × (ℕ × ℕ))))

abbrev line_of : Line → List ℕ
line_of x = (codes "routine " ++ owner_text x.0.0 x.0.1) ++ (place_of x.1.0 ++ (costs_of x.0.0 x.1.1 ++ codes "\n"))

abbrev IsLine : (processes monitors : ℕ) → Line → Type 0
IsLine processes monitors x = (x.0.0 ≤ 2) × IsOwner processes monitors x.0 × IsPlace x.1.0 × AreCosts x.0.0 x.1.1

line_took : (processes monitors : ℕ) (s : Front) → Holds (λ z. Takes Start Start 0 s z.1 (line_of z.0) (IsLine processes monitors z.0)) (routine_line_read processes monitors s)
unfolding routine_line_read
line_took processes monitors s =
    next (owner_took processes monitors s) (λ owner a. next (place_took owner.1) (λ place b. next (costs_took owner.0.0 place.1 a.0) (λ cost c. next (end_took cost.1) (λ t d.
    let took = on a.1 (on b (on c d)) in went (shown took refl (λ held. (a.0, held.0, held.1.0, held.1.1.0)))))))

regroup : (a b c d e : List ℕ) → (a ++ (b ++ (c ++ d))) ++ e ≡ a ++ (b ++ (c ++ (d ++ e)))
regroup a b c d e =
    append_assoc a (b ++ (c ++ d)) e ∙ ap (λ (xs : List ℕ). a ++ xs) (append_assoc b (c ++ d) e ∙ ap (λ (xs : List ℕ). b ++ xs) (append_assoc c d e))

abbrev pub IsRoutine : (processes monitors : ℕ) → Routine → Type 0
IsRoutine processes monitors r = (counts : Counts) → counts.processes ≡ processes → counts.monitors ≡ monitors → (g.routine_format counts).is r ≡ true

is_routine : (processes monitors : ℕ) (x : Line) (tree : Segs) → IsLine processes monitors x → (tree_format (in_image monitors) 130).is tree ≡ true → IsRoutine processes monitors (routine_with x tree)
is_routine processes monitors x tree h is_tree counts p m =
    let kind = lt-ltb x.0.0 256 (omega (arith, h.0)) in
    both_true
    (both_true (both_true kind (fine_of 6 (le-leb x.0.0 2 h.0))) (both_true (h.1 counts p m) (both_true h.2.0 (both_true h.2.1 refl))))
    (both_true (both_true h.2.2 (both_true h.3.0 (both_true h.3.1 (both_true h.3.2 h.3.3)))) (subst (λ n. (tree_format (in_image n) 130).is tree ≡ true) (sym m) is_tree))

pub routine_took : (processes monitors : ℕ) (s : Front) → Holds (λ z. Takes Start Start 0 s z.1 (routine_lines z.0) (IsRoutine processes monitors z.0)) (routine_read processes monitors s)
unfolding routine_read
routine_took processes monitors s =
    next (line_took processes monitors s) (λ x a. next (tree_line_took monitors x.1) (λ tree b.
    let took = on a b in
    went (shown took (regroup (codes "routine " ++ owner_text x.0.0.0 x.0.0.1) (place_of x.0.1.0) (costs_of x.0.0.0 x.0.1.1) (codes "\n") (tree_line tree.0))
    (λ held. is_routine processes monitors x.0 tree.0 held.0 held.1))))
