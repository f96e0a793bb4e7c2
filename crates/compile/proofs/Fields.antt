-- The numbers of a checked program that keeps to the rules of size fit their fields.
use Rattle.std.specs.Prelude.{All, Contains, slice_get, sum_by, int_le}
use Rattle.std.proofs.Common.{◌≡◌, ◌≤◌, ◌+◌, ◌⊎◌, ◌||◌, ◌&&◌, inl, inr, refl, subst, ℕ, zero, suc, Bool, true, false, ℤ, pos, negsuc, List, [], ◌∷◌, Option, Some, None, map, filter_map, arith}
use Rattle.std.proofs.lemmas.Bool.{leb-true}
use Rattle.std.proofs.lemmas.Option.{get_or_from_slice_get, slice_get_within, none-some, same_Some}
use Rattle.std.proofs.lemmas.List.Sums.{sum_by-cons}
use Rattle.base.proofs.Members.{front_or_behind, at_front, behind, none_in}
use Rattle.base.specs.Words.{within}
use Rattle.syntax_tree.specs.Placed.{Prog, Process, Decl, constant, device, event, routine, monitor, process, plain, plain_decl, plain_process, plain_routine}
use Rattle.syntax_tree.specs.Parts.{processes as placed_processes}
use Rattle.syntax_tree.specs.Plain as plain_of
use Rattle.syntax_tree.specs.declared.place.Place.{Place}
use Rattle.source_semantics.specs.Names.{as_count, constant_value, monitors, process_in, processes, variable_in}
use Rattle.code_spec.specs.Layout.{monitor_vars, routine_words, words_of}
use Rattle.code_spec.specs.Numbering.{Text, texts_from}
use Rattle.code_cost_spec.specs.Levels.{code_length, stack_of_process}
use Rattle.static_semantics.specs.WellFormed.{IsHandled, IsWellFormed, OptionalFits, ProcessFits, vars_words}
use Rattle.code_cost.specs.Rules.{routine_stack, placed_texts_from as placed_texts}
use Rattle.code_cost.specs.Told.{plain_text}
use Rattle.code_cost.proofs.Parts.{plain_texts}
use Rattle.codegen_law.proofs.Counts.{one_low, words_same}
use Rattle.built_image_law.specs.Ready.{CheckedProgramsAreReady, IsReady}
use Rattle.compile_image.specs.Fields.{AreExceptions, FitsHandler, monitors_words}
use Rattle.compile.specs.Assembled.{CheckedProgramsFitFields, KeepsToSizes}
use Rattle.compile.proofs.Made.{routine_parts, process_parts}
use Rattle.compile.proofs.Owners.{owners-low}
use Rattle.built_image_law.proofs.SmallLemmas.{not_over}

-- ---- texts

unmapped : {X Y : Type 0} (f : X → Y) (xs : List X) (y : Y) → Contains (map f xs) y → (x : X) × Contains xs x × (f x ≡ y)
unmapped f [] y c = absurd (none_in y c)
unmapped {X} {Y} f (x ∷ xs) y c = by (λ h. unmapped f xs y h) (front_or_behind (f x) (map f xs) y c)
  where
    by : (Contains (map f xs) y → (z : X) × Contains xs z × (f z ≡ y)) → (f x ≡ y) ⊎ Contains (map f xs) y → (z : X) × Contains (x ∷ xs) z × (f z ≡ y)
    by rest (inl e) = (x, at_front x xs, e)
    by rest (inr h) = let d = rest h in (d.0, behind x xs d.0 d.1, d.2)

text-small : (g : Prog Place) → KeepsToSizes g → (t : Text) → Contains (texts_from 0 0 (plain g).decls) t → routine_words (plain g) t.routine ≤ 4096
text-small g sizes t listed =
    let d = unmapped plain_text (placed_texts 0 0 g.decls) t (subst (λ ts. Contains ts t) (plain_texts 0 0 g.decls) listed) in
    let low : routine_stack (plain g) d.0.owner (plain_routine d.0.routine) ≤ 4096 =
    not_over 4096 (routine_stack (plain g) d.0.owner (plain_routine d.0.routine)) (λ over. sizes 47 d.0.routine.place (inr (refl, inl (record { text = d.0; listed = d.1; is = refl; over = over })))) in
    let words : routine_words (plain g) (plain_text d.0).routine ≤ 4096 = omega (arith, low) in
    subst (λ u. routine_words (plain g) u.routine ≤ 4096) d.2 words

-- ---- processes

placed-at : (ds : List (Decl Place)) (k : ℕ) (p : plain_of.Process) → slice_get (filter_map process_in (map plain_decl ds)) k ≡ Some p → (q : Process Place) × (slice_get (placed_processes ds) k ≡ Some q) × (plain_process q ≡ p)
placed-at [] k p e = absurd (none-some p e)
placed-at (constant n q c ∷ ds) k p e = placed-at ds k p e
placed-at (device n q o ∷ ds) k p e = placed-at ds k p e
placed-at (event n q ∷ ds) k p e = placed-at ds k p e
placed-at (routine r ∷ ds) k p e = placed-at ds k p e
placed-at (monitor d ∷ ds) k p e = placed-at ds k p e
placed-at (process q ∷ ds) zero p e = (q, refl, same_Some (plain_process q) p e)
placed-at (process q ∷ ds) (suc k) p e = placed-at ds k p e

process-small : (g : Prog Place) → KeepsToSizes g → (n : ℕ) (p : plain_of.Process) → slice_get (processes (plain g)) n ≡ Some p → stack_of_process (plain g) n p ≤ 4096
process-small g sizes n p there =
    let d = placed-at g.decls n p there in
    let low : stack_of_process (plain g) n (plain_process d.0) ≤ 4096 =
    not_over 4096 (stack_of_process (plain g) n (plain_process d.0)) (λ over. sizes 47 d.0.place (inr (refl, inr (record { number = n; text = d.0; listed = d.1; is = refl; over = over })))) in
    subst (λ q. stack_of_process (plain g) n q ≤ 4096) d.2 low

either : (a b c d : Bool) → (a && b) || (c && d) ≡ true → (b ≡ true) ⊎ (d ≡ true)
either a true c d h = inl refl
either a false c true h = inr refl
either true false true false h = absurd cc
either true false false false h = absurd cc
either false false true false h = absurd cc
either false false false false h = absurd cc

few-count : (v : ℤ) → within (pos 1) (pos 4) v || within (pos 10) (pos 999) v ≡ true → as_count v ≤ 999
few-count (negsuc n) h = omega arith
few-count (pos n) h =
    elim (either (int_le (pos 1) (pos n)) (int_le (pos n) (pos 4)) (int_le (pos 10) (pos n)) (int_le (pos n) (pos 999)) h)
    [ inl e ↦ let low : n ≤ 4 = leb-true n 4 e in omega arith | inr e ↦ leb-true n 999 e ]

exceptions : (g : plain_of.Program) (ns : List plain_of.Constant) → All (IsHandled g) ns → AreExceptions g ns
exceptions g [] h = tt
exceptions g (n ∷ ns) h =
    let first : IsHandled g n = h 0 n (omega arith) in
    (few-count (constant_value g n) first.limits, exceptions g ns (λ k d low. h (suc k) d (omega arith)))

handler-fits : (g : plain_of.Program) (p : plain_of.Process) (h : Option plain_of.Handler) → OptionalFits g p h → FitsHandler g h
handler-fits g p None fits = tt
handler-fits g p (Some h) fits = exceptions g h.numbers fits.numbers

process-formed : (g : plain_of.Program) (ps : List plain_of.Process) → All (ProcessFits g) ps → (n : ℕ) (p : plain_of.Process) → slice_get ps n ≡ Some p → ProcessFits g p
process-formed g ps all n p there = subst (λ q. ProcessFits g q) (get_or_from_slice_get ps n p p there) (all n p (slice_get_within ps n p there))

-- ---- monitors

monitors-same : (g : plain_of.Program) (ms : List plain_of.Monitor) → monitors_words g ms ≡ sum_by (λ m. vars_words g (filter_map variable_in m.members)) ms
monitors-same g [] = refl
monitors-same g (m ∷ ms) =
    let more : sum_by (λ y. vars_words g (filter_map variable_in y.members)) (m ∷ ms) ≡ vars_words g (filter_map variable_in m.members) + sum_by (λ y. vars_words g (filter_map variable_in y.members)) ms = sum_by-cons (λ y. vars_words g (filter_map variable_in y.members)) m ms in
    let one : words_of g (monitor_vars m) ≡ vars_words g (monitor_vars m) = words_same g (monitor_vars m) in
    let rest : monitors_words g ms ≡ sum_by (λ y. vars_words g (filter_map variable_in y.members)) ms = monitors-same g ms in
    omega arith

-- ---- the whole

pub fits-fields : CheckedProgramsAreReady → CheckedProgramsFitFields
fits-fields all_ready g checked sizes =
    let p : plain_of.Program = plain g in
    let ready : IsReady p = all_ready g checked in
    let formed : IsWellFormed p = ready.formed in
    let low : code_length p ≤ 65535 = not_over 65535 (code_length p) (λ over. sizes 46 g.place (inl (refl, record { is = refl; over = over }))) in
    record {
      few_monitors = formed.counts_fit.few_monitors;
      few_events = formed.counts_fit.few_events;
      monitor_words = let same = monitors-same p (monitors p) in let few = formed.counts_fit.few_words in omega arith;
      texts = λ r t there. record {
        owner = owners-low p formed.counts_fit.few_processes formed.counts_fit.few_monitors t (ready.numbered.listed r t there);
        words = text-small g sizes t (ready.numbered.listed r t there);
      };
      processes = λ n q there. record {
        words =
            let same = words_same p q.vars in
            let one = one_low (λ (x : plain_of.Process). vars_words p x.vars) (processes p) n q there in
            let few = formed.counts_fit.few_words in
            omega arith;
        stack = process-small g sizes n q there;
        handler = handler-fits p q q.handler (process-formed p (processes p) formed.processes_fit n q there).handler;
      };
      routine_parts = routine_parts p ready.sound low;
      process_parts = process_parts p ready.sound low;
    }
