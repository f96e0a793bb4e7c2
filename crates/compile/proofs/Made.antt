-- What is made of a program has a part for each text, and each part fits its fields.
use Rattle.std.proofs.Common.{◌≡◌, ◌≤◌, ◌<◌, ◌^◌, ◌+◌, ◌∙◌, sym, ap, subst, refl, ℕ, zero, suc, List, [], ◌∷◌, ◌++◌, length, append_assoc, append-nil, arith}
use Rattle.std.specs.Prelude.{Option, Some, None, is_some, option_map, slice_get, unwrap_or}
use Rattle.std.proofs.lemmas.List.{length-append}
use Rattle.syntax_tree.specs.Plain.{Handler, Process, Program}
use Rattle.source_semantics.specs.Names.{processes}
use Rattle.machine_isa.specs.declared.instr.Instr.{Instr}
use Rattle.machine_isa.specs.declared.instr.Instr.TheVariants as i
use Rattle.code_spec.specs.Layout.{Scope, routine_vars_words}
use Rattle.code_spec.specs.Numbering.{Text, numbered}
use Rattle.code_spec.specs.Segments.{stmts_segs}
use Rattle.code_spec.specs.Compiled.{process_scope, routine_scope}
use Rattle.code_cost_spec.specs.Lengths.{stmts_length, routine_length, process_length}
use Rattle.code_cost_spec.specs.Levels.{routine_names, process_names, routines_length, processes_length, code_length}
use Rattle.code_measures.specs.Sound.{SoundRoutine, SoundProcess}
use Rattle.code_measures.proofs.Sizes.{alike}
use Rattle.code_measures.proofs.Seen.{sees}
use Rattle.code_measures.specs.Declared.{IsBelow, IsSound}
use Rattle.codegen_spec.specs.declared.code.Part.{Part}
use Rattle.codegen_spec.specs.declared.code.ProcessParts.{ProcessParts}
use Rattle.codegen_spec.specs.declared.code.Code.{Code}
use Rattle.codegen_spec.specs.Made.{Out, begun, push, stmts_out}
use Rattle.codegen_spec.specs.Parts.{opened, ended, handler_out, part_of, process_out, return_of, text_made, texts_made, process_made, processes_made, nothing_made, program_made}
use Rattle.codegen_law.proofs.Growth.{Grows}
use Rattle.codegen_law.proofs.Segments.{stmts_grows}
use Rattle.codegen_law.proofs.Routines.{whole_out, routine_long}
use Rattle.codegen_law.proofs.Processes.{body_of, parts_of, process_long}
use Rattle.compile.proofs.CoveredTexts.{routine_fits, stmts_fit}
use Rattle.compile_image.specs.Fields.{FitsHandlerPart, FitsPart, FitsParts, HasParts, HaveHandlers}

module _ (g : Program) where
  -- ---- the parts

  abbrev new_routines : List Text → Code → List Part
  new_routines [] k = []
  new_routines (t ∷ ts) k = part_of (length k.instrs) (whole_out g t k.instrs) (push (whole_out g t k.instrs) (return_of t.routine.answers)) ∷ new_routines ts (text_made g t k)

  routines_are : (ts : List Text) (k : Code) → (texts_made g ts k).routines ≡ k.routines ++ new_routines ts k
  routines_are [] k = sym (append-nil k.routines)
  routines_are (t ∷ ts) k = routines_are ts (text_made g t k) ∙ append_assoc k.routines (part_of (length k.instrs) (whole_out g t k.instrs) (push (whole_out g t k.instrs) (return_of t.routine.answers)) ∷ []) (new_routines ts (text_made g t k))

  no_processes : (ts : List Text) (k : Code) → (texts_made g ts k).processes ≡ k.processes
  no_processes [] k = refl
  no_processes (t ∷ ts) k = no_processes ts (text_made g t k)

  one_each : (ts : List Text) (k : Code) → length (new_routines ts k) ≡ length ts
  one_each [] k = refl
  one_each (t ∷ ts) k = ap (λ n. suc n) (one_each ts (text_made g t k))

  abbrev next : ℕ → Process → Code → Code
  next n p k = process_made g (process_scope g n p) p k

  abbrev new_processes : ℕ → List Process → Code → List ProcessParts
  new_processes n [] k = []
  new_processes n (p ∷ ps) k = parts_of g n p k.instrs ∷ new_processes (suc n) ps (next n p k)

  kept_routines : (n : ℕ) (ps : List Process) (k : Code) → (processes_made g n ps k).routines ≡ k.routines
  kept_routines n [] k = refl
  kept_routines n (p ∷ ps) k = kept_routines (suc n) ps (next n p k)

  processes_are : (n : ℕ) (ps : List Process) (k : Code) → (processes_made g n ps k).processes ≡ k.processes ++ new_processes n ps k
  processes_are n [] k = sym (append-nil k.processes)
  processes_are n (p ∷ ps) k = processes_are (suc n) ps (next n p k) ∙ append_assoc k.processes (parts_of g n p k.instrs ∷ []) (new_processes (suc n) ps (next n p k))

  as_said : {A B : Type 0} (f : A → B) (h : Option A) → is_some (option_map f h) ≡ is_some h
  as_said f None = refl
  as_said f (Some x) = refl

  have_handlers : (n : ℕ) (ps : List Process) (k : Code) → HaveHandlers ps (new_processes n ps k)
  have_handlers n [] k = tt
  have_handlers n (p ∷ ps) k = (as_said _ p.handler, have_handlers (suc n) ps (next n p k))

  abbrev first_code : Code
  first_code = texts_made g (numbered g) nothing_made

  all_routines : (program_made g).routines ≡ new_routines (numbered g) nothing_made
  all_routines = kept_routines 0 (processes g) first_code ∙ routines_are (numbered g) nothing_made

  all_processes : (program_made g).processes ≡ new_processes 0 (processes g) first_code
  all_processes = processes_are 0 (processes g) first_code ∙ ap (λ xs. xs ++ new_processes 0 (processes g) first_code) (no_processes (numbered g) nothing_made)

  pub has_parts : HasParts g (program_made g)
  has_parts = record {
    routines = ap length all_routines ∙ one_each (numbered g) nothing_made;
    processes = subst (λ xs. HaveHandlers (processes g) xs) (sym all_processes) (have_handlers 0 (processes g) first_code);
  }

  -- ---- they fit

  same : {A : Type 0} (x y : A) → Some x ≡ Some y → x ≡ y
  same x y e = ap (λ o. unwrap_or o x) e

  routines_begin : (ts : List Text) (k : Code) → ((r : ℕ) (t : Text) → slice_get ts r ≡ Some t → (below : ℕ) × SoundRoutine g (λ y. IsBelow g below y) t) → length k.instrs + routines_length g ts ≤ 65535
      → (r : ℕ) (x : Part) → slice_get (new_routines ts k) r ≡ Some x → FitsPart x
  routines_begin [] k sound low r x there = absurd cc
  routines_begin (t ∷ ts) k sound low zero x there =
      let whole : Out = whole_out g t k.instrs in
      let first : Part = part_of (length k.instrs) whole (push whole (return_of t.routine.answers)) in
      let ok : (below : ℕ) × SoundRoutine g (λ y. IsBelow g below y) t = sound 0 t refl in
      let a : length (push whole (return_of t.routine.answers)).code ≡ length k.instrs + routine_length g (routine_names g t) t = routine_long g (λ y. IsBelow g ok.0 y) t ok.1 k.instrs in
      let short : length whole.code < 2 ^ 32 = omega (arith, low, a, length-append whole.code (return_of t.routine.answers ∷ [])) in
      let fits : FitsPart first = record { start = omega arith; rows = routine_fits g (routine_scope g t) t.owner t.routine (opened (routine_vars_words g t.routine) k.instrs) refl refl short } in
      subst (λ y. FitsPart y) (same first x there) fits
  routines_begin (t ∷ ts) k sound low (suc r) x there =
      let ok : (below : ℕ) × SoundRoutine g (λ y. IsBelow g below y) t = sound 0 t refl in
      let a : length (text_made g t k).instrs ≡ length k.instrs + routine_length g (routine_names g t) t = routine_long g (λ y. IsBelow g ok.0 y) t ok.1 k.instrs in
      routines_begin ts (text_made g t k) (λ q u at. sound (suc q) u at) (omega arith) r x there

  texts_long : (ts : List Text) (k : Code) → ((r : ℕ) (t : Text) → slice_get ts r ≡ Some t → (below : ℕ) × SoundRoutine g (λ y. IsBelow g below y) t) → length (texts_made g ts k).instrs ≡ length k.instrs + routines_length g ts
  texts_long [] k sound = omega arith
  texts_long (t ∷ ts) k sound =
      let ok : (below : ℕ) × SoundRoutine g (λ y. IsBelow g below y) t = sound 0 t refl in
      let a : length (text_made g t k).instrs ≡ length k.instrs + routine_length g (routine_names g t) t = routine_long g (λ y. IsBelow g ok.0 y) t ok.1 k.instrs in
      let b : length (texts_made g ts (text_made g t k)).instrs ≡ length (text_made g t k).instrs + routines_length g ts = texts_long ts (text_made g t k) (λ r u at. sound (suc r) u at) in
      omega arith

  body_long : (may : Text → Type 0) (n : ℕ) (p : Process) (k : List Instr) → SoundProcess g may n p → length (ended (body_of g n p k)).code ≡ length k + stmts_length g (process_names g n p) p.body + 1
  body_long may n p k sound =
      let c : Scope = process_scope g n p in
      let grows : Grows ⊥ (stmts_out g c p.body) (stmts_segs g c p.body) (stmts_length g (process_names g n p) p.body) =
      stmts_grows g ⊥ (λ z. absurd z) may p.body c c None (process_names g n p) (alike g c) (sees g c) (λ z. absurd z) sound.0 in
      length-append (body_of g n p k).code (i.End ∷ []) ∙ ap (λ l. l + 1) (grows.longer (opened 0 k))

  handler_begins : (may : Text → Type 0) (n : ℕ) (p : Process) (k : List Instr) → SoundProcess g may n p → length k + process_length g (process_names g n p) p ≤ 65535 → FitsHandlerPart (parts_of g n p k).handler
  handler_begins may n p k sound low = by p.handler (omega (arith, low, process_long g may n p sound k))
    where
      c : Scope
      c = process_scope g n p

      before : Out
      before = ended (body_of g n p k)

      start : length (ended (body_of g n p k)).code ≤ 65535
      start = omega (arith, body_long may n p k sound)

      by : (h : Option Handler) → length (process_out g c h before).code ≤ 65535 → FitsHandlerPart (option_map (λ x. part_of (length (ended (body_of g n p k)).code) (handler_out g (process_scope g n p) x (ended (body_of g n p k))) (ended (handler_out g (process_scope g n p) x (ended (body_of g n p k))))) h)
      by None long = tt
      by (Some h) long = record {
        start = start;
        rows = stmts_fit g h.body c (begun before) refl refl (omega (arith, long, length-append (handler_out g c h before).code (i.End ∷ [])));
      }

  parts_begin : (may : Text → Type 0) (n : ℕ) (p : Process) (k : List Instr) → SoundProcess g may n p → length k + process_length g (process_names g n p) p ≤ 65535 → FitsParts (parts_of g n p k)
  parts_begin may n p k sound low = record {
    body = record {
      start = omega arith;
      rows = stmts_fit g p.body (process_scope g n p) (opened 0 k) refl refl (omega (arith, low, body_long may n p k sound, length-append (body_of g n p k).code (i.End ∷ [])));
    };
    handler = handler_begins may n p k sound low;
  }

  processes_begin : (n : ℕ) (ps : List Process) (k : Code) → ((r : ℕ) (p : Process) → slice_get ps r ≡ Some p → (below : ℕ) × SoundProcess g (λ y. IsBelow g below y) (n + r) p) → length k.instrs + processes_length g n ps ≤ 65535
      → (r : ℕ) (x : ProcessParts) → slice_get (new_processes n ps k) r ≡ Some x → FitsParts x
  processes_begin n [] k sound low r x there = absurd cc
  processes_begin n (p ∷ ps) k sound low r x there =
      let first : n + 0 ≡ n = omega arith in
      let ok : (below : ℕ) × SoundProcess g (λ y. IsBelow g below y) n p = subst (λ j. (below : ℕ) × SoundProcess g (λ y. IsBelow g below y) j p) first (sound 0 p refl) in
      let a : length (next n p k).instrs ≡ length k.instrs + process_length g (process_names g n p) p = process_long g (λ y. IsBelow g ok.0 y) n p ok.1 k.instrs in
      let rest : (q : ℕ) → slice_get (new_processes (suc n) ps (next n p k)) q ≡ Some x → FitsParts x =
      λ q is.
      processes_begin (suc n) ps (next n p k)
      (λ s u here. let e : n + suc s ≡ suc n + s = omega arith in subst (λ j. (below : ℕ) × SoundProcess g (λ y. IsBelow g below y) j u) e (sound (suc s) u here))
      (omega arith) q x is in
      at r there rest ok.0 ok.1
    where
      at : (q : ℕ) → slice_get (parts_of g n p k.instrs ∷ new_processes (suc n) ps (next n p k)) q ≡ Some x
          → ((q : ℕ) → slice_get (new_processes (suc n) ps (next n p k)) q ≡ Some x → FitsParts x) → (below : ℕ) → SoundProcess g (λ y. IsBelow g below y) n p → FitsParts x
      at zero here rest below ok = subst (λ y. FitsParts y) (same (parts_of g n p k.instrs) x here) (parts_begin (λ y. IsBelow g below y) n p k.instrs ok (omega arith))
      at (suc q) later rest below ok = rest q later

  pub routine_parts : IsSound g → code_length g ≤ 65535 → (r : ℕ) (x : Part) → slice_get (program_made g).routines r ≡ Some x → FitsPart x
  routine_parts sound low r x there =
      routines_begin (numbered g) nothing_made (λ q t at. (q, sound.routines q t at)) (omega arith) r x (ap (λ xs. slice_get xs r) (sym all_routines) ∙ there)

  pub process_parts : IsSound g → code_length g ≤ 65535 → (n : ℕ) (x : ProcessParts) → slice_get (program_made g).processes n ≡ Some x → FitsParts x
  process_parts sound low n x there =
      let long : length first_code.instrs ≡ routines_length g (numbered g) = texts_long (numbered g) nothing_made (λ q t at. (q, sound.routines q t at)) ∙ omega arith in
      processes_begin 0 (processes g) first_code
      (λ r p at. let e : r ≡ 0 + r = omega arith in subst (λ j. (below : ℕ) × SoundProcess g (λ y. IsBelow g below y) j p) e (length (numbered g), sound.bodies r p at))
      (omega arith) n x (ap (λ xs. slice_get xs n) (sym all_processes) ∙ there)
