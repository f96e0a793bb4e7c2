-- What is made of a program, put into an image, is the code of the program.
use Rattle.std.proofs.Common.{◌≡◌, ◌+◌, ◌≤◌, ℕ, suc, List, [], ◌∷◌, ◌++◌, length, Some, slice_get, refl, sym, ap, subst, ◌∙◌, append_assoc, append-nil, arith}
use Rattle.std.proofs.lemmas.List.{length-append}
use Rattle.syntax_tree.specs.Plain.{Process, Program}
use Rattle.source_semantics.specs.Names.{processes}
use Rattle.machine_isa.specs.declared.instr.Instr.{Instr}
use Rattle.machine_semantics.specs.Image as image
use Rattle.code_spec.specs.Numbering.{Text, numbered, number_of}
use Rattle.code_spec.specs.Emits.{Has}
use Rattle.code_spec.specs.Compiled.{process_scope, EmitsRoutine, EmitsRoutines, EmitsProcess, EmitsProcesses}
use Rattle.code_cost_spec.specs.Lengths.{routine_length, process_length}
use Rattle.code_cost_spec.specs.Levels.{routine_names, process_names, routines_length, processes_length, code_length}
use Rattle.code_measures.specs.Sound.{SoundRoutine, SoundProcess}
use Rattle.code_measures.specs.Declared.{IsBelow, IsSound}
use Rattle.codegen_spec.specs.declared.code.Part.{Part}
use Rattle.codegen_spec.specs.declared.code.ProcessParts.{ProcessParts}
use Rattle.codegen_spec.specs.declared.code.Code.{Code}
use Rattle.codegen_spec.specs.Made.{push}
use Rattle.codegen_spec.specs.Parts.{part_of, return_of, text_made, texts_made, process_made, processes_made, nothing_made, program_made}
use Rattle.codegen_law.proofs.Lists.{has_rest}
use Rattle.codegen_law.proofs.Emitted.{has_there}
use Rattle.codegen_law.specs.MadeWholeFits.{RoutineFits, ProcessFits}
use Rattle.codegen_spec.specs.Held.{HoldsRoutine, HoldRoutines, HoldProcesses}
use Rattle.codegen_law.specs.Whole.{MadeHasItsLength, MadeIsCode}
use Rattle.codegen_law.proofs.Numbers.{few_routines}
use Rattle.codegen_law.proofs.Routines.{whole_out, RoutineCode, routine_code, routine_long, routine_tree}
use Rattle.codegen_law.proofs.Processes.{parts_of, ProcessCode, process_code, process_long}
use Rattle.code_measures.proofs.Lines.{has_first}

-- ---- the length, which does not ask how large anything is

module _ (g : Program) where
  texts_long : (ts : List Text) (k : Code) → ((r : ℕ) (t : Text) → slice_get ts r ≡ Some t → (below : ℕ) × SoundRoutine g (λ y. IsBelow g below y) t) → length (texts_made g ts k).instrs ≡ length k.instrs + routines_length g ts
  texts_long [] k sound = omega arith
  texts_long (t ∷ ts) k sound =
      let ok : (below : ℕ) × SoundRoutine g (λ y. IsBelow g below y) t = sound 0 t refl in
      let a : length (text_made g t k).instrs ≡ length k.instrs + routine_length g (routine_names g t) t = routine_long g (λ y. IsBelow g ok.0 y) t ok.1 k.instrs in
      let b : length (texts_made g ts (text_made g t k)).instrs ≡ length (text_made g t k).instrs + routines_length g ts = texts_long ts (text_made g t k) (λ r u at. sound (suc r) u at) in
      omega arith

  processes_long : (n : ℕ) (ts : List Process) (k : Code) → ((r : ℕ) (t : Process) → slice_get ts r ≡ Some t → (below : ℕ) × SoundProcess g (λ y. IsBelow g below y) (n + r) t)
      → length (processes_made g n ts k).instrs ≡ length k.instrs + processes_length g n ts
  processes_long n [] k sound = omega arith
  processes_long n (t ∷ ts) k sound =
      let first : n + 0 ≡ n = omega arith in
      let ok : (below : ℕ) × SoundProcess g (λ y. IsBelow g below y) n t = subst (λ i. (below : ℕ) × SoundProcess g (λ y. IsBelow g below y) i t) first (sound 0 t refl) in
      let next : Code = process_made g (process_scope g n t) t k in
      let a : length next.instrs ≡ length k.instrs + process_length g (process_names g n t) t = process_long g (λ y. IsBelow g ok.0 y) n t ok.1 k.instrs in
      let b : length (processes_made g (suc n) ts next).instrs ≡ length next.instrs + processes_length g (suc n) ts =
      processes_long (suc n) ts next (λ r u at. let e : n + suc r ≡ suc n + r = omega arith in subst (λ i. (below : ℕ) × SoundProcess g (λ y. IsBelow g below y) i u) e (sound (suc r) u at)) in
      omega arith

  routines_alone : IsSound g → length (texts_made g (numbered g) nothing_made).instrs ≡ routines_length g (numbered g)
  routines_alone sound = texts_long (numbered g) nothing_made (λ r t at. (r, sound.routines r t at)) ∙ omega arith

pub made_has_its_length : MadeHasItsLength
made_has_its_length g sound =
    let k : Code = texts_made g (numbered g) nothing_made in
    let a : length k.instrs ≡ routines_length g (numbered g) = routines_alone g sound in
    let b : length (program_made g).instrs ≡ length k.instrs + processes_length g 0 (processes g) =
    processes_long g 0 (processes g) k (λ r t at. let e : r ≡ 0 + r = omega arith in subst (λ i. (below : ℕ) × SoundProcess g (λ y. IsBelow g below y) i t) e (length (numbered g), sound.bodies r t at)) in
    omega arith

module _ (g : Program) (few : (t : Text) → number_of g t ≤ 65535) where
  -- ---- routines

  record Ready (t : Text) : Type 0 where
    fits : RoutineFits g t
    below : ℕ
    sound : SoundRoutine g (λ y. IsBelow g below y) t

  abbrev new_routines : List Text → Code → List Part
  new_routines [] k = []
  new_routines (t ∷ ts) k = part_of (length k.instrs) (whole_out g t k.instrs) (push (whole_out g t k.instrs) (return_of t.routine.answers)) ∷ new_routines ts (text_made g t k)

  routines_are : (ts : List Text) (k : Code) → (texts_made g ts k).routines ≡ k.routines ++ new_routines ts k
  routines_are [] k = sym (append-nil k.routines)
  routines_are (t ∷ ts) k = routines_are ts (text_made g t k) ∙ append_assoc k.routines (part_of (length k.instrs) (whole_out g t k.instrs) (push (whole_out g t k.instrs) (return_of t.routine.answers)) ∷ []) (new_routines ts (text_made g t k))

  no_processes : (ts : List Text) (k : Code) → (texts_made g ts k).processes ≡ k.processes
  no_processes [] k = refl
  no_processes (t ∷ ts) k = no_processes ts (text_made g t k)

  record TextsCode (ts : List Text) (k : Code) : Type 0 where
    code : List Instr
    made : (texts_made g ts k).instrs ≡ k.instrs ++ code
    emits : (all : List Instr) (rs : List image.Routine) → length k.instrs + length code ≤ 65535 → Has all (length k.instrs) code → HoldRoutines g ts (new_routines ts k) rs
        → EmitsRoutines g all (length k.instrs) (length k.instrs + length code) ts rs

  -- a routine, and those behind it
  one_more : (t : Text) (ts : List Text) (k : Code) (all : List Instr) (rs : List image.Routine) → Ready t → (m : RoutineCode g t (length k.instrs)) (n : TextsCode ts (text_made g t k))
      → length (text_made g t k).instrs ≡ length k.instrs + length m.code → length k.instrs + length (m.code ++ n.code) ≤ 65535 → Has all (length k.instrs) (m.code ++ n.code) → HoldRoutines g (t ∷ ts) (new_routines (t ∷ ts) k) rs
      → EmitsRoutines g all (length k.instrs) (length k.instrs + length (m.code ++ n.code)) (t ∷ ts) rs
  one_more t ts k all [] ok m n long small h holds = absurd holds
  one_more t ts k all (r ∷ rs) ok m n long small h holds =
      let p : ℕ = length k.instrs in
      let l1 : length (m.code ++ n.code) ≡ length m.code + length n.code = length-append m.code n.code in
      let low : p + length m.code ≤ 2147483647 = omega arith in
      let l2 : length (text_made g t k).instrs ≡ length (whole_out g t k.instrs).code + 1 = length-append (whole_out g t k.instrs).code (return_of t.routine.answers ∷ []) in
      let low_tree : length (whole_out g t k.instrs).code ≤ 4294967295 = omega arith in
      let low_rest : length (text_made g t k).instrs + length n.code ≤ 65535 = omega arith in
      let end : length (text_made g t k).instrs + length n.code ≡ p + length (m.code ++ n.code) = omega arith in
      let held : HoldsRoutine g t (part_of p (whole_out g t k.instrs) (push (whole_out g t k.instrs) (return_of t.routine.answers))) r = holds.0 in (
        length (text_made g t k).instrs,
        record {
          kind = held.kind;
          owner = held.owner;
          params = held.params;
          locals = held.locals;
          gives = held.gives;
          tree = held.tree ∙ routine_tree g few (λ y. IsBelow g ok.below y) t ok.fits ok.sound k.instrs low_tree;
        },
        held.start,
        subst (λ q. EmitsRoutine g all t p q) (sym long) (m.emits all low (has_first all p m.code n.code h)),
        subst (λ q. EmitsRoutines g all (length (text_made g t k).instrs) q ts rs) end
            (n.emits all rs low_rest (has_rest all p (length (text_made g t k).instrs) m.code n.code long h) holds.1),
      )

  no_more : (k : Code) (all : List Instr) (rs : List image.Routine) → HoldRoutines g [] [] rs → EmitsRoutines g all (length k.instrs) (length k.instrs + length {A = Instr} []) [] rs
  no_more k all [] holds = omega arith
  no_more k all (r ∷ rs) holds = absurd holds

  texts_code : (ts : List Text) (k : Code) → ((r : ℕ) (t : Text) → slice_get ts r ≡ Some t → Ready t) → TextsCode ts k
  texts_code [] k ready = record { code = []; made = sym (append-nil k.instrs); emits = λ all rs small h holds. no_more k all rs holds }
  texts_code (t ∷ ts) k ready =
      let ok : Ready t = ready 0 t refl in
      let m : RoutineCode g t (length k.instrs) = routine_code g t (length k.instrs) ok.fits in
      let n : TextsCode ts (text_made g t k) = texts_code ts (text_made g t k) (λ r u at. ready (suc r) u at) in
      let here : (text_made g t k).instrs ≡ k.instrs ++ m.code = m.made k.instrs refl in
      let long_here : length (text_made g t k).instrs ≡ length k.instrs + length m.code = ap length here ∙ length-append k.instrs m.code in
      record {
        code = m.code ++ n.code;
        made = n.made ∙ ap (λ z. z ++ n.code) here ∙ append_assoc k.instrs m.code n.code;
        emits = λ all rs small h holds. one_more t ts k all rs ok m n long_here small h holds;
      }

  -- ---- processes

  record ReadyProcess (n : ℕ) (t : Process) : Type 0 where
    fits : ProcessFits g n t
    below : ℕ
    sound : SoundProcess g (λ y. IsBelow g below y) n t

  abbrev after : ℕ → Process → Code → Code
  after n t k = process_made g (process_scope g n t) t k

  abbrev new_processes : ℕ → List Process → Code → List ProcessParts
  new_processes n [] k = []
  new_processes n (t ∷ ts) k = parts_of g n t k.instrs ∷ new_processes (suc n) ts (after n t k)

  processes_are : (n : ℕ) (ts : List Process) (k : Code) → (processes_made g n ts k).processes ≡ k.processes ++ new_processes n ts k
  processes_are n [] k = sym (append-nil k.processes)
  processes_are n (t ∷ ts) k = processes_are (suc n) ts (after n t k) ∙ append_assoc k.processes (parts_of g n t k.instrs ∷ []) (new_processes (suc n) ts (after n t k))

  same_routines : (n : ℕ) (ts : List Process) (k : Code) → (processes_made g n ts k).routines ≡ k.routines
  same_routines n [] k = refl
  same_routines n (t ∷ ts) k = same_routines (suc n) ts (after n t k)

  record ProcessesCode (n : ℕ) (ts : List Process) (k : Code) : Type 0 where
    code : List Instr
    made : (processes_made g n ts k).instrs ≡ k.instrs ++ code
    emits : (all : List Instr) (ips : List image.Process) → length k.instrs + length code ≤ 65535 → Has all (length k.instrs) code → HoldProcesses g ts (new_processes n ts k) ips
        → EmitsProcesses g all n (length k.instrs) (length k.instrs + length code) ts ips

  -- a process, and those behind it
  next_more : (n : ℕ) (t : Process) (ts : List Process) (k : Code) (all : List Instr) (ips : List image.Process) (may : Text → Type 0) (m : ProcessCode g few may n t (length k.instrs)) (j : ProcessesCode (suc n) ts (after n t k))
      → length (after n t k).instrs ≡ length k.instrs + length m.code → length k.instrs + length (m.code ++ j.code) ≤ 65535 → Has all (length k.instrs) (m.code ++ j.code) → HoldProcesses g (t ∷ ts) (new_processes n (t ∷ ts) k) ips
      → EmitsProcesses g all n (length k.instrs) (length k.instrs + length (m.code ++ j.code)) (t ∷ ts) ips
  next_more n t ts k all [] may m j long small h holds = absurd holds
  next_more n t ts k all (x ∷ xs) may m j long small h holds =
      let p : ℕ = length k.instrs in
      let l1 : length (m.code ++ j.code) ≡ length m.code + length j.code = length-append m.code j.code in
      let low : p + length m.code ≤ 65535 = omega arith in
      let low_rest : length (after n t k).instrs + length j.code ≤ 65535 = omega arith in
      let end : length (after n t k).instrs + length j.code ≡ p + length (m.code ++ j.code) = omega arith in (
        length (after n t k).instrs,
        subst (λ q. EmitsProcess g all n t p q x) (sym long) (m.emits all k.instrs x refl low (has_first all p m.code j.code h) holds.0),
        subst (λ q. EmitsProcesses g all (suc n) (length (after n t k).instrs) q ts xs) end (j.emits all xs low_rest (has_rest all p (length (after n t k).instrs) m.code j.code long h) holds.1),
      )

  no_next : (n : ℕ) (k : Code) (all : List Instr) (ips : List image.Process) → HoldProcesses g [] [] ips → EmitsProcesses g all n (length k.instrs) (length k.instrs + length {A = Instr} []) [] ips
  no_next n k all [] holds = omega arith
  no_next n k all (x ∷ xs) holds = absurd holds

  processes_code : (n : ℕ) (ts : List Process) (k : Code) → ((r : ℕ) (t : Process) → slice_get ts r ≡ Some t → ReadyProcess (n + r) t) → ProcessesCode n ts k
  processes_code n [] k ready = record { code = []; made = sym (append-nil k.instrs); emits = λ all ips small h holds. no_next n k all ips holds }
  processes_code n (t ∷ ts) k ready =
      let first : n + 0 ≡ n = omega arith in
      let ok : ReadyProcess n t = subst (λ i. ReadyProcess i t) first (ready 0 t refl) in
      let may : Text → Type 0 = λ y. IsBelow g ok.below y in
      let m : ProcessCode g few may n t (length k.instrs) = process_code g few may n t (length k.instrs) ok.fits ok.sound in
      let j : ProcessesCode (suc n) ts (after n t k) = processes_code (suc n) ts (after n t k) (λ r u at. let e : n + suc r ≡ suc n + r = omega arith in subst (λ i. ReadyProcess i u) e (ready (suc r) u at)) in
      let here : (after n t k).instrs ≡ k.instrs ++ m.code = m.made k.instrs refl in
      let long_here : length (after n t k).instrs ≡ length k.instrs + length m.code = ap length here ∙ length-append k.instrs m.code in
      record {
        code = m.code ++ j.code;
        made = j.made ∙ ap (λ z. z ++ j.code) here ∙ append_assoc k.instrs m.code j.code;
        emits = λ all ips small h holds. next_more n t ts k all ips may m j long_here small h holds;
      }

-- ---- the whole

pub made_is_code : MadeIsCode
made_is_code g m sound fits holds =
    let few : (t : Text) → number_of g t ≤ 65535 = few_routines g fits.code in
    let a : TextsCode g few (numbered g) nothing_made = texts_code g few (numbered g) nothing_made (λ r t at. record { fits = fits.routines r t at; below = r; sound = sound.routines r t at }) in
    let k : Code = texts_made g (numbered g) nothing_made in
    let b : ProcessesCode g few 0 (processes g) k =
    processes_code g few 0 (processes g) k (λ r t at. let e : r ≡ 0 + r = omega arith in subst (λ i. ReadyProcess g few i t) e (record { fits = fits.bodies r t at; below = length (numbered g); sound = sound.bodies r t at })) in
    let all : m.code ≡ a.code ++ b.code = holds.code ∙ b.made ∙ ap (λ z. z ++ b.code) a.made in
    let long_k : length k.instrs ≡ length a.code = ap length a.made in
    let long_all : length m.code ≡ length a.code + length b.code = ap length all ∙ length-append a.code b.code in
    let whole : length (program_made g).instrs ≡ code_length g = made_has_its_length g sound in
    let held : length m.code ≡ length (program_made g).instrs = ap length holds.code in
    let short : code_length g ≤ 65535 = fits.code in
    let low_a : 0 + length a.code ≤ 65535 = omega arith in
    let low_b : length k.instrs + length b.code ≤ 65535 = omega arith in
    let start : 0 + length a.code ≡ length k.instrs = omega arith in
    let end : length k.instrs + length b.code ≡ length m.code = omega arith in
    let there_a : Has m.code 0 a.code = subst (λ z. Has z 0 a.code) (sym all) (has_there [] a.code b.code) in
    let there_b : Has m.code (length k.instrs) b.code =
    subst (λ q. Has m.code q b.code) (sym long_k) (subst (λ z. Has z (length a.code) b.code) (ap (λ z. a.code ++ z) (append-nil b.code) ∙ sym all) (has_there a.code b.code [])) in
    let parts : HoldRoutines g (numbered g) (new_routines g few (numbered g) nothing_made) m.routines =
    subst (λ z. HoldRoutines g (numbered g) z m.routines) (same_routines g few 0 (processes g) k ∙ routines_are g few (numbered g) nothing_made) holds.routines in
    let bodies : HoldProcesses g (processes g) (new_processes g few 0 (processes g) k) m.processes =
    subst (λ z. HoldProcesses g (processes g) z m.processes) (processes_are g few 0 (processes g) k ∙ ap (λ z. z ++ new_processes g few 0 (processes g) k) (no_processes g few (numbered g) nothing_made)) holds.bodies in
    record {
      between = length k.instrs;
      routine_code = subst (λ q. EmitsRoutines g m.code 0 q (numbered g) m.routines) start (a.emits m.code m.routines low_a there_a parts);
      process_code = subst (λ q. EmitsProcesses g m.code 0 (length k.instrs) q (processes g) m.processes) end (b.emits m.code m.processes low_b there_b bodies);
      monitor_words = holds.monitor_words;
      condition_table = holds.condition_table;
      device_table = holds.device_table;
    }
