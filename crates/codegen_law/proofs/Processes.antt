-- What is made of a process is its code, with its trees.
use Rattle.std.proofs.Common.{◌≡◌, ◌+◌, ◌≤◌, ℕ, suc, false, List, [], ◌∷◌, ◌++◌, length, Option, Some, None, option_map, pos, refl, sym, ap, subst, ◌∙◌, append_assoc, append-nil, arith}
use Rattle.std.proofs.lemmas.List.{length-append}
use Rattle.syntax_tree.specs.Plain.{Stmts, Handler, Process, Program}
use Rattle.machine_isa.specs.declared.instr.Instr.{Instr}
use Rattle.machine_isa.specs.declared.instr.Instr.TheVariants as i
use Rattle.machine_semantics.specs.Image as image
use Rattle.code_spec.specs.Layout.{Scope, loops}
use Rattle.code_spec.specs.Numbering.{Text, number_of}
use Rattle.code_spec.specs.Emits.{Has}
use Rattle.code_spec.specs.Segments.{stmts_segs}
use Rattle.code_spec.specs.Compiled.{process_scope, EmitsHandler, EmitsProcess}
use Rattle.code_cost_spec.specs.Lengths.{stmts_length, handler_length, process_length}
use Rattle.code_cost_spec.specs.Levels.{process_names}
use Rattle.code_measures.specs.Sound.{SoundAll, SoundHandler, SoundProcess}
use Rattle.code_measures.proofs.Sizes.{alike}
use Rattle.code_measures.proofs.Seen.{sees}
use Rattle.codegen_spec.specs.declared.code.ProcessParts.{ProcessParts}
use Rattle.codegen_spec.specs.Made.{Out, begun, stmts_out}
use Rattle.codegen_spec.specs.Parts.{opened, part_of, body_out, ended, process_out, handler_part}
use Rattle.codegen_law.proofs.Lists.{has_rest}
use Rattle.codegen_law.proofs.Statements.{StmtsMade}
use Rattle.codegen_law.proofs.Nested.{stmts_made}
use Rattle.codegen_law.proofs.Bounds.{all_bounds_fit}
use Rattle.codegen_law.proofs.Growth.{Grows, part_tree}
use Rattle.codegen_law.proofs.Segments.{stmts_grows}
use Rattle.codegen_law.specs.MadeWholeFits.{HandlerFits, ProcessFits}
use Rattle.codegen_spec.specs.Held.{HoldsHandler, HoldsProcess}
use Rattle.code_measures.proofs.Lines.{has_first}

-- what is made of a process behind so much code, and its parts
abbrev pub body_of : Program → ℕ → Process → List Instr → Out
body_of g n t k = body_out g (process_scope g n t) t k

abbrev pub whole_of : Program → ℕ → Process → List Instr → Out
whole_of g n t k = process_out g (process_scope g n t) t.handler (ended (body_of g n t k))

abbrev pub parts_of : Program → ℕ → Process → List Instr → ProcessParts
parts_of g n t k = record {
  body = part_of (length k) (body_of g n t k) (ended (body_of g n t k));
  handler = option_map (λ x. handler_part g (process_scope g n t) (ended (body_of g n t k)) x) t.handler;
}

-- ---- the length, which does not ask how large anything is

module _ (g : Program) (may : Text → Type 0) (n : ℕ) (t : Process) where
  text_long : (ss : Stmts) → SoundAll g may (process_scope g n t) ss → (o : Out) → length (stmts_out g (process_scope g n t) ss o).code ≡ length o.code + stmts_length g (process_names g n t) ss
  text_long ss sound o =
      let grows : Grows ⊥ (stmts_out g (process_scope g n t) ss) (stmts_segs g (process_scope g n t) ss) (stmts_length g (process_names g n t) ss) =
      stmts_grows g ⊥ (λ z. absurd z) may ss (process_scope g n t) (process_scope g n t) None (process_names g n t) (alike g (process_scope g n t)) (sees g (process_scope g n t)) (λ z. absurd z) sound in
      grows.longer o

  handler_long : (h : Option Handler) (o : Out) → SoundHandler g may (process_scope g n t) h → length (process_out g (process_scope g n t) h o).code ≡ length o.code + handler_length g (process_names g n t) h
  handler_long None o sound = omega arith
  handler_long (Some h) o sound =
      let e : length (stmts_out g (process_scope g n t) h.body (begun o)).code ≡ length o.code + stmts_length g (process_names g n t) h.body = text_long h.body sound (begun o) in
      length-append (stmts_out g (process_scope g n t) h.body (begun o)).code (i.End ∷ []) ∙ omega arith

  pub process_long : SoundProcess g may n t → (k : List Instr) → length (whole_of g n t k).code ≡ length k + process_length g (process_names g n t) t
  process_long sound k =
      let b : length (body_of g n t k).code ≡ length k + stmts_length g (process_names g n t) t.body = text_long t.body sound.0 (opened 0 k) in
      let e : length ((body_of g n t k).code ++ i.End ∷ []) ≡ length (body_of g n t k).code + 1 = length-append (body_of g n t k).code (i.End ∷ []) in
      handler_long t.handler (ended (body_of g n t k)) sound.1 ∙ omega arith

module _ (g : Program) (few : (t : Text) → number_of g t ≤ 65535) (may : Text → Type 0) (n : ℕ) (t : Process) where
  -- ---- the handler

  -- what is made of the handler at p, behind the END of the body
  record HandlerCode (h : Option Handler) (p : ℕ) : Type 0 where
    code : List Instr
    made : (o : Out) → length o.code ≡ p → o.word ≡ loops t.body → (process_out g (process_scope g n t) h o).code ≡ o.code ++ code
    emits : (all : List Instr) (o : Out) (ip : image.Process) → length o.code ≡ p → p + length code ≤ 65535 → length (process_out g (process_scope g n t) h o).code ≤ 65535 → Has all p code
        → HoldsHandler g h (option_map (λ x. handler_part g (process_scope g n t) o x) h) ip → EmitsHandler g all n t h p (p + length code) ip

  handler_grows : (h : Handler) → HandlerFits g (process_scope g n t) (loops t.body) (Some h) → SoundHandler g may (process_scope g n t) (Some h)
      → Grows (Unit {0}) (stmts_out g (process_scope g n t) h.body) (stmts_segs g (process_scope g n t) h.body) (stmts_length g (process_names g n t) h.body)
  handler_grows h fits sound =
      stmts_grows g (Unit {0}) (λ z. few) may h.body (process_scope g n t) (process_scope g n t) None (process_names g n t) (alike g (process_scope g n t)) (sees g (process_scope g n t))
      (λ z. all_bounds_fit g (process_scope g n t) false (loops t.body) h.body fits) sound

  handler_code : (h : Option Handler) (p : ℕ) → HandlerFits g (process_scope g n t) (loops t.body) h → SoundHandler g may (process_scope g n t) h → HandlerCode h p
  handler_code None p fits sound = record {
    code = [];
    made = λ o long at. sym (append-nil o.code);
    emits = λ all o ip long small less h holds. let end : p + length {A = Instr} [] ≡ p = omega arith in (end, holds.0, holds.1, holds.2);
  }
  handler_code (Some h) p fits sound =
      let c : Scope = process_scope g n t in
      let m : StmtsMade g c h.body false p (loops t.body) = stmts_made g c h.body false p (loops t.body) fits in
      record {
        code = m.code ++ i.End ∷ [];
        made = λ o long at. ap (λ z. z ++ i.End ∷ []) (m.made (begun o) long at) ∙ append_assoc o.code m.code (i.End ∷ []);
        emits = λ all o ip long small less h1 holds.
            let l1 : length (m.code ++ i.End ∷ []) ≡ length m.code + 1 = length-append m.code (i.End ∷ []) in
            let l2 : length ((stmts_out g c h.body (begun o)).code ++ i.End ∷ []) ≡ length (stmts_out g c h.body (begun o)).code + 1 = length-append (stmts_out g c h.body (begun o)).code (i.End ∷ []) in
            let low : p + length m.code ≤ 2147483647 = omega arith in
            let low2 : length (stmts_out g c h.body (begun o)).code ≤ 4294967295 = omega arith in
            let end : p + length (m.code ++ i.End ∷ []) ≡ p + length m.code + 1 = omega arith in (
              p + length m.code,
              m.emits all tt low (subst (λ js. Has all p js) (sym (m.still tt (pos 0))) (has_first all p m.code (i.End ∷ []) h1)),
              record { has = has_rest all p (p + length m.code) m.code (i.End ∷ []) refl h1; end = end },
              holds.0 ∙ long,
              holds.1,
              holds.2 ∙ ap (λ z. Some z) (part_tree (stmts_out g c h.body) (stmts_segs g c h.body) (stmts_length g (process_names g n t) h.body) (handler_grows h fits sound) tt (begun o) refl refl low2),
            );
      }

  -- ---- the process

  body_grows : ProcessFits g n t → SoundProcess g may n t → Grows (Unit {0}) (stmts_out g (process_scope g n t) t.body) (stmts_segs g (process_scope g n t) t.body) (stmts_length g (process_names g n t) t.body)
  body_grows fits sound =
      stmts_grows g (Unit {0}) (λ z. few) may t.body (process_scope g n t) (process_scope g n t) None (process_names g n t) (alike g (process_scope g n t)) (sees g (process_scope g n t))
      (λ z. all_bounds_fit g (process_scope g n t) false 0 t.body fits.body) sound.0

  -- what is made of a process at p
  pub record ProcessCode (p : ℕ) : Type 0 where
    pub code : List Instr
    pub made : (k : List Instr) → length k ≡ p → (whole_of g n t k).code ≡ k ++ code
    pub emits : (all k : List Instr) (ip : image.Process) → length k ≡ p → p + length code ≤ 65535 → Has all p code → HoldsProcess g t (parts_of g n t k) ip → EmitsProcess g all n t p (p + length code) ip

  pub process_code : (p : ℕ) → ProcessFits g n t → SoundProcess g may n t → ProcessCode p
  process_code p fits sound =
      let c : Scope = process_scope g n t in
      let m : StmtsMade g c t.body false p 0 = stmts_made g c t.body false p 0 fits.body in
      let behind : ℕ = p + length m.code in
      let h : HandlerCode t.handler (behind + 1) = handler_code t.handler (behind + 1) fits.handler sound.1 in
      let made_end : (k : List Instr) → length k ≡ p → (ended (body_of g n t k)).code ≡ (k ++ m.code) ++ i.End ∷ [] = λ k long. ap (λ z. z ++ i.End ∷ []) (m.made (opened 0 k) long refl) in
      let long_end : (k : List Instr) → length k ≡ p → length (ended (body_of g n t k)).code ≡ behind + 1 = λ k long.
      ap length (made_end k long) ∙ length-append (k ++ m.code) (i.End ∷ []) ∙ ap (λ z. z + 1) (length-append k m.code) ∙ ap (λ z. z + length m.code + 1) long in
      let at_end : (k : List Instr) → length k ≡ p → (ended (body_of g n t k)).word ≡ loops t.body = λ k long. m.word (opened 0 k) refl ∙ omega arith in
      let made : (k : List Instr) → length k ≡ p → (whole_of g n t k).code ≡ k ++ (m.code ++ i.End ∷ h.code) = λ k long.
      h.made (ended (body_of g n t k)) (long_end k long) (at_end k long) ∙ ap (λ z. z ++ h.code) (made_end k long) ∙ append_assoc (k ++ m.code) (i.End ∷ []) h.code ∙ append_assoc k m.code (i.End ∷ h.code) in
      record {
        code = m.code ++ i.End ∷ h.code;
        made = made;
        emits = λ all k ip long small has holds.
            let o : Out = ended (body_of g n t k) in
            let l1 : length (m.code ++ i.End ∷ h.code) ≡ length m.code + suc (length h.code) = length-append m.code (i.End ∷ h.code) in
            let low : behind ≤ 2147483647 = omega arith in
            let low_h : behind + 1 + length h.code ≤ 65535 = omega arith in
            let full : length (whole_of g n t k).code ≡ p + length (m.code ++ i.End ∷ h.code) = ap length (made k long) ∙ length-append k (m.code ++ i.End ∷ h.code) ∙ ap (λ z. z + length (m.code ++ i.End ∷ h.code)) long in
            let less : length (whole_of g n t k).code ≤ 65535 = omega arith in
            let l2 : length o.code ≡ length (body_of g n t k).code + 1 = length-append (body_of g n t k).code (i.End ∷ []) in
            let l3 : length o.code ≡ behind + 1 = long_end k long in
            let low_b : length (body_of g n t k).code ≤ 4294967295 = omega arith in
            let rest : Has all behind (i.End ∷ h.code) = has_rest all p behind m.code (i.End ∷ h.code) refl has in
            let end : behind + 1 + length h.code ≡ p + length (m.code ++ i.End ∷ h.code) = omega arith in
            record {
              behind = behind;
              body = m.emits all tt low (subst (λ js. Has all p js) (sym (m.still tt (pos 0))) (has_first all p m.code (i.End ∷ h.code) has));
              end = rest.0;
              handler = subst (λ q. EmitsHandler g all n t t.handler (behind + 1) q ip) end (h.emits all o ip l3 low_h less rest.1 holds.handler);
              start = holds.start ∙ long;
              locals = holds.locals;
              words = holds.words;
              tree = holds.tree ∙ part_tree (stmts_out g c t.body) (stmts_segs g c t.body) (stmts_length g (process_names g n t) t.body) (body_grows fits sound) tt (opened 0 k) refl refl low_b;
              frame = holds.frame;
              deadline = holds.deadline;
              released = holds.released;
            };
      }
