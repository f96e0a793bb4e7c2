-- What is made of statements is their code, where it stands.
use Rattle.std.proofs.Common.{◌≡◌, ◌+◌, ◌≤◌, pos, false, List, [], ◌∷◌, ◌++◌, map, length, None, refl, sym, ap, subst, ◌∙◌, append_assoc, arith}
use Rattle.std.proofs.lemmas.List.{length-append}
use Rattle.machine_isa.specs.declared.instr.Instr.{Instr}
use Rattle.code_spec.specs.Emits.{Has, EmitsAll}
use Rattle.codegen_spec.specs.Made.{stmts_out, aimed}
use Rattle.codegen_law.specs.Right.{MadeIsEmitted}
use Rattle.codegen_law.proofs.Lists.{get_at}
use Rattle.codegen_law.proofs.Nested.{stmts_made}

-- what stands behind other code stands there
pub has_there : (pre js behind : List Instr) → Has (pre ++ (js ++ behind)) (length pre) js
has_there pre [] behind = tt
has_there pre (j ∷ js) behind = (
  get_at pre j (js ++ behind),
  subst (λ z. Has z (length pre + 1) js) (append_assoc pre (j ∷ []) (js ++ behind)) (subst (λ k. Has ((pre ++ j ∷ []) ++ (js ++ behind)) k js) (length-append pre (j ∷ [])) (has_there (pre ++ j ∷ []) js behind)),
)

pub made_is_emitted : MadeIsEmitted
made_is_emitted g c ss o behind fits small =
    let m = stmts_made g c ss false (length o.code) o.word fits in
    let code : (stmts_out g c ss o).code ≡ o.code ++ m.code = m.made o refl refl in
    let size : length (stmts_out g c ss o).code ≡ length o.code + length m.code = ap length code ∙ length-append o.code m.code in
    let bound : length o.code + length m.code ≤ 2147483647 = omega arith in
    let there : Has (o.code ++ (m.code ++ behind)) (length o.code) (map (aimed (pos 0)) m.code) = subst (λ js. Has (o.code ++ (m.code ++ behind)) (length o.code) js) (sym (m.still tt (pos 0))) (has_there o.code m.code behind) in
    let all : o.code ++ (m.code ++ behind) ≡ (stmts_out g c ss o).code ++ behind = sym (append_assoc o.code m.code behind) ∙ ap (λ z. z ++ behind) (sym code) in
    subst (λ z. EmitsAll g z (record c { exit = None }) o.word (length o.code) (length (stmts_out g c ss o).code) ss) all
    (subst (λ q. EmitsAll g (o.code ++ (m.code ++ behind)) (record c { exit = None }) o.word (length o.code) q ss) (sym size)
    (m.emits (o.code ++ (m.code ++ behind)) tt bound there))
