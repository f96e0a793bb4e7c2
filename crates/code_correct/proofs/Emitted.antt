-- The image that is the code of a program has the code of each process.
use Rattle.std.specs.Prelude.{◌≡◌, ◌+◌, ℕ}
use Rattle.std.proofs.Common.{subst, arith}
use Rattle.code_spec.specs.Compiled.{EmitsProcess}
use Rattle.code_correct.specs.Process.{setting_of}
use Rattle.code_correct.specs.Kept.{CodeIsEmitted}
use Rattle.code_correct.proofs.Rows.{there_is}
use Rattle.codegen_law.proofs.Rows.{process_of, routine_is_text, entry_is_text}

pub code_is_emitted : CodeIsEmitted
code_is_emitted c order code differ at ip rules =
    let p : (start : ℕ) × (next : ℕ) × EmitsProcess c.program c.image.code (0 + c.number) c.text start next c.process = process_of c.program c.image.code 0 code.between _ _ c.image.processes c.number c.text c.process code.process_code at ip in
    record {
      text_is = at;
      start = p.0;
      next = p.1;
      emits = subst (λ n. EmitsProcess c.program c.image.code n c.text p.0 p.1 c.process) (none c.number) p.2;
      body = rules.body;
      handler = rules.handler;
      code = record {
        routines = λ f t is mine. there_is (setting_of c order) t code differ (routine_is_text (setting_of c order) f t differ at is mine).0 (routine_is_text (setting_of c order) f t differ at is mine).1;
        proper = rules.routines;
        few = rules.few;
        entries = λ mon entry t is. there_is (setting_of c order) t code differ (entry_is_text (setting_of c order) mon entry t differ is).0 (entry_is_text (setting_of c order) mon entry t differ is).1;
        proper_entries = rules.entries;
      };
    }
  where
    none : (n : ℕ) → 0 + n ≡ n
    none n = omega arith
