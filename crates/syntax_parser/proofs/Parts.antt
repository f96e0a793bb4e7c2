-- The longer forms by their parts.
use Rattle.std.proofs.Common.{◌≡◌, ℕ, List, Result, Ok, Err, refl}
use Rattle.syntax_tree.specs.Placed as tree
use Rattle.syntax_tree.specs.Placed.{stmts_of}
use Rattle.syntax.specs.Words as w
use Rattle.syntax.specs.Words.{Tok}
use Rattle.syntax_reading.specs.ExprReading.{Fault, Parse, ◌>>=◌, expect, name}
use Rattle.syntax_reading.specs.StmtReading as stmt_reading
use Rattle.syntax_reading.specs.Reading as reading
use Rattle.syntax_parser.specs.Parts as parts

-- one step after others, as one after another
in_turn : {A B C : Type 0} (r : Result A Fault) (f : A → Result B Fault) (g : B → Result C Fault) → (r >>= f) >>= g ≡ (r >>= λ x. f x >>= g)
in_turn (Ok x) f g = refl
in_turn (Err e) f g = refl

pub loop_parts : {P : Type 0} (s : Parse P (tree.Stmt P)) (ts : List (Tok P))
    → stmt_reading.loop_stmt s ts
    ≡ (expect w.FOR ts >>= λ p. name p.1 >>= λ n. parts.loop_bounds n.1 >>= λ b. parts.loop_body s b.1 >>= λ ss.
    Ok (tree.loop p.0 n.0.0 n.0.1 b.0.0 b.0.1 (stmts_of ss.0), ss.1))
unfolding stmt_reading.loop_stmt parts.loop_bounds parts.loop_body
loop_parts s ts = simp in_turn

pub wait_parts : {P : Type 0} (ts : List (Tok P))
    → stmt_reading.wait_stmt ts
    ≡ (expect w.WAIT ts >>= λ p. name p.1 >>= λ n. parts.wait_bounds n.1 >>= λ b. Ok (tree.wait p.0 n.0.0 n.0.1 b.0.0 b.0.1, b.1))
unfolding stmt_reading.wait_stmt parts.wait_bounds
wait_parts ts = simp in_turn

pub routine_parts : {P : Type 0} (depth : ℕ) (ts : List (Tok P))
    → reading.routine_decl depth ts
    ≡ (reading.routine_kind ts >>= λ k. name k.1 >>= λ n. parts.signature k.0 n.1 >>= λ s. parts.routine_end depth k.0 s.1 >>= λ e.
    Ok (
      record {
        kind = k.0;
        name = n.0.0;
        place = n.0.1;
        params = s.0.0;
        result = s.0.1;
        vars = e.0.vars;
        body = stmts_of e.0.body;
        value = e.0.value;
        close = e.0.close;
        close_place = e.0.close_place;
      },
      e.1,
    ))
unfolding reading.routine_decl parts.signature parts.routine_end
routine_parts depth ts = simp in_turn

pub process_parts : {P : Type 0} (depth : ℕ) (ts : List (Tok P))
    → reading.process_decl depth ts
    ≡ (expect w.PROCESS ts >>= λ c. name c.1 >>= λ n. expect w.COLON n.1 >>= λ c. reading.activation c.1 >>= λ a.
    parts.process_rest depth a.1 >>= λ r.
    Ok (
      record {
        name = n.0.0;
        place = n.0.1;
        activation = a.0;
        vars = r.0.0.vars;
        routines = r.0.0.routines;
        body = stmts_of r.0.0.body;
        handler = r.0.1.handler;
        close = r.0.1.close;
        close_place = r.0.1.close_place;
      },
      r.1,
    ))
unfolding reading.process_decl parts.process_rest parts.process_code parts.process_end
process_parts depth ts = simp in_turn
