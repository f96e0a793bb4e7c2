-- The tokens of the load, without places, are those of its tree.
use Rattle.std.proofs.Common.{◌≡◌, ℕ, zero, suc, ◌≤◌, Bool, true, false, List, [], ◌∷◌, codes, Some, map, refl, ap, arith}
use Rattle.syntax_tree.specs.Placed.{Stmts, stmts, no_stmts, get, put, exprs, no_exprs, device, monitor, process}
use Rattle.syntax_tree.specs.Bare.{bare_stmts, bare_decl, bare_process, bare}
use Rattle.syntax.specs.Words as w
use Rattle.syntax.specs.Words.{Word, Tok, words_of}
use Rattle.syntax.specs.StmtGrammar.{IsStmt, AreStmts}
use Rattle.syntax.specs.ExprGrammar.{Each}
use Rattle.syntax.specs.Grammar.{MOST_LEVELS, IsMonitor, IsProcess, IsDecl, IsProg}
use Rattle.syntax_reading.specs.TreeWords.{stmts_words, stmt_words, process_words, decl_words, each_words, optional_words, handler_words, monitor_words, prog_words}
use Rattle.load.specs.declared.program.DrawnProcess.{DrawnProcess}
use Rattle.load.specs.Program.{Nowhere, of_name, to_name, enter, turn, turns_of, drawn, is_even, pause_if, load_handler, load_monitor, process_name, load_process, processes_from, load_program}

-- a word at no place
abbrev bare_tok : Word → Tok Nowhere
bare_tok word = record { word = word; place = tt }

abbrev pub toks : List Word → List (Tok Nowhere)
toks ws = map bare_tok ws

pub words-toks : (ws : List Word) → words_of (toks ws) ≡ ws
words-toks [] = refl
words-toks (word ∷ ws) = ap (λ (v : List Word). word ∷ v) (words-toks ws)

abbrev last : Stmts Nowhere
last = stmts (put tt (codes "dst") tt (of_name (codes "x"))) no_stmts

put_last : (ws : List Word) → AreStmts MOST_LEVELS last (toks (stmts_words last ws)) (toks ws)
put_last ws = (_, (_, refl, (_, refl, refl)), refl)

ending : (even : Bool) (ws : List Word) → AreStmts MOST_LEVELS (pause_if even last) (toks (stmts_words (pause_if even last) ws)) (toks ws)
ending true ws = (_, (_, refl, (_, (tt, refl), (_, refl, (_, (tt, refl), (_, refl, (tt, refl)))))), put_last ws)
ending false ws = put_last ws

one_one : 1 ≤ 1
one_one = omega arith

two_five : 2 ≤ 5
two_five = omega arith

turned : (addend : ℕ) (ws : List Word) → IsStmt 63 (turn addend) (toks (stmt_words (turn addend) ws)) (toks ws)
turned addend ws = (_, refl, (_, (tt, refl), (1, two_five, tt, (_, (0, one_one, tt, (_, refl, (_, (refl, (tt, refl)), (_, refl, refl)))), (_, (refl, (tt, refl)), (_, refl, refl))))))

looped : (d : DrawnProcess) (ws : List Word) → IsStmt MOST_LEVELS (turns_of d) (toks (stmt_words (turns_of d) ws)) (toks ws)
looped d ws = (_, refl, (_, refl, (_, (tt, refl), (_, (refl, refl), (_, (tt, refl), (_, (refl, refl), (_, (tt, refl), (_, (_, turned d.addend (w.END ∷ w.FOR ∷ ws), refl), (_, (tt, refl), (tt, refl))))))))))

of_process : (count number : ℕ) (d : DrawnProcess) (ws : List Word) → IsProcess (load_process count number d) (toks (process_words (load_process count number d) ws)) (toks ws)
of_process count number d ws =
    let behind = optional_words handler_words (Some load_handler) (w.END ∷ w.named (process_name number) ∷ ws) in
    let ends = stmts_words (pause_if (is_even number) last) behind in
    (_, (tt, refl), (_, refl, (_, (tt, refl), (_, (_, (tt, refl), (_, (tt, refl), (_, (refl, refl), (_, refl, refl)))), (_, (_, (_, (tt, refl), (_, refl, (_, (tt, refl), (tt, refl)))), refl), (_, refl, (_, (tt, refl), (_, (_, (_, refl, (_, refl, refl)), (_, looped d (stmt_words (enter (codes "add") (exprs (of_name (codes "x")) no_exprs)) ends), (_, (_, refl, (_, (tt, refl), (_, refl, (_, (tt, refl), (_, (_, refl, refl), (tt, refl)))))), ending (is_even number) behind))), (_, (_, (tt, refl), (_, (tt, refl), (_, (_, (refl, refl), refl), (_, (tt, refl), (_, (_, refl, (_, refl, refl)), refl))))), (_, (tt, refl), refl))))))))))

of_processes : (key count before left : ℕ) (ws : List Word)
    → Each IsDecl (processes_from key count before left) (toks (each_words decl_words (processes_from key count before left) ws)) (toks ws)
of_processes key count before zero ws = refl
of_processes key count before (suc left) ws =
    (_, of_process count (suc before) (drawn key before) (each_words decl_words (processes_from key count (suc before) left) ws), of_processes key count (suc before) left ws)

of_monitor : (ws : List Word) → IsMonitor load_monitor (toks (monitor_words load_monitor ws)) (toks ws)
of_monitor ws =
    (_, (tt, refl), (_, refl, (_, (_, (_, (tt, refl), (_, refl, (_, (tt, refl), (tt, refl)))), (_, (_, (tt, refl), refl), refl)), (_, (_, (_, (tt, refl), (_, (tt, refl), (_, refl, (_, (tt, refl), (_, (_, (_, refl, (_, (tt, refl), (tt, refl))), refl), (_, (tt, refl), (_, refl, (_, refl, (_, (tt, refl), (_, (_, (_, refl, (_, (tt, refl), refl)), (_, (_, refl, refl), refl)), (_, refl, (_, (tt, refl), refl)))))))))))), (_, (_, (tt, refl), (_, (tt, refl), (_, refl, (_, (tt, refl), (_, refl, (_, (tt, refl), (_, refl, (_, refl, (_, (tt, refl), (_, (_, (_, refl, (_, refl, (_, (tt, refl), (_, (refl, refl), (_, (tt, refl), (refl, refl)))))), refl), (_, refl, (_, (tt, refl), refl)))))))))))), refl)), (_, (tt, refl), refl)))))

pub of_program : (key count : ℕ) → IsProg (load_program key count) (toks (prog_words (load_program key count))) []
of_program key count =
    (_, (tt, refl), (_, refl, (_, (_, (_, (tt, refl), (_, refl, (_, (tt, refl), (tt, refl)))), (_, (_, (tt, refl), (_, refl, (_, (tt, refl), (tt, refl)))), (_, of_monitor (each_words decl_words (processes_from key count 0 count) (w.END ∷ w.named (codes "load") ∷ [])), of_processes key count 0 count (w.END ∷ w.named (codes "load") ∷ [])))), (_, (tt, refl), refl))))

-- ---- the tree has no places

bare_last : (even : Bool) → bare_stmts (pause_if even last) ≡ pause_if even last
bare_last true = refl
bare_last false = refl

-- the body with this end
abbrev with_end : DrawnProcess → Stmts Nowhere → Stmts Nowhere
with_end d ss = stmts (get tt (codes "src") tt (to_name (codes "x"))) (stmts (turns_of d) (stmts (enter (codes "add") (exprs (of_name (codes "x")) no_exprs)) ss))

bare-process : (count number : ℕ) (d : DrawnProcess) → bare_process (load_process count number d) ≡ load_process count number d
bare-process count number d = let same = bare_last (is_even number) in λ i. record (load_process count number d) {
  body = with_end d (same i);
}

bare-processes : (key count before left : ℕ) → map bare_decl (processes_from key count before left) ≡ processes_from key count before left
bare-processes key count before zero = refl
bare-processes key count before (suc left) =
    let one = bare-process count (suc before) (drawn key before) in
    let more = bare-processes key count (suc before) left in
    λ i. process (one i) ∷ more i

pub bare-load : (key count : ℕ) → bare (load_program key count) ≡ load_program key count
bare-load key count = let all = bare-processes key count 0 count in λ i. record (load_program key count) {
  decls = device (codes "src") tt false ∷ device (codes "dst") tt true ∷ monitor load_monitor ∷ all i;
}
