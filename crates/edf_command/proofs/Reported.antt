-- The lines of the processes, one at a time.
use Rattle.std.proofs.Common.{◌≡◌, ◌+◌, ◌++◌, ◌∙◌, ℕ, zero, suc, List, [], ◌∷◌, Some, sym, ap, drop, append_assoc, arith}
use Rattle.std.specs.Prelude.{slice_get}
use Rattle.machine_semantics.specs.Image.{Process}
use Rattle.command_due.specs.Report.{process_line, processes_lines}

-- the line of process k comes next
next_line : (k : ℕ) (names : List (List ℕ)) (ps : List Process) (name : List ℕ) (p : Process) → slice_get names k ≡ Some name → slice_get ps k ≡ Some p
    → processes_lines (drop k names) (drop k ps) ≡ process_line name p ++ processes_lines (drop (suc k) names) (drop (suc k) ps)
next_line k [] ps name p named at = absurd cc
next_line k (n ∷ ns) [] name p named at = absurd cc
next_line zero (n ∷ ns) (q ∷ ps) name p named at =
    let one : n ≡ name = cc in
    let other : q ≡ p = cc in
    ap (λ (x : List ℕ). process_line x q ++ processes_lines ns ps) one ∙ ap (λ (x : Process). process_line name x ++ processes_lines ns ps) other
next_line (suc k) (n ∷ ns) (q ∷ ps) name p named at = next_line k ns ps name p named at

pub one_more_line : (k : ℕ) (names : List (List ℕ)) (ps : List Process) (name : List ℕ) (p : Process) (before now all : List ℕ) → slice_get names k ≡ Some name → slice_get ps k ≡ Some p
    → now ≡ before ++ process_line name p → before ++ processes_lines (drop k names) (drop k ps) ≡ all → now ++ processes_lines (drop (k + 1) names) (drop (k + 1) ps) ≡ all
one_more_line k names ps name p before now all named at grown held =
    let up : suc k ≡ k + 1 = omega arith in
    let rest : List ℕ = processes_lines (drop (k + 1) names) (drop (k + 1) ps) in
    let next : process_line name p ++ rest ≡ processes_lines (drop k names) (drop k ps)
    = ap (λ (n : ℕ). process_line name p ++ processes_lines (drop n names) (drop n ps)) (sym up) ∙ sym (next_line k names ps name p named at) in
    ap (λ (x : List ℕ). x ++ rest) grown ∙ (append_assoc before (process_line name p) rest ∙ (ap (λ (x : List ℕ). before ++ x) next ∙ held))
