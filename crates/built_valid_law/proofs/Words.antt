-- The words of an image are those of its text.
use Rattle.std.specs.Prelude.{sum_by}
use Rattle.std.proofs.Common.{◌≡◌, ◌+◌, ◌≤◌, ℕ, suc, List, [], ◌∷◌, length, filter_map, refl, arith}
use Rattle.std.proofs.lemmas.List.Sums.{sum_by-cons}
use Rattle.machine_isa.specs.declared.instr.Instr.{Instr}
use Rattle.syntax_tree.specs.Plain.{Monitor, Process, Program}
use Rattle.source_semantics.specs.Names.{monitors, processes, variable_in}
use Rattle.machine_semantics.specs.Image as image
use Rattle.valid_image.specs.Sizes.{words_over_all}
use Rattle.code_spec.specs.Layout.{monitor_vars, words_of}
use Rattle.code_spec.specs.Compiled.{AreMonitors, EmitsProcesses}
use Rattle.static_semantics.specs.WellFormed.{vars_words, words}
use Rattle.codegen_law.proofs.Counts.{words_same}
use Rattle.built_valid_law.specs.Made.{WordsAreFew}

monitor_words : (g : Program) (base : ℕ) (ms : List Monitor) (ks : List image.Monitor) → AreMonitors g base ms ks
    → sum_by (λ k. k.words) ks ≡ sum_by (λ m. vars_words g (filter_map variable_in m.members)) ms
monitor_words g base [] [] h = refl
monitor_words g base [] (k ∷ ks) h = absurd h
monitor_words g base (m ∷ ms) [] h = absurd h
monitor_words g base (m ∷ ms) (k ∷ ks) h =
    let left : sum_by (λ x. x.words) (k ∷ ks) ≡ k.words + sum_by (λ x. x.words) ks = sum_by-cons (λ x. x.words) k ks in
    let right : sum_by (λ y. vars_words g (filter_map variable_in y.members)) (m ∷ ms)
    ≡ vars_words g (filter_map variable_in m.members) + sum_by (λ y. vars_words g (filter_map variable_in y.members)) ms
    = sum_by-cons (λ y. vars_words g (filter_map variable_in y.members)) m ms in
    let one : words_of g (monitor_vars m) ≡ vars_words g (filter_map variable_in m.members) = words_same g (monitor_vars m) in
    let rest : sum_by (λ x. x.words) ks ≡ sum_by (λ y. vars_words g (filter_map variable_in y.members)) ms
    = monitor_words g (base + words_of g (monitor_vars m)) ms ks h.2 in
    omega (arith, left, right, one, rest, h.1)

process_words : (g : Program) (code : List Instr) (k p q : ℕ) (ts : List Process) (ips : List image.Process) → EmitsProcesses g code k p q ts ips
    → sum_by (λ x. x.words) ips ≡ sum_by (λ t. vars_words g t.vars) ts
process_words g code k p q [] [] h = refl
process_words g code k p q [] (x ∷ xs) h = absurd h
process_words g code k p q (t ∷ ts) [] h = absurd h
process_words g code k p q (t ∷ ts) (x ∷ xs) h =
    let left : sum_by (λ y. y.words) (x ∷ xs) ≡ x.words + sum_by (λ y. y.words) xs = sum_by-cons (λ y. y.words) x xs in
    let right : sum_by (λ y. vars_words g y.vars) (t ∷ ts) ≡ vars_words g t.vars + sum_by (λ y. vars_words g y.vars) ts
    = sum_by-cons (λ y. vars_words g y.vars) t ts in
    let one : words_of g t.vars ≡ vars_words g t.vars = words_same g t.vars in
    let rest : sum_by (λ y. y.words) xs ≡ sum_by (λ y. vars_words g y.vars) ts = process_words g code (suc k) h.0 q ts xs h.2 in
    omega (arith, left, right, one, rest, h.1.words)

pub words_are_few : WordsAreFew
words_are_few g m formed code =
    let first : sum_by (λ x. x.words) m.monitors ≡ sum_by (λ y. vars_words g (filter_map variable_in y.members)) (monitors g)
    = monitor_words g 0 (monitors g) m.monitors code.monitor_words in
    let second : sum_by (λ x. x.words) m.processes ≡ sum_by (λ t. vars_words g t.vars) (processes g)
    = process_words g m.code 0 code.between (length m.code) (processes g) m.processes code.process_code in
    omega (arith, first, second, formed.counts_fit.few_words)
