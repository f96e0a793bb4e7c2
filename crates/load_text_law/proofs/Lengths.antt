-- The lengths of the texts of the load.
use Rattle.std.proofs.Common.{◌≡◌, ◌<◌, ◌≤◌, ◌+◌, ◌*◌, ◌/◌, ◌%◌, ◌==◌, ℕ, zero, suc, Bool, true, false, ◌⊎◌, inl, inr, [], ◌∷◌, Option, Some, codes, refl, ap, sym, ◌∙◌, eq-eqb, arith}
use Rattle.std.specs.Prelude.{option_map}
use Rattle.std.proofs.lemmas.Bool.{cases_eq, ne_eqb}
use Rattle.syntax_tree.specs.Plain as plain_of
use Rattle.syntax_tree.specs.Plain.{Name}
use Rattle.syntax_tree.specs.Placed.{Stmts, stmts, no_stmts, get, put, exprs, no_exprs, plain_process, plain_stmts}
use Rattle.source_semantics.specs.Run.{or_else}
use Rattle.code_spec.specs.Layout.{by_process, in_frame, in_process, in_area, place_named, places_from, vars_of_process}
use Rattle.code_cost_spec.specs.Names.{Names, view_of}
use Rattle.code_cost_spec.specs.Lengths.{process_length}
use Rattle.code_cost_spec.specs.Levels.{process_names, routines_length, processes_length, code_length}
use Rattle.load.specs.declared.program.DrawnProcess.{DrawnProcess}
use Rattle.load.specs.Program.{Nowhere, of_name, to_name, enter, turns_of, pause_if, is_even, drawn, load_process}
use Rattle.load_text_law.proofs.Lists.{load, process_of, list_from, all_processes, there, add_text, pause_text, all_routines}

routines_are : (key count : ℕ) → routines_length (load key count) (add_text ∷ pause_text ∷ []) ≡ 11
routines_are key count = refl

bit : Bool → ℕ
bit true = 1
bit false = 0

-- the names that a process sees, where its number tells this process
abbrev pub names_seen : plain_of.Program → ℕ → Option plain_of.Process → Names
names_seen g k p = record {
  owner = by_process k;
  view = λ x. option_map view_of (or_else (in_area in_frame (place_named x [])) (in_area in_process (place_named x (places_from g 0 (vars_of_process p)))));
}

abbrev pub body_with : Bool → DrawnProcess → Stmts Nowhere
body_with even d =
    stmts (get tt (codes "src") tt (to_name (codes "x"))) (stmts (turns_of d) (stmts (enter (codes "add") (exprs (of_name (codes "x")) no_exprs))
    (pause_if even (stmts (put tt (codes "dst") tt (of_name (codes "x"))) no_stmts))))

-- a process with a pause or without
abbrev pub with_pause : Bool → (count number : ℕ) → DrawnProcess → plain_of.Process
with_pause even count number d = record (plain_process (load_process count number d)) { body = plain_stmts (body_with even d) }

with_is : (even : Bool) (key count k number : ℕ) (d : DrawnProcess) → process_length (load key count) (names_seen (load key count) k (Some (with_pause even count number d))) (with_pause even count number d) ≡ 24 + bit even
unfolding bit
with_is true key count k number d = refl
with_is false key count k number d = refl

process_is : (key count at : ℕ) → at < count → process_length (load key count) (process_names (load key count) at (process_of key count at)) (process_of key count at) ≡ 24 + bit (is_even (suc at))
process_is key count at below =
    ap (λ p. process_length (load key count) (names_seen (load key count) at p) (process_of key count at)) (there key count at below)
    ∙ with_is (is_even (suc at)) key count at (suc at) (drawn key at)

half : (n : ℕ) → suc n / 2 ≡ n / 2 + bit (is_even (suc n))
unfolding bit
half n = by (cases_eq (suc n % 2) 0)
  where
    by : (suc n % 2 ≡ 0) ⊎ (suc n % 2 ≡ 0 → ⊥) → suc n / 2 ≡ n / 2 + bit (suc n % 2 == 0)
    by (inl even) = (let e : suc n / 2 ≡ n / 2 + 1 = omega (arith, even) in e ∙ ap (λ b. n / 2 + bit b) (sym (eq-eqb (suc n % 2) 0 even)))
    by (inr odd) = (let e : suc n / 2 ≡ n / 2 + 0 = omega (arith, odd) in e ∙ ap (λ b. n / 2 + bit b) (sym (ne_eqb (suc n % 2) 0 odd)))

processes_are : (key count before left : ℕ) → before + left ≤ count → processes_length (load key count) before (list_from key count before left) + before / 2 ≡ 24 * left + (before + left) / 2
processes_are key count before zero within = (let e : before ≡ before + 0 = omega arith in omega (arith, ap (λ n. n / 2) e))
processes_are key count before (suc left) within =
    let same : suc before + left ≡ before + suc left = omega arith in
    omega (arith, process_is key count before (omega arith), processes_are key count (suc before) left (omega arith), half before, ap (λ n. n / 2) same)

pub length_is : (key count : ℕ) → code_length (load key count) ≡ 11 + 24 * count + count / 2
length_is key count =
    let g = load key count in
    let routines = ap (λ ts. routines_length g ts) (all_routines key count) ∙ routines_are key count in
    let processes = ap (λ ps. processes_length g 0 ps) (all_processes key count) in
    let all = processes_are key count 0 count (omega arith) in
    omega (arith, routines, processes, all, ap (λ n. n / 2) (let e : 0 + count ≡ count = omega arith in e))
