-- The names of processes differ, and the processes of the load, one after another.
use Rattle.std.proofs.Common.{◌≡◌, ◌≤◌, ◌<◌, ◌+◌, ◌^◌, ℕ, zero, suc, Bool, true, false, ◌&&◌, nat_eq, List, [], ◌∷◌, ◌++◌, Option, Some, None, codes, refl, ap, sym, ◌∙◌, subst, arith}
use Rattle.std.specs.Prelude.{if◌then◌else◌, is_some, not, decimal}
use Rattle.std.proofs.lemmas.Fmt.{decimal_injective, decimal_is_IsNumeral}
use Rattle.std.proofs.lemmas.Bool.{eqb-true}
use Rattle.std.specs.Str.Parse.{AllDigits}
use Rattle.std.specs.Char.{digit_value}
use Rattle.syntax_tree.specs.Plain.{Name}
use Rattle.syntax_tree.specs.declared.place.Place.{Place}
use Rattle.syntax_tree.specs.Placed.{Process, process}
use Rattle.static_names.specs.declared.kind.Declared.{Declared}
use Rattle.static_names.specs.Reach.{same, Names, Reach, first, Site}
use Rattle.static_names.specs.Occurrences.{Occurrence, decl_name, others, decls_names}
use Rattle.load.specs.Program.{drawn, process_name}
use Rattle.load_text_law.proofs.Shapes.{AreLoad, no_more, one_more}
use Rattle.load_law.proofs.Knowing.{Agrees}
use Rattle.load_law.proofs.Fine.{Fine}
use Rattle.load_law.proofs.Outside.{outside}
use Rattle.load_law.proofs.LoadNamesProcesses.{process_fine}
use Rattle.wellformed_law.proofs.Lookups.{same-is}
use Rattle.load_text_law.proofs.Processes.{decls}

-- ---- names

pub apart : (j k : ℕ) → j < 2 ^ 64 → k < 2 ^ 64 → ¬ (j ≡ k) → same (process_name j) (process_name k) ≡ false
apart j k low small differ = by (same (process_name j) (process_name k)) refl
  where
    by : (b : Bool) → same (process_name j) (process_name k) ≡ b → b ≡ false
    by false is = refl
    by true is =
        let names : process_name j ≡ process_name k = same-is (process_name j) (process_name k) is in
        let digits : decimal j ≡ decimal k = cc in
        absurd (differ (decimal_injective j k low small digits))

-- "pause" begins as those of processes do, but no digit follows
no_digit_next : (ds : List ℕ) → AllDigits 10 ds → same (codes "ause") ds ≡ false
no_digit_next [] digits = refl
no_digit_next (c ∷ cs) digits = by (nat_eq 97 c) refl
  where
    by : (b : Bool) → nat_eq 97 c ≡ b → (b && same (codes "use") cs) ≡ false
    by true is =
        let letter : 97 ≡ c = eqb-true 97 c is in
        let low : digit_value 97 < 10 = subst (λ n. digit_value n < 10) (sym letter) digits.0 in
        absurd (omega (arith, low))
    by false is = refl

pub not_pause : (k : ℕ) → k < 2 ^ 64 → same (codes "pause") (process_name k) ≡ false
not_pause k small = no_digit_next (decimal k) (decimal_is_IsNumeral k small).0.1

pub first_past : (ds : Names) (d : Name × Declared) (name : Name) → first ds name ≡ None → same name d.0 ≡ false → first (ds ++ d ∷ []) name ≡ None
first_past [] d name none differs = let o : Option Declared = None in ap (λ b. if b then Some d.1 else o) differs
first_past (e ∷ ds) d name none differs = by (same name e.0) none (λ later. first_past ds d name later differs)
  where
    by : (b : Bool) → (if b then Some e.1 else first ds name) ≡ None → (first ds name ≡ None → first (ds ++ d ∷ []) name ≡ None) → (if b then Some e.1 else first (ds ++ d ∷ []) name) ≡ None
    by true is later = absurd cc
    by false is later = later is

-- a name that is that of no process
pub no_process : (key count before left : ℕ) (ps : List (Process Place)) → AreLoad key count before left ps → before + left ≤ 64 → (name : Name) → ((k : ℕ) → k < 2 ^ 64 → same name (process_name k) ≡ false) → first (others (decls ps)) name ≡ None
no_process key count before zero [] no_more few name none = refl
no_process key count before zero (p ∷ ps) are few name none = elim are [ ]
no_process key count before (suc left) [] are few name none = elim are [ ]
no_process key count before (suc left) (p ∷ ps) (one_more _ _ like are) few name none =
    let is : p.name ≡ process_name (suc before) = ap (λ x. x.name) like in
    let differs : same name p.name ≡ false = ap (same name) is ∙ none (suc before) (omega (arith, few)) in
    let o = first (others (decls ps)) name in
    ap (λ b. if b then Some (decl_name (process p)).1 else o) differs ∙ no_process key count (suc before) left ps are (omega (arith, few)) name none

-- ---- processes

append_one : (xs : Names) (y : Name × Declared) (zs : Names) → (xs ++ y ∷ []) ++ zs ≡ xs ++ y ∷ zs
append_one [] y zs = refl
append_one (x ∷ xs) y zs = ap (λ (r : Names). x ∷ r) (append_one xs y zs)

-- no process from this one on has a name that is declared already
abbrev pub AreFresh : (before : ℕ) → Names → Type 0
AreFresh before earlier = (k : ℕ) → before ≤ k → k ≤ 64 → first earlier (process_name (suc k)) ≡ None

fresh_past : (before : ℕ) (earlier : Names) (d : Name × Declared) → before ≤ 64 → d.0 ≡ process_name (suc before) → AreFresh before earlier → AreFresh (suc before) (earlier ++ d ∷ [])
fresh_past before earlier d low is fresh k from up =
    first_past earlier d (process_name (suc k)) (fresh k (omega (arith, from)) up)
    (ap (same (process_name (suc k))) is ∙ apart (suc k) (suc before) (omega (arith, up)) (omega (arith, low)) (λ e. omega (arith, e, from)))

module _ (members : Place → Reach) (all : Names) (known : Agrees outside (record { means = first all; members = members })) (key count : ℕ) where
  pub processes_fine : (before left : ℕ) (ps : List (Process Place)) → AreLoad key count before left ps → (earlier : Names) → earlier ++ others (decls ps) ≡ all → AreFresh before earlier
      → before + left ≤ 64 → (more : List Occurrence) → Fine more → Fine (decls_names members earlier (decls ps) more)
  processes_fine before zero [] no_more earlier is fresh few more fine = fine
  processes_fine before zero (p ∷ ps) are earlier is fresh few more fine = elim are [ ]
  processes_fine before (suc left) [] are earlier is fresh few more fine = elim are [ ]
  processes_fine before (suc left) (p ∷ ps) (one_more _ _ like are) earlier is fresh few more fine =
      let d = decl_name (process p) in
      let name : p.name ≡ process_name (suc before) = ap (λ x. x.name) like in
      let low : before ≤ 64 = omega (arith, few) in
      let none : first earlier p.name ≡ None = ap (first earlier) name ∙ fresh before (omega arith) low in
      let rest = processes_fine (suc before) left ps are (earlier ++ d ∷ []) (append_one earlier d (others (decls ps)) ∙ is) (fresh_past before earlier d low name fresh) (omega (arith, few)) more fine in
      let here : Agrees outside (record { means = first (earlier ++ others (decls (p ∷ ps))); members = members }) =
      subst (λ (ns : Names). Agrees outside (record { means = first ns; members = members })) (sym is) known in
      let site : Site = record { means = first (earlier ++ others (decls (p ∷ ps))); members = members } in
      (ap (λ o. not (is_some o)) none, process_fine count (suc before) (drawn key before) p like site here (decls_names members (earlier ++ d ∷ []) (decls ps) more) rest)
