-- The processes of the load keep to the rules for frames and for the numbers of handlers.
use Rattle.std.proofs.Common.{◌≡◌, ◌≤◌, ◌<◌, ◌+◌, ◌*◌, ℕ, zero, suc, inl, inr, ◌||◌, List, [], ◌∷◌, ◌++◌, Option, Some, None, map, length, refl, ap, ◌∙◌, subst, arith}
use Rattle.std.specs.Prelude.{if◌then◌else◌, codes}
use Rattle.std.proofs.Math.Nat.{mul-le-mul_left}
use Rattle.std.proofs.lemmas.Nat.{mod_below}
use Rattle.syntax_tree.specs.declared.place.Place.{Place}
use Rattle.syntax_tree.specs.Placed.{Constant, Kind, Var, Routine, Activation, periodic, at_event, Process, Decl, process, Prog}
use Rattle.syntax_tree.specs.Bare.{bare_constant, bare_routine, bare_activation, bare_handler, bare_process}
use Rattle.syntax_tree.specs.Parts.{processes, monitors, routines, devices, events}
use Rattle.static_rule.specs.Parts.{FailsAmong}
use Rattle.static_declarations.specs.Values.{Worth, value, constant_place, is_within, out_of}
use Rattle.static_numbers.specs.Types.{decls_bounds, vars_bounds, routines_bounds, kind_bounds}
use Rattle.static_numbers.specs.Processes.{frame_of, deadline_of, bad_limit, bad_start, Handled, handled, handler_numbers, all_handled}
use Rattle.static_numbers.specs.Counts.{words, vars_words, placed_kind_size}
use Rattle.static_numbers.specs.Rules.{process_rules, handler_rules}
use Rattle.load.specs.declared.program.DrawnProcess.{DrawnProcess}
use Rattle.load.specs.Draws.{below, draw}
use Rattle.load.specs.Program.{of_number, drawn, frame, load_handler, load_process}
use Rattle.load_text_law.proofs.Shapes.{one_of, none_of, none_there, some_there, AreLoad, no_more, one_more}
use Rattle.load_text_law.proofs.Parts.{NoneOf, none_fails, is_worth, is_in, one_int}
use Rattle.load_text_law.proofs.Spelled.{frame_low as frame_high}

-- ---- frames

pub record IsPeriodic (a : Activation Place) (f : ℕ) : Type 0 where
  pub frame : Constant Place
  pub is : a ≡ periodic frame None None
  pub like : bare_constant frame ≡ of_number f

pub is_periodic : (a : Activation Place) (f : ℕ) → bare_activation a ≡ periodic (of_number f) None None → IsPeriodic a f
is_periodic (periodic c dl fs) f same =
    let deadline = none_there bare_constant dl cc in
    let first = none_there bare_constant fs cc in
    record { frame = c; is = λ i. periodic c (deadline i) (first i); like = cc }
is_periodic (at_event e p c dl) f same = cc

few_frames : (key at : ℕ) → (drawn key at).frames < 8
unfolding draw below
few_frames key at = mod_below _ 8 (omega arith)

frame_low : (count : ℕ) (d : DrawnProcess) → 1 ≤ count → 1000 ≤ frame count d
frame_low count d some =
    let least : 1 ≤ 1 + d.frames = omega arith in
    let e = mul-le-mul_left (1000 * count) least in
    omega (arith, e)

module _ (g : Prog Place) (count : ℕ) (some : 1 ≤ count) (few : count ≤ 64) where
  frame_kept : (p : Process Place) (number : ℕ) (d : DrawnProcess) → d.frames < 8 → bare_process p ≡ load_process count number d → NoneOf (process_rules g) p
  frame_kept p number d low same =
      let it = is_periodic p.activation (frame count d) (ap (λ x. x.activation) same) in
      let low_frame = frame_low count d some in
      let high_frame = frame_high count d few low in
      let within = is_in g it.frame (frame count d) 10 1000000000 it.like (omega (arith, low_frame)) (omega (arith, high_frame)) in
      let o : Option Place = None in (
        ap (λ a. out_of (value g) 10 1000000000 (frame_of a)) it.is ∙ ap (λ b. if b then o else Some (constant_place it.frame)) within,
        (ap (λ a. bad_limit (value g) (frame_of a) (deadline_of a)) it.is, (ap (λ a. bad_start (value g) a) it.is, tt)),
      )

  pub frames_kept : (key before left : ℕ) (ps : List (Process Place)) → AreLoad key count before left ps
      → (number : ℕ) (place : Place) → ¬ FailsAmong (process_rules g) ps number place
  frames_kept key before zero [] no_more number place fails = fails
  frames_kept key before zero (p ∷ ps) are number place fails = elim are [ ]
  frames_kept key before (suc left) [] are number place fails = elim are [ ]
  frames_kept key before (suc left) (p ∷ ps) (one_more _ _ same are) number place (inl here) =
      none_fails (process_rules g) p (frame_kept p (suc before) (drawn key before) (few_frames key before) same) number place here
  frames_kept key before (suc left) (p ∷ ps) (one_more _ _ same are) number place (inr more) = frames_kept key (suc before) left ps are number place more

-- ---- handlers

record HasTen (p : Process Place) : Type 0 where
  number : Constant Place
  is : (more : List Handled) → handler_numbers p.handler more ≡ record { before = []; number = number } ∷ more
  like : bare_constant number ≡ of_number 10

has_ten : (p : Process Place) (count number : ℕ) (d : DrawnProcess) → bare_process p ≡ load_process count number d → HasTen p
has_ten p count number d same =
    let there = some_there bare_handler p.handler load_handler (ap (λ x. x.handler) same) in
    let one = one_of bare_constant there.one.numbers (of_number 10) (ap (λ h. h.numbers) there.like) in
    record {
      number = one.one;
      is = λ more. ap (λ h. handler_numbers h more) there.is ∙ ap (λ (cs : List (Constant Place)). handled [] cs more) one.is;
      like = one.like;
    }

number_kept : (g : Prog Place) (c : Constant Place) → bare_constant c ≡ of_number 10 → NoneOf (handler_rules g) (record { before = []; number = c })
number_kept g c like =
    let o : Option Place = None in
    (refl, (ap (λ z. if is_within 1 4 z || is_within 10 999 z then o else Some (constant_place c)) (is_worth g c 10 like), tt))

-- a failure is one of the others
of_others : (g : Prog Place) (p : Process Place) (count at : ℕ) (d : DrawnProcess) → bare_process p ≡ load_process count at d → (more : List Handled) (number : ℕ) (place : Place)
    → FailsAmong (handler_rules g) (handler_numbers p.handler more) number place → FailsAmong (handler_rules g) more number place
of_others g p count at d same more number place fails =
    let ten = has_ten p count at d same in
    by ten.number ten.like (subst (λ hs. FailsAmong (handler_rules g) hs number place) (ten.is more) fails)
  where
    by : (c : Constant Place) → bare_constant c ≡ of_number 10 → FailsAmong (handler_rules g) (record { before = []; number = c } ∷ more) number place
        → FailsAmong (handler_rules g) more number place
    by c like (inl here) = absurd (none_fails (handler_rules g) (record { before = []; number = c }) (number_kept g c like) number place here)
    by c like (inr others) = others

pub handlers_kept : (g : Prog Place) (key count before left : ℕ) (ps : List (Process Place)) → AreLoad key count before left ps
    → (number : ℕ) (place : Place) → ¬ FailsAmong (handler_rules g) (all_handled ps) number place
handlers_kept g key count before zero [] no_more number place fails = fails
handlers_kept g key count before zero (p ∷ ps) are number place fails = elim are [ ]
handlers_kept g key count before (suc left) [] are number place fails = elim are [ ]
handlers_kept g key count before (suc left) (p ∷ ps) (one_more _ _ same are) number place fails =
    handlers_kept g key count (suc before) left ps are number place (of_others g p count (suc before) (drawn key before) same (all_handled ps) number place fails)

-- ---- what the declarations of processes come to

abbrev pub decls : List (Process Place) → List (Decl Place)
decls ps = map (λ p. process p) ps

pub how_many : {key count before left : ℕ} (ps : List (Process Place)) → AreLoad key count before left ps → length ps ≡ left
how_many [] no_more = refl
how_many (p ∷ ps) (one_more _ _ same are) = omega (arith, how_many ps are)

pub processes-are : (ps : List (Process Place)) → processes (decls ps) ≡ ps
processes-are [] = refl
processes-are (p ∷ ps) = ap (λ (qs : List (Process Place)). p ∷ qs) (processes-are ps)

pub no_monitors : (ps : List (Process Place)) → monitors (decls ps) ≡ []
no_monitors [] = refl
no_monitors (p ∷ ps) = no_monitors ps

pub no_devices : (ps : List (Process Place)) → devices (decls ps) ≡ []
no_devices [] = refl
no_devices (p ∷ ps) = no_devices ps

pub no_events : (ps : List (Process Place)) → events (decls ps) ≡ []
no_events [] = refl
no_events (p ∷ ps) = no_events ps

no_own : (p : Process Place) (count number : ℕ) (d : DrawnProcess) → bare_process p ≡ load_process count number d → p.routines ≡ []
no_own p count number d same = none_of bare_routine p.routines (ap (λ x. x.routines) same)

module _ (key count : ℕ) where
  pub no_routines : {before left : ℕ} (ps : List (Process Place)) → AreLoad key count before left ps → routines (decls ps) ≡ []
  no_routines [] no_more = refl
  no_routines {before} (p ∷ ps) (one_more _ _ same are) =
      ap (λ (rs : List (Routine Place)). rs ++ routines (decls ps)) (no_own p count (suc before) (drawn key before) same) ∙ no_routines ps are

  pub no_bounds : {before left : ℕ} (ps : List (Process Place)) → AreLoad key count before left ps → decls_bounds (decls ps) [] ≡ []
  no_bounds [] no_more = refl
  no_bounds {before} (p ∷ ps) (one_more _ _ same are) =
      let it = one_int p.vars (codes "x") (ap (λ x. x.vars) same) in
      let more = routines_bounds p.routines (decls_bounds (decls ps) []) in
      ap (λ (vs : List (Var Place)). vars_bounds vs more) it.is ∙ ap (λ (k : Kind Place). kind_bounds k more) it.whole
      ∙ ap (λ (rs : List (Routine Place)). routines_bounds rs (decls_bounds (decls ps) [])) (no_own p count (suc before) (drawn key before) same) ∙ no_bounds ps are

  pub one_word_each : {before left : ℕ} (worth : Worth) (ps : List (Process Place)) → AreLoad key count before left ps → words worth (decls ps) ≡ left
  one_word_each worth [] no_more = refl
  one_word_each worth (p ∷ ps) (one_more _ _ same are) =
      let it = one_int p.vars (codes "x") (ap (λ x. x.vars) same) in
      let own : vars_words worth p.vars ≡ 1 + 0 =
      ap (λ (vs : List (Var Place)). vars_words worth vs) it.is ∙ ap (λ (k : Kind Place). placed_kind_size worth k + 0) it.whole in
      omega (arith, own, one_word_each worth ps are)
