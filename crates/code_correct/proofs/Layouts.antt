-- Variables share no word.
use Rattle.std.specs.Prelude.{◌+◌, ◌≤◌, ℕ, suc, false, List, [], ◌∷◌, ◌++◌, slice_get}
use Rattle.std.proofs.Common.{arith, inl}
use Rattle.syntax_tree.specs.Plain.{Param, Var, Program}
use Rattle.source_semantics.specs.Names.{processes, monitors}
use Rattle.source_semantics.specs.Store.{range_of, kind_range}
use Rattle.code_spec.specs.Layout.{single, size_of, shape_of, Place, places_from, param_places, words_of, count, loops, routine_vars_words, monitor_base, vars_of_process, vars_of_monitor}
use Rattle.code_spec.specs.Numbering.{Text}
use Rattle.code_spec.specs.Compiled.{routine_scope}
use Rattle.code_spec.specs.Memory.{Setting, ApartFrom, AllApart, AllBelow, Room}
use Rattle.code_correct.proofs.Stores.{Laid}

abbrev AllAbove : ℕ → List Place → Type 0
AllAbove w [] = Unit {0}
AllAbove w (p ∷ ps) = (w ≤ p.word) × AllAbove w ps

above_less : (v w : ℕ) (ps : List Place) → v ≤ w → AllAbove w ps → AllAbove v ps
above_less v w [] le h = tt
above_less v w (p ∷ ps) le h = (omega (arith, h.0, le), above_less v w ps le h.1)

pub below_more : (v w : ℕ) (ps : List Place) → v ≤ w → AllBelow v ps → AllBelow w ps
below_more v w [] le h = tt
below_more v w (p ∷ ps) le h = (omega (arith, h.0, le), below_more v w ps le h.1)

apart_above : (p : Place) (w : ℕ) (ps : List Place) → p.word + size_of p.shape ≤ w → AllAbove w ps → ApartFrom p ps
apart_above p w [] le h = tt
apart_above p w (q ∷ ps) le h = (inl (omega (arith, h.0, le)), apart_above p w ps le h.1)

vars_above : (g : Program) (w : ℕ) (vs : List Var) → AllAbove w (places_from g w vs)
vars_above g w [] = tt
vars_above g w (v ∷ vs) = (omega arith, above_less w (w + size_of (shape_of g v.kind)) (places_from g (w + size_of (shape_of g v.kind)) vs) (omega arith) (vars_above g (w + size_of (shape_of g v.kind)) vs))

vars_below : (g : Program) (w : ℕ) (vs : List Var) → AllBelow (w + words_of g vs) (places_from g w vs)
vars_below g w [] = tt
vars_below g w (v ∷ vs) = (omega arith, below_more (w + size_of (shape_of g v.kind) + words_of g vs) (w + (size_of (shape_of g v.kind) + words_of g vs)) (places_from g (w + size_of (shape_of g v.kind)) vs) (omega arith) (vars_below g (w + size_of (shape_of g v.kind)) vs))

pub vars_apart : (g : Program) (w : ℕ) (vs : List Var) → AllApart (places_from g w vs)
vars_apart g w [] = tt
vars_apart g w (v ∷ vs) = (apart_above (record { name = v.name; range = kind_range g v.kind; word = w; shape = shape_of g v.kind; fixed = false }) (w + size_of (shape_of g v.kind)) (places_from g (w + size_of (shape_of g v.kind)) vs) (omega arith) (vars_above g (w + size_of (shape_of g v.kind)) vs), vars_apart g (w + size_of (shape_of g v.kind)) vs)

params_above : (g : Program) (w : ℕ) (ps : List Param) → AllAbove w (param_places g w ps)
params_above g w [] = tt
params_above g w (p ∷ ps) = (omega arith, above_less w (suc w) (param_places g (suc w) ps) (omega arith) (params_above g (suc w) ps))

params_below : (g : Program) (w : ℕ) (ps : List Param) → AllBelow (w + count ps) (param_places g w ps)
params_below g w [] = tt
params_below g w (p ∷ ps) = (omega arith, below_more (suc w + count ps) (w + suc (count ps)) (param_places g (suc w) ps) (omega arith) (params_below g (suc w) ps))

params_apart : (g : Program) (w : ℕ) (ps : List Param) → AllApart (param_places g w ps)
params_apart g w [] = tt
params_apart g w (p ∷ ps) = (apart_above (record { name = p.name; range = range_of g p.kind; word = w; shape = single; fixed = false }) (suc w) (param_places g (suc w) ps) (omega arith) (params_above g (suc w) ps), params_apart g (suc w) ps)

apart_from_both : (p : Place) (ps qs : List Place) → ApartFrom p ps → ApartFrom p qs → ApartFrom p (ps ++ qs)
apart_from_both p [] qs h k = k
apart_from_both p (q ∷ ps) qs h k = (h.0, apart_from_both p ps qs h.1 k)

both_apart : (w : ℕ) (ps qs : List Place) → AllApart ps → AllBelow w ps → AllApart qs → AllAbove w qs → AllApart (ps ++ qs)
both_apart w [] qs a b c d = c
both_apart w (p ∷ ps) qs a b c d = (apart_from_both p ps qs a.0 (apart_above p w qs b.0 d), both_apart w ps qs a.1 b.1 c d)

both_below : (w : ℕ) (ps qs : List Place) → AllBelow w ps → AllBelow w qs → AllBelow w (ps ++ qs)
both_below w [] qs b d = d
both_below w (p ∷ ps) qs b d = (b.0, both_below w ps qs b.1 d)

-- the variables of a routine are apart, and behind them there is room for its loops
pub routine_room : (g : Program) (t : Text) → Room (routine_scope g t) (routine_vars_words g t.routine) (loops t.routine.body)
routine_room g t = record {
  apart = both_apart (count t.routine.params) (param_places g 0 t.routine.params) (places_from g (count t.routine.params) t.routine.vars) (params_apart g 0 t.routine.params)
      (below_more (0 + count t.routine.params) (count t.routine.params) (param_places g 0 t.routine.params) (omega arith) (params_below g 0 t.routine.params)) (vars_apart g (count t.routine.params) t.routine.vars)
      (vars_above g (count t.routine.params) t.routine.vars);
  below = both_below (routine_vars_words g t.routine) (param_places g 0 t.routine.params) (places_from g (count t.routine.params) t.routine.vars)
      (below_more (0 + count t.routine.params) (routine_vars_words g t.routine) (param_places g 0 t.routine.params) (omega arith) (params_below g 0 t.routine.params)) (vars_below g (count t.routine.params) t.routine.vars);
  room = omega arith;
}

-- the variables of a process, and of each monitor, share no word
pub all_laid : (e : Setting) → Laid e
all_laid e = record {
  process = vars_apart e.program 0 (vars_of_process (slice_get (processes e.program) e.number));
  monitor = λ m. vars_apart e.program (monitor_base e.program m) (vars_of_monitor (slice_get (monitors e.program) m));
}
