-- Arguments that are bound one after the other.
use Rattle.std.specs.Prelude.{◌≡◌, ◌++◌, ℕ, List, [], ◌∷◌}
use Rattle.std.proofs.Common.{refl, sym, ◌∙◌, ap, append_assoc}
use Rattle.syntax_tree.specs.Plain.{Param, Program}
use Rattle.base.specs.Words.{Answer}
use Rattle.source_semantics.specs.Store.{Vars}
use Rattle.source_semantics.specs.Run as run
use Rattle.replay_state.specs.View.{slot_of, vars_of}
use Rattle.replay_state.specs.declared.variables.Slot as code_slot
use Rattle.replay_calls.specs.Reach.{in_front}
use Rattle.replay_calls.specs.declared.fresh.ArgumentResult as code_argument
use Rattle.replay_calls.specs.declared.fresh.ArgumentResult.TheVariants as argument_is
use Rattle.replay_next.specs.Remains.{in_front_all}

vars_push : (ss : List code_slot.Slot) (s : code_slot.Slot) → vars_of (ss ++ s ∷ []) ≡ vars_of ss ++ slot_of s ∷ []
vars_push [] s = refl
vars_push (x ∷ xs) s = ap (λ l. slot_of x ∷ l) (vars_push xs s)

front_pushed : (vs : Vars) (s : code_slot.Slot) (b : run.Bound) → in_front_all (vs ++ slot_of s ∷ []) b ≡ in_front_all vs (in_front (argument_is.To s) b)
front_pushed vs s (run.bound ws) = ap run.bound (append_assoc vs (slot_of s ∷ []) ws)
front_pushed vs s (run.unbound n) = refl

-- what a program makes of an argument, and of those after it
abbrev pub argument_in : Program → Param → Answer → run.Bound → run.Bound
argument_in g p a rest = run.with_argument g p a (λ v. run.added g p v rest)

pub bind_stops : (g h : Program) (p : Param) (a : Answer) (rest : run.Bound) (vs : Vars) (d : code_argument.ArgumentResult) (n : ℕ)
    → d ≡ argument_is.Raised n → in_front d rest ≡ argument_in g p a rest → h ≡ g → run.unbound n ≡ in_front_all vs (argument_in h p a rest)
bind_stops g h p a rest vs d n is told same =
    ap (in_front_all vs) (sym (ap (λ (x : code_argument.ArgumentResult). in_front x rest) is) ∙ (told ∙ ap (λ k. argument_in k p a rest) (sym same)))

pub bind_goes : (g h : Program) (p : Param) (a : Answer) (rest : run.Bound) (old new : List code_slot.Slot) (d : code_argument.ArgumentResult) (s : code_slot.Slot)
    → d ≡ argument_is.To s → new ≡ old ++ s ∷ [] → in_front d rest ≡ argument_in g p a rest → h ≡ g
    → in_front_all (vars_of new) rest ≡ in_front_all (vars_of old) (argument_in h p a rest)
bind_goes g h p a rest old new d s is pushed told same =
    ap (λ (l : List code_slot.Slot). in_front_all (vars_of l) rest) pushed
    ∙ (ap (λ l. in_front_all l rest) (vars_push old s)
    ∙ (front_pushed (vars_of old) s rest
    ∙ ap (in_front_all (vars_of old)) (sym (ap (λ (x : code_argument.ArgumentResult). in_front x rest) is) ∙ (told ∙ ap (λ k. argument_in k p a rest) (sym same)))))
