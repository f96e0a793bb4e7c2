-- How a call ended, and why.
use Rattle.std.proofs.Common.{◌≡◌, ℕ, List, ◌++◌, ◌∷◌, [], Option, Some, inl, inr, refl, sym, subst, arith}
use Rattle.std.specs.Prelude.{Bool, Contains}
use Rattle.std.proofs.lemmas.List.Elements.{Contains-append_left, Contains-append_right}
use Rattle.outside.specs.Outside.{FilesState, NoneFell, Outside, SinkState, outside}
use Rattle.command_words.specs.Calls.{Call}
use Rattle.command_answers.specs.declared.status.Status.{Status}
use Rattle.command_answers.specs.declared.status.Status.TheVariants as status
use Rattle.command_answers.specs.Acts.{number_of}
use Rattle.command_answers.specs.Causes.{HasCause}
use Rattle.command_answers.specs.Files.{Held, listed, log_file_of, script_of, source_of, sources_of}
use Rattle.command_answers.specs.Prepared.{IsReached}
use Rattle.command_answers.specs.Went.{IsAnswer}
use Rattle.command_answers.proofs.Held.{rose_since}

-- where all that is due was done there is no cause to tell
pub answers_have_cause : (sources targets : List (List ℕ)) (before now : Outside) (answer : Status) → IsAnswer (number_of answer) → HasCause sources targets before now answer
answers_have_cause sources targets before now status.Done is = tt
answers_have_cause sources targets before now status.Usage is = tt
answers_have_cause sources targets before now status.Text is = tt
answers_have_cause sources targets before now status.Late is = tt
answers_have_cause sources targets before now status.Image is = tt
answers_have_cause sources targets before now status.Script is = tt
answers_have_cause sources targets before now (status.Unread name) is = absurd (is.0 refl)
answers_have_cause sources targets before now (status.Unwritten name) is = absurd (is.1 refl)
answers_have_cause sources targets before now status.Unput is = absurd (is.1 refl)
answers_have_cause sources targets before now status.Memory is = tt
answers_have_cause sources targets before now status.Log is = tt

some_listed : (file : Option (List ℕ)) (name : List ℕ) → file ≡ Some name → Contains (listed file) name
some_listed file name is = subst (λ f. Contains (listed f) name) (sym is) (0, omega arith, refl)

-- a file that is read is one that the call names
pub reached_is_named : (tells : Bool) (call : Call) (held : Held) (name : List ℕ) → IsReached tells call held name → Contains (sources_of call) name
reached_is_named tells call held name (inl is) = (0, omega arith, sym is)
reached_is_named tells call held name (inr (inl (is, reached))) =
    Contains-append_right (source_of call ∷ []) (listed (script_of call) ++ listed (log_file_of call)) name
    (Contains-append_left (listed (script_of call)) (listed (log_file_of call)) name (some_listed (script_of call) name is))
reached_is_named tells call held name (inr (inr (is, reached))) =
    Contains-append_right (source_of call ∷ []) (listed (script_of call) ++ listed (log_file_of call)) name
    (Contains-append_right (listed (script_of call)) (listed (log_file_of call)) name (some_listed (log_file_of call) name is))

-- counts that have risen since have risen from the start on
pub cause_since : (sources targets : List (List ℕ)) (b m n : FilesState) (o o' : SinkState) (answer : Status)
    → NoneFell b.read_faults m.read_faults → NoneFell b.write_faults m.write_faults
    → HasCause sources targets (outside m o) (outside n o') answer → HasCause sources targets (outside b o) (outside n o') answer
cause_since sources targets b m n o o' (status.Unread name) reads writes (is, rose) =
    (is, rose_since (b.read_faults name.now) (m.read_faults name.now) (n.read_faults name.now) (reads name.now) rose)
cause_since sources targets b m n o o' (status.Unwritten name) reads writes (is, rose, same) =
    (is, rose_since (b.write_faults name.now) (m.write_faults name.now) (n.write_faults name.now) (writes name.now) rose, same)
cause_since sources targets b m n o o' status.Unput reads writes rose = rose
cause_since sources targets b m n o o' status.Done reads writes cause = tt
cause_since sources targets b m n o o' status.Usage reads writes cause = tt
cause_since sources targets b m n o o' status.Text reads writes cause = tt
cause_since sources targets b m n o o' status.Late reads writes cause = tt
cause_since sources targets b m n o o' status.Image reads writes cause = tt
cause_since sources targets b m n o o' status.Script reads writes cause = tt
cause_since sources targets b m n o o' status.Memory reads writes cause = tt
cause_since sources targets b m n o o' status.Log reads writes cause = tt

-- the files that may have failed are among more
pub more_targets : (sources targets more others : List (List ℕ)) (before now : Outside) (answer : Status)
    → ((name : List ℕ) → Contains sources name → Contains more name) → ((name : List ℕ) → Contains targets name → Contains others name)
    → HasCause sources targets before now answer → HasCause more others before now answer
more_targets sources targets more others before now (status.Unread name) read write (is, rose) = (read name.now is, rose)
more_targets sources targets more others before now (status.Unwritten name) read write (is, rose, same) = (write name.now is, rose, same)
more_targets sources targets more others before now status.Unput read write rose = rose
more_targets sources targets more others before now status.Done read write cause = tt
more_targets sources targets more others before now status.Usage read write cause = tt
more_targets sources targets more others before now status.Text read write cause = tt
more_targets sources targets more others before now status.Late read write cause = tt
more_targets sources targets more others before now status.Image read write cause = tt
more_targets sources targets more others before now status.Script read write cause = tt
more_targets sources targets more others before now status.Memory read write cause = tt
more_targets sources targets more others before now status.Log read write cause = tt
