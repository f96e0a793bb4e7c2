-- How acts end.
use Rattle.std.proofs.Common.{◌≡◌, ◌≢◌, ◌++◌, ◌∷◌, ℕ, Bool, List, [], Option, Some, None, Result, Ok, Err, OnOk, OnErr, inl, inr, refl, sym, subst, arith}
use Rattle.std.specs.Prelude.{IsSome, IsSomeAnd}
use Rattle.command_answers.specs.Causes.{HasCause}
use Rattle.command_answers.specs.declared.status.Status.{Status}
use Rattle.command_answers.specs.declared.status.Status.TheVariants as status
use Rattle.command_answers.specs.declared.act.Store.{Store}
use Rattle.command_answers.specs.declared.act.PreparedCall.{PreparedCall}
use Rattle.command_answers.specs.Acts.{outcome_of}
use Rattle.outside.specs.Outside.{outside, FilesState, SinkState, Rose, Appends, AppendsFront, Appends-nothing, Appends-append, AppendsFront-append}
use Rattle.command_perform.specs.Performed.{OthersKept, StoreFailed, Performed, WritesIt, targets}

-- ---- text and log

-- what holds of every result holds where it is an error
pub on_err : {A E : Type 0} (r : Result A E) (P : Type 0) → P → OnErr r P
on_err (Ok x) P p = tt
on_err (Err e) P p = p

-- the text was put, and then the whole log
pub all_told : {A E : Type 0} (r : Result A E) (a b c : Option (List ℕ)) (text log : List ℕ) → Appends a b text → OnOk r (Appends b c log) → OnOk r (Appends a c (text ++ log))
all_told (Ok x) a b c text log first then = Appends-append a b c text log first then
all_told (Err e) a b c text log first then = tt

-- the text was put, and then a front of the log
pub front_told : {A E : Type 0} (r : Result A E) (a b c : Option (List ℕ)) (text log : List ℕ) → Appends a b text → OnErr r (AppendsFront b c log) → OnErr r (AppendsFront a c (text ++ log))
front_told (Ok x) a b c text log first then = tt
front_told (Err e) a b c text log first then = AppendsFront-append a b c text log first then

-- a put failed, so something was to be put
pub some_before : (text log : List ℕ) → text ≢ [] → text ++ log ≢ []
some_before [] log some = absurd (some refl)
some_before (b ∷ text) log some = λ none. absurd cc

behind : (text log : List ℕ) → log ≢ [] → text ++ log ≢ []
behind [] log some = some
behind (b ∷ text) log some = λ none. absurd cc

pub some_log : {A E : Type 0} (r : Result A E) (text log : List ℕ) → OnErr r (log ≢ []) → OnErr r (text ++ log ≢ [])
some_log (Ok x) text log some = tt
some_log (Err e) text log some = behind text log some

-- ---- the image

-- a write that failed was that of the image
failed_store : (store : Option Store) (files files' : FilesState) (out : SinkState)
    → IsSomeAnd store (λ s. Rose (files.write_faults s.name.now) (files'.write_faults s.name.now)) → StoreFailed store (outside files out) (outside files' out)
failed_store None files files' out rose = absurd rose
failed_store (Some s) files files' out rose = rose

pub not_stored : (tells : Bool) (act : PreparedCall) (files files' : FilesState) (out : SinkState)
    → IsSomeAnd act.store (λ s. Rose (files.write_faults s.name.now) (files'.write_faults s.name.now)) → OthersKept act.store files.held files'.held → files'.reads ≡ files.reads → WritesIt act.store files.writes files'.writes
    → Performed tells act (outside files out) (outside files' out) 7
not_stored tells act files files' out rose others unread written = record {
  range = inr (inl refl);
  whole = λ not_seven not_eight. absurd (not_seven refl);
  stored = λ not_seven not_eight. absurd (not_seven refl);
  front = λ seven. ([], (outcome_of act).text, refl, Appends-nothing out.taken);
  cause = λ seven. inl (failed_store act.store files files' out rose, refl);
  nothing = λ eight. absurd (omega (arith, eight));
  kept = λ eight. absurd (omega (arith, eight));
  quiet = λ not_seven. absurd (not_seven refl);
  others = others;
  unread = unread;
  written = written;
}

-- the name is that of the image, whose write failed
pub write_cause : (store : Option Store) (files files' : FilesState) (out : SinkState) (answer : Status)
    → IsSomeAnd store (λ s. answer ≡ status.Unwritten s.name) → IsSomeAnd store (λ s. Rose (files.write_faults s.name.now) (files'.write_faults s.name.now))
    → HasCause [] (targets store) (outside files out) (outside files' out) answer
write_cause None files files' out answer is rose = absurd is
write_cause (Some s) files files' out answer is rose =
    subst (HasCause [] (s.name.now ∷ []) (outside files out) (outside files' out)) (sym is) ((0, omega arith, refl), rose, refl)

pub some_store : (store : Option Store) (files files' : FilesState) → IsSomeAnd store (λ s. Rose (files.write_faults s.name.now) (files'.write_faults s.name.now)) → IsSome store
some_store None files files' rose = absurd rose
some_store (Some s) files files' rose = refl
