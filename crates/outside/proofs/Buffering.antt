-- What a failed put tells.
use Rattle.std.proofs.Common.{◌≢◌, ◌++◌, ◌∷◌, [], List, ℕ, Some, None, Ok, Err, Option, Result, OnErr, IfErr, take, refl}
use Rattle.outside.specs.declared.outside.SinkFailed.{SinkFailed}
use Rattle.outside.specs.Outside.{Appends, AppendsFront, AppendsFront-take, HasTakenSome, with_more}

-- one that tells how many first bytes were taken tells a front
pub front_taken : {A : Type 0} (result : Result A SinkFailed) (before now : Option (List ℕ)) (piece : List ℕ)
    → IfErr result (λ failed. Appends before now (take failed.taken piece))
    → OnErr result (AppendsFront before now piece)
front_taken (Ok done) before now piece h = h
front_taken (Err failed) before now piece h = AppendsFront-take before now failed.taken piece h

some_behind : (taken more : List ℕ) → more ≢ [] → taken ++ more ≢ []
some_behind [] more some = some
some_behind (x ∷ taken) more some = λ none. absurd cc

-- what waited was something
pub some_waited : {A E : Type 0} (result : Result A E) (taken : Option (List ℕ)) (waiting : List ℕ)
    → OnErr result (waiting ≢ []) → OnErr result (HasTakenSome (with_more taken waiting))
some_waited (Ok done) taken waiting h = h
some_waited (Err failed) (Some taken) waiting h = some_behind taken waiting h
some_waited (Err failed) None waiting h = tt
