-- The configuration before the first event is the one that the meaning starts from, and is one of
-- the program.
use Rattle.std.specs.Prelude.{◌≡◌, ℕ, false, List, [], map}
use Rattle.std.proofs.Common.{sym, ◌∙◌, ap, subst}
use Rattle.std.proofs.lemmas.List.{length-map, length-replicate}
use Rattle.syntax_tree.specs.Plain.{Program}
use Rattle.source_semantics.specs.Names.{condition_count, monitors, processes}
use Rattle.source_semantics.specs.Config.{Config, Hold, Job, free_hold, idle_job, start}
use Rattle.replay_state.specs.Tables.{Fits}
use Rattle.replay.specs.Parts.{monitor_queues}
use Rattle.replay.proofs.Queueing.{queues_are}

abbrev before_all : List Job → List Hold → List (List ℕ) → Config
before_all js hs qs = record { tick = 0; acted = false; jobs = js; holds = hs; queues = qs }

pub config_is : (g : Program) (js : List Job) (hs : List Hold) (qs : List (List ℕ)) → js ≡ map (idle_job g) (processes g) → hs ≡ map (free_hold g) (monitors g) → qs ≡ monitor_queues (monitors g) → before_all js hs qs ≡ start g
config_is g js hs qs jobs holds queues =
    ap (λ l. before_all l hs qs) jobs
    ∙ (ap (λ l. before_all (map (idle_job g) (processes g)) l qs) holds
    ∙ ap (λ l. before_all (map (idle_job g) (processes g)) (map (free_hold g) (monitors g)) l) (queues ∙ queues_are (monitors g)))

start_fits : (g : Program) → Fits g (start g)
start_fits g =
    let none : List ℕ = [] in
    record {
      jobs = length-map (processes g) (idle_job g);
      holds = length-map (monitors g) (free_hold g);
      queues = length-replicate (condition_count (monitors g)) none;
    }

pub fits_at_start : (g : Program) (c : Config) → c ≡ start g → Fits g c
fits_at_start g c is = subst (Fits g) (sym is) (start_fits g)
