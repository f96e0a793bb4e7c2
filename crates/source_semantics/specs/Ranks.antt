-- Ranks, ceilings and active ranks.
use Rattle.std.specs.Prelude.{ℕ, zero, suc, ◌+◌, Bool, false, cond, ◌&&◌, ◌||◌, not, List, [], ◌∷◌, ◌++◌, Option, Some, None, length, map, filter_map, position, nat_eq, nat_lt, min, slice_get, unwrap_or, is_some}
use Rattle.syntax_tree.specs.Plain.{Name, Stmt, assign_entry, perform, perform_entry, when, when_else, loop, Stmts, no_stmts, stmts, Routine, Process, Program, Handler}
use Rattle.source_semantics.specs.Names.{processes, deadline_of, monitor_number, routine_count}
use Rattle.source_semantics.specs.Run.{Found, routine_named}
use Rattle.source_semantics.specs.Config.{Config, inside}

-- n numbers from k on
abbrev pub numbers_from : ℕ → ℕ → List ℕ
numbers_from zero k = []
numbers_from (suc n) k = k ∷ numbers_from n (suc k)

abbrev pub deadlines : Program → List ℕ
deadlines g = map (λ p. deadline_of g p.activation) (processes g)

-- how many of the deadlines, the first of process j, belong to processes of higher rank than
-- process k
abbrev pub higher : (k deadline j : ℕ) → List ℕ → ℕ
higher k deadline j [] = 0
higher k deadline j (d ∷ ds) = cond (nat_lt d deadline || (nat_eq d deadline && nat_lt j k)) 1 0 + higher k deadline (suc j) ds

-- the shorter deadline has the smaller rank number; equal deadlines go by the text
abbrev pub rank : Program → ℕ → ℕ
rank g k = suc (higher k (unwrap_or (slice_get (deadlines g) k) 0) 0 (deadlines g))

-- the processes in rank order
abbrev pub by_rank : Program → List ℕ
by_rank g = filter_map (λ r. position (λ k. nat_eq (rank g k) r) (numbers_from (length (processes g)) 0)) (numbers_from (length (processes g)) 1)

-- the monitors whose entries statements call, where calls tells those of a procedure
abbrev mutual
  pub uses : Program → (Name → List ℕ) → Stmt → List ℕ
  uses g calls (assign_entry r m e es) = monitor_number g m ∷ []
  uses g calls (perform_entry m e es) = monitor_number g m ∷ []
  uses g calls (perform f es) = calls f
  uses g calls (when e a) = uses_all g calls a
  uses g calls (when_else e a b) = uses_all g calls a ++ uses_all g calls b
  uses g calls (loop i low high ss) = uses_all g calls ss
  uses g calls _ = []

  pub uses_all : Program → (Name → List ℕ) → Stmts → List ℕ
  uses_all g calls no_stmts = []
  uses_all g calls (stmts s ss) = uses g calls s ++ uses_all g calls ss

abbrev pub called_uses : (Routine → List ℕ) → Option Found → List ℕ
called_uses body None = []
called_uses body (Some f) = body f.routine

-- the monitors that a procedure reaches through calls nested at most so deep
unfoldable pub reached : Program → Process → ℕ → Name → List ℕ
reached g p zero f = []
reached g p (suc n) f = called_uses (λ r. uses_all g (reached g p n) r.body) (routine_named g p f)

abbrev pub handler_body : Option Handler → Stmts
handler_body None = no_stmts
handler_body (Some h) = h.body

-- the monitors whose entries a process reaches from its body or handler
abbrev pub monitors_of : Program → Process → List ℕ
monitors_of g p = uses_all g (reached g p (routine_count g)) p.body ++ uses_all g (reached g p (routine_count g)) (handler_body p.handler)

abbrev pub includes : ℕ → List ℕ → Bool
includes m [] = false
includes m (k ∷ ks) = nat_eq k m || includes m ks

abbrev pub min_with : ℕ → Option ℕ → ℕ
min_with r None = r
min_with r (Some q) = min r q

-- the least rank of those of the processes, the first of which is number k, that reach monitor m
abbrev pub least_rank : Program → ℕ → ℕ → List Process → Option ℕ
least_rank g m k [] = None
least_rank g m k (p ∷ ps) = cond (includes m (monitors_of g p)) (Some (min_with (rank g k) (least_rank g m (suc k) ps))) (least_rank g m (suc k) ps)

abbrev pub ceiling : Program → ℕ → Option ℕ
ceiling g m = least_rank g m 0 (processes g)

abbrev pub is_inside : Config → ℕ → Bool
is_inside c k = is_some (inside c k)

abbrev pub rank_inside : Program → ℕ → Option ℕ → ℕ
rank_inside g k None = rank g k
rank_inside g k (Some m) = unwrap_or (ceiling g m) (rank g k)

-- the ceiling of the monitor that the process is inside, else its rank
abbrev pub active_rank : Program → Config → ℕ → ℕ
active_rank g c k = rank_inside g k (inside c k)

-- the process is taken before the other: by active rank, at equal ones the one inside a monitor
abbrev pub comes_before : Program → Config → ℕ → ℕ → Bool
comes_before g c j k =
    nat_lt (active_rank g c j) (active_rank g c k) || (nat_eq (active_rank g c j) (active_rank g c k) && (is_inside c j && not (is_inside c k)))
