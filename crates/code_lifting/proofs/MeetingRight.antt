-- The code of the example is right: each process follows the source meaning.
use Rattle.std.proofs.Common.{◌≡◌, ◌*◌, ℕ, zero, suc, List, [], ◌∷◌, Option, Some, None, refl, sym, subst, true, false, Bool}
use Rattle.std.specs.Prelude.{ℤ, pos, slice_get}
use Rattle.base.proofs.Lists.{one_some}
use Rattle.machine_isa.specs.declared.instr.Instr.TheVariants as i
use Rattle.syntax_tree.specs.Plain.{Program, no_stmts, periodic, literal_constant}
use Rattle.syntax_tree.specs.Plain as tree
use Rattle.source_semantics.specs.Names.{processes}
use Rattle.source_semantics.specs.Store.{Vars}
use Rattle.source_semantics.specs.Next.{Next, calls_to}
use Rattle.source_semantics.specs.Ranks.{reached}
use Rattle.source_semantics_law.specs.Example.{signalled_wait}
use Rattle.machine_semantics.specs.Trees.{Nil}
use Rattle.machine_semantics.specs.Image.{Process}
use Rattle.machine_semantics.specs.State.{Operand, Value, Caller, State, is_free}
use Rattle.machine_semantics.specs.Effect.{Own, Outcome}
use Rattle.machine_semantics.specs.Effect as effects
use Rattle.machine_safety.specs.SmallImages.{alone}
use Rattle.code_spec.specs.Boundary.{Compiled, View, view, view_released, view_raised, next_of, Agrees}
use Rattle.code_spec.specs.Follows.{Follows, IsRight}
use Rattle.code_lifting.specs.Image.{FreeHolds, RestHolds, compiled_of}
use Rattle.code_lifting.specs.Example.{meeting, MeetingIsRight}

abbrev nth : List Process → ℕ → Process
nth [] k = alone 0 0 0 0 Nil
nth (p ∷ ps) zero = p
nth (p ∷ ps) (suc k) = nth ps k

abbrev pub nth_text : List tree.Process → ℕ → tree.Process
nth_text [] k = record { name = []; activation = periodic (literal_constant false 0) None None; vars = []; routines = []; body = no_stmts; handler = None }
nth_text (p ∷ ps) zero = p
nth_text (p ∷ ps) (suc k) = nth_text ps k

abbrev pub text : ℕ → tree.Process
text k = nth_text (processes signalled_wait) k

abbrev g : Program
g = signalled_wait

abbrev c : ℕ → ℕ → Compiled
c over k = compiled_of (meeting over) k (nth (meeting over).image.processes k) (text k)

abbrev W : ℕ → ℕ → ℕ → Own → View → Type 0
W over k n = Follows n (c over k) (FreeHolds (meeting over)) (RestHolds (meeting over) k)

-- a process at an address
abbrev at : (place : ℕ) → (operands : List Operand) → List Caller → Bool → Option ℕ → ℕ → ℕ → List ℤ → List ℤ → Own
at place operands callers handling inside done dispatch_ticks owned shared = record {
  job = record { place = place; done = done; dispatch_ticks = dispatch_ticks; locals = []; operands = operands; callers = callers; handling = handling; inside = inside };
  owned = owned;
  shared = shared;
}

abbrev caller : ℕ → List Caller
caller place = record { back = place; locals = []; operands = [] } ∷ []

-- ---- process 0: it calls the entry that waits

abbrev v1 : View
v1 = view_released (text 0) []

abbrev n1 : Next
n1 = next_of g (text 0) v1

abbrev v2 : View
v2 = view n1.calls n1.process [] false

abbrev n2 : Next
n2 = next_of g (text 0) v2

abbrev v3 : View
v3 = view n2.calls n2.process [] false

abbrev n3 : Next
n3 = next_of g (text 0) v3

abbrev v4 : View
v4 = view n3.calls n3.process [] false

abbrev n4 : Next
n4 = next_of g (text 0) v4

abbrev v5 : View
v5 = view n4.calls n4.process [] false

abbrev vh : View
vh = view_raised g (text 0) 10 n2.process false

abbrev nh : Next
nh = next_of g (text 0) vh

abbrev vh2 : View
vh2 = view nh.calls nh.process [] true

module _ (over : ℕ) where
  ended : (n d b : ℕ) (owned shared : List ℤ) → W over 0 n (at 10 [] [] false None d b owned shared) v5
  unfolding calls_to
  ended zero d b owned shared = tt
  ended (suc n) d b owned shared = λ s done dispatch_ticks same. (i.End, refl, record { outside = refl; rests = tt })

  returns : (n d b : ℕ) (owned shared : List ℤ) → W over 0 n (at 4 [] (caller 10) false None d b owned shared) v5
  unfolding calls_to
  returns zero d b owned shared = tt
  returns (suc n) d b owned shared = λ s done dispatch_ticks same. (i.Return, refl, record { stands = ended n 0 dispatch_ticks owned s.shared; inside = refl; words = λ v out. refl })

  leaves_it : (n d b : ℕ) (owned shared : List ℤ) → W over 0 n (at 3 [] (caller 10) false (Some 0) d b owned shared) v4
  unfolding calls_to
  leaves_it zero d b owned shared = tt
  leaves_it (suc n) d b owned shared = λ s done dispatch_ticks same. (i.Leave (pos 0), refl, (refl, record { inside = refl; outside = refl; words = λ v out. refl; free = tt; stands = returns n 0 dispatch_ticks owned s.shared }))

  -- a monitor without variables has none
  no_vars : (k : ℕ) (shared : List ℤ) (vars : Vars) → FreeHolds (meeting over) 0 shared vars → vars ≡ []
  no_vars k shared [] free = refl
  no_vars k shared (x ∷ xs) free = absurd free

  again : (n d b : ℕ) (owned shared : List ℤ) → W over 0 n (at 2 [] (caller 10) false None d b owned shared) v3
  unfolding calls_to reached
  again zero d b owned shared = tt
  again (suc n) d b owned shared = λ s done dispatch_ticks same. (i.Reenter (pos 0), refl, by_free s done dispatch_ticks (is_free 0 s.threads) refl) where
    by_free : (s : State) (done dispatch_ticks : ℕ) (is : Bool) → is_free 0 s.threads ≡ is
        → Agrees (c over 0) (W over 0 n) (FreeHolds (meeting over)) (RestHolds (meeting over) 0) s (at 2 [] (caller 10) false None done dispatch_ticks owned s.shared) v3 n3 n3.action (effects.enters is None 0 (at 3 [] (caller 10) false None 0 dispatch_ticks owned s.shared))
    by_free s done dispatch_ticks false is = tt
    by_free s done dispatch_ticks true is = (
      refl,
      is,
      record {
        monitor = record { base = 0; words = 0; ceiling = 1 };
        there = refl;
        reached = refl;
        outside = refl;
        inside = refl;
        words = refl;
        stands = λ vars free. subst (λ (x : Vars). W over 0 n (at 3 [] (caller 10) false (Some 0) 0 dispatch_ticks owned s.shared) (view n3.calls n3.process x false)) (sym (no_vars 0 s.shared vars free)) (leaves_it n 0 dispatch_ticks owned s.shared);
      },
    )

  ended_h : (n d b : ℕ) (owned shared : List ℤ) → W over 0 n (at 13 [] [] true None d b owned shared) vh2
  unfolding calls_to
  ended_h zero d b owned shared = tt
  ended_h (suc n) d b owned shared = λ s done dispatch_ticks same. (i.End, refl, record { outside = refl; rests = tt })

  put_h : (n d b : ℕ) (owned shared : List ℤ) → W over 0 n (at 12 (Value (pos 1) ∷ []) [] true None d b owned shared) vh
  unfolding calls_to
  put_h zero d b owned shared = tt
  put_h (suc n) d b owned shared = λ s done dispatch_ticks same. (i.Out (pos 0), refl, by_device s done dispatch_ticks (slice_get s.devices 0)) where
    by_device : (s : State) (done dispatch_ticks : ℕ) (o : Option ℤ)
        → Agrees (c over 0) (W over 0 n) (FreeHolds (meeting over)) (RestHolds (meeting over) 0) s (at 12 (Value (pos 1) ∷ []) [] true None done dispatch_ticks owned s.shared) vh nh nh.action (effects.put o (pos 0) (pos 1) (at 13 [] [] true None 0 dispatch_ticks owned s.shared))
    by_device s done dispatch_ticks None = tt
    by_device s done dispatch_ticks (Some x) = (refl, refl, record { stands = ended_h n 0 dispatch_ticks owned s.shared; inside = refl; words = λ v out. refl })

  handles : (n d b : ℕ) (owned shared : List ℤ) → W over 0 n (at 11 [] [] true None d b owned shared) vh
  unfolding calls_to
  handles zero d b owned shared = tt
  handles (suc n) d b owned shared = λ s done dispatch_ticks same. (i.Push (pos 1), refl, record { stands = put_h n 0 dispatch_ticks owned s.shared; inside = refl; words = λ v out. refl })

  waits_it : (n d b : ℕ) (owned shared : List ℤ) → W over 0 n (at 1 [] (caller 10) false (Some 0) d b owned shared) v2
  unfolding calls_to
  waits_it zero d b owned shared = tt
  waits_it (suc n) d b owned shared = λ s done dispatch_ticks same. (
    i.Wait (pos 0) (pos 30) (pos 10),
    refl,
    (
      refl,
      refl,
      refl,
      record {
        monitor = 0;
        leaves = record { inside = refl; outside = refl; words = λ v out. refl; free = tt; stands = again n 0 dispatch_ticks owned s.shared };
        late = handles n 0 dispatch_ticks owned s.shared;
      },
    ),
  )

  enters_it : (n d b : ℕ) (owned shared : List ℤ) → W over 0 n (at 0 [] (caller 10) false None d b owned shared) v1
  unfolding calls_to reached
  enters_it zero d b owned shared = tt
  enters_it (suc n) d b owned shared = λ s done dispatch_ticks same. (i.Enter (pos 0), refl, by_free s done dispatch_ticks (is_free 0 s.threads) refl) where
    by_free : (s : State) (done dispatch_ticks : ℕ) (is : Bool) → is_free 0 s.threads ≡ is
        → Agrees (c over 0) (W over 0 n) (FreeHolds (meeting over)) (RestHolds (meeting over) 0) s (at 0 [] (caller 10) false None done dispatch_ticks owned s.shared) v1 n1 n1.action (effects.enters is None 0 (at 1 [] (caller 10) false None 0 dispatch_ticks owned s.shared))
    by_free s done dispatch_ticks false is = tt
    by_free s done dispatch_ticks true is = (
      refl,
      is,
      record {
        monitor = record { base = 0; words = 0; ceiling = 1 };
        there = refl;
        reached = refl;
        outside = refl;
        inside = refl;
        words = refl;
        stands = λ vars free. subst (λ (x : Vars). W over 0 n (at 1 [] (caller 10) false (Some 0) 0 dispatch_ticks owned s.shared) (view n1.calls n1.process x false)) (sym (no_vars 0 s.shared vars free)) (waits_it n 0 dispatch_ticks owned s.shared);
      },
    )

  begins : (n d b : ℕ) (owned shared : List ℤ) → W over 0 n (at 9 [] [] false None d b owned shared) v1
  unfolding calls_to
  begins zero d b owned shared = tt
  begins (suc n) d b owned shared = λ s done dispatch_ticks same. (i.Call (pos 0), refl, record { stands = enters_it n 0 dispatch_ticks owned s.shared; inside = refl; words = λ v out. refl })

  right_0 : IsRight (c over 0) (FreeHolds (meeting over)) (RestHolds (meeting over) 0)
  right_0 = record { begins = tt; follows = following } where
    following : (n : ℕ) (s : State) (owned : List ℤ) (vars : Vars) → RestHolds (meeting over) 0 owned vars → W over 0 n (at 9 [] [] false None 0 (2 * over) owned s.shared) (view_released (text 0) vars)
    following n s owned [] rests = begins n 0 (2 * over) owned s.shared
    following n s owned (x ∷ xs) rests = absurd rests

-- ---- process 1: it calls the entry that signals

abbrev u1 : View
u1 = view_released (text 1) []

abbrev m1 : Next
m1 = next_of g (text 1) u1

abbrev u2 : View
u2 = view m1.calls m1.process [] false

abbrev m2 : Next
m2 = next_of g (text 1) u2

abbrev u3 : View
u3 = view m2.calls m2.process m2.monitor false

abbrev m3 : Next
m3 = next_of g (text 1) u3

abbrev u4 : View
u4 = view m3.calls m3.process [] false

module _ (over : ℕ) where
  ends_1 : (n d b : ℕ) (owned shared : List ℤ) → W over 1 n (at 15 [] [] false None d b owned shared) u4
  unfolding calls_to
  ends_1 zero d b owned shared = tt
  ends_1 (suc n) d b owned shared = λ s done dispatch_ticks same. (i.End, refl, record { outside = refl; rests = tt })

  returns_1 : (n d b : ℕ) (owned shared : List ℤ) → W over 1 n (at 8 [] (caller 15) false None d b owned shared) u4
  unfolding calls_to
  returns_1 zero d b owned shared = tt
  returns_1 (suc n) d b owned shared = λ s done dispatch_ticks same. (i.Return, refl, record { stands = ends_1 n 0 dispatch_ticks owned s.shared; inside = refl; words = λ v out. refl })

  leaves_1 : (n d b : ℕ) (owned shared : List ℤ) → W over 1 n (at 7 [] (caller 15) false (Some 0) d b owned shared) u3
  unfolding calls_to
  leaves_1 zero d b owned shared = tt
  leaves_1 (suc n) d b owned shared = λ s done dispatch_ticks same. (i.Leave (pos 0), refl, (refl, record { inside = refl; outside = refl; words = λ v out. refl; free = tt; stands = returns_1 n 0 dispatch_ticks owned s.shared }))

  signals_1 : (n d b : ℕ) (owned shared : List ℤ) → W over 1 n (at 6 [] (caller 15) false (Some 0) d b owned shared) u2
  unfolding calls_to
  signals_1 zero d b owned shared = tt
  signals_1 (suc n) d b owned shared = λ s done dispatch_ticks same. (i.Signal (pos 0), refl, by_queue s done dispatch_ticks (slice_get s.queues 0)) where
    by_queue : (s : State) (done dispatch_ticks : ℕ) (o : Option (List ℕ))
        → Agrees (c over 1) (W over 1 n) (FreeHolds (meeting over)) (RestHolds (meeting over) 1) s (at 6 [] (caller 15) false (Some 0) done dispatch_ticks owned s.shared) u2 m2 m2.action (effects.signal o (pos 0) (at 7 [] (caller 15) false (Some 0) 0 dispatch_ticks owned s.shared))
    by_queue s done dispatch_ticks None = tt
    by_queue s done dispatch_ticks (Some q) = (refl, record { stands = leaves_1 n 0 dispatch_ticks owned s.shared; inside = refl; words = λ v out. refl })

  enters_1 : (n d b : ℕ) (owned shared : List ℤ) → W over 1 n (at 5 [] (caller 15) false None d b owned shared) u1
  unfolding calls_to reached
  enters_1 zero d b owned shared = tt
  enters_1 (suc n) d b owned shared = λ s done dispatch_ticks same. (i.Enter (pos 0), refl, by_free s done dispatch_ticks (is_free 0 s.threads) refl) where
    by_free : (s : State) (done dispatch_ticks : ℕ) (is : Bool) → is_free 0 s.threads ≡ is
        → Agrees (c over 1) (W over 1 n) (FreeHolds (meeting over)) (RestHolds (meeting over) 1) s (at 5 [] (caller 15) false None done dispatch_ticks owned s.shared) u1 m1 m1.action (effects.enters is None 0 (at 6 [] (caller 15) false None 0 dispatch_ticks owned s.shared))
    by_free s done dispatch_ticks false is = tt
    by_free s done dispatch_ticks true is = (
      refl,
      is,
      record {
        monitor = record { base = 0; words = 0; ceiling = 1 };
        there = refl;
        reached = refl;
        outside = refl;
        inside = refl;
        words = refl;
        stands = λ vars free. subst (λ (x : Vars). W over 1 n (at 6 [] (caller 15) false (Some 0) 0 dispatch_ticks owned s.shared) (view m1.calls m1.process x false)) (sym (no_vars over 0 s.shared vars free)) (signals_1 n 0 dispatch_ticks owned s.shared);
      },
    )

  begins_1 : (n d b : ℕ) (owned shared : List ℤ) → W over 1 n (at 14 [] [] false None d b owned shared) u1
  unfolding calls_to
  begins_1 zero d b owned shared = tt
  begins_1 (suc n) d b owned shared = λ s done dispatch_ticks same. (i.Call (pos 1), refl, record { stands = enters_1 n 0 dispatch_ticks owned s.shared; inside = refl; words = λ v out. refl })

  right_1 : IsRight (c over 1) (FreeHolds (meeting over)) (RestHolds (meeting over) 1)
  right_1 = record { begins = tt; follows = following } where
    following : (n : ℕ) (s : State) (owned : List ℤ) (vars : Vars) → RestHolds (meeting over) 1 owned vars → W over 1 n (at 14 [] [] false None 0 (2 * over) owned s.shared) (view_released (text 1) vars)
    following n s owned [] rests = begins_1 n 0 (2 * over) owned s.shared
    following n s owned (x ∷ xs) rests = absurd rests

pub meeting_is_right : MeetingIsRight
meeting_is_right over zero p t a b at_p at_t emits =
    subst (λ (x : Process). IsRight (compiled_of (meeting over) 0 x t) (FreeHolds (meeting over)) (RestHolds (meeting over) 0)) (one_some refl at_p)
    (subst (λ (x : tree.Process). IsRight (compiled_of (meeting over) 0 (nth (meeting over).image.processes 0) x) (FreeHolds (meeting over)) (RestHolds (meeting over) 0)) (one_some refl at_t) (right_0 over))
meeting_is_right over (suc zero) p t a b at_p at_t emits =
    subst (λ (x : Process). IsRight (compiled_of (meeting over) 1 x t) (FreeHolds (meeting over)) (RestHolds (meeting over) 1)) (one_some refl at_p)
    (subst (λ (x : tree.Process). IsRight (compiled_of (meeting over) 1 (nth (meeting over).image.processes 1) x) (FreeHolds (meeting over)) (RestHolds (meeting over) 1)) (one_some refl at_t) (right_1 over))
meeting_is_right over (suc (suc k)) p t a b at_p at_t emits = absurd cc
