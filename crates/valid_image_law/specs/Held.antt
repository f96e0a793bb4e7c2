-- What the code keeps of a computation: costs up to their cap, and the depth up to 4,097.
use Rattle.std.specs.Prelude.{◌≡◌, ◌<◌, ℕ, Option, Some, max, min, option_map}
use Rattle.machine_isa.specs.declared.instr.Instr.{Instr}
use Rattle.valid_image.specs.Found.{Known, Found, amount, capped, plus, joined, chain, plain_step, arms, loop, call, ended}
use Rattle.valid_image.specs.Tables.{nothing_found}

abbrev pub held : Found → Found
held f = record { height = f.height; cost = capped f.cost; depth = min f.depth 4097 }

abbrev pub hold : Option Found → Option Found
hold x = option_map held x

-- a routine as the code knows it
abbrev pub held_known : Known → Known
held_known k = record { params = k.params; results = k.results; locals = k.locals; depth = min k.depth 4097; cost = capped k.cost }

-- one piece of the code and then another, as a loop from the left holds them
abbrev pub before : Found → Found → Found
before f g = record { height = g.height; cost = plus f.cost g.cost; depth = max f.depth g.depth }

-- The law: each step of the computation, held, is that of what was held; and so is a whole list of
-- segments.
pub record HoldingChangesNothing : Type 0 where
  pub in_chain : (x : Option Found) (next : ℕ → Option Found) → hold (chain x next) ≡ hold (chain (hold x) (λ h. hold (next h)))
  pub in_line : (instr : Option Instr) (h : ℕ) (next : ℕ → Option Found) → hold (plain_step instr h next) ≡ hold (plain_step instr h (λ k. hold (next k)))
  pub in_arms : (x y : Option Found) → hold (arms x y) ≡ hold (arms (hold x) (hold y))
  pub in_loop : (n h : ℕ) (x : Option Found) → 0 < n → hold (loop n h x) ≡ hold (loop n h (hold x))
  pub in_call : (h : ℕ) (k : Option Known) → hold (call h k) ≡ hold (call h (option_map held_known k))
  pub at_end : (n : ℕ) (x : Option Found) → hold (ended n x) ≡ ended n (hold x)
  -- a loop from the left: what came before stands in front, held after each step
  pub at_start : (x : Option Found) → hold (joined nothing_found x) ≡ hold x
  pub in_front : (f g : Found) (x : Option Found) → hold (joined f (joined g x)) ≡ hold (joined (held (before f g)) x)
  pub at_last : (f : Found) (h : ℕ) → hold (joined f (Some (record { height = h; cost = amount 0 0 0; depth = 0 }))) ≡ Some (held (record { height = h; cost = f.cost; depth = f.depth }))
