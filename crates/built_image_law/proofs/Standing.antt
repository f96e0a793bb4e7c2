-- Where the routines, monitors and processes of the plain tree stand in the placed one.
use Rattle.std.proofs.Common.{◌≡◌, ℕ, zero, suc, inl, inr, List, [], ◌∷◌, map, Some, refl}
use Rattle.std.specs.Prelude.{filter_map, slice_get}
use Rattle.std.proofs.lemmas.Option.{none-some, same_Some}
use Rattle.syntax_tree.specs.Plain as plain_of
use Rattle.syntax_tree.specs.Placed.{Routine, Monitor, Process, Decl, constant, device, event, routine, monitor, process, plain_routine, plain_monitor, plain_process, plain_decl}
use Rattle.syntax_tree.specs.declared.place.Place.{Place}
use Rattle.source_semantics.specs.Names.{routine_in, monitor_in, process_in}
use Rattle.wellformed_law.proofs.Members.{In}

-- one that stands so in the plain tree
pub record Placed {X Y : Type 0} (plain : X → Y) (Stands : X → Type 0) (y : Y) : Type 0 where
  pub one : X
  pub stands : Stands one
  pub is : plain one ≡ y

pub mapped_at : {X Y : Type 0} (f : X → Y) (xs : List X) (k : ℕ) (y : Y) → slice_get (map f xs) k ≡ Some y → Placed f (In xs) y
mapped_at f [] k y e = absurd (none-some y e)
mapped_at f (x ∷ xs) zero y e = record { one = x; stands = inl refl; is = same_Some (f x) y e }
mapped_at f (x ∷ xs) (suc k) y e = let p = mapped_at f xs k y e in record { one = p.one; stands = inr p.stands; is = p.is }

later : {X Y : Type 0} (plain : X → Y) (decl : X → Decl Place) (d : Decl Place) (ds : List (Decl Place)) (y : Y) → Placed plain (λ x. In ds (decl x)) y → Placed plain (λ x. In (d ∷ ds) (decl x)) y
later plain decl d ds y p = record { one = p.one; stands = inr p.stands; is = p.is }

pub routine_at : (ds : List (Decl Place)) (k : ℕ) (r : plain_of.Routine) → slice_get (filter_map routine_in (map plain_decl ds)) k ≡ Some r → Placed plain_routine (λ x. In ds (routine x)) r
routine_at [] k r e = absurd (none-some r e)
routine_at (routine s ∷ ds) zero r e = record { one = s; stands = inl refl; is = same_Some (plain_routine s) r e }
routine_at (routine s ∷ ds) (suc k) r e = later plain_routine (λ x. routine x) (routine s) ds r (routine_at ds k r e)
routine_at (constant n q c ∷ ds) k r e = later plain_routine (λ x. routine x) (constant n q c) ds r (routine_at ds k r e)
routine_at (device n q b ∷ ds) k r e = later plain_routine (λ x. routine x) (device n q b) ds r (routine_at ds k r e)
routine_at (event n q ∷ ds) k r e = later plain_routine (λ x. routine x) (event n q) ds r (routine_at ds k r e)
routine_at (monitor m ∷ ds) k r e = later plain_routine (λ x. routine x) (monitor m) ds r (routine_at ds k r e)
routine_at (process p ∷ ds) k r e = later plain_routine (λ x. routine x) (process p) ds r (routine_at ds k r e)

pub monitor_at : (ds : List (Decl Place)) (k : ℕ) (m : plain_of.Monitor) → slice_get (filter_map monitor_in (map plain_decl ds)) k ≡ Some m → Placed plain_monitor (λ x. In ds (monitor x)) m
monitor_at [] k r e = absurd (none-some r e)
monitor_at (monitor m ∷ ds) zero r e = record { one = m; stands = inl refl; is = same_Some (plain_monitor m) r e }
monitor_at (monitor m ∷ ds) (suc k) r e = later plain_monitor (λ x. monitor x) (monitor m) ds r (monitor_at ds k r e)
monitor_at (constant n q c ∷ ds) k r e = later plain_monitor (λ x. monitor x) (constant n q c) ds r (monitor_at ds k r e)
monitor_at (device n q b ∷ ds) k r e = later plain_monitor (λ x. monitor x) (device n q b) ds r (monitor_at ds k r e)
monitor_at (event n q ∷ ds) k r e = later plain_monitor (λ x. monitor x) (event n q) ds r (monitor_at ds k r e)
monitor_at (routine s ∷ ds) k r e = later plain_monitor (λ x. monitor x) (routine s) ds r (monitor_at ds k r e)
monitor_at (process p ∷ ds) k r e = later plain_monitor (λ x. monitor x) (process p) ds r (monitor_at ds k r e)

pub process_at : (ds : List (Decl Place)) (k : ℕ) (p : plain_of.Process) → slice_get (filter_map process_in (map plain_decl ds)) k ≡ Some p → Placed plain_process (λ x. In ds (process x)) p
process_at [] k r e = absurd (none-some r e)
process_at (process p ∷ ds) zero r e = record { one = p; stands = inl refl; is = same_Some (plain_process p) r e }
process_at (process p ∷ ds) (suc k) r e = later plain_process (λ x. process x) (process p) ds r (process_at ds k r e)
process_at (constant n q c ∷ ds) k r e = later plain_process (λ x. process x) (constant n q c) ds r (process_at ds k r e)
process_at (device n q b ∷ ds) k r e = later plain_process (λ x. process x) (device n q b) ds r (process_at ds k r e)
process_at (event n q ∷ ds) k r e = later plain_process (λ x. process x) (event n q) ds r (process_at ds k r e)
process_at (routine s ∷ ds) k r e = later plain_process (λ x. process x) (routine s) ds r (process_at ds k r e)
process_at (monitor m ∷ ds) k r e = later plain_process (λ x. process x) (monitor m) ds r (process_at ds k r e)
