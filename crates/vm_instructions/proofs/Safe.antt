-- What an instruction that is not stuck finds.
use Rattle.std.proofs.Common.{◌≡◌, ◌≤◌, ◌<◌, ◌+◌, ◌-◌, ℕ, zero, suc, List, [], ◌∷◌, Bool, true, false, Option, Some, None, length, reverse, take, refl, ap, sym, subst, ◌∙◌, arith}
use Rattle.std.specs.Prelude.{unsigned_abs, ℤ, pos, negsuc, ◌+ℤ◌, ◌-ℤ◌, cond, slice_get, IsSome}
use Rattle.std.proofs.lemmas.Option.{slice_get_within}
use Rattle.std.proofs.lemmas.List.{length-append, length-map, length-reverse, length-take}
use Rattle.machine_isa.specs.declared.instr.Instr.{Instr}
use Rattle.machine_isa.specs.declared.instr.Instr.TheVariants as i
use Rattle.machine_semantics.specs.Image.{Image, Routine}
use Rattle.machine_semantics.specs.State.{Job, Caller, Operand, Value, Counter, zeros, stack_below}
use Rattle.machine_semantics.specs.Effect.{Own, Outcome, Raises, Stuck, effect, load, store, word_at, take_one, one, element, set_own, set_local, set_shared, load_mon, store_mon, holding, count_from, give, back, is_reached, arguments, called, call}
use Rattle.vm_instructions.specs.Frames.{IsValueFirst, operand_of, used}
use Rattle.vm_instructions.specs.Stack.{Fits, own_in, stacked}
use Rattle.vm_instructions.specs.declared.cursor.Cursor.{Cursor}
use Rattle.vm_instructions.specs.declared.operand.Operand.{Operand as Row}
use Rattle.vm_instructions.specs.declared.calls.RoutineHeader.{RoutineHeader as Called}
use Rattle.vm_instructions.specs.Steps.{HasRoutine, HasWord, IsRoutine, ReachesFirst, ReachesLast, ReachesMonFirst, ReachesMonLast, is_inside_array}
use Rattle.vm_stretch.specs.Silent.{IsWithin, is_silent, nowhere}
use Rattle.vm_instructions.specs.declared.activation.Activation.{Activation as Kept}
use Rattle.vm_instructions.specs.Silent.{IsCalled, IsOf, IsSafe, own_of}

-- it is one that nobody sees
pub safe_at : (image : Image) (given instr : Instr) (o : Own) (room : ℕ) → given ≡ instr → is_silent instr ≡ true → IsSafe image given o room → IsWithin room (effect image nowhere instr o)
safe_at image given instr o room is silent safe =
    let h : IsSafe image instr o room = subst (λ (x : Instr). IsSafe image x o room) is safe in h silent

inside_if : (b : Bool) (room : ℕ) (out : Outcome) → IsWithin room (cond b out (Raises 3)) → b ≡ true → IsWithin room out
inside_if true room out safe is = safe
inside_if false room out safe is = absurd cc

unstuck_if : (b : Bool) (room : ℕ) (out : Outcome) → IsWithin room (cond b out Stuck) → (b ≡ true) × IsWithin room out
unstuck_if true room out safe = (refl, safe)
unstuck_if false room out safe = absurd safe

has_load : (words : List ℤ) (z : ℤ) (room : ℕ) (o : Own) → IsWithin room (load (word_at words z) o) → HasWord words z
has_load words (negsuc n) room o safe = safe
has_load words (pos n) room o safe = in_row (slice_get words n) refl safe where
  in_row : (x : Option ℤ) → slice_get words n ≡ x → IsWithin room (load x o) → n < length words
  in_row (Some y) at ok = slice_get_within words n y at
  in_row None at ok = absurd ok

has_store : (words : List ℤ) (z : ℤ) (room : ℕ) (o : Own) → IsWithin room (store (word_at words z) o) → HasWord words z
has_store words (negsuc n) room o safe = safe
has_store words (pos n) room o safe = in_row (slice_get words n) refl safe where
  in_row : (x : Option ℤ) → slice_get words n ≡ x → IsWithin room (store x o) → n < length words
  in_row (Some y) at ok = slice_get_within words n y at
  in_row None at ok = absurd ok

-- one operand, which is a value
record One (room : ℕ) (os : List Operand) (o : Own) (go : ℤ → Own → Outcome) : Type 0 where
  pub x : ℤ
  pub rest : List Operand
  pub is : os ≡ Value x ∷ rest
  pub safe : IsWithin room (go x (holding rest o))

one_of : (room : ℕ) (os : List Operand) (o : Own) (go : ℤ → Own → Outcome) → IsWithin room (take_one os o go) → One room os o go
one_of room [] o go safe = absurd safe
one_of room (Counter n ∷ rest) o go safe = absurd safe
one_of room (Value x ∷ rest) o go safe = record { x = x; rest = rest; is = refl; safe = safe }

-- the last operand is an index, at which this is done
last_of : (words : List ℤ) (room : ℕ) (os : List Operand) (o : Own) (w low len : ℤ) (go : ℤ → Own → Outcome) → ((e : ℤ) (rest : List Operand) → IsWithin room (go e (holding rest o)) → HasWord words e)
    → IsWithin room (take_one os o (λ x p. element w low len x (λ e. go e p))) → ReachesLast words w low len os
last_of words room os o w low len go there safe =
    let a = one_of room os o (λ x p. element w low len x (λ e. go e p)) safe in
    subst (λ (xs : List Operand). ReachesLast words w low len xs) (sym a.is) (λ inside. there (w +ℤ (a.x -ℤ low)) a.rest (inside_if (is_inside_array low len a.x) room (go (w +ℤ (a.x -ℤ low)) (holding a.rest o)) a.safe inside))

-- the first of the last two is
first_of : (words : List ℤ) (room : ℕ) (os : List Operand) (o : Own) (w low len : ℤ) (go : ℤ → ℤ → Own → Outcome) → ((e y : ℤ) (rest : List Operand) → IsWithin room (go e y (holding rest o)) → HasWord words e)
    → IsWithin room (take_one os o (λ y p. one p (λ x q. element w low len x (λ e. go e y q)))) → ReachesFirst words w low len os
first_of words room os o w low len go there safe =
    let a = one_of room os o (λ y p. one p (λ x q. element w low len x (λ e. go e y q))) safe in
    let b = one_of room a.rest (holding a.rest o) (λ x q. element w low len x (λ e. go e a.x q)) a.safe in
    let is : os ≡ Value a.x ∷ (Value b.x ∷ b.rest) = a.is ∙ ap (λ (xs : List Operand). Value a.x ∷ xs) b.is in
    subst (λ (xs : List Operand). ReachesFirst words w low len xs) (sym is)
    (λ inside. there (w +ℤ (b.x -ℤ low)) a.x b.rest (inside_if (is_inside_array low len b.x) room (go (w +ℤ (b.x -ℤ low)) a.x (holding b.rest (holding a.rest o))) b.safe inside))

mon_last_of : (image : Image) (room : ℕ) (os : List Operand) (o : Own) (w low len : ℤ) (go : ℤ → Own → Outcome) → ((e : ℤ) (rest : List Operand) → IsWithin room (go e (holding rest o)) → is_reached image o.job.inside e ≡ true)
    → IsWithin room (take_one os o (λ x p. element w low len x (λ e. go e p))) → ReachesMonLast image o.job.inside w low len os
mon_last_of image room os o w low len go there safe =
    let a = one_of room os o (λ x p. element w low len x (λ e. go e p)) safe in
    subst (λ (xs : List Operand). ReachesMonLast image o.job.inside w low len xs) (sym a.is) (λ inside. there (w +ℤ (a.x -ℤ low)) a.rest (inside_if (is_inside_array low len a.x) room (go (w +ℤ (a.x -ℤ low)) (holding a.rest o)) a.safe inside))

mon_first_of : (image : Image) (room : ℕ) (os : List Operand) (o : Own) (w low len : ℤ) (go : ℤ → ℤ → Own → Outcome) → ((e y : ℤ) (rest : List Operand) → IsWithin room (go e y (holding rest o)) → is_reached image o.job.inside e ≡ true)
    → IsWithin room (take_one os o (λ y p. one p (λ x q. element w low len x (λ e. go e y q)))) → ReachesMonFirst image o.job.inside w low len os
mon_first_of image room os o w low len go there safe =
    let a = one_of room os o (λ y p. one p (λ x q. element w low len x (λ e. go e y q))) safe in
    let b = one_of room a.rest (holding a.rest o) (λ x q. element w low len x (λ e. go e a.x q)) a.safe in
    let is : os ≡ Value a.x ∷ (Value b.x ∷ b.rest) = a.is ∙ ap (λ (xs : List Operand). Value a.x ∷ xs) b.is in
    subst (λ (xs : List Operand). ReachesMonFirst image o.job.inside w low len xs) (sym is)
    (λ inside. there (w +ℤ (b.x -ℤ low)) a.x b.rest (inside_if (is_inside_array low len b.x) room (go (w +ℤ (b.x -ℤ low)) a.x (holding b.rest (holding a.rest o))) b.safe inside))

-- ---- by instruction, where the innermost frame is at hand

-- one operand more has a place in the row
has_place : (room top : ℕ) (j : Job) (stack : List Row) (locals : List ℤ) → Fits room j top stack locals → length locals + suc (length (stacked top stack)) + stack_below j.callers ≤ room → top < length stack
has_place room top j stack locals fits more = omega (arith, fits.0, fits.1, more, length-map (reverse (take top stack)) operand_of, length-reverse (take top stack), length-take top stack)

gives_place : (room top : ℕ) (j : Job) (at : Cursor) (stack : List Row) (locals owned shared : List ℤ) (x : Option ℤ) → Fits room j at.top stack locals → IsWithin room (load x (own_in j at stack locals owned shared)) → at.top < length stack
gives_place room top j at stack locals owned shared (Some z) fits safe = has_place room at.top j stack locals fits safe
gives_place room top j at stack locals owned shared None fits safe = absurd safe

counts_place : (room top : ℕ) (j : Job) (at : Cursor) (stack : List Row) (locals owned shared : List ℤ) (turns : ℤ) → Fits room j at.top stack locals → IsWithin room (count_from turns (own_in j at stack locals owned shared)) → at.top < length stack
counts_place room top j at stack locals owned shared (pos n) fits safe = has_place room at.top j stack locals fits safe
counts_place room top j at stack locals owned shared (negsuc n) fits safe = absurd safe

module _ (image : Image) (given : Instr) (j : Job) (at : Cursor) (stack : List Row) (locals owned shared : List ℤ) (room : ℕ) where
  abbrev o : Own
  o = own_in j at stack locals owned shared

  pub push_place : (z : ℤ) → given ≡ i.Push z → IsSafe image given o room → Fits room j at.top stack locals → at.top < length stack
  push_place z is safe fits = has_place room at.top j stack locals fits (safe_at image given (i.Push z) o room is refl safe)

  pub load_local_place : (w : ℤ) → given ≡ i.LoadLocal w → IsSafe image given o room → Fits room j at.top stack locals → at.top < length stack
  load_local_place w is safe fits = gives_place room at.top j at stack locals owned shared (word_at locals w) fits (safe_at image given (i.LoadLocal w) o room is refl safe)

  pub load_own_place : (w : ℤ) → given ≡ i.LoadOwn w → IsSafe image given o room → Fits room j at.top stack locals → at.top < length stack
  load_own_place w is safe fits = gives_place room at.top j at stack locals owned shared (word_at owned w) fits (safe_at image given (i.LoadOwn w) o room is refl safe)

  pub load_mon_place : (w : ℤ) → given ≡ i.LoadMon w → IsSafe image given o room → Fits room j at.top stack locals → at.top < length stack
  load_mon_place w is safe fits =
      gives_place room at.top j at stack locals owned shared (word_at shared w) fits (unstuck_if (is_reached image o.job.inside w) room (load (word_at shared w) o) (safe_at image given (i.LoadMon w) o room is refl safe)).1

  pub repeats_place : (turns : ℤ) → given ≡ i.Repeats turns → IsSafe image given o room → Fits room j at.top stack locals → at.top < length stack
  repeats_place turns is safe fits = counts_place room at.top j at stack locals owned shared turns fits (safe_at image given (i.Repeats turns) o room is refl safe)

  pub load_local_at : (w low len : ℤ) → given ≡ i.LoadLocalAt w low len → IsSafe image given o room → ReachesLast locals w low len (stacked at.top stack)
  load_local_at w low len is safe =
      last_of locals room (stacked at.top stack) o w low len (λ e p. load (word_at p.job.locals e) p) (λ e rest h. has_load locals e room (holding rest o) h) (safe_at image given (i.LoadLocalAt w low len) o room is refl safe)

  pub store_local_at : (w low len : ℤ) → given ≡ i.StoreLocalAt w low len → IsSafe image given o room → ReachesFirst locals w low len (stacked at.top stack)
  store_local_at w low len is safe =
      first_of locals room (stacked at.top stack) o w low len (λ e y p. store (word_at p.job.locals e) (set_local e y p)) (λ e y rest h. has_store locals e room (set_local e y (holding rest o)) h) (safe_at image given (i.StoreLocalAt w low len) o room is refl safe)

  pub load_own_at : (w low len : ℤ) → given ≡ i.LoadOwnAt w low len → IsSafe image given o room → ReachesLast owned w low len (stacked at.top stack)
  load_own_at w low len is safe =
      last_of owned room (stacked at.top stack) o w low len (λ e p. load (word_at p.owned e) p) (λ e rest h. has_load owned e room (holding rest o) h) (safe_at image given (i.LoadOwnAt w low len) o room is refl safe)

  pub store_own_at : (w low len : ℤ) → given ≡ i.StoreOwnAt w low len → IsSafe image given o room → ReachesFirst owned w low len (stacked at.top stack)
  store_own_at w low len is safe =
      first_of owned room (stacked at.top stack) o w low len (λ e y p. store (word_at p.owned e) (set_own e y p)) (λ e y rest h. has_store owned e room (set_own e y (holding rest o)) h) (safe_at image given (i.StoreOwnAt w low len) o room is refl safe)

  pub load_mon_at : (w low len : ℤ) → given ≡ i.LoadMonAt w low len → IsSafe image given o room → ReachesLast shared w low len (stacked at.top stack) × ReachesMonLast image o.job.inside w low len (stacked at.top stack)
  load_mon_at w low len is safe =
      let h = safe_at image given (i.LoadMonAt w low len) o room is refl safe in (
        last_of shared room (stacked at.top stack) o w low len (λ e p. load_mon image e p) (λ e rest k. has_load shared e room (holding rest o) (unstuck_if (is_reached image o.job.inside e) room (load (word_at shared e) (holding rest o)) k).1) h,
        mon_last_of image room (stacked at.top stack) o w low len (λ e p. load_mon image e p) (λ e rest k. (unstuck_if (is_reached image o.job.inside e) room (load (word_at shared e) (holding rest o)) k).0) h,
      )

  pub store_mon_at : (w low len : ℤ) → given ≡ i.StoreMonAt w low len → IsSafe image given o room → ReachesFirst shared w low len (stacked at.top stack) × ReachesMonFirst image o.job.inside w low len (stacked at.top stack)
  store_mon_at w low len is safe =
      let h = safe_at image given (i.StoreMonAt w low len) o room is refl safe in (
        first_of shared room (stacked at.top stack) o w low len (λ e y p. store_mon image e y p) (λ e y rest k. has_store shared e room (set_shared e y (holding rest o)) (unstuck_if (is_reached image o.job.inside e) room (store (word_at shared e) (set_shared e y (holding rest o))) k).1) h,
        mon_first_of image room (stacked at.top stack) o w low len (λ e y p. store_mon image e y p) (λ e y rest k. (unstuck_if (is_reached image o.job.inside e) room (store (word_at shared e) (set_shared e y (holding rest o))) k).0) h,
      )

  pub load_mon_reached : (w : ℤ) → given ≡ i.LoadMon w → IsSafe image given o room → is_reached image o.job.inside w ≡ true
  load_mon_reached w is safe = (unstuck_if (is_reached image o.job.inside w) room (load (word_at shared w) o) (safe_at image given (i.LoadMon w) o room is refl safe)).0

  pub store_mon_reached : (w : ℤ) → given ≡ i.StoreMon w → IsSafe image given o room → is_reached image o.job.inside w ≡ true
  store_mon_reached w is safe =
      let a = one_of room (stacked at.top stack) o (λ x p. store_mon image w x p) (safe_at image given (i.StoreMon w) o room is refl safe) in
      (unstuck_if (is_reached image o.job.inside w) room (store (word_at shared w) (set_shared w a.x (holding a.rest o))) a.safe).0

-- ---- calls

-- the routine that is called, and what its arguments are taken from
pub record Calls (image : Image) (routines : List Called) (number : ℤ) (job : Kept) : Type 0 where
  pub n : ℕ
  pub is : number ≡ pos n
  pub r : Called
  pub there : slice_get routines n ≡ Some r
  pub known : IsRoutine image number r
  pub order : r.params ≤ r.locals
  pub taken : IsSome (arguments r.params job.frames.operands [])
  pub room : used job.frames + 2 + r.locals ≤ job.frames.room + r.params

taken_rest : (n : ℕ) (os : List Operand) (xs : List ℤ) (r : List ℤ × List Operand) → arguments n os xs ≡ Some r → (length r.0 ≡ n + length xs) × (n + length r.1 ≡ length os)
taken_rest zero os xs r is = let e : (xs, os) ≡ r = cc in (omega (arith, ap (λ (p : List ℤ × List Operand). length p.0) e), omega (arith, ap (λ (p : List ℤ × List Operand). length p.1) e))
taken_rest (suc n) [] xs r is = absurd cc
taken_rest (suc n) (Counter c ∷ os) xs r is = absurd cc
taken_rest (suc n) (Value x ∷ os) xs r is = let h = taken_rest n os (x ∷ xs) r is in (omega (arith, h.0), omega (arith, h.1))

pub length-zeros : (n : ℕ) → length (zeros n) ≡ n
length-zeros zero = refl
length-zeros (suc n) = ap suc (length-zeros n)

calls_whole : (image : Image) (routines : List Called) (n : ℕ) (job : Kept) (owned shared : List ℤ) (whole : Routine) (r : Called) → slice_get image.routines n ≡ Some whole → slice_get routines n ≡ Some r → IsCalled whole r
    → (a : Option (List ℤ × List Operand)) → arguments whole.params job.frames.operands [] ≡ a → IsWithin job.frames.room (called whole a (own_of job owned shared)) → Calls image routines (pos n) job
calls_whole image routines n job owned shared whole r at there is None taken safe = absurd safe
calls_whole image routines n job owned shared whole r at there is (Some a) taken safe =
    let with : arguments r.params job.frames.operands [] ≡ Some a = ap (λ (k : ℕ). arguments k job.frames.operands []) (sym is.params) ∙ taken in
    record {
      n = n;
      is = refl;
      r = r;
      there = there;
      known = record { whole = whole; there = at; params = is.params; locals = is.locals; start = is.start };
      order = is.order;
      taken = subst (λ (x : Option (List ℤ × List Operand)). IsSome x) (sym with) refl;
      room = let h = taken_rest r.params job.frames.operands [] a with in omega (arith, safe, h.0, h.1, is.params, is.locals, is.order, length-append a.0 (zeros (whole.locals - whole.params)), length-zeros (whole.locals - whole.params));
    }

pub calls_of : (image : Image) (code : List Instr) (routines : List Called) (given : Instr) (number : ℤ) (job : Kept) (owned shared : List ℤ) → IsOf image code routines → given ≡ i.Call number → IsSafe image given (own_of job owned shared) job.frames.room → Calls image routines number job
calls_of image code routines given (negsuc n) job owned shared of is safe = absurd (safe_at image given (i.Call (negsuc n)) (own_of job owned shared) job.frames.room is refl safe)
calls_of image code routines given (pos n) job owned shared of is safe = by (slice_get image.routines n) refl (safe_at image given (i.Call (pos n)) (own_of job owned shared) job.frames.room is refl safe) where
  by : (x : Option Routine) → slice_get image.routines n ≡ x → IsWithin job.frames.room (call x (own_of job owned shared)) → Calls image routines (pos n) job
  by None at h = absurd h
  by (Some whole) at h = let r = of.routine_is n whole at in calls_whole image routines n job owned shared whole r.0 at r.1 r.2 (arguments whole.params job.frames.operands []) refl h

pub has_routine : (image : Image) (routines : List Called) (number : ℤ) (job : Kept) → Calls image routines number job → HasRoutine routines number
has_routine image routines number job calls = subst (λ (z : ℤ). HasRoutine routines z) (sym calls.is) (slice_get_within routines calls.n calls.r calls.there)

-- the routine that was found is the one that is called
pub record Found (image : Image) (number : ℤ) (r : Called) (job : Kept) : Type 0 where
  pub known : IsRoutine image number r
  pub order : r.params ≤ r.locals
  pub taken : IsSome (arguments r.params job.frames.operands [])
  pub room : used job.frames + 2 + r.locals ≤ job.frames.room + r.params

pub found : (image : Image) (routines : List Called) (number : ℤ) (job : Kept) (r : Called) → Calls image routines number job → slice_get routines (unsigned_abs number) ≡ Some r → Found image number r job
found image routines number job r calls at =
    let at_n : slice_get routines calls.n ≡ Some r = ap (λ (z : ℤ). slice_get routines (unsigned_abs z)) (sym calls.is) ∙ at in
    let same : calls.r ≡ r = cc (calls.there, at_n) in
    let f : Found image number calls.r job = record { known = calls.known; order = calls.order; taken = calls.taken; room = calls.room } in
    subst (λ (x : Called). Found image number x job) same f

-- ---- back to the caller

has_caller : (room : ℕ) (cs : List Caller) (o : Own) (go : Own → Own) → IsWithin room (back cs o go) → 0 < length cs
has_caller room [] o go safe = absurd safe
has_caller room (c ∷ cs) o go safe = omega arith

pub ret_called : (image : Image) (o : Own) (room : ℕ) → IsSafe image i.Return o room → 0 < length o.job.callers
ret_called image o room safe = has_caller room o.job.callers o (λ p. p) (safe refl)

pub ret_value_found : (image : Image) (o : Own) (room : ℕ) → IsSafe image i.ReturnValue o room → IsValueFirst o.job.operands × (0 < length o.job.callers)
ret_value_found image o room safe =
    let a = one_of room o.job.operands o (λ x p. back p.job.callers p (give x)) (safe refl) in
    (subst (λ (os : List Operand). IsValueFirst os) (sym a.is) tt, has_caller room o.job.callers (holding a.rest o) (give a.x) a.safe)
