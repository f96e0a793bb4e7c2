-- What a silent instruction leaves as it was: the monitor that the process is inside, whether it handles, and all words out of its reach.
use Rattle.std.specs.Prelude.{◌≡◌, ◌&&◌, ◌-ℤ◌, ℕ, zero, suc, Bool, true, false, cond, List, [], ◌∷◌, Option, Some, None, ℤ, pos, negsuc, ◌+ℤ◌, int_le, int_lt, slice_get}
use Rattle.std.proofs.Common.{refl, sym, ◌∙◌, ap, subst}
use Rattle.std.proofs.lemmas.Bool.{both_ways}
use Rattle.base.specs.Words.{Answer, word, raised, is_zero, within, sum, difference, product, negated, quotient, remainder}
use Rattle.machine_isa.specs.declared.instr.Instr.{Instr}
use Rattle.machine_isa.specs.declared.instr.Instr.TheVariants as i
use Rattle.machine_semantics.specs.Image.{Image, Routine}
use Rattle.machine_semantics.specs.State.{Operand, Value, Counter, Caller, State, is_free, is_inside}
use Rattle.machine_semantics.specs.Effect as table
use Rattle.machine_semantics.specs.Effect.{Own, Outcome, Goes, Does, Signals, Broadcasts, Waits, Raises, Ends, Stuck, effect, is_reached}
use Rattle.code_spec.specs.Boundary.{SameOutside}
use Rattle.code_correct.proofs.Stores.{get_set_other}

pub record Kept (image : Image) (o p : Own) : Type 0 where
  pub inside : p.job.inside ≡ o.job.inside
  pub handling : p.job.handling ≡ o.job.handling
  pub words : SameOutside image o.job.inside o.shared p.shared

abbrev pub Quiet : Image → Own → Outcome → Type 0
Quiet image o (Goes p) = Kept image o p
Quiet image o r = Unit {0}

module _ (image : Image) (o : Own) where
  take_quiet : (ops : List Operand) (p : Own) (go : ℤ → Own → Outcome) → Kept image o p → ((x : ℤ) (q : Own) → Kept image o q → Quiet image o (go x q)) → Quiet image o (table.take_one ops p go)
  take_quiet [] p go k h = tt
  take_quiet (Value x ∷ ops) p go k h = h x (table.holding ops p) (record { inside = k.inside; handling = k.handling; words = k.words })
  take_quiet (Counter n ∷ ops) p go k h = tt

  one_quiet : (p : Own) (go : ℤ → Own → Outcome) → Kept image o p → ((x : ℤ) (q : Own) → Kept image o q → Quiet image o (go x q)) → Quiet image o (table.one p go)
  one_quiet p go k h = take_quiet p.job.operands p go k h

  two_quiet : (p : Own) (go : ℤ → ℤ → Own → Outcome) → Kept image o p → ((x y : ℤ) (q : Own) → Kept image o q → Quiet image o (go x y q)) → Quiet image o (table.two p go)
  two_quiet p go k h = one_quiet p (λ y q. table.one q (λ x r. go x y r)) k (λ y q l. one_quiet q (λ x r. go x y r) l (λ x r m. h x y r m))

  if_quiet : (b : Bool) (x y : Outcome) → Quiet image o x → Quiet image o y → Quiet image o (cond b x y)
  if_quiet true x y h k = h
  if_quiet false x y h k = k

  answer_quiet : (a : Answer) (p : Own) → Kept image o p → Quiet image o (table.answer a p)
  answer_quiet (word v) p k = record { inside = k.inside; handling = k.handling; words = k.words }
  answer_quiet (raised n) p k = tt

  load_quiet : (a : Option ℤ) (p : Own) → Kept image o p → Quiet image o (table.load a p)
  load_quiet (Some v) p k = record { inside = k.inside; handling = k.handling; words = k.words }
  load_quiet None p k = tt

  store_quiet : (a : Option ℤ) (p : Own) → Kept image o p → Quiet image o (table.store a p)
  store_quiet (Some v) p k = k
  store_quiet None p k = tt

  local_quiet : (w z : ℤ) (p : Own) → Kept image o p → Quiet image o (table.store (table.word_at p.job.locals w) (table.set_local w z p))
  local_quiet (pos n) z p k = store_quiet (slice_get p.job.locals n) (table.set_local (pos n) z p) (record { inside = k.inside; handling = k.handling; words = k.words })
  local_quiet (negsuc n) z p k = tt

  own_quiet : (w z : ℤ) (p : Own) → Kept image o p → Quiet image o (table.store (table.word_at p.owned w) (table.set_own w z p))
  own_quiet (pos n) z p k = store_quiet (slice_get p.owned n) (table.set_own (pos n) z p) (record { inside = k.inside; handling = k.handling; words = k.words })
  own_quiet (negsuc n) z p k = tt

  load_mon_quiet : (w : ℤ) (p : Own) → Kept image o p → Quiet image o (table.load_mon image w p)
  load_mon_quiet w p k = if_quiet (is_reached image p.job.inside w) _ _ (load_quiet (table.word_at p.shared w) p k) tt

  store_mon_quiet : (w z : ℤ) (p : Own) → Kept image o p → Quiet image o (table.store_mon image w z p)
  store_mon_quiet (negsuc n) z p k = if_quiet (is_reached image p.job.inside (negsuc n)) _ _ tt tt
  store_mon_quiet (pos n) z p k = by_case (is_reached image p.job.inside (pos n)) refl
    where
      by_case : (b : Bool) → is_reached image p.job.inside (pos n) ≡ b → Quiet image o (cond b (table.store (slice_get p.shared n) (table.set_shared (pos n) z p)) Stuck)
      by_case false e = tt
      by_case true e =
          store_quiet (slice_get p.shared n) (table.set_shared (pos n) z p)
          (record {
            inside = k.inside;
            handling = k.handling;
            words = λ w out. get_set_other p.shared n w z (λ same. both_ways (is_reached image o.job.inside (pos w)) out (ap (λ t. is_reached image t (pos w)) (sym k.inside) ∙ (ap (λ t. is_reached image p.job.inside (pos t)) same ∙ e))) ∙ k.words w out;
          })

  element_quiet : (w low len x : ℤ) (go : ℤ → Outcome) → ((e : ℤ) → Quiet image o (go e)) → Quiet image o (table.element w low len x go)
  element_quiet w low len x go h = if_quiet (int_le (pos 0) (x -ℤ low) && int_lt (x -ℤ low) len) _ _ (h (w +ℤ (x -ℤ low))) tt

  go_quiet : (t : ℤ) (p : Own) → Kept image o p → Quiet image o (table.go_to t p)
  go_quiet (pos n) p k = record { inside = k.inside; handling = k.handling; words = k.words }
  go_quiet (negsuc n) p k = tt

  from_quiet : (t : ℤ) (p : Own) → Kept image o p → Quiet image o (table.count_from t p)
  from_quiet (pos n) p k = record { inside = k.inside; handling = k.handling; words = k.words }
  from_quiet (negsuc n) p k = tt

  down_quiet : (ops : List Operand) (t : ℤ) (p : Own) → Kept image o p → Quiet image o (table.count_down ops t p)
  down_quiet [] t p k = tt
  down_quiet (Value x ∷ ops) t p k = tt
  down_quiet (Counter zero ∷ ops) t p k = tt
  down_quiet (Counter (suc zero) ∷ ops) t p k = record { inside = k.inside; handling = k.handling; words = k.words }
  down_quiet (Counter (suc (suc n)) ∷ ops) t p k = go_quiet t (table.holding (Counter (suc n) ∷ ops) p) (record { inside = k.inside; handling = k.handling; words = k.words })

  drop_quiet : (ops : List Operand) (t : ℤ) (p : Own) → Kept image o p → Quiet image o (table.drop_counter ops t p)
  drop_quiet [] t p k = tt
  drop_quiet (Value x ∷ ops) t p k = tt
  drop_quiet (Counter n ∷ ops) t p k = go_quiet t (table.holding ops p) (record { inside = k.inside; handling = k.handling; words = k.words })

  called_quiet : (r : Routine) (a : Option (List ℤ × List Operand)) (p : Own) → Kept image o p → Quiet image o (table.called r a p)
  called_quiet r None p k = tt
  called_quiet r (Some a) p k = record { inside = k.inside; handling = k.handling; words = k.words }

  call_quiet : (r : Option Routine) (p : Own) → Kept image o p → Quiet image o (table.call r p)
  call_quiet None p k = tt
  call_quiet (Some r) p k = called_quiet r (table.arguments r.params p.job.operands []) p k

  back_quiet : (cs : List Caller) (p : Own) → Kept image o p → Quiet image o (table.back cs p (λ q. q))
  back_quiet [] p k = tt
  back_quiet (c ∷ cs) p k = record { inside = k.inside; handling = k.handling; words = k.words }

  back_with_quiet : (x : ℤ) (cs : List Caller) (p : Own) → Kept image o p → Quiet image o (table.back cs p (table.give x))
  back_with_quiet x [] p k = tt
  back_with_quiet x (c ∷ cs) p k = record { inside = k.inside; handling = k.handling; words = k.words }

  enters_quiet : (b : Bool) (inside : Option ℕ) (m : ℕ) (p : Own) → Quiet image o (table.enters b inside m p)
  enters_quiet true None m p = tt
  enters_quiet true (Some n) m p = tt
  enters_quiet false inside m p = tt

  enter_quiet : (s : State) (m : ℤ) (p : Own) → Quiet image o (table.enter image s m p)
  enter_quiet s (pos m) p = enters_quiet (is_free m s.threads) p.job.inside m p
  enter_quiet s (negsuc m) p = tt

  leaves_quiet : (b : Bool) (m : ℕ) (p : Own) → Quiet image o (table.leaves b m p)
  leaves_quiet true m p = tt
  leaves_quiet false m p = tt

  leave_quiet : (m : ℤ) (p : Own) → Quiet image o (table.leave m p)
  leave_quiet (pos m) p = leaves_quiet (is_inside m p.job.inside) m p
  leave_quiet (negsuc m) p = tt

  waits_quiet : (b : Bool) (c l n : ℤ) (p : Own) → Quiet image o (table.waits b c l n p)
  waits_quiet true c (pos l) (pos n) p = tt
  waits_quiet true c (pos l) (negsuc n) p = tt
  waits_quiet true c (negsuc l) n p = tt
  waits_quiet false c l n p = tt

  wait_quiet : (m : Option ℕ) (c l n : ℤ) (p : Own) → Quiet image o (table.wait m c l n p)
  wait_quiet None c l n p = tt
  wait_quiet (Some m) c l n p = waits_quiet (is_inside m p.job.inside) c l n p

  signal_quiet : (q : Option (List ℕ)) (c : ℤ) (p : Own) → Quiet image o (table.signal q c p)
  signal_quiet None c p = tt
  signal_quiet (Some q) c p = tt

  broadcast_quiet : (q : Option (List ℕ)) (c : ℤ) (p : Own) → Quiet image o (table.broadcast q c p)
  broadcast_quiet None c p = tt
  broadcast_quiet (Some q) c p = tt

  empty_quiet : (q : Option (List ℕ)) (c : ℤ) (p : Own) → Quiet image o (table.empty q c p)
  empty_quiet None c p = tt
  empty_quiet (Some q) c p = tt

  get_quiet : (v : Option ℤ) (c : ℤ) (p : Own) → Quiet image o (table.get v c p)
  get_quiet None c p = tt
  get_quiet (Some v) c p = tt

  put_quiet : (v : Option ℤ) (c x : ℤ) (p : Own) → Quiet image o (table.put v c x p)
  put_quiet None c x p = tt
  put_quiet (Some v) c x p = tt

  raise_quiet : (n : ℤ) → Quiet image o (table.raise n)
  raise_quiet (pos n) = tt
  raise_quiet (negsuc n) = tt

  given_kept : (x : ℤ) (p : Own) → Kept image o p → Kept image o (table.give x p)
  given_kept x p k = record { inside = k.inside; handling = k.handling; words = k.words }

  -- of each instruction, from where the process stands at the next
  pub effect_quiet : (s : State) (j : Instr) (p : Own) → Kept image o p → Quiet image o (effect image s j p)
  effect_quiet s (i.Push v) p k = given_kept v p k
  effect_quiet s (i.LoadLocal w) p k = load_quiet (table.word_at p.job.locals w) p k
  effect_quiet s (i.StoreLocal w) p k = one_quiet p _ k (λ x q l. local_quiet w x q l)
  effect_quiet s (i.LoadOwn w) p k = load_quiet (table.word_at p.owned w) p k
  effect_quiet s (i.StoreOwn w) p k = one_quiet p _ k (λ x q l. own_quiet w x q l)
  effect_quiet s (i.LoadMon w) p k = load_mon_quiet w p k
  effect_quiet s (i.StoreMon w) p k = one_quiet p _ k (λ x q l. store_mon_quiet w x q l)
  effect_quiet s (i.LoadLocalAt w low len) p k = one_quiet p _ k (λ x q l. element_quiet w low len x _ (λ e. load_quiet (table.word_at q.job.locals e) q l))
  effect_quiet s (i.StoreLocalAt w low len) p k = two_quiet p _ k (λ x y q l. element_quiet w low len x _ (λ e. local_quiet e y q l))
  effect_quiet s (i.LoadOwnAt w low len) p k = one_quiet p _ k (λ x q l. element_quiet w low len x _ (λ e. load_quiet (table.word_at q.owned e) q l))
  effect_quiet s (i.StoreOwnAt w low len) p k = two_quiet p _ k (λ x y q l. element_quiet w low len x _ (λ e. own_quiet e y q l))
  effect_quiet s (i.LoadMonAt w low len) p k = one_quiet p _ k (λ x q l. element_quiet w low len x _ (λ e. load_mon_quiet e q l))
  effect_quiet s (i.StoreMonAt w low len) p k = two_quiet p _ k (λ x y q l. element_quiet w low len x _ (λ e. store_mon_quiet e y q l))
  effect_quiet s i.Neg p k = one_quiet p _ k (λ x q l. answer_quiet (negated x) q l)
  effect_quiet s i.Not p k = one_quiet p _ k (λ x q l. given_kept _ q l)
  effect_quiet s i.And p k = two_quiet p _ k (λ x y q l. given_kept _ q l)
  effect_quiet s i.Or p k = two_quiet p _ k (λ x y q l. given_kept _ q l)
  effect_quiet s i.Add p k = two_quiet p _ k (λ x y q l. answer_quiet (sum x y) q l)
  effect_quiet s i.Sub p k = two_quiet p _ k (λ x y q l. answer_quiet (difference x y) q l)
  effect_quiet s i.Eq p k = two_quiet p _ k (λ x y q l. given_kept _ q l)
  effect_quiet s i.Ne p k = two_quiet p _ k (λ x y q l. given_kept _ q l)
  effect_quiet s i.Lt p k = two_quiet p _ k (λ x y q l. given_kept _ q l)
  effect_quiet s i.Le p k = two_quiet p _ k (λ x y q l. given_kept _ q l)
  effect_quiet s i.Gt p k = two_quiet p _ k (λ x y q l. given_kept _ q l)
  effect_quiet s i.Ge p k = two_quiet p _ k (λ x y q l. given_kept _ q l)
  effect_quiet s i.Mul p k = two_quiet p _ k (λ x y q l. answer_quiet (product x y) q l)
  effect_quiet s i.Div p k = two_quiet p _ k (λ x y q l. answer_quiet (quotient x y) q l)
  effect_quiet s i.Mod p k = two_quiet p _ k (λ x y q l. answer_quiet (remainder x y) q l)
  effect_quiet s (i.Range low high) p k = one_quiet p _ k (λ x q l. if_quiet (within low high x) _ _ (given_kept _ q l) tt)
  effect_quiet s (i.JumpZero t) p k = one_quiet p _ k (λ x q l. if_quiet (is_zero x) _ _ (go_quiet t q l) l)
  effect_quiet s (i.Jump t) p k = go_quiet t p k
  effect_quiet s (i.Repeats n) p k = from_quiet n p k
  effect_quiet s (i.Repeat t) p k = down_quiet p.job.operands t p k
  effect_quiet s (i.Exit t) p k = one_quiet p _ k (λ x q l. if_quiet (is_zero x) _ _ l (drop_quiet q.job.operands t q l))
  effect_quiet s (i.Call r) p k = call_quiet (table.routine image r) p k
  effect_quiet s i.Return p k = back_quiet p.job.callers p k
  effect_quiet s i.ReturnValue p k = one_quiet p _ k (λ x q l. back_with_quiet x q.job.callers q l)
  effect_quiet s (i.Enter m) p k = enter_quiet s m p
  effect_quiet s (i.Leave m) p k = leave_quiet m p
  effect_quiet s (i.Wait c l n) p k = wait_quiet (table.monitor_of image c) c l n p
  effect_quiet s (i.Reenter m) p k = enter_quiet s m p
  effect_quiet s (i.Signal c) p k = signal_quiet (table.queue s c) c p
  effect_quiet s (i.Broadcast c) p k = broadcast_quiet (table.queue s c) c p
  effect_quiet s (i.Empty c) p k = empty_quiet (table.queue s c) c p
  effect_quiet s (i.In x) p k = get_quiet (table.word_at s.devices x) x p
  effect_quiet s (i.Out x) p k = one_quiet p _ k (λ v q l. put_quiet (table.word_at s.devices x) x v q)
  effect_quiet s (i.Raise n) p k = raise_quiet n
  effect_quiet s i.End p k = tt

-- what goes on silently has left these as they were
pub goes_kept : (image : Image) (s : State) (j : Instr) (o p q : Own) → Kept image o p → effect image s j p ≡ Goes q → Kept image o q
goes_kept image s j o p q k e = subst (λ r. Quiet image o r) e (effect_quiet image o s j p k)
