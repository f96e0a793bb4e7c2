-- What a process does where its calls stand is its next action.
use Rattle.std.specs.Prelude.{◌≡◌, ℕ, zero, suc, Bool, true, false, List, [], ◌∷◌, Option, Some, None, slice_get}
use Rattle.std.proofs.Common.{refl, sym, ◌∙◌, ap, inl, inr, subst}
use Rattle.std.proofs.lemmas.Option.{same_Some}
use Rattle.base.specs.declared.event.Event.{Event}
use Rattle.syntax_tree.specs.Plain.{Process, Program}
use Rattle.source_semantics.specs.Config.{Config, Hold, Job, at_tick, changed, hold_vars, idle, inside, is_ready, job_doing, vars_of, with_holds, with_jobs}
use Rattle.source_semantics.specs.Next.{Next}
use Rattle.source_semantics.specs.Source.{Step, acts, job_next, may_act, save_hold, save_job, saved}
use Rattle.source_semantics.specs.Starts.{Script}
use Rattle.source_semantics.specs.Store.{Vars}
use Rattle.replay_direct.specs.Direct.{direct_next}
use Rattle.replay_direct.specs.declared.direct.DirectAction.{DirectAction}
use Rattle.replay_direct.specs.declared.direct.DirectAction.TheVariants as direct_is
use Rattle.replay_accept.specs.Directly.{IsDirect, config_after, job_after}
use Rattle.replay_accept.specs.Judged.{IsOpen, IsToAct}

-- the thing at a place is changed in the same way
changed_alike : {A : Type 0} (f h : A → A) (k : ℕ) (xs : List A) (x : A) → slice_get xs k ≡ Some x → f x ≡ h x → changed f k xs ≡ changed h k xs
changed_alike f h k [] x got same = refl
changed_alike f h zero (y ∷ xs) x got same = let e : y ≡ x = same_Some y x got in ap (λ z. z ∷ xs) (ap f e ∙ (same ∙ ap h (sym e)))
changed_alike f h (suc k) (y ∷ xs) x got same = ap (λ l. y ∷ l) (changed_alike f h k xs x got same)

changed_twice : {A : Type 0} (f h : A → A) (k : ℕ) (xs : List A) → changed (λ x. h (f x)) k xs ≡ changed h k (changed f k xs)
changed_twice f h k [] = refl
changed_twice f h zero (x ∷ xs) = refl
changed_twice f h (suc k) (x ∷ xs) = ap (λ l. x ∷ l) (changed_twice f h k xs)

-- a monitor is given the variables that it has
hold_kept : (m : ℕ) (hs : List Hold) → changed (λ h. record { vars = hold_vars (slice_get hs m); occupant = h.occupant }) m hs ≡ hs
hold_kept m [] = refl
hold_kept zero (h ∷ hs) = refl
hold_kept (suc m) (h ∷ hs) = ap (λ l. h ∷ l) (hold_kept m hs)

save_kept : (o : Option ℕ) (c : Config) → save_hold o (vars_of c o) c ≡ c
save_kept None c = refl
save_kept (Some m) c = ap (with_holds c) (hold_kept m c.holds)

module _ (g : Program) (s : Script) (c : Config) (t k : ℕ) where
  saved_kept : (n : Next) → n.monitor ≡ vars_of c (inside c k) → saved (at_tick c t true) k n ≡ with_jobs (at_tick c t true) (changed (save_job n) k c.jobs)
  saved_kept n same =
      let d : Config = with_jobs (at_tick c t true) (changed (save_job n) k c.jobs) in
      ap (λ vs. save_hold (inside c k) vs d) same ∙ save_kept (inside c k) d

  pub acts_directly : (d : DirectAction) (j : Job) → slice_get c.jobs k ≡ Some j → config_after t k d c ≡ (acts g s c t k (direct_next d j.calls j.vars (vars_of c (inside c k)))).config
  acts_directly (direct_is.Puts dev v ss) j at =
      let n = direct_next (direct_is.Puts dev v ss) j.calls j.vars (vars_of c (inside c k)) in
      ap (with_jobs (at_tick c t true)) (changed_alike (job_after (direct_is.Puts dev v ss)) (save_job n) k c.jobs j at refl)
      ∙ sym (saved_kept n refl)
  acts_directly direct_is.Ends j at =
      let n = direct_next direct_is.Ends j.calls j.vars (vars_of c (inside c k)) in
      ap (with_jobs (at_tick c t true))
      (changed_alike (job_after direct_is.Ends) (λ (i : Job). job_doing idle (save_job n i)) k c.jobs j at refl ∙ changed_twice (save_job n) (job_doing idle) k c.jobs)
      ∙ ap (λ (d : Config). with_jobs d (changed (job_doing idle) k d.jobs)) (sym (saved_kept n refl))

free_directly : (c : Config) (d : DirectAction) (j : Job) (m : Vars) → may_act c (direct_next d j.calls j.vars m).action ≡ true
free_directly c (direct_is.Puts dev v ss) j m = refl
free_directly c direct_is.Ends j m = refl

module _ (g : Program) (s : Script) (c : Config) (e : Event) (d : DirectAction) (o : IsOpen g s c e) (a : IsToAct g c e) (is : IsDirect g c e.proc d) where
  -- the act that is told
  abbrev pub told : Job → Type 0
  told j = e.act ≡ (acts g s c e.tick e.proc (direct_next d j.calls j.vars (vars_of c (inside c e.proc)))).act

  pub accepted : (new : Config) → told is.1 → new ≡ config_after e.tick e.proc d c → Step g s c e new
  accepted new tells after =
      let p = is.0 in
      let j = is.1 in
      let n = direct_next d j.calls j.vars (vars_of c (inside c e.proc)) in
      let next : n ≡ job_next c e.proc p j g = is.4 in
      let same : a.ready.job ≡ j = same_Some a.ready.job j (sym a.ready.state ∙ is.3) in
      record {
        before_end = o.in_time.before_end;
        reached = o.in_time.reached;
        none_missing = o.in_time.none_missing;
        comes = inr (record {
          none_due = o.none_due;
          nobody_acted = a.nobody_acted;
          process = p;
          text = is.2;
          job = j;
          state = is.3;
          ready = subst (λ (i : Job). is_ready i.doing ≡ true) same a.ready.ready;
          first = a.first;
          free = ap (λ (x : Next). may_act c x.action) (sym next) ∙ free_directly c d j (vars_of c (inside c e.proc));
          told = tells ∙ ap (λ (x : Next). (acts g s c e.tick e.proc x).act) next;
          after = after ∙ (acts_directly g s c e.tick e.proc d j is.3 ∙ ap (λ (x : Next). (acts g s c e.tick e.proc x).config) next);
        });
      }

  pub refused : (told is.1 → ⊥) → (new : Config) → Step g s c e new → ⊥
  refused other new step = elim step.comes [
    | inl starts ↦ let none : [] ≡ e ∷ starts.later = sym o.none_due ∙ starts.first in absurd cc
    | inr does ↦
        let p = is.0 in
        let j = is.1 in
        let next : direct_next d j.calls j.vars (vars_of c (inside c e.proc)) ≡ job_next c e.proc p j g = is.4 in
        let text : does.process ≡ p = same_Some does.process p (sym does.text ∙ is.2) in
        let job : does.job ≡ j = same_Some does.job j (sym does.state ∙ is.3) in
        other (does.told
        ∙ (ap (λ (q : Process). (acts g s c e.tick e.proc (job_next c e.proc q does.job g)).act) text
        ∙ (ap (λ (i : Job). (acts g s c e.tick e.proc (job_next c e.proc p i g)).act) job
        ∙ ap (λ (x : Next). (acts g s c e.tick e.proc x).act) (sym next))))
  ]

pub not_both : (b : Bool) → b ≡ true → b ≡ false → ⊥
not_both b holds fails = let both : true ≡ false = sym holds ∙ fails in absurd cc
