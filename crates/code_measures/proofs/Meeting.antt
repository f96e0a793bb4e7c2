-- The example meets all premises.
use Rattle.std.specs.Prelude.{◌≡◌, ℕ, zero, suc, false, List, Some, None, slice_get, length}
use Rattle.std.proofs.Common.{refl, sym, subst, ◌∙◌, arith}
use Rattle.sched_response.specs.Demand as demand
use Rattle.source_semantics.specs.Names.{processes}
use Rattle.source_semantics_law.specs.Example.{signalled_wait}
use Rattle.machine_semantics.specs.Image as image
use Rattle.machine_safety.specs.ValidImages.{meeting}
use Rattle.valid_image.specs.Times.{rank_of, ceiling_of, needed_block}
use Rattle.code_spec.specs.Numbering.{numbered, visit, number_of}
use Rattle.code_spec.specs.Compiled.{IsCodeOf}
use Rattle.code_cost_spec.specs.Levels.{calls_at}
use Rattle.code_measures.specs.Sound.{SoundRoutine, SoundProcess}
use Rattle.code_measures.specs.Declared.{IsBelow, IsSound, DeclaresRoutine, DeclaresProcess, Declares}
use Rattle.code_measures.specs.Quiet.{AreQuiet, QuietHandler}
use Rattle.code_measures.specs.Whole.{HasRanks, IsBound, MeetingIsMade}

-- a fact of both elements of a list of two
pub both : {A : Type 0} (xs : List A) (P : ℕ → A → Type 0) (x y : A) → slice_get xs 0 ≡ Some x → slice_get xs 1 ≡ Some y → ((k : ℕ) → slice_get xs (suc (suc k)) ≡ None) → P 0 x → P 1 y → (k : ℕ) (z : A) → slice_get xs k ≡ Some z → P k z
both xs P x y is_x is_y no_more one two zero z at = let e : Some x ≡ Some z = sym is_x ∙ at in let same : x ≡ z = cc in subst (λ w. P 0 w) same one
both xs P x y is_x is_y no_more one two (suc zero) z at = let e : Some y ≡ Some z = sym is_y ∙ at in let same : y ≡ z = cc in subst (λ w. P 1 w) same two
both xs P x y is_x is_y no_more one two (suc (suc k)) z at = let e : None ≡ Some z = sym (no_more k) ∙ at in absurd cc

-- of both elements of two lists of two
pairs : {A B : Type 0} (xs : List A) (ys : List B) (P : ℕ → A → B → Type 0) (x y : A) (u v : B) → slice_get xs 0 ≡ Some x → slice_get xs 1 ≡ Some y → ((k : ℕ) → slice_get xs (suc (suc k)) ≡ None) → slice_get ys 0 ≡ Some u → slice_get ys 1 ≡ Some v
    → P 0 x u → P 1 y v → (k : ℕ) (z : A) (w : B) → slice_get xs k ≡ Some z → slice_get ys k ≡ Some w → P k z w
pairs xs ys P x y u v is_x is_y no_more is_u is_v first second zero z w at at2 =
    let e : Some x ≡ Some z = sym is_x ∙ at in let f : Some u ≡ Some w = sym is_u ∙ at2 in let same : x ≡ z = cc in let same2 : u ≡ w = cc in subst (λ a. P 0 z a) same2 (subst (λ a. P 0 a u) same first)
pairs xs ys P x y u v is_x is_y no_more is_u is_v first second (suc zero) z w at at2 =
    let e : Some y ≡ Some z = sym is_y ∙ at in let f : Some v ≡ Some w = sym is_v ∙ at2 in let same : y ≡ z = cc in let same2 : v ≡ w = cc in subst (λ a. P 1 z a) same2 (subst (λ a. P 1 a v) same second)
pairs xs ys P x y u v is_x is_y no_more is_u is_v first second (suc (suc k)) z w at at2 = let e : None ≡ Some z = sym (no_more k) ∙ at in absurd cc

-- of the one element of a list
only : {A : Type 0} (xs : List A) (P : ℕ → A → Type 0) (x : A) → slice_get xs 0 ≡ Some x → ((k : ℕ) → slice_get xs (suc k) ≡ None) → P 0 x → (k : ℕ) (z : A) → slice_get xs k ≡ Some z → P k z
only xs P x is_x no_more first zero z at = let e : Some x ≡ Some z = sym is_x ∙ at in let same : x ≡ z = cc in subst (λ w. P 0 w) same first
only xs P x is_x no_more first (suc k) z at = let e : None ≡ Some z = sym (no_more k) ∙ at in absurd cc

code_is : IsCodeOf signalled_wait meeting
unfolding numbered visit number_of
code_is = record {
  between = 9;
  routine_code = (
    5,
    record { kind = refl; owner = refl; params = refl; locals = refl; gives = refl; tree = refl },
    refl,
    record { inside = 1; enters = record { has = (refl, tt); end = refl }; behind = 3; body = (3, record { has = (refl, (refl, tt)); end = refl }, refl); rest = record { has = (refl, (refl, tt)); end = refl } },
    (
      9,
      record { kind = refl; owner = refl; params = refl; locals = refl; gives = refl; tree = refl },
      refl,
      record { inside = 6; enters = record { has = (refl, tt); end = refl }; behind = 7; body = (7, record { has = (refl, tt); end = refl }, refl); rest = record { has = (refl, (refl, tt)); end = refl } },
      refl,
    ),
  );
  process_code = (
    14,
    record {
      behind = 10;
      body = (10, record { has = (refl, tt); end = refl }, refl);
      end = refl;
      handler = (13, (13, record { has = (refl, (refl, tt)); end = refl }, refl), record { has = (refl, tt); end = refl }, refl, refl, refl);
      start = refl;
      locals = refl;
      words = refl;
      tree = refl;
      frame = refl;
      deadline = refl;
      released = (refl, refl, refl);
    },
    (
      16,
      record {
        behind = 15;
        body = (15, record { has = (refl, tt); end = refl }, refl);
        end = refl;
        handler = (refl, refl, refl, refl);
        start = refl;
        locals = refl;
        words = refl;
        tree = refl;
        frame = refl;
        deadline = refl;
        released = (refl, refl, refl);
      },
      refl,
    ),
  );
  monitor_words = (refl, refl, tt);
  condition_table = refl;
  device_table = refl;
}

is_sound : IsSound signalled_wait
unfolding numbered visit number_of
is_sound = record {
  few = omega arith;
  routines = both (numbered signalled_wait) (λ r t. SoundRoutine signalled_wait (λ y. IsBelow signalled_wait r y) t) _ _ refl refl (λ k. refl) (((0, refl), tt), tt) ((tt, tt), tt);
  bodies = both (processes signalled_wait) (λ k p. SoundProcess signalled_wait (λ y. IsBelow signalled_wait (length (numbered signalled_wait)) y) k p) _ _ refl refl (λ k. refl)
      (((_, refl, record { low = omega arith; there = refl }, refl, tt), tt), (tt, tt)) (((_, refl, record { low = omega arith; there = refl }, refl, tt), tt), tt);
}

declares : Declares signalled_wait meeting
unfolding numbered visit number_of calls_at
declares = record {
  routines = pairs (numbered signalled_wait) meeting.routines (λ r t x. DeclaresRoutine signalled_wait t x) _ _ _ _ refl refl (λ k. refl) refl refl (record { run = refl; susp = refl; waits = refl; stay = refl }) (record { run = refl; susp = refl; waits = refl; stay = refl });
  bodies = pairs (processes signalled_wait) meeting.processes (λ k p x. DeclaresProcess signalled_wait meeting.over k p x) _ _ _ _ refl refl (λ k. refl) refl refl (record { run = refl; susp = refl; waits = refl; stack = refl }) (record { run = refl; susp = refl; waits = refl; stack = refl });
}

quiet : AreQuiet signalled_wait (λ t. false)
unfolding numbered visit number_of
quiet = record {
  routines = λ r t at is. absurd cc;
  handlers = both (processes signalled_wait) (λ k p. QuietHandler (λ t. false) signalled_wait k p p.handler) _ _ refl refl (λ k. refl) ((tt, tt), (tt, tt)) tt;
}

ranks : HasRanks meeting
ranks = record {
  ranks = both meeting.processes (λ k p. p.rank ≡ rank_of meeting k) _ _ refl refl (λ k. refl) refl refl;
  ceilings = only meeting.monitors (λ j x. x.ceiling ≡ ceiling_of meeting j) _ refl (λ k. refl) refl;
  blocks = both meeting.processes (λ k p. p.block ≡ needed_block meeting p.rank) _ _ refl refl (λ k. refl) refl refl;
}

bounds : (k : ℕ) (p : image.Process) → slice_get meeting.processes k ≡ Some p → IsBound meeting p
unfolding demand.demand_at
bounds = both meeting.processes (λ k p. IsBound meeting p) _ _ refl refl (λ k. refl) (record { meets = omega arith; timely = omega arith }) (record { meets = omega arith; timely = omega arith })

pub meeting_is_made : MeetingIsMade
meeting_is_made = record { code = code_is; sound = is_sound; declares = declares; quiet = λ t. false; handlers = quiet; few_words = omega arith; ranks = ranks; bounds = bounds }
