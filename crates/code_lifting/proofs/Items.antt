-- The start events that may be due at a tick, in order, as a list that no configuration changes: releases and time-outs.
use Rattle.std.proofs.Common.{◌≡◌, ◌++◌, inl, inr, ℕ, suc, List, [], ◌∷◌, Option, Some, refl, ap, sym, subst, ◌∙◌, true, false, Bool, append_assoc}
use Rattle.std.specs.Prelude.{slice_get, cond, nat_eq, ◌&&◌, flat_map}
use Rattle.std.proofs.lemmas.Bool.{cases_eq}
use Rattle.base.specs.declared.event.Event.{Event}
use Rattle.syntax_tree.specs.Plain as tree
use Rattle.syntax_tree.specs.Plain.{Program}
use Rattle.source_semantics.specs.Names.{processes}
use Rattle.source_semantics.specs.Config.{Job, Config}
use Rattle.source_semantics.specs.Ranks.{by_rank}
use Rattle.source_semantics.specs.Starts.{Script, Line, sets, occurs, due, release_missing, releases_by, event_releases, periodic_releases, time_out, time_outs, waits_for_event, is_due}
use Rattle.code_lifting.proofs.Lists.{Changed}

pub data Item : Type 0 where
  rel : (k : ℕ) → Item
  out : (k : ℕ) → Item

-- the event of an item, unless it has come
abbrev pub told : ℕ → List Job → Item → List Event
told t jobs (rel k) = release_missing t k (slice_get jobs k)
told t jobs (out k) = time_out t k (slice_get jobs k)

abbrev pub owed : ℕ → List Job → List Item → List Event
owed t jobs [] = []
owed t jobs (i ∷ is) = told t jobs i ++ owed t jobs is

-- no item's event is still to come
abbrev pub Quiet : ℕ → List Job → List Item → Type 0
Quiet t jobs [] = Unit {0}
Quiet t jobs (i ∷ is) = (told t jobs i ≡ []) × Quiet t jobs is

pub owed_both : (t : ℕ) (jobs : List Job) (xs ys : List Item) → owed t jobs (xs ++ ys) ≡ owed t jobs xs ++ owed t jobs ys
owed_both t jobs [] ys = refl
owed_both t jobs (x ∷ xs) ys = ap (λ (es : List Event). told t jobs x ++ es) (owed_both t jobs xs ys) ∙ sym (append_assoc (told t jobs x) (owed t jobs xs) (owed t jobs ys))

pub quiet_owes : (t : ℕ) (jobs : List Job) (xs ys : List Item) → Quiet t jobs xs → owed t jobs (xs ++ ys) ≡ owed t jobs ys
quiet_owes t jobs [] ys q = refl
quiet_owes t jobs (x ∷ xs) ys q = ap (λ (es : List Event). es ++ owed t jobs (xs ++ ys)) q.0 ∙ quiet_owes t jobs xs ys q.1

pub quiet_both : (t : ℕ) (jobs : List Job) (xs ys : List Item) → Quiet t jobs xs → Quiet t jobs ys → Quiet t jobs (xs ++ ys)
quiet_both t jobs [] ys q r = r
quiet_both t jobs (x ∷ xs) ys q r = (q.0, quiet_both t jobs xs ys q.1 r)

pub quiet_none : (t : ℕ) (jobs : List Job) (xs : List Item) → Quiet t jobs xs → owed t jobs xs ≡ []
quiet_none t jobs [] q = refl
quiet_none t jobs (x ∷ xs) q = ap (λ (es : List Event). es ++ owed t jobs xs) q.0 ∙ quiet_none t jobs xs q.1

-- a job changes so that its own events have come
pub quiet_changed : (t : ℕ) (jobs jobs' : List Job) (k : ℕ) (j : Job) (xs : List Item) → Changed jobs jobs' k j → (release_missing t k (slice_get jobs k) ≡ [] → release_missing t k (Some j) ≡ []) → time_out t k (Some j) ≡ []
    → Quiet t jobs xs → Quiet t jobs' xs
quiet_changed t jobs jobs' k j [] js released timed q = tt
quiet_changed t jobs jobs' k j (rel i ∷ xs) js released timed q = (
  elim (cases_eq k i) [
    | inl is ↦ subst (λ (x : ℕ). release_missing t x (slice_get jobs' x) ≡ []) is (ap (λ (o : Option Job). release_missing t k o) js.here ∙ released (subst (λ (x : ℕ). release_missing t x (slice_get jobs x) ≡ []) (sym is) q.0))
    | inr differ ↦ ap (λ (o : Option Job). release_missing t i o) (js.others i differ) ∙ q.0
  ],
  quiet_changed t jobs jobs' k j xs js released timed q.1,
)
quiet_changed t jobs jobs' k j (out i ∷ xs) js released timed q = (
  elim (cases_eq k i) [
    | inl is ↦ subst (λ (x : ℕ). time_out t x (slice_get jobs' x) ≡ []) is (ap (λ (o : Option Job). time_out t k o) js.here ∙ timed)
    | inr differ ↦ ap (λ (o : Option Job). time_out t i o) (js.others i differ) ∙ q.0
  ],
  quiet_changed t jobs jobs' k j xs js released timed q.1,
)

-- ---- the items of a tick

abbrev pub event_items_by : Program → ℕ → ℕ → List tree.Process → List Item
event_items_by g e k [] = []
event_items_by g e k (p ∷ ps) = cond (waits_for_event g e p.activation) (rel k ∷ []) [] ++ event_items_by g e (suc k) ps

abbrev pub event_items : Program → ℕ → List Line → List Item
event_items g t [] = []
event_items g t (sets u d v ∷ ls) = event_items g t ls
event_items g t (occurs u e ∷ ls) = cond (nat_eq u t) (event_items_by g e 0 (processes g)) [] ++ event_items g t ls

abbrev pub periodic_items : Program → ℕ → ℕ → List tree.Process → List Item
periodic_items g t k [] = []
periodic_items g t k (p ∷ ps) = cond (is_due g t p.activation) (rel k ∷ []) [] ++ periodic_items g t (suc k) ps

abbrev pub out_items : List ℕ → List Item
out_items [] = []
out_items (k ∷ ks) = out k ∷ out_items ks

abbrev pub all_items : Program → Script → ℕ → List Item
all_items g s t = event_items g t s.lines ++ (periodic_items g t 0 (processes g) ++ out_items (by_rank g))

owed_if : (t : ℕ) (jobs : List Job) (b : Bool) (i : Item) → owed t jobs (cond b (i ∷ []) []) ≡ cond b (told t jobs i) []
owed_if t jobs true i = append_nil (told t jobs i) where
  append_nil : (es : List Event) → es ++ [] ≡ es
  append_nil [] = refl
  append_nil (e ∷ es) = ap (λ (xs : List Event). e ∷ xs) (append_nil es)
owed_if t jobs false i = refl

releases_are : (g : Program) (c : Config) (t e k : ℕ) (ps : List tree.Process) → releases_by g c t e k ps ≡ owed t c.jobs (event_items_by g e k ps)
releases_are g c t e k [] = refl
releases_are g c t e k (p ∷ ps) =
    ap (λ (es : List Event). cond (waits_for_event g e p.activation) (release_missing t k (slice_get c.jobs k)) [] ++ es) (releases_are g c t e (suc k) ps)
    ∙ ap (λ (es : List Event). es ++ owed t c.jobs (event_items_by g e (suc k) ps)) (sym (owed_if t c.jobs (waits_for_event g e p.activation) (rel k)))
    ∙ sym (owed_both t c.jobs (cond (waits_for_event g e p.activation) (rel k ∷ []) []) (event_items_by g e (suc k) ps))

events_are : (g : Program) (c : Config) (t : ℕ) (ls : List Line) → event_releases g c t ls ≡ owed t c.jobs (event_items g t ls)
events_are g c t [] = refl
events_are g c t (sets u d v ∷ ls) = events_are g c t ls
events_are g c t (occurs u e ∷ ls) =
    ap (λ (es : List Event). cond (nat_eq u t) (releases_by g c t e 0 (processes g)) [] ++ es) (events_are g c t ls)
    ∙ ap (λ (es : List Event). es ++ owed t c.jobs (event_items g t ls)) (by (nat_eq u t))
    ∙ sym (owed_both t c.jobs (cond (nat_eq u t) (event_items_by g e 0 (processes g)) []) (event_items g t ls)) where
      by : (b : Bool) → cond b (releases_by g c t e 0 (processes g)) [] ≡ owed t c.jobs (cond b (event_items_by g e 0 (processes g)) [])
      by true = releases_are g c t e 0 (processes g)
      by false = refl

periodic_are : (g : Program) (c : Config) (t k : ℕ) (ps : List tree.Process) → periodic_releases g c t k ps ≡ owed t c.jobs (periodic_items g t k ps)
periodic_are g c t k [] = refl
periodic_are g c t k (p ∷ ps) =
    ap (λ (es : List Event). cond (is_due g t p.activation) (release_missing t k (slice_get c.jobs k)) [] ++ es) (periodic_are g c t (suc k) ps)
    ∙ ap (λ (es : List Event). es ++ owed t c.jobs (periodic_items g t (suc k) ps)) (sym (owed_if t c.jobs (is_due g t p.activation) (rel k)))
    ∙ sym (owed_both t c.jobs (cond (is_due g t p.activation) (rel k ∷ []) []) (periodic_items g t (suc k) ps))

outs_are : (c : Config) (t : ℕ) (ks : List ℕ) → flat_map (λ k. time_out t k (slice_get c.jobs k)) ks ≡ owed t c.jobs (out_items ks)
outs_are c t [] = refl
outs_are c t (k ∷ ks) = ap (λ (es : List Event). time_out t k (slice_get c.jobs k) ++ es) (outs_are c t ks)

-- what is due at a tick in which nobody has acted
pub due_is : (g : Program) (s : Script) (c : Config) (t : ℕ) → c.acted && nat_eq c.tick t ≡ false → due g s c t ≡ owed t c.jobs (all_items g s t)
unfolding due
due_is g s c t fresh =
    ap (λ (b : Bool). cond b [] (event_releases g c t s.lines ++ (periodic_releases g c t 0 (processes g) ++ time_outs g c t))) fresh
    ∙ ap (λ (es : List Event). es ++ (periodic_releases g c t 0 (processes g) ++ time_outs g c t)) (events_are g c t s.lines)
    ∙ ap (λ (es : List Event). owed t c.jobs (event_items g t s.lines) ++ (es ++ time_outs g c t)) (periodic_are g c t 0 (processes g))
    ∙ ap (λ (es : List Event). owed t c.jobs (event_items g t s.lines) ++ (owed t c.jobs (periodic_items g t 0 (processes g)) ++ es)) (outs_are c t (by_rank g))
    ∙ ap (λ (es : List Event). owed t c.jobs (event_items g t s.lines) ++ es) (sym (owed_both t c.jobs (periodic_items g t 0 (processes g)) (out_items (by_rank g))))
    ∙ sym (owed_both t c.jobs (event_items g t s.lines) (periodic_items g t 0 (processes g) ++ out_items (by_rank g)))
