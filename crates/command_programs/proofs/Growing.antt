-- Bounds and lines, one more at a time.
use Rattle.std.proofs.Common.{◌≡◌, ◌+◌, ◌-◌, ◌++◌, ◌∙◌, ℕ, suc, List, [], ◌∷◌, Some, Ok, Err, length, map, refl, sym, ap, subst, arith, append-nil, append_assoc}
use Rattle.std.specs.Prelude.{Result, OnOk, slice_get, slice_index_or}
use Rattle.std.specs.List.{concat}
use Rattle.base.proofs.Lists.{one_longer}
use Rattle.machine_semantics.specs.Image.{Process}
use Rattle.image.specs.Named.{NamedImage}
use Rattle.image.specs.Raw.{image_of, named_of, process_of}
use Rattle.image.specs.declared.raw.RawImage.{RawImage}
use Rattle.image.specs.declared.raw.RawProcess.{RawProcess}
use Rattle.sched_sensitivity.specs.declared.spare.Spare.{Spare}
use Rattle.sched_sensitivity.specs.Slack.{with_more, IsSpare}
use Rattle.valid_image.specs.Tasks.{process_at, tasks_of, with_rank}
use Rattle.sched_response.specs.declared.tasks.Task.{Task}
use Rattle.sched_response.specs.Demand.{IsBound}
use Rattle.built_image_law.specs.Filled.{Each}
use Rattle.built_image_law.proofs.Lists.{each_more, none_yet}
use Rattle.command_due.specs.Lines.{name_at, slack_line, AreLeastBounds, IsSlackLine, IsSlackText}
use Rattle.command_programs.specs.Levels.{AddsLine}

-- ---- bounds

abbrev pub IsBoundOf : List Process → List Task → ℕ → ℕ → Type 0
IsBoundOf ps ts k bound = (p : Process) → slice_get ps k ≡ Some p → IsBound ts (p.rank - 1) bound

pub record LeastSoFar (ps : List Process) (ts : List Task) (i : ℕ) (bounds : List ℕ) : Type 0 where
  pub long : length bounds ≡ i
  pub each : Each (IsBoundOf ps ts) bounds

pub no_bounds : (ps : List Process) (ts : List Task) (bounds : List ℕ) → bounds ≡ [] → LeastSoFar ps ts 0 bounds
no_bounds ps ts bounds none = subst (LeastSoFar ps ts 0) (sym none) (record { long = refl; each = none_yet (IsBoundOf ps ts) })

inner : {A : Type 0} (a b : A) (k : ℕ) (xs : List A) → slice_get xs k ≡ Some a → slice_get xs k ≡ Some b → a ≡ b
inner a b k xs one two = cc

pub one_bound : (ps : List Process) (ts : List Task) (i : ℕ) (old new : List ℕ) (p : Process) (bound level : ℕ) → slice_get ps i ≡ Some p → level ≡ p.rank - 1 → IsBound ts level bound
    → new ≡ old ++ bound ∷ [] → LeastSoFar ps ts i old → LeastSoFar ps ts (i + 1) new
one_bound ps ts i old new p bound level at of is grown so_far = record {
  long = one_longer old new bound i so_far.long grown;
  each = each_more (IsBoundOf ps ts) old new i bound so_far.long grown so_far.each (λ q there.
      subst (λ (x : Process). IsBound ts (x.rank - 1) bound) (inner p q i ps at there) (subst (λ (l : ℕ). IsBound ts l bound) of is));
}

pub all_bounds : (ps : List Process) (ts : List Task) (i : ℕ) (bounds : List ℕ) → i ≡ length ps → LeastSoFar ps ts i bounds → AreLeastBounds ps ts bounds
all_bounds ps ts i bounds past so_far = record { one_each = so_far.long ∙ past; each = λ k p bound at there. so_far.each k bound there p at }

-- ---- a line

pub then_ok : {A E : Type 0} (r : Result A E) (P Q : Type 0) → OnOk r P → (P → Q) → OnOk r Q
then_ok (Ok x) P Q p f = f p
then_ok (Err e) P Q p f = tt

pub added : (image : RawImage) (ts : List Task) (number level at : ℕ) (p : RawProcess) (spare : Spare) (bounds name failing before now : List ℕ)
    → slice_get (image_of image).processes number ≡ Some (process_of p) → ts ≡ tasks_of (image_of image) → level ≡ p.rank - 1 → IsSpare ts level spare
    → AreLeastBounds (map process_of image.processes) (with_more ts level spare.extra) bounds → name ≡ slice_index_or image.names.processes number []
    → at ≡ with_rank (spare.fails + 1) 0 (map process_of image.processes) → failing ≡ slice_index_or image.names.processes at []
    → now ≡ before ++ slack_line name spare.extra bounds failing → AddsLine (named_of image) number before now
added image ts number level at p spare bounds name failing before now there tasks rank can least name_is at_is failing_is grown = record {
  line = slack_line name spare.extra bounds failing;
  is = λ q here. subst (λ (x : Process). IsSlackLine n number x (slack_line name spare.extra bounds failing)) (inner (process_of p) q number n.image.processes there here) told;
  grown = grown;
} where
  n : NamedImage
  n = named_of image

  shown : slack_line name spare.extra bounds failing ≡ slack_line (name_at n number) spare.extra bounds (name_at n (process_at n.image spare.fails))
  shown =
      let next : spare.fails + 1 ≡ suc spare.fails = omega arith in
      ap (λ (x : List ℕ). slack_line x spare.extra bounds failing) name_is
      ∙ ap (λ (y : List ℕ). slack_line (name_at n number) spare.extra bounds y)
      (failing_is ∙ ap (λ (k : ℕ). slice_index_or image.names.processes k []) (at_is ∙ ap (λ (r : ℕ). with_rank r 0 (map process_of image.processes)) next))

  told : IsSlackLine n number (process_of p) (slack_line name spare.extra bounds failing)
  told = record {
    spare = spare;
    can = subst (λ (us : List Task). IsSpare us (p.rank - 1) spare) tasks (subst (λ (l : ℕ). IsSpare ts l spare) rank can);
    bounds = bounds;
    least = subst (λ (us : List Task). AreLeastBounds (map process_of image.processes) (with_more us (p.rank - 1) spare.extra) bounds) tasks
        (subst (λ (l : ℕ). AreLeastBounds (map process_of image.processes) (with_more ts l spare.extra) bounds) rank least);
    is = shown;
  }

-- ---- lines

abbrev pub IsLineOf : NamedImage → ℕ → List ℕ → Type 0
IsLineOf n k line = (p : Process) → slice_get n.image.processes k ≡ Some p → IsSlackLine n k p line

pub record ToldSoFar (n : NamedImage) (i : ℕ) (text : List ℕ) : Type 0 where
  pub lines : List (List ℕ)
  pub long : length lines ≡ i
  pub each : Each (IsLineOf n) lines
  pub is : text ≡ concat lines

concat_push : (xss : List (List ℕ)) (ys : List ℕ) → concat (xss ++ ys ∷ []) ≡ concat xss ++ ys
concat_push [] ys = append-nil ys
concat_push (xs ∷ xss) ys = ap (λ zs. xs ++ zs) (concat_push xss ys) ∙ sym (append_assoc xs (concat xss) ys)

pub no_lines : (n : NamedImage) (text : List ℕ) → text ≡ [] → ToldSoFar n 0 text
no_lines n text none = record { lines = []; long = refl; each = none_yet (IsLineOf n); is = none }

pub one_line : (n : NamedImage) (i : ℕ) (old new : List ℕ) → AddsLine n i old new → ToldSoFar n i old → ToldSoFar n (i + 1) new
one_line n i old new adds so_far = record {
  lines = so_far.lines ++ adds.line ∷ [];
  long = one_longer so_far.lines (so_far.lines ++ adds.line ∷ []) adds.line i so_far.long refl;
  each = each_more (IsLineOf n) so_far.lines (so_far.lines ++ adds.line ∷ []) i adds.line so_far.long refl so_far.each adds.is;
  is = adds.grown ∙ (ap (λ (xs : List ℕ). xs ++ adds.line) so_far.is ∙ sym (concat_push so_far.lines adds.line));
}

pub all_lines : (n : NamedImage) (i : ℕ) (text : List ℕ) → i ≡ length n.image.processes → ToldSoFar n i text → IsSlackText n text
all_lines n i text past so_far = record {
  lines = so_far.lines;
  one_each = so_far.long ∙ past;
  each = λ k p line at there. so_far.each k line there p at;
  is = so_far.is;
}
