-- What the processes of an image can spare is told by one text.
use Rattle.std.proofs.Common.{◌≡◌, ◌≤◌, ◌<◌, ◌+◌, ◌-◌, ◌∙◌, inl, inr, ℕ, List, Some, length, sym, ap, subst, arith}
use Rattle.std.specs.Prelude.{slice_get}
use Rattle.std.specs.List.{concat}
use Rattle.std.proofs.lemmas.Bool.{cases_lt}
use Rattle.std.proofs.lemmas.Option.{slice_get_within}
use Rattle.base.proofs.Lists.{same_elements, some_at}
use Rattle.machine_semantics.specs.Image.{Process}
use Rattle.image.specs.Named.{NamedImage}
use Rattle.sched_response.specs.declared.tasks.Task.{Task}
use Rattle.valid_image.specs.Tasks.{process_at, tasks_of}
use Rattle.sched_sensitivity.specs.Slack.{with_more, IsFirstFailing, IsSlack}
use Rattle.command_due.specs.Lines.{name_at, slack_line, AreLeastBounds, IsSlackLine, IsSlackText}
use Rattle.command_due_law.specs.DueOnce.{SlackTextsAreOne}
use Rattle.built_image_law.proofs.Bounds.{one_bound}

-- the greatest number of ticks is one
one_extra : (ts : List Task) (level x y : ℕ) → IsSlack ts level x → IsSlack ts level y → x ≡ y
one_extra ts level x y one two =
    let low : x ≤ y = two.greatest x one.fits in
    let high : y ≤ x = one.greatest y two.fits in
    omega (arith, low, high)

-- so is the first level that fails
one_failing : (ts : List Task) (f g : ℕ) → IsFirstFailing ts f → IsFirstFailing ts g → f ≡ g
one_failing ts f g one two = elim (cases_lt f g) [
  | inl less ↦ absurd (let solved = two.before f less in one.fails solved.0 solved.1)
  | inr more ↦ elim (cases_lt g f) [ inl less ↦ absurd (let solved = one.before g less in two.fails solved.0 solved.1) | inr le ↦ omega (arith, more, le) ]
]

one_bounds : (ps : List Process) (ts : List Task) (bounds others : List ℕ) → AreLeastBounds ps ts bounds → AreLeastBounds ps ts others → bounds ≡ others
one_bounds ps ts bounds others one two = same_elements bounds others (one.one_each ∙ sym two.one_each) each_is_one where
  each_is_one : (k r s : ℕ) → slice_get bounds k ≡ Some r → slice_get others k ≡ Some s → r ≡ s
  each_is_one k r s at there =
      let low : k < length bounds = slice_get_within bounds k r at in
      let p = some_at ps k (omega (arith, low, one.one_each)) in
      one_bound ts (p.0.rank - 1) r s (one.each k p.0 r p.1 at) (two.each k p.0 s p.1 there)

one_line : (n : NamedImage) (k : ℕ) (p : Process) (line other : List ℕ) → IsSlackLine n k p line → IsSlackLine n k p other → line ≡ other
one_line n k p line other one two =
    let ts : List Task = tasks_of n.image in
    let level : ℕ = p.rank - 1 in
    let extra : one.spare.extra ≡ two.spare.extra = one_extra ts level one.spare.extra two.spare.extra one.can.extra two.can.extra in
    let least : AreLeastBounds n.image.processes (with_more ts level two.spare.extra) one.bounds =
    subst (λ (x : ℕ). AreLeastBounds n.image.processes (with_more ts level x) one.bounds) extra one.least in
    let bounds : one.bounds ≡ two.bounds = one_bounds n.image.processes (with_more ts level two.spare.extra) one.bounds two.bounds least two.least in
    let failing : IsFirstFailing (with_more ts level (two.spare.extra + 1)) one.spare.fails = subst (λ (x : ℕ). IsFirstFailing (with_more ts level (x + 1)) one.spare.fails) extra one.can.fails in
    let fails : one.spare.fails ≡ two.spare.fails = one_failing (with_more ts level (two.spare.extra + 1)) one.spare.fails two.spare.fails failing two.can.fails in
    one.is
    ∙ (ap (λ (x : ℕ). slack_line (name_at n k) x one.bounds (name_at n (process_at n.image one.spare.fails))) extra
    ∙ (ap (λ (bs : List ℕ). slack_line (name_at n k) two.spare.extra bs (name_at n (process_at n.image one.spare.fails))) bounds
    ∙ (ap (λ (f : ℕ). slack_line (name_at n k) two.spare.extra two.bounds (name_at n (process_at n.image f))) fails ∙ sym two.is)))

pub slack_texts_are_one : SlackTextsAreOne
slack_texts_are_one n lines other one two = one.is ∙ (ap concat (same_elements one.lines two.lines (one.one_each ∙ sym two.one_each) each_is_one) ∙ sym two.is) where
  each_is_one : (k : ℕ) (x y : List ℕ) → slice_get one.lines k ≡ Some x → slice_get two.lines k ≡ Some y → x ≡ y
  each_is_one k x y at there =
      let low : k < length one.lines = slice_get_within one.lines k x at in
      let p = some_at n.image.processes k (omega (arith, low, one.one_each)) in
      one_line n k p.0 x y (one.each k p.0 x p.1 at) (two.each k p.0 y p.1 there)
