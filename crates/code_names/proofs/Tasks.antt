-- Tasks, one at a time.
use Rattle.std.proofs.Common.{◌≡◌, ◌∙◌, ap, refl, ℕ, zero, suc, ◌+◌, ◌<◌, false, List, [], ◌∷◌, ◌++◌, arith}
use Rattle.std.specs.Prelude.{sum_by, map, reverse, is_some}
use Rattle.std.proofs.lemmas.Grind.{reverse_onto}
use Rattle.std.proofs.lemmas.List.{map-append}
use Rattle.std.proofs.lemmas.List.Sums.{sum_by-cons, sum_by-append, sum_by_push}
use Rattle.syntax_tree.specs.Plain.{Program}
use Rattle.code_spec.specs.Numbering.{Text, visit, visit_texts}
use Rattle.code_names.specs.declared.text.Body as code_text
use Rattle.code_names.specs.declared.order.Task.{Task}
use Rattle.code_names.specs.declared.order.Task.TheVariants.{Number}
use Rattle.code_names.specs.Texts.{text_of, texts_of, text_index}
use Rattle.code_names.specs.Parts.{callees_of}
use Rattle.code_names.specs.Tasks.{visit_task, after_task, after_tasks, visit_count, count_of, task_count}
use Rattle.code_names.proofs.Visiting.{visit-next}

after-append : (g : Program) (tasks more : List Task) (done : List Text) → after_tasks g (tasks ++ more) done ≡ after_tasks g tasks (after_tasks g more done)
after-append g [] more done = refl
after-append g (task ∷ tasks) more done = ap (after_task g task) (after-append g tasks more done)

abbrev pub visits : ℕ → List code_text.Body → List Task
visits depth texts = map (visit_task depth) (reverse texts)

-- the first visit is listed last
first-last : (depth : ℕ) (t : code_text.Body) (ts : List code_text.Body) → visits depth (t ∷ ts) ≡ visits depth ts ++ visit_task depth t ∷ []
first-last depth t ts = ap (map (visit_task depth)) (reverse_onto ts t []) ∙ map-append (visit_task depth) (reverse ts) (t ∷ [])

after-visits : (g : Program) (depth : ℕ) (texts : List code_text.Body) (done : List Text) → after_tasks g (visits depth texts) done ≡ visit_texts depth g done (texts_of texts)
after-visits g depth [] done = refl
after-visits g depth (t ∷ ts) done =
    ap (λ tasks. after_tasks g tasks done) (first-last depth t ts) ∙ after-append g (visits depth ts) (visit_task depth t ∷ []) done
    ∙ after-visits g depth ts (after_task g (visit_task depth t) done)

count-visits : (g : Program) (depth : ℕ) (texts : List code_text.Body) → task_count g (visits depth texts) ≡ sum_by (visit_count depth g) (texts_of texts)
count-visits g depth [] = refl
count-visits g depth (t ∷ ts) =
    let listed = ap (task_count g) (first-last depth t ts) in
    let pushed = sum_by_push (count_of g) (visits depth ts) (visit_task depth t) in
    let rest = count-visits g depth ts in
    let first = sum_by-cons (visit_count depth g) (text_of t) (texts_of ts) in
    omega (arith, listed, pushed, rest, first)

-- ---- a visit that finds nothing to do

pub one-visit : (n : ℕ) (g : Program) (t : Text) → 0 < visit_count n g t
unfolding visit_count
one-visit zero g t = omega arith
one-visit (suc n) g t = omega arith

-- ---- a visit that goes on

module _ (g : Program) (n m : ℕ) (t : code_text.Body) (callees : List code_text.Body) (old new : List Task) (deep : n ≡ suc m) (called : texts_of callees ≡ callees_of g (text_of t))
    (listed : new ≡ (old ++ Number t ∷ []) ++ visits m callees) where
  pub goes-on : (done : List Text) → is_some (text_index (text_of t).owner (text_of t).routine.name done) ≡ false → after_tasks g new done ≡ after_tasks g old (visit n g done (text_of t))
  goes-on done among =
      ap (λ tasks. after_tasks g tasks done) listed ∙ after-append g (old ++ Number t ∷ []) (visits m callees) done
      ∙ ap (after_tasks g (old ++ Number t ∷ [])) (after-visits g m callees done ∙ ap (visit_texts m g done) called)
      ∙ after-append g old (Number t ∷ []) (visit_texts m g done (callees_of g (text_of t)))
      ∙ ap (after_tasks g old) (visit-next n m g done (text_of t) deep among)

  pub comes-down : task_count g new < task_count g old + visit_count n g (text_of t)
  unfolding visit_count
  comes-down =
      let count = ap (task_count g) listed in
      let both = sum_by-append (count_of g) (old ++ Number t ∷ []) (visits m callees) in
      let number = sum_by_push (count_of g) old (Number t) in
      let inside = count-visits g m callees ∙ ap (sum_by (visit_count m g)) called in
      let whole = ap (λ k. visit_count k g (text_of t)) deep in
      omega (arith, count, both, number, inside, whole)

-- ---- all routines

pub all-visits : (g : Program) (depth : ℕ) (texts : List code_text.Body) (tasks : List Task) (done : List Text) → tasks ≡ [] ++ visits depth texts → after_tasks g tasks done ≡ visit_texts depth g done (texts_of texts)
all-visits g depth texts tasks done listed = ap (λ l. after_tasks g l done) listed ∙ after-visits g depth texts done

-- the last task is done first
pub last-first : (g : Program) (tasks rest : List Task) (task : Task) (done : List Text) → tasks ≡ rest ++ task ∷ [] → after_tasks g tasks done ≡ after_tasks g rest (after_task g task done)
last-first g tasks rest task done split = ap (λ l. after_tasks g l done) split ∙ after-append g rest (task ∷ []) done

pub one-less : (g : Program) (tasks rest : List Task) (task : Task) → tasks ≡ rest ++ task ∷ [] → task_count g tasks ≡ task_count g rest + count_of g task
one-less g tasks rest task split = ap (task_count g) split ∙ sum_by_push (count_of g) rest task
