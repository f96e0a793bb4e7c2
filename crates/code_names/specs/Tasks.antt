-- What is left to do until all routines have their numbers. The last of a list of tasks is done
-- first.
use Rattle.std.specs.Prelude.{ℕ, zero, suc, ◌+◌, List, [], ◌∷◌, ◌++◌, sum_by}
use Rattle.syntax_tree.specs.Plain.{Program}
use Rattle.code_spec.specs.Numbering.{Text, visit}
use Rattle.code_names.specs.declared.text.Body as code_text
use Rattle.code_names.specs.declared.order.Task.{Task}
use Rattle.code_names.specs.declared.order.Task.TheVariants as task_is
use Rattle.code_names.specs.Texts.{text_of}
use Rattle.code_names.specs.Parts.{callees_of}

abbrev pub visit_task : ℕ → code_text.Body → Task
visit_task depth text = task_is.Visit text depth

-- what has a number once a task is done
abbrev pub after_task : Program → Task → List Text → List Text
after_task g (task_is.Visit text depth) done = visit depth g done (text_of text)
after_task g (task_is.Number text) done = done ++ text_of text ∷ []

-- what has a number once all are done
abbrev pub after_tasks : Program → List Task → List Text → List Text
after_tasks g [] done = done
after_tasks g (task ∷ tasks) done = after_task g task (after_tasks g tasks done)

-- ---- how many tasks there are to come at most, so that they come to an end

-- a visit, the number of what is visited, and the visits of what it calls
unfoldable pub visit_count : ℕ → Program → Text → ℕ
visit_count zero g t = 1
visit_count (suc n) g t = 2 + sum_by (visit_count n g) (callees_of g t)

abbrev pub count_of : Program → Task → ℕ
count_of g (task_is.Visit text depth) = visit_count depth g (text_of text)
count_of g (task_is.Number text) = 1

abbrev pub task_count : Program → List Task → ℕ
task_count g tasks = sum_by (count_of g) tasks
