-- Places of texts, routines and monitors of an image, and processes by rank.
use Rattle.std.proofs.Common.{◌≡◌, ◌<◌, ◌+◌, ◌∙◌, ℕ, suc, List, [], ◌∷◌, Option, Some, None, Bool, true, false, arith, ap, sym, refl, subst, drop, get_or, length, map}
use Rattle.std.specs.Prelude.{cond, option_map, slice_get, unwrap_or}
use Rattle.std.proofs.lemmas.Option.{same_Some, slice_get-get_or, slice_get-map}
use Rattle.std.proofs.lemmas.Simd.{map-map}
use Rattle.base.proofs.Lists.{map_get}
use Rattle.syntax_tree.specs.Plain.{Program, Routine}
use Rattle.machine_semantics.specs.Image.{Image}
use Rattle.image.specs.declared.raw.RawImage.{RawImage}
use Rattle.image.specs.declared.raw.RawMonitor.{RawMonitor}
use Rattle.image.specs.declared.raw.RawProcess.{RawProcess}
use Rattle.image.specs.declared.raw.RawRoutine.{RawRoutine}
use Rattle.image.specs.Raw.{image_of, monitor_of, process_of, routine_of}
use Rattle.valid_image.specs.Tasks.{with_rank, process_at}
use Rattle.code_spec.specs.Layout.{by_monitor}
use Rattle.code_spec.specs.Numbering.{Text, numbered, place_among}
use Rattle.code_spec.specs.Compiled.{owner_number}
use Rattle.code_names.specs.declared.text.RoutineOwner.{RoutineOwner}
use Rattle.code_names.specs.declared.text.RoutineOwner.TheVariants as owner_is
use Rattle.code_names.specs.declared.text.Body.{Body}
use Rattle.code_names.specs.Texts.{is_text, owner_of, text_index, text_of, texts_of}
use Rattle.code_names.specs.Parts.{all_texts}
use Rattle.sched_program.specs.Blockers.{place_in}
use Rattle.code_names.specs.declared.nearest.Reached.{Reached}
use Rattle.code_names.specs.Goals.{calls_at, earliest_of, AreFirstPlaces, IsFirst}
use Rattle.analysis_command.specs.declared.graph.CallGraph.{CallGraph}
use Rattle.analysis_command.specs.Found.{IsFoundOf}
use Rattle.analysis_command.specs.Goals.{low_ceiling, goal_of, is_goal, goal_place, AreGoals}

-- ---- places of texts

place_of_index : (t : Text) (us : List Text) → unwrap_or (text_index t.owner t.routine.name us) (length us) ≡ place_among t us
place_of_index t [] = refl
place_of_index t (u ∷ us) = by_test (place_of_index t us) (is_text t.owner t.routine.name u)
  where
    later : (o : Option ℕ) (n : ℕ) → unwrap_or (option_map (λ k. suc k) o) (suc n) ≡ suc (unwrap_or o n)
    later None n = refl
    later (Some k) n = refl

    by_test : unwrap_or (text_index t.owner t.routine.name us) (length us) ≡ place_among t us → (b : Bool)
        → unwrap_or (cond b (Some 0) (option_map (λ k. suc k) (text_index t.owner t.routine.name us))) (suc (length us)) ≡ cond b 0 (suc (place_among t us))
    by_test rest true = refl
    by_test rest false = later (text_index t.owner t.routine.name us) (length us) ∙ ap (λ k. suc k) rest

pub place_found : (t : Text) (us : List Text) (o : Option ℕ) → o ≡ text_index t.owner t.routine.name us → unwrap_or o (length us) ≡ place_among t us
place_found t us o e = ap (λ x. unwrap_or x (length us)) e ∙ place_of_index t us

pub places_are : (g : Program) (us : List Text) (bs : List Body) → us ≡ all_texts g → texts_of bs ≡ numbered g → map (λ b. place_among (text_of b) us) bs ≡ map (place_in g) (numbered g)
places_are g us bs all order =
    sym (map-map (λ (t : Text). place_among t us) (λ (b : Body). text_of b) bs)
    ∙ (ap (λ (ts : List Text). map (λ (t : Text). place_among t us) ts) order ∙ ap (λ (vs : List Text). map (λ (t : Text). place_among t vs) (numbered g)) all)

-- ---- goals of an image

pub ceiling_there : (image : RawImage) (k held : ℕ) (o : Option RawMonitor) → o ≡ slice_get image.monitors k → low_ceiling (slice_get (image_of image).monitors k) held ≡ low_ceiling (option_map monitor_of o) held
ceiling_there image k held o is = ap (λ x. low_ceiling x held) (slice_get-map monitor_of image.monitors k ∙ ap (λ x. option_map monitor_of x) (sym is))

pub goal_is : (image : RawImage) (places : List ℕ) (held block r : ℕ) (x : RawRoutine) → r < length image.routines → x ≡ get_or image.routines r x
    → goal_place (image_of image) places held block r ≡ cond (goal_of (image_of image) held block (routine_of x)) (Some (get_or places r 0)) None
goal_is image places held block r x low is =
    let there : slice_get (image_of image).routines r ≡ Some (routine_of x) = map_get routine_of image.routines r x (slice_get-get_or image.routines r x low ∙ ap (λ y. Some y) (sym is)) in
    ap (λ o. cond (is_goal (image_of image) held block o) (Some (get_or places r 0)) None) there

-- ---- processes by rank

pub rank_next : (image : RawImage) (ps : List RawProcess) (level p : ℕ) → ps ≡ image.processes → p ≡ with_rank (level + 1) 0 (map process_of ps) → p ≡ process_at (image_of image) level
rank_next image ps level p same is =
    let next : level + 1 ≡ suc level = omega arith in
    is ∙ (ap (λ (qs : List RawProcess). with_rank (level + 1) 0 (map process_of qs)) same ∙ ap (λ (n : ℕ). with_rank n 0 (map process_of image.processes)) next)

-- ---- names of an entry at its place

-- what the list has at the place is that text
pub text_at_place : (g : Program) (bs : List Body) (place : ℕ) (b : Body) (t : Text) → texts_of bs ≡ all_texts g → Some b ≡ slice_get bs place → slice_get (all_texts g) place ≡ Some t → text_of b ≡ t
text_at_place g bs place b t all here stands =
    same_Some (text_of b) t (sym (map_get (λ (x : Body). text_of x) bs place b (sym here)) ∙ (ap (λ (us : List Text). slice_get us place) all ∙ stands))

pub monitor_is : (b : Body) (k m : ℕ) (r : Routine) → text_of b ≡ record { owner = by_monitor m; routine = r } → b.owner ≡ owner_is.Monitor k → k ≡ m
monitor_is b k m r is own = sym (ap (λ (o : RoutineOwner). owner_number (owner_of o)) own) ∙ ap (λ (t : Text). owner_number t.owner) is

-- ---- what is found

pub found_of : (m : Image) (graph : CallGraph) (held block n : ℕ) (goals row gs rs : List (Option ℕ)) (ps ranked lower : List ℕ) (cs ds of : List (List ℕ)) (found : Option Reached) → ps ≡ graph.places.items → AreGoals m ps held block goals
    → gs ≡ goals → cs ≡ graph.calls.items → AreFirstPlaces gs cs (length gs) row → rs ≡ row → ds ≡ graph.calls.items → n ≡ length m.routines → of ≡ drop n ds → ranked ≡ graph.ranked.items → lower ≡ drop held ranked
    → IsFirst (λ k. earliest_of rs (calls_at of k)) lower found → IsFoundOf m graph held block found
found_of m graph held block n goals row gs rs ps ranked lower cs ds of found is_places are_goals is_goals is_calls first is_row is_rest is_many is_of is_ranked is_lower is_first = record {
  goals = goals;
  are_goals = subst (λ (xs : List ℕ). AreGoals m xs held block goals) is_places are_goals;
  row = row;
  are_first = subst (λ (xs : List (Option ℕ)). AreFirstPlaces xs graph.calls.items (length xs) row) is_goals (subst (λ (ys : List (List ℕ)). AreFirstPlaces gs ys (length gs) row) is_calls first);
  is_first = subst (λ (xs : List ℕ). IsFirst (λ k. earliest_of row (calls_at (drop (length m.routines) graph.calls.items) k)) xs found) (is_lower ∙ ap (λ (xs : List ℕ). drop held xs) is_ranked)
      (subst (λ (ys : List (List ℕ)). IsFirst (λ k. earliest_of row (calls_at ys k)) lower found) (is_of ∙ (ap (λ (ys : List (List ℕ)). drop n ys) is_rest ∙ ap (λ (j : ℕ). drop j graph.calls.items) is_many))
      (subst (λ (xs : List (Option ℕ)). IsFirst (λ k. earliest_of xs (calls_at of k)) lower found) is_row is_first));
}
