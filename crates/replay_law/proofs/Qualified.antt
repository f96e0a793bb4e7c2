-- No two conditions have the same name behind that of their monitor.
use Rattle.std.proofs.Common.{◌≡◌, ◌≤◌, ◌<◌, ℕ, zero, suc, inl, inr, List, [], ◌∷◌, ◌++◌, length, map, Some, arith, refl, ap, sym, ◌∙◌}
use Rattle.std.specs.Prelude.{All, filter_map, slice_get}
use Rattle.std.proofs.lemmas.List.Elements.{All-head, All-tail}
use Rattle.syntax_tree.specs.Plain as plain_of
use Rattle.syntax_tree.specs.Plain.{Name}
use Rattle.syntax_tree.specs.Placed.{Monitor, Decl, constant, device, event, routine, monitor, process, plain_decl, plain_member}
use Rattle.syntax_tree.specs.declared.place.Place.{Place}
use Rattle.source_semantics.specs.Names.{condition_in, conditions_of, monitor_in}
use Rattle.text_fields.specs.Fields.{IsWord}
use Rattle.text_fields.proofs.Cuts.{cut_once}
use Rattle.image.specs.declared.names.ImageNames.{ImageNames}
use Rattle.image.specs.declared.names.ConditionName.{ConditionName}
use Rattle.built_image.specs.Named.{named_conditions}
use Rattle.event_log.specs.Line.{condition_name, monitor_name, qualified}
use Rattle.event_log.specs.Logs.{AreWordNames}
use Rattle.event_log.specs.LogReading.{AreDistinct}
use Rattle.event_log.proofs.Names.{word_at}
use Rattle.wellformed_law.proofs.Members.{In}
use Rattle.replay_law.proofs.Differing.{Differing}
use Rattle.built_valid_law.proofs.Counts.{named_in}

-- each has another monitor or another name than those behind it
abbrev pub Apart : List ConditionName → Type 0
Apart [] = Unit {0}
Apart (c ∷ cs) = ((d : ConditionName) → In cs d → c.mon ≡ d.mon → c.name ≡ d.name → ⊥) × Apart cs

in_append : (xs ys : List ConditionName) (c : ConditionName) (P : Type 0) → In (xs ++ ys) c → (In xs c → P) → (In ys c → P) → P
in_append [] ys c P i left right = right i
in_append (x ∷ xs) ys c P (inl e) left right = left (inl e)
in_append (x ∷ xs) ys c P (inr i) left right = in_append xs ys c P i (λ j. left (inr j)) right

-- those of one monitor, and those of monitors from a later one on
here_in : (k : ℕ) (ns : List Name) (c : ConditionName) → In (map (named_in k) ns) c → (c.mon ≡ k) × In ns c.name
here_in k [] c i = absurd i
here_in k (n ∷ ns) c (inl e) = (ap (λ (x : ConditionName). x.mon) (sym e), inl (ap (λ (x : ConditionName). x.name) e))
here_in k (n ∷ ns) c (inr i) = let r = here_in k ns c i in (r.0, inr r.1)

later_in : (k : ℕ) (ms : List plain_of.Monitor) (c : ConditionName) → In (named_conditions k ms) c → k ≤ c.mon
later_in k [] c i = absurd i
later_in k (m ∷ ms) c i =
    in_append (map (named_in k) (conditions_of m)) (named_conditions (suc k) ms) c (k ≤ c.mon) i
    (λ j. let r = here_in k (conditions_of m) c j in let e = r.0 in omega (arith, e))
    (λ j. let r = later_in (suc k) ms c j in omega (arith, r))

apart_append : (k : ℕ) (ns : List Name) (cs : List ConditionName) → Differing ns → Apart cs → ((c : ConditionName) → In cs c → suc k ≤ c.mon) → Apart (map (named_in k) ns ++ cs)
apart_append k [] cs differ apart later = apart
apart_append k (n ∷ ns) cs differ apart later = (
  λ d i at same. in_append (map (named_in k) ns) cs d ⊥ i
      (λ j. differ.0 d.name (here_in k ns d j).1 same)
      (λ j. let low = later d j in absurd (omega (arith, at, low))),
  apart_append k ns cs differ.1 apart later,
)

-- the conditions of the monitors that these declare
pub conditions_apart : (k : ℕ) (ds : List (Decl Place)) → ((m : Monitor Place) → In ds (monitor m) → Differing (filter_map condition_in (map plain_member m.members))) → Apart (named_conditions k (filter_map monitor_in (map plain_decl ds)))
conditions_apart k [] each = tt
conditions_apart k (monitor m ∷ ds) each =
    apart_append k (filter_map condition_in (map plain_member m.members)) (named_conditions (suc k) (filter_map monitor_in (map plain_decl ds))) (each m (inl refl))
    (conditions_apart (suc k) ds (λ n i. each n (inr i))) (λ c i. later_in (suc k) (filter_map monitor_in (map plain_decl ds)) c i)
conditions_apart k (constant n q c ∷ ds) each = conditions_apart k ds (λ m i. each m (inr i))
conditions_apart k (device n q out ∷ ds) each = conditions_apart k ds (λ m i. each m (inr i))
conditions_apart k (event n q ∷ ds) each = conditions_apart k ds (λ m i. each m (inr i))
conditions_apart k (routine r ∷ ds) each = conditions_apart k ds (λ m i. each m (inr i))
conditions_apart k (process p ∷ ds) each = conditions_apart k ds (λ m i. each m (inr i))

-- ---- by their places

-- a condition stands at a place
record StandsAt (names : ImageNames) (cs : List ConditionName) (k : ℕ) : Type 0 where
  one : ConditionName
  is : slice_get cs k ≡ Some one
  within : In cs one
  word : IsWord one.name
  placed : one.mon < length names.monitors

stands_at : (names : ImageNames) (cs : List ConditionName) (k : ℕ) → k < length cs → All (λ (c : ConditionName). IsWord c.name) cs → All (λ (c : ConditionName). c.mon < length names.monitors) cs → StandsAt names cs k
stands_at names [] k low words placed = absurd (omega arith)
stands_at names (c ∷ cs) zero low words placed = record {
  one = c;
  is = refl;
  within = inl refl;
  word = All-head (λ (c : ConditionName). IsWord c.name) c cs words;
  placed = All-head (λ (c : ConditionName). c.mon < length names.monitors) c cs placed;
}
stands_at names (c ∷ cs) (suc k) low words placed =
    let s = stands_at names cs k (omega arith) (All-tail (λ (c : ConditionName). IsWord c.name) c cs words) (All-tail (λ (c : ConditionName). c.mon < length names.monitors) c cs placed) in
    record { one = s.one; is = s.is; within = inr s.within; word = s.word; placed = s.placed }

found_in : (cs : List ConditionName) (k : ℕ) (c : ConditionName) → slice_get cs k ≡ Some c → In cs c
found_in [] k c is = absurd cc
found_in (x ∷ xs) zero c is = let same : x ≡ c = cc in inl same
found_in (x ∷ xs) (suc k) c is = inr (found_in xs k c is)

one_place : (cs : List ConditionName) → Apart cs → (i j : ℕ) (c d : ConditionName) → slice_get cs i ≡ Some c → slice_get cs j ≡ Some d → c.mon ≡ d.mon → c.name ≡ d.name → i ≡ j
one_place [] apart i j c d at there mon name = absurd cc
one_place (x ∷ xs) apart zero zero c d at there mon name = refl
one_place (x ∷ xs) apart zero (suc j) c d at there mon name =
    let e : x ≡ c = cc in
    absurd (apart.0 d (found_in xs j d there) (ap (λ (z : ConditionName). z.mon) e ∙ mon) (ap (λ (z : ConditionName). z.name) e ∙ name))
one_place (x ∷ xs) apart (suc i) zero c d at there mon name =
    let e : x ≡ d = cc in
    absurd (apart.0 c (found_in xs i c at) (ap (λ (z : ConditionName). z.mon) e ∙ sym mon) (ap (λ (z : ConditionName). z.name) e ∙ sym name))
one_place (x ∷ xs) apart (suc i) (suc j) c d at there mon name = ap (λ n. suc n) (one_place xs apart.1 i j c d at there mon name)

pub conditions_distinct : (names : ImageNames) → AreWordNames names → AreDistinct (length names.monitors) (monitor_name names) → Apart names.conditions → AreDistinct (length names.conditions) (condition_name names)
conditions_distinct names words monitors apart i j low below e =
    let a = stands_at names names.conditions i low words.conditions words.placed in
    let b = stands_at names names.conditions j below words.conditions words.placed in
    let one : condition_name names i ≡ monitor_name names a.one.mon ++ 32 ∷ a.one.name = ap (qualified names) a.is in
    let two : condition_name names j ≡ monitor_name names b.one.mon ++ 32 ∷ b.one.name = ap (qualified names) b.is in
    let first = word_at names.monitors a.one.mon a.placed words.monitors in
    let second = word_at names.monitors b.one.mon b.placed words.monitors in
    let cut = cut_once 32 (monitor_name names a.one.mon) a.one.name (monitor_name names b.one.mon) b.one.name first.no_space second.no_space (sym one ∙ (e ∙ two)) in
    one_place names.conditions apart i j a.one b.one a.is b.is (monitors a.one.mon b.one.mon a.placed b.placed cut.0) cut.1
