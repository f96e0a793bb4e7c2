-- Which parts there are, and which of them fail.
use Rattle.std.proofs.Common.{◌≡◌, ◌+◌, ◌⊎◌, ℕ, zero, suc, List, [], ◌∷◌, ◌++◌, Some, length, map, refl, ap, sym, subst, ◌∙◌, inl, inr, arith}
use Rattle.std.proofs.lemmas.List.{map-append}
use Rattle.std.proofs.lemmas.List.Elements.{Contains-append_left, Contains-append_right, Contains-append_cases}
use Rattle.std.specs.Prelude.{Contains, filter_map, slice_get}
use Rattle.std.proofs.lemmas.Option.{same_Some, none-some}
use Rattle.base.proofs.Members.{at_front, behind as later, none_in, front_or_behind}
use Rattle.syntax_tree.specs.Placed.{Routine, Process, Decl, constant, device, event, routine, monitor, process, plain_routine, plain_decl, plain_process}
use Rattle.syntax_tree.specs.Parts.{processes}
use Rattle.syntax_tree.specs.Plain as plain_of
use Rattle.syntax_tree.specs.declared.place.Place.{Place}
use Rattle.static_rule.specs.Parts.{FailsAmong}
use Rattle.source_semantics.specs.Names.{process_in}
use Rattle.code_spec.specs.Layout.{Owner, by_program, by_process, by_monitor}
use Rattle.code_spec.specs.Numbering as numbering
use Rattle.code_cost.specs.declared.program.Measures.{Measures}
use Rattle.code_cost.specs.Rules.{PlacedText, placed_texts_of, placed_texts_from}
use Rattle.code_cost.specs.Told.{plain_text, routine_over, process_over, Part, stack_rules, routine_parts, parts_from}

-- ---- members

-- a list as long has one there too
pub as_long : {X Y : Type 0} (xs : List X) (ys : List Y) (k : ℕ) (y : Y) → length xs ≡ length ys → slice_get ys k ≡ Some y → (x : X) × (slice_get xs k ≡ Some x)
as_long xs [] k y e h = absurd (none-some y h)
as_long [] (z ∷ ys) k y e h = absurd (omega arith)
as_long (x ∷ xs) (z ∷ ys) zero y e h = (x, refl)
as_long (x ∷ xs) (z ∷ ys) (suc k) y e h = as_long xs ys k y (omega arith) h

-- ---- the plain tree has the same texts and processes

plain_texts_of : (o : Owner) (rs : List (Routine Place)) → numbering.texts_of o (map plain_routine rs) ≡ map plain_text (placed_texts_of o rs)
plain_texts_of o [] = refl
plain_texts_of o (r ∷ rs) = ap (λ ts. plain_text (record { owner = o; routine = r }) ∷ ts) (plain_texts_of o rs)

joined : (o : Owner) (rs : List (Routine Place)) (us : List numbering.Text) (ts : List PlacedText) → us ≡ map plain_text ts
    → numbering.texts_of o (map plain_routine rs) ++ us ≡ map plain_text (placed_texts_of o rs ++ ts)
joined o rs us ts e = ap (λ l. l ++ us) (plain_texts_of o rs) ∙ ap (λ l. map plain_text (placed_texts_of o rs) ++ l) e ∙ sym (map-append plain_text (placed_texts_of o rs) ts)

pub plain_texts : (k m : ℕ) (ds : List (Decl Place)) → numbering.texts_from k m (map plain_decl ds) ≡ map plain_text (placed_texts_from k m ds)
plain_texts k m [] = refl
plain_texts k m (constant n p c ∷ ds) = plain_texts k m ds
plain_texts k m (device n p o ∷ ds) = plain_texts k m ds
plain_texts k m (event n p ∷ ds) = plain_texts k m ds
plain_texts k m (routine r ∷ ds) = ap (λ ts. plain_text (record { owner = by_program; routine = r }) ∷ ts) (plain_texts k m ds)
plain_texts k m (monitor d ∷ ds) = joined (by_monitor m) d.entries (numbering.texts_from k (suc m) (map plain_decl ds)) (placed_texts_from k (suc m) ds) (plain_texts k (suc m) ds)
plain_texts k m (process p ∷ ds) = joined (by_process k) p.routines (numbering.texts_from (suc k) m (map plain_decl ds)) (placed_texts_from (suc k) m ds) (plain_texts (suc k) m ds)

pub plain_process_at : (ds : List (Decl Place)) (k : ℕ) (p : Process Place) → slice_get (processes ds) k ≡ Some p → slice_get (filter_map process_in (map plain_decl ds)) k ≡ Some (plain_process p)
plain_process_at [] k p e = absurd (none-some p e)
plain_process_at (constant n q c ∷ ds) k p e = plain_process_at ds k p e
plain_process_at (device n q o ∷ ds) k p e = plain_process_at ds k p e
plain_process_at (event n q ∷ ds) k p e = plain_process_at ds k p e
plain_process_at (routine r ∷ ds) k p e = plain_process_at ds k p e
plain_process_at (monitor d ∷ ds) k p e = plain_process_at ds k p e
plain_process_at (process q ∷ ds) zero p e = ap (λ x. Some (plain_process x)) (same_Some q p e)
plain_process_at (process q ∷ ds) (suc k) p e = plain_process_at ds k p e

-- ---- parts that fail

-- a routine or an entry among the texts fails at the place
pub record RoutineOver (g : plain_of.Program) (s : Measures) (ts : List PlacedText) (p : Place) : Type 0 where
  pub text : PlacedText
  pub listed : Contains ts text
  pub fails : routine_over g s text ≡ Some p

-- a process fails at the place, the processes from number k on
pub record ProcessOver (s : Measures) (k : ℕ) (ps : List (Process Place)) (p : Place) : Type 0 where
  pub number : ℕ
  pub text : Process Place
  pub listed : slice_get ps number ≡ Some text
  pub fails : process_over s (k + number) text ≡ Some p

module _ (g : plain_of.Program) (s : Measures) (p : Place) where
  before : (ts us : List PlacedText) → RoutineOver g s ts p → RoutineOver g s (ts ++ us) p
  before ts us r = record { text = r.text; listed = Contains-append_left ts us r.text r.listed; fails = r.fails }

  behind : (ts us : List PlacedText) → RoutineOver g s us p → RoutineOver g s (ts ++ us) p
  behind ts us r = record { text = r.text; listed = Contains-append_right ts us r.text r.listed; fails = r.fails }

  one_more : (t : PlacedText) (ts : List PlacedText) → RoutineOver g s ts p → RoutineOver g s (t ∷ ts) p
  one_more t ts r = record { text = r.text; listed = later t ts r.text r.listed; fails = r.fails }

  next : (k : ℕ) (q : Process Place) (ps : List (Process Place)) → ProcessOver s (suc k) ps p → ProcessOver s k (q ∷ ps) p
  next k q ps r =
      let e : suc k + r.number ≡ k + suc r.number = omega arith in
      record { number = suc r.number; text = r.text; listed = r.listed; fails = subst (λ x. process_over s x r.text ≡ Some p) e r.fails }

  -- what fails among parts is among the texts or the processes
  found_routines : (o : Owner) (rs : List (Routine Place)) (more : List Part) (n : ℕ) → FailsAmong (stack_rules g s) (routine_parts o rs more) n p
      → ((47 ≡ n) × RoutineOver g s (placed_texts_of o rs) p) ⊎ FailsAmong (stack_rules g s) more n p
  found_routines o [] more n f = inr f
  found_routines o (r ∷ rs) more n (inl (inl f)) = inl (f.0, record { text = record { owner = o; routine = r }; listed = at_front (record { owner = o; routine = r }) (placed_texts_of o rs); fails = f.1 })
  found_routines o (r ∷ rs) more n (inl (inr z)) = absurd z
  found_routines o (r ∷ rs) more n (inr f) = by (found_routines o rs more n f)
    where
      by : ((47 ≡ n) × RoutineOver g s (placed_texts_of o rs) p) ⊎ FailsAmong (stack_rules g s) more n p → ((47 ≡ n) × RoutineOver g s (placed_texts_of o (r ∷ rs)) p) ⊎ FailsAmong (stack_rules g s) more n p
      by (inl h) = inl (h.0, one_more (record { owner = o; routine = r }) (placed_texts_of o rs) h.1)
      by (inr h) = inr h

  abbrev pub OneOver : ℕ → List PlacedText → List (Process Place) → Type 0
  OneOver k ts ps = RoutineOver g s ts p ⊎ ProcessOver s k ps p

  routines_too : (k : ℕ) (ts us : List PlacedText) (ps : List (Process Place)) → OneOver k us ps → OneOver k (ts ++ us) ps
  routines_too k ts us ps (inl r) = inl (behind ts us r)
  routines_too k ts us ps (inr q) = inr q

  process_too : (k : ℕ) (ts us : List PlacedText) (q : Process Place) (ps : List (Process Place)) → OneOver (suc k) us ps → OneOver k (ts ++ us) (q ∷ ps)
  process_too k ts us q ps (inl r) = inl (behind ts us r)
  process_too k ts us q ps (inr r) = inr (next k q ps r)

  pub found : (k m : ℕ) (ds : List (Decl Place)) (n : ℕ) → FailsAmong (stack_rules g s) (parts_from k m ds) n p → (47 ≡ n) × OneOver k (placed_texts_from k m ds) (processes ds)
  found k m [] n f = absurd f
  found k m (constant x q c ∷ ds) n f = found k m ds n f
  found k m (device x q o ∷ ds) n f = found k m ds n f
  found k m (event x q ∷ ds) n f = found k m ds n f
  found k m (routine r ∷ ds) n (inl (inl f)) = (f.0, inl (record { text = record { owner = by_program; routine = r }; listed = at_front (record { owner = by_program; routine = r }) (placed_texts_from k m ds); fails = f.1 }))
  found k m (routine r ∷ ds) n (inl (inr z)) = absurd z
  found k m (routine r ∷ ds) n (inr f) = by (found k m ds n f)
    where
      by : (47 ≡ n) × OneOver k (placed_texts_from k m ds) (processes ds) → (47 ≡ n) × OneOver k (placed_texts_from k m (routine r ∷ ds)) (processes ds)
      by (e, inl h) = (e, inl (one_more (record { owner = by_program; routine = r }) (placed_texts_from k m ds) h))
      by (e, inr h) = (e, inr h)
  found k m (monitor d ∷ ds) n f = by (λ h. found k (suc m) ds n h) (found_routines (by_monitor m) d.entries (parts_from k (suc m) ds) n f)
    where
      by : (FailsAmong (stack_rules g s) (parts_from k (suc m) ds) n p → (47 ≡ n) × OneOver k (placed_texts_from k (suc m) ds) (processes ds)) → ((47 ≡ n) × RoutineOver g s (placed_texts_of (by_monitor m) d.entries) p) ⊎ FailsAmong (stack_rules g s) (parts_from k (suc m) ds) n p → (47 ≡ n) × OneOver k (placed_texts_from k m (monitor d ∷ ds)) (processes ds)
      by more (inl h) = (h.0, inl (before (placed_texts_of (by_monitor m) d.entries) (placed_texts_from k (suc m) ds) h.1))
      by more (inr h) = let rest = more h in (rest.0, routines_too k (placed_texts_of (by_monitor m) d.entries) (placed_texts_from k (suc m) ds) (processes ds) rest.1)
  found k m (process q ∷ ds) n (inl (inl f)) =
      let e : k ≡ k + 0 = omega arith in
      (f.0, inr (record { number = 0; text = q; listed = refl; fails = subst (λ x. process_over s x q ≡ Some p) e f.1 }))
  found k m (process q ∷ ds) n (inl (inr z)) = absurd z
  found k m (process q ∷ ds) n (inr f) = by (λ h. found (suc k) m ds n h) (found_routines (by_process k) q.routines (parts_from (suc k) m ds) n f)
    where
      by : (FailsAmong (stack_rules g s) (parts_from (suc k) m ds) n p → (47 ≡ n) × OneOver (suc k) (placed_texts_from (suc k) m ds) (processes ds)) → ((47 ≡ n) × RoutineOver g s (placed_texts_of (by_process k) q.routines) p) ⊎ FailsAmong (stack_rules g s) (parts_from (suc k) m ds) n p → (47 ≡ n) × OneOver k (placed_texts_from k m (process q ∷ ds)) (q ∷ processes ds)
      by more (inl h) = (h.0, inl (before (placed_texts_of (by_process k) q.routines) (placed_texts_from (suc k) m ds) h.1))
      by more (inr h) = let rest = more h in (rest.0, process_too k (placed_texts_of (by_process k) q.routines) (placed_texts_from (suc k) m ds) q (processes ds) rest.1)

  -- and the other way about
  fails_more : (o : Owner) (rs : List (Routine Place)) (more : List Part) → FailsAmong (stack_rules g s) more 47 p → FailsAmong (stack_rules g s) (routine_parts o rs more) 47 p
  fails_more o [] more f = f
  fails_more o (r ∷ rs) more f = inr (fails_more o rs more f)

  fails_routine : (o : Owner) (rs : List (Routine Place)) (more : List Part) (t : PlacedText) → Contains (placed_texts_of o rs) t → routine_over g s t ≡ Some p → FailsAmong (stack_rules g s) (routine_parts o rs more) 47 p
  fails_routine o [] more t c f = absurd (none_in t c)
  fails_routine o (r ∷ rs) more t c f = by (λ h. fails_routine o rs more t h f) (front_or_behind (record { owner = o; routine = r }) (placed_texts_of o rs) t c)
    where
      by : (Contains (placed_texts_of o rs) t → FailsAmong (stack_rules g s) (routine_parts o rs more) 47 p) → (record { owner = o; routine = r } ≡ t) ⊎ Contains (placed_texts_of o rs) t → FailsAmong (stack_rules g s) (routine_parts o (r ∷ rs) more) 47 p
      by rest (inl e) = inl (inl (refl, subst (λ x. routine_over g s x ≡ Some p) (sym e) f))
      by rest (inr h) = inr (rest h)

  pub text_fails : (k m : ℕ) (ds : List (Decl Place)) (t : PlacedText) → Contains (placed_texts_from k m ds) t → routine_over g s t ≡ Some p → FailsAmong (stack_rules g s) (parts_from k m ds) 47 p
  text_fails k m [] t c f = absurd (none_in t c)
  text_fails k m (constant x q v ∷ ds) t c f = text_fails k m ds t c f
  text_fails k m (device x q o ∷ ds) t c f = text_fails k m ds t c f
  text_fails k m (event x q ∷ ds) t c f = text_fails k m ds t c f
  text_fails k m (routine r ∷ ds) t c f = by (λ h. text_fails k m ds t h f) (front_or_behind (record { owner = by_program; routine = r }) (placed_texts_from k m ds) t c)
    where
      by : (Contains (placed_texts_from k m ds) t → FailsAmong (stack_rules g s) (parts_from k m ds) 47 p) → (record { owner = by_program; routine = r } ≡ t) ⊎ Contains (placed_texts_from k m ds) t → FailsAmong (stack_rules g s) (parts_from k m (routine r ∷ ds)) 47 p
      by rest (inl e) = inl (inl (refl, subst (λ x. routine_over g s x ≡ Some p) (sym e) f))
      by rest (inr h) = inr (rest h)
  text_fails k m (monitor d ∷ ds) t c f = by (λ h. text_fails k (suc m) ds t h f) (Contains-append_cases (placed_texts_of (by_monitor m) d.entries) (placed_texts_from k (suc m) ds) t c)
    where
      by : (Contains (placed_texts_from k (suc m) ds) t → FailsAmong (stack_rules g s) (parts_from k (suc m) ds) 47 p) → Contains (placed_texts_of (by_monitor m) d.entries) t ⊎ Contains (placed_texts_from k (suc m) ds) t → FailsAmong (stack_rules g s) (parts_from k m (monitor d ∷ ds)) 47 p
      by rest (inl h) = fails_routine (by_monitor m) d.entries (parts_from k (suc m) ds) t h f
      by rest (inr h) = fails_more (by_monitor m) d.entries (parts_from k (suc m) ds) (rest h)
  text_fails k m (process q ∷ ds) t c f = inr (by (λ h. text_fails (suc k) m ds t h f) (Contains-append_cases (placed_texts_of (by_process k) q.routines) (placed_texts_from (suc k) m ds) t c))
    where
      by : (Contains (placed_texts_from (suc k) m ds) t → FailsAmong (stack_rules g s) (parts_from (suc k) m ds) 47 p) → Contains (placed_texts_of (by_process k) q.routines) t ⊎ Contains (placed_texts_from (suc k) m ds) t → FailsAmong (stack_rules g s) (routine_parts (by_process k) q.routines (parts_from (suc k) m ds)) 47 p
      by rest (inl h) = fails_routine (by_process k) q.routines (parts_from (suc k) m ds) t h f
      by rest (inr h) = fails_more (by_process k) q.routines (parts_from (suc k) m ds) (rest h)

  pub process_fails : (k m : ℕ) (ds : List (Decl Place)) (j : ℕ) (q : Process Place) → slice_get (processes ds) j ≡ Some q → process_over s (k + j) q ≡ Some p → FailsAmong (stack_rules g s) (parts_from k m ds) 47 p
  process_fails k m [] j q e f = absurd (none-some q e)
  process_fails k m (constant x a v ∷ ds) j q e f = process_fails k m ds j q e f
  process_fails k m (device x a o ∷ ds) j q e f = process_fails k m ds j q e f
  process_fails k m (event x a ∷ ds) j q e f = process_fails k m ds j q e f
  process_fails k m (routine r ∷ ds) j q e f = inr (process_fails k m ds j q e f)
  process_fails k m (monitor d ∷ ds) j q e f = fails_more (by_monitor m) d.entries (parts_from k (suc m) ds) (process_fails k (suc m) ds j q e f)
  process_fails k m (process r ∷ ds) zero q e f =
      let number : k + 0 ≡ k = omega arith in
      inl (inl (refl, subst (λ x. process_over s k x ≡ Some p) (sym (same_Some r q e)) (subst (λ x. process_over s x q ≡ Some p) number f)))
  process_fails k m (process r ∷ ds) (suc j) q e f =
      let number : k + suc j ≡ suc k + j = omega arith in
      inr (fails_more (by_process k) r.routines (parts_from (suc k) m ds) (process_fails (suc k) m ds j q e (subst (λ x. process_over s x q ≡ Some p) number f)))
