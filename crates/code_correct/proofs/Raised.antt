-- Where a process stands after a raise, and at the start of its body.
use Rattle.std.specs.Prelude.{◌≡◌, ◌+◌, ◌<◌, ◌&&◌, nat_le, ℕ, zero, suc, Bool, true, false, not, cond, List, [], ◌∷◌, Option, Some, None, ℤ, pos, length, nat_eq, map, slice_get}
use Rattle.std.proofs.Common.{refl, sym, ◌∙◌, ap, subst, arith}
use Rattle.syntax_tree.specs.Plain.{Constant, Stmts, Handler, Program}
use Rattle.source_semantics.specs.Names.{count_value, routine_count}
use Rattle.source_semantics.specs.Store.{Vars, fresh}
use Rattle.source_semantics.specs.Next.{next_from}
use Rattle.source_semantics.specs.Config.{idle, active, Job}
use Rattle.source_semantics.specs.Source.{call_of, job_after_raise, lists_constant as lists_of}
use Rattle.machine_isa.specs.declared.instr.Instr.TheVariants as i
use Rattle.machine_semantics.specs.Trees.{size, Nil}
use Rattle.machine_semantics.specs.Image.{end_of, size_some}
use Rattle.machine_semantics.specs.State.{zeros, own_locals}
use Rattle.machine_semantics.specs.Starts.{released, raised, lists}
use Rattle.machine_semantics.specs.Effect.{Own}
use Rattle.code_spec.specs.Layout.{loops, handler_loops, process_places, words_of, places_from, vars_of_process}
use Rattle.code_spec.specs.Emits.{At, EmitsAll}
use Rattle.code_spec.specs.Segments.{stmts_segs}
use Rattle.code_spec.specs.Compiled.{process_scope, EmitsHandler, inserted, ascending}
use Rattle.code_spec.specs.Steps.{Runs, arrived}
use Rattle.code_spec.specs.Memory.{Order, Setting, Holds, Room, FitsOthers}
use Rattle.code_spec.specs.Proper.{ProperAll}
use Rattle.code_spec.specs.Stands.{point, there}
use Rattle.code_spec.specs.Comes.{NextComes}
use Rattle.code_correct.proofs.Frames.{vars_hold}
use Rattle.code_correct.proofs.Layouts.{all_laid}
use Rattle.code_correct.proofs.Next.{next_comes, at_frame}
use Rattle.code_spec.specs.Boundary.{Compiled, view, view_raised, view_released}
use Rattle.code_correct.specs.Process.{setting_of, ProperHandler, IsEmitted, HasHandler, StandsFor}
use Rattle.code_correct.proofs.Sizes.{stmts_size}
use Rattle.code_measures.proofs.Sizes.{alike}

lists_same : (g : Program) (n : ℕ) (cs : List Constant) → lists (map (λ k. count_value g k) cs) n ≡ lists_of g n cs
lists_same g n [] = refl
lists_same g n (k ∷ cs) = ap (λ b. cond (nat_eq (count_value g k) n) true b) (lists_same g n cs)

-- the order of numbers does not matter
lists_inserted : (k n : ℕ) (ns : List ℕ) → lists (inserted k ns) n ≡ lists (k ∷ ns) n
lists_inserted k n [] = refl
lists_inserted k n (m ∷ ns) = by_case (nat_le k m) (lists_inserted k n ns)
  where
    turned : (a b c : Bool) → cond a true (cond b true c) ≡ cond b true (cond a true c)
    turned true true c = refl
    turned true false c = refl
    turned false true c = refl
    turned false false c = refl

    by_case : (b : Bool) → lists (inserted k ns) n ≡ lists (k ∷ ns) n → lists (cond b (k ∷ m ∷ ns) (m ∷ inserted k ns)) n ≡ lists (k ∷ m ∷ ns) n
    by_case true h = refl
    by_case false h = ap (λ b. cond (nat_eq m n) true b) h ∙ turned (nat_eq m n) (nat_eq k n) (lists ns n)

lists_ascending : (n : ℕ) (ns : List ℕ) → lists (ascending ns) n ≡ lists ns n
lists_ascending n [] = refl
lists_ascending n (k ∷ ns) = lists_inserted k n (ascending ns) ∙ ap (λ b. cond (nat_eq k n) true b) (lists_ascending n ns)

and_turned : (a b : Bool) → a && b ≡ b && a
and_turned true true = refl
and_turned true false = refl
and_turned false true = refl
and_turned false false = refl

module _ (c : Compiled) (order : Order) (is : IsEmitted c order) where
  -- a process at the start of a part of its own text
  part_runs : (o : Own) (ss : Stmts) (word p q : ℕ) (locals owned shared : List ℤ) (vars : Vars) → o.job.inside ≡ None → EmitsAll c.program c.image.code (process_scope c.program c.number c.text) word p q ss → At c.image.code q i.End
      → Room (process_scope c.program c.number c.text) word (loops ss) → ProperAll (setting_of c order) (process_scope c.program c.number c.text) (routine_count c.program) ss → length locals ≡ c.process.locals
      → FitsOthers (setting_of c order) o.job.inside owned shared vars []
      → Runs c.image (λ b. NextComes (setting_of c order) o (next_from c.program c.text (call_of ss ∷ []) None vars []) (next_from c.program c.text (call_of ss ∷ []) None vars []).action b)
      (at_frame o None (record { back = p; locals = locals; operands = [] }) [] owned shared)
  part_runs o ss word p q locals owned shared vars out emits end room proper size others =
      let e : Setting = setting_of c order in
      next_comes (setting_of c order) is.code (all_laid (setting_of c order)) o [] (call_of ss) None (record { back = p; locals = locals; operands = [] }) []
      (point (process_scope c.program c.number c.text) [] o.job.inside false q []) vars [] owned shared
      (record {
        scope = process_scope c.program c.number c.text;
        fixed = [];
        home = refl;
        acts = refl;
        fits = record { holds = tt; size = size ∙ is.emits.locals; kept = tt };
        stands = (
          q,
          record {
            start = p;
            word = word;
            level = routine_count c.program;
            onward = there;
            emits = emits;
            room = room;
            counter = tt;
            low = omega arith;
            proper = proper;
            may_run = (refl, λ acts. out);
          },
          tt,
          (q, there, refl),
        );
      })
      (record { gives = refl; outside = out; operands = refl; here = end }) size others (λ r. r)

  body_room : Room (process_scope c.program c.number c.text) 0 (loops c.text.body)
  body_room = record { apart = tt; below = tt; room = omega arith }

  -- the body of a process that is released
  pub released_stands : (owned shared : List ℤ) (vars : Vars) → FitsOthers (setting_of c order) None owned shared vars []
      → StandsFor c order (record { job = released c.image c.process; owned = owned; shared = shared }) (view_released c.text vars)
  released_stands owned shared vars others = record {
    handling = refl;
    handled = λ h. absurd (not_true h);
    leads = part_runs (record { job = released c.image c.process; owned = owned; shared = shared }) c.text.body 0 c.process.start is.emits.behind (zeros c.process.locals) owned shared vars refl
        (subst (λ p. EmitsAll c.program c.image.code (process_scope c.program c.number c.text) 0 p is.emits.behind c.text.body) (sym is.emits.start) is.emits.body) is.emits.end body_room is.body (length_zeros c.process.locals) others;
  }
    where
      not_true : false ≡ true → ⊥
      not_true h = cc

      length_zeros : (n : ℕ) → length (zeros n) ≡ n
      length_zeros zero = refl
      length_zeros (suc n) = ap (λ k. suc k) (length_zeros n)

  -- ---- the END of a part

  body_end : At c.image.code (end_of c.process false) i.End
  body_end =
      let sizes : is.emits.behind + size Nil ≡ is.start + size (stmts_segs c.program (process_scope c.program c.number c.text) c.text.body Nil) =
      stmts_size (setting_of c order) c.text.body (process_scope c.program c.number c.text) (process_scope c.program c.number c.text) (routine_count c.program) 0 is.start is.emits.behind Nil c.image.code
      (alike c.program (process_scope c.program c.number c.text)) is.emits.body is.body in
      let tree : size c.process.body ≡ size (stmts_segs c.program (process_scope c.program c.number c.text) c.text.body Nil) = ap (λ t. size t) is.emits.tree in
      let start : c.process.start ≡ is.start = is.emits.start in
      let place : is.emits.behind ≡ c.process.start + size c.process.body = omega arith in
      subst (λ p. At c.image.code p i.End) place is.emits.end

  handler_end : (h : Option Handler) → c.text.handler ≡ h → HasHandler h → At c.image.code (end_of c.process true) i.End
  handler_end None e has = absurd has
  handler_end (Some h) e has =
      let emits : EmitsHandler c.program c.image.code c.number c.text (Some h) (is.emits.behind + 1) is.next c.process = subst (λ t. EmitsHandler c.program c.image.code c.number c.text t (is.emits.behind + 1) is.next c.process) e is.emits.handler in
      let proper : ProperAll (setting_of c order) (process_scope c.program c.number c.text) (routine_count c.program) h.body = subst (λ t. ProperHandler (setting_of c order) t) e is.handler in
      let sizes : emits.0 + size Nil ≡ is.emits.behind + 1 + size (stmts_segs c.program (process_scope c.program c.number c.text) h.body Nil) =
      stmts_size (setting_of c order) h.body (process_scope c.program c.number c.text) (process_scope c.program c.number c.text) (routine_count c.program) (loops c.text.body) (is.emits.behind + 1) emits.0 Nil c.image.code
      (alike c.program (process_scope c.program c.number c.text)) emits.1 proper in
      let tree : size_some c.process.handler_tree ≡ size (stmts_segs c.program (process_scope c.program c.number c.text) h.body Nil) = ap (λ t. size_some t) emits.5 in
      let start : c.process.handler ≡ is.emits.behind + 1 = emits.3 in
      let place : emits.0 ≡ c.process.handler + size_some c.process.handler_tree = omega arith in
      subst (λ p. At c.image.code p i.End) place emits.2.has.0

  part_end : (b : Bool) → (b ≡ true → HasHandler c.text.handler) → At c.image.code (end_of c.process b) i.End
  part_end false has = body_end
  part_end true has = handler_end c.text.handler refl (has refl)

  -- ---- raises

  -- the process before the end alone
  ends_stands : (o : Own) (owned shared : List ℤ) (vars : Vars) (p : ℕ) (handling : Bool) → At c.image.code p i.End → o.job.handling ≡ handling → (handling ≡ true → HasHandler c.text.handler) → o.job.inside ≡ None → o.job.place ≡ p → FitsOthers (setting_of c order) None o.owned o.shared vars []
      → StandsFor c order o (view [] vars [] handling)
  ends_stands o owned shared vars p handling end same has out place others = record {
    handling = same;
    handled = has;
    leads = arrived (record { here = subst (λ t. At c.image.code t i.End) (sym place) end; inside = out; outside = out; others = subst (λ t. FitsOthers (setting_of c order) t o.owned o.shared vars []) (sym out) others });
  }

  handler_room : (h : Handler) → c.text.handler ≡ Some h → Room (process_scope c.program c.number c.text) (loops c.text.body) (loops h.body)
  handler_room h e = let more : handler_loops c.text.handler ≡ loops h.body = ap (λ t. handler_loops t) e in record { apart = tt; below = tt; room = omega arith }

  -- after a raise
  pub raised_stands : (o : Own) (number : ℕ) (vars : Vars) (handling : Bool) → o.job.handling ≡ handling → (handling ≡ true → HasHandler c.text.handler) → length (own_locals o.job.locals o.job.callers) ≡ c.process.locals
      → FitsOthers (setting_of c order) None o.owned o.shared vars []
      → StandsFor c order (record { job = raised c.process number o.job; owned = o.owned; shared = o.shared }) (view_raised c.program c.text number vars handling)
  raised_stands o number vars handling same has size others =
      subst (λ h. StandsFor c order (record { job = raised c.process number (record (o.job) { handling = h }); owned = o.owned; shared = o.shared }) (view_raised c.program c.text number vars handling)) (sym same)
      (by_handler c.text.handler refl handling has)
    where
      -- the handler is not started
      not_started : (hand : Bool) → (hand ≡ true → HasHandler c.text.handler) → (b : Bool) → not hand && lists c.process.numbers number ≡ b → b ≡ false
          → StandsFor c order (record { job = raised c.process number (record (o.job) { handling = hand }); owned = o.owned; shared = o.shared }) (view [] vars [] hand)
      not_started hand has b handled not_handled =
          let none : not hand && lists c.process.numbers number ≡ false = handled ∙ not_handled in
          ends_stands (record { job = raised c.process number (record (o.job) { handling = hand }); owned = o.owned; shared = o.shared }) o.owned o.shared vars (end_of c.process hand) hand (part_end hand has)
          (ap (λ t. cond t true hand) none) has refl (ap (λ t. cond t c.process.handler (end_of c.process hand)) none) others

      started : (h : Handler) → c.text.handler ≡ Some h → (hand : Bool) → not hand && lists c.process.numbers number ≡ true
          → StandsFor c order (record { job = raised c.process number (record (o.job) { handling = hand }); owned = o.owned; shared = o.shared }) (view (call_of h.body ∷ []) vars [] true)
      started h e hand handled =
          let emits : EmitsHandler c.program c.image.code c.number c.text (Some h) (is.emits.behind + 1) is.next c.process = subst (λ t. EmitsHandler c.program c.image.code c.number c.text t (is.emits.behind + 1) is.next c.process) e is.emits.handler in
          let proper : ProperAll (setting_of c order) (process_scope c.program c.number c.text) (routine_count c.program) h.body = subst (λ t. ProperHandler (setting_of c order) t) e is.handler in
          let o2 : Own = record { job = record (o.job) { place = c.process.handler; done = 0; locals = own_locals o.job.locals o.job.callers; operands = []; callers = []; handling = true; inside = None }; owned = o.owned; shared = o.shared } in
          subst (λ t. StandsFor c order
          (record { job = record (o.job) { place = cond t c.process.handler (end_of c.process hand); done = 0; locals = own_locals o.job.locals o.job.callers; operands = []; callers = []; handling = cond t true hand; inside = None }; owned = o.owned; shared = o.shared })
          (view (call_of h.body ∷ []) vars [] true)) (sym handled)
          (record {
            handling = refl;
            handled = λ t. subst (λ y. HasHandler y) (sym e) tt;
            leads = part_runs (record { job = record (o.job) { place = c.process.handler; done = 0; locals = own_locals o.job.locals o.job.callers; operands = []; callers = []; handling = true; inside = None }; owned = o.owned; shared = o.shared })
                h.body (loops c.text.body) c.process.handler emits.0 (own_locals o.job.locals o.job.callers) o.owned o.shared vars refl
                (subst (λ p. EmitsAll c.program c.image.code (process_scope c.program c.number c.text) (loops c.text.body) p emits.0 h.body) (sym emits.3) emits.1) emits.2.has.0 (handler_room h e) proper size others;
          })

      by_handler : (h : Option Handler) → c.text.handler ≡ h → (hand : Bool) → (hand ≡ true → HasHandler c.text.handler)
          → StandsFor c order (record { job = raised c.process number (record (o.job) { handling = hand }); owned = o.owned; shared = o.shared }) (view_raised c.program c.text number vars hand)
      by_handler None e hand has =
          let emits : EmitsHandler c.program c.image.code c.number c.text None (is.emits.behind + 1) is.next c.process = subst (λ t. EmitsHandler c.program c.image.code c.number c.text t (is.emits.behind + 1) is.next c.process) e is.emits.handler in
          subst (λ t. StandsFor c order (record { job = raised c.process number (record (o.job) { handling = hand }); owned = o.owned; shared = o.shared })
          (view (job_after_raise c.program number t (record { vars = vars; doing = idle; calls = []; handling = hand })).calls vars [] (job_after_raise c.program number t (record { vars = vars; doing = idle; calls = []; handling = hand })).handling)) (sym e)
          (not_started hand has false (ap (λ ns. not hand && lists ns number) emits.2 ∙ and_turned (not hand) false) refl)
      by_handler (Some h) e hand has =
          let emits : EmitsHandler c.program c.image.code c.number c.text (Some h) (is.emits.behind + 1) is.next c.process = subst (λ t. EmitsHandler c.program c.image.code c.number c.text t (is.emits.behind + 1) is.next c.process) e is.emits.handler in
          let listed : not hand && lists c.process.numbers number ≡ lists_of c.program number h.numbers && not hand =
          ap (λ ns. not hand && lists ns number) emits.4 ∙ (ap (λ b. not hand && b) (lists_ascending number (map (λ k. count_value c.program k) h.numbers) ∙ lists_same c.program number h.numbers) ∙ and_turned (not hand) (lists_of c.program number h.numbers)) in
          subst (λ t. StandsFor c order (record { job = raised c.process number (record (o.job) { handling = hand }); owned = o.owned; shared = o.shared })
          (view (job_after_raise c.program number t (record { vars = vars; doing = idle; calls = []; handling = hand })).calls vars [] (job_after_raise c.program number t (record { vars = vars; doing = idle; calls = []; handling = hand })).handling)) (sym e)
          (by_case (lists_of c.program number h.numbers && not hand) listed)
        where
          by_case : (b : Bool) → not hand && lists c.process.numbers number ≡ b
              → StandsFor c order (record { job = raised c.process number (record (o.job) { handling = hand }); owned = o.owned; shared = o.shared })
              (view (cond {A = Job} b (record { vars = vars; doing = active 0; calls = call_of h.body ∷ []; handling = true }) (record { vars = vars; doing = active 0; calls = []; handling = hand })).calls vars []
              (cond {A = Job} b (record { vars = vars; doing = active 0; calls = call_of h.body ∷ []; handling = true }) (record { vars = vars; doing = active 0; calls = []; handling = hand })).handling)
          by_case true handled = started h e hand handled
          by_case false handled = not_started hand has false handled refl

  -- the words of a process as they start
  pub begins_rests : Holds (λ k. Unit {0}) (zeros c.process.words) (process_places c.program c.number) (map (fresh c.program) c.text.vars)
  begins_rests =
      subst (λ t. Holds (λ k. Unit {0}) (zeros c.process.words) (places_from c.program 0 (vars_of_process t)) (map (fresh c.program) c.text.vars)) (sym is.text_is)
      (vars_hold c.program (zeros c.process.words) 0 c.text.vars (λ k lt. zero_at c.process.words (0 + k) (let n : c.process.words ≡ words_of c.program c.text.vars = is.emits.words in omega arith)))
    where
      zero_at : (n k : ℕ) → k < n → slice_get (zeros n) k ≡ Some (pos 0)
      zero_at zero k lt = absurd (omega arith)
      zero_at (suc n) zero lt = refl
      zero_at (suc n) (suc k) lt = zero_at n k (omega arith)
