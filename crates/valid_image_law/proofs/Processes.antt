-- The processes of a valid image fit their trees.
use Rattle.std.proofs.Common.{◌≡◌, ◌≤◌, ◌<◌, ◌+◌, ℕ, List, [], Option, Some, None, arith, refl, ap, sym, subst, true}
use Rattle.std.specs.Prelude.{min, slice_get}
use Rattle.machine_isa.specs.declared.instr.Instr.{Instr}
use Rattle.machine_isa.specs.declared.instr.Instr.TheVariants as i
use Rattle.machine_semantics.specs.Trees.{Segs, size}
use Rattle.machine_semantics.specs.Image.{Image, Routine, Process, size_some}
use Rattle.machine_semantics.specs.Starts.{lists}
use Rattle.machine_semantics.specs.Part.{Part}
use Rattle.machine_semantics.specs.Walk.{Where, WalkCost, Walks, At}
use Rattle.machine_semantics.specs.Safe.{Parts, IsOwn, ProcessFits, ImageFits}
use Rattle.valid_image_law.specs.Rules.{AllMayStand, with_leave}
use Rattle.valid_image_law.proofs.Tests.{passed}
use Rattle.valid_image_law.proofs.Walks.{segs_walk}
use Rattle.valid_image.specs.Found.{Found, founds, ended, is_end}
use Rattle.valid_image.specs.Pieces.{piece_of_process, handler_length, belongs, piece_number}
use Rattle.valid_image.specs.Operands.{whose_process, words_of_process, own_words, operand_fault}
use Rattle.valid_image.specs.Shape.{shape_fault, handler_fault}
use Rattle.valid_image.specs.Sizes.{depth_of, cost_fault, size_fault}
use Rattle.valid_image.specs.Tables.{known, part_found, body_found, handler_start, handler_found, nothing_found, found_or_nothing, stay_of_process}
use Rattle.valid_image.specs.Valid.{HasOwner, HasHandler}
use Rattle.valid_image_law.proofs.Owners.{owned}
use Rattle.valid_image_law.proofs.Shapes.{piece_process, follow, ProcessShaped, process_shaped}
use Rattle.valid_image_law.proofs.Standing.{Suits}
use Rattle.valid_image_law.proofs.Exact.{ended_is, part_same}
use Rattle.valid_image_law.proofs.Quiet.{IsQuiet, part_quiet}
use Rattle.valid_image_law.proofs.Reaching.{process_calls}
use Rattle.valid_image_law.proofs.Rows.{exact, alike, quiet}
use Rattle.valid_image_law.proofs.Parts.{limit_by, no_part, where_in, own_part, Reaching}
use Rattle.valid_image_law.proofs.Passing.{process_operands, stack_fits, bases_fit, handler_stands}
use Rattle.valid_image_law.proofs.FitsLemmas.{own_base, all_may, all_known, routine_fits}

-- ---- the parts of a process

-- what the code comes to, with exact costs
abbrev pub exact_body : Image → Process → Found
exact_body image p = found_or_nothing (part_found image.code (exact image) p.body p.start)

abbrev pub exact_handler : Image → Process → Option Segs → Found
exact_handler image p None = nothing_found
exact_handler image p (Some tree) = found_or_nothing (part_found image.code (exact image) tree (handler_start p))

abbrev pub parts_of : Image → ℕ → Process → Parts
parts_of image k p = record {
  body = own_part image p (exact_body image p).depth (stay_of_process image k);
  handler = own_part image p (exact_handler image p p.handler_tree).depth (stay_of_process image k);
  body_cost = with_leave (exact_body image p).cost;
  handler_cost = with_leave (exact_handler image p p.handler_tree).cost;
}

abbrev pub no_process : Parts
no_process = record { body = no_part; handler = no_part; body_cost = with_leave nothing_found.cost; handler_cost = with_leave nothing_found.cost }

abbrev pub parts_some : Image → ℕ → Option Process → Parts
parts_some image k None = no_process
parts_some image k (Some p) = parts_of image k p

abbrev pub parts_in : Image → ℕ → Parts
parts_in image k = parts_some image k (slice_get image.processes k)

end_is : (x : Option Instr) → is_end x ≡ true → x ≡ Some i.End
end_is (Some i.End) is = refl
end_is _ is = absurd cc

-- a part of a process, with its cost, over the code of a tree
record Owns (e : Where) (p : Process) (tree : Segs) (at : ℕ) (part : Part) (c : WalkCost) : Type 0 where
  own : IsOwn p part
  code : Walks (record e { part = part }) None None 0 tree at (at + size tree) 0 0 c
  ends : At e (at + size tree) i.End

record Handles (e : Where) (p : Process) (x : Option Segs) (part : Part) (c : WalkCost) : Type 0 where
  own : IsOwn p part
  handles : (number : ℕ) → lists p.numbers number ≡ true → (tree : Segs) × Walks (record e { part = part }) None None 0 tree p.handler (p.handler + size_some x) 0 0 c × At e (p.handler + size_some x) i.End
  no_susp : c.susp ≡ 0
  no_waits : c.waits ≡ 0

module _ (image : Image) (operands : operand_fault image ≡ None) (shaped : shape_fault image ≡ None) (handlers : handler_fault image ≡ None) (costs : cost_fault image ≡ None) (sizes : size_fault image ≡ None)
    (owners : (r : ℕ) (x : Routine) → slice_get image.routines r ≡ Some x → HasOwner image x) where
  own_fits : (k : ℕ) (p : Process) → slice_get image.processes k ≡ Some p → (tree : Segs) (place : ℕ) (f : Found) → part_found image.code (known image) tree place ≡ Some f
      → p.start ≤ place → place + size tree ≤ p.start + (size p.body + 1 + handler_length p.handler_tree) → limit_by image (stay_of_process image k) ≤ p.rank → p.locals + f.depth ≤ p.stack
      → Owns (where_in image no_part) p tree place (own_part image p (found_or_nothing (part_found image.code (exact image) tree place)).depth (stay_of_process image k)) (with_leave (found_or_nothing (part_found image.code (exact image) tree place)).cost)
  own_fits k p at tree place f is from to rank stack =
      let s = part_same image.code (known image) (exact image) (alike image shaped costs) tree place f is in
      let g_is : s.g ≡ found_or_nothing (part_found image.code (exact image) tree place) = sym (ap (λ o. found_or_nothing o) s.is) in
      let stays = stay_of_process image k in
      let part = own_part image p s.g.depth stays in
      let w = whose_process image k p in
      let n = size tree in
      let q = passed (is_end (slice_get image.code (place + n))) (ended 0 (founds image.code (exact image) None None tree place 0)) s.g s.is in
      let d = ended_is 0 (founds image.code (exact image) None None tree place 0) s.g q.1 in
      let words : p.words ≡ (own_words image w).words = sym (ap (λ o. (words_of_process o).words) at) in
      let suits : Suits (where_in image part) w = record { locals = refl; owned = words; base = own_base image w; monitor = refl } in
      let reaching : Reaching image part w stays = record { owned = words; limit = omega arith; stays = λ m. omega arith } in
      let own : (a : ℕ) → place ≤ a → a < place + n → belongs image (piece_number image k) a ≡ true =
      λ a low high. owned image (piece_number image k) a (piece_of_process p) (follow image shaped) (piece_process image k p at) (omega (arith, low, from)) (omega (arith, high, to)) in
      let may : AllMayStand (where_in image part) place (place + n) =
      all_may image part w (piece_number image k) place n stays suits reaching own (process_operands image operands k p at) (λ q m low inside. process_calls image k q m inside) (λ q low inside bound outside. refl) (λ m is. absurd cc) in
      subst (λ (f : Found). Owns (where_in image no_part) p tree place (own_part image p f.depth stays) (with_leave f.cost)) g_is (record {
        own = record { last = refl; results = refl; monitor = refl; locals = refl; owned = refl; limit = rank; stack = omega (arith, stack, s.depth) };
        code =
            subst (λ (h : ℕ). Walks (where_in image part) None None 0 tree place (place + n) 0 h (with_leave s.g.cost)) d.1
            (segs_walk (where_in image part) (exact image) None None 0 tree place 0 place (place + n) (place + n) s.g (all_known image operands shaped costs sizes owners part) refl may (omega arith) (omega arith) refl d.0 (omega arith));
        ends = end_is (slice_get image.code (place + n)) q.0;
      })

  handler_fits : (k : ℕ) (p : Process) → slice_get image.processes k ≡ Some p → (x : Option Segs) → p.handler_tree ≡ x → HasHandler p x → (f : Found) → handler_found image p x ≡ Some f
      → limit_by image (stay_of_process image k) ≤ p.rank → p.locals + f.depth ≤ p.stack
      → Handles (where_in image no_part) p x (own_part image p (exact_handler image p x).depth (stay_of_process image k)) (with_leave (exact_handler image p x).cost)
  handler_fits k p at None tree_is has f is rank stack = record {
    own = record { last = refl; results = refl; monitor = refl; locals = refl; owned = refl; limit = rank; stack = omega (arith, stack) };
    handles = λ number listed. absurd (let a : lists [] number ≡ true = subst (λ (ns : List ℕ). lists ns number ≡ true) has listed in cc);
    no_susp = refl;
    no_waits = refl;
  }
  handler_fits k p at (Some tree) tree_is has f is rank stack =
      let h = handler_stands image handlers k p at tree tree_is in
      let inside : handler_start p + size tree ≤ p.start + (size p.body + 1 + handler_length p.handler_tree) = (let l : handler_length p.handler_tree ≡ size tree + 1 = ap (λ o. handler_length o) tree_is in omega (arith, l)) in
      let o = own_fits k p at tree (handler_start p) f is (omega arith) inside rank stack in
      let s = part_same image.code (known image) (exact image) (alike image shaped costs) tree (handler_start p) f is in
      let g_is : s.g ≡ found_or_nothing (part_found image.code (exact image) tree (handler_start p)) = sym (ap (λ o. found_or_nothing o) s.is) in
      let still : IsQuiet s.g = part_quiet image.code _ (exact image) (quiet image shaped costs) tree (handler_start p) s.g h.silent s.is in
      let still_exact : IsQuiet (exact_handler image p (Some tree)) = subst IsQuiet g_is still in
      let e = where_in image no_part in
      let part = own_part image p (exact_handler image p (Some tree)).depth (stay_of_process image k) in
      let c = with_leave (exact_handler image p (Some tree)).cost in
      record {
        own = o.own;
        handles = λ number listed. (tree, subst (λ (n : ℕ). Walks (record e { part = part }) None None 0 tree n (n + size tree) 0 0 c) (sym h.place) o.code, subst (λ (n : ℕ). At e (n + size tree) i.End) (sym h.place) o.ends);
        no_susp = still_exact.0;
        no_waits = still_exact.1;
      }

  -- the depths of a process are within its stack
  depths_fit : (k : ℕ) (p : Process) → slice_get image.processes k ≡ Some p → p.stack ≤ 4096 → (s : ProcessShaped image k p) → (p.locals + s.f.depth ≤ p.stack) × (p.locals + s.g.depth ≤ p.stack)
  depths_fit k p at low s =
      let fits : p.locals + min (depth_of image p) 4097 ≤ p.stack = stack_fits image sizes k p at in
      let f_is : (found_or_nothing (body_found image p)).depth ≡ s.f.depth = ap (λ o. (found_or_nothing o).depth) s.body in
      let g_is : (found_or_nothing (handler_found image p p.handler_tree)).depth ≡ s.g.depth = ap (λ o. (found_or_nothing o).depth) s.handler in
      (omega (arith, fits, f_is, g_is, low), omega (arith, fits, f_is, g_is, low))

  pub process_fits : (k : ℕ) (p : Process) → slice_get image.processes k ≡ Some p → p.stack ≤ 4096 → HasHandler p p.handler_tree → limit_by image (stay_of_process image k) ≤ p.rank → ProcessFits (where_in image no_part) p (parts_in image k)
  process_fits k p at low has rank =
      let parts_are : parts_of image k p ≡ parts_in image k = sym (ap (λ o. parts_some image k o) at) in
      let s = process_shaped image shaped k p at in
      let d = depths_fit k p at low s in
      let b = own_fits k p at p.body p.start s.f s.body (omega arith) (omega arith) rank d.0 in
      let h = handler_fits k p at p.handler_tree refl has s.g s.handler rank d.1 in
      subst (λ (ps : Parts). ProcessFits (where_in image no_part) p ps) parts_are (record {
        body = b.own;
        code = b.code;
        ends = b.ends;
        handler = h.own;
        handles = λ number listed. (let g = h.handles number listed in (g.0, record { code = g.1; ends = g.2 }));
        no_susp = h.no_susp;
        no_waits = h.no_waits;
      })

  pub image_fits : ((k : ℕ) (p : Process) → slice_get image.processes k ≡ Some p → (p.stack ≤ 4096) × HasHandler p p.handler_tree × (limit_by image (stay_of_process image k) ≤ p.rank)) → ImageFits (where_in image no_part) (parts_in image)
  image_fits each = record {
    routines = λ r x at. routine_fits image operands shaped costs sizes owners r x at;
    bases = λ m monitor at. bases_fit image sizes m monitor at;
    processes = λ k p at. (let c = each k p at in process_fits k p at c.0 c.1 c.2);
  }
